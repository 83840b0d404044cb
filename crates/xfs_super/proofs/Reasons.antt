-- What is sound, and the reasons that speak against what isn't.
use Rattle.std.proofs.Common.{◌≡◌, ℕ, Bool, true, ◌&&◌, List, refl}
use Rattle.std.proofs.lemmas.Bool.{both_ways, true_from_ne_false, false_from_ne_true, and_parts}
use Rattle.xfs_super.specs.Superblock.{superblock_in, SpeaksAgainst, IsSuperblock, IsDeclined, IsAccepted, is_laid_out, has_sizes, fits_volume, has_places}
use Rattle.xfs_super.specs.Headers.{SpeaksAgainstHeader, PassesAsHeader}
use Rattle.xfs_super.specs.declared.superblock.Superblock.{Superblock}
use Rattle.xfs_super.specs.declared.reason.Reason.{Reason}
use Rattle.xfs_super.specs.declared.reason.Reason.TheVariants.{Geometry, Feature, Reflink, ReverseMap, RealTime, ExternalLog, NeedsRepair, InProgress, Checksum, Header}
use Rattle.xfs_super.proofs.Laid.{sizes_from_test}

served_speaks : (s : Superblock) → IsAccepted s → (reason : Reason) → IsDeclined s reason → ⊥
served_speaks s sound Feature h = both_ways _ h sound.features
served_speaks s sound Reflink h = both_ways _ sound.reflink h
served_speaks s sound ReverseMap h = both_ways _ sound.reverse_map h
served_speaks s sound RealTime h = both_ways _ h sound.real_time
served_speaks s sound ExternalLog h = both_ways _ sound.external_log h
served_speaks s sound NeedsRepair h = both_ways _ sound.needs_repair h
served_speaks s sound InProgress h = both_ways _ h sound.in_progress
served_speaks s sound _ h = h

pub superblock_speaks : (sectors : ℕ) (bytes : List ℕ) → IsSuperblock sectors bytes → (reason : Reason) → SpeaksAgainst sectors bytes reason → ⊥
superblock_speaks sectors bytes sound Geometry h = both_ways _ h sound.geometry
superblock_speaks sectors bytes sound (Checksum sector) h = both_ways _ h.2 sound.checksum
superblock_speaks sectors bytes sound (Header sector) h = both_ways _ h.1 sound.magic
superblock_speaks sectors bytes sound reason h = served_speaks (superblock_in bytes) sound.served reason h

served_left : (s : Superblock) → ((reason : Reason) → IsDeclined s reason → ⊥) → IsAccepted s
served_left s none = record {
  features = true_from_ne_false _ (none Feature);
  reflink = false_from_ne_true _ (none Reflink);
  reverse_map = false_from_ne_true _ (none ReverseMap);
  real_time = true_from_ne_false _ (none RealTime);
  external_log = false_from_ne_true _ (none ExternalLog);
  needs_repair = false_from_ne_true _ (none NeedsRepair);
  in_progress = true_from_ne_false _ (none InProgress);
}

-- the reasons of `IsDeclined` are reasons
unserved_is : (sectors : ℕ) (bytes : List ℕ) (reason : Reason) → IsDeclined (superblock_in bytes) reason → SpeaksAgainst sectors bytes reason
unserved_is sectors bytes Geometry h = absurd h
unserved_is sectors bytes (Checksum sector) h = absurd h
unserved_is sectors bytes (Header sector) h = absurd h
unserved_is sectors bytes reason h = h

pub superblock_left : (sectors : ℕ) (bytes : List ℕ) → ((reason : Reason) → SpeaksAgainst sectors bytes reason → ⊥) → IsSuperblock sectors bytes
superblock_left sectors bytes none =
    let s : Superblock = superblock_in bytes in
    let laid : is_laid_out sectors s ≡ true = true_from_ne_false _ (none Geometry) in
    let sized : has_sizes s ≡ true = (and_parts (has_sizes s) (fits_volume sectors s) (and_parts (has_sizes s && fits_volume sectors s) (has_places s) laid).0).0 in
    record {
      magic = true_from_ne_false _ (λ h. none (Header 0) (refl, h));
      geometry = laid;
      served = served_left s (λ reason h. none reason (unserved_is sectors bytes reason h));
      checksum = true_from_ne_false _ (λ h. none (Checksum 0) (refl, (sizes_from_test s sized).sector, h));
    }

pub header_speaks : (sector at : ℕ) (passes : Bool) (bytes : List ℕ) → PassesAsHeader at passes bytes → (reason : Reason) → SpeaksAgainstHeader sector at passes bytes reason → ⊥
header_speaks sector at passes bytes sound (Checksum named) h = both_ways _ h.1 sound.checksum
header_speaks sector at passes bytes sound (Header named) h = both_ways _ h.1 sound.test
header_speaks sector at passes bytes sound _ h = h

pub header_left : (sector at : ℕ) (passes : Bool) (bytes : List ℕ) → ((reason : Reason) → SpeaksAgainstHeader sector at passes bytes reason → ⊥) → PassesAsHeader at passes bytes
header_left sector at passes bytes none = record {
  checksum = true_from_ne_false _ (λ h. none (Checksum sector) (refl, h));
  test = true_from_ne_false _ (λ h. none (Header sector) (refl, h));
}
