-- The newest record of a log, from what was found sector by sector.
use Rattle.std.proofs.Common.{◌≡◌, ℕ, ◌+◌, ◌*◌, ◌<◌, ◌≤◌, true, ◌==◌, ◌&&◌, ◌||◌, nat_lt, Option, None, List, length, sym, ap, subst, ◌∙◌, arith, inl, inr}
use Rattle.std.proofs.lemmas.Bool.{cases_lt, or_left, or_right, and_from, lt-ltb, eq-eqb}
use Rattle.disk_base.specs.Image.{bytes_at}
use Rattle.block_claims.specs.Agreement.{block}
use Rattle.xfs_super.specs.declared.geometry.Super.{Super}
use Rattle.xfs_super.specs.Super.{geometry_of}
use Rattle.xfs_log.specs.declared.finding.Newest.{Newest}
use Rattle.xfs_log.specs.Log.{log_first, log_sector, is_record_header, record_cycle, BeginsRecord, IsNewestRecord}
use Rattle.xfs_log.specs.inside.Finding.{sector_of_log, IsNewestBelow, FindsNewest}
use Rattle.xfs_log.proofs.Sectors.{AreAt, sector_of_block, log_fits}

-- one more block of the log of a volume
pub found_more : (s : Super) (image now : List ℕ) (size at : ℕ) (out : List ℕ) (best best' : Option Newest)
    → length image ≡ 512 * size → 8 * s.dblocks ≤ size → at < s.logblocks → now ≡ image → out ≡ block now (log_first (geometry_of s) + at)
    → ((sectors : ℕ → List ℕ) → ((k : ℕ) → k < 8 → sectors (8 * at + k) ≡ bytes_at out (512 * k) 512) → FindsNewest sectors (8 * at) best → FindsNewest sectors (8 * (at + 1)) best')
    → FindsNewest (sector_of_log (geometry_of s) image) (8 * at) best → FindsNewest (sector_of_log (geometry_of s) image) (8 * (at + 1)) best'
found_more s image now size at out best best' long room lt same is step found =
    let fits = log_fits s image size long room in
    let is_here : out ≡ block image (log_first (geometry_of s) + at) = is ∙ ap (λ (i : List ℕ). block i (log_first (geometry_of s) + at)) same in
    step (sector_of_log (geometry_of s) image) (λ k small. sector_of_block image out (log_first (geometry_of s)) at k is_here small (omega (arith, fits, lt))) found

older : (a b j k : ℕ) → a ≤ b → (j ≡ k → ⊥) → (k < j → a < b) → (nat_lt a b || (a == b && nat_lt j k)) ≡ true
older a b j k le ne later =
    elim (cases_lt a b) [
      | inl lt ↦ or_left (nat_lt a b) (a == b && nat_lt j k) (lt-ltb a b lt)
      | inr ge ↦ elim (cases_lt j k) [
        | inl before ↦ or_right (nat_lt a b) (a == b && nat_lt j k) (and_from (a == b) (nat_lt j k) (eq-eqb a b (omega (arith, le, ge))) (lt-ltb j k before))
        | inr behind ↦ absurd (omega (arith, ge, behind, ne, later))
      ]
    ]

module _ (sectors : List (List ℕ)) (n : ℕ) (at : ℕ → List ℕ) (are : AreAt sectors n at) where
  header_there : (k : ℕ) → BeginsRecord sectors k → (k < n) × (is_record_header (at k) ≡ true)
  header_there k begins =
      let lt : k < n = omega (arith, begins.there, are.long) in
      (lt, subst (λ (s : List ℕ). is_record_header s ≡ true) (are.same k lt) begins.header)

  -- none begins a record
  pub none_begins : FindsNewest at n None → (k : ℕ) → BeginsRecord sectors k → ⊥
  none_begins found k begins = let h = header_there k begins in found k h.0 h.1

  -- it is the newest
  pub newest_is : (best : Newest) → IsNewestBelow at n best → IsNewestRecord sectors best.place
  newest_is best found = record {
    begins = record {
      there = omega (arith, found.there, are.long);
      header = subst (λ (s : List ℕ). is_record_header s ≡ true) (sym (are.same best.place found.there)) found.header;
    };
    newest = λ j begins ne.
        let h = header_there j begins in
        let mine : best.cycle ≡ record_cycle (log_sector sectors best.place) = found.cycle ∙ ap record_cycle (sym (are.same best.place found.there)) in
        let its : record_cycle (log_sector sectors j) ≡ record_cycle (at j) = ap record_cycle (are.same j h.0) in
        older (record_cycle (log_sector sectors j)) (record_cycle (log_sector sectors best.place)) j best.place
        (omega (arith, found.greatest j h.0 h.1, mine, its)) ne (λ behind. omega (arith, found.latest j behind h.0 h.1, mine, its));
  }
