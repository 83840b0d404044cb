-- What changes of a join where the disk changes.
use Rattle.std.proofs.Common.{arith, ◌≡◌, ℕ, ◌*◌, ◌/◌, ◌%◌, ◌<◌, List, ap, sym, subst, ◌∙◌, length, slice_index, inl, inr, All}
use Rattle.std.proofs.lemmas.Bool.{cases_lt}
use Rattle.std.proofs.lemmas.List.{get_or_past}
use Rattle.disk_base.specs.Image.{sector}
use Rattle.disk_base.specs.Run.{IsWithin}
use Rattle.disk_base.specs.declared.run.Run.{Run}
use Rattle.disk_base.proofs.Images.{byte_of_range}
use Rattle.block_claims.specs.Agreement.{times_in, DiffersIn}
use Rattle.disk_view.specs.Join.{joined_runs, total, place}
use Rattle.disk_view.specs.inside.Lengths.{whole_join}
use Rattle.disk_view.proofs.Places.{sector_of_join}

byte_of_sector : (image : List ℕ) (i : ℕ) → slice_index (sector image (i / 512)) (i % 512) ≡ slice_index image i
byte_of_sector image i = byte_of_range image (512 * (i / 512)) 512 (i % 512) i (omega arith) (omega arith)

pub differs_in_free : (size : ℕ) (runs : List Run) (image other free : List ℕ) → length image ≡ 512 * size → length other ≡ length image → All (IsWithin size) runs
    → ((k : ℕ) → k < total runs → times_in (k / 8) free ≡ 0 → sector other (place runs k) ≡ sector image (place runs k)) → DiffersIn free (joined_runs image runs) (joined_runs other runs)
differs_in_free size runs image other free long same on agree =
    let old = whole_join image size runs long on in
    let new = whole_join other size runs (same ∙ long) on in
    record {
      same_length = new ∙ sym old;
      same = λ i none.
          let k : ℕ = i / 512 in
          let block_is : i / 4096 ≡ i / 512 / 8 = omega arith in
          elim (cases_lt (i / 512) (total runs)) [
            | inl inside ↦
                let outside : times_in (i / 512 / 8) free ≡ 0 = subst (λ (n : ℕ). times_in n free ≡ 0) block_is none in
                let there : sector (joined_runs other runs) (i / 512) ≡ sector (joined_runs image runs) (i / 512) =
                sector_of_join other size runs (i / 512) (same ∙ long) on inside ∙ agree (i / 512) inside outside ∙ sym (sector_of_join image size runs (i / 512) long on inside) in
                sym (byte_of_sector (joined_runs other runs) i) ∙ ap (λ (s : List ℕ). slice_index s (i % 512)) there ∙ byte_of_sector (joined_runs image runs) i
            | inr behind ↦ get_or_past (joined_runs other runs) i 0 (omega (arith, new, behind)) ∙ sym (get_or_past (joined_runs image runs) i 0 (omega (arith, old, behind)))
          ];
    }
