-- The record of an unmount, from what was seen of its header and of each of its other sectors.
use Rattle.std.proofs.Common.{◌≡◌, ℕ, ◌+◌, ◌%◌, ◌<◌, ◌≤◌, Bool, true, false, ◌==◌, ◌&&◌, ◌||◌, not, nat_lt, nat_le, cond, List, slice_index, sym, ap, subst, ◌∙◌, arith, inl, inr, mod-lt}
use Rattle.std.specs.Int.{bit_at, div_ceil}
use Rattle.std.proofs.lemmas.Bool.{cases_eq, and_parts, and_from, or_left, or_right, or_cases, ltb-true, leb-true, eqb-true, eq-eqb, ne_eqb, lt-ltb, le-leb, not-true, not_from_false, both_ways, cond_both}
use Rattle.disk_base.specs.Fields.{big_at}
use Rattle.xfs_log.specs.declared.unmount.Unmount.{Unmount}
use Rattle.xfs_log.specs.Log.{log_sector, record_cycle, operations, header_sectors, data_sectors, record_sectors, record_sector, due_cycle, IsWholeUnmount}
use Rattle.xfs_log.specs.inside.Judging.{fits_unmount, IsUnmountIn, has_due, HaveDue}
use Rattle.xfs_log.proofs.Sectors.{AreAt}

-- one more sector
pub due_more : (sectors : ℕ → List ℕ) (u : Unmount) (n : ℕ) (s : List ℕ) → s ≡ sectors ((u.place + n) % u.room) → has_due u n s ≡ true → HaveDue sectors u n → HaveDue sectors u (n + 1)
due_more sectors u n s is due below j some lt =
    elim (cases_eq j n) [
      | inl same ↦ subst (λ (i : ℕ). has_due u i (sectors ((u.place + i) % u.room)) ≡ true) (sym same) (subst (λ (x : List ℕ). has_due u n x ≡ true) is due)
      | inr other ↦ below j some (omega (arith, lt, other))
    ]

-- the cycle with which a sector begins
abbrev begun : ℕ → ℕ → ℕ → ℕ
begun place room cycle = cond (nat_lt place room) cycle (cycle + 1)

due_parts : (u : Unmount) (j : ℕ) (s : List ℕ) → has_due u j s ≡ true → (big_at 4 s 0 ≡ begun (u.place + j) u.room u.cycle) × (j ≡ u.header → bit_at (slice_index s 9) 5 ≡ 1)
due_parts u j s h =
    let p = and_parts (big_at 4 s 0 == begun (u.place + j) u.room u.cycle) (not (j == u.header) || bit_at (slice_index s 9) 5 == 1) h in (
      eqb-true (big_at 4 s 0) (begun (u.place + j) u.room u.cycle) p.0,
      λ same. elim (or_cases (not (j == u.header)) (bit_at (slice_index s 9) 5 == 1) p.1) [
        | inl other ↦ absurd (both_ways (j == u.header) (not-true (j == u.header) other) (eq-eqb j u.header same))
        | inr set ↦ eqb-true (bit_at (slice_index s 9) 5) 1 set
      ],
    )

due_from : (u : Unmount) (j : ℕ) (s : List ℕ) → big_at 4 s 0 ≡ begun (u.place + j) u.room u.cycle → (j ≡ u.header → bit_at (slice_index s 9) 5 ≡ 1) → has_due u j s ≡ true
due_from u j s begins flag =
    and_from (big_at 4 s 0 == begun (u.place + j) u.room u.cycle) (not (j == u.header) || bit_at (slice_index s 9) 5 == 1) (eq-eqb (big_at 4 s 0) (begun (u.place + j) u.room u.cycle) begins)
    (elim (cases_eq j u.header) [
      | inl same ↦ or_right (not (j == u.header)) (bit_at (slice_index s 9) 5 == 1) (eq-eqb (bit_at (slice_index s 9) 5) 1 (flag same))
      | inr other ↦ or_left (not (j == u.header)) (bit_at (slice_index s 9) 5 == 1) (not_from_false (j == u.header) (ne_eqb j u.header other))
    ])

-- there is a sector of a header
header_some : (size : ℕ) (b : Bool) → (b ≡ true → 32768 < size) → 1 ≤ cond b (div_ceil size 32768) 1
header_some size b big = cond_both b (div_ceil size 32768) 1 (λ x. 1 ≤ x) (λ t. omega (arith, big t)) (λ f. omega arith)

header_least : (s : List ℕ) → 1 ≤ header_sectors s
header_least s =
    header_some (big_at 4 s 320) (big_at 4 s 8 == 2 && nat_lt 32768 (big_at 4 s 320)) (λ t. ltb-true 32768 (big_at 4 s 320) (and_parts (big_at 4 s 8 == 2) (nat_lt 32768 (big_at 4 s 320)) t).1)

record Fits (s : List ℕ) (room : ℕ) : Type 0 where
  pub room_is : record_sectors s ≤ room
  pub some : 0 < data_sectors s
  pub one : operations s ≡ 1

fits_parts : (s : List ℕ) (room : ℕ) → fits_unmount s room ≡ true → Fits s room
fits_parts s room h =
    let p = and_parts (nat_le (record_sectors s) room && nat_lt 0 (data_sectors s)) (operations s == 1) h in
    let q = and_parts (nat_le (record_sectors s) room) (nat_lt 0 (data_sectors s)) p.0 in
    record { room_is = leb-true (record_sectors s) room q.0; some = ltb-true 0 (data_sectors s) q.1; one = eqb-true (operations s) 1 p.1 }

fits_from : (s : List ℕ) (room : ℕ) → record_sectors s ≤ room → 1 ≤ data_sectors s → operations s ≡ 1 → fits_unmount s room ≡ true
fits_from s room room_is some one =
    and_from (nat_le (record_sectors s) room && nat_lt 0 (data_sectors s)) (operations s == 1)
    (and_from (nat_le (record_sectors s) room) (nat_lt 0 (data_sectors s)) (le-leb (record_sectors s) room room_is) (lt-ltb 0 (data_sectors s) (omega (arith, some))))
    (eq-eqb (operations s) 1 one)

module _ (sectors : List (List ℕ)) (n : ℕ) (at : ℕ → List ℕ) (are : AreAt sectors n at) (k : ℕ) (inside : k < n) (s : List ℕ) (is : s ≡ at k) where
  its : s ≡ log_sector sectors k
  its = is ∙ sym (are.same k inside)

  -- its numbers are none of an unmount
  pub no_unmount : fits_unmount s n ≡ false → IsWholeUnmount sectors k → ⊥
  no_unmount unfit whole =
      both_ways (fits_unmount s n) unfit
      (subst (λ (x : List ℕ). fits_unmount x n ≡ true) (sym its) (fits_from (log_sector sectors k) n (omega (arith, whole.room, are.long)) whole.some whole.one))

  module _ (u : Unmount) (read : IsUnmountIn s k n u) where
    there : (j : ℕ) → record_sector sectors k j ≡ at ((u.place + j) % u.room)
    there j =
        ap (λ (m : ℕ). log_sector sectors ((k + j) % m)) are.long
        ∙ are.same ((k + j) % n) (mod-lt (k + j) (omega (arith, inside)))
        ∙ ap (λ (m : ℕ). at ((m + j) % n)) (sym read.place_is)
        ∙ ap (λ (m : ℕ). at ((u.place + j) % m)) (sym read.room_is)

    cycle_there : u.cycle ≡ record_cycle (log_sector sectors k)
    cycle_there = read.cycle_is ∙ ap record_cycle its

    cycle_due : (j : ℕ) → due_cycle sectors k j ≡ begun (u.place + j) u.room u.cycle
    cycle_due j =
        ap (λ (m : ℕ). begun (k + j) m (record_cycle (log_sector sectors k))) (are.long ∙ sym read.room_is)
        ∙ ap (λ (m : ℕ). begun (m + j) u.room (record_cycle (log_sector sectors k))) (sym read.place_is)
        ∙ ap (λ (m : ℕ). begun (u.place + j) u.room m) (sym cycle_there)

    header_there : u.header ≡ header_sectors (log_sector sectors k)
    header_there = read.header_is ∙ ap header_sectors its

    sectors_there : u.sectors ≡ record_sectors (log_sector sectors k)
    sectors_there = read.sectors_are ∙ ap record_sectors its

    pub whole_is : HaveDue at u u.sectors → IsWholeUnmount sectors k
    whole_is due =
        let fits = fits_parts (log_sector sectors k) n (subst (λ (x : List ℕ). fits_unmount x n ≡ true) its read.fits) in
        let h : ℕ = header_sectors (log_sector sectors k) in
        let least : 1 ≤ h = header_least (log_sector sectors k) in
        let behind : h < u.sectors = omega (arith, fits.some, sectors_there) in
        record {
          room = omega (arith, fits.room_is, are.long);
          some = fits.some;
          one = fits.one;
          unmount = ap (λ (x : List ℕ). bit_at (slice_index x 9) 5) (there h) ∙ (due_parts u h (at ((u.place + h) % u.room)) (due h least behind)).1 (sym header_there);
          whole = λ j some lt.
              ap (λ (x : List ℕ). big_at 4 x 0) (there j) ∙ (due_parts u j (at ((u.place + j) % u.room)) (due j some (omega (arith, lt, sectors_there)))).0 ∙ sym (cycle_due j);
        }

    pub whole_due : IsWholeUnmount sectors k → HaveDue at u u.sectors
    whole_due whole j some lt =
        due_from u j (at ((u.place + j) % u.room))
        (ap (λ (x : List ℕ). big_at 4 x 0) (sym (there j)) ∙ whole.whole j some (omega (arith, lt, sectors_there)) ∙ cycle_due j)
        (λ same. ap (λ (x : List ℕ). bit_at (slice_index x 9) 5) (sym (there j)) ∙ ap (λ (m : ℕ). bit_at (slice_index (record_sector sectors k m) 9) 5) (same ∙ header_there) ∙ whole.unmount)
