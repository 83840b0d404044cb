-- The laws of the kinds of records.
use Rattle.std.specs.Prelude.{◌≡◌, ℕ, ◌+◌, ◌*◌, ◌/◌, ◌%◌, ◌<◌, ◌≤◌, ◌^◌, Bool, min, ◌-◌, true, false, nat_lt, nat_le, ◌&&◌, List, ◌++◌, [], length, take, drop}
use Rattle.std.proofs.Common.{◌∙◌, ap, sym, arith, length-append}
use Rattle.std.proofs.lemmas.Bool.Decides.{nat_tests}
use Rattle.std.proofs.lemmas.List.{take_all, append-nil}
use Rattle.std.proofs.Math.Seq.{drop-append_seam}
use Rattle.byteorder.specs.Endian.{big_bytes, big_number}
use Rattle.byteorder.specs.Numbers.{big_number-reads_back, length-bytes_high_first}
use Rattle.disk_base.specs.Memory.{true_is_not_false}
use Rattle.xfs_super.specs.Geometry.{Geometry, group_len}
use Rattle.disk_base.specs.Fields.{big_at}
use Rattle.xfs_tree.specs.Form.{IsGrown}
use Rattle.xfs_tree.specs.Records.{two_numbers, are_short, by_start, lower, by_count, extent_of, high_of, low_of, fits_extent, lies_in_group, by_file}
use Rattle.xfs_tree.specs.declared.extent.Extent.{Extent}
use Rattle.xfs_tree.specs.declared.free_run.ByStart.{ByStart}
use Rattle.xfs_tree.specs.declared.free_run.ByCount.{ByCount}

-- two numbers take 8 bytes, and are read back
pub two_length : (m n : ℕ) → length (two_numbers m n) ≡ 8
two_length m n = length-append (big_bytes 4 m) (big_bytes 4 n) ∙ ap (λ (k : ℕ). k + length (big_bytes 4 n)) (length-bytes_high_first 4 m) ∙ ap (λ (k : ℕ). 4 + k) (length-bytes_high_first 4 n)

short_first : (m n : ℕ) → are_short m n ≡ true → m < 256 ^ 4
short_first m n short = grind (arith, nat_tests)

short_second : (m n : ℕ) → are_short m n ≡ true → n < 256 ^ 4
short_second m n short = grind (arith, nat_tests)

pub first_back : (m n : ℕ) → are_short m n ≡ true → big_at 4 (two_numbers m n) 0 ≡ m
unfolding big_at
first_back m n short = big_number-reads_back 4 m (big_bytes 4 n) (short_first m n short)

pub second_back : (m n : ℕ) → are_short m n ≡ true → big_at 4 (two_numbers m n) 4 ≡ n
unfolding big_at
second_back m n short =
    let four : length (big_bytes 4 m) ≡ 4 = length-bytes_high_first 4 m in
    let behind : drop 4 (two_numbers m n) ≡ big_bytes 4 n = ap (λ (k : ℕ). drop k (two_numbers m n)) (sym four) ∙ drop-append_seam (big_bytes 4 m) (big_bytes 4 n) in
    ap (λ (l : List ℕ). big_number 4 l) (behind ∙ sym (append-nil (big_bytes 4 n))) ∙ big_number-reads_back 4 n [] (short_second m n short)

pub whole_key : (m n : ℕ) → take 8 (two_numbers m n) ≡ two_numbers m n
whole_key m n = take_all 8 (two_numbers m n) (omega (arith, two_length m n))

-- what is made of two numbers is made of those that are read back
pub two_back : {R : Type 0} (make : ℕ → ℕ → R) (m n : ℕ) → are_short m n ≡ true
    → make (big_at 4 (two_numbers m n) 0) (big_at 4 (two_numbers m n) 4) ≡ make m n
two_back make m n short =
    ap (λ (k : ℕ). make k (big_at 4 (two_numbers m n) 4)) (first_back m n short) ∙ ap (λ (k : ℕ). make m k) (second_back m n short)

-- the records by start
pub by_start_back : (r : ByStart) → are_short r.start r.count ≡ true → by_start.record_of (by_start.bytes_of r) ≡ r
by_start_back r short = two_back {R = ByStart} (λ m n. record { start = m; count = n }) r.start r.count short

pub by_start_strict : (r : ByStart) → by_start.before r r ≡ false
by_start_strict r = grind (arith, nat_tests)

pub by_start_on : (r s t : ByStart) → by_start.before r s ≡ true → by_start.before s t ≡ true → by_start.before r t ≡ true
by_start_on r s t p q = grind (arith, nat_tests)

starts_rise : (m n k : ℕ) → nat_lt (m + n) k ≡ true → nat_lt m k ≡ true
starts_rise m n k h = grind (arith, nat_tests)

pub by_start_keys : (r s : ByStart) → are_short r.start r.count ≡ true → are_short s.start s.count ≡ true → by_start.before r s ≡ true → by_start.key_before (take 8 (by_start.bytes_of r)) (take 8 (by_start.bytes_of s)) ≡ true
by_start_keys r s a b p =
    ap (λ (l : List ℕ). by_start.key_before l (take 8 (by_start.bytes_of s))) (whole_key r.start r.count)
    ∙ ap (λ (l : List ℕ). by_start.key_before (by_start.bytes_of r) l) (whole_key s.start s.count)
    ∙ ap (λ (m : ℕ). nat_lt m (big_at 4 (two_numbers s.start s.count) 0)) (first_back r.start r.count a)
    ∙ ap (λ (m : ℕ). nat_lt r.start m) (first_back s.start s.count b)
    ∙ starts_rise r.start r.count s.start p

-- the records by count
pub by_count_back : (r : ByCount) → are_short r.start r.count ≡ true → by_count.record_of (by_count.bytes_of r) ≡ r
by_count_back r short = two_back {R = ByCount} (λ m n. record { start = m; count = n }) r.start r.count short

pub by_count_strict : (r : ByCount) → by_count.before r r ≡ false
by_count_strict r = grind (arith, nat_tests)

pub by_count_on : (r s t : ByCount) → by_count.before r s ≡ true → by_count.before s t ≡ true → by_count.before r t ≡ true
by_count_on r s t p q = grind (arith, nat_tests)

pub by_count_keys : (r s : ByCount) → are_short r.start r.count ≡ true → are_short s.start s.count ≡ true → by_count.before r s ≡ true → by_count.key_before (take 8 (by_count.bytes_of r)) (take 8 (by_count.bytes_of s)) ≡ true
by_count_keys r s a b p =
    let is : (big_at 4 (two_numbers r.start r.count) 0 ≡ r.start) × (big_at 4 (two_numbers r.start r.count) 4 ≡ r.count) = (first_back r.start r.count a, second_back r.start r.count a) in
    let other : (big_at 4 (two_numbers s.start s.count) 0 ≡ s.start) × (big_at 4 (two_numbers s.start s.count) 4 ≡ s.count) = (first_back s.start s.count b, second_back s.start s.count b) in
    ap (λ (l : List ℕ). by_count.key_before l (take 8 (by_count.bytes_of s))) (whole_key r.start r.count)
    ∙ ap (λ (l : List ℕ). by_count.key_before (by_count.bytes_of r) l) (whole_key s.start s.count)
    ∙ ap (λ (n : ℕ). lower n (big_at 4 (two_numbers r.start r.count) 0) (big_at 4 (two_numbers s.start s.count) 4) (big_at 4 (two_numbers s.start s.count) 0)) is.1
    ∙ ap (λ (n : ℕ). lower r.count n (big_at 4 (two_numbers s.start s.count) 4) (big_at 4 (two_numbers s.start s.count) 0)) is.0
    ∙ ap (λ (n : ℕ). lower r.count r.start n (big_at 4 (two_numbers s.start s.count) 0)) other.1
    ∙ ap (λ (n : ℕ). lower r.count r.start s.count n) other.0
    ∙ p

pub extent_length : (r : Extent) → length (by_file.bytes_of r) ≡ 16
extent_length r =
    length-append (big_bytes 8 (high_of r.unwritten r.file r.block)) (big_bytes 8 (low_of r.block r.count))
    ∙ ap (λ (k : ℕ). k + length (big_bytes 8 (low_of r.block r.count))) (length-bytes_high_first 8 (high_of r.unwritten r.file r.block))
    ∙ ap (λ (k : ℕ). 8 + k) (length-bytes_high_first 8 (low_of r.block r.count))

three : (file block count : ℕ) → fits_extent file block count ≡ true → (file < 2 ^ 54) × (block < 2 ^ 52) × (count < 2 ^ 21)
three file block count h = (grind (arith, nat_tests), grind (arith, nat_tests), grind (arith, nat_tests))

high_small : (u : Bool) (file block : ℕ) → file < 2 ^ 54 → block < 2 ^ 52 → high_of u file block < 256 ^ 8
high_small true file block p q = omega arith
high_small false file block p q = omega arith

low_small : (block count : ℕ) → count < 2 ^ 21 → low_of block count < 256 ^ 8
low_small block count p = omega arith

high_written : (u : Bool) (file block : ℕ) → file < 2 ^ 54 → block < 2 ^ 52 → nat_le (2 ^ 63) (high_of u file block) ≡ u
high_written true file block p q = grind (arith, nat_tests)
high_written false file block p q = grind (arith, nat_tests)

high_file : (u : Bool) (file block : ℕ) → file < 2 ^ 54 → block < 2 ^ 52 → high_of u file block % 2 ^ 63 / 2 ^ 9 ≡ file
high_file true file block p q = omega arith
high_file false file block p q = omega arith

high_block : (u : Bool) (file block count : ℕ) → block < 2 ^ 52 → count < 2 ^ 21 → high_of u file block % 2 ^ 9 * 2 ^ 43 + low_of block count / 2 ^ 21 ≡ block
high_block true file block count p q = omega arith
high_block false file block count p q = omega arith

low_count : (block count : ℕ) → count < 2 ^ 21 → low_of block count % 2 ^ 21 ≡ count
low_count block count p = omega arith

high_back : (m n : ℕ) → m < 256 ^ 8 → big_at 8 (big_bytes 8 m ++ big_bytes 8 n) 0 ≡ m
unfolding big_at
high_back m n small = big_number-reads_back 8 m (big_bytes 8 n) small

low_back : (m n : ℕ) → n < 256 ^ 8 → big_at 8 (big_bytes 8 m ++ big_bytes 8 n) 8 ≡ n
unfolding big_at
low_back m n small =
    let eight : length (big_bytes 8 m) ≡ 8 = length-bytes_high_first 8 m in
    let behind : drop 8 (big_bytes 8 m ++ big_bytes 8 n) ≡ big_bytes 8 n = ap (λ (k : ℕ). drop k (big_bytes 8 m ++ big_bytes 8 n)) (sym eight) ∙ drop-append_seam (big_bytes 8 m) (big_bytes 8 n) in
    ap (λ (l : List ℕ). big_number 8 l) (behind ∙ sym (append-nil (big_bytes 8 n))) ∙ big_number-reads_back 8 n [] small

pub extent_back : (r : Extent) → by_file.fits r ≡ true → by_file.record_of (by_file.bytes_of r) ≡ r
extent_back r fit =
    let t = three r.file r.block r.count fit in
    let high : ℕ = high_of r.unwritten r.file r.block in
    let low : ℕ = low_of r.block r.count in
    ap (λ (m : ℕ). extent_of m (big_at 8 (big_bytes 8 high ++ big_bytes 8 low) 8)) (high_back high low (high_small r.unwritten r.file r.block t.0 t.1))
    ∙ ap (λ (n : ℕ). extent_of high n) (low_back high low (low_small r.block r.count t.2))
    ∙ ap (λ (u : Bool). record { unwritten = u; file = high % 2 ^ 63 / 2 ^ 9; block = high % 2 ^ 9 * 2 ^ 43 + low / 2 ^ 21; count = low % 2 ^ 21 }) (high_written r.unwritten r.file r.block t.0 t.1)
    ∙ ap (λ (n : ℕ). record { unwritten = r.unwritten; file = n; block = high % 2 ^ 9 * 2 ^ 43 + low / 2 ^ 21; count = low % 2 ^ 21 }) (high_file r.unwritten r.file r.block t.0 t.1)
    ∙ ap (λ (n : ℕ). record { unwritten = r.unwritten; file = r.file; block = n; count = low % 2 ^ 21 }) (high_block r.unwritten r.file r.block r.count t.1 t.2)
    ∙ ap (λ (n : ℕ). record { unwritten = r.unwritten; file = r.file; block = r.block; count = n }) (low_count r.block r.count t.2)

pub extent_strict : (r : Extent) → by_file.before r r ≡ false
extent_strict r = grind (arith, nat_tests)

pub extent_on : (r s t : Extent) → by_file.before r s ≡ true → by_file.before s t ≡ true → by_file.before r t ≡ true
extent_on r s t p q = grind (arith, nat_tests)

key_back : (m : ℕ) → m < 2 ^ 54 → big_at 8 (big_bytes 8 m) 0 ≡ m
unfolding big_at
key_back m small = ap (λ (l : List ℕ). big_number 8 l) (sym (append-nil (big_bytes 8 m))) ∙ big_number-reads_back 8 m [] (omega arith)

first_below : (m n k : ℕ) → (nat_lt m n && nat_le (m + k) n) ≡ true → nat_lt m n ≡ true
first_below m n k h = grind (arith, nat_tests)

pub extent_keys : (r s : Extent) → by_file.fits r ≡ true → by_file.fits s ≡ true → by_file.before r s ≡ true → by_file.key_before (by_file.key_of r) (by_file.key_of s) ≡ true
extent_keys r s a b p =
    ap (λ (m : ℕ). nat_lt m (big_at 8 (big_bytes 8 s.file) 0)) (key_back r.file (three r.file r.block r.count a).0)
    ∙ ap (λ (m : ℕ). nat_lt r.file m) (key_back s.file (three s.file s.block s.count b).0)
    ∙ first_below r.file s.file r.count p

pub extent_never_short : by_file.long ≡ false → ⊥
extent_never_short e = true_is_not_false e

-- what lies in a group lies in it when the volume grew
len_grows : (a d e m x : ℕ) → d ≤ e → nat_le x (min a (d - m)) ≡ true → nat_le x (min a (e - m)) ≡ true
len_grows a d e m x more h = grind (arith, nat_tests)

pub run_grows : (geo grown : Geometry) (group start count : ℕ) → IsGrown geo grown → nat_le (start + count) (group_len geo group) ≡ true → nat_le (start + count) (group_len grown group) ≡ true
run_grows geo grown group start count g h =
    ap (λ (a : ℕ). nat_le (start + count) (min a (grown.dblocks - group * a))) g.agblocks
    ∙ len_grows geo.agblocks geo.dblocks grown.dblocks (group * geo.agblocks) (start + count) g.more h

less_taken : (d e m : ℕ) → d ≤ e → d - m ≤ e - m
less_taken d e m h = omega arith

both_grow : (a b g d e m x : ℕ) → a ≤ b → d ≤ e → (nat_lt g a && nat_le x (min m d)) ≡ true → (nat_lt g b && nat_le x (min m e)) ≡ true
both_grow a b g d e m x more longer h = grind (arith, nat_tests)

pub extent_grows : (geo grown : Geometry) (r : Extent) → IsGrown geo grown → by_file.inside geo 0 r ≡ true → by_file.inside grown 0 r ≡ true
extent_grows geo grown r g h =
    let group : ℕ = r.block / 2 ^ geo.agblklog in
    let block : ℕ = r.block % 2 ^ geo.agblklog in
    ap (λ (k : ℕ). lies_in_group grown (r.block / 2 ^ k) (r.block % 2 ^ k) r.count) g.agblklog
    ∙ ap (λ (a : ℕ). nat_lt group grown.agcount && nat_le (block + r.count) (min a (grown.dblocks - group * a))) g.agblocks
    ∙ both_grow geo.agcount grown.agcount group (geo.dblocks - group * geo.agblocks) (grown.dblocks - group * geo.agblocks) geo.agblocks (block + r.count) g.groups (less_taken geo.dblocks grown.dblocks (group * geo.agblocks) g.more) h
