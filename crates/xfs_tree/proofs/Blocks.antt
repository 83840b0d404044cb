-- One block of a tree.
use Rattle.std.proofs.Common.{◌≡◌, ℕ, zero, suc, ◌+◌, ◌-◌, ◌*◌, ◌<◌, ◌≤◌, Bool, true, false, cond, IsTrue, ◌&&◌, nat_le, nat_lt, List, [], ◌∷◌, ◌++◌, length, get_or, take, drop, map, refl, sym, ap, subst, ◌∙◌, arith, length-append}
use Rattle.std.specs.List.{All, range_with_len}
use Rattle.std.proofs.lemmas.Bool.{false≢true}
use Rattle.std.proofs.lemmas.Bool.Decides.{nat_tests}
use Rattle.std.specs.Prelude.{if◌then◌else◌, ◌/◌, ◌%◌, ◌^◌}
use Rattle.std.proofs.lemmas.Nat.{mul-le}
use Rattle.std.proofs.lemmas.List.{take-append-drop, take_all}
use Rattle.std.proofs.Math.Seq.{drop-append_seam}
use Rattle.std.proofs.lemmas.List.Elements.{All-head, All-tail, All-nil, All-cons}
use Rattle.std.proofs.lemmas.List.FromFn.{length-map-range_with_len, get_or-map-range_with_len, take-map-range_with_len}
use Rattle.byteorder.specs.Endian.{big_number}
use Rattle.byteorder.specs.Numbers.{big_from-take}
use Rattle.disk_base.specs.Image.{bytes_at}
use Rattle.disk_base.specs.Memory.{true_is_not_false}
use Rattle.xfs_super.specs.Geometry.{Geometry}
use Rattle.disk_base.specs.Fields.{big_at}
use Rattle.xfs_tree.specs.Form.{Form, Setting}
use Rattle.xfs_tree.specs.declared.fault.TreeFault.{TreeFault}
use Rattle.xfs_tree.specs.declared.fault.TreeFault.TheVariants.{Checksum, Header, Level, Order, Range, Marked, Device, Memory}
use Rattle.xfs_tree.specs.Block.{Sight, block_seen, level_in, count_in, is_whole, identity_at, capacity, node_capacity, pointer_at, pointers, record_at, records_spelt, records_in, children, blocks_led_to, spells, stays, block_to, leads_to, points_inside, LieInside, HaveRisingKeys, HasOrder, IsHeader, IsBlockInRange, IsSoundBlock, IsBlockFault}
use Rattle.block_claims.specs.Agreement.{IsTwice}
use Rattle.xfs_tree.specs.inside.Reading.{HasSoundHead, IsNodeFault, IsLeafFault, AreInVolume}
use Rattle.xfs_tree.specs.Marks.{IsClaimFault}
use Rattle.xfs_tree.proofs.Claims.{both, says}

-- the first `k` of the values of a function
pub first_of : {X : Type 0} (f : ℕ → X) (n k : ℕ) → k ≤ n → map f (range_with_len 0 n) ≡ map f (range_with_len 0 k) ++ drop k (map f (range_with_len 0 n))
first_of f n k h = sym (take-append-drop k (map f (range_with_len 0 n))) ∙ ap (λ l. l ++ drop k (map f (range_with_len 0 n))) (take-map-range_with_len f 0 n k h)

pub if_true : {A : Type 0} (b : Bool) (x y : A) → b ≡ true → cond b x y ≡ x
if_true true x y h = refl
if_true false x y h = absurd (false≢true h)

no_more : (m n : ℕ) → m ≤ n → nat_le m n ≡ true
no_more m n h = grind (arith, nat_tests)

-- bytes that are the same spell the same number
spelt_number : (n at : ℕ) (bytes xs : List ℕ) → bytes_at bytes at n ≡ xs → big_at n bytes at ≡ big_number n xs
unfolding big_at
spelt_number n at bytes xs e = sym (big_from-take 0 n n (drop at bytes) (omega arith)) ∙ ap (λ (l : List ℕ). big_number n l) e

-- a block that was judged spells what it is
spells_header : {R : Type 0} (t : Setting R) (s : Sight) → is_whole t.form.long s.bytes ≡ true → level_in s.bytes ≡ s.height → count_in s.bytes ≤ capacity t.form s.height → IsHeader t s.at s.bytes → spells t s ≡ true
spells_header t s sum level room header =
    both _ _ sum (both _ _ (both _ _ (says _ _ level) (no_more _ _ room))
    (both _ _ (both _ _ (says _ _ header.place) (says _ _ header.owner))
    (both _ _ (says _ _ (spelt_number 4 0 s.bytes t.form.magic header.magic)) (says _ _ (spelt_number 16 (identity_at t.form.long) s.bytes t.meta header.identity)))))

pub spells_judged : {R : Type 0} (t : Setting R) (s : Sight) (count : ℕ) → HasSoundHead t s count → spells t s ≡ true
spells_judged t s count judged = spells_header t s judged.checksum judged.level judged.room judged.header

pub spells_sound : {R : Type 0} (t : Setting R) (geo : Geometry) (s : Sight) → IsSoundBlock t geo s → spells t s ≡ true
spells_sound t geo s sound = spells_header t s sound.checksum sound.level sound.range.room sound.header

-- a pointer that lies outside is a fault
pub pointer_outside : {R : Type 0} (t : Setting R) (geo : Geometry) (height least at : ℕ) (bytes : List ℕ) (i : ℕ) → 0 < height → i < count_in bytes → points_inside t geo (pointer_at t.form bytes i) ≡ false
    → IsBlockInRange t geo (block_seen height least at bytes) → ⊥
pointer_outside t geo zero least at bytes i node lt out range = absurd (omega arith)
pointer_outside t geo (suc height) least at bytes i node lt out range =
    let here : points_inside t geo (get_or (pointers t.form bytes) i 0) ≡ true = range.inside i 0 (omega (arith, length-map-range_with_len (pointer_at t.form bytes) 0 (count_in bytes))) in
    let same : get_or (pointers t.form bytes) i 0 ≡ pointer_at t.form bytes i = get_or-map-range_with_len (pointer_at t.form bytes) 0 (count_in bytes) i i 0 lt (omega arith) in
    true_is_not_false (sym here ∙ ap (λ (p : ℕ). points_inside t geo p) same ∙ out)

-- a record that lies outside is a fault
record_outside_leaf : {R : Type 0} (t : Setting R) (geo : Geometry) (least at : ℕ) (bytes : List ℕ) (i : ℕ) (r : R) → i < count_in bytes → r ≡ record_at t.form bytes i → t.form.inside geo t.group r ≡ false
    → IsBlockInRange t geo (block_seen 0 least at bytes) → ⊥
record_outside_leaf t geo least at bytes i r lt is out range =
    let here : t.form.inside geo t.group (get_or (records_spelt t.form bytes) i r) ≡ true = range.inside i r (omega (arith, length-map-range_with_len (record_at t.form bytes) 0 (count_in bytes))) in
    let same : get_or (records_spelt t.form bytes) i r ≡ r = get_or-map-range_with_len (record_at t.form bytes) 0 (count_in bytes) i i r lt (omega arith) ∙ sym is in
    true_is_not_false (sym here ∙ ap (t.form.inside geo t.group) same ∙ out)

pub record_outside : {R : Type 0} (t : Setting R) (geo : Geometry) (height least at : ℕ) (bytes : List ℕ) (i : ℕ) (r : R) → height ≡ 0 → i < count_in bytes → r ≡ record_at t.form bytes i → t.form.inside geo t.group r ≡ false
    → IsBlockInRange t geo (block_seen height least at bytes) → ⊥
record_outside t geo zero least at bytes i r leaf lt is out range = record_outside_leaf t geo least at bytes i r lt is out range
record_outside t geo (suc height) least at bytes i r leaf lt is out range = absurd (omega arith)

-- a pointer to a group that the volume doesn't have lies outside
led : (long : Bool) (x y z w n : ℕ) → (if long then x * n + y else z * n + w) ≡ (if long then x else z) * n + (if long then y else w)
led true x y z w n = refl
led false x y z w n = refl

never_both : (a b : Bool) → b ≡ false → (a && b) ≡ false
never_both true b h = h
never_both false b h = refl

never_less : (m n : ℕ) → n ≤ m → nat_lt m n ≡ false
never_less m n h = grind (arith, nat_tests)

pub home_outside : {R : Type 0} (t : Setting R) (geo : Geometry) (p home c : ℕ) → geo.dblocks ≤ c * t.agblocks → home ≡ (if t.form.long then p / 2 ^ t.agblklog else t.group) → c ≤ home → points_inside t geo p ≡ false
home_outside t geo p home c all is far =
    let more : c * t.agblocks ≤ home * t.agblocks = mul-le c t.agblocks home t.agblocks far (omega arith) in
    let at : leads_to t p ≡ home * t.agblocks + block_to t p =
    led t.form.long (p / 2 ^ t.agblklog) (p % 2 ^ t.agblklog) t.group p t.agblocks ∙ ap (λ (n : ℕ). n * t.agblocks + block_to t p) (sym is) in
    never_both (stays t p) (nat_lt (leads_to t p) geo.dblocks) (never_less (leads_to t p) geo.dblocks (omega arith))

-- pointers that all lie inside are all kept
kept_one : (b : Bool) (x : ℕ) (rest : List ℕ) → b ≡ true → cond b (x ∷ []) [] ++ rest ≡ x ∷ rest
kept_one true x rest h = refl
kept_one false x rest h = absurd (false≢true h)

left_true : (a b : Bool) → (a && b) ≡ true → a ≡ true
left_true true b h = refl
left_true false b h = absurd (false≢true h)

pub kept_all : {R : Type 0} (t : Setting R) (geo : Geometry) (ps : List ℕ) → All (λ p. IsTrue (points_inside t geo p)) ps → blocks_led_to t ps ≡ map (leads_to t) ps
kept_all t geo [] inside = refl
kept_all t geo (p ∷ ps) inside =
    kept_one (stays t p) (leads_to t p) (blocks_led_to t ps) (left_true (stays t p) (nat_lt (leads_to t p) geo.dblocks) (All-head (λ q. IsTrue (points_inside t geo q)) p ps inside))
    ∙ ap (λ (l : List ℕ). leads_to t p ∷ l) (kept_all t geo ps (All-tail (λ q. IsTrue (points_inside t geo q)) p ps inside))

-- and lead into the volume
right_true : (a b : Bool) → (a && b) ≡ true → b ≡ true
right_true true b h = h
right_true false b h = absurd (false≢true h)

less : (m n : ℕ) → nat_lt m n ≡ true → m < n
less m n h = grind (arith, nat_tests)

pub leads_inside : {R : Type 0} (t : Setting R) (geo : Geometry) (p : ℕ) → IsTrue (points_inside t geo p) → leads_to t p < geo.dblocks
leads_inside t geo p inside = less _ _ (right_true (stays t p) (nat_lt (leads_to t p) geo.dblocks) inside)

pub children_are : {R : Type 0} (t : Setting R) (geo : Geometry) (s : Sight) → spells t s ≡ true → All (λ p. IsTrue (points_inside t geo p)) (pointers t.form s.bytes) → children t s ≡ map (leads_to t) (pointers t.form s.bytes)
children_are t geo s spelt inside = if_true (spells t s) (blocks_led_to t (pointers t.form s.bytes)) [] spelt ∙ kept_all t geo (pointers t.form s.bytes) inside

pub records_are : {R : Type 0} (t : Setting R) (s : Sight) → spells t s ≡ true → records_in t s ≡ records_spelt t.form s.bytes
records_are t s spelt = if_true (spells t s) (records_spelt t.form s.bytes) [] spelt

-- a fault of the block is one of the node
pub block_node_fault : {R : Type 0} (t : Setting R) (geo : Geometry) (s : Sight) (claimed : ℕ → ℕ) (fault : TreeFault) → IsBlockFault t geo s fault → IsNodeFault t geo s claimed fault
block_node_fault t geo s claimed (Checksum g b) due = due
block_node_fault t geo s claimed (Header g b) due = due
block_node_fault t geo s claimed (Level g b) due = due
block_node_fault t geo s claimed (Order g b) due = due
block_node_fault t geo s claimed (Range g b) due = due
block_node_fault t geo s claimed (Marked g b) due = absurd due
block_node_fault t geo s claimed Device due = absurd due
block_node_fault t geo s claimed Memory due = absurd due

-- so is a child that can't be claimed
pub claim_node_fault : {R : Type 0} (t : Setting R) (geo : Geometry) (s : Sight) (claimed : ℕ → ℕ) (blocks : List ℕ) (fault : TreeFault) → blocks ≡ children t s → IsClaimFault t.agblocks claimed blocks fault → IsNodeFault t geo s claimed fault
claim_node_fault t geo s claimed blocks (Checksum g b) are due = absurd due
claim_node_fault t geo s claimed blocks (Header g b) are due = absurd due
claim_node_fault t geo s claimed blocks (Level g b) are due = absurd due
claim_node_fault t geo s claimed blocks (Order g b) are due = absurd due
claim_node_fault t geo s claimed blocks (Range g b) are due = absurd due
claim_node_fault t geo s claimed blocks (Marked g b) are due = subst (λ (l : List ℕ). IsTwice claimed l (g * t.agblocks + b)) are due
claim_node_fault t geo s claimed blocks Device are due = absurd due
claim_node_fault t geo s claimed blocks Memory are due = tt

-- a fault that a judge found is one of the leaf; none is of the order of its records
ordered_leaf : {R : Type 0} (form : Form R) (height : ℕ) (bytes : List ℕ) → height ≡ 0 → HasOrder form height bytes
ordered_leaf form zero bytes leaf = tt
ordered_leaf form (suc height) bytes leaf = absurd (omega arith)

pub block_leaf_fault : {R : Type 0} (t : Setting R) (geo : Geometry) (height least at : ℕ) (bytes : List ℕ) (before : List R) (fault : TreeFault) → height ≡ 0
    → IsBlockFault t geo (block_seen height least at bytes) fault → IsLeafFault t geo (block_seen height least at bytes) before fault
block_leaf_fault t geo height least at bytes before (Checksum g b) leaf due = due
block_leaf_fault t geo height least at bytes before (Header g b) leaf due = due
block_leaf_fault t geo height least at bytes before (Level g b) leaf due = due
block_leaf_fault t geo height least at bytes before (Order g b) leaf due = absurd (due.1 (ordered_leaf t.form height bytes leaf))
block_leaf_fault t geo height least at bytes before (Range g b) leaf due = due
block_leaf_fault t geo height least at bytes before (Marked g b) leaf due = absurd due
block_leaf_fault t geo height least at bytes before Device leaf due = absurd due
block_leaf_fault t geo height least at bytes before Memory leaf due = absurd due

-- the room of a node
pub room_in_node : {R : Type 0} (form : Form R) (height n : ℕ) → 0 < height → n ≤ capacity form height → n ≤ node_capacity form
room_in_node form zero n node room = absurd (omega arith)
room_in_node form (suc height) n node room = room

-- keys that don't rise
pub keys_out : {R : Type 0} (form : Form R) (height : ℕ) (bytes : List ℕ) → 0 < height → (HaveRisingKeys form bytes → ⊥) → HasOrder form height bytes → ⊥
keys_out form zero bytes node out order = absurd (omega arith)
keys_out form (suc height) bytes node out order = out order

-- a node that was judged, whose keys rise and whose pointers lie inside
pub sound_node : {R : Type 0} (t : Setting R) (geo : Geometry) (height least at : ℕ) (bytes : List ℕ) (count : ℕ) → 0 < height → HasSoundHead t (block_seen height least at bytes) count
    → HaveRisingKeys t.form bytes → All (λ p. IsTrue (points_inside t geo p)) (pointers t.form bytes) → IsSoundBlock t geo (block_seen height least at bytes)
sound_node t geo zero least at bytes count node judged rise inside = absurd (omega arith)
sound_node t geo (suc height) least at bytes count node judged rise inside = record {
  checksum = judged.checksum;
  header = judged.header;
  level = judged.level;
  range = record { some = judged.some; room = judged.room; inside = inside };
  order = rise;
}

pub sound_leaf : {R : Type 0} (t : Setting R) (geo : Geometry) (height least at : ℕ) (bytes : List ℕ) (count : ℕ) → height ≡ 0 → HasSoundHead t (block_seen height least at bytes) count
    → LieInside t geo 0 bytes → IsSoundBlock t geo (block_seen height least at bytes)
sound_leaf t geo zero least at bytes count leaf judged inside = record {
  checksum = judged.checksum;
  header = judged.header;
  level = judged.level;
  range = record { some = judged.some; room = judged.room; inside = inside };
  order = tt;
}
sound_leaf t geo (suc height) least at bytes count leaf judged inside = absurd (omega arith)

-- pointers that lie inside lead into the volume
pub leads_all : {R : Type 0} (t : Setting R) (geo : Geometry) (ps : List ℕ) → All (λ p. IsTrue (points_inside t geo p)) ps → AreInVolume geo (map (leads_to t) ps)
leads_all t geo [] inside = All-nil (λ (n : ℕ). n < geo.dblocks)
leads_all t geo (p ∷ ps) inside =
    All-cons (λ (n : ℕ). n < geo.dblocks) (leads_to t p) (map (leads_to t) ps) (leads_inside t geo p (All-head (λ q. IsTrue (points_inside t geo q)) p ps inside))
    (leads_all t geo ps (All-tail (λ q. IsTrue (points_inside t geo q)) p ps inside))

-- what was pushed behind others
pub pushed_slice : (old xs whole lent : List ℕ) (start : ℕ) → whole ≡ old ++ xs → lent ≡ whole → start ≡ length old → take (length lent - start) (drop start lent) ≡ xs
pushed_slice old xs whole lent start made are from =
    let is : lent ≡ old ++ xs = are ∙ made in
    let behind : drop start lent ≡ xs = ap (λ (l : List ℕ). drop start l) is ∙ ap (λ (n : ℕ). drop n (old ++ xs)) from ∙ drop-append_seam old xs in
    let long : length lent ≡ length old + length xs = ap (λ (l : List ℕ). length l) is ∙ length-append old xs in
    ap (λ (l : List ℕ). take (length lent - start) l) behind ∙ take_all (length lent - start) xs (omega arith)
