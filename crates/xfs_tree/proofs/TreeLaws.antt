-- What holds of trees: no fault beside a tree, one list of records, what is seen depends on the blocks that are seen alone.
use Rattle.std.proofs.Common.{◌≡◌, ℕ, zero, suc, ◌+◌, ◌-◌, ◌*◌, ◌<◌, ◌≤◌, ◌/◌, ◌%◌, ◌^◌, true, false, Bool, ◌&&◌, nat_lt, min, IsTrue, List, [], ◌∷◌, ◌++◌, length, get_or, map, inl, inr, refl, sym, ap, subst, ◌∙◌, arith, add-one}
use Rattle.std.specs.Prelude.{if◌then◌else◌}
use Rattle.std.specs.List.{All, AllPairs, flat_map}
use Rattle.std.proofs.lemmas.Grind.{flat_map-append}
use Rattle.std.proofs.lemmas.List.{append-nil, map-append}
use Rattle.std.proofs.lemmas.List.Folds.{flat_map-map}
use Rattle.std.proofs.lemmas.List.Elements.{All-contains}
use Rattle.std.proofs.lemmas.Bool.Decides.{nat_tests}
use Rattle.disk_base.specs.Memory.{true_is_not_false}
use Rattle.xfs_super.specs.Geometry.{Geometry}
use Rattle.xfs_tree.specs.declared.fault.TreeFault.{TreeFault}
use Rattle.xfs_tree.specs.declared.fault.TreeFault.TheVariants.{Checksum, Header, Level, Order, Range, Marked, Device, Memory}
use Rattle.xfs_tree.specs.Form.{Form, Setting, setting_of}
use Rattle.xfs_super.specs.Geometry.{group_len}
use Rattle.xfs_tree.specs.Form.{IsGrown}
use Rattle.xfs_tree.specs.Block.{Sight, sight, children, points_inside, records_in, LieInside, IsSoundBlock, IsBlockFault}
use Rattle.block_claims.specs.Agreement.{times_in}
use Rattle.xfs_tree.specs.Tree.{levels_below, all_sights, blocks_of, leaves_of, records_at, records_of, AreInOrder, IsOutOfOrder, IsSoundTree, IsTree, HasFaultyBlock, HasTreeFault}
use Rattle.xfs_tree.specs.Laws.{SaysNothing}
use Rattle.xfs_tree.specs.Fork.{levels_of_fork, IsRootFault, IsTreeOfFork, HasFaultOfFork}
use Rattle.block_claims.specs.Agreement.{AgreeOn}
use Rattle.xfs_tree.proofs.Claims.{free_excludes}
use Rattle.block_claims.proofs.Agreements.{times_in-append, times_itself}
use Rattle.xfs_tree.proofs.Trees.{top_blocks, blocks_at}

-- a sound block has no fault
sound_block_excludes : {R : Type 0} (t : Setting R) (geo : Geometry) (s : Sight) (fault : TreeFault) → IsSoundBlock t geo s → IsBlockFault t geo s fault → ⊥
sound_block_excludes t geo s (Checksum g b) sound due = true_is_not_false (sym sound.checksum ∙ due.1)
sound_block_excludes t geo s (Header g b) sound due = due.1 sound.header
sound_block_excludes t geo s (Level g b) sound due = due.1 sound.level
sound_block_excludes t geo s (Order g b) sound due = due.1 sound.order
sound_block_excludes t geo s (Range g b) sound due = due.1 sound.range
sound_block_excludes t geo s (Marked g b) sound due = due
sound_block_excludes t geo s Device sound due = due
sound_block_excludes t geo s Memory sound due = due

pub sound_excludes : {R : Type 0} (t : Setting R) (geo : Geometry) (sights : List Sight) (fault : TreeFault) → All (IsSoundBlock t geo) sights → HasFaultyBlock t geo sights fault → ⊥
sound_excludes t geo sights fault sound faulty = sound_block_excludes t geo faulty.seen fault (All-contains (IsSoundBlock t geo) sights faulty.seen sound faulty.stands) faulty.faulty

some_record : {R : Type 0} (records : List R) (n : ℕ) → n < length records → (R → ⊥) → ⊥
some_record [] n lt no-record = omega arith
some_record (r ∷ rs) n lt no-record = no-record r

pub in_order_excludes : {R : Type 0} (t : Setting R) (leaves : List Sight) (g b : ℕ) → AreInOrder t.form (records_at t leaves) → IsOutOfOrder t leaves g b → ⊥
in_order_excludes t leaves g b order out =
    some_record (records_at t leaves) (out.place + 1) out.two (λ r. true_is_not_false (sym (order out.place out.two r) ∙ out.unordered r))

-- a tree excludes each fault but those that say nothing of it
pub tree_excludes : {R : Type 0} (t : Setting R) (geo : Geometry) (levels : List (List Sight)) (claimed : ℕ → ℕ) (records : List R) (fault : TreeFault) → IsTree t geo levels claimed records → HasTreeFault t geo levels claimed fault → SaysNothing fault
tree_excludes t geo levels claimed records (Checksum g b) tree due = absurd (sound_excludes t geo (all_sights levels) (Checksum g b) tree.sound.blocks due)
tree_excludes t geo levels claimed records (Header g b) tree due = absurd (sound_excludes t geo (all_sights levels) (Header g b) tree.sound.blocks due)
tree_excludes t geo levels claimed records (Level g b) tree due = absurd (sound_excludes t geo (all_sights levels) (Level g b) tree.sound.blocks due)
tree_excludes t geo levels claimed records (Range g b) tree due = absurd (sound_excludes t geo (all_sights levels) (Range g b) tree.sound.blocks due)
tree_excludes t geo levels claimed records (Order g b) tree (inl due) = absurd (sound_excludes t geo (all_sights levels) (Order g b) tree.sound.blocks due)
tree_excludes t geo levels claimed records (Order g b) tree (inr due) = absurd (in_order_excludes t (leaves_of levels) g b tree.sound.order due)
tree_excludes t geo levels claimed records (Marked g b) tree due = absurd (free_excludes claimed (blocks_of levels) (g * t.agblocks + b) tree.free due)
tree_excludes t geo levels claimed records Device tree due = tt
tree_excludes t geo levels claimed records Memory tree due = tt

root_excludes : {R : Type 0} (t : Setting R) (geo : Geometry) (disk : ℕ → List ℕ) (fork : List ℕ) (claimed : ℕ → ℕ) (records : List R) (fault : TreeFault) → IsTreeOfFork t geo disk fork claimed records → IsRootFault t geo fork fault → ⊥
root_excludes t geo disk fork claimed records (Checksum g b) tree due = due
root_excludes t geo disk fork claimed records (Header g b) tree due = due
root_excludes t geo disk fork claimed records (Level g b) tree due = due.1 tree.root.level
root_excludes t geo disk fork claimed records (Range g b) tree due = due.1 tree.root.range
root_excludes t geo disk fork claimed records (Order g b) tree due = due.1 tree.root.order
root_excludes t geo disk fork claimed records (Marked g b) tree due = due
root_excludes t geo disk fork claimed records Device tree due = due
root_excludes t geo disk fork claimed records Memory tree due = due

pub fork_excludes : {R : Type 0} (t : Setting R) (geo : Geometry) (disk : ℕ → List ℕ) (fork : List ℕ) (claimed : ℕ → ℕ) (records : List R) (fault : TreeFault)
    → IsTreeOfFork t geo disk fork claimed records → HasFaultOfFork t geo disk fork claimed fault → SaysNothing fault
fork_excludes t geo disk fork claimed records fault tree (inl due) = absurd (root_excludes t geo disk fork claimed records fault tree due)
fork_excludes t geo disk fork claimed records fault tree (inr due) = tree_excludes t geo (levels_of_fork t disk fork) claimed records fault tree.tree due

-- one list of records
pub one_tree : {R : Type 0} (t : Setting R) (geo : Geometry) (levels : List (List Sight)) (claimed : ℕ → ℕ) (xs ys : List R) → IsTree t geo levels claimed xs → IsTree t geo levels claimed ys → xs ≡ ys
one_tree t geo levels claimed xs ys r s = r.records_are ∙ sym s.records_are

-- blocks on which two disks agree are seen alike
same_row : (disk other : ℕ → List ℕ) (height least : ℕ) (blocks : List ℕ) → AgreeOn blocks disk other → map (sight other height least) blocks ≡ map (sight disk height least) blocks
same_row disk other height least [] agree = refl
same_row disk other height least (b ∷ bs) agree =
    let here : other b ≡ disk b = agree b (omega (arith, times_in-append b (b ∷ []) bs, times_itself b)) in
    let rest : map (sight other height least) bs ≡ map (sight disk height least) bs = same_row disk other height least bs (λ n lt. agree n (omega (arith, lt, times_in-append n (b ∷ []) bs))) in
    ap (λ (bytes : List ℕ). record { height = height; least = least; at = b; bytes = bytes } ∷ map (sight other height least) bs) here ∙ ap (λ (l : List Sight). sight disk height least b ∷ l) rest

-- THE frame law: what is seen depends on the blocks that are seen alone
pub same_sights : {R : Type 0} (t : Setting R) (disk other : ℕ → List ℕ) (height least : ℕ) (blocks : List ℕ) → AgreeOn (blocks_of (levels_below t disk height least blocks)) disk other
    → levels_below t other height least blocks ≡ levels_below t disk height least blocks
unfolding levels_below
same_sights t disk other zero least blocks agree =
    ap (λ (l : List Sight). l ∷ []) (same_row disk other 0 least blocks (λ n lt. agree n (omega (arith, lt, top_blocks t disk 0 least blocks n))))
same_sights t disk other (suc height) least blocks agree =
    let here : List Sight = map (sight disk (suc height) least) blocks in
    let row : map (sight other (suc height) least) blocks ≡ here = same_row disk other (suc height) least blocks (λ n lt. agree n (omega (arith, lt, top_blocks t disk (suc height) least blocks n))) in
    let below : List ℕ = flat_map (λ b. children t (sight disk (suc height) least b)) blocks in
    let same_below : flat_map (λ b. children t (sight other (suc height) least b)) blocks ≡ below =
    sym (flat_map-map (children t) (sight other (suc height) least) blocks) ∙ ap (λ (l : List Sight). flat_map (children t) l) row ∙ flat_map-map (children t) (sight disk (suc height) least) blocks in
    let rest : List (List Sight) = levels_below t disk height 1 below in
    let parts : (n : ℕ) → times_in n (blocks_of (here ∷ rest)) ≡ times_in n (map (λ (s : Sight). s.at) here) + times_in n (blocks_of rest) =
    λ n. ap (λ (l : List ℕ). times_in n l) (blocks_at [] here rest) ∙ times_in-append n (map (λ (s : Sight). s.at) here) (blocks_of rest) in
    let deeper : levels_below t other height 1 below ≡ rest = same_sights t disk other height 1 below (λ n lt. agree n (omega (arith, lt, parts n))) in
    ap (λ (l : List Sight). l ∷ levels_below t other height 1 (flat_map (λ b. children t (sight other (suc height) least b)) blocks)) row
    ∙ ap (λ (l : List ℕ). here ∷ levels_below t other height 1 l) same_below
    ∙ ap (λ (l : List (List Sight)). here ∷ l) deeper

-- the leaves of a tree are those below its highest blocks
leaves_below : {R : Type 0} (t : Setting R) (disk : ℕ → List ℕ) (height least : ℕ) (blocks : List ℕ) → leaves_of (levels_below t disk (suc height) least blocks) ≡ leaves_of (levels_below t disk height 1 (flat_map (λ b. children t (sight disk (suc height) least b)) blocks))
unfolding levels_below leaves_of
leaves_below t disk zero least blocks = refl
leaves_below t disk (suc height) least blocks = refl

-- the leaves below two lists of blocks
leaves_join : {R : Type 0} (t : Setting R) (disk : ℕ → List ℕ) (height least : ℕ) (bs cs : List ℕ) → leaves_of (levels_below t disk height least (bs ++ cs)) ≡ leaves_of (levels_below t disk height least bs) ++ leaves_of (levels_below t disk height least cs)
unfolding levels_below leaves_of
leaves_join t disk zero least bs cs = map-append (sight disk 0 least) bs cs
leaves_join t disk (suc height) least bs cs =
    let f : ℕ → List ℕ = λ b. children t (sight disk (suc height) least b) in
    leaves_below t disk height least (bs ++ cs) ∙ ap (λ (l : List ℕ). leaves_of (levels_below t disk height 1 l)) (flat_map-append f bs cs) ∙ leaves_join t disk height 1 (flat_map f bs) (flat_map f cs)
    ∙ ap (λ (l : List Sight). l ++ leaves_of (levels_below t disk height 1 (flat_map f cs))) (sym (leaves_below t disk height least bs))
    ∙ ap (λ (l : List Sight). leaves_of (levels_below t disk (suc height) least bs) ++ l) (sym (leaves_below t disk height least cs))

leaves_none : {R : Type 0} (t : Setting R) (disk : ℕ → List ℕ) (height least : ℕ) → leaves_of (levels_below t disk height least []) ≡ []
unfolding levels_below leaves_of
leaves_none t disk zero least = refl
leaves_none t disk (suc height) least = leaves_below t disk height least [] ∙ leaves_none t disk height 1

records_all : {R : Type 0} (t : Setting R) (disk : ℕ → List ℕ) (height least : ℕ) (ps : List ℕ) → records_of t (levels_below t disk height least ps) ≡ flat_map (λ p. records_of t (levels_below t disk height least (p ∷ []))) ps
records_all t disk height least [] = ap (λ (l : List Sight). records_at t l) (leaves_none t disk height least)
records_all {R} t disk height least (p ∷ ps) =
    ap (λ (l : List Sight). records_at t l) (leaves_join t disk height least (p ∷ []) ps)
    ∙ flat_map-append (records_in t) (leaves_of (levels_below t disk height least (p ∷ []))) (leaves_of (levels_below t disk height least ps))
    ∙ ap (λ (l : List R). records_of t (levels_below t disk height least (p ∷ [])) ++ l) (records_all t disk height least ps)

-- a tree is the join of the trees at its root's pointers
pub root_records : {R : Type 0} (t : Setting R) (disk : ℕ → List ℕ) (least root : ℕ) → records_of t (levels_below t disk 0 least (root ∷ [])) ≡ records_in t (sight disk 0 least root)
unfolding levels_below leaves_of
root_records t disk least root = append-nil (records_in t (sight disk 0 least root))

joined_at_suc : {R : Type 0} (t : Setting R) (disk : ℕ → List ℕ) (height least root : ℕ) → records_of t (levels_below t disk (suc height) least (root ∷ [])) ≡ flat_map (λ p. records_of t (levels_below t disk height 1 (p ∷ []))) (children t (sight disk (suc height) least root))
joined_at_suc t disk height least root =
    ap (λ (l : List Sight). records_at t l) (leaves_below t disk height least (root ∷ []) ∙ ap (λ (l : List ℕ). leaves_of (levels_below t disk height 1 l)) (append-nil (children t (sight disk (suc height) least root))))
    ∙ records_all t disk height 1 (children t (sight disk (suc height) least root))

pub joined_records : {R : Type 0} (t : Setting R) (disk : ℕ → List ℕ) (height least root : ℕ) → records_of t (levels_below t disk (height + 1) least (root ∷ [])) ≡ flat_map (λ p. records_of t (levels_below t disk height 1 (p ∷ []))) (children t (sight disk (height + 1) least root))
joined_records t disk height least root =
    subst (λ (n : ℕ). records_of t (levels_below t disk n least (root ∷ [])) ≡ flat_map (λ p. records_of t (levels_below t disk height 1 (p ∷ []))) (children t (sight disk n least root))) (sym (add-one height))
    (joined_at_suc t disk height least root)

-- each record is before all that follow it
before_later : {R : Type 0} (form : Form R) (on : (r s t : R) → IsTrue (form.fits r) → IsTrue (form.fits s) → IsTrue (form.fits t) → IsTrue (form.before r s) → IsTrue (form.before s t) → IsTrue (form.before r t)) (records : List R) (i n : ℕ) (d : R)
    → All (λ r. IsTrue (form.fits r)) records → AreInOrder form records → i + 1 + n < length records → IsTrue (form.before (get_or records i d) (get_or records (i + 1 + n) d))
before_later form on records i zero d fit order lt = subst (λ (m : ℕ). form.before (get_or records i d) (get_or records m d) ≡ true) (omega arith) (order i (omega arith) d)
before_later form on records i (suc n) d fit order lt =
    let here : form.before (get_or records i d) (get_or records (i + 1 + n) d) ≡ true = before_later form on records i n d fit order (omega arith) in
    let next : form.before (get_or records (i + 1 + n) d) (get_or records (i + 1 + n + 1) d) ≡ true = order (i + 1 + n) (omega arith) d in
    let there : form.before (get_or records i d) (get_or records (i + 1 + n + 1) d) ≡ true = on _ _ _ (fit i d (omega arith)) (fit (i + 1 + n) d (omega arith)) (fit (i + 1 + n + 1) d (omega arith)) here next in
    subst (λ (m : ℕ). form.before (get_or records i d) (get_or records m d) ≡ true) (omega arith) there

pub all_in_order : {R : Type 0} (form : Form R) (on : (r s t : R) → IsTrue (form.fits r) → IsTrue (form.fits s) → IsTrue (form.fits t) → IsTrue (form.before r s) → IsTrue (form.before s t) → IsTrue (form.before r t)) (records : List R)
    → All (λ r. IsTrue (form.fits r)) records → AreInOrder form records → AllPairs (λ r s. IsTrue (form.before r s)) records
all_in_order form on records fit order = λ i j d lt inside.
    subst (λ (m : ℕ). form.before (get_or records i d) (get_or records m d) ≡ true) (omega arith) (before_later form on records i (j - (i + 1)) d fit order (omega arith))

-- what a tree's blocks are told by is kept by growth
pub same_setting : {R : Type 0} (form : Form R) (geo grown : Geometry) (group owner : ℕ) → IsGrown geo grown → setting_of form grown group owner ≡ setting_of form geo group owner
same_setting form geo grown group owner g =
    ap (λ (n : ℕ). record { form = form; agblocks = n; agblklog = grown.agblklog; meta = grown.meta; group = group; owner = owner }) g.agblocks
    ∙ ap (λ (n : ℕ). record { form = form; agblocks = geo.agblocks; agblklog = n; meta = grown.meta; group = group; owner = owner }) g.agblklog
    ∙ ap (λ (l : List ℕ). record { form = form; agblocks = geo.agblocks; agblklog = geo.agblklog; meta = l; group = group; owner = owner }) g.meta

-- and what lies inside lies inside
below_more_blocks : (a : Bool) (m d e : ℕ) → d ≤ e → (a && nat_lt m d) ≡ true → (a && nat_lt m e) ≡ true
below_more_blocks true m d e more h = grind (arith, nat_tests)
below_more_blocks false m d e more h = h

inside_more : {R : Type 0} (t : Setting R) (geo grown : Geometry) (height : ℕ) (bytes : List ℕ) → IsGrown geo grown → ((group : ℕ) (r : R) → IsTrue (t.form.inside geo group r) → IsTrue (t.form.inside grown group r))
    → LieInside t geo height bytes → LieInside t grown height bytes
inside_more t geo grown zero bytes g on inside = λ k d lt. on t.group _ (inside k d lt)
inside_more t geo grown (suc height) bytes g on inside = λ k d lt. below_more_blocks _ _ geo.dblocks grown.dblocks g.more (inside k d lt)

block_grows : {R : Type 0} (t : Setting R) (geo grown : Geometry) (s : Sight) → IsGrown geo grown → ((group : ℕ) (r : R) → IsTrue (t.form.inside geo group r) → IsTrue (t.form.inside grown group r)) → IsSoundBlock t geo s → IsSoundBlock t grown s
block_grows t geo grown s g on sound = record {
  checksum = sound.checksum;
  header = sound.header;
  level = sound.level;
  range = record { some = sound.range.some; room = sound.range.room; inside = inside_more t geo grown s.height s.bytes g on sound.range.inside };
  order = sound.order;
}

pub sound_grows : {R : Type 0} (form : Form R) (on : (geo grown : Geometry) (group : ℕ) (r : R) → IsGrown geo grown → IsTrue (form.inside geo group r) → IsTrue (form.inside grown group r))
    (t : Setting R) (geo grown : Geometry) (levels : List (List Sight)) → t.form ≡ form → IsGrown geo grown → IsSoundTree t geo levels → IsSoundTree t grown levels
sound_grows {R} form on t geo grown levels is g sound =
    let here : (group : ℕ) (r : R) → IsTrue (t.form.inside geo group r) → IsTrue (t.form.inside grown group r) =
    subst (λ (f : Form R). (group : ℕ) (r : R) → IsTrue (f.inside geo group r) → IsTrue (f.inside grown group r)) (sym is) (λ group r. on geo grown group r g) in
    record { blocks = λ k d lt. block_grows t geo grown _ g here (sound.blocks k d lt); order = sound.order }

-- a short pointer lies inside exactly where it is below the length of its group
within : (p a m d : ℕ) → (nat_lt p a && nat_lt (m + p) d) ≡ nat_lt p (min a (d - m))
within p a m d = grind (arith, nat_tests)

pub inside_group : {R : Type 0} (form : Form R) (geo : Geometry) (group owner p : ℕ) → form.long ≡ false → points_inside (setting_of form geo group owner) geo p ≡ nat_lt p (group_len geo group)
inside_group form geo group owner p short =
    ap (λ (long : Bool). nat_lt (if long then p % 2 ^ geo.agblklog else p) geo.agblocks && nat_lt (if long then p / 2 ^ geo.agblklog * geo.agblocks + p % 2 ^ geo.agblklog else group * geo.agblocks + p) geo.dblocks) short
    ∙ within p geo.agblocks (group * geo.agblocks) geo.dblocks
