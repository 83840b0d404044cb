-- One level of a tree, block by block.
use Rattle.std.proofs.Common.{◌≡◌, ℕ, zero, suc, ◌+◌, ◌-◌, ◌*◌, ◌<◌, ◌≤◌, Bool, true, false, cond, List, [], ◌∷◌, ◌++◌, length, get_or, take, drop, map, replicate, refl, sym, ap, subst, ◌∙◌, arith, length-append, append_assoc}
use Rattle.std.specs.List.{Contains, flat_map, range_with_len}
use Rattle.std.proofs.lemmas.Grind.{flat_map-append, take_at_read}
use Rattle.std.proofs.lemmas.List.{take-append-drop, append-nil, map-append, map_push, length-replicate, get_or-replicate, get_or_append_left, get_or-append_right}
use Rattle.std.proofs.lemmas.List.Elements.{All-push, Contains-append_left, Contains-append_right, Contains-push}
use Rattle.std.proofs.lemmas.List.FromFn.{length-map-range_with_len}
use Rattle.xfs_super.specs.Geometry.{Geometry}
use Rattle.xfs_tree.specs.declared.fault.TreeFault.{TreeFault}
use Rattle.xfs_tree.specs.declared.fault.TreeFault.TheVariants.{Checksum, Header, Level, Order, Range, Marked, Device, Memory}
use Rattle.xfs_tree.specs.Form.{Setting}
use Rattle.xfs_tree.specs.Block.{Sight, sight, spells, count_in, children, record_at, records_in, IsSoundBlock, IsBlockFault, Names}
use Rattle.block_claims.specs.Agreement.{Claimed, IsTwice}
use Rattle.xfs_tree.specs.inside.Reading.{IsTakenNode, IsTakenLeaf, IsTakenLevel, AreTakenLeaves, IsOutBehind, IsNodeFault, IsLevelFault, IsLeafFault, AreLeavesFault}
use Rattle.xfs_tree.specs.Marks.{IsClaimFault}
use Rattle.xfs_tree.specs.Tree.{records_at, homes_at, HasFaultyBlock, IsOutOfOrder}
use Rattle.block_claims.proofs.Agreements.{claimed_on, times_in-append}

-- a list at one of its places, and what a function makes of it
pub list_at : {X : Type 0} (xs : List X) (i : ℕ) (d : X) → i < length xs → xs ≡ take i xs ++ (get_or xs i d ∷ drop (i + 1) xs)
list_at xs i d lt =
    sym (take-append-drop (i + 1) xs) ∙ ap (λ l. l ++ drop (i + 1) xs) (take_at_read xs i d lt).1
    ∙ append_assoc (take i xs) (get_or xs i d ∷ []) (drop (i + 1) xs)

pub map_at : {X Y : Type 0} (f : X → Y) (xs : List X) (i : ℕ) (d : X) → i < length xs → map f xs ≡ map f (take i xs) ++ (f (get_or xs i d) ∷ map f (drop (i + 1) xs))
map_at f xs i d lt = ap (map f) (list_at xs i d lt) ∙ map-append f (take i xs) (get_or xs i d ∷ drop (i + 1) xs)

pub map_next : {X Y : Type 0} (f : X → Y) (xs : List X) (i : ℕ) (d : X) → i < length xs → map f (take (i + 1) xs) ≡ map f (take i xs) ++ f (get_or xs i d) ∷ []
map_next f xs i d lt = ap (map f) (take_at_read xs i d lt).1 ∙ map_push f (take i xs) (get_or xs i d)

-- the pieces of one more element
pub pieces_more : {X A : Type 0} (f : X → List A) (xs : List X) (x : X) → flat_map f (xs ++ x ∷ []) ≡ flat_map f xs ++ f x
pieces_more f xs x = flat_map-append f xs (x ∷ []) ∙ ap (λ l. flat_map f xs ++ l) (append-nil (f x))

pub stands_at : {X : Type 0} (xs : List X) (x : X) (rest : List X) → Contains (xs ++ (x ∷ rest)) x
stands_at xs x rest = Contains-append_right xs (x ∷ rest) x (Contains-append_left (x ∷ []) rest x (Contains-push [] x))

-- a block that can't be claimed among some
pub claim_fault_at : (agblocks : ℕ) (old mid : ℕ → ℕ) (xs : List ℕ) (b : ℕ) (rest : List ℕ) (fault : TreeFault) → Claimed old xs mid → IsClaimFault agblocks mid (b ∷ []) fault → IsClaimFault agblocks old (xs ++ (b ∷ rest)) fault
claim_fault_at agblocks old mid xs b rest (Checksum h k) claimed due = absurd due
claim_fault_at agblocks old mid xs b rest (Header h k) claimed due = absurd due
claim_fault_at agblocks old mid xs b rest (Level h k) claimed due = absurd due
claim_fault_at agblocks old mid xs b rest (Order h k) claimed due = absurd due
claim_fault_at agblocks old mid xs b rest (Range h k) claimed due = absurd due
claim_fault_at agblocks old mid xs b rest (Marked h k) claimed due =
    let n : ℕ = h * agblocks + k in
    omega (arith, claimed n, due, times_in-append n xs (b ∷ rest), times_in-append n (b ∷ []) rest)
claim_fault_at agblocks old mid xs b rest Device claimed due = absurd due
claim_fault_at agblocks old mid xs b rest Memory claimed due = tt

pub claim_fault_in : (agblocks : ℕ) (old mid : ℕ → ℕ) (blocks : List ℕ) (i : ℕ) (fault : TreeFault) → i < length blocks → Claimed old (take i blocks) mid → IsClaimFault agblocks mid (get_or blocks i 0 ∷ []) fault → IsClaimFault agblocks old blocks fault
claim_fault_in agblocks old mid blocks i fault lt claimed due =
    subst (λ (l : List ℕ). IsClaimFault agblocks old l fault) (sym (list_at blocks i 0 lt))
    (claim_fault_at agblocks old mid (take i blocks) (get_or blocks i 0) (drop (i + 1) blocks) fault claimed due)

-- a run of numbers, one more of them, and at one of them
range_parts : (from k n : ℕ) → range_with_len from (k + n) ≡ range_with_len from k ++ range_with_len (from + k) n
range_parts from zero n =
    let e : zero + n ≡ n = omega arith in
    let f : from + zero ≡ from = omega arith in
    rw (e, f) refl
range_parts from (suc k) n =
    let e : suc k + n ≡ suc (k + n) = omega arith in
    let f : (from + 1) + k ≡ from + suc k = omega arith in
    rw e (ap (λ (l : List ℕ). from ∷ l) (range_parts (from + 1) k n ∙ ap (λ (s : ℕ). range_with_len (from + 1) k ++ range_with_len s n) f))

pub run_more : (first i : ℕ) → range_with_len first (i + 1) ≡ range_with_len first i ++ (first + i) ∷ []
run_more first i = range_parts first i 1

pub run_at : (first count i : ℕ) → i < count → range_with_len first count ≡ range_with_len first i ++ ((first + i) ∷ range_with_len ((first + i) + 1) (count - (i + 1)))
run_at first count i h =
    let e : count ≡ i + (1 + (count - (i + 1))) = omega arith in
    ap (range_with_len first) e ∙ range_parts first i (1 + (count - (i + 1)))
    ∙ ap (λ (l : List ℕ). range_with_len first i ++ l) (range_parts (first + i) 1 (count - (i + 1)))

pub claim_fault_run : (agblocks : ℕ) (old mid : ℕ → ℕ) (first count i : ℕ) (fault : TreeFault) → i < count → Claimed old (range_with_len first i) mid → IsClaimFault agblocks mid ((first + i) ∷ []) fault → IsClaimFault agblocks old (range_with_len first count) fault
claim_fault_run agblocks old mid first count i fault lt claimed due =
    subst (λ (l : List ℕ). IsClaimFault agblocks old l fault) (sym (run_at first count i lt))
    (claim_fault_at agblocks old mid (range_with_len first i) (first + i) (range_with_len ((first + i) + 1) (count - (i + 1))) fault claimed due)

module _ {R : Type 0} (t : Setting R) (geo : Geometry) where
  -- one more node
  pub level_more : (xs : List Sight) (s : Sight) (old mid new : ℕ → ℕ) (above below : List ℕ) → IsTakenLevel t geo xs old mid above → IsTakenNode t geo s mid new above below → IsTakenLevel t geo (xs ++ s ∷ []) old new below
  level_more xs s old mid new above below level node = record {
    sound = All-push (IsSoundBlock t geo) xs s level.sound node.sound;
    children_are = node.children_are ∙ ap (λ (l : List ℕ). l ++ children t s) level.children_are ∙ sym (pieces_more (children t) xs s);
    claimed = subst (λ (l : List ℕ). Claimed old l new) (sym node.children_are) (claimed_on old mid new above (children t s) level.claimed node.claimed);
  }

  -- one more leaf
  pub leaves_more : (xs : List Sight) (s : Sight) (before records : List R) → AreTakenLeaves t geo xs before → IsTakenLeaf t geo s before records → AreTakenLeaves t geo (xs ++ s ∷ []) records
  leaves_more xs s before records level leaf = record {
    sound = All-push (IsSoundBlock t geo) xs s level.sound leaf.sound;
    records_are = leaf.records_are ∙ ap (λ (l : List R). l ++ records_in t s) level.records_are ∙ sym (pieces_more (records_in t) xs s);
  }

  faulty_at : (xs : List Sight) (s : Sight) (rest : List Sight) (fault : TreeFault) → IsBlockFault t geo s fault → HasFaultyBlock t geo (xs ++ (s ∷ rest)) fault
  faulty_at xs s rest fault due = record { seen = s; stands = stands_at xs s rest; faulty = due }

  -- a node of the level is refused
  pub node_fault_in_level : (xs : List Sight) (s : Sight) (rest : List Sight) (old mid : ℕ → ℕ) (above : List ℕ) (fault : TreeFault) → IsTakenLevel t geo xs old mid above → IsNodeFault t geo s mid fault → IsLevelFault t geo (xs ++ (s ∷ rest)) old fault
  node_fault_in_level xs s rest old mid above (Checksum h k) level due = faulty_at xs s rest (Checksum h k) due
  node_fault_in_level xs s rest old mid above (Header h k) level due = faulty_at xs s rest (Header h k) due
  node_fault_in_level xs s rest old mid above (Level h k) level due = faulty_at xs s rest (Level h k) due
  node_fault_in_level xs s rest old mid above (Order h k) level due = faulty_at xs s rest (Order h k) due
  node_fault_in_level xs s rest old mid above (Range h k) level due = faulty_at xs s rest (Range h k) due
  node_fault_in_level xs s rest old mid above (Marked h k) level due =
      let n : ℕ = h * t.agblocks + k in
      let behind : List ℕ = children t s ++ flat_map (children t) rest in
      subst (λ (l : List ℕ). IsTwice old l n) (sym (flat_map-append (children t) xs (s ∷ rest)))
      (subst (λ (l : List ℕ). IsTwice old (l ++ behind) n) level.children_are
      (omega (arith, level.claimed n, due, times_in-append n above behind, times_in-append n (children t s) (flat_map (children t) rest))))
  node_fault_in_level xs s rest old mid above Device level due = tt
  node_fault_in_level xs s rest old mid above Memory level due = tt

  -- as many homes as records
  as_many : (b : Bool) (f : ℕ → R) (n at : ℕ) → length (cond b (replicate n at) []) ≡ length (cond b (map f (range_with_len 0 n)) [])
  as_many true f n at = length-replicate n at ∙ sym (length-map-range_with_len f 0 n)
  as_many false f n at = refl

  homes_many : (xs : List Sight) → length (homes_at t xs) ≡ length (records_at t xs)
  homes_many [] = refl
  homes_many (s ∷ xs) =
      length-append (cond (spells t s) (replicate (count_in s.bytes) s.at) []) (homes_at t xs)
      ∙ ap (λ (n : ℕ). n + length (homes_at t xs)) (as_many (spells t s) (record_at t.form s.bytes) (count_in s.bytes) s.at)
      ∙ ap (λ (n : ℕ). length (records_in t s) + n) (homes_many xs)
      ∙ sym (length-append (records_in t s) (records_at t xs))

  home_is : (b : Bool) (n at k : ℕ) → k < length (cond b (replicate n at) []) → get_or (cond b (replicate n at) []) k 0 ≡ at
  home_is true n at k lt = get_or-replicate n k at 0 (omega (arith, length-replicate n at))
  home_is false n at k lt = absurd (omega arith)

  -- record `n` of some leaves has the leaf that holds it as its home
  home_at : (xs : List Sight) (s : Sight) (rest : List Sight) (n : ℕ) → length (records_at t xs) ≤ n → n < length (records_at t xs) + length (records_in t s) → get_or (homes_at t (xs ++ (s ∷ rest))) n 0 ≡ s.at
  home_at xs s rest n low high =
      let own : List ℕ = cond (spells t s) (replicate (count_in s.bytes) s.at) [] in
      let long : length own ≡ length (records_in t s) = as_many (spells t s) (record_at t.form s.bytes) (count_in s.bytes) s.at in
      let before : length (homes_at t xs) ≡ length (records_at t xs) = homes_many xs in
      let whole : homes_at t (xs ++ (s ∷ rest)) ≡ homes_at t xs ++ (own ++ homes_at t rest) = flat_map-append (λ (x : Sight). cond (spells t x) (replicate (count_in x.bytes) x.at) []) xs (s ∷ rest) in
      ap (λ (l : List ℕ). get_or l n 0) whole
      ∙ get_or-append_right (homes_at t xs) (own ++ homes_at t rest) (length (homes_at t xs)) n 0 refl (omega arith)
      ∙ get_or_append_left own (homes_at t rest) 0 (n - length (homes_at t xs)) (omega arith)
      ∙ home_is (spells t s) (count_in s.bytes) s.at (n - length (homes_at t xs)) (omega arith)

  -- a record of a leaf that isn't after the one before it
  out_in_leaves : (xs : List Sight) (s : Sight) (rest : List Sight) (before : List R) (g b : ℕ) → before ≡ records_at t xs → Names t g b s.at → IsOutBehind t.form before (before ++ records_in t s) → IsOutOfOrder t (xs ++ (s ∷ rest)) g b
  out_in_leaves xs s rest before g b made names out =
      let so_far : List R = before ++ records_in t s in
      let later : List R = records_at t rest in
      let all : List R = records_at t (xs ++ (s ∷ rest)) in
      let whole : all ≡ so_far ++ later =
      flat_map-append (records_in t) xs (s ∷ rest) ∙ ap (λ (l : List R). l ++ (records_in t s ++ later)) (sym made) ∙ sym (append_assoc before (records_in t s) later) in
      let counted : length so_far ≡ length before + length (records_in t s) = length-append before (records_in t s) in
      let as_many_before : length before ≡ length (records_at t xs) = ap (λ (l : List R). length l) made in
      let long : length all ≡ length so_far + length later = ap (λ (l : List R). length l) whole ∙ length-append so_far later in
      let two : out.place + 1 < length so_far = out.two in
      let behind : length before ≤ out.place + 1 = out.behind in
      record {
        place = out.place;
        two = omega arith;
        unordered = λ d.
            ap (λ p. t.form.before p (get_or all (out.place + 1) d)) (ap (λ (l : List R). get_or l out.place d) whole ∙ get_or_append_left so_far later d out.place (omega arith))
            ∙ ap (λ q. t.form.before (get_or so_far out.place d) q) (ap (λ (l : List R). get_or l (out.place + 1) d) whole ∙ get_or_append_left so_far later d (out.place + 1) two)
            ∙ out.unordered d;
        home = subst (λ (n : ℕ). Names t g b n) (sym (home_at xs s rest (out.place + 1) (omega arith) (omega arith))) names;
      }

  -- a leaf of the level is refused
  pub leaf_fault_in_level : (xs : List Sight) (s : Sight) (rest : List Sight) (before : List R) (fault : TreeFault) → AreTakenLeaves t geo xs before → IsLeafFault t geo s before fault → AreLeavesFault t geo (xs ++ (s ∷ rest)) fault
  leaf_fault_in_level xs s rest before (Checksum h k) level due = faulty_at xs s rest (Checksum h k) due
  leaf_fault_in_level xs s rest before (Header h k) level due = faulty_at xs s rest (Header h k) due
  leaf_fault_in_level xs s rest before (Level h k) level due = faulty_at xs s rest (Level h k) due
  leaf_fault_in_level xs s rest before (Range h k) level due = faulty_at xs s rest (Range h k) due
  leaf_fault_in_level xs s rest before (Order h k) level due = out_in_leaves xs s rest before h k level.records_are due.0 due.1
  leaf_fault_in_level xs s rest before (Marked h k) level due = absurd due
  leaf_fault_in_level xs s rest before Device level due = tt
  leaf_fault_in_level xs s rest before Memory level due = tt

  -- the same, of a level's block `i` on the disk as it stands
  pub level_more_on : (disk now : ℕ → List ℕ) (height least : ℕ) (nodes : List ℕ) (i : ℕ) (old mid new : ℕ → ℕ) (above below : List ℕ) → now ≡ disk → i < length nodes
      → IsTakenLevel t geo (map (sight disk height least) (take i nodes)) old mid above → IsTakenNode t geo (sight now height least (get_or nodes i 0)) mid new above below
      → IsTakenLevel t geo (map (sight disk height least) (take (i + 1) nodes)) old new below
  level_more_on disk now height least nodes i old mid new above below same lt level node =
      let s : Sight = sight disk height least (get_or nodes i 0) in
      subst (λ (l : List Sight). IsTakenLevel t geo l old new below) (sym (map_next (sight disk height least) nodes i 0 lt))
      (level_more (map (sight disk height least) (take i nodes)) s old mid new above below level
      (subst (λ (d : ℕ → List ℕ). IsTakenNode t geo (sight d height least (get_or nodes i 0)) mid new above below) same node))

  pub node_fault_on : (disk now : ℕ → List ℕ) (height least : ℕ) (nodes : List ℕ) (i : ℕ) (old mid : ℕ → ℕ) (above : List ℕ) (fault : TreeFault) → now ≡ disk → i < length nodes
      → IsTakenLevel t geo (map (sight disk height least) (take i nodes)) old mid above → IsNodeFault t geo (sight now height least (get_or nodes i 0)) mid fault
      → IsLevelFault t geo (map (sight disk height least) nodes) old fault
  node_fault_on disk now height least nodes i old mid above fault same lt level due =
      let s : Sight = sight disk height least (get_or nodes i 0) in
      subst (λ (l : List Sight). IsLevelFault t geo l old fault) (sym (map_at (sight disk height least) nodes i 0 lt))
      (node_fault_in_level (map (sight disk height least) (take i nodes)) s (map (sight disk height least) (drop (i + 1) nodes)) old mid above fault level
      (subst (λ (d : ℕ → List ℕ). IsNodeFault t geo (sight d height least (get_or nodes i 0)) mid fault) same due))

  pub leaves_more_on : (disk now : ℕ → List ℕ) (height least : ℕ) (leaves : List ℕ) (i : ℕ) (before records : List R) → now ≡ disk → i < length leaves
      → AreTakenLeaves t geo (map (sight disk height least) (take i leaves)) before → IsTakenLeaf t geo (sight now height least (get_or leaves i 0)) before records
      → AreTakenLeaves t geo (map (sight disk height least) (take (i + 1) leaves)) records
  leaves_more_on disk now height least leaves i before records same lt level leaf =
      let s : Sight = sight disk height least (get_or leaves i 0) in
      subst (λ (l : List Sight). AreTakenLeaves t geo l records) (sym (map_next (sight disk height least) leaves i 0 lt))
      (leaves_more (map (sight disk height least) (take i leaves)) s before records level
      (subst (λ (d : ℕ → List ℕ). IsTakenLeaf t geo (sight d height least (get_or leaves i 0)) before records) same leaf))

  pub leaf_fault_on : (disk now : ℕ → List ℕ) (height least : ℕ) (leaves : List ℕ) (i : ℕ) (before : List R) (fault : TreeFault) → now ≡ disk → i < length leaves
      → AreTakenLeaves t geo (map (sight disk height least) (take i leaves)) before → IsLeafFault t geo (sight now height least (get_or leaves i 0)) before fault
      → AreLeavesFault t geo (map (sight disk height least) leaves) fault
  leaf_fault_on disk now height least leaves i before fault same lt level due =
      let s : Sight = sight disk height least (get_or leaves i 0) in
      subst (λ (l : List Sight). AreLeavesFault t geo l fault) (sym (map_at (sight disk height least) leaves i 0 lt))
      (leaf_fault_in_level (map (sight disk height least) (take i leaves)) s (map (sight disk height least) (drop (i + 1) leaves)) before fault level
      (subst (λ (d : ℕ → List ℕ). IsLeafFault t geo (sight d height least (get_or leaves i 0)) before fault) same due))
