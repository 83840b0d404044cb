-- A whole tree, level by level.
use Rattle.std.proofs.Common.{◌≡◌, ℕ, zero, suc, ◌+◌, ◌*◌, ◌≤◌, List, [], ◌∷◌, ◌++◌, map, inl, inr, refl, sym, ap, subst, ◌∙◌, arith, add-one, append_assoc}
use Rattle.std.specs.List.{All, Contains, flat_map}
use Rattle.std.proofs.lemmas.Grind.{flat_map-append}
use Rattle.std.proofs.lemmas.List.{append-nil, map-append, map_push}
use Rattle.std.proofs.lemmas.List.Folds.{flat_map-map}
use Rattle.std.proofs.lemmas.List.Elements.{All-append, All-nil, Contains-append_left, Contains-append_right}
use Rattle.xfs_super.specs.Geometry.{Geometry}
use Rattle.xfs_tree.specs.declared.fault.TreeFault.{TreeFault}
use Rattle.xfs_tree.specs.declared.fault.TreeFault.TheVariants.{Checksum, Header, Level, Order, Range, Marked, Device, Memory}
use Rattle.xfs_tree.specs.Form.{Setting}
use Rattle.xfs_tree.specs.Block.{Sight, sight, children, IsSoundBlock}
use Rattle.xfs_tree.specs.Marks.{IsClaimFault, Claims, marked}
use Rattle.block_claims.specs.Agreement.{Claimed, IsTwice, times_in}
use Rattle.xfs_tree.specs.inside.Reading.{IsTakenLevel, AreTakenLeaves, IsLevelFault, AreLeavesFault}
use Rattle.xfs_tree.specs.Tree.{levels_below, all_sights, blocks_of, leaves_of, records_at, records_of, AreInOrder, IsOutOfOrder, IsTree, HasFaultyBlock, HasTreeFault}
use Rattle.xfs_tree.proofs.Claims.{claimed_free}
use Rattle.block_claims.proofs.Agreements.{claimed_on, times_in-append}
use Rattle.xfs_tree.proofs.Levels.{pieces_more}

-- the numbers of what is seen
pub numbers_seen : (disk : ℕ → List ℕ) (height least : ℕ) (nodes : List ℕ) → map (λ (s : Sight). s.at) (map (sight disk height least) nodes) ≡ nodes
numbers_seen disk height least [] = refl
numbers_seen disk height least (n ∷ ns) = ap (λ (l : List ℕ). n ∷ l) (numbers_seen disk height least ns)

-- the levels of a tree, one by one
pub levels_node : {R : Type 0} (t : Setting R) (disk : ℕ → List ℕ) (h k least : ℕ) (nodes : List ℕ) → h ≡ k + 1
    → levels_below t disk h least nodes ≡ map (sight disk h least) nodes ∷ levels_below t disk k 1 (flat_map (children t) (map (sight disk h least) nodes))
unfolding levels_below
levels_node t disk h k least nodes e =
    subst (λ (n : ℕ). levels_below t disk n least nodes ≡ map (sight disk n least) nodes ∷ levels_below t disk k 1 (flat_map (children t) (map (sight disk n least) nodes))) (sym (e ∙ add-one k))
    (ap (λ (l : List ℕ). map (sight disk (suc k) least) nodes ∷ levels_below t disk k 1 l) (sym (flat_map-map (children t) (sight disk (suc k) least) nodes)))

pub levels_leaves : {R : Type 0} (t : Setting R) (disk : ℕ → List ℕ) (h least : ℕ) (nodes : List ℕ) → h ≡ 0 → levels_below t disk h least nodes ≡ map (sight disk 0 least) nodes ∷ []
unfolding levels_below
levels_leaves t disk h least nodes e = ap (λ (n : ℕ). levels_below t disk n least nodes) e

pub leaves_last : (done : List (List Sight)) (l : List Sight) → leaves_of (done ++ l ∷ []) ≡ l
unfolding leaves_of
leaves_last [] l = refl
leaves_last (d ∷ []) l = refl
leaves_last (d ∷ e ∷ ds) l = leaves_last (e ∷ ds) l

joined_more : (done : List (List Sight)) (l : List Sight) → all_sights (done ++ l ∷ []) ≡ all_sights done ++ l
joined_more done l = pieces_more (λ (x : List Sight). x) done l

pub joined_at : (done : List (List Sight)) (l : List Sight) (rest : List (List Sight)) → all_sights (done ++ (l ∷ rest)) ≡ all_sights done ++ (l ++ all_sights rest)
joined_at done l rest = flat_map-append (λ (x : List Sight). x) done (l ∷ rest)

pub blocks_at : (done : List (List Sight)) (l : List Sight) (rest : List (List Sight)) → blocks_of (done ++ (l ∷ rest)) ≡ blocks_of done ++ (map (λ s. s.at) l ++ blocks_of rest)
blocks_at done l rest =
    ap (λ (ss : List Sight). map (λ s. s.at) ss) (joined_at done l rest) ∙ map-append (λ (s : Sight). s.at) (all_sights done) (l ++ all_sights rest)
    ∙ ap (λ (ns : List ℕ). blocks_of done ++ ns) (map-append (λ (s : Sight). s.at) l (all_sights rest))

blocks_more : (done : List (List Sight)) (l : List Sight) → blocks_of (done ++ l ∷ []) ≡ blocks_of done ++ map (λ s. s.at) l
blocks_more done l = ap (λ (ss : List Sight). map (λ s. s.at) ss) (joined_more done l) ∙ map-append (λ (s : Sight). s.at) (all_sights done) l

-- a tree's uppermost blocks are among its blocks
pub top_blocks : {R : Type 0} (t : Setting R) (disk : ℕ → List ℕ) (height least : ℕ) (nodes : List ℕ) (n : ℕ) → times_in n nodes ≤ times_in n (blocks_of (levels_below t disk height least nodes))
unfolding levels_below
top_blocks t disk zero least nodes n =
    let all : blocks_of (levels_below t disk 0 least nodes) ≡ nodes = ap (λ (ss : List Sight). map (λ s. s.at) ss) (append-nil (map (sight disk 0 least) nodes)) ∙ numbers_seen disk 0 least nodes in
    subst (λ (l : List ℕ). times_in n nodes ≤ times_in n l) (sym all) (omega arith)
top_blocks t disk (suc height) least nodes n =
    let here : List Sight = map (sight disk (suc height) least) nodes in
    let rest : List (List Sight) = levels_below t disk height 1 (flat_map (λ b. children t (sight disk (suc height) least b)) nodes) in
    let all : blocks_of (here ∷ rest) ≡ nodes ++ blocks_of rest = blocks_at [] here rest ∙ ap (λ (l : List ℕ). l ++ blocks_of rest) (numbers_seen disk (suc height) least nodes) in
    subst (λ (l : List ℕ). times_in n nodes ≤ times_in n l) (sym all) (omega (arith, times_in-append n nodes (blocks_of rest)))

-- what a walk knows when it comes to the nodes of that height: what was seen above them, of which `upper` are the numbers
pub record IsWalkedTo {R : Type 0} (t : Setting R) (geo : Geometry) (whole : List (List Sight)) (disk : ℕ → List ℕ) (old new : ℕ → ℕ) (height least : ℕ) (nodes : List ℕ) (upper : List (List ℕ)) : Type 0 where
  pub done : List (List Sight)
  pub split : whole ≡ done ++ levels_below t disk height least nodes
  pub upper_are : upper ≡ map (λ l. map (λ (s : Sight). s.at) l) done
  pub sound : All (IsSoundBlock t geo) (all_sights done)
  pub claimed : Claimed old (blocks_of done ++ nodes) new

module _ {R : Type 0} (t : Setting R) (geo : Geometry) where
  -- at the uppermost blocks
  pub walked_root : (disk : ℕ → List ℕ) (old new : ℕ → ℕ) (height h least : ℕ) (blocks lent : List ℕ) (upper : List (List ℕ)) → h ≡ height → lent ≡ blocks → upper ≡ [] → Claimed old lent new
      → IsWalkedTo t geo (levels_below t disk height least blocks) disk old new h least blocks upper
  walked_root disk old new height h least blocks lent upper high are none claimed = record {
    done = [];
    split = ap (λ (n : ℕ). levels_below t disk n least blocks) (sym high);
    upper_are = none;
    sound = All-nil (IsSoundBlock t geo);
    claimed = subst (λ (l : List ℕ). Claimed old l new) are claimed;
  }

  -- one level further
  pub walked_more : (whole : List (List Sight)) (disk : ℕ → List ℕ) (old mid new : ℕ → ℕ) (h k least : ℕ) (nodes below : List ℕ) (upper : List (List ℕ)) → h ≡ k + 1
      → IsWalkedTo t geo whole disk old mid h least nodes upper → IsTakenLevel t geo (map (sight disk h least) nodes) mid new below → IsWalkedTo t geo whole disk old new k 1 below (upper ++ nodes ∷ [])
  walked_more whole disk old mid new h k least nodes below upper e w taken =
      let here : List Sight = map (sight disk h least) nodes in
      let numbers : List Sight → List ℕ = λ l. map (λ s. s.at) l in
      let more : blocks_of (w.done ++ here ∷ []) ≡ blocks_of w.done ++ nodes = blocks_more w.done here ∙ ap (λ (l : List ℕ). blocks_of w.done ++ l) (numbers_seen disk h least nodes) in
      record {
        done = w.done ++ here ∷ [];
        split = w.split ∙ ap (λ (l : List (List Sight)). w.done ++ l) (levels_node t disk h k least nodes e)
            ∙ ap (λ (l : List ℕ). w.done ++ (here ∷ levels_below t disk k 1 l)) (sym taken.children_are)
            ∙ sym (append_assoc w.done (here ∷ []) (levels_below t disk k 1 below));
        upper_are = ap (λ (l : List (List ℕ)). l ++ nodes ∷ []) w.upper_are ∙ ap (λ (l : List ℕ). map numbers w.done ++ l ∷ []) (sym (numbers_seen disk h least nodes)) ∙ sym (map_push numbers w.done here);
        sound = subst (λ (l : List Sight). All (IsSoundBlock t geo) l) (sym (joined_more w.done here)) (All-append (IsSoundBlock t geo) (all_sights w.done) here w.sound taken.sound);
        claimed = subst (λ (l : List ℕ). Claimed old (l ++ below) new) (sym more) (claimed_on old mid new (blocks_of w.done ++ nodes) below w.claimed taken.claimed);
      }

  -- at the leaves
  pub walked_tree : (whole : List (List Sight)) (disk : ℕ → List ℕ) (old : ℕ → ℕ) (agblocks : ℕ) (new : Claims) (h least : ℕ) (nodes : List ℕ) (upper : List (List ℕ)) (records : List R) → h ≡ 0
      → IsWalkedTo t geo whole disk old (marked agblocks new) h least nodes upper → AreTakenLeaves t geo (map (sight disk 0 least) nodes) records → AreInOrder t.form records
      → IsTree t geo whole old records × Claimed old (blocks_of whole) (marked agblocks new) × (upper ++ nodes ∷ [] ≡ map (λ l. map (λ (s : Sight). s.at) l) whole)
  walked_tree whole disk old agblocks new h least nodes upper records e w taken order =
      let here : List Sight = map (sight disk 0 least) nodes in
      let numbers : List Sight → List ℕ = λ l. map (λ s. s.at) l in
      let is : whole ≡ w.done ++ here ∷ [] = w.split ∙ ap (λ (l : List (List Sight)). w.done ++ l) (levels_leaves t disk h least nodes e) in
      let blocks : blocks_of whole ≡ blocks_of w.done ++ nodes = ap blocks_of is ∙ blocks_more w.done here ∙ ap (λ (l : List ℕ). blocks_of w.done ++ l) (numbers_seen disk 0 least nodes) in
      let claimed : Claimed old (blocks_of whole) (marked agblocks new) = subst (λ (l : List ℕ). Claimed old l (marked agblocks new)) (sym blocks) w.claimed in
      let records_are : records ≡ records_of t whole = taken.records_are ∙ ap (λ (l : List Sight). records_at t l) (sym (ap leaves_of is ∙ leaves_last w.done here)) in
      let all : all_sights whole ≡ all_sights w.done ++ here = ap all_sights is ∙ joined_more w.done here in (
        record {
          sound = record {
            blocks = subst (λ (l : List Sight). All (IsSoundBlock t geo) l) (sym all) (All-append (IsSoundBlock t geo) (all_sights w.done) here w.sound taken.sound);
            order = subst (λ (l : List R). AreInOrder t.form l) records_are order;
          };
          free = claimed_free old agblocks new (blocks_of whole) claimed;
          records_are = records_are;
        },
        claimed,
        ap (λ (l : List (List ℕ)). l ++ nodes ∷ []) w.upper_are ∙ ap (λ (l : List ℕ). map numbers w.done ++ l ∷ []) (sym (numbers_seen disk 0 least nodes)) ∙ sym (map_push numbers w.done here) ∙ ap (map numbers) (sym is),
      )

  faulty_in : (whole done : List (List Sight)) (here : List Sight) (rest : List (List Sight)) (fault : TreeFault) → whole ≡ done ++ (here ∷ rest) → HasFaultyBlock t geo here fault → HasFaultyBlock t geo (all_sights whole) fault
  faulty_in whole done here rest fault is due = record {
    seen = due.seen;
    stands = subst (λ (l : List Sight). Contains l due.seen) (sym (ap all_sights is ∙ joined_at done here rest))
        (Contains-append_right (all_sights done) (here ++ all_sights rest) due.seen (Contains-append_left here (all_sights rest) due.seen due.stands));
    faulty = due.faulty;
  }

  level_cases : (whole done : List (List Sight)) (here : List Sight) (rest : List (List Sight)) (disk : ℕ → List ℕ) (mid : ℕ → ℕ) (k : ℕ) (nodes : List ℕ) (old : ℕ → ℕ) (fault : TreeFault) → whole ≡ done ++ (here ∷ rest)
      → rest ≡ levels_below t disk k 1 (flat_map (children t) here) → map (λ s. s.at) here ≡ nodes → Claimed old (blocks_of done ++ nodes) mid → IsLevelFault t geo here mid fault → HasTreeFault t geo whole old fault
  level_cases whole done here rest disk mid k nodes old (Checksum g b) is rest_is are claimed due = faulty_in whole done here rest (Checksum g b) is due
  level_cases whole done here rest disk mid k nodes old (Header g b) is rest_is are claimed due = faulty_in whole done here rest (Header g b) is due
  level_cases whole done here rest disk mid k nodes old (Level g b) is rest_is are claimed due = faulty_in whole done here rest (Level g b) is due
  level_cases whole done here rest disk mid k nodes old (Range g b) is rest_is are claimed due = faulty_in whole done here rest (Range g b) is due
  level_cases whole done here rest disk mid k nodes old (Order g b) is rest_is are claimed due = inl (faulty_in whole done here rest (Order g b) is due)
  level_cases whole done here rest disk mid k nodes old (Marked g b) is rest_is are claimed due =
      let n : ℕ = g * t.agblocks + b in
      let below : List ℕ = flat_map (children t) here in
      let all : blocks_of whole ≡ blocks_of done ++ (nodes ++ blocks_of rest) = ap blocks_of is ∙ blocks_at done here rest ∙ ap (λ (l : List ℕ). blocks_of done ++ (l ++ blocks_of rest)) are in
      let under : times_in n below ≤ times_in n (blocks_of rest) = subst (λ (l : List (List Sight)). times_in n below ≤ times_in n (blocks_of l)) (sym rest_is) (top_blocks t disk k 1 below n) in
      subst (λ (l : List ℕ). IsTwice old l n) (sym all)
      (omega (arith, claimed n, due, under, times_in-append n (blocks_of done) (nodes ++ blocks_of rest), times_in-append n nodes (blocks_of rest), times_in-append n (blocks_of done) nodes))
  level_cases whole done here rest disk mid k nodes old Device is rest_is are claimed due = tt
  level_cases whole done here rest disk mid k nodes old Memory is rest_is are claimed due = tt

  -- a level of nodes is refused
  pub level_fault_in_tree : (whole : List (List Sight)) (disk : ℕ → List ℕ) (old mid : ℕ → ℕ) (h k least : ℕ) (nodes : List ℕ) (upper : List (List ℕ)) (fault : TreeFault) → h ≡ k + 1
      → IsWalkedTo t geo whole disk old mid h least nodes upper → IsLevelFault t geo (map (sight disk h least) nodes) mid fault → HasTreeFault t geo whole old fault
  level_fault_in_tree whole disk old mid h k least nodes upper fault e w due =
      let here : List Sight = map (sight disk h least) nodes in
      let rest : List (List Sight) = levels_below t disk k 1 (flat_map (children t) here) in
      level_cases whole w.done here rest disk mid k nodes old fault (w.split ∙ ap (λ (l : List (List Sight)). w.done ++ l) (levels_node t disk h k least nodes e)) refl (numbers_seen disk h least nodes) w.claimed due

  -- the leaves are refused
  leaves_cases : (whole done : List (List Sight)) (here : List Sight) (old : ℕ → ℕ) (fault : TreeFault) → whole ≡ done ++ here ∷ [] → AreLeavesFault t geo here fault → HasTreeFault t geo whole old fault
  leaves_cases whole done here old (Checksum g b) is due = faulty_in whole done here [] (Checksum g b) is due
  leaves_cases whole done here old (Header g b) is due = faulty_in whole done here [] (Header g b) is due
  leaves_cases whole done here old (Level g b) is due = faulty_in whole done here [] (Level g b) is due
  leaves_cases whole done here old (Range g b) is due = faulty_in whole done here [] (Range g b) is due
  leaves_cases whole done here old (Order g b) is due = inr (subst (λ (l : List Sight). IsOutOfOrder t l g b) (sym (ap leaves_of is ∙ leaves_last done here)) due)
  leaves_cases whole done here old (Marked g b) is due = absurd due
  leaves_cases whole done here old Device is due = tt
  leaves_cases whole done here old Memory is due = tt

  pub leaves_fault_in_tree : (whole : List (List Sight)) (disk : ℕ → List ℕ) (old new : ℕ → ℕ) (h least : ℕ) (nodes : List ℕ) (upper : List (List ℕ)) (fault : TreeFault) → h ≡ 0
      → IsWalkedTo t geo whole disk old new h least nodes upper → AreLeavesFault t geo (map (sight disk 0 least) nodes) fault → HasTreeFault t geo whole old fault
  leaves_fault_in_tree whole disk old new h least nodes upper fault e w due =
      leaves_cases whole w.done (map (sight disk 0 least) nodes) old fault (w.split ∙ ap (λ (l : List (List Sight)). w.done ++ l) (levels_leaves t disk h least nodes e)) due

  -- the uppermost blocks can't be claimed
  pub root_fault_in_tree : (disk : ℕ → List ℕ) (height least : ℕ) (blocks : List ℕ) (old : ℕ → ℕ) (fault : TreeFault) → IsClaimFault t.agblocks old blocks fault → HasTreeFault t geo (levels_below t disk height least blocks) old fault
  root_fault_in_tree disk height least blocks old (Checksum g b) due = absurd due
  root_fault_in_tree disk height least blocks old (Header g b) due = absurd due
  root_fault_in_tree disk height least blocks old (Level g b) due = absurd due
  root_fault_in_tree disk height least blocks old (Range g b) due = absurd due
  root_fault_in_tree disk height least blocks old (Order g b) due = absurd due
  root_fault_in_tree disk height least blocks old (Marked g b) due = omega (arith, due, top_blocks t disk height least blocks (g * t.agblocks + b))
  root_fault_in_tree disk height least blocks old Device due = absurd due
  root_fault_in_tree disk height least blocks old Memory due = tt

  -- the same, of what a call found that was handed the disk as it stands and the nodes as a slice
  pub walked_more_on : (whole : List (List Sight)) (disk now : ℕ → List ℕ) (old mid new : ℕ → ℕ) (h k least : ℕ) (nodes lent below : List ℕ) (upper more : List (List ℕ)) → now ≡ disk → lent ≡ nodes → h ≡ k + 1 → more ≡ upper ++ nodes ∷ []
      → IsWalkedTo t geo whole disk old mid h least nodes upper → IsTakenLevel t geo (map (sight now h least) lent) mid new below → IsWalkedTo t geo whole disk old new k 1 below more
  walked_more_on whole disk now old mid new h k least nodes lent below upper more same are e pushed w taken =
      subst (λ (u : List (List ℕ)). IsWalkedTo t geo whole disk old new k 1 below u) (sym pushed)
      (walked_more whole disk old mid new h k least nodes below upper e w
      (subst (λ (d : ℕ → List ℕ). IsTakenLevel t geo (map (sight d h least) nodes) mid new below) same (subst (λ (l : List ℕ). IsTakenLevel t geo (map (sight now h least) l) mid new below) are taken)))

  pub walked_tree_on : (whole : List (List Sight)) (disk now : ℕ → List ℕ) (old : ℕ → ℕ) (agblocks : ℕ) (new : Claims) (h least : ℕ) (nodes lent : List ℕ) (upper more : List (List ℕ)) (records : List R) → now ≡ disk → lent ≡ nodes → h ≡ 0 → more ≡ upper ++ nodes ∷ []
      → IsWalkedTo t geo whole disk old (marked agblocks new) h least nodes upper → AreTakenLeaves t geo (map (sight now 0 least) lent) records → AreInOrder t.form records
      → IsTree t geo whole old records × Claimed old (blocks_of whole) (marked agblocks new) × (more ≡ map (λ l. map (λ (s : Sight). s.at) l) whole)
  walked_tree_on whole disk now old agblocks new h least nodes lent upper more records same are e pushed w taken order =
      let p = walked_tree whole disk old agblocks new h least nodes upper records e w
      (subst (λ (d : ℕ → List ℕ). AreTakenLeaves t geo (map (sight d 0 least) nodes) records) same (subst (λ (l : List ℕ). AreTakenLeaves t geo (map (sight now 0 least) l) records) are taken)) order in
      (p.0, p.1, pushed ∙ p.2)

  pub level_fault_on : (whole : List (List Sight)) (disk now : ℕ → List ℕ) (old mid : ℕ → ℕ) (h k least : ℕ) (nodes lent : List ℕ) (upper : List (List ℕ)) (fault : TreeFault) → now ≡ disk → lent ≡ nodes → h ≡ k + 1
      → IsWalkedTo t geo whole disk old mid h least nodes upper → IsLevelFault t geo (map (sight now h least) lent) mid fault → HasTreeFault t geo whole old fault
  level_fault_on whole disk now old mid h k least nodes lent upper fault same are e w due =
      level_fault_in_tree whole disk old mid h k least nodes upper fault e w
      (subst (λ (d : ℕ → List ℕ). IsLevelFault t geo (map (sight d h least) nodes) mid fault) same (subst (λ (l : List ℕ). IsLevelFault t geo (map (sight now h least) l) mid fault) are due))

  pub leaves_fault_on : (whole : List (List Sight)) (disk now : ℕ → List ℕ) (old new : ℕ → ℕ) (h least : ℕ) (nodes lent : List ℕ) (upper : List (List ℕ)) (fault : TreeFault) → now ≡ disk → lent ≡ nodes → h ≡ 0
      → IsWalkedTo t geo whole disk old new h least nodes upper → AreLeavesFault t geo (map (sight now 0 least) lent) fault → HasTreeFault t geo whole old fault
  leaves_fault_on whole disk now old new h least nodes lent upper fault same are e w due =
      leaves_fault_in_tree whole disk old new h least nodes upper fault e w
      (subst (λ (d : ℕ → List ℕ). AreLeavesFault t geo (map (sight d 0 least) nodes) fault) same (subst (λ (l : List ℕ). AreLeavesFault t geo (map (sight now 0 least) l) fault) are due))

  pub root_fault_on : (disk : ℕ → List ℕ) (height least : ℕ) (blocks lent : List ℕ) (old : ℕ → ℕ) (fault : TreeFault) → lent ≡ blocks → IsClaimFault t.agblocks old lent fault → HasTreeFault t geo (levels_below t disk height least blocks) old fault
  root_fault_on disk height least blocks lent old fault are due = root_fault_in_tree disk height least blocks old fault (subst (λ (l : List ℕ). IsClaimFault t.agblocks old l fault) are due)
