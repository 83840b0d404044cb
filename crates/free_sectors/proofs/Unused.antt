-- What volumes don't use.
use Rattle.std.proofs.Common.{◌≡◌, ℕ, ◌+◌, ◌*◌, ◌/◌, ◌<◌, ◌≤◌, List, [], ◌∷◌, length, get_or, sym, ap, subst, ◌∙◌, arith, inl, inr, mul_comm}
use Rattle.std.specs.Prelude.{Contains}
use Rattle.std.proofs.lemmas.Bool.{cases_lt}
use Rattle.std.proofs.lemmas.Option.{slice_get-get_or, get_or_from_slice_get}
use Rattle.std.proofs.Math.ListN.{get_or-eq_default}
use Rattle.disk_base.specs.Run.{IsIn}
use Rattle.disk_base.specs.declared.run.Run.{Run}
use Rattle.disk_view.specs.Join.{IsInOne}
use Rattle.swap_area.specs.declared.header.Swap.{Swap}
use Rattle.volume_content.specs.declared.content.Inner.TheVariants as inner
use Rattle.xfs_alloc.specs.FreeSpace.{FreeSpace}
use Rattle.xfs_check.specs.Volume.{GroupSpace, VolumeSpace}
use Rattle.free_sectors.specs.Free.{IsFreeBlock, IsUnusedIn}
use Rattle.free_sectors.specs.inside.Adding.{DoesItem, IsFreeInGroup, SomeBelow, StandsInJoin}
use Rattle.free_sectors.proofs.Adding.{contained, some_item}

-- ---- all of a volume

pub in_one : (runs : List Run) (n x : ℕ) → SomeBelow n (DoesItem runs IsIn) x → IsInOne runs x
in_one runs n x some = record { run = some.2.0; among = contained runs some.0 some.2.0 some.2.1; is_in = some.2.2 }

pub one_in : (runs : List Run) (n x : ℕ) → length runs ≤ n → IsInOne runs x → SomeBelow n (DoesItem runs IsIn) x
one_in runs n x all one = some_item runs IsIn n x one.run all one.among one.is_in

-- ---- a group of an XFS volume

some_group : List (ℕ × ℕ) → GroupSpace
some_group runs = record {
  agf = record { seqno = 0; length = 0; bno_root = 0; cnt_root = 0; bno_level = 0; cnt_level = 0; flfirst = 0; fllast = 0; flcount = 0; freeblks = 0; longest = 0; btreeblks = 0; uuid = []; lsn = 0 };
  agi = record { seqno = 0; length = 0; count = 0; root = 0; level = 0; freecount = 0; newino = 0; dirino = 0; unlinked = []; uuid = []; lsn = 0; free_root = 0; free_level = 0; iblocks = 0; fblocks = 0 };
  free = record { runs = runs; starts = []; counts = [] };
}

-- what has a free space, whatever stands for a group that isn't there, is a group
known_group : (groups : List GroupSpace) (number : ℕ) (free : FreeSpace) → ((d : GroupSpace) → free ≡ (get_or groups number d).free) → number < length groups
unfolding some_group
known_group groups number free is = elim (cases_lt number (length groups)) [
  | inl inside ↦ inside
  | inr past ↦
      let one : free ≡ (some_group []).free = is (some_group []) ∙ ap (λ (g : GroupSpace). g.free) (get_or-eq_default groups (some_group []) past) in
      let other : free ≡ (some_group ((0, 0) ∷ [])).free = is (some_group ((0, 0) ∷ [])) ∙ ap (λ (g : GroupSpace). g.free) (get_or-eq_default groups (some_group ((0, 0) ∷ [])) past) in
      let runs : [] ≡ ((0, 0) ∷ []) = ap (λ (f : FreeSpace). f.runs) (sym one ∙ other) in
      absurd (cc runs)
]

-- what a run of free blocks is in the volume
abbrev pub RunStands : List Run → VolumeSpace → ℕ → ℕ × ℕ → ℕ → Type 0
RunStands runs volume number run x = StandsInJoin runs (8 * (volume.geometry.agblocks * number + run.0)) (8 * run.1) x

-- what is known of the free runs of a group
pub record AreFreeRuns (volume : VolumeSpace) (number : ℕ) (items : List (ℕ × ℕ)) : Type 0 where
  pub free : FreeSpace
  pub is_free : (d : GroupSpace) → free ≡ (get_or volume.groups number d).free
  pub items_are : items ≡ free.runs

pub in_group : (runs : List Run) (volume : VolumeSpace) (number n x : ℕ) (items : List (ℕ × ℕ)) → AreFreeRuns volume number items
    → SomeBelow n (DoesItem items (RunStands runs volume number)) x → IsFreeInGroup runs volume number x
in_group runs volume number n x items are some =
    let d : GroupSpace = some_group [] in
    let run : ℕ × ℕ = some.2.0 in
    let among : Contains are.free.runs run = subst (λ (l : List (ℕ × ℕ)). Contains l run) are.items_are (contained items some.0 run some.2.1) in
    record {
      group = get_or volume.groups number d;
      is_group = slice_get-get_or volume.groups number d (known_group volume.groups number are.free are.is_free);
      run = run;
      among = subst (λ (f : FreeSpace). Contains f.runs run) (are.is_free d) among;
      at = some.2.2;
    }

pub group_in : (runs : List Run) (volume : VolumeSpace) (number n x : ℕ) (items : List (ℕ × ℕ)) → AreFreeRuns volume number items → length items ≤ n
    → IsFreeInGroup runs volume number x → SomeBelow n (DoesItem items (RunStands runs volume number)) x
group_in runs volume number n x items are all there =
    let same : (get_or volume.groups number there.group).free ≡ there.group.free = ap (λ (g : GroupSpace). g.free) (get_or_from_slice_get volume.groups number there.group there.group there.is_group) in
    let among : Contains are.free.runs there.run = subst (λ (f : FreeSpace). Contains f.runs there.run) (sym (are.is_free there.group ∙ same)) there.among in
    let listed : Contains items there.run = subst (λ (l : List (ℕ × ℕ)). Contains l there.run) (sym are.items_are) among in
    some_item items (RunStands runs volume number) n x there.run all listed there.at

-- where a block of a group begins, said in either order
pub begins_at : (sector number a b block : ℕ) → sector ≡ 8 * (number * a + block) → a ≡ b → sector ≡ 8 * (b * number + block)
begins_at sector number a b block is same = is ∙ ap (λ (m : ℕ). 8 * (m + block)) (mul_comm number a ∙ ap (λ (m : ℕ). m * number) same)

-- ---- an XFS volume

pub xfs_to : (runs : List Run) (volume : VolumeSpace) (n x : ℕ) → n ≤ volume.geometry.agcount → SomeBelow n (IsFreeInGroup runs volume) x → IsUnusedIn runs (inner.Xfs volume) x
xfs_to runs volume n x few some =
    let there : IsFreeInGroup runs volume some.0 x = some.2 in
    let at : StandsInJoin runs (8 * (volume.geometry.agblocks * some.0 + there.run.0)) (8 * there.run.1) x = there.at in
    record {
      k = at.k;
      below = at.below;
      unused = record {
        number = some.0;
        known = omega (arith, some.1, few);
        group = there.group;
        is_group = there.is_group;
        run = there.run;
        among = there.among;
        is_in = record { from = eighth_from _ _ at.from; before = eighth_before _ _ _ at.before };
      };
      stands = at.stands;
    }
  where
    eighth_from : (b k : ℕ) → 8 * b ≤ k → b ≤ k / 8
    eighth_from b k h = omega (arith, h)

    eighth_before : (b c k : ℕ) → k < 8 * b + 8 * c → k / 8 < b + c
    eighth_before b c k h = omega (arith, h)

pub xfs_back : (runs : List Run) (volume : VolumeSpace) (n x : ℕ) → volume.geometry.agcount ≤ n → IsUnusedIn runs (inner.Xfs volume) x → SomeBelow n (IsFreeInGroup runs volume) x
xfs_back runs volume n x all unused =
    let block : IsFreeBlock volume (unused.k / 8) = unused.unused in (
      block.number,
      omega (arith, block.known, all),
      record {
        group = block.group;
        is_group = block.is_group;
        run = block.run;
        among = block.among;
        at = record { k = unused.k; from = from _ _ block.is_in.from; before = before _ _ _ block.is_in.before; below = unused.below; stands = unused.stands };
      },
    )
  where
    from : (b k : ℕ) → b ≤ k / 8 → 8 * b ≤ k
    from b k h = omega (arith, h)

    before : (b c k : ℕ) → k / 8 < b + c → k < 8 * b + 8 * c
    before b c k h = omega (arith, h)

-- ---- a swap area

pub swap_to : (runs : List Run) (swap : Swap) (x : ℕ) → StandsInJoin runs 8 (8 * swap.last_page) x → IsUnusedIn runs (inner.Swap swap) x
swap_to runs swap x at = record { k = at.k; below = at.below; unused = (omega (arith, at.from), omega (arith, at.before)); stands = at.stands }

pub swap_back : (runs : List Run) (swap : Swap) (x : ℕ) → IsUnusedIn runs (inner.Swap swap) x → StandsInJoin runs 8 (8 * swap.last_page) x
swap_back runs swap x unused =
    record { k = unused.k; from = omega (arith, unused.unused.0); before = omega (arith, unused.unused.1); below = unused.below; stands = unused.stands }
