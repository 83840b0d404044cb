-- What partitions hold is found in them, and is the same wherever their sectors are.
use Rattle.std.proofs.Common.{◌≡◌, ℕ, ◌+◌, ◌*◌, ◌/◌, ◌%◌, ◌<◌, ◌≤◌, ◌⊎◌, inl, inr, min, max, List, [], ◌∷◌, length, take, drop, ◌-◌, arith, refl, sym, ap, subst, ◌∙◌, All, Option, Some, None}
use Rattle.std.proofs.lemmas.List.{drop-take, take-take, drop-drop}
use Rattle.std.proofs.lemmas.List.Elements.{All-cons, All-nil, All-same}
use Rattle.std.specs.List.{AllZip}
use Rattle.disk_base.specs.Image.{bytes_at, sector}
use Rattle.disk_base.proofs.Images.{length-range}
use Rattle.disk_base.specs.declared.run.Run.{Run}
use Rattle.group_content.specs.declared.types.FoundPartition.{FoundPartition}
use Rattle.group_content.specs.declared.types.Membership.{Membership}
use Rattle.group_content.specs.declared.types.Standing.{Standing}
use Rattle.group_content.specs.declared.types.Standing.TheVariants as standing
use Rattle.layout_plan.specs.declared.part.Role.{Role}
use Rattle.layout_plan.specs.declared.part.Role.TheVariants.{Slot as InSlot, Extended as IsOuter, Logical as InChain}
use Rattle.lvm_label.specs.Ring.{IsAreaPlaced, IsPlacedBy, RingArea, place_of_area}
use Rattle.lvm_label.specs.declared.label.Label.{Label}
use Rattle.partition_content.proofs.Staying.{found_fits, found_stays, physical_some, xfs_some}
use Rattle.partition_content.specs.Found.{AreasFit, FoundFits, IsFoundIn, SecondFits}
use Rattle.partition_content.specs.Laws.{ShareSectors}
use Rattle.partition_content.specs.declared.found.Found.{Found}
use Rattle.partition_content.specs.declared.found.Found.TheVariants as found
use Rattle.partition_content.specs.declared.found.Physical.{Physical}
use Rattle.volume_content.specs.declared.content.Inner.{Inner}
use Rattle.volume_content.specs.declared.content.Inner.TheVariants as inner
use Rattle.xfs_check.specs.Volume.{VolumeSpace}
use Rattle.swap_area.specs.declared.header.Swap.{Swap as SwapHeader}
use Rattle.guest_view.specs.declared.content.Content.{Content}
use Rattle.guest_view.specs.declared.content.Content.TheVariants.{Extended, Xfs, Swap, Group, Member, Unread}
use Rattle.guest_view.specs.declared.guest.GuestPart.{GuestPart}
use Rattle.guest_view.specs.declared.partition.Partition.{Partition}
use Rattle.guest_view.specs.Contents.{IsFoundAs, IsFoundPartition, area_end, content_by, content_of_found, needed_by_member, needed_sectors, part_with, parts_with, run_of_partition, second_end}
use Rattle.guest_view.specs.Laws.{ContentsAreFound, ContentsStay, IsContentOf, IsUncut, StaysContent, part_bytes}
use Rattle.guest_view.specs.Partitions.{partitions_of}

-- ---- each content is what is found

content_found : (count : ℕ) (bytes : List ℕ) (f : Found) (s : Standing) → IsFoundIn count bytes f → IsContentOf (content_of_found f s) count bytes
content_found count bytes (found.Inner (inner.Xfs volume)) s is = is
content_found count bytes (found.Inner (inner.Swap swap)) s is = is
content_found count bytes (found.Inner (inner.Unread cause)) s is = tt
content_found count bytes (found.Physical physical) standing.Alone is = tt
content_found count bytes (found.Physical physical) (standing.Holder membership group) is = is
content_found count bytes (found.Physical physical) (standing.Member membership) is = is
content_found count bytes (found.Physical physical) (standing.Unread cause) is = tt

found_by_role : (image : List ℕ) (run : Run) (r : Role) (f : Found) (s : Standing) → IsFoundAs r image run f
    → IsContentOf (content_by r f s) run.count (bytes_at image (512 * run.start) (512 * run.count))
found_by_role image run IsOuter f s is = tt
found_by_role image run InSlot f s is = content_found run.count (bytes_at image (512 * run.start) (512 * run.count)) f s is
found_by_role image run InChain f s is = content_found run.count (bytes_at image (512 * run.start) (512 * run.count)) f s is

abbrev HoldsContent : List ℕ → GuestPart → Type 0
HoldsContent image part = IsContentOf part.content part.count (part_bytes image part)

all_found : (image : List ℕ) (ps : List Partition) (xs : List FoundPartition) (ss : List Standing) → AllZip (IsFoundPartition image) ps xs
    → All (HoldsContent image) (parts_with ps xs ss)
all_found image [] xs ss zip = All-nil (HoldsContent image)
all_found image (p ∷ ps) [] ss zip = All-nil (HoldsContent image)
all_found image (p ∷ ps) (x ∷ xs) [] zip = All-nil (HoldsContent image)
all_found image (p ∷ ps) (x ∷ xs) (s ∷ ss) zip =
    All-cons (HoldsContent image) (part_with p (content_by p.role x.found s)) (parts_with ps xs ss)
    (found_by_role image (run_of_partition p) p.role x.found s zip.0.found) (all_found image ps xs ss zip.1)

pub contents_are_found : ContentsAreFound
contents_are_found sectors image guest is =
    All-same (HoldsContent image) guest.parts (parts_with (partitions_of guest.table) is.contents.found is.contents.standings) is.contents.parts_are
    (all_found image (partitions_of guest.table) is.contents.found is.contents.standings is.contents.are_found)

-- ---- each content stays

-- an area of whole sectors that ends before a number of them
area_in : (count more start size : ℕ) → IsAreaPlaced count start size → (count ≤ more) ⊎ ((start + size) / 512 ≤ more) → IsAreaPlaced (min count more) start size
area_in count more start size placed uncut = record {
  whole_start = placed.whole_start;
  whole_length = placed.whole_length;
  least = placed.least;
  most = placed.most;
  inside = elim uncut [
    | inl long ↦ omega (arith, placed.inside, long)
    | inr few ↦ omega (arith, placed.inside, placed.whole_start, placed.whole_length, few)
  ];
}

-- what the needs of a physical volume cover
covers : (x : Physical) (m : Membership) (count more : ℕ) → (count ≤ more) ⊎ (needed_by_member x m ≤ more)
    → ((count ≤ more) ⊎ (area_end x.label 0 ≤ more)) × ((count ≤ more) ⊎ (second_end x.label x.second ≤ more)) × ((count ≤ more) ⊎ (4 ≤ more))
covers x m count more (inl long) = (inl long, inl long, inl long)
covers x m count more (inr few) = (
  inr (omega (arith, few)),
  inr (omega (arith, few)),
  inr (omega (arith, few)),
)

second_in : (count more : ℕ) (label : Label) (o : Option RingArea) → SecondFits count label o → (count ≤ more) ⊎ (second_end label o ≤ more) → SecondFits (min count more) label o
second_in count more label None fits uncut = fits
second_in count more label (Some ring) fits uncut = area_in count more (place_of_area label 1).0 (place_of_area label 1).1 fits uncut

areas_in : (count more : ℕ) (x : Physical) (m : Membership) → AreasFit count x → (count ≤ more) ⊎ (needed_by_member x m ≤ more) → AreasFit (min count more) x
areas_in count more x m fits uncut =
    let all = covers x m count more uncut in
    record {
      few = fits.few;
      first = area_in count more (place_of_area x.label 0).0 (place_of_area x.label 0).1 fits.first all.0;
      second = second_in count more x.label x.second fits.second all.1;
    }

four_in : (count more : ℕ) → 4 ≤ count → (count ≤ more) ⊎ (4 ≤ more) → 4 ≤ min count more
four_in count more some (inl long) = omega (arith, some, long)
four_in count more some (inr four) = omega (arith, some, four)

least_in : (n count more : ℕ) → n ≤ count → (count ≤ more) ⊎ (n ≤ more) → n ≤ min count more
least_in n count more fits (inl long) = omega (arith, fits, long)
least_in n count more fits (inr few) = omega (arith, fits, few)

physical_again : (x : Physical) (m : Membership) (count more : ℕ) (bytes other : List ℕ) → IsFoundIn count bytes (found.Physical x) → (count ≤ more) ⊎ (needed_by_member x m ≤ more)
    → ShareSectors (min count more) bytes other → IsFoundIn more other (found.Physical x)
physical_again x m count more bytes other is uncut share =
    found_stays count (min count more) more bytes other (found.Physical x) is (four_in count more (physical_some count bytes x is) (covers x m count more uncut).2)
    (areas_in count more x m (found_fits count bytes (found.Physical x) is) uncut) (omega arith) share

xfs_again : (volume : VolumeSpace) (count more : ℕ) (bytes other : List ℕ) → IsFoundIn count bytes (found.Inner (inner.Xfs volume)) → IsUncut (Xfs volume) count more
    → ShareSectors (min count more) bytes other → StaysContent (Xfs volume) more bytes other
xfs_again volume count more bytes other is uncut share =
    let fits : FoundFits count (found.Inner (inner.Xfs volume)) = found_fits count bytes (found.Inner (inner.Xfs volume)) is in
    let some : 1 ≤ volume.geometry.dblocks = xfs_some count bytes volume is in
    let within : 8 * volume.geometry.dblocks ≤ min count more = least_in (8 * volume.geometry.dblocks) count more fits uncut in
    found_stays count (min count more) more bytes other (found.Inner (inner.Xfs volume)) is (omega (arith, within, some)) within (omega arith) share

swap_again : (swap : SwapHeader) (count more : ℕ) (bytes other : List ℕ) → IsFoundIn count bytes (found.Inner (inner.Swap swap)) → IsUncut (Swap swap) count more
    → ShareSectors (min count more) bytes other → StaysContent (Swap swap) more bytes other
swap_again swap count more bytes other is uncut share =
    let fits : FoundFits count (found.Inner (inner.Swap swap)) = found_fits count bytes (found.Inner (inner.Swap swap)) is in
    let within : (swap.last_page + 1) * 8 ≤ min count more = least_in ((swap.last_page + 1) * 8) count more fits.1 uncut in
    found_stays count (min count more) more bytes other (found.Inner (inner.Swap swap)) is (omega (arith, within)) (fits.0, within) (omega arith) share

pub contents_stay : ContentsStay
contents_stay Extended count more bytes other is uncut share = tt
contents_stay (Xfs volume) count more bytes other is uncut share = xfs_again volume count more bytes other is uncut share
contents_stay (Swap swap) count more bytes other is uncut share = swap_again swap count more bytes other is uncut share
contents_stay (Group x m g) count more bytes other is uncut share = physical_again x m count more bytes other is uncut share
contents_stay (Member x m) count more bytes other is uncut share = physical_again x m count more bytes other is uncut share
contents_stay (Unread cause) count more bytes other is uncut share = tt

-- ---- sectors of a partition

-- a range of a range
range_of_range : (image : List ℕ) (from n at m : ℕ) → at + m ≤ n → bytes_at (bytes_at image from n) at m ≡ bytes_at image (from + at) m
range_of_range image from n at m inside =
    let more : at + (n - at) ≡ n = omega arith in
    ap (λ k. take m (drop at (take k (drop from image)))) (sym more)
    ∙ ap (take m) (drop-take at (n - at) (drop from image))
    ∙ take-take m (n - at) (drop at (drop from image)) (omega arith)
    ∙ ap (take m) (drop-drop at from image)

-- a sector of a partition's bytes is one of the disk
sector_in : (image : List ℕ) (start count k : ℕ) → k < count → sector (bytes_at image (512 * start) (512 * count)) k ≡ sector image (start + k)
sector_in image start count k lt =
    let there : 512 * start + 512 * k ≡ 512 * (start + k) = omega arith in
    range_of_range image (512 * start) (512 * count) (512 * k) 512 (omega (arith, lt)) ∙ ap (λ (n : ℕ). bytes_at image n 512) there

-- where as many sectors of two disks are the same as the shorter of two partitions has, the partitions share these
pub share_of : (source new : List ℕ) (start count to more : ℕ) → 512 * (start + min count more) ≤ length source → 512 * (to + min count more) ≤ length new
    → ((k : ℕ) → k < min count more → sector new (to + k) ≡ sector source (start + k))
    → ShareSectors (min count more) (bytes_at source (512 * start) (512 * count)) (bytes_at new (512 * to) (512 * more))
share_of source new start count to more on_source on_new same = record {
  long = omega (arith, length-range source (512 * start) (512 * count), on_source);
  other_long = omega (arith, length-range new (512 * to) (512 * more), on_new);
  same = λ k lt. sector_in new to more k (omega (arith, lt)) ∙ same k lt ∙ sym (sector_in source start count k (omega (arith, lt)));
}
