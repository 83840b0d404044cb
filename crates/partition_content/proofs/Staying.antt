-- What is found is found on any disk that begins with as many of its sectors as it says that it has.
use Rattle.std.proofs.lemmas.Grind.{same_number_lists}
use Rattle.std.proofs.Common.{◌≡◌, ℕ, ◌+◌, ◌*◌, ◌/◌, ◌%◌, ◌<◌, ◌≤◌, List, length, arith, refl, sym, ap, subst, ◌∙◌, slice_index, Option, Some, None, inl, inr}
use Rattle.disk_base.specs.Image.{bytes_at}
use Rattle.disk_base.proofs.Images.{byte_of_range, length-bytes_at}
use Rattle.lvm_label.specs.Label.{HaveNoLabel, IsFirstLabel}
use Rattle.lvm_label.specs.Ring.{IsAreaPlaced, IsRing, IsTextSound, NamesText, RingArea, area_header, place_of_area, ring_with}
use Rattle.lvm_label.specs.declared.label.Label.{Label}
use Rattle.partition_content.specs.Found.{AreasFit, FoundFits, HasLabel, IsFoundIn, IsSecondRing, SecondFits}
use Rattle.partition_content.specs.Laws.{FoundStays, ShareSectors, StaysFound}
use Rattle.partition_content.specs.declared.found.Found.{Found}
use Rattle.partition_content.specs.declared.found.Found.TheVariants as found
use Rattle.partition_content.specs.declared.found.Physical.{Physical}
use Rattle.swap_area.specs.declared.header.Swap.{Swap as SwapHeader}
use Rattle.volume_content.proofs.Elsewhere.{inner_stays, swap_pages, valid_blocks, valid_some}
use Rattle.volume_content.specs.declared.content.Inner.TheVariants as inner
use Rattle.xfs_check.specs.Frame.{BeginAlike}
use Rattle.xfs_check.specs.Volume.{VolumeSpace}

module _ (count : ℕ) (image other : List ℕ) (share : ShareSectors count image other) where
  byte_same : (j : ℕ) → j < 512 * count → slice_index other j ≡ slice_index image j
  byte_same j lt =
      sym (byte_of_range other (512 * (j / 512)) 512 (j % 512) j (omega arith) (omega arith))
      ∙ ap (λ (s : List ℕ). slice_index s (j % 512)) (share.same (j / 512) (omega (arith, lt)))
      ∙ byte_of_range image (512 * (j / 512)) 512 (j % 512) j (omega arith) (omega arith)

  -- what lies in the sectors that both have
  pub range_same : (at n : ℕ) → at + n ≤ 512 * count → bytes_at other at n ≡ bytes_at image at n
  range_same at n within =
      let long : length (bytes_at other at n) ≡ n = length-bytes_at other at n (omega (arith, within, share.other_long)) in
      let long' : length (bytes_at image at n) ≡ n = length-bytes_at image at n (omega (arith, within, share.long)) in
      same_number_lists (bytes_at other at n) (bytes_at image at n) (long ∙ sym long')
      (λ i h.
      let lt : i < n = omega (arith, h, long) in
      byte_of_range other at n i (at + i) refl lt ∙ byte_same (at + i) (omega (arith, lt, within)) ∙ sym (byte_of_range image at n i (at + i) refl lt))

  ring_stays : (sectors more start size : ℕ) (ring : RingArea) → count ≤ more → IsAreaPlaced count start size → IsRing sectors image start size ring → IsRing more other start size ring
  ring_stays sectors more start size ring few placed is =
      let inside : start + size ≤ 512 * count = placed.inside in
      let header : area_header other start ≡ area_header image start = range_same start 512 (omega (arith, inside, placed.least)) in
      let area : bytes_at other start size ≡ bytes_at image start size = range_same start size inside in
      record {
        placed = record {
          whole_start = placed.whole_start;
          whole_length = placed.whole_length;
          least = placed.least;
          most = placed.most;
          inside = omega (arith, inside, few);
        };
        names = subst (NamesText start size) (sym header) is.names;
        sound = subst (λ (h : List ℕ). IsTextSound h (bytes_at other start size)) (sym header) (subst (IsTextSound (area_header image start)) (sym area) is.sound);
        ring_is =
            is.ring_is ∙ ap (λ (h : List ℕ). ring_with start size h (bytes_at image start size)) (sym header)
            ∙ ap (ring_with start size (area_header other start)) (sym area);
      }

  second_stays : (sectors more : ℕ) (label : Label) (first : RingArea) (o : Option RingArea) → count ≤ more → SecondFits count label o → IsSecondRing sectors image label first o
      → IsSecondRing more other label first o
  second_stays sectors more label first None few fits is = is
  second_stays sectors more label first (Some ring) few fits is = record {
    two = is.two;
    is_ring = ring_stays sectors more (place_of_area label 1).0 (place_of_area label 1).1 ring few fits is.is_ring;
    same = is.same;
  }

physical_stays : (sectors count more : ℕ) (image other : List ℕ) (physical : Physical) → IsFoundIn sectors image (found.Physical physical) → 4 ≤ count → AreasFit count physical
    → count ≤ more → ShareSectors count image other → IsFoundIn more other (found.Physical physical)
physical_stays sectors count more image other physical is four fits few share =
    let front : bytes_at other 0 2048 ≡ bytes_at image 0 2048 = range_same count image other share 0 2048 (omega (arith, four)) in
    let label = physical.label in (
      (omega (arith, four, few), subst (λ (l : List ℕ). IsFirstLabel l label) (sym front) is.0.1),
      record {
        label_is = is.1.label_is;
        few = is.1.few;
        first = ring_stays count image other share sectors more (place_of_area label 0).0 (place_of_area label 0).1 physical.first few fits.first is.1.first;
        second = second_stays count image other share sectors more label physical.first physical.second few fits.second is.1.second;
      },
    )

-- ---- what stands alone

-- its blocks lie in the sectors that both have
begin_alike : (count blocks : ℕ) (image other : List ℕ) → 8 * blocks ≤ count → ShareSectors count image other → BeginAlike blocks image other
begin_alike count blocks image other fits share n lt = range_same count image other share (4096 * n) 4096 (omega (arith, lt, fits))

-- neither has a label
no_label : (sectors more count : ℕ) (image other : List ℕ) → 4 ≤ sectors → 4 ≤ count → ShareSectors count image other → HasLabel sectors image None → HasLabel more other None
no_label sectors more count image other many four share none room =
    subst HaveNoLabel (sym (range_same count image other share 0 2048 (omega (arith, four)))) (none many)

xfs_stays : (sectors count more : ℕ) (image other : List ℕ) (volume : VolumeSpace) → IsFoundIn sectors image (found.Inner (inner.Xfs volume)) → 4 ≤ count
    → 8 * volume.geometry.dblocks ≤ count → count ≤ more → ShareSectors count image other → StaysFound more image other (found.Inner (inner.Xfs volume))
xfs_stays sectors count more image other volume (inl alone) four fits few share =
    let stays = inner_stays sectors more image other (inner.Xfs volume) alone.1 (omega (arith, fits, few)) (begin_alike count volume.geometry.dblocks image other fits share) in
    (inl (no_label sectors more count image other (omega (arith, valid_some sectors image volume alone.1)) four share alone.0, stays.0), stays.1)
xfs_stays sectors count more image other volume (inr un) four fits few share = absurd (cc un.inner_is)

swap_stays : (sectors count more : ℕ) (image other : List ℕ) (swap : SwapHeader) → IsFoundIn sectors image (found.Inner (inner.Swap swap)) → 4 ≤ count
    → (swap.last_page + 1) * 8 ≤ count → count ≤ more → ShareSectors count image other → StaysFound more image other (found.Inner (inner.Swap swap))
swap_stays sectors count more image other swap (inl alone) four fits few share =
    let stays = inner_stays sectors more image other (inner.Swap swap) alone.1 (omega (arith, fits, few)) (begin_alike count (swap.last_page + 1) image other (omega (arith, fits)) share) in
    inl (no_label sectors more count image other (omega (arith, alone.1.1)) four share alone.0, stays)
swap_stays sectors count more image other swap (inr un) four fits few share = absurd (cc un.inner_is)

pub found_stays : FoundStays
found_stays sectors count more image other (found.Physical physical) is four fits few share = physical_stays sectors count more image other physical is four fits few share
found_stays sectors count more image other (found.Inner (inner.Xfs volume)) is four fits few share = xfs_stays sectors count more image other volume is four fits few share
found_stays sectors count more image other (found.Inner (inner.Swap swap)) is four fits few share = swap_stays sectors count more image other swap is four fits.1 few share
found_stays sectors count more image other (found.Inner (inner.Unread cause)) is four fits few share = tt

-- ---- what is found lies in its partition

pub physical_some : (sectors : ℕ) (image : List ℕ) (physical : Physical) → IsFoundIn sectors image (found.Physical physical) → 4 ≤ sectors
physical_some sectors image physical is = is.0.0

second_fits : (sectors : ℕ) (image : List ℕ) (label : Label) (first : RingArea) (o : Option RingArea) → IsSecondRing sectors image label first o → SecondFits sectors label o
second_fits sectors image label first None is = is
second_fits sectors image label first (Some ring) is = is.is_ring.placed

pub xfs_some : (sectors : ℕ) (image : List ℕ) (volume : VolumeSpace) → IsFoundIn sectors image (found.Inner (inner.Xfs volume)) → 1 ≤ volume.geometry.dblocks
xfs_some sectors image volume (inl alone) = (valid_blocks sectors image volume alone.1).0
xfs_some sectors image volume (inr un) = absurd (cc un.inner_is)

pub found_fits : (sectors : ℕ) (image : List ℕ) (one : Found) → IsFoundIn sectors image one → FoundFits sectors one
found_fits sectors image (found.Physical physical) is = record {
  few = is.1.few;
  first = is.1.first.placed;
  second = second_fits sectors image physical.label physical.first physical.second is.1.second;
}
found_fits sectors image (found.Inner (inner.Xfs volume)) (inl alone) = (valid_blocks sectors image volume alone.1).1
found_fits sectors image (found.Inner (inner.Xfs volume)) (inr un) = absurd (cc un.inner_is)
found_fits sectors image (found.Inner (inner.Swap swap)) (inl alone) = swap_pages sectors image swap alone.1
found_fits sectors image (found.Inner (inner.Swap swap)) (inr un) = absurd (cc un.inner_is)
found_fits sectors image (found.Inner (inner.Unread cause)) is = tt
