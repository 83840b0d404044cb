use Rattle.std.proofs.Common.{◌≡◌, ℕ, List, All, AllPairs, length, map, sym, subst, ap, ◌∙◌}
use Rattle.std.proofs.lemmas.Slice.Zip.{AllZip-long}
use Rattle.disk_base.specs.Run.{IsWithin}
use Rattle.group_content.specs.Grouped.{HaveTwoNumbers, LieApart}
use Rattle.group_content.specs.declared.types.FoundPartition.{FoundPartition}
use Rattle.guest_view.specs.declared.guest.GuestPart.{GuestPart}
use Rattle.guest_view.specs.Contents.{PartFits, partition_of}
use Rattle.guest_view.specs.inside.Sound.{StandsFor}
use Rattle.guest_view.proofs.Merging.{all_apart, all_fit, all_numbered, all_within, same_partitions}
use Rattle.guest_view.proofs.finding.contents.Goals as goal

pub standings-requires-clause-inside : goal.standings-requires-clause-inside
standings-requires-clause-inside g c =
    let Within : ℕ → List FoundPartition → Type 0 = λ n found. All (λ (one : FoundPartition). IsWithin n one.run) found in
    subst (Within (g.B.Blocks.size c.find_each.new.disk)) (sym c.as_slice.ensures.value)
    (subst (λ (n : ℕ). Within n c.in_ok-found.found.items) (sym (g.met.B.Blocks.same_size _ _ c.in_ok-found.ensures.read))
    (all_within (g.B.Blocks.size c.args.disk.now) c.args.partitions.now c.in_ok-found.found.items c.in_ok-found.ensures.stand c.requires.inside))

pub standings-requires-clause-apart : goal.standings-requires-clause-apart
standings-requires-clause-apart g c =
    subst (AllPairs LieApart) (sym c.as_slice.ensures.value) (all_apart c.args.partitions.now c.in_ok-found.found.items c.in_ok-found.ensures.stand c.requires.apart)

pub standings-requires-clause-numbers : goal.standings-requires-clause-numbers
standings-requires-clause-numbers g c =
    subst (AllPairs HaveTwoNumbers) (sym c.as_slice.ensures.value) (all_numbered c.args.partitions.now c.in_ok-found.found.items c.in_ok-found.ensures.stand c.requires.rising)

pub parts_with-requires-clause-found : goal.parts_with-requires-clause-found
parts_with-requires-clause-found g c = AllZip-long StandsFor c.args.partitions.now c.in_ok-found.found.items c.in_ok-found.ensures.stand

pub parts_with-requires-clause-standings : goal.parts_with-requires-clause-standings
parts_with-requires-clause-standings g c =
    c.in_ok-standings.ensures.standings.long ∙ ap (λ (l : List FoundPartition). length l) c.as_slice.ensures.value
    ∙ AllZip-long StandsFor c.args.partitions.now c.in_ok-found.found.items c.in_ok-found.ensures.stand

pub returns-in-Ok-clause-named : goal.returns-in-Ok-clause-named
returns-in-Ok-clause-named g c =
    let long = AllZip-long StandsFor c.args.partitions.now c.in_ok-found.found.items c.in_ok-found.ensures.stand in
    let many = c.in_ok-standings.ensures.standings.long ∙ ap (λ (l : List FoundPartition). length l) c.as_slice.ensures.value ∙ long in
    ap (map partition_of) c.in-Ok.ensures ∙ same_partitions c.args.partitions.now c.in_ok-found.found.items c.in_ok-standings.standings.items long many

pub returns-in-Ok-clause-fits : goal.returns-in-Ok-clause-fits
returns-in-Ok-clause-fits g c =
    subst (All PartFits) (sym c.in-Ok.ensures)
    (all_fit (g.B.Blocks.size c.args.disk.now) c.requires.few c.args.partitions.now c.in_ok-found.found.items c.in_ok-standings.standings.items c.requires.inside
    c.in_ok-found.ensures.stand c.in_ok-standings.ensures.fits)
