use Rattle.std.proofs.Common.{◌≡◌, ℕ, List, All, AllPairs, subst, sym, ◌∙◌}
use Rattle.guest_view.specs.declared.partition.Partition.{Partition}
use Rattle.guest_view.specs.Guests.{IsSoundTable, kind_of}
use Rattle.guest_view.specs.Partitions.{HasNoClash, partitions_of}
use Rattle.guest_view.specs.inside.Sound.{EndsOn, IsWhole, LieBeside, Rises}
use Rattle.guest_view.proofs.Bare.{whole}
use Rattle.guest_view.proofs.Known.{AreSource, are_source}
use Rattle.guest_view.proofs.inspecting.guest_of.Goals as goal

pub contents-requires-clause-inside : goal.contents-requires-clause-inside
contents-requires-clause-inside g c =
    let apart : HasNoClash (partitions_of c.args.table) = subst (λ (ps : List Partition). HasNoClash ps) c.requires.partitions.are c.requires.partitions.apart in
    subst (All (EndsOn (g.B.Blocks.size c.args.disk.now))) (sym c.requires.partitions.are)
    (are_source (g.B.Blocks.size c.args.disk.now) c.args.table c.requires.sound apart).inside

pub contents-requires-clause-apart : goal.contents-requires-clause-apart
contents-requires-clause-apart g c =
    let apart : HasNoClash (partitions_of c.args.table) = subst (λ (ps : List Partition). HasNoClash ps) c.requires.partitions.are c.requires.partitions.apart in
    subst (AllPairs LieBeside) (sym c.requires.partitions.are) (are_source (g.B.Blocks.size c.args.disk.now) c.args.table c.requires.sound apart).apart

pub contents-requires-clause-rising : goal.contents-requires-clause-rising
contents-requires-clause-rising g c =
    let apart : HasNoClash (partitions_of c.args.table) = subst (λ (ps : List Partition). HasNoClash ps) c.requires.partitions.are c.requires.partitions.apart in
    subst (AllPairs Rises) (sym c.requires.partitions.are) (are_source (g.B.Blocks.size c.args.disk.now) c.args.table c.requires.sound apart).rising

pub invariant_of-result : goal.invariant_of-result
invariant_of-result g c =
    let apart : HasNoClash (partitions_of c.args.table) = subst (λ (ps : List Partition). HasNoClash ps) c.requires.partitions.are c.requires.partitions.apart in
    subst (λ (n : ℕ). IsWhole n c.args.table c.in_ok-parts.parts.items) (sym c.sectors-sectors.ensures)
    (whole (g.B.Blocks.size c.args.disk.now) c.args.table c.in_ok-parts.parts.items c.requires.sound apart (c.in_ok-parts.ensures.named ∙ c.requires.partitions.are)
    c.in_ok-parts.ensures.fits)
