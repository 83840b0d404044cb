use Rattle.std.proofs.Common.{◌≡◌, List, All, subst, sym, ◌∙◌}
use Rattle.guest_view.specs.declared.partition.Partition.{Partition}
use Rattle.guest_view.specs.Partitions.{IsReachable, partitions_of}
use Rattle.guest_view.proofs.Known.{reachable}
use Rattle.guest_view.proofs.inspecting.apart_partitions.Goals as goal

pub first_clash-requires : goal.first_clash-requires
first_clash-requires c =
    let Of : List Partition → Type 0 = λ ps. All IsReachable ps in
    let same : c.deref.result.now ≡ partitions_of c.args.table.now = c.deref.ensures.value ∙ c.in_ok-partitions.ensures in
    subst Of (sym same) (reachable c.args.sectors c.args.table.now c.requires)
