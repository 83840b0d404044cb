use Rattle.std.proofs.Common.{◌≡◌, ℕ, List, All, AllPairs, sym, subst, ◌∙◌}
use Rattle.std.specs.Prelude.{Contains}
use Rattle.std.proofs.lemmas.List.Elements.{All-weaker}
use Rattle.disk_base.specs.Run.{AreApart, IsWithin}
use Rattle.disk_base.specs.declared.run.Run.{Run}
use Rattle.lvm_group.specs.declared.types.Member.{Member}
use Rattle.lvm_text.specs.Tree.{items_in}
use Rattle.group_runs.specs.Places.{LiesInMember, disk_runs, runs_of_volumes}
use Rattle.group_content.specs.Grouped.{member_runs, members_with}
use Rattle.group_content.proofs.Owning.{IsOwn, are_member_runs, members_apart, members_within, own_member}
use Rattle.group_content.proofs.standing.hold.Goals as goal

own : (partitions : List _) (text : List ℕ) (ms : List Member) → All (Contains (members_with text partitions)) ms → All (IsOwn partitions) ms
own partitions text ms among = All-weaker (Contains (members_with text partitions)) (IsOwn partitions) (own_member text partitions) ms among

pub volumes_on-requires-clause-inside : goal.volumes_on-requires-clause-inside
volumes_on-requires-clause-inside g c =
    let on = c.requires.on_disk in
    let some = c.requires.some in
    subst (All (IsWithin (g.B.Blocks.size c.args.disk.now))) (sym (c.as_slice.ensures.value ∙ c.in-Ok.ensures))
    (members_within (g.B.Blocks.size c.args.disk.now) c.args.partitions.now c.args.group.members on.inside on.numbers
    (own c.args.partitions.now some.text c.args.group.members (c.members_are_found.ensures.found _ _ c.args.group some.is_group.is_group)))

pub volumes_on-requires-clause-lie : goal.volumes_on-requires-clause-lie
volumes_on-requires-clause-lie g c =
    let on = c.requires.on_disk in
    let some = c.requires.some in
    subst (λ (runs : List Run). All (LiesInMember runs) (runs_of_volumes c.args.group)) (sym (c.as_slice.ensures.value ∙ c.in-Ok.ensures))
    (c.volumes_lie_in_members.ensures.inside _ _ c.args.group (member_runs c.args.partitions.now c.args.group.members) some.is_group.is_group
    (are_member_runs c.args.partitions.now c.args.group.members on.numbers
    (own c.args.partitions.now some.text c.args.group.members (c.members_are_found.ensures.found _ _ c.args.group some.is_group.is_group))))

pub volumes_on-requires-clause-apart : goal.volumes_on-requires-clause-apart
volumes_on-requires-clause-apart g c =
    let on = c.requires.on_disk in
    let some = c.requires.some in
    let owned = own c.args.partitions.now some.text c.args.group.members (c.members_are_found.ensures.found _ _ c.args.group some.is_group.is_group) in
    subst (λ (runs : List Run). AllPairs AreApart (disk_runs runs (runs_of_volumes c.args.group))) (sym (c.as_slice.ensures.value ∙ c.in-Ok.ensures))
    (c.volumes_lie_in_members.ensures.apart _ _ c.args.group (member_runs c.args.partitions.now c.args.group.members) some.is_group.is_group
    (are_member_runs c.args.partitions.now c.args.group.members on.numbers owned)
    (members_apart c.args.partitions.now c.args.group.members on.apart on.numbers owned (c.members_are_found.ensures.differ _ _ c.args.group some.is_group.is_group)))
