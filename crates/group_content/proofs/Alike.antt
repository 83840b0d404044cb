-- A partition is one thing among the others.
use Rattle.std.proofs.Common.{◌≡◌, ◌≢◌, ℕ, List, map, refl, sym, ap, subst, ◌∙◌}
use Rattle.std.specs.Prelude.{Option, Some, None}
use Rattle.std.specs.Option.{unwrap_or}
use Rattle.lvm_group.specs.Answer.{IsFaultDue, IsGroup, IsGroupFault}
use Rattle.lvm_group.specs.Judged.{group_fault}
use Rattle.lvm_group.specs.Order.{in_order}
use Rattle.lvm_group.specs.Spelt.{spelt}
use Rattle.lvm_group.specs.Volumes.{volumes_with}
use Rattle.lvm_group.specs.declared.fault.GroupFault.{GroupFault}
use Rattle.lvm_group.specs.declared.fault.GroupFault.TheVariants as groups
use Rattle.lvm_group.specs.declared.group.Group.{Group}
use Rattle.lvm_group.specs.declared.spans.Volume.{Volume}
use Rattle.lvm_group.specs.declared.types.Member.{Member as GroupMember}
use Rattle.lvm_group.specs.declared.types.Spelt.{Spelt}
use Rattle.lvm_text.proofs.Judging.{no_tree, one_tree}
use Rattle.lvm_text.proofs.Unique.{one_fault}
use Rattle.lvm_text.specs.Faults.{IsTextFault, Spells}
use Rattle.lvm_text.specs.Tree.{items_in}
use Rattle.lvm_text.specs.declared.fault.TextFault.{TextFault}
use Rattle.lvm_text.specs.declared.fault.TextFault.TheVariants as texts
use Rattle.lvm_text.specs.declared.tree.Item.{Item}
use Rattle.lvm_text.specs.declared.tree.Tree.{Tree}
use Rattle.partition_content.specs.declared.found.Found.{Found}
use Rattle.partition_content.specs.declared.found.Found.TheVariants.{Physical as IsPhysical, Inner as IsAlone}
use Rattle.volume_content.specs.declared.content.Why.{Why}
use Rattle.volume_content.specs.declared.content.Why.TheVariants as why
use Rattle.group_content.specs.Grouped.{device_from, device_of, first_part, member_runs, members_with, runs_held, volume_places}
use Rattle.group_runs.specs.Places.{disk_runs}
use Rattle.group_content.specs.Laws.{AreAlikeGroups, AreAlikeStandings, OneStanding}
use Rattle.group_content.specs.Standing.{HasGroupFault, IsGroupOf, IsHolder, IsLaterMember, IsMembership, IsStandingBy, IsStandingOf, MakeNoGroup}
use Rattle.group_content.specs.declared.types.FoundPartition.{FoundPartition}
use Rattle.group_content.specs.declared.types.GroupContent.{GroupContent}
use Rattle.group_content.specs.declared.types.Membership.{Membership}
use Rattle.group_content.specs.declared.types.Standing.{Standing}
use Rattle.group_content.specs.declared.types.Standing.TheVariants.{Alone, Holder, Member, Unread}

-- ---- two groups of one text

pub record AreOneGroup (g h : Group) : Type 0 where
  pub spelled : h.spelt ≡ g.spelt
  pub members : h.members ≡ g.members
  pub volumes : h.volumes ≡ g.volumes

one_group_of : (items : List Item) (ms : List GroupMember) (g h : Group) → IsGroup items ms g → IsGroup items ms h → AreOneGroup g h
one_group_of items ms g h is other =
    let spelled : h.spelt ≡ g.spelt = ap (λ (o : Option Spelt). unwrap_or o h.spelt) (sym other.spelled ∙ is.spelled) in
    record {
      spelled = spelled;
      members = other.members ∙ ap (λ (s : Spelt). in_order ms s.physicals) spelled ∙ sym is.members;
      volumes = other.volumes ∙ ap (λ (s : Spelt). volumes_with s.physicals s.extent s.logicals) spelled ∙ sym is.volumes;
    }

module _ (partitions : List FoundPartition) (text : List ℕ) where
  pub one_group : (g h : Group) → IsGroupOf partitions text g → IsGroupOf partitions text h → AreOneGroup g h
  one_group g h is other =
      one_group_of (items_in is.tree) (members_with text partitions) g h is.is_group
      (subst (λ (t : Tree). IsGroup (items_in t) (members_with text partitions) h) (one_tree text other.tree is.tree other.spelled is.spelled) other.is_group)

  one_device : (number : ℕ) (g h : Group) → AreOneGroup g h → device_of h number ≡ device_of g number
  one_device number g h same =
      ap (λ (s : Spelt). device_from 0 s.extent number h.members s.physicals) same.spelled
      ∙ ap (λ (ms : List GroupMember). device_from 0 g.spelt.extent number ms g.spelt.physicals) same.members

  one_membership : (m n : Membership) → n.holder ≡ m.holder → n.device ≡ m.device → n ≡ m
  one_membership m n holder device =
      ap (λ (k : ℕ). record { holder = k; device = n.device }) holder ∙ ap (λ (k : ℕ). record { holder = m.holder; device = k }) device

  memberships : (number : ℕ) (g h : Group) (m n : Membership) → IsMembership partitions text number g m → IsMembership partitions text number h n → n ≡ m
  memberships number g h m n is other =
      one_membership m n (other.holder ∙ sym is.holder) (other.device ∙ one_device number g h (one_group g h is.is_group other.is_group) ∙ sym is.device)

  one_place : (g h : Group) → AreOneGroup g h → volume_places (member_runs partitions h.members) h ≡ volume_places (member_runs partitions g.members) g
  one_place g h same =
      ap (λ (ms : List GroupMember). map (λ (volume : Volume). disk_runs (member_runs partitions ms) volume.runs) h.volumes) same.members
      ∙ ap (λ (volumes : List Volume). map (λ (volume : Volume). disk_runs (member_runs partitions g.members) volume.runs) volumes) same.volumes

  holders : (number : ℕ) (m n : Membership) (c d : GroupContent) → IsHolder partitions text number m c → IsHolder partitions text number n d
      → AreAlikeStandings (Holder m c) (Holder n d)
  holders number m n c d is other =
      let same : AreOneGroup c.group d.group = one_group c.group d.group is.is.is_group other.is.is_group in (
        memberships number c.group d.group m n is.is other.is,
        record { spelt = same.spelled; members = same.members; places = other.in_place ∙ one_place c.group d.group same ∙ sym is.in_place },
      )

  -- ---- a group, or a fault

  no_fault : (due : Option GroupFault) (fault : GroupFault) → due ≡ None → fault ≢ groups.Memory → IsFaultDue due fault → ⊥
  no_fault due groups.Field none known is = cc (sym is ∙ none)
  no_fault due groups.Members none known is = cc (sym is ∙ none)
  no_fault due (groups.Kind n) none known is = cc (sym is ∙ none)
  no_fault due (groups.Segments n) none known is = cc (sym is ∙ none)
  no_fault due groups.Memory none known is = known refl

  pub not_both : (g : Group) (cause : Why) → IsGroupOf partitions text g → MakeNoGroup partitions text cause → ⊥
  not_both g (why.Text fault) is none = no_tree text fault is.tree none.0 none.1 is.spelled
  not_both g (why.Group fault) is none =
      no_fault (group_fault (items_in is.tree) (members_with text partitions)) fault is.is_group.sound none.known
      (subst (λ (t : Tree). IsGroupFault (items_in t) (members_with text partitions) fault) (one_tree text none.tree is.tree none.spelled is.spelled) none.has)
  not_both g why.Other is none = none
  not_both g why.NoGroup is none = none
  not_both g (why.Xfs reason) is none = none
  not_both g why.Swap is none = none
  not_both g (why.Ring fault) is none = none

  same_due : (due : Option GroupFault) (one other : GroupFault) → due ≡ Some one → due ≡ Some other → other ≡ one
  same_due due one other is is' = ap (λ (o : Option GroupFault). unwrap_or o one) (sym is' ∙ is)

  due_is : (due : Option GroupFault) (fault : GroupFault) → fault ≢ groups.Memory → IsFaultDue due fault → due ≡ Some fault
  due_is due groups.Field known is = is
  due_is due groups.Members known is = is
  due_is due (groups.Kind n) known is = is
  due_is due (groups.Segments n) known is = is
  due_is due groups.Memory known is = absurd (known refl)

  group_faults : (one other : GroupFault) → HasGroupFault partitions text one → HasGroupFault partitions text other → other ≡ one
  group_faults one other is is' =
      same_due (group_fault (items_in is.tree) (members_with text partitions)) one other (due_is _ one is.known is.has)
      (due_is _ other is'.known (subst (λ (t : Tree). IsGroupFault (items_in t) (members_with text partitions) other) (one_tree text is'.tree is.tree is'.spelled is.spelled) is'.has))

  causes : (one other : Why) → MakeNoGroup partitions text one → MakeNoGroup partitions text other → other ≡ one
  causes (why.Text fault) (why.Text fault') is is' = ap (λ (f : TextFault). why.Text f) (one_fault text fault' fault is'.0 is.0 is'.1 is.1)
  causes (why.Text fault) (why.Group fault') is is' = absurd (no_tree text fault is'.tree is.0 is.1 is'.spelled)
  causes (why.Group fault) (why.Text fault') is is' = absurd (no_tree text fault' is.tree is'.0 is'.1 is.spelled)
  causes (why.Group fault) (why.Group fault') is is' = ap (λ (f : GroupFault). why.Group f) (group_faults fault fault' is is')
  causes (why.Text fault) why.Other is is' = absurd is'
  causes (why.Text fault) why.NoGroup is is' = absurd is'
  causes (why.Text fault) (why.Xfs reason) is is' = absurd is'
  causes (why.Text fault) why.Swap is is' = absurd is'
  causes (why.Text fault) (why.Ring fault') is is' = absurd is'
  causes (why.Group fault) why.Other is is' = absurd is'
  causes (why.Group fault) why.NoGroup is is' = absurd is'
  causes (why.Group fault) (why.Xfs reason) is is' = absurd is'
  causes (why.Group fault) why.Swap is is' = absurd is'
  causes (why.Group fault) (why.Ring fault') is is' = absurd is'
  causes why.Other cause is is' = absurd is
  causes why.NoGroup cause is is' = absurd is
  causes (why.Xfs reason) cause is is' = absurd is
  causes why.Swap cause is is' = absurd is
  causes (why.Ring fault) cause is is' = absurd is

  by_text : (number : ℕ) (one other : Standing) → IsStandingBy partitions text number one → IsStandingBy partitions text number other → AreAlikeStandings one other
  by_text number Alone other is is' = absurd is
  by_text number (Holder m c) Alone is is' = absurd is'
  by_text number (Holder m c) (Holder n d) is is' = holders number m n c d is is'
  by_text number (Holder m c) (Member n) is is' = absurd (is'.later (is'.is.holder ∙ sym is.is.holder ∙ is.first))
  by_text number (Holder m c) (Unread cause) is is' = absurd (not_both c.group cause is.is.is_group is')
  by_text number (Member m) Alone is is' = absurd is'
  by_text number (Member m) (Holder n d) is is' = absurd (is.later (is.is.holder ∙ sym is'.is.holder ∙ is'.first))
  by_text number (Member m) (Member n) is is' = ap (λ (x : Membership). Member x) (memberships number is.group is'.group m n is.is is'.is)
  by_text number (Member m) (Unread cause) is is' = absurd (not_both is.group cause is.is.is_group is')
  by_text number (Unread cause) Alone is is' = absurd is'
  by_text number (Unread cause) (Holder n d) is is' = absurd (not_both d.group cause is'.is.is_group is)
  by_text number (Unread cause) (Member n) is is' = absurd (not_both is'.group cause is'.is.is_group is)
  by_text number (Unread cause) (Unread cause') is is' = ap (λ (w : Why). Unread w) (causes cause cause' is is')

by_found : (partitions : List FoundPartition) (number : ℕ) (found : Found) (one other : Standing)
    → IsStandingOf partitions number found one → IsStandingOf partitions number found other → AreAlikeStandings one other
by_found partitions number (IsPhysical physical) one other is is' =
    by_text partitions physical.first.text number one other is is'
by_found partitions number (IsAlone inner) one other is is' =
    subst (λ (s : Standing). AreAlikeStandings s other) (sym is) is'

pub one_standing : OneStanding
one_standing partitions partition one other is is' =
    by_found partitions partition.number partition.found one other is is'
