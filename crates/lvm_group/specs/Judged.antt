-- The faults of a group that is spelled, beside the members that were found. Each is decided by a total test.
use Rattle.std.specs.Prelude.{ℕ, suc, ℤ, pos, negsuc, ◌+◌, ◌*◌, Bool, true, false, not, ◌&&◌, ◌||◌, List, [], ◌∷◌, ◌++◌, length, Option, Some, None, if◌then◌else◌, ◌==◌, nat_le, nat_lt}
use Rattle.std.specs.List.{list_all, list_any, count_by}
use Rattle.std.specs.Option.{option_and_then}
use Rattle.std.specs.Str.{bytes_eq}
use Rattle.lvm_text.specs.declared.tree.Item.{Item}
use Rattle.lvm_group.specs.declared.types.Member.{Member}
use Rattle.lvm_group.specs.declared.types.PhysicalVolume.{PhysicalVolume}
use Rattle.lvm_group.specs.declared.types.Stripe.{Stripe}
use Rattle.lvm_group.specs.declared.types.Segment.{Segment}
use Rattle.lvm_group.specs.declared.types.LogicalVolume.{LogicalVolume}
use Rattle.lvm_group.specs.declared.types.Spelt.{Spelt}
use Rattle.lvm_group.specs.declared.span.Span.{Span}
use Rattle.lvm_group.specs.Apart.{are_apart}
use Rattle.lvm_group.specs.declared.fault.GroupFault.{GroupFault}
use Rattle.lvm_group.specs.declared.fault.GroupFault.TheVariants as fault
use Rattle.lvm_group.specs.Spelt.{spelt}

-- ---- Field, beside what the text itself lacks

-- the label that was found is that of the member that the text names
abbrev pub is_of : PhysicalVolume → Member → Bool
is_of p m = bytes_eq p.id m.label.id

-- where a member was found, its device and its extents end within the partition
abbrev pub fits : ℕ → PhysicalVolume → Member → Bool
fits extent p m = not (is_of p m) || nat_le p.size m.sectors && nat_le (p.start + p.count * extent) m.sectors

-- this of all
abbrev pub all_fit : ℕ → List Member → List PhysicalVolume → Bool
all_fit extent ms ps = list_all (λ p. list_all (fits extent p) ms) ps

-- ---- Members

-- one or two metadata areas
abbrev pub has_areas : Member → Bool
has_areas m = m.label.areas == 1 || m.label.areas == 2

-- what was found has one or two areas and is named
abbrev pub is_named_member : List PhysicalVolume → Member → Bool
is_named_member ps m = has_areas m && list_any (λ p. is_of p m) ps

-- what is named was found once, and no other bears its id
unfoldable pub is_found : List PhysicalVolume → List Member → PhysicalVolume → Bool
is_found ps ms p = count_by (λ m. is_of p m) ms == 1 && count_by (λ q. bytes_eq q.id p.id) ps == 1

-- the physical volumes that the text names are those that were found
abbrev pub are_members : List PhysicalVolume → List Member → Bool
are_members ps ms = nat_lt 0 (length ps) && (list_all (is_named_member ps) ms && list_all (is_found ps ms) ps)

-- ---- Kind

-- the least place, counted from n, at which the test fails
abbrev pub first_bad : {A : Type 0} → (A → Bool) → ℕ → List A → Option ℕ
first_bad test n [] = None
first_bad test n (x ∷ xs) = if test x then first_bad test (suc n) xs else Some n

abbrev pub is_some : Option Stripe → Bool
is_some None = false
is_some (Some s) = true

-- a segment of the known kind, and a volume of such
abbrev pub is_known : Segment → Bool
is_known p = is_some p.stripe

abbrev pub is_known_volume : LogicalVolume → Bool
is_known_volume l = list_all is_known l.segments

-- ---- Segments

-- how many extents physical volume m has, where they are counted from n
abbrev pub extents_from : ℕ → ℕ → List PhysicalVolume → ℕ
extents_from n m [] = 0
extents_from n m (p ∷ ps) = if n == m then p.count else extents_from (suc n) m ps

-- n extents of physical volume m, which has `count`, from this one on, where they end within it
abbrev pub span_at : ℕ → ℤ → ℕ → ℕ → Option Span
span_at m (pos first) n count = if nat_le (first + n) count then Some (record { member = m; first = first; count = n }) else None
span_at m (negsuc first) n count = None

-- the same by where it lies
abbrev pub span_by : List PhysicalVolume → ℕ → Option Stripe → Option Span
span_by ps n None = None
span_by ps n (Some s) = span_at s.member s.first n (extents_from 0 s.member ps)

-- the extents of a segment, where they lie in a physical volume
abbrev pub span_of : List PhysicalVolume → Segment → Option Span
span_of ps p = span_by ps p.count p.stripe

-- extents, where none of them is taken
abbrev pub apart_span : List Span → Option Span → Option Span
apart_span taken None = None
apart_span taken (Some s) = if list_all (are_apart s) taken then Some s else None

-- the extents of a segment that begins at this extent of its volume and has an extent, where none is taken
unfoldable pub next_span : List PhysicalVolume → List Span → ℕ → Segment → Option Span
next_span ps taken at p = if p.start == at && nat_lt 0 p.count then apart_span taken (span_of ps p) else None

-- what is taken after these segments, which follow one another from this extent on
abbrev pub taken_after : List PhysicalVolume → List Span → ℕ → List Segment → Option (List Span)
taken_after ps taken at [] = Some taken
taken_after ps taken at (p ∷ segments) =
    option_and_then (λ s. taken_after ps (taken ++ s ∷ []) (at + p.count) segments) (next_span ps taken at p)

-- what is taken after a volume, which has a segment
abbrev pub taken_by : List PhysicalVolume → List Span → LogicalVolume → Option (List Span)
taken_by ps taken l = if nat_lt 0 (length l.segments) then taken_after ps taken 0 l.segments else None

-- this place, where nothing is given
abbrev pub or_at : ℕ → (List Span → Option ℕ) → Option (List Span) → Option ℕ
or_at n next None = Some n
or_at n next (Some taken) = next taken

-- the least volume, counted from n, of which a segment is at fault
abbrev pub first_unsound : List PhysicalVolume → List Span → ℕ → List LogicalVolume → Option ℕ
first_unsound ps taken n [] = None
first_unsound ps taken n (l ∷ ls) = or_at n (λ more. first_unsound ps more (suc n) ls) (taken_by ps taken l)

-- ---- the fault, in its order

-- a fault of a volume of that number
abbrev pub segments_fault : Option ℕ → Option GroupFault
segments_fault None = None
segments_fault (Some n) = Some (fault.Segments n)

-- which comes before the next
abbrev pub kind_fault : Option ℕ → Option GroupFault → Option GroupFault
kind_fault None next = next
kind_fault (Some n) next = Some (fault.Kind n)

abbrev pub segments_beside : Spelt → Option GroupFault
segments_beside g = segments_fault (first_unsound g.physicals [] 0 g.logicals)

-- of a group that is spelled, beside these members
abbrev pub fault_beside : List Member → Spelt → Option GroupFault
fault_beside ms g =
    if not (all_fit g.extent ms g.physicals) then Some fault.Field else
    if not (are_members g.physicals ms) then Some fault.Members else
    kind_fault (first_bad is_known_volume 0 g.logicals) (segments_beside g)

-- of what a text spells, if it spells a group
abbrev pub fault_in : List Member → Option Spelt → Option GroupFault
fault_in ms None = Some fault.Field
fault_in ms (Some g) = fault_beside ms g

-- the fault of the group that the items spell, beside these members; none where it has none
abbrev pub group_fault : List Item → List Member → Option GroupFault
group_fault items ms = fault_in ms (spelt items)
