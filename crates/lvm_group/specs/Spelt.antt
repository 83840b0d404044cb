-- The group that items spell: the one section at the top, its members, and its volumes with their segments.
-- Where a needed value is missing or wrong, none is spelled.
use Rattle.std.specs.Prelude.{ℕ, zero, suc, ℤ, pos, negsuc, Bool, true, false, ◌&&◌, List, [], ◌∷◌, ◌++◌, Option, Some, None, if◌then◌else◌, ◌==◌, nat_le, codes}
use Rattle.std.specs.Option.{option_and_then}
use Rattle.std.specs.Fmt.{decimal}
use Rattle.std.specs.Str.{bytes_eq}
use Rattle.lvm_text.specs.declared.tree.Item.{Item, out-Item}
use Rattle.lvm_text.specs.declared.tree.Item.TheOpen.{Item-F}
use Rattle.lvm_text.specs.declared.tree.Tree.{Tree}
use Rattle.lvm_text.specs.declared.tree.Value.{Value}
use Rattle.lvm_text.specs.declared.tree.Value.TheVariants as value
use Rattle.lvm_text.specs.declared.tree.Scalar.{Scalar}
use Rattle.lvm_text.specs.declared.tree.Scalar.TheVariants as scalar
use Rattle.lvm_text.specs.Tree.{items_in, Layer}
use Rattle.lvm_group.specs.Lookup.{first_named, number_named, section_named}
use Rattle.lvm_group.specs.declared.types.PhysicalVolume.{PhysicalVolume}
use Rattle.lvm_group.specs.declared.types.Stripe.{Stripe}
use Rattle.lvm_group.specs.declared.types.Segment.{Segment}
use Rattle.lvm_group.specs.declared.types.LogicalVolume.{LogicalVolume}
use Rattle.lvm_group.specs.declared.types.Spelt.{Spelt}

-- ---- values

-- a number that isn't negative and at most 2^31
abbrev pub bounded : ℤ → Option ℕ
bounded (pos n) = if nat_le n 2147483648 then Some n else None
bounded (negsuc n) = None

-- the number behind the first item of this name, where it is such a one
abbrev pub needed : List ℕ → List Item → Option ℕ
needed name items = option_and_then bounded (number_named name items)

-- the value of an item that is one
abbrev pub value_in : Layer → Option Value
value_in (Item-F.Section name tree) = None
value_in (Item-F.Value name v) = Some v

-- the value of the first item of this name
abbrev pub value_named : List ℕ → List Item → Option Value
value_named name items = option_and_then (λ item. value_in (out-Item item)) (first_named name items)

-- a value that is a text, and one that is a list
abbrev pub text_of_value : Value → Option (List ℕ)
text_of_value (value.Number n) = None
text_of_value (value.Text text) = Some text
text_of_value (value.Many scalars) = None

-- the text behind the first item of this name
abbrev pub text_named : List ℕ → List Item → Option (List ℕ)
text_named name items = option_and_then text_of_value (value_named name items)

abbrev pub scalars_of_value : Value → Option (List Scalar)
scalars_of_value (value.Number n) = None
scalars_of_value (value.Text text) = None
scalars_of_value (value.Many scalars) = Some scalars

-- the list behind the first item of this name
abbrev pub scalars_named : List ℕ → List Item → Option (List Scalar)
scalars_named name items = option_and_then scalars_of_value (value_named name items)

-- the name begins with `-`
abbrev pub is_dashed : List ℕ → Bool
is_dashed [] = false
is_dashed (b ∷ bytes) = b == 45

-- ---- many of them

-- one more in front, where there is one and there are others
abbrev pub joined_options : {B : Type 0} → Option B → Option (List B) → Option (List B)
joined_options None others = None
joined_options (Some b) None = None
joined_options (Some b) (Some bs) = Some (b ∷ bs)

-- a section in front of what others give: what stands in a value is passed over
abbrev pub section_then : {B : Type 0} → (List ℕ → List Item → Option B) → Layer → Option (List B) → Option (List B)
section_then read (Item-F.Section name tree) others = joined_options (read name (items_in tree)) others
section_then read (Item-F.Value name v) others = others

-- what each section among the items gives, in order, where each gives something
abbrev pub each_section : {B : Type 0} → (List ℕ → List Item → Option B) → List Item → Option (List B)
each_section read [] = Some []
each_section read (item ∷ items) = section_then read (out-Item item) (each_section read items)

abbrev pub is_section : Layer → Bool
is_section (Item-F.Section name tree) = true
is_section (Item-F.Value name v) = false

-- how many items are sections
abbrev pub sections : List Item → ℕ
sections [] = 0
sections (item ∷ items) = if is_section (out-Item item) then suc (sections items) else sections items

-- the first item that is a section
abbrev pub first_section : List Item → Option Item
first_section [] = None
first_section (item ∷ items) = if is_section (out-Item item) then Some item else first_section items

-- ---- members

-- an id without its marks
abbrev pub unmarked : List ℕ → List ℕ
unmarked [] = []
unmarked (b ∷ bytes) = if b == 45 then unmarked bytes else b ∷ unmarked bytes

-- what a section of that name spells: its id, `dev_size`, `pe_start` and `pe_count`
abbrev pub physical_volume_of : List ℕ → List Item → Option PhysicalVolume
physical_volume_of name items =
    if is_dashed name then None else
    option_and_then (λ id. option_and_then (λ size. option_and_then (λ start. option_and_then (λ count.
    Some (record { name = name; id = unmarked id; size = size; start = start; count = count }))
    (needed (codes "pe_count") items)) (needed (codes "pe_start") items)) (needed (codes "dev_size") items))
    (text_named (codes "id") items)

-- the place of the first member of this name, counted from n
abbrev pub place_from : ℕ → List ℕ → List PhysicalVolume → Option ℕ
place_from n name [] = None
place_from n name (p ∷ ps) = if bytes_eq p.name name then Some n else place_from (suc n) name ps

-- ---- segments

-- a member's name and a number
abbrev pub stripe_in : List PhysicalVolume → List Scalar → Option Stripe
stripe_in ps [] = None
stripe_in ps (scalar.Number n ∷ scalars) = None
stripe_in ps (scalar.Text name ∷ []) = None
stripe_in ps (scalar.Text name ∷ scalar.Text other ∷ scalars) = None
stripe_in ps (scalar.Text name ∷ scalar.Number n ∷ []) =
    option_and_then (λ m. Some (record { member = m; first = n })) (place_from 0 name ps)
stripe_in ps (scalar.Text name ∷ scalar.Number n ∷ s ∷ scalars) = None

-- the text is there and is this one
abbrev pub is_text : List ℕ → Option (List ℕ) → Bool
is_text wanted None = false
is_text wanted (Some text) = bytes_eq text wanted

-- the number is there and is 1
abbrev pub is_one : Option ℕ → Bool
is_one None = false
is_one (Some n) = n == 1

-- a segment's type, and its number of stripes
abbrev pub is_striped : List Item → Bool
is_striped items = is_text (codes "striped") (text_named (codes "type") items) && is_one (needed (codes "stripe_count") items)

-- where a segment lies, if it is striped over one member
abbrev pub stripe_of : List PhysicalVolume → List Item → Option Stripe
stripe_of ps items =
    if is_striped items then option_and_then (stripe_in ps) (scalars_named (codes "stripes") items) else None

-- what a segment's section spells: its `start_extent` and `extent_count`, and where it lies
abbrev pub segment_of : List PhysicalVolume → List Item → Option Segment
segment_of ps items =
    option_and_then (λ start. option_and_then (λ count.
    Some (record { start = start; count = count; stripe = stripe_of ps items }))
    (needed (codes "extent_count") items)) (needed (codes "start_extent") items)

-- the name of segment k
abbrev pub segment_name : ℕ → List ℕ
segment_name k = codes "segment" ++ decimal k

-- what the section of a segment spells, where there is one
abbrev pub segment_in : List PhysicalVolume → Option Tree → Option Segment
segment_in ps None = None
segment_in ps (Some tree) = segment_of ps (items_in tree)

-- n segments from the k-th on
abbrev pub segments_from : List PhysicalVolume → ℕ → ℕ → List Item → Option (List Segment)
segments_from ps k zero items = Some []
segments_from ps k (suc n) items =
    joined_options (segment_in ps (section_named (segment_name k) items)) (segments_from ps (suc k) n items)

-- what a section of that name spells: `segment_count` segments
abbrev pub logical_volume_of : List PhysicalVolume → List ℕ → List Item → Option LogicalVolume
logical_volume_of ps name items =
    if is_dashed name then None else
    option_and_then (λ n. option_and_then (λ segments.
    Some (record { name = name; segments = segments }))
    (segments_from ps 1 n items)) (needed (codes "segment_count") items)

-- ---- the group

-- the volumes among the items of a section
abbrev pub logicals_in : List PhysicalVolume → Layer → Option (List LogicalVolume)
logicals_in ps (Item-F.Section name tree) = each_section (logical_volume_of ps) (items_in tree)
logicals_in ps (Item-F.Value name v) = None

-- the volumes; they may be missing
abbrev pub logicals_of : List PhysicalVolume → Option Item → Option (List LogicalVolume)
logicals_of ps None = Some []
logicals_of ps (Some item) = logicals_in ps (out-Item item)

-- the physical volumes among the items of a section, which may not be missing
abbrev pub physicals_of : Option Tree → Option (List PhysicalVolume)
physicals_of None = None
physicals_of (Some tree) = each_section physical_volume_of (items_in tree)

-- the sectors of an extent, and a sequence number beside it
abbrev pub extent_size_of : List Item → Option ℕ
extent_size_of items =
    option_and_then (λ extent. if extent == 0 then None else option_and_then (λ seqno. Some extent) (needed (codes "seqno") items))
    (needed (codes "extent_size") items)

-- the volumes that stand in `logical_volumes`
abbrev pub logicals_in_order : List PhysicalVolume → List Item → Option (List LogicalVolume)
logicals_in_order ps items = logicals_of ps (first_named (codes "logical_volumes") items)

-- both lists
abbrev pub both_lists : List Item → Option (List PhysicalVolume × List LogicalVolume)
both_lists items =
    option_and_then (λ ps. option_and_then (λ ls. Some (ps, ls)) (logicals_in_order ps items))
    (physicals_of (section_named (codes "physical_volumes") items))

-- what a section of that name spells
abbrev pub group_in : List ℕ → List Item → Option Spelt
group_in name items =
    if is_dashed name then None else
    option_and_then (λ extent. option_and_then (λ both.
    Some (record { name = name; extent = extent; physicals = both.0; logicals = both.1 }))
    (both_lists items)) (extent_size_of items)

-- what an item spells, where it is a section
abbrev pub group_at : Layer → Option Spelt
group_at (Item-F.Section name tree) = group_in name (items_in tree)
group_at (Item-F.Value name v) = None

-- the group that the items of a text spell
abbrev pub spelt : List Item → Option Spelt
spelt items =
    if sections items == 1 then option_and_then (λ item. group_at (out-Item item)) (first_section items) else None
