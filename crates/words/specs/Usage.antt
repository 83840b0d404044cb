-- What is wrong with an item, by itself and by the items before it.
use Rattle.std.specs.Prelude.{ℕ, ◌&&◌, ◌||◌, Bool, true, false, Option, Some, None, List, [], ◌∷◌, ◌++◌, length, nat_lt, if◌then◌else◌, codes}
use Rattle.std.specs.List.{list_any, filter_map}
use Rattle.std.specs.Str.{bytes_eq}
use Rattle.words.specs.declared.job.VolumeName.{VolumeName}
use Rattle.words.specs.declared.usage.Usage.{Usage}
use Rattle.words.specs.declared.usage.Usage.TheVariants.{Unknown, Value, Extra, Excluded, Twice, Size}
use Rattle.words.specs.declared.options.Choice.{Choice}
use Rattle.words.specs.declared.options.Choice.TheVariants.{Expand, Shrink, Resize, ResizeForce, Delete, Ignore, LvExpand, Alignment, AlignFirst, UnknownFilesystems, Format, OutputFormat, IgnoreVolume, ZeroVolume, InPlace, Convert}
use Rattle.words.specs.declared.options.Kind.{Kind}
use Rattle.words.specs.declared.options.Kind.TheVariants.{Once}
use Rattle.words.specs.declared.options.Known.{Known}
use Rattle.words.specs.declared.items.Item.{Item}
use Rattle.words.specs.declared.items.Item.TheVariants.{Plain, Spoiled, Valued, Bare, Stray, Ends, Operand}
use Rattle.words.specs.Options.{same_option}
use Rattle.words.specs.Sizes.{size_of}
use Rattle.words.specs.Spelling.{parted_at, part_of, lv_of, volume_of, is_same_volume, alignment_of, align_first_of, unknown_of}

-- whether an item is this option
abbrev pub is_named : Choice → Item → Bool
is_named option (Plain other place) = same_option option other
is_named option (Spoiled other place) = same_option option other
is_named option (Valued known place value value_place) = same_option option known.option
is_named option (Bare known place) = same_option option known.option
is_named option (Stray place) = false
is_named option Ends = false
is_named option (Operand place text) = false

-- whether an option is among the items
abbrev pub is_among : Choice → List Item → Bool
is_among option items = list_any (is_named option) items

abbrev pub operand_of : Item → Option (List ℕ)
operand_of (Operand place text) = Some text
operand_of item = None

-- the operands among the items
abbrev pub operands : List Item → List (List ℕ)
operands items = filter_map operand_of items

-- the options that shut each other out, the later one being the fault
unfoldable pub is_excluded : Choice → List Item → Bool
is_excluded Expand earlier = is_among Shrink earlier
is_excluded Shrink earlier = is_among Expand earlier
is_excluded InPlace earlier = is_among ZeroVolume earlier || is_among Convert earlier || nat_lt 1 (length (operands earlier))
is_excluded ZeroVolume earlier = is_among InPlace earlier
is_excluded Convert earlier = is_among InPlace earlier
is_excluded option earlier = false

abbrev pub is_once : Kind → Bool
is_once Once = true
is_once kind = false

-- an option with a value that comes again, or that an earlier one shuts out
unfoldable pub option_fault : List Item → Known → ℕ → Option Usage
option_fault earlier known place = if is_once known.kind && is_among known.option earlier then Some (Twice place) else if is_excluded known.option earlier then Some (Excluded place) else None

-- the fault where the value spells nothing
abbrev pub unless : {A : Type 0} → Usage → Option A → Option Usage
unless fault None = Some fault
unless fault (Some value) = None

-- a partition and its size, with `=` between them: the partition is judged first
unfoldable pub sized_fault : ℕ → List ℕ → Option Usage
sized_fault place value = elim (parted_at 61 value) [ None ↦ Some (Value place) | Some parts ↦ elim (part_of parts.0) [ None ↦ Some (Value place) | Some part ↦ unless (Size place) (size_of parts.1) ] ]

-- what is wrong with an option's value
unfoldable pub value_fault : Choice → ℕ → List ℕ → Option Usage
value_fault Expand place value = unless (Value place) (part_of value)
value_fault Shrink place value = unless (Value place) (part_of value)
value_fault Delete place value = unless (Value place) (part_of value)
value_fault Ignore place value = unless (Value place) (part_of value)
value_fault Resize place value = sized_fault place value
value_fault ResizeForce place value = sized_fault place value
value_fault LvExpand place value = unless (Value place) (lv_of value)
value_fault Alignment place value = unless (Value place) (alignment_of value)
value_fault AlignFirst place value = unless (Value place) (align_first_of value)
value_fault UnknownFilesystems place value = unless (Value place) (unknown_of value)
value_fault IgnoreVolume place value = unless (Value place) (volume_of value)
value_fault ZeroVolume place value = unless (Value place) (volume_of value)
value_fault Format place value = if bytes_eq value (codes "raw") then None else Some (Value place)
value_fault OutputFormat place value = if bytes_eq value (codes "raw") then None else Some (Value place)
value_fault Convert place value = if bytes_eq value (codes "raw") then None else Some (Value place)
value_fault option place value = None

-- the options whose values are volumes
abbrev pub names_volumes : Choice → Bool
names_volumes option = same_option option IgnoreVolume || same_option option ZeroVolume

-- whether two values name one volume
abbrev pub are_one : Option VolumeName → Option VolumeName → Bool
are_one (Some one) (Some other) = is_same_volume one other
are_one one other = false

-- the volume that an item names
abbrev pub volume_in : Item → Option VolumeName
volume_in (Valued known place value value_place) = if names_volumes known.option then volume_of value else None
volume_in item = None

-- a volume that an earlier item names
unfoldable pub volume_fault : List Item → Item → ℕ → Option Usage
volume_fault earlier item place = if list_any (λ other. are_one (volume_in item) (volume_in other)) earlier then Some (Twice place) else None

abbrev pub first_some : Option Usage → Option Usage → Option Usage
first_some None later = later
first_some (Some fault) later = Some fault

-- how many operands there may be: one with `--in-place`, else two
abbrev pub most_operands : List Item → ℕ
most_operands items = if is_among InPlace items then 1 else 2

-- the first fault of an item. An option's place is never behind that of its value, and at one place the order is this one
unfoldable pub fault_of : List Item → Item → Option Usage
fault_of earlier (Plain option place) = if is_excluded option earlier then Some (Excluded place) else None
fault_of earlier (Spoiled option place) = if is_excluded option earlier then Some (Excluded place) else Some (Value place)
fault_of earlier (Valued known place value value_place) = first_some (option_fault earlier known place) (first_some (value_fault known.option value_place value) (volume_fault earlier (Valued known place value value_place) value_place))
fault_of earlier (Bare known place) = first_some (option_fault earlier known place) (Some (Value place))
fault_of earlier (Stray place) = Some (Unknown place)
fault_of earlier Ends = None
fault_of earlier (Operand place text) = if nat_lt (length (operands earlier)) (most_operands earlier) then None else Some (Extra place)

-- the first fault of the later items. The places of items rise, so it is the first by place
abbrev pub first_fault : List Item → List Item → Option Usage
first_fault earlier [] = None
first_fault earlier (item ∷ later) = first_some (fault_of earlier item) (first_fault (earlier ++ item ∷ []) later)
