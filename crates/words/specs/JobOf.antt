-- The job of a list of words.
use Rattle.std.specs.Prelude.{ℕ, Bool, true, false, not, Option, Some, None, Result, Ok, Err, List, [], drop, slice_get, if◌then◌else◌, option_and_then, unwrap_or, ◌≡◌}
use Rattle.std.specs.List.{filter_map}
use Rattle.std.specs.Str.{bytes_eq}
use Rattle.layout_plan.specs.declared.wish.Wish.{Wish}
use Rattle.layout_plan.specs.declared.wish.What.{What}
use Rattle.layout_plan.specs.declared.wish.What.TheVariants as whats
use Rattle.layout_plan.specs.declared.wish.Size.{Size}
use Rattle.layout_plan.specs.declared.wish.Layout.{Layout}
use Rattle.words.specs.declared.job.Job.{Job}
use Rattle.words.specs.declared.job.Job.TheVariants as jobs
use Rattle.words.specs.declared.job.ResizeJob.{ResizeJob}
use Rattle.words.specs.declared.job.SparsifyJob.{SparsifyJob}
use Rattle.words.specs.declared.job.LvWish.{LvWish}
use Rattle.words.specs.declared.job.VolumeWish.{VolumeWish}
use Rattle.words.specs.declared.job.Unknown.TheVariants.{Warn}
use Rattle.words.specs.declared.usage.Usage.{Usage}
use Rattle.words.specs.declared.usage.Usage.TheVariants as faults
use Rattle.words.specs.declared.options.Tool.{Tool}
use Rattle.words.specs.declared.options.Tool.TheVariants.{VirtResize, VirtSparsify}
use Rattle.words.specs.declared.options.Choice.{Choice}
use Rattle.words.specs.declared.options.Choice.TheVariants.{Expand, Shrink, Resize, ResizeForce, Delete, Ignore, LvExpand, Alignment, AlignFirst, UnknownFilesystems, NoExtraPartition, NoCopyBootLoader, NoExpandContent, NoSparse, DryRun, Quiet, IgnoreVolume, ZeroVolume, InPlace}
use Rattle.words.specs.declared.items.Item.{Item}
use Rattle.words.specs.declared.items.Item.TheVariants.{Valued}
use Rattle.words.specs.Options.{same_option, tool_of}
use Rattle.words.specs.Items.{items_of}
use Rattle.words.specs.Sizes.{size_of}
use Rattle.words.specs.Spelling.{parted_at, part_of, lv_of, volume_of, alignment_of, align_first_of, unknown_of}
use Rattle.words.specs.Usage.{is_among, operands, first_fault}

-- what is wished of a partition
abbrev pub wish_for : What → ℕ → Option ℕ → Option Wish
wish_for what place None = None
wish_for what place (Some part) = Some (record { place = place; part = part; what = what })

-- a wish for a size, which may cut the content where it is forced
abbrev pub sized : Bool → Size → What
sized true size = whats.Force size
sized false size = whats.Resize size

unfoldable pub sized_wish : Bool → ℕ → List ℕ → Option Wish
sized_wish forced place value = option_and_then (λ parts. option_and_then (λ size. wish_for (sized forced size) place (part_of parts.0)) (size_of parts.1)) (parted_at 61 value)

-- the wish that an option spells with its value
unfoldable pub wish_in : Choice → ℕ → List ℕ → Option Wish
wish_in Expand place value = wish_for whats.Expand place (part_of value)
wish_in Shrink place value = wish_for whats.Shrink place (part_of value)
wish_in Delete place value = wish_for whats.Delete place (part_of value)
wish_in Ignore place value = wish_for whats.Ignore place (part_of value)
wish_in Resize place value = sized_wish false place value
wish_in ResizeForce place value = sized_wish true place value
wish_in option place value = None

-- the wish of an item, if it has one
abbrev pub item_wish : Item → Option Wish
item_wish (Valued known place value value_place) = wish_in known.option value_place value
item_wish item = None

-- the value of an item with this option
abbrev pub value_if : Choice → Item → Option (List ℕ)
value_if option (Valued known place value value_place) = if same_option option known.option then Some value else None
value_if option item = None

-- the logical volume that an item expands
abbrev pub expansion : ℕ → Option (List ℕ × List ℕ) → Option LvWish
expansion place None = None
expansion place (Some names) = Some (record { place = place; group = names.0; lv = names.1 })

abbrev pub lv_wish_of : Item → Option LvWish
lv_wish_of (Valued known place value value_place) = if same_option LvExpand known.option then expansion value_place (lv_of value) else None
lv_wish_of item = None

-- the volume that an item names with this option
abbrev pub volume_wish_of : Choice → Item → Option VolumeWish
volume_wish_of option (Valued known place value value_place) = if same_option option known.option then option_and_then (λ volume. Some (record { place = value_place; volume = volume })) (volume_of value) else None
volume_wish_of option item = None

-- the value of an option that comes once
abbrev pub value_of : Choice → List Item → Option (List ℕ)
value_of option items = slice_get (filter_map (value_if option) items) 0

-- what that value spells, or else the default
abbrev pub setting : {A : Type 0} → A → (List ℕ → Option A) → Option (List ℕ) → A
setting default spelled value = unwrap_or (option_and_then spelled value) default

unfoldable pub layout_of : List Item → Layout
layout_of items = record {
  align = setting 128 alignment_of (value_of Alignment items);
  always = setting false align_first_of (value_of AlignFirst items);
  extra = not (is_among NoExtraPartition items);
}

unfoldable pub resize_job_of : List Item → List ℕ → List ℕ → ResizeJob
resize_job_of items source target = record {
  source = source;
  target = target;
  wishes = filter_map item_wish items;
  layout = layout_of items;
  lvs = filter_map lv_wish_of items;
  boot = not (is_among NoCopyBootLoader items);
  grow = not (is_among NoExpandContent items);
  unknown = setting Warn unknown_of (value_of UnknownFilesystems items);
  sparse = not (is_among NoSparse items);
  dry = is_among DryRun items;
  quiet = is_among Quiet items;
}

unfoldable pub sparsify_job_of : List Item → List ℕ → Option (List ℕ) → SparsifyJob
sparsify_job_of items source target = record {
  source = source;
  target = target;
  ignore = filter_map (volume_wish_of IgnoreVolume) items;
  zero = filter_map (volume_wish_of ZeroVolume) items;
  quiet = is_among Quiet items;
}

-- the source and the target, which may not be one text
abbrev pub both_of : Option (List ℕ) → Option (List ℕ) → Result (List ℕ × List ℕ) Usage
both_of (Some source) (Some target) = if bytes_eq source target then Err faults.Same else Ok (source, target)
both_of source target = Err faults.Missing

abbrev pub both_operands : List Item → Result (List ℕ × List ℕ) Usage
both_operands items = both_of (slice_get (operands items) 0) (slice_get (operands items) 1)

unfoldable pub resize_answer : List Item → Result Job Usage
resize_answer items = elim (both_operands items) [ Ok names ↦ Ok (jobs.Resize (resize_job_of items names.0 names.1)) | Err fault ↦ Err fault ]

unfoldable pub copy_answer : List Item → Result Job Usage
copy_answer items = elim (both_operands items) [ Ok names ↦ Ok (jobs.Sparsify (sparsify_job_of items names.0 (Some names.1))) | Err fault ↦ Err fault ]

unfoldable pub in_place_answer : List Item → Result Job Usage
in_place_answer items = elim (slice_get (operands items) 0) [ None ↦ Err faults.Missing | Some disk ↦ Ok (jobs.Sparsify (sparsify_job_of items disk None)) ]

-- the answer to items without a fault
unfoldable pub answer_to : Tool → List Item → Result Job Usage
answer_to VirtResize items = resize_answer items
answer_to VirtSparsify items = if is_among InPlace items then in_place_answer items else copy_answer items

-- the first fault of the items, or else what they ask for
unfoldable pub job_from : Tool → List Item → Result Job Usage
job_from tool items = elim (first_fault [] items) [ Some fault ↦ Err fault | None ↦ answer_to tool items ]

-- the job that a list of words asks for, or why it is none
unfoldable pub job_of : List (List ℕ) → Result Job Usage
job_of words = elim (option_and_then tool_of (slice_get words 0)) [ None ↦ Err faults.Tool | Some tool ↦ job_from tool (items_of tool false 1 (drop 1 words)) ]

-- what may be told in place of an answer: it, or that memory was refused
abbrev pub IsToldOf : Result Job Usage → Usage → Type 0
IsToldOf answer faults.Memory = Unit {0}
IsToldOf answer faults.Tool = answer ≡ Err faults.Tool
IsToldOf answer (faults.Unknown place) = answer ≡ Err (faults.Unknown place)
IsToldOf answer (faults.Value place) = answer ≡ Err (faults.Value place)
IsToldOf answer faults.Missing = answer ≡ Err faults.Missing
IsToldOf answer (faults.Extra place) = answer ≡ Err (faults.Extra place)
IsToldOf answer (faults.Excluded place) = answer ≡ Err (faults.Excluded place)
IsToldOf answer (faults.Twice place) = answer ≡ Err (faults.Twice place)
IsToldOf answer (faults.Size place) = answer ≡ Err (faults.Size place)
IsToldOf answer faults.Same = answer ≡ Err faults.Same
