-- The options of both tools: one table for each, with each name, its option and its kind.
use Rattle.std.specs.Prelude.{ℕ, Bool, Option, Some, None, List, [], ◌∷◌, if◌then◌else◌, codes}
use Rattle.std.specs.Str.{bytes_eq}
use Rattle.words.specs.declared.options.Tool.{Tool}
use Rattle.words.specs.declared.options.Tool.TheVariants.{VirtResize, VirtSparsify}
use Rattle.words.specs.declared.options.Choice.{Choice}
use Rattle.words.specs.declared.options.Choice.TheVariants.{Expand, Shrink, Resize, ResizeForce, Delete, Ignore, LvExpand, Alignment, AlignFirst, UnknownFilesystems, Format, OutputFormat, NoExtraPartition, NoCopyBootLoader, NoExpandContent, NoSparse, DryRun, Quiet, IgnoreVolume, ZeroVolume, InPlace, Convert}
use Rattle.words.specs.declared.options.Kind.{Kind}
use Rattle.words.specs.declared.options.Kind.TheVariants.{Flag, Once, Many}
use Rattle.words.specs.declared.options.Known.{Known}
use Rattle.words.specs.contracts.options.Choice.{the_type}
use denote.Enum.Bare.{sameb}

-- the tool that a first word names
abbrev pub tool_of : List ℕ → Option Tool
tool_of word = if bytes_eq word (codes "virt-resize") then Some VirtResize else if bytes_eq word (codes "virt-sparsify") then Some VirtSparsify else None

abbrev pub row : List ℕ → Choice → Kind → List ℕ × Known
row name option kind = (name, record { option = option; kind = kind })

-- a flag takes no value; an option of kind Once takes one and comes once, one of kind Many takes one each time
abbrev pub resize_options : List (List ℕ × Known)
resize_options =
    row (codes "--expand") Expand Once
    ∷ row (codes "--shrink") Shrink Once
    ∷ row (codes "--resize") Resize Many
    ∷ row (codes "--resize-force") ResizeForce Many
    ∷ row (codes "--delete") Delete Many
    ∷ row (codes "--ignore") Ignore Many
    ∷ row (codes "--lv-expand") LvExpand Many
    ∷ row (codes "--LV-expand") LvExpand Many
    ∷ row (codes "--alignment") Alignment Once
    ∷ row (codes "--align-first") AlignFirst Once
    ∷ row (codes "--unknown-filesystems") UnknownFilesystems Once
    ∷ row (codes "--format") Format Once
    ∷ row (codes "--output-format") OutputFormat Once
    ∷ row (codes "--no-extra-partition") NoExtraPartition Flag
    ∷ row (codes "--no-copy-boot-loader") NoCopyBootLoader Flag
    ∷ row (codes "--no-expand-content") NoExpandContent Flag
    ∷ row (codes "--no-sparse") NoSparse Flag
    ∷ row (codes "-n") DryRun Flag
    ∷ row (codes "--dryrun") DryRun Flag
    ∷ row (codes "--dry-run") DryRun Flag
    ∷ row (codes "-q") Quiet Flag
    ∷ row (codes "--quiet") Quiet Flag
    ∷ []

abbrev pub sparsify_options : List (List ℕ × Known)
sparsify_options =
    row (codes "--ignore") IgnoreVolume Many
    ∷ row (codes "--zero") ZeroVolume Many
    ∷ row (codes "--in-place") InPlace Flag
    ∷ row (codes "--format") Format Once
    ∷ row (codes "--convert") Convert Once
    ∷ row (codes "-q") Quiet Flag
    ∷ row (codes "--quiet") Quiet Flag
    ∷ []

abbrev pub options_of : Tool → List (List ℕ × Known)
options_of VirtResize = resize_options
options_of VirtSparsify = sparsify_options

-- the option of a name
abbrev pub named_in : List (List ℕ × Known) → List ℕ → Option Known
named_in [] name = None
named_in (r ∷ rows) name = if bytes_eq name r.0 then Some r.1 else named_in rows name

unfoldable pub option_named : Tool → List ℕ → Option Known
option_named tool name = named_in (options_of tool) name

-- whether two options are one
abbrev pub same_option : Choice → Choice → Bool
same_option one other = sameb the_type one other
