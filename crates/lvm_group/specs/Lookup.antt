-- Lookups: the first item of a name counts.
use Rattle.std.specs.Prelude.{ℕ, ℤ, List, [], ◌∷◌, Option, Some, None, if◌then◌else◌}
use Rattle.std.specs.Str.{bytes_eq}
use Rattle.lvm_text.specs.declared.tree.Item.{Item, out-Item}
use Rattle.lvm_text.specs.declared.tree.Item.TheOpen.{Item-F}
use Rattle.lvm_text.specs.declared.tree.Tree.{Tree}
use Rattle.lvm_text.specs.declared.tree.Value.{Value}
use Rattle.lvm_text.specs.declared.tree.Value.TheVariants as value
use Rattle.lvm_text.specs.Tree.{Layer}

-- the name of an item
abbrev pub name_in : Layer → List ℕ
name_in (Item-F.Section name tree) = name
name_in (Item-F.Value name v) = name

abbrev pub name_of : Item → List ℕ
name_of item = name_in (out-Item item)

-- the first item of this name
abbrev pub first_named : List ℕ → List Item → Option Item
first_named name [] = None
first_named name (item ∷ items) = if bytes_eq (name_of item) name then Some item else first_named name items

-- a value that is a number
abbrev pub number_of_value : Value → Option ℤ
number_of_value (value.Number n) = Some n
number_of_value (value.Text text) = None
number_of_value (value.Many scalars) = None

abbrev pub number_in : Layer → Option ℤ
number_in (Item-F.Section name tree) = None
number_in (Item-F.Value name v) = number_of_value v

abbrev pub number_of_item : Option Item → Option ℤ
number_of_item None = None
number_of_item (Some item) = number_in (out-Item item)

-- the number of the first item of this name
abbrev pub number_named : List ℕ → List Item → Option ℤ
number_named name items = number_of_item (first_named name items)

abbrev pub section_in : Layer → Option Tree
section_in (Item-F.Section name tree) = Some tree
section_in (Item-F.Value name v) = None

abbrev pub section_of_item : Option Item → Option Tree
section_of_item None = None
section_of_item (Some item) = section_in (out-Item item)

-- the section of the first item of this name
abbrev pub section_named : List ℕ → List Item → Option Tree
section_named name items = section_of_item (first_named name items)
