-- The words after the tool, divided into items. The tool's own word has the place 0.
use Rattle.std.specs.Prelude.{ℕ, ◌+◌, ◌&&◌, ◌||◌, Bool, true, false, not, Option, Some, None, List, [], ◌∷◌, length, ◌==◌, nat_lt, if◌then◌else◌, slice_index, codes}
use Rattle.std.specs.Str.{bytes_eq}
use Rattle.words.specs.declared.options.Tool.{Tool}
use Rattle.words.specs.declared.options.Kind.TheVariants.{Flag, Once, Many}
use Rattle.words.specs.declared.options.Known.{Known}
use Rattle.words.specs.declared.items.Item.{Item}
use Rattle.words.specs.declared.items.Item.TheVariants.{Plain, Spoiled, Valued, Bare, Stray, Ends, Operand}
use Rattle.words.specs.Options.{option_named}
use Rattle.words.specs.Spelling.{parted_at}

-- a word that is an option where options haven't ended: it begins with `-` and is longer
abbrev pub is_option : List ℕ → Bool
is_option word = slice_index word 0 == 45 && nat_lt 1 (length word)

-- an option takes the next word for its value, whatever that begins with
abbrev pub taking_next : Known → ℕ → Option (List ℕ) → Item
taking_next known place None = Bare known place
taking_next known place (Some value) = Valued known place value (place + 1)

-- the item of an option without `=`
abbrev pub whole_item : Option Known → ℕ → Option (List ℕ) → Item
whole_item None place next = Stray place
whole_item (Some known) place next = elim (known.kind) [ Flag ↦ Plain known.option place | Once ↦ taking_next known place next | Many ↦ taking_next known place next ]

-- the item of an option with `=`, and with its value in the same word
abbrev pub joined_item : Option Known → ℕ → List ℕ → Item
joined_item None place value = Stray place
joined_item (Some known) place value = elim (known.kind) [ Flag ↦ Spoiled known.option place | Once ↦ Valued known place value place | Many ↦ Valued known place value place ]

-- the item of a word that is an option
unfoldable pub option_item : Tool → ℕ → List ℕ → Option (List ℕ) → Item
option_item tool place word next = elim (parted_at 61 word) [ None ↦ whole_item (option_named tool word) place next | Some parts ↦ joined_item (option_named tool parts.0) place parts.1 ]

-- the item that begins with a word, by whether options have ended, and by the next word if there is one
unfoldable pub item_at : Tool → Bool → ℕ → List ℕ → Option (List ℕ) → Item
item_at tool ended place word next = if ended || not (is_option word) then Operand place word else if bytes_eq word (codes "--") then Ends else option_item tool place word next

-- whether the next word is part of the item
abbrev pub holds_next : Item → Bool
holds_next (Valued known place value value_place) = nat_lt place value_place
holds_next item = false

-- how many words an item is made of
abbrev pub words_in : Item → ℕ
words_in item = if holds_next item then 2 else 1

abbrev pub is_end : Item → Bool
is_end Ends = true
is_end item = false

-- the items of the words from a place on
unfoldable pub items_of : Tool → Bool → ℕ → List (List ℕ) → List Item
items_of tool ended place [] = []
items_of tool ended place (word ∷ []) = item_at tool ended place word None ∷ []
items_of tool ended place (word ∷ next ∷ rest) =
    let item = item_at tool ended place word (Some next) in
    let over = ended || is_end item in
    item ∷ elim (holds_next item) [ true ↦ items_of tool over (place + 2) rest | false ↦ items_of tool over (place + 1) (next ∷ rest) ]
