-- the items so far and those of the words that are left are those of all words
use Rattle.std.proofs.Common.{◌≡◌, ◌-◌, ◌++◌, false, length, drop, map, string_bytes}
use Rattle.words.specs.Items.{items_of}
use Rattle.words.proofs.items.divide.Given as goal

abbrev pub invariant-loop-word : goal.invariant-loop-word
invariant-loop-word l = l.items.items ++ items_of l.tool l.ended l.at (drop l.at (map string_bytes l.words)) ≡ items_of l.tool false 1 (drop 1 (map string_bytes l.words))

abbrev pub decreases-loop-word : goal.decreases-loop-word
decreases-loop-word l = length l.words - l.at
