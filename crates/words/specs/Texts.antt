-- What is printed of words that are no job.
use Rattle.std.specs.Prelude.{ℕ, List, ◌++◌, codes}
use Rattle.std.specs.Fmt.{decimal}
use Rattle.words.specs.declared.usage.Usage.{Usage}
use Rattle.words.specs.declared.usage.Usage.TheVariants.{Tool, Unknown, Value, Missing, Extra, Excluded, Twice, Size, Same, Memory}

abbrev pub usage_text : Usage → List ℕ
usage_text Tool = codes "Tool"
usage_text (Unknown place) = codes "Unknown place=" ++ decimal place
usage_text (Value place) = codes "Value place=" ++ decimal place
usage_text Missing = codes "Missing"
usage_text (Extra place) = codes "Extra place=" ++ decimal place
usage_text (Excluded place) = codes "Excluded place=" ++ decimal place
usage_text (Twice place) = codes "Twice place=" ++ decimal place
usage_text (Size place) = codes "Size place=" ++ decimal place
usage_text Same = codes "Same"
usage_text Memory = codes "Memory"
