-- Sizes as the user gives them, and the sectors that they come to.
use Rattle.std.specs.Prelude.{ℕ, ◌+◌, ◌-◌, ◌*◌, ◌/◌}
use Rattle.layout_plan.specs.declared.wish.Size.{Size}
use Rattle.layout_plan.specs.declared.wish.Size.TheVariants.{Bytes, More, Less, Percent, MorePercent, LessPercent}

-- so many hundredths of a number, rounded down
abbrev pub share : ℕ → ℕ → ℕ
share old percent = old * percent / 100

-- the bytes that a size asks for, where there were old bytes
abbrev pub wanted_bytes : ℕ → Size → ℕ
wanted_bytes old (Bytes n) = n
wanted_bytes old (More n) = old + n
wanted_bytes old (Less n) = old - n
wanted_bytes old (Percent p) = share old p
wanted_bytes old (MorePercent p) = old + share old p
wanted_bytes old (LessPercent p) = old - share old p

-- the sectors that a size asks for, where there were old sectors: its bytes, rounded up
abbrev pub wanted_sectors : ℕ → Size → ℕ
wanted_sectors old size = (wanted_bytes (512 * old) size + 511) / 512
