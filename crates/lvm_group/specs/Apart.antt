-- Extents that share none.
use Rattle.std.specs.Prelude.{◌+◌, Bool, not, ◌||◌, ◌==◌, nat_le}
use Rattle.lvm_group.specs.declared.span.Span.{Span}

-- no extent of one physical volume is in both
abbrev pub are_apart : Span → Span → Bool
are_apart s t = not (s.member == t.member) || nat_le (s.first + s.count) t.first || nat_le (t.first + t.count) s.first
