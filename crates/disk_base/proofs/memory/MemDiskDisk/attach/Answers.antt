-- An ask changes nothing on which a refusal rests.
use Rattle.std.proofs.Common.{rules, ◌≡◌, true, ap, sym, inl, ◌∙◌}
use Rattle.disk_base.specs.Memory.{state_of, refuses}
use Rattle.disk_base.proofs.memory.MemDiskDisk.attach.Goals as goal

pub returns-then-refuses-clause-refused : goal.returns-then-refuses-clause-refused
returns-then-refuses-clause-refused c =
    let yes : refuses (state_of c.ask-own.new.self) 0 ≡ true = search rules in
    inl (sym (ap (λ s. refuses s 0) c.ask-own.ensures.others) ∙ yes)
