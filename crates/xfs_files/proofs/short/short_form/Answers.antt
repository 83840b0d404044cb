use Rattle.std.proofs.Common.{◌≡◌, ◌-◌, ◌≤◌, ℕ, List, take, drop, length, ap, ◌∙◌, arith, length-drop}
use Rattle.std.specs.Prelude.{min}
use Rattle.std.proofs.lemmas.List.{take-take, take_min}
use Rattle.xfs_files.proofs.short.short_form.Goals as goal

pub returns : goal.returns
returns c =
    let bytes : List ℕ = c.args.bytes.now in
    let fork : List ℕ = drop 176 bytes in
    let less : c.min-len.result ≤ length bytes - 176 = omega (arith, c.min-len.ensures) in
    let long : c.min-len.result ≡ min c.args.core.now.size (length fork) = omega (arith, c.min-len.ensures, length-drop 176 bytes) in
    take-take c.min-len.result (length bytes - 176) fork less ∙ ap (λ (n : ℕ). take n fork) long ∙ take_min c.args.core.now.size fork
