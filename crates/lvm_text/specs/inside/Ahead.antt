-- One token further, and the end, at a place.
use Rattle.std.specs.Prelude.{◌≡◌, ℕ, List, [], ◌∷◌, true, Option, Some, None, Result, Ok, Err}
use Rattle.lvm_text.specs.declared.token.Token.{Token}
use Rattle.lvm_text.specs.declared.tree.Item.{Item}
use Rattle.lvm_text.specs.declared.tree.Tree.{Tree}
use Rattle.lvm_text.specs.declared.fault.TextFault.{TextFault}
use Rattle.lvm_text.specs.declared.fault.TextFault.TheVariants as fault
use Rattle.lvm_text.specs.declared.machine.Wrong.{Wrong}
use Rattle.lvm_text.specs.declared.machine.Wrong.TheVariants.{Shape, Number, Depth}
use Rattle.lvm_text.specs.declared.machine.Frame.{Frame}
use Rattle.lvm_text.specs.declared.machine.State.{State}
use Rattle.lvm_text.specs.declared.machine.Due.{Due}
use Rattle.lvm_text.specs.declared.machine.Due.TheVariants as due
use Rattle.lvm_text.specs.Tree.{tree_of}
use Rattle.lvm_text.specs.Tokens.{skipped}
use Rattle.lvm_text.specs.inside.Scan.{token_at}
use Rattle.lvm_text.specs.inside.Machine.{step}

abbrev pub placed : ℕ → Wrong → TextFault
placed at Shape = fault.Shape at
placed at Number = fault.Number at
placed at Depth = fault.Depth at

-- what a function returned, seen by view, is what reading gives, unless memory ran out
abbrev pub FailsAt : {B : Type 0} → TextFault → Result B TextFault → Type 0
FailsAt (fault.Token at) read = read ≡ Err (fault.Token at)
FailsAt (fault.Shape at) read = read ≡ Err (fault.Shape at)
FailsAt (fault.Number at) read = read ≡ Err (fault.Number at)
FailsAt (fault.Depth at) read = read ≡ Err (fault.Depth at)
FailsAt fault.Memory read = Unit {0}

abbrev pub GivesAt : {A B : Type 0} → (A → B) → Result A TextFault → Result B TextFault → Type 0
GivesAt view (Ok x) read = read ≡ Ok (view x)
GivesAt view (Err e) read = FailsAt e read

abbrev pub behind_step : ℕ → Result State Wrong → List ℕ → Result (State × List ℕ) TextFault
behind_step at (Ok s) more = Ok (s, skipped more)
behind_step at (Err wrong) more = Err (placed at wrong)

abbrev pub behind_token : ℕ → State → Option (Token × List ℕ) → Result (State × List ℕ) TextFault
behind_token at s None = Err (fault.Token at)
behind_token at s (Some p) = behind_step at (step true s p.0) p.1

-- the state behind the token at the front, and the rest behind spaces and comments
abbrev pub ahead : ℕ → State → List ℕ → Result (State × List ℕ) TextFault
ahead at s rest = behind_token at s (token_at rest)

abbrev pub finished_in : ℕ → List Frame → List Item → Result Tree TextFault
finished_in at [] here = Ok (tree_of here)
finished_in at (frame ∷ frames) here = Err (fault.Shape at)

abbrev pub finished_due : ℕ → List Frame → List Item → Due → Result Tree TextFault
finished_due at frames here due.Name = finished_in at frames here
finished_due at frames here (due.Mark name) = Err (fault.Shape at)
finished_due at frames here (due.Value name) = Err (fault.Shape at)
finished_due at frames here (due.First name) = Err (fault.Shape at)
finished_due at frames here (due.Scalar name scalars) = Err (fault.Shape at)
finished_due at frames here (due.Comma name scalars) = Err (fault.Shape at)

-- the tree where the text ends
abbrev pub finished : ℕ → State → Result Tree TextFault
finished at s = finished_due at s.frames s.here s.due
