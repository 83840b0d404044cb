use Rattle.std.proofs.Common.{List, ℕ, ◌∙◌, sym, subst}
use Rattle.std.specs.Result.{IfErr}
use Rattle.xfs_dir.specs.Short.{IsShortEntryFault}
use Rattle.xfs_files.proofs.Verdicts.{unspelled_short_form}
use Rattle.xfs_files.proofs.short.is_sound_short_form.Goals as goal

pub returns-clause-no : goal.returns-clause-no
returns-clause-no c =
    λ refused.
    let form : List ℕ = c.short_form.result.now in
    unspelled_short_form c.args.core.now c.args.bytes.now c.short_entries.result (sym c.is_ok.ensures.value ∙ refused)
    (subst (λ (bytes : List ℕ). IfErr c.short_entries.result (λ fault. IsShortEntryFault bytes fault.at)) c.short_form.ensures c.short_entries.ensures.fault)
