use Rattle.std.proofs.Common.{◌<◌, ◌-◌, All, take, drop, length}
use Rattle.run_set.specs.Runs.{IsLeastCommon, past_of}
use Rattle.std.proofs.lemmas.Result.{err_from_is_err_and}
use Rattle.run_set.specs.inside.Joins.{Joins}
use Rattle.run_set.proofs.Joining.{rest_set, new_set, new_holds, new_free, common_whole}
use Rattle.run_set.proofs.Runs.add.Goals as goal

pub join-requires-clause-set : goal.join-requires-clause-set
join-requires-clause-set c =
    rest_set c.deref-2.result.now c.place-at.result (rw c.deref-2.ensures.value c.self.invariant)

pub returns-in-Err-clause-fault : goal.returns-in-Err-clause-fault
returns-in-Err-clause-fault c =
    let below : All (λ run. past_of run < c.args.start) (take c.place-at.result c.self.inside.runs.items) = rw (← c.deref.ensures.value) c.place-at.ensures.below in
    let common : IsLeastCommon (take (length c.self.inside.runs.items - c.place-at.result) (drop c.place-at.result c.self.inside.runs.items)) c.args.start c.args.n c.in-Err.start = rw (← c.deref-2.ensures.value) c.in-Err.ensures.common in
    rw (← c.self.view_is) (common_whole c.self.inside.runs.items c.place-at.result c.args.start c.args.n c.in-Err.start below common)

pub invariant_of-self-2 : goal.invariant_of-self-2
invariant_of-self-2 c =
    let below : All (λ run. past_of run < c.args.start) (take c.place-at.result c.self.inside.runs.items) = rw (← c.deref.ensures.value) c.place-at.ensures.below in
    let joins : Joins (take (length c.self.inside.runs.items - c.place-at.result) (drop c.place-at.result c.self.inside.runs.items)) c.args.start c.args.n c.in-Ok.joined.run c.in-Ok.joined.replaced = rw (← c.deref-2.ensures.value) c.in-Ok.ensures.joins in
    rw c.in_ok-replace.ensures.ok (new_set c.self.inside.runs.items c.place-at.result c.args.start c.args.n c.in-Ok.joined.run c.in-Ok.joined.replaced c.self.invariant below joins)

pub returns-clause-added : goal.returns-clause-added
returns-clause-added c =
    let joins : Joins (take (length c.self.inside.runs.items - c.place-at.result) (drop c.place-at.result c.self.inside.runs.items)) c.args.start c.args.n c.in-Ok.joined.run c.in-Ok.joined.replaced = rw (← c.deref-2.ensures.value) c.in-Ok.ensures.joins in
    λ x. rw (c.in_ok-replace.ensures.ok, ← c.self.view_is) (new_holds c.self.inside.runs.items c.place-at.result c.args.start c.args.n c.in-Ok.joined.run c.in-Ok.joined.replaced x joins)

pub returns-clause-free : goal.returns-clause-free
returns-clause-free c =
    let below : All (λ run. past_of run < c.args.start) (take c.place-at.result c.self.inside.runs.items) = rw (← c.deref.ensures.value) c.place-at.ensures.below in
    let joins : Joins (take (length c.self.inside.runs.items - c.place-at.result) (drop c.place-at.result c.self.inside.runs.items)) c.args.start c.args.n c.in-Ok.joined.run c.in-Ok.joined.replaced = rw (← c.deref-2.ensures.value) c.in-Ok.ensures.joins in
    λ x. rw (← c.self.view_is) (new_free c.self.inside.runs.items c.place-at.result c.args.start c.args.n c.in-Ok.joined.run c.in-Ok.joined.replaced x below joins)

pub returns-in_err-replace-clause-fault : goal.returns-in_err-replace-clause-fault
returns-in_err-replace-clause-fault c =
    let below : All (λ run. past_of run < c.args.start) (take c.place-at.result c.self.inside.runs.items) = rw (← c.deref.ensures.value) c.place-at.ensures.below in
    let joins : Joins (take (length c.self.inside.runs.items - c.place-at.result) (drop c.place-at.result c.self.inside.runs.items)) c.args.start c.args.n c.in-Ok.joined.run c.in-Ok.joined.replaced = rw (← c.deref-2.ensures.value) c.in-Ok.ensures.joins in
    let fault = err_from_is_err_and c.from_residual.result c.from_residual.ensures.1 in
    rw (fault.1, fault.2, c.in_err-replace.ensures.memory)
    (λ x. rw (← c.self.view_is) (new_free c.self.inside.runs.items c.place-at.result c.args.start c.args.n c.in-Ok.joined.run c.in-Ok.joined.replaced x below joins))
