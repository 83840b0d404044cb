-- Clearing, filling and the new sector 0, each with what a stop meanwhile leaves.
use Rattle.std.proofs.Common.{◌≡◌, ℕ, ◌*◌, ◌≤◌, List, length, ap, ◌∙◌, subst, replicate, inl, inr, refl, arith}
use Rattle.disk_base.specs.Image.{with_bytes, HalfWritten}
use Rattle.disk_base.specs.Stops.{IsSettled, Adds, adds_on}
use Rattle.disk_base.proofs.Moments.{leaves_only}
use Rattle.target_work.specs.Works.{EndsAtGate, HasNoTable, IsAtGate, IsDone}
use Rattle.target_work.specs.inside.Phases.{OldOrWith}
use Rattle.target_work.proofs.Finishing.{finished, no_table_cleared, no_table_at_fault, on_err, at_err, at_ok, at_gate}
use Rattle.target_work.proofs.Stopping.{gate_cleared, gate_filled, gate_put}
use Rattle.target_work.proofs.carrying.carry_out.Goals as goal

pub clear_table-requires-clause-some : goal.clear_table-requires-clause-some
clear_table-requires-clause-some g c = let some = c.first-first.ensures.can.some in omega (arith, some, c.requires.target)

pub put_first-requires-clause-some : goal.put_first-requires-clause-some
put_first-requires-clause-some g c =
    let some = c.first-first.ensures.can.some in
    let one = c.clear_table.ensures.used.size in
    let two = c.fill.ensures.used.size in
    omega (arith, some, one, two, c.requires.target)

pub returns-in_err-map_err-clause-gate : goal.returns-in_err-map_err-clause-gate
returns-in_err-map_err-clause-gate g c =
    let gate : EndsAtGate c.args.writing.now g.S.Blocks c.args.source.now g.T.Blocks c.args.target.now c.clear_table.new.target = λ s t.
    let work = c.args.writing.now in
    let can = c.first-first.ensures.can in
    let source = g.S.Blocks.image c.args.source.now in
    let old = g.T.Blocks.image c.args.target.now in
    let long : length old ≡ 512 * work.target_sectors = g.met.T.Blocks.whole c.args.target.now t ∙ ap (λ n. 512 * n) c.requires.target in
    elim (at_err c.clear_table.result c.in_err-map_err.ensures.variant (c.clear_table.ensures.half t)) [
      | inl same ↦ inl same
      | inr wrote ↦ inr (inl (no_table_cleared old (g.T.Blocks.image c.clear_table.new.target) work.target_sectors long can.some wrote))
    ] in
    on_err _ gate

pub returns-in_err-map_err-clause-moments : goal.returns-in_err-map_err-clause-moments
returns-in_err-map_err-clause-moments g c = λ s t settled.
    let told = g.met.T.Disk.stops_told t in
    let work = c.args.writing.now in
    let can = c.first-first.ensures.can in
    let source = g.S.Blocks.image c.args.source.now in
    let old = g.T.Blocks.image c.args.target.now in
    let long : length old ≡ 512 * work.target_sectors = g.met.T.Blocks.whole c.args.target.now told ∙ ap (λ n. 512 * n) c.requires.target in
    let Gate : List ℕ → Type 0 = IsAtGate work source old in
    leaves_only old _ _ Gate (g.met.T.Disk.stops_are c.args.target.now t) settled (inl refl)
    (gate_cleared work source old can long _ _ settled (c.clear_table.ensures.stops t))

pub returns-in_err-fill-clause-no_table : goal.returns-in_err-fill-clause-no_table
returns-in_err-fill-clause-no_table g c = λ t.
    let work = c.args.writing.now in
    let can = c.first-first.ensures.can in
    let old = g.T.Blocks.image c.args.target.now in
    let long : length old ≡ 512 * work.target_sectors = g.met.T.Blocks.whole c.args.target.now t ∙ ap (λ n. 512 * n) c.requires.target in
    let cleared = g.T.Blocks.image c.clear_table.new.target in
    let clears : cleared ≡ with_bytes old 0 (replicate 512 0) = at_ok c.clear_table.result c.in_ok-map_err.ensures.variant (c.clear_table.ensures.wrote t) in
    let none : HasNoTable cleared = no_table_cleared old cleared work.target_sectors long can.some clears in
    no_table_at_fault _ _ ((c.in_err-fill.ensures.first t).first ∙ none)

pub returns-in_err-fill-clause-gate : goal.returns-in_err-fill-clause-gate
returns-in_err-fill-clause-gate g c =
    let gate : EndsAtGate c.args.writing.now g.S.Blocks c.args.source.now g.T.Blocks c.args.target.now c.fill.new.target = λ s t.
    let work = c.args.writing.now in
    let can = c.first-first.ensures.can in
    let old = g.T.Blocks.image c.args.target.now in
    let long : length old ≡ 512 * work.target_sectors = g.met.T.Blocks.whole c.args.target.now t ∙ ap (λ n. 512 * n) c.requires.target in
    let cleared = g.T.Blocks.image c.clear_table.new.target in
    let clears : cleared ≡ with_bytes old 0 (replicate 512 0) = at_ok c.clear_table.result c.in_ok-map_err.ensures.variant (c.clear_table.ensures.wrote t) in
    let none : HasNoTable cleared = no_table_cleared old cleared work.target_sectors long can.some clears in
    inr (inl ((c.in_err-fill.ensures.first t).first ∙ none)) in
    on_err _ gate

pub returns-in_err-fill-clause-moments : goal.returns-in_err-fill-clause-moments
returns-in_err-fill-clause-moments g c = λ s t settled.
    let told = g.met.T.Disk.stops_told t in
    let work = c.args.writing.now in
    let can = c.first-first.ensures.can in
    let source = g.S.Blocks.image c.args.source.now in
    let old = g.T.Blocks.image c.args.target.now in
    let long : length old ≡ 512 * work.target_sectors = g.met.T.Blocks.whole c.args.target.now told ∙ ap (λ n. 512 * n) c.requires.target in
    let cleared = g.T.Blocks.image c.clear_table.new.target in
    let clears : cleared ≡ with_bytes old 0 (replicate 512 0) = at_ok c.clear_table.result c.in_ok-map_err.ensures.variant (c.clear_table.ensures.wrote told) in
    let none : HasNoTable cleared = no_table_cleared old cleared work.target_sectors long can.some clears in
    let Gate : List ℕ → Type 0 = IsAtGate work source old in
    let cleared_settled : IsSettled cleared (g.T.Disk.stops c.clear_table.new.target) = at_ok c.clear_table.result c.in_ok-map_err.ensures.variant (c.clear_table.ensures.settled t) in
    leaves_only old _ _ Gate (g.met.T.Disk.stops_are c.args.target.now t) settled (inl refl)
    (adds_on _ _ _ Gate (gate_cleared work source old can long _ _ settled (c.clear_table.ensures.stops t))
    (gate_filled work source old can long cleared _ _ none cleared_settled (c.in_err-fill.ensures.stops t)))

pub returns-in_err-map_err-2-clause-gate : goal.returns-in_err-map_err-2-clause-gate
returns-in_err-map_err-2-clause-gate g c =
    let gate : EndsAtGate c.args.writing.now g.S.Blocks c.args.source.now g.T.Blocks c.args.target.now c.put_first.new.target = λ s t.
    let work = c.args.writing.now in
    let can = c.first-first.ensures.can in
    let source = g.S.Blocks.image c.args.source.now in
    let old = g.T.Blocks.image c.args.target.now in
    let long : length old ≡ 512 * work.target_sectors = g.met.T.Blocks.whole c.args.target.now t ∙ ap (λ n. 512 * n) c.requires.target in
    let cleared = g.T.Blocks.image c.clear_table.new.target in
    let clears : cleared ≡ with_bytes old 0 (replicate 512 0) = at_ok c.clear_table.result c.in_ok-map_err.ensures.variant (c.clear_table.ensures.wrote t) in
    let none : HasNoTable cleared = no_table_cleared old cleared work.target_sectors long can.some clears in
    let booted = g.T.Blocks.image c.fill.new.target in
    let still : HasNoTable booted = (c.in_ok-fill.ensures.first t).first ∙ none in
    let finish : (image : List ℕ) → image ≡ with_bytes booted 0 work.first → IsDone work source old image =
    λ image puts. finished work source old cleared booted image can long clears (c.in_ok-fill.ensures.filled s t) puts in
    let new = g.T.Blocks.image c.put_first.new.target in
    let Half : List ℕ → Type 0 = λ table. OldOrWith 0 table booted new in
    at_gate work source old booted new still (finish new)
    (subst Half c.first-first.ensures.first (at_err c.put_first.result c.in_err-map_err-2.ensures.variant (c.put_first.ensures.half t))) in
    on_err _ gate

pub returns-clause-finished : goal.returns-clause-finished
returns-clause-finished g c = λ s t.
    let work = c.args.writing.now in
    let can = c.first-first.ensures.can in
    let source = g.S.Blocks.image c.args.source.now in
    let old = g.T.Blocks.image c.args.target.now in
    let long : length old ≡ 512 * work.target_sectors = g.met.T.Blocks.whole c.args.target.now t ∙ ap (λ n. 512 * n) c.requires.target in
    let cleared = g.T.Blocks.image c.clear_table.new.target in
    let clears : cleared ≡ with_bytes old 0 (replicate 512 0) = at_ok c.clear_table.result c.in_ok-map_err.ensures.variant (c.clear_table.ensures.wrote t) in
    let none : HasNoTable cleared = no_table_cleared old cleared work.target_sectors long can.some clears in
    let booted = g.T.Blocks.image c.fill.new.target in
    let finish : (image : List ℕ) → image ≡ with_bytes booted 0 work.first → IsDone work source old image =
    λ image puts. finished work source old cleared booted image can long clears (c.in_ok-fill.ensures.filled s t) puts in
    let new = g.T.Blocks.image c.put_first.new.target in
    let put : new ≡ with_bytes booted 0 c.first-first.result.now = at_ok c.put_first.result c.in_ok-map_err-2.ensures.variant (c.put_first.ensures.wrote t) in
    finish new (put ∙ ap (λ (table : List ℕ). with_bytes booted 0 table) c.first-first.ensures.first)

pub returns-in_err-map_err-2-clause-moments : goal.returns-in_err-map_err-2-clause-moments
returns-in_err-map_err-2-clause-moments g c = λ s t settled.
    let told = g.met.T.Disk.stops_told t in
    let work = c.args.writing.now in
    let can = c.first-first.ensures.can in
    let source = g.S.Blocks.image c.args.source.now in
    let old = g.T.Blocks.image c.args.target.now in
    let long : length old ≡ 512 * work.target_sectors = g.met.T.Blocks.whole c.args.target.now told ∙ ap (λ n. 512 * n) c.requires.target in
    let cleared = g.T.Blocks.image c.clear_table.new.target in
    let clears : cleared ≡ with_bytes old 0 (replicate 512 0) = at_ok c.clear_table.result c.in_ok-map_err.ensures.variant (c.clear_table.ensures.wrote told) in
    let none : HasNoTable cleared = no_table_cleared old cleared work.target_sectors long can.some clears in
    let booted = g.T.Blocks.image c.fill.new.target in
    let still : HasNoTable booted = (c.in_ok-fill.ensures.first told).first ∙ none in
    let finish : (image : List ℕ) → image ≡ with_bytes booted 0 work.first → IsDone work source old image =
    λ image puts. finished work source old cleared booted image can long clears (c.in_ok-fill.ensures.filled s told) puts in
    let Gate : List ℕ → Type 0 = IsAtGate work source old in
    let cleared_settled : IsSettled cleared (g.T.Disk.stops c.clear_table.new.target) = at_ok c.clear_table.result c.in_ok-map_err.ensures.variant (c.clear_table.ensures.settled t) in
    let whole = g.met.T.Blocks.whole c.fill.new.target told in
    let one = c.clear_table.ensures.used.size in
    let two = c.fill.ensures.used.size in
    let room : 512 ≤ length booted = let some = can.some in omega (arith, whole, one, two, c.requires.target, some) in
    let Put : List ℕ → Type 0 = λ table. Adds (HalfWritten 0 table booted) (g.T.Disk.stops c.fill.new.target) (g.T.Disk.stops c.put_first.new.target) in
    leaves_only old _ _ Gate (g.met.T.Disk.stops_are c.args.target.now t) settled (inl refl)
    (adds_on _ _ _ Gate (gate_cleared work source old can long _ _ settled (c.clear_table.ensures.stops t))
    (adds_on _ _ _ Gate (gate_filled work source old can long cleared _ _ none cleared_settled (c.in_ok-fill.ensures.stops t))
    (gate_put work source old can long booted _ _ still can.first_long room finish (subst Put c.first-first.ensures.first (c.put_first.ensures.stops t)))))

pub returns-clause-moments : goal.returns-clause-moments
returns-clause-moments g c = λ s t settled.
    let told = g.met.T.Disk.stops_told t in
    let work = c.args.writing.now in
    let can = c.first-first.ensures.can in
    let source = g.S.Blocks.image c.args.source.now in
    let old = g.T.Blocks.image c.args.target.now in
    let long : length old ≡ 512 * work.target_sectors = g.met.T.Blocks.whole c.args.target.now told ∙ ap (λ n. 512 * n) c.requires.target in
    let cleared = g.T.Blocks.image c.clear_table.new.target in
    let clears : cleared ≡ with_bytes old 0 (replicate 512 0) = at_ok c.clear_table.result c.in_ok-map_err.ensures.variant (c.clear_table.ensures.wrote told) in
    let none : HasNoTable cleared = no_table_cleared old cleared work.target_sectors long can.some clears in
    let booted = g.T.Blocks.image c.fill.new.target in
    let still : HasNoTable booted = (c.in_ok-fill.ensures.first told).first ∙ none in
    let finish : (image : List ℕ) → image ≡ with_bytes booted 0 work.first → IsDone work source old image =
    λ image puts. finished work source old cleared booted image can long clears (c.in_ok-fill.ensures.filled s told) puts in
    let Gate : List ℕ → Type 0 = IsAtGate work source old in
    let cleared_settled : IsSettled cleared (g.T.Disk.stops c.clear_table.new.target) = at_ok c.clear_table.result c.in_ok-map_err.ensures.variant (c.clear_table.ensures.settled t) in
    let whole = g.met.T.Blocks.whole c.fill.new.target told in
    let one = c.clear_table.ensures.used.size in
    let two = c.fill.ensures.used.size in
    let room : 512 ≤ length booted = let some = can.some in omega (arith, whole, one, two, c.requires.target, some) in
    let Put : List ℕ → Type 0 = λ table. Adds (HalfWritten 0 table booted) (g.T.Disk.stops c.fill.new.target) (g.T.Disk.stops c.put_first.new.target) in
    leaves_only old _ _ Gate (g.met.T.Disk.stops_are c.args.target.now t) settled (inl refl)
    (adds_on _ _ _ Gate (gate_cleared work source old can long _ _ settled (c.clear_table.ensures.stops t))
    (adds_on _ _ _ Gate (gate_filled work source old can long cleared _ _ none cleared_settled (c.in_ok-fill.ensures.stops t))
    (gate_put work source old can long booted _ _ still can.first_long room finish (subst Put c.first-first.ensures.first (c.put_first.ensures.stops t)))))
