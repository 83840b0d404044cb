use Rattle.std.proofs.Common.{◌≡◌, ℕ, List, map, sym, ap, subst, ◌∙◌}
use Rattle.std.proofs.lemmas.Result.{err_from_is_err_and}
use Rattle.block_claims.proofs.Agreements.{claimed_on}
use Rattle.xfs_super.specs.Super.{geometry_of}
use Rattle.xfs_tree.specs.Marks.{marked}
use Rattle.xfs_tree.specs.Records.{by_start, by_count}
use Rattle.xfs_tree.specs.Tree.{AreInOrder, blocks_of, short_levels, numbers_of, IsShortTree, HasShortFault, ShortClaimed}
use Rattle.xfs_tree.specs.declared.free_run.ByCount.{ByCount}
use Rattle.xfs_tree.specs.declared.free_run.ByStart.{ByStart}
use Rattle.xfs_alloc.specs.Free.{FreeSeen, free_on, AreSoundTrees}
use Rattle.xfs_alloc.specs.FreeSpace.{in_group}
use Rattle.xfs_alloc.proofs.Faults.{start_fault, count_fault, runs_fault_on, claim_fault_on, all_claimed, free_space_is}
use Rattle.xfs_alloc.proofs.Spaces.{space_is}
use Rattle.xfs_alloc.proofs.reading.free_of.Goals as goal

pub returns-in-Err-clause-fault : goal.returns-in-Err-clause-fault
returns-in-Err-clause-fault g c =
    λ told.
    let s : FreeSeen = free_on c.args.geo.now c.args.group c.args.agf.now (g.B.Blocks.image c.args.disk.now) in
    rw c.told.ensures (start_fault (geometry_of c.args.geo.now) c.args.group c.args.agf.now s (marked c.args.geo.now.agblocks (g.M.Mark.claimed c.args.marks.now)) c.in-Err.fault (c.in-Err.ensures.fault told))

pub returns-in-Err-walk_levels-clause-fault : goal.returns-in-Err-walk_levels-clause-fault
returns-in-Err-walk_levels-clause-fault g c =
    λ told.
    let s : FreeSeen = free_on c.args.geo.now c.args.group c.args.agf.now (g.B.Blocks.image c.args.disk.now) in
    let mark = marked c.args.geo.now.agblocks in
    let here = subst (λ (i : List ℕ). HasShortFault by_count c.args.geo.now c.args.group c.args.agf.now.cnt_root c.args.agf.now.cnt_level i (g.M.Mark.claimed c.walk_levels.new.marks) c.in-Err-walk_levels.fault)
    (g.met.B.Blocks.same_image _ _ c.in-Ok.ensures.read told) (c.in-Err-walk_levels.ensures.fault told) in
    rw c.told-in-Err-walk_levels.ensures (count_fault (geometry_of c.args.geo.now) c.args.group c.args.agf.now s (mark (g.M.Mark.claimed c.args.marks.now)) (mark (g.M.Mark.claimed c.walk_levels.new.marks)) c.in-Err-walk_levels.fault (c.in-Ok.ensures.claimed told) here)

pub judge-requires-clause-starts : goal.judge-requires-clause-starts
judge-requires-clause-starts g c = subst (λ (l : List ByStart). AreInOrder by_start l) (sym c.items.ensures) c.in-Ok.ensures.order

pub judge-requires-clause-counts : goal.judge-requires-clause-counts
judge-requires-clause-counts g c = subst (λ (l : List ByCount). AreInOrder by_count l) (sym c.items-2.ensures) c.in-Ok-walk_levels.ensures.order

pub returns-in_err-judge-clause-read : goal.returns-in_err-judge-clause-read
returns-in_err-judge-clause-read g c = g.met.B.Blocks.read_on _ _ _ c.in-Ok.ensures.read c.in-Ok-walk_levels.ensures.read

pub returns-in_err-judge-clause-fault : goal.returns-in_err-judge-clause-fault
returns-in_err-judge-clause-fault g c =
    λ told.
    let p = err_from_is_err_and c.from_residual.result c.from_residual.ensures.1 in
    let geo = geometry_of c.args.geo.now in
    let s : FreeSeen = free_on c.args.geo.now c.args.group c.args.agf.now (g.B.Blocks.image c.args.disk.now) in
    let first = c.in-Ok.ensures.tree told in
    let second = subst (λ (i : List ℕ). IsShortTree by_count c.args.geo.now c.args.group c.args.agf.now.cnt_root c.args.agf.now.cnt_level i (g.M.Mark.claimed c.walk_levels.new.marks) c.in-Ok-walk_levels.walked.records)
    (g.met.B.Blocks.same_image _ _ c.in-Ok.ensures.read told) (c.in-Ok-walk_levels.ensures.tree told) in
    let trees : AreSoundTrees geo c.args.group s = record { starts = first.sound; counts = second.sound } in
    rw (p.1, p.2) (runs_fault_on geo c.args.group c.args.agf.now s (marked c.args.geo.now.agblocks (g.M.Mark.claimed c.args.marks.now)) c.items.result.now c.items-2.result.now _ (c.items.ensures ∙ first.records_are) (c.items-2.ensures ∙ second.records_are) trees c.in_err-judge.ensures.fault)

pub returns-in-Err-claim_runs-clause-read : goal.returns-in-Err-claim_runs-clause-read
returns-in-Err-claim_runs-clause-read g c = g.met.B.Blocks.read_on _ _ _ c.in-Ok.ensures.read c.in-Ok-walk_levels.ensures.read

pub returns-in-Err-claim_runs-clause-fault : goal.returns-in-Err-claim_runs-clause-fault
returns-in-Err-claim_runs-clause-fault g c =
    λ told.
    let geo = geometry_of c.args.geo.now in
    let mark = marked c.args.geo.now.agblocks in
    let s : FreeSeen = free_on c.args.geo.now c.args.group c.args.agf.now (g.B.Blocks.image c.args.disk.now) in
    let same = g.met.B.Blocks.same_image _ _ c.in-Ok.ensures.read told in
    let first = c.in-Ok.ensures.tree told in
    let second = subst (λ (i : List ℕ). IsShortTree by_count c.args.geo.now c.args.group c.args.agf.now.cnt_root c.args.agf.now.cnt_level i (g.M.Mark.claimed c.walk_levels.new.marks) c.in-Ok-walk_levels.walked.records)
    same (c.in-Ok-walk_levels.ensures.tree told) in
    let trees : AreSoundTrees geo c.args.group s = record { starts = first.sound; counts = second.sound } in
    let claims = subst (λ (i : List ℕ). ShortClaimed by_count c.args.geo.now c.args.group c.args.agf.now.cnt_root c.args.agf.now.cnt_level i (g.M.Mark.claimed c.walk_levels.new.marks) (g.M.Mark.claimed c.walk_levels-2.new.marks))
    same (c.in-Ok-walk_levels.ensures.claimed told) in
    let both = claimed_on (mark (g.M.Mark.claimed c.args.marks.now)) (mark (g.M.Mark.claimed c.walk_levels.new.marks)) (mark (g.M.Mark.claimed c.walk_levels-2.new.marks)) (blocks_of s.starts) (blocks_of s.counts) (c.in-Ok.ensures.claimed told) claims in
    rw c.told-in-Err-claim_runs.ensures (claim_fault_on geo c.args.group c.args.agf.now s (mark (g.M.Mark.claimed c.args.marks.now)) (mark (g.M.Mark.claimed c.walk_levels-2.new.marks)) c.items-3.result.now c.in-Err-claim_runs.fault (c.items-3.ensures ∙ first.records_are) trees both c.in-Err-claim_runs.ensures.fault)

pub returns-clause-claimed : goal.returns-clause-claimed
returns-clause-claimed g c =
    λ told.
    let geo = geometry_of c.args.geo.now in
    let mark = marked c.args.geo.now.agblocks in
    let s : FreeSeen = free_on c.args.geo.now c.args.group c.args.agf.now (g.B.Blocks.image c.args.disk.now) in
    let same = g.met.B.Blocks.same_image _ _ c.in-Ok.ensures.read told in
    let first = c.in-Ok.ensures.tree told in
    let claims = subst (λ (i : List ℕ). ShortClaimed by_count c.args.geo.now c.args.group c.args.agf.now.cnt_root c.args.agf.now.cnt_level i (g.M.Mark.claimed c.walk_levels.new.marks) (g.M.Mark.claimed c.walk_levels-2.new.marks))
    same (c.in-Ok-walk_levels.ensures.claimed told) in
    let both = claimed_on (mark (g.M.Mark.claimed c.args.marks.now)) (mark (g.M.Mark.claimed c.walk_levels.new.marks)) (mark (g.M.Mark.claimed c.walk_levels-2.new.marks)) (blocks_of s.starts) (blocks_of s.counts) (c.in-Ok.ensures.claimed told) claims in
    all_claimed geo c.args.group s (mark (g.M.Mark.claimed c.args.marks.now)) (mark (g.M.Mark.claimed c.walk_levels-2.new.marks)) (mark (g.M.Mark.claimed c.claim_runs.new.marks)) c.items-3.result.now (c.items-3.ensures ∙ first.records_are) both c.in-Ok-claim_runs.ensures.claimed

pub returns-clause-sound : goal.returns-clause-sound
returns-clause-sound g c =
    λ told.
    let geo = geometry_of c.args.geo.now in
    let mark = marked c.args.geo.now.agblocks in
    let s : FreeSeen = free_on c.args.geo.now c.args.group c.args.agf.now (g.B.Blocks.image c.args.disk.now) in
    let same = g.met.B.Blocks.same_image _ _ c.in-Ok.ensures.read told in
    let first = c.in-Ok.ensures.tree told in
    let second = subst (λ (i : List ℕ). IsShortTree by_count c.args.geo.now c.args.group c.args.agf.now.cnt_root c.args.agf.now.cnt_level i (g.M.Mark.claimed c.walk_levels.new.marks) c.in-Ok-walk_levels.walked.records)
    same (c.in-Ok-walk_levels.ensures.tree told) in
    let trees : AreSoundTrees geo c.args.group s = record { starts = first.sound; counts = second.sound } in
    let claims = subst (λ (i : List ℕ). ShortClaimed by_count c.args.geo.now c.args.group c.args.agf.now.cnt_root c.args.agf.now.cnt_level i (g.M.Mark.claimed c.walk_levels.new.marks) (g.M.Mark.claimed c.walk_levels-2.new.marks))
    same (c.in-Ok-walk_levels.ensures.claimed told) in
    let both = claimed_on (mark (g.M.Mark.claimed c.args.marks.now)) (mark (g.M.Mark.claimed c.walk_levels.new.marks)) (mark (g.M.Mark.claimed c.walk_levels-2.new.marks)) (blocks_of s.starts) (blocks_of s.counts) (c.in-Ok.ensures.claimed told) claims in
    let all = all_claimed geo c.args.group s (mark (g.M.Mark.claimed c.args.marks.now)) (mark (g.M.Mark.claimed c.walk_levels-2.new.marks)) (mark (g.M.Mark.claimed c.claim_runs.new.marks)) c.items-3.result.now (c.items-3.ensures ∙ first.records_are) both c.in-Ok-claim_runs.ensures.claimed in
    free_space_is geo c.args.group c.args.agf.now s (mark (g.M.Mark.claimed c.args.marks.now)) (g.M.Mark.claimed c.claim_runs.new.marks) c.items.result.now c.items-2.result.now (c.items.ensures ∙ first.records_are) (c.items-2.ensures ∙ second.records_are) trees c.in_ok-judge.ensures.same c.in_ok-judge.ensures.counted all

pub returns-clause-space : goal.returns-clause-space
returns-clause-space g c =
    λ told.
    let a : ℕ = c.args.geo.now.agblocks in
    let same = g.met.B.Blocks.same_image _ _ c.in-Ok.ensures.read told in
    let first = c.in-Ok.ensures.tree told in
    let levels = subst (λ (i : List ℕ). map (λ v. v.items) c.in-Ok-walk_levels.walked.levels.items ≡ numbers_of (short_levels by_count c.args.geo.now c.args.group c.args.agf.now.cnt_root c.args.agf.now.cnt_level i))
    same (c.in-Ok-walk_levels.ensures.levels told) in
    space_is _ _ _ _
    (c.in_ok-free.ensures.runs ∙ ap (λ (l : List ByStart). map (λ r. (r.start, r.count)) l) first.records_are)
    (c.in_ok-free.ensures.starts ∙ ap (λ (l : List (List ℕ)). in_group a l) (c.in-Ok.ensures.levels told))
    (c.in_ok-free.ensures.counts ∙ ap (λ (l : List (List ℕ)). in_group a l) levels)
