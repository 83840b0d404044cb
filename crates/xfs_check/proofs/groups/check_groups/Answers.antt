use Rattle.std.proofs.Common.{◌≡◌, ℕ, [], ◌∷◌, length, map, subst, ap, ◌∙◌, arith}
use Rattle.std.specs.List.{range_with_len}
use Rattle.std.proofs.lemmas.List.{length-append, map-append}
use Rattle.std.proofs.lemmas.Result.{err_from_is_err_and}
use Rattle.block_claims.specs.Agreement.{block}
use Rattle.xfs_check.proofs.Whole.{first_more, first_refused, first_root, first_space}
use Rattle.xfs_check.specs.Seen.{group_seen, inodes_of_groups}
use Rattle.xfs_check.specs.Valid.{has_root}
use Rattle.xfs_check.specs.Volume.{group_space}
use Rattle.xfs_check.specs.inside.Grouping.{AreGroupsChecked, as_space}
use Rattle.xfs_super.specs.Super.{geometry_of}
use Rattle.xfs_tree.specs.Marks.{marked}
use Rattle.xfs_check.proofs.groups.check_groups.Goals as goal

pub returns-in_err-checked-clause-fault : goal.returns-in_err-checked-clause-fault
returns-in_err-checked-clause-fault g c = λ told.
    let p = err_from_is_err_and c.from_residual.result c.from_residual.ensures.1 in
    let geo = geometry_of c.args.geo.now in
    let mark = marked c.args.geo.now.agblocks in
    let same = g.met.B.Blocks.same_image c.args.disk.now c.loop-group.disk c.loop-group.invariant.read told in
    rw (p.1, p.2) (first_refused geo (block (g.B.Blocks.image c.args.disk.now)) (mark (g.M.Mark.claimed c.args.marks.now)) (mark (g.M.Mark.claimed c.loop-group.marks)) c.args.geo.now.agcount c.loop-group.group _ c.loop-group-test.true (c.loop-group.invariant.checked told) (rw same at (c.in_err-checked.ensures.fault told)))

pub loop-group-preserved : goal.loop-group-preserved
loop-group-preserved g c =
    let geo = geometry_of c.args.geo.now in
    let mark = marked c.args.geo.now.agblocks in
    let volume = block (g.B.Blocks.image c.args.disk.now) in
    record {
      read = g.met.B.Blocks.read_on c.args.disk.now c.loop-group.disk c.check_group.new.disk c.loop-group.invariant.read c.in_ok-checked.ensures.read;
      within = omega (arith, c.loop-group-test.true);
      many = omega (arith, c.loop-group.invariant.many, ap (λ l. length l) c.in_ok-push.ensures.items, length-append c.loop-group.groups.items (c.in_ok-checked.checked.group ∷ []));
      space = λ told.
          let same = g.met.B.Blocks.same_image c.args.disk.now c.loop-group.disk c.loop-group.invariant.read told in
          ap (λ l. map as_space l) c.in_ok-push.ensures.items ∙ map-append as_space c.loop-group.groups.items (c.in_ok-checked.checked.group ∷ [])
          ∙ first_space geo volume c.loop-group.group (map as_space c.loop-group.groups.items) (as_space c.in_ok-checked.checked.group) (c.loop-group.invariant.space told) (rw same at (c.in_ok-checked.ensures.space told));
      checked = λ told.
          let same = g.met.B.Blocks.same_image c.args.disk.now c.loop-group.disk c.loop-group.invariant.read told in
          first_more geo volume (mark (g.M.Mark.claimed c.args.marks.now)) (mark (g.M.Mark.claimed c.loop-group.marks)) (mark (g.M.Mark.claimed c.check_group.new.marks)) c.loop-group.group (c.loop-group.invariant.checked told) (rw same at (c.in_ok-checked.ensures.checked told));
      root = λ told.
          let same = g.met.B.Blocks.same_image c.args.disk.now c.loop-group.disk c.loop-group.invariant.read told in
          first_root geo volume c.loop-group.group c.loop-group.root c.in_ok-checked.checked.root (c.loop-group.invariant.root told) (rw same at (c.in_ok-checked.ensures.root told));
      admits = λ h b. c.in_ok-checked.ensures.admits h b ∙ c.loop-group.invariant.admits h b;
    }

pub returns-clause-space : goal.returns-clause-space
returns-clause-space g c = λ told.
    let geo = geometry_of c.args.geo.now in
    let last : c.loop-group.group ≡ c.args.geo.now.agcount = omega (arith, c.loop-group-test.false, c.loop-group.invariant.within) in
    c.loop-group.invariant.space told ∙ ap (λ (n : ℕ). map (group_space geo) (map (group_seen geo (block (g.B.Blocks.image c.args.disk.now))) (range_with_len 0 n))) last

pub returns-clause-root : goal.returns-clause-root
returns-clause-root g c = λ told.
    let geo = geometry_of c.args.geo.now in
    let last : c.loop-group.group ≡ c.args.geo.now.agcount = omega (arith, c.loop-group-test.false, c.loop-group.invariant.within) in
    c.loop-group.invariant.root told ∙ ap (λ (n : ℕ). has_root geo (inodes_of_groups (map (group_seen geo (block (g.B.Blocks.image c.args.disk.now))) (range_with_len 0 n)))) last

pub returns-clause-checked : goal.returns-clause-checked
returns-clause-checked g c = λ told.
    let geo = geometry_of c.args.geo.now in
    let mark = marked c.args.geo.now.agblocks in
    let last : c.loop-group.group ≡ c.args.geo.now.agcount = omega (arith, c.loop-group-test.false, c.loop-group.invariant.within) in
    subst (λ (n : ℕ). AreGroupsChecked geo (map (group_seen geo (block (g.B.Blocks.image c.args.disk.now))) (range_with_len 0 n)) (mark (g.M.Mark.claimed c.args.marks.now)) (mark (g.M.Mark.claimed c.loop-group.marks))) last (c.loop-group.invariant.checked told)

pub returns-in_err-push-clause-read : goal.returns-in_err-push-clause-read
returns-in_err-push-clause-read g c = g.met.B.Blocks.read_on c.args.disk.now c.loop-group.disk c.check_group.new.disk c.loop-group.invariant.read c.in_ok-checked.ensures.read

pub returns-in_err-push-clause-admits : goal.returns-in_err-push-clause-admits
returns-in_err-push-clause-admits g c = λ h b. c.in_ok-checked.ensures.admits h b ∙ c.loop-group.invariant.admits h b
