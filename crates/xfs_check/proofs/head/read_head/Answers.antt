use Rattle.std.proofs.Common.{◌≡◌, take}
use Rattle.std.proofs.lemmas.Result.{err_from_is_err_and}
use Rattle.xfs_check.proofs.Heads.{agfl_refused, agi_refused}
use Rattle.xfs_check.specs.Seen.{agf_seen}
use Rattle.xfs_check.specs.inside.Reading.{head_on}
use Rattle.xfs_super.specs.Super.{geometry_of}
use Rattle.xfs_check.proofs.head.read_head.Goals as goal

pub returns-in_err-agi-clause-fault : goal.returns-in_err-agi-clause-fault
returns-in_err-agi-clause-fault g c = λ told.
    let p = err_from_is_err_and c.from_residual-in_err-agi.result c.from_residual-in_err-agi.ensures.1 in
    let same = g.met.B.Blocks.same_image c.args.disk.now c.agf_at.new.disk c.in_ok-agf.ensures.read told in
    rw (p.1, p.2) (agi_refused (geometry_of c.args.geo.now) c.args.group (head_on c.args.geo.now c.args.group (g.B.Blocks.image c.args.disk.now)) _ (rw same at (c.in_err-agi.ensures.fault told)))

pub agfl_at-requires-clause-header : goal.agfl_at-requires-clause-header
agfl_at-requires-clause-header g c = λ told.
    let same = g.met.B.Blocks.same_image c.agf_at.new.disk c.agi_at.new.disk c.in_ok-agi.ensures.read told in
    let first = g.met.B.Blocks.same_image c.args.disk.now c.agf_at.new.disk c.in_ok-agf.ensures.read told in
    rw (same, first) (c.in_ok-agf.ensures.header told)

pub returns-in_err-agfl-clause-fault : goal.returns-in_err-agfl-clause-fault
returns-in_err-agfl-clause-fault g c = λ told.
    let p = err_from_is_err_and c.from_residual-in_err-agfl.result c.from_residual-in_err-agfl.ensures.1 in
    let same = g.met.B.Blocks.same_image c.agf_at.new.disk c.agi_at.new.disk c.in_ok-agi.ensures.read told in
    let first = g.met.B.Blocks.same_image c.args.disk.now c.agf_at.new.disk c.in_ok-agf.ensures.read told in
    rw (p.1, p.2) (agfl_refused (geometry_of c.args.geo.now) c.args.group (head_on c.args.geo.now c.args.group (g.B.Blocks.image c.args.disk.now)) _ (rw (same, first) at (c.in_err-agfl.ensures.fault told)))

pub returns-clause-read : goal.returns-clause-read
returns-clause-read g c =
    g.met.B.Blocks.read_on c.args.disk.now c.agi_at.new.disk c.agfl_at.new.disk
    (g.met.B.Blocks.read_on c.args.disk.now c.agf_at.new.disk c.agi_at.new.disk c.in_ok-agf.ensures.read c.in_ok-agi.ensures.read) c.in_ok-agfl.ensures.read

pub returns-clause-head : goal.returns-clause-head
returns-clause-head g c = λ told.
    let geo = geometry_of c.args.geo.now in
    let second = g.met.B.Blocks.same_image c.agf_at.new.disk c.agi_at.new.disk c.in_ok-agi.ensures.read told in
    let first = g.met.B.Blocks.same_image c.args.disk.now c.agf_at.new.disk c.in_ok-agf.ensures.read told in
    let seen = head_on c.args.geo.now c.args.group (g.B.Blocks.image c.args.disk.now) in
    let agf : c.in_ok-agf.agf ≡ agf_seen seen = c.in_ok-agf.ensures.agf told in
    let agfl : take c.args.geo.now.sectsize c.in_ok-agfl.agfl ≡ seen.agfl = rw (second, first) at (c.in_ok-agfl.ensures.bytes told) in
    record {
      agf = agf;
      agi = rw first at (c.in_ok-agi.ensures.agi told);
      agfl = agfl;
      sound = record {
        agf = c.in_ok-agf.ensures.header told;
        agi = rw first at (c.in_ok-agi.ensures.header told);
        agfl = rw (second, first) at (c.in_ok-agfl.ensures.header told);
        used = rw (agf, agfl) at c.in_ok-agfl.ensures.inside;
      };
    }
