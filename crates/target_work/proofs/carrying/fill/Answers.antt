-- The transfers and then the writes, all of them behind sector 0.
use Rattle.std.proofs.Common.{◌≡◌, ℕ, List, length, ◌∙◌, subst, sym, All, AllPairs}
use Rattle.disk_base.specs.Stops.{Follows}
use Rattle.disk_base.proofs.Moments.{follows_on, follows_weaker}
use Rattle.run_copy.specs.declared.transfer.Transfer.{Transfer}
use Rattle.run_copy.specs.Copies.{AreCopied, IsBetween, OnlyWithin}
use Rattle.target_work.specs.declared.sector_write.SectorWrite.{SectorWrite}
use Rattle.target_work.specs.Works.{IsWritePlace, WritesLieApart}
use Rattle.target_work.specs.inside.Phases.{ArePut, KeepsFirst, OnlyInWrites}
use Rattle.target_work.proofs.Finishing.{at_ok, filled, keeps_copying, keeps_first_on, keeps_putting}
use Rattle.target_work.proofs.carrying.fill.Goals as goal

pub copy_all-requires-clause-between : goal.copy_all-requires-clause-between
copy_all-requires-clause-between g c =
    let From : ℕ → Type 0 = λ n. All (IsBetween n (g.T.Blocks.size c.args.target.now)) c.transfers.result.now in
    let To : ℕ → Type 0 = λ n. All (IsBetween c.args.writing.now.source_sectors n) c.transfers.result.now in
    let Of : List Transfer → Type 0 = λ ts. All (IsBetween c.args.writing.now.source_sectors c.args.writing.now.target_sectors) ts in
    subst From (sym c.requires.source) (subst To (sym c.requires.target) (subst Of (sym c.transfers.ensures.transfers) c.transfers.ensures.can.between))

pub put_all-requires-clause-places : goal.put_all-requires-clause-places
put_all-requires-clause-places g c =
    let work = c.args.writing.now in
    let Places : ℕ → Type 0 = λ n. All (IsWritePlace n) c.writes.result.now in
    let Of : List SectorWrite → Type 0 = λ writes. All (IsWritePlace work.target_sectors) writes in
    let same : g.T.Blocks.size c.copy_all.new.target ≡ work.target_sectors = c.copy_all.ensures.used.size ∙ c.requires.target in
    subst Places (sym same) (subst Of (sym c.writes.ensures.writes) c.writes.ensures.can.places)

pub put_all-requires-clause-apart : goal.put_all-requires-clause-apart
put_all-requires-clause-apart g c =
    let Of : List SectorWrite → Type 0 = λ writes. AllPairs WritesLieApart writes in
    subst Of (sym c.writes.ensures.writes) c.writes.ensures.can.writes_apart

pub returns-in_err-copy_all-clause-first : goal.returns-in_err-copy_all-clause-first
returns-in_err-copy_all-clause-first g c = λ t.
    let Only : List Transfer → Type 0 = λ ts. OnlyWithin ts (g.T.Blocks.image c.args.target.now) (g.T.Blocks.image c.copy_all.new.target) in
    keeps_copying c.args.writing.now c.transfers.ensures.can _ _ (subst Only c.transfers.ensures.transfers (c.in_err-copy_all.ensures.within t))

pub returns-in_err-copy_all-clause-stops : goal.returns-in_err-copy_all-clause-stops
returns-in_err-copy_all-clause-stops g c = λ t.
    let Only : List Transfer → Type 0 = λ ts. Follows (OnlyWithin ts) (g.T.Disk.stops c.args.target.now) (g.T.Disk.stops c.copy_all.new.target) in
    follows_weaker _ _ _ KeepsFirst (keeps_copying c.args.writing.now c.transfers.ensures.can) (subst Only c.transfers.ensures.transfers (c.in_err-copy_all.ensures.stops t))

-- what both keep
pub returns-in_err-map_err-clause-first : goal.returns-in_err-map_err-clause-first
returns-in_err-map_err-clause-first g c = λ t.
    let Only : List Transfer → Type 0 = λ ts. OnlyWithin ts (g.T.Blocks.image c.args.target.now) (g.T.Blocks.image c.copy_all.new.target) in
    let Put : List SectorWrite → Type 0 = λ ws. OnlyInWrites ws (g.T.Blocks.image c.copy_all.new.target) (g.T.Blocks.image c.put_all.new.target) in
    let can = c.transfers.ensures.can in
    keeps_first_on _ _ _ (keeps_copying c.args.writing.now can _ _ (subst Only c.transfers.ensures.transfers (c.in_ok-copy_all.ensures.within t)))
    (keeps_putting c.args.writing.now can _ _ (subst Put c.writes.ensures.writes (c.put_all.ensures.within t)))

pub returns-in_err-map_err-clause-stops : goal.returns-in_err-map_err-clause-stops
returns-in_err-map_err-clause-stops g c = λ t.
    let Only : List Transfer → Type 0 = λ ts. Follows (OnlyWithin ts) (g.T.Disk.stops c.args.target.now) (g.T.Disk.stops c.copy_all.new.target) in
    let Put : List SectorWrite → Type 0 = λ ws. Follows (OnlyInWrites ws) (g.T.Disk.stops c.copy_all.new.target) (g.T.Disk.stops c.put_all.new.target) in
    let can = c.transfers.ensures.can in
    follows_on _ _ _ _ _ KeepsFirst keeps_first_on (g.met.T.Disk.stops_are c.args.target.now t) (g.met.T.Disk.stops_are c.copy_all.new.target t)
    (follows_weaker _ _ _ KeepsFirst (keeps_copying c.args.writing.now can) (subst Only c.transfers.ensures.transfers (c.in_ok-copy_all.ensures.stops t)))
    (follows_weaker _ _ _ KeepsFirst (keeps_putting c.args.writing.now can) (subst Put c.writes.ensures.writes (c.put_all.ensures.stops t)))

pub returns-clause-first : goal.returns-clause-first
returns-clause-first g c = λ t.
    let Only : List Transfer → Type 0 = λ ts. OnlyWithin ts (g.T.Blocks.image c.args.target.now) (g.T.Blocks.image c.copy_all.new.target) in
    let Put : List SectorWrite → Type 0 = λ ws. OnlyInWrites ws (g.T.Blocks.image c.copy_all.new.target) (g.T.Blocks.image c.put_all.new.target) in
    let can = c.transfers.ensures.can in
    keeps_first_on _ _ _ (keeps_copying c.args.writing.now can _ _ (subst Only c.transfers.ensures.transfers (c.in_ok-copy_all.ensures.within t)))
    (keeps_putting c.args.writing.now can _ _ (subst Put c.writes.ensures.writes (c.put_all.ensures.within t)))

pub returns-clause-stops : goal.returns-clause-stops
returns-clause-stops g c = λ t.
    let Only : List Transfer → Type 0 = λ ts. Follows (OnlyWithin ts) (g.T.Disk.stops c.args.target.now) (g.T.Disk.stops c.copy_all.new.target) in
    let Put : List SectorWrite → Type 0 = λ ws. Follows (OnlyInWrites ws) (g.T.Disk.stops c.copy_all.new.target) (g.T.Disk.stops c.put_all.new.target) in
    let can = c.transfers.ensures.can in
    follows_on _ _ _ _ _ KeepsFirst keeps_first_on (g.met.T.Disk.stops_are c.args.target.now t) (g.met.T.Disk.stops_are c.copy_all.new.target t)
    (follows_weaker _ _ _ KeepsFirst (keeps_copying c.args.writing.now can) (subst Only c.transfers.ensures.transfers (c.in_ok-copy_all.ensures.stops t)))
    (follows_weaker _ _ _ KeepsFirst (keeps_putting c.args.writing.now can) (subst Put c.writes.ensures.writes (c.put_all.ensures.stops t)))

pub returns-clause-filled : goal.returns-clause-filled
returns-clause-filled g c = λ s t.
    let work = c.args.writing.now in
    let source = g.S.Blocks.image c.args.source.now in
    let old = g.T.Blocks.image c.args.target.now in
    let contents = g.T.Blocks.image c.copy_all.new.target in
    let new = g.T.Blocks.image c.put_all.new.target in
    let Copied : List Transfer → Type 0 = λ ts. AreCopied ts (length ts) source old contents in
    let Put : List SectorWrite → Type 0 = λ ws. ArePut ws (length ws) contents new in
    filled work c.transfers.ensures.can source old contents new
    (subst Copied c.transfers.ensures.transfers (c.in_ok-copy_all.ensures.copied s t))
    (subst Put c.writes.ensures.writes (at_ok c.put_all.result c.in_ok-map_err.ensures.variant (c.put_all.ensures.put t)))
