-- One more transfer: what it copied goes to the invariant by `transfer_more`.
use Rattle.std.proofs.Common.{◌≡◌, ◌≤◌, ◌^◌, List, ℕ, arith, subst, slice_index_or}
use Rattle.std.proofs.lemmas.List.Elements.{All-get_or}
use Rattle.disk_base.proofs.Moments.{follows_on, follows_weaker}
use Rattle.disk_base.proofs.Uses.{used_on}
use Rattle.run_copy.specs.declared.transfer.Transfer.{Transfer}
use Rattle.run_copy.specs.Copies.{IsBetween, IsCopied, OnlyWithin}
use Rattle.run_copy.proofs.Copies.{nothing, transfer_more, begun_within, run_within, only_within_on}
use Rattle.run_copy.proofs.copying.copy_all.Goals as goal

pub copy_run-requires-clause-between : goal.copy_run-requires-clause-between
copy_run-requires-clause-between g c =
    let before = c.loop-transfer.invariant in
    let source_same : g.S.Blocks.size c.loop-transfer.source ≡ g.S.Blocks.size c.args.source.now = g.met.S.Blocks.same_size _ _ before.read in
    let target_same : g.T.Blocks.size c.loop-transfer.target ≡ g.T.Blocks.size c.args.target.now = before.used.size in
    let Between : Transfer → Type 0 = λ t. IsBetween (g.S.Blocks.size c.args.source.now) (g.T.Blocks.size c.args.target.now) t in
    let here : Between (slice_index_or c.args.transfers.now c.loop-transfer.transfer-index nothing) =
    All-get_or Between c.args.transfers.now c.loop-transfer.transfer-index nothing (omega arith) c.requires.between in
    let few : g.S.Blocks.size c.args.source.now ≤ 2 ^ 31 = here.few_source in
    record { few_source = omega arith; few_target = omega (arith, here.few_target); source = omega (arith, here.source); target = omega (arith, here.target) }

pub returns-in_err-copy_run-clause-within : goal.returns-in_err-copy_run-clause-within
returns-in_err-copy_run-clause-within g c = λ t.
    begun_within c.args.transfers.now c.loop-transfer.transfer-index nothing _ _ _ (omega arith) (c.loop-transfer.invariant.others t) (c.in_err-copy_run.ensures.within t)

pub loop-transfer-preserved : goal.loop-transfer-preserved
loop-transfer-preserved g c =
    let before = c.loop-transfer.invariant in
    let now = c.in_ok-copy_run.ensures in
    let transfers = c.args.transfers.now in
    let index = c.loop-transfer.transfer-index in
    record {
      read = g.met.S.Blocks.read_on _ _ _ before.read now.read;
      bound = omega arith;
      copied = λ s t.
          let same = g.met.S.Blocks.same_image _ _ before.read s in
          let Copied : List ℕ → Type 0 = λ image. IsCopied (slice_index_or transfers index nothing) (slice_index_or transfers index nothing).count image
          (g.T.Blocks.image c.loop-transfer.target) (g.T.Blocks.image c.copy_run.new.target) in
          transfer_more transfers index nothing (g.S.Blocks.image c.args.source.now)
          (g.T.Blocks.image c.args.target.now) (g.T.Blocks.image c.loop-transfer.target) (g.T.Blocks.image c.copy_run.new.target)
          (before.copied s t) (subst Copied same (now.copied s t)) c.requires.apart (omega arith);
      writes = tt;
      others = λ t. begun_within transfers index nothing _ _ _ (omega arith) (before.others t) (now.within t);
      used = used_on g.T.Blocks g.T.Disk _ _ _ before.used now.used;
      may_leave = λ t.
          follows_on _ _ _ _ _ (OnlyWithin transfers) (only_within_on transfers)
          (g.met.T.Disk.stops_are c.args.target.now t) (g.met.T.Disk.stops_are c.loop-transfer.target t) (before.may_leave t)
          (follows_weaker _ _ _ (OnlyWithin transfers) (λ x y. run_within transfers index nothing x y (omega arith)) (now.stops t));
    }

pub returns-in_err-copy_run-clause-stops : goal.returns-in_err-copy_run-clause-stops
returns-in_err-copy_run-clause-stops g c = λ t.
    follows_on _ _ _ _ _ (OnlyWithin c.args.transfers.now) (only_within_on c.args.transfers.now)
    (g.met.T.Disk.stops_are c.args.target.now t) (g.met.T.Disk.stops_are c.loop-transfer.target t) (c.loop-transfer.invariant.may_leave t)
    (follows_weaker _ _ _ (OnlyWithin c.args.transfers.now)
    (λ x y. run_within c.args.transfers.now c.loop-transfer.transfer-index nothing x y (omega arith)) (c.in_err-copy_run.ensures.stops t))
