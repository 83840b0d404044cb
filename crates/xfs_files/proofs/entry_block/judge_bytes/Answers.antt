use Rattle.std.proofs.Common.{◌∙◌, sym}
use Rattle.xfs_super.specs.Super.{geometry_of}
use Rattle.xfs_files.specs.Directory.{DirectoryBlock}
use Rattle.xfs_files.proofs.Verdicts.{wrong_header, wrong_items, bad_block}
use Rattle.xfs_files.proofs.entry_block.judge_bytes.Goals as goal

pub returns-then-not-spells_entry_header-clause-fault : goal.returns-then-not-spells_entry_header-clause-fault
returns-then-not-spells_entry_header-clause-fault c =
    let geo = geometry_of c.args.geo.now in
    let b : DirectoryBlock = record { file = c.args.file; at = c.args.at; bytes = c.args.bytes.now } in
    bad_block geo c.args.ino b (wrong_header geo c.args.ino b (sym c.spells_entry_header.ensures ∙ c.if-not-spells_entry_header.true))

pub returns-in-Err-clause-fault : goal.returns-in-Err-clause-fault
returns-in-Err-clause-fault c =
    let geo = geometry_of c.args.geo.now in
    let b : DirectoryBlock = record { file = c.args.file; at = c.args.at; bytes = c.args.bytes.now } in
    bad_block geo c.args.ino b (wrong_items geo c.args.ino b c.in-Err.field-0.at c.in-Err.ensures.fault)
