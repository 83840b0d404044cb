use Rattle.std.proofs.Common.{ℕ, List, ◌≡◌, ◌*◌, ap, ◌∙◌}
use Rattle.disk_base.specs.Image.{bytes_at}
use Rattle.gpt_table.specs.Header.{header_of, header_at}
use Rattle.gpt_table.proofs.Readings.{absent_by_header, absent_by_checksum}
use Rattle.gpt_table.proofs.reading.look.Goals as goal

pub returns-in-Absent-clause-found : goal.returns-in-Absent-clause-found
returns-in-Absent-clause-found g c = λ t.
    let image : List ℕ = g.B.Blocks.image c.args.disk.now in
    let header-is : c.header_in-header.result ≡ header_at image c.args.at = c.header_in-header.ensures ∙ ap header_of (c.in_ok-read.ensures.bytes t) in
    absent_by_header (g.B.Blocks.size c.args.disk.now) c.sectors-sectors.result c.args.at image c.header_in-header.result c.sectors-sectors.ensures header-is c.in-Absent.ensures

pub returns-then-crc32-header-clause-found : goal.returns-then-crc32-header-clause-found
returns-then-crc32-header-clause-found g c = λ t.
    let image : List ℕ = g.B.Blocks.image c.args.disk.now in
    let header-is : c.header_in-header.result ≡ header_at image c.args.at = c.header_in-header.ensures ∙ ap header_of (c.in_ok-read.ensures.bytes t) in
    absent_by_checksum (g.B.Blocks.size c.args.disk.now) c.sectors-sectors.result c.args.at image c.header_in-header.result c.deref.result.now c.crc32.result
    header-is c.in-Placed.ensures
    (c.deref.ensures.value ∙ c.in_ok-array.ensures.array t
    ∙ ap (λ (i : List ℕ). bytes_at i (512 * c.header_in-header.result.array) 16384) (g.met.B.Blocks.same_image _ _ c.in_ok-read.ensures.read t))
    c.crc32.ensures.sum c.if-crc32-header.true
