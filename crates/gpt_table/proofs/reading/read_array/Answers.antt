use Rattle.std.proofs.Common.{◌≡◌, length, ap, ◌∙◌, sym, ℕ, ◌*◌}
use Rattle.std.proofs.lemmas.List.{take_at, length-replicate}
use Rattle.disk_base.specs.Image.{bytes_at}
use Rattle.gpt_table.proofs.reading.read_array.Goals as goal

pub returns-clause-long : goal.returns-clause-long
returns-clause-long g c =
    let size : length c.deref_mut.result.now ≡ 16384 = ap length (c.deref_mut.ensures.value ∙ c.in_ok-array.ensures) ∙ length-replicate {A = ℕ} 16384 0 in
    let same : c.in_ok-array.array.len ≡ length c.deref_mut.result.now = c.in_ok-array.array.ok.0 ∙ sym (ap length c.deref_mut.ensures.value) in
    ap length (take_at c.read.new.out _ c.in_ok-array.array.len (c.read.auto.out ∙ sym same)) ∙ c.read.auto.out ∙ size

pub returns-clause-array : goal.returns-clause-array
returns-clause-array g c =
    let size : length c.deref_mut.result.now ≡ 16384 = ap length (c.deref_mut.ensures.value ∙ c.in_ok-array.ensures) ∙ length-replicate {A = ℕ} 16384 0 in
    let same : c.in_ok-array.array.len ≡ length c.deref_mut.result.now = c.in_ok-array.array.ok.0 ∙ sym (ap length c.deref_mut.ensures.value) in
    λ t.
    let read : c.read.new.out ≡ bytes_at (g.B.Blocks.image c.args.disk.now) (512 * c.args.at) 16384 =
    c.in_ok-read.ensures.bytes t ∙ ap (λ (n : ℕ). bytes_at (g.B.Blocks.image c.args.disk.now) (512 * c.args.at) n) size in
    take_at c.read.new.out _ c.in_ok-array.array.len (c.read.auto.out ∙ sym same) ∙ read
