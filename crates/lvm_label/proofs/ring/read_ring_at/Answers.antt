use Rattle.std.proofs.Common.{rules, arith, ◌≡◌, ℕ, ◌*◌, ◌/◌, List, ap, subst, ◌∙◌}
use Rattle.std.proofs.lemmas.Result.{err_from_is_err_and}
use Rattle.disk_base.specs.Image.{bytes_at}
use Rattle.lvm_label.specs.Ring.{IsAreaPlaced, area_header}
use Rattle.lvm_label.proofs.Rings.{ring_read, header_fault, text_fault}
use Rattle.lvm_label.proofs.ring.read_ring_at.Goals as goal

pub returns-in_err-judge-clause-fault : goal.returns-in_err-judge-clause-fault
returns-in_err-judge-clause-fault g c =
    λ t.
    let sectors : ℕ = g.B.Blocks.size c.args.disk.now in
    let image : List ℕ = g.B.Blocks.image c.args.disk.now in
    let placed : IsAreaPlaced (g.B.Blocks.size c.args.disk.now) c.args.start c.args.size =
    subst (λ (n : ℕ). IsAreaPlaced n c.args.start c.args.size) c.sectors.ensures (c.is_placed.ensures.0 (search rules)) in
    let at : 512 * (c.args.start / 512) ≡ c.args.start = omega (arith, placed.whole_start) in
    let header : c.read.new.out ≡ area_header image c.args.start = c.in_ok-read.ensures.bytes t ∙ ap (λ (k : ℕ). bytes_at image k 512) at in
    let p = err_from_is_err_and c.from_residual-in_err-judge.result c.from_residual-in_err-judge.ensures.1 in
    rw (p.1, p.2) (header_fault sectors image c.args.start c.args.size c.read.new.out c.in_err-judge.field-0.0 placed header c.in_err-judge.ensures.fault)

pub returns-clause-ring : goal.returns-clause-ring
returns-clause-ring g c =
    λ t.
    let sectors : ℕ = g.B.Blocks.size c.args.disk.now in
    let image : List ℕ = g.B.Blocks.image c.args.disk.now in
    let placed : IsAreaPlaced (g.B.Blocks.size c.args.disk.now) c.args.start c.args.size =
    subst (λ (n : ℕ). IsAreaPlaced n c.args.start c.args.size) c.sectors.ensures (c.is_placed.ensures.0 (search rules)) in
    let at : 512 * (c.args.start / 512) ≡ c.args.start = omega (arith, placed.whole_start) in
    let header : c.read.new.out ≡ area_header image c.args.start = c.in_ok-read.ensures.bytes t ∙ ap (λ (k : ℕ). bytes_at image k 512) at in
    let area : c.deref.result.now ≡ bytes_at image c.args.start c.args.size =
    c.deref.ensures.value ∙ c.in_ok-area.ensures.area t ∙ ap (λ (i : List ℕ). bytes_at i c.args.start c.args.size) (g.met.B.Blocks.same_image _ _ c.in_ok-read.ensures.read t) in
    ring_read sectors image c.args.start c.args.size c.read.new.out c.deref.result.now _ placed header area c.in_ok-judge.ensures.names c.in_ok-ring.ensures.ring

pub returns-in_err-ring-clause-fault : goal.returns-in_err-ring-clause-fault
returns-in_err-ring-clause-fault g c =
    λ t.
    let sectors : ℕ = g.B.Blocks.size c.args.disk.now in
    let image : List ℕ = g.B.Blocks.image c.args.disk.now in
    let placed : IsAreaPlaced (g.B.Blocks.size c.args.disk.now) c.args.start c.args.size =
    subst (λ (n : ℕ). IsAreaPlaced n c.args.start c.args.size) c.sectors.ensures (c.is_placed.ensures.0 (search rules)) in
    let at : 512 * (c.args.start / 512) ≡ c.args.start = omega (arith, placed.whole_start) in
    let header : c.read.new.out ≡ area_header image c.args.start = c.in_ok-read.ensures.bytes t ∙ ap (λ (k : ℕ). bytes_at image k 512) at in
    let area : c.deref.result.now ≡ bytes_at image c.args.start c.args.size =
    c.deref.ensures.value ∙ c.in_ok-area.ensures.area t ∙ ap (λ (i : List ℕ). bytes_at i c.args.start c.args.size) (g.met.B.Blocks.same_image _ _ c.in_ok-read.ensures.read t) in
    let p = err_from_is_err_and c.from_residual-in_err-ring.result c.from_residual-in_err-ring.ensures.1 in
    rw (p.1, p.2)
    (text_fault sectors image c.args.start c.args.size c.read.new.out c.deref.result.now c.in_err-ring.field-0.0 placed header area c.in_ok-judge.ensures.names c.in_err-ring.ensures.fault)
