use Rattle.std.proofs.Common.{rules, ◌≡◌, ℕ, ◌+◌, ◌-◌, ◌*◌, take, drop, ap, subst, ◌∙◌, arith}
use Rattle.xfs_log.specs.inside.Finding.{FindsNewest}
use Rattle.xfs_log.proofs.finding.with_block.Goals as goal

pub loop-k-preserved : goal.loop-k-preserved
loop-k-preserved c =
    let k : ℕ = c.loop-k.k in
    let at : ℕ = 8 * c.args.at in
    let long : 512 ≡ 512 * k + 512 - 512 * k = omega arith in
    let next : at + k + 1 ≡ at + (k + 1) = omega arith in
    record {
      inside = search rules;
      newest = λ sectors each found.
          subst (λ (n : ℕ). FindsNewest sectors n c.with_sector-newest.result) next
          (c.with_sector-newest.ensures.newest sectors (each k c.loop-k-test.true ∙ ap (λ (n : ℕ). take n (drop (512 * k) c.args.bytes.now)) long) (c.loop-k.invariant.newest sectors each found));
    }

pub returns-clause-newest : goal.returns-clause-newest
returns-clause-newest c = λ sectors each found.
    let all : 8 * c.args.at + c.loop-k.k ≡ 8 * (c.args.at + 1) = omega (arith, c.loop-k.auto.k-end, c.loop-k-test.false) in
    subst (λ (n : ℕ). FindsNewest sectors n c.loop-k.newest) all (c.loop-k.invariant.newest sectors each found)
