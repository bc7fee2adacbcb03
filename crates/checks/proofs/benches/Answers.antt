-- `checks::benches` meets its contract. The invariant: the goals passed are free.
use Rattle.learning.proofs.Words.{ap, arith, sym, ◌∙◌}
use Rattle.std.specs.Prelude.{Err}
use Rattle.model.specs.Floor.{free}
use Rattle.model.proofs.Accepted.{never}
use Rattle.model.proofs.Benches.{bench_judges}
use Rattle.checks.proofs.benches.Goals as goal

pub returns-then-not-is_free : goal.returns-then-not-is_free
returns-then-not-is_free c =
    let told = c.is_free.ensures ∙ ap (free c.args.floor.now) c.goal_at.ensures in
    ap Err c.numbered.ensures ∙ sym ((bench_judges _ _).refused (λ h. never (h c.loop-i.i (omega arith)) (sym told ∙ c.if-not-is_free.true)))

pub returns : goal.returns
returns c = sym ((bench_judges _ _).done (λ k h. c.loop-i.invariant k (omega arith)))
