-- `checks::places` meets its contract: the first cell is judged here, and the goals by `benches`.
use Rattle.learning.proofs.Words.{ap, sym, ◌∙◌}
use Rattle.std.specs.Prelude.{Err}
use Rattle.model.proofs.Accepted.{never}
use Rattle.model.proofs.Benches.{places_judges, places_next}
use Rattle.checks.proofs.places.Goals as goal

pub returns-then-not-is_free : goal.returns-then-not-is_free
returns-then-not-is_free c =
    ap Err c.numbered.ensures ∙ sym ((places_judges _ _ _).refused (λ h. never h.0 (sym c.is_free.ensures ∙ c.if-not-is_free.true)))

pub returns : goal.returns
returns c = c.benches.ensures ∙ sym (places_next _ _ _ (sym c.is_free.ensures ∙ c.if-not-is_free.false))
