-- `aisle::told` meets its contract: the line is malformed, or asks for settings with the text after it.
use Rattle.learning.proofs.Words.{ap, refl, sym, ◌∙◌}
use Rattle.model.specs.Line.{refusal_line}
use Rattle.model.proofs.Parts.{rest}
use Rattle.aisle.proofs.Answers.{malformed, asks, says_as}
use Rattle.aisle.proofs.told.Goals as goal

pub returns-in_default : goal.returns-in_default
returns-in_default c = (malformed _ c.in_default.ensures.malformed ∙ ap refusal_line (sym c.numbered.ensures), refl)

pub returns : goal.returns
returns c =
    let asked = c.in-Some.ensures.asked in
    says_as _ _ _ (sym (asks _ _ _ asked.settings (rest c.in-Some.field-0.text c.args.input.now ∙ asked.text))) c.asked.ensures
