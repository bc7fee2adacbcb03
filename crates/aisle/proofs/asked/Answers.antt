-- `aisle::asked` meets its contract: the settings are refused, or the text is read.
use Rattle.learning.proofs.Words.{sym}
use Rattle.aisle.proofs.Answers.{line-told, says_exit}
use Rattle.aisle.proofs.asked.Goals as goal

pub returns-in_err-settings_hold : goal.returns-in_err-settings_hold
returns-in_err-settings_hold c = says_exit _ _ _ c.from_residual.ensures.1 (line-told _ _ _ (sym c.in_err-settings_hold.ensures))
