-- `opening::fill_opening` meets its contract: the table is stored to only when no check refuses.
use Rattle.learning.proofs.Words.{rules}
use Rattle.model.proofs.Files.{openable}
use Rattle.opening.proofs.fill_opening.Goals as goal

pub fill_figures-requires : goal.fill_figures-requires
fill_figures-requires c = search (rules, openable)
