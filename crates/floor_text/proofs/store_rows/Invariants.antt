-- `floor_text::store_rows` meets its contract: the invariant: `Filled`, the cells of the rows passed are stored.
use Rattle.floor_text.proofs.Laws.{Filled}
use Rattle.floor_text.proofs.store_rows.Given as goal

abbrev pub invariant-loop-row : goal.invariant-loop-row
invariant-loop-row l = Filled l.width l.height l.text l.initial.buffer l.left l.buffer l.row
