-- `floor_text::store_rows` meets its contract: the invariant: `Filled`, the cells of the rows passed are stored.
use Rattle.floor_text.proofs.Laws.{filled, filled_more}
use Rattle.floor_text.proofs.store_rows.Goals as goal

pub loop-row-init : goal.loop-row-init
loop-row-init c =
    search filled

pub loop-row-preserved : goal.loop-row-preserved
loop-row-preserved c =
    search filled_more
