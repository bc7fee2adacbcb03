-- `floor_text::writer::text_bytes` meets its contract: `length-text`, and 64 rows of 65 bytes at most.
use Rattle.learning.proofs.Words.{arith}
use Rattle.model.proofs.FloorTexts.{length-text}
use Rattle.floor_text.proofs.writer.text_bytes.Goals as goal

pub returns : goal.returns
returns c = rw (← c.floor.view_is) (omega (arith, length-text _ c.floor.invariant))
