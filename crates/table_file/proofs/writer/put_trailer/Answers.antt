-- `table_file::writer::put_trailer` meets its contract: what names the job, and behind it what points back.
use Rattle.model.specs.TableFile.{trailer_of}
use Rattle.notation.proofs.Prints.{prints_then}
use Rattle.table_file.proofs.writer.put_trailer.Goals as goal

pub returns : goal.returns
unfolding trailer_of
returns c = prints_then c.put_job.ensures c.put_back.ensures
