-- `table_file::writer::put_job` meets its contract: there are four goals at most.
use Rattle.std.proofs.Common.{arith}
use Rattle.model.proofs.Benches.{goals_many}
use Rattle.table_file.proofs.writer.put_job.Goals as goal

pub overflow_cast-goals_in : goal.overflow_cast-goals_in
overflow_cast-goals_in c = omega (arith, c.goals_in.ensures, goals_many c.args.named.goals)
