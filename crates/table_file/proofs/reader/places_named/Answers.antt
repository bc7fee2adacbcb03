-- `table_file::reader::places_named` meets its contract. The invariant: the goal places passed are this job's.
use Rattle.learning.proofs.Words.{sym, arith}
use Rattle.model.proofs.Files.{places-named}
use Rattle.model.proofs.Accepted.{refuted}
use Rattle.table_file.proofs.reader.places_named.Goals as goal

pub returns-then-half_at-goal_place : goal.returns-then-half_at-goal_place
returns-then-half_at-goal_place c =
    refuted (places-named _ _) (λ h. c.if-half_at-goal_place.true (omega (arith, h c.loop-i.i (omega arith))))

pub returns : goal.returns
returns c =
    sym ((places-named _ _).shown (λ k h. c.loop-i.invariant k (omega arith)))
