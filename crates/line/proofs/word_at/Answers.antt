-- `line::word_at` meets its contract: each way out is one law of the run of digits at the place and the byte after it.
use Rattle.std.proofs.Common.{rules, arith, sym, ◌∙◌}
use Rattle.line.proofs.Words.{word_unformed, word_out, word_other, word_last, word_more}
use Rattle.line.proofs.word_at.Goals as goal
use Rattle.line.proofs.word_at.Goals.{in-10, in-32}

pub returns-then-end-from-clause-none : goal.returns-then-end-from-clause-none
returns-then-end-from-clause-none c = search (word_unformed, rules)

pub returns-in_err-get-clause-none : goal.returns-in_err-get-clause-none
returns-in_err-get-clause-none c = search (word_out, rules)

pub returns-in_default-clause-none : goal.returns-in_default-clause-none
returns-in_default-clause-none c = search (word_other, rules)

pub returns-clause-some : goal.returns-clause-some
returns-clause-some c =
    let got = c.in_ok-get.ensures.lookup.3 in
    elim c.match-branch-2.branch [
      | in-10 w ↦ rw w.last-is (word_last _ _ _ c.read-run.ensures got.0 c.if-end-from.false (omega arith) (sym (got.1 0) ∙ w.in-10.is))
      | in-32 w ↦ rw w.last-is (word_more _ _ _ c.read-run.ensures got.0 c.if-end-from.false (omega arith) (sym (got.1 0) ∙ w.in-32.is))
    ]
