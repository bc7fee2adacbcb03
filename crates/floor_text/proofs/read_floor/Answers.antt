-- `floor_text::read_floor` meets its contract: one law for each of no header, no room, a faulty row and all rows stored.
use Rattle.learning.proofs.Words.{◌≡◌, sym, arith}
use Rattle.std.specs.Prelude.{Option, None, Err}
use Rattle.std.specs.Option.{ok_or}
use Rattle.std.proofs.lemmas.Option.{MatchOption-at_some, MatchOption-at_none}
use Rattle.std.proofs.lemmas.Result.{err_from_is_err_and}
use Rattle.model.proofs.FloorTexts.{rows_there}
use Rattle.floor_text.specs.Reads.{Sound}
use Rattle.floor_text.proofs.Laws.{header_refused, no_room, rows-refused, rows-read}
use Rattle.floor_text.proofs.read_floor.Goals as goal
use Rattle.floor_text.proofs.read_floor.Goals.{In_ok-sizes}

-- the error that stands in for a value that is missing
same_error : {A E : Type 0} {o : Option A} {x e : E} → Err x ≡ ok_or o e → o ≡ None → x ≡ e
same_error {o = o} {x = x} {e = e} f n = let g : Err x ≡ ok_or None e = rw n at f in cc g

-- the header that is found
sound : (c : In_ok-sizes) → let z = c.in_ok-sizes.sizes in Sound c.args.text.now z.width z.height c.in_ok-sizes.rows.now
sound c = MatchOption-at_some _ _ _ c.in_ok-sizes.ensures.ok_part c.read_header.ensures

pub returns-in_err-sizes : goal.returns-in_err-sizes
returns-in_err-sizes c =
    let e = c.in_err-sizes.ensures in
    let p = err_from_is_err_and c.from_residual.result c.from_residual.ensures.1 in
    rw (p.1, p.2, same_error e.value e.ok_part, c.numbered.ensures) (header_refused _ _ (MatchOption-at_none _ _ e.ok_part c.read_header.ensures))

pub returns-then-buffer-width : goal.returns-then-buffer-width
returns-then-buffer-width c =
    rw c.numbered-then-buffer-width.ensures (no_room _ (sound (goal.at.returns-then-buffer-width c).In_ok-sizes) (omega arith))

pub returns-in_err-judge_rows : goal.returns-in_err-judge_rows
returns-in_err-judge_rows c =
    let p = err_from_is_err_and c.from_residual-in_err-judge_rows.result c.from_residual-in_err-judge_rows.ensures.1 in
    rw (p.1, p.2) (rows-refused _ (sound (goal.at.returns-in_err-judge_rows c).In_ok-sizes) (omega arith) _ (sym c.in_err-judge_rows.ensures))

pub store_rows-requires-clause-judged : goal.store_rows-requires-clause-judged
store_rows-requires-clause-judged c = rows_there _ _ 5 _ (sym c.in_ok-judge_rows.ensures)

pub returns : goal.returns
returns c =
    rows-read _ (sound (goal.at.returns c).In_ok-sizes) (omega arith) (sym c.in_ok-judge_rows.ensures) c.store_rows.ensures
