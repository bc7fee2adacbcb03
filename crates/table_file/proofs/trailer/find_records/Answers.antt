-- `table_file::trailer::find_records` meets its contract: by the trailer's check, the part that it points to or the empty one.
use Rattle.learning.proofs.Words.{◌≡◌, refl, sym, ◌∙◌, true, arith}
use Rattle.model.specs.TableFile.{trailer_holds, find_records}
use Rattle.table_file.specs.Promises.{start_of}
use Rattle.table_file.proofs.Reading.{points, ending-room, found_part}
use Rattle.table_file.proofs.trailer.find_records.Goals as goal
use Rattle.table_file.proofs.trailer.find_records.Goals.{Else-not-trailer_holds}

holds : (e : Else-not-trailer_holds) → trailer_holds e.args.file.now ≡ true
holds e = sym e.trailer_holds.ensures ∙ e.if-not-trailer_holds.false

pub returns-then-not-trailer_holds-clause-part : goal.returns-then-not-trailer_holds-clause-part
unfolding find_records start_of
returns-then-not-trailer_holds-clause-part c =
    let faulty = sym c.trailer_holds.ensures ∙ c.if-not-trailer_holds.true in rw faulty

pub returns-then-not-trailer_holds-clause-own : goal.returns-then-not-trailer_holds-clause-own
unfolding find_records start_of
returns-then-not-trailer_holds-clause-own c =
    let faulty = sym c.trailer_holds.ensures ∙ c.if-not-trailer_holds.true in (refl, rw faulty (omega arith))

pub back_in-requires : goal.back_in-requires
back_in-requires c =
    search (ending-room, holds (goal.at.back_in-requires c).Else-not-trailer_holds)

pub overflow_sub-start : goal.overflow_sub-start
overflow_sub-start c =
    omega (arith, (points _ (holds (goal.at.overflow_sub-start c).Else-not-trailer_holds)).within)

pub count_in-requires : goal.count_in-requires
count_in-requires c =
    search (ending-room, holds (goal.at.count_in-requires c).Else-not-trailer_holds)

pub slice_bounds-result-end-2 : goal.slice_bounds-result-end-2
slice_bounds-result-end-2 c =
    omega (arith, points _ (holds (goal.at.slice_bounds-result-end-2 c).Else-not-trailer_holds))

pub returns-clause-part : goal.returns-clause-part
unfolding find_records start_of
returns-clause-part c =
    let held = holds (goal.at.returns-clause-part c).Else-not-trailer_holds in search found_part

pub returns-clause-own : goal.returns-clause-own
unfolding find_records start_of
returns-clause-own c =
    let held = holds (goal.at.returns-clause-own c).Else-not-trailer_holds in (refl, rw held (omega arith))
