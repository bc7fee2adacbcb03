-- `aisle::with_text` meets its contract: the floor text is refused, or it is a floor.
use Rattle.learning.proofs.Words.{sym, arith, refl}
use Rattle.aisle.proofs.Answers.{read-refused, read_done, text-told, readied, floor-told, says_as, says_exit}
use Rattle.aisle.proofs.with_text.Goals as goal

pub returns-in_err-sizes : goal.returns-in_err-sizes
returns-in_err-sizes c =
    says_exit _ _ _ c.from_residual.ensures.1 (text-told _ _ c.requires.holds _ (read-refused _ c.in_err-sizes.ensures refl))

pub overflow_mul-floor : goal.overflow_mul-floor
overflow_mul-floor c = omega (arith, (read_done c.in_ok-sizes.ensures refl).few)

pub slice_bounds-floor-end : goal.slice_bounds-floor-end
slice_bounds-floor-end c = omega (arith, (read_done c.in_ok-sizes.ensures refl).few)

pub slice_bounds-on_floor-end : goal.slice_bounds-on_floor-end
slice_bounds-on_floor-end c = sym (read_done c.in_ok-sizes.ensures refl).long

pub on_floor-requires-clause-readied : goal.on_floor-requires-clause-readied
on_floor-requires-clause-readied c = readied c.args.s c.args.text.now c.requires.holds (read_done c.in_ok-sizes.ensures refl)

pub returns : goal.returns
returns c = says_as _ _ _ (floor-told _ _ c.requires.holds (read_done c.in_ok-sizes.ensures refl)) c.on_floor.ensures
