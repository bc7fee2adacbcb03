-- `floor_text::size_in` meets its contract: each `return` is one law of the run of digits at the front.
use Rattle.std.proofs.Common.{arith}
use Rattle.floor_text.proofs.Sizes.{run_there, no_zero, size-zero, size_out, size_no_LF, size-whole}
use Rattle.floor_text.proofs.size_in.Goals as goal

pub returns-then-starts_with : goal.returns-then-starts_with
returns-then-starts_with c = size-zero c.args.text.now c.starts_with.ensures.value c.if-starts_with.true

pub returns-then-run-gt2 : goal.returns-then-run-gt2
returns-then-run-gt2 c =
    let t = c.args.text.now in
    size_out t (no_zero t c.starts_with.ensures.value c.if-starts_with.false) c.read-run.ensures c.then-run-gt2.either

pub slice_bounds-strip_prefix-count : goal.slice_bounds-strip_prefix-count
slice_bounds-strip_prefix-count c =
    let t = c.args.text.now in
    run_there t (no_zero t c.starts_with.ensures.value c.if-starts_with.false) c.read-run.ensures

pub slice_bounds-strip_prefix-start : goal.slice_bounds-strip_prefix-start
slice_bounds-strip_prefix-start c =
    let t = c.args.text.now in
    run_there t (no_zero t c.starts_with.ensures.value c.if-starts_with.false) c.read-run.ensures

pub returns-in_err-rest : goal.returns-in_err-rest
returns-in_err-rest c =
    let t = c.args.text.now in
    rw c.from_residual.ensures (size_no_LF t (no_zero t c.starts_with.ensures.value c.if-starts_with.false) c.read-run.ensures c.in_err-rest.ensures.cases)

pub returns : goal.returns
returns c =
    let t = c.args.text.now in
    size-whole t (no_zero t c.starts_with.ensures.value c.if-starts_with.false) c.read-run.ensures (omega arith, omega arith, omega arith) c.in_ok-rest.ensures.cases.0 c.in_ok-rest.ensures.cases.1
