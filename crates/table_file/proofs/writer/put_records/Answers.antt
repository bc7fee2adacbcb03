-- `table_file::writer::put_records` meets its contract: the invariant: `Putting`, the records that are put and those that are left make the whole.
use Rattle.std.proofs.Common.{arith, refl, sym, ◌∙◌}
use Rattle.table_file.proofs.Writing.{putting, record_room, putting_same, putting_more, putting_all}
use Rattle.notation.proofs.Prints.{room_left}
use Rattle.table_file.proofs.writer.put_records.Goals as goal
use Rattle.table_file.proofs.writer.put_records.Goals.{then-figure-opening, else-figure-opening}

pub loop-x-init : goal.loop-x-init
loop-x-init c = putting c.requires.room

pub half-requires : goal.half-requires
half-requires c =
    omega (arith, record_room c.loop-x.invariant (omega arith) (λ e. c.if-figure-opening.true (e ∙ sym c.opening.ensures.0)))

pub word-requires : goal.word-requires
word-requires c =
    room_left c.half.ensures _ 4 (record_room c.loop-x.invariant (omega arith) (λ e. c.if-figure-opening.true (e ∙ sym c.opening.ensures.0))) (omega arith)

pub loop-x-preserved : goal.loop-x-preserved
loop-x-preserved c =
    let inv = c.loop-x.invariant in
    elim c.if-figure-opening.branch [
      | then-figure-opening w ↦ rw w.out-is (putting_more inv (omega arith) (λ e. w.if-figure-opening.true (e ∙ sym c.opening.ensures.0)) refl w.half.ensures w.word.ensures)
      | else-figure-opening w ↦ rw w.out-is (putting_same inv (omega arith) (w.if-figure-opening.false ∙ c.opening.ensures.0))
    ]

pub returns : goal.returns
returns c = putting_all c.loop-x.invariant (omega arith)
