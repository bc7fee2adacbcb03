-- `floor_text::row_holds` meets its contract: a row that is too short, one with no LF, and else its letters decide.
use Rattle.std.proofs.Common.{rules, tests, sym, ◌∙◌, arith, take}
use Rattle.std.proofs.lemmas.Iterator.{YieldsList-from_slice}
use Rattle.std.proofs.lemmas.Iterator.Search.{all_from_yields_List}
use Rattle.std.proofs.lemmas.Bool.{ltb-true}
use Rattle.model.specs.FloorText.{is_letter}
use Rattle.floor_text.proofs.Laws.{row-short, row_no_LF, row_by_letters}
use Rattle.floor_text.proofs.row_holds.Goals as goal
use Rattle.floor_text.proofs.row_holds.Goals.{then-width-text, else-width-text}

pub returns-then-text-width-eq10 : goal.returns-then-text-width-eq10
returns-then-text-width-eq10 c =
    let t = c.args.text.now in
    let all = all_from_yields_List is_letter _ _ c.all.result c.all.ensures.ran (YieldsList-from_slice (take c.args.width t) cc) (λ x b q k. search (rules, tests)) in
    elim c.if-width-text.branch [
      | then-width-text w ↦ row_by_letters c.args.width t w.if-width-text.true (sym w.value-is ∙ c.if-text-width-eq10.true) all
      | else-width-text w ↦ absurd (omega (arith, w.if-width-text.false, ltb-true _ _ (sym w.value-is ∙ c.if-text-width-eq10.true)))
    ]

pub returns-else-text-width-eq10 : goal.returns-else-text-width-eq10
returns-else-text-width-eq10 c =
    c.if-text-width-eq10.false ∙ (elim c.if-width-text.branch [
      | then-width-text w ↦ row_no_LF c.args.width c.args.text.now (sym w.value-is ∙ c.if-text-width-eq10.false)
      | else-width-text w ↦ row-short c.args.width c.args.text.now w.if-width-text.false
    ])
