-- `table_file::renewal::put_renewed` meets its contract: edition 1's trailer is made anew, edition 2's copied.
use Rattle.std.proofs.Common.{sym, ◌∙◌, subst}
use Rattle.notation.specs.Prints.{Prints}
use Rattle.table_file.specs.Trailer.{trailer_at}
use Rattle.table_file.proofs.Reading.{points, ending-room, second-room}
use Rattle.table_file.proofs.Renewing.{first_put, second-put}
use Rattle.table_file.proofs.renewal.put_renewed.Goals as goal

pub edition_in-requires : goal.edition_in-requires
edition_in-requires c = ending-room _ c.requires.sound

pub named_in-requires : goal.named_in-requires
named_in-requires c = (points _ c.requires.sound).room

pub count_in-requires : goal.count_in-requires
count_in-requires c = ending-room _ c.requires.sound

pub trailer_of-requires : goal.trailer_of-requires
trailer_of-requires c = second-room _ c.requires.sound c.edition_in.ensures c.if-edition_in-eq1.false

pub returns-then-edition_in-eq1 : goal.returns-then-edition_in-eq1
returns-then-edition_in-eq1 c =
    let e = (λ i. trailer_at (c.named_in.ensures i) (c.count_in.ensures.0 i)) ∙ first_put _ c.requires.sound (sym c.edition_in.ensures ∙ c.if-edition_in-eq1.true) in
    subst (λ text. Prints c.args.out.now text c.put_trailer.new.out) e c.put_trailer.ensures

pub returns-else-edition_in-eq1 : goal.returns-else-edition_in-eq1
returns-else-edition_in-eq1 c =
    rw (← (second-put _ c.requires.sound c.edition_in.ensures c.if-edition_in-eq1.false), ← c.trailer_of.ensures.0) c.bytes.ensures
