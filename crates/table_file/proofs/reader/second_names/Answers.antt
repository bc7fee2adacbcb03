-- `table_file::reader::second_names` meets its contract: each test is a field of `SecondSame`.
use Rattle.learning.proofs.Words.{sym, ◌∙◌, ap, length}
use Rattle.model.specs.Floor.{goals_of}
use Rattle.model.specs.TableFile.{places_named}
use Rattle.model.proofs.Files.{places-named, second-names}
use Rattle.model.proofs.Accepted.{refuted, same_told}
use Rattle.table_file.proofs.reader.second_names.Goals as goal
use Rattle.table_file.proofs.reader.second_names.Goals.{then-from-site-via-then-from-site, then-from-site-via-else-from-site+then-from-site-2, then-from-site-via-else-from-site+else-from-site-2+then-from-goals_in}

pub returns-then-from-site : goal.returns-then-from-site
returns-then-from-site c = refuted (second-names _ _ _) (λ s. elim c.then-from-site.branch [
  | then-from-site-via-then-from-site w ↦ w.if-from-site.true (c.from.ensures ∙ s.width ∙ sym (ap (λ z. z.floor.width) c.site.view_is))
  | then-from-site-via-else-from-site+then-from-site-2 w ↦ w.if-from-site-2.true (w.from-else-from-site.ensures ∙ s.height ∙ sym (ap (λ z. z.floor.height) c.site.view_is))
  | then-from-site-via-else-from-site+else-from-site-2+then-from-goals_in w ↦
      w.if-from-goals_in.true (w.from-else-from-site-2.ensures ∙ s.count ∙ sym (ap (λ z. length (goals_of z.goals)) c.site.view_is) ∙ sym w.goals_in.ensures)
])

pub returns : goal.returns
returns c =
    let t = c.args.t.now in
    c.places_named.ensures
    ∙ ap (λ z. places_named (goals_of z.goals) t) c.site.view_is
    ∙ same_told (places-named _ _) (second-names _ _ _)
    (λ p. record {
      width = sym c.from.ensures ∙ c.if-from-site.false ∙ ap (λ z. z.floor.width) c.site.view_is;
      height = sym c.from-else-from-site.ensures ∙ c.if-from-site-2.false ∙ ap (λ z. z.floor.height) c.site.view_is;
      count = sym c.from-else-from-site-2.ensures ∙ c.if-from-goals_in.false ∙ c.goals_in.ensures ∙ ap (λ z. length (goals_of z.goals)) c.site.view_is;
      places = p;
    })
    (λ s. s.places)
