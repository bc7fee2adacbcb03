-- `table_file::reader::first_names` meets its contract: each test is a field of `FirstSame`.
use Rattle.learning.proofs.Words.{refl, sym, ◌∙◌, ap, length, arith}
use Rattle.model.specs.Floor.{goals_of}
use Rattle.model.proofs.Accepted.{eq_tells, refuted, same_told}
use Rattle.model.proofs.Benches.{goal_at_lem}
use Rattle.model.proofs.Files.{first_names_lem}
use Rattle.table_file.proofs.reader.first_names.Goals as goal
use Rattle.table_file.proofs.reader.first_names.Goals.{then-from-site-via-then-from-site, then-from-site-via-else-from-site+then-from-site-2, then-from-site-via-else-from-site+else-from-site-2+then-goals_in-ne-FIRST_GOALS}

pub returns-then-from-site : goal.returns-then-from-site
returns-then-from-site c = refuted (first_names_lem _ _ _) (λ s. elim c.then-from-site.branch [
  | then-from-site-via-then-from-site w ↦ w.if-from-site.true (c.from.ensures ∙ s.width ∙ sym (ap (λ z. z.floor.width) c.site.view_is))
  | then-from-site-via-else-from-site+then-from-site-2 w ↦ w.if-from-site-2.true (w.from-else-from-site.ensures ∙ s.height ∙ sym (ap (λ z. z.floor.height) c.site.view_is))
  | then-from-site-via-else-from-site+else-from-site-2+then-goals_in-ne-FIRST_GOALS w ↦ w.if-goals_in-ne-FIRST_GOALS.true (w.goals_in.ensures ∙ ap (λ z. length (goals_of z.goals)) c.site.view_is ∙ s.alone)
])

pub returns : goal.returns
returns c =
    let gs = c.args.site.now.goals in
    let first = ap (λ z. z.goals.first) c.site.view_is ∙ sym (goal_at_lem gs 0 0 refl (omega (arith, c.args.site.now.opened.benches.one))) in
    same_told (eq_tells _ _) (first_names_lem _ _ _)
    (λ e. record {
      width = sym c.from.ensures ∙ c.if-from-site.false ∙ ap (λ z. z.floor.width) c.site.view_is;
      height = sym c.from-else-from-site.ensures ∙ c.if-from-site-2.false ∙ ap (λ z. z.floor.height) c.site.view_is;
      goal = sym c.half_at.ensures.0 ∙ (e ∙ first);
      alone = sym (ap (λ z. length (goals_of z.goals)) c.site.view_is) ∙ sym c.goals_in.ensures ∙ c.if-goals_in-ne-FIRST_GOALS.false;
    })
    (λ s. c.half_at.ensures.0 ∙ (s.goal ∙ sym first))
