-- Opening a job: true distances and true figures, and the checks 1 to 7.
use Rattle.std.specs.Prelude.{ℕ, ◌*◌, Bool, ◌&&◌, List, leb, ltb, length, get_or}
use Rattle.learning.specs.Ground.{dists_of, reach_in, dist_in}
use Rattle.answers.specs.declared.Goals.{Goals}
use Rattle.answers.specs.declared.Job.{Job}
use Rattle.answers.specs.Outcomes.{Verdict}
use Rattle.std.specs.Prelude.{Ok, Err}
use Rattle.model.specs.Basics.{between, then, unless, naming}
use Rattle.model.specs.Floor.{Floor, size, goals_of, opening_table}
use Rattle.model.specs.Checks.{floor_of, goals, ground_in, sizes, path_room, settings, scale, benches, places, goals_hold, figures}

-- the true distances, a row, each to the nearest goal; whether a cell can reach one; its true figure, q times its true distance
abbrev pub distances : Job → List ℕ → List ℕ
distances j bytes = dists_of (ground_in j bytes)

abbrev pub reaches : Job → List ℕ → List ℕ → ℕ → Bool
reaches j bytes row x = reach_in (ground_in j bytes) row x

abbrev pub true_figure : Job → List ℕ → List ℕ → ℕ → ℕ
true_figure j bytes row x = j.q * dist_in (ground_in j bytes) row x

-- 6: no walk from start to a goal exists. 7: a cell that can reach one is above its true figure; names the lowest
unfoldable pub soundness : Job → List ℕ → (start : ℕ) → (table : List ℕ) → Verdict
soundness j bytes start table =
    let row = distances j bytes in
    then (unless (reaches j bytes row start) 6)
    (naming (size (floor_of j bytes)) (λ x. reaches j bytes row x && ltb (true_figure j bytes row x) (get_or table x 0)) 7)

-- 4, 27 and 5 to 7, which every opening ends with
unfoldable pub accepts : Job → List ℕ → (start : ℕ) → (table : List ℕ) → Verdict
accepts j bytes start table =
    let f = floor_of j bytes in
    then (places f start (goals j)) (then (goals_hold j.goals) (then (figures f table) (soundness j bytes start table)))

-- what each call judges, in order; a run also its trials, 1 to 1,000, and that the reports are not shorter
unfoldable pub open_job : Job → List ℕ → (start : ℕ) → (table : List ℕ) → Verdict
open_job j bytes start table =
    then (sizes (floor_of j bytes) (length table)) (then (settings j) (accepts j bytes start table))

unfoldable pub open_trial : Job → List ℕ → (start : ℕ) → (table path : List ℕ) → Verdict
open_trial j bytes start table path =
    let f = floor_of j bytes in
    then (sizes f (length table)) (then (path_room f (length path)) (then (settings j) (accepts j bytes start table)))

unfoldable pub reports_room : ℕ → ℕ → Verdict
reports_room trials records = unless (leb trials records) 2

unfoldable pub trials_hold : ℕ → Verdict
trials_hold trials = unless (between 1 trials 1000) 3

unfoldable pub open_run : Job → List ℕ → (start : ℕ) → (table path : List ℕ) → (trials records : ℕ) → Verdict
open_run j bytes start table path trials records =
    let f = floor_of j bytes in
    then (sizes f (length table))
    (then (path_room f (length path))
    (then (reports_room trials records)
    (then (settings j)
    (then (trials_hold trials)
    (accepts j bytes start table)))))

-- Filling a table with opening figures: 1, 3, 4 and 27 as the table calls judge them, and the table after.
unfoldable pub open_table : Floor → (q : ℕ) → Goals → (figures : ℕ) → Verdict
open_table f q g figures = then (sizes f figures) (then (scale q) (then (benches f (goals_of g)) (goals_hold g)))

abbrev pub filled : Verdict → Floor → (q : ℕ) → Goals → (table : List ℕ) → List ℕ
filled (Ok _) f q g table = opening_table f q (goals_of g)
filled (Err r) f q g table = table
