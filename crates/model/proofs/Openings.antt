-- What an accepted job is: a lawful job of `learning`, with a sound table and a start that can reach a goal.
-- The checks 1 to 7 give just this, and whatever is this passes them: so acceptance can be carried from trial to trial.
use Prim.Native.Nat.{ℕ, ◌*◌, ◌≤◌, ◌<◌}
use mathlib.Core.Path.{◌≡◌, refl, ◌∙◌}
use mathlib.Core.Bool.{Bool, true, false, ◌&&◌}
use mathlib.Core.List.{List}
use native.Mathlib.Omega.{arith}
use borrow.Author.Tests.{le-ltb}
use lib.Dec.{ltb}
use lib.ListN.{length, get_or}
use Rattle.learning.specs.Trial.{Lawful, CanReach, Sound}
use Rattle.learning.specs.Ground.{dist_of}
use Rattle.learning.proofs.Ground.{lawful}
use Rattle.answers.specs.declared.Job.{Job}
use Rattle.std.specs.Prelude.{Ok}
use Rattle.model.specs.Floor.{size, Sized, free}
use Rattle.model.specs.Checks.{ceiling, floor_of, goals, ground_in, sizes, path_room, settings, places, goals_hold, figures}
use Rattle.model.specs.Opening.{accepts, open_job, open_trial, reports_room, trials_hold, open_run}
use Rattle.model.specs.Ride.{learning_job}
use Rattle.model.proofs.Accepted.{then_next, then_done, Settings, sizes_judges, path_judges, reports_judges, settings_judges, trials_judges, naming-done, figures-accepted}
use Rattle.model.proofs.Benches.{AllFree, places_judges, InOrder, goals_judges}
use Rattle.model.proofs.Soundness.{sound, sound_only}

-- ---- what acceptance gives

-- of the job and its floor
pub record Held (j : Job) (bytes : List ℕ) : Type 0 where
  pub sized : Sized (floor_of j bytes)
  pub settings : Settings j
  pub benches : AllFree (floor_of j bytes) (goals j)
  pub order : InOrder j.goals
  pub lawful : Lawful (learning_job j bytes)

-- and of the start and the table
pub record Opened (j : Job) (bytes : List ℕ) (start : ℕ) (table : List ℕ) : Type 0 where
  pub held : Held j bytes
  pub long : length table ≡ size (floor_of j bytes)
  pub free-start : free (floor_of j bytes) start ≡ true
  pub fits : (x : ℕ) → x < size (floor_of j bytes) → get_or table x 0 ≤ ceiling
  pub sound : Sound (learning_job j bytes) table
  pub reach : CanReach (learning_job j bytes) start

-- and a path list that is long enough
pub record Ready (j : Job) (bytes : List ℕ) (start : ℕ) (table path : List ℕ) : Type 0 where
  pub opened : Opened j bytes start table
  pub room : size (floor_of j bytes) ≤ length path

-- and a run's trials and reports
pub record ReadyRun (j : Job) (bytes : List ℕ) (start : ℕ) (table path : List ℕ) (trials records : ℕ) : Type 0 where
  pub ready : Ready j bytes start table path
  pub some : 1 ≤ trials
  pub few : trials ≤ 1000
  pub reports : trials ≤ records

pub second-false : (a b : Bool) → a ≡ true → (a && b) ≡ false → b ≡ false
second-false a b e f = rw e at f

pub not_both : (a b : Bool) → (a ≡ true → b ≡ false) → (a && b) ≡ false
not_both true b h = h refl
not_both false b h = refl

module _ (j : Job) (bytes : List ℕ) (start : ℕ) (table : List ℕ) where
  from_accepts : Sized (floor_of j bytes) → length table ≡ size (floor_of j bytes) → Settings j → accepts j bytes start table ≡ Ok tt → Opened j bytes start table
  unfolding accepts
  from_accepts z l s e =
      let f = floor_of j bytes in
      let (p, rest) = then_done (places f start (goals j)) _ e in
      let (o, more) = then_done (goals_hold j.goals) _ rest in
      let (g, judged) = then_done (figures f table) _ more in
      let (way, none) = sound_only j bytes start table judged in
      let free-both = (places_judges f start (goals j)).gives p in
      record {
        held = record {
          sized = z;
          settings = s;
          benches = free-both.1;
          order = (goals_judges j.goals).gives o;
          lawful = lawful (ground_in j bytes) j.depth j.p j.q j.quota s.deep s.light s.weight;
        };
        long = l;
        free-start = free-both.0;
        fits = figures-accepted f table g;
        sound = record { size = l; low = λ x r. let above : j.q * dist_of (ground_in j bytes) x < get_or table x 0 → ⊥ = λ h. none x (r, h) in omega arith };
        reach = way;
      }

  to_accepts : Opened j bytes start table → accepts j bytes start table ≡ Ok tt
  unfolding accepts figures
  to_accepts o =
      let f = floor_of j bytes in
      then_next _ ((places_judges f start (goals j)).done (o.free-start, o.held.benches))
      ∙ then_next _ ((goals_judges j.goals).done o.held.order)
      ∙ then_next _ (naming-done (size f) (λ x. ltb ceiling (get_or table x 0)) 5 (λ x h. le-ltb ceiling (get_or table x 0) (o.fits x h)))
      ∙ sound j bytes start table o.reach (λ x (r, h). omega (arith, o.sound.low x r))

  pub opened : open_job j bytes start table ≡ Ok tt → Opened j bytes start table
  unfolding open_job
  opened e =
      let (z, rest) = then_done (sizes (floor_of j bytes) (length table)) _ e in
      let (s, a) = then_done (settings j) _ rest in
      let h = (sizes_judges (floor_of j bytes) (length table)).gives z in
      from_accepts h.0 h.1 ((settings_judges j).gives s) a

  pub accepted : Opened j bytes start table → open_job j bytes start table ≡ Ok tt
  unfolding open_job
  accepted o =
      then_next _ ((sizes_judges (floor_of j bytes) (length table)).done (o.held.sized, o.long))
      ∙ then_next _ ((settings_judges j).done o.held.settings) ∙ to_accepts o

  module _ (path : List ℕ) where
    pub ready : open_trial j bytes start table path ≡ Ok tt → Ready j bytes start table path
    unfolding open_trial
    ready e =
        let f = floor_of j bytes in
        let (z, rest) = then_done (sizes f (length table)) _ e in
        let (r, more) = then_done (path_room f (length path)) _ rest in
        let (s, a) = then_done (settings j) _ more in
        let h = (sizes_judges f (length table)).gives z in
        record { opened = from_accepts h.0 h.1 ((settings_judges j).gives s) a; room = (path_judges f (length path)).gives r }

    pub accepted-trial : Ready j bytes start table path → open_trial j bytes start table path ≡ Ok tt
    unfolding open_trial
    accepted-trial o =
        let f = floor_of j bytes in
        then_next _ ((sizes_judges f (length table)).done (o.opened.held.sized, o.opened.long))
        ∙ then_next _ ((path_judges f (length path)).done o.room)
        ∙ then_next _ ((settings_judges j).done o.opened.held.settings) ∙ to_accepts o.opened

    pub ready-run : (trials records : ℕ) → open_run j bytes start table path trials records ≡ Ok tt → ReadyRun j bytes start table path trials records
    unfolding open_run
    ready-run trials records e =
        let f = floor_of j bytes in
        let (z, rest) = then_done (sizes f (length table)) _ e in
        let (r, more) = then_done (path_room f (length path)) _ rest in
        let (q, yet) = then_done (reports_room trials records) _ more in
        let (s, last) = then_done (settings j) _ yet in
        let (t, a) = then_done (trials_hold trials) _ last in
        let h = (sizes_judges f (length table)).gives z in
        let n = (trials_judges trials).gives t in
        record {
          ready = record { opened = from_accepts h.0 h.1 ((settings_judges j).gives s) a; room = (path_judges f (length path)).gives r };
          some = n.0;
          few = n.1;
          reports = (reports_judges trials records).gives q;
        }
