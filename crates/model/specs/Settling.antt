-- Document 02 on settling: "trials made one after another", each from the table and the path list that the one before it left.
use Rattle.std.specs.Prelude.{ℕ, zero, suc, List, [], ◌∷◌}
use Rattle.learning.specs.Rounds.{after_rounds, learners}
use Rattle.answers.specs.declared.Job.{Job}
use Rattle.answers.specs.declared.Answer.{Answer}
use Rattle.model.specs.Decision.{act}
use Rattle.model.specs.Ride.{Ride, begun, ride_from, ride}

-- The two lists that a trial is lent.
pub record Lists : Type 0 where
  pub table : List ℕ
  pub path : List ℕ

module _ (j : Job) (bytes : List ℕ) (start : ℕ) where
  -- the trial that is made from the lists lent, the lists that it leaves, and what it learns
  abbrev pub trip_from : Lists → Ride
  trip_from x = ride j bytes start x.table x.path

  abbrev pub leaves : Lists → Lists
  leaves x = record { table = (trip_from x).table; path = (trip_from x).path }

  abbrev pub learns : Lists → ℕ
  learns x = (trip_from x).learned

  -- the lists that n trials leave, and the trial that comes after these n; the first is trip 0
  abbrev pub lists_after : ℕ → Lists → Lists
  lists_after n x = after_rounds leaves n x

  abbrev pub trip : ℕ → Lists → Ride
  trip n x = trip_from (lists_after n x)

  -- the first n trials
  abbrev pub trips : ℕ → Lists → List Ride
  trips zero x = []
  trips (suc n) x = trip_from x ∷ trips n (leaves x)

  -- how many of the first n learn
  abbrev pub trips_that_learn : ℕ → Lists → ℕ
  trips_that_learn n x = learners leaves learns n x

  -- what the decision answers that comes after n others of the trial from these lists
  abbrev pub answer_after : ℕ → Lists → Answer
  answer_after n x = let r = ride_from j bytes n (begun start x.table x.path) in (act j bytes r.state r.table r.path).answer

-- Trips from several starts to the same goals, which share the lists: `starts n` is where the trip begins that comes after n others.
pub record Tour : Type 0 where
  pub lists : Lists
  pub starts : ℕ → ℕ

module _ (j : Job) (bytes : List ℕ) where
  -- the tour after its first trip, what that one learns, and how many of the first n learn
  abbrev pub tour_on : Tour → Tour
  tour_on x = record { lists = leaves j bytes (x.starts 0) x.lists; starts = λ n. x.starts (suc n) }

  abbrev pub first_learns : Tour → ℕ
  first_learns x = learns j bytes (x.starts 0) x.lists

  abbrev pub tour_trips_that_learn : ℕ → Tour → ℕ
  tour_trips_that_learn n x = learners tour_on first_learns n x
