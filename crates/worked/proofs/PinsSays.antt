-- What each case of each answer says: document 01's number, its place, and its values in document 01's order; a refusal has counts 0.
use mathlib.Core.Path.{◌≡◌, refl}
use mathlib.Core.Bool.{true, false}
use mathlib.Core.List.{[], ◌∷◌, map}
use Rattle.answers.specs.Says.{says_answer, says_verdict, says_tried, says_ran, says_floor_read, says_written}
use Rattle.answers.specs.declared.Place.TheVariants as P
use Rattle.answers.specs.declared.Refusal.{Refusal}
use Rattle.answers.specs.declared.Answer.TheVariants as A
use Rattle.answers.specs.Outcomes.{made_run, read_sizes}
use Rattle.std.specs.Prelude.{Ok, Err}
use Rattle.model.specs.Compute.{compute}

abbrev fault : Refusal
fault = record { number = 7; place = P.Cell 3 }

pub record PinsSays : Type 0 where
  -- arrived, forward, backed out, stayed, or a refusal that holds its number and its cell
  pub answers : map says_answer (A.Arrived ∷ A.Forward 4 5 6 ∷ A.BackedOut 4 5 6 ∷ A.Stayed 5 ∷ A.Refused fault ∷ [])
      ≡ record { number = 0; place = P.Nowhere; kind = 0; values = 0 ∷ 0 ∷ 0 ∷ [] }
      ∷ record { number = 0; place = P.Nowhere; kind = 1; values = 4 ∷ 5 ∷ 6 ∷ [] }
      ∷ record { number = 0; place = P.Nowhere; kind = 2; values = 4 ∷ 5 ∷ 6 ∷ [] }
      ∷ record { number = 0; place = P.Nowhere; kind = 3; values = 0 ∷ 5 ∷ 0 ∷ [] }
      ∷ record { number = 7; place = P.Cell 3; kind = 4; values = 0 ∷ 0 ∷ 0 ∷ [] }
      ∷ []
  -- 0: done
  pub verdicts : map says_verdict (Ok tt ∷ Err fault ∷ [])
      ≡ record { number = 0; place = P.Nowhere; kind = 0; values = [] } ∷ record { number = 7; place = P.Cell 3; kind = 1; values = [] } ∷ []
  -- decisions, learned amount, kept cost, travel
  pub trials : map says_tried (Ok (record { decisions = 1; learned = 2; kept = 3; travel = 4 }) ∷ Err fault ∷ [])
      ≡ record { number = 0; place = P.Nowhere; kind = 0; values = 1 ∷ 2 ∷ 3 ∷ 4 ∷ [] } ∷ record { number = 7; place = P.Cell 3; kind = 1; values = 0 ∷ 0 ∷ 0 ∷ 0 ∷ [] } ∷ []
  -- the trials made, settled or unsettled
  pub runs : map says_ran (made_run 5 true ∷ made_run 5 false ∷ Err fault ∷ [])
      ≡ record { number = 0; place = P.Nowhere; kind = 0; values = 5 ∷ 1 ∷ [] }
      ∷ record { number = 0; place = P.Nowhere; kind = 0; values = 5 ∷ 0 ∷ [] }
      ∷ record { number = 7; place = P.Cell 3; kind = 1; values = 0 ∷ 0 ∷ [] }
      ∷ []
  -- width, then height
  pub floors : map says_floor_read (read_sizes 5 6 ∷ Err fault ∷ [])
      ≡ record { number = 0; place = P.Nowhere; kind = 0; values = 5 ∷ 6 ∷ [] } ∷ record { number = 7; place = P.Cell 3; kind = 1; values = 0 ∷ 0 ∷ [] } ∷ []
  -- the length
  pub files : map says_written (Ok 28 ∷ Err fault ∷ [])
      ≡ record { number = 0; place = P.Nowhere; kind = 0; values = 28 ∷ [] } ∷ record { number = 7; place = P.Cell 3; kind = 1; values = 0 ∷ [] } ∷ []

pub pins_says : PinsSays
unfolding compute
pins_says = record {
  answers = refl;
  verdicts = refl;
  trials = refl;
  runs = refl;
  floors = refl;
  files = refl;
}
