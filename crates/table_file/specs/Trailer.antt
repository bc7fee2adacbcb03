-- The trailer of edition 2 in two parts: what names the job, and what points back. And what the trailer of edition 1 names.
use Rattle.std.specs.Prelude.{ℕ, zero, suc, ◌+◌, ◌*◌, List, [], ◌∷◌, ◌++◌, length, get_or}
use Rattle.model.specs.Floor.{one_goal, goals_of}
use Rattle.model.specs.TableFile.{half_at, half, word, first_long, second_long, trailer, trailer_of, scale_in, goal_place}
use Rattle.floor.specs.Moves.{flat}
use Rattle.table_file.specs.declared.site.Named.{Named}

-- the first n goal places
abbrev pub places_to : List ℕ → (n : ℕ) → List ℕ
places_to gs zero = []
places_to gs (suc n) = places_to gs n ++ half (goal_place gs n)

abbrev pub job_of : Named → List ℕ
job_of m = (m.width ∷ m.height ∷ length (goals_of m.goals) ∷ 0 ∷ []) ++ (places_to (goals_of m.goals) 4 ++ (m.q ∷ 2 ∷ []))

abbrev pub back_of : (count : ℕ) → List ℕ
back_of count = half count ++ (word (second_long + 6 * count) ++ (80 ∷ 68 ∷ 76 ∷ 84 ∷ []))

abbrev pub trailer_at : Named → (count : ℕ) → List ℕ
trailer_at m count = trailer_of (flat m.width m.height []) m.q (goals_of m.goals) count

abbrev pub named_in : List ℕ → Named
named_in file = let t = trailer first_long file in record { width = get_or t 0 0; height = get_or t 1 0; goals = one_goal (half_at t 2); q = scale_in file }
