-- The program `aisle`: its line, its defaults, and the lines it prints.
use Rattle.std.specs.Prelude.{ℕ, zero, suc, ◌+◌, ◌-◌, ◌*◌, ◌/◌, ◌%◌, Bool, true, false, ◌&&◌, List, [], ◌∷◌, ◌++◌, map, leb, eqb, length, replicate}
use Rattle.std.proofs.Math.Option.{Option, none, some}
use Rattle.answers.specs.declared.Job.{Job}
use Rattle.answers.specs.declared.Place.{Place}
use Rattle.answers.specs.declared.Place.TheVariants as P
use Rattle.answers.specs.declared.Refusal.{Refusal}
use Rattle.answers.specs.declared.Settings.{Settings}
use Rattle.answers.specs.Outcomes.{Verdict}
use Rattle.std.specs.Prelude.{Ok, Err}
use Rattle.model.specs.Basics.{choose, then}
use Rattle.model.specs.Floor.{one_goal, opening_table}
use Rattle.model.specs.Checks.{floor_of, goals, settings, largest_quota}
use Rattle.model.specs.Opening.{trials_hold, open_job}
use Rattle.model.specs.Ride.{Ride, Course, kept, course_from}
use Rattle.model.specs.FloorText.{LF, is_digit, width_in, height_in, rows_in, floor_verdict, cells_of}

-- The numbers of the line at the front of an input: single spaces, 1 to 7 digits each, LF at the end, zeros in front change nothing.
-- `digits` and `value` are those of the number being read. None where the line is malformed, or has no LF
unfoldable pub numbers_in : (digits value : ℕ) → List ℕ → Option (List ℕ)
numbers_in digits value [] = none
numbers_in digits value (b ∷ bs) =
    elim (eqb b LF) [
      | true ↦ choose (leb 1 digits) (some (value ∷ [])) none
      | false ↦ elim (is_digit b && leb digits 6) [
        | true ↦ numbers_in (suc digits) (10 * value + (b - 48)) bs
        | false ↦ elim (eqb b 32 && leb 1 digits) [ true ↦ elim (numbers_in 0 0 bs) [ none ↦ none | some ns ↦ some (value ∷ ns) ] | false ↦ none ]
      ]
    ]

-- what stands after the line
unfoldable pub after_line : List ℕ → List ℕ
after_line [] = []
after_line (b ∷ bs) = elim (eqb b LF) [ true ↦ bs | false ↦ after_line bs ]

-- `start goal depth p q quota trials`
abbrev pub asked : (start goal depth p q quota trials : ℕ) → Option Settings
asked start goal depth p q quota trials =
    some (record { start = start; goal = goal; depth = depth; p = p; q = q; quota = quota; trials = trials })

-- The line may stop after goal, depth, q or quota; left out they are a default depth, weight 1/1, quota 1,000,000, trials 10.
abbrev pub settings_by : (default : ℕ) → List ℕ → Option Settings
settings_by default [] = none
settings_by default (s ∷ []) = none
settings_by default (s ∷ g ∷ []) = asked s g default 1 1 largest_quota 10
settings_by default (s ∷ g ∷ d ∷ []) = asked s g d 1 1 largest_quota 10
settings_by default (s ∷ g ∷ d ∷ p ∷ []) = none
settings_by default (s ∷ g ∷ d ∷ p ∷ q ∷ []) = asked s g d p q largest_quota 10
settings_by default (s ∷ g ∷ d ∷ p ∷ q ∷ t ∷ []) = asked s g d p q t 10
settings_by default (s ∷ g ∷ d ∷ p ∷ q ∷ t ∷ k ∷ []) = asked s g d p q t k
settings_by default (s ∷ g ∷ d ∷ p ∷ q ∷ t ∷ k ∷ x ∷ xs) = none

unfoldable pub read_line_by : (default : ℕ) → List ℕ → Option Settings
read_line_by default input = elim (numbers_in 0 0 input) [ none ↦ none | some ns ↦ settings_by default ns ]

-- "When `aisle`'s line leaves depth out it is to be 4."
abbrev pub default_depth : ℕ
default_depth = 4

abbrev pub settings_of : List ℕ → Option Settings
settings_of = settings_by default_depth

abbrev pub read_line : List ℕ → Option Settings
read_line = read_line_by default_depth

-- the job that a line and a floor of that width and height make
abbrev pub job_in : Settings → (width height : ℕ) → Job
job_in s width height = record { width = width; height = height; goals = one_goal s.goal; depth = s.depth; p = s.p; q = s.q; quota = s.quota }

-- a number in decimal; 20 digits are enough for any count (`counts_fit` of Rides)
unfoldable pub decimal_in : (most n : ℕ) → List ℕ
decimal_in zero n = []
decimal_in (suc most) n = elim (leb n 9) [ true ↦ (48 + n) ∷ [] | false ↦ decimal_in most (n / 10) ++ (48 + n % 10) ∷ [] ]

abbrev pub decimal : ℕ → List ℕ
decimal n = decimal_in 20 n

-- a field after one space
abbrev pub field : ℕ → List ℕ
field n = 32 ∷ decimal n

-- a trial line: its moves (`-` if none), decisions, learned, kept cost, travel
unfoldable pub moves_field : List ℕ → List ℕ
moves_field [] = 45 ∷ []
moves_field (m ∷ ms) = map (λ x. 48 + x) (m ∷ ms)

unfoldable pub trial_line : Job → List ℕ → Ride → List ℕ
trial_line j bytes r =
    moves_field r.moves ++ (field r.decisions ++ (field r.learned ++ (field (kept j bytes r) ++ (field r.travel ++ (LF ∷ [])))))

unfoldable pub trial_lines : Job → List ℕ → List Ride → List ℕ
trial_lines j bytes [] = []
trial_lines j bytes (r ∷ rs) = trial_line j bytes r ++ trial_lines j bytes rs

-- the last line is `settled` or `unsettled` and the trials made
abbrev pub settled_word : Bool → List ℕ
settled_word true = 115 ∷ 101 ∷ 116 ∷ 116 ∷ 108 ∷ 101 ∷ 100 ∷ []
settled_word false = 117 ∷ 110 ∷ 115 ∷ 101 ∷ 116 ∷ 116 ∷ 108 ∷ 101 ∷ 100 ∷ []

unfoldable pub course_lines : Job → List ℕ → Course → List ℕ
course_lines j bytes c = trial_lines j bytes c.rides ++ (settled_word c.settled ++ (field (length c.rides) ++ (LF ∷ [])))

-- a refusal prints only one line: `refused`, its number and any place
abbrev pub place_field : Place → List ℕ
place_field P.Nowhere = []
place_field (P.Cell x) = field x
place_field (P.Line x) = field x
place_field (P.Record x) = field x

unfoldable pub refusal_line : Refusal → List ℕ
refusal_line r = 114 ∷ 101 ∷ 102 ∷ 117 ∷ 115 ∷ 101 ∷ 100 ∷ (field r.number ++ (place_field r.place ++ (LF ∷ [])))

-- `aisle` judges its line with its settings, then the floor text, then the rest; its table is the opening one. Its buffer has the 4,096 places of
-- the largest floor, so 2 is never answered
unfoldable pub judge_aisle : Settings → (text : List ℕ) → Verdict
judge_aisle s text =
    let j = job_in s (width_in text) (height_in text) in
    let bytes = cells_of (width_in text) (height_in text) (rows_in text) in
    then (settings j)
    (then (trials_hold s.trials)
    (then (floor_verdict text 4096)
    (open_job j bytes s.start (opening_table (floor_of j bytes) s.q (goals j)))))

abbrev pub printed : Verdict → Settings → (text : List ℕ) → List ℕ
printed (Err r) s text = refusal_line r
printed (Ok _) s text =
    let j = job_in s (width_in text) (height_in text) in
    let bytes = cells_of (width_in text) (height_in text) (rows_in text) in
    let table = opening_table (floor_of j bytes) s.q (goals j) in
    course_lines j bytes (course_from j bytes s.start s.trials table (replicate (width_in text * height_in text) 0))

-- what `aisle` prints, whole, with a default depth
unfoldable pub aisle_by : (default : ℕ) → List ℕ → List ℕ
aisle_by default input =
    elim (read_line_by default input) [
      | none ↦ refusal_line (record { number = 3; place = P.Nowhere })
      | some s ↦ printed (judge_aisle s (after_line input)) s (after_line input)
    ]

-- and with the one that holds
abbrev pub aisle : List ℕ → List ℕ
aisle = aisle_by default_depth
