-- What the program tells is what the model's `aisle` prints: by what the line, the floor text and the opening say.
-- Assumes nothing.
use Prim.Native.Nat.{ℕ, zero, suc, ◌*◌, ◌≤◌}
use mathlib.Core.Path.{◌≡◌, refl, sym, ap, ◌∙◌}
use mathlib.Core.Option.{none, some}
use mathlib.Core.List.{List, ◌∷◌}
use native.Mathlib.Omega.{arith}
use lib.ListN.{length, take, replicate, length-replicate}
use lib.Seq.{take_at, length-take-le}
use Rattle.learning.proofs.Spread.{list_length}
use Rattle.answers.specs.declared.Job.{Job}
use Rattle.answers.specs.declared.Place.TheVariants as P
use Rattle.answers.specs.declared.Refusal.{Refusal}
use Rattle.answers.specs.declared.Settings.{Settings}
use Rattle.answers.specs.Outcomes.{Verdict, FloorRead, read_sizes}
use Rattle.std.specs.Prelude.{Ok, Err, IsErrAnd}
use Rattle.std.proofs.lemmas.Result.{err_from_is_err_and}
use Rattle.answers.proofs.One.{floor_one, same_sizes}
use Rattle.model.specs.Basics.{then}
use Rattle.model.specs.Floor.{size, one_goal, opening, opening_table}
use Rattle.model.specs.Checks.{floor_of, goals, sizes, settings, scale, benches, places, goals_hold}
use Rattle.model.specs.Opening.{accepts, open_job, open_trial, open_table, filled, trials_hold}
use Rattle.model.specs.FloorText.{width_in, height_in, rows_in, cells_of, floor_verdict, floor_from, read_floor}
use Rattle.model.specs.Line.{refusal_line, job_in, read_line, after_line, judge_aisle, printed, aisle}
use Rattle.model.proofs.Accepted.{not_refused, then_next, then_refused, then_done, sizes_judges, path_judges, settings_judges, trials_judges}
use Rattle.model.proofs.Accepted.{scale_judges}
use Rattle.model.proofs.Benches.{AllFree, bench_judges, places_judges, goals_judges, one_in_order}
use Rattle.model.proofs.Cells.{cells-le}
use Rattle.model.proofs.FloorRoundTrip.{read-sized}
use Rattle.model.proofs.Cut.{malformed_is, asked_is, aisle-cut}
use Rattle.floor_text.specs.Reads.{Reads}
use Rattle.opening.specs.Promise.{Fills, line_holds}
use Rattle.notation.specs.declared.print.Printer.{Printer}
use Rattle.notation.specs.Prints.{Prints}
use Rattle.line.proofs.Decimals.{refusal_few}
use Rattle.journey.specs.Telling.{Room, Ended}
use Rattle.journey.proofs.Telling.{ended}
use Rattle.aisle.specs.Answers.{told_of, opened_lines, Readied, Says, Answered}

-- ---- a refusal

pub refused : (r : Refusal) {p p' : Printer} {text : List ℕ} → Room p → text ≡ refusal_line r → Prints p (refusal_line r) p' → Ended p text p'
refused r h e P = rw e (ended P h.size (omega (arith, h.left, P.printed.next, refusal_few r)))

told_as : {p p' : Printer} {text text' : List ℕ} → text ≡ text' → Ended p text p' → Ended p text' p'
told_as e h = rw e at h

-- ---- a job on a floor that is read

module _ (j : Job) (bytes : List ℕ) (start trials : ℕ) (path : List ℕ) (R : Readied j bytes trials) where
  long : length (opening_table (floor_of j bytes) j.q (goals j)) ≡ size (floor_of j bytes)
  unfolding opening_table
  long = list_length (size (floor_of j bytes)) (opening (floor_of j bytes) j.q (goals j))

  sizes-done : (n : ℕ) → n ≡ size (floor_of j bytes) → sizes (floor_of j bytes) n ≡ Ok tt
  sizes-done n e = (sizes_judges (floor_of j bytes) n).done (R.sized, e)

  scale-done : scale j.q ≡ Ok tt
  scale-done = let s = (settings_judges j).gives R.holds in (scale_judges j.q).done (omega (arith, s.light, s.weight), s.fine)

  job_is : open_job j bytes start (opening_table (floor_of j bytes) j.q (goals j)) ≡ accepts j bytes start (opening_table (floor_of j bytes) j.q (goals j))
  unfolding open_job
  job_is = then_next _ (sizes-done _ long) ∙ then_next _ R.holds

  -- a goal is off the floor or blocked: 4
  fill-refuses : {figures : ℕ} {f : Refusal} → figures ≡ size (floor_of j bytes) → open_table (floor_of j bytes) j.q j.goals figures ≡ Err f
      → open_job j bytes start (opening_table (floor_of j bytes) j.q (goals j)) ≡ Err f
  unfolding open_table accepts
  fill-refuses {figures} {f} n e = job_is ∙ then_refused _ (by (benches (floor_of j bytes) (goals j)) refl)
    where
      off : then (benches (floor_of j bytes) (goals j)) (goals_hold j.goals) ≡ Err f
      off = sym (then_next _ (sizes-done figures n) ∙ then_next _ scale-done) ∙ e

      by : (v : Verdict) → benches (floor_of j bytes) (goals j) ≡ v → places (floor_of j bytes) start (goals j) ≡ Err f
      by (Ok _) t = not_refused R.order (sym (then_next _ t) ∙ off)
      by (Err g) t =
          let blocked : AllFree (floor_of j bytes) (goals j) → ⊥ = λ h. not_refused ((bench_judges (floor_of j bytes) (goals j)).done h) t in
          (places_judges (floor_of j bytes) start (goals j)).refused (λ h. blocked h.1)
          ∙ sym ((bench_judges (floor_of j bytes) (goals j)).refused blocked) ∙ t ∙ sym (then_refused _ t) ∙ off

  trial_is : length path ≡ size (floor_of j bytes)
      → open_trial j bytes start (opening_table (floor_of j bytes) j.q (goals j)) path ≡ open_job j bytes start (opening_table (floor_of j bytes) j.q (goals j))
  unfolding open_trial
  trial_is e =
      then_next _ (sizes-done _ long)
      ∙ then_next _ ((path_judges (floor_of j bytes) (length path)).done (omega arith))
      ∙ then_next _ R.holds
      ∙ sym job_is

  module _ {lent after : List ℕ} {v : Verdict} (F : Fills (floor_of j bytes) j.q j.goals lent v after) (n : length lent ≡ size (floor_of j bytes)) where
    pub fill-refused : {f : Refusal} → v ≡ Err f → opened_lines j bytes start trials path ≡ refusal_line f
    fill-refused e = ap (λ u. told_of u j bytes start trials (opening_table (floor_of j bytes) j.q (goals j)) path) (fill-refuses n (sym F.answer.is ∙ e))

    -- the table is the opening one
    pub fill_is : v ≡ Ok tt → after ≡ opening_table (floor_of j bytes) j.q (goals j)
    fill_is e = F.left ∙ ap (λ u. filled u (floor_of j bytes) j.q j.goals lent) (sym F.answer.is ∙ e)

    module _ {w : Verdict} (done : v ≡ Ok tt) (places : length path ≡ size (floor_of j bytes)) (O : w ≡ open_trial j bytes start after path) where
      judged : open_job j bytes start (opening_table (floor_of j bytes) j.q (goals j)) ≡ w
      judged = sym (trial_is places) ∙ ap (λ t. open_trial j bytes start t path) (sym (fill_is done)) ∙ sym O

      pub open-refused : {f : Refusal} → w ≡ Err f → opened_lines j bytes start trials path ≡ refusal_line f
      open-refused e = ap (λ u. told_of u j bytes start trials (opening_table (floor_of j bytes) j.q (goals j)) path) (judged ∙ e)

      pub open_told : {p p' : Printer} → w ≡ Ok tt → Ended p (told_of (Ok tt) j bytes start trials after path) p' → Ended p (opened_lines j bytes start trials path) p'
      open_told e h =
          told_as (ap (λ t. told_of (Ok tt) j bytes start trials t path) (fill_is done) ∙ ap (λ u. told_of u j bytes start trials (opening_table (floor_of j bytes) j.q (goals j)) path)
          (sym (judged ∙ e))) h

-- ---- the settings

pub settings_same : (s : Settings) (w h : ℕ) → settings (job_in s 1 1) ≡ settings (job_in s w h)
unfolding settings
settings_same s w h = refl

pub taken_zeros : (n m : ℕ) → n ≤ m → take {A = ℕ} n (replicate m 0) ≡ replicate n 0
taken_zeros zero m h = refl
taken_zeros (suc n) zero h = absurd (omega arith)
taken_zeros (suc n) (suc m) h = ap (λ l. 0 ∷ l) (taken_zeros n m (omega arith))

-- lists as long as a floor, out of lists for the largest
pub long-part : (n : ℕ) → n ≤ 4096 → length {A = ℕ} (take n (replicate 4096 0)) ≡ n
long-part n h = length-take-le n (replicate 4096 0) (omega (arith, length-replicate {A = ℕ} 4096 0))

pub part-is : (j : Job) (bytes : List ℕ) (start trials n : ℕ) → n ≤ 4096
    → opened_lines j bytes start trials (take n (replicate 4096 0)) ≡ opened_lines j bytes start trials (replicate n 0)
part-is j bytes start trials n few = ap (λ p. opened_lines j bytes start trials p) (taken_zeros n 4096 few)

-- ---- the floor text

-- a floor text that is read
pub record Read (text : List ℕ) (w h : ℕ) (bytes : List ℕ) : Type 0 where
  pub done : floor_verdict text 4096 ≡ Ok tt
  pub width : w ≡ width_in text
  pub height : h ≡ height_in text
  pub wide : 1 ≤ w
  pub narrow : w ≤ 64
  pub high : 1 ≤ h
  pub low : h ≤ 64
  pub few : w * h ≤ 4096
  pub cells : bytes ≡ cells_of (width_in text) (height_in text) (rows_in text)
  pub long : length bytes ≡ w * h

module _ (text buffer after : List ℕ) (r : FloorRead) (room : length buffer ≡ 4096) (h : Reads (read_floor text buffer) r after) where
  answer_is : r ≡ (floor_from (floor_verdict text 4096) text buffer).answer
  unfolding read_floor
  answer_is = floor_one r _ h.answer ∙ ap (λ (n : ℕ). (floor_from (floor_verdict text n) text buffer).answer) room

  after_is : after ≡ (floor_from (floor_verdict text 4096) text buffer).buffer
  unfolding read_floor
  after_is = h.buffer ∙ ap (λ (n : ℕ). (floor_from (floor_verdict text n) text buffer).buffer) room

  read-refuses : (f : Refusal) → r ≡ Err f → floor_verdict text 4096 ≡ Err f
  read-refuses f e = by (floor_verdict text 4096) (sym answer_is ∙ e)
    where
      by : (v : Verdict) → (floor_from v text buffer).answer ≡ Err f → v ≡ Err f
      by (Ok _) z = let y : ◌≡◌ {A = ℕ} 0 1 = cc in absurd (omega arith)
      by (Err g) z = cc

  reads : (w k : ℕ) → r ≡ read_sizes w k → Read text w k (take (w * k) after)
  reads w k e = by (floor_verdict text 4096) refl
    where
      by : (v : Verdict) → floor_verdict text 4096 ≡ v → Read text w k (take (w * k) after)
      by (Err g) z =
          let d : read_sizes w k ≡ Err g = sym e ∙ answer_is ∙ ap (λ v. (floor_from v text buffer).answer) z in
          let y : ◌≡◌ {A = ℕ} 0 1 = cc in absurd (omega arith)
      by (Ok _) z =
          let d = same_sizes (sym e ∙ answer_is ∙ ap (λ v. (floor_from v text buffer).answer) z) in
          let eq-w : w ≡ width_in text = ap (λ s. s.width) d in
          let eq-h : k ≡ height_in text = ap (λ s. s.height) d in
          let sized = read-sized text 4096 z in
          let room-there : width_in text * height_in text ≤ 4096 = cells-le (width_in text) (height_in text) sized.narrow sized.low in
          let same : w * k ≡ width_in text * height_in text = λ i. eq-w i * eq-h i in
          let all : take (w * k) after ≡ cells_of (width_in text) (height_in text) (rows_in text) =
          ap (take (w * k)) (after_is ∙ ap (λ v. (floor_from v text buffer).buffer) z)
          ∙ take_at (cells_of (width_in text) (height_in text) (rows_in text)) _ (w * k) (sized.cells ∙ sym same) in
          record {
            done = z;
            width = eq-w;
            height = eq-h;
            wide = omega (arith, sized.wide);
            narrow = omega (arith, sized.narrow);
            high = omega (arith, sized.high);
            low = omega (arith, sized.low);
            few = omega (arith, same);
            cells = all;
            long = ap length all ∙ sized.cells ∙ sym same;
          }

-- it is read into a cleared list
pub read-refused : (text : List ℕ) {after : List ℕ} {r : FloorRead} {f : Refusal} → Reads (read_floor text (replicate 4096 0)) r after → r ≡ Err f → floor_verdict text 4096 ≡ Err f
read-refused text {after} {r} {f} h e = read-refuses text (replicate 4096 0) after r (length-replicate {A = ℕ} 4096 0) h f e

pub read_done : {text after : List ℕ} {r : FloorRead} {w k : ℕ} → Reads (read_floor text (replicate 4096 0)) r after → r ≡ read_sizes w k → Read text w k (take (w * k) after)
read_done {text} {after} {r} {w} {k} h e = reads text (replicate 4096 0) after r (length-replicate {A = ℕ} 4096 0) h w k e

-- ---- the whole

module _ (s : Settings) (text : List ℕ) where
  line_refused : (f : Refusal) → line_holds s ≡ Err f → judge_aisle s text ≡ Err f
  unfolding judge_aisle
  line_refused f e = by (settings (job_in s 1 1)) refl e
    where
      by : (v : Verdict) → settings (job_in s 1 1) ≡ v → then v (trials_hold s.trials) ≡ Err f → judge_aisle s text ≡ Err f
      by (Err g) z k = then_refused _ (sym (settings_same s (width_in text) (height_in text)) ∙ z) ∙ k
      by (Ok _) z k = then_next _ (sym (settings_same s (width_in text) (height_in text)) ∙ z) ∙ then_refused _ k

  pub line-told : (f : Refusal) → line_holds s ≡ Err f → printed (judge_aisle s text) s text ≡ refusal_line f
  line-told f e = ap (λ u. printed u s text) (line_refused f e)

  module _ (holds : line_holds s ≡ Ok tt) where
    parts : (settings (job_in s (width_in text) (height_in text)) ≡ Ok tt) × (trials_hold s.trials ≡ Ok tt)
    parts = let a = then_done _ _ holds in (sym (settings_same s (width_in text) (height_in text)) ∙ a.0, a.1)

    text_next : judge_aisle s text ≡ then (floor_verdict text 4096) (open_job (job_in s (width_in text) (height_in text)) (cells_of (width_in text) (height_in text) (rows_in text)) s.start
        (opening_table (floor_of (job_in s (width_in text) (height_in text)) (cells_of (width_in text) (height_in text) (rows_in text))) s.q (goals (job_in s (width_in text) (height_in text)))))
    unfolding judge_aisle
    text_next = then_next _ parts.0 ∙ then_next _ parts.1

    pub text-told : (f : Refusal) → floor_verdict text 4096 ≡ Err f → printed (judge_aisle s text) s text ≡ refusal_line f
    text-told f e = ap (λ u. printed u s text) (text_next ∙ then_refused _ e)

    module _ {w k : ℕ} {bytes : List ℕ} (R : Read text w k bytes) where
      pub readied : Readied (job_in s w k) bytes s.trials
      readied =
          let t = (trials_judges s.trials).gives parts.1 in
          record {
            sized = record { wide = R.wide; narrow = R.narrow; high = R.high; low = R.low; cells = R.long };
            holds = sym (settings_same s w k) ∙ (then_done _ _ holds).0;
            order = (goals_judges (one_goal s.goal)).done (one_in_order s.goal);
            some = t.0;
            few = t.1;
          }

      printed_by : (v : Verdict) → printed v s text
          ≡ told_of v (job_in s (width_in text) (height_in text)) (cells_of (width_in text) (height_in text) (rows_in text)) s.start s.trials
          (opening_table (floor_of (job_in s (width_in text) (height_in text)) (cells_of (width_in text) (height_in text) (rows_in text))) s.q (goals (job_in s (width_in text) (height_in text))))
          (replicate (width_in text * height_in text) 0)
      printed_by (Ok _) = refl
      printed_by (Err f) = refl

      pub floor-told : opened_lines (job_in s w k) bytes s.start s.trials (replicate (w * k) 0) ≡ printed (judge_aisle s text) s text
      floor-told =
          (λ i. opened_lines (job_in s (R.width i) (R.height i)) (R.cells i) s.start s.trials (replicate (R.width i * R.height i) 0))
          ∙ sym (printed_by (open_job (job_in s (width_in text) (height_in text)) (cells_of (width_in text) (height_in text) (rows_in text)) s.start
          (opening_table (floor_of (job_in s (width_in text) (height_in text)) (cells_of (width_in text) (height_in text) (rows_in text))) s.q (goals (job_in s (width_in text) (height_in text))))))
          ∙ ap (λ u. printed u s text) (sym (text_next ∙ then_next _ R.done))

-- ---- the input

-- the bytes that are read decide
pub answered : {read : List ℕ} {p p' : Printer} → Ended p (aisle read) p' → Answered read p p'
answered h = record { read = h; whole = λ input e. told_as (ap aisle (sym e) ∙ aisle-cut 8192 input (omega arith)) h }

pub malformed : (input : List ℕ) → read_line input ≡ none → aisle input ≡ refusal_line (record { number = 3; place = P.Nowhere })
malformed input e = malformed_is input e

pub asks : (input : List ℕ) (s : Settings) (text : List ℕ) → read_line input ≡ some s → text ≡ after_line input → aisle input ≡ printed (judge_aisle s text) s text
asks input s text e f = asked_is input s e ∙ ap (λ t. printed (judge_aisle s t) s t) (sym f)

-- what is said of a text is said of the text that it is
pub says_as : {text text' : List ℕ} (r : Verdict) (p p' : Printer) → text ≡ text' → Says text r p p' → Says text' r p p'
says_as (Ok _) p p' e h = told_as e h
says_as (Err f) p p' e h = (sym e ∙ h.0, h.1)

-- the exit of a `?`: nothing is told yet
pub says_exit : {text : List ℕ} (r : Verdict) (f : Refusal) (p : Printer) → IsErrAnd r (λ q. q ≡ f) → text ≡ refusal_line f → Says text r p p
says_exit {text} r f p h e =
    let (q, is, same) = err_from_is_err_and r h in
    let told : Says text (Err q) p p = (e ∙ ap refusal_line (sym same), refl) in
    rw is told
