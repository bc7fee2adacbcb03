-- What the reader's tests tell, of the trailer and of the job that it names; and where its loops stand: what is left to judge, or to put, answers like the whole.
use mathlib.Core.Path.{◌≡◌, refl, sym, ◌∙◌, ap}
use mathlib.Core.Bool.{true}
use mathlib.Core.Logic.{⊎_elim}
use mathlib.Core.List.{List, [], ◌∷◌, ◌++◌}
use Prim.Native.Nat.{ℕ, zero, suc, ◌+◌, ◌-◌, ◌*◌, ◌/◌, ◌≤◌, ◌<◌}
use native.Mathlib.Numerals.{add-one}
use native.Mathlib.Omega.{arith}
use lib.ListN.{length, get_or, take, drop, set, length-append}
use lib.Seq.{drop_at}
use Rattle.std.proofs.lemmas.List.{get_or_append_left}
use Rattle.answers.specs.declared.Goals.{Goals}
use Rattle.answers.specs.declared.Place.TheVariants as P
use Rattle.answers.specs.Outcomes.{Verdict}
use Rattle.answers.specs.declared.Refusal.{Refusal}
use Rattle.std.specs.Prelude.{Ok, Err}
use Rattle.model.specs.Basics.{refuse_at}
use Rattle.model.specs.Floor.{Floor, size, goals_of, opening_table}
use Rattle.model.specs.TableFile.{half_at, second_long, edition_in, count_in, back_in, trailer_holds, check_trailer, find_records, goal_place}
use Rattle.model.specs.TableFile.{scale_in, cell_in, figure_in, named, same_job, record_fault, judge_records, applied, read_verdict, read_table}
use Rattle.model.specs.Opening.{open_table}
use Rattle.model.proofs.Accepted.{Judges, unless_judges, and_tells, is_tells, eq_tells}
use Rattle.model.proofs.Files.{openable, read-gives, judge_more, judge-stop, trailer_tells, trailer_judges, Pointed, pointed, found, found-long}
use Rattle.table_file.specs.Promises.{Opened, Reads}

-- ---- what an opened table gives

pub opened : (f : Floor) (q : ℕ) (g : Goals) (n : ℕ) → open_table f q g n ≡ Ok tt → Opened f q (goals_of g) × (n ≡ size f)
opened f q g n e = let o = openable f q g n e in (record { sized = o.sized; scale = o.scale; benches = o.benches }, o.cells)

-- ---- the trailer, and the records that it points to

module _ (file : List ℕ) where
  -- what a sound one gives, and that 13 asks for it
  pub points : trailer_holds file ≡ true → Pointed file
  points e = pointed file ((trailer_tells file).holds e)

  pub ending-room : trailer_holds file ≡ true → 12 ≤ length file
  ending-room e = omega (arith, (points e).room)

  pub checked : check_trailer file ≡ Ok tt → trailer_holds file ≡ true
  checked e = (trailer_tells file).shown ((trailer_judges file).gives e)

  -- what is not of edition 1 has room for a trailer of edition 2
  pub second-room : {n : ℕ} → trailer_holds file ≡ true → n ≡ edition_in file → (n ≡ 1 → ⊥) → second_long ≤ length file
  second-room e d n = ⊎_elim (λ t. absurd (n (d ∙ t.edition_is))) (λ t. t.0.room) ((trailer_tells file).holds e)

  -- the part found begins where the records do
  pub found_part : (b k : ℕ) → b ≡ back_in file → k ≡ count_in file → trailer_holds file ≡ true
      → take (length file - b + 6 * k - (length file - b)) (drop (length file - b) file) ≡ find_records file
  found_part b k d c e =
      let z : length file - b + 6 * k - (length file - b) ≡ 6 * k = omega arith in
      rw (z, d, c) (sym (found file ((trailer_tells file).holds e)))

-- ---- the job that it names

-- what stands at a goal place that is used; and each goal place is this job's
pub place-used : (gs : List ℕ) (i : ℕ) → i < length gs → goal_place gs i ≡ get_or gs i 0
place-used [] i h = absurd (omega arith)
place-used (x ∷ gs) zero h = refl
place-used (x ∷ gs) (suc i) h = place-used gs i (omega arith)

-- ---- the records, one after another: x is the first one, t' what is left after it
module _ (x t' : List ℕ) {t : List ℕ} (e : t ≡ x ++ t') (n : length x ≡ 6) where
  one_more : length t / 6 ≡ suc (length t' / 6)
  one_more = omega (arith, ap length e, length-append x t')

  rest_is : drop 6 t ≡ t'
  rest_is = ap (drop 6) e ∙ drop_at x t' 6 n

  half_is : (i : ℕ) → i + 1 < 6 → half_at t i ≡ half_at x i
  half_is i h = let l : i < length x = omega arith in let m : i + 1 < length x = omega arith in rw (e, get_or_append_left x t' 0 i l, get_or_append_left x t' 0 (i + 1) m)

  cell_is : cell_in t ≡ cell_in x
  cell_is = half_is 0 (omega arith)

  figure_is : figure_in t ≡ figure_in x
  figure_is = rw (half_is 2 (omega arith), half_is 4 (omega arith))

  pub applied_more : (table : List ℕ) {cell figure : ℕ} {next v : List ℕ} → next ≡ set table cell figure → cell ≡ cell_in x → figure ≡ figure_in x → applied (length t / 6) t table ≡ v
      → applied (length t' / 6) t' next ≡ v
  unfolding applied
  applied_more table d c g h =
      let one : applied (length t / 6) t table ≡ applied (length t' / 6) (drop 6 t) (set table (cell_in t) (figure_in t)) = ap (λ (k : ℕ). applied k t table) one_more in
      let two : applied (length t' / 6) (drop 6 t) (set table (cell_in t) (figure_in t)) ≡ applied (length t' / 6) t' (set table (cell_in x) (figure_in x)) = rw (rest_is, cell_is, figure_is) refl in
      rw (d, c, g) (sym (one ∙ two) ∙ h)

  module _ (f : Floor) (q : ℕ) (gs : List ℕ) (low i : ℕ) where
    fault_is : record_fault f q gs low t ≡ record_fault f q gs low x
    unfolding record_fault
    fault_is = rw (cell_is, figure_is) refl

    pub judged_more : {cell : ℕ} {v : Verdict} → record_fault f q gs low x ≡ 0 → cell ≡ cell_in x → judge_records f q gs (length t / 6) i low t ≡ v
        → judge_records f q gs (length t' / 6) (i + 1) (cell + 1) t' ≡ v
    judged_more z c g =
        let one : judge_records f q gs (length t / 6) i low t ≡ judge_records f q gs (suc (length t' / 6)) i low t = ap (λ (k : ℕ). judge_records f q gs k i low t) one_more in
        let two : judge_records f q gs (suc (length t' / 6)) i low t ≡ judge_records f q gs (length t' / 6) (suc i) (suc (cell_in t)) (drop 6 t) = judge_more f q gs low t (length t' / 6) i (fault_is ∙ z) in
        let three : judge_records f q gs (length t' / 6) (suc i) (suc (cell_in t)) (drop 6 t) ≡ judge_records f q gs (length t' / 6) (suc i) (suc (cell_in x)) t' = rw (rest_is, cell_is) refl in
        rw (add-one i, c, add-one (cell_in x)) (sym (one ∙ two ∙ three) ∙ g)

    pub judged_stop : {k : ℕ} {v : Verdict} → record_fault f q gs low x ≡ k → 1 ≤ k → judge_records f q gs (length t / 6) i low t ≡ v → refuse_at k (P.Record i) ≡ v
    judged_stop {k} z c g =
        sym (judge-stop f q gs low t (length t' / 6) i k (fault_is ∙ z) (λ n. omega arith)) ∙ ap (λ (m : ℕ). judge_records f q gs m i low t) (sym one_more) ∙ g

-- less than a record is left
pub judged_all : (f : Floor) (q : ℕ) (gs : List ℕ) (i low : ℕ) (t : List ℕ) {v : Verdict} → length t < 6 → judge_records f q gs (length t / 6) i low t ≡ v → Ok tt ≡ v
unfolding judge_records
judged_all f q gs i low t h g = let n : length t / 6 ≡ 0 = omega arith in rw n at g

pub applied_all : (t table : List ℕ) {v : List ℕ} → length t < 6 → applied (length t / 6) t table ≡ v → table ≡ v
unfolding applied
applied_all t table h g = let n : length t / 6 ≡ 0 = omega arith in rw n at g

-- ---- the answer

pub same_judges : (f : Floor) (q : ℕ) (gs file : List ℕ) → Judges (same_job f q gs file) 14 ((named f gs file ≡ true) × (scale_in file ≡ q))
unfolding same_job
same_judges f q gs file = unless_judges _ 14 (and_tells (is_tells (named f gs file)) (eq_tells (scale_in file) q))

-- the records that are found are as many as the trailer counts
pub records_judged : (f : Floor) (q : ℕ) (gs file : List ℕ) {part : List ℕ} → trailer_holds file ≡ true → part ≡ find_records file
    → judge_records f q gs (length part / 6) 0 0 part ≡ judge_records f q gs (count_in file) 0 0 (find_records file)
records_judged f q gs file held e =
    let n : length (find_records file) / 6 ≡ count_in file = omega (arith, found-long file ((trailer_tells file).holds held)) in
    rw (e, n) refl

module _ (f : Floor) (q : ℕ) (g : Goals) (file table : List ℕ) where
  pub read-refused : {r : Refusal} → read_verdict f q g file (length table) ≡ Err r → Reads (read_verdict f q g file (length table)) (read_table f q g file table) (Err r) table
  unfolding read_table
  read-refused e = rw e (record { answer = refl; table = refl })

  pub read-done : {part after : List ℕ} → read_verdict f q g file (length table) ≡ Ok tt → part ≡ find_records file → after ≡ applied (length part / 6) part (opening_table f q (goals_of g))
      → Reads (read_verdict f q g file (length table)) (read_table f q g file table) (Ok tt) after
  unfolding read_table
  read-done e p a =
      let held = checked file (read-gives f q g file (length table) e).0.checked in
      let n : length (find_records file) / 6 ≡ count_in file = omega (arith, found-long file ((trailer_tells file).holds held)) in
      rw e (record { answer = refl; table = rw (p, n) at a })
