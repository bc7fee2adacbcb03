-- What a refused record means, both ways: 18 to 22 name the first faulty record of a table file, by the number of its first fault. Assumes nothing.
use Prim.Native.Nat.{ℕ, zero, suc, ◌+◌, ◌*◌, ◌≤◌, ◌<◌}
use mathlib.Core.Path.{◌≡◌, refl, sym, ap, subst, ◌∙◌}
use mathlib.Core.List.{List}
use mathlib.Core.Logic.{⊎_elim}
use native.Mathlib.Omega.{arith}
use native.Mathlib.Decide.{dec_le}
use lib.ListN.{drop}
use lib.Seq.{drop-drop}
use Rattle.answers.specs.declared.Goals.{Goals}
use Rattle.answers.specs.declared.Refusal.{Refusal}
use Rattle.answers.specs.declared.Place.TheVariants as P
use Rattle.answers.specs.Outcomes.{Verdict}
use Rattle.std.specs.Prelude.{Ok, Err}
use Rattle.model.specs.Basics.{refuse_at}
use Rattle.model.specs.Floor.{Floor, size, opening, goals_of}
use Rattle.model.specs.Checks.{ceiling}
use Rattle.model.specs.Opening.{open_table}
use Rattle.model.specs.TableFile.{count_in, check_trailer, check_ahead, find_records, same_job, cell_in, figure_in, judge_records, read_verdict}
use Rattle.model.proofs.Accepted.{not_refused, then_next, sizes_judges, scale_judges}
use Rattle.model.proofs.Benches.{bench_judges, goals_judges}
use Rattle.model.proofs.Refusals.{turn_of, Early, early, early_then, Ends, last, after}
use Rattle.model.proofs.OpeningSound.{opening-within}
use Rattle.model.proofs.Files.{openable, trailer_judges, ahead_judges, same_judges, Lawful, Faulty, no_fault, faulty_is, faulty_numbers, judged, judge_more, judge-stop}

-- ---- document 02's words

-- record i of the records that the reader has found, and one more than the cell of the one before it: 0 at the first
abbrev pub record_at : List ℕ → ℕ → List ℕ
record_at part i = drop (6 * i) part

abbrev pub low_at : List ℕ → ℕ → ℕ
low_at part zero = 0
low_at part (suc j) = suc (cell_in (record_at part j))

-- "The first faulty record is named; where it has several faults the order is as listed": of n records it is record i, and k is the number of its first fault
pub record FirstFault (f : Floor) (q : ℕ) (gs part : List ℕ) (n i k : ℕ) : Type 0 where
  pub one_of : i < n
  -- it has that fault and none of those listed before it
  pub faulty : Faulty f q gs (low_at part i) (record_at part i) k
  -- and no record before it has any
  pub none_earlier : (j : ℕ) → j < i → Lawful f q gs (low_at part j) (record_at part j)

-- ---- the records from record i on, where those before it have no fault

module _ (f : Floor) (q : ℕ) (gs part : List ℕ) where
  abbrev Fine : ℕ → Type 0
  Fine i = Lawful f q gs (low_at part i) (record_at part i)

  abbrev judged_from : (n i : ℕ) → Verdict
  judged_from n i = judge_records f q gs n i (low_at part i) (record_at part i)

  next : (i : ℕ) → drop 6 (record_at part i) ≡ record_at part (suc i)
  next i = let same : 6 * i + 6 ≡ 6 * suc i = omega arith in drop-drop 6 (6 * i) part ∙ ap (λ (k : ℕ). drop k part) same

  goes_on : (n i : ℕ) → Fine i → judged_from (suc n) i ≡ judged_from n (suc i)
  goes_on n i l =
      judge_more f q gs (low_at part i) (record_at part i) n i (no_fault f q gs (low_at part i) (record_at part i) l)
      ∙ ap (judge_records f q gs n (suc i) (low_at part (suc i))) (next i)

  stops : (n i : ℕ) {k : ℕ} → Faulty f q gs (low_at part i) (record_at part i) k → judged_from (suc n) i ≡ refuse_at k (P.Record i)
  stops n i {k} h =
      judge-stop f q gs (low_at part i) (record_at part i) n i k (faulty_is f q gs (low_at part i) (record_at part i) h)
      (λ z. omega (arith, z, faulty_numbers f q gs (low_at part i) (record_at part i) h))

  -- a refusal names the first faulty record
  abbrev Named : Refusal → ℕ → Type 0
  Named r n = (j : ℕ) × (r.place ≡ P.Record j) × FirstFault f q gs part n j r.number

  judged_means : (n i : ℕ) {r : Refusal} → ((j : ℕ) → j < i → Fine j) → judged_from n i ≡ Err r → Named r (i + n)
  unfolding judge_records
  judged_means zero i earlier e = not_refused refl e
  judged_means (suc n) i {r} earlier e =
      ⊎_elim (λ l. let same : suc i + n ≡ i + suc n = omega arith in subst (Named r) same (judged_means n (suc i) (λ j h. with_it l j (dec_le i j) h) (sym (goes_on n i l) ∙ e))) named
      (judged f q gs (low_at part i) (record_at part i))
    where
      with_it : Fine i → (j : ℕ) → Dec (i ≤ j) → j < suc i → Fine j
      with_it l j (yes m) h = let same : i ≡ j = omega arith in subst Fine same l
      with_it l j (no m) h = earlier j (omega (arith, m))

      named : {k : ℕ} → Faulty f q gs (low_at part i) (record_at part i) k → Named r (i + suc n)
      named {k} h =
          let same : Err r ≡ refuse_at k (P.Record i) = sym e ∙ stops n i h in
          let number : r.number ≡ k = cc in
          (i, cc, record { one_of = omega arith; faulty = rw number h; none_earlier = earlier })

  judged_is : (n i j k : ℕ) → i ≤ j → FirstFault f q gs part (i + n) j k → judged_from n i ≡ refuse_at k (P.Record j)
  judged_is zero i j k h first = absurd (omega (arith, first.one_of))
  judged_is (suc n) i j k h first =
      by (dec_le j i) (λ l. let same : i + suc n ≡ suc i + n = omega arith in judged_is n (suc i) j k l (subst (λ m. FirstFault f q gs part m j k) same first))
    where
      by : Dec (j ≤ i) → (suc i ≤ j → judged_from n (suc i) ≡ refuse_at k (P.Record j)) → judged_from (suc n) i ≡ refuse_at k (P.Record j)
      by (yes l) more = let same : j ≡ i = omega arith in subst (λ x. judged_from (suc n) x ≡ refuse_at k (P.Record j)) same (stops n j first.faulty)
      by (no l) more = goes_on n i (first.none_earlier i (omega (arith, l))) ∙ more (omega (arith, l))

-- ---- the reader

module _ (f : Floor) (q : ℕ) (g : Goals) (file : List ℕ) (n : ℕ) where
  abbrev gs : List ℕ
  gs = goals_of g

  -- 1, 3, 4, 27, 13, 28 and 14 come before the records
  opens-early : Early 15 (open_table f q g n)
  unfolding open_table turn_of
  opens-early =
      early_then _ (early (sizes_judges f n) (omega arith))
      (early_then _ (early (scale_judges q) (omega arith)) (early_then _ (early (bench_judges f gs) (omega arith)) (early (goals_judges g) (omega arith))))

  check_early : Early 15 (check_trailer file)
  unfolding turn_of
  check_early = early (trailer_judges file) (omega arith)

  ahead-early : Early 15 (check_ahead file)
  unfolding turn_of
  ahead-early = early (ahead_judges file) (omega arith)

  job-early : Early 15 (same_job f q gs file)
  unfolding turn_of
  job-early = early (same_judges f q gs file) (omega arith)

  ends_with_records : Ends 15 (judge_records f q gs (count_in file) 0 0 (find_records file)) (read_verdict f q g file n)
  unfolding read_verdict
  ends_with_records = after _ opens-early (after _ check_early (after _ ahead-early (after _ job-early (last _))))

  none_ahead : 0 + count_in file ≡ count_in file
  none_ahead = omega arith

  -- A refusal by 15 or a number after it in the order of checks names the first faulty record, by the number of its first fault.
  pub refused_record_means : {r : Refusal} → read_verdict f q g file n ≡ Err r → turn_of 15 ≤ turn_of r.number
      → (i : ℕ) × (r.place ≡ P.Record i) × FirstFault f q gs (find_records file) (count_in file) i r.number
  refused_record_means {r} e h =
      subst (Named f q gs (find_records file) r) none_ahead (judged_means f q gs (find_records file) (count_in file) 0 (λ j l. absurd (omega arith)) (ends_with_records.only h e))

  -- And the other way: a file that 1, 3, 4, 27, 13, 28 and 14 let through is refused for its first faulty record, by the number of its first fault.
  pub faulty_record_is_refused : open_table f q g n ≡ Ok tt → check_trailer file ≡ Ok tt → check_ahead file ≡ Ok tt → same_job f q gs file ≡ Ok tt
      → {i k : ℕ} → FirstFault f q gs (find_records file) (count_in file) i k → read_verdict f q g file n ≡ refuse_at k (P.Record i)
  unfolding read_verdict
  faulty_record_is_refused opened checked whole same {i} {k} first =
      then_next _ opened ∙ then_next _ checked ∙ then_next _ whole ∙ then_next _ same
      ∙ judged_is f q gs (find_records file) (count_in file) 0 i k (omega arith) (subst (λ m. FirstFault f q gs (find_records file) m i k) (sym none_ahead) first)

  -- "15 is no longer answered"
  pub fifteen_is_not_answered : {r : Refusal} → read_verdict f q g file n ≡ Err r → ¬ (r.number ≡ 15)
  fifteen_is_not_answered e h = let (i, p, first) = refused_record_means e (omega (arith, ap turn_of h)) in omega (arith, h, faulty_numbers f q gs _ _ first.faulty)

-- The order of 21 and 22 shows in no record on the floor, since no figure has both faults: the greatest opening figure lies below the ceiling.
pub low_is_not_high : (f : Floor) (q : ℕ) (g : Goals) (n : ℕ) → open_table f q g n ≡ Ok tt → (part : List ℕ) → cell_in part < size f
    → figure_in part ≤ opening f q (goals_of g) (cell_in part) → ¬ (ceiling < figure_in part)
low_is_not_high f q g n e part inside low high =
    let o = openable f q g n e in
    omega (arith, low, high, opening-within f q (goals_of g) (cell_in part) o.sized o.scale o.benches inside)
