-- Laws of the table file: what each check asks, as a record that it is equal to; and one step of reading and of writing.
-- The code cites them, and the round trip.
use mathlib.Core.Path.{◌≡◌, refl, sym, ◌∙◌, ap, subst}
use mathlib.Core.Bool.{Bool, true, false, not}
use mathlib.Core.List.{List, [], ◌∷◌}
use mathlib.Core.Logic.{◌⊎◌, inl, inr, ⊎_elim}
use Prim.Native.Nat.{ℕ, zero, suc, ◌+◌, ◌-◌, ◌*◌, ◌≤◌, ◌<◌}
use native.Mathlib.Omega.{arith}
use lib.Dec.{leb, ltb, eqb}
use borrow.Author.Tests.{leb-true, ltb-true, ltb-false, leb-false, le-leb, lt-leb, lt-ltb, le-ltb, eq-eqb, ne_eqb}
use lib.ListN.{length, get_or, take, drop, length-append, length-drop}
use lib.Seq.{length-take-le}
use Rattle.answers.specs.declared.Goals.{Goals}
use Rattle.answers.specs.declared.Place.TheVariants as P
use Rattle.std.specs.Prelude.{Ok}
use Rattle.model.specs.Basics.{choose, refuse_at, unless, naming}
use Rattle.model.specs.Floor.{Floor, Sized, size, free, opening, goals_of}
use Rattle.model.specs.Checks.{most_goals, ceiling, figures, Benched}
use Rattle.model.specs.Opening.{open_table}
use Rattle.model.specs.TableFile.{half_at, first_long, second_long, trailer, ending, scale_in, edition_in, count_in, back_in, is_letters, holds_as, check_first, second_holds, trailer_holds}
use Rattle.model.specs.TableFile.{check_trailer, check_ahead}
use Rattle.model.specs.TableFile.{find_records, goal_place, first_names, places_named, second_names, same_job, cell_in, figure_in, record_fault, judge_records, changed}
use Rattle.model.specs.TableFile.{read_verdict, records_of, trailer_of, file_of, unlike, write_verdict}
use Rattle.model.specs.Writing.{file_room}
use Rattle.model.proofs.Accepted.{then_done, Tells, Judges, le_tells, eq_tells, is_tells, and_tells, or_tells, told, unless_judges, sizes_judges, scale_judges}
use Rattle.model.proofs.Lists.{every_tells}
use Rattle.model.proofs.Benches.{bench_judges, InOrder, goals_judges, benched}

unless-done : (b : Bool) (number : ℕ) → unless b number ≡ Ok tt → b ≡ true
unless-done true number e = refl
unless-done false number e = let z : ◌≡◌ {A = ℕ} 0 1 = cc in absurd (omega arith)

-- ---- 1, 3, 4 and 27, what an opened table's job is known to meet

pub record Openable (f : Floor) (q : ℕ) (g : Goals) (n : ℕ) : Type 0 where
  pub sized : Sized f
  pub scale : q ≤ 16
  pub order : InOrder g
  pub benches : Benched (size f) (goals_of g)
  pub cells : n ≡ size f

pub openable : (f : Floor) (q : ℕ) (g : Goals) (n : ℕ) → open_table f q g n ≡ Ok tt → Openable f q g n
unfolding open_table
openable f q g n e =
    let (one, after_one) = then_done _ _ e in
    let (three, after-three) = then_done _ _ after_one in
    let (four, last) = then_done _ _ after-three in
    let s = (sizes_judges f n).gives one in
    let o = (goals_judges g).gives last in
    record { sized = s.0; scale = ((scale_judges q).gives three).1; order = o; benches = benched f g ((bench_judges f (goals_of g)).gives four) o; cells = s.1 }

-- ---- 13, the trailer

-- of an edition whose trailer is so long
pub record Trailer (edition long : ℕ) (file : List ℕ) : Type 0 where
  pub room : long ≤ length file
  pub letters : is_letters (ending file) ≡ true
  pub edition_is : edition_in file ≡ edition
  pub even : back_in file ≡ long + 6 * count_in file
  pub within : back_in file ≤ length file

-- edition 2 with its zero byte; and either edition
abbrev pub Second : List ℕ → Type 0
Second file = Trailer 2 second_long file × (get_or (trailer second_long file) 3 0 ≡ 0)

abbrev pub Ended : List ℕ → Type 0
Ended file = Trailer 1 first_long file ⊎ Second file

pub second_ended : (file : List ℕ) → Second file → Ended file
second_ended file s = inr s

module _ (file : List ℕ) where
  pub holds_tells : (edition long : ℕ) → Tells (holds_as edition long file) (Trailer edition long file)
  unfolding holds_as
  holds_tells edition long =
      told
      (and_tells
      (and_tells (and_tells (and_tells (le_tells long (length file)) (is_tells (is_letters (ending file)))) (eq_tells (edition_in file) edition)) (eq_tells (back_in file) (long + 6 * count_in file)))
      (le_tells (back_in file) (length file)))
      (λ h. record { room = h.0.0.0.0; letters = h.0.0.0.1; edition_is = h.0.0.1; even = h.0.1; within = h.1 })
      (λ t. ((((t.room, t.letters), t.edition_is), t.even), t.within))

  pub second_tells : Tells (second_holds file) (Second file)
  unfolding second_holds
  second_tells = and_tells (holds_tells 2 second_long) (eq_tells (get_or (trailer second_long file) 3 0) 0)

  pub trailer_tells : Tells (trailer_holds file) (Ended file)
  unfolding trailer_holds
  trailer_tells = or_tells (holds_tells 1 first_long) second_tells

  pub trailer_judges : Judges (check_trailer file) 13 (Ended file)
  unfolding check_trailer
  trailer_judges = unless_judges _ 13 trailer_tells

  -- 28, whatever the edition: the file begins with its first record
  pub ahead_judges : Judges (check_ahead file) 28 (length file ≤ back_in file)
  unfolding check_ahead
  ahead_judges = unless_judges _ 28 (le_tells (length file) (back_in file))

  -- "An edition 1 reader answers 13 to an edition 2 file."
  pub edition_1_refuses_edition_2 : second_holds file ≡ true → check_first file ≡ refuse_at 13 P.Nowhere
  unfolding check_first
  edition_1_refuses_edition_2 e =
      (unless_judges _ 13 (holds_tells 1 first_long)).refused (λ t. let two = (second_tells.holds e).0.edition_is in omega (arith, t.edition_is, two))

  -- a trailer of either edition has room for its last 12 bytes, and points no further back than the file's start, at its records
  pub record Pointed : Type 0 where
    pub room : first_long ≤ length file
    pub within : back_in file ≤ length file
    pub records : 6 * count_in file ≤ back_in file

  pub pointed : Ended file → Pointed
  pointed (inl t) = record { room = t.room; within = t.within; records = omega (arith, t.even) }
  pointed (inr (t, z)) = record { room = omega (arith, t.room); within = t.within; records = omega (arith, t.even) }

  -- the records that a sound trailer points to
  pub found : Ended file → find_records file ≡ take (6 * count_in file) (drop (length file - back_in file) file)
  unfolding find_records
  found t = rw (trailer_tells.shown t)

  pub found-long : Ended file → length (find_records file) ≡ 6 * count_in file
  found-long t =
      let h = pointed t in
      let d : length (drop (length file - back_in file) file) ≡ length file - (length file - back_in file) = length-drop (length file - back_in file) file in
      ap length (found t) ∙ length-take-le (6 * count_in file) (drop (length file - back_in file) file) (omega (arith, h.records, h.within))

  pub found_none : trailer_holds file ≡ false → find_records file ≡ []
  unfolding find_records
  found_none e = rw e

-- ---- 14, this job's

-- what a trailer names, by its edition
pub record FirstSame (f : Floor) (gs t : List ℕ) : Type 0 where
  pub width : get_or t 0 0 ≡ f.width
  pub height : get_or t 1 0 ≡ f.height
  pub goal : half_at t 2 ≡ get_or gs 0 0
  pub alone : length gs ≡ 1

pub record SecondSame (f : Floor) (gs t : List ℕ) : Type 0 where
  pub width : get_or t 0 0 ≡ f.width
  pub height : get_or t 1 0 ≡ f.height
  pub count : get_or t 2 0 ≡ length gs
  pub places : (i : ℕ) → i < most_goals → half_at t (4 + 2 * i) ≡ goal_place gs i

-- the four goal places
pub places-named : (gs t : List ℕ) → Tells (places_named gs t) ((i : ℕ) → i < most_goals → half_at t (4 + 2 * i) ≡ goal_place gs i)
unfolding places_named
places-named gs t =
    told (every_tells _ (λ i. eq_tells (half_at t (4 + 2 * i)) (goal_place gs i)) (0 ∷ 1 ∷ 2 ∷ 3 ∷ []))
    (λ h i l. subst (λ k. half_at t (4 + 2 * k) ≡ goal_place gs k) (counted i l) (h i l))
    (λ h i l. subst (λ k. half_at t (4 + 2 * k) ≡ goal_place gs k) (sym (counted i l)) (h i l))
  where
    counted : (i : ℕ) → i < most_goals → get_or (0 ∷ 1 ∷ 2 ∷ 3 ∷ []) i 0 ≡ i
    counted zero h = refl
    counted (suc zero) h = refl
    counted (suc (suc zero)) h = refl
    counted (suc (suc (suc zero))) h = refl
    counted (suc (suc (suc (suc i)))) h = absurd (omega arith)

module _ (f : Floor) (gs t : List ℕ) where
  pub first_names_lem : Tells (first_names f gs t) (FirstSame f gs t)
  unfolding first_names
  first_names_lem =
      told (and_tells (and_tells (and_tells (eq_tells (get_or t 0 0) f.width) (eq_tells (get_or t 1 0) f.height)) (eq_tells (half_at t 2) (get_or gs 0 0))) (eq_tells (length gs) 1))
      (λ h. record { width = h.0.0.0; height = h.0.0.1; goal = h.0.1; alone = h.1 }) (λ s. (((s.width, s.height), s.goal), s.alone))

  pub second-names : Tells (second_names f gs t) (SecondSame f gs t)
  unfolding second_names
  second-names =
      told (and_tells (and_tells (and_tells (eq_tells (get_or t 0 0) f.width) (eq_tells (get_or t 1 0) f.height)) (eq_tells (get_or t 2 0) (length gs))) (places-named gs t))
      (λ h. record { width = h.0.0.0; height = h.0.0.1; count = h.0.1; places = h.1 }) (λ s. (((s.width, s.height), s.count), s.places))

-- the trailer's job is this one
abbrev pub Names : Floor → List ℕ → List ℕ → Bool → Type 0
Names f gs file true = FirstSame f gs (trailer first_long file)
Names f gs file false = SecondSame f gs (trailer second_long file)

abbrev pub Same : Floor → ℕ → List ℕ → List ℕ → Type 0
Same f q gs file = Names f gs file (eqb (edition_in file) 1) × (scale_in file ≡ q)

pub same_judges : (f : Floor) (q : ℕ) (gs file : List ℕ) → Judges (same_job f q gs file) 14 (Same f q gs file)
unfolding same_job
same_judges f q gs file = unless_judges _ 14 (and_tells (by (eqb (edition_in file) 1)) (eq_tells (scale_in file) q))
  where
    by : (b : Bool) → Tells (choose b (first_names f gs (trailer first_long file)) (second_names f gs (trailer second_long file))) (Names f gs file b)
    by true = first_names_lem f gs (trailer first_long file)
    by false = second-names f gs (trailer second_long file)

-- ---- 18 to 22, a record

-- a record that is lawful after the cells below low
pub record Lawful (f : Floor) (q : ℕ) (gs : List ℕ) (low : ℕ) (part : List ℕ) : Type 0 where
  pub inside : cell_in part < size f
  pub open-cell : free f (cell_in part) ≡ true
  pub rising : low ≤ cell_in part
  pub above : opening f q gs (cell_in part) < figure_in part
  pub within : figure_in part ≤ ceiling

-- and one that is not, by the number of its first fault: "cell off the floor; cell blocked; cell not above the one before; figure not above opening; figure above the ceiling".
-- It has that fault and none of those listed before it
pub data Faulty (f : Floor) (q : ℕ) (gs : List ℕ) (low : ℕ) (part : List ℕ) : (number : ℕ) → Type 0 where
  off_the_floor : size f ≤ cell_in part → Faulty f q gs low part 18
  blocked : cell_in part < size f → free f (cell_in part) ≡ false → Faulty f q gs low part 19
  not_above_before : cell_in part < size f → free f (cell_in part) ≡ true → cell_in part < low → Faulty f q gs low part 20
  not_above_opening : cell_in part < size f → free f (cell_in part) ≡ true → low ≤ cell_in part → figure_in part ≤ opening f q gs (cell_in part) → Faulty f q gs low part 21
  above-ceiling : cell_in part < size f → free f (cell_in part) ≡ true → low ≤ cell_in part → opening f q gs (cell_in part) < figure_in part → ceiling < figure_in part
      → Faulty f q gs low part 22

module _ (f : Floor) (q : ℕ) (gs : List ℕ) (low : ℕ) (part : List ℕ) where
  pub no_fault : Lawful f q gs low part → record_fault f q gs low part ≡ 0
  unfolding record_fault
  no_fault l =
      simp (
        lt-leb (size f) (cell_in part) l.inside,
        l.open-cell,
        le-ltb (cell_in part) low l.rising,
        lt-leb (figure_in part) (opening f q gs (cell_in part)) l.above,
        le-ltb ceiling
            (figure_in part) l.within,
      )

  pub faulty_is : {k : ℕ} → Faulty f q gs low part k → record_fault f q gs low part ≡ k
  unfolding record_fault
  faulty_is (off_the_floor h) = simp (le-leb (size f) (cell_in part) h)
  faulty_is (blocked i h) = simp (lt-leb (size f) (cell_in part) i, h)
  faulty_is (not_above_before i o h) = simp (lt-leb (size f) (cell_in part) i, o, lt-ltb (cell_in part) low h)
  faulty_is (not_above_opening i o r h) =
      simp (lt-leb (size f) (cell_in part) i, o, le-ltb (cell_in part) low r, le-leb (figure_in part) (opening f q gs (cell_in part)) h)
  faulty_is (above-ceiling i o r a h) =
      simp (
        lt-leb (size f) (cell_in part) i,
        o,
        le-ltb (cell_in part) low r,
        lt-leb (figure_in part) (opening f q gs (cell_in part)) a,
        lt-ltb ceiling (figure_in part) h,
      )

  pub faulty_numbers : {k : ℕ} → Faulty f q gs low part k → 18 ≤ k
  faulty_numbers (off_the_floor h) = omega arith
  faulty_numbers (blocked i h) = omega arith
  faulty_numbers (not_above_before i o h) = omega arith
  faulty_numbers (not_above_opening i o r h) = omega arith
  faulty_numbers (above-ceiling i o r a h) = omega arith

  -- it is the one or the other
  pub judged : Lawful f q gs low part ⊎ Faulty f q gs low part (record_fault f q gs low part)
  unfolding record_fault
  judged = by _ refl _ refl _ refl _ refl _ refl
    where
      c : ℕ
      c = cell_in part

      v : ℕ
      v = figure_in part

      by : (t₁ : Bool) → leb (size f) c ≡ t₁ → (t₂ : Bool) → free f c ≡ t₂ → (t₃ : Bool) → ltb c low ≡ t₃ → (t₄ : Bool) → leb v (opening f q gs c) ≡ t₄ → (t₅ : Bool) → ltb ceiling v ≡ t₅
          → Lawful f q gs low part ⊎ Faulty f q gs low part (choose {A = ℕ} t₁ 18 (choose (not t₂) 19 (choose t₃ 20 (choose t₄ 21 (choose t₅ 22 0)))))
      by true e₁ t₂ e₂ t₃ e₃ t₄ e₄ t₅ e₅ = inr (off_the_floor (leb-true _ _ e₁))
      by false e₁ false e₂ t₃ e₃ t₄ e₄ t₅ e₅ = inr (blocked (leb-false _ _ e₁) e₂)
      by false e₁ true e₂ true e₃ t₄ e₄ t₅ e₅ = inr (not_above_before (leb-false _ _ e₁) e₂ (ltb-true _ _ e₃))
      by false e₁ true e₂ false e₃ true e₄ t₅ e₅ = inr (not_above_opening (leb-false _ _ e₁) e₂ (ltb-false _ _ e₃) (leb-true _ _ e₄))
      by false e₁ true e₂ false e₃ false e₄ true e₅ = inr (above-ceiling (leb-false _ _ e₁) e₂ (ltb-false _ _ e₃) (leb-false _ _ e₄) (ltb-true _ _ e₅))
      by false e₁ true e₂ false e₃ false e₄ false e₅ =
          inl (record { inside = leb-false _ _ e₁; open-cell = e₂; rising = ltb-false _ _ e₃; above = leb-false _ _ e₄; within = ltb-false _ _ e₅ })

  pub lawful : record_fault f q gs low part ≡ 0 → Lawful f q gs low part
  lawful e = ⊎_elim (λ l. l) (λ h. absurd (omega (arith, e, faulty_numbers h))) judged

  pub judge_more : (n i : ℕ) → record_fault f q gs low part ≡ 0 → judge_records f q gs (suc n) i low part ≡ judge_records f q gs n (suc i) (suc (cell_in part)) (drop 6 part)
  unfolding judge_records
  judge_more n i e = rw (judge_records, e)

  pub judge-stop : (n i k : ℕ) → record_fault f q gs low part ≡ k → (k ≡ 0 → ⊥) → judge_records f q gs (suc n) i low part ≡ refuse_at k (P.Record i)
  unfolding judge_records
  judge-stop n i k e h = rw (judge_records, ne_eqb (record_fault f q gs low part) 0 (λ z. h (sym e ∙ z))) (ap (λ (j : ℕ). refuse_at j (P.Record i)) e)

-- ---- writing

module _ (f : Floor) (q : ℕ) (gs table : List ℕ) where
  -- one cell more: it differs from the opening figure, or it does not
  pub changed_same : (n x : ℕ) → get_or table x 0 ≡ opening f q gs x → changed f q gs table (suc n) x ≡ changed f q gs table n (suc x)
  unfolding changed
  changed_same n x e = simp (eq-eqb (get_or table x 0) (opening f q gs x) e)

  pub changed_more : (n x : ℕ) → (get_or table x 0 ≡ opening f q gs x → ⊥) → changed f q gs table (suc n) x ≡ x ∷ changed f q gs table n (suc x)
  unfolding changed
  changed_more n x e = simp (ne_eqb (get_or table x 0) (opening f q gs x) e)

  pub changed_few : (n x : ℕ) → length (changed f q gs table n x) ≤ n
  unfolding changed
  changed_few zero x = omega arith
  changed_few (suc n) x = by (eqb (get_or table x 0) (opening f q gs x)) (changed_few n (suc x))
    where
      by : (b : Bool) → length (changed f q gs table n (suc x)) ≤ n → length (choose b (changed f q gs table n (suc x)) (x ∷ changed f q gs table n (suc x))) ≤ suc n
      by true h = omega arith
      by false h = omega arith

pub length-records : (table cells : List ℕ) → length (records_of table cells) ≡ 6 * length cells
unfolding records_of
length-records table [] = omega arith
length-records table (x ∷ xs) = let h = length-records table xs in omega arith

pub length-trailer : (f : Floor) (q : ℕ) (gs : List ℕ) (count : ℕ) → length (trailer_of f q gs count) ≡ second_long
unfolding trailer_of
length-trailer f q gs count = refl

pub length-file : (f : Floor) (q : ℕ) (gs table : List ℕ) → length (file_of f q gs table) ≡ second_long + 6 * length (changed f q gs table (size f) 0)
unfolding file_of
length-file f q gs table =
    let cells = changed f q gs table (size f) 0 in
    length-append (records_of table cells) (trailer_of f q gs (length cells)) ∙ omega (arith, length-records table cells, length-trailer f q gs (length cells))

-- ---- the calls' verdicts

-- what an accepted table met, but for 28; and 28
pub record Readable (f : Floor) (q : ℕ) (g : Goals) (file : List ℕ) (n : ℕ) : Type 0 where
  pub opens : open_table f q g n ≡ Ok tt
  pub checked : check_trailer file ≡ Ok tt
  pub same : same_job f q (goals_of g) file ≡ Ok tt
  pub records : judge_records f q (goals_of g) (count_in file) 0 0 (find_records file) ≡ Ok tt

pub read-gives : (f : Floor) (q : ℕ) (g : Goals) (file : List ℕ) (n : ℕ) → read_verdict f q g file n ≡ Ok tt → Readable f q g file n × (length file ≤ back_in file)
unfolding read_verdict
read-gives f q g file n e =
    let a = then_done _ _ e in
    let b = then_done _ _ a.1 in
    let c = then_done _ _ b.1 in
    let d = then_done _ _ c.1 in
    (record { opens = a.0; checked = b.0; same = d.0; records = d.1 }, (ahead_judges file).gives c.0)

pub write-gives : (f : Floor) (q : ℕ) (g : Goals) (table : List ℕ) (room : ℕ) → write_verdict f q g table room ≡ Ok tt
    → (open_table f q g (length table) ≡ Ok tt) × (figures f table ≡ Ok tt) × (naming (size f) (unlike f q (goals_of g) table) 16 ≡ Ok tt)
    × (length (file_of f q (goals_of g) table) ≤ room)
unfolding write_verdict file_room
write-gives f q g table room e =
    let a = then_done _ _ e in
    let b = then_done _ _ a.1 in
    let c = then_done _ _ b.1 in
    (a.0, b.0, c.0, leb-true (length (file_of f q (goals_of g) table)) room (unless-done _ 17 c.1))
