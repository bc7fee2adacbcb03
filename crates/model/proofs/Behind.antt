-- What stands ahead of a file's last table is not looked at: a file without some of its first bytes has the same trailer, records and job, and renews alike, where its last table is left whole.
-- Assumes nothing.
use mathlib.Core.Path.{◌≡◌, refl, sym, ◌∙◌, ap}
use mathlib.Core.Bool.{Bool, true, false, ◌&&◌, ◌||◌}
use mathlib.Core.List.{List, [], ◌∷◌, ◌++◌}
use mathlib.Core.Logic.{inl, inr}
use Prim.Native.Nat.{ℕ, ◌+◌, ◌-◌, ◌*◌, ◌≤◌}
use native.Mathlib.Omega.{arith}
use lib.Dec.{eqb}
use lib.ListN.{length, get_or, take, drop, length-drop}
use Rattle.model.specs.Basics.{choose, at_end, unless}
use Rattle.model.specs.Floor.{Floor}
use Rattle.model.specs.TableFile.{half_at, word_at, is_letters, trailer_of, first_long, second_long, trailer, ending, edition_in, count_in, back_in, holds_as, second_holds, trailer_holds}
use Rattle.model.specs.TableFile.{check_trailer, find_records, first_names, second_names, same_job}
use Rattle.model.specs.Renewal.{renewed_trailer, renewed}
use Rattle.model.proofs.Accepted.{same_told}
use Rattle.model.proofs.Parts.{end_behind}
use Rattle.model.proofs.Files.{Ended, holds_tells, trailer_tells, found, found_none}

-- a file without its first k bytes, where its last table and its trailer are left whole
module _ (file : List ℕ) (k : ℕ) (left : k + (second_long + 6 * count_in file) ≤ length file) where
  abbrev rest : List ℕ
  rest = drop k file

  end_same : (m : ℕ) → m ≤ second_long + 6 * count_in file → at_end m rest ≡ at_end m file
  end_same m h = end_behind m k file (omega (arith, left))

  ending_same : ending rest ≡ ending file
  ending_same = end_same 12 (omega arith)

  pub count_same : count_in rest ≡ count_in file
  count_same = ap (λ (t : List ℕ). half_at t 2) ending_same

  pub back_same : back_in rest ≡ back_in file
  back_same = ap (λ (t : List ℕ). word_at t 4) ending_same

  -- a sound trailer points no further back than to what is left
  far : Ended file → back_in file ≤ second_long + 6 * count_in file
  far (inl t) = omega (arith, t.even)
  far (inr (t, z)) = omega (arith, t.even)

  edition_same : edition_in rest ≡ edition_in file
  edition_same = ap (λ (t : List ℕ). get_or t 1 0) ending_same

  trailer_same : (long : ℕ) → long ≤ second_long → trailer long rest ≡ trailer long file
  trailer_same long h = end_same long (omega arith)

  rest-long : length rest ≡ length file - k
  rest-long = length-drop k file

  holds_same : (edition long : ℕ) → long ≤ second_long → holds_as edition long rest ≡ holds_as edition long file
  holds_same edition long h =
      same_told (holds_tells rest edition long) (holds_tells file edition long)
      (λ t. record {
        room = omega (arith, left);
        letters = sym (ap is_letters ending_same) ∙ t.letters;
        edition_is = sym edition_same ∙ t.edition_is;
        even = sym back_same ∙ (t.even ∙ ap (λ (n : ℕ). long + 6 * n) count_same);
        within = omega (arith, t.within, rest-long, back_same);
      })
      (λ t. record {
        room = omega (arith, left, rest-long);
        letters = ap is_letters ending_same ∙ t.letters;
        edition_is = edition_same ∙ t.edition_is;
        even = back_same ∙ (t.even ∙ ap (λ (n : ℕ). long + 6 * n) (sym count_same));
        within = omega (arith, t.even, rest-long, back_same, left);
      })

  pub second_same : second_holds rest ≡ second_holds file
  unfolding second_holds
  second_same = (λ i. holds_same 2 second_long (omega arith) i && eqb (get_or (trailer_same second_long (omega arith) i) 3 0) 0)

  pub holding_same : trailer_holds rest ≡ trailer_holds file
  unfolding trailer_holds
  holding_same = (λ i. holds_same 1 first_long (omega arith) i || second_same i)

  pub check_same : check_trailer rest ≡ check_trailer file
  unfolding check_trailer
  check_same = ap (λ b. unless b 13) holding_same

  pub records_same : find_records rest ≡ find_records file
  records_same = by (trailer_holds file) refl
    where
      by : (b : Bool) → trailer_holds file ≡ b → find_records rest ≡ find_records file
      by false e = found_none rest (holding_same ∙ e) ∙ sym (found_none file e)
      by true e =
          let t = (trailer_tells file).holds e in
          let u = (trailer_tells rest).holds (holding_same ∙ e) in
          let end : at_end (back_in rest) rest ≡ at_end (back_in file) file = ap (λ (n : ℕ). at_end n rest) back_same ∙ end_same (back_in file) (far t) in
          found rest u ∙ ((λ i. take (6 * count_same i) (end i)) ∙ sym (found file t))

  -- and so it is named and renewed alike
  pub job_same : (f : Floor) (q : ℕ) (gs : List ℕ) → same_job f q gs rest ≡ same_job f q gs file
  unfolding same_job
  job_same f q gs =
      (λ i. unless (choose (eqb (edition_same i) 1) (first_names f gs (trailer_same first_long (omega arith) i)) (second_names f gs (trailer_same second_long (omega arith) i))
      && eqb (get_or (ending_same i) 0 0) q) 14)

  pub renewed_same : renewed rest ≡ renewed file
  unfolding renewed renewed_trailer
  renewed_same =
      let first : trailer first_long rest ≡ trailer first_long file = trailer_same first_long (omega arith) in
      (λ i. records_same i ++ choose (eqb (edition_same i) 1)
      (trailer_of (record { width = get_or (first i) 0 0; height = get_or (first i) 1 0; bytes = [] }) (get_or (ending_same i) 0 0) (half_at (first i) 2 ∷ []) (count_same i))
      (trailer_same second_long (omega arith) i))
