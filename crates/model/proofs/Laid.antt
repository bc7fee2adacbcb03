-- A file laid down: records, and behind them the trailer that the writer puts. Read back field by field it holds, points to these records and names this job.
-- The written table and the renewed file are both laid so.
use mathlib.Core.Path.{◌≡◌, sym, ◌∙◌, ap}
use mathlib.Core.List.{List, [], ◌∷◌, ◌++◌}
use Prim.Native.Nat.{ℕ, zero, suc, ◌+◌, ◌-◌, ◌*◌, ◌≤◌, ◌<◌}
use native.Mathlib.Omega.{arith}
use lib.ListN.{length, get_or, take, drop, length-append}
use lib.Seq.{take_at, drop_at, drop-drop}
use Rattle.model.specs.Floor.{Floor}
use Rattle.model.specs.Checks.{most_goals}
use Rattle.model.specs.TableFile.{half_at, word_at, second_long, trailer, ending, scale_in, count_in, back_in, is_letters, goal_place, find_records, trailer_of}
use Rattle.model.proofs.Files.{Second, second_ended, SecondSame, found, length-trailer}
use Rattle.model.proofs.Records.{half-read, word_read}

-- a goal place fits in its two bytes, an unused one too
pub place-small : (gs : List ℕ) → ((i : ℕ) → i < length gs → get_or gs i 0 < 65536) → (i : ℕ) → goal_place gs i < 65536
place-small [] h i = omega arith
place-small (g ∷ gs) h zero = h 0 (omega arith)
place-small (g ∷ gs) h (suc i) = place-small gs (λ k l. h (suc k) (omega arith)) i

-- what such a file is read as
pub record Laid (f : Floor) (q : ℕ) (gs records : List ℕ) (count : ℕ) (file : List ℕ) : Type 0 where
  pub sound : Second file
  -- it begins with its first record
  pub begins : length file ≤ back_in file
  pub counts : count_in file ≡ count
  pub scale : scale_in file ≡ q
  pub names : SecondSame f gs (trailer second_long file)
  pub finds : find_records file ≡ records

module _ (f : Floor) (q : ℕ) (gs records : List ℕ) (count : ℕ) (long : length records ≡ 6 * count) (few : count < 65536) (small : (i : ℕ) → goal_place gs i < 65536) where
  abbrev laid : List ℕ
  laid = records ++ trailer_of f q gs count

  laid-length : length laid ≡ second_long + 6 * count
  laid-length = length-append records (trailer_of f q gs count) ∙ omega (arith, long, length-trailer f q gs count)

  trailer_is : trailer second_long laid ≡ trailer_of f q gs count
  trailer_is = drop_at records (trailer_of f q gs count) (length laid - second_long) (omega (arith, laid-length, long))

  ending_is : ending laid ≡ drop 12 (trailer_of f q gs count)
  ending_is =
      let at : length laid - 12 ≡ length laid - second_long + 12 = omega (arith, laid-length) in
      ap (λ (k : ℕ). drop k laid) at ∙ sym (drop-drop 12 (length laid - second_long) laid) ∙ ap (drop 12) trailer_is

  count_is : count_in laid ≡ count
  unfolding trailer_of
  count_is = ap (λ (t : List ℕ). half_at t 2) ending_is ∙ half-read count few

  back_is : back_in laid ≡ second_long + 6 * count
  unfolding trailer_of
  back_is = ap (λ (t : List ℕ). word_at t 4) ending_is ∙ word_read (second_long + 6 * count) (omega (arith, few))

  scale_is : scale_in laid ≡ q
  unfolding trailer_of
  scale_is = ap (λ (t : List ℕ). get_or t 0 0) ending_is

  sound : Second laid
  unfolding trailer_of
  sound = (
    record {
      room = omega (arith, laid-length);
      letters = ap is_letters ending_is;
      edition_is = ap (λ (t : List ℕ). get_or t 1 0) ending_is;
      even = omega (arith, back_is, count_is);
      within = omega (arith, back_is, laid-length);
    },
    ap (λ (t : List ℕ). get_or t 3 0) trailer_is,
  )

  begins : length laid ≤ back_in laid
  begins = omega (arith, back_is, laid-length)

  names : SecondSame f gs (trailer second_long laid)
  unfolding trailer_of
  names = record {
    width = ap (λ (t : List ℕ). get_or t 0 0) trailer_is;
    height = ap (λ (t : List ℕ). get_or t 1 0) trailer_is;
    count = ap (λ (t : List ℕ). get_or t 2 0) trailer_is;
    places = λ i h. ap (λ (t : List ℕ). half_at t (4 + 2 * i)) trailer_is ∙ at i h;
  }
    where
      at : (i : ℕ) → i < most_goals → half_at (trailer_of f q gs count) (4 + 2 * i) ≡ goal_place gs i
      at zero h = half-read (goal_place gs 0) (small 0)
      at (suc zero) h = half-read (goal_place gs 1) (small 1)
      at (suc (suc zero)) h = half-read (goal_place gs 2) (small 2)
      at (suc (suc (suc zero))) h = half-read (goal_place gs 3) (small 3)
      at (suc (suc (suc (suc i)))) h = absurd (omega arith)

  found_is : find_records laid ≡ records
  found_is =
      let a : length laid - back_in laid ≡ 0 = omega (arith, begins) in
      let b : length records ≡ 6 * count_in laid = omega (arith, count_is, long) in
      found laid (second_ended laid sound) ∙ (ap (λ (k : ℕ). take (6 * count_in laid) (drop k laid)) a ∙ take_at records (trailer_of f q gs count) (6 * count_in laid) b)

  pub laid_down : Laid f q gs records count laid
  laid_down = record { sound = sound; begins = begins; counts = count_is; scale = scale_is; names = names; finds = found_is }
