-- What an answer says fixes the answer: two answers that say the same are the same, so a promise on number and values leaves one answer.
-- Each law reads the answer back from what it says. Assumes nothing.
use Prim.Native.Nat.{ℕ, zero, suc}
use mathlib.Core.Bool.{Bool, true, false}
use mathlib.Core.Path.{◌≡◌, refl, sym, ap, ◌∙◌}
use lib.ListN.{get_or}
use Rattle.answers.specs.declared.Refusal.{Refusal}
use Rattle.answers.specs.declared.Answer.{Answer}
use Rattle.answers.specs.declared.Answer.TheVariants as A
use Rattle.answers.specs.declared.Sizes.{Sizes}
use Rattle.answers.specs.Outcomes.{Verdict, Tried, Ran, FloorRead, Written, made_run, read_sizes}
use Rattle.std.specs.Prelude.{Ok, Err}
use Rattle.answers.specs.Says.{Said, says_answer, says_verdict, says_tried, says_ran, says_floor_read, says_written, flag}

-- what can be read back has one source
one : {X : Type 0} (says : X → Said) (reads : Said → X) → ((x : X) → reads (says x) ≡ x) → (a b : X) → says a ≡ says b → a ≡ b
one says reads back a b e = sym (back a) ∙ ap reads e ∙ back b

-- the refusal and the nth value that are said
refusal : Said → Refusal
refusal s = record { number = s.number; place = s.place }

nth : Said → ℕ → ℕ
nth s i = get_or s.values i 0

answer_as : ℕ → Said → Answer
answer_as zero s = A.Arrived
answer_as (suc zero) s = A.Forward (nth s 0) (nth s 1) (nth s 2)
answer_as (suc (suc zero)) s = A.BackedOut (nth s 0) (nth s 1) (nth s 2)
answer_as (suc (suc (suc zero))) s = A.Stayed (nth s 1)
answer_as (suc (suc (suc (suc k)))) s = A.Refused (refusal s)

answer_back : (a : Answer) → answer_as (says_answer a).kind (says_answer a) ≡ a
unfolding answer_as refusal nth
answer_back A.Arrived = refl
answer_back (A.Forward t a n) = refl
answer_back (A.BackedOut t a n) = refl
answer_back (A.Stayed a) = refl
answer_back (A.Refused r) = refl

pub answer_one : (a b : Answer) → says_answer a ≡ says_answer b → a ≡ b
answer_one = one says_answer (λ s. answer_as s.kind s) answer_back

verdict_as : ℕ → Said → Verdict
verdict_as zero s = Ok tt
verdict_as (suc k) s = Err (refusal s)

verdict-back : (v : Verdict) → verdict_as (says_verdict v).kind (says_verdict v) ≡ v
unfolding verdict_as refusal
verdict-back (Ok _) = refl
verdict-back (Err r) = refl

pub verdict_one : (a b : Verdict) → says_verdict a ≡ says_verdict b → a ≡ b
verdict_one = one says_verdict (λ s. verdict_as s.kind s) verdict-back

tried_as : ℕ → Said → Tried
tried_as zero s = Ok (record { decisions = nth s 0; learned = nth s 1; kept = nth s 2; travel = nth s 3 })
tried_as (suc k) s = Err (refusal s)

tried-back : (t : Tried) → tried_as (says_tried t).kind (says_tried t) ≡ t
unfolding tried_as refusal nth
tried-back (Ok r) = refl
tried-back (Err r) = refl

pub tried_one : (a b : Tried) → says_tried a ≡ says_tried b → a ≡ b
tried_one = one says_tried (λ s. tried_as s.kind s) tried-back

is_one : ℕ → Bool
is_one zero = false
is_one (suc n) = true

ran_as : ℕ → Said → Ran
ran_as zero s = made_run (nth s 0) (is_one (nth s 1))
ran_as (suc k) s = Err (refusal s)

is-one : (b : Bool) → is_one (flag b) ≡ b
unfolding is_one
is-one true = refl
is-one false = refl

ran-back : (r : Ran) → ran_as (says_ran r).kind (says_ran r) ≡ r
unfolding ran_as refusal nth
ran-back (Ok m) = ap (λ b. made_run m.trials b) (is-one m.settled)
ran-back (Err r) = refl

pub ran_one : (a b : Ran) → says_ran a ≡ says_ran b → a ≡ b
ran_one = one says_ran (λ s. ran_as s.kind s) ran-back

floor_as : ℕ → Said → FloorRead
floor_as zero s = read_sizes (nth s 0) (nth s 1)
floor_as (suc k) s = Err (refusal s)

floor-back : (f : FloorRead) → floor_as (says_floor_read f).kind (says_floor_read f) ≡ f
unfolding floor_as refusal nth
floor-back (Ok z) = refl
floor-back (Err r) = refl

pub floor_one : (a b : FloorRead) → says_floor_read a ≡ says_floor_read b → a ≡ b
floor_one = one says_floor_read (λ s. floor_as s.kind s) floor-back

written_as : ℕ → Said → Written
written_as zero s = Ok (nth s 0)
written_as (suc k) s = Err (refusal s)

written_back : (w : Written) → written_as (says_written w).kind (says_written w) ≡ w
unfolding written_as refusal nth
written_back (Ok n) = refl
written_back (Err r) = refl

pub written_one : (a b : Written) → says_written a ≡ says_written b → a ≡ b
written_one = one says_written (λ s. written_as s.kind s) written_back

-- and sizes that are read are the same where the answers are
pub same_sizes : {s t : Sizes} → ◌≡◌ {A = FloorRead} (Ok s) (Ok t) → s ≡ t
same_sizes e = cc
