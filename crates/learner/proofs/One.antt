-- "Every public call promises enough that its number, counts, state and each lent list afterwards have one possible value for every input."
-- One theorem a call: two outcomes that both meet its promise at one input are the same. Each promise equates what was answered and left
-- with one outcome of the model, and what an answer says fixes the answer. Assumes nothing.
use Prim.Native.Nat.{ℕ, ◌+◌}
use mathlib.Core.Path.{◌≡◌, sym, ap₂, ◌∙◌}
use mathlib.Core.List.{List}
use denote.Ref.{Bor}
use Rattle.answers.specs.Says.{says_verdict}
use Rattle.answers.specs.declared.Goals.{Goals}
use Rattle.answers.specs.Outcomes.{Verdict, Tried, Ran, FloorRead, Written}
use Rattle.answers.specs.declared.Decided.{Decided}
use Rattle.answers.specs.declared.Report.{Report}
use Rattle.answers.proofs.One.{answer_one, verdict_one, tried_one, ran_one, floor_one, written_one}
use Rattle.model.specs.Floor.{Floor}
use Rattle.model.specs.Decision.{Outcome}
use Rattle.model.specs.Ride.{TrialOutcome, RunOutcome}
use Rattle.model.specs.FloorText.{FloorOutcome}
use Rattle.model.specs.FloorWritten.{write_floor}
use Rattle.model.specs.TableFile.{check_trailer, find_records, write_table}
use Rattle.model.specs.Renewal.{renew_file}
use Rattle.model.specs.KeepDepth.{with_depth}
use Rattle.model.specs.Writing.{WriteOutcome, Writes}
use Rattle.opening.specs.Promise.{Answers, Fills}
use Rattle.decision.specs.Ready.{Decides}
use Rattle.run.specs.Trials.{IsTrial, IsRun}
use Rattle.floor_text.specs.Reads as text
use Rattle.table_file.specs.Promises as file

-- both are what the model says
same : {X : Type 0} {a b m : X} → a ≡ m → b ≡ m → a ≡ b
same e f = e ∙ sym f

-- `open`: the verdict.
pub open_one : {v r s : Verdict} → Answers r v → Answers s v → r ≡ s
open_one h k = same h.is k.is

-- `fill_opening`: the verdict, and the table.
pub fill_opening_one : {f : Floor} {q : ℕ} {g : Goals} {table t u : List ℕ} {r s : Verdict} → Fills f q g table r t → Fills f q g table s u → (r ≡ s) × (t ≡ u)
fill_opening_one h k = (open_one h.answer k.answer, same h.left k.left)

-- `decide`: the answer and the state after it, the table, the path and the moves.
pub decide_one : {o : Outcome} {r s : Decided} {t u p w m n : List ℕ} → Decides o r t p m → Decides o s u w n → (r ≡ s) × (t ≡ u) × (p ≡ w) × (m ≡ n)
decide_one {r = r} {s = s} h k = (
  ap₂ (λ a b. record { answer = a; state = b }) (answer_one r.answer s.answer (same h.answer k.answer)) (same h.state k.state),
  same h.table k.table,
  same h.path k.path,
  same h.moves k.moves,
)

-- `trial`: the answer with its four counts, the table and the path.
pub trial_one : {o : TrialOutcome} {r s : Tried} {t u p w : List ℕ} → IsTrial o r t p → IsTrial o s u w → (r ≡ s) × (t ≡ u) × (p ≡ w)
trial_one h k = (tried_one _ _ (same h.answer_is k.answer_is), same h.table_is k.table_is, same h.path_is k.path_is)

-- `run`: the answer with its counts, the table, the path and the records.
pub run_one : {o : RunOutcome} {r s : Ran} {t u p w : List ℕ} {a b : List Report} → IsRun o r t p a → IsRun o s u w b → (r ≡ s) × (t ≡ u) × (p ≡ w) × (a ≡ b)
run_one h k = (
  ran_one _ _ (same h.answer_is k.answer_is),
  same h.table_is k.table_is,
  same h.path_is k.path_is,
  same h.reports_are k.reports_are,
)

-- `read_floor`: the answer with its sizes, and the buffer.
pub read_floor_one : {o : FloorOutcome} {r s : FloorRead} {b c : List ℕ} → text.Reads o r b → text.Reads o s c → (r ≡ s) × (b ≡ c)
read_floor_one h k = (floor_one _ _ (same h.answer k.answer), same h.buffer k.buffer)

-- what all writers promise: the answer with its length, and the buffer
writes_one : {o : WriteOutcome} {r s : Written} {b c : List ℕ} → Writes o r b → Writes o s c → (r ≡ s) × (b ≡ c)
writes_one h k = (written_one _ _ (same h.answer k.answer), same h.buffer k.buffer)

-- `write_floor`: the answer with its length, and the buffer.
pub write_floor_one : (f : Floor) (buffer : List ℕ) {r s : Written} {b c : List ℕ} → Writes (write_floor f buffer) r b → Writes (write_floor f buffer) s c → (r ≡ s) × (b ≡ c)
write_floor_one f buffer h k = writes_one h k

-- `check_trailer`: the verdict.
pub check_trailer_one : (bytes : List ℕ) (r s : Verdict) → says_verdict r ≡ says_verdict (check_trailer bytes) → says_verdict s ≡ says_verdict (check_trailer bytes) → r ≡ s
check_trailer_one bytes r s h k = verdict_one r s (same h k)

-- `find_records`: the part's bytes, and its pointer, a block and an offset.
abbrev Finds : Bor (List ℕ) → Bor (List ℕ) → Type 0
Finds lent r = (r.now ≡ find_records lent.now) × ((r.ref_ptr.0 ≡ lent.ref_ptr.0) × (r.ref_ptr.1 ≡ file.start_of lent.now + lent.ref_ptr.1))

pub find_records_one : (lent r s : Bor (List ℕ)) → Finds lent r → Finds lent s → (r.now ≡ s.now) × (r.ref_ptr ≡ s.ref_ptr)
find_records_one lent r s (part, (block, at)) (part', (block', at')) = (same part part', ap₂ (λ b a. (b, a)) (same block block') (same at at'))

-- `read_table`: the verdict, and the table.
pub read_table_one : {v r s : Verdict} {left t u : List ℕ} → file.Reads v left r t → file.Reads v left s u → (r ≡ s) × (t ≡ u)
read_table_one h k = (verdict_one _ _ (same h.answer k.answer), same h.table k.table)

-- `write_table`: the answer with its length, and the buffer.
pub write_table_one : (f : Floor) (q : ℕ) (g : Goals) (table buffer : List ℕ) {r s : Written} {b c : List ℕ}
    → Writes (write_table f q g table buffer) r b → Writes (write_table f q g table buffer) s c → (r ≡ s) × (b ≡ c)
write_table_one f q g table buffer h k = writes_one h k

-- `renew_file`: the answer with its length, and the buffer.
pub renew_file_one : (old buffer : List ℕ) {r s : Written} {b c : List ℕ} → Writes (renew_file old buffer) r b → Writes (renew_file old buffer) s c → (r ≡ s) × (b ≡ c)
renew_file_one old buffer h k = writes_one h k

-- `with_depth`: the answer with its length, and the buffer.
pub with_depth_one : (line buffer : List ℕ) {r s : Written} {b c : List ℕ} → Writes (with_depth line buffer) r b → Writes (with_depth line buffer) s c → (r ≡ s) × (b ≡ c)
with_depth_one line buffer h k = writes_one h k
