-- What document 02 says of a refused record, from what `read_table` promises: the first faulty record is named, by the number of its first fault.
-- What the call answers is the model's, and of that FirstFault says it.
use Prim.Native.Nat.{ℕ, ◌≤◌}
use mathlib.Core.Path.{◌≡◌, sym, ◌∙◌}
use mathlib.Core.List.{List}
use lib.ListN.{length}
use Rattle.answers.specs.declared.Goals.{Goals}
use Rattle.answers.specs.declared.Refusal.{Refusal}
use Rattle.answers.specs.declared.Place.TheVariants as P
use Rattle.answers.specs.Outcomes.{Verdict}
use Rattle.std.specs.Prelude.{Ok, Err}
use Rattle.answers.proofs.One.{verdict_one}
use Rattle.model.specs.Basics.{refuse_at}
use Rattle.model.specs.Floor.{Floor, goals_of}
use Rattle.model.specs.Opening.{open_table}
use Rattle.model.specs.TableFile.{count_in, check_trailer, check_ahead, find_records, same_job, read_verdict, read_table}
use Rattle.model.proofs.Refusals.{turn_of}
use Rattle.model.proofs.FirstFault.{FirstFault, refused_record_means, faulty_record_is_refused}
use Rattle.table_file.specs.Promises.{Reads}

module _ (f : Floor) (q : ℕ) (g : Goals) (file table : List ℕ) where
  -- where `read_table` answers a number after 14 in the order of checks, it is that of the first fault of the first faulty record, which it names
  pub refused-record : {r : Refusal} {t : List ℕ} → Reads (read_verdict f q g file (length table)) (read_table f q g file table) (Err r) t → turn_of 15 ≤ turn_of r.number
      → (i : ℕ) × (r.place ≡ P.Record i) × FirstFault f q (goals_of g) (find_records file) (count_in file) i r.number
  refused-record {r} h = refused_record_means f q g file (length table) (sym (verdict_one (Err r) _ h.answer))

  -- and a file that 1, 3, 4, 27, 13, 28 and 14 let through is refused so
  pub faulty_record : open_table f q g (length table) ≡ Ok tt → check_trailer file ≡ Ok tt → check_ahead file ≡ Ok tt → same_job f q (goals_of g) file ≡ Ok tt
      → {i k : ℕ} → FirstFault f q (goals_of g) (find_records file) (count_in file) i k
      → {v : Verdict} {t : List ℕ} → Reads (read_verdict f q g file (length table)) (read_table f q g file table) v t → v ≡ refuse_at k (P.Record i)
  faulty_record opened checked whole same first {v} h = verdict_one v _ h.answer ∙ faulty_record_is_refused f q g file (length table) opened checked whole same first
