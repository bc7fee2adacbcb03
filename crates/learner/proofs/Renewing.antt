-- What document 02 says of older material, from what `renew_file`, `read_table` and `write_table` promise: for any floor and job, reading the new file gives the verdict and
-- table that reading the old file's last table gave while bytes ahead were ignored; and the new file is what writing that table gives. What the calls answer and leave is
-- the model's, and of that Renewed and RoundTrip say it.
use Prim.Native.Nat.{ℕ}
use mathlib.Core.Path.{◌≡◌, sym, ap, ◌∙◌}
use mathlib.Core.List.{List}
use lib.ListN.{length, take}
use Rattle.answers.specs.declared.Goals.{Goals}
use Rattle.answers.specs.Outcomes.{Verdict}
use Rattle.std.specs.Prelude.{Ok}
use Rattle.answers.proofs.One.{verdict_one}
use Rattle.model.specs.Floor.{Floor, goals_of}
use Rattle.model.specs.TableFile.{check_trailer, read_verdict, read_table, file_of}
use Rattle.model.specs.Renewal.{renewed, renew_verdict, renew_file}
use Rattle.model.specs.Writing.{Writes}
use Rattle.model.proofs.Accepted.{then_done}
use Rattle.model.proofs.Records.{Bytes}
use Rattle.model.proofs.Renewed.{verdict_before, table_before, renewed_is_judged_as_before, renewed_reads_as_before}
use Rattle.model.proofs.RoundTrip.{last_table_writes_renewed}
use Rattle.model.proofs.Writings.{writes_told}
use Rattle.table_file.specs.Promises.{Reads}

-- a file that was renewed in n bytes of the buffer
module _ (old buffer : List ℕ) (small : Bytes old) {n : ℕ} {b : List ℕ} (w : Writes (renew_file old buffer) (Ok n) b) where
  told : (renew_verdict old (length buffer) ≡ Ok tt) × (n ≡ length (renewed old)) × (take n b ≡ renewed old)
  unfolding renew_file
  told = writes_told (renew_verdict old (length buffer)) (renewed old) buffer w

  held : check_trailer old ≡ Ok tt
  unfolding renew_verdict
  held = (then_done _ _ told.0).0

  module _ (f : Floor) (q : ℕ) (g : Goals) (table : List ℕ) where
    -- reading these bytes gives the verdict and the table that reading the old file's last table gave before
    pub renewed_file_reads_as_before : {v : Verdict} {t : List ℕ} → Reads (read_verdict f q g (take n b) (length table)) (read_table f q g (take n b) table) v t
        → (v ≡ verdict_before f q g old (length table)) × (t ≡ table_before f q g old table)
    renewed_file_reads_as_before {v} h = (
      verdict_one v _ h.answer ∙ ap (λ xs. read_verdict f q g xs (length table)) told.2 ∙ renewed_is_judged_as_before f q g old small held (length table),
      h.table ∙ ap (λ xs. read_table f q g xs table) told.2 ∙ renewed_reads_as_before f q g old small held table,
    )

    -- and where that was accepted they are what writing the last table gives
    pub renewed_file_is_written : verdict_before f q g old (length table) ≡ Ok tt → take n b ≡ file_of f q (goals_of g) (table_before f q g old table)
    renewed_file_is_written e = told.2 ∙ sym (last_table_writes_renewed f q g old table small e)
