-- Demand 2 of the mission, its last sentence, from what `write_table` and `read_table` promise: "A written table reads back the same, and an accepted table's bytes, from its first record
-- on, are what writing it again gives.", of the whole edition 2 file; one of edition 1 keeps its records. And document 02 of floor text, from what `write_floor` and `read_floor` promise.
-- What the calls answer and leave is the model's, and of that RoundTrip and FloorRoundTrip say it.
use Prim.Native.Nat.{ℕ, ◌+◌, ◌*◌, ◌≤◌}
use mathlib.Core.Path.{◌≡◌, refl, sym, ap, ap₂, ◌∙◌, subst}
use mathlib.Core.Bool.{true}
use mathlib.Core.List.{List, ◌++◌, map}
use native.Mathlib.Omega.{arith}
use lib.ListN.{length, take, drop}
use lib.Seq.{take_at}
use Rattle.answers.specs.Outcomes.{FloorRead, Verdict, Written, read_sizes}
use Rattle.std.specs.Prelude.{Ok, Err}
use Rattle.answers.specs.declared.Goals.{Goals}
use Rattle.answers.proofs.One.{verdict_one, floor_one, written_one, same_sizes}
use Rattle.model.specs.Basics.{every}
use Rattle.model.specs.Floor.{Floor, size, goals_of}
use Rattle.model.specs.TableFile.{second_long, edition_in, count_in, find_records, read_verdict, read_table, write_verdict, file_of, write_table}
use Rattle.model.specs.Writing.{write_of, Writes}
use Rattle.model.specs.FloorText.{width_in, height_in, rows_in, cells_of, floor_verdict, floor_from, read_floor}
use Rattle.model.specs.FloorWritten.{text_of, text_verdict, write_floor}
use Rattle.model.proofs.Records.{Bytes}
use Rattle.model.proofs.RoundTrip.{written_table_reads_back, accepted_table_writes_again, accepted_table_keeps_its_records, accepted_table_is_writable}
use Rattle.model.proofs.FloorTexts.{sized_needs_room, text-gives}
use Rattle.model.proofs.Writings.{room_judges, writes_told}
use Rattle.model.proofs.FloorLines.{as_read, is_row_byte}
use Rattle.model.proofs.FloorRoundTrip.{written_floor_reads_back, floor_in, read-sized, read_floor_writes_again}
use Rattle.floor_text.specs.Reads as text
use Rattle.table_file.specs.Promises.{Reads}

module _ (f : Floor) (q : ℕ) (g : Goals) where
  abbrev gs : List ℕ
  gs = goals_of g

  -- where a table was written in n bytes of the buffer, reading these for the same floor, goals and q is accepted and gives the table, whatever the table held that is read into
  pub written_reads_back : (table buffer : List ℕ) {n : ℕ} {b : List ℕ} → Writes (write_table f q g table buffer) (Ok n) b
      → (other : List ℕ) → length other ≡ length table → {v : Verdict} {t : List ℕ}
      → Reads (read_verdict f q g (take n b) (length other)) (read_table f q g (take n b) other) v t → (v ≡ Ok tt) × (t ≡ table)
  unfolding write_table
  written_reads_back table buffer w other l {v} h =
      let (accepted, long, file) = writes_told (write_verdict f q g table (length buffer)) (file_of f q gs table) buffer w in
      let (reads, again) = written_table_reads_back f q g table (length buffer) accepted other l in (
        verdict_one v _ h.answer ∙ ap (λ xs. read_verdict f q g xs (length other)) file ∙ reads,
        h.table ∙ ap (λ xs. read_table f q g xs other) file ∙ again,
      )

  -- bytes that were accepted as a table, and that table written where there is room
  module _ (bytes table : List ℕ) (small : Bytes bytes) {t : List ℕ} (h : Reads (read_verdict f q g bytes (length table)) (read_table f q g bytes table) (Ok tt) t)
      (buffer : List ℕ) (room : second_long + 6 * count_in bytes ≤ length buffer) {r : Written} {b : List ℕ} (w : Writes (write_table f q g t buffer) r b) where
    accepted : read_verdict f q g bytes (length table) ≡ Ok tt
    accepted = sym (verdict_one (Ok tt) (read_verdict f q g bytes (length table)) h.answer)

    -- it is written in so many bytes, which are the file of that table
    written : let file = file_of f q gs (read_table f q g bytes table) in (r ≡ Ok (length file)) × (take (length file) b ≡ file)
    unfolding write_table
    written =
        let file = file_of f q gs (read_table f q g bytes table) in
        let may : write_verdict f q g t (length buffer) ≡ Ok tt =
        ap (λ (t : List ℕ). write_verdict f q g t (length buffer)) h.table ∙ accepted_table_is_writable f q g bytes table small accepted (length buffer) room in
        let same : file_of f q gs t ≡ file = ap (file_of f q gs) h.table in
        let k = subst (λ l. Writes (write_of (Ok tt) l buffer) r b) same (subst (λ u. Writes (write_of u (file_of f q gs t) buffer) r b) may w) in
        (written_one r (Ok (length file)) k.answer, ap (take (length file)) k.buffer ∙ take_at file (drop (length file) buffer) (length file) refl)

    -- of edition 2 it gives the whole of them: an accepted file is what writing its table gives
    pub accepted_writes_again : edition_in bytes ≡ 2 → (r ≡ Ok (length bytes)) × (take (length bytes) b ≡ bytes)
    accepted_writes_again two =
        subst (λ l. (r ≡ Ok (length l)) × (take (length l) b ≡ l)) (accepted_table_writes_again f q g bytes table small accepted two) written

    -- and of either edition a file with the same records
    pub accepted_keeps_its_records : (n : ℕ) × (r ≡ Ok n) × (find_records (take n b) ≡ find_records bytes)
    accepted_keeps_its_records = let (e, again) = written in (_, e, ap find_records again ∙ accepted_table_keeps_its_records f q g bytes table small accepted)

-- where a floor was written in n bytes of the buffer, reading these into any list with room answers the floor's sizes, and gives its bytes, each as `as_read` says
pub floor_reads_back : (f : Floor) (buffer : List ℕ) {n : ℕ} {b : List ℕ} → Writes (write_floor f buffer) (Ok n) b
    → (lent : List ℕ) → size f ≤ length lent → {r : FloorRead} {c : List ℕ} → text.Reads (read_floor (take n b) lent) r c
    → (r ≡ read_sizes f.width f.height) × (c ≡ map as_read f.bytes ++ drop (size f) lent)
unfolding write_floor
floor_reads_back f buffer {n} {b} w lent room {r} {c} h =
    let (accepted, long, written) = writes_told (text_verdict f (length buffer)) (text_of f) buffer w in
    let read = ap (λ xs. read_floor xs lent) written ∙ written_floor_reads_back f (text-gives f (length buffer) accepted).0 lent room in
    (floor_one r _ h.answer ∙ ap (λ o. o.answer) read, h.buffer ∙ ap (λ o. o.buffer) read)

-- where a text of `.`, `S` and `@` alone was read, writing the floor that it gave where there is room gives that text
pub floor_writes_again : (bytes lent : List ℕ) {width height : ℕ} {c : List ℕ} → text.Reads (read_floor bytes lent) (read_sizes width height) c → every is_row_byte (rows_in bytes) ≡ true
    → (buffer : List ℕ) → length bytes ≤ length buffer → {r : Written} {b : List ℕ}
    → Writes (write_floor (record { width = width; height = height; bytes = take (width * height) c }) buffer) r b → (r ≡ Ok (length bytes)) × (take (length bytes) b ≡ bytes)
unfolding read_floor write_floor
floor_writes_again bytes lent {width} {height} {c} h alone buffer room {r} {b} w = by (floor_verdict bytes (length lent)) refl h
  where
    by : (u : Verdict) → floor_verdict bytes (length lent) ≡ u → text.Reads (floor_from u bytes lent) (read_sizes width height) c → (r ≡ Ok (length bytes)) × (take (length bytes) b ≡ bytes)
    by (Err x) e k = absurd (omega (arith, ap (λ s. s.kind) k.answer))
    by (Ok _) e k =
        let same = same_sizes (floor_one (read_sizes width height) (read_sizes (width_in bytes) (height_in bytes)) k.answer) in
        let wide : width ≡ width_in bytes = ap (λ s. s.width) same in
        let high : height ≡ height_in bytes = ap (λ s. s.height) same in
        let sized = read-sized bytes (length lent) e in
        let cells : take (width * height) c ≡ cells_of (width_in bytes) (height_in bytes) (rows_in bytes) =
        ap₂ take (ap₂ (λ (x y : ℕ). x * y) wide high) k.buffer ∙ take_at (floor_in bytes).bytes (drop (width_in bytes * height_in bytes) lent) (width_in bytes * height_in bytes) sized.cells in
        let again = read_floor_writes_again bytes (length lent) e alone in
        let may : text_verdict (floor_in bytes) (length buffer) ≡ Ok tt =
        sized_needs_room (floor_in bytes) sized (length buffer) ∙ (room_judges (length (text_of (floor_in bytes))) (length buffer)).done (omega (arith, ap length again)) in
        let o = subst (λ u. Writes (write_of u (text_of (floor_in bytes)) buffer) r b) may
        (subst (λ (f : Floor). Writes (write_of (text_verdict f (length buffer)) (text_of f) buffer) r b) (λ i. record { width = wide i; height = high i; bytes = cells i }) w) in (
          written_one r (Ok (length (text_of (floor_in bytes)))) o.answer ∙ ap (λ (t : List ℕ). Ok (length t)) again,
          ap (take (length bytes)) o.buffer ∙ take_at (text_of (floor_in bytes)) (drop (length (text_of (floor_in bytes))) buffer) (length bytes) (ap length again) ∙ again,
        )
