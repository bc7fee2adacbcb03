-- The round trip of a table file, both ways: the writer's file is laid down and read back as `Laid` says, and its records as `Records` says; what the reader accepts, written
-- again, is the renewed file, and of edition 2 the file itself.
-- A file is a list of bytes: each of its numbers is below 256, which code has from its slice's type.
use mathlib.Core.Path.{◌≡◌, sym, ◌∙◌, ap, subst}
use mathlib.Core.Bool.{true, ◌&&◌}
use mathlib.Core.Logic.{inr, ⊎_elim}
use mathlib.Core.List.{List, [], ◌∷◌, ◌++◌}
use Prim.Native.Nat.{ℕ, ◌+◌, ◌-◌, ◌*◌, ◌≤◌, ◌<◌}
use native.Mathlib.Omega.{arith}
use borrow.Author.Tests.{le-leb, le-ltb, eqb-true}
use lib.Dec.{eqb}
use lib.ListN.{length, get_or, drop, length-drop}
use lib.Seq.{drop-drop, get_or-drop, ext_get_or}
use Rattle.learning.specs.Ground.{list_of}
use Rattle.learning.proofs.Spread.{list_at, list_length}
use Rattle.answers.specs.declared.Goals.{Goals}
use Rattle.answers.specs.Outcomes.{Verdict}
use Rattle.std.specs.Prelude.{Ok}
use Rattle.model.specs.Floor.{Floor, size, opening, opening_table, goals_of}
use Rattle.model.specs.Checks.{most_goals, ceiling}
use Rattle.model.specs.Opening.{open_table}
use Rattle.model.specs.TableFile.{half, word, half_at, first_long, second_long, trailer, ending, edition_in, count_in, back_in, is_letters, goal_place, find_records, judge_records, applied}
use Rattle.model.specs.TableFile.{read_verdict, read_of, read_table, changed, records_of}
use Rattle.model.specs.TableFile.{trailer_of, file_of, unlike, write_verdict}
use Rattle.model.specs.Renewal.{second_of, renewed_trailer, renewed}
use Rattle.model.specs.Writing.{file_room}
use Rattle.model.proofs.Cells.{cells-le}
use Rattle.model.proofs.Moves.{both}
use Rattle.model.proofs.Accepted.{then_next, figures-done, figures-accepted, naming-done, naming_none}
use Rattle.model.proofs.OpeningSound.{opening-within}
use Rattle.model.proofs.Files.{Openable, openable, Trailer, Second, Ended, trailer_judges, ahead_judges, found, found-long, FirstSame, SecondSame, Names, Same, same_judges}
use Rattle.model.proofs.Files.{changed_few, length-records, length-file}
use Rattle.model.proofs.Files.{Readable, read-gives, write-gives}
use Rattle.model.proofs.Records.{half-written, word-written, Bytes, bytes_drop, half-small, bytes_take, Fine, written-judged, written-applied, applied-length, Again}
use Rattle.model.proofs.Records.{again, fine-opening, applied-fine}
use Rattle.model.proofs.Laid.{place-small, Laid, laid_down}
use Rattle.model.proofs.Renewed.{list_of_one, trailer_first, trailer-second, renewed-stays, renews, verdict_before, table_before, before_gives}

-- a list of n bytes is what stands at its places
spelled : (n : ℕ) (t : List ℕ) → length t ≡ n → t ≡ list_of n (λ i. get_or t i 0)
spelled n t e =
    ext_get_or 0 t (list_of n (λ i. get_or t i 0)) (e ∙ sym (list_length n (λ i. get_or t i 0))) (λ i h. sym (list_at n (λ i. get_or t i 0) i 0 (omega arith)))

-- the last 12 bytes of a trailer that is so long
ending_in : (file : List ℕ) (long i : ℕ) → long + 12 ≤ length file → get_or (ending file) i 0 ≡ get_or (trailer (long + 12) file) (long + i) 0
ending_in file long i h =
    let at : length file - 12 ≡ length file - (long + 12) + long = omega arith in
    ap (λ (k : ℕ). get_or (drop k file) i 0) at ∙ ap (λ (l : List ℕ). get_or l i 0) (sym (drop-drop long (length file - (long + 12)) file)) ∙ get_or-drop long (trailer (long + 12) file) i 0

module _ (f : Floor) (q : ℕ) (g : Goals) where
  abbrev gs : List ℕ
  gs = goals_of g

  -- the checks of the reader, and of the writer, all passed
  read_all : (file : List ℕ) (n : ℕ) → Readable f q g file n → length file ≤ back_in file → read_verdict f q g file n ≡ Ok tt
  unfolding read_verdict
  read_all file n r w = then_next _ r.opens ∙ (then_next _ r.checked ∙ (then_next _ ((ahead_judges file).done w) ∙ (then_next _ r.same ∙ r.records)))

  write_all : (table : List ℕ) (room : ℕ) → open_table f q g (length table) ≡ Ok tt → ((x : ℕ) → x < size f → Fine f q gs x (get_or table x 0)) → length (file_of f q gs table) ≤ room
      → write_verdict f q g table room ≡ Ok tt
  unfolding write_verdict file_room unlike
  write_all table room o fine l =
      then_next _ o
      ∙ (then_next _ (figures-done f table (λ x h. le-ltb ceiling (get_or table x 0) (fine x h).within))
      ∙ (then_next _ (naming-done (size f) (unlike f q gs table) 16 (λ x h. (fine x h).like))
      ∙ simp (le-leb (length (file_of f q gs table)) room l)))

  -- ---- a written table

  module _ (table : List ℕ) (room : ℕ) (e : write_verdict f q g table room ≡ Ok tt) where
    abbrev cells : List ℕ
    cells = changed f q gs table (size f) 0

    abbrev count : ℕ
    count = length cells

    abbrev file : List ℕ
    file = records_of table cells ++ trailer_of f q gs count

    given : Openable f q g (length table)
    given = openable f q g (length table) (write-gives f q g table room e).0

    few_cells : size f ≤ 4096
    few_cells = cells-le f.width f.height given.sized.narrow given.sized.low

    fine : (x : ℕ) → x < size f → Fine f q gs x (get_or table x 0)
    unfolding unlike
    fine x h =
        let w = write-gives f q g table room e in
        record { within = figures-accepted f table w.1 x h; like = naming_none (size f) (unlike f q gs table) 16 w.2 x h }

    -- the file is laid down so, and read back field by field
    few : count < 65536
    few = omega (arith, changed_few f q gs table (size f) 0, few_cells)

    small : (i : ℕ) → goal_place gs i < 65536
    small = place-small gs (λ i h. omega (arith, given.benches.on i h, few_cells))

    down : Laid f q gs (records_of table cells) count file
    down = laid_down f q gs (records_of table cells) count (length-records table cells) few small

    named : Same f q gs file
    named = (subst (Names f gs file) (sym (ap (λ n. eqb n 1) down.sound.0.edition_is)) down.names, down.scale)

    -- it is accepted,
    written-accepted : (n : ℕ) → n ≡ length table → read_verdict f q g (file_of f q gs table) n ≡ Ok tt
    unfolding file_of
    written-accepted n z =
        read_all file n
        (record {
          opens = rw z (write-gives f q g table room e).0;
          checked = (trailer_judges file).done (inr down.sound);
          same = (same_judges f q gs file).done named;
          records = (λ i. judge_records f q gs (down.counts i) 0 0 (down.finds i)) ∙ written-judged f q gs table few_cells fine (size f) 0 0 0 (omega arith) (omega arith);
        })
        down.begins

    -- and gives the same table
    written_reads_back : (other : List ℕ) → length other ≡ length table → read_table f q g (file_of f q gs table) other ≡ table
    unfolding read_table opening_table file_of
    written_reads_back other z =
        ap (λ (v : Verdict). read_of v f q g file other) (written-accepted (length other) z)
        ∙ ((λ i. applied (down.counts i) (down.finds i) (opening_table f q gs))
        ∙ written-applied f q gs table few_cells fine (size f) 0 (opening_table f q gs)
        (record {
          same = list_length (size f) (opening f q gs) ∙ sym given.cells;
          below = λ k h. absurd (omega arith);
          rest = λ k h l. list_at (size f) (opening f q gs) k 0 l;
        })
        (omega arith) given.cells)

  -- ---- an accepted table

  letters_are : (t : List ℕ) → is_letters t ≡ true → (get_or t 8 0 ≡ 80) × (get_or t 9 0 ≡ 68) × (get_or t 10 0 ≡ 76) × (get_or t 11 0 ≡ 84)
  letters_are t e =
      let a = both (eqb (get_or t 8 0) 80 && eqb (get_or t 9 0) 68 && eqb (get_or t 10 0) 76) (eqb (get_or t 11 0) 84) e in
      let b = both (eqb (get_or t 8 0) 80 && eqb (get_or t 9 0) 68) (eqb (get_or t 10 0) 76) a.0 in
      let c = both (eqb (get_or t 8 0) 80) (eqb (get_or t 9 0) 68) b.0 in
      (eqb-true _ _ c.0, eqb-true _ _ c.1, eqb-true _ _ b.1, eqb-true _ _ a.1)

  module _ (file : List ℕ) (n₀ : ℕ) (e : Readable f q g file n₀) (bytes : Bytes file) where
    abbrev part : List ℕ
    part = find_records file

    -- the table that reading it gives
    abbrev made : List ℕ
    made = applied (count_in file) part (opening_table f q gs)

    open-job : Openable f q g n₀
    open-job = openable f q g n₀ e.opens

    ended : Ended file
    ended = (trailer_judges file).gives e.checked

    length-opening : length (opening_table f q gs) ≡ size f
    unfolding opening_table
    length-opening = list_length (size f) (opening f q gs)

    opening_at : (x : ℕ) → x < size f → get_or (opening_table f q gs) x 0 ≡ opening f q gs x
    unfolding opening_table
    opening_at x h = list_at (size f) (opening f q gs) x 0 h

    abbrev from_first : List ℕ
    from_first = drop (length file - back_in file) file

    written_again : Again f q gs (size f) 0 (count_in file) part made
    written_again =
        again f q gs (size f) 0 (count_in file) 0 part (opening_table f q gs) (omega arith) length-opening e.records (found-long file ended)
        (λ k. rw (found file ended) (bytes_take (6 * count_in file) from_first (bytes_drop (length file - back_in file) file bytes) k))
        (λ k h l. opening_at k l)

    -- the writer accepts it, where it has room
    accepted_writable : (room : ℕ) → second_long + 6 * count_in file ≤ room → write_verdict f q g made room ≡ Ok tt
    accepted_writable room h =
        let a : length made ≡ size f = applied-length f q gs (count_in file) part (opening_table f q gs) ∙ length-opening in
        let z : n₀ ≡ length made = open-job.cells ∙ sym a in
        write_all made room (rw z at e.opens)
        (applied-fine f q gs (count_in file) 0 0 part (opening_table f q gs) e.records length-opening
        (λ x k. rw (opening_at x k) (fine-opening f q gs x (opening-within f q gs x open-job.sized open-job.scale open-job.benches k))))
        (omega (arith, length-file f q gs made, written_again.count))

    named_so : Same f q gs file
    named_so = (same_judges f q gs file).gives e.same

    -- the trailer that the writer puts is the one that renewing puts: of edition 1, which names one goal,
    first_again : Trailer 1 first_long file → trailer_of f q gs (count_in file) ≡ second_of file
    unfolding trailer_of
    first_again t =
        let s : FirstSame f gs (trailer first_long file) = subst (Names f gs file) (ap (λ n. eqb n 1) t.edition_is) named_so.0 in
        let one : gs ≡ half_at (trailer first_long file) 2 ∷ [] = list_of_one gs s.alone ∙ ap (λ (x : ℕ). x ∷ []) (sym s.goal) in
        (λ i. sym s.width i ∷ sym s.height i ∷ length (one i) ∷ 0
        ∷ (half (goal_place (one i) 0) ++ (half (goal_place (one i) 1) ++ (half (goal_place (one i) 2) ++ (half (goal_place (one i) 3)
        ++ (sym named_so.1 i ∷ 2 ∷ (half (count_in file) ++ (word (second_long + 6 * count_in file) ++ (80 ∷ 68 ∷ 76 ∷ 84 ∷ [])))))))))

    -- and of edition 2, whose own stays
    second_again : Second file → trailer_of f q gs (count_in file) ≡ trailer second_long file
    unfolding trailer_of
    second_again held =
        let s : SecondSame f gs (trailer second_long file) = subst (Names f gs file) (ap (λ n. eqb n 1) held.0.edition_is) named_so.0 in
        let t : List ℕ = trailer second_long file in
        let b : Bytes t = bytes_drop (length file - second_long) file bytes in
        let n : length t ≡ second_long = length-drop (length file - second_long) file ∙ omega (arith, held.0.room) in
        let at : (i : ℕ) → get_or (ending file) i 0 ≡ get_or t (12 + i) 0 = λ i. ending_in file 12 i held.0.room in
        let l = letters_are (ending file) held.0.letters in
        let pair : (i : ℕ) → half (get_or t i 0 * 256 + get_or t (i + 1) 0) ≡ get_or t i 0 ∷ get_or t (i + 1) 0 ∷ [] = λ i. half-written (get_or t i 0) (get_or t (i + 1) 0) (b i) (b (i + 1)) in
        let two_at : (i : ℕ) → half (half_at (ending file) i) ≡ get_or t (12 + i) 0 ∷ get_or t (12 + (i + 1)) 0 ∷ [] =
        λ i. (λ k. half (at i k * 256 + at (i + 1) k)) ∙ half-written (get_or t (12 + i) 0) (get_or t (12 + (i + 1)) 0) (b (12 + i)) (b (12 + (i + 1))) in
        let small : (i : ℕ) → half_at (ending file) i < 65536 = half-small (ending file) (bytes_drop (length file - 12) file bytes) in
        let w : word (second_long + 6 * count_in file) ≡ get_or t 16 0 ∷ get_or t 17 0 ∷ get_or t 18 0 ∷ get_or t 19 0 ∷ [] =
        ap word (sym held.0.even) ∙ (word-written (half_at (ending file) 4) (half_at (ending file) 6) (small 4) (small 6) ∙ λ i. two_at 4 i ++ two_at 6 i) in
        let put : (i : ℕ) → i < most_goals → half (goal_place gs i) ≡ get_or t (4 + 2 * i) 0 ∷ get_or t (4 + 2 * i + 1) 0 ∷ [] = λ i h. ap half (sym (s.places i h)) ∙ pair (4 + 2 * i) in
        (λ i. sym s.width i ∷ sym s.height i ∷ sym s.count i ∷ sym held.1 i
        ∷ (put 0 (omega arith) i ++ (put 1 (omega arith) i ++ (put 2 (omega arith) i ++ (put 3 (omega arith) i
        ++ ((sym named_so.1 ∙ at 0) i ∷ (sym held.0.edition_is ∙ at 1) i
        ∷ (two_at 2 i ++ (w i ++ ((sym l.0 ∙ at 8) i ∷ (sym l.1 ∙ at 9) i ∷ (sym l.2 ∙ at 10) i ∷ (sym l.3 ∙ at 11) i ∷ []))))))))) ∙ sym (spelled second_long t n)

    trailer_again : trailer_of f q gs (count_in file) ≡ renewed_trailer file
    trailer_again = ⊎_elim (λ t. first_again t ∙ sym (trailer_first file t)) (λ s. second_again s ∙ sym (trailer-second file s)) ended

    -- so writing its table renews it
    written_is_renewed : file_of f q gs made ≡ renewed file
    unfolding file_of renewed
    written_is_renewed = (λ i. written_again.bytes i ++ trailer_of f q gs (written_again.count i)) ∙ ap (λ (t : List ℕ). part ++ t) trailer_again

-- ---- the round trip

-- "A written table reads back the same": for the same floor, goals and q it is accepted and gives the same table.
pub written_table_reads_back : (f : Floor) (q : ℕ) (g : Goals) (table : List ℕ) (room : ℕ) → write_verdict f q g table room ≡ Ok tt → (other : List ℕ) → length other ≡ length table
    → (read_verdict f q g (file_of f q (goals_of g) table) (length other) ≡ Ok tt) × (read_table f q g (file_of f q (goals_of g) table) other ≡ table)
written_table_reads_back f q g table room e other z = (written-accepted f q g table room e (length other) z, written_reads_back f q g table room e other z)

module _ (f : Floor) (q : ℕ) (g : Goals) (file table : List ℕ) (b : Bytes file) where
  -- "writes edition 2 from the last table alone, the same figures": what renewing gives is what writing the last table gives, wherever that was accepted
  pub last_table_writes_renewed : verdict_before f q g file (length table) ≡ Ok tt → file_of f q (goals_of g) (table_before f q g file table) ≡ renewed file
  last_table_writes_renewed e =
      ap (λ v. file_of f q (goals_of g) (read_of v f q g file table)) e ∙ written_is_renewed f q g file (length table) (before_gives f q g file (length table) e) b

  module _ (e : read_verdict f q g file (length table) ≡ Ok tt) where
    accepted : Readable f q g file (length table) × (length file ≤ back_in file)
    accepted = read-gives f q g file (length table) e

    again_is : {A : Type 0} (h : List ℕ → A) → h (read_table f q g file table) ≡ h (made f q g file (length table) accepted.0 b)
    unfolding read_table
    again_is h = ap (λ v. h (read_of v f q g file table)) e

    renewed_again : file_of f q (goals_of g) (read_table f q g file table) ≡ renewed file
    renewed_again = again_is (file_of f q (goals_of g)) ∙ written_is_renewed f q g file (length table) accepted.0 b

    held_so : Ended file
    held_so = (trailer_judges file).gives accepted.0.checked

    -- "The equality in demand 2 is then about the whole edition 2 file": an accepted one is what writing its table gives.
    pub accepted_table_writes_again : edition_in file ≡ 2 → file_of f q (goals_of g) (read_table f q g file table) ≡ file
    accepted_table_writes_again two = renewed_again ∙ ⊎_elim (λ t. absurd (omega (arith, t.edition_is, two))) (λ s. renewed-stays file s accepted.1) held_so

    -- Of either edition, written again it has the same records.
    pub accepted_table_keeps_its_records : find_records (file_of f q (goals_of g) (read_table f q g file table)) ≡ find_records file
    accepted_table_keeps_its_records = ap find_records renewed_again ∙ (renews file b held_so).records

    -- What the reader accepts, the writer accepts where it has room.
    pub accepted_table_is_writable : (room : ℕ) → second_long + 6 * count_in file ≤ room → write_verdict f q g (read_table f q g file table) room ≡ Ok tt
    accepted_table_is_writable room h = again_is (λ t. write_verdict f q g t room) ∙ accepted_writable f q g file (length table) accepted.0 b room h
