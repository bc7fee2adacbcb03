-- Document 02 on older material: what a renewed file is, and that reading it gives what reading the old file's last table gave while bytes ahead were ignored.
-- And the last bytes of a stream renew as all of it does. Assumes nothing.
use mathlib.Core.Path.{◌≡◌, refl, sym, ◌∙◌, ap, ap₂, subst}
use mathlib.Core.Bool.{true, false, ◌&&◌}
use mathlib.Core.List.{List, [], ◌∷◌, ◌++◌}
use mathlib.Core.Logic.{inl, inr}
use Prim.Native.Nat.{ℕ, zero, suc, ◌+◌, ◌-◌, ◌*◌, ◌≤◌, ◌<◌}
use native.Mathlib.Omega.{arith}
use lib.Dec.{eqb}
use borrow.Author.Tests.{eq-eqb, ne_eqb}
use lib.ListN.{length, get_or, drop, length-append, length-drop, take-append-drop}
use lib.Seq.{drop-drop}
use Rattle.answers.specs.declared.Goals.{Goals}
use Rattle.answers.specs.declared.Place.TheVariants as P
use Rattle.answers.specs.Outcomes.{Verdict}
use Rattle.std.specs.Prelude.{Ok, Err}
use Rattle.model.specs.Basics.{choose, at_end, then, refuse_at, unless}
use Rattle.model.specs.Floor.{Floor, goals_of, opening_table}
use Rattle.model.specs.Opening.{open_table}
use Rattle.model.specs.TableFile.{half_at, trailer_of, first_long, second_long, trailer, ending, scale_in, edition_in, count_in, back_in, check_trailer, find_records, goal_place, first_names}
use Rattle.model.specs.TableFile.{second_names, named, same_job, judge_records}
use Rattle.model.specs.TableFile.{applied, judge_table, read_verdict, read_of, read_table}
use Rattle.model.specs.Renewal.{second_of, renewed_trailer, renewed, renew_verdict, renew_file, longest}
use Rattle.model.specs.Writing.{file_room, write_of}
use Rattle.model.proofs.Accepted.{then_next, then_refused, then_done, same_told}
use Rattle.model.proofs.Parts.{end_behind}
use Rattle.model.proofs.Files.{Trailer, Second, Ended, second_ended, second_tells, trailer_judges, ahead_judges, found, found-long, FirstSame, SecondSame, first_names_lem, second-names}
use Rattle.model.proofs.Files.{length-trailer, Readable}
use Rattle.model.proofs.Records.{Bytes, bytes_drop, half-small}
use Rattle.model.proofs.Writings.{room_judges}
use Rattle.model.proofs.Laid.{place-small, Laid, laid_down}
use Rattle.model.proofs.Behind.{count_same, back_same, second_same, check_same, records_same, job_same, renewed_same}

pub list_of_one : (l : List ℕ) → length l ≡ 1 → l ≡ get_or l 0 0 ∷ []
list_of_one [] h = absurd (omega arith)
list_of_one (x ∷ []) h = refl
list_of_one (x ∷ y ∷ l) h = absurd (omega arith)

-- ---- the renewed file

-- it is a sound file of edition 2, begins with its first record, and has the records and the job of the old file's last table
pub record Renews (file new : List ℕ) : Type 0 where
  pub sound : Second new
  pub begins : length new ≤ back_in new
  pub count : count_in new ≡ count_in file
  pub records : find_records new ≡ find_records file
  pub job : (f : Floor) (q : ℕ) (gs : List ℕ) → same_job f q gs new ≡ same_job f q gs file

-- of edition 2: the old file's bytes from its first record on
module _ (file : List ℕ) (s : Second file) where
  abbrev ahead : ℕ
  ahead = length file - back_in file

  whole : ahead + (second_long + 6 * count_in file) ≡ length file
  whole = omega (arith, s.0.even, s.0.within)

  pub trailer-second : renewed_trailer file ≡ trailer second_long file
  unfolding renewed_trailer
  trailer-second = ap (λ b. choose b (second_of file) (trailer second_long file)) (ne_eqb (edition_in file) 1 (λ z. omega (arith, z, s.0.edition_is)))

  pub renewed-second : renewed file ≡ drop ahead file
  unfolding renewed
  renewed-second =
      let at : ahead + 6 * count_in file ≡ length file - second_long = omega (arith, whole) in
      let end : drop (6 * count_in file) (drop ahead file) ≡ trailer second_long file = drop-drop (6 * count_in file) ahead file ∙ ap (λ (k : ℕ). drop k file) at in
      (λ i. found file (inr s) i ++ (trailer-second ∙ sym end) i) ∙ take-append-drop (6 * count_in file) (drop ahead file)

  -- one that begins with its first record stays as it is
  pub renewed-stays : length file ≤ back_in file → renewed file ≡ file
  renewed-stays h = let none : ahead ≡ 0 = omega arith in renewed-second ∙ ap (λ (k : ℕ). drop k file) none

  renews_second : Renews file (drop ahead file)
  renews_second =
      let left : ahead + (second_long + 6 * count_in file) ≤ length file = omega (arith, whole) in
      record {
        sound = (second_tells (drop ahead file)).holds (second_same file ahead left ∙ (second_tells file).shown s);
        begins = omega (arith, length-drop ahead file, back_same file ahead left, s.0.within);
        count = count_same file ahead left;
        records = records_same file ahead left;
        job = job_same file ahead left;
      }

-- of edition 1: its records laid down before edition 2's trailer of the same one goal
pub trailer_first : (file : List ℕ) → Trailer 1 first_long file → renewed_trailer file ≡ second_of file
unfolding renewed_trailer
trailer_first file t = ap (λ b. choose b (second_of file) (trailer second_long file)) (eq-eqb (edition_in file) 1 t.edition_is)

module _ (file : List ℕ) (b : Bytes file) (t : Trailer 1 first_long file) where
  abbrev old : List ℕ
  old = trailer first_long file

  abbrev goal : List ℕ
  goal = half_at old 2 ∷ []

  abbrev sizes : Floor
  sizes = record { width = get_or old 0 0; height = get_or old 1 0; bytes = [] }

  few : count_in file < 65536
  few = half-small (ending file) (bytes_drop (length file - 12) file b) 2

  small : (i : ℕ) → goal_place goal i < 65536
  small = place-small goal (λ i h. at i h)
    where
      at : (i : ℕ) → i < 1 → get_or goal i 0 < 65536
      at zero h = half-small old (bytes_drop (length file - first_long) file b) 2
      at (suc i) h = absurd (omega arith)

  abbrev new : List ℕ
  new = find_records file ++ trailer_of sizes (scale_in file) goal (count_in file)

  renewed_first : renewed file ≡ new
  unfolding renewed
  renewed_first = ap (λ (l : List ℕ). find_records file ++ l) (trailer_first file t)

  down : Laid sizes (scale_in file) goal (find_records file) (count_in file) new
  down = laid_down sizes (scale_in file) goal (find_records file) (count_in file) (found-long file (inl t)) few small

  -- the new trailer names a job just where the old one does
  named_alike : (f : Floor) (gs : List ℕ) → second_names f gs (trailer second_long new) ≡ first_names f gs old
  named_alike f gs = same_told (second-names f gs (trailer second_long new)) (first_names_lem f gs old) to from
    where
      n : SecondSame sizes goal (trailer second_long new)
      n = down.names

      to : SecondSame f gs (trailer second_long new) → FirstSame f gs old
      to s =
          let one : length gs ≡ 1 = sym s.count ∙ n.count in
          record {
            width = sym n.width ∙ s.width;
            height = sym n.height ∙ s.height;
            goal = sym (n.places 0 (omega arith)) ∙ (s.places 0 (omega arith) ∙ ap (λ (l : List ℕ). goal_place l 0) (list_of_one gs one));
            alone = one;
          }

      from : FirstSame f gs old → SecondSame f gs (trailer second_long new)
      from s =
          let same : goal ≡ gs = ap (λ (x : ℕ). x ∷ []) s.goal ∙ sym (list_of_one gs s.alone) in
          record {
            width = n.width ∙ s.width;
            height = n.height ∙ s.height;
            count = n.count ∙ sym s.alone;
            places = λ i h. n.places i h ∙ ap (λ (l : List ℕ). goal_place l i) same;
          }

  job_alike : (f : Floor) (q : ℕ) (gs : List ℕ) → same_job f q gs new ≡ same_job f q gs file
  unfolding same_job
  job_alike f q gs =
      let two : eqb (edition_in new) 1 ≡ false = ne_eqb (edition_in new) 1 (λ z. omega (arith, z, down.sound.0.edition_is)) in
      let one : eqb (edition_in file) 1 ≡ true = eq-eqb (edition_in file) 1 t.edition_is in
      let name : named f gs new ≡ named f gs file =
      ap (λ b. choose b (first_names f gs (trailer first_long new)) (second_names f gs (trailer second_long new))) two
      ∙ (named_alike f gs ∙ sym (ap (λ b. choose b (first_names f gs old) (second_names f gs (trailer second_long file))) one)) in
      ap₂ (λ b (x : ℕ). unless (b && eqb x q) 14) name down.scale

  renews_first : Renews file new
  renews_first = record { sound = down.sound; begins = down.begins; count = down.counts; records = down.finds; job = job_alike }

-- how long it is
trailer-long : (file : List ℕ) → Ended file → length (renewed_trailer file) ≡ second_long
trailer-long file (inl t) = ap length (trailer_first file t) ∙ length-trailer (record { width = _; height = _; bytes = [] }) (scale_in file) _ (count_in file)
trailer-long file (inr s) = ap length (trailer-second file s) ∙ (length-drop (length file - second_long) file ∙ omega (arith, s.0.room))

pub renewed-long : (file : List ℕ) → Ended file → length (renewed file) ≡ second_long + 6 * count_in file
unfolding renewed
renewed-long file t = length-append (find_records file) (renewed_trailer file) ∙ omega (arith, found-long file t, trailer-long file t)

pub renews : (file : List ℕ) → Bytes file → Ended file → Renews file (renewed file)
renews file b (inl t) = subst (Renews file) (sym (renewed_first file b t)) (renews_first file b t)
renews file b (inr s) = subst (Renews file) (sym (renewed-second file s)) (renews_second file s)

-- ---- reading it

-- The reader as it was while bytes ahead of the last table were ignored: without 28. For the comparison with the one that has it, and for nothing else.
abbrev pub verdict_before : Floor → ℕ → Goals → (file : List ℕ) → (figures : ℕ) → Verdict
verdict_before f q g file figures = then (open_table f q g figures) (then (check_trailer file) (judge_table f q (goals_of g) file))

abbrev pub table_before : Floor → ℕ → Goals → (file table : List ℕ) → List ℕ
table_before f q g file table = read_of (verdict_before f q g file (length table)) f q g file table

pub before_gives : (f : Floor) (q : ℕ) (g : Goals) (file : List ℕ) (n : ℕ) → verdict_before f q g file n ≡ Ok tt → Readable f q g file n
before_gives f q g file n e =
    let a = then_done _ _ e in
    let b = then_done _ _ a.1 in
    let c = then_done _ _ b.1 in
    record { opens = a.0; checked = b.0; same = c.0; records = c.1 }

module _ (f : Floor) (q : ℕ) (g : Goals) where
  -- 28 is answered where bytes stand ahead, and nothing before it in the order of checks is refused
  pub bytes_ahead_are_refused : (file : List ℕ) (n : ℕ) → open_table f q g n ≡ Ok tt → check_trailer file ≡ Ok tt → back_in file < length file
      → read_verdict f q g file n ≡ refuse_at 28 P.Nowhere
  unfolding read_verdict
  bytes_ahead_are_refused file n o c h = then_next _ o ∙ (then_next _ c ∙ then_refused _ ((ahead_judges file).refused (λ w. omega arith)))

  -- and a file that begins with its first record is read as before
  pub read_as_before : (file : List ℕ) (n : ℕ) → length file ≤ back_in file → read_verdict f q g file n ≡ verdict_before f q g file n
  unfolding read_verdict
  read_as_before file n h = ap (λ v. then (open_table f q g n) (then (check_trailer file) v)) (then_next _ ((ahead_judges file).done h))

  -- "The same figures": reading the new file, for any floor and job, gives the verdict and the table that reading the old file's last table gave
  module _ (file : List ℕ) (b : Bytes file) (c : check_trailer file ≡ Ok tt) where
    r : Renews file (renewed file)
    r = renews file b ((trailer_judges file).gives c)

    pub renewed_is_judged_as_before : (n : ℕ) → read_verdict f q g (renewed file) n ≡ verdict_before f q g file n
    renewed_is_judged_as_before n =
        let gs = goals_of g in
        let checked : check_trailer (renewed file) ≡ check_trailer file = (trailer_judges (renewed file)).done (second_ended (renewed file) r.sound) ∙ sym c in
        read_as_before (renewed file) n r.begins
        ∙ (λ i. then (open_table f q g n) (then (checked i) (then (r.job f q gs i) (judge_records f q gs (r.count i) 0 0 (r.records i)))))

    pub renewed_reads_as_before : (table : List ℕ) → read_table f q g (renewed file) table ≡ table_before f q g file table
    unfolding read_table
    renewed_reads_as_before table =
        ap (λ v. read_of v f q g (renewed file) table) (renewed_is_judged_as_before (length table)) ∙ by (verdict_before f q g file (length table))
      where
        by : (v : Verdict) → read_of v f q g (renewed file) table ≡ read_of v f q g file table
        by (Ok _) = (λ i. applied (r.count i) (r.records i) (opening_table f q (goals_of g)))
        by (Err x) = refl

-- ---- the last part of a stream

-- However much went ahead: its last bytes, as many as a file can have from its first record on, are renewed as all of it is.
pub last_bytes_renew : (all buffer : List ℕ) (m : ℕ) → longest ≤ m → m ≤ length all → Bytes (at_end m all) → renew_file (at_end m all) buffer ≡ renew_file all buffer
unfolding renew_file renew_verdict
last_bytes_renew all buffer m h l b =
    let k : ℕ = length all - m in
    let same : ending (drop k all) ≡ ending all = end_behind 12 k all (omega arith) in
    let few = half-small (ending (drop k all)) (bytes_drop (length (drop k all) - 12) (drop k all) b) 2 in
    let count : count_in (drop k all) ≡ count_in all = ap (λ (t : List ℕ). half_at t 2) same in
    let left : k + (second_long + 6 * count_in all) ≤ length all = omega (arith, few, count) in
    (λ i. write_of (then (check_same all k left i) (file_room (length (renewed_same all k left i)) (length buffer))) (renewed_same all k left i) buffer)

-- and so many places are room enough: 17 is not answered
pub longest_has_room : (file : List ℕ) (room : ℕ) → Bytes file → longest ≤ room → renew_verdict file room ≡ check_trailer file
unfolding renew_verdict
longest_has_room file room b h = by (check_trailer file) refl
  where
    by : (v : Verdict) → check_trailer file ≡ v → then v (file_room (length (renewed file)) room) ≡ v
    by (Err r) e = refl
    by (Ok _) e =
        let few = half-small (ending file) (bytes_drop (length file - 12) file b) 2 in
        (room_judges (length (renewed file)) room).done (omega (arith, few, renewed-long file ((trailer_judges file).gives e)))
