-- A table file renewed: "a program takes such a file and writes edition 2 from the last table alone, the same figures". No floor is at hand, so no table is judged.
use Rattle.std.specs.Prelude.{ℕ, ◌+◌, ◌*◌, List, [], ◌∷◌, ◌++◌, eqb, length, get_or}
use Rattle.answers.specs.Outcomes.{Verdict}
use Rattle.model.specs.Basics.{choose, then}
use Rattle.model.specs.TableFile.{half_at, first_long, second_long, trailer, scale_in, edition_in, count_in, check_trailer, find_records, trailer_of}
use Rattle.model.specs.Writing.{file_room, WriteOutcome, write_of}

-- edition 1's trailer as edition 2's, of the same width, height, one goal, q and count: what the writer puts for a floor of these sizes
abbrev pub second_of : List ℕ → List ℕ
second_of file =
    let t = trailer first_long file in
    trailer_of (record { width = get_or t 0 0; height = get_or t 1 0; bytes = [] }) (scale_in file) (half_at t 2 ∷ []) (count_in file)

-- edition 2's stays as it stands
unfoldable pub renewed_trailer : List ℕ → List ℕ
renewed_trailer file = choose (eqb (edition_in file) 1) (second_of file) (trailer second_long file)

-- "the last table alone": its records, and edition 2's trailer
unfoldable pub renewed : List ℕ → List ℕ
renewed file = find_records file ++ renewed_trailer file

-- 13, then 17; nothing else is judged
unfoldable pub renew_verdict : (file : List ℕ) → (room : ℕ) → Verdict
renew_verdict file room = then (check_trailer file) (file_room (length (renewed file)) room)

-- It fills the list from the first byte, answers the length and touches nothing beyond.
unfoldable pub renew_file : (file buffer : List ℕ) → WriteOutcome
renew_file file buffer = write_of (renew_verdict file (length buffer)) (renewed file) buffer

-- The longest that a file can be from its first record on: a count has 2 bytes. Whoever holds that many of a stream's last bytes holds its last table.
abbrev pub longest : ℕ
longest = second_long + 6 * 65535
