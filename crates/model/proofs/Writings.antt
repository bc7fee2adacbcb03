-- What writing answers and leaves, by its verdict, and what an answer tells: of every call that writes, be it a table file or a floor text. Assumes nothing.
use Prim.Native.Nat.{ℕ, ◌≤◌}
use mathlib.Core.Path.{◌≡◌, refl, sym, ap, ◌∙◌}
use mathlib.Core.List.{List, ◌++◌}
use native.Mathlib.Omega.{arith}
use lib.ListN.{length, take, drop}
use lib.Seq.{take_at}
use Rattle.answers.specs.Says.{says_written}
use Rattle.answers.specs.declared.Refusal.{Refusal}
use Rattle.answers.specs.Outcomes.{Verdict}
use Rattle.std.specs.Prelude.{Ok, Err}
use Rattle.answers.proofs.One.{written_one}
use Rattle.model.specs.Writing.{file_room, write_of, Writes}
use Rattle.model.proofs.Accepted.{Judges, unless_judges, le_tells}

-- 17
pub room_judges : (bytes room : ℕ) → Judges (file_room bytes room) 17 (bytes ≤ room)
unfolding file_room
room_judges bytes room = unless_judges _ 17 (le_tells bytes room)

module _ (file buffer : List ℕ) {u v : Verdict} (e : v ≡ u) where
  pub writes_refused : (r : Refusal) → v ≡ Err r → Writes (write_of u file buffer) (Err r) buffer
  writes_refused r h = rw (sym e ∙ h) (record { answer = refl; buffer = refl })

  pub writes_done : (n : ℕ) (after : List ℕ) → v ≡ Ok tt → n ≡ length file → after ≡ file ++ drop (length file) buffer → Writes (write_of u file buffer) (Ok n) after
  writes_done n after h long k = rw (sym e ∙ h) (record { answer = ap (λ (m : ℕ). says_written (Ok m)) long; buffer = k })

-- where a length is answered nothing was refused, and the file stands in so many of the buffer's first places
pub writes_told : (v : Verdict) (file buffer : List ℕ) {n : ℕ} {b : List ℕ} → Writes (write_of v file buffer) (Ok n) b → (v ≡ Ok tt) × (n ≡ length file) × (take n b ≡ file)
writes_told (Err x) file buffer w = absurd (omega (arith, ap (λ s. s.kind) w.answer))
writes_told (Ok _) file buffer {n} w =
    let same = written_one (Ok n) (Ok (length file)) w.answer in
    let long : n ≡ length file = cc in
    (refl, long, ap (take n) w.buffer ∙ take_at file (drop (length file) buffer) n (sym long))
