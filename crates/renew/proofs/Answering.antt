-- What the program answers of a stream's last bytes it answers of the whole: by the law of the last bytes. Assumes nothing.
use Prim.Native.Nat.{ℕ, ◌-◌, ◌≤◌}
use mathlib.Core.Path.{◌≡◌, sym, ap, subst, ◌∙◌}
use mathlib.Core.List.{List}
use mathlib.Core.Logic.{⊎_elim}
use native.Mathlib.Omega.{arith}
use lib.ListN.{length, take, drop}
use Rattle.answers.specs.Outcomes.{Written}
use Rattle.std.specs.Prelude.{Ok}
use Rattle.model.specs.Basics.{at_end}
use Rattle.model.specs.TableFile.{check_trailer}
use Rattle.model.specs.Renewal.{renewed, renew_verdict, renew_file}
use Rattle.model.specs.Writing.{Writes}
use Rattle.model.proofs.Accepted.{then_done}
use Rattle.model.proofs.Records.{Bytes, bytes_drop}
use Rattle.model.proofs.Renewed.{last_bytes_renew}
use Rattle.model.proofs.Writings.{room_judges, writes_told}
use Rattle.renew.specs.Kept.{Kept}
use Rattle.renew.specs.Answers.{Answered}

-- a length that is answered fits in the list that was lent
fits : (file buffer : List ℕ) {n : ℕ} {b : List ℕ} → Writes (renew_file file buffer) (Ok n) b → n ≤ length buffer
unfolding renew_file renew_verdict
fits file buffer w =
    let (done, long, same) = writes_told (renew_verdict file (length buffer)) (renewed file) buffer w in
    omega (arith, long, (room_judges (length (renewed file)) (length buffer)).gives (then_done (check_trailer file) _ done).1)

-- the last bytes that are held, all of the stream or as many as the longest file has, are renewed as the stream is
same_renewed : (all kept last buffer : List ℕ) → Bytes all → Kept all kept (length last) → take (length last) kept ≡ last → renew_file last buffer ≡ renew_file all buffer
same_renewed all kept last buffer b k e =
    let m = length last in
    let end : last ≡ at_end m all = sym e ∙ k.last in
    ap (λ (l : List ℕ). renew_file l buffer) end
    ∙ ⊎_elim (λ h. let none : length all - m ≡ 0 = omega arith in ap (λ (i : ℕ). renew_file (drop i all) buffer) none)
    (λ h. last_bytes_renew all buffer m h k.some (bytes_drop (length all - m) all b))
    k.enough

pub answered : (last out : List ℕ) (r : Written) (out' : List ℕ) → length out' ≡ length out → Writes (renew_file last out) r out' → Answered last out r out'
answered last out r out' same w = record {
  held = w;
  whole = λ all kept b k e. subst (λ o. Writes o r out') (same_renewed all kept last out b k e) w;
  fits = λ n e. omega (arith, same, fits last out (subst (λ r. Writes (renew_file last out) r out') e w));
}
