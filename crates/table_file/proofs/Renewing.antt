-- A file renewed as code does it: its checks, and the records with edition 2's trailer put behind them.
use mathlib.Core.Path.{◌≡◌, sym, ◌∙◌, ap}
use mathlib.Core.Bool.{true}
use mathlib.Core.List.{List, []}
use mathlib.Core.Logic.{⊎_elim}
use Prim.Native.Nat.{ℕ, ◌+◌, ◌*◌, ◌≤◌}
use native.Mathlib.Omega.{arith}
use lib.ListN.{length}
use Rattle.std.specs.Prelude.{Ok}
use Rattle.model.specs.TableFile.{half_at, first_long, second_long, trailer, scale_in, edition_in, count_in, trailer_holds, find_records, trailer_of}
use Rattle.model.specs.Renewal.{renewed_trailer, renewed, renew_verdict}
use Rattle.model.proofs.Accepted.{then_done}
use Rattle.model.proofs.Benches.{goals_one}
use Rattle.model.proofs.Files.{Trailer, Second, trailer_tells, found-long}
use Rattle.model.proofs.Renewed.{trailer_first, trailer-second, renewed-long}
use Rattle.model.proofs.Writings.{room_judges}
use Rattle.floor.specs.Moves.{flat}
use Rattle.table_file.specs.Trailer.{trailer_at, named_in}
use Rattle.table_file.proofs.Reading.{checked}

module _ (file : List ℕ) (held : trailer_holds file ≡ true) where
  -- 17 asks for so much
  pub renewed-bytes : length (renewed file) ≡ second_long + 6 * count_in file
  renewed-bytes = renewed-long file ((trailer_tells file).holds held)

  -- the trailer: of edition 1 it is made anew, of edition 2 copied
  pub first_put : edition_in file ≡ 1 → trailer_at (named_in file) (count_in file) ≡ renewed_trailer file
  first_put one =
      let t : Trailer 1 first_long file = ⊎_elim (λ t. t) (λ t. absurd (omega (arith, one, t.0.edition_is))) ((trailer_tells file).holds held) in
      ap (λ (gs : List ℕ). trailer_of (flat (named_in file).width (named_in file).height []) (scale_in file) gs (count_in file)) (goals_one (half_at (trailer first_long file) 2)) ∙ sym (trailer_first file t)

  pub second-put : {n : ℕ} → n ≡ edition_in file → (n ≡ 1 → ⊥) → trailer second_long file ≡ renewed_trailer file
  second-put d other =
      let s : Second file = ⊎_elim (λ t. absurd (other (d ∙ t.edition_is))) (λ t. t) ((trailer_tells file).holds held) in
      sym (trailer-second file s)

-- what an accepted renewing has shown
pub renew-gives : (file : List ℕ) (room : ℕ) → renew_verdict file room ≡ Ok tt → (trailer_holds file ≡ true) × (length (find_records file) + second_long ≤ room) × (length (renewed file) ≤ room)
unfolding renew_verdict
renew-gives file room e =
    let (sound, roomy) = then_done _ _ e in
    let held = checked file sound in
    let fits = (room_judges _ room).gives roomy in
    (held, omega (arith, renewed-bytes file held, fits, found-long file ((trailer_tells file).holds held)), fits)
