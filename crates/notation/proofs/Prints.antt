-- A printer's writes one after another: what they print, and the room that each leaves to the next. Assumes nothing.
use Prim.Native.Nat.{ℕ, ◌+◌, ◌%◌, ◌/◌, ◌≤◌, ◌<◌}
use mathlib.Core.Path.{◌≡◌, refl, sym, ap, ◌∙◌, subst}
use mathlib.Core.List.{List, [], ◌∷◌, ◌++◌}
use native.Mathlib.Omega.{arith}
use lib.ListN.{length, drop, length-append}
use lib.Seq.{length-sets, sets-eq}
use Rattle.model.specs.Line.{decimal}
use Rattle.notation.specs.declared.print.Printer.{Printer}
use Rattle.notation.specs.Printing.{Printed}
use Rattle.notation.specs.Prints.{Prints, HasRoom}
use Rattle.notation.proofs.Decimals.{printed_then, printed_none, digit_one, digit_last}

pub prints_none : (p : Printer) → Prints p [] p
prints_none p = record { lent = refl; printed = printed_none p.out.now p.at }

module _ {p m : Printer} {xs : List ℕ} (P : Prints p xs m) where
  pub prints_then : {e : Printer} {ys : List ℕ} → Prints m ys e → Prints p (xs ++ ys) e
  prints_then {ys = ys} Q = record { lent = Q.lent ∙ P.lent; printed = printed_then xs ys P.printed Q.printed }

  -- the list keeps its length
  pub same_length : length m.out.now ≡ length p.out.now
  same_length = ap length P.printed.written ∙ length-sets p.out.now p.at xs

  pub room_left : (k n : ℕ) → HasRoom p k → length xs + n ≤ k → HasRoom m n
  room_left k n h l = omega (arith, h, l, same_length, P.printed.next)

-- what is printed from the first byte of a list on stands at its front, and what is behind it stays
pub prints_whole : {p e : Printer} (text : List ℕ) {list after : List ℕ} → Prints p text e → p.out.now ≡ list → p.at ≡ 0 → length text ≤ length list → after ≡ e.out.now
    → (e.at ≡ length text) × (after ≡ text ++ drop (length text) list)
prints_whole {p} {e} text {list} P b z h a =
    let first : Printed list 0 text e.out.now e.at = rw (b, z) at P.printed in
    let n : 0 + length text ≡ length text = omega arith in
    (first.next ∙ n, a ∙ first.written ∙ (rw n at (sets-eq text list 0 (omega arith))))

-- the digits of n but the last, of which a number of one digit has none
pub record Front (n : ℕ) (p m : Printer) : Type 0 where
  pub digits : List ℕ
  pub printed : Prints p digits m
  pub whole : decimal n ≡ digits ++ (48 + n % 10) ∷ []

pub front_none : (n : ℕ) (p : Printer) → n ≤ 9 → Front n p p
front_none n p h = record { digits = []; printed = prints_none p; whole = digit_one n h ∙ ap (λ (k : ℕ). (48 + k) ∷ []) (omega arith) }

pub front_some : {n : ℕ} {p m : Printer} → 9 < n → n < 18446744073709551616 → Prints p (decimal (n / 10)) m → Front n p m
front_some {n} h k P = record { digits = decimal (n / 10); printed = P; whole = digit_last n h k }

module _ {n : ℕ} {p m : Printer} (F : Front n p m) where
  pub room_last : HasRoom p (length (decimal n)) → HasRoom m 1
  room_last h = room_left F.printed _ 1 h (omega (arith, ap length F.whole, length-append F.digits ((48 + n % 10) ∷ [])))

  pub prints_last : {e : Printer} → Prints m ((48 + n % 10) ∷ []) e → Prints p (decimal n) e
  prints_last {e} Q = subst (λ ds. Prints p ds e) (sym F.whole) (prints_then F.printed Q)
