-- The last part of a stream in a list: what is held, where the oldest go and where more is put behind; room made for more.
-- Assumes nothing.
use mathlib.Core.Path.{◌≡◌, refl, sym, ap, ◌∙◌}
use mathlib.Core.List.{List, [], ◌++◌}
use mathlib.Core.Logic.{inl, inr, ⊎_elim}
use Prim.Native.Nat.{ℕ, ◌+◌, ◌-◌, ◌≤◌}
use native.Mathlib.Omega.{arith}
use lib.ListN.{length, take, drop, length-append, length-drop}
use lib.Seq.{length-sets, length-take-le, length_front, take-add, take_at, drop_at, drop-drop, drop-append-le}
use Rattle.model.specs.Renewal.{longest}
use Rattle.notation.specs.Printing.{Printed}
use Rattle.notation.specs.declared.print.Printer.{Printer}
use Rattle.notation.specs.Prints.{Prints}
use Rattle.notation.proofs.Decimals.{printed_front}
use Rattle.renew.specs.Kept.{Kept}

-- the oldest of what a list holds go: as many as the longest file has stay, moved to its front
module _ (kept : List ℕ) (held : ℕ) (list : List ℕ) (e : list ≡ take longest (drop (held - longest) kept) ++ drop longest kept) (h : longest ≤ held) (w : held ≤ length kept) where
  front : length (take longest (drop (held - longest) kept)) ≡ longest
  front = length-take-le longest (drop (held - longest) kept) (omega (arith, length-drop (held - longest) kept))

  length-longest : length list ≡ length kept
  length-longest = ap length e ∙ length_front kept (take longest (drop (held - longest) kept)) longest (front ∙ sym (length-take-le longest kept (omega arith)))

  kept-longest : (all : List ℕ) → Kept all kept held → Kept all list longest
  kept-longest all g =
      let k : ℕ = held - longest in
      let p : length (take k kept) ≡ k = length-take-le k kept (omega arith) in
      let j : held ≡ k + longest = omega arith in
      let z : length all - held + k ≡ length all - longest = omega (arith, g.some) in
      record {
        within = omega (arith, length-longest);
        some = omega (arith, g.some);
        last = ap (take longest) e ∙ take_at (take longest (drop k kept)) (drop longest kept) longest front
            ∙ sym (ap (λ (i : ℕ). drop k (take i kept)) j ∙ ap (drop k) (take-add k longest kept) ∙ drop_at (take k kept) (take longest (drop k kept)) k p)
            ∙ ap (drop k) g.last ∙ drop-drop k (length all - held) all ∙ ap (λ (i : ℕ). drop i all) z;
        enough = inr (omega arith);
      }

-- at first nothing is held, of nothing
pub kept_none : (kept : List ℕ) → Kept [] kept 0
kept_none kept = record { within = omega arith; some = omega arith; last = refl; enough = inl refl }

-- more is put behind what a list holds
kept_more : {held end : ℕ} {all kept more list : List ℕ} → Kept all kept held → Printed kept held more list end → held + length more ≤ length kept → Kept (all ++ more) list end
kept_more {held} {end} {all} {kept} {more} {list} g p h =
    let m : ℕ = length more in
    let l : length (all ++ more) ≡ length all + m = length-append all more in
    let z : length all - held ≡ length (all ++ more) - (held + m) = omega (arith, g.some) in
    let e = p.next in
    record {
      within = omega (arith, ap length p.written, length-sets kept held more);
      some = omega (arith, g.some);
      last = printed_front more p h ∙ ap (λ (r : List ℕ). r ++ more) g.last ∙ sym (drop-append-le (length all - held) all more (omega arith))
          ∙ ap (λ (k : ℕ). drop k (all ++ more)) z ∙ ap (λ (k : ℕ). drop (length (all ++ more) - k) (all ++ more)) (sym e);
      enough = ⊎_elim (λ a. inl (omega arith)) (λ a. inr (omega arith)) g.enough;
    }

-- room for more behind what stays in a list
pub record Roomy (kept₀ : List ℕ) (held : ℕ) (more kept : List ℕ) (stay : ℕ) : Type 0 where
  -- as much as there is of it
  pub room : stay + length more ≤ length kept
  -- the list is as long as it was
  pub same : length kept ≡ length kept₀
  -- and holds the last of all that went in, as before
  pub still : (all : List ℕ) → Kept all kept₀ held → Kept all kept stay

module _ (kept₀ : List ℕ) (held : ℕ) (more : List ℕ) (w : held ≤ length kept₀) where
  pub roomy : length more ≤ length kept₀ - held → Roomy kept₀ held more kept₀ held
  roomy h = record { room = omega arith; same = refl; still = λ all g. g }

  pub roomy-moved : (kept : List ℕ) → kept ≡ take longest (drop (held - longest) kept₀) ++ drop longest kept₀ → longest ≤ held → longest + length more ≤ length kept₀
      → Roomy kept₀ held more kept longest
  roomy-moved kept e h r =
      let l : length kept ≡ length kept₀ = length-longest kept₀ held kept e h w in
      record { room = omega arith; same = l; still = kept-longest kept₀ held kept e h w }

pub roomy_more : {kept₀ more list : List ℕ} {held : ℕ} {p m : Printer} → Roomy kept₀ held more p.out.now p.at → Prints p more m → list ≡ m.out.now
    → (all : List ℕ) → Kept all kept₀ held → Kept (all ++ more) list m.at
roomy_more g P e all k = rw e (kept_more (g.still all k) P.printed g.room)
