-- Where the writer's loops stand: what is left to count, or to put, makes the whole. And what its checks have shown of the file.
use mathlib.Core.Path.{◌≡◌, refl, sym, ◌∙◌, ap, subst}
use mathlib.Core.List.{List, [], ◌∷◌, ◌++◌, append_assoc, append-nil}
use Prim.Native.Nat.{ℕ, zero, suc, ◌+◌, ◌-◌, ◌*◌, ◌≤◌, ◌<◌}
use native.Mathlib.Numerals.{add-one}
use native.Mathlib.Omega.{arith}
use lib.ListN.{length, get_or, length-append}
use Rattle.std.specs.Prelude.{Ok}
use Rattle.model.specs.Basics.{then, naming}
use Rattle.model.specs.Checks.{figures}
use Rattle.model.specs.Writing.{file_room}
use Rattle.model.proofs.Accepted.{then_done}
use Rattle.model.proofs.Writings.{room_judges}
use Rattle.floor.specs.Moves.{flat}
use Rattle.model.specs.Floor.{Floor, size, opening}
use Rattle.model.specs.TableFile.{half, word, goal_place, changed, records_of, unlike, trailer_of, file_of}
use Rattle.model.proofs.Files.{changed_same, changed_more}
use Rattle.notation.specs.declared.print.Printer.{Printer}
use Rattle.notation.specs.Prints.{Prints, HasRoom}
use Rattle.notation.proofs.Prints.{prints_none, prints_then, room_left}
use Rattle.table_file.specs.Trailer.{places_to}

-- n of the first x cells differ from their opening figure
pub record Counting (f : Floor) (q : ℕ) (gs table : List ℕ) (all n x : ℕ) : Type 0 where
  pub most : x ≤ all
  pub few : n ≤ x
  pub left : n + length (changed f q gs table (all - x) x) ≡ length (changed f q gs table all 0)

module _ {f : Floor} {q : ℕ} {gs table : List ℕ} {all : ℕ} where
  module _ {n x : ℕ} (g : Counting f q gs table all n x) where
    pub counting_same : get_or table x 0 ≡ opening f q gs x → x < all → Counting f q gs table all n (x + 1)
    counting_same e l =
        let k : all - x ≡ suc (all - suc x) = omega arith in
        record {
          most = omega arith;
          few = omega (arith, g.few);
          left = rw (add-one x) (rw (k, changed_same f q gs table (all - suc x) x e) at g.left);
        }

    pub counting_more : (get_or table x 0 ≡ opening f q gs x → ⊥) → x < all → Counting f q gs table all (n + 1) (x + 1)
    counting_more e l =
        let k : all - x ≡ suc (all - suc x) = omega arith in
        let h = rw (k, changed_more f q gs table (all - suc x) x e) at g.left in
        record { most = omega arith; few = omega (arith, g.few); left = rw (add-one x) (omega (arith, h)) }

    pub counting_all : all ≤ x → n ≡ length (changed f q gs table all 0)
    unfolding changed
    counting_all l = let e : all - x ≡ 0 = omega arith in let h = rw e at g.left in omega (arith, h)

-- records of the first x cells are put: those and the ones that are left make the whole
pub record Putting (f : Floor) (q : ℕ) (gs table : List ℕ) (p₀ p : Printer) (all x : ℕ) : Type 0 where
  pub most : x ≤ all
  pub room : HasRoom p (6 * length (changed f q gs table (all - x) x))
  pub front : List ℕ
  pub printed : Prints p₀ front p
  pub whole : front ++ records_of table (changed f q gs table (all - x) x) ≡ records_of table (changed f q gs table all 0)

module _ {f : Floor} {q : ℕ} {gs table : List ℕ} {p : Printer} {all : ℕ} where
  pub putting : HasRoom p (6 * length (changed f q gs table all 0)) → Putting f q gs table p p all 0
  putting h = let e : all - 0 ≡ all = omega arith in record { most = omega arith; room = rw e h; front = []; printed = prints_none p; whole = rw e refl }

module _ {f : Floor} {q : ℕ} {gs table : List ℕ} {p₀ p : Printer} {all x : ℕ} (g : Putting f q gs table p₀ p all x) where
  module _ (l : x < all) where
    one_more : all - x ≡ suc (all - suc x)
    one_more = omega arith

    pub putting_same : get_or table x 0 ≡ opening f q gs x → Putting f q gs table p₀ p all (x + 1)
    putting_same e =
        let s : changed f q gs table (all - x) x ≡ changed f q gs table (all - suc x) (suc x) = ap (λ (n : ℕ). changed f q gs table n x) one_more ∙ changed_same f q gs table (all - suc x) x e in
        record { most = omega arith; room = rw (add-one x) (rw s at g.room); front = g.front; printed = g.printed; whole = rw (add-one x) (rw s at g.whole) }

    module _ (e : get_or table x 0 ≡ opening f q gs x → ⊥) where
      abbrev others : List ℕ
      others = changed f q gs table (all - suc x) (suc x)

      this_first : changed f q gs table (all - x) x ≡ x ∷ others
      this_first = ap (λ (n : ℕ). changed f q gs table n x) one_more ∙ changed_more f q gs table (all - suc x) x e

      -- room for its record, and for the others
      pub record_room : HasRoom p (6 + 6 * length others)
      record_room = omega (arith, g.room, ap length this_first)

      pub putting_more : {m r : Printer} {figure : ℕ} → figure ≡ get_or table x 0 → Prints p (half x) m → Prints m (word figure) r → Putting f q gs table p₀ r all (x + 1)
      unfolding records_of
      putting_more {r = r} {figure = figure} d P Q =
          let this : List ℕ = half x ++ word (get_or table x 0) in
          let R : Prints p this r = subst (λ (n : ℕ). Prints p (half x ++ word n) r) d (prints_then P Q) in
          record {
            most = omega arith;
            room = rw (add-one x) (room_left R _ _ record_room (omega arith));
            front = g.front ++ this;
            printed = prints_then g.printed R;
            whole = rw (add-one x) (append_assoc g.front this (records_of table others) ∙ (rw this_first at g.whole));
          }

  pub putting_all : all ≤ x → Prints p₀ (records_of table (changed f q gs table all 0)) p
  unfolding changed records_of
  putting_all l = let e : all - x ≡ 0 = omega arith in subst (λ ys. Prints p₀ ys p) (sym (append-nil g.front) ∙ (rw e at g.whole)) g.printed

-- the goal places: each has 2 bytes
pub places-long : (gs : List ℕ) (n : ℕ) → length (places_to gs n) ≡ 2 * n
places-long gs zero = refl
places-long gs (suc n) = length-append (places_to gs n) (half (goal_place gs n)) ∙ omega (arith, places-long gs n)

-- ---- the file

-- what the checks past the opening have shown
pub table-fits : (f : Floor) (q : ℕ) (gs table : List ℕ) (room : ℕ) → then (figures f table) (then (naming (size f) (unlike f q gs table) 16) (file_room (length (file_of f q gs table)) room)) ≡ Ok tt
    → length (file_of f q gs table) ≤ room
table-fits f q gs table room e = (room_judges _ room).gives (then_done _ _ (then_done _ _ e).1).1

-- the records and the trailer behind them, which counts them
pub file_printed : (f : Floor) (q : ℕ) (gs table : List ℕ) {p m e : Printer} {n : ℕ} → n ≡ length (changed f q gs table (size f) 0) → Prints p (records_of table (changed f q gs table (size f) 0)) m
    → Prints m (trailer_of (flat f.width f.height []) q gs n) e → Prints p (file_of f q gs table) e
unfolding file_of trailer_of
file_printed f q gs table {m = m} {e = e} c P Q = prints_then P (subst (λ k. Prints m (trailer_of (flat f.width f.height []) q gs k) e) c Q)
