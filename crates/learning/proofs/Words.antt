-- The words of a proof of a function, passed on under one name: what `search` and `omega` are handed, equations, numbers, truth values, lists, and tests of the code as facts.
pub use Prim.Native.Nat.{◌-◌, ◌≤◌, ℕ, ◌+◌, ◌<◌, ◌*◌, ◌/◌, ◌%◌, suc, min}
pub use borrow.Author.Count.{below_more}
pub use borrow.Author.Rules.{rules}
pub use borrow.Author.Tests.{not-true, not-false, ne_eqb, eq-eqb, le-ltb, lt-ltb, le-leb, lt-leb}
pub use lib.Dec.{lit<, eqb, ltb, lit≤, leb}
pub use lib.ListN.{length, get_or, length-set, take, drop, set, get_or-eq_default, length-replicate, length-drop, replicate, length-take, length-append}
pub use lib.Seq.{length-take-le, sets, set-get_or, set_out}
pub use mathlib.Core.Bool.{true, false, Bool, ◌||◌, ◌&&◌, true≢false}
pub use mathlib.Core.List.{List, ◌++◌, [], ◌∷◌}
pub use mathlib.Core.Logic.{⊎_elim, inl, inr}
pub use mathlib.Core.Path.{◌∙◌, sym, ◌≡◌, ap, refl, subst, ap₂}
pub use native.Mathlib.Decide.{ℕ_discrete, dec_le, dec_lt}
pub use native.Mathlib.Nat.{mul-le-mul, lt_of_le_of_lt, mod-lt, div-add-mod', div-le_self}
pub use native.Mathlib.Numerals.{add-one}
pub use native.Mathlib.Omega.{arith}
