-- What it is to tell a text through a list of 65,536 places that is written out when it is nearly full.
-- No contract can say what the C library writes. So one promise is on what is handed to it, the list's first bytes, and on standard output;
-- and one on what stands in the list: it is the end of the text, after as many bytes as are handed out, and all of it where it is short.
use Rattle.std.specs.Prelude.{ℕ, ◌≤◌, ◌<◌, ◌≡◌, Bool, true, false, List, [], ◌∷◌, ◌++◌, ℤ, pos, length, take, drop}
use Rattle.answers.specs.declared.Job.{Job}
use Rattle.answers.specs.declared.Report.{Report}
use Rattle.model.specs.Ride.{Ride}
use Rattle.model.specs.Line.{trial_line}
use Rattle.notation.specs.declared.print.Printer.{Printer}
use Rattle.run.specs.Trials.{Rode}

-- After the bytes that stand there a text is told: what stands there then is all of it but some bytes at its front, which are written out.
-- Nothing is written out of what leaves 512 places.
pub record Follows (standing text after : List ℕ) : Type 0 where
  pub gone : ℕ
  pub within : gone ≤ length (standing ++ text)
  pub rest : after ≡ drop gone (standing ++ text)
  pub whole : length (standing ++ text) ≤ 65024 → gone ≡ 0

-- what may be handed to the C library to write: on standard output, and the first bytes of the list
pub record Front (fd : ℤ) (part out : List ℕ) : Type 0 where
  pub standard : fd ≡ pos 1
  pub first : part ≡ take (length part) out

-- a list of 65,536 places, of which 512 are left
pub record Room (p : Printer) : Type 0 where
  pub size : length p.out.now ≡ 65536
  pub left : p.at ≤ 65024

-- what is printed is written out where fewer than 512 places are left
pub record Spilt (p p' : Printer) : Type 0 where
  pub lent : p'.out.ghost_name ≡ p.out.ghost_name
  pub same : p'.out.now ≡ p.out.now
  pub kept : p.at ≤ 65024 → p'.at ≡ p.at
  pub spilt : 65024 < p.at → p'.at ≡ 0

-- a text is told after what is printed; and 512 places are left
pub record Told (p : Printer) (text : List ℕ) (p' : Printer) : Type 0 where
  pub lent : p'.out.ghost_name ≡ p.out.ghost_name
  pub room : Room p'
  pub follows : Follows (take p.at p.out.now) text (take p'.at p'.out.now)

-- the same of the last text, after which 512 places need not be left
pub record Ended (p : Printer) (text : List ℕ) (p' : Printer) : Type 0 where
  pub lent : p'.out.ghost_name ≡ p.out.ghost_name
  pub size : length p'.out.now ≡ 65536
  pub within : p'.at ≤ 65536
  pub follows : Follows (take p.at p.out.now) text (take p'.at p'.out.now)

-- whether there are some
abbrev pub some : List ℕ → Bool
some [] = false
some (m ∷ ms) = true

-- what a trial line says where there was no move
abbrev pub dash : Bool → List ℕ
dash true = []
dash false = 45 ∷ []

-- a trial: the model's ride o, and its line is told
pub record Trips (j : Job) (bytes : List ℕ) (o : Ride) (r : Report) (table path : List ℕ) (p p' : Printer) : Type 0 where
  pub rode : Rode j bytes o r table path
  pub told : Told p (trial_line j bytes o) p'
