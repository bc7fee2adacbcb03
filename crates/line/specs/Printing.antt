-- Parts of the lines that programs print.
use Rattle.std.specs.Prelude.{ℕ, ◌+◌, Bool, List, [], ◌∷◌, ◌++◌, map}
use Rattle.answers.specs.declared.Report.{Report}
use Rattle.model.specs.FloorText.{LF}
use Rattle.model.specs.Line.{field, settled_word}
pub use Rattle.notation.specs.Printing.{Printed}

-- parts of the model's lines: the last line of a run, a trial's counts, and moves as digits
abbrev pub last_line : Bool → ℕ → List ℕ
last_line settled trials = settled_word settled ++ (field trials ++ (LF ∷ []))

abbrev pub count_fields : Report → List ℕ
count_fields r = field r.decisions ++ (field r.learned ++ (field r.kept ++ (field r.travel ++ (LF ∷ []))))

abbrev pub move_digits : List ℕ → List ℕ
move_digits ms = map (λ x. 48 + x) ms
