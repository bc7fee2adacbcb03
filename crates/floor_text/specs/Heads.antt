-- The header of a written text, before its rows: two lines with a size, and `map`. And what the writer's checks answer.
use Rattle.std.specs.Prelude.{ℕ, List, ◌++◌, Result}
use Rattle.answers.specs.declared.Refusal.{Refusal}
use Rattle.model.specs.Floor.{Floor}
use Rattle.model.specs.FloorText.{type_and_height, and_width, and_map}
use Rattle.model.specs.FloorWritten.{size_line, text_verdict}
use Rattle.floor.specs.Let.{LetsThrough}

abbrev pub head_of : (width height : ℕ) → List ℕ
head_of width height = (type_and_height ++ size_line height) ++ ((and_width ++ size_line width) ++ and_map)

-- the floor itself, or the model's refusal
abbrev pub Judges : Floor → (room : ℕ) → Result Floor Refusal → Type 0
Judges f room = LetsThrough f (text_verdict f room)
