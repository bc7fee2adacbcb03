-- What the check of the sizes answers: the floor itself, or the model's refusal.
use Rattle.std.specs.Prelude.{ℕ, Result}
use Rattle.answers.specs.declared.Refusal.{Refusal}
use Rattle.model.specs.Floor.{Floor}
use Rattle.model.specs.Checks.{sizes}
use Rattle.floor.specs.Let.{LetsThrough}

abbrev pub Measures : Floor → (figures : ℕ) → Result Floor Refusal → Type 0
Measures f figures = LetsThrough f (sizes f figures)
