-- What a check answers that lets a floor through: the floor itself where the model's verdict is done, else the model's refusal.
use Rattle.std.specs.Prelude.{◌≡◌, Result, Ok, Err}
use Rattle.answers.specs.declared.Refusal.{Refusal}
use Rattle.answers.specs.Outcomes.{Verdict}
use Rattle.model.specs.Floor.{Floor}

abbrev pub LetsThrough : Floor → Verdict → Result Floor Refusal → Type 0
LetsThrough f v (Ok g) = (g ≡ f) × (v ≡ Ok tt)
LetsThrough f v (Err r) = v ≡ Err r
