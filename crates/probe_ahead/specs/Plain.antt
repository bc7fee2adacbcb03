-- A job from plain numbers.
use Rattle.std.specs.Prelude.{ℕ}
use Rattle.answers.specs.declared.Job.{Job}

abbrev pub plain : (width height count goal other depth p : ℕ) → Job
plain width height count goal other depth p = record {
  width = width;
  height = height;
  goals = record { count = count; first = goal; second = other; third = 0; fourth = 0 };
  depth = depth;
  p = p;
  q = 16;
  quota = 0;
}
