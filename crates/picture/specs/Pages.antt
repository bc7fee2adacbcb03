-- What a part of a drawing leaves of its page.
use Rattle.std.specs.Prelude.{◌≤◌}
use Rattle.drawing.specs.declared.Page.{Page}

-- one whose place is on it, of 65,536 bytes, has its place on it still
abbrev pub Stays : Page → Page → Type 0
Stays p p' = p.at ≤ 65536 → p'.at ≤ 65536
