-- Of an open site: its goals, the cells of a table that get a record, and what the writer's checks say of a table.
use Rattle.std.specs.Prelude.{ℕ, List, length}
use Rattle.answers.specs.Outcomes.{Verdict}
use Rattle.model.specs.Basics.{then, naming}
use Rattle.model.specs.Floor.{size, goals_of}
use Rattle.model.specs.Checks.{figures}
use Rattle.model.specs.TableFile.{changed, file_of, unlike}
use Rattle.model.specs.Writing.{file_room}
use Rattle.table_file.specs.declared.site.OpenSite.{OpenSite}

abbrev pub goals_at : OpenSite → List ℕ
goals_at s = goals_of s.goals

abbrev pub changed_at : OpenSite → (table : List ℕ) → List ℕ
changed_at s table = changed s.floor s.q (goals_at s) table (size s.floor) 0

-- 5, 16 and 17
abbrev pub table_verdict : OpenSite → (table : List ℕ) → (room : ℕ) → Verdict
table_verdict s table room =
    then (figures s.floor table)
    (then (naming (size s.floor) (unlike s.floor s.q (goals_at s) table) 16)
    (file_room (length (file_of s.floor s.q (goals_at s) table)) room))
