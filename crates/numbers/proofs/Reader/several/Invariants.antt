-- `numbers::Reader::several` meets its contract. The loop's invariant: `Filling`, reading on from here gives what reading the whole list gives; and the
-- reader has not failed, nor left its input.
use Rattle.std.proofs.Common.{◌≡◌, ◌≤◌, false, length}
use Rattle.numbers.proofs.Lists.{Filling}
use Rattle.numbers.proofs.Reader.several.Given as goal

abbrev pub invariant-loop-entry : goal.invariant-loop-entry
invariant-loop-entry g l = record {
  filling : Filling g.T.Entry.number g.T.Entry.MOST l.fn.self.input.now l.fn.self.at l.fn.list l.n l.entry-items l.self.at l.entry-index;
  sound : l.self.failed ≡ false;
  input : l.self.input ≡ l.fn.self.input;
  within : l.fn.self.at ≤ length l.fn.self.input.now → l.self.at ≤ length l.fn.self.input.now;
}
