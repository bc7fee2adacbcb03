-- `numbers::Reader::several` meets its contract. The loop's invariant: `Filling`, reading on from here gives what reading the whole list gives; and the
-- reader has not failed, nor left its input.
use Rattle.std.proofs.Common.{arith, ◌∙◌, refl}
use Rattle.std.proofs.lemmas.List.{set-get_or}
use Rattle.numbers.proofs.Lists.{filling, filling_long, filling_off, filling_more, filling_all}
use Rattle.numbers.proofs.Reader.several.Goals.{then-self-via-then-self, then-self-via-else-self+then-list-n}
use Rattle.numbers.proofs.Reader.several.Goals as goal

pub returns-then-self-clause-read : goal.returns-then-self-clause-read
returns-then-self-clause-read g c = elim c.then-self.branch [
  | then-self-via-then-self w ↦ rw w.if-self.true (record { answer = refl; place = refl; entries = refl })
  | then-self-via-else-self+then-list-n w ↦ rw w.if-self.false (filling_long _ _ _ _ _ _ w.if-list-n.true)
]

pub loop-entry-init : goal.loop-entry-init
loop-entry-init g c = record { filling = filling _ _ _ _ _ _ c.if-list-n.false; sound = c.if-self.false; input = refl; within = λ h. h }

pub returns-in_err-number-clause-read : goal.returns-in_err-number-clause-read
returns-in_err-number-clause-read g c =
    let r = c.loop-entry.invariant in
    let s = rw (r.sound, r.input, c.MOST.ensures) at c.number.ensures in
    rw (c.if-self.false, c.from_residual.ensures, set-get_or) (filling_off r.filling (omega arith) s.value s.place c.in_err-number.was)

pub returns-in_err-number-clause-within : goal.returns-in_err-number-clause-within
returns-in_err-number-clause-within g c =
    let r = c.loop-entry.invariant in
    let s = rw r.input at c.number.ensures in
    λ h. s.within (r.within h)

pub loop-entry-preserved : goal.loop-entry-preserved
loop-entry-preserved g c =
    let r = c.loop-entry.invariant in
    let s = rw (r.sound, r.input, c.MOST.ensures) at c.number.ensures in
    record {
      filling = filling_more r.filling (omega arith) s.value s.place _ cc;
      sound = rw c.in_ok-number.was at c.number.ensures.failed;
      input = c.number.ensures.input ∙ r.input;
      within = λ h. s.within (r.within h);
    }

pub returns-clause-read : goal.returns-clause-read
returns-clause-read g c = rw c.if-self.false (filling_all c.loop-entry.invariant.filling (omega arith))

pub returns-clause-within : goal.returns-clause-within
returns-clause-within g c = c.loop-entry.invariant.within
