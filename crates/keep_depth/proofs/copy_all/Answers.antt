-- `keep_depth::copy_all` meets its contract: each part that is copied keeps what is read of the whole, and what is left at the end is told.
use Rattle.std.proofs.Common.{arith, rules}
use Rattle.keep_depth.proofs.Parting.{reading, ended-told, part_stops, part-goes}
use Rattle.keep_depth.proofs.copy_all.Goals as goal

pub loop-init : goal.loop-init
loop-init c = reading _

pub returns-then-got-eq0 : goal.returns-then-got-eq0
returns-then-got-eq0 c = let i = c.loop.invariant in ended-told i (omega (arith, i.few)) c.at_end.ensures.whole c.at_end.ensures.left

pub returns-in_err-held : goal.returns-in_err-held
returns-in_err-held c =
    let told = part_stops c.loop.invariant c.copy_part-step.ensures c.in_err-held.ensures.ok_part in
    search rules

pub loop-preserved : goal.loop-preserved
loop-preserved c = part-goes c.loop.invariant c.copy_part-step.ensures c.in_ok-held.ensures.ok_part
