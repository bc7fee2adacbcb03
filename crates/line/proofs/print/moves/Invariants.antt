-- `line::print::moves` meets its contract. The loop's invariant: the first moves are printed.
use Rattle.std.proofs.Common.{take}
use Rattle.notation.specs.Prints.{Prints}
use Rattle.line.specs.Printing.{move_digits}
use Rattle.line.proofs.print.moves.Given as goal

abbrev pub invariant-loop-m : goal.invariant-loop-m
invariant-loop-m l = Prints l.initial.out (move_digits (take l.m-index l.ms)) l.out
