-- The measure is the number that is printed: its digits but the last are printed first.
use Rattle.notation.proofs.print.Printer.+decimal.Given as goal

abbrev pub decreases-decimal : goal.decreases-decimal
decreases-decimal l = l.n
