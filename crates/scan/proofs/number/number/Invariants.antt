use Rattle.scan.proofs.Digits.{Reads}
use Rattle.scan.proofs.number.number.Given as goal

abbrev pub invariant-loop-i : goal.invariant-loop-i
invariant-loop-i l = Reads l.min l.max l.s l.n l.i
