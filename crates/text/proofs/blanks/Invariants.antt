use Rattle.std.proofs.Common.{◌≡◌, ◌-◌, length, drop}
use Rattle.text.specs.Chars.{among, blank}
use Rattle.text.proofs.Runs.{Going}
use Rattle.text.proofs.blanks.Given as goal

-- what is left of the table answers for the whole
abbrev pub invariant-loop-b : goal.invariant-loop-b
invariant-loop-b l = (l.n ≡ l.initial.n) × (among l.c (drop l.b-index l.b-items) ≡ among l.c l.b-items)

abbrev pub invariant-chars : goal.invariant-chars
invariant-chars l = Going blank l.s l.n

abbrev pub decreases-chars : goal.decreases-chars
decreases-chars l = length l.s - l.n
