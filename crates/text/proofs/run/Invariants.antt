use Rattle.std.proofs.Common.{◌-◌, length}
use Rattle.text.proofs.Runs.{Going}
use Rattle.text.proofs.run.Given as goal

abbrev pub invariant-loop-c : goal.invariant-loop-c
invariant-loop-c g l = Going g.K.CharClass.has l.s l.end

abbrev pub decreases-loop-c : goal.decreases-loop-c
decreases-loop-c g l = length l.s - l.end
