use Rattle.std.proofs.Common.{◌≡◌, drop}
use Rattle.comments.specs.Comments.{closes_at}
use Rattle.comments.proofs.Machine.{from, Sound}
use Rattle.comments.proofs.closes.Given as goal

-- what is left answers for the whole
abbrev pub invariant-loop-i : goal.invariant-loop-i
invariant-loop-i l = (from l.i l.state (drop l.i l.s) ≡ closes_at l.s) × Sound l.i l.state
