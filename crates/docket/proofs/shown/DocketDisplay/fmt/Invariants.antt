use Rattle.std.proofs.Common.{map, take}
use Rattle.std.specs.Fmt.{IsPlainFormatter, HasWritten}
use Rattle.collect.specs.Shown.{spaced}
use Rattle.docket.specs.Shown.{entry_text}
use Rattle.docket.proofs.shown.DocketDisplay.fmt.Given as goal

-- the entries so far are written
abbrev pub invariant-loop-e : goal.invariant-loop-e
invariant-loop-e g l = IsPlainFormatter l.initial.f → HasWritten g.W.Write.write_str_gives l.initial.f (spaced (map entry_text (take l.e-index l.rest))) l.f
