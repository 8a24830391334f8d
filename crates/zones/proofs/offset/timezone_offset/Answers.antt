use Rattle.zones.proofs.Places.{cut_on}
use Rattle.zones.proofs.offset.timezone_offset.Goals as goal

pub returns-clause-cut : goal.returns-clause-cut
returns-clause-cut g c = cut_on c.args.s.now c.in_ok-negative.n c.in_ok-minutes.m c.in_ok-negative.ensures.cut c.in_ok-minutes.ensures.cut
