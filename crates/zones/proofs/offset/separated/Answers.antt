use Rattle.zones.proofs.Places.{cut_on}
use Rattle.zones.proofs.offset.separated.Goals as goal

pub returns-clause-cut : goal.returns-clause-cut
returns-clause-cut g c =
    let law = g.met.S.Separator.cuts c.args.sep.now c.args.s.now in
    cut_on c.args.s.now c.in_ok-k.k c.in_ok-value.n (rw (← c.in_ok-k.ensures.value) at law) c.in_ok-value.ensures.cut
