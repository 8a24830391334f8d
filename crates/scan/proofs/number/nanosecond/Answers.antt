use Rattle.std.proofs.Common.{ap, ◌∙◌}
use Rattle.std.proofs.lemmas.List.{take_rest}
use Rattle.scan.specs.Numbers.{digits_at}
use Rattle.scan.proofs.Fractions.{nanosecond_cut}
use Rattle.scan.proofs.number.nanosecond.Goals as goal

pub returns-clause-cut : goal.returns-clause-cut
returns-clause-cut c =
    nanosecond_cut c.args.s.now c.in_ok-nanos.n c.digits.result c.in_ok-nanos.ensures.cut (c.digits.ensures.value ∙ ap digits_at (take_rest c.args.s.now c.in_ok-nanos.n))
