use Rattle.std.proofs.Common.{Ok, rules}
use Rattle.scan.proofs.Leaves.{made_by}
use Rattle.text.specs.Cuts.{Cut}
use Rattle.names.specs.Names.{entries, short_at}
use Rattle.names.proofs.Taken.{short_at_cut}
use Rattle.names.proofs.names.short.Goals as goal

pub returns-clause-cut : goal.returns-clause-cut
unfolding short_at
returns-clause-cut g c =
    λ a. made_by (λ p. Cut c.args.s.now p.1) (Ok (c.in_ok-value.value, _)) (short_at (entries c.args.names.now) c.args.s.now) (search rules) (short_at_cut (entries c.args.names.now) c.args.s.now a)
