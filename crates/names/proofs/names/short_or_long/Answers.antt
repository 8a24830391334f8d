use Rattle.std.proofs.Common.{◌≡◌, Ok, rules}
use Rattle.scan.proofs.Leaves.{made_by}
use Rattle.text.specs.Cuts.{Cut}
use Rattle.names.specs.Names.{entries, short_or_long_at}
use Rattle.names.proofs.Taken.{short_or_long_at_cut}
use Rattle.names.proofs.names.short_or_long.Goals as goal

pub returns-clause-cut : goal.returns-clause-cut
unfolding short_or_long_at
returns-clause-cut g c =
    let v : Ok (c.in_ok-name.value, c.if-begins.n) ≡ short_or_long_at (entries c.args.names.now) c.args.s.now = search rules in
    λ a. made_by (λ p. Cut _ p.1) _ _ v (short_or_long_at_cut (entries c.args.names.now) c.args.s.now a)
