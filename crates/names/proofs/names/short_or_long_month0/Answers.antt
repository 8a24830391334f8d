use Rattle.std.proofs.Common.{rules}
use Rattle.names.specs.Names.{short_or_long_month0_at}
use Rattle.names.proofs.Entries.{short_or_long_below}
use Rattle.names.proofs.names.short_or_long_month0.Goals as goal

pub returns-clause-below : goal.returns-clause-below
unfolding short_or_long_month0_at
returns-clause-below c = short_or_long_below c.args.s.now _ (search rules)
