use Rattle.std.proofs.Common.{rules}
use Rattle.names.specs.Names.{short_month0_at}
use Rattle.names.proofs.Entries.{short_below}
use Rattle.names.proofs.names.short_month0.Goals as goal

pub returns-clause-below : goal.returns-clause-below
unfolding short_month0_at
returns-clause-below c = short_below c.args.s.now _ (search rules)
