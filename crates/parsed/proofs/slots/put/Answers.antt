use Rattle.std.proofs.Common.{rules}
use Rattle.parsed.proofs.Bounds.{bounds_as, refused_outside}
use Rattle.parsed.proofs.slots.put.Goals as goal

pub returns-then-not-admits : goal.returns-then-not-admits
returns-then-not-admits g c =
    refused_outside c.args.field c.ranges.value c.if-not-admits.ensures (search rules)

pub of-requires : goal.of-requires
of-requires g c = bounds_as c.args.field g.T.Kept.kind _ c.requires c.if-not-admits.ensures
