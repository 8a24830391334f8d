use Rattle.std.proofs.Common.{w64}
use Rattle.std.proofs.lemmas.Int.{to_z-of_z}
use Rattle.collect.proofs.Chains.{chain_laws}
use Rattle.setters.proofs.Examples.{setter_examples}
use Rattle.setters.proofs.Refused.{setter_laws}
use Rattle.setters.proofs.choice.set.Goals as goal

pub returns : goal.returns
returns g c =
    record {
      chain = rw (to_z-of_z w64 c.args.value c.ranges.value) at c.chosen.ensures;
      laws = (
        chain_laws g.C.Collector.table g.C.Collector.offered g.met.C.Collector.answers g.met.C.Collector.holds,
        setter_laws g.C.Collector.table g.C.Collector.offered g.met.C.Collector.answers g.met.C.Collector.holds,
      );
      examples = setter_examples;
    }
