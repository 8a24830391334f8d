use borrow.Author.Tests.{tests}
use Rattle.std.proofs.Common.{rules, int_eq, refl}
use Rattle.std.proofs.lemmas.Iterator.{YieldsList-from_range}
use Rattle.std.proofs.lemmas.Iterator.Search.{all_from_yields_List}
use Rattle.std.specs.Option.{option_eq}
use Rattle.collect.proofs.Ranges.{same_asked}
use Rattle.collect.proofs.compare.equal.Goals as goal

pub returns : goal.returns
returns g c =
    let t = g.C.Collector.table c.args.c.now in
    let u = g.D.Collector.table c.args.d.now in
    same_asked t u (g.met.C.Collector.ranged c.args.c.now) (g.met.D.Collector.ranged c.args.d.now) c.all.result
    (all_from_yields_List (λ f. option_eq int_eq (t f) (u f)) _ _ c.all.result c.all.ensures.ran (YieldsList-from_range 0 22 22 refl refl) (λ x b q k. search (rules, tests)))
