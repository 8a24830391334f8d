use Rattle.std.proofs.Common.{w64}
use Rattle.std.proofs.lemmas.Int.{to_z-of_z}
use Rattle.std.proofs.lemmas.Result.{err_from_is_err_and}
use Rattle.collect.specs.Chain.{all, one, stop}
use Rattle.setters.proofs.fields.give.Goals as goal

pub returns-in_err-offer : goal.returns-in_err-offer
returns-in_err-offer g c =
    let p = err_from_is_err_and c.from_residual.result c.from_residual.ensures.1 in
    rw (p.1, p.2) (stop _ _ _ (rw (to_z-of_z w64 c.args.value c.ranges.value, c.number.ensures) at c.in_err-offer.ensures))

pub returns : goal.returns
returns g c = one (rw (to_z-of_z w64 c.args.value c.ranges.value, c.number.ensures) at c.in_ok-offer.ensures) all
