use Rattle.std.proofs.Common.{◌≡◌, ◌∙◌, sym, None, w64, arith}
use Rattle.std.proofs.lemmas.Int.{to_z-of_z}
use Rattle.std.proofs.lemmas.Result.{err_from_is_err_and}
use Rattle.setters.proofs.Hours.{by_clock, at_once}
use Rattle.setters.proofs.fields.set_hour12.Goals as goal

pub returns-in_err-hour : goal.returns-in_err-hour
returns-in_err-hour g c =
    let p = err_from_is_err_and c.from_residual.result c.from_residual.ensures.1 in
    let n : c.on_clock.result ≡ None = grind arith in
    let q : c.in_err-hour.field-0.0 ≡ c.out_of_range.result = grind arith in
    rw (p.1, p.2, q) (by_clock g.C.Collector.offered _ _ _ c.args.value _ (to_z-of_z w64 c.args.value c.ranges.value) None (sym n ∙ c.on_clock.ensures) (at_once g.C.Collector.offered _ _ _ c.out_of_range.ensures))
