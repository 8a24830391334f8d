use Rattle.std.proofs.Common.{◌≡◌, ◌∙◌, sym, Some, None, w64, SFits, arith, rules}
use Rattle.std.proofs.lemmas.Result.{err_from_is_err_and}
use Rattle.std.proofs.lemmas.Int.{to_z-of_z}
use Rattle.setters.proofs.Hours.{by_halves, at_once, then_the_rest, stopped}
use Rattle.setters.proofs.fields.set_hour.Goals as goal

pub returns-in_err-half : goal.returns-in_err-half
returns-in_err-half g c =
    let p = err_from_is_err_and c.from_residual.result c.from_residual.ensures.1 in
    let n : c.halves.result ≡ None = grind arith in
    let q : c.in_err-half.field-0.0 ≡ c.out_of_range.result = grind arith in
    rw (p.1, p.2, q) (by_halves g.C.Collector.offered _ _ _ c.args.value _ (to_z-of_z w64 c.args.value c.ranges.value) None (sym n ∙ c.halves.ensures) (at_once g.C.Collector.offered _ _ _ c.out_of_range.ensures))

pub returns-in_err-give : goal.returns-in_err-give
returns-in_err-give g c =
    let p = err_from_is_err_and c.from_residual-in_err-give.result c.from_residual-in_err-give.ensures.1 in
    let n : c.halves.result ≡ Some (c.in_ok-half.half, c.in_ok-half.hour) = grind arith in
    let h : SFits w64 c.in_ok-half.half = search rules in
    rw (p.1, p.2)
    (by_halves g.C.Collector.offered _ _ _ c.args.value _ (to_z-of_z w64 c.args.value c.ranges.value) (Some (c.in_ok-half.half, c.in_ok-half.hour)) (sym n ∙ c.halves.ensures)
    (stopped g.C.Collector.offered _ _ _ _ _ _ _ c.in_ok-half.half _ c.in_ok-half.hour (to_z-of_z w64 c.in_ok-half.half h) c.in_err-give.ensures))

pub returns : goal.returns
returns g c =
    let n : c.halves.result ≡ Some (c.in_ok-half.half, c.in_ok-half.hour) = grind arith in
    let h : SFits w64 c.in_ok-half.half = search rules in
    let m : SFits w64 c.in_ok-half.hour = search rules in
    by_halves g.C.Collector.offered _ _ _ c.args.value _ (to_z-of_z w64 c.args.value c.ranges.value) (Some (c.in_ok-half.half, c.in_ok-half.hour)) (sym n ∙ c.halves.ensures)
    (then_the_rest g.C.Collector.offered _ _ _ _ c.in_ok-half.half _ c.in_ok-half.hour _ (to_z-of_z w64 c.in_ok-half.half h) (to_z-of_z w64 c.in_ok-half.hour m) c.in_ok-give.ensures c.give-2.ensures)
