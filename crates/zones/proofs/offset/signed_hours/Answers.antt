use Rattle.std.proofs.Common.{◌≡◌, ℕ, ◌+◌, ◌-◌, length, sym, subst, arith, length-take, length-drop}
use Rattle.text.specs.Cuts.{Cut}
use Rattle.zones.proofs.Places.{cut_on}
use Rattle.zones.proofs.offset.signed_hours.Goals as goal

pub returns-clause-cut : goal.returns-clause-cut
returns-clause-cut c =
    let s = c.args.s.now in
    let n = c.in_ok-negative.n in
    let w = c.in_ok-negative.ensures.cut.within in
    let e = c.in_ok-hours.ensures.rest.1 in
    let q : length s - length c.in_ok-hours.rest.now ≡ n + 2 = omega (arith, length-take {A = ℕ}, length-drop {A = ℕ}) in
    subst (λ k. Cut s k) (sym q) (cut_on s n 2 c.in_ok-negative.ensures.cut c.in_ok-hours.ensures.cut)
