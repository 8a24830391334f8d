use Rattle.std.proofs.Common.{◌≡◌, ◌+◌, Ok, sym, ◌∙◌, arith}
use Rattle.std.proofs.lemmas.List.{at_drop_more, at_drop_all}
use Rattle.std.proofs.lemmas.Bool.Decides.{nat_tests}
use Rattle.scan.proofs.Leaves.{cuts_mark_by}
use Rattle.comments.specs.Comments.{closes_at}
use Rattle.comments.proofs.Cuts.{closes_cut}
use Rattle.comments.proofs.Machine.{from, ended}
use Rattle.comments.proofs.closes.Goals as goal
use Rattle.comments.proofs.closes.Goals.{in-Start-eq40, in-Next-eq41, in-Next+in-Next-eq92, in-Next+in-Next-eq40, in-Next+in-Next-default, in-Next-default}

pub returns-in-Next-eq1-eq41 : goal.returns-in-Next-eq1-eq41
unfolding closes_at
returns-in-Next-eq1-eq41 c =
    let h = at_drop_more (from c.loop-i.i c.loop-i.state) c.args.s.now c.loop-i.i 0 c.loop-i-test.true in
    let v : Ok (c.loop-i.i + 1) ≡ closes_at c.args.s.now = grind (arith, nat_tests) in
    record { value = v; cut = cuts_mark_by _ _ _ v (closes_cut c.args.s.now) }

pub loop-i-preserved : goal.loop-i-preserved
unfolding closes_at
loop-i-preserved c =
    let h = at_drop_more (from c.loop-i.i c.loop-i.state) c.args.s.now c.loop-i.i 0 c.loop-i-test.true in
    elim c.match-state.branch [
      | in-Start-eq40 w ↦ grind (arith, nat_tests)
      | in-Next-eq41 w ↦ grind (arith, nat_tests)
      | in-Next+in-Next-eq92 w ↦ grind (arith, nat_tests)
      | in-Next+in-Next-eq40 w ↦ grind (arith, nat_tests)
      | in-Next+in-Next-default w ↦ grind (arith, nat_tests)
      | in-Next-default w ↦ grind (arith, nat_tests)
    ]

pub returns-in_default : goal.returns-in_default
unfolding closes_at
returns-in_default c =
    let h = at_drop_more (from c.loop-i.i c.loop-i.state) c.args.s.now c.loop-i.i 0 c.loop-i-test.true in
    record { value = grind (arith, nat_tests); cut = tt }

pub returns : goal.returns
returns c =
    let h = at_drop_all (from c.loop-i.i c.loop-i.state) c.args.s.now c.loop-i.i c.loop-i-test.false in
    let e = ended c.loop-i.i c.loop-i.state in
    record { value = sym e ∙ (sym h ∙ c.loop-i.invariant.0); cut = tt }
