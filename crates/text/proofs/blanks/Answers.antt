use Rattle.std.proofs.Common.{◌≡◌, true, false, sym, ◌∙◌, subst}
use Rattle.text.specs.Chars.{blank, blanks_at, white_space}
use Rattle.text.specs.Cuts.{Cut}
use Rattle.text.proofs.Runs.{going_more, going_stop, going_none}
use Rattle.text.proofs.Tables.{passed, found, missed}
use Rattle.text.proofs.blanks.Goals as goal

pub loop-b-preserved : goal.loop-b-preserved
loop-b-preserved c =
    (c.loop-b.invariant.0, passed c.in-Some.c white_space c.loop-b.b-index c.loop-b-test.true c.if-c-b.false ∙ c.loop-b.invariant.1)

pub chars-preserved : goal.chars-preserved
unfolding blank
chars-preserved c =
    let b : blank c.in-Some.c ≡ true
    = sym c.loop-b.invariant.1 ∙ found c.in-Some.c white_space c.loop-b.b-index c.loop-b-test.true c.if-c-b.true in
    going_more blank c.args.s.now c.chars.n c.chars.invariant c.in-Some.c c.loop-b.n c.len_utf8-n.result
    c.in-Some.ensures.value b c.loop-b.invariant.0 c.len_utf8-n.ensures.value

pub returns-after-loop-b : goal.returns-after-loop-b
unfolding blank blanks_at
returns-after-loop-b c =
    let b : blank c.in-Some.c ≡ false
    = sym c.loop-b.invariant.1 ∙ missed c.in-Some.c white_space c.loop-b.b-index c.loop-b-test.false in
    let i = c.loop-b.invariant.0 in
    record {
      value = i ∙ going_stop blank c.args.s.now c.chars.n c.chars.invariant c.in-Some.c c.in-Some.ensures.value b;
      cut = subst (λ k. Cut c.args.s.now k) (sym i) c.chars.invariant.cut;
    }

pub returns-in_default : goal.returns-in_default
unfolding blanks_at
returns-in_default c =
    record { value = going_none blank c.args.s.now c.chars.n c.chars.invariant c.in_default.ensures.value; cut = c.chars.invariant.cut }
