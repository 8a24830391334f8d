use Rattle.std.proofs.Common.{sym, refl, ◌∙◌}
use Rattle.text.proofs.Runs.{going_more, going_stop, going_none}
use Rattle.text.proofs.run.Goals as goal

pub loop-c-preserved : goal.loop-c-preserved
loop-c-preserved g c =
    going_more g.K.CharClass.has c.args.s.now c.loop-c.end c.loop-c.invariant c.in-Some.c c.loop-c.end c.len_utf8-end.result
    c.in-Some.ensures.value (sym c.contains.ensures ∙ c.if-not-contains.false) refl c.len_utf8-end.ensures.value

pub returns-then-not-contains-clause-value : goal.returns-then-not-contains-clause-value
returns-then-not-contains-clause-value g c = going_stop g.K.CharClass.has c.args.s.now c.loop-c.end c.loop-c.invariant c.in-Some.c c.in-Some.ensures.value (sym c.contains.ensures ∙ c.if-not-contains.true)

pub returns-in_default-clause-value : goal.returns-in_default-clause-value
returns-in_default-clause-value g c = going_none g.K.CharClass.has c.args.s.now c.loop-c.end c.loop-c.invariant c.in_default.ensures.value
