use Rattle.std.proofs.Common.{sym, ◌∙◌}
use Rattle.zones.proofs.Places.{sign_cut}
use Rattle.zones.proofs.offset.leading_sign.Goals as goal

pub returns-in-Plus-clause-cut : goal.returns-in-Plus-clause-cut
returns-in-Plus-clause-cut c = sign_cut c.args.s.now c.in_ok-c.c c.len_utf8-n.result (sym c.first_char.ensures.value ∙ c.in_ok-c.ensures.ok_part) c.len_utf8-n.ensures.value

pub returns-in-HyphenMinus-clause-cut : goal.returns-in-HyphenMinus-clause-cut
returns-in-HyphenMinus-clause-cut c = sign_cut c.args.s.now c.in_ok-c.c c.len_utf8-n.result (sym c.first_char.ensures.value ∙ c.in_ok-c.ensures.ok_part) c.len_utf8-n.ensures.value

pub returns-in-MinusSign-clause-cut : goal.returns-in-MinusSign-clause-cut
returns-in-MinusSign-clause-cut c = sign_cut c.args.s.now c.in_ok-c.c c.len_utf8-n.result (sym c.first_char.ensures.value ∙ c.in_ok-c.ensures.ok_part) c.len_utf8-n.ensures.value
