use Rattle.std.proofs.Common.{◌≡◌, None, sym, ◌∙◌, arith}
use Rattle.collect.specs.Fields.{range}
use Rattle.parsed.proofs.Placing.{holds_none}
use Rattle.parsed.proofs.offers.ParsedCollector.ask.Goals as goal

pub returns-in_err-ok : goal.returns-in_err-ok
returns-in_err-ok c =
    let e : range c.args.field ≡ None = grind arith in
    c.from_residual.ensures ∙ sym (holds_none c.args.self.now c.args.field e)
