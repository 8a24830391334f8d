use Rattle.std.proofs.Common.{◌++◌, codes, decimal, sym, ap, ◌∙◌}
use Rattle.std.proofs.Output.{has_written_of_eq}
use Rattle.std.specs.Fmt.{signed_decimal}
use Rattle.collect.specs.Fields.{field_name}
use Rattle.collect.specs.Shown.{label}
use Rattle.collect.proofs.Ranges.{label_field, label_none}
use Rattle.docket.specs.Shown.{entry_text}
use Rattle.docket.proofs.shown.EntryDisplay.fmt.Goals as goal

pub returns-in-Ok-clause-writes : goal.returns-in-Ok-clause-writes
returns-in-Ok-clause-writes g c = λ p ok.
    let rest = codes "=" ++ signed_decimal c.args.self.now.value in
    let n = sym (label_field c.in-Ok.known) ∙ ap label c.in-Ok.ensures in
    has_written_of_eq g.W.Write.write_str_gives c.args.f.now (field_name c.in-Ok.known ++ rest) (entry_text c.args.self.now) c.write.new.self (ap (λ l. l ++ rest) n)
    (c.write.ensures.writes p ok)

pub returns-in-Err-clause-writes : goal.returns-in-Err-clause-writes
returns-in-Err-clause-writes g c = λ p ok.
    let rest = codes "=" ++ signed_decimal c.args.self.now.value in
    let n = sym (label_none c.args.self.now.field c.in-Err.ensures.0) in
    has_written_of_eq g.W.Write.write_str_gives c.args.f.now (decimal c.args.self.now.field ++ rest) (entry_text c.args.self.now) c.write-in-Err.new.self (ap (λ l. l ++ rest) n)
    (c.write-in-Err.ensures.writes p ok)
