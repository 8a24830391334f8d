use Rattle.std.proofs.Common.{◌≡◌, map, rules, sym, ◌∙◌}
use Rattle.std.specs.Char.{to_ascii_lowercase}
use Rattle.std.specs.Option.{option_map}
use Rattle.std.proofs.cmp.Tests.{cases_from_iff}
use Rattle.std.proofs.lemmas.Iterator.{YieldsList-from_slice}
use Rattle.std.proofs.lemmas.Iterator.Search.{find_from_yields_List}
use Rattle.scan.specs.Letters.{alike}
use Rattle.scan.proofs.Words.{alike_by}
use Rattle.zones.proofs.Named.{listed_find}
use Rattle.zones.proofs.mail.listed.Goals as goal

pub returns : goal.returns
returns c =
    let name = c.args.name.now in
    let h = find_from_yields_List (λ z. alike name z.0.now) _ _ c.find.result c.find.ensures.ran (YieldsList-from_slice c.args.zones.now (cc))
    (λ x b q k. (search rules, alike_by name x.now.0.now b (cases_from_iff {P = map to_ascii_lowercase name ≡ map to_ascii_lowercase x.now.0.now} (search rules)))) in
    let m : c.map.result ≡ option_map (λ z. z.1) (option_map (λ z. z.now) c.find.result) = search rules in
    record { value = m ∙ rw h (sym (listed_find c.args.zones.now name)) }
