use Rattle.std.proofs.Common.{◌≡◌, length, take, min, ap, ◌∙◌, rules}
use Rattle.std.proofs.lemmas.Iterator.{YieldsList-from_slice}
use Rattle.std.proofs.lemmas.Iterator.Search.{find_from_yields_List}
use Rattle.std.specs.Option.{option_map}
use Rattle.names.specs.Names.{begins_alike}
use Rattle.names.proofs.Entries.{placed, three}
use Rattle.names.proofs.names.entry.Goals as goal

pub returns : goal.returns
returns g c =
    let p = find_from_yields_List (λ t. begins_alike (take 3 t.0.now) c.args.s.now) _ _ c.find.result c.find.ensures.ran (YieldsList-from_slice c.args.names.now (search rules))
    (λ x b q k.
    let e : b ≡ begins_alike (take (min (length x.now.0.now) 3) x.now.0.now) c.args.s.now = search rules in
    (search rules, e ∙ ap (λ n. begins_alike n c.args.s.now) (three x.now.0.now))) in
    let m : c.copied.result ≡ option_map (λ z. z.now) c.find.result = search rules in
    placed c.args.names.now c.args.s.now c.copied.result c.ok_or.result c.if-s-lt-SHORT.false (search rules) (m ∙ p)
