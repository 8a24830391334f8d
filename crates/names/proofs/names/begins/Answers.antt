use Rattle.std.proofs.Common.{◌≡◌, ◌↔◌, map, false, IsTrue, rules}
use Rattle.std.specs.Char.{to_ascii_lowercase}
use Rattle.std.specs.Option.{MatchOption}
use Rattle.names.proofs.Alike.{begins_by}
use Rattle.names.proofs.names.begins.Goals as goal

pub returns : goal.returns
returns c =
    let a : MatchOption c.get.result (c.is_some_and.result ≡ false) (λ t. IsTrue c.is_some_and.result ↔ (map to_ascii_lowercase t.now ≡ map to_ascii_lowercase c.args.word.now)) = search rules in
    begins_by c.args.word.now c.args.s.now c.get.result c.is_some_and.result c.get.ensures.lookup a
