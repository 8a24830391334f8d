use Rattle.std.proofs.Common.{◌+◌, ◌∙◌, rules}
use Rattle.std.proofs.lemmas.List.{take_rest}
use Rattle.zones.specs.Offsets.{double_colon_at}
use Rattle.zones.proofs.Places.{cut_on, still}
use Rattle.zones.proofs.offset.timezone_offset_double_colon.Goals as goal

pub returns : goal.returns
unfolding double_colon_at
returns g c =
    let s = c.args.s.now in
    let n = c.in_ok-negative.n in
    let m = c.in_ok-minutes.m in
    let h = c.in_ok-seconds.ensures.value ∙ still (g.S.Separator.means c.args.sep.now) _ _ _ c.separated.ensures.same in
    record {
      value = search (rules, take_rest);
      cut = cut_on s (n + m) c.in_ok-seconds.k (cut_on s n m c.in_ok-negative.ensures.cut c.in_ok-minutes.ensures.cut) c.in_ok-seconds.ensures.cut;
      same = search rules;
    }
