use Rattle.std.proofs.Common.{◌≡◌, ℕ, ◌+◌, Ok, arith, rules, subst}
use Rattle.std.proofs.lemmas.List.{take_rest}
use Rattle.text.specs.Cuts.{Cut}
use Rattle.text.proofs.Cutting.{cut_more}
use Rattle.comments.specs.Comments.{comment_at}
use Rattle.comments.proofs.Whole.{exactly_by}
use Rattle.comments.proofs.comment_2822.Goals as goal

pub returns-in_err-closes : goal.returns-in_err-closes
unfolding comment_at
returns-in_err-closes c =
    let s = c.args.s.now in
    let v : c.from_residual.result ≡ comment_at s = grind (arith, take_rest {X = ℕ}) in
    record { value = v; cut = search rules; grammar = exactly_by s c.from_residual.result v }

pub returns : goal.returns
unfolding comment_at
returns c =
    let s = c.args.s.now in
    let n = c.blanks-n.result in
    let m = c.in_ok-closes.field-0 in
    let v : Ok (n + m) ≡ comment_at s = grind (arith, take_rest {X = ℕ}) in
    record { value = v; cut = cut_more s n m c.blanks-n.ensures.cut (subst (λ x. Cut x m) (take_rest s n) c.in_ok-closes.ensures.cut); grammar = exactly_by s (Ok (n + m)) v }
