use Rattle.std.proofs.Common.{◌≡◌, ℕ, Some, None, Option, rules, MatchOption, ◌∙◌}
use Rattle.std.specs.Option.{option_or}
use Rattle.zones.specs.Mail.{military, behind}
use Rattle.zones.proofs.Named.{behind_few}
use Rattle.zones.proofs.mail.hours_behind.Goals as goal

either : (o p r : Option ℕ) (P : Type 0) → (P → r ≡ p) → MatchOption o P (λ h. r ≡ Some h) → r ≡ option_or o p
either None p r P f h = f h
either (Some x) p r P f h = h

pub returns : goal.returns
unfolding behind
returns c =
    let v = either c.listed.result (military c.args.name.now) c.or_else.result _ (λ q. search rules) c.or_else.ensures in
    let e = c.listed.ensures.value in
    let w = v ∙ rw e in
    record { value = w; bound = behind_few c.args.name.now c.or_else.result w }
