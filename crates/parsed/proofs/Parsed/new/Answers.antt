use Rattle.std.proofs.Common.{◌≡◌, ℕ, zero, suc, get_or, replicate, ℤ, None, Option, refl}
use Rattle.parsed.specs.Slots.{all_fit}
use Rattle.parsed.proofs.Parsed.new.Goals as goal

none : (n j : ℕ) → get_or {A = Option ℤ} (replicate n None) j None ≡ None
none zero j = refl
none (suc n) zero = refl
none (suc n) (suc j) = none n j

pub returns : goal.returns
returns c = none 22

pub invariant_of-result : goal.invariant_of-result
unfolding all_fit
invariant_of-result c = record { fitting = refl }
