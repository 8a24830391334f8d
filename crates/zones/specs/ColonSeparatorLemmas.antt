use Rattle.std.specs.Prelude.{ℕ, List, [], ◌∷◌, Ok, Err, ◌==◌, refl}
use Rattle.std.proofs.Common.{inl, inr}
use Rattle.scan.specs.Singles.{char_at}
use Rattle.scan.specs.declared.kind.ParseErrorKind.TheVariants.{Invalid}
use Rattle.std.proofs.lemmas.Bool.{cond_both}
use Rattle.zones.specs.Separators.{Modest}

pub modest : (t : List ℕ) → Modest (char_at 58 t)
unfolding char_at
modest [] = inr refl
modest (b ∷ bs) = cond_both (b == 58) (Ok 1) (Err Invalid) Modest (λ _. tt) (λ _. inl refl)
