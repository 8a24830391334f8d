-- One given byte, and blanks, take whole characters.
use Rattle.std.proofs.Common.{ℕ, ◌<◌, eqb, List, [], ◌∷◌, Ok, Err, arith}
use Rattle.std.proofs.lemmas.Bool.{cond_both, eqb-true}
use Rattle.scan.specs.declared.kind.ParseErrorKind.TheVariants.{Invalid}
use Rattle.scan.specs.Singles.{char_at}
use Rattle.scan.specs.Steps.{CutsMark}
use Rattle.text.proofs.Cutting.{cut_after}

pub char_cut : (c : ℕ) (s : List ℕ) → c < 128 → CutsMark s (char_at c s)
unfolding char_at
char_cut c [] h = tt
char_cut c (b ∷ bs) h =
    cond_both (eqb b c) (Ok 1) (Err Invalid) (CutsMark (b ∷ bs))
    (λ e. let q = eqb-true b c e in cut_after (b ∷ bs) 0 (omega arith) (omega arith)) (λ _. tt)
