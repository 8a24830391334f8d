use Rattle.std.proofs.Common.{◌≡◌, ℕ, List, [], ◌∷◌, eqb, refl, ◌∙◌, arith, rules, tests}
use Rattle.std.proofs.lemmas.Bool.Decides.{nat_tests}
use Rattle.std.proofs.lemmas.Iterator.{YieldsList-from_slice}
use Rattle.std.proofs.lemmas.Iterator.Search.{any_from_yields_List}
use Rattle.std.specs.List.{list_any}
use Rattle.text.specs.Chars.{among, blank, white_space}
use Rattle.text.proofs.is_blank.Goals as goal

any_among : (c : ℕ) (bs : List ℕ) → list_any (eqb c) bs ≡ among c bs
unfolding among
any_among c [] = refl
any_among c (b ∷ bs) = let h = any_among c bs in grind (arith, nat_tests)

pub returns : goal.returns
unfolding blank
returns c =
    any_from_yields_List (eqb c.args.c) _ _ _ c.any.ensures.ran (YieldsList-from_slice white_space cc) (λ x b q k. search (rules, tests))
    ∙ any_among c.args.c white_space
