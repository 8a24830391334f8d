-- The test of a beginning: what it says of the bytes.
use Rattle.std.proofs.Common.{◌≡◌, ℕ, ◌-◌, ◌<◌, ◌↔◌, Bool, false, List, [], ◌∷◌, map, length, take, IsTrue, Some, None, Option, Bor, sym, refl, ap, ◌∙◌, ⊎_elim, arith}
use Rattle.std.proofs.lemmas.Bool.{and_right, cases_from_iff}
use Rattle.std.specs.Char.{to_ascii_lowercase}
use Rattle.std.specs.Option.{MatchOption}
use Rattle.std.specs.Slice.{IsGetRangeResult}
use Rattle.scan.specs.Letters.{alike}
use Rattle.scan.proofs.Words.{alike_by}
use Rattle.names.specs.Names.{begins_alike}

begins_short : (w s : List ℕ) → length s < length w → false ≡ begins_alike w s
unfolding begins_alike
begins_short [] s l = absurd (omega arith)
begins_short (w ∷ ws) [] l = refl
begins_short (w ∷ ws) (b ∷ bs) l = sym (and_right _ (alike (take (length ws) bs) ws) (sym (begins_short ws bs (omega arith))))

-- it is the comparison of as many bytes, where there are as many
pub begins_by : (w s : List ℕ) (o : Option (Bor (List ℕ))) (r : Bool) → IsGetRangeResult s 0 (length w) o
    → MatchOption o (r ≡ false) (λ t. IsTrue r ↔ (map to_ascii_lowercase t.now ≡ map to_ascii_lowercase w)) → r ≡ begins_alike w s
unfolding begins_alike
begins_by w s None r g h = h ∙ ⊎_elim (λ l. absurd (omega arith)) (λ l. begins_short w s l) g.0
begins_by w s (Some t) r g h =
    let e : length w - 0 ≡ length w = omega arith in
    alike_by t.now w r (cases_from_iff h) ∙ ap (λ x. alike x w) (g.0.2 ∙ ap (λ n. take n s) e)
