-- The comparison of words, ASCII case ignored, by what the standard library's says.
use Rattle.std.proofs.Common.{◌≡◌, ℕ, Bool, true, false, List, [], ◌∷◌, map, Decides, MatchBool, refl}
use Rattle.std.proofs.lemmas.Bool.Decides.{same_from_decides, Decides-eqb, Decides-and, Decides-like}
use Rattle.std.specs.Char.{to_ascii_lowercase}
use Rattle.scan.specs.Letters.{alike}

joins : (x y : ℕ) (xs ys : List ℕ) → (x ≡ y) × (xs ≡ ys) → x ∷ xs ≡ y ∷ ys
joins x y xs ys p = let a = p.0 in let b = p.1 in cc

parts : (x y : ℕ) (xs ys : List ℕ) → x ∷ xs ≡ y ∷ ys → (x ≡ y) × (xs ≡ ys)
parts x y xs ys e = ((cc), (cc))

decides : (a b : List ℕ) → Decides (alike a b) (map to_ascii_lowercase a ≡ map to_ascii_lowercase b)
decides [] [] = (λ _. refl, λ _. refl)
decides [] (b ∷ bs) = (λ e. cc, λ e. cc)
decides (a ∷ xs) [] = (λ e. cc, λ e. cc)
decides (a ∷ xs) (b ∷ bs) =
    Decides-like _ (joins (to_ascii_lowercase a) (to_ascii_lowercase b) _ _) (parts (to_ascii_lowercase a) (to_ascii_lowercase b) _ _) (Decides-and _ _ (Decides-eqb (to_ascii_lowercase a) (to_ascii_lowercase b)) (decides xs bs))

by_when : (r : Bool) (P : Type 0) → MatchBool r P (P → ⊥) → Decides r P
by_when true P h = (λ _. h, λ _. refl)
by_when false P h = (λ e. cc, λ p. absurd (h p))

pub alike_by : (a b : List ℕ) (r : Bool) → MatchBool r (map to_ascii_lowercase a ≡ map to_ascii_lowercase b) (map to_ascii_lowercase a ≡ map to_ascii_lowercase b → ⊥) → r ≡ alike a b
alike_by a b r h = same_from_decides r (alike a b) (by_when r _ h) (decides a b)
