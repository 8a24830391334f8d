-- Texts that are written one after another.
use Rattle.std.proofs.Common.{◌≡◌, ℕ, List, [], ◌∷◌, ◌++◌, codes, sym, refl, ap, ◌∙◌, append_assoc, append-nil}
use Rattle.std.proofs.Output.{has_written_append, has_written_of_eq, has_written_to_eq}
use Rattle.std.specs.Fmt.{IsPlainFormatter, HasWritten}
use Rattle.std.specs.declared.fmt.Formatter.{Formatter}
use Rattle.collect.specs.Shown.{spaced}

pub spaced_more : (xs : List (List ℕ)) (x : List ℕ) → spaced (xs ++ x ∷ []) ≡ spaced xs ++ (codes " " ++ x)
spaced_more [] x = ap (λ l. codes " " ++ l) (append-nil x)
spaced_more (y ∷ xs) x =
    ap (λ l. codes " " ++ (y ++ l)) (spaced_more xs x)
    ∙ ap (λ l. codes " " ++ l) (sym (append_assoc y (spaced xs) (codes " " ++ x)))

-- with a blank between each two
abbrev pub line : List (List ℕ) → List ℕ
line [] = []
line (x ∷ xs) = x ++ spaced xs

-- what goes before one text more
abbrev pub gap : List (List ℕ) → List ℕ
gap [] = []
gap (x ∷ xs) = codes " "

line_more : (xs : List (List ℕ)) (x : List ℕ) → line xs ++ (gap xs ++ x) ≡ line (xs ++ x ∷ [])
line_more [] x = sym (append-nil x)
line_more (y ∷ xs) x = append_assoc y (spaced xs) (codes " " ++ x) ∙ sym (ap (λ l. y ++ l) (spaced_more xs x))

gap_more : (xs : List (List ℕ)) (x : List ℕ) → codes " " ≡ gap (xs ++ x ∷ [])
gap_more [] x = refl
gap_more (y ∷ xs) x = refl

module _ {W : Type 0} (took : W → List ℕ → W → Type 0) (f : Formatter W) where
  -- the texts xs are written, and `blank` goes before one more
  abbrev pub Sofar : List ℕ → Formatter W → List (List ℕ) → Type 0
  Sofar blank g xs = (blank ≡ gap xs) × (IsPlainFormatter f → HasWritten took f (line xs) g)

  pub one_more : (blank : List ℕ) (g h : Formatter W) (xs : List (List ℕ)) (x : List ℕ) → Sofar blank g xs → (IsPlainFormatter g → HasWritten took g (blank ++ x) h) → Sofar (codes " ") h (xs ++ x ∷ [])
  one_more blank g h xs x y z = (
    gap_more xs x,
    λ p.
        let w = y.1 p in
        has_written_of_eq took f _ _ h (ap (λ b. line xs ++ (b ++ x)) y.0 ∙ line_more xs x) (has_written_append took f (line xs) g _ h w (z w.plain)),
  )

  pub moved : (blank b : List ℕ) (g h : Formatter W) (xs ys : List (List ℕ)) → b ≡ blank → h ≡ g → xs ≡ ys → Sofar blank g xs → Sofar b h ys
  moved blank b g h xs ys p q e y = (p ∙ (y.0 ∙ ap gap e), λ w. has_written_to_eq took f (line ys) g h q (has_written_of_eq took f (line xs) (line ys) g (ap line e) (y.1 w)))
