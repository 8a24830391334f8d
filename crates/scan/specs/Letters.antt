-- Words, ASCII case ignored.
use Rattle.std.specs.Prelude.{ℕ, Bool, true, false, ◌&&◌, List, [], ◌∷◌, ◌==◌}
use Rattle.std.specs.Char.{to_ascii_lowercase}

-- the same letters
abbrev pub alike : List ℕ → List ℕ → Bool
alike [] [] = true
alike [] (b ∷ bs) = false
alike (a ∷ xs) [] = false
alike (a ∷ xs) (b ∷ bs) = to_ascii_lowercase a == to_ascii_lowercase b && alike xs bs
