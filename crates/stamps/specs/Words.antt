-- Words, and what they stand for.
use Rattle.std.specs.Prelude.{◌≡◌, ℕ, List, [], ◌∷◌, Some, None, Option, ◌≢◌}

-- a word stands for what is beside it, and any other word for nothing
abbrev pub Stands : {A : Type 0} → List (List ℕ × A) → List ℕ → Option A → Type 0
Stands [] w r = r ≡ None
Stands (f ∷ fs) w r = (w ≡ f.0 → r ≡ Some f.1) × ((w ≢ f.0) → Stands fs w r)
