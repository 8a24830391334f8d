-- Tables: what each field holds, by its number.
use Rattle.std.specs.Prelude.{ℕ, cond, ◌&&◌, ℤ, Some, None, Option, ◌==◌, int_le}

-- nothing, or one value, for each number
abbrev pub Table : Type 0 → Type 0
Table V = ℕ → Option V

abbrev pub empty : {V : Type 0} → Table V
empty f = None

abbrev pub put : {V : Type 0} → Table V → ℕ → V → Table V
put t f v g = cond (g == f) (Some v) (t g)

-- what two values have in common, and none where they conflict: two numbers, if they are the same
abbrev pub single : ℤ → ℤ → Option ℤ
single a b = cond (int_le a b && int_le b a) (Some a) None

-- what a field would hold after an offer: none where the offer conflicts with what it holds
abbrev pub met : {V : Type 0} → (V → V → Option V) → Option V → V → Option V
met join None v = Some v
met join (Some w) v = join w v
