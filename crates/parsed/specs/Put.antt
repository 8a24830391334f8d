-- A slot that keeps its first value.
use Rattle.std.specs.Prelude.{◌≡◌, ℕ, Some, None, Option}
use Rattle.collect.specs.Judge.{Verdict, taken, refused}

-- nothing stands in the way of a new value
abbrev pub Free : {T : Type 0} → Option T → T → Type 0
Free None new = Unit {0}
Free (Some held) new = held ≡ new

-- another value stands there
abbrev pub Clash : {T : Type 0} → Option T → T → Type 0
Clash None new = ⊥
Clash (Some held) new = held ≡ new → ⊥

-- A new value goes in where nothing stands in its way, and is refused as kind 2, Impossible, where another stands there, which then stays.
abbrev pub Put : {T : Type 0} → Option T → T → ℕ → Verdict → Option T → Type 0
Put old new field taken after = Free old new × (after ≡ Some new)
Put old new field (refused k l f) after = Clash old new × (k ≡ 2) × (l ≡ 4) × (f ≡ field) × (after ≡ old)
