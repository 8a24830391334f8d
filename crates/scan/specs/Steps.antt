-- Leaves, and one after another. A leaf reads at the front of bytes: it answers a value with the count of bytes that it takes, or a kind.
use Rattle.std.specs.Prelude.{ℕ, List, IfOk, Ok, Err, Result}
use Rattle.scan.specs.declared.kind.ParseErrorKind.{ParseErrorKind}
use Rattle.text.specs.Cuts.{Cut}

-- the next step, where the one before succeeded
abbrev pub bind : {A B : Type 0} → Result A ParseErrorKind → (A → Result B ParseErrorKind) → Result B ParseErrorKind
bind (Ok x) f = f x
bind (Err e) f = Err e

-- a leaf's count, where it is granted, is a character boundary of its text
abbrev pub Cuts : {A : Type 0} → List ℕ → Result (A × ℕ) ParseErrorKind → Type 0
Cuts s r = IfOk r (λ p. Cut s p.1)

-- the same of a leaf that answers a count alone
abbrev pub CutsMark : List ℕ → Result ℕ ParseErrorKind → Type 0
CutsMark s r = IfOk r (λ n. Cut s n)
