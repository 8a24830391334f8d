-- Where a text may be cut, the character that it begins with, and how far bytes are text.
use Rattle.std.specs.Prelude.{◌≡◌, ℕ, ◌<◌, ◌≤◌, true, List, ◌++◌, length, take, drop, Some, None, Ok, Err, IsUtf8, Option, Result}
use Rattle.std.proofs.Math.Utf8.{encode, scalar}
use Rattle.std.specs.Str.{StartsWithNoChar}
use Rattle.std.specs.Char.{len_utf8}

-- n bytes off the front of s end at a character boundary: if s is a text, so is what is taken, and so is what is left
pub record Cut (s : List ℕ) (n : ℕ) : Type 0 where
  pub within : n ≤ length s
  pub taken : IsUtf8 s → IsUtf8 (take n s)
  pub left : IsUtf8 s → IsUtf8 (drop n s)

-- the character that s begins with, by its encoding
abbrev pub First : List ℕ → Option ℕ → Type 0
First s None = StartsWithNoChar s
First s (Some c) = (scalar c ≡ true) × (s ≡ encode c ++ drop (len_utf8 c) s)

-- n is the length of the longest beginning of s that is text
pub record Longest (s : List ℕ) (n : ℕ) : Type 0 where
  pub within : n ≤ length s
  pub front : IsUtf8 (take n s)
  pub most : (m : ℕ) → n < m → m ≤ length s → IsUtf8 (take m s) → ⊥

-- bytes are text, or they are not and n is the length of the longest beginning that is
abbrev pub Checked : List ℕ → Result (Unit {0}) ℕ → Type 0
Checked s (Ok u) = IsUtf8 s
Checked s (Err n) = (IsUtf8 s → ⊥) × Longest s n
