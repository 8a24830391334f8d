-- Where a comment ends, byte by byte.
use Rattle.std.specs.Prelude.{ℕ, ◌+◌, ◌-◌, Bool, true, false, cond, List, [], ◌∷◌, drop, Ok, Err, Result, ◌==◌}
use Rattle.scan.specs.Steps.{bind}
use Rattle.scan.specs.declared.kind.ParseErrorKind.{ParseErrorKind}
use Rattle.scan.specs.declared.kind.ParseErrorKind.TheVariants.{Invalid, TooShort}
use Rattle.text.specs.Chars.{blanks_at}

-- n bytes are taken, d + 1 comments are open, and esc says that the byte before is a backslash that quotes
abbrev pub inside : ℕ → ℕ → Bool → List ℕ → Result ℕ ParseErrorKind
inside n d esc [] = Err TooShort
inside n d true (b ∷ bs) = inside (n + 1) d false bs
inside n d false (b ∷ bs) =
    cond (b == 92) (inside (n + 1) d true bs)
    (cond (b == 40) (inside (n + 1) (d + 1) false bs)
    (cond (b == 41) (cond (d == 0) (Ok (n + 1)) (inside (n + 1) (d - 1) false bs)) (inside (n + 1) d false bs)))

-- one comment in front: the count of its bytes
unfoldable pub closes_at : List ℕ → Result ℕ ParseErrorKind
closes_at [] = Err TooShort
closes_at (b ∷ bs) = cond (b == 40) (inside 1 0 false bs) (Err Invalid)

-- blanks and then one comment
unfoldable pub comment_at : List ℕ → Result ℕ ParseErrorKind
comment_at s = bind (closes_at (drop (blanks_at s) s)) (λ n. Ok (blanks_at s + n))
