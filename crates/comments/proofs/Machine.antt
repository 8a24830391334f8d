-- The machine's states, by what the bytes that are left give.
use Rattle.std.proofs.Common.{◌≡◌, ℕ, ◌-◌, ◌<◌, ◌≤◌, true, false, List, [], Err, Result, refl}
use Rattle.scan.specs.declared.kind.ParseErrorKind.{ParseErrorKind}
use Rattle.scan.specs.declared.kind.ParseErrorKind.TheVariants.{TooShort}
use Rattle.comments.specs.declared.CommentState.{CommentState}
use Rattle.comments.specs.declared.CommentState.TheVariants.{Start, Next, Escape}
use Rattle.comments.specs.Comments.{inside, closes_at}

-- what the rest gives from a state
abbrev pub from : ℕ → CommentState → List ℕ → Result ℕ ParseErrorKind
from n Start bs = closes_at bs
from n (Next d) bs = inside n (d - 1) false bs
from n (Escape d) bs = inside n (d - 1) true bs

-- the states that it can be in after n bytes
abbrev pub Sound : ℕ → CommentState → Type 0
Sound n Start = n ≡ 0
Sound n (Next d) = (0 < d) × (d ≤ n)
Sound n (Escape d) = (0 < d) × (d ≤ n)

pub ended : (n : ℕ) (st : CommentState) → from n st [] ≡ Err TooShort
unfolding closes_at
ended n Start = refl
ended n (Next d) = refl
ended n (Escape d) = refl
