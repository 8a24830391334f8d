use Rattle.std.proofs.Common.{◌≡◌, ℕ, List, IsUtf8, IfOk, Ok, Err, Result, MatchResult, sym, subst}
use Rattle.std.specs.Str.{IsCharBoundary}
use Rattle.std.proofs.lemmas.Str.{IsCharBoundary-from_drop}
use Rattle.text.specs.Cuts.{Cut}
use Rattle.stamps.specs.declared.line.Refusal.{Refusal}
use Rattle.stamps.proofs.line.read_line.Goals as goal

-- where a text is cut, a character begins
boundary : (s t : List ℕ) (n : ℕ) → Cut s n → IsUtf8 s → s ≡ t → IsCharBoundary t n
boundary s t n c u e = subst (λ x. IsCharBoundary x n) e (IsCharBoundary-from_drop s n c.within (c.left u))

-- a granted answer that `map_err` let by is the answer that was given
granted : {A E : Type 0} (P : A → Type 0) (r : Result A E) (x : A) → MatchResult r (λ y. ◌≡◌ {A = Result A Refusal} (Ok x) (Ok y)) (λ _. ⊥) → IfOk r P → P x
granted P (Ok y) x h p = let e : x ≡ y = cc in subst P (sym e) p
granted P (Err e) x h p = absurd h

pub split_at-requires : goal.split_at-requires
split_at-requires c = boundary _ _ _ c.non_blanks.ensures.cut c.as_bytes.ensures.utf8 c.as_bytes.ensures.value

pub split_at-requires-2 : goal.split_at-requires-2
split_at-requires-2 c = boundary _ _ _ c.blanks.ensures.cut c.as_bytes-2.ensures.utf8 c.as_bytes-2.ensures.value

pub range_from-left-requires : goal.range_from-left-requires
range_from-left-requires c = λ _. boundary _ _ _ (granted (λ p. Cut c.as_bytes-3.result.now p.1) c.read.result (c.in_ok-value.value, c.in_ok-value.taken) c.in_ok-value.ensures.cases c.read.ensures.cut) c.as_bytes-3.ensures.utf8 c.as_bytes-3.ensures.value
