-- Blanks and one comment are taken exactly where the grammar has them.
use Rattle.std.proofs.Common.{◌≡◌, ℕ, ◌+◌, List, [], ◌∷◌, ◌++◌, length, drop, Ok, Err, Result, sym, refl, ap, ◌∙◌, subst, arith}
use Rattle.std.proofs.lemmas.List.{drop_at}
use Rattle.scan.specs.Steps.{bind}
use Rattle.scan.specs.declared.kind.ParseErrorKind.{ParseErrorKind}
use Rattle.text.specs.Chars.{blanks_at}
use Rattle.comments.specs.Comments.{closes_at, comment_at}
use Rattle.comments.specs.Grammar.{Comment, Commented, Exactly}
use Rattle.comments.proofs.Contents.{sound, complete}
use Rattle.comments.proofs.Skips.{skips, skipped}

parts : (r : Result ℕ ParseErrorKind) (k n : ℕ) → bind r (λ m. Ok (k + m)) ≡ Ok n → (m : ℕ) × (r ≡ Ok m) × (n ≡ k + m)
parts (Ok m) k n e = (m, refl, cc)
parts (Err x) k n e = absurd (let z : ◌≡◌ {A = ℕ} 0 1 = cc in omega arith)

granted : (s : List ℕ) (n : ℕ) → comment_at s ≡ Ok n → Commented s n
unfolding comment_at
granted s n e =
    let k = blanks_at s in
    let p = parts (closes_at (drop k s)) k n e in
    let t = skips s in
    let u = sound (drop k s) p.0 p.1 in
    let d : t.rest ≡ drop k s = sym (ap (drop k) t.bytes ∙ drop_at t.ws t.rest k t.count) in
    let a = p.2 in
    let b = t.count in
    let c = u.count in
    record {
      ws = t.ws;
      cs = u.cs;
      rest = u.rest;
      blanks = t.blanks;
      comment = u.comment;
      bytes = t.bytes ∙ ap (λ x. t.ws ++ x) (d ∙ u.bytes);
      count = omega arith;
    }

begins : (ws cs rest : List ℕ) → Comment cs → (more : List ℕ) × (ws ++ (cs ++ rest) ≡ ws ++ 40 ∷ more)
begins ws cs rest c = ((c.inner ++ 41 ∷ []) ++ rest, ap (λ x. ws ++ (x ++ rest)) c.bytes)

grants : (s : List ℕ) (n : ℕ) → Commented s n → comment_at s ≡ Ok n
unfolding comment_at
grants s n c =
    let ws = c.ws in
    let o = begins ws c.cs c.rest c.comment in
    let k : blanks_at s ≡ length ws = ap blanks_at (c.bytes ∙ o.1) ∙ skipped ws o.0 c.blanks in
    let d : drop (blanks_at s) s ≡ c.cs ++ c.rest
    = ap (drop (blanks_at s)) c.bytes ∙ drop_at ws (c.cs ++ c.rest) (blanks_at s) (sym k) in
    let z : closes_at (drop (blanks_at s) s) ≡ Ok (length c.cs) = ap closes_at d ∙ complete c.cs c.rest c.comment in
    let m = c.count in
    ap (λ r. bind r (λ m. Ok (blanks_at s + m))) z ∙ ap Ok (omega arith)

pub exact : (s : List ℕ) → Exactly s (comment_at s)
exact s n = (granted s n, grants s n)

pub exactly_by : (s : List ℕ) (r : Result ℕ ParseErrorKind) → r ≡ comment_at s → Exactly s r
exactly_by s r e = subst (Exactly s) (sym e) (exact s)
