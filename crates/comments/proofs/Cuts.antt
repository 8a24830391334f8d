-- A comment ends behind its ')', so it takes whole characters.
use Rattle.std.proofs.Common.{◌≡◌, ℕ, suc, ◌+◌, List, [], ◌∷◌, ◌++◌, length, get_or, Ok, Err, Result, refl, ap, ◌∙◌, subst, arith, length-append}
use Rattle.std.proofs.lemmas.List.{append_assoc, get_or_at}
use Rattle.scan.specs.Steps.{CutsMark}
use Rattle.scan.specs.declared.kind.ParseErrorKind.{ParseErrorKind}
use Rattle.text.specs.Cuts.{Cut}
use Rattle.text.proofs.Cutting.{cut_after}
use Rattle.comments.specs.Comments.{closes_at}
use Rattle.comments.proofs.Contents.{Stands, sound}

stands_cut : (s : List ℕ) (m : ℕ) → Stands s m → Cut s m
stands_cut s m t =
    let a = t.comment.inner in
    let i = suc (length a) in
    let q : s ≡ (40 ∷ a) ++ 41 ∷ t.rest
    = t.bytes ∙ (ap (λ x. x ++ t.rest) t.comment.bytes ∙ ap (λ x. 40 ∷ x) (append_assoc a (41 ∷ []) t.rest)) in
    let g : get_or s i 0 ≡ 41 = ap (λ x. get_or x i 0) q ∙ get_or_at (40 ∷ a) 41 t.rest 0 i refl in
    let l : length s ≡ suc (length (a ++ 41 ∷ t.rest)) = ap length q in
    let k = length-append a (41 ∷ t.rest) in
    let n : length t.cs ≡ suc (length (a ++ 41 ∷ [])) = ap length t.comment.bytes in
    let j = length-append a (41 ∷ []) in
    let c = t.count in
    let e : i + 1 ≡ m = omega arith in
    subst (Cut s) e (cut_after s i (omega arith) (omega arith))

granted_cut : (s : List ℕ) (r : Result ℕ ParseErrorKind) → closes_at s ≡ r → CutsMark s r
granted_cut s (Ok m) e = stands_cut s m (sound s m e)
granted_cut s (Err k) e = tt

pub closes_cut : (s : List ℕ) → CutsMark s (closes_at s)
closes_cut s = granted_cut s (closes_at s) refl
