-- The longest beginning that is text is the run of all characters in front.
use Rattle.std.proofs.Common.{◌≡◌, ℕ, zero, suc, ◌+◌, ◌<◌, ◌≤◌, true, List, [], ◌∷◌, ◌++◌, length, take, drop, Some, None, Ok, Err, IsUtf8, Option, sym, refl, ap, ◌∙◌, subst, ⊎_elim, arith, length-append}
use lib.Utf8.{encode, encodes}
use Rattle.std.proofs.lemmas.List.{append_assoc, take-append-drop, take_all, length-take-le, take_at}
use Rattle.std.proofs.lemmas.Bool.{cases_lt, cond-true, cond-false, eq-eqb, ne_eqb}
use Rattle.std.proofs.lemmas.Str.{length-encode, len_utf8_bounds, IsUtf8-nil, IsUtf8-append, IsUtf8-encode, utf8_valid_len-IsValidUpTo, utf8_valid_len-IsUtf8}
use Rattle.std.specs.Str.Lossy.{utf8_valid_len}
use Rattle.std.specs.Str.{IsValidUpTo}
use Rattle.std.specs.Char.{len_utf8}
use Rattle.text.specs.Chars.{first_char, run, all_pass, any_char, text_end, is_text, text_check}
use Rattle.text.specs.Cuts.{Longest}
use Rattle.text.proofs.Heads.{there_char}
use Rattle.text.proofs.Runs.{char_length, run_more, run_none, run_chars, run_cut}

all_any : (cs : List ℕ) → all_pass any_char cs ≡ true
all_any [] = refl
all_any (c ∷ cs) = all_any cs

-- no longer beginning is text
at_most : (s : List ℕ) (m : ℕ) → m ≤ length s → IsUtf8 (take m s) → m ≤ run any_char s
at_most s m l u =
    let r = run_chars any_char u.0 (drop m s) u.1.0 (all_any u.0) in
    let e : encodes u.0 ++ drop m s ≡ s = ap (λ x. x ++ drop m s) u.1.1 ∙ take-append-drop m s in
    let q : run any_char (encodes u.0 ++ drop m s) ≡ run any_char s = ap (run any_char) e in
    let k : length (encodes u.0) ≡ m = ap length u.1.1 ∙ length-take-le m s l in
    omega arith

-- and it is text
front : (most : ℕ) (s : List ℕ) (o : Option ℕ) → first_char s ≡ o → length s ≤ most → IsUtf8 (take (run any_char s) s)
front most s None e l = subst (λ k. IsUtf8 (take k s)) (sym (run_none any_char s e)) IsUtf8-nil
front zero s (Some c) e l =
    let k = char_length s c (there_char s c e).1 in
    let b = (len_utf8_bounds c).0 in
    absurd (omega arith)
front (suc most) s (Some c) e l =
    let t = there_char s c e in
    let rest = drop (len_utf8 c) s in
    let b = (len_utf8_bounds c).0 in
    let k = char_length s c t.1 in
    let u : IsUtf8 (take (run any_char rest) rest) = front most rest _ refl (omega arith) in
    let m = (run_more any_char s c e refl).1 in
    let n = run any_char rest in
    let w = (run_cut any_char rest).within in
    let q : s ≡ (encode c ++ take n rest) ++ drop n rest
    = t.1 ∙ (ap (λ x. encode c ++ x) (sym (take-append-drop n rest)) ∙ sym (append_assoc (encode c) (take n rest) (drop n rest))) in
    let z : length (encode c ++ take n rest) ≡ len_utf8 c + n
    = length-append (encode c) (take n rest) ∙ (ap (λ x. x + length (take n rest)) (length-encode c) ∙ ap (λ x. len_utf8 c + x) (length-take-le n rest w)) in
    let f : take (len_utf8 c + n) s ≡ encode c ++ take n rest
    = ap (take (len_utf8 c + n)) q ∙ take_at (encode c ++ take n rest) (drop n rest) (len_utf8 c + n) z in
    subst (λ x. IsUtf8 (take x s)) (sym m) (subst IsUtf8 (sym f) (IsUtf8-append (encode c) (take n rest) (IsUtf8-encode c t.0) u))

pub longest_end : (s : List ℕ) → Longest s (text_end s)
unfolding text_end
longest_end s =
    record {
      within = (run_cut any_char s).within;
      front = front (length s) s _ refl (omega arith);
      most = λ m h l u. let a = at_most s m l u in omega arith;
    }

-- there is one such length
pub longest_one : (s : List ℕ) (n m : ℕ) → Longest s n → Longest s m → n ≡ m
longest_one s n m a b =
    ⊎_elim (λ h. absurd (a.most m h b.within b.front))
    (λ h. ⊎_elim (λ k. absurd (b.most n k a.within a.front)) (λ k. omega arith) (cases_lt m n)) (cases_lt n m)

pub longest_all : (s : List ℕ) → IsUtf8 s → Longest s (length s)
longest_all s u = record { within = omega arith; front = subst IsUtf8 (sym (take_all (length s) s (omega arith))) u; most = λ m h l _. omega arith }

-- the check, by what the standard library's says
pub check_yes : (s : List ℕ) → IsUtf8 s → Ok tt ≡ text_check s
unfolding text_check
check_yes s u =
    let e = longest_one s (text_end s) (length s) (longest_end s) (longest_all s u) in
    sym (cond-true (is_text s) (Ok tt) (Err (text_end s)) (eq-eqb (text_end s) (length s) e))

pub check_no : (s : List ℕ) (n : ℕ) → Longest s n → n < length s → Err n ≡ text_check s
unfolding text_check
check_no s n a l =
    let e = longest_one s n (text_end s) a (longest_end s) in
    ap Err e ∙ sym (cond-false (is_text s) (Ok tt) (Err (text_end s)) (ne_eqb (text_end s) (length s) (λ q. omega arith)))

-- the standard library's longest beginning is the same
pub longest_valid : (s : List ℕ) → Longest s (utf8_valid_len s)
longest_valid s =
    let e = longest_end s in
    let n = text_end s in
    let all : (m : ℕ) → length s ≤ m → IsUtf8 (take m s) → IsUtf8 (take (length s) s)
    = λ m l u. subst IsUtf8 (take_all m s l ∙ sym (take_all (length s) s (omega arith))) u in
    ⊎_elim (λ h.
    let v : IsValidUpTo s n
    = record { short = h; front = e.front; longest = λ m g u. ⊎_elim (λ k. e.most m g (omega arith) u) (λ k. e.most (length s) h (omega arith) (all m k u)) (cases_lt m (length s)) } in
    subst (λ k. Longest s k) (sym (utf8_valid_len-IsValidUpTo s n v)) e)
    (λ h.
    let w = e.within in
    let q : n ≡ length s = omega arith in
    subst (λ k. Longest s k) (q ∙ sym (utf8_valid_len-IsUtf8 s (subst IsUtf8 (take_all n s h) e.front))) e)
    (cases_lt n (length s))

pub from_std : (s : List ℕ) (n m : ℕ) → IsValidUpTo s n → m ≡ n → Longest s m
from_std s n m v e =
    let l = v.short in
    record { within = omega arith; front = rw e v.front; most = λ k p _ u. v.longest k (omega arith) u }
