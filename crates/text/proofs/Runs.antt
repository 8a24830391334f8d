-- Runs of characters that pass a test: one more, the end, and where they cut.
use Rattle.std.proofs.Common.{◌≡◌, ℕ, zero, suc, ◌+◌, ◌-◌, ◌≤◌, Bool, true, false, List, [], ◌∷◌, ◌++◌, length, take, drop, Some, None, Option, sym, refl, ap, ◌∙◌, subst, ⊎_elim, arith, length-append, length-drop}
use lib.Utf8.{encode, encodes, scalar, scalars}
use Rattle.std.proofs.lemmas.List.{take-append-drop, length-take-le, append_assoc, take_rest, drop-drop}
use Rattle.std.proofs.lemmas.Bool.{and_parts, cases_Bool, cond-true, cond-false}
use Rattle.std.proofs.lemmas.Str.{length-encode, IsUtf8-past_char, len_utf8_bounds}
use Rattle.std.specs.Char.{len_utf8}
use Rattle.text.specs.Chars.{first_char, passing, one_more, run_from, run, all_pass}
use Rattle.text.specs.Cuts.{Cut}
use Rattle.text.proofs.Heads.{rest_is, there_char, char_there}
use Rattle.text.proofs.Cutting.{cut_by_left, cut_none, cut_more}

skips : (p : ℕ → Bool) (n : ℕ) (xs ys : List ℕ) → length xs ≡ n → run_from p n (xs ++ ys) ≡ n + run p ys
unfolding run_from
skips p zero [] ys e = omega arith
skips p zero (x ∷ xs) ys e = absurd (omega arith)
skips p (suc n) [] ys e = absurd (omega arith)
skips p (suc n) (x ∷ xs) ys e = let h = skips p n xs ys (omega arith) in omega arith

-- the run at a front of w bytes that passes
by_width : (p : ℕ → Bool) (s : List ℕ) (w : ℕ) → passing p (first_char s) ≡ w → 1 ≤ w → w ≤ length s → run p s ≡ w + run p (drop w s)
unfolding run_from
by_width p s zero e l h = absurd (omega arith)
by_width p [] (suc k) e l h = absurd (omega arith)
by_width p (b ∷ bs) (suc k) e l h =
    let q : run_from p k bs ≡ k + run p (drop k bs)
    = ap (run_from p k) (sym (take-append-drop k bs)) ∙ skips p k (take k bs) (drop k bs) (length-take-le k bs (omega arith)) in
    subst (λ x. one_more x (λ n. run_from p n bs) ≡ suc k + run p (drop k bs)) (sym e) (omega arith)

by_none : (p : ℕ → Bool) (s : List ℕ) → passing p (first_char s) ≡ 0 → run p s ≡ 0
unfolding run_from
by_none p [] e = refl
by_none p (b ∷ bs) e = subst (λ x. ◌≡◌ {A = ℕ} (one_more x (λ n. run_from p n bs)) 0) (sym e) refl

pub char_length : (s : List ℕ) (c : ℕ) → s ≡ encode c ++ drop (len_utf8 c) s → length s ≡ len_utf8 c + length (drop (len_utf8 c) s)
char_length s c e = ap length e ∙ (length-append (encode c) (drop (len_utf8 c) s) ∙ rw (length-encode c) refl)

-- one more character, and none
pub run_more : (p : ℕ → Bool) (s : List ℕ) (c : ℕ) → first_char s ≡ Some c → p c ≡ true → (len_utf8 c ≤ length s) × (run p s ≡ len_utf8 c + run p (drop (len_utf8 c) s))
run_more p s c e t =
    let l = char_length s c (there_char s c e).1 in
    let w : passing p (first_char s) ≡ len_utf8 c = ap (passing p) e ∙ cond-true (p c) (len_utf8 c) 0 t in
    (omega arith, by_width p s (len_utf8 c) w (len_utf8_bounds c).0 (omega arith))

pub run_stop : (p : ℕ → Bool) (s : List ℕ) (c : ℕ) → first_char s ≡ Some c → p c ≡ false → run p s ≡ 0
run_stop p s c e f = by_none p s (ap (passing p) e ∙ cond-false (p c) (len_utf8 c) 0 f)

pub run_none : (p : ℕ → Bool) (s : List ℕ) → first_char s ≡ None → run p s ≡ 0
run_none p s e = by_none p s (ap (passing p) e)

-- characters that pass, and then something else
pub run_chars : (p : ℕ → Bool) (cs rest : List ℕ) → scalars cs ≡ true → all_pass p cs ≡ true → run p (encodes cs ++ rest) ≡ length (encodes cs) + run p rest
run_chars p [] rest h b = omega arith
run_chars p (c ∷ cs) rest h b =
    let u = and_parts (scalar c) (scalars cs) h in
    let v = and_parts (p c) (all_pass p cs) b in
    let s = encodes (c ∷ cs) ++ rest in
    let e : s ≡ encode c ++ (encodes cs ++ rest) = append_assoc (encode c) (encodes cs) rest in
    let m = (run_more p s c (char_there s (encodes cs ++ rest) c u.0 e) v.0).1 in
    let d : run p (drop (len_utf8 c) s) ≡ run p (encodes cs ++ rest) = ap (run p) (rest_is s (encodes cs ++ rest) c e) in
    let n = run_chars p cs rest u.1 v.1 in
    let l = length-append (encode c) (encodes cs) in
    let w = length-encode c in
    omega arith

-- one character is cut off whole
pub cut_char : (s : List ℕ) (c : ℕ) → first_char s ≡ Some c → Cut s (len_utf8 c)
cut_char s c e =
    let t = (there_char s c e).1 in
    let l = char_length s c t in
    cut_by_left s (len_utf8 c) (omega arith) (λ u. IsUtf8-past_char s (drop (len_utf8 c) s) c u t)

-- A loop over characters: n bytes of the run are behind it, and what is left has the rest.
pub record Going (p : ℕ → Bool) (s : List ℕ) (n : ℕ) : Type 0 where
  pub cut : Cut s n
  pub left : n + run p (drop n s) ≡ run p s

abbrev pub from : List ℕ → ℕ → List ℕ
from s n = take (length s - n) (drop n s)

module _ (p : ℕ → Bool) (s : List ℕ) (n : ℕ) (g : Going p s n) where
  pub going_more : (c m w : ℕ) → Some c ≡ first_char (from s n) → p c ≡ true → m ≡ n → w ≡ len_utf8 c → Going p s (m + w)
  going_more c m w e t i j =
      let f : first_char (drop n s) ≡ Some c = ap first_char (sym (take_rest s n)) ∙ sym e in
      let r = (run_more p (drop n s) c f t).1 in
      let l = g.left in
      let d : run p (drop (n + len_utf8 c) s) ≡ run p (drop (len_utf8 c) (drop n s)) = ap (run p) (sym (drop-drop (len_utf8 c) n s)) in
      let z : Going p s (n + len_utf8 c) = record { cut = cut_more s n (len_utf8 c) g.cut (cut_char (drop n s) c f); left = omega arith } in
      subst (λ k. Going p s k) (sym (ap (λ k. k + w) i ∙ ap (λ k. n + k) j)) z

  pub going_stop : (c : ℕ) → Some c ≡ first_char (from s n) → p c ≡ false → n ≡ run p s
  going_stop c e t =
      let z = run_stop p (drop n s) c (ap first_char (sym (take_rest s n)) ∙ sym e) t in
      let l = g.left in
      omega arith

  pub going_none : None ≡ first_char (from s n) → n ≡ run p s
  going_none e =
      let z = run_none p (drop n s) (ap first_char (sym (take_rest s n)) ∙ sym e) in
      let l = g.left in
      omega arith

-- a run takes whole characters
run_cut_by : (p : ℕ → Bool) (most : ℕ) (s : List ℕ) (o : Option ℕ) → first_char s ≡ o → length s ≤ most → Cut s (run p s)
run_cut_by p most s None e l = subst (λ k. Cut s k) (sym (run_none p s e)) (cut_none s)
run_cut_by p zero s (Some c) e l = let r = (cut_char s c e).within in let b = (len_utf8_bounds c).0 in absurd (omega arith)
run_cut_by p (suc most) s (Some c) e l =
    let t = cut_char s c e in
    let w = t.within in
    let b = (len_utf8_bounds c).0 in
    let d = length-drop (len_utf8 c) s in
    ⊎_elim (λ h. subst (λ k. Cut s k) (sym (run_more p s c e h).1) (cut_more s (len_utf8 c) _ t (run_cut_by p most (drop (len_utf8 c) s) _ refl (omega arith))))
    (λ f. subst (λ k. Cut s k) (sym (run_stop p s c e f)) (cut_none s)) (cases_Bool (p c))

pub run_cut : (p : ℕ → Bool) (s : List ℕ) → Cut s (run p s)
run_cut p s = run_cut_by p (length s) s _ refl (omega arith)
