-- Blanks in front are what the grammar calls so.
use Rattle.std.proofs.Common.{◌≡◌, ℕ, zero, suc, ◌+◌, ◌≤◌, true, false, List, [], ◌∷◌, ◌++◌, length, drop, Some, None, Option, sym, refl, ap, ◌∙◌, subst, ⊎_elim, arith, length-append}
use lib.Utf8.{encode, encodes, scalar, scalars}
use Rattle.std.proofs.lemmas.List.{append_assoc}
use Rattle.std.proofs.lemmas.Bool.{and_from, cases_Bool}
use Rattle.std.proofs.lemmas.Str.{encode_ascii, length-encode, len_utf8_bounds}
use Rattle.std.specs.Char.{len_utf8}
use Rattle.text.specs.Chars.{first_char, run, all_pass, among, blank, blanks_at}
use Rattle.text.proofs.Heads.{char_there, there_char}
use Rattle.text.proofs.Runs.{char_length, run_chars, run_more, run_stop, run_none}
use Rattle.comments.specs.Grammar.{Blanks}

open_no_blank : blank 40 ≡ false
unfolding blank among
open_no_blank = refl

-- blanks in front, and then a '('
pub skipped : (ws rest : List ℕ) → Blanks ws → blanks_at (ws ++ 40 ∷ rest) ≡ length ws
unfolding blanks_at
skipped ws rest b =
    let r = run_chars blank b.chars (40 ∷ rest) b.scalar b.blank in
    let e : run blank (encodes b.chars ++ 40 ∷ rest) ≡ run blank (ws ++ 40 ∷ rest) = ap (λ x. run blank (x ++ 40 ∷ rest)) b.bytes in
    let l : length (encodes b.chars) ≡ length ws = ap length b.bytes in
    let z = run_stop blank (40 ∷ rest) 40 (char_there (40 ∷ rest) rest 40 refl (ap (λ x. x ++ rest) (sym (encode_ascii 40 (omega arith))))) open_no_blank in
    omega arith

-- the run is blanks, and something follows
pub record Skipped (s : List ℕ) (n : ℕ) : Type 0 where
  pub ws : List ℕ
  pub rest : List ℕ
  pub blanks : Blanks ws
  pub bytes : s ≡ ws ++ rest
  pub count : length ws ≡ n

one_more : (s : List ℕ) (c n : ℕ) → scalar c ≡ true → blank c ≡ true → s ≡ encode c ++ drop (len_utf8 c) s
    → Skipped (drop (len_utf8 c) s) n → Skipped s (len_utf8 c + n)
one_more s c n h b e t =
    let w = length-encode c in
    let l = length-append (encode c) t.ws in
    let k = t.count in
    let g = t.blanks in
    record {
      ws = encode c ++ t.ws;
      rest = t.rest;
      blanks = record {
        chars = c ∷ g.chars;
        scalar = and_from (scalar c) (scalars g.chars) h g.scalar;
        blank = and_from (blank c) (all_pass blank g.chars) b g.blank;
        bytes = ap (λ x. encode c ++ x) g.bytes;
      };
      bytes = e ∙ (ap (λ x. encode c ++ x) t.bytes ∙ sym (append_assoc (encode c) t.ws t.rest));
      count = omega arith;
    }

no_more : (s : List ℕ) (n : ℕ) → n ≡ 0 → Skipped s n
no_more s n e = record { ws = []; rest = s; blanks = record { chars = []; scalar = refl; blank = refl; bytes = refl }; bytes = refl; count = sym e }

skips_by : (most : ℕ) (s : List ℕ) (o : Option ℕ) → first_char s ≡ o → length s ≤ most → Skipped s (run blank s)
skips_by most s None e l = no_more s _ (run_none blank s e)
skips_by zero s (Some c) e l =
    let k = char_length s c (there_char s c e).1 in
    let b = (len_utf8_bounds c).0 in
    absurd (omega arith)
skips_by (suc most) s (Some c) e l =
    let t = there_char s c e in
    let k = char_length s c t.1 in
    let b = (len_utf8_bounds c).0 in
    let rest = drop (len_utf8 c) s in
    ⊎_elim (λ h. subst (Skipped s) (sym (run_more blank s c e h).1) (one_more s c _ t.0 h t.1 (skips_by most rest _ refl (omega arith))))
    (λ f. no_more s _ (run_stop blank s c e f)) (cases_Bool (blank c))

pub skips : (s : List ℕ) → Skipped s (blanks_at s)
unfolding blanks_at
skips s = skips_by (length s) s _ refl (omega arith)
