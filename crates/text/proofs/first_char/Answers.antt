use Rattle.std.proofs.Common.{◌≡◌, ℕ, ◌+◌, ◌<◌, ◌≤◌, true, List, [], ◌∷◌, ◌++◌, length, get_or, take, drop, Some, None, IsUtf8, Option, sym, refl, ap, ◌∙◌, subst, arith, length-append, length-take, rules, MatchOption}
use lib.Utf8.{encode, scalar, scalars, low_scalar}
use Rattle.std.proofs.lemmas.List.{take-append-drop, append_assoc, take-take, take_at}
use Rattle.std.proofs.lemmas.Bool.{and_parts, ltb-true}
use Rattle.std.proofs.lemmas.Str.{cons_from_encodes, length-encode, IsUtf8-nil, IsUtf8-encode, utf8_valid_len_le, len_utf8_bounds, encode_ascii}
use Rattle.std.specs.Str.{StartsWithNoChar}
use Rattle.std.specs.Str.Lossy.{utf8_valid_len}
use Rattle.std.specs.Str.Iter.{chars_rest}
use Rattle.std.specs.Char.{len_utf8}
use Rattle.text.specs.Chars.{first_char}
use Rattle.text.specs.Cuts.{Longest}
use Rattle.text.proofs.Ends.{longest_valid}
use Rattle.text.proofs.Heads.{char_there, no_char, first_is}
use Rattle.text.proofs.first_char.Goals as goal

-- an ASCII byte is a character
ascii : (s : List ℕ) → 1 ≤ length s → get_or s 0 0 < 128 → Some (get_or s 0 0) ≡ first_char s
ascii [] l h = absurd (omega arith)
ascii (b ∷ bs) l h = sym (char_there (b ∷ bs) bs b (low_scalar b (omega arith)) (ap (λ x. x ++ bs) (sym (encode_ascii b h))))

-- a text's first character is a character
first_scalar : (bs rest : List ℕ) (c : ℕ) → IsUtf8 bs → bs ≡ encode c ++ rest → scalar c ≡ true
first_scalar bs rest c u e =
    let p = cons_from_encodes u.0 rest c (u.1.1 ∙ e) in
    (and_parts (scalar c) (scalars p.0) (subst (λ l. scalars l ≡ true) p.1 u.1.0)).0

-- The text at the front of the first m bytes decides, if m leaves room for any character.
module _ (s : List ℕ) (m : ℕ) (room : (k : ℕ) → k ≤ 4 → k ≤ length s → k ≤ m) where
  none : Longest (take m s) 0 → StartsWithNoChar s
  none l c rest sc e =
      let b = len_utf8_bounds c in
      let n : length s ≡ len_utf8 c + length rest = ap length e ∙ (length-append (encode c) rest ∙ rw (length-encode c) refl) in
      let h = room (len_utf8 c) b.1 (omega arith) in
      let t : take (len_utf8 c) (take m s) ≡ encode c = take-take (len_utf8 c) m s h ∙ (ap (take (len_utf8 c)) e ∙ take_at (encode c) rest (len_utf8 c) (length-encode c)) in
      l.most (len_utf8 c) (omega arith) (omega (arith, length-take m s)) (subst IsUtf8 (sym t) (IsUtf8-encode c sc))

  decides : (ts more rest : List ℕ) (r : Option ℕ) → take m s ≡ ts ++ more → length ts ≡ utf8_valid_len (take m s) → IsUtf8 ts
      → MatchOption r (length ts ≡ 0) (λ c. ts ≡ encode c ++ rest) → r ≡ first_char s
  decides ts more rest None e l u h = sym (no_char s (none (subst (λ k. Longest (take m s) k) (sym l ∙ h) (longest_valid (take m s)))))
  decides ts more rest (Some c) e l u h =
      let t : s ≡ encode c ++ (rest ++ (more ++ drop m s)) = sym (take-append-drop m s) ∙ (rw (e, h) simp append_assoc) in
      sym (char_there s _ c (first_scalar ts rest c u h) t)

pub returns-in-len1-up-clause-value : goal.returns-in-len1-up-clause-value
returns-in-len1-up-clause-value c = rw c.from.ensures (ascii c.args.s.now c.in-len1-up.len_at_least (ltb-true _ _ (sym c.is_ascii.ensures ∙ c.if-is_ascii.true)))

pub returns-in_err-chunk-in_default : goal.returns-in_err-chunk-in_default
returns-in_err-chunk-in_default c =
    let l : length (take c.min.result c.args.s.now) ≡ 0 = sym c.utf8_chunks.ensures.len ∙ c.in_err-chunk-in_default.ensures.steps.0 in
    let z = utf8_valid_len_le (take c.min.result c.args.s.now) in
    let v = c.from_residual.ensures ∙ decides c.args.s.now c.min.result (λ k a b. omega arith) [] (take c.min.result c.args.s.now) [] None refl (omega arith) IsUtf8-nil refl in
    record { value = v; meaning = first_is c.args.s.now _ v }

pub returns-in_ok-chunk-in_default : goal.returns-in_ok-chunk-in_default
returns-in_ok-chunk-in_default c =
    let d = c.in_ok-chunk-in_default.ensures.steps in
    let e = c.utf8_chunks.ensures.rest in
    let f = c.valid.ensures in
    let v = decides c.args.s.now c.min.result (λ k a b. omega arith) c.valid.result.now (c.in_ok-chunk-in_default.chunk.invalid.now ++ c.next.new.self.rest.now) (chars_rest c.next-in_default.new.self) c.next-in_default.result
    (rw (← e, f) d.0) (rw (← e, f) d.3.0) c.valid.utf8 (search rules) in
    record { value = v; meaning = first_is c.args.s.now _ v }
