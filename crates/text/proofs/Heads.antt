-- The character in front, by its definition and by its encoding.
use Rattle.std.proofs.Common.{◌≡◌, ℕ, true, ◌&&◌, eqb, List, [], ◌∷◌, ◌++◌, drop, Some, None, Option, sym, refl, ap, ◌∙◌, subst, ⊎_elim, arith}
use lib.Utf8.{encode, scalar}
use Rattle.std.proofs.lemmas.List.{append-nil}
use Rattle.std.proofs.lemmas.List.Prefix.{front_rest}
use Rattle.std.proofs.lemmas.Bool.{and_parts, and_from, cases_Bool, cond-true, cond-false, eqb-true, true≢false}
use Rattle.std.proofs.lemmas.Str.{chars-append, chars-encodes, IsUtf8-encode, length-encode}
use Rattle.std.proofs.lemmas.Bool.Decides.{nat_tests}
use Rattle.std.specs.Str.{StartsWithNoChar, chars}
use Rattle.std.specs.Char.{len_utf8}
use Rattle.text.specs.Chars.{begins, in_front, first_char}
use Rattle.text.specs.Cuts.{First}

pub begins_self : (p rest : List ℕ) → begins p (p ++ rest) ≡ true
begins_self [] rest = refl
begins_self (x ∷ xs) rest = let h = begins_self xs rest in grind (arith, nat_tests)

pub begins_front : (p s : List ℕ) → begins p s ≡ true → (rest : List ℕ) × (s ≡ p ++ rest)
begins_front [] s e = (s, refl)
begins_front (x ∷ xs) [] e = absurd (true≢false (sym e))
begins_front (x ∷ xs) (y ∷ ys) e =
    let b = and_parts (eqb x y) (begins xs ys) e in
    let r = begins_front xs ys b.1 in
    (r.0, λ i. sym (eqb-true x y b.0) i ∷ r.1 i)

-- what follows a character
pub rest_is : (bs rest : List ℕ) (c : ℕ) → bs ≡ encode c ++ rest → drop (len_utf8 c) bs ≡ rest
rest_is bs rest c e = subst (λ n. drop n bs ≡ rest) (length-encode c) (front_rest bs (encode c) rest e)

decodes_one : (c : ℕ) → scalar c ≡ true → chars (encode c) ≡ c ∷ []
decodes_one c h = ap chars (sym (append-nil (encode c))) ∙ chars-encodes (c ∷ []) (and_from (scalar c) true h refl)

decodes_front : (c : ℕ) (rest : List ℕ) → scalar c ≡ true → chars (encode c ++ rest) ≡ c ∷ chars rest
decodes_front c rest h = chars-append (encode c) rest (IsUtf8-encode c h) ∙ ap (λ l. l ++ chars rest) (decodes_one c h)

-- bytes begin with the character whose encoding stands in front
pub char_there : (s rest : List ℕ) (c : ℕ) → scalar c ≡ true → s ≡ encode c ++ rest → first_char s ≡ Some c
unfolding first_char
char_there s rest c h e =
    let t : begins (encode c) s ≡ true = ap (begins (encode c)) e ∙ begins_self (encode c) rest in
    ap (in_front s) (ap chars e ∙ decodes_front c rest h)
    ∙ cond-true (scalar c && begins (encode c) s) (Some c) None (and_from (scalar c) (begins (encode c) s) h t)

front_there : (s : List ℕ) (cs : List ℕ) (c : ℕ) → in_front s cs ≡ Some c → (scalar c ≡ true) × (s ≡ encode c ++ drop (len_utf8 c) s)
front_there s [] c e = absurd (let z : ◌≡◌ {A = ℕ} 0 1 = cc in omega arith)
front_there s (d ∷ ds) c e =
    ⊎_elim (λ t.
    let p = and_parts (scalar d) (begins (encode d) s) t in
    let f = begins_front (encode d) s p.1 in
    let q : Some d ≡ Some c = sym (cond-true (scalar d && begins (encode d) s) (Some d) None t) ∙ e in
    let w : d ≡ c = cc in
    let r : s ≡ encode d ++ drop (len_utf8 d) s = f.1 ∙ ap (λ l. encode d ++ l) (sym (rest_is s f.0 d f.1)) in
    (rw (← w) p.0, rw (← w) r))
    (λ f. let q : None ≡ Some c = sym (cond-false (scalar d && begins (encode d) s) (Some d) None f) ∙ e in absurd (let z : ◌≡◌ {A = ℕ} 0 1 = cc in omega arith))
    (cases_Bool (scalar d && begins (encode d) s))

-- the character in front has its encoding there
pub there_char : (s : List ℕ) (c : ℕ) → first_char s ≡ Some c → (scalar c ≡ true) × (s ≡ encode c ++ drop (len_utf8 c) s)
unfolding first_char
there_char s c e = front_there s (chars s) c e

no_front : (s cs : List ℕ) → StartsWithNoChar s → in_front s cs ≡ None
no_front s [] n = refl
no_front s (d ∷ ds) n =
    ⊎_elim (λ t.
    let p = and_parts (scalar d) (begins (encode d) s) t in
    let f = begins_front (encode d) s p.1 in
    absurd (n d f.0 p.0 f.1))
    (λ f. cond-false (scalar d && begins (encode d) s) (Some d) None f) (cases_Bool (scalar d && begins (encode d) s))

-- no encoding stands in front, so no character does
pub no_char : (s : List ℕ) → StartsWithNoChar s → first_char s ≡ None
unfolding first_char
no_char s n = no_front s (chars s) n

pub first_is : (s : List ℕ) (r : Option ℕ) → r ≡ first_char s → First s r
first_is s None e = λ c rest h q. let a : None ≡ Some c = e ∙ char_there s rest c h q in absurd (let z : ◌≡◌ {A = ℕ} 0 1 = cc in omega arith)
first_is s (Some c) e = there_char s c (sym e)
