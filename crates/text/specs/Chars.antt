-- Characters at the front of bytes. A text is UTF-8 by RFC 3629, which is `IsUtf8` of the standard library: the bytes of some list of
-- Unicode scalar values, each in its one encoding. The definitions here are total: they speak of all bytes, text or not.
use Rattle.std.specs.Prelude.{ℕ, zero, suc, ◌+◌, Bool, true, false, cond, not, ◌&&◌, ◌||◌, List, [], ◌∷◌, length, Some, None, Ok, Err, Option, Result, ◌==◌}
use Rattle.std.proofs.Math.Utf8.{encode, scalar}
use Rattle.std.specs.Char.{len_utf8}
use Rattle.std.specs.Str.{chars}

-- the second list begins with the first
abbrev pub begins : List ℕ → List ℕ → Bool
begins [] s = true
begins (x ∷ xs) [] = false
begins (x ∷ xs) (y ∷ ys) = x == y && begins xs ys

-- the first of some characters, if it is one and its encoding stands in front
abbrev pub in_front : List ℕ → List ℕ → Option ℕ
in_front s [] = None
in_front s (c ∷ cs) = cond (scalar c && begins (encode c) s) (Some c) None

-- the character that bytes begin with, if they begin with one
unfoldable pub first_char : List ℕ → Option ℕ
first_char s = in_front s (chars s)

-- the bytes of a character that passes a test, else 0
abbrev pub passing : (ℕ → Bool) → Option ℕ → ℕ
passing p None = 0
passing p (Some c) = cond (p c) (len_utf8 c) 0

abbrev pub one_more : ℕ → (ℕ → ℕ) → ℕ
one_more zero rest = 0
one_more (suc n) rest = rest n + 1

-- The bytes of the characters in front that pass a test, up to the first that does not.
-- The first n bytes belong to a character that has passed.
unfoldable pub run_from : (ℕ → Bool) → ℕ → List ℕ → ℕ
run_from p n [] = 0
run_from p zero (b ∷ bs) = one_more (passing p (first_char (b ∷ bs))) (λ n. run_from p n bs)
run_from p (suc n) (b ∷ bs) = run_from p n bs + 1

abbrev pub run : (ℕ → Bool) → List ℕ → ℕ
run p s = run_from p 0 s

-- all of some characters pass a test
abbrev pub all_pass : (ℕ → Bool) → List ℕ → Bool
all_pass p [] = true
all_pass p (c ∷ cs) = p c && all_pass p cs

-- Unicode's White_Space
abbrev pub white_space : List ℕ
white_space =
    0x9 ∷ 0xa ∷ 0xb ∷ 0xc ∷ 0xd ∷ 0x20 ∷ 0x85 ∷ 0xa0 ∷ 0x1680 ∷ 0x2000 ∷ 0x2001 ∷ 0x2002 ∷ 0x2003 ∷ 0x2004 ∷ 0x2005 ∷ 0x2006
    ∷ 0x2007 ∷ 0x2008 ∷ 0x2009 ∷ 0x200a ∷ 0x2028 ∷ 0x2029 ∷ 0x202f ∷ 0x205f ∷ 0x3000 ∷ []

unfoldable pub among : ℕ → List ℕ → Bool
among c [] = false
among c (b ∷ bs) = c == b || among c bs

-- a character is a blank if it has White_Space
unfoldable pub blank : ℕ → Bool
blank c = among c white_space

abbrev pub not_blank : ℕ → Bool
not_blank c = not (blank c)

-- how many bytes of blanks, and of characters that are no blanks, stand in front
unfoldable pub blanks_at : List ℕ → ℕ
blanks_at s = run blank s

unfoldable pub non_blanks_at : List ℕ → ℕ
non_blanks_at s = run not_blank s

abbrev pub any_char : ℕ → Bool
any_char c = true

-- the length of the longest beginning that is text: its characters, one after another
unfoldable pub text_end : List ℕ → ℕ
text_end s = run any_char s

-- all of it is text
abbrev pub is_text : List ℕ → Bool
is_text s = text_end s == length s

-- the answer to whether bytes are text: yes, or how long the longest beginning is that is
unfoldable pub text_check : List ℕ → Result (Unit {0}) ℕ
text_check s = cond (is_text s) (Ok tt) (Err (text_end s))
