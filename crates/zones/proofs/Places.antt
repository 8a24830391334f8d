-- The parts of an offset, by places in the text, and where they cut it.
use Rattle.std.proofs.Common.{◌≡◌, ℕ, ◌+◌, ◌-◌, ◌<◌, ◌≤◌, Bool, true, false, cond, ◌&&◌, eqb, List, [], ◌∷◌, length, get_or, take, drop, Some, None, Ok, Err, Option, Result, sym, refl, ap, subst, ⊎_elim, arith}
use Rattle.scan.specs.declared.kind.ParseErrorKind.{ParseErrorKind}
use Rattle.scan.specs.declared.kind.ParseErrorKind.TheVariants.{OutOfRange, Invalid, TooShort}
use Rattle.std.proofs.lemmas.Bool.{or_cases, eqb-true, true≢false}
use Rattle.std.proofs.lemmas.Bool.Decides.{nat_tests}
use Rattle.std.proofs.lemmas.List.{take_rest}
use Rattle.std.specs.Int.{is_in_range}
use Rattle.std.specs.Char.{is_ascii_digit, len_utf8}
use Rattle.text.specs.Chars.{first_char}
use Rattle.text.specs.Cuts.{Cut}
use Rattle.text.proofs.Cutting.{cut_none, cut_cons, cut_more, cut_after}
use Rattle.text.proofs.Runs.{cut_char}
use Rattle.zones.specs.declared.offset.Sign.{Sign}
use Rattle.zones.specs.declared.offset.Sign.TheVariants.{Plus, HyphenMinus, MinusSign}
use Rattle.zones.specs.Offsets.{sign_by, sign_at, zulu_at, pair, hours_at, minutes_at, Meaning, separated_at}
use Rattle.zones.specs.Signs.{sign_of}

-- two bytes or more stand there, or fewer
pub hours_two : (s : List ℕ) → 2 ≤ length s
    → hours_at s ≡ cond (is_ascii_digit (get_or s 0 0) && is_ascii_digit (get_or s 1 0)) (Ok (pair (get_or s 0 0) (get_or s 1 0))) (Err Invalid)
unfolding hours_at
hours_two [] h = absurd (omega arith)
hours_two (a ∷ []) h = absurd (omega arith)
hours_two (a ∷ b ∷ bs) h = refl

pub hours_few : (s : List ℕ) → length s < 2 → hours_at s ≡ Err TooShort
unfolding hours_at
hours_few [] h = refl
hours_few (a ∷ []) h = refl
hours_few (a ∷ b ∷ bs) h = absurd (omega arith)

pub minutes_two : (missing : Bool) (s : List ℕ) → 2 ≤ length s
    → minutes_at missing s
    ≡ cond (is_ascii_digit (get_or s 1 0)) (cond (is_in_range 48 53 (get_or s 0 0)) (Ok (pair (get_or s 0 0) (get_or s 1 0), 2)) (cond (is_in_range 54 57 (get_or s 0 0)) (Err OutOfRange) (Err Invalid))) (Err Invalid)
unfolding minutes_at
minutes_two missing [] h = absurd (omega arith)
minutes_two missing (a ∷ []) h = absurd (omega arith)
minutes_two missing (a ∷ b ∷ bs) h = refl

pub minutes_few : (missing : Bool) (s : List ℕ) → length s < 2 → minutes_at missing s ≡ cond (eqb (length s) 0 && missing) (Ok (0, 0)) (Err TooShort)
unfolding minutes_at
minutes_few true [] h = refl
minutes_few false [] h = refl
minutes_few missing (a ∷ []) h = refl
minutes_few missing (a ∷ b ∷ bs) h = absurd (omega arith)

-- behind two ASCII bytes
pub two_cut : (s : List ℕ) → 2 ≤ length s → get_or s 0 0 < 128 → get_or s 1 0 < 128 → Cut s 2
two_cut [] h a b = absurd (omega arith)
two_cut (x ∷ []) h a b = absurd (omega arith)
two_cut (x ∷ y ∷ bs) h a b = cut_cons x (y ∷ bs) 1 a (cut_cons y bs 0 b (cut_none bs))

-- what hours and minutes are proved by
pub ruleset two_digits = (nat_tests, hours_two, hours_few, minutes_two, minutes_few, two_cut)

-- one cut behind another, in the slice that is left
pub cut_on : (s : List ℕ) (n m : ℕ) → Cut s n → Cut (take (length s - n) (drop n s)) m → Cut s (n + m)
cut_on s n m a b = cut_more s n m a (subst (λ x. Cut x m) (take_rest s n) b)

pub zulu_cut : (s : List ℕ) → zulu_at s ≡ true → Cut s 1
zulu_cut [] e = absurd (true≢false (sym e))
zulu_cut (b ∷ bs) e =
    ⊎_elim (λ f. let q = eqb-true b 90 f in cut_after (b ∷ bs) 0 (omega arith) (omega arith)) (λ f. let q = eqb-true b 122 f in cut_after (b ∷ bs) 0 (omega arith) (omega arith))
    (or_cases (eqb b 90) (eqb b 122) e)

-- the sign in front
pub sign_cut : (s : List ℕ) (c w : ℕ) → first_char s ≡ Some c → w ≡ len_utf8 c → Cut s w
sign_cut s c w e q = subst (λ k. Cut s k) (sym q) (cut_char s c e)

pub sign_none : (minus : Bool) (s : List ℕ) → length s ≡ 0 → sign_at minus s ≡ Err TooShort
unfolding sign_at
sign_none minus [] h = refl
sign_none minus (b ∷ bs) h = absurd (omega arith)

-- the answer by the sign that the first character is, and its width
abbrev pub by_sign : Bool → ℕ → Option Sign → Result (Bool × ℕ) ParseErrorKind
by_sign minus w None = Err Invalid
by_sign minus w (Some Plus) = Ok (false, w)
by_sign minus w (Some HyphenMinus) = Ok (true, w)
by_sign minus w (Some MinusSign) = cond minus (Ok (true, w)) (Err Invalid)

abbrev pub by_first : Bool → Option ℕ → Result (Bool × ℕ) ParseErrorKind
by_first minus None = Err Invalid
by_first minus (Some c) = by_sign minus (len_utf8 c) (sign_of c)

told : (minus p h m : Bool) (c : ℕ) → eqb c 0x2b ≡ p → eqb c 0x2d ≡ h → eqb c 0x2212 ≡ m → sign_by minus (Some c) ≡ by_sign minus (len_utf8 c) (sign_of c)
told minus true h m c e f g = let q = eqb-true c 0x2b e in rw q refl
told minus false true m c e f g = let q = eqb-true c 0x2d f in rw q refl
told true false false true c e f g = let q = eqb-true c 0x2212 g in rw q refl
told false false false true c e f g = let q = eqb-true c 0x2212 g in rw q refl
told minus false false false c e f g = rw (e, f, g) refl

told_first : (minus : Bool) (o : Option ℕ) → sign_by minus o ≡ by_first minus o
told_first minus None = refl
told_first minus (Some c) = told minus _ _ _ c refl refl refl

pub sign_some : (minus : Bool) (s : List ℕ) → 0 < length s → sign_at minus s ≡ by_first minus (first_char s)
unfolding sign_at
sign_some minus [] l = absurd (omega arith)
sign_some minus (b ∷ bs) l = told_first minus (first_char (b ∷ bs))

-- a separator that has run means what it meant
pub still : (sep sep' : Meaning) (missing : Bool) (s : List ℕ) → ((t : List ℕ) → sep' t ≡ sep t) → separated_at sep' missing s ≡ separated_at sep missing s
still sep sep' missing s h = ap (λ x. separated_at x missing s) (λ i t. h t i)
