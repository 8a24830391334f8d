-- Fractions of a second: the table of scales, what is read, and where it cuts.
use Rattle.std.proofs.Common.{◌≡◌, ℕ, zero, suc, ◌+◌, ◌-◌, ◌*◌, ◌^◌, ◌<◌, ◌≤◌, true, eqb, List, [], ◌∷◌, get_or, drop, ℤ, pos, nat_abs, Ok, Err, sym, refl, ap, ◌∙◌, subst, mul-lt-mul_of_pos_right, pow-suc, arith, pow-add}
use Rattle.std.proofs.lemmas.Bool.{agree_below_at, eqb-true}
use Rattle.std.specs.Char.{is_ascii_digit}
use Rattle.scan.specs.declared.kind.ParseErrorKind.{ParseErrorKind}
use Rattle.scan.specs.Numbers.{numeral_at, number_at, Written, digits_at, fraction_at}
use Rattle.text.specs.Cuts.{Cut}
use Rattle.text.proofs.Cutting.{cut_more, prefix_cut}
use Rattle.scan.proofs.Digits.{as_ok, as_err, digit_is}
use Rattle.scan.proofs.Leaves.{then_ok, then_err}

abbrev pub scale : List ℕ
scale = 1000000000 ∷ 100000000 ∷ 10000000 ∷ 1000000 ∷ 100000 ∷ 10000 ∷ 1000 ∷ 100 ∷ 10 ∷ 1 ∷ []

scale_is : (n : ℕ) → n ≤ 9 → get_or scale n 0 ≡ 10 ^ (9 - n)
scale_is n h = eqb-true _ _ (agree_below_at (λ k. eqb (get_or scale k 0) (10 ^ (9 - k))) (λ _. true) 10 n refl (omega arith))

positive : (k : ℕ) → 0 < 10 ^ k
positive zero = omega arith
positive (suc k) = let h = positive k in let e = pow-suc 10 k in omega arith

-- so many digits, scaled, stay below a second
below : (w n : ℕ) → n ≤ 9 → w < 10 ^ n → w * 10 ^ (9 - n) < 1000000000
below w n l h =
    let m : w * 10 ^ (9 - n) < 10 ^ n * 10 ^ (9 - n) = mul-lt-mul_of_pos_right h (positive (9 - n)) in
    let k : n + (9 - n) ≡ 9 = omega arith in
    let e : 10 ^ n * 10 ^ (9 - n) ≡ 10 ^ 9 = sym (pow-add 10 n (9 - n)) ∙ ap (λ x. 10 ^ x) k in
    omega arith

-- a fraction by the number that it is
pub fraction_ok : (lo hi : ℕ) (s : List ℕ) (z : ℤ) (n : ℕ) → hi ≤ 9 → Ok (z, n) ≡ number_at lo hi s → Written hi s z n
    → (Ok (nat_abs z * get_or scale n 0, n) ≡ fraction_at lo hi s) × (nat_abs z * get_or scale n 0 < 1000000000)
unfolding fraction_at
fraction_ok lo hi s z n l e w =
    let x = as_ok (numeral_at lo hi s) z n e in
    let f = w.few in
    let q : w.number ≡ x.0 = (let r : pos w.number ≡ pos x.0 = sym w.is ∙ x.1 in cc) in
    let g : get_or scale n 0 ≡ 10 ^ (9 - n) = scale_is n (omega arith) in
    let b = below x.0 n (omega arith) (subst (λ k. k < 10 ^ n) q w.small) in
    let m : nat_abs z * get_or scale n 0 ≡ x.0 * 10 ^ (9 - n) = ap (λ y. nat_abs y * get_or scale n 0) x.1 ∙ ap (λ k. x.0 * k) g in
    (ap (λ k. Ok (k, n)) m ∙ then_ok (numeral_at lo hi s) (λ p. Ok (p.0 * 10 ^ (9 - p.1), p.1)) (x.0, n) x.2, subst (λ k. k < 1000000000) (sym m) b)

pub fraction_err : (lo hi : ℕ) (s : List ℕ) (d : ParseErrorKind) → Err d ≡ number_at lo hi s → Err d ≡ fraction_at lo hi s
unfolding fraction_at
fraction_err lo hi s d e = then_err (numeral_at lo hi s) _ d (as_err (numeral_at lo hi s) d e)

-- digits are ASCII
digits_cut : (s : List ℕ) → Cut s (digits_at s)
digits_cut s = prefix_cut is_ascii_digit (λ b d. let g = digit_is b d in omega arith) s

pub nanosecond_cut : (s : List ℕ) (n k : ℕ) → Cut s n → k ≡ digits_at (drop n s) → Cut s (n + k)
nanosecond_cut s n k c q = subst (λ x. Cut s (n + x)) (sym q) (cut_more s n (digits_at (drop n s)) c (digits_cut (drop n s)))
