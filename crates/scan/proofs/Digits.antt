-- Digits: one more, the end, how large a number is, and where it cuts.
use Rattle.std.proofs.Common.{◌≡◌, ℕ, suc, ◌+◌, ◌-◌, ◌*◌, ◌^◌, ◌<◌, ◌≤◌, true, false, cond, ltb, leb, List, [], ◌∷◌, length, get_or, take, drop, ℤ, pos, ◌+ℤ◌, ◌*ℤ◌, Some, None, Option, IfOk, Ok, Err, Result, sym, refl, ap, ◌∙◌, subst, ⊎_elim, mul-le-mul_right, mul_assoc, mul_comm, one-mul, pow-suc, mul-one, arith, w64, SFits, to_z, of_z}
use native.Mathlib.Nat.{pow-zero}
use Rattle.std.proofs.lemmas.List.{at_drop_more, at_drop_all}
use Rattle.std.proofs.lemmas.Int.{to_z_pos}
use Rattle.std.proofs.lemmas.Bool.{cases_lt, cond_both, leb-true, leb-false, and_parts}
use Rattle.std.proofs.lemmas.Bool.Decides.{nat_tests}
use Rattle.std.specs.Option.{SomeIff, MatchOption}
use Rattle.std.specs.Str.Parse.{AllDigits, digits_value_after}
use Rattle.std.specs.Char.{is_ascii_digit, digit_value as digitValue}
use Rattle.scan.specs.declared.kind.ParseErrorKind.{ParseErrorKind}
use Rattle.scan.specs.declared.kind.ParseErrorKind.TheVariants.{OutOfRange, Invalid, TooShort}
use Rattle.scan.specs.Numbers.{largest, numeral_from, numeral_at, as_integer, number_at, Written}
use Rattle.scan.specs.Steps.{Cuts}
use Rattle.text.specs.Cuts.{Cut}
use Rattle.text.proofs.Cutting.{cut_none, cut_cons}

pub digit_is : (b : ℕ) → is_ascii_digit b ≡ true → (48 ≤ b) × (b ≤ 57)
digit_is b e = let p = and_parts (leb 48 b) (leb b 57) e in (leb-true 48 b p.0, leb-true b 57 p.1)

-- ---- the reading, by places
one_more : (lo hi v i : ℕ) (s : List ℕ) → i < length s
    → numeral_from lo hi v i (drop i s)
    ≡ cond (leb hi i) (Ok (v, i))
    (cond (is_ascii_digit (get_or s i 0))
    (cond (leb (v * 10 + (get_or s i 0 - 48)) largest) (numeral_from lo hi (v * 10 + (get_or s i 0 - 48)) (i + 1) (drop (i + 1) s)) (Err OutOfRange))
    (cond (ltb i lo) (Err Invalid) (Ok (v, i))))
one_more lo hi v i s h = at_drop_more (numeral_from lo hi v i) s i 0 h

no_more : (lo hi v i : ℕ) (s : List ℕ) → length s ≤ i → numeral_from lo hi v i (drop i s) ≡ Ok (v, i)
no_more lo hi v i s h = at_drop_all (numeral_from lo hi v i) s i h

pub too_short : (lo hi : ℕ) (s : List ℕ) → length s < lo → Err TooShort ≡ number_at lo hi s
unfolding numeral_at
too_short lo hi s h = grind (arith, nat_tests)

-- ---- a number that grows by a digit, in 64 bits
-- it fits exactly if it is at most the largest
over : (z : ℤ) (m : ℕ) → z ≡ pos m → (SFits w64 z → ⊥) → largest < m
over z m e f = ⊎_elim (λ l. absurd (f (rw e (record { sfits = l })))) (λ l. omega arith) (cases_lt m (2 ^ 63))

under : (z : ℤ) (m : ℕ) → z ≡ pos m → SFits w64 z → m ≤ largest
under z m e f = let g : SFits w64 (pos m) = rw e at f in omega (arith, g.sfits)

tenfold : (n : ℤ) (v : ℕ) → n ≡ pos v → n *ℤ pos 10 ≡ pos (v * 10)
tenfold n v e = rw e refl

added : (n t : ℤ) (v d : ℕ) → n ≡ pos v → SFits w64 (n *ℤ pos 10) × (t ≡ n *ℤ pos 10) → to_z w64 (of_z w64 t) +ℤ pos d ≡ pos (v * 10 + d)
added n t v d e f =
    let t' : t ≡ pos (v * 10) = f.1 ∙ tenfold n v e in
    let m = under _ _ (tenfold n v e) f.0 in
    rw (t', to_z_pos w64 (v * 10) (omega arith)) refl

-- ten times the number, if that fits, and then the digit, if that fits
grown : (n : ℤ) (v d : ℕ) (m r : Option ℤ) → n ≡ pos v → SomeIff m (SFits w64 (n *ℤ pos 10)) (n *ℤ pos 10)
    → MatchOption m (r ≡ None) (λ t. SomeIff r (SFits w64 (to_z w64 (of_z w64 t) +ℤ pos d)) (to_z w64 (of_z w64 t) +ℤ pos d))
    → MatchOption r (largest < v * 10 + d) (λ t. (t ≡ pos (v * 10 + d)) × (v * 10 + d ≤ largest))
grown n v d None None e f g = let p = over _ _ (tenfold n v e) f in omega arith
grown n v d None (Some t) e f g = cc
grown n v d (Some x) None e f g = over _ _ (added n x v d e f) g
grown n v d (Some x) (Some t) e f g = let z = added n x v d e f in (g.1 ∙ z, under _ _ z g.0)

-- ---- the loop: after i bytes the digits' value is v, and what is left gives the whole result
pub record Reads (lo hi : ℕ) (s : List ℕ) (z : ℤ) (i : ℕ) : Type 0 where
  pub value : ℕ
  pub is : z ≡ pos value
  pub small : value ≤ largest
  pub left : as_integer (numeral_from lo hi value i (drop i s)) ≡ number_at lo hi s

pub starts : (lo hi : ℕ) (s : List ℕ) → lo ≤ length s → Reads lo hi s (pos 0) 0
unfolding numeral_at
starts lo hi s h = record { value = 0; is = refl; small = omega arith; left = grind (arith, nat_tests) }

module _ {lo hi i : ℕ} {s : List ℕ} {z : ℤ} (inv : Reads lo hi s z i) where
  -- while bytes are left, and as many as may be are not yet read, the next one gives it
  pub turn : i < length s → i < hi
      → as_integer (cond (is_ascii_digit (get_or s i 0))
      (cond (leb (inv.value * 10 + (get_or s i 0 - 48)) largest) (numeral_from lo hi (inv.value * 10 + (get_or s i 0 - 48)) (i + 1) (drop (i + 1) s)) (Err OutOfRange))
      (cond (ltb i lo) (Err Invalid) (Ok (inv.value, i))))
      ≡ number_at lo hi s
  turn l h =
      let q : leb hi i ≡ false = grind (arith, nat_tests) in
      rw (one_more lo hi inv.value i s l, q) at inv.left

  -- a digit refuses it by its size, or is read
  pub digit : (t r : Option ℤ) → i < length s → i < hi → true ≡ is_ascii_digit (get_or s i 0) → SomeIff t (SFits w64 (z *ℤ pos 10)) (z *ℤ pos 10)
      → MatchOption t (r ≡ None) (λ x. SomeIff r (SFits w64 (to_z w64 (of_z w64 x) +ℤ pos (get_or s i 0 - 48))) (to_z w64 (of_z w64 x) +ℤ pos (get_or s i 0 - 48)))
      → MatchOption r (Err OutOfRange ≡ number_at lo hi s) (λ x. Reads lo hi s (to_z w64 (of_z w64 x)) (i + 1))
  digit t None l h d f g =
      let e = grown z inv.value _ t None inv.is f g in
      let k : leb (inv.value * 10 + (get_or s i 0 - 48)) largest ≡ false = grind (arith, nat_tests) in
      rw (← d, k) at (turn l h)
  digit t (Some x) l h d f g =
      let e = grown z inv.value _ t (Some x) inv.is f g in
      let w = inv.value * 10 + (get_or s i 0 - 48) in
      let u = e.1 in
      let k : leb w largest ≡ true = grind (arith, nat_tests) in
      record { value = w; is = rw (e.0, to_z_pos w64 w (omega arith)) refl; small = u; left = rw (← d, k) at (turn l h) }

  -- where as many are read as may be, what is read is the whole
  pub full : i < length s → hi ≤ i → Ok (z, i) ≡ number_at lo hi s
  full l h =
      let q : leb hi i ≡ true = grind (arith, nat_tests) in
      rw inv.is (rw (one_more lo hi inv.value i s l, q) at inv.left)

  -- and where none is left
  pub ends : i ≡ length s → Ok (z, length s) ≡ number_at lo hi s
  ends l = rw (← l, inv.is) (rw (no_more lo hi inv.value i s (omega arith)) at inv.left)

-- ---- how large it is, and where it cuts
-- from v and n on, k more digits
pub record More (hi v n : ℕ) (s : List ℕ) (w m : ℕ) : Type 0 where
  pub more : ℕ
  pub count : m ≡ n + more
  pub cut : Cut s more
  pub digits : AllDigits 10 (take more s)
  pub decimal : w ≡ digits_value_after 10 v (take more s)
  pub small : w < (v + 1) * 10 ^ more
  pub few : n ≤ hi → m ≤ hi

stays : (hi v n : ℕ) (s : List ℕ) → More hi v n s v n
stays hi v n s =
    record {
      more = 0;
      count = omega arith;
      cut = cut_none s;
      digits = tt;
      decimal = refl;
      small = rw (pow-zero 10, mul-one (v + 1)) (omega arith);
      few = λ h. h;
    }

digit_value : (b : ℕ) → is_ascii_digit b ≡ true → (digitValue b ≡ b - 48) × (digitValue b < 10)
digit_value b d = let g = digit_is b d in let e : digitValue b ≡ b - 48 = grind (arith, nat_tests) in (e, omega arith)

grows : (hi v n b : ℕ) (bs : List ℕ) (w m : ℕ) → leb hi n ≡ false → is_ascii_digit b ≡ true → More hi (v * 10 + (b - 48)) (n + 1) bs w m → More hi v n (b ∷ bs) w m
grows hi v n b bs w m h d r =
    let k = r.more in
    let e = r.count in
    let g = digit_is b d in
    let q = digit_value b d in
    let l = leb-false hi n h in
    let p : 10 ^ suc k ≡ 10 ^ k * 10 = pow-suc 10 k in
    let t : (v + 1) * 10 ^ suc k ≡ ((v + 1) * 10) * 10 ^ k = rw p (rw (mul_comm (10 ^ k) 10) (sym (mul_assoc (v + 1) 10 (10 ^ k)))) in
    let u : (v * 10 + (b - 48) + 1) * 10 ^ k ≤ ((v + 1) * 10) * 10 ^ k = mul-le-mul_right (10 ^ k) (omega arith) in
    let s = r.small in
    record {
      more = suc k;
      count = omega arith;
      cut = subst (λ j. Cut (b ∷ bs) j) (omega arith) (cut_cons b bs k (omega arith) r.cut);
      digits = (q.1, r.digits);
      decimal = r.decimal ∙ ap (λ x. digits_value_after 10 (v * 10 + x) (take k bs)) (sym q.0);
      small = omega arith;
      few = λ _. r.few (omega arith);
    }

made_more : (hi v n b : ℕ) (bs : List ℕ) (x : Result (ℕ × ℕ) ParseErrorKind) → leb hi n ≡ false → is_ascii_digit b ≡ true
    → IfOk x (λ p. More hi (v * 10 + (b - 48)) (n + 1) bs p.0 p.1) → IfOk x (λ p. More hi v n (b ∷ bs) p.0 p.1)
made_more hi v n b bs (Ok p) h d r = grows hi v n b bs p.0 p.1 h d r
made_more hi v n b bs (Err e) h d r = tt

more_from : (lo hi v n : ℕ) (s : List ℕ) → IfOk (numeral_from lo hi v n s) (λ p. More hi v n s p.0 p.1)
more_from lo hi v n [] = stays hi v n []
more_from lo hi v n (b ∷ bs) =
    let P : Result (ℕ × ℕ) ParseErrorKind → Type 0 = λ x. IfOk x (λ p. More hi v n (b ∷ bs) p.0 p.1) in
    cond_both (leb hi n) (Ok (v, n)) _ P (λ _. stays hi v n (b ∷ bs))
    (λ h. cond_both (is_ascii_digit b) _ _ P
    (λ d. cond_both (leb (v * 10 + (b - 48)) largest) _ (Err OutOfRange) P (λ _. made_more hi v n b bs _ h d (more_from lo hi (v * 10 + (b - 48)) (n + 1) bs)) (λ _. tt))
    (λ _. cond_both (ltb n lo) (Err Invalid) (Ok (v, n)) P (λ _. tt) (λ _. stays hi v n (b ∷ bs))))

pub numeral_more : (lo hi : ℕ) (s : List ℕ) → IfOk (numeral_at lo hi s) (λ p. More hi 0 0 s p.0 p.1)
unfolding numeral_at
numeral_more lo hi s =
    cond_both (ltb (length s) lo) (Err TooShort) (numeral_from lo hi 0 0 s) (λ x. IfOk x (λ p. More hi 0 0 s p.0 p.1)) (λ _. tt) (λ _. more_from lo hi 0 0 s)

kept : (hi : ℕ) (s : List ℕ) (w m : ℕ) → More hi 0 0 s w m → Cut s m × Written hi s (pos w) m
kept hi s w m r =
    let e = r.count in
    let q : r.more ≡ m = omega arith in
    let b = r.small in
    let u : (0 + 1) * 10 ^ r.more ≡ 10 ^ m = one-mul (10 ^ r.more) ∙ ap (λ k. 10 ^ k) q in (
      subst (Cut s) q r.cut,
      record {
        number = w;
        is = refl;
        digits = subst (λ k. AllDigits 10 (take k s)) q r.digits;
        decimal = r.decimal ∙ ap (λ k. digits_value_after 10 0 (take k s)) q;
        small = omega arith;
        few = r.few (omega arith);
      },
    )

kept_integer : (hi : ℕ) (s : List ℕ) (x : Result (ℕ × ℕ) ParseErrorKind) → IfOk x (λ p. More hi 0 0 s p.0 p.1) → Cuts s (as_integer x) × IfOk (as_integer x) (λ p. Written hi s p.0 p.1)
kept_integer hi s (Ok p) r = kept hi s p.0 p.1 r
kept_integer hi s (Err e) r = (tt, tt)

-- what is promised beside the value holds of it
pub number_kept : (lo hi : ℕ) (s : List ℕ) (r : Result (ℤ × ℕ) ParseErrorKind) → r ≡ number_at lo hi s → Cuts s r × IfOk r (λ p. Written hi s p.0 p.1)
number_kept lo hi s r e = subst (λ x. Cuts s x × IfOk x (λ p. Written hi s p.0 p.1)) (sym e) (kept_integer hi s (numeral_at lo hi s) (numeral_more lo hi s))

-- ---- a number back from its answer
pub as_ok : (x : Result (ℕ × ℕ) ParseErrorKind) (z : ℤ) (n : ℕ) → Ok (z, n) ≡ as_integer x → (w : ℕ) × (z ≡ pos w) × (Ok (w, n) ≡ x)
as_ok (Ok p) z n e =
    let q : ◌≡◌ {A = ℤ × ℕ} (z, n) (pos p.0, p.1) = cc in
    (p.0, ap (λ x. x.0) q, ap (λ x. Ok (p.0, x.1)) q)
as_ok (Err d) z n e = cc

pub as_err : (x : Result (ℕ × ℕ) ParseErrorKind) (d : ParseErrorKind) → Err d ≡ as_integer x → Err d ≡ x
as_err (Ok p) d e = cc
as_err (Err c) d e = let q : d ≡ c = cc in ap Err q
