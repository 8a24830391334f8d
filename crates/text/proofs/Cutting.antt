-- Cuts: from what is left of a text, none, and one after another.
use Rattle.std.proofs.Common.{◌≡◌, ℕ, ◌+◌, ◌<◌, ◌≤◌, Bool, true, List, [], ◌∷◌, length, get_or, drop, IsUtf8, subst, arith, length-drop}
use Rattle.std.proofs.lemmas.List.{drop-drop}
use Rattle.std.proofs.lemmas.Str.{IsUtf8-take, IsUtf8-drop, IsCharBoundary-from_drop, IsCharBoundary-after_ascii}
use Rattle.std.proofs.lemmas.Bool.{cond_both}
use Rattle.std.specs.List.{prefix_len}
use Rattle.text.specs.Cuts.{Cut}

-- it is enough that what is left is text
pub cut_by_left : (s : List ℕ) (n : ℕ) → n ≤ length s → (IsUtf8 s → IsUtf8 (drop n s)) → Cut s n
cut_by_left s n l f = record { within = l; taken = λ u. IsUtf8-take s n u (IsCharBoundary-from_drop s n l (f u)); left = f }

pub cut_none : (s : List ℕ) → Cut s 0
cut_none s = cut_by_left s 0 (omega arith) (λ u. u)

-- a cut in what is left by another
pub cut_more : (s : List ℕ) (n m : ℕ) → Cut s n → Cut (drop n s) m → Cut s (n + m)
cut_more s n m a b =
    let l = length-drop n s in
    let w = a.within in
    let v = b.within in
    cut_by_left s (n + m) (omega arith) (λ u. subst IsUtf8 (drop-drop m n s) (b.left (a.left u)))

-- behind an ASCII byte
pub cut_after : (s : List ℕ) (i : ℕ) → i < length s → get_or s i 0 < 128 → Cut s (i + 1)
cut_after s i l h = cut_by_left s (i + 1) (omega arith) (λ u. IsUtf8-drop s (i + 1) u (IsCharBoundary-after_ascii s i u l h))

-- behind the first byte, and then further, if that byte is ASCII
pub cut_cons : (b : ℕ) (bs : List ℕ) (n : ℕ) → b < 128 → Cut bs n → Cut (b ∷ bs) (1 + n)
cut_cons b bs n h c = cut_more (b ∷ bs) 1 n (cut_after (b ∷ bs) 0 (omega arith) h) c

-- behind the bytes in front that pass a test, which only ASCII bytes do
pub prefix_cut : (p : ℕ → Bool) → ((b : ℕ) → p b ≡ true → b < 128) → (s : List ℕ) → Cut s (prefix_len p s)
prefix_cut p a [] = cut_none []
prefix_cut p a (b ∷ bs) =
    cond_both (p b) (1 + prefix_len p bs) 0 (λ k. Cut (b ∷ bs) k)
    (λ e. cut_cons b bs (prefix_len p bs) (a b e) (prefix_cut p a bs)) (λ _. cut_none (b ∷ bs))
