-- What a record holds lies in its fields' ranges.
use Rattle.std.specs.Prelude.{◌≡◌, ℕ, zero, suc, ◌+◌, true, List, [], ◌∷◌, get_or, ℤ, Some, None, Option, slice_index_or, refl}
use Rattle.std.proofs.Common.{sym, ap, ◌∙◌, subst, zero-add, add-zero, arith}
use Rattle.std.proofs.lemmas.Bool.{and_parts}
use Rattle.collect.specs.Fields.{fits}
use Rattle.collect.specs.Judge.{Ranged}
use Rattle.parsed.specs.Slots.{held, all_fit}

pub held_at : (n : ℕ) (fs : List (Option ℤ)) (k : ℕ) → all_fit n fs ≡ true → held (n + k) (slice_index_or fs k None) ≡ true
unfolding all_fit
held_at n [] k h = refl
held_at n (x ∷ fs) zero h = subst (λ m. held m x ≡ true) (sym (add-zero n)) (and_parts (held n x) (all_fit (n + 1) fs) h).0
held_at n (x ∷ fs) (suc k) h = subst (λ m. held m (slice_index_or fs k None) ≡ true) (omega arith) (held_at (n + 1) fs k (and_parts (held n x) (all_fit (n + 1) fs) h).1)

some_held : (k : ℕ) (v : ℤ) (x : Option ℤ) → x ≡ Some v → held k x ≡ true → fits k v ≡ true
some_held k v x e h = subst (λ y. held k y ≡ true) e h

pub fit_ranged : (fs : List (Option ℤ)) → all_fit 0 fs ≡ true → Ranged (λ f. get_or fs f None)
fit_ranged fs h f v e = some_held f v (slice_index_or fs f None) e (subst (λ m. held m (slice_index_or fs f None) ≡ true) (zero-add f) (held_at 0 fs f h))

-- what is asked of the field of a number
pub asked : (fs : List (Option ℤ)) (k n : ℕ) (r : Option ℤ) → k ≡ n → r ≡ slice_index_or fs k None → r ≡ slice_index_or fs n None
asked fs k n r p e = e ∙ ap (λ j. get_or fs j None) p
