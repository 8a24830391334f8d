-- A record that took an offer, and its fields as a list.
use Rattle.std.specs.Prelude.{slice_index_or, ◌==◌, ◌&&◌, int_le, length}
use Rattle.std.proofs.Common.{◌≡◌, ℕ, zero, suc, ◌+◌, ◌<◌, Bool, true, false, cond, List, [], ◌∷◌, get_or, ℤ, Some, None, Option, slice_set, refl, ⊎_elim, sym, ap, ◌∙◌, subst, zero-add, add-zero, arith, FitsSigned, w64, to_z, of_z}
use Rattle.std.proofs.lemmas.List.{get_or-set_same, get_or-set_other}
use Rattle.std.proofs.lemmas.Bool.{and_parts, and_from, cases_eq, cases_lt, cond_both, eqb-true, eq-eqb, ne_eqb}
use Rattle.std.proofs.lemmas.Int.{to_z-of_z}
use Rattle.std.proofs.lemmas.Iterator.Adapters.{option_map_id}
use Rattle.std.specs.Option.{option_map, option_or}
use Rattle.collect.specs.Fields.{field_number, range, fits}
use Rattle.collect.specs.Tables.{Table, single, met}
use Rattle.collect.specs.Judge.{Verdict, with_joined, kept, Offered}
use Rattle.collect.specs.declared.field.Field.{Field}
use Rattle.collect.proofs.Ranges.{beyond, has_range, nothing}
use Rattle.parsed.specs.Slots.{held, all_fit, Slotted}
use Rattle.parsed.specs.Records.{fields_of, parsed_table}
use Rattle.parsed.specs.Fitting.{held_at, fit_ranged}
use Rattle.parsed.specs.declared.Parsed.{Parsed}

-- what a table holds after an offer, field by field
module _ (t : Table ℤ) (f : ℕ) (v : ℤ) (g : ℕ) where
  as_it_was : t g ≡ cond (g == f) (t f) (t g)
  as_it_was = cond_both (g == f) (t f) (t g) (λ x. t g ≡ x) (λ e. ap t (eqb-true g f e)) (λ e. refl)

  by_parts : (b : Bool) (m : Option ℤ) → cond b (with_joined m t f) t g ≡ cond (g == f) (cond b (option_or m (t f)) (t f)) (t g)
  by_parts true (Some w) = refl
  by_parts true None = as_it_was
  by_parts false m = as_it_was

  kept_at : kept t f v g ≡ cond (g == f) (cond (fits f v) (option_or (met single (t f) v) (t f)) (t f)) (t g)
  kept_at = by_parts (fits f v) (met single (t f) v)

-- one entry of a list of fields took an offer
module _ (fs : List (Option ℤ)) (k : ℕ) (v : ℤ) (a : Verdict) (new : Option ℤ) (l : k < length fs) (s : Slotted (slice_index_or fs k None) k v a new) where
  changed : (g : ℕ) → slice_index_or (slice_set fs k new) g None ≡ cond (g == k) new (slice_index_or fs g None)
  changed g =
      ⊎_elim (λ e. subst (λ i. slice_index_or (slice_set fs k new) i None ≡ cond (i == k) new (slice_index_or fs i None)) (sym e) (get_or-set_same fs k new None l ∙ ap (λ b. cond b new (slice_index_or fs k None)) (sym (eq-eqb k k refl))))
      (λ n. get_or-set_other fs k g new None n ∙ ap (λ b. cond b new (slice_index_or fs g None)) (sym (ne_eqb g k n))) (cases_eq g k)

  pub placed : Offered (λ j. get_or fs j None) k v a (λ j. get_or (slice_set fs k new) j None)
  placed =
      record {
        answer = s.answer;
        after = λ g. changed g ∙ (ap (λ x. cond (g == k) x (slice_index_or fs g None)) s.after ∙ sym (kept_at (λ j. get_or fs j None) k v g));
      }

-- the same, for a value that went through its bits, and a field known by its number
pub placed_bits : (fs : List (Option ℤ)) (k n : ℕ) (v w : ℤ) (a : Verdict) (new : Option ℤ) → k < length fs → k ≡ n → w ≡ v → Slotted (slice_index_or fs k None) k w a new
    → Offered (λ j. get_or fs j None) n v a (λ j. get_or (slice_set fs k new) j None)
placed_bits fs k n v w a new l p q s =
    subst (λ m. Offered (λ j. get_or fs j None) m v a (λ j. get_or (slice_set fs k new) j None)) p (placed fs k v a new l (subst (λ x. Slotted (slice_index_or fs k None) k x a new) q s))

fit_set : (n : ℕ) (fs : List (Option ℤ)) (k : ℕ) (new : Option ℤ) → all_fit n fs ≡ true → held (n + k) new ≡ true → all_fit n (slice_set fs k new) ≡ true
unfolding all_fit
fit_set n [] k new h p = h
fit_set n (x ∷ fs) zero new h p = and_from (held n new) (all_fit (n + 1) fs) (subst (λ m. held m new ≡ true) (add-zero n) p) (and_parts (held n x) (all_fit (n + 1) fs) h).1
fit_set n (x ∷ fs) (suc k) new h p =
    let b = and_parts (held n x) (all_fit (n + 1) fs) h in
    and_from (held n x) (all_fit (n + 1) (slice_set fs k new)) b.0 (fit_set (n + 1) fs k new b.1 (subst (λ m. held m new ≡ true) (omega arith) p))

module _ (k : ℕ) (v : ℤ) where
  held_joined : (old : Option ℤ) (b : Bool) → fits k v ≡ b → held k old ≡ true → held k (cond b (option_or (met single old v) old) old) ≡ true
  held_joined None true e h = e
  held_joined None false e h = h
  held_joined (Some x) true e h = cond_both (int_le x v && int_le v x) (Some x) None (λ m. held k (option_or m (Some x)) ≡ true) (λ _. h) (λ _. h)
  held_joined (Some x) false e h = h

pub fit_placed : (fs : List (Option ℤ)) (k : ℕ) (v : ℤ) (a : Verdict) (new : Option ℤ) → all_fit 0 fs ≡ true → Slotted (slice_index_or fs k None) k v a new → all_fit 0 (slice_set fs k new) ≡ true
fit_placed fs k v a new h s =
    let old = subst (λ m. held m (slice_index_or fs k None) ≡ true) (zero-add k) (held_at 0 fs k h) in
    fit_set 0 fs k new h (subst (λ m. held m new ≡ true) (sym (zero-add k)) (subst (λ x. held k x ≡ true) (sym s.after) (held_joined k v (slice_index_or fs k None) (fits k v) refl old)))

-- a slot of numbers
pub bare : {old new : Option ℤ} {f : ℕ} {v : ℤ} {a : Verdict} → Slotted (option_map (λ x. x) old) f v a (option_map (λ x. x) new) → Slotted old f v a new
bare {old} {new} {f} {v} {a} s =
    subst (λ x. Slotted x f v a new) (option_map_id old) (subst (λ x. Slotted (option_map (λ y. y) old) f v a x) (option_map_id new) s)

below : (x : Field) → field_number x < 22
below x =
    ⊎_elim (λ h. h) (λ h. absurd (let e : None ≡ Some (has_range x).0 = sym (beyond (field_number x) h) ∙ (has_range x).1 in cc))
    (cases_lt (field_number x) 22)

-- the number of no field holds nothing
pub holds_none : (p : Parsed) (n : ℕ) → range n ≡ None → parsed_table p n ≡ None
holds_none p = nothing (parsed_table p) (fit_ranged (fields_of p) p.fitting)

module _ (p : Parsed) {x y : Field} (e : y ≡ x) where
  -- the slot of the field x, known as y
  slot_of : {v : ℤ} {a : Verdict} {new : Option ℤ} → Slotted (get_or (fields_of p) (field_number x) None) (field_number y) v a new → Slotted (get_or (fields_of p) (field_number x) None) (field_number x) v a new
  slot_of {v} {a} {new} s = subst (λ z. Slotted (get_or (fields_of p) (field_number x) None) (field_number z) v a new) e s

  pub stays_fit : {v : ℤ} {a : Verdict} {new : Option ℤ} → Slotted (get_or (fields_of p) (field_number x) None) (field_number y) v a new → all_fit 0 (slice_set (fields_of p) (field_number x) new) ≡ true
  stays_fit {v} {a} {new} s = fit_placed (fields_of p) (field_number x) v a new p.fitting (slot_of s)

  -- the value went through its bits
  pub takes : {n : ℕ} {v : ℤ} {a : Verdict} {new : Option ℤ} → field_number y ≡ n → FitsSigned w64 v → Slotted (get_or (fields_of p) (field_number x) None) (field_number y) (to_z w64 (of_z w64 v)) a new
      → Offered (parsed_table p) n v a (λ j. get_or (slice_set (fields_of p) (field_number x) new) j None)
  takes {n} {v} {a} {new} q r s =
      placed_bits (fields_of p) (field_number x) n v (to_z w64 (of_z w64 v)) a new (below x) (sym (ap field_number e) ∙ q) (to_z-of_z w64 v r) (slot_of s)
