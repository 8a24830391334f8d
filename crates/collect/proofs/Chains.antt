-- How a collector is fed one reading after another.
use Rattle.std.proofs.Common.{◌≡◌, ℕ, Bool, true, false, cond, List, [], ◌∷◌, ◌++◌, ℤ, Some, None, Option, refl, ap, ◌∙◌, inl, inr, arith}
use Rattle.collect.specs.Fields.{fits, named}
use Rattle.collect.specs.Tables.{Table, single, met}
use Rattle.collect.specs.Readings.{Offer, Ending, granted, fault}
use Rattle.collect.specs.Judge.{Verdict, taken, refused, by_join, judge, with_joined, kept}
use Rattle.collect.specs.Chain.{Offering, Fed, all, one, stop, granted_in, Outcome, by_verdict, fed, Parted, ChainLaws}

-- a refused offer leaves the table
by_parts : (t : Table ℤ) (f : ℕ) (b : Bool) (m : Option ℤ) (k l g : ℕ) → refused k l g ≡ cond b (by_join m f) (refused 1 4 (named f)) → cond b (with_joined m t f) t ≡ t
by_parts t f true None k l g e = refl
by_parts t f true (Some v) k l g e = absurd (let z : ◌≡◌ {A = ℕ} 0 1 = cc in omega arith)
by_parts t f false m k l g e = refl

pub left_alone : (t : Table ℤ) (f : ℕ) (v : ℤ) (k l g : ℕ) → refused k l g ≡ judge t f v → kept t f v ≡ t
left_alone t f v k l g e = by_parts t f (fits f v) (met single (t f) v) k l g e

module _ {S : Type 0} {offered : Offering S} where
  -- a chain that was granted ended as its reading does
  pub fed_granted : {s t : S} {os : List (Offer ℤ)} {e : Ending} {u : Option ℕ} → Fed offered s os e t (granted u) → e ≡ granted u
  fed_granted all = refl
  fed_granted (one h x) = fed_granted x

  pub fed_follows : {s t u : S} {os ps : List (Offer ℤ)} {d e r : Ending} {n : Option ℕ} → Fed offered s os d t (granted n) → Fed offered t ps e u r → Fed offered s (os ++ ps) e u r
  fed_follows all y = y
  fed_follows (one h x) y = one h (fed_follows x y)

  pub fed_stops : {s t : S} {os : List (Offer ℤ)} (ps : List (Offer ℤ)) {n : Option ℕ} (e : Ending) (k l i p f : ℕ) → Fed offered s os (granted n) t (fault k l i p f) → Fed offered s (os ++ ps) e t (fault k l i p f)
  fed_stops ps e k l i p f (one h x) = one h (fed_stops ps e k l i p f x)
  fed_stops ps e k l i p f (stop _ _ _ h) = stop k l f h

  one_more : {s t u : S} {o : Offer ℤ} {os ps : List (Offer ℤ)} {e r : Ending} → offered s o.field o.value taken t → Parted offered t os ps e u r → Parted offered s (o ∷ os) ps e u r
  one_more h (inl (m, x, y)) = inl (m, one h x, y)
  one_more h (inr (k, l, i, p, f, q, x)) = inr (k, l, i, p, f, q, one h x)

  pub fed_parts : (os : List (Offer ℤ)) {s u : S} {ps : List (Offer ℤ)} {e r : Ending} → Fed offered s (os ++ ps) e u r → Parted offered s os ps e u r
  fed_parts [] {s} x = inl (s, all, x)
  fed_parts (o ∷ os) (one h x) = one_more h (fed_parts os x)
  fed_parts (o ∷ os) (stop k l f h) = inr (k, l, o.item, o.place, f, refl, stop k l f h)

module _ {S : Type 0} (table : S → Table ℤ) (offered : Offering S)
    (answers : (s : S) (f : ℕ) (v : ℤ) (a : Verdict) (t : S) → offered s f v a t → a ≡ judge (table s) f v)
    (holds : (s : S) (f : ℕ) (v : ℤ) (a : Verdict) (t : S) → offered s f v a t → table t ≡ kept (table s) f v) where
  -- what became of a collector, as an outcome
  abbrev pub outcome : {s t : S} {os : List (Offer ℤ)} {e r : Ending} → Fed offered s os e t r → Outcome
  outcome {t = t} {r = r} x = record { table = table t; delivered = granted_in x; ending = r }

  pub fed_is : {s t : S} {os : List (Offer ℤ)} {e r : Ending} (x : Fed offered s os e t r) → outcome x ≡ fed (table s) os e
  fed_is all = refl
  fed_is (one {s} {t} {o = o} {os = os} {e = e} h x) =
      ap (by_verdict taken (table s) o) (fed_is x ∙ ap (λ w. fed w os e) (holds _ _ _ _ _ h))
      ∙ ap (λ a. by_verdict a (table s) o (fed (kept (table s) o.field o.value) os e)) (answers _ _ _ _ _ h)
  fed_is (stop {s} {t} {o = o} {os = os} {e = e} k l f h) =
      ap (λ w. by_verdict (refused k l f) w o (fed (kept (table s) o.field o.value) os e)) (holds _ _ _ _ _ h ∙ left_alone (table s) o.field o.value k l f (answers _ _ _ _ _ h))
      ∙ ap (λ a. by_verdict a (table s) o (fed (kept (table s) o.field o.value) os e)) (answers _ _ _ _ _ h)

  pub chain_laws : ChainLaws table offered
  chain_laws =
      record {
        determines = λ x. (ap (λ y. y.table) (fed_is x), ap (λ y. y.ending) (fed_is x), ap (λ y. y.delivered) (fed_is x));
        follows = fed_follows;
        stops = fed_stops;
        parts = fed_parts;
      }
