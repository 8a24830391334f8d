-- A collector, or a plain table, that is fed what a call offers.
use Rattle.std.specs.Prelude.{◌≡◌, ℕ, ◌⊎◌, List, [], ◌∷◌, ◌++◌, ℤ, None, Option}
use Rattle.collect.specs.Tables.{Table}
use Rattle.collect.specs.Readings.{Offer, Ending, granted, fault, Reading}
use Rattle.collect.specs.Judge.{Verdict, taken, refused, judge, kept}

-- one offer may take a collector from a state, with an answer, to a state
abbrev pub Offering : Type 0 → Type 1
Offering S = S → ℕ → ℤ → Verdict → S → Type 0

-- A collector is fed offers, one after another, up to the first that is refused.
-- `Fed offered s os e t r`: from the state s, by the offers os and then the ending e, to the state t with the ending r.
pub data Fed {S : Type 0} (offered : Offering S) : S → List (Offer ℤ) → Ending → S → Ending → Type 0 where
  all : {s : S} {e : Ending} → Fed offered s [] e s e
  one : {s t u : S} {o : Offer ℤ} {os : List (Offer ℤ)} {e r : Ending} → offered s o.field o.value taken t → Fed offered t os e u r → Fed offered s (o ∷ os) e u r
  stop : {s t : S} {o : Offer ℤ} {os : List (Offer ℤ)} {e : Ending} (k l f : ℕ) → offered s o.field o.value (refused k l f) t → Fed offered s (o ∷ os) e t (fault k l o.item o.place f)

-- the offers that were granted
abbrev pub granted_in : {S : Type 0} {offered : Offering S} {s t : S} {os : List (Offer ℤ)} {e r : Ending} → Fed offered s os e t r → List (Offer ℤ)
granted_in all = []
granted_in (one {o = o} h x) = o ∷ granted_in x
granted_in (stop k l f h) = []

-- from s to t by a reading, with the ending r
abbrev pub Takes : {S : Type 0} → Offering S → S → Reading ℤ → Ending → S → Type 0
Takes offered s x r t = Fed offered s x.offers x.ending t r

-- what a call did to a plain table: what the table holds then, what was granted, and how the call ended
pub record Outcome : Type 0 where
  pub table : Table ℤ
  pub delivered : List (Offer ℤ)
  pub ending : Ending

-- a granted offer and then the rest, or a refusal
abbrev pub by_verdict : Verdict → Table ℤ → Offer ℤ → Outcome → Outcome
by_verdict taken t o rest = record { table = rest.table; delivered = o ∷ rest.delivered; ending = rest.ending }
by_verdict (refused k l f) t o rest = record { table = t; delivered = []; ending = fault k l o.item o.place f }

-- The plain table, fed the same.
abbrev pub fed : Table ℤ → List (Offer ℤ) → Ending → Outcome
fed t [] e = record { table = t; delivered = []; ending = e }
fed t (o ∷ os) e = by_verdict (judge t o.field o.value) t o (fed (kept t o.field o.value) os e)

abbrev pub called : Table ℤ → Reading ℤ → Outcome
called t x = fed t x.offers x.ending

-- A chain through two lists of offers: those of the first were granted and the chain went on, or one of them was refused.
abbrev pub Parted : {S : Type 0} → Offering S → S → List (Offer ℤ) → List (Offer ℤ) → Ending → S → Ending → Type 0
Parted {S} offered s os ps e u r =
    ((t : S) × Fed offered s os (granted None) t (granted None) × Fed offered t ps e u r)
    ⊎ ((k l i p f : ℕ) × (r ≡ fault k l i p f) × Fed offered s os (granted None) u (fault k l i p f))

-- The laws of the chain, for a collector that holds a table.
pub record ChainLaws {S : Type 0} (table : S → Table ℤ) (offered : Offering S) : Type 0 where
  -- a chain leaves what the plain table would hold, ends as it would, and had granted what it would have
  pub determines : {s t : S} {os : List (Offer ℤ)} {e r : Ending} (x : Fed offered s os e t r) →
      (table t ≡ (fed (table s) os e).table) × (r ≡ (fed (table s) os e).ending) × (granted_in x ≡ (fed (table s) os e).delivered)
  -- a chain of granted offers, and a chain from where it ended, are one chain
  pub follows : {s t u : S} {os ps : List (Offer ℤ)} {d e r : Ending} {n : Option ℕ} → Fed offered s os d t (granted n) → Fed offered t ps e u r → Fed offered s (os ++ ps) e u r
  -- a refusal stops a chain, whatever would follow
  pub stops : {s t : S} {os : List (Offer ℤ)} (ps : List (Offer ℤ)) {n : Option ℕ} (e : Ending) (k l i p f : ℕ) → Fed offered s os (granted n) t (fault k l i p f) → Fed offered s (os ++ ps) e t (fault k l i p f)
  -- and there is no other way through the offers of two lists
  pub parts : (os : List (Offer ℤ)) {s u : S} {ps : List (Offer ℤ)} {e r : Ending} → Fed offered s (os ++ ps) e u r → Parted offered s os ps e u r
