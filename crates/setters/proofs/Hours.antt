-- The chains of the two setters of hours.
use Rattle.std.proofs.Common.{◌≡◌, ℕ, [], ◌∷◌, ℤ, Some, None, Option, sym, ap, ◌∙◌, subst}
use Rattle.collect.specs.Readings.{Ending, granted, fault}
use Rattle.collect.specs.Chain.{Offering, Fed, all, Takes}
use Rattle.collect.specs.declared.field.Field.TheVariants.{HourDiv12, HourMod12}
use Rattle.collect.proofs.Chains.{fed_follows, fed_stops}
use Rattle.setters.specs.Setters.{value_for, one_offer, halves_of, hour_tries, clock_hour, hour12_tries}

module _ {S : Type 0} (offered : Offering S) (s t : S) (r : Ending) (v w : ℤ) (p : w ≡ v) where
  pub by_halves : (h : Option (ℤ × ℤ)) → h ≡ halves_of w → Takes offered s (hour_tries h) r t → Takes offered s (hour_tries (halves_of v)) r t
  by_halves h e x = subst (λ q. Takes offered s (hour_tries q) r t) (e ∙ ap halves_of p) x

  pub by_clock : (h : Option ℤ) → h ≡ clock_hour w → Takes offered s (hour12_tries h) r t → Takes offered s (hour12_tries (clock_hour v)) r t
  by_clock h e x = subst (λ q. Takes offered s (hour12_tries q) r t) (e ∙ ap clock_hour p) x

-- nothing is offered
pub at_once : {S : Type 0} (offered : Offering S) (s : S) (e r : Ending) → r ≡ e → Fed offered s [] e s r
at_once offered s e r q = subst (λ x. Fed offered s [] e s x) (sym q) all

-- the quotient was granted, and the remainder was offered
pub then_the_rest : {S : Type 0} (offered : Offering S) (s t u : S) (r : Ending) (d e m n : ℤ) → e ≡ d → n ≡ m → Takes offered s (one_offer HourDiv12 e) (granted None) t → Takes offered t (one_offer HourMod12 n) r u → Takes offered s (hour_tries (Some (d, m))) r u
then_the_rest offered s t u r d e m n p q x y =
    fed_follows (subst (λ v. Takes offered s (one_offer HourDiv12 v) (granted None) t) p x) (subst (λ v. Takes offered t (one_offer HourMod12 v) r u) q y)

-- the quotient was refused
pub stopped : {S : Type 0} (offered : Offering S) (s t : S) (k l i p f : ℕ) (d e m : ℤ) → e ≡ d → Takes offered s (one_offer HourDiv12 e) (fault k l i p f) t → Takes offered s (hour_tries (Some (d, m))) (fault k l i p f) t
stopped offered s t k l i p f d e m q x = fed_stops (value_for HourMod12 m ∷ []) (granted None) k l i p f (subst (λ v. Takes offered s (one_offer HourDiv12 v) (fault k l i p f) t) q x)
