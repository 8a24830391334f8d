-- What a call offers, and how it ends.
use Rattle.std.specs.Prelude.{ℕ, List, Option}

-- a value for a field, on behalf of the item of this number, which began at this place
pub record Offer (V : Type 0) : Type 0 where
  pub field : ℕ
  pub value : V
  pub item : ℕ
  pub place : ℕ

-- how a call ends: granted, with the place where the unread text begins if the call answers one, or refused
pub data Ending : Type 0 where
  granted : (unread : Option ℕ) → Ending
  fault : (kind layer item place field : ℕ) → Ending

-- the offers that a call makes, one after another, and its ending if all of them are granted
pub record Reading (V : Type 0) : Type 0 where
  pub offers : List (Offer V)
  pub ending : Ending
