-- What a call does with the store behind a handle.
use Rattle.std.specs.Prelude.{◌≡◌, ℕ, Option, None, Some}
use Rattle.function_leaf.specs.declared.coded.Coded.{Coded}
use Rattle.node_table.specs.Held.{Held}
use Rattle.cord_store.specs.declared.ropes_kept.Ropes.{Ropes}
use Rattle.cord_store.specs.declared.codes.TheConstants.{CLOSED}

-- A store that is open goes on so, as P says; one that is closed stays, and then nothing else is written.
pub record UsesRopes (old new : Option Ropes) (outcome : ℕ) (Stays : Type 0) (P : Held Coded → Held Coded → Type 0)
    : Type 0 where
  pub closed : old ≡ None → (outcome ≡ CLOSED) × (new ≡ None) × Stays
  pub used : (k : Ropes) → old ≡ Some k → (w : Ropes) × (new ≡ Some w) × P k.store w.store

-- A store that is asked stays, and tells what P says; of one that is closed nothing is written.
pub record AsksRopes (old new : Option Ropes) (outcome : ℕ) (Stays : Type 0) (P : Held Coded → Type 0) : Type 0 where
  pub same : new ≡ old
  pub closed : old ≡ None → (outcome ≡ CLOSED) × Stays
  pub told : (k : Ropes) → old ≡ Some k → P k.store
