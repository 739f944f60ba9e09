-- What is asked of a session, which stays.
use Rattle.std.specs.Prelude.{◌≡◌, ℕ, length, Option, None, Some}
use Rattle.edit_commands.specs.Session.{SessionValue}
use Rattle.cord_store.specs.declared.codes.TheConstants.{CLOSED}
use Rattle.cord_session.specs.declared.exports.CordSizes.{CordSizes}
use Rattle.cord_session.specs.declared.kept.Kept.{Kept}

-- A handle that is open stays as it is, and tells what P says of its session; of one that is closed nothing is written.
pub record AsksSession (old new : Option Kept) (outcome : ℕ) (Stays : Type 0) (P : SessionValue → Type 0) : Type 0 where
  pub same : new ≡ old
  pub closed : old ≡ None → (outcome ≡ CLOSED) × Stays
  pub told : (k : Kept) → old ≡ Some k → P k.session

-- the same of all that the handle holds
pub record AsksKept (old new : Option Kept) (outcome : ℕ) (Stays : Type 0) (P : Kept → Type 0) : Type 0 where
  pub same : new ≡ old
  pub closed : old ≡ None → (outcome ≡ CLOSED) × Stays
  pub told : (k : Kept) → old ≡ Some k → P k

-- how many revisions, nodes and sources a session has, and how long its pool is
abbrev pub sizes_of : SessionValue → CordSizes
sizes_of v = record {
  revisions = length v.revisions;
  nodes = length v.held.nodes;
  sources = length v.held.sources;
  unused = 0;
  pool = length v.held.pool.bytes;
}
