-- Where the bytes of a session's texts come from, as numbers.
use Rattle.std.specs.Prelude.{◌≡◌, ℕ, ◌<◌, ◌≤◌, Option, None, Some}
use Rattle.rope_node.specs.declared.node.NodeId.{NodeId}
use Rattle.edit_commands.specs.Session.{SessionValue, length_at, root_of}
use Rattle.session_image.specs.Written.{image_of}
use Rattle.cord_types.specs.declared.origins.CordOrigin.{CordOrigin}
use Rattle.cord_types.specs.ToldOrigins.{IsToldOrigin}
use Rattle.cord_store.specs.declared.codes.TheConstants.{DONE, RANGE}
use Rattle.cord_session.specs.declared.codes.TheConstants.{NO_REVISION}

-- where the byte at a place of a text comes from
pub record TracesPlace (v : SessionValue) (revision place : ℕ) (old new : CordOrigin) (outcome : ℕ) : Type 0 where
  pub there : place < length_at v revision → (outcome ≡ DONE) × IsToldOrigin (image_of v) revision place new
  pub past : length_at v revision ≤ place → (outcome ≡ RANGE) × (new ≡ old)

-- the same of the text of a revision, where there is one
pub record TracesNamed (v : SessionValue) (revision place : ℕ) (old new : CordOrigin) (outcome : ℕ) : Type 0 where
  pub none : root_of v revision ≡ None → (outcome ≡ NO_REVISION) × (new ≡ old)
  pub there : (root : Option NodeId) → root_of v revision ≡ Some root
      → TracesPlace v revision place old new outcome
