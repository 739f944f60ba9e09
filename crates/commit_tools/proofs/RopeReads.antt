-- What is read of a rope's text.
use Rattle.std.proofs.Common.{◌≡◌, ℕ, ◌+◌, ◌≤◌, List, length, take, drop, Option, Some, Result, Ok, Err, refl, sym, subst, arith}
use Rattle.std.specs.Prelude.{OnOk}
use Rattle.lazy_file.specs.SourceTexts.{Stated}
use Rattle.lazy_file.specs.Readings.{Reading}
use Rattle.rope_node.specs.declared.node.NodeId.{NodeId}
use Rattle.rope_node.specs.Table.{Table}
use Rattle.rope_node.specs.Denotes.{rope_len}
use Rattle.cord_search.specs.Pieces.{IsPiece}
use Rattle.cord_search.specs.Stated.{OfText}
use Rattle.cord_search.proofs.Pieces.{piece_all}

-- what is read of a rope's root is the rope's
pub read_bytes : {X E : Type 0} (r : Result X E) (t : Table) (st : Stated) (rope : Option NodeId) (node : NodeId) (i size : ℕ) (bytes : List ℕ) → rope ≡ Some node → i + size ≤ rope_len t rope → length bytes ≡ size
    → OnOk r (IsPiece t st (Some node) i bytes) → OnOk r (OfText t st rope (λ u. bytes ≡ take (length bytes) (drop i u)))
read_bytes (Ok x) t st rope node i size bytes is inside long piece =
    let whole : IsPiece t st rope i bytes = subst (λ (root : Option NodeId). IsPiece t st root i bytes) (sym is) piece in
    λ source agrees stated. piece_all t st st rope i bytes source refl agrees whole (λ p le lt. stated p (omega arith) (omega (arith, lt, inside, long)))
read_bytes (Err e) t st rope node i size bytes is inside long piece = tt

-- what holds of a rope's text over one reading holds over an equal one
pub over_same : (t : Table) (rope : Option NodeId) (P : List ℕ → Type 0) (a b : Reading) → a ≡ b → OfText t a.stated rope P → OfText t b.stated rope P
over_same t rope P a b same of = subst (λ (r : Reading). OfText t r.stated rope P) same of
