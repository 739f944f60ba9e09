-- What is read of a rope.
use Rattle.std.proofs.Common.{◌≡◌, ℕ, ◌+◌, List, length, take, drop, Option, Some, Result, Ok, Err, refl, sym, ap, subst, ◌∙◌, arith}
use Rattle.std.specs.Prelude.{OnOk}
use Rattle.lazy_file.specs.SourceTexts.{Stated}
use Rattle.rope_node.specs.declared.node.NodeId.{NodeId}
use Rattle.rope_node.specs.Table.{Table}
use Rattle.rope_node.specs.Denotes.{rope_cells, text}
use Rattle.cord_search.specs.Pieces.{IsPiece}
use Rattle.cord_search.specs.Stated.{OfSpan}
use Rattle.cord_search.proofs.Pieces.{piece_all}
use Rattle.edit_script.specs.Words.{Quoted, printed_word}

-- what is read of a rope's root is the rope's
pub read_bytes : {X E : Type 0} (r : Result X E) (t : Table) (st : Stated) (rope : Option NodeId) (node : NodeId) (i size : ℕ) (bytes : List ℕ) → rope ≡ Some node
    → length bytes ≡ size → OnOk r (IsPiece t st (Some node) i bytes) → OnOk r (OfSpan t st rope i (i + size) (λ u. bytes ≡ take size (drop i u)))
read_bytes (Ok x) t st rope node i size bytes is long piece =
    let whole : IsPiece t st rope i bytes = subst (λ (root : Option NodeId). IsPiece t st root i bytes) (sym is) piece in
    λ source agrees stated.
    piece_all t st st rope i bytes source refl agrees whole (λ p le lt. stated p le (omega (arith, lt, long)))
    ∙ ap (λ (n : ℕ). take n (drop i (text source (rope_cells t rope)))) long
read_bytes (Err e) t st rope node i size bytes is long piece = tt

-- some bytes of a text, in quotes
pub quoted_part : (t : Table) (st : Stated) (rope : Option NodeId) (bytes answer : List ℕ) (n i j : ℕ) → answer ≡ printed_word (Quoted bytes)
    → OfSpan t st rope i j (λ u. bytes ≡ take n (drop i u)) → OfSpan t st rope i j (λ u. answer ≡ printed_word (Quoted (take n (drop i u))))
quoted_part t st rope bytes answer n i j e h = λ source agrees stated. e ∙ ap (λ (b : List ℕ). printed_word (Quoted b)) (h source agrees stated)
