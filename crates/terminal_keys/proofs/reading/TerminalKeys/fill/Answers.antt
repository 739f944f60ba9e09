use Rattle.std.proofs.Common.{◌≡◌, ℕ, List, [], ◌∷◌, ◌++◌, take, replicate, get_or, ap, sym, subst, ◌∙◌, append-nil, arith}
use Rattle.std.specs.Io.KnownBytes.{Consumes, IsAtEnd}
use Rattle.terminal_keys.specs.Held.{bytes_begun, owed}
use Rattle.terminal_keys.specs.Keys.{keys_in}
use Rattle.terminal_keys.proofs.Known.{known_end, known_step, the_first}
use Rattle.terminal_keys.proofs.SequenceLaws.{open_ends}
use Rattle.terminal_keys.proofs.reading.TerminalKeys.fill.Goals as goal

pub returns-then-branch-eq0-clause-end : goal.returns-then-branch-eq0-clause-end
returns-then-branch-eq0-clause-end g c = λ is.
    let t = c.args.self.now in
    let f = λ (rest : List ℕ). owed t.owed ++ keys_in t.mode (bytes_begun t.sequence ++ rest) in
    let none : owed t.owed ≡ [] = ap (λ (n : ℕ). replicate n t.owed.key) c.requires in
    let over : IsAtEnd (g.R.Read.remaining c.read.new.self) = c.in_ok-read.ensures.bytes.1 (omega arith) (omega arith) in
    known_end f (g.R.Read.remaining c.read.new.self) over
    (ap (λ (l : List ℕ). l ++ keys_in t.mode (bytes_begun t.sequence ++ [])) none ∙ ap (λ (l : List ℕ). keys_in t.mode l) (append-nil (bytes_begun t.sequence)) ∙ open_ends t.mode t.sequence.stage (bytes_begun t.sequence) t.held)

pub returns-clause-kept : goal.returns-clause-kept
returns-clause-kept g c =
    let t = c.args.self.now in
    let f = λ (rest : List ℕ). owed t.owed ++ keys_in t.mode (bytes_begun t.sequence ++ rest) in
    let h = λ (rest : List ℕ). owed c.take_byte-self.result ++ keys_in c.take_byte-self.new.mode (bytes_begun c.take_byte-self.new.sequence ++ rest) in
    let none : owed t.owed ≡ [] = ap (λ (n : ℕ). replicate n t.owed.key) c.requires in
    let byte = get_or c.read.new.buf 0 0 in
    let one : take c.in_ok-read.field-0 c.read.new.buf ≡ byte ∷ [] = the_first c.in_ok-read.field-0 c.read.new.buf (omega arith) (omega (arith, c.in_ok-read.ensures.bound)) (omega arith) in
    let consumed : Consumes (g.R.Read.remaining t.inner) (g.R.Read.remaining c.read.new.self) (byte ∷ []) =
    subst (Consumes (g.R.Read.remaining t.inner) (g.R.Read.remaining c.read.new.self)) one c.in_ok-read.ensures.bytes.0 in
    known_step f h (g.R.Read.remaining t.inner) (g.R.Read.remaining c.read.new.self) byte consumed
    (λ rest. c.take_byte-self.ensures.keys rest ∙ ap (λ (l : List ℕ). l ++ keys_in t.mode (bytes_begun t.sequence ++ byte ∷ rest)) (sym none))
