-- Which of a session's texts is a file's.
use Rattle.std.specs.Prelude.{◌≡◌, ◌≢◌, nat_eq, ℕ, suc, ◌<◌, ◌≤◌, List, length, drop, Option, Some, None}
use Rattle.std.specs.List.{count_by}
use Rattle.lazy_file.specs.SourceTexts.{Stated}
use Rattle.rope_node.specs.declared.node.NodeId.{NodeId}
use Rattle.rope_node.specs.Table.{Table}
use Rattle.rope_node.specs.Denotes.{rope_len}
use Rattle.edit_commands.specs.Session.{SessionValue, roots_of, session_table}
use Rattle.commit_tools.specs.Texts.{OverRevision, text_in}
use Rattle.commit_tools.specs.declared.earlier.TheConstants.{TEXTS_COMPARED}

-- how many of these roots' texts have n bytes
abbrev pub count_as_long : Table → ℕ → List (Option NodeId) → ℕ
count_as_long t n roots = count_by (λ root. nat_eq (rope_len t root) n) roots

-- no revision from number `from` on has the file's text
abbrev pub HaveOthers : Stated → SessionValue → List ℕ → ℕ → Type 0
HaveOthers st v file from = (q : ℕ) → from ≤ q → q < length v.revisions
    → OverRevision st v q (λ source. text_in source v q ≢ file)

-- revision r is the latest one whose text is the file's
pub record IsLatest (st : Stated) (v : SessionValue) (file : List ℕ) (r : ℕ) : Type 0 where
  pub there : r < length v.revisions
  pub same : OverRevision st v r (λ source. text_in source v r ≡ file)
  pub later : HaveOthers st v file (suc r)

-- no revision from some number on has the file's text: from the first one on, or from where texts enough are as long as
-- the file
pub record FindsNone (st : Stated) (v : SessionValue) (file : List ℕ) : Type 0 where
  pub from : ℕ
  pub others : HaveOthers st v file from
  pub enough : 1 ≤ from
      → TEXTS_COMPARED ≤ count_as_long (session_table v) (length file) (drop from (roots_of v.revisions))

-- the latest revision with the file's text, among those that are compared
abbrev pub FindsLatest : Stated → SessionValue → List ℕ → Option ℕ → Type 0
FindsLatest st v file (Some r) = IsLatest st v file r
FindsLatest st v file None = FindsNone st v file
