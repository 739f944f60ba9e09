-- The log of an image is the script of its commands.
use Rattle.std.proofs.Common.{◌≡◌, ℕ, zero, suc, ◌+◌, ◌<◌, ◌≤◌, List, [], ◌∷◌, ◌++◌, length, map, Option, Some, None, refl, sym, ap, subst, ◌∙◌, append_assoc, arith}
use Rattle.std.specs.Prelude.{get_or}
use Rattle.std.specs.List.{AllByRecursion, flat_map, range_with_len}
use Rattle.std.proofs.lemmas.List.{append-nil}
use Rattle.rope_node.specs.declared.node.NodeId.{NodeId}
use Rattle.rope_node.specs.declared.limits.TheConstants.{MOST_DEPTH, TEXT_LIMIT}
use Rattle.rope_node.specs.Table.{Table, IsSound}
use Rattle.rope_node.specs.Denotes.{IsRope, rope_depth, rope_len}
use Rattle.command_parts.specs.Commands.{FullEdit, New, Open, Insert, Delete, Replace, Paste, Join, Cut, Fill, Back, Balance, Many, full_edit}
use Rattle.image_reader.specs.declared.revision.Revision.{Revision}
use Rattle.image_reader.specs.Value.{ImageValue, IsImage, image_table}
use Rattle.image_reader.specs.Accepted.{command_at, no_revision, revision_at}
use Rattle.session_checker.specs.Faithful.{EachRevision, HasTrueRecordsOf, commands}
use Rattle.session_checker.proofs.EarlierRevisions.{rows_inside}
use Rattle.edit_script.specs.Words.{Word, Quoted, Name, Number, line_of, printed_word, spelled_on}
use Rattle.edit_script.specs.Commands.{IsPrintable, front_of, quoted_texts, words_of}
use Rattle.edit_script.specs.Applied.{lines_of}
use Rattle.edit_script.specs.Scripts.{IsPrinted, Printed, SaysEach, comment_of, script_of}
use Rattle.edit_script.proofs.PrintedWords.{words_split}
use Rattle.edit_script.proofs.Logs.{FitsNote, log_says_each, note_printed}
use Rattle.script_tools.specs.declared.shown.LogTexts.TheVariants.{Whole}
use Rattle.script_tools.specs.Logged.{log_of, noted_of, revision_line, shown_command, shown_on}

-- ---- one line

-- texts that are shown whole are printed
shown_whole : (ws : List Word) → shown_on Whole ws ≡ spelled_on ws
shown_whole [] = refl
shown_whole (Name name ∷ ws) = ap (λ (t : List ℕ). 32 ∷ name ++ t) (shown_whole ws)
shown_whole (Number n ∷ ws) = ap (λ (t : List ℕ). 32 ∷ printed_word (Number n) ++ t) (shown_whole ws)
shown_whole (Quoted text ∷ ws) =
    ap (λ (t : List ℕ). 32 ∷ t ++ shown_on Whole ws) (append-nil (printed_word (Quoted text))) ∙ ap (λ (t : List ℕ). 32 ∷ printed_word (Quoted text) ++ t) (shown_whole ws)

-- a command has a name
pub named : (e : FullEdit) → (w : Word) × (ws : List Word) × (front_of e ≡ w ∷ ws)
named New = (_, _, refl)
named (Open s) = (_, _, refl)
named (Insert r p a n) = (_, _, refl)
named (Delete r p n) = (_, _, refl)
named (Replace r p m a n) = (_, _, refl)
named (Paste r p q i n) = (_, _, refl)
named (Join r q) = (_, _, refl)
named (Cut r i n) = (_, _, refl)
named (Fill r p c n) = (_, _, refl)
named (Back r) = (_, _, refl)
named (Balance r) = (_, _, refl)
named (Many r splices) = (_, _, refl)

pub some_words : (pool : List ℕ) (e : FullEdit) → 0 < length (words_of pool e)
some_words pool e = let n = named e in rw n.2 (omega arith)

line_split : (front ws : List Word) (w : Word) (vs : List Word) → front ≡ w ∷ vs → line_of front ++ spelled_on ws ≡ line_of (front ++ ws)
line_split front ws w vs is =
    subst (λ (f : List Word). line_of f ++ spelled_on ws ≡ line_of (f ++ ws)) (sym is)
    (append_assoc (printed_word w) (spelled_on vs) (spelled_on ws) ∙ ap (λ (t : List ℕ). printed_word w ++ t) (sym (words_split vs ws)))

pub command_whole : (pool : List ℕ) (e : FullEdit) → shown_command Whole pool e ≡ line_of (words_of pool e)
command_whole pool e =
    let n = named e in
    ap (λ (t : List ℕ). line_of (front_of e) ++ t) (shown_whole (quoted_texts pool e)) ∙ line_split (front_of e) (quoted_texts pool e) n.0 n.1 n.2

-- ---- all lines

-- what is printed of revision k
abbrev pub printed_at : ImageValue → ℕ → Printed
printed_at v k = (words_of v.pool (command_at v k), comment_of (noted_of v k))

log_as_script : (v : ImageValue) (ks : List ℕ) → flat_map (revision_line Whole v) ks ≡ script_of (map (printed_at v) ks)
log_as_script v [] = refl
log_as_script v (k ∷ ks) =
    let command = shown_command Whole v.pool (command_at v k) in
    let comment = comment_of (noted_of v k) in
    let rest = flat_map (revision_line Whole v) ks in
    append_assoc command (comment ++ 10 ∷ []) rest
    ∙ ap (λ (t : List ℕ). command ++ t) (append_assoc comment (10 ∷ []) rest)
    ∙ sym (append_assoc command comment (10 ∷ rest))
    ∙ ap (λ (t : List ℕ). (t ++ comment) ++ 10 ∷ rest) (command_whole v.pool (command_at v k))
    ∙ ap (λ (t : List ℕ). (line_of (words_of v.pool (command_at v k)) ++ comment) ++ 10 ∷ t) (log_as_script v ks)

words_at : (v : ImageValue) (ks : List ℕ) → map (λ (x : Printed). x.0) (map (printed_at v) ks) ≡ map (λ k. words_of v.pool (command_at v k)) ks
words_at v [] = refl
words_at v (k ∷ ks) = ap (λ (xs : List (List Word)). words_of v.pool (command_at v k) ∷ xs) (words_at v ks)

-- numbers from the next one on
range_later : {Y : Type 0} (f : ℕ → Y) (from n : ℕ) → map f (range_with_len (from + 1) n) ≡ map (λ k. f (suc k)) (range_with_len from n)
range_later f from zero = refl
range_later f from (suc n) =
    let next : from + 1 ≡ suc from = omega arith in
    ap (λ k. f k ∷ map f (range_with_len ((from + 1) + 1) n)) next ∙ ap (λ xs. f (suc from) ∷ xs) (range_later f (from + 1) n)

each_by_number : {X Y : Type 0} (f : X → Y) (xs : List X) (d : X) → map (λ k. f (get_or xs k d)) (range_with_len 0 (length xs)) ≡ map f xs
each_by_number f [] d = refl
each_by_number f (x ∷ xs) d = ap (λ ys. f x ∷ ys) (range_later (λ k. f (get_or (x ∷ xs) k d)) 0 (length xs) ∙ each_by_number f xs d)

map_twice : {X Y Z : Type 0} (g : Y → Z) (f : X → Y) (xs : List X) → map (λ x. g (f x)) xs ≡ map g (map f xs)
map_twice g f [] = refl
map_twice g f (x ∷ xs) = ap (λ zs. g (f x) ∷ zs) (map_twice g f xs)

commands_are : (v : ImageValue) → map (λ k. words_of v.pool (command_at v k)) (range_with_len 0 (length v.revisions)) ≡ map (words_of v.pool) (commands v)
commands_are v =
    each_by_number (λ (r : Revision). words_of v.pool (full_edit v.splices r.edit)) v.revisions no_revision
    ∙ map_twice (words_of v.pool) (λ (r : Revision). full_edit v.splices r.edit) v.revisions

each_printed : {X : Type 0} (P : X → Type 0) (f : ℕ → X) (from n : ℕ) → ((k : ℕ) → k < from + n → P (f k)) → AllByRecursion P (map f (range_with_len from n))
each_printed P f from zero h = tt
each_printed P f from (suc n) h = (h from (omega arith), each_printed P f (from + 1) n (λ k lt. h k (omega (arith, lt))))

-- ---- what is told fits

rope_short : (t : Table) (r : Option NodeId) → IsSound t → IsRope t r → rope_len t r < TEXT_LIMIT
rope_short t None sound rope = omega arith
rope_short t (Some id) sound rope = (sound.nodes id.0 rope).not_long

rope_flat : (t : Table) (r : Option NodeId) → IsSound t → IsRope t r → rope_depth t r ≤ MOST_DEPTH
rope_flat t None sound rope = omega arith
rope_flat t (Some id) sound rope = (sound.nodes id.0 rope).not_deep

noted_fits : (v : ImageValue) → IsImage v → HasTrueRecordsOf v → (k : ℕ) → k < length v.revisions → FitsNote (noted_of v k)
noted_fits v is records k lt = record {
  number = omega (arith, lt, is.few_revisions);
  len = omega (arith, rope_short (image_table v) (revision_at v k).root records.sound (records.roots k lt));
  depth = omega (arith, rope_flat (image_table v) (revision_at v k).root records.sound (records.roots k lt));
  rows = omega (arith, rows_inside v is k lt, is.few_rows);
}

-- ---- the whole log

pub log_says : (v : ImageValue) → IsImage v → HasTrueRecordsOf v → EachRevision v (λ k. IsPrintable (words_of v.pool (command_at v k)))
    → SaysEach (lines_of (log_of Whole v)) (map (words_of v.pool) (commands v))
log_says v is records lines =
    let ks = range_with_len 0 (length v.revisions) in
    let printed : AllByRecursion IsPrinted (map (printed_at v) ks) =
    each_printed IsPrinted (printed_at v) 0 (length v.revisions) (λ k lt. let there : k < length v.revisions = omega (arith, lt) in
    note_printed (words_of v.pool (command_at v k)) (noted_of v k) (lines k there) (some_words v.pool (command_at v k)) (noted_fits v is records k there)) in
    let says = log_says_each (map (printed_at v) ks) printed in
    subst (λ (t : List ℕ). SaysEach (lines_of t) (map (words_of v.pool) (commands v))) (sym (log_as_script v ks))
    (subst (SaysEach (lines_of (script_of (map (printed_at v) ks)))) (words_at v ks ∙ commands_are v) says)
