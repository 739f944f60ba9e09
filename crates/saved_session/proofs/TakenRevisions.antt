-- Revisions of an image that are taken up, one behind the other.
use Rattle.std.proofs.Common.{◌≡◌, ℕ, suc, ◌+◌, ◌<◌, ◌≤◌, Bool, true, false, List, [], ◌∷◌, ◌++◌, length, map, take, drop, get_or, Option, Some, refl, sym, ap, subst, ◌∙◌, arith, inl, inr}
use Rattle.std.specs.Prelude.{◌↔◌, IsTrue, slice_get}
use Rattle.std.specs.List.{flat_map, sum_by}
use Rattle.std.proofs.lemmas.Bool.{cases_lt}
use Rattle.std.proofs.Math.Seq.{take-suc, take-add}
use Rattle.std.proofs.lemmas.List.{append-nil, length-map, length-take, length-drop, map_push, take_all}
use Rattle.std.proofs.lemmas.Grind.{flat_map-append}
use Rattle.function_leaf.specs.declared.coded.Coded.{Coded}
use Rattle.function_leaf.specs.Coded.{coded_byte}
use Rattle.rope_node.specs.Balance.{IsBalancedRope}
use Rattle.rope_node.specs.declared.node.NodeId.{NodeId}
use Rattle.rope_node.specs.Table.{Table}
use Rattle.node_table.specs.Held.{Held, table_of, held_coded}
use Rattle.command_parts.specs.declared.edit.Edit.{Edit}
use Rattle.command_parts.specs.declared.edit.Edit.TheVariants.{Many}
use Rattle.command_parts.specs.declared.edit.Splice.{Splice}
use Rattle.span_certificate.specs.declared.row.Row.{Row}
use Rattle.command_parts.specs.Commands.{named_splices, with_splices}
use Rattle.command_parts.specs.Fields.{splices_of, IsPlacedAt}
use Rattle.span_certificate.specs.Longest.{AreLongest, AreMade}
use Rattle.span_certificate.specs.Covers.{rows_len}
use Rattle.command_parts.specs.Commands.{FullEdit}
use Rattle.command_parts.specs.declared.part.Part.{Part}
use Rattle.rope_node.specs.Denotes.{rope_len}
use Rattle.std.proofs.lemmas.List.Sums.{sum_by-cons}
use Rattle.command_parts.specs.Parts.{parts_of}
use Rattle.edit_commands.specs.declared.revision.Revision as Kept
use Rattle.edit_commands.specs.Applying.{KnownRowsPass, PassRows, PutsKnown}
use Rattle.edit_commands.specs.Session.{IsRevision, IsSession, SessionValue, command_of, roots_of, rows_held, splices_held, edits_of}
use Rattle.edit_commands.proofs.RevisionSplices.{length-all_splices}
use Rattle.image_reader.specs.declared.revision.Revision.{Revision}
use Rattle.image_reader.specs.declared.version.FormatVersion.TheVariants.{Two}
use Rattle.image_reader.specs.Value.{ImageValue, IsImage, coded_at, image_table}
use Rattle.image_reader.specs.Accepted.{no_revision, parts_at, revision_at, roots_before, rows_at, rows_before, splices_before}
use Rattle.session_image.specs.Written.{AreAsMade, IsAsMade, recorded_revision, rows_in, splices_in}
use Rattle.session_image.proofs.RowLists.{length-rows}
use Rattle.session_checker.specs.RevisionRules.{HasRowsOverNoSource}
use Rattle.session_checker.proofs.EarlierRevisions.{rows_before_more, rows_inside, splices_before_more, splices_inside}
use Rattle.saved_session.specs.TakenUp.{AreFirstRows, HoldsImage, TakenRowsPass, StandFor, TakesFirst, TakesUp, each_rows}
use Rattle.edit_commands.proofs.RevisionLists.{at_more}

-- ---- lists

next : {X : Type 0} (xs : List X) (k : ℕ) (d : X) → k < length xs → take (k + 1) xs ≡ take k xs ++ (get_or xs k d ∷ [])
next xs k d lt = (let one : k + 1 ≡ suc k = omega arith in ap (λ (n : ℕ). take n xs) one) ∙ take-suc xs k d lt

map_next : {X Y : Type 0} (f : X → Y) (xs : List X) (k : ℕ) (d : X) → k < length xs → map f (take (k + 1) xs) ≡ map f (take k xs) ++ (f (get_or xs k d) ∷ [])
map_next f xs k d lt = ap (map f) (next xs k d lt) ∙ map_push f (take k xs) (get_or xs k d)

flat_push : {X Y : Type 0} (f : X → List Y) (xs : List X) (x : X) → flat_map f (xs ++ x ∷ []) ≡ flat_map f xs ++ f x
flat_push f xs x = flat_map-append f xs (x ∷ []) ∙ ap (λ ys. flat_map f xs ++ ys) (append-nil (f x))

-- the last of a list
last_is : {X : Type 0} (xs : List X) (x : X) → slice_get (xs ++ x ∷ []) (length xs) ≡ Some x
last_is [] x = refl
last_is (y ∷ ys) x = last_is ys x

before_last : {X : Type 0} (xs : List X) (x : X) → take (length xs) (xs ++ x ∷ []) ≡ xs
before_last [] x = refl
before_last (y ∷ ys) x = ap (λ zs. y ∷ zs) (before_last ys x)

rows_summed : (revisions : List Kept.Revision) → sum_by length (each_rows revisions) ≡ rows_held revisions
rows_summed [] = refl
rows_summed (r ∷ rs) = sum_by-cons length r.rows.items (each_rows rs) ∙ ap (λ (n : ℕ). length r.rows.items + n) (rows_summed rs) ∙ sym (sum_by-cons (λ (x : Kept.Revision). length x.rows.items) r rs)

-- two answers to one question
same_answer : {P : Type 0} (a b : Bool) → (IsTrue a ↔ P) → (IsTrue b ↔ P) → a ≡ b
same_answer true true x y = refl
same_answer false false x y = refl
same_answer true false x y = absurd (let no = y.1 (x.0 refl) in cc)
same_answer false true x y = absurd (let no = x.1 (y.0 refl) in cc)

-- ---- the splices that a command names

pub own_are : (place : ℕ) (all : List Splice) (edit : Edit) → IsPlacedAt place edit → named_splices all edit ≡ take (splices_of edit) (drop place all)
own_are place all (Many r first count) is = ap (λ (n : ℕ). take count (drop n all)) is
own_are place all other is = refl

-- ---- the beginning

pub starts : (v : ImageValue) (h : Held Coded) (s : SessionValue) → s ≡ record { held = h; revisions = [] } → HoldsImage v h → TakesFirst v 0 s
starts v h s is holds = subst (TakesFirst v 0) (sym is) (record {
  holds = holds;
  inside = omega arith;
  edits = refl;
  roots = refl;
  splices = refl;
  no_source = λ j lt. absurd (omega (arith, lt));
  stand = λ j rows at. absurd cc;
  revisions_as_made = λ each. refl;
  rows_as_made = λ each. refl;
})

-- ---- one revision more

-- longest rows over a table, its functions and parts, to the end of the root
record MadeWhole (t : Table) (coded : ℕ → Coded) (parts : List Part) (root : Option NodeId) (rows : List Row) : Type 0 where
  made : AreMade t coded parts root rows
  whole : rows_len rows ≡ rope_len t root

module _ (v : ImageValue) (is : IsImage v) (k : ℕ) (lt : k < length v.revisions) (place : IsPlacedAt (splices_before v k) (revision_at v k).edit) where
  length_rows_at : length (rows_at v k) ≡ (revision_at v k).rows
  length_rows_at = omega (arith, length-take (revision_at v k).rows (drop (rows_before v k) v.rows), length-drop (rows_before v k) v.rows, rows_inside v is k lt)

  module _ (old : SessionValue) (takes : TakesFirst v k old) where
    -- they have as many splices as the image's
    pub splices_so_far : splices_held old.revisions ≡ splices_before v k
    splices_so_far = sym (length-all_splices old.revisions) ∙ ap length takes.splices ∙ omega (arith, length-take (splices_before v k) v.splices, splices_inside v is k lt)

    pub rows_so_far : ((j : ℕ) → j < k → IsAsMade v j) → rows_held old.revisions ≡ rows_before v k
    rows_so_far each = sym (length-rows old.revisions) ∙ ap length (takes.rows_as_made each) ∙ omega (arith, length-take (rows_before v k) v.rows, rows_inside v is k lt)

    -- rows that are the longest are so over the session's table too
    longest_here : AreLongest (image_table v) (parts_at v k) (revision_at v k).root (rows_at v k) → AreLongest (table_of coded_byte old.held) (parts_of (table_of coded_byte old.held) (roots_of old.revisions) (with_splices (named_splices v.splices (revision_at v k).edit) (revision_at v k).edit)) (revision_at v k).root (rows_at v k)
    longest_here longest =
        let command = with_splices (named_splices v.splices (revision_at v k).edit) (revision_at v k).edit in
        let first = subst (λ (t : Table). AreLongest t (parts_of t (roots_before v k) command) (revision_at v k).root (rows_at v k)) (sym takes.holds.table) longest in
        subst (λ (rs : List (Option NodeId)). AreLongest (table_of coded_byte old.held) (parts_of (table_of coded_byte old.held) rs command) (revision_at v k).root (rows_at v k)) (sym takes.roots) first

    -- so too many rows are not all as they are made
    pub not_as_made : PassRows old (revision_at v k).edit (named_splices v.splices (revision_at v k).edit) (revision_at v k).root (rows_at v k) → ¬ AreAsMade v
    not_as_made pass each =
        let many = pass (longest_here (each k lt).longest) in
        let before = rows_so_far (λ j below. each j (omega arith)) in
        omega (arith, many, before, length_rows_at, rows_inside v is k lt, is.few_rows)

    pub so_many : length old.revisions ≡ k
    so_many = sym (length-map old.revisions (λ (r : Kept.Revision). r.edit)) ∙ ap length takes.edits ∙ length-map (take k v.revisions) (λ (r : Revision). r.edit) ∙ omega (arith, length-take k v.revisions, lt)

    -- the rows of a session are the first ones
    pub first_rows : IsSession old → AreFirstRows v k (each_rows old.revisions)
    first_rows session = record {
      number = length-map old.revisions (λ (r : Kept.Revision). r.rows.items) ∙ so_many;
      stand = takes.stand;
      no_source = takes.no_source;
      few = omega (arith, rows_summed old.revisions, session.few_rows);
    }

    -- rows that pass over the session's table pass over the image's
    pub pass_of : IsSession old → HasRowsOverNoSource v k → KnownRowsPass old (revision_at v k).edit (named_splices v.splices (revision_at v k).edit) (revision_at v k).root → TakenRowsPass v
    pass_of session over pass =
        let command = with_splices (named_splices v.splices (revision_at v k).edit) (revision_at v k).edit in
        let root = (revision_at v k).root in
        let c = held_coded old.held in
        let first = subst (λ (t : Table). AreMade t c (parts_of t (roots_of old.revisions) command) root pass.rows) takes.holds.table pass.made in
        let second = subst (λ (f : ℕ → Coded). AreMade (image_table v) f (parts_of (image_table v) (roots_of old.revisions) command) root pass.rows) takes.holds.coded first in
        let third = subst (λ (rs : List (Option NodeId)). AreMade (image_table v) (coded_at v) (parts_of (image_table v) rs command) root pass.rows) takes.roots second in
        let sum = rows_summed old.revisions in
        let len : rope_len (table_of coded_byte old.held) root ≡ rope_len (image_table v) root = ap (λ (t : Table). rope_len t root) takes.holds.table in
        record {
          k = k;
          there = lt;
          before = each_rows old.revisions;
          first = first_rows session;
          own = over;
          rows = pass.rows;
          made = third;
          full = omega (arith, sum, pass.full);
          left = λ full. omega (arith, len, pass.left (omega (arith, full, sum)));
        }

    module _ (new : SessionValue) (n : ℕ) (over : HasRowsOverNoSource v k) (session : IsSession new)
        (puts : PutsKnown old (revision_at v k).edit (named_splices v.splices (revision_at v k).edit) (revision_at v k).root (rows_at v k) new n) where
      made_is : IsRevision new.held old.revisions puts.made
      made_is =
          let at : slice_get new.revisions (length old.revisions) ≡ Some puts.made = ap (λ rs. slice_get rs (length old.revisions)) puts.revisions ∙ last_is old.revisions puts.made in
          let before : take (length old.revisions) new.revisions ≡ old.revisions = ap (take (length old.revisions)) puts.revisions ∙ before_last old.revisions puts.made in
          subst (λ rs. IsRevision new.held rs puts.made) before (session.each (length old.revisions) puts.made at)

      -- its record is the image's, where that is as it is made
      recorded_is : IsAsMade v k → recorded_revision puts.made ≡ revision_at v k
      recorded_is as_made =
          let marked : IsTrue puts.made.mark ↔ IsBalancedRope (image_table v) (revision_at v k).root =
          subst (λ (t : Table). IsTrue puts.made.mark ↔ IsBalancedRope t (revision_at v k).root) (ap (λ (h : Held Coded). table_of coded_byte h) puts.held ∙ takes.holds.table)
          (subst (λ (root : Option NodeId). IsTrue puts.made.mark ↔ IsBalancedRope (table_of coded_byte new.held) root) puts.its_root made_is.mark) in
          let mark : puts.made.mark ≡ (revision_at v k).mark = same_answer _ _ marked as_made.mark in
          let rows : length puts.made.rows.items ≡ (revision_at v k).rows = ap length (puts.its_rows (longest_here as_made.longest)) ∙ length_rows_at in
          λ i. record { edit = puts.its_edit i; mark = mark i; root = puts.its_root i; rows = rows i }

      -- the rows that were put stand for it
      stands : StandFor v k puts.made.rows.items
      stands =
          let rows = puts.made.rows.items in
          let command : FullEdit = command_of puts.made in
          let root = puts.made.root in
          let r = made_is in
          let whole = (r.certified.rows (λ s p. 0)).whole_root in
          let first : MadeWhole (table_of coded_byte new.held) (held_coded new.held) (parts_of (table_of coded_byte new.held) (roots_of old.revisions) command) root rows =
          record { made = record { fit = λ source j below. (r.certified.rows source).fit j below; no_source = r.certified.no_source; longest = r.longest; in_root = omega (arith, whole) }; whole = whole } in
          let held = subst (λ (h : Held Coded). MadeWhole (table_of coded_byte h) (held_coded h) (parts_of (table_of coded_byte h) (roots_of old.revisions) command) root rows) puts.held first in
          let table = subst (λ (t : Table). MadeWhole t (held_coded old.held) (parts_of t (roots_of old.revisions) command) root rows) takes.holds.table held in
          let coded = subst (λ (f : ℕ → Coded). MadeWhole (image_table v) f (parts_of (image_table v) (roots_of old.revisions) command) root rows) takes.holds.coded table in
          let roots = subst (λ (rs : List (Option NodeId)). MadeWhole (image_table v) (coded_at v) (parts_of (image_table v) rs command) root rows) takes.roots coded in
          let edit = subst (λ (e : Edit). MadeWhole (image_table v) (coded_at v) (parts_of (image_table v) (roots_before v k) (with_splices puts.made.splices.items e)) root rows) puts.its_edit roots in
          let splices = subst (λ (ss : List Splice). MadeWhole (image_table v) (coded_at v) (parts_of (image_table v) (roots_before v k) (with_splices ss (revision_at v k).edit)) root rows) puts.its_splices edit in
          let all = subst (λ (x : Option NodeId). MadeWhole (image_table v) (coded_at v) (parts_at v k) x rows) puts.its_root splices in
          record { made = all.made; whole = all.whole; own = λ longest. puts.its_rows (longest_here longest) }

      pub takes_more : TakesFirst v (k + 1) new
      takes_more =
          let all = new.revisions in
          let before = old.revisions in
          let made = puts.made in
          record {
            holds = subst (HoldsImage v) (sym puts.held) takes.holds;
            inside = omega (arith, lt);
            edits = ap edits_of puts.revisions ∙ map_push (λ (r : Kept.Revision). r.edit) before made
                ∙ ap (λ (e : Edit). edits_of before ++ (e ∷ [])) puts.its_edit
                ∙ ap (λ (es : List Edit). es ++ ((revision_at v k).edit ∷ [])) takes.edits
                ∙ sym (map_next (λ (r : Revision). r.edit) v.revisions k no_revision lt);
            roots = ap roots_of puts.revisions ∙ map_push (λ (r : Kept.Revision). r.root) before made
                ∙ ap (λ (e : Option NodeId). roots_of before ++ (e ∷ [])) puts.its_root
                ∙ ap (λ (es : List (Option NodeId)). es ++ ((revision_at v k).root ∷ [])) takes.roots
                ∙ sym (map_next (λ (r : Revision). r.root) v.revisions k no_revision lt);
            splices = ap splices_in puts.revisions ∙ flat_push (λ (r : Kept.Revision). r.splices.items) before made
                ∙ ap (λ (xs : List Splice). splices_in before ++ xs) (puts.its_splices ∙ own_are (splices_before v k) v.splices (revision_at v k).edit place)
                ∙ ap (λ (xs : List Splice). xs ++ take (splices_of (revision_at v k).edit) (drop (splices_before v k) v.splices)) takes.splices
                ∙ sym (take-add (splices_before v k) (splices_of (revision_at v k).edit) v.splices)
                ∙ sym (ap (λ (m : ℕ). take m v.splices) (splices_before_more v k lt));
            no_source = λ j below. elim (cases_lt j k) [
              | inl earlier ↦ takes.no_source j earlier
              | inr here ↦ let same : k ≡ j = omega (arith, below, here) in subst (HasRowsOverNoSource v) same over
            ];
            stand = λ j rows at.
                let push : each_rows all ≡ each_rows before ++ (made.rows.items ∷ []) = ap each_rows puts.revisions ∙ map_push (λ (r : Kept.Revision). r.rows.items) before made in
                elim (at_more (each_rows before) made.rows.items rows j (sym (ap (λ (xs : List (List Row)). slice_get xs j) push) ∙ at)) [
                  | inl earlier ↦ takes.stand j rows earlier
                  | inr last ↦
                      let here : k ≡ j = omega (arith, last.0, length-map before (λ (r : Kept.Revision). r.rows.items), so_many) in
                      subst (λ (i : ℕ). StandFor v i rows) here (subst (StandFor v k) last.1 stands)
                ];
            revisions_as_made = λ each.
                ap (map recorded_revision) puts.revisions ∙ map_push recorded_revision before made
                ∙ ap (λ (r : Revision). map recorded_revision before ++ (r ∷ [])) (recorded_is (each k (omega arith)))
                ∙ ap (λ (rs : List Revision). rs ++ (revision_at v k ∷ [])) (takes.revisions_as_made (λ j below. each j (omega arith)))
                ∙ sym (next v.revisions k no_revision lt);
            rows_as_made = λ each.
                ap rows_in puts.revisions ∙ flat_push (λ (r : Kept.Revision). r.rows.items) before made
                ∙ ap (λ (xs : List Row). rows_in before ++ xs) (puts.its_rows (longest_here (each k (omega arith)).longest))
                ∙ ap (λ (xs : List Row). xs ++ rows_at v k) (takes.rows_as_made (λ j below. each j (omega arith)))
                ∙ sym (take-add (rows_before v k) (revision_at v k).rows v.rows)
                ∙ sym (ap (λ (m : ℕ). take m v.rows) (rows_before_more v k lt));
          }

-- ---- all of them

pub takes_all : (v : ImageValue) → IsImage v → (k : ℕ) → length v.revisions ≤ k → (s : SessionValue) → TakesFirst v k s → TakesUp v s
takes_all v is k past s takes =
    let whole : take k v.revisions ≡ v.revisions = take_all k v.revisions past in
    let splices : take (splices_before v k) v.splices ≡ v.splices =
    take_all (splices_before v k) v.splices (let sum = ap (λ (rs : List Revision). sum_by (λ (r : Revision). splices_of r.edit) rs) whole in omega (arith, sum, is.splices_counted)) in
    let rows : take (rows_before v k) v.rows ≡ v.rows =
    take_all (rows_before v k) v.rows (let sum = ap (λ (rs : List Revision). sum_by (λ (r : Revision). r.rows) rs) whole in omega (arith, sum, is.rows_counted)) in
    record {
      sources = takes.holds.sources;
      nodes = takes.holds.nodes;
      pool = takes.holds.pool;
      block = takes.holds.block;
      table = takes.holds.table;
      edits = takes.edits ∙ ap (map (λ (r : Revision). r.edit)) whole;
      roots = takes.roots ∙ ap (map (λ (r : Revision). r.root)) whole;
      splices = takes.splices ∙ splices;
      stand = takes.stand;
      as_made = λ each.
          let each_here : (j : ℕ) → j < k → IsAsMade v j = λ j below. each j (omega (arith, below, takes.inside)) in
          let recorded : map recorded_revision s.revisions ≡ v.revisions = takes.revisions_as_made each_here ∙ whole in
          let their_rows : rows_in s.revisions ≡ v.rows = takes.rows_as_made each_here ∙ rows in
          let their_splices : splices_in s.revisions ≡ v.splices = takes.splices ∙ splices in
          λ i. record { version = Two; sources = takes.holds.sources i; nodes = takes.holds.nodes i; revisions = recorded i; splices = their_splices i; rows = their_rows i; pool = takes.holds.pool i };
    }
