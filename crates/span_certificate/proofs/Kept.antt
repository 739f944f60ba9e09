-- What a table that goes on keeps of commands, parts and rows over the older one.
use Rattle.std.proofs.Common.{◌≡◌, ℕ, suc, ◌+◌, ◌-◌, ◌<◌, List, [], ◌∷◌, length, map, take, drop, filter, Option, Some, None, refl, sym, ap, subst, ◌∙◌, arith}
use Rattle.std.specs.Prelude.{nat_lt, IfSome}
use Rattle.function_leaf.specs.declared.coded.Coded.{Coded}
use Rattle.rope_node.specs.declared.node.NodeId.{NodeId}
use Rattle.rope_node.specs.declared.node.NodeView.TheVariants.{Cat, Sub}
use Rattle.rope_node.specs.Table.{Table, view_at, IsLeaf, IsSound, HasTrueRecords}
use Rattle.rope_node.specs.Denotes.{Cell, Byte, rope_cells, rope_len, IsRope}
use Rattle.rope_node.specs.Extends.{Extends}
use Rattle.rope_node.proofs.Extensions.{view_kept, len_kept}
use Rattle.rope_node.proofs.Ropes.{rope_kept, rope_cells_kept}
use Rattle.span_descent.specs.declared.description.Description.{Description}
use Rattle.command_parts.specs.Commands as Command
use Rattle.command_parts.specs.Commands.{FullEdit}
use Rattle.command_parts.specs.declared.part.Part.{Part}
use Rattle.command_parts.specs.declared.part.Part.TheVariants.{Old, Pool, Source, Fill}
use Rattle.span_certificate.specs.declared.row.Row.{Row}
use Rattle.span_certificate.specs.declared.row.RowKind.{RowKind}
use Rattle.span_certificate.specs.declared.row.RowKind.TheVariants.{Shared, Leaf, Bytes}
use Rattle.command_parts.specs.Parts.{part_at, part_len, part_cells, parts_cells, IsPart, AreParts, root_at, terms_of, parts_of, AreRopes, IsInRange, front, rest, whole, pieces}
use Rattle.command_parts.proofs.SplicedTexts.{can_splice_kept}
use Rattle.span_certificate.specs.PartLeads.{RopeLeads, PartLeads, RopeHasDescription, PartHasDescription}
use Rattle.span_descent.specs.Leads.{Leads, here, in_left, in_right, in_base}
use Rattle.span_certificate.specs.Longest.{PartLiesInLeaf, RopeLiesInLeaf, StayWithin, AreLongest}
use Rattle.span_certificate.specs.Covers.{row_at, place_of, KindFits, Fits, Covers, MeetsNoSource}
use Rattle.span_certificate.proofs.Covering.{holds_place}
use Rattle.rope_node.proofs.Children.{children_of_cat, base_of_sub}

-- the coded functions of the older nodes are as they were
abbrev pub AgreeBelow : Table → (ℕ → Coded) → (ℕ → Coded) → Type 0
AgreeBelow old coded now = (k : ℕ) → k < length old.nodes → now k ≡ coded k

module _ (old new : Table) (s : IsSound old) (h : HasTrueRecords old) (x : Extends old new) where
  -- ---- leads

  leads_kept : {n k o y p : ℕ} → Leads old n k o y p → y < length old.nodes → Leads new n k o y p
  leads_kept (here e f) there = here e f
  leads_kept {n} {k} {o} {y} {p} (in_left l r e fits lead) there =
      let c = children_of_cat old s h y there l r e in
      let below : l.0 < length old.nodes = omega (arith, c.0) in
      in_left l r (view_kept old new x y there ∙ e) (omega (arith, fits, len_kept old new x l.0 below)) (leads_kept lead below)
  leads_kept {n} {k} {o} {y} {p} (in_right l r e past lead) there =
      let c = children_of_cat old s h y there l r e in
      let left : l.0 < length old.nodes = omega (arith, c.0) in
      let right : r.0 < length old.nodes = omega (arith, c.1) in
      let len = len_kept old new x l.0 left in
      in_right l r (view_kept old new x y there ∙ e) (omega (arith, past, len)) (rw len (leads_kept lead right))
  leads_kept {n} {k} {o} {y} {p} (in_base b i e lead) there =
      let c = base_of_sub old s y there b i e in
      in_base b i (view_kept old new x y there ∙ e) (leads_kept lead (omega (arith, c.0)))

  rope_leads_kept : (n k o : ℕ) (rope : Option NodeId) (p : ℕ) → IsRope old rope → RopeLeads old n k o rope p → RopeLeads new n k o rope p
  rope_leads_kept n k o None p there lead = lead
  rope_leads_kept n k o (Some y) p there lead = leads_kept lead there

  part_leads_kept : (n k o : ℕ) (part : Part) (off : ℕ) → IsPart old part → PartLeads old n k o part off → PartLeads new n k o part off
  part_leads_kept n k o (Old rope i m) off is lead = rope_leads_kept n k o rope (i + off) is.1.0 lead
  part_leads_kept n k o (Pool a m) off is lead = lead
  part_leads_kept n k o (Source r m) off is lead = lead
  part_leads_kept n k o (Fill c m) off is lead = lead

  leads_there : {n k o y p : ℕ} → Leads old n k o y p → y < length old.nodes → k < length old.nodes
  leads_there (here e f) there = rw (← e) there
  leads_there {n} {k} {o} {y} {p} (in_left l r e fits lead) there = leads_there lead (omega (arith, (children_of_cat old s h y there l r e).0))
  leads_there {n} {k} {o} {y} {p} (in_right l r e past lead) there = leads_there lead (omega (arith, (children_of_cat old s h y there l r e).1))
  leads_there {n} {k} {o} {y} {p} (in_base b i e lead) there = leads_there lead (omega (arith, (base_of_sub old s y there b i e).0))

  -- ---- what the older nodes lead to over the newer table, they led to

  leads_back : {n k o y p : ℕ} → Leads new n k o y p → y < length old.nodes → Leads old n k o y p
  leads_back (here e f) there = here e f
  leads_back {n} {k} {o} {y} {p} (in_left l r e fits lead) there =
      let view : view_at old y ≡ Cat l r = sym (view_kept old new x y there) ∙ e in
      let c = children_of_cat old s h y there l r view in
      let below : l.0 < length old.nodes = omega (arith, c.0) in
      in_left l r view (omega (arith, fits, len_kept old new x l.0 below)) (leads_back lead below)
  leads_back {n} {k} {o} {y} {p} (in_right l r e past lead) there =
      let view : view_at old y ≡ Cat l r = sym (view_kept old new x y there) ∙ e in
      let c = children_of_cat old s h y there l r view in
      let left : l.0 < length old.nodes = omega (arith, c.0) in
      let right : r.0 < length old.nodes = omega (arith, c.1) in
      let len = len_kept old new x l.0 left in
      in_right l r view (omega (arith, past, len)) (rw (sym len) (leads_back lead right))
  leads_back {n} {k} {o} {y} {p} (in_base b i e lead) there =
      let view : view_at old y ≡ Sub b i = sym (view_kept old new x y there) ∙ e in
      let c = base_of_sub old s y there b i view in
      in_base b i view (leads_back lead (omega (arith, c.0)))

  rope_leads_back : (n k o : ℕ) (rope : Option NodeId) (p : ℕ) → IsRope old rope → RopeLeads new n k o rope p → RopeLeads old n k o rope p
  rope_leads_back n k o None p there lead = lead
  rope_leads_back n k o (Some y) p there lead = leads_back lead there

  part_leads_back : (n k o : ℕ) (part : Part) (off : ℕ) → IsPart old part → PartLeads new n k o part off → PartLeads old n k o part off
  part_leads_back n k o (Old rope i m) off is lead = rope_leads_back n k o rope (i + off) is.1.0 lead
  part_leads_back n k o (Pool a m) off is lead = lead
  part_leads_back n k o (Source r m) off is lead = lead
  part_leads_back n k o (Fill c m) off is lead = lead

  rope_lies_back : (n : ℕ) (rope : Option NodeId) (p : ℕ) → IsRope old rope → RopeLiesInLeaf new n rope p → RopeLiesInLeaf old n rope p
  rope_lies_back n None p there lies = lies
  rope_lies_back n (Some y) p there (k, o, lead) =
      let back = leads_back lead.0 there in
      (k, o, (back, subst IsLeaf (view_kept old new x k (leads_there back there)) lead.1))

  part_lies_back : (n : ℕ) (part : Part) (off : ℕ) → IsPart old part → PartLiesInLeaf new n part off → PartLiesInLeaf old n part off
  part_lies_back n (Old rope i m) off is lies = rope_lies_back n rope (i + off) is.1.0 lies
  part_lies_back n (Pool a m) off is lies = lies
  part_lies_back n (Source r m) off is lies = lies
  part_lies_back n (Fill c m) off is lies = lies

  stay_back : (n : ℕ) (part : Part) (off : ℕ) (root : Option NodeId) (place : ℕ) (kind : RowKind) → IsPart old part → IsRope old root → StayWithin new n part off root place kind → StayWithin old n part off root place kind
  stay_back n part off root place (Shared k o) is there stay = (part_leads_back n k.0 o part off is stay.0, rope_leads_back n k.0 o root place there stay.1)
  stay_back n part off root place Leaf is there stay = (part_lies_back n part off is stay.0, rope_lies_back n root place there stay.1)
  stay_back n part off root place Bytes is there stay = (stay.0, part_lies_back n part off is stay.1, rope_lies_back n root place there stay.2)

  -- so the longest rows stay the longest
  pub longest_kept : (parts : List Part) (root : Option NodeId) (rows : List Row) → AreParts old parts → IsRope old root → AreLongest old parts root rows → AreLongest new parts root rows
  longest_kept parts root rows are there longest j lt = at_place (part_at parts (place_of rows j)) refl (longest j lt)
    where
      row : Row
      row = row_at rows j

      LongestOver : Table → Part × ℕ → Type 0
      LongestOver t at = at.1 + row.len < part_len at.0 → ¬ StayWithin t (row.len + 1) at.0 at.1 root (place_of rows j) row.kind

      at_place : (here : Option (Part × ℕ)) → part_at parts (place_of rows j) ≡ here → IfSome here (LongestOver old) → IfSome here (LongestOver new)
      at_place None e is = is
      at_place (Some at) e is =
          λ short stay. is short (stay_back (row.len + 1) at.0 at.1 root (place_of rows j) row.kind (holds_place old s h parts (place_of rows j) at.0 at.1 are e).is_part there stay)

  -- ---- cells

  pub cells_of_rope_kept : (rope : Option NodeId) → IsRope old rope → rope_cells new rope ≡ rope_cells old rope
  cells_of_rope_kept = rope_cells_kept old new s x

  pub rope_len_kept : (rope : Option NodeId) → IsRope old rope → rope_len new rope ≡ rope_len old rope
  rope_len_kept None there = refl
  rope_len_kept (Some id) there = len_kept old new x id.0 there

  part_cells_kept : (part : Part) → IsPart old part → part_cells new part ≡ part_cells old part
  part_cells_kept (Old rope i n) is = ap (λ (cs : List Cell). take n (drop i cs)) (cells_of_rope_kept rope is.1.0)
  part_cells_kept (Pool a n) is =
      let len : (a + n) - a ≡ n = omega arith in
      let bytes : take n (drop a new.pool) ≡ take n (drop a old.pool) = ap (λ (m : ℕ). take m (drop a new.pool)) (sym len) ∙ x.pool a n is.1 ∙ ap (λ (m : ℕ). take m (drop a old.pool)) len in
      ap (map Byte) bytes
  part_cells_kept (Source r n) is = refl
  part_cells_kept (Fill c n) is = refl

  pub parts_cells_kept : (parts : List Part) → AreParts old parts → parts_cells new parts ≡ parts_cells old parts
  parts_cells_kept [] are = refl
  parts_cells_kept (p ∷ ps) are = rw (part_cells_kept p are.0, parts_cells_kept ps are.1) refl

  -- ---- commands

  rest_kept : (rope : Option NodeId) (p : ℕ) → IsRope old rope → rest new rope p ≡ rest old rope p
  rest_kept rope p there = rw (rope_len_kept rope there) refl

  whole_kept : (rope : Option NodeId) → IsRope old rope → whole new rope ≡ whole old rope
  whole_kept rope there = rw (rope_len_kept rope there) refl

  terms_kept : (roots : List (Option NodeId)) (edit : FullEdit) → AreRopes old roots → IsInRange old roots edit → terms_of new roots edit ≡ terms_of old roots edit
  terms_kept roots Command.New ropes is = refl
  terms_kept roots (Command.Open r) ropes is = ap (λ (n : ℕ). Source r n ∷ []) (x.sources r is)
  terms_kept roots (Command.Insert r p a n) ropes is = ap (λ (part : Part). front (root_at roots r) p ∷ Pool a n ∷ part ∷ []) (rest_kept (root_at roots r) p (ropes r is.0))
  terms_kept roots (Command.Delete r p n) ropes is = ap (λ (part : Part). front (root_at roots r) p ∷ part ∷ []) (rest_kept (root_at roots r) (p + n) (ropes r is.0))
  terms_kept roots (Command.Replace r p m a n) ropes is = ap (λ (part : Part). front (root_at roots r) p ∷ Pool a n ∷ part ∷ []) (rest_kept (root_at roots r) (p + m) (ropes r is.0))
  terms_kept roots (Command.Paste r p q i n) ropes is = ap (λ (part : Part). front (root_at roots r) p ∷ Old (root_at roots q) i n ∷ part ∷ []) (rest_kept (root_at roots r) p (ropes r is.0))
  terms_kept roots (Command.Join r q) ropes is =
      ap (λ (part : Part). part ∷ whole new (root_at roots q) ∷ []) (whole_kept (root_at roots r) (ropes r is.0))
      ∙ ap (λ (part : Part). whole old (root_at roots r) ∷ part ∷ []) (whole_kept (root_at roots q) (ropes q is.1))
  terms_kept roots (Command.Cut r i n) ropes is = refl
  terms_kept roots (Command.Fill r p c n) ropes is = ap (λ (part : Part). front (root_at roots r) p ∷ Fill c n ∷ part ∷ []) (rest_kept (root_at roots r) p (ropes r is.0))
  terms_kept roots (Command.Back r) ropes is = ap (λ (part : Part). part ∷ []) (whole_kept (root_at roots r) (ropes r is))
  terms_kept roots (Command.Balance r) ropes is = ap (λ (part : Part). part ∷ []) (whole_kept (root_at roots r) (ropes r is))
  terms_kept roots (Command.Many r splices) ropes is = ap (λ (len : ℕ). pieces (root_at roots r) len 0 splices) (rope_len_kept (root_at roots r) (ropes r is.0))

  -- a command has the parts that it had
  pub parts_kept : (roots : List (Option NodeId)) (edit : FullEdit) → AreRopes old roots → IsInRange old roots edit → parts_of new roots edit ≡ parts_of old roots edit
  parts_kept roots edit ropes is = ap (filter (λ part. nat_lt 0 (part_len part))) (terms_kept roots edit ropes is)

  pub are_ropes_kept : (roots : List (Option NodeId)) → AreRopes old roots → AreRopes new roots
  are_ropes_kept roots ropes r lt = rope_kept old new x (root_at roots r) (ropes r lt)

  pub all_cells_kept : (roots : List (Option NodeId)) → AreRopes old roots → map (rope_cells new) roots ≡ map (rope_cells old) roots
  all_cells_kept [] ropes = refl
  all_cells_kept (r ∷ rs) ropes =
      let first : IsRope old r = ropes 0 (omega arith) in
      rw (cells_of_rope_kept r first, all_cells_kept rs (λ k lt. ropes (suc k) (omega arith))) refl

  -- a command stays in range
  pub in_range_kept : (roots : List (Option NodeId)) (edit : FullEdit) → AreRopes old roots → IsInRange old roots edit → IsInRange new roots edit
  in_range_kept roots Command.New ropes is = tt
  in_range_kept roots (Command.Open r) ropes is = omega (arith, is, x.more_sources)
  in_range_kept roots (Command.Insert r p a n) ropes is =
      let len = rope_len_kept (root_at roots r) (ropes r is.0) in
      (is.0, omega (arith, is.1, len), is.2, omega (arith, is.3, x.more_pool), omega (arith, is.4, len))
  in_range_kept roots (Command.Delete r p n) ropes is = (is.0, omega (arith, is.1, rope_len_kept (root_at roots r) (ropes r is.0)))
  in_range_kept roots (Command.Replace r p m a n) ropes is =
      let len = rope_len_kept (root_at roots r) (ropes r is.0) in
      (is.0, omega (arith, is.1, len), is.2, omega (arith, is.3, x.more_pool), omega (arith, is.4, len))
  in_range_kept roots (Command.Paste r p q i n) ropes is =
      let len = rope_len_kept (root_at roots r) (ropes r is.0) in
      (is.0, omega (arith, is.1, len), is.2, omega (arith, is.3, rope_len_kept (root_at roots q) (ropes q is.2)), omega (arith, is.4, len))
  in_range_kept roots (Command.Join r q) ropes is =
      (is.0, is.1, omega (arith, is.2, rope_len_kept (root_at roots r) (ropes r is.0), rope_len_kept (root_at roots q) (ropes q is.1)))
  in_range_kept roots (Command.Cut r i n) ropes is = (is.0, omega (arith, is.1, rope_len_kept (root_at roots r) (ropes r is.0)))
  in_range_kept roots (Command.Fill r p c n) ropes is =
      let len = rope_len_kept (root_at roots r) (ropes r is.0) in
      (is.0, omega (arith, is.1, len), is.2, omega (arith, is.3, len))
  in_range_kept roots (Command.Back r) ropes is = is
  in_range_kept roots (Command.Balance r) ropes is = is
  in_range_kept roots (Command.Many r splices) ropes is =
      let len = rope_len_kept (root_at roots r) (ropes r is.0) in
      (is.0, rw len (can_splice_kept (length old.pool) (length new.pool) (rope_len old (root_at roots r)) splices x.more_pool is.1), omega (arith, is.2, len))

  -- ---- rows

  pub no_source_kept : (parts : List Part) (root : Option NodeId) (rows : List Row) → AreParts old parts → IsRope old root → MeetsNoSource old parts root rows → MeetsNoSource new parts root rows
  no_source_kept parts root rows are there none j lt = rw (parts_cells_kept parts are, cells_of_rope_kept root there) (none j lt)

  module _ (coded now : ℕ → Coded) (agree : AgreeBelow old coded now) where
    rope_described_kept : (n : ℕ) (rope : Option NodeId) (p : ℕ) (d : Description) → IsRope old rope → RopeHasDescription old coded n rope p d → RopeHasDescription new now n rope p d
    rope_described_kept n None p d there is = is
    rope_described_kept n (Some y) p d there (k, o, lead, is) =
        let below = leads_there lead.0 there in
        let view = view_kept old new x k below in
        (k, o, (leads_kept lead.0 there, subst IsLeaf (sym view) lead.1), rw (agree k below, view) is)

    part_described_kept : (n : ℕ) (part : Part) (off : ℕ) (d : Description) → IsPart old part → PartHasDescription old coded n part off d → PartHasDescription new now n part off d
    part_described_kept n (Old rope i m) off d is of_part = rope_described_kept n rope (i + off) d is.1.0 of_part
    part_described_kept n (Pool a m) off d is of_part = of_part
    part_described_kept n (Source r m) off d is of_part = of_part
    part_described_kept n (Fill c m) off d is of_part = of_part

    kind_kept : (source : ℕ → ℕ → ℕ) (n : ℕ) (part : Part) (off : ℕ) (root : Option NodeId) (place : ℕ) (kind : RowKind) → IsPart old part → IsRope old root → KindFits old coded source n part off root place kind → KindFits new now source n part off root place kind
    kind_kept source n part off root place (Shared k o) is there fits = (part_leads_kept n k.0 o part off is fits.0, rope_leads_kept n k.0 o root place there fits.1)
    kind_kept source n part off root place Leaf is there (d, of_part, of_root) = (d, part_described_kept n part off d is of_part, rope_described_kept n root place d there of_root)
    kind_kept source n part off root place Bytes is there fits = (fits.0, rw (part_cells_kept part is, cells_of_rope_kept root there) fits.1)

    fits_kept : (source : ℕ → ℕ → ℕ) (parts : List Part) (root : Option NodeId) (place : ℕ) (row : Row) → AreParts old parts → IsRope old root → Fits old coded source parts root place row → Fits new now source parts root place row
    fits_kept source parts root place row are there fits = record {
      part = fits.part;
      off = fits.off;
      at_part = fits.at_part;
      not_empty = fits.not_empty;
      inside_part = fits.inside_part;
      inside_root = omega (arith, fits.inside_root, rope_len_kept root there);
      kind = kind_kept source row.len fits.part fits.off root place row.kind (holds_place old s h parts place fits.part fits.off are fits.at_part).is_part there fits.kind;
    }

    -- rows cover what they covered
    pub covers_kept : (source : ℕ → ℕ → ℕ) (parts : List Part) (root : Option NodeId) (rows : List Row) → AreParts old parts → IsRope old root → Covers old coded source parts root rows → Covers new now source parts root rows
    covers_kept source parts root rows are there covers = record {
      fit = λ j lt. fits_kept source parts root (place_of rows j) (row_at rows j) are there (covers.fit j lt);
      whole_root = covers.whole_root ∙ sym (rope_len_kept root there);
      whole_parts = covers.whole_parts;
    }
