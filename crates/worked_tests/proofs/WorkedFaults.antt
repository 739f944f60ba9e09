-- The records of the worked examples: those that keep the rules, and the first ones that do not.
use Rattle.std.proofs.Common.{ℕ, zero, suc, ◌<◌, List, [], ◌∷◌, length, take, true, Some, inl, inr, refl, arith, lit<, lit≤}
use Rattle.function_leaf.specs.declared.coded.Coded.{Coded}
use Rattle.rope_node.specs.Balance.{fibonacci, IsBalanced}
use Rattle.worked_tests.specs.Tables.{number, child_not_earlier, part_of_a_part, part_of_a_part_recorded, too_long_together}
use Rattle.span_certificate.specs.declared.row.Row.{Row}
use Rattle.command_parts.specs.declared.part.Part.TheVariants.{Pool}
use Rattle.rope_node.specs.Denotes.{Cell}
use Rattle.span_certificate.specs.Covers.{FitsBy, IsFirstBadBy, SameOver, place_of, row_at}
use Rattle.span_certificate.specs.Verdicts.{CanBeSame, SameStated}
use Rattle.image_reader.specs.declared.version.FormatVersion.TheVariants.{One}
use Rattle.worked_tests.specs.Commands.{leaf_row}
use Rattle.worked_tests.proofs.WorkedRows.{first_row, third_byte_uncovered_beside, row_past_the_end_beside}
use Rattle.image_reader.specs.Accepted.{IsAcceptedNode, IsGoodRevision, AreGoodNodes, AreGoodRevisions, KeepsRules}
use Rattle.image_reader.specs.Value.{ImageNode, ImageValue, coded_at, image_table}
use Rattle.image_reader.specs.declared.revision.Revision.{Revision}
use Rattle.worked_tests.specs.Images.{empty_text, one_insert, one_insert_by, IsFirstFaultAlone}
use Rattle.session_checker.specs.declared.fault.CheckFault.TheVariants as faults
use Rattle.session_checker.specs.declared.node_rules.NodeRule.TheVariants as rules
use Rattle.session_checker.specs.NodeRules.{IsFirstNodeFault}
use Rattle.session_checker.specs.RevisionRules.{IsGoodOver}
use Rattle.lazy_file.specs.SourceTexts.{stated_in_memory}
use Rattle.worked_tests.specs.Images.{inserted_chain}

-- a leaf that keeps its rules, at the front of the table
literal_good : IsAcceptedNode child_not_earlier 0
literal_good = (record { references = tt; not_empty = lit≤ tt; not_long = lit< tt; not_deep = lit≤ tt; span = lit≤ tt }, record { len = tt; depth = refl })

before_child : (id : ℕ) → id < 1 → IsAcceptedNode child_not_earlier id
before_child zero lt = literal_good
before_child (suc id) lt = absurd (omega (arith, lt))

pub own_child : IsFirstNodeFault child_not_earlier (faults.Reference 1)
own_child = record {
  id = 1;
  there = lit< tt;
  earlier = before_child;
  rule = rules.Reference;
  breaks = λ children. let left = children.0 in omega (arith, left);
  is = refl;
}

before_sum : (id : ℕ) → id < 2 → IsAcceptedNode too_long_together id
before_sum zero lt = (record { references = tt; not_empty = lit≤ tt; not_long = lit< tt; not_deep = lit≤ tt; span = tt }, record { len = tt; depth = refl })
before_sum (suc zero) lt = (record { references = tt; not_empty = lit≤ tt; not_long = lit< tt; not_deep = lit≤ tt; span = tt }, record { len = tt; depth = refl })
before_sum (suc (suc id)) lt = absurd (omega (arith, lt))

pub sum_over_the_limit : IsFirstNodeFault too_long_together (faults.Length 2)
sum_over_the_limit = record {
  id = 2;
  there = lit< tt;
  earlier = before_sum;
  rule = rules.Length;
  breaks = ((lit< tt, lit< tt), λ good. let short = good.not_long in omega (arith, short));
  is = refl;
}

-- whatever depth is recorded with the last node
before_last : (depth id : ℕ) → id < 4 → IsAcceptedNode (part_of_a_part_recorded depth) id
before_last depth zero lt = (record { references = tt; not_empty = lit≤ tt; not_long = lit< tt; not_deep = lit≤ tt; span = lit≤ tt }, record { len = tt; depth = refl })
before_last depth (suc zero) lt = (record { references = tt; not_empty = lit≤ tt; not_long = lit< tt; not_deep = lit≤ tt; span = lit≤ tt }, record { len = tt; depth = refl })
before_last depth (suc (suc zero)) lt = (record { references = (lit< tt, lit< tt); not_empty = lit≤ tt; not_long = lit< tt; not_deep = lit≤ tt; span = tt }, record { len = refl; depth = refl })
before_last depth (suc (suc (suc zero))) lt = (record { references = lit< tt; not_empty = lit≤ tt; not_long = lit< tt; not_deep = lit≤ tt; span = lit≤ tt }, record { len = tt; depth = refl })
before_last depth (suc (suc (suc (suc id)))) lt = absurd (omega (arith, lt))

pub depth_too_small : IsFirstNodeFault (part_of_a_part_recorded 2) (faults.Depth 4)
depth_too_small = record {
  id = 4;
  there = lit< tt;
  earlier = before_last 2;
  rule = rules.Depth;
  breaks = (lit< tt, record { not_empty = lit≤ tt; not_long = lit< tt; sum = tt }, λ good. let follows = good.follows in omega (arith, follows));
  is = refl;
}

last_good : IsAcceptedNode part_of_a_part 4
last_good = (record { references = lit< tt; not_empty = lit≤ tt; not_long = lit< tt; not_deep = lit≤ tt; span = lit≤ tt }, record { len = tt; depth = refl })

pub part_of_a_part_good : AreGoodNodes part_of_a_part
part_of_a_part_good zero lt = before_last 3 0 (lit< tt)
part_of_a_part_good (suc zero) lt = before_last 3 1 (lit< tt)
part_of_a_part_good (suc (suc zero)) lt = before_last 3 2 (lit< tt)
part_of_a_part_good (suc (suc (suc zero))) lt = before_last 3 3 (lit< tt)
part_of_a_part_good (suc (suc (suc (suc zero)))) lt = last_good
part_of_a_part_good (suc (suc (suc (suc (suc id))))) lt = absurd (omega (arith, lt))

-- an empty text in front of other revisions
abbrev behind_empty : List ImageNode → List Revision → List Row → List ℕ → ImageValue
behind_empty nodes revisions rows pool = record {
  version = One;
  sources = [];
  nodes = nodes;
  revisions = empty_text ∷ revisions;
  splices = [];
  rows = rows;
  pool = pool;
}

empty_rules : (nodes : List ImageNode) (revisions : List Revision) (rows : List Row) (pool : List ℕ) → KeepsRules (behind_empty nodes revisions rows pool) 0
empty_rules nodes revisions rows pool = record { command = tt; root = (tt, refl); mark = λ e. absurd cc }

empty_good : (nodes : List ImageNode) (revisions : List Revision) (rows : List Row) (pool : List ℕ) (Same : List Cell → List Cell → Type 0)
    → IsGoodRevision (behind_empty nodes revisions rows pool) Same 0
empty_good nodes revisions rows pool Same = record {
  rules = empty_rules nodes revisions rows pool;
  rows = record { fit = λ j lt. absurd (omega (arith, lt)); whole_root = refl; whole_parts = refl };
}

empty_before : (nodes : List ImageNode) (revisions : List Revision) (rows : List Row) (pool : List ℕ)
    → (k : ℕ) → k < 1 → IsGoodOver (behind_empty nodes revisions rows pool) (stated_in_memory []) k
empty_before nodes revisions rows pool zero lt = empty_good nodes revisions rows pool (SameStated (stated_in_memory []))
empty_before nodes revisions rows pool (suc k) lt = absurd (omega (arith, lt))

abbrev answers : List Row → ℕ → ℕ → ℕ
answers rows = (image_table (one_insert_by rows)).answer

-- three bytes are enough for a leaf
literal_balanced : IsBalanced 3 0
unfolding fibonacci
literal_balanced = lit≤ tt

-- the insertion keeps its rules, whatever its rows
insertion_rules : (rows : List Row) → KeepsRules (one_insert_by rows) 1
insertion_rules rows = record {
  command = (lit< tt, lit≤ tt, lit≤ tt, lit≤ tt, lit< tt);
  root = (lit< tt, refl);
  mark = λ e. literal_balanced;
}

whole_row : (coded : ℕ → Coded) (Same : List Cell → List Cell → Type 0) (j : ℕ) → j < 1
    → FitsBy (image_table one_insert) coded Same (Pool 0 3 ∷ []) (Some (number 0)) (place_of (leaf_row 3 ∷ []) j) (row_at (leaf_row 3 ∷ []) j)
whole_row coded Same zero lt = first_row (answers (leaf_row 3 ∷ [])) coded Same 3 (lit≤ tt) (lit≤ tt)
whole_row coded Same (suc j) lt = absurd (omega (arith, lt))

pub one_insert_good : (source : ℕ → ℕ → ℕ) → AreGoodRevisions one_insert (SameOver source)
one_insert_good source zero lt = empty_good _ _ _ _ (SameOver source)
one_insert_good source (suc zero) lt = record {
  rules = insertion_rules (leaf_row 3 ∷ []);
  rows = record { fit = whole_row (coded_at one_insert) (SameOver source); whole_root = refl; whole_parts = refl };
}
one_insert_good source (suc (suc k)) lt = absurd (omega (arith, lt))

chain_unbalanced : IsBalanced 4 3 → ⊥
unfolding fibonacci
chain_unbalanced enough = omega (arith, enough)

pub chain_marked : IsFirstFaultAlone (inserted_chain true) (faults.Mark 1)
chain_marked = record {
  k = 1;
  there = lit< tt;
  earlier = empty_before _ _ _ _;
  breaks = inl (refl, (lit< tt, lit≤ tt, lit≤ tt, lit≤ tt, lit< tt), (lit< tt, refl), λ good. chain_unbalanced (good refl));
}

-- the rows of the insertion have this first fault
bad_rows : (rows : List Row)
    → ((coded : ℕ → Coded) (Same CanBe : List Cell → List Cell → Type 0)
    → IsFirstBadBy (image_table (one_insert_by rows)) coded Same CanBe (Pool 0 3 ∷ []) (Some (number 0)) (take (length rows) rows) 1)
    → IsFirstFaultAlone (one_insert_by rows) (faults.Rows 1 1)
bad_rows rows bad = record {
  k = 1;
  there = lit< tt;
  earlier = empty_before _ _ _ _;
  breaks = inr (insertion_rules rows, (refl, bad (coded_at (one_insert_by rows)) (SameStated (stated_in_memory [])) (CanBeSame (stated_in_memory []))));
}

pub byte_uncovered : IsFirstFaultAlone (one_insert_by (leaf_row 2 ∷ [])) (faults.Rows 1 1)
byte_uncovered = bad_rows (leaf_row 2 ∷ []) (third_byte_uncovered_beside (answers (leaf_row 2 ∷ [])))

pub row_too_many : IsFirstFaultAlone (one_insert_by (leaf_row 3 ∷ leaf_row 1 ∷ [])) (faults.Rows 1 1)
row_too_many = bad_rows (leaf_row 3 ∷ leaf_row 1 ∷ []) (row_past_the_end_beside (answers (leaf_row 3 ∷ leaf_row 1 ∷ [])))
