-- The splices that a command names in a list of all: they stay the same where the list goes on, and those at its end
-- are named by their number.
use Rattle.std.proofs.Common.{◌≡◌, ℕ, List, ◌++◌, length, take, drop, refl, ap, ◌∙◌, arith}
use Rattle.std.proofs.lemmas.List.{drop-append-le, take-append-le, length-drop, length-append, take_all}
use Rattle.std.proofs.Math.Seq.{drop-append_seam}
use Rattle.command_parts.specs.declared.edit.Edit.{Edit}
use Rattle.command_parts.specs.declared.edit.Edit.TheVariants as Recorded
use Rattle.command_parts.specs.declared.edit.Splice.{Splice}
use Rattle.command_parts.specs.Commands.{with_splices, named_splices, full_edit, NamesSplices}

module _ (all more : List Splice) where
  pub names_kept : (edit : Edit) → NamesSplices all edit → NamesSplices (all ++ more) edit
  names_kept (Recorded.Many r first count) is = (omega (arith, is.0, length-append all more), is.1)
  names_kept other is = tt

  pub named_kept : (edit : Edit) → NamesSplices all edit → named_splices (all ++ more) edit ≡ named_splices all edit
  named_kept (Recorded.Many r first count) is =
      ap (take count) (drop-append-le first all more (omega (arith, is.0))) ∙ take-append-le count (drop first all) more (omega (arith, is.0, length-drop first all))
  named_kept other is = refl

  -- a command says what it said, where the list of all goes on
  pub full_edit_kept : (edit : Edit) → NamesSplices all edit → full_edit (all ++ more) edit ≡ full_edit all edit
  full_edit_kept edit is = ap (λ (splices : List Splice). with_splices splices edit) (named_kept edit is)

  -- those at the end
  pub named_last : (r : ℕ) → named_splices (all ++ more) (Recorded.Many r (length all) (length more)) ≡ more
  named_last r = ap (take (length more)) (drop-append_seam all more) ∙ take_all (length more) more (omega arith)

-- the whole of a list
pub named_whole : (splices : List Splice) (r : ℕ) → named_splices splices (Recorded.Many r 0 (length splices)) ≡ splices
named_whole splices r = take_all (length splices) splices (omega arith)
