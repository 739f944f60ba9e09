-- The command of a revision, as a caller is told it.
use Rattle.std.specs.Prelude.{◌≡◌, ℕ, Bool, true, false, Option, Some, None}
use Rattle.command_parts.specs.declared.edit.Edit.{Edit}
use Rattle.command_parts.specs.Fields.{numbers_of, recorded}
use Rattle.edit_commands.specs.Session.{SessionValue, edit_of, mark_of}
use Rattle.cord_store.specs.declared.codes.TheConstants.{DONE}
use Rattle.cord_session.specs.declared.codes.TheConstants.{NO_REVISION}
use Rattle.cord_session.specs.declared.edits.CordEdit.{CordEdit}

-- 1 where a root is marked as balanced
abbrev pub balance_number : Option Bool → ℕ
balance_number (Some true) = 1
balance_number _ = 0

-- the code and the numbers that a command is recorded by, and the mark of its text's root
abbrev pub told_edit : Edit → Option Bool → CordEdit
told_edit e mark = record {
  code = (recorded e).code;
  r = (numbers_of e).r;
  q = (numbers_of e).q;
  balanced = balance_number mark;
  p = (numbers_of e).p;
  m = (numbers_of e).m;
  a = (numbers_of e).a;
  n = (numbers_of e).n;
}

-- the command of revision k is told, where there is one
pub record TellsEdit (v : SessionValue) (k outcome : ℕ) (before after : CordEdit) : Type 0 where
  pub none : edit_of v k ≡ None → (outcome ≡ NO_REVISION) × (after ≡ before)
  pub told : (e : Edit) → edit_of v k ≡ Some e → (outcome ≡ DONE) × (after ≡ told_edit e (mark_of v k))
