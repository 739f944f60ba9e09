-- The machine values of a slot. Assumes `Logic`.
use Rattle.std.proofs.Common.{◌≡◌, List, [], ◌∷◌, ◌++◌, refl, sym, subst}
use Rattle.std.specs.Prelude.{Option, Some, None, IsTrue, is_some}
use mathlib.Core.Bool.{true, ◌&&◌}
use lib.Dec.{T, lit<}
use seplogic.Ra.Ura.{Ura}
use mir.Val.{Val, vstruct, of_list, has_ty, WT}
use types.Logic.{Logic}
use types.Kit.{Item, Goal, Seq, Step, step, ‵, ◌$◌, move, drop, fsplit, fjoin, fpick, fpack, feq_i, feq_l}
use denote.RattleType.{Valss}
use denote.Builtin.{RawPtr}
use denote.Param.{layout}
use denote.RawPtr.{Ptr, ptr_val, null_ptr}
use denote.Steps.{nothing}
use denote.Struct.Struct.{within}
use denote.Struct.Owning.{shape}
use Rattle.std.specs.declared.alloc.Global.{Global}
use Rattle.std.specs.contracts.alloc.Global.{the_row as GlobalRow}
use Rattle.std.specs.contracts.impls.GlobalAllocator.TheImpl.{ghosts}
use Rattle.std.proofs.alloc.Global.TheLaws.{the_row_laws as GlobalLaws}
use Rattle.std.proofs.alloc.Calls.{Al, handle_tells}
use Rattle.std.proofs.cell.Inside.{Good}
use mir.Syntax.{impl, tnil, dnil}
use Rattle.cord_store.specs.declared.ropes_kept.Ropes.{Ropes}
use Rattle.cord_store.specs.declared.rope_slot.RopeSlot.{RopeSlot as SlotValue}
use Rattle.cord_store.specs.contracts.rope_slot.RopeSlot as slot
use Rattle.cord_store.specs.RopeSlots.{rope_slot_owns}
use Rattle.std.proofs.ResultValues.{and_tt}
use Rattle.cord_store.proofs.LooseValues.{both}

abbrev pub heap : Al
heap = record { row = GlobalRow; laws = GlobalLaws; g = ghosts; d = impl [] tnil dnil; drops = impl [] tnil dnil }

-- a slot at null is well typed
pub null_good : (h : Val) → Good (layout GlobalRow) h → T (has_ty (layout GlobalRow) h && true) × WT (both (ptr_val null_ptr) h)
null_good h fits = (and_tt (has_ty (layout GlobalRow) h) fits.0, (record { fits = lit< tt }, (fits.1, tt)))

-- a value is there
pub at_some : {A : Type 1} → (x : Option Ropes) → IsTrue (is_some x) → ((v : Ropes) → x ≡ Some v → A) → A
at_some (Some v) e k = k v refl
at_some None e k = absurd (subst T (sym e) tt)

module _ {M : Type 1} {𝓤 : Ura M} {𝓛 : Logic 𝓤} {K : Type 0} {Γ : List (Item 𝓤)} {G : Goal 𝓤 𝓛.H} where
  pub slot_in : K → (p : Ptr) (h : Val) (a : Global) (x : Option Ropes)
      → Step K 𝓛 (‵ ((slot.the_row).own_val (record { at = p; alloc = a; value = x }) (both (ptr_val p) h ∷ [])) ∷ Γ) G (‵ (rope_slot_owns a p x) ∷ ‵ (GlobalRow.own_val a (h ∷ [])) ∷ Γ) G
  slot_in t p h a x = step (λ s. let v : Val = both (ptr_val p) h in
      nothing t $ move t (2 ∷ 0 ∷ []) $ fjoin t $ feq_i t (List Val) (ptr_val p ∷ []) (ptr_val p ∷ []) refl $ fjoin t $ feq_i t (List Val) (v ∷ []) (v ∷ []) refl $ fjoin t $
      fpack t (Valss (RawPtr ∷ GlobalRow ∷ [])) (within (shape (slot.the_type)) (p, (((a.memory.seal, tt), tt), tt)) (v ∷ [])) (ptr_val p ∷ [], (h ∷ [], tt)) $ fjoin t $ s)

  pub slot_out : K → (d : SlotValue) (vs : List Val)
      → ((h : Val) → vs ≡ both (ptr_val d.at) h ∷ [] → Good (layout GlobalRow) h → Seq K 𝓛 (‵ (rope_slot_owns d.alloc d.at d.value) ∷ ‵ (GlobalRow.own_val d.alloc (h ∷ [])) ∷ Γ) G)
      → Seq K 𝓛 (‵ ((slot.the_row).own_val d vs) ∷ Γ) G
  slot_out t d vs k =
      fsplit t $ fpick t (λ vss. fsplit t $ feq_l t (λ ev. fsplit t $ feq_l t (λ ep. fsplit t $ handle_tells heap t d.alloc vss.1.0 (λ h ea fits. move t (1 ∷ []) $ drop t $ move t (1 ∷ []) $
      k h (subst (λ (ws : List Val). vs ≡ vstruct (of_list (ptr_val d.at ∷ (ws ++ []))) ∷ []) ea (subst (λ (ps : List Val). vs ≡ vstruct (of_list (ps ++ (vss.1.0 ++ []))) ∷ []) ep ev)) fits))))
