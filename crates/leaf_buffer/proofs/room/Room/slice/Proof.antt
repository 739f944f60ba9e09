-- `slice` gives a `&` to what was written, and to no more. Assumes `Logic`.
use Rattle.std.proofs.Common.{◌≡◌, ◌*◌, ◌^◌, List, [], ◌∷◌, length, refl, sym, ap, ◌∙◌, arith}
use Rattle.std.proofs.raw_atomic.Walks.{proved}
use mir.Syntax.{named, w64}
use mir.Val.{Val, vptr, vint}
use prog.Wp.{WpFn}
use contract.Monad.{fact}
use contract.Running.{tables}
use types.Kit.{‵, raw, ◌⊛◌, prop, at_ret, ◌$◌, ◌∵◌, !, qed, done, move, drop, split, fsplit, fjoin, feq_i, flt_i, regoal, suffices}
use types.Part.{agg}
use types.Run.{enter, of_opd, no_more, and_then, first, blocks, exec, returns}
use types.ByLocal.{alloc_all, pass_all, free_all, look_at, get, sets, sets_last, env}
use denote.Builtin.{usize, RefOf}
use denote.Exit.{yes}
use denote.Opens.{hide, unhide}
use denote.Plain.{uint_vals, uint_Tells}
use denote.RattleType.{owns}
use denote.RawPtr.{Ptr, RawPtr, block_of, count_of, ptr_val, rawptr_vals, rawptr_Tells}
use denote.Ref.{shr_vals, shr_Tells}
use denote.Signature.{plain, types_at}
use denote.Slice.{slice_val}
use denote.Steps.{nothing, heard}
use denote.Triple.Entry.{alive}
use denote.Triple.Walked.{says, Stays, walk_of, stay_dropped, Goes-dropped, ends_at}
use Rattle.leaf_buffer.specs.contracts.room.Room as Room
use Rattle.leaf_buffer.specs.contracts.room.Room.slice as f
use Rattle.leaf_buffer.proofs.room.Room.slice.Statement.{statement}
use Rattle.leaf_buffer.proofs.room.Room.slice.Code as code

abbrev stayed : Stays f.ended.signature.params f.ended.kept
stayed = (stay_dropped _ yes, (stay_dropped _ yes, (stay_dropped _ yes, tt)))

pub slice_spec : {M : Type 1} → statement M
slice_spec 𝓤 𝓛 𝓜 𝓡 wired =
    let c = f.clauses 𝓛 𝓜.mem 𝓡.returns in let W = walk_of 𝓛 f.ended stayed c in let 𝓣 = tables 𝓤 𝓛.H 𝓜 𝓡 𝓡.env in
    proved 𝓛 f.ended stayed c 𝓜 𝓡
    (Goes-dropped 𝓛 1 (RefOf (0 ∷ []) tt (plain (λ _. Room.the_row)) (λ _. tt)) yes (λ κs x w. refl), (Goes-dropped 𝓛 1 (plain (λ _. RawPtr)) yes (λ κs x w. refl), (Goes-dropped 𝓛 1 (plain (λ _. usize)) yes (λ κs x w. refl), tt)))
    f.Key.name code.function (code.unfolded 𝓤 𝓛.H 𝓜 𝓡 wired)
    (λ κs. (shr_vals, (rawptr_vals, (uint_vals w64, tt)))) (λ κs. (shr_Tells (named 0) κs.0 Room.the_row, (rawptr_Tells, (uint_Tells w64, tt)))) (λ κs qs bounds a g are.
    let room = a.0.now in let n = a.1.1.0 in let xs = room.bytes in
    let b = block_of room.first in let o = count_of room.first in
    let rb = a.0.ref_ptr.0 in let ro = a.0.ref_ptr.1 in
    let y : W.Ghost = ((κs, qs, bounds, a, (shr_vals a.0, (rawptr_vals a.1.0, (uint_vals w64 n, tt)))), g) in
    let Asked = (room.first ≡ a.1.0) × (n ≡ length xs) in
    qed 𝓛 ((raw (alive 𝓛 f.signature κs qs) ⊛ ‵ (owns (types_at f.signature.params κs) a y.0.4)) ∷ raw (fact 𝓤 Asked) ∷ []) ∵
    move ! (1 ∷ []) $ heard ! Asked (λ asked. split ! $ move ! (1 ∷ []) $ fsplit ! $ fsplit ! $ drop ! $ unhide ! $ fsplit ! $ drop ! $ move ! (1 ∷ []) $ drop ! $ hide ! $
    -- [the bytes; the tokens]
    regoal ! (λ (p : Ptr). prop (WpFn 𝓤 𝓛.H 𝓣.C 𝓣.Λ code.function (vptr rb ro ∷ ptr_val p ∷ vint w64 n ∷ []) (W.post y))) (sym asked.0 ∙ room.placed.0) refl $
    enter ! _ _ _ _ _ $ alloc_all ! (λ l. pass_all ! refl ((tt, tt), ((tt, tt), ((tt, record { fits = are.1.1.0.1 }), tt))) $
    first ! $ blocks ! $
    sets_last ! (agg ! (and_then ! (get ! refl) (and_then ! (get ! refl) (no_more !)))) refl (tt, (tt, (record { fits = are.1.1.0.1 }, tt))) $
    exec ! 𝓣.C 𝓣.Λ (env code.Mir.locals l) code.Mir.t-2 (at_ret _ (W.post y)) $
    sets ! (of_opd ! (get ! refl)) refl (tt, (tt, (record { fits = are.1.1.0.1 }, tt))) $
    flt_i ! (length xs * 1) (2 ^ 63) (omega (arith, room.placed.1)) $ flt_i ! (length xs) (2 ^ 64) (omega (arith, room.placed.1)) $ fjoin ! $
    feq_i ! (List Val) (slice_val (b, o) n ∷ []) (slice_val (b, o) (length xs) ∷ []) (ap (λ k. slice_val (b, o) k ∷ []) asked.1) $ fjoin ! $ fjoin ! $
    returns ! (look_at ! 0 refl) $ free_all ! refl $
    suffices ! _ (ends_at 𝓛 f.ended stayed c y (slice_val (b, o) n) (record { ref_ptr = (b, o); now = xs }) (tt, (tt, (tt, tt))) (tt, (tt, (tt, tt)))) $ says ! refl $
    nothing ! $ nothing ! $ fjoin ! $ nothing ! $ fjoin ! $ nothing ! $ fjoin ! $ move ! (2 ∷ 0 ∷ 1 ∷ []) $ done !)))
