-- `give` puts the block together again for `deallocate`. Assumes `Logic`.
use Rattle.std.proofs.Common.{◌≡◌, ℕ, ◌+◌, ◌-◌, List, [], ◌∷◌, ◌++◌, length, refl, sym, ap, ◌∙◌, arith, lit<, T, subst}
use base.Fml.{Lft, Share, ftrue, flft, froom}
use base.Logic.{SProp, id⊢}
use mir.Syntax.{Ty, Fn, Args, a_type, dcons, dnil, w8, ty_int, ty_unit}
use mir.Val.{Val, vptr, vstruct, vunit, of_list, has_ty, WT}
use mir.MapTy.{inst_fn}
use prog.Wp.{Env, WpFn}
use contract.BorrowLft.{◌⊑◌, ⊑_trans}
use contract.Monad.{fact}
use contract.Running.{tables}
use types.Kit.{‵, raw, ◌⊛◌, later, given, prop, at_ret, ◌$◌, ◌∵◌, !, qed, by, move, drop, use1, use2, split, join, regoal, rewrite, fsplit, fjoin, feq_i, await, learn, group}
use types.Run.{lit, unit_lit, of_opd, no_more, and_then, first, blocks, exec, returns, enter}
use types.ByLocal.{alloc_all, pass_all, free_all, look_at, get, sets, lands_last, env}
use denote.RattleType.{RattleType, owns}
use denote.RawPtr.{Ptr, RawPtr, block_ptr, block_of, count_of, ptr_val}
use denote.RawPtr.Bytes.{bytes-room}
use denote.RawPtr.Room.{past_bytes, room_glue}
use denote.Builtin.{RefOf}
use denote.Param.{param, bounded}
use denote.Signature.{plain, types_at}
use denote.Steps.{nothing, heard}
use denote.Triple.Entry.{alive}
use denote.Triple.Call.{calls_at_last}
use denote.Triple.Walked.{Stays, stay_dropped, walk_of, Goes-dropped}
use Rattle.std.proofs.alloc.Calls.{Al, seen, Goes-blank, Gives, at_gives, Gives-goes, Gives-Gives}
use Rattle.std.proofs.VecSteps.Shapes.{after}
use denote.Triple.Table.{framed}
use Rattle.std.proofs.raw_atomic.Walks.{proved_at, leaves}
use Rattle.leaf_buffer.specs.declared.block.TheConstants.{BLOCK_SIZE}
use Rattle.leaf_buffer.specs.Memory.{bare}
use Rattle.leaf_buffer.proofs.Literals.{size_of_block}
use Rattle.leaf_buffer.proofs.Making.{none, one}
use Rattle.leaf_buffer.specs.contracts.room.Room as Room
use Rattle.leaf_buffer.specs.contracts.room.Deed as Deed
use Rattle.leaf_buffer.specs.contracts.room.give as f
use Rattle.leaf_buffer.proofs.room.give.Statement.{statement}
use Rattle.leaf_buffer.proofs.room.give.Code as code

pub give_spec : {M : Type 1} → statement M
give_spec 𝓤 𝓛 𝓜 𝓡 wired A L g d dd met md =
    let H = 𝓛.H in
    let F = f.ended A g d dd in
    let c = f.clauses A g d dd 𝓛 𝓜.mem 𝓡.returns in
    let args : Args = bounded (a_type ∷ []) (A, tt) (dcons d (dcons dd dnil)) in
    let fn : Fn = inst_fn args code.function in
    let Z : RattleType = param 0 A in
    let k = F.kept in
    let hs : Stays F.signature.params F.kept = (stay_dropped (RefOf (0 ∷ []) tt (plain (λ _. Z)) (λ _. tt)) k.0, (stay_dropped (plain (λ _. RawPtr)) k.1.0, (stay_dropped (plain (λ _. Room.the_row)) k.1.1.0, (stay_dropped (plain (λ _. Deed.the_row Z g)) k.1.1.1.0, tt)))) in
    let C = (tables 𝓤 H 𝓜 𝓡 𝓡.env).C in
    let Λ = (tables 𝓤 H 𝓜 𝓡 𝓡.env).Λ in
    proved_at 𝓛 F hs c 𝓜 𝓡
    (Goes-dropped 𝓛 2 (RefOf (0 ∷ []) tt (plain (λ _. Z)) (λ _. tt)) k.0 (λ κs x w. refl), (Goes-dropped 𝓛 2 (plain (λ _. RawPtr)) k.1.0 (λ κs x w. refl), (Goes-blank 𝓛 2 (plain (λ _. Room.the_row)) k.1.1.0 (λ κs x w. tt), (Goes-blank 𝓛 2 (plain (λ _. Deed.the_row Z g)) k.1.1.1.0 (λ κs x w. tt), tt))))
    (f.Key.name args) fn (code.unfolded 𝓤 H 𝓜 𝓡 wired (A, tt) d dd) (λ z are.
    let Post : Val → SProp 𝓤 = (walk_of 𝓛 F hs c).post z in
    let a = z.0.3 in
    let vss = z.0.4 in
    let Y : Al = record { row = A; laws = L; g = g; d = d; drops = dd } in
    let κ : Lft = z.0.0.0 in
    let q : Share = z.0.1.0 in
    let h = a.0.now in
    let at = a.0.ref_ptr in
    let room = a.1.1.0 in let deed = a.1.1.1.0 in let xs = room.bytes in let n = length xs in
    let b = block_of room.first in let o = count_of room.first in
    let τ : Ty = bare BLOCK_SIZE in let byte : Ty = ty_int w8 in
    let s = are.1.1.1.0.0 in
    let Asked = (room.first ≡ a.1.0) × (deed.first ≡ a.1.0) × (deed.alloc ≡ h) in
    let y = at_gives Y 𝓛 𝓜.mem 𝓡.returns κ q at h b o 65536 1 τ in
    qed 𝓛 ((raw (alive 𝓛 F.signature z.0.0 z.0.1) ⊛ ‵ (owns (types_at F.signature.params z.0.0) a vss)) ∷ (raw (fact 𝓤 (z.0.0.1.0 ⊑ A.lives)) ⊛ raw (fact 𝓤 Asked)) ∷ []) ∵
    move ! (1 ∷ []) $ split ! $ heard ! (z.0.0.1.0 ⊑ A.lives) (λ le. heard ! Asked (λ asked. split ! $ move ! (1 ∷ []) $
    let here : a.1.0 ≡ block_ptr b o = sym asked.0 ∙ room.placed.0 in
    fsplit ! $ fsplit ! $ drop ! $ use1 𝓛 (‵ (seen Y κ at h)) (id⊢ 𝓤 _) $ move ! (1 ∷ []) $ fsplit ! $ drop ! $
    fsplit ! $ fsplit ! $ drop ! $ move ! (1 ∷ []) $ fsplit ! $ fsplit ! $ drop ! $ move ! (1 ∷ []) $ drop ! $
    -- [the right to free; the memory; the handle; the lifetimes]
    rewrite ! 0 (λ (k : A.Denot × Ptr). ‵ (g.dealloc_token k.0 τ k.1)) (λ i. (asked.2 i, (asked.1 ∙ here) i)) refl $
    move ! (1 ∷ []) $ fsplit ! $ use1 𝓛 (‵ (froom (bare n) b o)) (bytes-room 𝓛 xs b o) $ move ! (1 ∷ []) $
    rewrite ! 0 (λ (k : ℕ). ‵ (froom (bare (BLOCK_SIZE - n)) b k)) (sym (past_bytes n o)) refl $ move ! (1 ∷ 0 ∷ []) $
    use2 𝓛 (‵ (froom (bare (n + (BLOCK_SIZE - n))) b o)) (room_glue 𝓛 byte n (BLOCK_SIZE - n) b o) $
    rewrite ! 0 (λ (k : ℕ). ‵ (froom (bare k) b o)) {x = BLOCK_SIZE} (omega (arith, room.placed.1)) refl $
    move ! (3 ∷ []) $ use1 𝓛 (‵ (flft κ q) ⊛ ‵ (flft z.0.0.1.0 z.0.1.1.0) ⊛ ‵ ftrue) (id⊢ 𝓤 _) $ split ! $ move ! (2 ∷ 3 ∷ 4 ∷ 0 ∷ []) $
    regoal ! (λ (us : List Val). prop (WpFn 𝓤 H C Λ fn us Post)) (λ i. are.0.0 i ++ ((are.1.0 ∙ ap (λ p. ptr_val p ∷ []) here) i ++ (are.1.1.0.0.1.0 i ++ ((s.1.0 ∙ (λ j. vstruct (of_list (s.1.1.0.1.0 j ++ [])) ∷ [])) i ++ [])))) refl $
    enter ! C Λ fn (vptr at.0 at.1 ∷ vptr b o ∷ none ∷ one none ∷ []) Post $ alloc_all ! (λ l. pass_all ! refl ((tt, tt), ((tt, tt), ((tt, tt), ((tt, (tt, tt)), tt)))) $
    let En : Env 𝓤 𝓛.H = env fn.locals l in
    first ! $ blocks ! $
    group ! 4 $ use1 𝓛 (raw ((Gives Y 𝓛 𝓜.mem 𝓡.returns).pre y)) (Gives-goes Y 𝓛 𝓜.mem 𝓡.returns κ q at h (⊑_trans κ z.0.0.1.0 A.lives z.0.2.0 le) b o 65536 1 τ refl refl (lit< tt) (lit< tt)) $
    calls_at_last ! (framed 𝓤 H 𝓜 (tables 𝓤 H 𝓜 𝓡 𝓡.env)) (Gives Y 𝓛 𝓜.mem 𝓡.returns) (met.deallocate dd) y (and_then ! (get ! refl) (and_then ! (get ! refl) (and_then ! (size_of_block !) (and_then ! (lit ! tt) (no_more !))))) (λ v.
    use1 𝓛 (later (given (v ≡ vunit) (‵ (flft κ q)))) (Gives-Gives Y 𝓛 𝓜.mem 𝓡.returns κ q at h b o 65536 1 τ v) $ await ! tt $ learn ! (λ is_unit.
    lands_last ! refl (subst (λ (w : Val). T (has_ty ty_unit w) × WT w) (sym is_unit) (tt, tt)) $ exec ! C Λ En (after 1 fn.body) (at_ret En Post) $
    sets ! (of_opd ! (unit_lit !)) refl (tt, tt) $ returns ! (look_at ! 0 refl) $ free_all ! refl $ join ! $
    feq_i ! (List Val) (vunit ∷ []) (vunit ∷ []) refl $ nothing ! $ nothing ! $ nothing ! $ fjoin ! $ nothing ! $ fjoin ! $ nothing ! $ fjoin ! $ nothing ! $ fjoin ! $ move ! (3 ∷ 0 ∷ 2 ∷ 1 ∷ []) $
    by ! (leaves 𝓛 F hs c z vunit tt (tt, (tt, (tt, (tt, tt)))) (tt, (tt, (tt, (tt, tt)))))))))))
