-- `write` fills the first byte that holds nothing yet. Assumes `Logic`.
use Rattle.std.proofs.Common.{◌≡◌, ℕ, suc, ◌+◌, ◌-◌, ◌<◌, List, [], ◌∷◌, ◌++◌, length, refl, sym, ◌∙◌, arith, length-append}
use Rattle.std.proofs.raw_atomic.Walks.{proved}
use base.Fraction.{full_share}
use base.Fml.{ftrue, flft, froom}
use mir.Syntax.{named, w8, w64, ty_int}
use mir.Val.{Val, vptr, vint, vunit}
use prog.Wp.{WpFn}
use contract.Monad.{fact}
use contract.Running.{tables}
use types.Kit.{‵, raw, ◌⊛◌, prop, at_ret, ◌$◌, ◌∵◌, !, qed, done, move, keep, use1, use2, split, join, fsplit, fsplit3, fjoin, fjoin3, feq_i, regoal, rewrite, suffices, frame}
use types.Run.{enter, init, of_opd, bin, unit_lit, stop, assigns_last, first, blocks, exec, returns}
use types.ByLocal.{alloc_all, pass_all, free_all, look_at, get, through, sets, env}
use denote.Builtin.{u8, usize}
use denote.Exit.{yes}
use denote.Memory.{part_at}
use denote.Plain.{uint_vals, uint_Tells, uint_in}
use denote.RattleType.{owns}
use denote.RawPtr.{Ptr, RawPtr, block_of, count_of, ptr_val, rawptr_vals, rawptr_Tells}
use denote.RawPtr.Bytes.{bytes, bytes_glue}
use denote.Ref.{mut_vals, mut_Tells}
use denote.Signature.{plain, types_at}
use denote.Steps.{nothing, heard, opens, closes}
use denote.Triple.Walked.{says, Stays, walk_of, stay_ref, stay_dropped, Goes-ref, Goes-dropped, ends_at}
use Rattle.leaf_buffer.specs.declared.block.TheConstants.{BLOCK_SIZE}
use Rattle.leaf_buffer.specs.Memory.{bare}
use Rattle.leaf_buffer.specs.contracts.room.Room as Room
use Rattle.leaf_buffer.specs.contracts.room.Room.write as f
use Rattle.leaf_buffer.proofs.room.Room.write.Statement.{statement}
use Rattle.leaf_buffer.proofs.room.Room.write.Code as code

abbrev stayed : Stays f.ended.signature.params f.ended.kept
stayed = (stay_ref (0 ∷ []) tt (plain (λ _. Room.the_row)), (stay_dropped _ yes, (stay_dropped _ yes, (stay_dropped _ yes, tt))))

pub write_spec : {M : Type 1} → statement M
write_spec 𝓤 𝓛 𝓜 𝓡 wired =
    let c = f.clauses 𝓛 𝓜.mem 𝓡.returns in let W = walk_of 𝓛 f.ended stayed c in let 𝓣 = tables 𝓤 𝓛.H 𝓜 𝓡 𝓡.env in
    proved 𝓛 f.ended stayed c 𝓜 𝓡
    (Goes-ref 𝓛 1 0 tt (plain (λ _. Room.the_row)), (Goes-dropped 𝓛 1 (plain (λ _. RawPtr)) yes (λ κs x w. refl), (Goes-dropped 𝓛 1 (plain (λ _. usize)) yes (λ κs x w. refl), (Goes-dropped 𝓛 1 (plain (λ _. u8)) yes (λ κs x w. refl), tt))))
    f.Key.name code.function (code.unfolded 𝓤 𝓛.H 𝓜 𝓡 wired)
    (λ κs. (mut_vals, (rawptr_vals, (uint_vals w64, (uint_vals w8, tt))))) (λ κs. (mut_Tells (named 0) κs.0 Room.the_row, (rawptr_Tells, (uint_Tells w64, (uint_Tells w8, tt))))) (λ κs qs bounds a g are.
    let R = Room.the_row in
    let room = a.0.now in let at = a.1.1.0 in let x = a.1.1.1.0 in let xs = room.bytes in
    let b = block_of room.first in let o = count_of room.first in let m = BLOCK_SIZE - suc (length xs) in
    let rb = a.0.ref_ptr.0 in let ro = a.0.ref_ptr.1 in
    let y : W.Ghost = ((κs, qs, bounds, a, (mut_vals a.0, (rawptr_vals a.1.0, (uint_vals w64 at, (uint_vals w8 x, tt))))), g) in
    let Asked = (room.first ≡ a.1.0) × (at ≡ length xs) × (at < BLOCK_SIZE) in
    qed 𝓛 (((‵ (flft κs.0 qs.0) ⊛ ‵ ftrue) ⊛ ‵ (owns (types_at f.signature.params κs) a y.0.4)) ∷ raw (fact 𝓤 Asked) ∷ []) ∵
    move ! (1 ∷ []) $ heard ! Asked (λ asked. split ! $ split ! $ move ! (2 ∷ []) $ fsplit ! $ keep ! (0 ∷ 2 ∷ []) $
    let more : length (xs ++ x ∷ []) ≡ suc (length xs) = length-append xs (x ∷ []) ∙ omega arith in
    let new : R.Denot = record { first = room.first; bytes = xs ++ x ∷ []; placed = (room.placed.0, omega (arith, more, asked.1, asked.2)) } in
    -- [self; its lifetime]
    regoal ! (λ (p : Ptr). prop (WpFn 𝓤 𝓛.H 𝓣.C 𝓣.Λ code.function (vptr rb ro ∷ ptr_val p ∷ vint w64 at ∷ vint w8 x ∷ []) (W.post y))) (sym asked.0 ∙ room.placed.0) refl $
    enter ! _ _ _ _ _ $ alloc_all ! (λ l. pass_all ! refl ((tt, tt), ((tt, tt), ((tt, record { fits = are.1.1.0.1 }), ((tt, record { fits = are.1.1.1.0.1 }), tt)))) $
    fsplit3 ! $ move ! (1 ∷ 2 ∷ 3 ∷ []) $ opens ! tt R rb ro (λ us. move ! (1 ∷ []) $ fsplit ! $ move ! (1 ∷ []) $ fsplit ! $ move ! (1 ∷ []) $
    -- [the room; the bytes; the fields; self's cell; the open borrow]
    rewrite ! 0 (λ (k : ℕ × ℕ). ‵ (froom (bare k.0) b k.1)) {x = (suc m, at + o)} (λ i. ((let e : BLOCK_SIZE - length xs ≡ suc m = omega (arith, asked.1, asked.2) in e) i, (let e : o + length xs ≡ at + o = omega (arith, asked.1) in e) i)) refl $
    use1 𝓛 (‵ (froom (ty_int w8) b (at + o)) ⊛ ‵ (froom (bare m) b (at + o + 1))) (𝓛.laws.room_uncons (ty_int w8) m b (at + o)) $ split ! $
    first ! $ blocks ! $
    sets ! (bin ! (get ! refl) (get ! refl) tt) refl (tt, tt) $
    assigns_last ! (of_opd ! (get ! refl)) (through ! refl (stop !)) (init ! 0 refl (tt, record { fits = are.1.1.1.0.1 })) $
    exec ! 𝓣.C 𝓣.Λ (env code.Mir.locals l) code.Mir.t-2 (at_ret _ (W.post y)) $
    sets ! (of_opd ! (unit_lit !)) refl (tt, tt) $
    -- [the byte; the room; the bytes; ..]
    use1 𝓛 (‵ (part_at u8 full_share x b (at + o))) (uint_in 𝓛 full_share w8 x b (at + o)) $
    rewrite ! 0 (λ (k : ℕ). ‵ (part_at u8 full_share x b k)) {x = o + length xs} (omega (arith, asked.1)) refl $
    nothing ! $ move ! (1 ∷ 0 ∷ []) $ fjoin ! $ move ! (2 ∷ 0 ∷ []) $
    use2 𝓛 (‵ (bytes full_share (xs ++ x ∷ []) b o)) (bytes_glue 𝓛 full_share xs (x ∷ []) b o) $ move ! (1 ∷ []) $
    rewrite ! 0 (λ (k : ℕ × ℕ). ‵ (froom (bare k.0) b k.1)) {x = (BLOCK_SIZE - length (xs ++ x ∷ []), o + length (xs ++ x ∷ []))} (λ i. ((let e : m ≡ BLOCK_SIZE - length (xs ++ x ∷ []) = omega (arith, more) in e) i, (let e : at + o + 1 ≡ o + length (xs ++ x ∷ []) = omega (arith, more, asked.1) in e) i)) refl $
    move ! (1 ∷ 0 ∷ []) $ fjoin ! $ move ! (1 ∷ 0 ∷ []) $ fjoin ! $ move ! (1 ∷ 0 ∷ []) $
    closes ! tt R new us rb ro $
    returns ! (look_at ! 0 refl) $ free_all ! refl $
    suffices ! _ (ends_at 𝓛 f.ended stayed c y vunit tt (new, (tt, (tt, (tt, tt)))) (tt, (tt, (tt, (tt, tt))))) $ says ! (refl, refl) $
    nothing ! $ move ! (3 ∷ 0 ∷ []) $ join ! $ frame ! $ feq_i ! (List Val) (vunit ∷ []) (vunit ∷ []) refl $ move ! (3 ∷ 1 ∷ 2 ∷ []) $ fjoin3 ! $
    nothing ! $ nothing ! $ fjoin ! $ nothing ! $ fjoin ! $ nothing ! $ fjoin ! $ move ! (1 ∷ 0 ∷ []) $ fjoin ! $ done !))))
