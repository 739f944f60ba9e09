-- `take` keeps what `allocate` hands over. Assumes `Logic`.
use Rattle.std.proofs.Common.{◌≡◌, ℕ, true, false, ◌+◌, List, [], ◌∷◌, ◌++◌, refl, arith, lit<}
use base.Fml.{Lft, Share, ftrue, flft, froom}
use base.Logic.{SProp, emp, id⊢}
use mir.Syntax.{Ty, Fn, Args, a_type, dcons, dnil}
use mir.Val.{Val, vptr, vcons, vnil, vstruct}
use mir.MapTy.{inst_fn}
use prog.Wp.{Env, WpFn}
use contract.BorrowLft.{◌⊑◌, ⊑_trans}
use contract.Monad.{fact, fact_i}
use contract.Running.{tables}
use types.Kit.{‵, raw, ◌⊛◌, later, prop, at_ret, ◌$◌, ◌∵◌, !, qed, by, move, drop, use0, use1, use2, split, join, regoal, rewrite, fsplit, fjoin, feq_i, await, Post, any_q}
use prog.Wp.{Wp, after_seq, at_return}
use types.Part.{whole, agg}
use types.Match.{live, vrt, in_variant}
use types.Run.{stop, fld, lit, of_opd, no_more, and_then, first, switches_on, exec, returns, enter}
use types.ByLocal.{alloc_all, pass_all, free_all, look_at, get, get_in, get_tag, sets, sets_last, lands_as, env}
use denote.Exit.{yes}
use denote.Laws.{Is}
use denote.RattleType.{RattleType, owns}
use denote.RawPtr.{Ptr, RawPtr, block_ptr}
use denote.Builtin.{RefOf}
use denote.Param.{param, bounded}
use denote.Signature.{plain, types_at, type_at}
use denote.Steps.{nothing, heard, owned}
use denote.Struct.Declared as Declared
use denote.Struct.Struct.{Struct, Struct-Makes}
use denote.Struct.Tuple.{Tuple}
use denote.Triple.Entry.{alive}
use denote.Triple.Call.{calls_at}
use denote.Triple.Walked.{Stays, stay_dropped, walk_of, Goes-dropped}
use Rattle.std.proofs.alloc.Calls.{Al, seen, Takes, at_takes, Answered, Takes-goes, Takes-gives, answers, Answer-typed}
use Rattle.std.proofs.VecSteps.Shapes.{after, head, arm_body}
use denote.Triple.Table.{framed}
use Rattle.std.proofs.raw_atomic.Walks.{proved_at, leaves}
use Rattle.std.proofs.ResultValues.{ok_of, err_of}
use Rattle.std.specs.Prelude.{Ok, Err}
use Rattle.std.specs.contracts.marker.PhantomData as marker
use Rattle.std.specs.contracts.alloc.AllocError as AE
use Rattle.leaf_buffer.specs.declared.block.TheConstants.{BLOCK_SIZE}
use Rattle.leaf_buffer.specs.Memory.{bare}
use Rattle.leaf_buffer.proofs.Literals.{size_of_block}
use Rattle.leaf_buffer.proofs.Making.{none, one, three, none_made, one_made, three_made}
use Rattle.leaf_buffer.specs.contracts.room.Room as Room
use Rattle.leaf_buffer.specs.contracts.room.Deed as Deed
use Rattle.leaf_buffer.specs.contracts.room.take as f
use Rattle.leaf_buffer.proofs.room.take.Statement.{statement}
use Rattle.leaf_buffer.proofs.room.take.Code as code

pub take_spec : {M : Type 1} → statement M
take_spec 𝓤 𝓛 𝓜 𝓡 wired A L g d dd met md =
    let H = 𝓛.H in
    let T = f.ended A g d dd in
    let c = f.clauses A g d dd 𝓛 𝓜.mem 𝓡.returns in
    let args : Args = bounded (a_type ∷ []) (A, tt) (dcons d (dcons dd dnil)) in
    let fn : Fn = inst_fn args code.function in
    let Z : RattleType = param 0 A in
    let hs : Stays T.signature.params T.kept = (stay_dropped (RefOf (0 ∷ []) tt (plain (λ _. Z)) (λ _. tt)) yes, tt) in
    let C = (tables 𝓤 H 𝓜 𝓡 𝓡.env).C in
    let Λ = (tables 𝓤 H 𝓜 𝓡 𝓡.env).Λ in
    proved_at 𝓛 T hs c 𝓜 𝓡 (Goes-dropped 𝓛 2 (RefOf (0 ∷ []) tt (plain (λ _. Z)) (λ _. tt)) yes (λ κs x w. refl), tt) (f.Key.name args) fn (code.unfolded 𝓤 H 𝓜 𝓡 wired (A, tt) d dd) (λ z are.
    let Post : Val → SProp 𝓤 = (walk_of 𝓛 T hs c).post z in
    let a = z.0.3 in
    let vss = z.0.4 in
    let Y : Al = record { row = A; laws = L; g = g; d = d; drops = dd } in
    let κ : Lft = z.0.0.0 in
    let q : Share = z.0.1.0 in
    let h = a.0.now in
    let at = a.0.ref_ptr in
    let τ : Ty = bare BLOCK_SIZE in
    let D : RattleType = Deed.the_row Z g in
    let Three : RattleType = Tuple (RawPtr ∷ Room.the_row ∷ D ∷ []) in
    let Out : RattleType = type_at T.signature.result z.0.0 in
    let y = at_takes Y 𝓛 𝓜.mem 𝓡.returns κ q at h 65536 1 τ in
    qed 𝓛 ((raw (alive 𝓛 T.signature z.0.0 z.0.1) ⊛ ‵ (owns (types_at T.signature.params z.0.0) a vss)) ∷ (raw (fact 𝓤 (z.0.0.1.0 ⊑ A.lives)) ⊛ raw (emp 𝓤)) ∷ []) ∵
    move ! (1 ∷ []) $ split ! $ heard ! (z.0.0.1.0 ⊑ A.lives) (λ le. drop ! $ split ! $ move ! (1 ∷ []) $
    fsplit ! $ fsplit ! $ drop ! $ move ! (1 ∷ []) $ drop ! $ use1 𝓛 (‵ (seen Y κ at h)) (id⊢ 𝓤 _) $
    move ! (1 ∷ []) $ use1 𝓛 (‵ (flft κ q) ⊛ ‵ (flft z.0.0.1.0 z.0.1.1.0) ⊛ ‵ ftrue) (id⊢ 𝓤 _) $ split ! $ move ! (2 ∷ 0 ∷ []) $
    -- [the handle; its lifetime; the other lifetimes]
    regoal ! (λ (us : List Val). prop (WpFn 𝓤 H C Λ fn us Post)) (λ i. are.0.0 i ++ []) refl $
    enter ! C Λ fn (vptr at.0 at.1 ∷ []) Post $ alloc_all ! (λ l. pass_all ! refl ((tt, tt), tt) $
    let En : Env 𝓤 𝓛.H = env fn.locals l in
    let both = head (after 1 fn.body) in
    let Then : types.Kit.Post 𝓤 H = any_q (after_seq 𝓤 H (Wp 𝓤 H C Λ En (after 2 fn.body) (at_return 𝓤 H En Post)) (at_return 𝓤 H En Post)) in
    use2 𝓛 (raw ((Takes Y 𝓛 𝓜.mem 𝓡.returns).pre y)) (Takes-goes Y 𝓛 𝓜.mem 𝓡.returns κ q at h (⊑_trans κ z.0.0.1.0 A.lives z.0.2.0 le) 65536 1 τ refl refl (lit< tt) (lit< tt)) $
    calls_at ! (framed 𝓤 H 𝓜 (tables 𝓤 H 𝓜 𝓡 𝓡.env)) (Takes Y 𝓛 𝓜.mem 𝓡.returns) (met.allocate dd) y (and_then ! (get ! refl) (and_then ! (size_of_block !) (and_then ! (lit ! tt) (no_more !)))) (λ v.
    use1 𝓛 (later (raw (Answered Y 𝓛 𝓜.mem 𝓡.returns h τ v) ⊛ ‵ (flft κ q))) (Takes-gives Y 𝓛 𝓜.mem 𝓡.returns κ q at h 65536 1 τ v) $ await ! tt $ split ! $
    answers Y ! 𝓜.mem 𝓡.returns h τ v
    (λ b o e.
    let p : Ptr = block_ptr b o in
    let room : (Room.the_row).Denot = record { first = p; bytes = []; placed = (refl, omega arith) } in
    let deed : D.Denot = record { by = record {}; first = p; alloc = h } in
    let made : Val = three (vptr b o) none (one none) in
    lands_as ! e refl (Answer-typed true b o) $ first ! $ switches_on ! (get_tag ! (vrt ! refl (fld ! refl (stop !))) (whole !)) $ exec ! C Λ En (arm_body 0 both) Then $
    sets ! (of_opd ! (get_in ! (vrt ! refl (fld ! refl (stop !))) (in_variant ! 0 0 refl refl (whole !)))) refl (tt, tt) $
    sets ! (agg ! (no_more !)) refl (tt, tt) $
    sets ! (agg ! (no_more !)) refl (tt, tt) $
    sets ! (agg ! (and_then ! (get ! refl) (no_more !))) refl (tt, (tt, tt)) $
    sets ! (agg ! (and_then ! (get ! refl) (and_then ! (get ! refl) (and_then ! (get ! refl) (no_more !))))) refl (tt, (tt, (tt, ((tt, tt), tt)))) $
    sets_last ! (agg ! (and_then ! (lit ! tt) (and_then ! (get ! refl) (no_more !)))) refl (tt, (record { fits = lit< tt }, ((tt, (tt, ((tt, tt), tt))), tt))) $
    exec ! C Λ En (after 2 fn.body) (at_ret En Post) $
    sets ! (of_opd ! (get ! refl)) refl (tt, (record { fits = lit< tt }, ((tt, (tt, ((tt, tt), tt))), tt))) $
    returns ! (look_at ! 0 refl) $ free_all ! refl $
    -- [the room; the right to free it; the handle's lifetime; the other lifetimes]
    rewrite ! 0 (λ (k : ℕ). ‵ (froom τ b k)) {x = o + 0} (omega arith) refl $
    nothing ! $ fjoin ! $ none_made ! $ fjoin ! $ move ! (1 ∷ []) $
    none_made ! $ one_made ! (marker.the_row Z) (record {}) none $ fjoin ! $ move ! (1 ∷ []) $
    feq_i ! (List Val) (vptr b o ∷ []) (vptr b o ∷ []) refl $ three_made ! RawPtr Room.the_row D p room deed (vptr b o) none (one none) $
    use1 𝓛 (‵ (Out.own_val (Ok (p, room, deed)) (live 0 (vcons made vnil) ∷ []))) (ok_of 𝓛 Three AE.the_row (p, room, deed) made) $
    move ! (1 ∷ 2 ∷ []) $ join ! $
    use0 𝓛 (raw (fact 𝓤 ((p ≡ p) × ([] ≡ room.bytes) × (p ≡ p) × (h ≡ h)))) (fact_i 𝓤 ((p ≡ p) × ([] ≡ room.bytes) × (p ≡ p) × (h ≡ h)) (emp 𝓤) (refl, refl, refl, refl)) $
    nothing ! $ nothing ! $ fjoin ! $ move ! (2 ∷ 0 ∷ 3 ∷ 1 ∷ []) $
    by ! (leaves 𝓛 T hs c z (live 0 (vcons made vnil)) (Ok (p, room, deed)) (tt, tt) (tt, tt)))
    (λ e.
    let Refusal : RattleType = Struct (Declared.shape AE.the_type) in
    lands_as ! e refl (Answer-typed false 0 0) $ first ! $ switches_on ! (get_tag ! (vrt ! refl (fld ! refl (stop !))) (whole !)) $ exec ! C Λ En (arm_body 1 both) Then $
    sets ! (of_opd ! (get_in ! (vrt ! refl (fld ! refl (stop !))) (in_variant ! 1 0 refl refl (whole !)))) refl (tt, tt) $
    sets_last ! (agg ! (and_then ! (lit ! tt) (and_then ! (get ! refl) (no_more !)))) refl (tt, (record { fits = lit< tt }, (tt, tt))) $
    exec ! C Λ En (after 2 fn.body) (at_ret En Post) $
    sets ! (of_opd ! (get ! refl)) refl (tt, (record { fits = lit< tt }, (tt, tt))) $
    returns ! (look_at ! 0 refl) $ free_all ! refl $ join ! $
    owned ! Refusal (Is Refusal) (Struct-Makes 𝓛 (Declared.shape AE.the_type) tt) tt (vstruct vnil ∷ []) (tt, (refl, tt)) $
    use1 𝓛 (‵ (Out.own_val (Err (record {})) (live 1 (vcons (vstruct vnil) vnil) ∷ []))) (err_of 𝓛 Three AE.the_row (record {}) (vstruct vnil)) $
    use0 𝓛 (raw (fact 𝓤 (Unit {0}))) (fact_i 𝓤 (Unit {0}) (emp 𝓤) tt) $ nothing ! $ nothing ! $ fjoin ! $ move ! (3 ∷ 0 ∷ 2 ∷ 1 ∷ []) $
    by ! (leaves 𝓛 T hs c z (live 1 (vcons (vstruct vnil) vnil)) (Err (record {})) (tt, tt) (tt, tt)))))))
