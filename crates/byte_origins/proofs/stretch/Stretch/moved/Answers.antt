use Rattle.std.proofs.Common.{◌≡◌, ℕ, ◌+◌, ◌-◌, ◌<◌, ◌≤◌, length, Some, refl, sym, ap, ◌∙◌, arith, inl, inr}
use Rattle.std.proofs.lemmas.Option.{none-some, some_pair_parts}
use Rattle.command_parts.specs.declared.edit.Splice.{Splice}
use Rattle.image_reader.specs.Accepted.{revision_at}
use Rattle.byte_origins.specs.SplicedTexts.{StandsBeside}
use Rattle.byte_origins.specs.declared.taking.CameFrom.TheVariants.{FromText}
use Rattle.byte_origins.specs.EarlierTexts.{len_of_text}
use Rattle.byte_origins.proofs.EarlierTexts.{text_short}
use Rattle.byte_origins.proofs.SplicedTexts.{same_splice, splice_is, stands_beside}
use Rattle.byte_origins.proofs.Together.{step_is}
use Rattle.byte_origins.proofs.stretch.Stretch.moved.Goals as goal

pub place_beside-requires-clause-fits : goal.place_beside-requires-clause-fits
place_beside-requires-clause-fits g c =
    let there = c.requires.there in
    let s = splice_is (g.H.History.image c.args.history) c.args.self.revision c.args.self.place c.in-Some.r (g.H.History.listed c.args.history c.args.self.revision) c.command-edit.result c.in-Some.splice c.one_splice.result c.revision_count-count.ensures.true_records c.requires.there (omega (arith, c.requires.some, c.requires.inside)) c.command-edit.ensures.says c.one_splice.ensures c.in-Some.is in
    let short = text_short (g.H.History.image c.args.history) c.args.self.revision (omega (arith, there)) c.revision_count-count.ensures.true_records c.in-Some.r s.earlier in
    let fits = s.fits in
    omega (arith, fits, short)

pub place_beside-requires-clause-inside : goal.place_beside-requires-clause-inside
place_beside-requires-clause-inside g c =
    let there = c.requires.there in
    let s = splice_is (g.H.History.image c.args.history) c.args.self.revision c.args.self.place c.in-Some.r (g.H.History.listed c.args.history c.args.self.revision) c.command-edit.result c.in-Some.splice c.one_splice.result c.revision_count-count.ensures.true_records c.requires.there (omega (arith, c.requires.some, c.requires.inside)) c.command-edit.ensures.says c.one_splice.ensures c.in-Some.is in
    let short = text_short (g.H.History.image c.args.history) c.args.self.revision (omega (arith, there)) c.revision_count-count.ensures.true_records c.in-Some.r s.earlier in
    let inside = s.inside in
    omega (arith, inside, short)

pub returns-clause-moved : goal.returns-clause-moved
returns-clause-moved g c =
    let v = g.H.History.image c.args.history in
    let k = c.args.self.revision in
    let t = c.revision_count-count.ensures.true_records in
    let some = c.requires.some in
    let first = splice_is (g.H.History.image c.args.history) c.args.self.revision c.args.self.place c.in-Some.r (g.H.History.listed c.args.history c.args.self.revision) c.command-edit.result c.in-Some.splice c.one_splice.result c.revision_count-count.ensures.true_records c.requires.there (omega (arith, c.requires.some, c.requires.inside)) c.command-edit.ensures.says c.one_splice.ensures c.in-Some.is in
    let last = splice_is (g.H.History.image c.args.history) c.args.self.revision (c.args.self.place + c.args.self.len - 1) c.in-Some.r (g.H.History.listed c.args.history c.args.self.revision) c.command-edit.result c.in-Some.splice c.one_splice.result c.revision_count-count.ensures.true_records c.requires.there (omega (arith, c.requires.some, c.requires.inside)) c.command-edit.ensures.says c.one_splice.ensures c.in-Some.is in
    let room = last.inside in
    let whole = len_of_text v c.in-Some.r in
    let beside = stands_beside k c.args.self.place c.args.self.len c.in-Some.r whole c.in-Some-place_beside.place c.in-Some.splice some (omega (arith, room, some)) first.fits c.in-Some-place_beside.ensures in
    let back = first.back ∙ ap Some beside.1 in (
      beside.0,
      record {
        step = step_is v t t.rules k c.args.self.place (FromText c.in-Some.r c.in-Some-place_beside.place beside.0) c.requires.there back;
        exact = back;
        whole = beside.2;
        len = refl;
        first = c.lowered.ensures;
      },
    )

pub returns-in_default-clause-found : goal.returns-in_default-clause-found
returns-in_default-clause-found g c = λ r s beside.
    let v = g.H.History.image c.args.history in
    let k = c.args.self.revision in
    let same = same_splice (g.H.History.listed c.args.history k) v.splices c.command-edit.result (revision_at v k).edit c.command-edit.ensures.says in
    absurd (none-some {A = ℕ × Splice} (r, s) (sym c.in_default.is ∙ c.one_splice.ensures ∙ same ∙ beside.command))

-- what a splice cuts or puts in does not stand beside it
not_beside : (u s : Splice) (place len : ℕ) → u ≡ s → (u.p < place + len) × (place < u.p + u.n) → StandsBeside s place len → ⊥
not_beside u s place len e cut (inl front) = let p = ap (λ (x : Splice). x.p) e in omega (arith, p, cut.0, front)
not_beside u s place len e cut (inr back) = let p = ap (λ (x : Splice). x.p) e in let n = ap (λ (x : Splice). x.n) e in omega (arith, p, n, cut.1, back)

pub returns-in_default-place_beside-clause-found : goal.returns-in_default-place_beside-clause-found
returns-in_default-place_beside-clause-found g c = λ r s beside.
    let v = g.H.History.image c.args.history in
    let k = c.args.self.revision in
    let same = same_splice (g.H.History.listed c.args.history k) v.splices c.command-edit.result (revision_at v k).edit c.command-edit.ensures.says in
    let found : Some (c.in-Some.r, c.in-Some.splice) ≡ Some (r, s) = sym c.in-Some.is ∙ c.one_splice.ensures ∙ same ∙ beside.command in
    absurd (not_beside c.in-Some.splice s c.args.self.place c.args.self.len (some_pair_parts c.in-Some.r r c.in-Some.splice s found).1 c.in_default-place_beside.ensures beside.beside)
