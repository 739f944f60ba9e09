-- What the bytes of all sources are at the places of a stated text, and of a read.
use Rattle.std.proofs.Common.{◌≡◌, ℕ, zero, suc, ◌+◌, ◌-◌, ◌<◌, ◌≤◌, List, map, take, drop, length, arith, refl, add-one, sym, ◌∙◌, length-take, length-drop, ap}
use Rattle.std.specs.Prelude.{Option, Some, None, IsSome, IfSome}
use Rattle.std.specs.List.{range_with_len}
use Rattle.std.proofs.Math.Seq.{drop-cons}
use Rattle.lazy_file.specs.SourceTexts.{Agrees, Stated, text_at}

-- bytes that agree with a stated text are its span, at the places inside it
pub agreed_span : (st : Stated) (source : ℕ → ℕ → ℕ) (s : ℕ) (t : List ℕ)
    → Agrees st source → text_at st s ≡ Some t → (off n : ℕ) → n ≤ length t - off
    → map (source s) (range_with_len off n) ≡ take n (drop off t)
agreed_span st source s t agrees stated off zero inside = refl
agreed_span st source s t agrees stated off (suc n) inside =
    let here : off < length t = omega arith in
    let beyond : n ≤ length t - (off + 1) = omega arith in
    rw (drop-cons t off 0, agrees s off t stated here, agreed_span st source s t agrees stated (off + 1) n beyond, add-one off)

-- what a read gave of a source that states its text, over any bytes that agree with it
pub agreed_read : (st : Stated) (source : ℕ → ℕ → ℕ) (s off n : ℕ) (read : List ℕ)
    → Agrees st source → IsSome (text_at st s) → length read ≡ n
    → IfSome (text_at st s) (λ t. read ≡ take n (drop off t))
    → read ≡ map (source s) (range_with_len off n)
agreed_read st source s off n read agrees stated whole is = of_text (text_at st s) refl stated is
  where
    of_text : (o : Option (List ℕ)) → text_at st s ≡ o → IsSome o → IfSome o (λ t. read ≡ take n (drop off t)) → read ≡ map (source s) (range_with_len off n)
    of_text None e there is = absurd cc
    of_text (Some t) e there is =
        let inside : n ≤ length t - off = omega (arith, ap length is, length-take n (drop off t), length-drop off t) in
        is ∙ sym (agreed_span st source s t agrees e off n inside)
