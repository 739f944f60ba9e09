-- The frames of worked examples, whose numbers are written out.
use Rattle.std.proofs.Common.{◌≡◌, ◌∷◌, [], ◌++◌, None, codes, replicate, refl}
use Rattle.std.specs.Fmt.{digits}
use Rattle.std.specs.List.{flat_map, range_with_len}
use Rattle.worked_tests.specs.Keys.{typed}
use Rattle.screen_editor.specs.State.{start_of}
use Rattle.text_lines.specs.Screen.{status_of, cursor_of}
use Rattle.screen_editor.specs.Frame.{frame_of}

pub typed_again : frame_of (typed (0x61 ∷ 0x62 ∷ 0x15 ∷ 0x63 ∷ []) (start_of []))
    ≡ 0x1B ∷ codes "[2J" ++ 0x1B ∷ codes "[Hac" ++ flat_map (λ k. 0x0D ∷ 0x0A ∷ []) (range_with_len 0 23) ++ codes "rev 4 byte 2 of 2" ++ 0x1B ∷ codes "[1;3H"
unfolding digits
typed_again = refl

pub end_of_81 : status_of 0 81 81 None ≡ codes "rev 0 byte 81 of 81"
unfolding digits
end_of_81 = refl

pub column_2 : cursor_of (replicate 80 0x78 ++ 0 ∷ []) 81 ≡ 0x1B ∷ codes "[1;2H"
unfolding digits
column_2 = refl
