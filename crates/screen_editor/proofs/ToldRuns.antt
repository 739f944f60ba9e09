-- A read that failed in a run was told.
use Rattle.std.proofs.Common.{◌≡◌, ◌⊎◌, inl, inr, ℕ, ◌<◌, List, [], ◌∷◌, Option, Some, Result, Ok, Err, ap, arith}
use Rattle.std.specs.Prelude.{IsErrAnd, IsErrOf}
use Rattle.std.proofs.lemmas.Bool.{cases_lt}
use Rattle.lazy_file.specs.Readings.{Reading, fault_by}
use Rattle.lazy_file.proofs.LaterReads.{reads_told}
use Rattle.cord_position.specs.Fetched.{InCells}
use Rattle.lazy_file.specs.declared.faults.SourceFault.TheVariants.{Device}
use Rattle.screen_editor.specs.declared.fault.End.{End}
use Rattle.text_lines.specs.declared.fault.FrameFault.{FrameFault}
use Rattle.text_lines.specs.declared.fault.FrameFault.TheVariants as Frames
use Rattle.screen_editor.specs.declared.fault.KeyFault.{KeyFault}
use Rattle.screen_editor.specs.declared.fault.KeyFault.TheVariants as Fault
use Rattle.screen_editor.specs.declared.fault.RunFault.{RunFault}
use Rattle.screen_editor.specs.declared.fault.RunFault.TheVariants.{Read, Write, Frame, TooManyKeys}
use Rattle.screen_editor.specs.declared.key.Step.{Step}
use Rattle.screen_editor.specs.Editing.{Editing, EditorValue, current_cell, current_len}
use Rattle.screen_editor.specs.Keys.{key_of}
use Rattle.text_lines.specs.Showing.{frame_source_fault}
use Rattle.screen_editor.specs.Refusals.{KeyAsks, key_source_fault}
use Rattle.screen_editor.specs.Runs.{EndsOver, IsRun, StatesFollow}

-- one of these keys told that a device failed
abbrev pub SomeKeyTells : (a z : Reading) (old : Editing) (keys : List ℕ)
    (behind : List Editing) → StatesFollow a z old keys behind → Type 0
SomeKeyTells a z old [] [] h = ⊥
SomeKeyTells a z old [] (e ∷ es) h = ⊥
SomeKeyTells a z old (b ∷ bs) [] h = ⊥
SomeKeyTells a z old (b ∷ bs) (e ∷ es) h =
    IsErrAnd h.1.result (λ f. f ≡ Fault.Source Device) ⊎ SomeKeyTells h.0 z e bs es h.2

key_tells : (r : Result Step KeyFault) → fault_by key_source_fault r ≡ Some Device → IsErrAnd r (λ f. f ≡ Fault.Source Device)
key_tells (Ok x) e = absurd cc
key_tells (Err Fault.TooLong) e = absurd cc
key_tells (Err (Fault.Edit f)) e = absurd cc
key_tells (Err (Fault.Source f)) e = let same : f ≡ Device = cc in ap Fault.Source same

keys_tell : (s : ℕ) (a z : Reading) (old : Editing) (keys : List ℕ) (behind : List Editing)
    → (h : StatesFollow a z old keys behind) → a.failures s < z.failures s → SomeKeyTells a z old keys behind h
keys_tell s a z old [] [] h more = let same : z.failures s ≡ a.failures s = ap (λ (r : Reading). r.failures s) h in absurd (omega (arith, more, same))
keys_tell s a z old [] (e ∷ es) h more = absurd h
keys_tell s a z old (b ∷ bs) [] h more = absurd h
keys_tell s a z old (b ∷ bs) (e ∷ es) h more = elim (cases_lt (a.failures s) (h.0.failures s)) [
  | inl failed ↦ inl (key_tells h.1.result (reads_told a h.0 (KeyAsks (key_of b) old) (fault_by key_source_fault h.1.result) h.1.takes.reads s failed))
  | inr none ↦ inr (keys_tell s h.0 z e bs es h.2 (omega (arith, more, none)))
]

none_more : (s : ℕ) (a b : Reading) → b ≡ a → a.failures s < b.failures s → ⊥
none_more s a b same more = let e : b.failures s ≡ a.failures s = ap (λ (r : Reading). r.failures s) same in absurd (omega (arith, more, e))

frame_tells : (f : FrameFault) → frame_source_fault f ≡ Some Device → f ≡ Frames.Source Device
frame_tells (Frames.Source e) is = let same : e ≡ Device = cc in ap Frames.Source same
frame_tells Frames.Memory is = absurd cc

end_tells : (s : ℕ) (sources : Reading) (result : Result End RunFault) (new : EditorValue Reading)
    → EndsOver sources result new → sources.failures s < new.sources.failures s → IsErrOf result (Frame (Frames.Source Device))
end_tells s sources (Ok end) new h more = absurd (none_more s sources new.sources h more)
end_tells s sources (Err Read) new h more = absurd (none_more s sources new.sources h more)
end_tells s sources (Err Write) new h more = absurd (none_more s sources new.sources h more)
end_tells s sources (Err TooManyKeys) new h more = absurd (none_more s sources new.sources h more)
end_tells s sources (Err (Frame f)) new h more =
    ap (λ e. Err (Frame e)) (frame_tells f (reads_told sources new.sources (InCells (current_cell new.editing) 0 (current_len new.editing)) (frame_source_fault f) h.reads s more))

-- where more reads of a source have failed behind a run than before it, one of its keys told so, or its last frame
pub run_tells : (s : ℕ) (keys_before keys_left before now : Option (List ℕ))
    (old new : EditorValue Reading) (result : Result End RunFault) → (run : IsRun keys_before keys_left before now old result new)
    → old.sources.failures s < new.sources.failures s
    → SomeKeyTells old.sources run.sources old.editing run.keys run.behind run.follow ⊎ IsErrOf result (Frame (Frames.Source Device))
run_tells s keys_before keys_left before now old new result run more = elim (cases_lt (old.sources.failures s) (run.sources.failures s)) [
  | inl failed ↦ inl (keys_tell s old.sources run.sources old.editing run.keys run.behind run.follow failed)
  | inr none ↦ inr (end_tells s run.sources result new run.ends (omega (arith, more, none)))
]
