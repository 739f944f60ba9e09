-- Patterns as they are kept: 16 bytes, with zeros behind their own.
use Rattle.std.proofs.Common.{◌≡◌, ℕ, ◌-◌, ◌≤◌, List, ◌++◌, length, take, arith, ap, sym, ◌∙◌}
use Rattle.std.specs.Prelude.{replicate}
use Rattle.std.proofs.lemmas.List.{take-append-drop, length-take-le}
use Rattle.function_leaf.specs.Pattern.{IsPadded, padded}
use Rattle.function_leaf.specs.declared.pattern.TheConstants.{PATTERN_LIMIT}
use Rattle.function_leaf.specs.declared.pattern.Pattern.TheInside.{Inside}

-- the bytes in front are as many as their number says
length-in_front : (bytes : List ℕ) (n : ℕ) → IsPadded bytes n → length (take n bytes) ≡ n
length-in_front bytes n h = let le : n ≤ length bytes = omega arith in length-take-le n bytes le

-- the bytes in front, padded again, are all of them
padded-take : (bytes : List ℕ) (n : ℕ) → IsPadded bytes n → padded (take n bytes) ≡ bytes
padded-take bytes n h =
    ap (λ m. take n bytes ++ replicate (PATTERN_LIMIT - m) 0) (length-in_front bytes n h)
    ∙ ap (λ xs. take n bytes ++ xs) (sym h.zeros)
    ∙ take-append-drop n bytes

-- the fields of a pattern come back from its bytes in front
pub fields_back : (a : Inside) → IsPadded a.bytes a.size
    → record a { bytes = padded (take a.size a.bytes); size = length (take a.size a.bytes) } ≡ a
fields_back a h = rw (padded-take a.bytes a.size h, length-in_front a.bytes a.size h)
