-- Functions that may be missing.
use Rattle.std.specs.Prelude.{ℕ, Option, Some, None}
use Rattle.function_leaf.specs.declared.coded.Coded.{Coded}
use Rattle.function_leaf.specs.declared.coded.Coded.TheVariants.{Fill}

-- what a function answers at a place, and 0 where there is none
abbrev pub answer_of : {F : Type 0} → (F → ℕ → ℕ) → Option F → ℕ → ℕ
answer_of meaning None i = 0
answer_of meaning (Some f) i = meaning f i

-- the function, or a fill of zeros where there is none
abbrev pub or_fill : Option Coded → Coded
or_fill None = Fill 0
or_fill (Some f) = f
