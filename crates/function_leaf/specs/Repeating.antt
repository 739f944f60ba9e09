-- Functions whose bytes repeat.
use Rattle.std.specs.Prelude.{◌≡◌, ℕ, ◌+◌, ◌≤◌}

-- the function's bytes are the same again after p of them
pub record Repeats (f : ℕ → ℕ) (p : ℕ) : Type 0 where
  pub some : 1 ≤ p
  pub same : (i : ℕ) → f (i + p) ≡ f i
