-- The bytes of a write as the code's buffer holds them.
use Rattle.std.specs.Prelude.{ℕ, List}

-- the bytes, and for how many of them memory is held
pub record HeldBytes : Type 0 where
  pub bytes : List ℕ
  pub held : ℕ
