-- A place without a port.
use Rattle.std.proofs.Common.{◌≡◌, Option, None, Some, is_some, false, refl}
use Rattle.std.proofs.lemmas.Bool.{true≢false}

pub is_empty : {X : Type 0} (o : Option X) → is_some o ≡ false → o ≡ None
is_empty None e = refl
is_empty (Some x) e = absurd (true≢false e)
