-- An object's tokens, one after the other.
use Rattle.std.proofs.Common.{◌≡◌, List, [], ◌∷◌, ◌++◌, ap, ◌∙◌}

-- one more than those that are known, which is known itself
pub grown : {X : Type 0} (old known new : List X) (x y : X) → old ≡ known → new ≡ old ++ x ∷ [] → x ≡ y → new ≡ known ++ y ∷ []
grown old known new x y is more same = more ∙ ap (λ l. l ++ x ∷ []) is ∙ ap (λ z. known ++ z ∷ []) same
