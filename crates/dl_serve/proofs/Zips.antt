-- Two lists that grow together.
use Rattle.std.proofs.Common.{List, [], ◌∷◌, ◌++◌}
use Rattle.std.specs.List.{AllZip}

pub AllZip-snoc : {A B : Type 0} (R : A → B → Type 0) (xs : List A) (ys : List B) (x : A) (y : B) → AllZip R xs ys → R x y → AllZip R (xs ++ x ∷ []) (ys ++ y ∷ [])
AllZip-snoc R [] [] x y z r = (r, tt)
AllZip-snoc R [] (b ∷ ys) x y z r = absurd z
AllZip-snoc R (a ∷ xs) [] x y z r = absurd z
AllZip-snoc R (a ∷ xs) (b ∷ ys) x y z r = (z.0, AllZip-snoc R xs ys x y z.1 r)
