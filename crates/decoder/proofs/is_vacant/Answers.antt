-- `is_vacant` meets its contract: a part is [255] exactly when it is a single byte, 255. Assumes nothing.
use mathlib.Core.Path.{◌≡◌, refl, ap, ◌∙◌}
use mathlib.Core.Bool.{and-true, and-false}
use mathlib.Core.List.{List, [], ◌∷◌}
use Prim.Native.Nat.{ℕ}
use lib.Dec.{eqb}
use lib.Pointwise.{pointwise}
use Rattle.format.specs.File.{is_vacant}
use Rattle.decoder.proofs.is_vacant.Goals as goal

same : (part : List ℕ) → pointwise eqb part (255 ∷ []) ≡ is_vacant part
unfolding is_vacant
same [] = refl
same (b ∷ []) = and-true (eqb b 255)
same (b ∷ d ∷ part) = and-false (eqb b 255)

pub returns : goal.returns
returns c = c.eq.ensures ∙ ap (pointwise eqb c.args.part.now) c.as_slice.ensures ∙ same c.args.part.now
