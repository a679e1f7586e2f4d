-- Images in an array and in a list of the theory are the same assignment, so what tells the mappings is the theory's test.
-- Assumes nothing.
use mathlib.Core.Path.{◌≡◌, subst, fun_ext}
use mathlib.Core.Bool.{Bool}
use mathlib.Core.List.{List}
use Prim.Native.Nat.{ℕ}
use lib.ListN.{get_or-map}
use Rattle.theory.specs.Query as theory
use Rattle.theory.specs.Answer.{IsMapping}
use Rattle.minimization.specs.Checking.{image_at, maps_to}
use Rattle.minimization.proofs.Checking.{maps-to-exact}
use Rattle.query.specs.declared.Cell.{Cell}
use Rattle.query.specs.View.{entry_of, entries_of, images_of}
use Rattle.query.specs.Rule.{no_cell}
use Rattle.lists.specs.internal.Tells.{Tells}
use Rattle.lists.proofs.Positions.{tells-same}

pub images-same : (images : List Cell) → image_at (entries_of images) ≡ images_of images
images-same images = fun_ext (λ v. get_or-map (λ (c : Cell). entry_of c.entry) images v no_cell)

-- The test tells the mappings
pub test-tells : (S T : theory.Query) (images : List Cell) → Tells (maps_to S T (entries_of images)) (IsMapping S T (images_of images))
test-tells S T images =
    subst (λ (f : ℕ → theory.Entry). Tells (maps_to S T (entries_of images)) (IsMapping S T f)) (images-same images) (
      (maps-to-exact S T (entries_of images)).0,
      (maps-to-exact S T (entries_of images)).1,
    )

-- and what tells them is the test
pub tells-test : (S T : theory.Query) (images : List Cell) (r : Bool) → Tells r (IsMapping S T (images_of images)) → r ≡ maps_to S T (entries_of images)
tells-test S T images r tells = tells-same r (maps_to S T (entries_of images)) tells (test-tells S T images)
