-- `check` tells whether images are a mapping: the head, each row, and constant 0 elsewhere.
-- Assumes nothing.
-- The lengths of the arrays are the types'
use borrow.Author.Rules.{rules}
use mathlib.Core.Path.{◌≡◌, sym, ◌∙◌, subst}
use mathlib.Core.Bool.{false≢true}
use Prim.Native.Nat.{◌<◌}
use lib.ListN.{length, length-take}
use native.Mathlib.Omega.{arith}
use Rattle.lists.proofs.Loops.{mapped-length}
use Rattle.query.proofs.Shape.{SizedFor}
use Rattle.mapping.specs.internal.Mapped.{Checks}
use Rattle.mapping.proofs.Results.{storable-size, check-fails, check-arity, check-size, check-tells, good-head, good-rows, good-rest, parts-good}
use Rattle.mapping.proofs.check.Goals as goal
use Rattle.mapping.proofs.check.Goals.{Start, then-source-target-via-then-source-target, then-source-target-via-else-source-target+then-size-eq0, then-carries, else-carries}

source-sizes : (c : Start) → SizedFor 12 c.args.source
source-sizes c = record { head = search (mapped-length, rules); relations = search (mapped-length, rules); cells = search (mapped-length, rules) }

target-sizes : (c : Start) → SizedFor 12 c.args.target
target-sizes c = record { head = search (mapped-length, rules); relations = search (mapped-length, rules); cells = search (mapped-length, rules) }

images-long : (c : Start) → length c.args.images ≡ 96
images-long c = search rules

pub returns-then-source-target : goal.returns-then-source-target
returns-then-source-target c =
    let at = goal.at.returns-then-source-target c in
    let source = c.args.source in
    let target = c.args.target in
    let sizes = source-sizes at.Start in
    let sizes' = target-sizes at.Start in
    elim c.then-source-target.branch [
      | then-source-target-via-then-source-target w ↦ check-arity source target c.args.images sizes sizes' w.if-source-target.true
      | then-source-target-via-else-source-target+then-size-eq0 w ↦ check-size source target c.args.images sizes sizes' w.if-size-eq0.true
    ]

pub shared_ref_as_front-all_land : goal.shared_ref_as_front-all_land
shared_ref_as_front-all_land c = storable-size c.args.source c.requires.0

pub shared_ref_as_front-all_land-then-carries : goal.shared_ref_as_front-all_land-then-carries
shared_ref_as_front-all_land-then-carries c = storable-size c.args.target c.requires.1

pub all_land-requires : goal.all_land-requires
all_land-requires c = (
  omega (arith, length-take c.args.source.size c.args.source.relations, storable-size c.args.source c.requires.0),
  omega (arith, length-take c.args.target.size c.args.target.relations, storable-size c.args.target c.requires.1),
)

pub returns-then-all_land : goal.returns-then-all_land
returns-then-all_land c =
    let at = goal.at.returns-then-all_land c in
    let source = c.args.source in
    let target = c.args.target in
    let sizes = source-sizes at.Start in
    let sizes' = target-sizes at.Start in
    let images = c.args.images in
    let few = storable-size source c.requires.0 in
    let few' = storable-size target c.requires.1 in
    let from = c.flat-from.result in
    let to = c.flat-to.result in
    let some : 0 < source.size = search rules in
    elim c.if-carries.branch [
      | then-carries w ↦
          check-tells source target images sizes sizes' c.rest_blank.result c.if-source-target.false (
            (λ e.
                parts-good source target images sizes sizes' few few' from to c.flat-from.ensures c.flat-to.ensures (images-long at.Start) some
                (c.carries.ensures.0 w.if-carries.true) (w.all_land.ensures.0 (sym w.value-is ∙ c.if-all_land.true)) (c.rest_blank.ensures.0 e)),
            (λ g. c.rest_blank.ensures.1 (good-rest source target images sizes sizes' few few' from to c.flat-from.ensures c.flat-to.ensures g)),
          )
      | else-carries w ↦ absurd (false≢true (sym w.if-carries.false ∙ sym w.value-is ∙ c.if-all_land.true))
    ]

pub returns-else-all_land : goal.returns-else-all_land
returns-else-all_land c =
    let at = goal.at.returns-else-all_land c in
    let source = c.args.source in
    let target = c.args.target in
    let sizes = source-sizes at.Start in
    let sizes' = target-sizes at.Start in
    let images = c.args.images in
    let few = storable-size source c.requires.0 in
    let few' = storable-size target c.requires.1 in
    let from = c.flat-from.result in
    let to = c.flat-to.result in
    subst (Checks source target images) (sym c.if-all_land.false)
    (check-fails source target images sizes sizes'
    (λ g.
    elim c.if-carries.branch [
      | then-carries w ↦
          false≢true
          (sym c.if-all_land.false ∙ w.value-is
          ∙ w.all_land.ensures.1 (good-rows source target images sizes sizes' few few' from to c.flat-from.ensures c.flat-to.ensures g))
      | else-carries w ↦
          false≢true
          (sym w.if-carries.false
          ∙ c.carries.ensures.1 (good-head source target images sizes sizes' few few' from to c.flat-from.ensures c.flat-to.ensures g))
    ]))
