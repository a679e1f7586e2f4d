-- `first_step::find_step` meets its contract. The invariant of each loop: what the whole search finds is what is found from this position on (`Search`). The
-- labelled loop goes round once, so it has nothing to keep. Assumes nothing.
use mathlib.Core.Path.{refl, sym, ◌∙◌, ap}
use mathlib.Core.List.{map}
use Prim.Native.Nat.{◌<◌}
use lib.ListN.{get_or}
use mathlib.Core.Logic.{⊎_elim}
use borrow.Author.Rules.{rules}
use Rattle.first_step.proofs.Search.{dependency-next, dependency-last, row_next, row_last, pair-next}
use Rattle.first_step.proofs.Search.{rows_only, rows-only, row-skip, pair-last, nothing-found, pair_found}
use Rattle.lists.proofs.Tests.{and_both}
use Rattle.first_step.proofs.Columns.{good-read}
use Rattle.query.specs.Rule.{no_dependency}
use Rattle.query.specs.View.{as_query, dependency_of}
use Rattle.first_step.specs.internal.Wide.{first_differing}
use Rattle.first_step.proofs.find_step.Goals as goal

pub loop-i-init : goal.loop-i-init
loop-i-init c =
    let a = c.args in
    let l = c.loop-d in
    (search rules, l.invariant.1 ∙ dependency-next (rows_only a.t.size a.t.relations a.t.cells) a.dependencies.now l.d-index (search rules))

pub loop-j-init : goal.loop-j-init
loop-j-init c =
    let a = c.args in
    let d = c.loop-d.d-index in
    let l = c.loop-i in
    (search rules, search rules, l.invariant.1 ∙ row_next (rows_only a.t.size a.t.relations a.t.cells) a.dependencies.now d l.i (search rules))

pub loop-j-preserved : goal.loop-j-preserved
loop-j-preserved c =
    let a =
    c.args
    in
    let d = c.loop-d.d-index in
    let i = c.loop-i.i in
    let l = c.loop-j in (
      search rules,
      search rules,
      l.invariant.2
          ∙ pair-next (rows_only a.t.size a.t.relations a.t.cells) a.dependencies.now d i l.j (search rules)
          (sym
          (c.breaks.ensures a.t.cells c.requires.cells-good c.codes_of-codes.ensures)
          ∙ c.if-breaks.false),
    )

pub loop-i-preserved : goal.loop-i-preserved
loop-i-preserved c =
    let a = c.args in
    let d = c.loop-d.d-index in
    let l = c.loop-i in (
      search rules,
      ⊎_elim (λ w. w.loop-j.invariant.2 ∙ pair-last (rows_only a.t.size a.t.relations a.t.cells) a.dependencies.now d l.i w.loop-j.j w.loop-j-test.false) (λ w. l.invariant.1 ∙ row-skip (rows_only a.t.size a.t.relations a.t.cells) a.dependencies.now d l.i (search rules) w.if-t-i.false) c.if-t-i.branch-raw,
    )

pub loop-d-preserved : goal.loop-d-preserved
loop-d-preserved c =
    let a = c.args in
    let d = c.loop-d.d-index in
    let l = c.loop-i in
    (search rules, l.invariant.1 ∙ row_last (rows_only a.t.size a.t.relations a.t.cells) a.dependencies.now d l.i (search rules))

pub returns-then-breaks : goal.returns-then-breaks
returns-then-breaks c =
    let a = c.args in
    let d = c.loop-d.d-index in
    let l = c.loop-j in
    let fits : (get_or a.dependencies.now d no_dependency).right < 8 = c.requires.right-fits d (search rules) in (
      pair_found (rows_only a.t.size a.t.relations a.t.cells) a.dependencies.now d c.loop-i.i l.j _ _ (search rules) fits
          (sym c.if-breaks.true ∙ c.breaks.ensures a.t.cells c.requires.cells-good c.codes_of-codes.ensures) refl refl l.invariant.2
          ∙ ap (first_differing (map dependency_of a.dependencies.now)) (rows-only (as_query a.t) 0 a.t.size),
      and_both _ _ (good-read _ _ _ refl c.requires.cells-good) (good-read _ _ _ refl c.requires.cells-good),
    )

pub returns-after-loop-d : goal.returns-after-loop-d
returns-after-loop-d c =
    let a = c.args in
    let l = c.loop-d in (
      nothing-found (rows_only a.t.size a.t.relations a.t.cells) a.dependencies.now
          (l.invariant.1 ∙ dependency-last (rows_only a.t.size a.t.relations a.t.cells) a.dependencies.now l.d-index (search rules))
          ∙ ap (first_differing (map dependency_of a.dependencies.now)) (rows-only (as_query a.t) 0 a.t.size),
      refl,
    )
