-- `first_violation` is the first broken dependency with its first pair.
-- Assumes nothing.
use mathlib.Core.Path.{◌≡◌, refl, sym, ap, subst, ◌∙◌}
use mathlib.Core.List.{List, ◌∷◌, map}
use Prim.Native.Nat.{ℕ, ◌+◌, ◌<◌}
use native.Mathlib.Omega.{arith}
use lib.ListN.{length, drop, get_or, drop_of_length-le}
use Rattle.theory.specs.Database as database
use Rattle.query.specs.View.{dependency_of}
use Rattle.query.specs.declared.Dependency.{Dependency}
use Rattle.std.specs.Prelude.{Option, None}
use Rattle.codes.specs.internal.Codes.{codes_in}
use Rattle.words.specs.Words.{database_read}
use Rattle.words.specs.Testing.{first_pair_from, first_broken_from}
use Rattle.words.specs.internal.Found.{pair_of}
use Rattle.words.specs.Broken.{violation_of}
use Rattle.query.specs.Rule.{no_dependency}
use Rattle.words.proofs.Search.{violation-found, violation-later, violation-end}
use lib.Seq.{drop-cons}
use native.Mathlib.Numerals.{add-one}
use borrow.Author.Rules.{rules}
use Rattle.testing.specs.internal.Keyed.{Keyed}
use Rattle.testing.proofs.Superkeys.{key-none, keyed-none, keyed-more}
use Rattle.testing.proofs.first_violation.Goals as goal
use Rattle.testing.proofs.first_violation.Goals.{In-loop-k, in-Nothing, in-Distinct}

-- Those from dependency k on are dependency k and the later ones
drop-more : (ds : List Dependency) (k : ℕ) → k < length ds → drop k ds ≡ get_or ds k no_dependency ∷ drop (k + 1) ds
drop-more ds k h = rw add-one (drop-cons ds k no_dependency h)

-- The search from dependency k on, by dependency k and the later ones
onward : (c : In-loop-k)
    → first_broken_from 0 (map dependency_of c.args.dependencies.now)
    (database_read (codes_in c.args.codes.now) c.args.schema.now c.args.words.now)
    ≡ first_broken_from c.loop-k.k (dependency_of (get_or c.args.dependencies.now c.loop-k.k no_dependency)
    ∷ map dependency_of (drop (c.loop-k.k + 1) c.args.dependencies.now))
    (database_read (codes_in c.args.codes.now) c.args.schema.now c.args.words.now)
onward c =
    let l = c.loop-k in
    let a = c.args in
    l.invariant.0
    ∙ ap (λ (x : List database.Dependency). first_broken_from l.k x (database_read (codes_in a.codes.now) a.schema.now a.words.now))
    (ap (map dependency_of) (drop-more a.dependencies.now l.k c.loop-k-test.true))

pub loop-k-init : goal.loop-k-init
loop-k-init c = (refl, keyed-none (database_read (codes_in c.args.codes.now) c.args.schema.now c.args.words.now) 32, refl, refl)

pub loop-k-preserved-then-has_key : goal.loop-k-preserved-then-has_key
loop-k-preserved-then-has_key c =
    let i = (goal.at.loop-k-preserved-then-has_key c).In-loop-k in
    let l = i.loop-k in
    let a = i.args in
    let D = database_read (codes_in a.codes.now) a.schema.now a.words.now in
    let d = get_or a.dependencies.now l.k no_dependency in (
      onward i
          ∙ violation-later D (dependency_of d) (map dependency_of (drop (l.k + 1) a.dependencies.now)) l.k
          (sym (ap pair_of (key-none (dependency_of d) 0 D (c.has_key.ensures c.if-has_key.true D l.invariant.1)))),
      l.invariant.1,
      l.invariant.2,
      l.invariant.3,
    )

pub returns-in-Found : goal.returns-in-Found
returns-in-Found c =
    let i = (goal.at.returns-in-Found c).In-loop-k in
    let a = i.args in
    let k = i.loop-k.k in
    sym (ap violation_of (onward i)
    ∙ violation-found (database_read (codes_in a.codes.now) a.schema.now a.words.now) (dependency_of (get_or a.dependencies.now k no_dependency))
    (map dependency_of (drop (k + 1) a.dependencies.now)) k c.in-Found.first c.in-Found.second
    c.in-Found.ensures)

pub loop-k-preserved : goal.loop-k-preserved
loop-k-preserved c =
    let i = (goal.at.loop-k-preserved c).In-loop-k in
    let l = i.loop-k in
    let a = i.args in
    let D = database_read (codes_in a.codes.now) a.schema.now a.words.now in
    let d = get_or a.dependencies.now l.k no_dependency in
    let size : length l.keys ≡ 32 = search rules in
    let room : l.k < length l.keys = omega (arith, c.requires.held_bound, c.loop-k-test.true) in
    let both : (None ≡ pair_of (first_pair_from (dependency_of d) 0 D)) × Keyed D c.match-first_pair.keys =
    elim c.match-first_pair.branch [
      | in-Nothing w ↦ (w.in-Nothing.ensures, subst (λ (x : List (Option Dependency)). Keyed D x) (sym w.keys-is) l.invariant.1)
      | in-Distinct w ↦ (
        w.in-Distinct.ensures.0,
        subst (λ (x : List (Option Dependency)). Keyed D x) (sym w.keys-is) (keyed-more D l.keys l.k d room l.invariant.1 w.in-Distinct.ensures.1),
      )
    ] in (
      onward i ∙ violation-later D (dependency_of d) (map dependency_of (drop (l.k + 1) a.dependencies.now)) l.k both.0,
      both.1,
      c.first_pair.auto.nodes ∙ l.invariant.2,
      c.first_pair.auto.heads ∙ l.invariant.3,
    )

pub returns : goal.returns
returns c =
    let l = c.loop-k in
    let a = c.args in
    sym (ap violation_of (l.invariant.0
    ∙ ap (λ (x : List database.Dependency). first_broken_from l.k x (database_read (codes_in a.codes.now) a.schema.now a.words.now))
    (ap (map dependency_of) (drop_of_length-le a.dependencies.now {i = l.k} c.loop-k-test.false))
    ∙ violation-end (database_read (codes_in a.codes.now) a.schema.now a.words.now) l.k))
