-- `chase::chase` meets its contract. The loop's invariant is `Under`: the chase of the query so far gives the whole chase, `count` replacements later. The
-- measure is the number of replacements that are left. Assumes nothing.
use mathlib.Core.Path.{◌≡◌, sym, ◌∙◌, ap}
use mathlib.Core.List.{List, map}
use Prim.Native.Nat.{suc}
use native.Mathlib.Omega.{arith}
use borrow.Author.Rules.{rules}
use lib.ListN.{length}
use Rattle.first_step.specs.internal.Wide.{wide_query}
use Rattle.query.specs.View.{as_query, dependency_of}
use Rattle.lists.proofs.Loops.{mapped-length}
use Rattle.chase.proofs.Rounds.{under-start, under-replace, replaced-count, under-count, under_rest, under-clash}
use Rattle.query.specs.Types.{Query}
use Rattle.theory.specs.Database.{Dependency}
use Rattle.theory.specs.Chase as chasing
use Rattle.chase.proofs.chase.Goals as goal

pub loop-a-init : goal.loop-a-init
loop-a-init c =
    let room : length c.args.t.relations ≡ 24 = search (mapped-length, rules) in
    let eight : length c.args.t.head ≡ 8 = search (mapped-length, rules) in
    (room, eight, under-start _ _ c.requires.cells-good c.requires.rest-blank)

pub returns : goal.returns
returns c =
    let s = c in
    let a = s.args in
    let l = c.loop-a in
    let room = l.invariant.0 in
    λ schema good widths.
    under_rest
    a.dependencies.now
    a.t
    l.query
    l.count
    l.invariant.2
    (omega (arith, s.requires.size_fits))
    schema
    good
    widths
    (rw c.in_default.is at c.find_step.ensures.0)

pub returns-in_default-resolve : goal.returns-in_default-resolve
returns-in_default-resolve c =
    let s = c in
    let a = s.args in
    let l = c.loop-a in
    let room = l.invariant.0 in
    let eight = l.invariant.1 in
    λ schema good widths.
    rw
    c.never.ensures
    (under-clash
    a.dependencies.now
    a.t
    l.query
    l.count
    l.invariant.2
    (omega (arith, s.requires.size_fits))
    schema
    good
    widths
    c.in-Some.a
    c.in-Some.b
    s.requires.arity-fits
    (omega (arith, s.requires.arity-fits))
    (rw c.in-Some.is at c.find_step.ensures.0)
    (rw c.in_default-resolve.is at c.resolve.ensures))

-- The dependencies and the query before a replacement
abbrev held_at : goal.After-replace-query → List Dependency
held_at c = let a = c.args in map dependency_of a.dependencies.now

abbrev query_at : goal.After-replace-query → Query
query_at c = as_query c.loop-a.query

-- After it one replacement fewer is left
fewer : (c : goal.After-replace-query)
    → (chasing.chase (held_at c) (wide_query (query_at c))).count ≡ suc (chasing.chase (held_at c) (wide_query (as_query c.replace-query.result))).count
fewer c =
    replaced-count
    (as_query c.args.t)
    (held_at c)
    (query_at c)
    c.in-Some.a
    c.in-Some.b
    c.in-Some-resolve.replacement.variable
    c.in-Some-resolve.replacement.entry
    (rw c.in-Some.is at c.find_step.ensures.0)
    (rw c.in-Some-resolve.is at c.resolve.ensures)
    ∙ ap (λ (x : Query). suc (chasing.chase (held_at c) (wide_query x)).count) (sym c.replace-query.ensures)

pub overflow_add-count : goal.overflow_add-count
overflow_add-count c =
    let s = c in
    let l = c.loop-a in
    let bound = under-count (as_query s.args.t) (held_at c) (query_at c) l.count l.invariant.2 s.requires.arity-fits s.requires.size_fits in
    record { fits = omega (arith, fewer c, bound) }

pub loop-a-smaller : goal.loop-a-smaller
loop-a-smaller c = omega (arith, fewer c)

pub loop-a-preserved : goal.loop-a-preserved
loop-a-preserved c =
    let s = c in
    let l = c.loop-a in
    let room = l.invariant.0 in
    let next = under-replace
    (as_query s.args.t)
    (held_at c)
    (query_at c)
    c.in-Some.a
    c.in-Some.b
    c.in-Some-resolve.replacement.variable
    c.in-Some-resolve.replacement.entry
    (rw c.in-Some.is at c.find_step.ensures.0)
    (rw c.in-Some-resolve.is at c.resolve.ensures)
    l.count
    l.invariant.2
    (rw c.in-Some.is at c.find_step.ensures.1) in
    (room, l.invariant.1, rw c.replace-query.ensures next)
