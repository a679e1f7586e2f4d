-- `join_search::extend` meets its contract. It recurs over the sets; the measure is the number of sets left. The loop's invariant: what is found is what is found
-- from row i on, and nothing is found with the rows before it. Assumes nothing.
use borrow.Author.Rules.{rules}
use mathlib.Core.Path.{◌≡◌, sym, ◌∙◌, ap}
use mathlib.Core.Logic.{⊎_elim}
use mathlib.Core.Option.{Option, none}
use Prim.Native.Nat.{ℕ, ◌+◌, ◌<◌}
use native.Mathlib.Omega.{arith}
use lib.ListN.{length, take, drop, get_or}
use Rattle.lists.proofs.Tests.{below-or-past}
use Rattle.lists.proofs.Loops.{mapped-length}
use Rattle.join_search.specs.internal.Search.{found_of}
use Rattle.join_search.proofs.Search.{find_with, dead_end, not_first, extend-last, extend-start, find-goes, find-goes-not, spare-at}
use Rattle.join_search.proofs.Turns.{first_next, first-found, first-end}
use Rattle.join_search.proofs.+extend.Goals as goal
use Rattle.join_search.proofs.+extend.Goals.{then-tried-k+then-goes+in_default, then-tried-k+else-goes, else-tried-k}

-- Nothing is found for the numbers before i, nor for i
none_more : {A : Type 0} (find : ℕ → Option A) (i : ℕ) → ((e : ℕ) → e < i → find e ≡ none) → find i ≡ none → (e : ℕ) → e < i + 1 → find e ≡ none
none_more find i before here e less =
    ⊎_elim (before e) (λ past. let same : e ≡ i = omega arith in ap find same ∙ here) (below-or-past e i)

pub returns-then-some_goes : goal.returns-then-some_goes
returns-then-some_goes t c =
    let a = c.args in
    rw c.if-some_goes.true at (extend-last a.codes.now a.relations.now a.size a.j.relation a.j.count a.k a.j.sets a.chosen c.some_goes.result
    (omega (arith, c.if-k-count.true)) c.some_goes.ensures)

pub returns-else-some_goes : goal.returns-else-some_goes
returns-else-some_goes t c =
    let a = c.args in
    rw c.if-some_goes.false at (extend-last a.codes.now a.relations.now a.size a.j.relation a.j.count a.k a.j.sets a.chosen c.some_goes.result
    (omega (arith, c.if-k-count.true)) c.some_goes.ensures)

pub loop-i-init : goal.loop-i-init
loop-i-init t c =
    let a = c.args in
    let p = c.requires in
    let four : length a.j.sets ≡ 4 = search (mapped-length, rules) in (
      search rules,
      four,
      extend-start a.codes.now a.relations.now a.size a.j.relation a.j.count a.k a.j.sets a.chosen
          (omega (arith, c.if-k-count.false, p.sets-left)) (omega (arith, four, p.count_fits)),
      λ e less. absurd (omega arith),
    )

pub returns-in-Some : goal.returns-in-Some
returns-in-Some t c =
    let a = c.args in
    let l = c.loop-i in
    let p = c.requires in
    let there = ap found_of c.in-Some.is in
    let less : a.k < a.j.count = omega (arith, c.if-k-count.false, p.sets-left) in
    let found = find-goes a.codes.now a.relations.now a.size a.j.relation (get_or a.j.sets a.k 0)
    (drop (a.k + 1) (take a.j.count a.j.sets)) a.chosen c.choose-next.result l.i c.goes.result c.extend-missing.result
    (sym (spare-at a.codes.now a.relations.now a.j a.tried.now p.spare a.k l.i (omega (arith, less, p.count_fits))
    (omega (arith, c.loop-i-test.true, p.size_fits))) ∙ c.if-tried-k.true)
    c.goes.ensures c.if-goes.true c.choose-next.ensures c.extend-missing.ensures in
    sym (first-found (find_with a.codes.now a.relations.now a.size a.j.relation (get_or a.j.sets a.k 0)
    (drop (a.k + 1) (take a.j.count a.j.sets)) a.chosen) a.size l.i c.loop-i-test.true c.in-Some.row
    (found ∙ there))
    ∙ sym l.invariant.2

pub loop-i-preserved : goal.loop-i-preserved
loop-i-preserved t c =
    let a = c.args in
    let l = c.loop-i in
    let p = c.requires in
    let low = c.loop-i-test.true in
    let less : a.k < a.j.count = omega (arith, c.if-k-count.false, p.sets-left) in
    let set = get_or a.j.sets a.k 0 in
    let rest = drop (a.k + 1) (take a.j.count a.j.sets) in
    let find = find_with a.codes.now a.relations.now a.size a.j.relation set rest a.chosen in
    let first = spare-at a.codes.now a.relations.now a.j a.tried.now p.spare a.k l.i (omega (arith, less, p.count_fits))
    (omega (arith, low, p.size_fits)) in
    let nothing : find l.i ≡ none =
    elim c.if-tried-k.branch [
      | then-tried-k+then-goes+in_default w ↦
          find-goes a.codes.now a.relations.now a.size a.j.relation set rest a.chosen w.choose-next.result l.i w.goes.result w.extend-missing.result
          (sym first ∙ w.if-tried-k.true) w.goes.ensures w.if-goes.true w.choose-next.ensures w.extend-missing.ensures
          ∙ ap found_of w.in_default.is
      | then-tried-k+else-goes w ↦
          find-goes-not a.codes.now a.relations.now a.size a.j.relation set rest a.chosen l.i w.goes.result w.goes.ensures w.if-goes.false
      | else-tried-k w ↦
          not_first a.codes.now a.relations.now a.size a.j.relation set rest a.chosen l.i (sym first ∙ w.if-tried-k.false) l.invariant.3
    ] in (
      search rules,
      l.invariant.1,
      l.invariant.2 ∙ first_next find a.size l.i low nothing,
      none_more find l.i l.invariant.3 nothing,
    )

pub returns-after-loop-i : goal.returns-after-loop-i
returns-after-loop-i t c =
    let a = c.args in
    let l = c.loop-i in
    sym (l.invariant.2 ∙ first-end (find_with a.codes.now a.relations.now a.size a.j.relation (get_or a.j.sets a.k 0)
    (drop (a.k + 1) (take a.j.count a.j.sets)) a.chosen) a.size l.i c.loop-i-test.false)

pub returns-else-all_go : goal.returns-else-all_go
returns-else-all_go t c =
    let a = c.args in
    sym (dead_end a.codes.now a.relations.now a.size a.j.relation (drop a.k (take a.j.count a.j.sets)) a.chosen
    (sym c.all_go.ensures ∙ c.if-all_go.false))
