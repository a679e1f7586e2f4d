-- `fill` makes the table of set after set, and last table 0 by all their columns. Invariant: the first k sets have their tables. Assumes nothing.
use mathlib.Core.Path.{refl, ◌∙◌, ◌≡◌}
use native.Mathlib.Omega.{arith}
use lib.ListN.{length, take, get_or}
use lib.Seq.{get_or-take, length-take-le}
use borrow.Author.Rules.{rules}
use Rattle.join_tables.proofs.Filling.{levelled-none, levelled-next, levelled-all}
use Rattle.codes.specs.internal.Codes.{codes_in}
use Rattle.join_tables.proofs.fill.Goals as goal

pub loop-k-init : goal.loop-k-init
loop-k-init c = let d = c in
    let s = d in
    let a = s.args in
    let r = s.requires.roomy in (
      levelled-none (codes_in a.codes.now) a.schema.now a.words.now a.j a.x a.heads.now d.thread.new.nodes d.thread.ensures.threaded
          (record { some = r.some; heads-room = r.heads-room; nodes-room = omega (arith, r.nodes-room, d.thread.ensures.nodes_len_unchanged); short = r.short }),
      refl,
      refl,
    )

pub loop-k-preserved : goal.loop-k-preserved
loop-k-preserved c = let u = c in
    let i = u in
    let l = i.loop-k in
    let s = i in
    let a = s.args in
    let at : get_or (take a.j.count a.j.sets) l.k 0 ≡ get_or a.j.sets l.k 0 = get_or-take a.j.count a.j.sets l.k 0 (omega arith) in
    let e = u.enter_set.ensures in (
      rw at (levelled-next (codes_in a.codes.now) a.schema.now a.words.now a.j a.x l.heads l.nodes l.filled l.k l.invariant.0
          (omega arith) s.requires.searchable.0.few
          u.enter_set.new.heads u.enter_set.new.nodes e.threaded e.roomy_2 (rw at at e.table) e.by_index),
      u.enter_set.auto.heads ∙ l.invariant.1,
      u.enter_set.auto.nodes ∙ l.invariant.2,
    )

pub returns : goal.returns
returns c = let u = c in
    let e = u in
    let l = e.loop-k in
    let s = e in
    let a = s.args in
    let sets : length a.j.sets ≡ 4 = search (rules, c.well_formed) in
    levelled-all (codes_in a.codes.now) a.schema.now a.words.now a.j a.x l.heads l.nodes l.filled l.k l.invariant.0
    (omega (arith, length-take-le a.j.count a.j.sets (omega (arith, s.requires.searchable.0.few, sets)))) s.requires.searchable.0.few
    s.requires.searchable.1 s.requires.searchable.2 u.enter.new.heads u.enter.new.nodes u.enter.ensures.beside u.enter.ensures.table_2
