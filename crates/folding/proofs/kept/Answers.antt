-- `folding::kept` keeps the rows that are needed: the candidates and the table are made, repeats go, and each row is tried. The loop's invariant is that of
-- `Keeping`, whatever the rows are. Assumes nothing.
use mathlib.Core.Path.{◌≡◌, refl, sym, subst}
use mathlib.Core.Logic.{⊎_elim}
use Prim.Native.Nat.{ℕ, ◌+◌, ◌-◌, ◌^◌, ◌≤◌, ◌<◌}
use native.Mathlib.Omega.{arith}
use lib.ListN.{length}
use borrow.Author.Rules.{rules}
use Rattle.lists.proofs.Loops.{mapped-length}
use Rattle.query.specs.Types.{Query, Tableau}
use Rattle.query.specs.View.{as_query}
use Rattle.query.proofs.Good.{good-query}
use Rattle.query.proofs.Shape.{SizedFor}
use Rattle.candidates.specs.internal.Candidates.{Laid, Marks, Repeats}
use Rattle.mapping.proofs.Results.{line_code}
use Rattle.folding.proofs.Theory.{Made, make, Trying, trying-start, trying-next, trying-end}
use Rattle.folding.specs.internal.Kept.{Readable}
use Rattle.folding.proofs.kept.Goals as goal
use Rattle.folding.proofs.kept.Goals.{After-codes_of-to, After-table}

-- The lengths of arrays are the types'
to-long : (c : After-codes_of-to) → length c.codes_of-to.result ≡ 200
to-long c = search rules

few : (q : Query) → Readable q → q.size ≤ 12
few q good = (good-query 12 good.0 q good.2).size

laid : (c : After-codes_of-to) → Laid c.codes_of-from.result c.codes_of-to.result c.args.q.size c.args.q.size
laid c =
    let small : c.args.q.size ≤ 12 = few c.args.q c.requires in
    record { source-length = search rules; target-length = to-long c; few-rows = small; few-images = search rules }

made : (c : After-table) → Made c.args.q c.codes_of-from.result c.codes_of-to.result c.domains-domain.result c.table.new.table
made c =
    let q = c.args.q in
    let t = c.from_query-target in
    let sizes : SizedFor 12 q =
    record { head = search (mapped-length, rules); relations = search (mapped-length, rules); cells = search (mapped-length, rules) }
    in
    make q t.result t.ensures sizes (few q c.requires) c.codes_of-from.result c.codes_of-to.result c.domains-domain.result c.table.new.table
    (line_code 12 q c.flat-line.result c.codes_of-from.result c.flat-line.ensures c.codes_of-from.ensures)
    (line_code 24 (as_query t.result) c.flat-cells.result c.codes_of-to.result c.flat-cells.ensures c.codes_of-to.ensures)
    c.domains-domain.ensures c.table.ensures

pub domains-domain-requires : goal.domains-domain-requires
domains-domain-requires c = laid (goal.at.domains-domain-requires c).After-codes_of-to

pub table-requires : goal.table-requires
table-requires c = laid (goal.at.table-requires c).After-codes_of-to

pub all_links-links-requires : goal.all_links-links-requires
all_links-links-requires c = let small : c.args.q.size ≤ 12 = few c.args.q c.requires in search rules

pub distinct-requires : goal.distinct-requires
distinct-requires c =
    let small : c.args.q.size ≤ 12 = few c.args.q c.requires in
    (to-long (goal.at.distinct-requires c).After-codes_of-to, search rules)

pub consistent-open-requires : goal.consistent-open-requires
consistent-open-requires c = let small : c.args.q.size ≤ 12 = few c.args.q c.requires in search rules

pub originals-requires : goal.originals-requires
originals-requires c = few c.args.q c.requires

pub tried-state-requires : goal.tried-state-requires
tried-state-requires c = (few c.args.q c.requires, search rules, c.loop-i.invariant.1)

pub loop-i-init : goal.loop-i-init
loop-i-init c = (
  search rules,
  c.distinct.ensures.0,
  trying-start c.consistent-open.result c.table.new.table c.args.q.size c.distinct.result,
)

pub loop-i-preserved : goal.loop-i-preserved
loop-i-preserved c =
    let l = c.loop-i in
    let i = l.i - 1 in
    let more : 0 < l.i = c.loop-i-test.true in
    let inside : l.i ≤ c.args.q.size = l.invariant.0 in
    let next : l.i ≡ i + 1 = omega arith in (
      search rules,
      ⊎_elim (λ w. subst (λ (m : ℕ). m < 2 ^ c.args.q.size) (sym w.0) l.invariant.1) (λ w. w.0.0) c.tried-state.ensures,
      trying-next c.consistent-open.result c.table.new.table c.args.q.size c.distinct.result l.state.left i c.tried-state.result.left (omega arith)
          (subst (Trying c.consistent-open.result c.table.new.table c.args.q.size c.distinct.result l.state.left) next l.invariant.2) c.tried-state.ensures,
    )

pub returns-clause-value : goal.returns-clause-value
returns-clause-value c schema narrow good =
    let l = c.loop-i in
    let t = c.from_query-target in
    let none : l.i ≡ 0 = let z : l.i ≤ 0 = c.loop-i-test.false in omega arith in
    trying-end c.consistent-open.result c.table.new.table c.args.q.size c.distinct.result l.state.left
    (subst (Trying c.consistent-open.result c.table.new.table c.args.q.size c.distinct.result l.state.left) none l.invariant.2)
    c.args.q c.codes_of-from.result c.codes_of-to.result c.domains-domain.result (made (goal.at.returns-clause-value c).After-table) c.consistent-open.ensures refl
    (subst (λ (t : Tableau). Marks c.args.q.size c.distinct.result (λ d. Repeats c.codes_of-to.result t.relations d → ⊥)) t.ensures c.distinct.ensures)
    schema narrow good

pub returns-clause-in_bounds : goal.returns-clause-in_bounds
returns-clause-in_bounds c = c.loop-i.invariant.1
