-- `enter` goes from row to row before. Invariant: the rows from the one at `at` on are in the table. Assumes nothing.
use mathlib.Core.Path.{◌≡◌, refl, sym}
use Prim.Native.Nat.{◌+◌, ◌*◌, ◌-◌, ◌≤◌, ◌<◌}
use native.Mathlib.Omega.{arith}
use lib.ListN.{length, get_or}
use Rattle.join_tables.specs.internal.Filling.{Beside, Roomy}
use Rattle.join_tables.proofs.Entering.{beside-then, table_beside}
use Rattle.join_tables.proofs.Filling.{roomy-beside, entered-none, entered-inside, entered_all, entered-begins, entered-less, entered-next}
use Rattle.join_tables.proofs.enter.Goals as goal
use Rattle.codes.specs.internal.Codes.{codes_in}
use Rattle.join_tables.proofs.enter.Goals.{At-loop-at, In-loop-at}

-- The clearing changes nothing but the table, nor does what is entered
beside-all : (c : At-loop-at)
    → Beside c.args.t c.args.heads.now c.args.nodes.now c.loop-at.heads c.loop-at.nodes
beside-all c =
    let cleared : Beside c.args.t c.args.heads.now c.args.nodes.now c.clear.new.heads c.args.nodes.now =
    record {
      heads-size = c.clear.ensures.heads_len_unchanged;
      nodes-size = refl;
      heads-kept = c.clear.ensures.by_index_2;
      nodes-kept = λ n u low other. refl;
    } in
    beside-then c.args.t cleared c.loop-at.invariant.kept

roomy : (c : At-loop-at) → Roomy c.args.words.now c.args.x c.loop-at.heads c.loop-at.nodes
roomy c = let s = c in roomy-beside s.args.words.now s.args.x (beside-all c) s.requires.roomy.0

inside : (c : At-loop-at) → c.loop-at.at ≤ length c.args.words.now
inside c = let s = c in
    let a = s.args in
    let l = c.loop-at in
    entered-inside (codes_in a.codes.now) a.schema.now a.words.now s.requires.words_value.0 a.x a.t a.columns a.set c.clear.new.heads a.nodes.now
    l.heads l.nodes l.at l.invariant

-- The row before begins before
less : (c : In-loop-at) → get_or c.loop-at.nodes (6 * (c.loop-at.at - 1)) 0 < c.loop-at.at
less c = let l = c.loop-at in
    let d = c in
    let s = d in
    let a = s.args in
    entered-less (codes_in a.codes.now) a.schema.now a.words.now s.requires.words_value.0 a.x a.t a.columns a.set d.clear.new.heads a.nodes.now
    l.heads l.nodes l.at l.invariant s.requires.words_value.2 s.requires.roomy.1 c.loop-at-test.true

-- The link is in the slice
room : (c : At-loop-at) → (c.loop-at.at ≡ 0 → ⊥) → 6 * (c.loop-at.at - 1) + 6 ≤ length c.loop-at.nodes
room c some = omega (arith, (roomy c).nodes-room, inside c)

pub loop-at-init : goal.loop-at-init
loop-at-init c = let d = c in
    let s = d in
    let a = s.args in
    entered-none (codes_in a.codes.now) a.schema.now a.words.now s.requires.words_value.0 a.x a.t a.columns a.set d.clear.new.heads a.nodes.now
    d.clear.ensures.by_index

pub overflow_mul-at : goal.overflow_mul-at
overflow_mul-at c = let p = (goal.at.overflow_mul-at c).At-loop-at in
    omega (arith, inside p, (roomy p).short)

pub offset_bounds-nodes-at : goal.offset_bounds-nodes-at
offset_bounds-nodes-at c = let p = (goal.at.offset_bounds-nodes-at c).At-loop-at in
    omega (arith, inside p, (roomy p).short)

pub bounds-nodes-at : goal.bounds-nodes-at
bounds-nodes-at c = omega (arith, room (goal.at.bounds-nodes-at c).At-loop-at c.loop-at-test.true)

pub enter_row-requires : goal.enter_row-requires
enter_row-requires c = let p = (goal.at.enter_row-requires c).At-loop-at in
    let l = c.loop-at in
    let a = c.args in
    record {
      words_value = c.requires.words_value;
      roomy = roomy p;
      by_index = (
        l.invariant.row - 1,
        entered-begins (codes_in a.codes.now) a.schema.now a.words.now c.requires.words_value.0 a.x a.t a.columns a.set c.clear.new.heads a.nodes.now
            l.heads l.nodes l.at l.invariant c.requires.words_value.2 c.requires.roomy.1 c.loop-at-test.true,
      );
      table = λ other. table_beside (beside-all p) 0 a.set 0 0 (omega arith) (λ same. other (sym same)) (c.requires.table other);
    }

pub loop-at-smaller : goal.loop-at-smaller
loop-at-smaller c = less (goal.at.loop-at-smaller c).In-loop-at

pub loop-at-preserved : goal.loop-at-preserved
loop-at-preserved c = let u = c in
    let i = u in
    let l = i.loop-at in
    let d = i in
    let s = d in
    let a = s.args in
    entered-next (codes_in a.codes.now) a.schema.now a.words.now s.requires.words_value.0 a.x a.t a.columns a.set d.clear.new.heads a.nodes.now
    l.heads l.nodes l.at l.invariant s.requires.words_value.2 s.requires.roomy.1 i.loop-at-test.true
    u.enter_row.new.heads u.enter_row.new.nodes u.enter_row.ensures.beside u.enter_row.ensures.by_index_2

pub returns : goal.returns
returns c = let l = c.loop-at in
    let d = c in
    let s = d in
    let a = s.args in
    record {
      beside = beside-all (goal.at.returns c).At-loop-at;
      table_2 = entered_all (codes_in a.codes.now) a.schema.now a.words.now s.requires.words_value.0 a.x a.t a.columns a.set d.clear.new.heads a.nodes.now
          l.heads l.nodes l.at l.invariant c.loop-at-test.false;
    }
