-- `enter_set` makes table 0 by the columns of the set, and with it the table of the set. Assumes nothing.
use Prim.Native.Nat.{◌+◌}
use native.Mathlib.Omega.{arith}
use Rattle.join_tables.specs.internal.Filling.{Roomy, Threaded}
use Rattle.join_tables.proofs.Entering.{table_beside, thread-beside}
use Rattle.join_tables.proofs.Filling.{roomy-beside}
use Rattle.join_tables.proofs.enter_set.Goals as goal
use Rattle.join_tables.proofs.enter_set.Goals.{After-enter}

-- There is still room, and the links to rows before are there
roomy : (c : After-enter) → Roomy c.args.words.now c.args.x c.enter.new.heads c.enter.new.nodes
roomy c = let s = c in roomy-beside s.args.words.now s.args.x c.enter.ensures.beside s.requires.roomy.0

threaded : (c : After-enter) → Threaded c.args.schema.now c.args.words.now c.enter.new.nodes
threaded c = thread-beside c.enter.ensures.beside (omega arith) c.requires.roomy.1

pub enter-requires-2 : goal.enter-requires-2
enter-requires-2 c = let d = c in
    let s = d in
    record {
      words_value = (s.requires.words_value.0, s.requires.words_value.1, omega (arith, s.requires.words_value.2));
      roomy = (roomy (goal.at.enter-requires-2 c).After-enter, threaded (goal.at.enter-requires-2 c).After-enter);
      table = λ some. d.enter.ensures.table_2;
    }

pub returns : goal.returns
returns c = let u = c in
    let d = (goal.at.returns c).After-enter in
    let s = u in
    record {
      threaded = thread-beside u.enter-2.ensures.beside (omega (arith, s.requires.words_value.2)) (threaded d);
      roomy_2 = roomy-beside s.args.words.now s.args.x u.enter-2.ensures.beside (roomy d);
      table = u.enter-2.ensures.table_2;
      by_index =
          λ l columns mask low other table.
          table_beside u.enter-2.ensures.beside (l + 1) columns mask 0 (omega arith) (λ same. other (omega arith))
          (table_beside u.enter.ensures.beside (l + 1) columns mask 0 (omega arith) (λ same. omega arith) table);
    }
