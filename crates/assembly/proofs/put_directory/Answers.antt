use mathlib.Core.Path.{◌≡◌, refl}
use mathlib.Core.List.{List, [], ◌++◌, map}
use Prim.Native.Nat.{ℕ, ◌+◌, ◌*◌, ◌≤◌}
use native.Mathlib.Omega.{arith}
use lib.ListN.{length, length-map}
use Rattle.query.specs.declared.Place.{Place}
use Rattle.lists.specs.Over.{over}
use Rattle.format.specs.Bytes.{bytes_of}
use Rattle.format.specs.File.{table_of, put_place}
use Rattle.format.proofs.Directory.{length-table}
use Rattle.encoder.proofs.Stores.{Run, run-starts, run-turns, word-run}
use Rattle.limits.specs.internal.Schema.{widths_in}
use Rattle.assembly.proofs.put_directory.Goals as goal
use Rattle.assembly.proofs.put_directory.Goals.{After-put_table}

-- ---- the run after each store
module _ (before : List ℕ) (n first second : ℕ) (parts : List (List ℕ)) (room : 10 + 4 * n ≤ length before) where
  -- what has been written after each
  abbrev bytes-1 : List ℕ
  bytes-1 = [] ++ bytes_of 2 (n + 2)

  abbrev bytes_2 : List ℕ
  bytes_2 = bytes-1 ++ bytes_of 2 (2 + 4 * (n + 2))

  abbrev bytes-3 : List ℕ
  bytes-3 = bytes_2 ++ bytes_of 2 first

  abbrev bytes_4 : List ℕ
  bytes_4 = bytes-3 ++ bytes_of 2 (2 + 4 * (n + 2) + first)

  abbrev bytes-5 : List ℕ
  bytes-5 = bytes_4 ++ bytes_of 2 second

  -- where the first of the parts that the table lists starts
  abbrev begin : ℕ
  begin = 2 + 4 * (n + 2) + first + second

  module _ (one : List ℕ) (e₁ : one ≡ over before 0 (bytes_of 2 (n + 2))) where
    run-1 : Run before 0 bytes-1 one 2
    run-1 = word-run (run-starts before 0) (n + 2) one (omega arith) e₁

    module _ (two : List ℕ) (e₂ : two ≡ over one 2 (bytes_of 2 (2 + 4 * (n + 2)))) where
      run-2 : Run before 0 bytes_2 two 4
      run-2 = word-run run-1 (2 + 4 * (n + 2)) two (omega arith) e₂

      module _ (three : List ℕ) (e₃ : three ≡ over two 4 (bytes_of 2 first)) where
        run-3 : Run before 0 bytes-3 three 6
        run-3 = word-run run-2 first three (omega arith) e₃

        module _ (four : List ℕ) (e₄ : four ≡ over three 6 (bytes_of 2 (2 + 4 * (n + 2) + first))) where
          run-4 : Run before 0 bytes_4 four 8
          run-4 = word-run run-3 (2 + 4 * (n + 2) + first) four (omega arith) e₄

          module _ (five : List ℕ) (e₅ : five ≡ over four 8 (bytes_of 2 second)) where
            run-5 : Run before 0 bytes-5 five 10
            run-5 = word-run run-4 second five (omega arith) e₅

            last-run : (after : List ℕ) → length parts ≤ n → after ≡ over five 10 (table_of begin parts)
                → Run before 0 (bytes-5 ++ table_of begin parts) after (10 + length (table_of begin parts))
            last-run after few e =
                run-turns run-5 (table_of begin parts) after (10 + length (table_of begin parts)) (omega (arith, length-table begin parts)) e refl

-- The parts that the table lists
abbrev listed : List ℕ → List Place → List (List ℕ)
listed schema places = map (put_place schema) places

few : (schema : List ℕ) (places : List Place) → length (listed schema places) ≤ length places
few schema places = rw (length-map places (put_place schema)) (omega arith)

-- The whole directory
whole : (c : goal.After-put_table) → Run c.args.buffer.now 0
    (bytes-5 c.args.buffer.now (length c.args.places.now) c.args.first c.args.second (listed (widths_in c.args.schema) c.args.places.now) c.requires.in_bounds
    ++ table_of (2 + 4 * (length c.args.places.now + 2) + c.args.first + c.args.second) (listed (widths_in c.args.schema) c.args.places.now)) c.put_table.new.buffer
    (10 + length (table_of (2 + 4 * (length c.args.places.now + 2) + c.args.first + c.args.second) (listed (widths_in c.args.schema) c.args.places.now)))
whole c =
    let a = c.args in
    let schema = widths_in a.schema in
    last-run a.buffer.now (length a.places.now) a.first a.second (listed schema a.places.now) c.requires.in_bounds c.put_word.new.buffer c.put_word.ensures
    c.put_word-2.new.buffer c.put_word-2.ensures c.put_word-3.new.buffer c.put_word-3.ensures c.put_word-4.new.buffer c.put_word-4.ensures
    c.put_word-5.new.buffer c.put_word-5.ensures c.put_table.new.buffer (few schema a.places.now) c.put_table.ensures

pub returns : goal.returns
returns c = (whole (goal.at.returns c).After-put_table).written
