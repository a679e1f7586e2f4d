use borrow.Author.Rules.{rules}
use mathlib.Core.Bool.{true}
use mathlib.Core.Path.{◌≡◌, refl, ap, ◌∙◌}
use mathlib.Core.List.{List, [], ◌++◌, map, flatten}
use Prim.Native.Nat.{ℕ, ◌+◌, ◌*◌, ◌≤◌}
use native.Mathlib.Omega.{arith}
use lib.ListN.{length, take}
use Rattle.record.specs.declared.Record.{Record}
use Rattle.record.specs.Rule.{good_record}
use Rattle.record.specs.View.{schema_of}
use Rattle.format.specs.Parts.{relations}
use Rattle.format.specs.File.{put_place}
use Rattle.assembly.specs.internal.Pieces.{codes_bytes, codes_long, dependency_bytes, joins_bytes, part_bytes}
use Rattle.lists.proofs.Loops.{mapped-length}
use Rattle.lists.proofs.Tests.{every_take}
use Rattle.query.specs.Rule.{good_place}
use Rattle.record.proofs.Good.{good-record}
use Rattle.encoder.proofs.Stores.{Run, run-starts, run-turns}
use Rattle.lists.specs.Over.{over}
use Rattle.assembly.proofs.Joins.{few-sets}
use Rattle.assembly.proofs.RecordParts.{first-long, codes-long, second-long, parts-long}
use Rattle.assembly.proofs.put_parts.Goals as goal
use Rattle.assembly.proofs.put_parts.Goals.{After-put_places, Start}

-- The bytes of each piece
abbrev relation_bytes : Record → List ℕ
relation_bytes r = relations.put (r.relations, r.widths)

abbrev pair_bytes : Record → List ℕ
pair_bytes r = codes_bytes r.coded r.codes

abbrev list_bytes : Record → List ℕ
list_bytes r = dependency_bytes r.held r.dependencies

abbrev tail_bytes : Record → List ℕ
tail_bytes r = joins_bytes r.joined r.joins

abbrev place_bytes : Record → ℕ → List ℕ
place_bytes r n = flatten (map (put_place (schema_of r)) (take n r.places))

-- Where the pairs of codes start, the dependencies of each kind, and the places
abbrev second : ℕ → Record → ℕ
second start r = start + 1 + r.relations

abbrev third : ℕ → Record → ℕ
third start r = second start r + codes_long r.coded

abbrev fourth : ℕ → Record → ℕ
fourth start r = third start r + 1 + 3 * r.held

abbrev fifth : ℕ → Record → ℕ
fifth start r = fourth start r + length (tail_bytes r)

-- ---- the runs, one after the other
module _ (before : List ℕ) (start : ℕ) (r : Record) (n : ℕ) (good : good_record r ≡ true) (lw : length r.widths ≡ 8) (lc : length r.codes ≡ 16)
    (ld : length r.dependencies ≡ 32) (fits : start + length (part_bytes r n) ≤ length before) where
  relations-long : length (relation_bytes r) ≡ 1 + r.relations
  relations-long = first-long r good lw lc ld

  pairs-long : length (pair_bytes r) ≡ codes_long r.coded
  pairs-long = codes-long r good lw lc ld

  dependencies-long : length (list_bytes r) ≡ 1 + 3 * r.held
  dependencies-long = second-long r good lw lc ld

  room : fifth start r + length (place_bytes r n) ≤ length before
  room = omega (arith, parts-long r good lw lc ld n, fits)

  module _ (one : List ℕ) (e₁ : one ≡ over before start (relation_bytes r)) where
    first_run : Run before start ([] ++ relation_bytes r) one (second start r)
    first_run =
        run-turns (run-starts before start) (relation_bytes r) one (second start r) (omega (arith, relations-long, room)) e₁ (omega (arith, relations-long))

    module _ (two : List ℕ) (e₂ : two ≡ over one (second start r) (pair_bytes r)) where
      second_run : Run before start ([] ++ relation_bytes r ++ pair_bytes r) two (third start r)
      second_run = run-turns first_run (pair_bytes r) two (third start r) (omega (arith, pairs-long, room)) e₂ (omega (arith, pairs-long))

      -- where the pairs of codes end
      module _ (to : ℕ) (et : to ≡ third start r) (three : List ℕ) (e₃ : three ≡ over two to (list_bytes r)) where
        third-run : Run before start ([] ++ relation_bytes r ++ pair_bytes r ++ list_bytes r) three (fourth start r)
        third-run =
            run-turns second_run (list_bytes r) three (fourth start r) (omega (arith, dependencies-long, room))
            (e₃ ∙ ap (λ (k : ℕ). over two k (list_bytes r)) et) (omega (arith, dependencies-long))

        module _ (four : List ℕ) (e₄ : four ≡ over three (to + 1 + 3 * r.held) (tail_bytes r)) where
          fourth-run : Run before start ([] ++ relation_bytes r ++ pair_bytes r ++ list_bytes r ++ tail_bytes r) four (fifth start r)
          fourth-run =
              run-turns third-run (tail_bytes r) four (fifth start r) (omega (arith, room))
              (e₄ ∙ ap (λ (k : ℕ). over three (k + 1 + 3 * r.held) (tail_bytes r)) et) refl

          fifth-run : (after : List ℕ) (last : ℕ) → last ≡ fifth start r → after ≡ over four last (place_bytes r n)
              → Run before start ([] ++ relation_bytes r ++ pair_bytes r ++ list_bytes r ++ tail_bytes r ++ place_bytes r n) after
              (fifth start r + length (place_bytes r n))
          fifth-run after last el e =
              run-turns fourth-run (place_bytes r n) after (fifth start r + length (place_bytes r n)) room
              (e ∙ ap (λ (k : ℕ). over four k (place_bytes r n)) el) refl

-- ---- what holds at each place
widths-long : (c : goal.Start) → length c.args.given.widths ≡ 8
widths-long c = search (mapped-length, rules)

codes-sixteen : (c : goal.Start) → length c.args.given.codes ≡ 16
codes-sixteen c = search (mapped-length, rules)

list-long : (c : goal.Start) → length c.args.given.dependencies ≡ 32
list-long c = search (mapped-length, rules)

fits : (c : goal.Start) → fifth c.args.start c.args.given + length (place_bytes c.args.given c.args.n) ≤ length c.args.buffer.now
fits c =
    room c.args.buffer.now c.args.start c.args.given c.args.n c.requires.given_value (widths-long c) (codes-sixteen c) (list-long c) c.requires.n_in_bounds

pub put_relations-requires : goal.put_relations-requires
put_relations-requires c = rw c.schema-schema.ensures.relations (omega (arith, fits (goal.at.put_relations-requires c).Start))

pub put_codes-first-requires : goal.put_codes-first-requires
put_codes-first-requires c =
    let a = c.args in
    let start' = (goal.at.put_codes-first-requires c).Start in
    let run =
    first_run a.buffer.now a.start a.given a.n c.requires.given_value (widths-long start') (codes-sixteen start') (list-long start') c.requires.n_in_bounds
    c.put_relations.new.buffer (rw (c.schema-schema.ensures.relations, c.schema-schema.ensures.widths) at c.put_relations.ensures) in
    record { coded_bound = (good-record a.given c.requires.given_value).coded; list_in_bounds = omega (arith, run.long, fits start') }

pub put_dependencies-requires : goal.put_dependencies-requires
put_dependencies-requires c =
    let a = c.args in
    let start' = (goal.at.put_dependencies-requires c).Start in
    let run =
    second_run a.buffer.now a.start a.given a.n c.requires.given_value (widths-long start') (codes-sixteen start') (list-long start') c.requires.n_in_bounds
    c.put_relations.new.buffer (rw (c.schema-schema.ensures.relations, c.schema-schema.ensures.widths) at c.put_relations.ensures)
    c.put_codes-first.new.buffer c.put_codes-first.ensures.0 in
    record {
      held_bound = (good-record a.given c.requires.given_value).held;
      held_in_bounds = omega (arith, run.long, c.put_codes-first.ensures.1, fits start');
    }

pub put_joins-third-requires : goal.put_joins-third-requires
put_joins-third-requires c =
    let a = c.args in
    let start' = (goal.at.put_joins-third-requires c).Start in
    let parts = good-record a.given c.requires.given_value in
    let run =
    third-run a.buffer.now a.start a.given a.n c.requires.given_value (widths-long start') (codes-sixteen start') (list-long start') c.requires.n_in_bounds
    c.put_relations.new.buffer (rw (c.schema-schema.ensures.relations, c.schema-schema.ensures.widths) at c.put_relations.ensures)
    c.put_codes-first.new.buffer c.put_codes-first.ensures.0 c.put_codes-first.result c.put_codes-first.ensures.1 c.put_dependencies.new.buffer
    c.put_dependencies.ensures in
    record {
      joined_bound = (parts.joined, few-sets (schema_of a.given) a.given.joined a.given.joins parts.joins);
      list_in_bounds = omega (arith, run.long, c.put_codes-first.ensures.1, fits start');
    }

-- Where the join dependencies end
ends : (start : ℕ) (r : Record) (first last : ℕ) → first ≡ third start r → last ≡ first + 1 + 3 * r.held + length (tail_bytes r) → last ≡ fifth start r
ends start r first last e l = omega arith

pub put_places-requires : goal.put_places-requires
put_places-requires c =
    let a = c.args in
    let start' = (goal.at.put_places-requires c).Start in
    let parts = good-record a.given c.requires.given_value in
    let run =
    fourth-run a.buffer.now a.start a.given a.n c.requires.given_value (widths-long start') (codes-sixteen start') (list-long start') c.requires.n_in_bounds
    c.put_relations.new.buffer (rw (c.schema-schema.ensures.relations, c.schema-schema.ensures.widths) at c.put_relations.ensures)
    c.put_codes-first.new.buffer c.put_codes-first.ensures.0 c.put_codes-first.result c.put_codes-first.ensures.1 c.put_dependencies.new.buffer
    c.put_dependencies.ensures c.put_joins-third.new.buffer c.put_joins-third.ensures.0 in
    let last = ends a.start a.given c.put_codes-first.result c.put_joins-third.result c.put_codes-first.ensures.1 c.put_joins-third.ensures.1 in
    record {
      places_value = rw c.schema-schema.ensures.value (every_take (good_place (schema_of a.given)) a.n a.given.places parts.places);
      in_bounds = rw c.schema-schema.ensures.value (omega (arith, run.long, last, fits start'));
    }

-- All parts are written
whole : (c : goal.After-put_places)
    → Run c.args.buffer.now c.args.start
    ([] ++ relation_bytes c.args.given ++ pair_bytes c.args.given ++ list_bytes c.args.given ++ tail_bytes c.args.given ++ place_bytes c.args.given c.args.n)
    c.put_places.new.buffer (fifth c.args.start c.args.given + length (place_bytes c.args.given c.args.n))
whole c =
    let a = c.args in
    let lw : length a.given.widths ≡ 8 = search (mapped-length, rules) in
    let lc : length a.given.codes ≡ 16 = search (mapped-length, rules) in
    let ld : length a.given.dependencies ≡ 32 = search (mapped-length, rules) in
    fifth-run a.buffer.now a.start a.given a.n c.requires.given_value lw lc ld c.requires.n_in_bounds c.put_relations.new.buffer
    (rw (c.schema-schema.ensures.relations, c.schema-schema.ensures.widths) at c.put_relations.ensures) c.put_codes-first.new.buffer
    c.put_codes-first.ensures.0 c.put_codes-first.result c.put_codes-first.ensures.1 c.put_dependencies.new.buffer c.put_dependencies.ensures
    c.put_joins-third.new.buffer c.put_joins-third.ensures.0 c.put_places.new.buffer c.put_joins-third.result
    (ends a.start a.given c.put_codes-first.result c.put_joins-third.result c.put_codes-first.ensures.1 c.put_joins-third.ensures.1)
    (rw c.schema-schema.ensures.value at c.put_places.ensures)

pub returns : goal.returns
returns c = (whole (goal.at.returns c).After-put_places).written
