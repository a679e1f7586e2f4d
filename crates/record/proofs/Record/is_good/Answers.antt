-- `record::Record::is_good` meets its contract: the tests are those of `good_record` in its order, and the first that fails decides.
-- Assumes nothing.
use Rattle.std.proofs.Common.{◌≡◌, true, false, sym, ◌∙◌}
use Rattle.lists.specs.Tests.{every}
use Rattle.query.specs.Rule.{good_relations, good_codes, good_dependencies, good_joins, good_place}
use Rattle.limits.specs.declared.schema.Schema.{Schema}
use Rattle.limits.specs.internal.Schema.{widths_in}
use Rattle.record.specs.declared.Record.{Record}
use Rattle.record.specs.Rule.{good_record}
use Rattle.record.proofs.Record.is_good.Goals as goal
use Rattle.record.proofs.Record.is_good.Goals.{then-dependencies_good, else-dependencies_good}

broken : (r : Record) → good_relations r.relations r.widths ≡ false → false ≡ good_record r
unfolding good_record
broken r e = rw e

module _ (r : Record) (s : Schema) (relations : s.relations ≡ r.relations) (widths : s.widths ≡ r.widths) where
  known : good_relations r.relations r.widths ≡ true
  known = rw (← relations, ← widths) s.good

  codes-fail : good_codes r.coded r.codes ≡ false → false ≡ good_record r
  unfolding good_record
  codes-fail e = rw (known, e)

  module _ (codes : good_codes r.coded r.codes ≡ true) where
    dependencies-fail : good_dependencies (widths_in s) r.held r.dependencies ≡ false → false ≡ good_record r
    unfolding good_record
    dependencies-fail e = rw (known, codes, ← relations, ← widths, e)

    module _ (dependencies : good_dependencies (widths_in s) r.held r.dependencies ≡ true) where
      joins-fail : good_joins (widths_in s) r.joined r.joins ≡ false → false ≡ good_record r
      unfolding good_record
      joins-fail e = rw (known, codes, ← relations, ← widths, dependencies, e)

      passes : good_joins (widths_in s) r.joined r.joins ≡ true → every (good_place (widths_in s)) r.places ≡ good_record r
      unfolding good_record
      passes e = rw (known, codes, ← relations, ← widths, dependencies, e)

pub returns-in_default : goal.returns-in_default
returns-in_default c = broken c.args.self (sym c.in_default.ensures.some)

pub returns-then-not-codes_good : goal.returns-then-not-codes_good
returns-then-not-codes_good c =
    let fields = c.in-Some.ensures.fields in
    codes-fail c.args.self c.in-Some.schema fields.0 fields.1 (sym c.codes_good.ensures ∙ c.if-not-codes_good.true)

pub returns-then-joins_good : goal.returns-then-joins_good
returns-then-joins_good c =
    let fields = c.in-Some.ensures.fields in
    let codes = sym c.codes_good.ensures ∙ c.if-not-codes_good.false in
    elim c.if-dependencies_good.branch [
      | then-dependencies_good w ↦
          c.places_good.ensures
          ∙ passes c.args.self c.in-Some.schema fields.0 fields.1 codes (sym c.dependencies_good.ensures ∙ w.if-dependencies_good.true)
          (sym w.joins_good.ensures ∙ sym w.value-is ∙ c.if-joins_good.true)
      | else-dependencies_good w ↦ cc
    ]

pub returns-else-joins_good : goal.returns-else-joins_good
returns-else-joins_good c =
    let fields = c.in-Some.ensures.fields in
    let codes = sym c.codes_good.ensures ∙ c.if-not-codes_good.false in
    elim c.if-dependencies_good.branch [
      | then-dependencies_good w ↦
          c.if-joins_good.false
          ∙ joins-fail c.args.self c.in-Some.schema fields.0 fields.1 codes (sym c.dependencies_good.ensures ∙ w.if-dependencies_good.true)
          (sym w.joins_good.ensures ∙ sym w.value-is ∙ c.if-joins_good.false)
      | else-dependencies_good w ↦
          c.if-joins_good.false
          ∙ dependencies-fail c.args.self c.in-Some.schema fields.0 fields.1 codes (sym c.dependencies_good.ensures ∙ w.if-dependencies_good.false)
    ]
