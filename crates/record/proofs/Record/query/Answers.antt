-- `record::Record::query` meets its contract: the codes that are held are read by. Assumes nothing.
use mathlib.Core.Path.{◌≡◌, sym, ap, ap₂, ◌∙◌}
use mathlib.Core.Bool.{true}
use mathlib.Core.List.{List}
use Prim.Native.Nat.{ℕ, ◌<◌}
use native.Mathlib.Omega.{arith}
use borrow.Author.Rules.{rules}
use lib.ListN.{length, take, get_or}
use Rattle.lists.proofs.Loops.{mapped-length}
use Rattle.query.specs.Types.{Query}
use Rattle.query.specs.View.{query_of}
use Rattle.query.specs.Rule.{good_query, head_safe, no_place}
use Rattle.theory.specs.Codes.{CodePair, read_query}
use Rattle.record.specs.View.{schema_of}
use Rattle.record.specs.declared.Record.{Record}
use Rattle.record.specs.Rule.{good_record}
use Rattle.record.specs.Calls.{stored_at, is_filled}
use Rattle.query.proofs.Pairs.{current-limit}
use Rattle.lists.specs.Tests.{every}
use lib.Dec.{leb}
use Rattle.theory.specs.Query as theory
use Rattle.record.proofs.Good.{good-record}
use Rattle.record.proofs.Stored.{filled-parts, place-good}
use Rattle.record.proofs.Record.query.Goals as goal

-- A filled place holds a good query with a safe head
held : (r : Record) → good_record r ≡ true → (place : ℕ) → length r.places ≡ 8 → place < 8 → is_filled r place ≡ true
    → (good_query (schema_of r) (stored_at r place) ≡ true) × (head_safe (schema_of r) (stored_at r place) ≡ true)
held r good place long low filled =
    filled-parts (schema_of r) (get_or r.places place no_place) (place-good r good place no_place (omega arith)) filled

pub codes-requires : goal.codes-requires
codes-requires c = (good-record c.args.self c.requires.1).coded

pub read_query-requires : goal.read_query-requires
read_query-requires c =
    let r = c.args.self in
    ap₂ good_query c.schema.ensures.value c.stored.ensures ∙ (held r c.requires.1 c.args.place (search (mapped-length, rules)) c.requires.0 c.requires.2).0

pub returns : goal.returns
returns c =
    let r = c.args.self in
    let now = held r c.requires.1 c.args.place (search (mapped-length, rules)) c.requires.0 c.requires.2 in
    record {
      arity = c.read_query.ensures.arity ∙ ap (λ (q : Query). q.arity) c.stored.ensures;
      query =
          ap (λ (schema : List ℕ). query_of schema c.read_query.result) (sym c.schema.ensures.value) ∙ c.read_query.ensures.query
          ∙ ap₂ (λ (ps : List CodePair) (q : theory.Query). read_query ps q) c.codes.ensures (ap₂ query_of c.schema.ensures.value c.stored.ensures);
      good =
          ap (λ (schema : List ℕ). good_query schema c.read_query.result) (sym c.schema.ensures.value)
          ∙ c.read_query.ensures.good
          (ap (every (λ (p : CodePair). leb p.current 2147483647)) c.codes.ensures ∙ current-limit (take r.coded r.codes) (good-record r c.requires.1).codes);
      safe =
          ap (λ (schema : List ℕ). head_safe schema c.read_query.result) (sym c.schema.ensures.value)
          ∙ c.read_query.ensures.safe (ap₂ head_safe c.schema.ensures.value c.stored.ensures ∙ now.1);
    }
