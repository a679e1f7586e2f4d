-- `comparison::check_mapping` meets its contract: the refusals are those of two places, the rest is what `mapping::check` tells of their queries and of the
-- images, all as they are read.
-- Assumes nothing.
use mathlib.Core.Path.{◌≡◌, sym, ap, ap₂, ◌∙◌}
use mathlib.Core.List.{List}
use Prim.Native.Nat.{ℕ}
use Rattle.refusals.specs.Refusal.{reply_of}
use Rattle.query.specs.View.{entries_of}
use Rattle.theory.specs.Codes.{CodePair}
use Rattle.record.proofs.Good.{good-record}
use borrow.Author.Rules.{rules}
use lib.ListN.{length}
use Rattle.lists.proofs.Loops.{mapped-length}
use Rattle.theory.specs.Query as theory
use Rattle.query.proofs.Good.{good-query}
use Rattle.record.specs.View.{schema_of, codes_of}
use Rattle.record.specs.Calls.{query_at}
use Rattle.record.proofs.Reading.{read-formed}
use Rattle.comparison.specs.internal.Images.{row_variables}
use Rattle.comparison.specs.Comparison.{read_images, images_at}
use Rattle.comparison.proofs.Pairs.{standing}
use Rattle.comparison.proofs.Answers.{places-accepted, places-read, check-storable, checks-told}
use Rattle.comparison.proofs.Images.{images-read}
use Rattle.comparison.proofs.check_mapping.Goals as goal

pub query-target-requires : goal.query-target-requires
query-target-requires c =
    let given = c.args.given in
    let is = sym c.filled_pair.ensures ∙ ap reply_of c.in_ok-first.was in
    let s = standing given _ _ (places-accepted given c.args.p c.args.q _ _ is) in
    (s.low-p, s.good, s.filled-p)

pub query-source-requires : goal.query-source-requires
query-source-requires c =
    let given = c.args.given in
    let is = sym c.filled_pair.ensures ∙ ap reply_of c.in_ok-first.was in
    let s = standing given _ _ (places-accepted given c.args.p c.args.q _ _ is) in
    (s.low-q, s.good, s.filled-q)

pub codes-requires : goal.codes-requires
codes-requires c =
    let given = c.args.given in
    let is = sym c.filled_pair.ensures ∙ ap reply_of c.in_ok-first.was in
    (good-record given (standing given _ _ (places-accepted given c.args.p c.args.q _ _ is)).good).coded

pub schema-requires : goal.schema-requires
schema-requires c =
    let given = c.args.given in
    let is = sym c.filled_pair.ensures ∙ ap reply_of c.in_ok-first.was in
    (standing given _ _ (places-accepted given c.args.p c.args.q _ _ is)).good

pub read_images-read-requires : goal.read_images-read-requires
read_images-read-requires c = (good-query 12 (schema_of c.args.given) c.query-source.result c.query-source.ensures.good).size

pub check-requires : goal.check-requires
check-requires c =
    let given = c.args.given in
    let is = sym c.filled_pair.ensures ∙ ap reply_of c.in_ok-first.was in
    let drawn = places-read given c.args.p c.args.q _ _ is c.query-target.result c.query-source.result c.query-target.ensures c.query-source.ensures in
    check-storable given c.args.p c.args.q _ _ drawn.0 drawn.1 drawn.2

pub returns : goal.returns
returns c =
    let given = c.args.given in
    let p = c.args.p in
    let q = c.args.q in
    let is = sym c.filled_pair.ensures ∙ ap reply_of c.in_ok-first.was in
    let source = c.query-source.result in
    let long : length source.cells ≡ 96 = search (mapped-length, rules) in
    let drawn = places-read given p q _ _ is c.query-target.result source c.query-target.ensures c.query-source.ensures in
    let good = (standing given p q drawn.0).good in
    let are : entries_of c.read_images-read.result ≡ images_at given q c.args.images =
    c.read_images-read.ensures
    ∙ ap₂ (λ (ps : List CodePair) (among : List ℕ). read_images ps among 0 (entries_of c.args.images)) c.codes.ensures
    (ap (λ (schema : List ℕ). row_variables schema source) c.schema.ensures.value
    ∙ ap (λ (Q : theory.Query). theory.variables_of (theory.row_entries Q.rows)) drawn.2.query)
    ∙ images-read (codes_of given) (schema_of given) (query_at given q) (entries_of c.args.images) (read-formed given good q source drawn.2 long)
    in
    checks-told given p q _ _ drawn.0 drawn.1 drawn.2 c.args.images c.read_images-read.result are c.check.result c.check.ensures
