-- `parsing::read_relations` meets its contract: as many bytes follow the count as it says or more, and they are good widths. Assumes nothing.
use mathlib.Core.Path.{sym, ap, ◌∙◌}
use Prim.Native.Nat.{◌≤◌}
use borrow.Author.Rules.{rules}
use Rattle.lists.specs.Tests.{between}
use Rattle.lists.proofs.Tests.{between-true}
use Rattle.parsing.specs.internal.Read.{reading_of, relations_read}
use Rattle.parsing.proofs.Counted.{byte-read}
use Rattle.parsing.proofs.Relations.{no-relations, widths-short, no-schema, schema-read}
use Rattle.parsing.proofs.Values.{to_end}
use Rattle.parsing.proofs.read_relations.Goals as goal

pub returns-in_err-count : goal.returns-in_err-count
returns-in_err-count c =
    ap relations_read c.from_residual.ensures ∙ no-relations c.args.part.now (sym c.read_byte.ensures ∙ ap reading_of c.in_err-count.was)

pub returns-then-front-n : goal.returns-then-front-n
returns-then-front-n c = widths-short c.args.part.now _ _ (sym c.read_byte.ensures ∙ ap reading_of c.in_ok-count.was) c.if-front-n.true

pub padded-requires : goal.padded-requires
padded-requires c =
    let few : c.in_ok-count.count ≤ 8 = (between-true 1 8 _ (byte-read (between 1 8) _ _ _ (sym c.read_byte.ensures ∙ ap reading_of c.in_ok-count.was))).1 in
    search rules

pub returns-in_err-schema : goal.returns-in_err-schema
returns-in_err-schema c =
    ap relations_read c.from_residual-in_err-schema.ensures
    ∙ no-schema c.args.part.now _ _ (sym c.read_byte.ensures ∙ ap reading_of c.in_ok-count.was) c.if-front-n.false _ c.padded.ensures _ c.new.ensures.some
    c.in_err-schema.was

pub returns : goal.returns
returns c =
    schema-read c.args.part.now _ _ (sym c.read_byte.ensures ∙ ap reading_of c.in_ok-count.was) c.if-front-n.false _ c.padded.ensures _ c.new.ensures.some
    c.new.ensures.fields _ c.in_ok-schema.was _ (to_end c.in_ok-count.count c.in_ok-count.front.now)
