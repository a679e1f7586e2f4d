-- `text::write_place` meets its contract: the lines one after another. The variables that stand in a row are those that occur. Assumes nothing.
use borrow.Author.Rules.{rules}
use mathlib.Core.Path.{◌≡◌, refl, ◌∙◌}
use mathlib.Core.List.{List, ◌++◌}
use Prim.Native.Nat.{ℕ, ◌≤◌}
use native.Mathlib.Omega.{arith}
use lib.Dec.{eqb}
use mathlib.Core.Bool.{false}
use lib.ListN.{length, take}
use borrow.Author.Tests.{ne_eqb}
use Rattle.lists.proofs.Loops.{mapped-length}
use Rattle.theory.specs.Query as theory
use Rattle.limits.specs.internal.Schema.{widths_in}
use Rattle.query.specs.View.{entries_of, query_of, images_of}
use Rattle.query.specs.Rule.{head_safe}
use Rattle.query.proofs.Good.{good-query}
use Rattle.query.proofs.Relations.{width-le}
use Rattle.query.proofs.Shape.{row_count}
use Rattle.theory.proofs.Lists.{subset-true}
use Rattle.query.proofs.Stored.{variables-below}
use Rattle.printing.specs.internal.Writing.{Fits}
use Rattle.printing.proofs.Writing.{Progress, started, part-fits, rest-fits, wrote, wrote-rest, left_as}
use Rattle.text.specs.Text.{never_line, place_line, head_line, rows_text, map_line, occurring, place_text}
use Rattle.text.specs.internal.Listable.{variables_in_rows}
use Rattle.text.proofs.Bound.{place_short}
use Rattle.text.proofs.Occurring.{rows-occurring}
use Rattle.text.proofs.write_place.Goals as goal
use Rattle.text.proofs.write_place.Goals.{Start}

abbrev schema : Start → List ℕ
schema c = widths_in c.args.schema

abbrev source : Start → theory.Query
source c = query_of (schema c) c.args.source

abbrev result : Start → theory.Query
result c = query_of (schema c) c.args.res

source-long : (c : Start) → c.args.source.size ≤ length c.args.source.relations
source-long c = let l : length c.args.source.relations ≡ 12 = search (mapped-length, rules) in omega (arith, (good-query 12 _ _ c.requires.source-good).size)

result-long : (c : Start) → c.args.res.size ≤ length c.args.res.relations
result-long c = let l : length c.args.res.relations ≡ 12 = search (mapped-length, rules) in omega (arith, (good-query 12 _ _ c.requires.result-good).size)

-- What is to be written
abbrev text : Start → List ℕ
text c = place_text c.args.place (source c) (result c) c.args.count (images_of c.args.images)

text-fits : (c : Start) → Fits c.args.buffer.now c.args.at (text c)
text-fits c =
    let p = c.requires in
    let short =
    place_short c.args.schema.relations c.args.schema.widths c.args.schema.good c.args.place c.args.source c.args.res c.args.count
    c.args.images p.place-known
    p.source-good p.result-good (source-long c) (result-long c) c.ranges.count.fits p.images-good in
    record { room = omega (arith, p.room) }

-- Where the result is never, one line is left
never-left : (c : Start) → c.args.res.size ≡ 0
    → Progress c.args.buffer.now c.args.at (text c) (never_line c.args.place c.args.source.size c.args.count) c.args.buffer.now
    c.args.at
unfolding place_text
never-left c z =
    let m : length (source c).rows ≡ c.args.source.size = row_count (schema c) c.args.source (source-long c) in
    let k : length (result c).rows ≡ 0 = row_count (schema c) c.args.res (result-long c) ∙ z in
    left_as (started (text-fits c)) (rw (k, m))

-- The variables that stand in a row are those that occur
variables : (c : Start) → variables_in_rows (source c) ≡ occurring (source c)
unfolding head_safe
variables c =
    rows-occurring (source c) (variables-below 12 (schema c) (width-le _ _ c.args.schema.good) c.args.source c.requires.source-good)
    (λ v at. subset-true _ _ c.requires.source-safe v at)

-- Else the four parts are left
lines_left : (c : Start) → (c.args.res.size ≡ 0 → ⊥)
    → Progress c.args.buffer.now c.args.at (text c)
    (place_line c.args.place c.args.source.size c.args.res.size c.args.count
    ++ (head_line (entries_of (take c.args.res.arity c.args.res.head))
    ++ (rows_text (result c).rows ++ map_line (images_of c.args.images) (variables_in_rows (source c)))))
    c.args.buffer.now
    c.args.at
unfolding place_text
lines_left c some =
    let m : length (source c).rows ≡ c.args.source.size = row_count (schema c) c.args.source (source-long c) in
    let k : length (result c).rows ≡ c.args.res.size = row_count (schema c) c.args.res (result-long c) in
    let z : eqb c.args.res.size 0 ≡ false = ne_eqb c.args.res.size 0 some in
    left_as (started (text-fits c)) (rw (k, m, z, variables c))

pub put_never_line-requires : goal.put_never_line-requires
put_never_line-requires c = rest-fits (never-left (goal.at.put_never_line-requires c).Start c.if-kept-eq0.true)

pub returns-then-kept-eq0 : goal.returns-then-kept-eq0
returns-then-kept-eq0 c = wrote-rest (never-left (goal.at.returns-then-kept-eq0 c).Start c.if-kept-eq0.true) c.put_never_line.ensures

pub put_place_line-next-requires : goal.put_place_line-next-requires
put_place_line-next-requires c = part-fits (lines_left (goal.at.put_place_line-next-requires c).Start c.if-kept-eq0.false) _ _ refl

pub put_head_line-next-requires : goal.put_head_line-next-requires
put_head_line-next-requires c =
    let left = wrote (lines_left (goal.at.put_head_line-next-requires c).Start c.if-kept-eq0.false) _ refl c.put_place_line-next.ensures in
    part-fits left _ _ refl

pub put_rows-next-requires : goal.put_rows-next-requires
put_rows-next-requires c =
    let left = wrote (wrote (lines_left (goal.at.put_rows-next-requires c).Start c.if-kept-eq0.false) _ refl c.put_place_line-next.ensures) _ refl
    c.put_head_line-next.ensures in
    (part-fits left _ _ refl, c.requires.result-good)

pub put_map_line-requires : goal.put_map_line-requires
put_map_line-requires c =
    let left = wrote (wrote (lines_left (goal.at.put_map_line-requires c).Start c.if-kept-eq0.false) _ refl c.put_place_line-next.ensures) _ refl
    c.put_head_line-next.ensures in
    (rest-fits (wrote left _ refl c.put_rows-next.ensures), (good-query 12 _ _ c.requires.source-good).size)

pub returns : goal.returns
returns c =
    let left = wrote (wrote (lines_left (goal.at.returns c).Start c.if-kept-eq0.false) _ refl c.put_place_line-next.ensures) _ refl
    c.put_head_line-next.ensures in
    wrote-rest (wrote left _ refl c.put_rows-next.ensures) c.put_map_line.ensures

pub shared_ref_as_front-head : goal.shared_ref_as_front-head
shared_ref_as_front-head c = (good-query 12 _ _ c.requires.result-good).arity
