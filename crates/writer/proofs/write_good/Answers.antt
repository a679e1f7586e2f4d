use borrow.Author.Rules.{rules}
use mathlib.Core.Path.{◌≡◌, sym, ap, refl, ◌∙◌}
use mathlib.Core.Bool.{true}
use mathlib.Core.List.{List, [], ◌++◌, map, flatten}
use Prim.Native.Nat.{ℕ, ◌+◌, ◌*◌, ◌≤◌, ◌<◌}
use native.Mathlib.Omega.{arith}
use lib.ListN.{length, take, length-take}
use lib.Seq.{length-take-le}
use Rattle.query.specs.Rule.{good_place}
use Rattle.lists.proofs.Tests.{every_take}
use Rattle.refusals.specs.Refusals.{buffer_too_short, refused, gives}
use Rattle.record.specs.declared.Record.{Record}
use Rattle.record.specs.View.{schema_of}
use Rattle.record.specs.Rule.{good_record}
use Rattle.lists.specs.Over.{over}
use Rattle.format.specs.File.{up_to_filled, put_place, file_of}
use Rattle.assembly.specs.internal.Pieces.{codes_long, joins_bytes, directory_bytes, part_bytes}
use Rattle.writer.specs.Write.{written, after_writing}
use Rattle.lists.proofs.Loops.{mapped-length}
use Rattle.record.proofs.Good.{good-record}
use Rattle.query.proofs.Relations.{relations-bounds}
use Rattle.encoder.proofs.Stores.{Run, run-starts, run-turns}
use Rattle.writer.proofs.Writing.{long-refused, fits-written}
use Rattle.assembly.proofs.Joins.{few-sets}
use Rattle.assembly.proofs.RecordParts.{parts-long, file-split, file-long}
use Rattle.writer.proofs.write_good.Goals as goal
use Rattle.writer.proofs.write_good.Goals.{After-places_length-others, After-put_parts, Start}

module _ (r : Record) (good : good_record r ≡ true) (buffer : List ℕ) (size : ℕ) (es : size ≡ length (file_of r)) where
  too_long : length buffer < size → (refused buffer_too_short ≡ written r buffer) × (buffer ≡ after_writing r buffer)
  too_long h = long-refused r buffer good (omega arith)

  done : (after : List ℕ) → size ≤ length buffer → after ≡ over buffer 0 (file_of r) → (gives size ≡ written r buffer) × (after ≡ after_writing r buffer)
  done after h e = let w = fits-written r buffer good (omega arith) in (ap gives es ∙ w.0, e ∙ w.1)

-- ---- lengths and runs: n parts are places
module _ (r : Record) (good : good_record r ≡ true) (lw : length r.widths ≡ 8) (lc : length r.codes ≡ 16) (ld : length r.dependencies ≡ 32) (n : ℕ)
    (en : n ≡ up_to_filled r.places) (few : n ≤ length r.places) (coding tail others : ℕ) (ec : coding ≡ codes_long r.coded)
    (et : tail ≡ length (joins_bytes r.joined r.joins))
    (eo : others ≡ length (flatten (map (put_place (schema_of r)) (take n r.places)))) where
  -- The directory
  abbrev directory : List ℕ
  directory =
      directory_bytes n (1 + r.relations + codes_long r.coded) (1 + 3 * r.held + length (joins_bytes r.joined r.joins))
      (map (put_place (schema_of r)) (take n r.places))

  -- The length of the file
  abbrev file_length : ℕ
  file_length = 2 + 4 * (n + 2) + (1 + r.relations + coding) + (1 + 3 * r.held + tail) + others

  lengths : (length directory ≡ 2 + 4 * (n + 2)) × (file_length ≡ length (file_of r))
  lengths =
      let l = file-long r good lw lc ld n others en few eo in
      (l.0, omega (arith, l.1, ec, et))

  parts : 1 + r.relations + coding + (1 + 3 * r.held + tail) + others ≡ length (part_bytes r n)
  parts = omega (arith, parts-long r good lw lc ld n, eo, ec, et)

  module _ (before : List ℕ) (fits : file_length ≤ length before) (one : List ℕ)
      (e₁ : one
      ≡ over before 0 (directory_bytes n (1 + r.relations + coding) (1 + 3 * r.held + tail) (map (put_place (schema_of r)) (take n r.places)))) where
    first_run : Run before 0 ([] ++ directory) one (2 + 4 * (n + 2))
    first_run =
        let written : one ≡ over before 0 directory =
        e₁
        ∙ ap
        (λ (k : ℕ). over before 0 (directory_bytes n (1 + r.relations + coding) (1 + 3 * r.held + k) (map (put_place (schema_of r)) (take n r.places)))) et
        ∙ ap
        (λ (k : ℕ).
        over before 0
        (directory_bytes n (1 + r.relations + k) (1 + 3 * r.held + length (joins_bytes r.joined r.joins)) (map (put_place (schema_of r)) (take n r.places)))) ec in
        run-turns (run-starts before 0) directory one (2 + 4 * (n + 2)) (omega (arith, lengths.0, fits)) written (omega (arith, lengths.0))

    second_run : (two : List ℕ) → two ≡ over one (2 + 4 * (n + 2)) (part_bytes r n)
        → Run before 0 ([] ++ directory ++ part_bytes r n) two (2 + 4 * (n + 2) + length (part_bytes r n))
    second_run two e = run-turns first_run (part_bytes r n) two (2 + 4 * (n + 2) + length (part_bytes r n)) (omega (arith, parts, fits)) e refl

-- ---- what holds at each place, proved where it first does
counts : (c : goal.Start) → c.args.given.relations ≤ 8
counts c = (relations-bounds c.args.given.relations c.args.given.widths (good-record c.args.given c.requires).relations).1

few-held : (c : goal.Start) → c.args.given.held ≤ 32
few-held c = (good-record c.args.given c.requires).held

-- What the callees answer is what the lemmas speak of
record Known (r : Record) (n : ℕ) : Type 0 where
  widths-long : length r.widths ≡ 8
  codes-long : length r.codes ≡ 16
  list-long : length r.dependencies ≡ 32
  held : n ≤ length r.places

known : (c : goal.After-places_length-others) → Known c.args.given c.up_to_filled-n.result
known c =
    let l : length c.args.given.places ≡ 8 = search (mapped-length, rules) in
    record {
      widths-long = search (mapped-length, rules);
      codes-long = search (mapped-length, rules);
      list-long = search (mapped-length, rules);
      held = rw l c.up_to_filled-n.ensures.1;
    }

abbrev size : goal.After-places_length-others → ℕ
size c = 2 + 4 * (c.up_to_filled-n.result + 2) + (1 + c.args.given.relations + c.codes_length.result) + (1 + 3 * c.args.given.held + c.joins_length.result) + c.places_length-others.result

whole : (c : goal.After-places_length-others) → size c ≡ length (file_of c.args.given)
whole c =
    let k = known c in
    (lengths c.args.given c.requires k.widths-long k.codes-long k.list-long c.up_to_filled-n.result c.up_to_filled-n.ensures.0 k.held c.codes_length.result c.joins_length.result c.places_length-others.result
    c.codes_length.ensures.0 c.joins_length.ensures.0 (rw c.schema-schema.ensures.value at c.places_length-others.ensures).0).1

pub codes_length-requires : goal.codes_length-requires
codes_length-requires c = (good-record c.args.given c.requires).coded

pub joins_length-requires : goal.joins_length-requires
joins_length-requires c =
    let good = good-record c.args.given c.requires in
    (good.joined, few-sets (schema_of c.args.given) c.args.given.joined c.args.given.joins good.joins)

pub places_length-others-requires : goal.places_length-others-requires
places_length-others-requires c =
    let good = good-record c.args.given c.requires in
    let n = c.up_to_filled-n.result in
    record {
      places_value = rw c.schema-schema.ensures.value (every_take (good_place (schema_of c.args.given)) n c.args.given.places good.places);
      few = omega (arith, length-take n c.args.given.places, c.up_to_filled-n.ensures.1);
    }

pub returns-then-buffer-size : goal.returns-then-buffer-size
returns-then-buffer-size c =
    let at = (goal.at.returns-then-buffer-size c).After-places_length-others in
    too_long c.args.given c.requires c.args.buffer.now (size at) (whole at) c.if-buffer-size.true

pub put_directory-requires : goal.put_directory-requires
put_directory-requires c =
    let start' = (goal.at.put_directory-requires c).Start in
    let good = good-record c.args.given c.requires in
    let n = c.up_to_filled-n.result in
    let short = length-take n c.args.given.places in
    record {
      places_value = rw c.schema-schema.ensures.value (every_take (good_place (schema_of c.args.given)) n c.args.given.places good.places);
      few = (omega (arith, short, c.up_to_filled-n.ensures.1), omega (arith, counts start', c.codes_length.ensures.1), omega (arith, few-held start', c.joins_length.ensures.1));
      in_bounds = omega (arith, short, c.if-buffer-size.false);
    }

pub put_parts-requires : goal.put_parts-requires
put_parts-requires c =
    let r = c.args.given in
    let n = c.up_to_filled-n.result in
    let k = known (goal.at.put_parts-requires c).After-places_length-others in
    let same : length (take n r.places) ≡ n = length-take-le n r.places k.held in
    let run =
    first_run r c.requires k.widths-long k.codes-long k.list-long n c.up_to_filled-n.ensures.0 k.held c.codes_length.result c.joins_length.result c.places_length-others.result
    c.codes_length.ensures.0 c.joins_length.ensures.0 (rw c.schema-schema.ensures.value at c.places_length-others.ensures).0 c.args.buffer.now c.if-buffer-size.false c.put_directory.new.buffer (rw (c.schema-schema.ensures.value, same) at c.put_directory.ensures) in
    let l =
    parts r c.requires k.widths-long k.codes-long k.list-long n c.up_to_filled-n.ensures.0 k.held c.codes_length.result c.joins_length.result c.places_length-others.result
    c.codes_length.ensures.0 c.joins_length.ensures.0 (rw c.schema-schema.ensures.value at c.places_length-others.ensures).0 in
    record { given_value = c.requires; n_bound = c.up_to_filled-n.ensures.1; n_in_bounds = omega (arith, run.long, l, c.if-buffer-size.false) }

-- The directory and the parts are written
ran : (c : goal.After-put_parts)
    → Run c.args.buffer.now 0
    ([]
    ++ directory_bytes c.up_to_filled-n.result (1 + c.args.given.relations + codes_long c.args.given.coded)
    (1 + 3 * c.args.given.held + length (joins_bytes c.args.given.joined c.args.given.joins))
    (map (put_place (schema_of c.args.given)) (take c.up_to_filled-n.result c.args.given.places))
    ++ part_bytes c.args.given c.up_to_filled-n.result)
    c.put_parts.new.buffer (2 + 4 * (c.up_to_filled-n.result + 2) + length (part_bytes c.args.given c.up_to_filled-n.result))
ran c =
    let r = c.args.given in
    let lp : length c.args.given.places ≡ 8 = search (mapped-length, rules) in
    let lw : length c.args.given.widths ≡ 8 = search (mapped-length, rules) in
    let lc : length c.args.given.codes ≡ 16 = search (mapped-length, rules) in
    let ld : length c.args.given.dependencies ≡ 32 = search (mapped-length, rules) in
    let n = c.up_to_filled-n.result in
    let same : length (take n r.places) ≡ n = length-take-le n r.places (rw lp c.up_to_filled-n.ensures.1) in
    second_run r c.requires lw lc ld c.up_to_filled-n.result c.up_to_filled-n.ensures.0 (rw lp c.up_to_filled-n.ensures.1) c.codes_length.result c.joins_length.result c.places_length-others.result
    c.codes_length.ensures.0 c.joins_length.ensures.0 (rw c.schema-schema.ensures.value at c.places_length-others.ensures).0 c.args.buffer.now c.if-buffer-size.false
    c.put_directory.new.buffer (rw (c.schema-schema.ensures.value, same) at c.put_directory.ensures) c.put_parts.new.buffer c.put_parts.ensures

pub returns : goal.returns
returns c =
    let given = c.args.given in
    let at = (goal.at.returns c).After-places_length-others in
    let k = known at in
    let split = file-split given c.requires k.widths-long k.codes-long k.list-long c.up_to_filled-n.result c.up_to_filled-n.ensures.0 k.held in
    done given c.requires c.args.buffer.now (size at) (whole at) c.put_parts.new.buffer c.if-buffer-size.false
    ((ran (goal.at.returns c).After-put_parts).written ∙ ap (over c.args.buffer.now 0) (sym split))
