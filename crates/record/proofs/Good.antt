-- What it tells that a record passes the rule's test: its parts, each by name.
use mathlib.Core.Path.{◌≡◌}
use mathlib.Core.Bool.{Bool, true, ◌&&◌}
use Prim.Native.Nat.{◌≤◌}
use lib.Dec.{leb}
use borrow.Author.Tests.{leb-true, le-leb}
use Rattle.record.specs.declared.Record.{Record}
use Rattle.record.specs.View.{schema_of}
use Rattle.lists.specs.Tests.{every, in_use}
use lib.ListN.{take, drop}
use Rattle.query.specs.Rule.{good_relations, all_fit, blank_pair, good_codes, good_dependency, good_dependencies, blank_dependency, good_join, good_joins, blank_join, good_place}
use Rattle.record.specs.Rule.{good_record}
use Rattle.lists.proofs.Tests.{and_left, and_right}

-- A record that refusal 14 passes
pub record GoodRecord (r : Record) : Type 0 where
  pub relations : good_relations r.relations r.widths ≡ true
  pub coded : r.coded ≤ 16
  pub codes : all_fit (take r.coded r.codes) ≡ true
  pub no-codes : every blank_pair (drop r.coded r.codes) ≡ true
  pub held : r.held ≤ 32
  pub dependencies : in_use r.held (good_dependency (schema_of r)) blank_dependency r.dependencies ≡ true
  pub joined : r.joined ≤ 4
  pub joins : in_use r.joined (good_join (schema_of r)) blank_join r.joins ≡ true
  pub places : every (good_place (schema_of r)) r.places ≡ true

pub good-record : (r : Record) → good_record r ≡ true → GoodRecord r
unfolding good_record good_codes good_dependencies good_joins
good-record r e =
    let a : Bool = good_relations r.relations r.widths in
    let l : Bool = leb r.coded 16 in
    let m : Bool = all_fit (take r.coded r.codes) in
    let n : Bool = every blank_pair (drop r.coded r.codes) in
    let b : Bool = leb r.held 32 in
    let d : Bool = in_use r.held (good_dependency (schema_of r)) blank_dependency r.dependencies in
    let j : Bool = leb r.joined 4 in
    let k : Bool = in_use r.joined (good_join (schema_of r)) blank_join r.joins in
    let f : Bool = every (good_place (schema_of r)) r.places in
    let e3 : a && (l && m && n) && (b && d) && (j && k) ≡ true = and_left (a && (l && m && n) && (b && d) && (j && k)) f e in
    let e2 : a && (l && m && n) && (b && d) ≡ true = and_left (a && (l && m && n) && (b && d)) (j && k) e3 in
    let e5 : a && (l && m && n) ≡ true = and_left (a && (l && m && n)) (b && d) e2 in
    let e6 : l && m && n ≡ true = and_right a (l && m && n) e5 in
    let e1 : b && d ≡ true = and_right (a && (l && m && n)) (b && d) e2 in
    let e4 : j && k ≡ true = and_right (a && (l && m && n) && (b && d)) (j && k) e3 in
    record {
      relations = and_left a (l && m && n) e5;
      coded = leb-true _ _ (and_left l m (and_left (l && m) n e6));
      codes = and_right l m (and_left (l && m) n e6);
      no-codes = and_right (l && m) n e6;
      held = leb-true _ _ (and_left b d e1);
      dependencies = and_right b d e1;
      joined = leb-true _ _ (and_left j k e4);
      joins = and_right j k e4;
      places = and_right (a && (l && m && n) && (b && d) && (j && k)) f e;
    }

pub make-record : (r : Record) → GoodRecord r → good_record r ≡ true
unfolding good_record good_codes good_dependencies good_joins
make-record r g = rw (g.relations, le-leb r.coded 16 g.coded, g.codes, g.no-codes, le-leb r.held 32 g.held, g.dependencies, le-leb r.joined 4 g.joined, g.joins, g.places)
