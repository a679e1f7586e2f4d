-- The record after each call on a record alone is good; and a query part that is put. Assumes nothing.
use mathlib.Core.Path.{◌≡◌, sym, ap, subst, ◌∙◌}
use mathlib.Core.Bool.{true}
use mathlib.Core.List.{List}
use Prim.Native.Nat.{ℕ, ◌≤◌, ◌<◌}
use lib.ListN.{length}
use borrow.Author.Tests.{lt-ltb, le-ltb}
use Rattle.refusals.specs.Refusals.{◌>>=◌, bad_join, gives, no_such_place, refused, Reply}
use Rattle.refusals.proofs.Refusals.{refused-gives}
use Rattle.query.specs.Types.{Query}
use Rattle.query.specs.declared.Dependency.{Dependency}
use Rattle.query.specs.declared.JoinDependency.{JoinDependency}
use Rattle.query.specs.declared.CodePair.{CodePair}
use Rattle.query.specs.declared.Place.{Place}
use Rattle.record.specs.declared.Record.{Record}
use Rattle.record.specs.declared.Outcome.{Outcome}
use Rattle.record.specs.View.{schema_of}
use Rattle.record.specs.Rule.{good_record}
use Rattle.record.specs.Calls.{outcome_reply, add_code, add_dependency, add_join, put_query}
use Rattle.refusals.specs.Refusal.{reply_of}
use Rattle.record_calls.specs.Calls.{open_record, drop_query}
use Rattle.record_calls.proofs.Meaning.{open-keeps, drop_keeps}
use Rattle.record.specs.Meaning.{LeavesGood}
use Rattle.record.proofs.Meaning.{add-code-keeps, add-keeps, add-join-keeps, put_keeps}
use Rattle.record.proofs.Outcomes.{join-unfit}
use Rattle.parsing.proofs.Joins.{many-sets}
use Rattle.format.specs.File.{read_place}
use Rattle.record_on_files.specs.Records.{result_of, put_part}
use Rattle.record_on_files.specs.internal.Steps.{GoodIfDone}

-- A refused call has no record as its result, and promises nothing of one
pub refused-result : (o : Outcome) (n : ℕ) (r : Record) → outcome_reply o ≡ (refused n, r) → result_of (outcome_reply o) ≡ refused n
unfolding ◌>>=◌
refused-result o n r e = ap result_of e

pub refused-sound : (o : Outcome) (n : ℕ) (r : Record) → outcome_reply o ≡ (refused n, r) → GoodIfDone o
refused-sound o n r e a = absurd (refused-gives (sym (ap (λ (s : Reply (Unit {0}) × Record). s.0) e) ∙ ap reply_of a))

-- Where what a call says leaves a good record, the call does
says-sound : (o : Outcome) (said : Reply (Unit {0}) × Record) → outcome_reply o ≡ said → LeavesGood said → GoodIfDone o
says-sound o said e good a = subst LeavesGood (sym e) good (ap reply_of a)

pub open-sound : (widths : List ℕ) (o : Outcome) → outcome_reply o ≡ open_record widths → GoodIfDone o
open-sound widths o e = says-sound o (open_record widths) e (open-keeps widths)

module _ (r : Record) (good : good_record r ≡ true) where
  pub code-sound : (p : CodePair) (o : Outcome) → length r.codes ≡ 16 → outcome_reply o ≡ add_code r p → GoodIfDone o
  code-sound p o long e = says-sound o (add_code r p) e (add-code-keeps r p long)

  pub add-sound : (d : Dependency) (o : Outcome) → length r.dependencies ≡ 32 → outcome_reply o ≡ add_dependency r d → GoodIfDone o
  add-sound d o long e = says-sound o (add_dependency r d) e (add-keeps r d long)

  pub join-sound : (j : JoinDependency) (o : Outcome) → length r.joins ≡ 4 → outcome_reply o ≡ add_join r j → GoodIfDone o
  join-sound j o long e = says-sound o (add_join r j) e (add-join-keeps r j long)

  -- More than 4 sets are refused
  pub join-many : (j : JoinDependency) → 4 < j.count → (refused bad_join, r) ≡ add_join r j
  join-many j h = join-unfit r j good (many-sets (schema_of r) j h)

  pub drop-sound : (place : ℕ) (o : Outcome) → outcome_reply o ≡ drop_query r place → GoodIfDone o
  drop-sound place o e = says-sound o (drop_query r place) e (drop_keeps r place)

  pub put-sound : (place : ℕ) (q : Query) (o : Outcome) → outcome_reply o ≡ put_query r place q → GoodIfDone o
  put-sound place q o e = says-sound o (put_query r place q) e (put_keeps r place q)

  -- A query part is put where it is read and the place is not above 7
  pub part-above : (place : ℕ) (part : List ℕ) → 8 ≤ place → put_part place part r ≡ refused no_such_place
  part-above place part h = rw (le-ltb place 8 h)

  pub part-bad : (place : ℕ) (part : List ℕ) (n : ℕ) → place < 8 → read_place (schema_of r) true part ≡ refused n → put_part place part r ≡ refused n
  unfolding ◌>>=◌
  part-bad place part n h e = rw (lt-ltb place 8 h, e)

  pub part-read : (place : ℕ) (part : List ℕ) (p : Place) → place < 8 → read_place (schema_of r) true part ≡ gives p
      → put_part place part r ≡ result_of (put_query r place p.query)
  unfolding ◌>>=◌
  part-read place part p h e = rw (lt-ltb place 8 h, e)
