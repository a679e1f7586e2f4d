-- `leave_test` leaves the numbers of each case. Assumes nothing.
use mathlib.Core.Path.{◌≡◌, ap, ◌∙◌}
use Rattle.std.specs.Prelude.{Result, Option as Maybe, None, Some, Ok}
use Rattle.refusals.specs.declared.Refusal.{Refusal}
use Rattle.refusals.specs.Refusals.{Reply, gives}
use Rattle.refusals.specs.Refusal.{reply_of}
use Rattle.words.specs.declared.Violation.{Violation}
use Rattle.lent_numbers.proofs.Lent.{done-number, done-leaves, refused-number, refused-leaves, still-refused, goes_on}
use Rattle.lent_numbers.specs.Numbers.{TestNumbers, test_numbers}
use Rattle.lent_numbers.specs.internal.Results.{test_result}
use Rattle.lent_numbers.proofs.leave_test.Goals as goal

abbrev next : Maybe Violation → Reply TestNumbers
next v = gives (test_numbers v)

-- What is found by a pattern within a pattern
module _ (found : Result (Maybe Violation) Refusal) (v : Maybe Violation) (is : found ≡ Ok v) where
  found-none : v ≡ None → test_result found ≡ gives (test_numbers None)
  found-none e = goes_on (ap reply_of (is ∙ ap Ok e)) next

  found-some : (a b : Violation) → v ≡ Some a → a ≡ b → test_result found ≡ gives (test_numbers (Some b))
  found-some a b e same = goes_on (ap reply_of (is ∙ ap Ok (e ∙ ap Some same))) next

pub returns-in-Ok-None : goal.returns-in-Ok-None
returns-in-Ok-None c =
    let p = found-none c.args.tested _ c.in-Ok-None.is (rw c.in-Ok-None.is at c.in-Ok-None.field-0-is) in
    record {
      value = done-number p;
      verdict_after = done-leaves p (λ t. t.verdict) _;
      dependency_after = done-leaves p (λ t. t.dependency) _;
      first_after = done-leaves p (λ t. t.first) _;
      second_after = done-leaves p (λ t. t.second) _;
      third_after = done-leaves p (λ t. t.third) _;
      fourth_after = done-leaves p (λ t. t.fourth) _;
    }

pub returns-in-Ok-Some-Functional : goal.returns-in-Ok-Some-Functional
returns-in-Ok-Some-Functional c =
    let w = c.in-Ok-Some-Functional in
    let e : w.field-0 ≡ Some w.field-0-0 = rw w.is at w.field-0-is in
    let p = found-some c.args.tested w.field-0 w.is w.field-0-0 _ e (rw (w.is, e) at w.field-0-0-is) in
    record {
      value = done-number p;
      verdict_after = done-leaves p (λ t. t.verdict) _;
      dependency_after = done-leaves p (λ t. t.dependency) _;
      first_after = done-leaves p (λ t. t.first) _;
      second_after = done-leaves p (λ t. t.second) _;
      third_after = done-leaves p (λ t. t.third) _;
      fourth_after = done-leaves p (λ t. t.fourth) _;
    }

pub returns-in-Ok-Some-Join : goal.returns-in-Ok-Some-Join
returns-in-Ok-Some-Join c =
    let w = c.in-Ok-Some-Join in
    let e : w.field-0 ≡ Some w.field-0-0 = rw w.is at w.field-0-is in
    let p = found-some c.args.tested w.field-0 w.is w.field-0-0 _ e (rw (w.is, e) at w.field-0-0-is) in
    record {
      value = done-number p;
      verdict_after = done-leaves p (λ t. t.verdict) _;
      dependency_after = done-leaves p (λ t. t.dependency) _;
      first_after = done-leaves p (λ t. t.first) _;
      second_after = done-leaves p (λ t. t.second) _;
      third_after = done-leaves p (λ t. t.third) _;
      fourth_after = done-leaves p (λ t. t.fourth) _;
    }

pub returns-in-Err : goal.returns-in-Err
returns-in-Err c =
    let p = still-refused (ap reply_of c.in-Err.is) next in
    record {
      value = refused-number p;
      verdict_after = refused-leaves p (λ t. t.verdict) _;
      dependency_after = refused-leaves p (λ t. t.dependency) _;
      first_after = refused-leaves p (λ t. t.first) _;
      second_after = refused-leaves p (λ t. t.second) _;
      third_after = refused-leaves p (λ t. t.third) _;
      fourth_after = refused-leaves p (λ t. t.fourth) _;
    }
