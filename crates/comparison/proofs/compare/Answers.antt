-- `comparison::compare` meets its contract: the refusals are those of two places, the rest is the comparison of the queries stored there. Assumes nothing.
use mathlib.Core.Path.{sym, ap, ◌∙◌}
use Prim.Native.Nat.{ℕ}
use Rattle.comparison.specs.Comparison.{pair_refusal}
use Rattle.std.proofs.lemmas.Result.{err_from_is_err_and}
use Rattle.refusals.specs.Refusal.{number_of, reply_of}
use Rattle.refusals.proofs.Refusals.{reply-refused}
use Rattle.comparison.proofs.Pairs.{compare-pair}
use Rattle.comparison.proofs.Verdicts.{compared-refused}
use Rattle.comparison.proofs.Answers.{places-compared}
use Rattle.comparison.proofs.compare.Goals as goal

pub returns-in_err-first-clause-compared : goal.returns-in_err-first-clause-compared
returns-in_err-first-clause-compared c =
    let given = c.args.given in
    let p = c.args.p in
    let q = c.args.q in
    let n = c.in_err-first.field-0.0 in
    let left = err_from_is_err_and c.from_residual.result c.from_residual.ensures.1 in
    rw (left.1, left.2)
    (compared-refused given p q n
    (compare-pair given p q (number_of n)
    (reply-refused {A = ℕ × ℕ} (pair_refusal given p q) (p, q) (number_of n) (sym c.filled_pair.ensures ∙ ap reply_of c.in_err-first.was))))

pub returns-clause-compared : goal.returns-clause-compared
returns-clause-compared c =
    let a = c.args in
    places-compared a.given a.p a.q _ _ (sym c.filled_pair.ensures ∙ ap reply_of c.in_ok-first.was) _
    c.compare_places.ensures.compared
