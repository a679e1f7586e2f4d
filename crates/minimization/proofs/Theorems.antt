-- A proof of each statement of `ContainmentTheorems`, `ReductionTheorems` and of the table of `Examples`. Most are proved in the files before; here they have
-- the form in which they are stated.
-- Assumes nothing.
use mathlib.Core.Path.{sym, subst}
use native.Mathlib.Omega.{arith}
use mathlib.Core.Logic.{inl, inr}
use Rattle.minimization.specs.Search.{contained}
use Rattle.minimization.specs.Examples.{ExamplesMean}
use Rattle.minimization.specs.ContainmentTheorems as containment
use Rattle.minimization.specs.ReductionTheorems as reduction
use Rattle.theory.proofs.Lists.{bool_cases}
use Rattle.theory.proofs.Chase.{freeze-injective}
use Rattle.theory.specs.Database.{Legal}
use Rattle.theory.proofs.Containment.{contained-iff, counterexample, contained-over, counterexample-over}
use Rattle.minimization.proofs.Reduction.{core-repeats, reduction-answers, reduction-rival, reduction-minimal, reduction-minimal-over}
use Rattle.minimization.proofs.Reduction.{reduction-same-size, result-current, reduction-minimal-current, minimal-as-read}
use Rattle.minimization.specs.Reduction.{Rival}
use Rattle.minimization.specs.Kept.{reduced}
use Rattle.theory.specs.Codes.{read_query, LegalAsRead}
use Rattle.theory.proofs.Codes.{current-query, query-read, read-length}
use Rattle.minimization.proofs.Reduction.{reduction-mapping, reduction-never, reduction-wellformed, reduction-length, reduction-reordered}
use Rattle.minimization.proofs.Reduction.{shrinks-reduction, reduction-shrinks}
use Rattle.minimization.proofs.Search.{mappable-exact, contained-exact, contained-false, both_below}
use Rattle.minimization.proofs.Kept.{reduced-reduction}
use Rattle.minimization.proofs.Order.{reduced-order}
use Rattle.minimization.proofs.Examples.{examples-meaning}

-- ---- containment

pub contained-exactly : containment.ContainedExactly
contained-exactly widths ds p q fit =
    let common = both_below p q in
    let theorem = contained-iff widths ds p q common.0 fit common.2 common.3 common.1 in
    (theorem.1, theorem.0)

pub chased-counterexample : containment.ChasedCounterexample
chased-counterexample widths ds p q base fit below_p below_q positive neither =
    counterexample widths ds p q base fit below_p below_q positive (λ empty. neither (inl empty)) (λ f. neither (inr f))

pub counterexample-refutes : containment.CounterexampleRefutes
counterexample-refutes C p q D t c all = c.no_answer (all D c.within t c.answer)

pub freeze-apart : containment.FreezeApart
freeze-apart = freeze-injective

pub mappable-exactly : containment.MappableExactly
mappable-exactly = mappable-exact

pub contained-computes : containment.ContainedComputes
contained-computes = contained-exact

pub not-contained-computes : containment.NotContainedComputes
not-contained-computes widths ds p q fit = (
  contained-false widths ds p q fit,
  λ shown. bool_cases (contained ds p q)
      (λ is. absurd (counterexample-refutes (Legal widths ds) p q shown.0 shown.1 shown.2 ((contained-exact widths ds p q fit).0 is))) (λ is. is),
)

pub contained-over-exactly : containment.ContainedOverExactly
contained-over-exactly = contained-over

pub chased-counterexample-over : containment.ChasedCounterexampleOver
chased-counterexample-over = counterexample-over

-- ---- reduction

pub result-exists : reduction.ResultExists
result-exists ds S = (_, reduced-reduction ds S)

pub reduced-is-result : reduction.ReducedIsResult
reduced-is-result = reduced-reduction

pub reduced-ascends : reduction.ReducedAscends
reduced-ascends = reduced-order

pub results-exactly : reduction.ResultsExactly
results-exactly ds S T = (
  reduction-shrinks ds S T,
  λ shrunk.
      let order = shrunk.2 in
      reduction-reordered ds S shrunk.0 T (record { head = sym order.head; into = order.back; back = order.into; size = sym order.size })
      (shrinks-reduction ds S shrunk.0 shrunk.1),
)

pub result-keeps-answers : reduction.ResultKeepsAnswers
result-keeps-answers = reduction-answers

pub result-minimal : reduction.ResultMinimal
result-minimal = reduction-minimal

pub result-is-rival : reduction.ResultIsRival
result-is-rival widths ds S T result = reduction-rival ds S T result (Legal widths ds) (λ D legal. legal.obeys)

pub result-minimal-over : reduction.ResultMinimalOver
result-minimal-over = reduction-minimal-over

pub results-same-size : reduction.ResultsSameSize
results-same-size = reduction-same-size

pub result-maps : reduction.ResultMaps
result-maps = reduction-mapping

pub result-never : reduction.ResultNever
result-never = reduction-never

pub result-without-repeats : reduction.ResultWithoutRepeats
result-without-repeats ds S T result = core-repeats T result.core

pub result-well-formed : reduction.ResultWellFormed
result-well-formed widths ds S T result = (λ well. reduction-wellformed widths ds S T well result, reduction-length ds S T result)

-- ---- where constants were renumbered

pub a-result-is-current : reduction.ResultCurrent
a-result-is-current ps widths ds S T fit without result = result-current widths ds S T fit result ps without

pub reduced-is-current : reduction.ReducedCurrent
reduced-is-current ps widths ds S fit without = result-current widths ds S (reduced ds S) fit (reduced-reduction ds S) ps without

pub reduced-minimal-as-read : reduction.ReducedMinimalAsRead
reduced-minimal-as-read ps widths ds S T fit without result =
    minimal-as-read ps (LegalAsRead ps widths ds) S T (reduction-minimal-current widths ds S T fit result ps without)

pub reduced-rival-as-read : reduction.ReducedRivalAsRead
reduced-rival-as-read ps widths ds S T fit without result =
    subst (Rival (LegalAsRead ps widths ds) S) (sym (current-query ps T (result-current widths ds S T fit result ps without)))
    (reduction-rival ds S T result (LegalAsRead ps widths ds) (λ D within. within.legal.obeys))

pub minimal-as-read-exactly : reduction.MinimalAsReadExactly
minimal-as-read-exactly ps C S T stay = (
  λ minimal R without rival. minimal R (subst (Rival C S) (sym (current-query ps R without)) rival),
  λ all R rival. omega (arith, all (read_query ps R) (query-read ps R stay) rival, read-length ps R),
)

-- ---- the examples

pub examples-mean : ExamplesMean
examples-mean = examples-meaning
