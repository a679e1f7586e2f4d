-- A proof of each statement of `JoinTheorems` and of `Examples`. Most are proved in the files before; here they have the form in which they are stated.
-- Assumes nothing.
use mathlib.Core.Path.{refl, sym, subst}
use mathlib.Core.List.Memᴰ
use mathlib.Core.List.{[]}
use Rattle.theory.specs.Chase.{chase, first_found}
use Rattle.theory.specs.Codes.{WithoutOld}
use Rattle.theory.proofs.Chase.{chase-chases}
use Rattle.theory.proofs.Codes.{database-read, current-database}
use Rattle.minimization.specs.Checking.{same_row}
use Rattle.minimization.proofs.Checking.{same_row-eq, same_row-self}
use Rattle.joins.specs.JoinChase.{without_repeats, first_unmet, next_row, chased, JoinChases, complete}
use Rattle.joins.specs.JoinChase.{join_chase}
use Rattle.joins.specs.JoinTheorems as joins
use Rattle.joins.specs.Examples as examples
use Rattle.joins.proofs.Repeats.{snoc-there, snoc_new}
use Rattle.joins.proofs.Choices.{choices-of, choice-tried, consistent-true, true-consistent, missing-exact}
use Rattle.joins.proofs.Obeying.{obeys-join-exact}
use Rattle.joins.proofs.JoinChase.{joins-computed, joins-unique, joins-answers, joins-mapping, joins-wellformed}
use Rattle.joins.proofs.JoinChase.{joins-head-length, joins-length, joins-current}
use Rattle.joins.proofs.Containment.{chased-stands-as-read, contained-exact-as-read, chased-counterexample-as-read}
use Rattle.joins.proofs.Containment.{chase-computed, chased-legal, chased-stands, contained-exact, contained-obeying, chased-counterexample}
use Rattle.joins.proofs.Containment.{contained-computed, not-contained-computed}
use Rattle.joins.proofs.Fitting.{join_fits-exact}
use Rattle.joins.proofs.Examples.{examples-meaning, yields-first, first-choice, no-choice, overflow-decides, fits_not}
use Rattle.joins.proofs.Order.{first_pick-first, first_pick-along, next_row-first, consistent-pairs, first_missing-earliest, cut-enough}

-- ---- the chase ends, in one way

pub join-chase-ends : joins.JoinChaseEnds
join-chase-ends widths ds js limit q fit = (join_chase widths ds js limit q, joins-computed widths ds js limit fit q)

pub join-chase-unique : joins.JoinChaseUnique
join-chase-unique widths ds js limit q one other = joins-unique widths ds js limit

pub join-chase-computes : joins.JoinChaseComputes
join-chase-computes = chase-computed

-- With no join dependency the first round is the last
pub without-joins : joins.WithoutJoins
unfolding next_row first_unmet first_found without_repeats
without-joins widths ds limit q outcome =
    let only : JoinChases widths ds [] limit q (chased (chase ds q).query) = complete (chase-chases ds q) refl in
    (λ c. joins-unique widths ds [] limit c only, λ same. subst (JoinChases widths ds [] limit q) (sym same) only)

-- ---- answers

pub join-chase-keeps-answers : joins.JoinChaseKeepsAnswers
join-chase-keeps-answers widths ds js limit q result fit c = joins-answers fit c

pub never-means-no-answers : joins.NeverMeansNoAnswers
never-means-no-answers widths ds js limit q result fit c empty D obeys t a = ((joins-answers fit c D obeys t).0 a).1.not-never empty

pub join-chase-maps : joins.JoinChaseMaps
join-chase-maps widths ds js limit q result fit c = joins-mapping fit c

-- ---- the chased query

pub join-chased-legal : joins.JoinChasedLegal
join-chased-legal = chased-legal

pub join-chased-well-formed : joins.JoinChasedWellFormed
join-chased-well-formed widths ds js limit q result fit c well = (joins-wellformed fit c well, joins-head-length c)

pub join-chased-length : joins.JoinChasedLength
join-chased-length widths ds js limit q result most c = joins-length most c

-- ---- containment

pub join-chased-stands : joins.JoinChasedStands
join-chased-stands = chased-stands

pub join-contained-exactly : joins.JoinContainedExactly
join-contained-exactly = contained-exact

pub join-contained-obeying : joins.JoinContainedObeying
join-contained-obeying = contained-obeying

pub join-chased-counterexample : joins.JoinChasedCounterexample
join-chased-counterexample = chased-counterexample

pub join-contained-computes : joins.JoinContainedComputes
join-contained-computes = contained-computed

pub join-not-contained-computes : joins.JoinNotContainedComputes
join-not-contained-computes = not-contained-computed

-- ---- where constants were renumbered

pub join-chase-current : joins.JoinChaseCurrent
join-chase-current ps widths ds js limit q result fit = joins-current fit ps

pub legal-for-both-as-read-exactly : joins.LegalForBothAsReadExactly
legal-for-both-as-read-exactly ps widths ds js D stay = (
  λ as_read. (as_read.legal, current-database ps D as_read.current),
  λ both. record { legal = both.0; current = subst (WithoutOld ps) both.1 (database-read ps D stay) },
)

pub join-chased-stands-as-read : joins.JoinChasedStandsAsRead
join-chased-stands-as-read = chased-stands-as-read

pub join-contained-exactly-as-read : joins.JoinContainedExactlyAsRead
join-contained-exactly-as-read = contained-exact-as-read

pub join-chased-counterexample-as-read : joins.JoinChasedCounterexampleAsRead
join-chased-counterexample-as-read = chased-counterexample-as-read

-- ---- the order of search

pub first-pick-is-first : joins.FirstPickIsFirst
first-pick-is-first A = first_pick-first

pub first-pick-along : joins.FirstPickAlong
first-pick-along A B = first_pick-along

pub next-row-is-first : joins.NextRowIsFirst
next-row-is-first = next_row-first

pub choices-exactly : joins.ChoicesExactly
choices-exactly sets rows choice = (choices-of sets rows choice, choice-tried sets rows choice)

pub consistent-exactly : joins.ConsistentExactly
consistent-exactly widths j choice = (consistent-true widths j choice, true-consistent widths j choice)

pub missing-exactly : joins.MissingExactly
missing-exactly widths j rows choice = missing-exact widths j choice rows

pub consistent-pairwise : joins.ConsistentPairwise
consistent-pairwise = consistent-pairs

pub earliest-are-enough : joins.EarliestEnough
earliest-are-enough = first_missing-earliest

pub cut-is-enough : joins.CutEnough
cut-is-enough = cut-enough

-- ---- repeated rows

pub repeats-go : joins.RepeatsGo
repeats-go rows r = (snoc-there same_row same_row-eq same_row-self rows r, snoc_new same_row same_row-eq same_row-self rows r)

-- ---- databases

pub obeys-without-joins : joins.ObeysWithoutJoins
obeys-without-joins widths ds D =
    (λ both. both.functional, λ functional. record { functional = functional; joins = λ j held. absurd (Memᴰ.not-nil held) })

pub join-fits-exactly : joins.JoinFitsExactly
join-fits-exactly = join_fits-exact

pub obeys-join-exactly : joins.ObeysJoinExactly
obeys-join-exactly widths j D fits sound = obeys-join-exact widths j fits D sound

-- ---- the examples

pub examples-mean : examples.ExamplesMean
examples-mean = examples-meaning

pub the-first-set-counts : examples.YieldsFirst
the-first-set-counts = yields-first

pub the-first-choice : examples.ChoiceFound
the-first-choice = first-choice

pub no-missing-choice : examples.NoChoice
no-missing-choice = no-choice

pub an-overflow-decides : examples.OverflowDecides
an-overflow-decides = overflow-decides

pub what-does-not-fit : examples.FitsNot
what-does-not-fit = fits_not
