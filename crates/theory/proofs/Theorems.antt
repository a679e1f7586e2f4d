-- A proof of each statement of specs/, file by file: `AnswerTheorems`, `OrderTheorems`, `ChaseTheorems`, `CodeTheorems`. Most are proved in the files before; here they
-- have the form in which they are stated.
-- Assumes nothing.
use mathlib.Core.Path.{◌≡◌, refl, sym, ◌∙◌, ap, subst}
use mathlib.Core.Logic.{◌⊎◌, inl, inr, ⊎_elim}
use mathlib.Core.Bool.{true≢false}
use mathlib.Core.List.Memᴰ
use mathlib.Core.List.{List, [], ◌∷◌, map}
use mathlib.Core.Option.{none, some}
use Prim.Native.Nat.{ℕ, suc, ◌+◌}
use native.Mathlib.Omega.{arith}
use lib.ListN.{length, length-map}
use Rattle.theory.specs.Query.{Query, never, map_row, map_query, variable_count, member, ◌∈◌}
use Rattle.theory.specs.Database.{Dependency}
use Rattle.theory.specs.Answer.{value_of, itself}
use Rattle.theory.specs.Chase.{first_pair, breaks, first_broken, clash, substitute, step, Chases, rests, clashes, replaces, chase}
use Rattle.theory.specs.Codes.{CodePair, read_code, read_head, read_query, read_database, WithoutOld}
use Rattle.theory.specs.AnswerTheorems as answers
use Rattle.theory.specs.OrderTheorems as order
use Rattle.theory.specs.ChaseTheorems as chases
use Rattle.theory.specs.CodeTheorems as codes
use Rattle.theory.specs.ChaseTheorems.{Replacements, start, next, RestsAfter, ClashesAfter}
use Rattle.theory.proofs.Lists.{option_cases, map-empty, mem-cases}
use Rattle.theory.proofs.Step.{breaks-broken, broken-breaks, first_broken-found, first_broken-nothing, step-found, step-nothing, step-rests, step-never}
use Rattle.theory.proofs.Order.{first_pair-first, first_pair-no-pair, first_found-first}
use Rattle.theory.proofs.Survivor.{constant-survives, head-survives, lower-survives, constants-clash}
use Rattle.theory.proofs.Replacement.{step_count}
use Rattle.theory.proofs.Carry.{carries-more, mapping-target}
use Rattle.theory.proofs.Chase.{chase-chases, chases-unique, chased-by, chases-count-le, chases-answers, chases-mapping, chases-rests}
use Rattle.theory.proofs.Chase.{chases-wellformed, chases-head-length, chases-rows-fit, chases-constants, rests-obeys}
use Rattle.theory.proofs.Containment.{answer-along, frozen-sound}
use Rattle.theory.proofs.Codes.{read-twice, read-is-current, others-stay, old-is-read, database-read, current-database, query-read, current-query}
use Rattle.theory.proofs.Codes.{read-rows-fit, read-length, read-head-length, read-head-variables, read-row-variables, read-variables}
use Rattle.theory.proofs.Codes.{read-one-more, answer-current, chases-current, frozen-current}

-- ---- answers

pub never-has-no-answer : answers.NeverHasNoAnswer
never-has-no-answer D q t empty a = a.1.not-never empty

pub answer-length : answers.AnswerLength
answer-length D q t a = ap length (sym a.1.to-head) ∙ length-map q.head (value_of itself a.0)

pub empty-head : answers.EmptyHead
empty-head D q t empty a = sym a.1.to-head ∙ ap (map (value_of itself a.0)) empty

pub only-rows-count : answers.OnlyRowsCount
only-rows-count D E same = (
  λ q t. (
    λ a. (a.0, carries-more itself a.0 q D E t (λ r at. (same r).0 at) a.1),
    λ a. (a.0, carries-more itself a.0 q E D t (λ r at. (same r).1 at) a.1),
  ),
  λ ds. (
    λ obeys d held r s at at'. obeys d held r s ((same r).1 at) ((same s).1 at'),
    λ obeys d held r s at at'. obeys d held r s ((same r).0 at) ((same s).0 at'),
  ),
  λ widths. (λ sound r at. sound r ((same r).1 at), λ sound r at. sound r ((same r).0 at)),
)

pub own-width : answers.OwnWidth
own-width = (omega arith, refl)

nothing : {c : ℕ} → c ∈ [] → {B : Type 0} → B
nothing at = elim at [ ]

pub no-left-column : answers.NoLeftColumn
no-left-column d D no-left = (
  λ obeys r s at at' is is'. obeys r s at at' is is' (λ c there. nothing (subst (λ (cs : List ℕ). c ∈ cs) no-left there)),
  λ same r s at at' is is' agree. same r s at at' is is',
)

pub never-has-no-mapping : answers.NeverHasNoMapping
never-has-no-mapping S T f = (f.1.carries.not-never, mapping-target S T f)

pub mapping-gives-answers : answers.MappingGivesAnswers
mapping-gives-answers S T f D t = answer-along D S T f t

-- ---- the order of search

pub first-pair-is-first : order.FirstPairIsFirst
first-pair-is-first A = first_pair-first

pub no-pair-found : order.NoPairFound
no-pair-found A = first_pair-no-pair

pub first-found-is-first : order.FirstFoundIsFirst
first-found-is-first D A = first_found-first

pub breaks-exactly : order.BreaksExactly
breaks-exactly d r s = (breaks-broken d r s, broken-breaks d r s)

pub step-is-first : order.StepIsFirst
unfolding first_broken
step-is-first ds q o is =
    let what = step-found ds q o is in
    let found = what.0 in
    let first = first_found-first (λ d. first_pair (breaks d) q.rows) ds found.0 found.1 what.1 in
    record {
      dependency = found.0;
      first = found.1.0;
      second = found.1.1;
      held = first;
      pair = first_pair-first (breaks found.0) q.rows found.1.0 found.1.1 first.found;
      leads = sym what.2;
    }

-- ---- the chase

pub chase-ends : chases.ChaseEnds
chase-ends ds q = ((chase ds q).query, (chase ds q).count, chase-chases ds q)

pub chase-unique : chases.ChaseUnique
chase-unique ds q r s m n c d =
    let one = chases-unique ds q r m c in
    let other = chases-unique ds q s n d in
    (one.0 ∙ sym other.0, one.1 ∙ sym other.1)

pub chase-computes : chases.ChaseComputes
chase-computes ds q result count = (chased-by, λ same. subst (λ c. Chases ds q c.query c.count) same (chase-chases ds q))

pub rests-exactly : chases.RestsExactly
rests-exactly ds q = (
  λ resting d held r s at at' broken. broken.differ-right
      (first_broken-nothing ds q.rows (step-nothing ds q resting) d held r s at at' broken.first-relation broken.second-relation broken.agree_left),
  λ unbroken. step-rests ds q (option_cases _ (λ found is.
      let what = first_broken-found ds q.rows found is in
      absurd (unbroken found.0 what.0 found.1.0 found.1.1 what.1 what.2 what.3)) (λ nothing. nothing)),
)

-- A chase by its replacements
cases_of : {ds : List Dependency} {q result : Query} {count : ℕ} → Chases ds q result count
    → RestsAfter ds q result count ⊎ (ClashesAfter ds q count × (result ≡ never (length q.head)))
cases_of (rests is) = inl (start, is)
cases_of {q} (clashes is) = inr ((q, start, is), refl)
cases_of {ds} {q} {result} (replaces {v} {count} {e} is c) = go (cases_of c)
  where
    go : RestsAfter ds (map_query (substitute v e) q) result count
        ⊎ (ClashesAfter ds (map_query (substitute v e) q) count × (result ≡ never (length (map_query (substitute v e) q).head)))
        → RestsAfter ds q result (suc count) ⊎ (ClashesAfter ds q (suc count) × (result ≡ never (length q.head)))
    go (inl r) = inl (next is r.0, r.1)
    go (inr r) = inr ((r.0.0, next is r.0.1, r.0.2), r.1 ∙ ap never (length-map q.head (substitute v e)))

rests-chases : {ds : List Dependency} {q last : Query} {n : ℕ} → Replacements ds q n last → step ds last ≡ none → Chases ds q last n
rests-chases start resting = rests resting
rests-chases (next is later) resting = replaces is (rests-chases later resting)

clash-chases : {ds : List Dependency} {q last : Query} {n : ℕ} → Replacements ds q n last → step ds last ≡ some clash → Chases ds q (never (length q.head)) n
clash-chases start is = clashes is
clash-chases {ds} {q} (next {v} {n} {e} is' later) is =
    subst (λ size. Chases ds q (never size) (suc n)) (length-map q.head (substitute v e)) (replaces is' (clash-chases later is))

pub count-cases : chases.CountCases
count-cases ds q result count = (cases_of, back)
  where
    back : RestsAfter ds q result count ⊎ (ClashesAfter ds q count × (result ≡ never (length q.head))) → Chases ds q result count
    back (inl r) = rests-chases r.0 r.1
    back (inr r) = subst (λ T. Chases ds q T count) (sym r.1) (clash-chases r.0.1 r.0.2)

-- Each replacement takes away one variable
replacements-count : {ds : List Dependency} {q last : Query} {n : ℕ} → Replacements ds q n last → n + variable_count last ≡ variable_count q
replacements-count start = omega arith
replacements-count {ds} {q} (next {v} {n} {e} is later) = let rest = replacements-count later in omega (arith, rest, step_count ds q v e is)

pub count-without-clash : chases.CountWithoutClash
count-without-clash ds q result count r = replacements-count r.0

pub count-at-most : chases.CountAtMost
count-at-most ds q result count c = chases-count-le c

pub never-stays : chases.NeverStays
never-stays ds q empty = rests (step-never ds q empty)

-- Replacements leave no query without rows
replacements-rows : {ds : List Dependency} {q last : Query} {n : ℕ} → Replacements ds q n last → last.rows ≡ [] → q.rows ≡ []
replacements-rows start empty = empty
replacements-rows {q} (next {v} {e} is later) empty = map-empty (map_row (substitute v e)) q.rows (replacements-rows later empty)

pub never-exactly : chases.NeverExactly
never-exactly ds q result count c = (λ empty. ⊎_elim (λ r. inl (replacements-rows r.0 empty)) (λ r. inr r.0) (cases_of c), back)
  where
    back : (q.rows ≡ []) ⊎ ClashesAfter ds q count → result.rows ≡ []
    back (inl empty) = ap (λ T. T.rows) (chase-unique ds q result q count 0 c (never-stays ds q empty)).0 ∙ empty
    back (inr r) = ap (λ T. T.rows) (chase-unique ds q result (never (length q.head)) count count c (clash-chases r.1 r.2)).0

pub chase-keeps-answers : chases.ChaseKeepsAnswers
chase-keeps-answers ds q result count c = chases-answers c

pub clash-means-no-answers : chases.ClashMeansNoAnswers
clash-means-no-answers ds q count c D obeys t a = ((chases-answers (clash-chases c.1 c.2) D obeys t).0 a).1.not-never refl

pub chase-maps : chases.ChaseMaps
chase-maps ds q result count c = chases-mapping c

pub chased-well-formed : chases.ChasedWellFormed
chased-well-formed widths ds q result count c well = (chases-wellformed widths c well, chases-head-length c)

pub chased-legal : chases.ChasedLegal
chased-legal widths ds q result count base c fit positive below = record {
  sound = frozen-sound widths base result (chases-rows-fit widths c fit);
  obeys = rests-obeys ds result base (chases-rests c) positive (chases-constants base positive c below);
}

pub a-constant-survives : chases.ConstantSurvives
a-constant-survives = constant-survives

pub a-head-variable-survives : chases.HeadSurvives
a-head-variable-survives = head-survives

pub the-lower-survives : chases.LowerSurvives
the-lower-survives = lower-survives

pub two-constants-clash : chases.ConstantsClash
two-constants-clash = constants-clash

-- ---- constants that were renumbered

pub reading-twice : codes.ReadTwice
reading-twice = read-twice

pub what-is-read-is-current : codes.ReadIsCurrent
what-is-read-is-current = read-is-current

pub other-numbers-stay : codes.OthersStay
other-numbers-stay = others-stay

pub an-old-code-is-read : codes.OldIsRead
an-old-code-is-read ps before after p is out = ap (λ l. read_code l p.old) is ∙ old-is-read before after p out

pub stay-example : codes.StayExample
unfolding member
stay-example = (
  λ p at. mem-cases at (λ here. ap (λ (p : CodePair). member p.current (5 ∷ 6 ∷ [])) here)
      (λ later. mem-cases later (λ here. ap (λ (p : CodePair). member p.current (5 ∷ 6 ∷ [])) here) (λ none. absurd (Memᴰ.not-nil none))),
  λ stay. true≢false (stay _ (Memᴰ.head refl)),
)

pub a-database-is-read : codes.DatabaseRead
a-database-is-read = database-read

pub a-current-database-stays : codes.CurrentDatabase
a-current-database-stays = current-database

pub legal-as-read-exactly : codes.LegalAsReadExactly
legal-as-read-exactly ps widths ds D stay = (
  λ as_read. (as_read.legal, current-database ps D as_read.current),
  λ both. record { legal = both.0; current = subst (WithoutOld ps) both.1 (database-read ps D stay) },
)

pub database-example : codes.DatabaseExample
unfolding read_code
database-example = refl

pub a-query-is-read : codes.QueryRead
a-query-is-read = query-read

pub a-current-query-stays : codes.CurrentQuery
a-current-query-stays = current-query

pub read-well-formed : codes.ReadWellFormed
read-well-formed ps widths q well = record {
  rows_fit = read-rows-fit ps widths q well.rows_fit;
  head-safe = λ v at.
      subst (λ vs. v ∈ vs) (sym (read-row-variables ps q)) (well.head-safe v (subst (λ vs. v ∈ vs) (read-head-variables ps q) at));
}

pub read-fits : codes.ReadRowsFit
read-fits = read-rows-fit

pub read-lengths : codes.ReadLengths
read-lengths ps q = (read-length ps q, read-head-length ps q)

pub reading-keeps-variables : codes.ReadVariables
reading-keeps-variables = read-variables

pub query-example : codes.QueryExample
unfolding read_code read_head
query-example = refl

pub nothing-read : codes.NothingRead
unfolding member
nothing-read = (
  λ q. current-query [] q (record { of-head = λ some n at. refl; of-rows = λ n at. refl }),
  λ D. current-database [] D (λ r at n there. refl),
)

pub answers-current : codes.AnswersCurrent
answers-current ps widths D q t stay well =
    answer-current ps (read_database ps D) (read_query ps q) t (database-read ps D stay) (query-read ps q stay) (read-well-formed ps widths q well).head-safe

pub chase-current : codes.ChaseCurrent
chase-current ps widths ds q fit = chases-current ps widths fit (chase-chases ds q)

pub frozen-is-current : codes.FrozenCurrent
frozen-is-current = frozen-current

pub read-one-pair-more : codes.ReadOneMore
read-one-pair-more = read-one-more
