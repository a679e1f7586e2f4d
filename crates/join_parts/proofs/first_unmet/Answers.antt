-- `first_unmet` is the first join dependency with a choice, and its first. Invariant: the search from join dependency k on finds what the whole search finds.
-- Assumes nothing.
use mathlib.Core.Path.{◌≡◌, sym, ap, subst, ◌∙◌}
use mathlib.Core.List.{List, [], ◌∷◌, map}
use Prim.Native.Nat.{ℕ, ◌+◌, ◌<◌}
use lib.ListN.{length, drop, get_or, drop_of_length-le}
use Rattle.theory.specs.Database as database
use Rattle.query.specs.View.{join_of}
use Rattle.query.specs.Rule.{no_join}
use Rattle.query.specs.declared.JoinDependency.{JoinDependency}
use lib.Seq.{drop-cons}
use native.Mathlib.Numerals.{add-one}
use Rattle.lists.proofs.Loops.{get_or_any}
use Rattle.join_testing.specs.Unmet.{first_unmet_from, unmet_of}
use Rattle.join_tables.specs.internal.Indexed.{Searchable}
use Rattle.join_testing.proofs.Finding.{unmet-found, unmet-later, unmet-end}
use Rattle.join_parts.proofs.first_unmet.Goals as goal
use Rattle.codes.specs.internal.Codes.{codes_in}
use Rattle.words.specs.Words.{database_read}
use Rattle.join_parts.proofs.first_unmet.Goals.{In-loop-k}

-- What an array that is read past its end gives

abbrev unread : JoinDependency
unread = record { relation = 0; count = 0; sets = [] }

-- Those from join dependency k on are join dependency k and the later ones
drop-more : (js : List JoinDependency) (k : ℕ) → k < length js → drop k js ≡ get_or js k unread ∷ drop (k + 1) js
drop-more js k h = rw add-one (drop-cons js k unread h)

-- The search from join dependency k on, by join dependency k and the later ones
onward : (c : In-loop-k)
    → first_unmet_from 0 c.args.schema.now (map join_of c.args.joins.now) (database_read (codes_in c.args.codes.now) c.args.schema.now c.args.words.now)
    ≡ first_unmet_from c.loop-k.k c.args.schema.now (join_of (get_or c.args.joins.now c.loop-k.k unread)
    ∷ map join_of (drop (c.loop-k.k + 1) c.args.joins.now)) (database_read (codes_in c.args.codes.now) c.args.schema.now c.args.words.now)
onward c = let s = c in
    let a = s.args in
    let l = c.loop-k in
    l.invariant.0
    ∙ ap (λ (x : List database.JoinDependency). first_unmet_from l.k a.schema.now x (database_read (codes_in a.codes.now) a.schema.now a.words.now))
    (ap (map join_of) (drop-more a.joins.now l.k c.loop-k-test.true))

pub first_choice-found-requires : goal.first_choice-found-requires
first_choice-found-requires c = let s = c in
    let k = c.loop-k.k in
    let low = c.loop-k-test.true in
    subst (Searchable s.args.schema.now s.args.words.now) (get_or_any s.args.joins.now k no_join unread low)
    (s.requires k low)

pub returns-in-Some : goal.returns-in-Some
returns-in-Some c = let a = c.args in
    let k = c.loop-k.k in
    sym (ap unmet_of (onward (goal.at.returns-in-Some c).In-loop-k)
    ∙ unmet-found a.schema.now (database_read (codes_in a.codes.now) a.schema.now a.words.now) (join_of (get_or a.joins.now k unread))
    (map join_of (drop (k + 1) a.joins.now)) k c.in-Some.rows (sym c.in-Some.is ∙ c.first_choice-found.ensures))

pub loop-k-preserved : goal.loop-k-preserved
loop-k-preserved c = let l = c.loop-k in
    let a = c.args in (
      onward (goal.at.loop-k-preserved c).In-loop-k
          ∙ unmet-later a.schema.now (database_read (codes_in a.codes.now) a.schema.now a.words.now) (join_of (get_or a.joins.now l.k unread))
          (map join_of (drop (l.k + 1) a.joins.now)) l.k (sym c.in_default.is ∙ c.first_choice-found.ensures),
      c.first_choice-found.auto.nodes ∙ l.invariant.1,
      c.first_choice-found.auto.heads ∙ l.invariant.2,
    )

pub returns : goal.returns
returns c = let l = c.loop-k in
    let e = c in
    let a = c.args in
    sym (ap unmet_of (l.invariant.0
    ∙ ap (λ (x : List database.JoinDependency). first_unmet_from l.k a.schema.now x (database_read (codes_in a.codes.now) a.schema.now a.words.now))
    (ap (map join_of) (drop_of_length-le a.joins.now {i = l.k} e.loop-k-test.false))
    ∙ unmet-end a.schema.now (database_read (codes_in a.codes.now) a.schema.now a.words.now) l.k))
