-- `first_pair` is the first pair of rows that break the dependency.
-- Assumes nothing.
use mathlib.Core.Path.{◌≡◌, sym, ap, subst, ◌∙◌}
use mathlib.Core.List.{List}
use Prim.Native.Nat.{ℕ, ◌-◌, ◌+◌}
use native.Mathlib.Omega.{arith}
use lib.ListN.{length, take, drop}
use Rattle.testing.proofs.Superkeys.{key-none}
use Rattle.grouping.specs.declared.End.{End}
use Rattle.grouping.specs.declared.End.TheVariants.{Found}
use Rattle.query.specs.View.{dependency_of}
use Rattle.query.specs.declared.Dependency.{Dependency}
use Rattle.theory.specs.Codes.{CodePair}
use Rattle.codes.specs.internal.Codes.{codes_in}
use Rattle.words.specs.Words.{database_read}
use Rattle.words.specs.Testing.{first_pair_from}
use Rattle.words.specs.internal.Found.{pair_of, From}
use Rattle.words.specs.declared.Position.{Position}
use Rattle.words.proofs.Search.{pair_found, pair-later, pair-other, pair_end}
use Rattle.grouping.specs.internal.Groups.{Key}
use Rattle.grouping.specs.internal.Walked.{Skips, Ends}
use Rattle.grouping.proofs.Passing.{rest_all, skips-on}
use Rattle.testing.proofs.first_pair.Goals as goal

-- Where the walk is after a skip to a row
skipped : (C : List CodePair) (S X : List ℕ) (d : Dependency) (at i : ℕ) (r : End Position) (p : Position) → From S X at i
    → Ends C S (take (length X - at) (drop at X)) d r → r ≡ Found p
    → From S X (at + p.at) (i + p.number)
    × (first_pair_from (dependency_of d) i (database_read C S (drop at X)) ≡ first_pair_from (dependency_of d) (i + p.number)
    (database_read C S (drop (at + p.at) X)))
skipped C S X d at i r p f h e =
    skips-on C S X d at i p f
    (subst (λ (Y : List ℕ). Skips C S Y d p) (rest_all X at) (subst (Ends C S (take (length X - at) (drop at X)) d) e h).0)

pub returns-then-place-eq0 : goal.returns-then-place-eq0
returns-then-place-eq0 c = let a = c.args in
    let C = codes_in a.codes.now in
    let at = c.loop-place.place.at in
    let all : take (length a.words.now - at) (drop at a.words.now) ≡ a.words.now =
    rest_all a.words.now at ∙ ap (λ (n : ℕ). drop n a.words.now) c.if-place-eq0.true in
    let key = subst (λ (Y : List ℕ). Key (dependency_of a.d) (database_read C a.schema.now Y)) all c.in-Distinct.ensures.1 in
    (sym (ap pair_of (key-none (dependency_of a.d) 0 (database_read C a.schema.now a.words.now) key)), key)

pub returns-in-Some : goal.returns-in-Some
returns-in-Some c =
    let a = c.args in
    let C = codes_in a.codes.now in
    let l = c.loop-place in
    let p = c.in-Found.row in
    let k = skipped C a.schema.now a.words.now a.d l.place.at l.place.number c.skip.result p l.invariant.0 c.skip.ensures c.in-Found.is in
    sym (ap pair_of (l.invariant.1 ∙ k.1) ∙ pair_found C a.schema.now a.words.now (dependency_of a.d) (l.place.at + p.at) c.next.result
    (l.place.number + p.number) c.in-Some.second c.next.ensures (c.in-Some.ensures))

pub loop-place-preserved-in_default : goal.loop-place-preserved-in_default
loop-place-preserved-in_default c =
    let a = c.args in
    let C = codes_in a.codes.now in
    let l = c.loop-place in
    let p = c.in-Found.row in
    let n = c.next.ensures in
    let k = skipped C a.schema.now a.words.now a.d l.place.at l.place.number c.skip.result p l.invariant.0 c.skip.ensures c.in-Found.is in (
      record { inside = n.fits; counted = omega (arith, n.place, k.0.counted); good = n.good },
      l.invariant.1 ∙ k.1 ∙ pair-later C a.schema.now a.words.now (dependency_of a.d) (l.place.at + p.at) c.next.result (l.place.number + p.number) n
          c.in_default.ensures,
      c.skip.auto.heads ∙ l.invariant.2,
      c.skip.auto.nodes ∙ l.invariant.3,
    )

pub loop-place-preserved : goal.loop-place-preserved
loop-place-preserved c =
    let a = c.args in
    let C = codes_in a.codes.now in
    let l = c.loop-place in
    let p = c.in-Found.row in
    let n = c.next.ensures in
    let k = skipped C a.schema.now a.words.now a.d l.place.at l.place.number c.skip.result p l.invariant.0 c.skip.ensures c.in-Found.is in (
      record { inside = n.fits; counted = omega (arith, n.place, k.0.counted); good = n.good },
      l.invariant.1 ∙ k.1 ∙ pair-other C a.schema.now a.words.now (dependency_of a.d) (l.place.at + p.at) c.next.result (l.place.number + p.number) n
          c.if-words-first.false,
      c.skip.auto.heads ∙ l.invariant.2,
      c.skip.auto.nodes ∙ l.invariant.3,
    )

pub returns : goal.returns
returns c = let l = c.loop-place in
    let a = c.args in
    let C = codes_in a.codes.now in
    sym (ap pair_of (l.invariant.1 ∙ pair_end C a.schema.now a.words.now (dependency_of a.d) l.place.at l.place.number c.loop-place-test.false))
