-- A functional dependency at the front of some bytes, by tests on them.
use mathlib.Core.Path.{◌≡◌}
use mathlib.Core.Bool.{Bool, true, false}
use mathlib.Core.List.{List}
use Prim.Native.Nat.{ℕ, ◌≤◌, ◌<◌}
use lib.ListN.{length, drop}
use borrow.Author.Tests.{le-leb, lt-leb}
use Rattle.query.specs.Rule.{good_dependency}
use Rattle.format.specs.Format.{none, got, got_if}
use Rattle.format.specs.Parts.{dependency, dependency_at}
use Rattle.parsing.proofs.Values.{if-good, if-bad}

module _ (schema s : List ℕ) where
  pub dependency-short : length s < 3 → none ≡ (dependency schema).get s
  unfolding dependency got_if
  dependency-short h = rw (lt-leb 3 (length s) h)

  module _ (h : 3 ≤ length s) (r : Bool) (e : r ≡ good_dependency schema (dependency_at s)) where
    dependency_is : (dependency schema).get s ≡ got_if r (dependency_at s) (drop 3 s)
    unfolding dependency
    dependency_is = rw (le-leb 3 (length s) h, e)

    pub found-dependency : r ≡ true → (rest : List ℕ) → rest ≡ drop 3 s → got (dependency_at s) rest ≡ (dependency schema).get s
    found-dependency t rest er = if-good ((dependency schema).get s) r (dependency_at s) rest (drop 3 s) dependency_is t er

    pub bad-dependency : r ≡ false → none ≡ (dependency schema).get s
    bad-dependency t = if-bad ((dependency schema).get s) r (dependency_at s) (drop 3 s) dependency_is t
