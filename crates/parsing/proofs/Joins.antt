-- A join dependency at the front of some bytes, by tests on them.
use mathlib.Core.Path.{◌≡◌, refl, sym, ap, ◌∙◌}
use mathlib.Core.Bool.{Bool, true, false, and-false}
use mathlib.Core.List.{List}
use Prim.Native.Nat.{ℕ, ◌+◌, ◌≤◌, ◌<◌}
use native.Mathlib.Omega.{arith}
use lib.Dec.{leb}
use lib.ListN.{length, get_or, drop}
use borrow.Author.Tests.{le-leb, lt-leb}
use Rattle.query.specs.declared.JoinDependency.{JoinDependency}
use Rattle.query.specs.Rule.{good_join}
use Rattle.query.proofs.Good.{good-join}
use Rattle.format.specs.Format.{none, got, got_if}
use Rattle.format.specs.Parts.{join_bytes, join_at, join}
use Rattle.parsing.proofs.Values.{if-good}

-- More than 4 sets are too many
pub many-sets : (schema : List ℕ) (j : JoinDependency) → 4 < j.count → good_join schema j ≡ false
many-sets schema j h = go (good_join schema j) refl
  where
    go : (t : Bool) → good_join schema j ≡ t → t ≡ false
    go true e = absurd (omega (arith, (good-join schema j e).most))
    go false e = refl

module _ (schema s : List ℕ) where
  -- the bytes end too early
  pub join-cut : length s < 2 + get_or s 1 0 → none ≡ (join schema).get s
  unfolding join got_if
  join-cut h = rw (lt-leb (join_bytes s) (length s) h)

  pub join-two : length s < 2 → none ≡ (join schema).get s
  join-two h = join-cut (omega arith)

  join-bad : good_join schema (join_at s) ≡ false → none ≡ (join schema).get s
  unfolding join got_if
  join-bad e = rw (e, and-false (leb (join_bytes s) (length s)))

  pub join-many : 4 < get_or s 1 0 → none ≡ (join schema).get s
  join-many h = join-bad (many-sets schema (join_at s) h)

  module _ (j : JoinDependency) (is : j ≡ join_at s) (r : Bool) (e : r ≡ good_join schema j) where
    pub join-unfit : r ≡ false → none ≡ (join schema).get s
    join-unfit t = join-bad (ap (good_join schema) (sym is) ∙ sym e ∙ t)

    join_is : 2 + get_or s 1 0 ≤ length s → (join schema).get s ≡ got_if r j (drop (join_bytes s) s)
    unfolding join
    join_is h = rw (le-leb (join_bytes s) (length s) h, ← is, e)

    pub join-found : 2 + get_or s 1 0 ≤ length s → r ≡ true → (rest : List ℕ) → rest ≡ drop (2 + get_or s 1 0) s → got j rest ≡ (join schema).get s
    join-found h t rest er = if-good ((join schema).get s) r j rest (drop (join_bytes s) s) (join_is h) t er
