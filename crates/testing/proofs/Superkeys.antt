-- Keys of the rows: a set of columns that contains a key is one, and rows with a key on the left break no dependency. Assumes nothing.
use mathlib.Core.Path.{◌≡◌, refl, sym, ap, subst, ◌∙◌}
use mathlib.Core.Bool.{Bool, true, false}
use mathlib.Core.Option.{none}
use mathlib.Core.List.{List}
use Prim.Native.Nat.{ℕ, zero, suc, ◌+◌, ◌<◌}
use lib.Bits.{bit_and}
use lib.Dec.{eqb}
use lib.ListN.{length, get_or, set, replicate}
use lib.Seq.{drop-length, get_or-set_same, get_or-set_other}
use borrow.Author.Tests.{eqb-true, eqb-false, eq-eqb}
use Rattle.theory.specs.Database.{Database, Dependency}
use Rattle.theory.specs.Chase.{first_pair}
use Rattle.theory.proofs.Lists.{subset-true}
use Rattle.closure.proofs.Masks.{same-columns, subset-mask}
use Rattle.query.specs.View.{dependency_of, columns_of}
use Rattle.query.specs.declared.Dependency as stored
use Rattle.words.specs.Testing.{numbered_from, first_pair_from}
use Rattle.grouping.specs.internal.Groups.{Key}
use Rattle.grouping.proofs.Leading.{pairs-skip}
use Rattle.std.specs.Prelude.{Option, None, Some}
use Rattle.testing.specs.internal.Keyed.{KeyIn, Keyed}

-- no two rows agree on the left columns: none break the dependency
pub key-none : (d : Dependency) (n : ℕ) (D : Database) → Key d D → first_pair_from d n D ≡ none
unfolding first_pair numbered_from
key-none d n D key =
    pairs-skip d n (length D) D (λ k j before inside low p q a. absurd (key k j before inside p q a))
    ∙ ap (λ (l : Database). first_pair_from d (n + length D) l) (drop-length D)

-- a set of columns that contains a key is a key
pub key-contained : (e d : stored.Dependency) (D : Database) → e.left < 256 → d.left < 256 → e.relation ≡ d.relation → bit_and e.left d.left ≡ e.left
    → Key (dependency_of e) D → Key (dependency_of d) D
key-contained e d D small-e small-d relation inside key =
    let part = subset-true (columns_of e.left) (columns_of d.left)
    (subset-mask e.left d.left (columns_of d.left) small-e (same-columns d.left small-d)
    ∙ eq-eqb (bit_and e.left d.left) e.left inside) in
    λ i j before below p q a. key i j before below (p ∙ sym relation) (q ∙ sym relation) (λ c m. a c (part c m))

-- no key is noted
pub keyed-none : (D : Database) (n : ℕ) → Keyed D (replicate n None)
keyed-none D zero k = tt
keyed-none D (suc n) zero = tt
keyed-none D (suc n) (suc k) = keyed-none D n k

-- one more key is noted
pub keyed-more : (D : Database) (keys : List (Option stored.Dependency)) (i : ℕ) (d : stored.Dependency) → i < length keys → Keyed D keys
    → Key (dependency_of d) D → Keyed D (set keys i (Some d))
keyed-more D keys i d room h key k = go (eqb k i) refl
  where
    go : (b : Bool) → eqb k i ≡ b → KeyIn D (get_or (set keys i (Some d)) k None)
    go true e =
        let it : get_or (set keys i (Some d)) k None ≡ Some d =
        ap (λ (j : ℕ). get_or (set keys i (Some d)) j None) (eqb-true k i e) ∙ get_or-set_same keys i (Some d) None room in
        subst (λ (x : Option stored.Dependency). KeyIn D x) (sym it) key
    go false e = subst (λ (x : Option stored.Dependency). KeyIn D x) (sym (get_or-set_other keys i k (Some d) None (eqb-false k i e))) (h k)
