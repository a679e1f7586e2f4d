-- The test whether a join dependency fits a schema tells exactly that.
-- Assumes nothing.
use mathlib.Core.Path.{◌≡◌, refl, sym, ◌∙◌, ap, subst}
use mathlib.Core.Logic.{◌↔◌}
use mathlib.Core.Bool.{true, cond, ◌&&◌, false≢true}
use mathlib.Core.List.Memᴰ
use mathlib.Core.List.{List, [], ◌∷◌, cons-ne-nil}
use Prim.Native.Nat.{ℕ}
use native.Mathlib.Omega.{arith}
use lib.Dec.{ltb}
use lib.ListN.{length, get_or}
use borrow.Author.Tests.{ltb-true, lt-ltb}
use Rattle.lists.specs.Tests.{every}
use Rattle.lists.specs.Numbers.{numbers_where}
use Rattle.lists.proofs.Tests.{and_both, every-member, every_made}
use Rattle.lists.proofs.Numbers.{where-from, where-of}
use Rattle.lists.proofs.Positions.{get_or-in}
use Rattle.theory.specs.Query.{member, ◌∈◌}
use Rattle.theory.proofs.Lists.{bool_cases, and-three, member-mem, mem-member}
use Rattle.minimization.specs.Checking.{nonempty}
use Rattle.joins.specs.Join.{in_some, join_fits}
use Rattle.joins.specs.JoinTheorems.{JoinFitsExactly}

-- A column is in a set exactly when one of the sets has it
pub in_some-set : (c : ℕ) (sets : List (List ℕ)) → in_some c sets ≡ true → (set : List ℕ) × set ∈ sets × c ∈ set
unfolding in_some
in_some-set c [] e = absurd (false≢true e)
in_some-set c (set ∷ sets) e =
    bool_cases (member c set) (λ p. (set, Memᴰ.head refl, member-mem c set p))
    (λ p. let later = in_some-set c sets (sym (ap (λ b. cond b true (in_some c sets)) p) ∙ e) in (later.0, Memᴰ.tail later.1, later.2))

pub set-in_some : (c : ℕ) (sets : List (List ℕ)) (set : List ℕ) → set ∈ sets → c ∈ set → in_some c sets ≡ true
unfolding in_some
set-in_some c [] set x'' there = elim x'' [ ]
set-in_some c (s ∷ sets) set (Memᴰ.head e) there =
    ap (λ b. cond b true (in_some c sets)) (mem-member c s (subst (λ l. c ∈ l) e there))
set-in_some c (s ∷ sets) set (Memᴰ.tail at) there =
    bool_cases (member c s) (λ p. ap (λ b. cond b true (in_some c sets)) p)
    (λ p. ap (λ b. cond b true (in_some c sets)) p ∙ set-in_some c sets set at there)

-- A list has an element exactly when it is not empty
nonempty-some : {A : Type 0} (xs : List A) → (nonempty xs ≡ true) ↔ (xs ≡ [] → ⊥)
unfolding nonempty
nonempty-some [] = (λ e. absurd (false≢true e), λ has. absurd (has refl))
nonempty-some (x ∷ xs) = (λ e. cons-ne-nil x xs, λ has. refl)

pub join_fits-exact : JoinFitsExactly
unfolding join_fits
join_fits-exact widths j =
    let width = get_or widths j.relation 0 in
    let columns = numbers_where (λ c. true) 0 width in
    let a = ltb j.relation (length widths) in
    let b = nonempty j.sets in
    let c = every (λ c. in_some c j.sets) columns in (
      λ e.
          let facts = and-three a b c e in
          record {
            known = ltb-true j.relation (length widths) facts.0;
            some-set = (nonempty-some j.sets).0 facts.1;
            covers = λ d less.
                in_some-set d j.sets
                (every-member (λ c. in_some c j.sets) columns facts.2 (where-of (λ c. true) 0 width d (omega arith) (omega (arith, less)) refl));
          },
      λ fits.
          and_both (a && b) c (and_both a b (lt-ltb j.relation (length widths) fits.known) ((nonempty-some j.sets).1 fits.some-set))
          (every_made (λ c. in_some c j.sets) columns 0 (λ i h.
          let d = get_or columns i 0 in
          let bounds = where-from (λ c. true) 0 width d (get_or-in columns i 0 h) in
          let set = fits.covers d (omega (arith, bounds.1)) in
          set-in_some d j.sets set.0 set.1 set.2)),
    )
