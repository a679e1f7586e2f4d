-- The test of given images says yes exactly to the mappings: each of its four parts is one of a mapping's.
-- Assumes nothing.
use mathlib.Core.Path.{◌≡◌, refl, sym, ◌∙◌, ap}
use mathlib.Core.Logic.{◌≢◌}
use mathlib.Core.Bool.{Bool, true, false, cond, ◌&&◌, false≢true}
use mathlib.Core.List.Memᴰ
use mathlib.Core.List.{List, [], ◌∷◌, map, cons≢nil}
use Prim.Native.Nat.{ℕ, zero, suc, ◌+◌}
use native.Mathlib.Omega.{arith}
use borrow.Author.Tests.{eqb-true, eq-eqb}
use lib.Dec.{eqb}
use lib.ListN.{get_or}
use Rattle.theory.specs.Query.{Entry, constant, Row, same_entry, map_row, variables, member, ◌∈◌}
use Rattle.theory.specs.Answer.{value_of}
use Rattle.minimization.specs.Checking.{image_at, same_row, stands_in, rows_carried, rest_zero, nonempty, maps_to, MapsToExact}
use Rattle.lists.specs.Tests.{same_lists}
use Rattle.lists.proofs.Tests.{and_left, and_right, and_both, same_lists-true, same_lists-self}
use Rattle.theory.proofs.Lists.{bool_cases, mem-cases, member-not-mem, not-mem-member}
use Rattle.theory.proofs.Entries.{same_entry-eq, same_entry-refl, eq-same_entry}

-- ---- entries and rows

-- Rows that the test finds to be the same are equal
pub same_row-eq : (r s : Row Entry) → same_row r s ≡ true → r ≡ s
unfolding same_row
same_row-eq r s e =
    let a : Bool = eqb r.relation s.relation in
    let b : Bool = same_lists same_entry r.values s.values in
    let relation : r.relation ≡ s.relation = eqb-true r.relation s.relation (and_left a b e) in
    let values : r.values ≡ s.values = same_lists-true same_entry same_entry-eq r.values s.values (and_right a b e) in
    λ i. record { relation = relation i; values = values i }

pub same_row-self : (r : Row Entry) → same_row r r ≡ true
unfolding same_row
same_row-self r =
    and_both (eqb r.relation r.relation) (same_lists same_entry r.values r.values) (eq-eqb r.relation r.relation refl)
    (same_lists-self same_entry same_entry-refl r.values)

-- A row that the test finds stands there
pub stands-in : (r : Row Entry) (rows : List (Row Entry)) → stands_in r rows ≡ true → r ∈ rows
unfolding stands_in
stands-in r [] e = absurd (false≢true e)
stands-in r (s ∷ rows) e =
    bool_cases
    (same_row r s)
    (λ p. Memᴰ.head (same_row-eq r s p))
    (λ p. Memᴰ.tail (stands-in r rows (sym (ap (λ t. cond t true (stands_in r rows)) p) ∙ e)))

-- and one that stands there is found
pub in-stands : (r : Row Entry) (rows : List (Row Entry)) → r ∈ rows → stands_in r rows ≡ true
unfolding stands_in
in-stands r [] at = absurd (Memᴰ.not-nil at)
in-stands r (s ∷ rows) at =
    bool_cases
    (same_row r s)
    (λ p. ap (λ t. cond t true (stands_in r rows)) p)
    (λ p.
    ap (λ t. cond t true (stands_in r rows)) p
    ∙ mem-cases at (λ here. absurd (false≢true (sym p ∙ ap (same_row r) (sym here) ∙ same_row-self r))) (λ later. in-stands r rows later))

-- ---- the parts of a mapping

rows-carried : (f : ℕ → Entry) (rows others : List (Row Entry)) → rows_carried f rows others ≡ true
    → (r : Row Entry) → r ∈ rows → map_row (value_of constant f) r ∈ others
unfolding rows_carried
rows-carried f [] others e r at = absurd (Memᴰ.not-nil at)
rows-carried f (s ∷ rows) others e r at =
    let a : Bool = stands_in (map_row (value_of constant f) s) others in
    mem-cases
    at
    (λ here. Memᴰ.cast (ap (map_row (value_of constant f)) here) (stands-in (map_row (value_of constant f) s) others (and_left a (rows_carried f rows others) e)))
    (λ later. rows-carried f rows others (and_right a (rows_carried f rows others) e) r later)

carried_rows : (f : ℕ → Entry) (rows others : List (Row Entry)) → ((r : Row Entry) → r ∈ rows → map_row (value_of constant f) r ∈ others)
    → rows_carried f rows others ≡ true
unfolding rows_carried
carried_rows f [] others all = refl
carried_rows f (s ∷ rows) others all =
    and_both (stands_in (map_row (value_of constant f) s) others) (rows_carried f rows others)
    (in-stands (map_row (value_of constant f) s) others (all s (Memᴰ.head refl)))
    (carried_rows f rows others (λ r at. all r (Memᴰ.tail at)))

rest-zero : (among : List ℕ) (v : ℕ) (images : List Entry) → rest_zero among v images ≡ true
    → (k : ℕ) → (v + k ∈ among → ⊥) → get_or images k (constant 0) ≡ constant 0
unfolding rest_zero
rest-zero among v [] e k out = refl
rest-zero among v (x ∷ images) e zero out =
    let same : v + 0 ≡ v = omega arith in
    let gone : member v among ≡ false = not-mem-member v among (λ at. out (Memᴰ.cast same at)) in
    let first : cond (member v among) true (same_entry x (constant 0)) ≡ true =
    and_left (cond (member v among) true (same_entry x (constant 0))) (rest_zero among (suc v) images) e
    in
    same_entry-eq x (constant 0) (sym (ap (λ t. cond t true (same_entry x (constant 0))) gone) ∙ first)
rest-zero among v (x ∷ images) e (suc k) out =
    let next : v + suc k ≡ suc v + k = omega arith in
    rest-zero among (suc v) images (and_right (cond (member v among) true (same_entry x (constant 0))) (rest_zero among (suc v) images) e) k
    (λ at. out (Memᴰ.cast next at))

zero_rest : (among : List ℕ) (v : ℕ) (images : List Entry) → ((k : ℕ) → (v + k ∈ among → ⊥) → get_or images k (constant 0) ≡ constant 0)
    → rest_zero among v images ≡ true
unfolding rest_zero
zero_rest among v [] zeros = refl
zero_rest among v (x ∷ images) zeros =
    let same : v ≡ v + 0 = omega arith in
    and_both (cond (member v among) true (same_entry x (constant 0))) (rest_zero among (suc v) images)
    (bool_cases
    (member v among)
    (λ p. ap (λ t. cond t true (same_entry x (constant 0))) p)
    (λ p.
    ap (λ t. cond t true (same_entry x (constant 0))) p
    ∙ eq-same_entry x (constant 0) (zeros 0 (λ at. member-not-mem v among p (Memᴰ.cast same at)))))
    (zero_rest among (suc v) images
    (λ k out. let next : suc v + k ≡ v + suc k = omega arith in zeros (suc k) (λ at. out (Memᴰ.cast next at))))

nonempty-some : {A : Type 0} (xs : List A) → nonempty xs ≡ true → xs ≢ []
unfolding nonempty
nonempty-some [] e none = false≢true e
nonempty-some (x ∷ xs) e none = cons≢nil none

some-nonempty : {A : Type 0} (xs : List A) → xs ≢ [] → nonempty xs ≡ true
unfolding nonempty
some-nonempty [] some = absurd (some refl)
some-nonempty (x ∷ xs) some = refl

-- ---- the test

pub maps-to-exact : MapsToExact
unfolding maps_to
maps-to-exact S T images =
    let f : ℕ → Entry = image_at images in
    let a : Bool = nonempty S.rows in
    let b : Bool = same_lists same_entry (map (value_of constant f) S.head) T.head in
    let c : Bool = rows_carried f S.rows T.rows in
    let d : Bool = rest_zero (variables S) 0 images in (
      (λ e.
          let e3 : a && b && c ≡ true = and_left (a && b && c) d e in
          let e2 : a && b ≡ true = and_left (a && b) c e3 in
          record {
            carries =
                record {
                  not-never = nonempty-some S.rows (and_left a b e2);
                  to-head = same_lists-true same_entry same_entry-eq (map (value_of constant f) S.head) T.head (and_right a b e2);
                  to-rows = rows-carried f S.rows T.rows (and_right (a && b) c e3);
                };
            elsewhere = λ v out.
                let same : v ≡ 0 + v = omega arith in
                rest-zero (variables S) 0 images (and_right (a && b && c) d e) v (λ at. out (Memᴰ.cast same at));
          }),
      (λ m.
          and_both (a && b && c) d
          (and_both (a && b) c
          (and_both a b (some-nonempty S.rows m.carries.not-never)
          (ap (same_lists same_entry (map (value_of constant f) S.head)) (sym m.carries.to-head)
          ∙ same_lists-self same_entry same_entry-refl (map (value_of constant f) S.head)))
          (carried_rows f S.rows T.rows m.carries.to-rows))
          (zero_rest (variables S) 0 images
          (λ v out. let same : 0 + v ≡ v = omega arith in m.elsewhere v (λ at. out (Memᴰ.cast same at))))),
    )
