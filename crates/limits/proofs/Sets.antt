-- The sets of a join dependency as masks: together they are a relation's columns exactly when their union has all bits.
use mathlib.Core.Path.{◌≡◌, refl, sym, ap, subst, ◌∙◌}
use mathlib.Core.Bool.{Bool, true}
use mathlib.Core.List.{List, [], ◌∷◌, ◌++◌, map, flatten, append_assoc, append-nil}
use Prim.Native.Nat.{ℕ, zero, suc, ◌+◌, ◌-◌, ◌^◌, ◌≤◌, ◌<◌}
use native.Mathlib.Nat.{lt_of_lt_of_le}
use native.Mathlib.Omega.{arith}
use lib.Bits.{bit_or, or_lt}
use lib.Dec.{eqb, ltb, lit<}
use lib.Pointwise.{pointwise}
use lib.ListN.{length, get_or, take, drop, replicate}
use lib.Pow.{pow_mono, pow_pos}
use borrow.Author.Tests.{ltb-true, lt-ltb, le-leb}
use Rattle.theory.specs.Query.{subset}
use Rattle.lists.specs.Tests.{every, is_zero, in_use}
use Rattle.lists.specs.Numbers.{numbers_where}
use Rattle.lists.proofs.Tests.{every-get_or, every-weaken, every-join, used-good, used-blank, padded}
use Rattle.query.specs.declared.JoinDependency.{JoinDependency}
use Rattle.query.specs.View.{columns_from, columns_of}
use Rattle.query.specs.Rule.{good_join_set, good_join}
use Rattle.query.proofs.Good.{good-join-set}
use Rattle.query.proofs.Shape.{blank-number}
use Rattle.closure.proofs.Masks.{Same, same-columns, same-union, all-columns}

-- What stands past the end of an array of join dependencies
abbrev pub past_join : JoinDependency
past_join = record { relation = 0; count = 0; sets = [] }

-- The union of four sets
abbrev pub union_of : List ℕ → ℕ
union_of sets = bit_or (bit_or (bit_or (get_or sets 0 0) (get_or sets 1 0)) (get_or sets 2 0)) (get_or sets 3 0)

-- Four sets in a row
four : (sets : List ℕ) → length sets ≡ 4 → sets ≡ get_or sets 0 0 ∷ get_or sets 1 0 ∷ get_or sets 2 0 ∷ get_or sets 3 0 ∷ []
four [] e = absurd (omega arith)
four (a ∷ []) e = absurd (omega arith)
four (a ∷ b ∷ []) e = absurd (omega arith)
four (a ∷ b ∷ c ∷ []) e = absurd (omega arith)
four (a ∷ b ∷ c ∷ d ∷ []) e = refl
four (a ∷ b ∷ c ∷ d ∷ x ∷ xs) e = absurd (omega arith)

flat : (a b c d : List ℕ) → ((a ++ b) ++ c) ++ d ≡ flatten (a ∷ b ∷ c ∷ d ∷ [])
unfolding flatten
flat a b c d =
    append_assoc (a ++ b) c d ∙ append_assoc a b (c ++ d) ∙ ap (λ (l : List ℕ). a ++ (b ++ (c ++ l))) (sym (append-nil d))

module _ (width : ℕ) (narrow : width ≤ 8) (sets : List ℕ) (long : length sets ≡ 4) (within : every (λ set. ltb set (2 ^ width)) sets ≡ true) where
  set-lt : (i : ℕ) → i < 4 → get_or sets i 0 < 2 ^ width
  set-lt i h = ltb-true (get_or sets i 0) (2 ^ width) (every-get_or (λ set. ltb set (2 ^ width)) sets i 0 within (omega arith))

  -- The union is a set of the relation's columns
  pub union-lt : union_of sets < 2 ^ width
  union-lt =
      or_lt width _ _ (or_lt width _ _ (or_lt width _ _ (set-lt 0 (lit< tt)) (set-lt 1 (lit< tt))) (set-lt 2 (lit< tt))) (set-lt 3 (lit< tt))

  set_same : (i : ℕ) → i < 4 → Same (columns_of (get_or sets i 0)) (get_or sets i 0)
  set_same i h = same-columns (get_or sets i 0) (lt_of_lt_of_le (set-lt i h) (pow_mono narrow))

  -- The sets have the columns of the union
  union-same : Same (flatten (map columns_of sets)) (union_of sets)
  union-same =
      subst (λ (l : List ℕ). Same l (union_of sets))
      (flat (columns_of (get_or sets 0 0)) (columns_of (get_or sets 1 0)) (columns_of (get_or sets 2 0)) (columns_of (get_or sets 3 0))
      ∙ ap (λ (l : List ℕ). flatten (map columns_of l)) (sym (four sets long)))
      (same-union _ _ _ _ (same-union _ _ _ _ (same-union _ _ _ _ (set_same 0 (lit< tt)) (set_same 1 (lit< tt))) (set_same 2 (lit< tt))) (set_same 3 (lit< tt)))

  -- All columns stand in the sets exactly when the union has all bits
  pub covers-all : eqb (union_of sets + 1) (2 ^ width) ≡ subset (numbers_where (λ c. true) 0 width) (flatten (map columns_of sets))
  covers-all = sym (all-columns width (union_of sets) (flatten (map columns_of sets)) union-lt union-same)

-- ---- sets that are not in use

no-columns : (sets : List ℕ) (k : ℕ) → flatten (map columns_of (sets ++ replicate k 0)) ≡ flatten (map columns_of sets)
unfolding flatten columns_from
no-columns [] zero = refl
no-columns [] (suc k) = no-columns [] k
no-columns (set ∷ sets) k = ap (λ (l : List ℕ). columns_of set ++ l) (no-columns sets k)

module _ (schema : List ℕ) (relation n : ℕ) (sets : List ℕ) (good : in_use n (good_join_set schema relation) is_zero sets ≡ true) where
  -- All sets are of the relation's columns
  pub sets-within : every (λ set. ltb set (2 ^ get_or schema relation 0)) sets ≡ true
  sets-within =
      every-join (λ set. ltb set (2 ^ get_or schema relation 0)) n sets
      (every-weaken (good_join_set schema relation) (λ set. ltb set (2 ^ get_or schema relation 0))
      (λ set e. lt-ltb set (2 ^ get_or schema relation 0) (good-join-set schema relation set e).within) (take n sets)
      (used-good n (good_join_set schema relation) is_zero sets good))
      (every-weaken is_zero (λ set. ltb set (2 ^ get_or schema relation 0))
      (λ set e. lt-ltb set (2 ^ get_or schema relation 0) (subst (λ (k : ℕ). k < 2 ^ get_or schema relation 0) (sym (blank-number set e)) (pow_pos _)))
      (drop n sets) (used-blank n (good_join_set schema relation) is_zero sets good))

  -- Those in use have the columns of all
  pub used-columns : flatten (map columns_of sets) ≡ flatten (map columns_of (take n sets))
  used-columns =
      ap (λ (l : List ℕ). flatten (map columns_of l))
      (padded n (good_join_set schema relation) is_zero sets 0 blank-number (used-blank n (good_join_set schema relation) is_zero sets good))
      ∙ no-columns (take n sets) (length sets - n)

-- Four sets are four zeros exactly when each is 0
pub zero-sets : (sets : List ℕ) → length sets ≡ 4 → pointwise eqb sets (0 ∷ 0 ∷ 0 ∷ 0 ∷ []) ≡ every is_zero sets
unfolding every
zero-sets [] e = absurd (omega arith)
zero-sets (a ∷ []) e = absurd (omega arith)
zero-sets (a ∷ b ∷ []) e = absurd (omega arith)
zero-sets (a ∷ b ∷ c ∷ []) e = absurd (omega arith)
zero-sets (a ∷ b ∷ c ∷ d ∷ []) e = refl
zero-sets (a ∷ b ∷ c ∷ d ∷ x ∷ xs) e = absurd (omega arith)

-- A join dependency of 2 to 4 sets that are all good is good exactly when all its sets together cover the columns
pub covered : {r : Bool} {width : ℕ} (schema : List ℕ) (j : JoinDependency) → 2 ≤ j.count → j.count ≤ 4
    → in_use j.count (good_join_set schema j.relation) is_zero j.sets ≡ true → width ≡ get_or schema j.relation 0
    → r ≡ subset (numbers_where (λ c. true) 0 width) (flatten (map columns_of j.sets)) → r ≡ good_join schema j
unfolding good_join
covered schema j least most sets e is =
    rw (le-leb 2 j.count least, le-leb j.count 4 most, sets)
    (is ∙ ap (λ (w : ℕ). subset (numbers_where (λ c. true) 0 w) (flatten (map columns_of j.sets))) e
    ∙ ap (subset (numbers_where (λ c. true) 0 (get_or schema j.relation 0))) (used-columns schema j.relation j.count j.sets sets))
