-- The variables that occur in a query, by the numbers that pass a test: those that stand in a row, where the head has no others. Assumes nothing.
use mathlib.Core.Path.{◌≡◌, refl, sym, ap, ◌∙◌}
use mathlib.Core.Logic.{⊎_elim}
use mathlib.Core.Bool.{Bool}
use mathlib.Core.List.Memᴰ
use mathlib.Core.List.{List, [], ◌∷◌, ◌++◌}
use Prim.Native.Nat.{ℕ, ◌+◌, ◌-◌, ◌≤◌, ◌<◌}
use native.Mathlib.Omega.{arith}
use Rattle.theory.specs.Query as theory
use Rattle.theory.specs.Query.{member, variables_of, row_entries, ◌∈◌}
use Rattle.theory.proofs.Lists.{mem-dec, mem-member, not-mem-member}
use Rattle.theory.proofs.Entries.{variables_of-mem, mem-variables_of}
use Rattle.lists.specs.Numbers.{numbers_where}
use Rattle.lists.proofs.Numbers.{where-same, where-more}
use Rattle.text.specs.Text.{least_above, occurring}
use Rattle.text.specs.internal.Listable.{variables_in_rows}

-- ---- the least number above a list

-- It is at most any number above all of the list
least-above : (ns : List ℕ) (k : ℕ) → ((n : ℕ) → n ∈ ns → n < k) → least_above ns ≤ k
unfolding least_above
least-above [] k below = omega arith
least-above (n ∷ ns) k below =
    let here : n < k = below n (Memᴰ.head refl) in
    let rest : least_above ns ≤ k = least-above ns k (λ m at. below m (Memᴰ.tail at)) in
    omega arith

-- And above each of the list
above-all : (ns : List ℕ) {v : ℕ} → v ∈ ns → v < least_above ns
unfolding least_above
above-all [] {v = v} x' = elim x' [ ]
above-all (n ∷ ns) (Memᴰ.head p) = omega arith
above-all (n ∷ ns) (Memᴰ.tail at) = let rest = above-all ns at in omega arith

-- ---- the variables that occur

-- Lists with the same members
member-same : (v : ℕ) (ms ns : List ℕ) → (v ∈ ms → v ∈ ns) → (v ∈ ns → v ∈ ms) → member v ms ≡ member v ns
member-same v ms ns to from =
    ⊎_elim (λ at. mem-member v ms at ∙ sym (mem-member v ns (to at))) (λ out. not-mem-member v ms out ∙ sym (not-mem-member v ns (λ at. out (from at))))
    (mem-dec v ms)

module _ (q : theory.Query) (below : (v : ℕ) → v ∈ theory.variables q → v < 96) where
  -- No variable is past 96
  pub variables-bound : least_above (theory.variables q) ≤ 96
  variables-bound = least-above (theory.variables q) 96 below

  -- Where each head variable stands in a row, the variables that stand in a row are those that occur
  pub rows-occurring : ((v : ℕ) → v ∈ variables_of q.head → v ∈ variables_of (row_entries q.rows)) → variables_in_rows q ≡ occurring q
  unfolding occurring
  rows-occurring safe =
      let vs : List ℕ = theory.variables q in
      let test : ℕ → Bool = λ v. member v vs in
      let e : least_above vs + (96 - least_above vs) ≡ 96 = omega (arith, variables-bound) in
      where-same (λ v. member v (variables_of (row_entries q.rows))) test 0 96
      (λ v. member-same v (variables_of (row_entries q.rows)) vs (from-rows v) (to-rows v))
      ∙ ap (numbers_where test 0) (sym e)
      ∙ where-more test 0 (least_above vs) (96 - least_above vs) (λ v h. not-mem-member v vs (λ at. let l : v < least_above vs = above-all vs at in omega arith))
    where
      from-rows : (v : ℕ) → v ∈ variables_of (row_entries q.rows) → v ∈ theory.variables q
      from-rows v at = mem-variables_of v (q.head ++ row_entries q.rows) (Memᴰ.append_right q.head (variables_of-mem v (row_entries q.rows) at))

      to-rows : (v : ℕ) → v ∈ theory.variables q → v ∈ variables_of (row_entries q.rows)
      to-rows v at =
          ⊎_elim (λ m. safe v (mem-variables_of v q.head m)) (mem-variables_of v (row_entries q.rows))
          (Memᴰ.append_cases q.head (variables_of-mem v (q.head ++ row_entries q.rows) at))
