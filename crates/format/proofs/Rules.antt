-- What a format calls good is what the record's rule calls good, for arrays of their types' lengths.
use mathlib.Core.Path.{◌≡◌, refl, sym, ap, ◌∙◌}
use mathlib.Core.Bool.{Bool, true, false, not, ◌&&◌}
use mathlib.Core.List.{List, [], ◌∷◌}
use Prim.Native.Nat.{ℕ, zero, suc, ◌+◌, ◌*◌, ◌^◌, ◌≤◌}
use native.Mathlib.Omega.{arith}
use lib.Dec.{eqb, leb}
use lib.ListN.{length, take, drop, length-drop, take-append-drop, length-map}
use lib.Seq.{length-take-le, drop-drop}
use borrow.Author.Tests.{eqb-true, eq-eqb, leb-true, le-leb, lt-ltb}
use Rattle.query.specs.declared.Cell.{Cell}
use Rattle.query.specs.Types.{Query}
use Rattle.query.specs.declared.Dependency.{Dependency}
use Rattle.query.specs.declared.JoinDependency.{JoinDependency}
use Rattle.query.specs.declared.CodePair.{CodePair}
use Rattle.lists.specs.Tests.{between, every, is_zero}
use Rattle.query.specs.Rule.{blank_cell, blank_dependency, good_dependency, good_row, good_rows, good_relations, good_dependencies, good_up_to, shaped_for}
use Rattle.query.specs.Rule.{good_pair, all_fit, blank_pair, good_codes, blank_join, good_join, good_joins, shaped_join}
use Rattle.format.specs.Format.{byte, sequence, padded, such_that, via}
use Rattle.format.specs.Parts.{relations, fits_words, code_pair, code_pairs, codes, dependency, dependencies, entry, entries, row, blank_row, rows, chunk}
use Rattle.format.specs.Parts.{join, unused_join, joins, query_for}
use Rattle.lists.proofs.Tests.{and_left, and_right, and_both, and-iff, every-append-is, every-weaken, every-both, every_take, every_drop, every-join}
use Rattle.query.proofs.Pairs.{each-good}
use Rattle.format.proofs.Parts.{Narrow, map-chunk}

-- ---- relations and dependencies

pub relations-good : (n : ℕ) (widths : List ℕ) → length widths ≡ 8 → good_relations n widths ≡ true → relations.good (n, widths) ≡ true
unfolding relations good_relations sequence byte padded
relations-good n widths l h =
    let k : ((leb 1 n ≡ true) × (leb n 8 ≡ true)) × ((every (between 1 8) (take n widths) ≡ true) × (every is_zero (drop n widths) ≡ true)) =
    simp and-iff at h in
    simp and-iff (k.0, (eq-eqb (length widths) 8 l, k.1))

pub good-relations : (p : ℕ × List ℕ) → relations.good p ≡ true → (length p.1 ≡ 8) × (good_relations p.0 p.1 ≡ true)
unfolding relations good_relations sequence byte padded
good-relations p h =
    let k : ((leb 1 p.0 ≡ true) × (leb p.0 8 ≡ true))
    × ((eqb (length p.1) 8 ≡ true) × ((every (between 1 8) (take p.0 p.1) ≡ true) × (every is_zero (drop p.0 p.1) ≡ true))) = simp and-iff at h in
    (eqb-true (length p.1) 8 k.1.0, simp and-iff (k.0, k.1.1))

-- no relation has more than 8 columns
pub good-narrow : (n : ℕ) (widths : List ℕ) → good_relations n widths ≡ true → Narrow (take n widths)
unfolding good_relations
good-narrow n widths h =
    let k : ((leb 1 n ≡ true) × (leb n 8 ≡ true)) × ((every (between 1 8) (take n widths) ≡ true) × (every is_zero (drop n widths) ≡ true)) =
    simp and-iff at h in
    every-weaken (between 1 8) (λ w. leb w 8) (λ w g. and_right (leb 1 w) (leb w 8) g) (take n widths) k.1.0

-- two different codes have 32 bits
fits-words : (p : CodePair) → good_pair p ≡ true → fits_words p ≡ true
fits-words p h =
    let codes = and_left (leb p.old 2147483647 && leb p.current 2147483647) (not (eqb p.old p.current)) h in
    let old : p.old ≤ 2147483647 = leb-true p.old 2147483647 (and_left (leb p.old 2147483647) (leb p.current 2147483647) codes) in
    let current : p.current ≤ 2147483647 = leb-true p.current 2147483647 (and_right (leb p.old 2147483647) (leb p.current 2147483647) codes) in
    and_both _ _ (lt-ltb p.old (2 ^ 32) (omega arith)) (lt-ltb p.current (2 ^ 32) (omega arith))

pub codes-good : (n : ℕ) (ps : List CodePair) → 1 ≤ n → length ps ≡ 16 → good_codes n ps ≡ true → codes.good (n, ps) ≡ true
unfolding codes such_that code_pairs sequence byte padded code_pair good_codes
codes-good n ps some l h =
    let k : ((leb n 16 ≡ true) × (all_fit (take n ps) ≡ true)) × (every blank_pair (drop n ps) ≡ true) = simp and-iff at h in
    let words : every fits_words (take n ps) ≡ true = every-weaken good_pair fits_words fits-words (take n ps) (each-good (take n ps) k.0.1) in
    simp and-iff (((le-leb 1 n some, k.0.0), (eq-eqb (length ps) 16 l, (words, k.1))), k)

pub good-codes : (p : ℕ × List CodePair) → codes.good p ≡ true → (1 ≤ p.0) × (length p.1 ≡ 16) × (good_codes p.0 p.1 ≡ true)
unfolding codes such_that code_pairs sequence byte padded
good-codes p h =
    let k : (((leb 1 p.0 ≡ true) × (leb p.0 16 ≡ true)) × ((eqb (length p.1) 16 ≡ true)
    × ((every code_pair.good (take p.0 p.1) ≡ true) × (every blank_pair (drop p.0 p.1) ≡ true)))) × (good_codes p.0 p.1 ≡ true) = simp and-iff at h in
    (leb-true 1 p.0 k.0.0.0, eqb-true (length p.1) 16 k.0.1.0, k.1)

pub dependencies-good : (schema : List ℕ) (n : ℕ) (ds : List Dependency) → length ds ≡ 32 → good_dependencies schema n ds ≡ true
    → (dependencies schema).good (n, ds) ≡ true
unfolding dependencies good_dependencies sequence byte padded dependency
dependencies-good schema n ds l h =
    let k : (leb n 32 ≡ true) × ((every (good_dependency schema) (take n ds) ≡ true) × (every blank_dependency (drop n ds) ≡ true)) = simp and-iff at h in
    simp and-iff (k.0, (eq-eqb (length ds) 32 l, k.1))

pub good-dependencies : (schema : List ℕ) (p : ℕ × List Dependency) → (dependencies schema).good p ≡ true
    → (length p.1 ≡ 32) × (good_dependencies schema p.0 p.1 ≡ true)
unfolding dependencies good_dependencies sequence byte padded dependency
good-dependencies schema p h =
    let k : (leb p.0 32 ≡ true) × ((eqb (length p.1) 32 ≡ true)
    × ((every (good_dependency schema) (take p.0 p.1) ≡ true) × (every blank_dependency (drop p.0 p.1) ≡ true))) = simp and-iff at h in
    (eqb-true (length p.1) 32 k.1.0, simp and-iff (k.0, k.1.1))

pub joins-good : (schema : List ℕ) (n : ℕ) (js : List JoinDependency) → 1 ≤ n → length js ≡ 4 → every shaped_join js ≡ true → good_joins schema n js ≡ true
    → (joins schema).good (n, js) ≡ true
unfolding joins good_joins sequence byte padded join
joins-good schema n js some l s h =
    let k : (leb n 4 ≡ true) × ((every (good_join schema) (take n js) ≡ true) × (every blank_join (drop n js) ≡ true)) = simp and-iff at h in
    let used : every (λ j. shaped_join j && good_join schema j) (take n js) ≡ true =
    every-both shaped_join (good_join schema) (take n js) (every_take shaped_join n js s) k.1.0 in
    let unused : every unused_join (drop n js) ≡ true = every-both shaped_join blank_join (drop n js) (every_drop shaped_join n js s) k.1.1 in
    simp and-iff ((le-leb 1 n some, k.0), (eq-eqb (length js) 4 l, (used, unused)))

pub good-joins : (schema : List ℕ) (p : ℕ × List JoinDependency) → (joins schema).good p ≡ true
    → (1 ≤ p.0) × (length p.1 ≡ 4) × (every shaped_join p.1 ≡ true) × (good_joins schema p.0 p.1 ≡ true)
unfolding joins good_joins sequence byte padded join
good-joins schema p h =
    let k : ((leb 1 p.0 ≡ true) × (leb p.0 4 ≡ true)) × ((eqb (length p.1) 4 ≡ true)
    × ((every (λ j. shaped_join j && good_join schema j) (take p.0 p.1) ≡ true) × (every unused_join (drop p.0 p.1) ≡ true))) = simp and-iff at h in
    let used : every (good_join schema) (take p.0 p.1) ≡ true =
    every-weaken (λ j. shaped_join j && good_join schema j) (good_join schema) (λ j g. and_right (shaped_join j) (good_join schema j) g) (take p.0 p.1)
    k.1.1.0 in
    let unused : every blank_join (drop p.0 p.1) ≡ true =
    every-weaken unused_join blank_join (λ j g. and_right (shaped_join j) (blank_join j) g) (drop p.0 p.1) k.1.1.1 in
    let front : every shaped_join (take p.0 p.1) ≡ true =
    every-weaken (λ j. shaped_join j && good_join schema j) shaped_join (λ j g. and_left (shaped_join j) (good_join schema j) g) (take p.0 p.1)
    k.1.1.0 in
    let back : every shaped_join (drop p.0 p.1) ≡ true =
    every-weaken unused_join shaped_join (λ j g. and_left (shaped_join j) (blank_join j) g) (drop p.0 p.1) k.1.1.1 in (
      leb-true 1 p.0 k.0.0,
      eqb-true (length p.1) 4 k.1.0,
      every-join shaped_join p.0 p.1 front back,
      simp and-iff (k.0.1, (used, unused)),
    )

-- ---- rows

pub length-chunk : (rs : List ℕ) (cells : List Cell) → length (chunk rs cells) ≡ length rs
length-chunk rs cells = sym (length-map (chunk rs cells) (λ r. r.0)) ∙ ap length (map-chunk rs cells)

-- a row of 8 cells is good as a format if it is good by the rule
row-good : (schema : List ℕ) (r : ℕ) (cells : List Cell) → length cells ≡ 8 → (row schema).good (r, cells) ≡ good_row schema r cells
unfolding row sequence byte entries padded entry
row-good schema r cells l = let e : eqb (length cells) 8 ≡ true = eq-eqb (length cells) 8 l in rw e

pub rows-good : (schema : List ℕ) (n : ℕ) (rs : List ℕ) (cells : List Cell) → length cells ≡ 8 * length rs
    → every (row schema).good (take n (chunk rs cells)) ≡ good_rows schema (take n rs) cells
unfolding every chunk good_rows
rows-good schema zero rs cells l = refl
rows-good schema (suc n) [] cells l = refl
rows-good schema (suc n) (r ∷ rs) cells l =
    let a : (row schema).good (r, take 8 cells) ≡ good_row schema r (take 8 cells) = row-good schema r (take 8 cells) (length-take-le 8 cells (omega arith)) in
    let b : every (row schema).good (take n (chunk rs (drop 8 cells))) ≡ good_rows schema (take n rs) (drop 8 cells) =
    rows-good schema n rs (drop 8 cells) (length-drop 8 cells ∙ omega arith) in
    rw (a, b)

swap_and : (a b c d : Bool) → (a && b && (c && d)) ≡ (a && c && (b && d))
swap_and true true c d = refl
swap_and true false true d = refl
swap_and true false false d = refl
swap_and false b c d = refl

all-rows-blank : (rs : List ℕ) (cells : List Cell) → length cells ≡ 8 * length rs → every blank_row (chunk rs cells) ≡ (every is_zero rs && every blank_cell cells)
unfolding every chunk
all-rows-blank [] [] l = refl
all-rows-blank [] (c ∷ cells) l = absurd (omega arith)
all-rows-blank (r ∷ rs) cells l =
    let e : eqb (length (take 8 cells)) 8 ≡ true = eq-eqb (length (take 8 cells)) 8 (length-take-le 8 cells (omega arith)) in
    let ih : every blank_row (chunk rs (drop 8 cells)) ≡ (every is_zero rs && every blank_cell (drop 8 cells)) =
    all-rows-blank rs (drop 8 cells) (length-drop 8 cells ∙ omega arith) in
    let c : every blank_cell cells ≡ (every blank_cell (take 8 cells) && every blank_cell (drop 8 cells)) =
    sym (ap (every blank_cell) (take-append-drop 8 cells)) ∙ every-append-is blank_cell (take 8 cells) (drop 8 cells) in
    rw (e, ih, c) (swap_and (is_zero r) (every blank_cell (take 8 cells)) (every is_zero rs) (every blank_cell (drop 8 cells)))

pub rows-blank : (n : ℕ) (rs : List ℕ) (cells : List Cell) → length cells ≡ 8 * length rs
    → every blank_row (drop n (chunk rs cells)) ≡ (every is_zero (drop n rs) && every blank_cell (drop (8 * n) cells))
unfolding chunk every
rows-blank zero rs cells l = all-rows-blank rs cells l
rows-blank (suc n) [] cells l = rw (lib.ListN.drop_of_length-le cells {i = 8 * suc n} (omega arith))
rows-blank (suc n) (r ∷ rs) cells l =
    let m : 8 * suc n ≡ 8 + 8 * n = omega arith in
    rw (m, ← drop-drop (8 * n) 8 cells) (rows-blank n rs (drop 8 cells) (length-drop 8 cells ∙ omega arith))

-- ---- queries

pub query-good : (most : ℕ) (schema : List ℕ) (q : Query) → shaped_for most q ≡ true → good_up_to most schema q ≡ true → (query_for most schema).good q ≡ true
unfolding query_for via sequence byte entries padded rows entry good_up_to
query-good most schema q hs h =
    let s : ((eqb (length q.head) 8 ≡ true) × (eqb (length q.relations) most ≡ true)) × (eqb (length q.cells) (8 * most) ≡ true) = simp and-iff at hs
    in
    let lr : length q.relations ≡ most = eqb-true (length q.relations) most s.0.1 in
    let lc : length q.cells ≡ 8 * length q.relations = eqb-true (length q.cells) (8 * most) s.1 ∙ omega arith in
    let k = simp and-iff at h in
    let used : every (row schema).good (take q.size (chunk q.relations q.cells)) ≡ true =
    rw (rows-good schema q.size q.relations q.cells lc) k.0.0.1 in
    let unused : every blank_row (drop q.size (chunk q.relations q.cells)) ≡ true =
    rw (rows-blank q.size q.relations q.cells lc) (and_both _ _ k.0.1 k.1) in
    let l : eqb (length (chunk q.relations q.cells)) most ≡ true =
    eq-eqb (length (chunk q.relations q.cells)) most (length-chunk q.relations q.cells ∙ lr) in
    simp and-iff (s.1, (k.0.0.0.0.0, (k.0.0.0.0.1, ((s.0.0, k.0.0.0.1), (l, (used, unused))))))

pub good-query : (most : ℕ) (schema : List ℕ) (q : Query) → (query_for most schema).good q ≡ true
    → (shaped_for most q ≡ true) × (good_up_to most schema q ≡ true)
unfolding query_for via sequence byte entries padded rows entry good_up_to
good-query most schema q h =
    let k = simp and-iff at h in
    let l : length q.relations ≡ most =
    sym (length-chunk q.relations q.cells) ∙ eqb-true (length (chunk q.relations q.cells)) most k.1.1.1.1.0 in
    let lc : length q.cells ≡ 8 * length q.relations = eqb-true (length q.cells) (8 * most) k.0 ∙ omega arith in
    let used : good_rows schema (take q.size q.relations) q.cells ≡ true =
    sym (rows-good schema q.size q.relations q.cells lc) ∙ k.1.1.1.1.1.0 in
    let unused : (every is_zero (drop q.size q.relations) && every blank_cell (drop (8 * q.size) q.cells)) ≡ true =
    sym (rows-blank q.size q.relations q.cells lc) ∙ k.1.1.1.1.1.1 in
    let u = simp and-iff at unused in (
      simp and-iff ((k.1.1.1.0.0, eq-eqb (length q.relations) most l), k.0),
      simp and-iff (((((k.1.0, k.1.1.0), k.1.1.1.0.1), used), u.0), u.1),
    )
