-- How long the parts are: exactly, and at most.
use mathlib.Core.Path.{◌≡◌, refl, sym, ap}
use mathlib.Core.Bool.{true, cond}
use mathlib.Core.List.{List, [], ◌∷◌, flat_map}
use Prim.Native.Nat.{ℕ, suc, ◌+◌, ◌*◌, ◌≤◌}
use native.Mathlib.Nat.{mul-suc, mul-zero}
use native.Mathlib.Omega.{arith}
use lib.Dec.{eqb, lit≤}
use borrow.Author.Tests.{eqb-true}
use lib.ListN.{length, take, get_or, length-append, length-take}
use Rattle.query.specs.declared.Entry.{Entry}
use Rattle.query.specs.declared.Entry.TheVariants.{Constant, Variable}
use Rattle.query.specs.declared.Cell.{Cell}
use Rattle.query.specs.Types.{Query}
use Rattle.query.specs.declared.Dependency.{Dependency}
use Rattle.query.specs.declared.JoinDependency.{JoinDependency}
use Rattle.query.specs.declared.CodePair.{CodePair}
use Rattle.query.specs.Rule.{shaped_join}
use Rattle.lists.specs.Tests.{every}
use Rattle.lists.proofs.Tests.{and_left, and_right, every_take}
use Rattle.format.specs.Bytes.{bytes_of}
use Rattle.format.specs.Format.{byte, sequence, padded, such_that, via}
use Rattle.format.specs.Parts.{relations, code_pair, code_pairs, codes, dependency, dependencies, join, joins, put_entry, entry, entries, row, rows, chunk, query_for}
use Rattle.format.proofs.Numbers.{length-bytes}
use Rattle.format.proofs.Parts.{Narrow, narrow_at, head_fits}

pub take_short : {A : Type 0} (n : ℕ) (xs : List A) → length (take n xs) ≤ n
take_short n xs = simp length-take (omega arith)

-- ---- exact lengths

pub length-flat_map : {A : Type 0} (put : A → List ℕ) (c : ℕ) → ((x : A) → length (put x) ≡ c) → (xs : List A) → length (flat_map put xs) ≡ c * length xs
unfolding flat_map
length-flat_map put c h [] = sym (mul-zero c)
length-flat_map put c h (x ∷ xs) =
    let ih : length (flat_map put xs) ≡ c * length xs = length-flat_map put c h xs in
    rw (length-append (put x) (flat_map put xs), h x, ih, mul-suc c (length xs)) (omega arith)

pub length-entry : (e : Entry) → length (put_entry e) ≡ 5
unfolding put_entry
length-entry (Constant n) = ap suc (length-bytes 4 n)
length-entry (Variable v) = ap suc (length-bytes 4 v)

pub length-entries : (n : ℕ) (cells : List Cell) → length ((entries n).put cells) ≡ 5 * length (take n cells)
unfolding entries padded entry
length-entries n cells = length-flat_map (λ c. put_entry c.entry) 5 (λ c. length-entry c.entry) (take n cells)

pub length-row : (schema : List ℕ) (r : ℕ × List Cell) → length ((row schema).put r) ≡ 1 + 5 * length (take (get_or schema r.0 0) r.1)
unfolding row sequence byte
length-row schema r =
    let e : length ((entries (get_or schema r.0 0)).put r.1) ≡ 5 * length (take (get_or schema r.0 0) r.1) =
    length-entries (get_or schema r.0 0) r.1 in omega arith

pub length-pair : (p : CodePair) → length (code_pair.put p) ≡ 8
unfolding code_pair
length-pair p = omega (arith, length-append (bytes_of 4 p.old) (bytes_of 4 p.current), length-bytes 4 p.old, length-bytes 4 p.current)

pub length-relations : (n : ℕ) (widths : List ℕ) → length (relations.put (n, widths)) ≡ 1 + length (take n widths)
unfolding relations sequence byte padded
length-relations n widths =
    let e : length (flat_map (λ b. b ∷ []) (take n widths)) ≡ 1 * length (take n widths) = length-flat_map (λ b. b ∷ []) 1 (λ b. refl) (take n widths) in
    omega arith

pub length-codes : (n : ℕ) (ps : List CodePair) → length (codes.put (n, ps)) ≡ 1 + 8 * length (take n ps)
unfolding codes such_that code_pairs sequence byte padded code_pair
length-codes n ps =
    let e = length-flat_map code_pair.put 8 length-pair (take n ps) in
    omega arith

pub length-dependencies : (schema : List ℕ) (n : ℕ) (ds : List Dependency) → length ((dependencies schema).put (n, ds)) ≡ 1 + 3 * length (take n ds)
unfolding dependencies sequence byte padded dependency
length-dependencies schema n ds =
    let e = length-flat_map (λ d. (dependency schema).put d) 3 (λ d. refl) (take n ds) in omega arith

pub length-join : (schema : List ℕ) (j : JoinDependency) → length ((join schema).put j) ≡ 2 + length (take j.count j.sets)
unfolding join
length-join schema j = omega arith

pub length-query : (most : ℕ) (schema : List ℕ) (q : Query)
    → length ((query_for most schema).put q)
    ≡ 2 + (5 * length (take (cond (eqb q.size 0) 0 q.arity) q.head) + length (flat_map (row schema).put
    (take q.size (chunk q.relations q.cells))))
unfolding query_for via sequence byte rows padded
length-query most schema q =
    let n : ℕ = cond (eqb q.size 0) 0 q.arity in
    let e = length-append ((entries n).put q.head) (flat_map (row schema).put (take q.size (chunk q.relations q.cells))) in
    let l = length-entries n q.head in
    omega arith

-- ---- at most

flat_map-short : {A : Type 0} (put : A → List ℕ) (b : ℕ) → ((x : A) → length (put x) ≤ b) → (xs : List A) → length (flat_map put xs) ≤ b * length xs
unfolding flat_map
flat_map-short put b h [] = rw mul-zero (lit≤ tt)
flat_map-short put b h (x ∷ xs) =
    let ih : length (flat_map put xs) ≤ b * length xs = flat_map-short put b h xs in
    rw (length-append (put x) (flat_map put xs), mul-suc b (length xs)) (omega (arith, h x))

pub joins-short : (schema : List ℕ) (n : ℕ) (js : List JoinDependency) → every shaped_join js ≡ true → length ((joins schema).put (n, js)) ≤ 1 + 6 * length js
unfolding joins sequence byte padded every flat_map
joins-short schema n js h =
    omega (arith, go (take n js) (every_take shaped_join n js h), lib.ListN.length-take n js)
  where
    go : (xs : List JoinDependency) → every shaped_join xs ≡ true → length (flat_map (join schema).put xs) ≤ 6 * length xs
    go [] h = omega arith
    go (j ∷ xs) h =
        let ih : length (flat_map (join schema).put xs) ≤ 6 * length xs = go xs (and_right (shaped_join j) (every shaped_join xs) h) in
        let four : length j.sets ≡ 4 = eqb-true (length j.sets) 4 (and_left (shaped_join j) (every shaped_join xs) h) in
        rw (length-append ((join schema).put j) (flat_map (join schema).put xs)) (omega (arith, length-join schema j, length-take j.count j.sets))

pub query-short : (most : ℕ) (schema : List ℕ) (q : Query) → Narrow schema → q.arity ≤ 8 → q.size ≤ most
    → length ((query_for most schema).put q) ≤ 42 + 41 * most
query-short most schema q hn ha hz =
    let n : ℕ = cond (eqb q.size 0) 0 q.arity in
    let hf : n ≤ 8 = head_fits q.size q.arity ha in
    let hd : length (take n q.head) ≤ n = take_short n q.head in
    let rs : List (ℕ × List Cell) = take q.size (chunk q.relations q.cells) in
    let hr : length rs ≤ q.size = take_short q.size (chunk q.relations q.cells) in
    let l : length (flat_map (row schema).put rs) ≤ 41 * length rs =
    flat_map-short (row schema).put 41
    (λ r. omega (arith, length-row schema r, take_short (get_or schema r.0 0) r.1, narrow_at schema r.0 hn)) rs in
    omega (arith, length-query most schema q)
