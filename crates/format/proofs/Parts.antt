-- The two laws of each part of the file.
use mathlib.Core.Path.{◌≡◌, refl, sym, ap, ◌∙◌, subst}
use mathlib.Core.Bool.{Bool, true, false, cond, ◌&&◌}
use mathlib.Core.List.{List, [], ◌∷◌, ◌++◌, append_assoc, map, flat_map}
use Prim.Native.Nat.{ℕ, zero, suc, ◌+◌, ◌*◌, ◌^◌, ◌≤◌}
use native.Mathlib.Nat.{not-suc-le-zero, le_of_suc-le-suc}
use native.Mathlib.Omega.{arith}
use lib.Dec.{eqb, leb, ltb, lit≤}
use lib.ListN.{length, take, drop, get_or, replicate, length-append, length-drop, take-append-drop}
use lib.Seq.{take_at, drop_at, drop-drop, take-add, take_all, length-take-le}
use borrow.Author.Tests.{eqb-true, eqb-false, eq-eqb, leb-true, le-leb, ltb-true, lt-ltb}
use Rattle.query.specs.declared.Entry.{Entry}
use Rattle.query.specs.declared.Entry.TheVariants.{Constant, Variable}
use Rattle.query.specs.declared.Cell.{Cell}
use Rattle.query.specs.Types.{Query}
use Rattle.query.specs.declared.JoinDependency.{JoinDependency}
use Rattle.query.specs.declared.CodePair.{CodePair}
use Rattle.lists.specs.Tests.{between, every, is_zero}
use Rattle.lists.specs.Over.{pad}
use Rattle.query.specs.Rule.{blank_cell, blank_dependency, blank_join, good_dependency, good_join_set, good_join, good_entry, good_cell, no_cell, no_dependency, no_join}
use Rattle.query.specs.Rule.{blank_pair, good_codes, no_pair, shaped_join}
use Rattle.query.proofs.Good.{good-join}
use Rattle.query.proofs.Shape.{blank-number, blank-cell, blank-dependency, blank-join}
use Rattle.format.specs.Bytes.{number, bytes_of, Bytes}
use Rattle.format.specs.Format.{got, got_if, Format, Lawful, byte, sequence, padded}
use Rattle.format.specs.Parts.{relations, pair_at, code_pair, code_pairs, codes, dependency_at, dependency, dependencies, put_entry, is_entry, entry_from, entry, entries, row, no_row, blank_row}
use Rattle.format.specs.Parts.{join_at, join, unused_join, joins, rows, chunk, flat, QueryFields, query_with, fields_of, full_cells, query_for}
use Rattle.lists.proofs.Tests.{and_left, and_right, and_both, and-iff, every_drop, every-join, every-weaken, every-same, used-blank}
use Rattle.lists.proofs.Loops.{stretch-length}
use Rattle.lists.proofs.Over.{length-pad}
use Rattle.format.proofs.Numbers.{number-bytes, number-below, bytes-number, length-bytes}
use Rattle.format.proofs.Formats.{got_if-true, byte-lawful, sequence-lawful, pad-take, take-pad, padded-lawful, such_that-lawful, via-lawful}

-- ---- part 0 and part 1

pub relations-lawful : Lawful relations
unfolding relations byte
relations-lawful =
    sequence-lawful (byte (between 1 8)) (λ n. padded 8 0 is_zero n (byte (between 1 8))) (byte-lawful (between 1 8))
    (λ n h.
    let k : (leb 1 n ≡ true) × (leb n 8 ≡ true) = simp and-iff at h in
    padded-lawful 8 0 is_zero n (byte (between 1 8)) blank-number refl (leb-true n 8 k.1) (byte-lawful (between 1 8)))

-- a blank pair is the one of zeros
pub blank-pair : (p : CodePair) → blank_pair p ≡ true → p ≡ no_pair
blank-pair p e =
    λ i.
    record {
      old = eqb-true p.old 0 (and_left (is_zero p.old) (is_zero p.current) e) i;
      current = eqb-true p.current 0 (and_right (is_zero p.old) (is_zero p.current) e) i;
    }

-- the eight bytes of two numbers and the rest
eight : (bytes : List ℕ) → Bytes bytes → 8 ≤ length bytes → (bytes_of 4 (number 4 bytes) ++ bytes_of 4 (number 4 (drop 4 bytes))) ++ drop 8 bytes ≡ bytes
eight bytes b h =
    let first : bytes_of 4 (number 4 bytes) ≡ take 4 bytes = bytes-number 4 bytes b (omega arith) in
    let second : bytes_of 4 (number 4 (drop 4 bytes)) ≡ take 4 (drop 4 bytes) =
    bytes-number 4 (drop 4 bytes) (every_drop (λ n. ltb n 256) 4 bytes b) (omega (arith, length-drop 4 bytes)) in
    rw (first, second, ← take-add 4 4 bytes) (take-append-drop 8 bytes)

pub code_pair-lawful : Lawful code_pair
unfolding code_pair got_if
code_pair-lawful =
    record {
      get-put = λ p rest h.
          let k : (ltb p.old (2 ^ 32) ≡ true) × (ltb p.current (2 ^ 32) ≡ true) = simp and-iff at h in
          let bytes : List ℕ = (bytes_of 4 p.old ++ bytes_of 4 p.current) ++ rest in
          let same : bytes ≡ bytes_of 4 p.old ++ (bytes_of 4 p.current ++ rest) = append_assoc (bytes_of 4 p.old) (bytes_of 4 p.current) rest in
          let long : leb 8 (length bytes) ≡ true =
          le-leb 8 (length bytes)
          (omega (
            arith,
            length-append (bytes_of 4 p.old ++ bytes_of 4 p.current) rest,
            length-append (bytes_of 4 p.old) (bytes_of 4 p.current),
            length-bytes 4 p.old,
            length-bytes 4 p.current,
          )) in
          let after : drop 4 bytes ≡ bytes_of 4 p.current ++ rest =
          ap (drop 4) same ∙ drop_at (bytes_of 4 p.old) (bytes_of 4 p.current ++ rest) 4 (length-bytes 4 p.old) in
          let first : number 4 bytes ≡ p.old =
          ap (number 4) same ∙ number-bytes 4 p.old (bytes_of 4 p.current ++ rest) (ltb-true p.old (2 ^ 32) k.0) in
          let second : number 4 (drop 4 bytes) ≡ p.current =
          ap (number 4) after ∙ number-bytes 4 p.current rest (ltb-true p.current (2 ^ 32) k.1) in
          let left : drop 8 bytes ≡ rest =
          sym (drop-drop 4 4 bytes) ∙ ap (drop 4) after ∙ drop_at (bytes_of 4 p.current) rest 4 (length-bytes 4 p.current) in
          rw (long, first, second, left);
      put-get = λ bytes p rest hb e.
          let (t, ep, er) = got_if-true (leb 8 (length bytes)) (pair_at bytes) p (drop 8 bytes) rest e in
          let long : 8 ≤ length bytes = leb-true 8 (length bytes) t in
          rw (← ep, ← er) (
            and_both _ _ (lt-ltb (number 4 bytes) (2 ^ 32) (number-below 4 bytes hb))
                (lt-ltb (number 4 (drop 4 bytes)) (2 ^ 32) (number-below 4 (drop 4 bytes) (every_drop (λ n. ltb n 256) 4 bytes hb))),
            eight bytes hb long,
          );
    }

code_pairs-lawful : Lawful code_pairs
unfolding code_pairs byte
code_pairs-lawful =
    sequence-lawful (byte (between 1 16)) (λ n. padded 16 no_pair blank_pair n code_pair) (byte-lawful (between 1 16))
    (λ n h.
    let k : (leb 1 n ≡ true) × (leb n 16 ≡ true) = simp and-iff at h in
    padded-lawful 16 no_pair blank_pair n code_pair blank-pair refl (leb-true n 16 k.1) code_pair-lawful)

pub codes-lawful : Lawful codes
unfolding codes
codes-lawful = such_that-lawful (λ c. good_codes c.0 c.1) code_pairs code_pairs-lawful

-- three bytes off the front
three : (bytes : List ℕ) → leb 3 (length bytes) ≡ true → (get_or bytes 0 0 ∷ get_or bytes 1 0 ∷ get_or bytes 2 0 ∷ drop 3 bytes) ≡ bytes
three [] h = absurd (not-suc-le-zero (leb-true 3 0 h))
three (a ∷ []) h = absurd (not-suc-le-zero (le_of_suc-le-suc (leb-true 3 1 h)))
three (a ∷ b ∷ []) h = absurd (not-suc-le-zero (le_of_suc-le-suc (le_of_suc-le-suc (leb-true 3 2 h))))
three (a ∷ b ∷ c ∷ bytes) h = refl

pub dependency-lawful : (schema : List ℕ) → Lawful (dependency schema)
unfolding dependency got_if
dependency-lawful schema =
    record {
      get-put = λ d rest h.
          let l : leb 3 (length (d.relation ∷ d.left ∷ d.right ∷ rest)) ≡ true = le-leb 3 (length (d.relation ∷ d.left ∷ d.right ∷ rest)) (omega arith) in
          rw (l, h);
      put-get = λ bytes d rest hb e.
          let (t, ed, er) = got_if-true (leb 3 (length bytes) && good_dependency schema (dependency_at bytes)) (dependency_at bytes) d (drop 3 bytes) rest e in
          let k : (leb 3 (length bytes) ≡ true) × (good_dependency schema (dependency_at bytes) ≡ true) = simp and-iff at t in
          rw (← ed, ← er) (k.1, three bytes k.0);
    }

pub dependencies-lawful : (schema : List ℕ) → Lawful (dependencies schema)
unfolding dependencies byte
dependencies-lawful schema =
    sequence-lawful (byte (λ n. leb n 32)) (λ n. padded 32 no_dependency blank_dependency n (dependency schema)) (byte-lawful (λ n. leb n 32))
    (λ n h. padded-lawful 32 no_dependency blank_dependency n (dependency schema) blank-dependency refl (leb-true n 32 h) (dependency-lawful schema))

-- the two bytes before the sets, the sets and the rest
sets-apart : (bytes : List ℕ) (n : ℕ) → 2 + n ≤ length bytes
    → (get_or bytes 0 0 ∷ get_or bytes 1 0 ∷ take n (drop 2 bytes)) ++ drop (2 + n) bytes ≡ bytes
sets-apart [] n h = absurd (omega arith)
sets-apart (a ∷ []) n h = absurd (omega arith)
sets-apart (a ∷ b ∷ bytes) n h = let two : 2 + n ≡ suc (suc n) = omega arith in rw (two, take-append-drop n bytes)

pub join-lawful : (schema : List ℕ) → Lawful (join schema)
unfolding join got_if
join-lawful schema =
    record {
      get-put = λ j rest h.
          let k : (shaped_join j ≡ true) × (good_join schema j ≡ true) = simp and-iff at h in
          let good = good-join schema j k.1 in
          let four : length j.sets ≡ 4 = eqb-true (length j.sets) 4 k.0 in
          let n : length (take j.count j.sets) ≡ j.count = length-take-le j.count j.sets (omega (arith, good.most)) in
          let long : leb (2 + j.count) (length (j.relation ∷ j.count ∷ take j.count j.sets ++ rest)) ≡ true =
          le-leb (2 + j.count) (length (j.relation ∷ j.count ∷ take j.count j.sets ++ rest))
          (omega (arith, length-append (take j.count j.sets) rest)) in
          let read : take j.count (take j.count j.sets ++ rest) ≡ take j.count j.sets =
          take_at (take j.count j.sets) rest j.count n in
          let back : pad 4 0 (take j.count j.sets) ≡ j.sets =
          pad-take 4 0 is_zero j.count blank-number good.most j.sets four
          (used-blank j.count (good_join_set schema j.relation) is_zero j.sets good.sets) in
          let two : 2 + j.count ≡ suc (suc j.count) = omega arith in
          let left : drop (2 + j.count) (j.relation ∷ j.count ∷ take j.count j.sets ++ rest) ≡ rest =
          ap (λ (k : ℕ). drop k (j.relation ∷ j.count ∷ take j.count j.sets ++ rest)) two ∙ drop_at (take j.count j.sets) rest j.count n in
          rw (long, read, back, left, k.1);
      put-get = λ bytes j rest hb e.
          let n : ℕ = get_or bytes 1 0 in
          let (t, ej, er) = got_if-true (leb (2 + n) (length bytes) && good_join schema (join_at bytes)) (join_at bytes) j (drop (2 + n) bytes) rest e in
          let k : (leb (2 + n) (length bytes) ≡ true) × (good_join schema (join_at bytes) ≡ true) = simp and-iff at t in
          let long : 2 + n ≤ length bytes = leb-true (2 + n) (length bytes) k.0 in
          let few : n ≤ 4 = (good-join schema (join_at bytes) k.1).most in
          let l : length (take n (drop 2 bytes)) ≡ n = stretch-length 2 n bytes long in
          let four : length (pad 4 0 (take n (drop 2 bytes))) ≡ 4 = length-pad 4 0 (take n (drop 2 bytes)) (omega arith) in
          rw (← ej, ← er) (
            and_both _ _ (eq-eqb (length (pad 4 0 (take n (drop 2 bytes)))) 4 four) k.1,
            ap (λ (sets : List ℕ). (get_or bytes 0 0 ∷ n ∷ sets) ++ drop (2 + n) bytes) (take-pad 4 0 n (take n (drop 2 bytes)) l) ∙ sets-apart bytes n long,
          );
    }

pub unused-join : (j : JoinDependency) → unused_join j ≡ true → j ≡ no_join
unused-join j h =
    let k : (shaped_join j ≡ true) × (blank_join j ≡ true) = (and-iff (shaped_join j) (blank_join j)).0 h in
    blank-join j (eqb-true (length j.sets) 4 k.0) k.1

pub joins-lawful : (schema : List ℕ) → Lawful (joins schema)
unfolding joins byte every
joins-lawful schema =
    sequence-lawful (byte (between 1 4)) (λ n. padded 4 no_join unused_join n (join schema)) (byte-lawful (between 1 4))
    (λ n h.
    let k : (leb 1 n ≡ true) × (leb n 4 ≡ true) = simp and-iff at h in
    padded-lawful 4 no_join unused_join n (join schema) unused-join refl (leb-true n 4 k.1) (join-lawful schema))

-- ---- entries and rows

-- an entry's bytes, and what follows them
put_entry-get : (e : Entry) (rest : List ℕ) → good_entry e ≡ true → entry.get (put_entry e ++ rest) ≡ got (record { entry = e }) rest
unfolding entry put_entry got_if
put_entry-get (Constant n) rest h =
    let bytes : List ℕ = 0 ∷ bytes_of 4 n ++ rest in
    let l : leb 5 (length bytes) ≡ true = le-leb 5 (length bytes) (omega (arith, length-append (bytes_of 4 n) rest, length-bytes 4 n)) in
    let k : number 4 (bytes_of 4 n ++ rest) ≡ n = number-bytes 4 n rest (omega (arith, leb-true n 2147483647 h)) in
    let d : drop 4 (bytes_of 4 n ++ rest) ≡ rest = drop_at (bytes_of 4 n) rest 4 (length-bytes 4 n) in
    rw (l, k, d, h)
put_entry-get (Variable v) rest h =
    let bytes : List ℕ = 1 ∷ bytes_of 4 v ++ rest in
    let l : leb 5 (length bytes) ≡ true = le-leb 5 (length bytes) (omega (arith, length-append (bytes_of 4 v) rest, length-bytes 4 v)) in
    let k : number 4 (bytes_of 4 v ++ rest) ≡ v = number-bytes 4 v rest (omega (arith, leb-true v 95 h)) in
    let d : drop 4 (bytes_of 4 v ++ rest) ≡ rest = drop_at (bytes_of 4 v) rest 4 (length-bytes 4 v) in
    rw (l, k, d, h)

-- the first byte, the four bytes_of after it and the rest
five : (bytes : List ℕ) → Bytes bytes → 5 ≤ length bytes → (get_or bytes 0 0 ∷ bytes_of 4 (number 4 (drop 1 bytes))) ++ drop 5 bytes ≡ bytes
unfolding every
five [] b h = absurd (not-suc-le-zero h)
five (x ∷ bytes) b h =
    let d : bytes_of 4 (number 4 bytes) ≡ take 4 bytes = bytes-number 4 bytes (and_right (ltb x 256) (every (λ n. ltb n 256) bytes) b) (le_of_suc-le-suc h) in
    rw (d, take-append-drop 4 bytes)

-- the entry that a byte and a number stand for is good, and written so
entry_from-put : (tag n : ℕ) (t : Bool) → eqb tag 0 ≡ t → is_entry tag n ≡ true
    → (good_cell (entry_from tag n) ≡ true) × (put_entry (entry_from tag n).entry ≡ tag ∷ bytes_of 4 n)
unfolding put_entry
entry_from-put tag n true e h = let z : tag ≡ 0 = eqb-true tag 0 e in rw z (rw z at h, refl)
entry_from-put tag n false e h =
    let low : tag ≤ 1 = leb-true tag 1 (and_left (leb tag 1) (good_cell (entry_from tag n)) h) in
    let past : tag ≡ 0 → ⊥ = eqb-false tag 0 e in
    let z : tag ≡ 1 = omega (arith, low, past) in
    rw z (rw z at h, refl)

pub entry-lawful : Lawful entry
unfolding entry
entry-lawful =
    record {
      get-put = λ c rest h. put_entry-get c.entry rest h;
      put-get = λ bytes c rest hb e.
          let tag : ℕ = get_or bytes 0 0 in
          let n : ℕ = number 4 (drop 1 bytes) in
          let (t, ec, er) = got_if-true (leb 5 (length bytes) && is_entry tag n) (entry_from tag n) c (drop 5 bytes) rest e in
          let long : 5 ≤ length bytes = leb-true 5 (length bytes) (and_left (leb 5 (length bytes)) (is_entry tag n) t) in
          let p = entry_from-put tag n (eqb tag 0) refl (and_right (leb 5 (length bytes)) (is_entry tag n) t) in
          subst (λ (c : Cell). (good_cell c ≡ true) × (put_entry c.entry ++ rest ≡ bytes)) ec
          (p.0, rw (p.1, ← er) (five bytes hb long));
    }

pub entries-lawful : (n : ℕ) → n ≤ 8 → Lawful (entries n)
unfolding entries
entries-lawful n h = padded-lawful 8 no_cell blank_cell n entry blank-cell refl h entry-lawful

-- No relation has more than 8 columns
abbrev pub Narrow : List ℕ → Type 0
Narrow schema = every (λ w. leb w 8) schema ≡ true

pub narrow_at : (schema : List ℕ) (r : ℕ) → Narrow schema → get_or schema r 0 ≤ 8
unfolding every
narrow_at [] r h = lit≤ tt
narrow_at (w ∷ schema) zero h = leb-true w 8 (and_left (leb w 8) (every (λ w. leb w 8) schema) h)
narrow_at (w ∷ schema) (suc r) h = narrow_at schema r (and_right (leb w 8) (every (λ w. leb w 8) schema) h)

pub row_lawful : (schema : List ℕ) → Narrow schema → Lawful (row schema)
unfolding row
row_lawful schema hs =
    sequence-lawful (byte (λ r. ltb r (length schema))) (λ r. entries (get_or schema r 0)) (byte-lawful (λ r. ltb r (length schema)))
    (λ r h. entries-lawful (get_or schema r 0) (narrow_at schema r hs))

pub blank-row : (r : ℕ × List Cell) → blank_row r ≡ true → r ≡ no_row
blank-row r h =
    let k : (is_zero r.0 ≡ true) × ((eqb (length r.1) 8 ≡ true) × (every blank_cell r.1 ≡ true)) = simp and-iff at h in
    let p : r.1 ≡ replicate 8 no_cell =
    every-same blank_cell no_cell blank-cell r.1 k.1.1 ∙ ap (λ (n : ℕ). replicate n no_cell) (eqb-true (length r.1) 8 k.1.0) in
    λ i. (blank-number r.0 k.0 i, p i)

pub rows-lawful : (most : ℕ) (schema : List ℕ) (n : ℕ) → Narrow schema → n ≤ most → Lawful (rows most schema n)
unfolding rows every
rows-lawful most schema n hs h = padded-lawful most no_row blank_row n (row schema) blank-row refl h (row_lawful schema hs)

-- ---- relations and cells as rows

-- Whether a row has 8 cells
abbrev pub full_row : ℕ × List Cell → Bool
full_row r = eqb (length r.1) 8

pub chunk-flat : (rs : List (ℕ × List Cell)) → every full_row rs ≡ true → chunk (map (λ r. r.0) rs) (flat rs) ≡ rs
unfolding every chunk flat_map
chunk-flat [] h = refl
chunk-flat (r ∷ rs) h =
    let l : length r.1 ≡ 8 = eqb-true (length r.1) 8 (and_left (full_row r) (every full_row rs) h) in
    rw (take_at r.1 (flat rs) 8 l, drop_at r.1 (flat rs) 8 l, chunk-flat rs (and_right (full_row r) (every full_row rs) h))

pub length-flat : (rs : List (ℕ × List Cell)) → every full_row rs ≡ true → length (flat rs) ≡ 8 * length rs
unfolding every flat_map
length-flat [] h = refl
length-flat (r ∷ rs) h =
    let l : length r.1 ≡ 8 = eqb-true (length r.1) 8 (and_left (full_row r) (every full_row rs) h) in
    let ih : length (flat rs) ≡ 8 * length rs = length-flat rs (and_right (full_row r) (every full_row rs) h) in
    rw (length-append r.1 (flat rs)) (omega arith)

pub map-chunk : (relations : List ℕ) (cells : List Cell) → map (λ r. r.0) (chunk relations cells) ≡ relations
unfolding chunk
map-chunk [] cells = refl
map-chunk (r ∷ rs) cells = ap {B = List ℕ} (λ rs. r ∷ rs) (map-chunk rs (drop 8 cells))

pub flat-chunk : (relations : List ℕ) (cells : List Cell) → flat (chunk relations cells) ≡ take (8 * length relations) cells
unfolding chunk flat_map
flat-chunk [] cells = refl
flat-chunk (r ∷ rs) cells =
    let n : 8 * length (r ∷ rs) ≡ 8 + 8 * length rs = omega arith in
    rw (flat-chunk rs (drop 8 cells), n, lib.Seq.take-add 8 (8 * length rs) cells)

-- good rows are as many as there is room for, of 8 cells each
pub rows-full : (most : ℕ) (schema : List ℕ) (n : ℕ) (rs : List (ℕ × List Cell)) → (rows most schema n).good rs ≡ true
    → (length rs ≡ most) × (every full_row rs ≡ true)
unfolding rows padded row sequence entries byte
rows-full most schema n rs h =
    let k : (eqb (length rs) most ≡ true) × ((every (row schema).good (take n rs) ≡ true) × (every blank_row (drop n rs) ≡ true)) = simp and-iff at h in
    let used : every full_row (take n rs) ≡ true =
    every-weaken (row schema).good full_row
    (λ r g. (simp and-iff at g).1.0)
    (take n rs) k.1.0 in
    let unused : every full_row (drop n rs) ≡ true =
    every-weaken blank_row full_row (λ r g. (simp and-iff at g).1.0) (drop n rs) k.1.1 in
    (eqb-true (length rs) most k.0, every-join full_row n rs used unused)

-- ---- queries

-- The format of a query's fields
fields : ℕ → List ℕ → Format QueryFields
fields most schema =
    sequence (byte (λ n. leb n 8))
    (λ arity.
    sequence (byte (λ n. leb n most))
    (λ size. sequence (entries (cond (eqb size 0) 0 arity)) (λ head. rows most schema size)))

pub head_fits : (size arity : ℕ) → arity ≤ 8 → cond (eqb size 0) 0 arity ≤ 8
head_fits size arity h = go (eqb size 0)
  where
    go : (t : Bool) → cond t 0 arity ≤ 8
    go true = lit≤ tt
    go false = h

fields-lawful : (most : ℕ) (schema : List ℕ) → Narrow schema → Lawful (fields most schema)
unfolding fields byte
fields-lawful most schema hs =
    sequence-lawful (byte (λ n. leb n 8))
    (λ arity. sequence (byte (λ n. leb n most)) (λ size. sequence (entries (cond (eqb size 0) 0 arity)) (λ head. rows most schema size)))
    (byte-lawful (λ n. leb n 8))
    (λ arity ha.
    sequence-lawful (byte (λ n. leb n most)) (λ size. sequence (entries (cond (eqb size 0) 0 arity)) (λ head. rows most schema size)) (byte-lawful (λ n. leb n most))
    (λ size hz.
    sequence-lawful (entries (cond (eqb size 0) 0 arity)) (λ head. rows most schema size)
    (entries-lawful (cond (eqb size 0) 0 arity) (head_fits size arity (leb-true arity 8 ha))) (λ head hh. rows-lawful most schema size hs (leb-true size most hz))))

-- good fields have good rows
fields-rows : (most : ℕ) (schema : List ℕ) (f : QueryFields) → (fields most schema).good f ≡ true → (rows most schema f.1.0).good f.1.1.1 ≡ true
unfolding fields sequence
fields-rows most schema f h =
    let a : Bool = (entries (cond (eqb f.1.0 0) 0 f.0)).good f.1.1.0 in
    let b : Bool = (rows most schema f.1.0).good f.1.1.1 in
    let c : Bool = (byte (λ n. leb n most)).good f.1.0 in
    let d : Bool = (byte (λ n. leb n 8)).good f.0 in
    and_right a b (and_right c (a && b) (and_right d (c && (a && b)) h))

pub query-lawful : (most : ℕ) (schema : List ℕ) → Narrow schema → Lawful (query_for most schema)
unfolding query_for fields
query-lawful most schema hs = via-lawful (full_cells most) query_with fields_of (fields most schema) there back (fields-lawful most schema hs)
  where
    there : (f : QueryFields) → (fields most schema).good f ≡ true → (fields_of (query_with f) ≡ f) × (full_cells most (query_with f) ≡ true)
    there f h =
        let k : (length f.1.1.1 ≡ most) × (every full_row f.1.1.1 ≡ true) =
        rows-full most schema f.1.0 f.1.1.1 (fields-rows most schema f h) in
        let p : chunk (map (λ r. r.0) f.1.1.1) (flat f.1.1.1) ≡ f.1.1.1 = chunk-flat f.1.1.1 k.1 in
        let l : length (flat f.1.1.1) ≡ 8 * most = omega (arith, length-flat f.1.1.1 k.1, k.0) in
        (λ i. (f.0, (f.1.0, (f.1.1.0, p i))), eq-eqb (length (flat f.1.1.1)) (8 * most) l)

    back : (q : Query) → full_cells most q ≡ true → (fields most schema).good (fields_of q) ≡ true → query_with (fields_of q) ≡ q
    back q full h =
        let l : length q.cells ≡ 8 * most = eqb-true (length q.cells) (8 * most) full in
        let k : length (chunk q.relations q.cells) ≡ most =
        (rows-full most schema q.size (chunk q.relations q.cells) (fields-rows most schema (fields_of q) h)).0 in
        let n : length q.relations ≡ most =
        sym (ap length (map-chunk q.relations q.cells)) ∙ lib.ListN.length-map (chunk q.relations q.cells) (λ r. r.0) ∙ k in
        let c : flat (chunk q.relations q.cells) ≡ q.cells =
        flat-chunk q.relations q.cells ∙ take_all (8 * length q.relations) q.cells (omega arith) in
        λ i. record { arity = q.arity; size = q.size; head = q.head; relations = map-chunk q.relations q.cells i; cells = c i }
