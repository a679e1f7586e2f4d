-- A row by its bytes, and rows kept in flat arrays.
use mathlib.Core.Path.{◌≡◌, sym, ap, ◌∙◌}
use mathlib.Core.Bool.{Bool}
use mathlib.Core.List.{List, [], ◌∷◌, ◌++◌, append_assoc}
use Prim.Native.Nat.{ℕ, zero, suc, ◌+◌, ◌*◌, ◌-◌, ◌≤◌, ◌<◌}
use native.Mathlib.Omega.{arith}
use lib.Dec.{ltb}
use lib.ListN.{length, get_or, take, drop, set, replicate, length-append, length-replicate, replicate-append-replicate, take-append-drop}
use lib.Seq.{drop-drop, take_at, drop_at, length-take-le}
use borrow.Author.Tests.{le-ltb, lt-ltb}
use Rattle.query.specs.declared.Cell.{Cell}
use Rattle.query.specs.Rule.{no_cell}
use Rattle.lists.specs.Over.{over, pad}
use Rattle.lists.proofs.Loops.{replicate-drop}
use Rattle.format.specs.Format.{none, got, map_reading, get_times, byte, padded}
use Rattle.format.specs.Parts.{entry, entries, row, chunk}
use Rattle.parsing.proofs.Positions.{no-byte, byte-bad, byte-good}
use Rattle.parsing.proofs.Counted.{sequence-none, sequence-got}

-- ---- entries in 8 cells

module _ (n : ℕ) (bytes : List ℕ) where
  pub entries-none : get_times entry.get n bytes ≡ none → (entries n).get bytes ≡ none
  unfolding entries padded map_reading
  entries-none e = rw e

  pub entries-got : (cells : List Cell) (rest : List ℕ) → get_times entry.get n bytes ≡ got cells rest
      → (entries n).get bytes ≡ got (pad 8 no_cell cells) rest
  unfolding entries padded map_reading
  entries-got cells rest e = rw e

-- ---- one row

module _ (schema : List ℕ) where
  abbrev known : ℕ → Bool
  known r = ltb r (length schema)

  pub no-row : (s : List ℕ) → length s ≡ 0 → none ≡ (row schema).get s
  unfolding row byte
  no-row s e = sym (sequence-none (byte known) (λ r. entries (get_or schema r 0)) s (sym (no-byte known s e)))

  module _ (s : List ℕ) (r : ℕ) (rest : List ℕ) (is : s ≡ r ∷ rest) where
    pub row-unknown : length schema ≤ r → none ≡ (row schema).get s
    unfolding row byte
    row-unknown u =
        sym (sequence-none (byte known) (λ r. entries (get_or schema r 0)) s (sym (byte-bad known s r rest is (le-ltb r (length schema) u))))

    row-known : r < length schema → (row schema).get s ≡ map_reading (λ cells. (r, cells)) ((entries (get_or schema r 0)).get rest)
    unfolding row byte
    row-known k =
        sequence-got (byte known) (λ r. entries (get_or schema r 0)) s r rest (sym (byte-good known s r rest is (lt-ltb r (length schema) k)))

    pub row-bad : r < length schema → (entries (get_or schema r 0)).get rest ≡ none → none ≡ (row schema).get s
    unfolding map_reading
    row-bad k e = sym (row-known k ∙ rw e)

    pub row-good : r < length schema → (cells : List Cell) (left : List ℕ) → (entries (get_or schema r 0)).get rest ≡ got cells left
        → got (r, cells) left ≡ (row schema).get s
    unfolding map_reading
    row-good k cells left e = sym (row-known k ∙ rw e)

-- ---- rows in flat arrays

drop-over : {A : Type 0} (k : ℕ) (xs : List A) (i : ℕ) (ys : List A) → k ≤ length xs → drop k (over xs (k + i) ys) ≡ over (drop k xs) i ys
drop-over k xs i ys h =
    let t : take (k + i) xs ≡ take k xs ++ take i (drop k xs) = lib.Seq.take-add k i xs in
    let d : drop (k + i + length ys) xs ≡ drop (i + length ys) (drop k xs) =
    ap (λ (n : ℕ). drop n xs) (native.Mathlib.Nat.add_assoc k i (length ys)) ∙ sym (drop-drop (i + length ys) k xs) in
    let l : length (take k xs) ≡ k = length-take-le k xs h in
    rw (t, d, append_assoc (take k xs) (take i (drop k xs)) ys, append_assoc (take k xs) (take i (drop k xs) ++ ys) (drop (i + length ys) (drop k xs)))
    (drop_at (take k xs) (take i (drop k xs) ++ ys ++ drop (i + length ys) (drop k xs)) k l)

take-over : {A : Type 0} (k : ℕ) (xs : List A) (i : ℕ) (ys : List A) → k ≤ length xs → take k (over xs (k + i) ys) ≡ take k xs
take-over k xs i ys h =
    let t : take (k + i) xs ≡ take k xs ++ take i (drop k xs) = lib.Seq.take-add k i xs in
    let l : length (take k xs) ≡ k = length-take-le k xs h in
    rw (t, append_assoc (take k xs) (take i (drop k xs)) ys, append_assoc (take k xs) (take i (drop k xs) ++ ys) (drop (k + i + length ys) xs))
    (take_at (take k xs) (take i (drop k xs) ++ ys ++ drop (k + i + length ys) xs) k l)

pub chunk-set : (relations : List ℕ) (cells : List Cell) (r x : ℕ) (cs : List Cell) → r < length relations → length cells ≡ 8 * length relations → length cs ≡ 8
    → chunk (set relations r x) (over cells (8 * r) cs) ≡ set (chunk relations cells) r (x, cs)
unfolding chunk
chunk-set [] cells r x cs h l k = absurd (omega arith)
chunk-set (y ∷ rs) cells zero x cs h l k =
    let t : take 8 (cs ++ drop (0 + length cs) cells) ≡ cs = take_at cs (drop (0 + length cs) cells) 8 k in
    let d : drop 8 (cs ++ drop (0 + length cs) cells) ≡ drop (0 + length cs) cells = drop_at cs (drop (0 + length cs) cells) 8 k in
    let n : 0 + length cs ≡ 8 = omega arith in
    rw (t, d, n)
chunk-set (y ∷ rs) cells (suc r) x cs h l k =
    let n : 8 * suc r ≡ 8 + 8 * r = omega arith in
    let lt : 8 ≤ length cells = omega arith in
    let ld : length (drop 8 cells) ≡ 8 * length rs = lib.ListN.length-drop 8 cells ∙ omega arith in
    let ih : chunk (set rs r x) (over (drop 8 cells) (8 * r) cs) ≡ set (chunk rs (drop 8 cells)) r (x, cs) =
    chunk-set rs (drop 8 cells) r x cs (native.Mathlib.Nat.le_of_suc-le-suc h) ld k in
    let t : take 8 (over cells (8 * suc r) cs) ≡ take 8 cells = ap (λ (m : ℕ). take 8 (over cells m cs)) n ∙ take-over 8 cells (8 * r) cs lt in
    let d : drop 8 (over cells (8 * suc r) cs) ≡ over (drop 8 cells) (8 * r) cs =
    ap (λ (m : ℕ). drop 8 (over cells m cs)) n ∙ drop-over 8 cells (8 * r) cs lt in
    ap {B = List (ℕ × List Cell)} (λ c. (y, c) ∷ chunk (set rs r x) (drop 8 (over cells (8 * suc r) cs))) t
    ∙ ap {B = List (ℕ × List Cell)} (λ c. (y, take 8 cells) ∷ chunk (set rs r x) c) d ∙ ap {B = List (ℕ × List Cell)} (λ c. (y, take 8 cells) ∷ c) ih

-- blanks over blanks
pub blank-over : {A : Type 0} (xs : List A) (k n m : ℕ) (blank : A) → drop k xs ≡ replicate m blank → n ≤ m → over xs k (replicate n blank) ≡ xs
blank-over {A = A} xs k n m blank e h =
    let d : drop (k + n) xs ≡ replicate (m - n) blank = sym (drop-drop n k xs) ∙ ap (λ (ys : List A). drop n ys) e ∙ replicate-drop n m blank in
    let t : n + (m - n) ≡ m = omega arith in
    let j : replicate n blank ++ replicate (m - n) blank ≡ replicate m blank = replicate-append-replicate n (m - n) blank ∙ rw t in
    rw (length-replicate n blank, d, append_assoc (take k xs) (replicate n blank) (replicate (m - n) blank), j, ← e) (take-append-drop k xs)

-- what stands after what is written over a list
pub drop-past-over : {A : Type 0} (xs : List A) (k n : ℕ) (ys : List A) → k ≤ length xs → length ys ≡ n → drop (k + n) (over xs k ys) ≡ drop (k + n) xs
drop-past-over xs k n ys h e =
    let lt : length (take k xs) ≡ k = length-take-le k xs h in
    let l : length (take k xs ++ ys) ≡ k + n = length-append (take k xs) ys ∙ rw (lt, e) in
    drop_at (take k xs ++ ys) (drop (k + length ys) xs) (k + n) l ∙ rw e
