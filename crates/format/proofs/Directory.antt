-- The directory: the parts of an assembled file are found again, and a file whose directory is accepted is its parts assembled.
use mathlib.Core.Path.{◌≡◌, refl, sym, ap, ◌∙◌, subst}
use mathlib.Core.Bool.{Bool, true, false, cond}
use mathlib.Core.List.{List, [], ◌∷◌, ◌++◌, append_assoc, flatten}
use Prim.Native.Nat.{ℕ, zero, suc, ◌+◌, ◌*◌, ◌-◌, ◌≤◌, ◌<◌}
use native.Mathlib.Omega.{arith}
use lib.Dec.{eqb, leb, ltb}
use lib.ListN.{length, take, drop, length-append, length-drop, take-append-drop}
use lib.Seq.{take_at, drop_at, length-take-le, drop-drop, take-add, drop-length}
use borrow.Author.Tests.{eqb-true, eq-eqb, leb-true, le-leb}
use Rattle.refusals.specs.Refusals.{bad_offsets, gives, refused, Reply}
use Rattle.format.specs.Bytes.{number, bytes_of, Bytes}
use Rattle.format.specs.File.{chained, stretches, table_fits, directory, table_of, assemble}
use Rattle.lists.proofs.Tests.{and_both, and-iff, every_drop}
use Rattle.format.proofs.Numbers.{number-bytes, bytes-number, length-bytes}

pub length-table : (start : ℕ) (parts : List (List ℕ)) → length (table_of start parts) ≡ 4 * length parts
unfolding table_of
length-table start [] = refl
length-table start (p ∷ ps) =
    let ih : length (table_of (start + length p) ps) ≡ 4 * length ps = length-table (start + length p) ps in
    let e : length (bytes_of 2 start ++ bytes_of 2 (length p) ++ table_of (start + length p) ps) ≡ 2 + 2 + length (table_of (start + length p) ps) =
    simp (length-append, length-bytes) in
    rw e (omega arith)

pub length-assemble : (parts : List (List ℕ)) → length (assemble parts) ≡ 2 + 4 * length parts + length (flatten parts)
unfolding assemble
length-assemble parts = simp (length-append, length-bytes, length-table)

-- ---- an assembled file

-- the first pair of a table, and the table after it
module _ (start : ℕ) (p : List ℕ) (ps : List (List ℕ)) (rest : List ℕ) (s : start < 65536) (l : length p < 65536) where
  more : List ℕ
  more = table_of (start + length p) ps ++ rest

  table-split : table_of start (p ∷ ps) ++ rest ≡ bytes_of 2 start ++ (bytes_of 2 (length p) ++ more)
  unfolding table_of more
  table-split =
      append_assoc (bytes_of 2 start ++ bytes_of 2 (length p)) (table_of (start + length p) ps) rest ∙ append_assoc (bytes_of 2 start) (bytes_of 2 (length p)) more

  first-offset : number 2 (table_of start (p ∷ ps) ++ rest) ≡ start
  first-offset = rw table-split (number-bytes 2 start (bytes_of 2 (length p) ++ more) (omega arith))

  after-offset : drop 2 (table_of start (p ∷ ps) ++ rest) ≡ bytes_of 2 (length p) ++ more
  after-offset = rw table-split (drop_at (bytes_of 2 start) (bytes_of 2 (length p) ++ more) 2 (length-bytes 2 start))

  first-length : number 2 (drop 2 (table_of start (p ∷ ps) ++ rest)) ≡ length p
  first-length = rw after-offset (number-bytes 2 (length p) more (omega arith))

  after-pair : drop 4 (table_of start (p ∷ ps) ++ rest) ≡ table_of (start + length p) ps ++ rest
  unfolding more
  after-pair =
      sym (drop-drop 2 2 (table_of start (p ∷ ps) ++ rest)) ∙ ap (λ (t : List ℕ). drop 2 t) after-offset
      ∙ drop_at (bytes_of 2 (length p)) more 2 (length-bytes 2 (length p))

-- the table of parts that stand at the file's end
chained-table : (parts : List (List ℕ)) (start : ℕ) (file rest : List ℕ) → length file ≡ start + length (flatten parts) → length file < 65536
    → chained (length parts) start (length file) (table_of start parts ++ rest) ≡ true
unfolding chained flatten
chained-table [] start file rest l s = eq-eqb start (length file) (omega arith)
chained-table (p ∷ ps) start file rest l s =
    let l' : length file ≡ start + (length p + length (flatten ps)) = rw length-append at l in
    let hs : start < 65536 = omega arith in
    let hl : length p < 65536 = omega arith in
    rw (first-offset start p ps rest hs hl, first-length start p ps rest hs hl, after-pair start p ps rest hs hl)
    (and_both _ _ (eq-eqb start start refl) (chained-table ps (start + length p) file rest (omega arith) s))

stretches-table : (parts : List (List ℕ)) (start : ℕ) (front file rest : List ℕ) → front ++ flatten parts ≡ file → length front ≡ start → length file < 65536
    → stretches (length parts) file (table_of start parts ++ rest) ≡ parts
unfolding stretches flatten
stretches-table [] start front file rest e l s = refl
stretches-table (p ∷ ps) start front file rest e l s =
    let e' : front ++ p ++ flatten ps ≡ file = append_assoc front p (flatten ps) ∙ e in
    let le : length front + length p + length (flatten ps) ≡ length file = sym (length-append (front ++ p) (flatten ps) ∙ rw length-append) ∙ ap length e' in
    let hs : start < 65536 = omega arith in
    let hl : length p < 65536 = omega arith in
    let d : drop start file ≡ p ++ flatten ps = rw (← e) (drop_at front (p ++ flatten ps) start l) in
    let t : take (length p) (drop start file) ≡ p = rw d (take_at p (flatten ps) (length p) refl) in
    let ih : stretches (length ps) file (table_of (start + length p) ps ++ rest) ≡ ps =
    stretches-table ps (start + length p) (front ++ p) file rest e' (length-append front p ∙ ap (λ (n : ℕ). n + length p) l) s in
    rw (first-offset start p ps rest hs hl, first-length start p ps rest hs hl, after-pair start p ps rest hs hl, t, ih)

pub directory-assemble : (parts : List (List ℕ)) → 2 ≤ length parts → length parts ≤ 10 → length (assemble parts) < 65536
    → directory (assemble parts) ≡ gives parts
unfolding directory assemble
directory-assemble parts low high small =
    let n : ℕ = length parts in
    let table : List ℕ = table_of (2 + 4 * n) parts ++ flatten parts in
    let e : bytes_of 2 n ++ table_of (2 + 4 * n) parts ++ flatten parts ≡ bytes_of 2 n ++ table =
    append_assoc (bytes_of 2 n) (table_of (2 + 4 * n) parts) (flatten parts) in
    let l : length (bytes_of 2 n ++ table) ≡ 2 + 4 * n + length (flatten parts) = rw (← e) (length-assemble parts) in
    let c : number 2 (bytes_of 2 n ++ table) ≡ n = number-bytes 2 n table (omega arith) in
    let d : drop 2 (bytes_of 2 n ++ table) ≡ table = drop_at (bytes_of 2 n) table 2 (length-bytes 2 n) in
    let s : length (bytes_of 2 n ++ table) < 65536 = rw e at small in
    let t₁ : leb 2 (length (bytes_of 2 n ++ table)) ≡ true = le-leb 2 (length (bytes_of 2 n ++ table)) (omega arith) in
    let t₂ : leb 2 n ≡ true = le-leb 2 n low in
    let t₃ : leb n 10 ≡ true = le-leb n 10 high in
    let t₄ : leb (2 + 4 * n) (length (bytes_of 2 n ++ table)) ≡ true = le-leb (2 + 4 * n) (length (bytes_of 2 n ++ table)) (omega arith) in
    let front : length (bytes_of 2 n ++ table_of (2 + 4 * n) parts) ≡ 2 + 4 * n = simp (length-append, length-bytes, length-table) in
    let h : chained n (2 + 4 * n) (length (bytes_of 2 n ++ table)) table ≡ true = chained-table parts (2 + 4 * n) (bytes_of 2 n ++ table) (flatten parts) l s in
    let p : stretches n (bytes_of 2 n ++ table) table ≡ parts =
    stretches-table parts (2 + 4 * n) (bytes_of 2 n ++ table_of (2 + 4 * n) parts) (bytes_of 2 n ++ table) (flatten parts) e front s in
    rw (e, c, d, t₁, t₂, t₃, t₄, h, p)

-- ---- an accepted file

-- a value that a test let through
pub cond-ok : {A : Type 0} (t : Bool) (o : Reply A) (n : ℕ) (a : A) → cond t o (refused n) ≡ gives a → (t ≡ true) × (o ≡ gives a)
cond-ok true o n a e = (refl, e)
cond-ok false o n a e = let z : ◌≡◌ {A = ℕ} 0 1 = cc in absurd (omega arith)

-- what the offset rule gives: the table and the parts are the file from the table on
pub chained-back : (n due : ℕ) (file table : List ℕ) → Bytes table → 4 * n ≤ length table → chained n due (length file) table ≡ true
    → (due ≤ length file) × (table_of due (stretches n file table) ≡ take (4 * n) table) × (flatten (stretches n file table) ≡ drop due file)
    × (length (stretches n file table) ≡ n)
unfolding chained stretches table_of flatten
chained-back zero due file table hb hl h =
    let e : due ≡ length file = eqb-true due (length file) h in
    (omega arith, refl, sym (rw e (drop-length file)), refl)
chained-back (suc n) due file table hb hl h =
    let k : (eqb (number 2 table) due ≡ true) × (chained n (due + number 2 (drop 2 table)) (length file) (drop 4 table) ≡ true) = simp and-iff at h in
    let e : number 2 table ≡ due = eqb-true (number 2 table) due k.0 in
    let m : ℕ = number 2 (drop 2 table) in
    let b₂ : Bytes (drop 2 table) = every_drop (λ b. ltb b 256) 2 table hb in
    let b₄ : Bytes (drop 4 table) = every_drop (λ b. ltb b 256) 4 table hb in
    let l₂ : length (drop 2 table) ≡ length table - 2 = length-drop 2 table in
    let l₄ : length (drop 4 table) ≡ length table - 4 = length-drop 4 table in
    let (fits, tab, all, len) = chained-back n (due + m) file (drop 4 table) b₄ (omega arith) k.1 in
    let ld : length (drop due file) ≡ length file - due = length-drop due file in
    let lp : length (take m (drop due file)) ≡ m = length-take-le m (drop due file) (omega arith) in
    let g₁ : bytes_of 2 due ≡ take 2 table = ap (bytes_of 2) (sym e) ∙ bytes-number 2 table hb (omega arith) in
    let g₂ : bytes_of 2 m ≡ take 2 (drop 2 table) = bytes-number 2 (drop 2 table) b₂ (omega arith) in
    let n₄ : 4 * suc n ≡ 4 + 4 * n = omega arith in
    let t₄ : take (4 * suc n) table ≡ take 2 table ++ take 2 (drop 2 table) ++ take (4 * n) (drop 4 table) =
    rw n₄ (take-add 4 (4 * n) table ∙ ap (λ (t : List ℕ). t ++ take (4 * n) (drop 4 table)) (take-add 2 2 table)) in
    let j : take m (drop due file) ++ drop (due + m) file ≡ drop due file = rw (← drop-drop m due file) (take-append-drop m (drop due file)) in
    rw (e, lp, g₁, g₂, tab, all, t₄) (omega arith, refl, j, ap suc len)

pub assemble-directory : (file : List ℕ) (parts : List (List ℕ)) → Bytes file → directory file ≡ gives parts
    → (assemble parts ≡ file) × (2 ≤ length parts) × (length parts ≤ 10) × Bytes (flatten parts)
unfolding directory assemble
assemble-directory file parts hb e =
    let n : ℕ = number 2 file in
    let ps : List (List ℕ) = stretches n file (drop 2 file) in
    let c : Bool = chained n (2 + 4 * n) (length file) (drop 2 file) in
    let (fits, e₁) = cond-ok (table_fits file) (cond c (gives ps) (refused bad_offsets)) 1 parts e in
    let (h, e₂) = cond-ok c (gives ps) 2 parts e₁ in
    let p : ps ≡ parts = cc in
    let k : (leb 2 (length file) ≡ true) × (((leb 2 n ≡ true) × (leb n 10 ≡ true)) × (leb (2 + 4 * n) (length file) ≡ true)) = simp and-iff at fits in
    let l : 2 + 4 * n ≤ length file = leb-true (2 + 4 * n) (length file) k.1.1 in
    let low : 2 ≤ n = leb-true 2 n k.1.0.0 in
    let high : n ≤ 10 = leb-true n 10 k.1.0.1 in
    let b₂ : Bytes (drop 2 file) = every_drop (λ b. ltb b 256) 2 file hb in
    let l₂ : length (drop 2 file) ≡ length file - 2 = length-drop 2 file in
    let (_, tab, all, len) = chained-back n (2 + 4 * n) file (drop 2 file) b₂ (omega arith) h in
    let g : bytes_of 2 n ≡ take 2 file = bytes-number 2 file hb (omega arith) in
    let same : bytes_of 2 n ++ table_of (2 + 4 * n) ps ++ flatten ps ≡ file =
    rw (tab, all, g, ← take-add 2 (4 * n) file) (take-append-drop (2 + 4 * n) file) in
    subst (λ (ps : List (List ℕ)). (bytes_of 2 (length ps) ++ table_of (2 + 4 * length ps) ps ++ flatten ps ≡ file) × (2 ≤ length ps) × (length ps ≤ 10)
    × Bytes (flatten ps)) p
    (rw len same, rw len low, rw len high, rw all (every_drop (λ b. ltb b 256) (2 + 4 * n) file hb))
