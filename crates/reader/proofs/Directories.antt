-- The directory by tests on the file, and what its answers tell.
use mathlib.Core.Path.{◌≡◌, refl, sym, ◌∙◌, subst}
use mathlib.Core.Bool.{Bool, true, false, cond, ◌&&◌, and-false}
use mathlib.Core.List.{List}
use Prim.Native.Nat.{ℕ, ◌+◌, ◌*◌, ◌≤◌, ◌<◌}
use native.Mathlib.Omega.{arith}
use lib.Dec.{leb}
use lib.ListN.{length, drop}
use borrow.Author.Tests.{lt-leb, le-leb, leb-true}
use Rattle.refusals.specs.Refusals.{bad_directory, bad_offsets, gives, refused, Reply}
use Rattle.format.specs.Bytes.{number}
use Rattle.format.specs.File.{chained, stretches, table_fits, directory}
use Rattle.format.proofs.Stretches.{length-stretches}
use Rattle.lists.proofs.Tests.{and-iff}
use Rattle.reader.specs.internal.Read.{directory_read}

module _ (file : List ℕ) where
  no_table : table_fits file ≡ false → directory file ≡ refused bad_directory
  unfolding directory
  no_table h = rw h

  pub too_short : length file < 2 → directory file ≡ refused bad_directory
  too_short h = no_table (rw (lt-leb 2 (length file) h))

  module _ (n : ℕ) (e : n ≡ number 2 file) where
    pub too_few : n < 2 → directory file ≡ refused bad_directory
    too_few h = no_table (rw (lt-leb 2 (number 2 file) (rw (← e) h)) (and-false (leb 2 (length file))))

    pub too_many : 10 < n → directory file ≡ refused bad_directory
    too_many h = no_table (rw (lt-leb (number 2 file) 10 (rw (← e) h), and-false (leb 2 (number 2 file))) (and-false (leb 2 (length file))))

    pub cut-table : length file < 2 + 4 * n → directory file ≡ refused bad_directory
    cut-table h =
        no_table (rw (← e, lt-leb (2 + 4 * n) (length file) h, and-false (leb 2 n && leb n 10)) (and-false (leb 2 (length file))))

    pub full-table : 2 ≤ n → n ≤ 10 → 2 + 4 * n ≤ length file → (t : Bool) → chained n (2 + 4 * n) (length file) (drop 2 file) ≡ t
        → directory file ≡ cond t (gives (stretches n file (drop 2 file))) (refused bad_offsets)
    unfolding directory
    full-table low high fits t c =
        let l : leb 2 (length file) ≡ true = le-leb 2 (length file) (omega arith) in
        rw (← e, l, le-leb 2 n low, le-leb n 10 high, le-leb (2 + 4 * n) (length file) fits, c)

-- What an accepted directory says
pub record Accepted (file : List ℕ) (n : ℕ) : Type 0 where
  pub low : 2 ≤ n
  pub high : n ≤ 10
  pub fits : 2 + 4 * n ≤ length file
  pub chain : chained n (2 + 4 * n) (length file) (drop 2 file) ≡ true
  pub parts : directory file ≡ gives (stretches n file (drop 2 file))

pub accepts : (file : List ℕ) (n : ℕ) → gives n ≡ directory_read (directory file) → Accepted file n
unfolding directory
accepts file n h = fitting (table_fits file) refl h
  where
    count : ℕ
    count = number 2 file

    chaining : table_fits file ≡ true → (t : Bool) → chained count (2 + 4 * count) (length file) (drop 2 file) ≡ t
        → gives n ≡ directory_read (cond t (gives (stretches count file (drop 2 file))) (refused bad_offsets)) → Accepted file n
    chaining f true c h =
        let e : count ≡ n = sym (length-stretches count file (drop 2 file)) ∙ sym (cc) in
        let k : (leb 2 (length file) ≡ true) × (((leb 2 count ≡ true) × (leb count 10 ≡ true)) × (leb (2 + 4 * count) (length file) ≡ true)) =
        simp and-iff at f in
        subst (Accepted file) e
        (record {
          low = leb-true 2 count k.1.0.0;
          high = leb-true count 10 k.1.0.1;
          fits = leb-true (2 + 4 * count) (length file) k.1.1;
          chain = c;
          parts = rw (f, c);
        })
    chaining f false c h = let z : ◌≡◌ {A = ℕ} 0 1 = cc in absurd (omega arith)

    fitting : (t : Bool) → table_fits file ≡ t
        → gives n ≡ directory_read (cond t
        (cond (chained count (2 + 4 * count) (length file) (drop 2 file)) (gives (stretches count file (drop 2 file)))
        (refused bad_offsets)) (refused bad_directory))
        → Accepted file n
    fitting true f h = chaining f (chained count (2 + 4 * count) (length file) (drop 2 file)) refl h
    fitting false f h = let z : ◌≡◌ {A = ℕ} 0 1 = cc in absurd (omega arith)

pub refuses : (o : Reply (List (List ℕ))) (n : ℕ) → refused n ≡ directory_read o → o ≡ refused n
refuses (gives parts) n h = let z : ◌≡◌ {A = ℕ} 0 1 = cc in absurd (omega arith)
refuses (refused m) n h = let e : m ≡ n = cc in rw e
