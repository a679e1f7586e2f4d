-- Words and rows: `spells_rows` is that the words spell the rows `database_of`, and no other rows.
-- First how reading goes on after a row, then the two directions. Assumes nothing.
use mathlib.Core.Path.{◌≡◌, refl, ap, ap₂, sym, subst, ◌∙◌}
use mathlib.Core.Bool.{Bool, true, false, ◌&&◌, and-false, false≢true}
use mathlib.Core.List.Memᴰ
use mathlib.Core.List.{List, [], ◌∷◌, ◌++◌}
use Prim.Native.Nat.{ℕ, zero, suc, ◌+◌, ◌-◌, ◌≤◌, ◌<◌}
use native.Mathlib.Omega.{arith}
use lib.Dec.{ltb}
use borrow.Author.Tests.{ltb-true, lt-ltb, le-ltb}
use lib.ListN.{length, take, drop, get_or, take-append-drop, length-append, length-drop}
use lib.Seq.{length-take-le, take_at, drop_at, drop-cons, drop-drop}
use Rattle.lists.proofs.Tests.{and_left, and_right}
use Rattle.theory.specs.Query.{Row, FitsSchema}
use Rattle.theory.specs.Database.{Database, Sound}
use Rattle.words.specs.Words.{words_of, rows_from, spells_rows_from, database_of, spells_rows}
use Rattle.words.specs.Meaning.{SpellsMeans, RowsSpelled, RowsOnly, RowsWritten}
use Rattle.words.specs.internal.Rows.{row_at, Next}

-- ---- after the values that are due, reading begins again

pub rows-skip : (schema : List ℕ) (due : ℕ) (words : List ℕ) → due ≤ length words → rows_from schema due words ≡ rows_from schema 0 (drop due words)
unfolding rows_from
rows-skip schema zero words h = refl
rows-skip schema (suc due) [] h = absurd (omega arith)
rows-skip schema (suc due) (word ∷ words) h = rows-skip schema due words (omega arith)

pub spells-skip : (schema : List ℕ) (due : ℕ) (words : List ℕ) → due ≤ length words → spells_rows_from schema due words ≡ spells_rows_from schema 0 (drop due words)
unfolding spells_rows_from
spells-skip schema zero words h = refl
spells-skip schema (suc due) [] h = absurd (omega arith)
spells-skip schema (suc due) (word ∷ words) h = spells-skip schema due words (omega arith)

-- a row that is cut short
pub spells-short : (schema : List ℕ) (due : ℕ) (words : List ℕ) → length words < due → spells_rows_from schema due words ≡ false
unfolding spells_rows_from
spells-short schema zero words h = absurd (omega arith)
spells-short schema (suc due) [] h = refl
spells-short schema (suc due) (word ∷ words) h = spells-short schema due words (omega arith)

-- ---- what reading gives is what the words spell

-- a first row of a sound database, and the rest
sound-cons : (schema : List ℕ) (r : Row ℕ) (D : Database) → FitsSchema schema r → Sound schema D → Sound schema (r ∷ D)
sound-cons schema r D fits sound s (Memᴰ.head e) = subst (λ (x : Row ℕ). FitsSchema schema x) (sym e) fits
sound-cons schema r D fits sound s (Memᴰ.tail m) = sound s m

-- the values that are due are there
pub spells-due : (schema : List ℕ) (due : ℕ) (words : List ℕ) → spells_rows_from schema due words ≡ true → due ≤ length words
unfolding spells_rows_from
spells-due schema zero words h = omega arith
spells-due schema (suc due) [] h = absurd (false≢true h)
spells-due schema (suc due) (word ∷ words) h = let i : due ≤ length words = spells-due schema due words h in omega arith

spelled : (schema : List ℕ) (due : ℕ) (words : List ℕ) → spells_rows_from schema due words ≡ true
    → (words_of (rows_from schema due words) ≡ drop due words) × Sound schema (rows_from schema due words)
unfolding words_of rows_from spells_rows_from
spelled schema zero [] h = (refl, λ r m. absurd (Memᴰ.not-nil m))
spelled schema (suc due) [] h = absurd (false≢true h)
spelled schema zero (relation ∷ words) h =
    let width : ℕ = get_or schema relation 0 in
    let rest : spells_rows_from schema width words ≡ true = and_right (ltb relation (length schema)) (spells_rows_from schema width words) h in
    let known : relation < length schema = ltb-true relation (length schema) (and_left (ltb relation (length schema)) (spells_rows_from schema width words) h) in
    let due : width ≤ length words = spells-due schema width words rest in
    let more : (words_of (rows_from schema width words) ≡ drop width words) × Sound schema (rows_from schema width words) = spelled schema width words rest in (
      ap (λ (l : List ℕ). relation ∷ (take width words ++ l)) more.0 ∙ ap (λ (l : List ℕ). relation ∷ l) (take-append-drop width words),
      sound-cons schema (record { relation = relation; values = take width words }) (rows_from schema width words)
          (known, length-take-le width words due) more.1,
    )
spelled schema (suc due) (word ∷ words) h = spelled schema due words h

-- words that `spells_rows` passes spell the rows that are read
pub rows-spelled : RowsSpelled
rows-spelled schema words h = spelled schema 0 words h

-- words that spell rows are passed by `spells_rows`, and those rows are read
spells-back : (schema : List ℕ) (D : Database) → Sound schema D → (spells_rows schema (words_of D) ≡ true) × (database_of schema (words_of D) ≡ D)
unfolding words_of rows_from spells_rows_from
spells-back schema [] sound = (refl, refl)
spells-back schema (r ∷ D) sound =
    let fits : FitsSchema schema r = sound r (Memᴰ.head refl) in
    let more : (spells_rows schema (words_of D) ≡ true) × (database_of schema (words_of D) ≡ D) = spells-back schema D (λ s m. sound s (Memᴰ.tail m)) in
    let width : ℕ = get_or schema r.relation 0 in
    let long : width ≤ length (r.values ++ words_of D) = omega (arith, length-append r.values (words_of D), fits.1) in
    let past : drop width (r.values ++ words_of D) ≡ words_of D = drop_at r.values (words_of D) width fits.1 in
    let front : take width (r.values ++ words_of D) ≡ r.values = take_at r.values (words_of D) width fits.1 in (
      rw (lt-ltb r.relation (length schema) fits.0)
          (spells-skip schema width (r.values ++ words_of D) long ∙ ap (λ (l : List ℕ). spells_rows_from schema 0 l) past ∙ more.0),
      ap₂ {C = Database} (λ (v : List ℕ) (E : Database). record { relation = r.relation; values = v } ∷ E) front
          (rows-skip schema width (r.values ++ words_of D) long ∙ ap (λ (l : List ℕ). rows_from schema 0 l) past ∙ more.1),
    )

-- so words spell no other rows than those that are read
pub rows-only : RowsOnly
rows-only schema words D spells = ap (database_of schema) (sym spells.0) ∙ (spells-back schema D spells.1).1

-- and are passed exactly when they spell some
pub spells-means : SpellsMeans
spells-means schema words =
    ((λ h. (database_of schema words, rows-spelled schema words h)), λ s. ap (spells_rows schema) (sym s.1.0) ∙ (spells-back schema s.0 s.1.1).0)

-- every sound database has words
pub rows_written : RowsWritten
rows_written schema D sound = (refl, sound)

-- ---- the first row of some words

module _ (schema : List ℕ) (relation : ℕ) (values : List ℕ) where
  -- it is of an unknown relation, or cut short
  pub unknown-first : length schema ≤ relation → spells_rows schema (relation ∷ values) ≡ false
  unfolding spells_rows_from
  unknown-first h = rw (le-ltb relation (length schema) h)

  pub cut-first : length values < get_or schema relation 0 → spells_rows schema (relation ∷ values) ≡ false
  unfolding spells_rows_from
  cut-first h = rw (spells-short schema (get_or schema relation 0) values h) (and-false (ltb relation (length schema)))

  -- or judging goes on after it
  pub after-first : relation < length schema → get_or schema relation 0 ≤ length values
      → spells_rows schema (relation ∷ values) ≡ spells_rows schema (drop (get_or schema relation 0) values)
  unfolding spells_rows_from
  after-first known due = rw (lt-ltb relation (length schema) known) (spells-skip schema (get_or schema relation 0) values due)

-- ---- at a place in the words

module _ (schema words : List ℕ) (at : ℕ) (inside : at < length words) where
  -- the words from `at` on begin with the relation's number
  pub read-relation : drop at words ≡ get_or words at 0 ∷ drop (suc at) words
  read-relation = drop-cons words at 0 inside

  -- what `spells_rows` judges there: the relation, and then the rest, where its values are due
  pub spells_at : spells_rows schema (drop at words) ≡ ltb (get_or words at 0) (length schema) && spells_rows_from schema (get_or schema (get_or words at 0) 0)
      (drop (suc at) words)
  unfolding spells_rows_from
  spells_at = ap (λ (l : List ℕ). spells_rows_from schema 0 l) read-relation

  -- a row that is not cut short: judging goes on after it
  pub spells-after : (width : ℕ) → width ≡ get_or schema (get_or words at 0) 0 → get_or words at 0 < length schema → at + 1 + width ≤ length words
      → spells_rows schema (drop at words) ≡ spells_rows schema (drop (at + 1 + width) words)
  spells-after width e known room =
      let z : length (drop (suc at) words) ≡ length words - suc at = length-drop (suc at) words in
      let due : get_or schema (get_or words at 0) 0 ≤ length (drop (suc at) words) = omega (arith, z, e) in
      let far : suc at + get_or schema (get_or words at 0) 0 ≡ at + 1 + width = omega (arith, e) in
      spells_at ∙ ap (λ (b : Bool). b && spells_rows_from schema (get_or schema (get_or words at 0) 0) (drop (suc at) words))
      (lt-ltb (get_or words at 0) (length schema) known)
      ∙ spells-skip schema (get_or schema (get_or words at 0) 0) (drop (suc at) words) due
      ∙ ap (λ (l : List ℕ). spells_rows_from schema 0 l) (drop-drop (get_or schema (get_or words at 0) 0) (suc at) words ∙ ap (λ (n : ℕ). drop n words) far)

  -- of words that spell rows, the row at `at` and where the next begins
  pub next_row : (after : ℕ) → spells_rows schema (drop at words) ≡ true → after ≡ at + 1 + get_or schema (get_or words at 0) 0 → Next schema words at after
  unfolding rows_from
  next_row after good e =
      let width : ℕ = get_or schema (get_or words at 0) 0 in
      let both : ltb (get_or words at 0) (length schema) && spells_rows_from schema width (drop (suc at) words) ≡ true = sym spells_at ∙ good in
      let known : get_or words at 0 < length schema = ltb-true (get_or words at 0) (length schema)
      (and_left (ltb (get_or words at 0) (length schema)) (spells_rows_from schema width (drop (suc at) words)) both) in
      let due : width ≤ length (drop (suc at) words) = spells-due schema width (drop (suc at) words)
      (and_right (ltb (get_or words at 0) (length schema)) (spells_rows_from schema width (drop (suc at) words)) both) in
      let z : length (drop (suc at) words) ≡ length words - suc at = length-drop (suc at) words in
      let fits : at + 1 + width ≤ length words = omega (arith, z) in
      let far : suc at + width ≡ after = omega (arith, e) in
      record {
        place = e;
        fits = rw e fits;
        known = known;
        read = ap (λ (l : List ℕ). rows_from schema 0 l) read-relation
            ∙ ap (λ (D : Database). row_at schema words at ∷ D) (rows-skip schema width (drop (suc at) words) due
            ∙ ap (λ (l : List ℕ). rows_from schema 0 l) (drop-drop width (suc at) words ∙ ap (λ (n : ℕ). drop n words) far));
        good = rw e (sym (spells-after width refl known fits) ∙ good);
      }
