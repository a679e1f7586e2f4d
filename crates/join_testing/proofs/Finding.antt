-- From the search to the definition: the first choice for a join dependency, and the first join dependency with one. Assumes nothing.
use mathlib.Core.Path.{◌≡◌, refl, sym, ◌∙◌, ap, subst}
use mathlib.Core.List.Memᴰ
use mathlib.Core.List.{List, [], ◌∷◌}
use mathlib.Core.Option.{Option, none, some, or_else, map}
use Prim.Native.Nat.{ℕ, zero, suc, ◌+◌, ◌≤◌}
use native.Mathlib.Numerals.{add-one}
use native.Mathlib.Omega.{arith}
use lib.ListN.{length, get_or}
use Rattle.theory.specs.Query.{◌∈◌}
use Rattle.theory.specs.Database.{Database, JoinDependency}
use Rattle.theory.specs.Chase.{first_found}
use Rattle.query.specs.View.{join_of}
use Rattle.query.specs.declared.JoinDependency as stored
use Rattle.query.proofs.Stored.{no-columns}
use Rattle.words.specs.Testing.{numbered_from}
use Rattle.words.specs.Words.{database_of}
use Rattle.words.proofs.Spelling.{rows-spelled}
use Rattle.std.specs.Prelude.{None, Some}
use Rattle.words.specs.declared.Violation.TheVariants.{Join}
use Rattle.join_lookup.specs.declared.Index.{Index}
use Rattle.join_testing.specs.Unmet.{first_choice, first_unmet_from, unmet_of}
use Rattle.join_testing.specs.Meaning.{BreaksJoin}
use Rattle.join_lookup.specs.internal.Starts.{row_count}
use Rattle.join_tables.specs.internal.Indexed.{filled_to, Searchable, Indexed}
use Rattle.join_testing.specs.internal.Search.{BreaksFrom, FirstFrom, Searched, rows_chosen}
use Rattle.theory.specs.Codes.{CodePair}
use Rattle.words.specs.Words.{database_read}
use Rattle.words.proofs.Reading.{read-length}
use Rattle.words.proofs.Reading.{read-sound}
use Rattle.join_testing.proofs.Choosing.{Inside, goes-inside, first-found, unbroken-none}

module _ {codes : List CodePair} {schema words : List ℕ} {j : stored.JoinDependency} {x : Index} {heads nodes : List ℕ} (g : Searchable schema words j)
    (i : Indexed codes schema words j x heads nodes) (values : List ℕ) where
  abbrev D : Database
  D = database_read codes schema words

  -- With no set done nothing is known
  from_first : (ps : List ℕ) → BreaksFrom codes schema words j x 0 values ps → BreaksJoin schema (join_of j) D ps
  from_first ps b = record { row = b.row; fits = b.fits; relation = b.relation ∙ i.relation; chosen = b.chosen; absent = b.absent }

  to-first : (ps : List ℕ) → BreaksJoin schema (join_of j) D ps → BreaksFrom codes schema words j x 0 values ps
  unfolding filled_to
  to-first ps b =
      record {
        row = b.row;
        fits = b.fits;
        relation = b.relation ∙ sym i.relation;
        kept = λ c there. absurd (Memᴰ.not-nil (subst (λ (l : List ℕ). c ∈ l) (no-columns 0 8) there));
        chosen = b.chosen;
        absent = b.absent;
      }

  -- What the search finds is the first choice
  pub searched-none : Searched codes schema words j x 0 values None → first_choice schema (join_of j) D ≡ none
  searched-none s =
      unbroken-none schema (join_of j) g.fits D (read-sound codes schema (database_of schema words) (rows-spelled schema words g.spelled).1)
      (λ ps b. s ps (to-first ps b))

  pub searched-some : (at : List ℕ) (f : FirstFrom codes schema words j x 0 values at) → first_choice schema (join_of j) D ≡ some f.positions
  searched-some at f =
      first-found schema (join_of j) g.fits D (read-sound codes schema (database_of schema words) (rows-spelled schema words g.spelled).1) f.positions
      (record { breaks = from_first f.positions f.breaks; before = λ qs less b. f.before qs less (to-first qs b) })

  -- Its positions are positions of rows
  pub first-inside : (at : List ℕ) (f : FirstFrom codes schema words j x 0 values at) (n : ℕ) → get_or f.positions n 0 ≤ row_count schema words
  first-inside at f n =
      low (join_of j).sets f.positions (goes-inside D f.breaks.row (join_of j).sets f.positions f.breaks.chosen) n
    where
      low : (sets : List (List ℕ)) (ps : List ℕ) → Inside sets (length D) ps → (n : ℕ) → get_or ps n 0 ≤ row_count schema words
      low [] (p ∷ ps) h n = elim h [ ]
      low (set ∷ sets) [] h n = elim h [ ]
      low [] [] h n = omega arith
      low (set ∷ sets) (p ∷ ps) h zero = omega (arith, h.0, read-length codes (database_of schema words))
      low (set ∷ sets) (p ∷ ps) h (suc n) = low sets ps h.1 n

-- ---- join dependencies in held order

pub unmet-found : (schema : List ℕ) (D : Database) (j : JoinDependency) (js : List JoinDependency) (k : ℕ) (rows : List ℕ)
    → Some rows ≡ rows_chosen (first_choice schema j D) → unmet_of (first_unmet_from k schema (j ∷ js) D) ≡ Some (Join k rows)
unfolding first_unmet_from first_found numbered_from or_else
unmet-found schema D j js k rows h = go (first_choice schema j D) h
  where
    go : (o : Option (List ℕ)) → Some rows ≡ rows_chosen o
        → unmet_of (or_else (map (λ x. ((k, j), x)) o) (first_unmet_from (suc k) schema js D)) ≡ Some (Join k rows)
    go none e = absurd (let z : ◌≡◌ {A = ℕ} 0 1 = cc in omega arith)
    go (some ps) e =
        let is : rows ≡ get_or ps 0 0 ∷ get_or ps 1 0 ∷ get_or ps 2 0 ∷ get_or ps 3 0 ∷ [] = cc in
        ap (λ (l : List ℕ). Some (Join k l)) (sym is)

pub unmet-later : (schema : List ℕ) (D : Database) (j : JoinDependency) (js : List JoinDependency) (k : ℕ)
    → None ≡ rows_chosen (first_choice schema j D) → first_unmet_from k schema (j ∷ js) D ≡ first_unmet_from (k + 1) schema js D
unfolding first_unmet_from first_found numbered_from or_else
unmet-later schema D j js k h = go (first_choice schema j D) h ∙ ap (λ (m : ℕ). first_unmet_from m schema js D) (sym (add-one k))
  where
    go : (o : Option (List ℕ)) → None ≡ rows_chosen o
        → or_else (map (λ x. ((k, j), x)) o) (first_unmet_from (suc k) schema js D) ≡ first_unmet_from (suc k) schema js D
    go none e = refl
    go (some x) e = absurd (let z : ◌≡◌ {A = ℕ} 0 1 = cc in omega arith)

pub unmet-end : (schema : List ℕ) (D : Database) (k : ℕ) → first_unmet_from k schema [] D ≡ none
unfolding first_unmet_from first_found numbered_from
unmet-end schema D k = refl
