-- Tables are filled: 1. room stays. 2. One table, row after row from the last. 3. The tables of the sets, one after another. Assumes nothing.
use mathlib.Core.Path.{◌≡◌, refl, sym, ◌∙◌, ap, subst}
use mathlib.Core.Logic.{⊎_elim}
use mathlib.Core.Bool.{true}
use mathlib.Core.List.{List}
use Prim.Native.Nat.{ℕ, suc, ◌+◌, ◌*◌, ◌-◌, ◌≤◌, ◌<◌}
use native.Mathlib.Omega.{arith}
use lib.Bits.{bit_and, bit_or}
use lib.ListN.{length, get_or}
use Rattle.lists.proofs.Tests.{below-or-past}
use Rattle.query.specs.declared.JoinDependency.{JoinDependency}
use Rattle.words.specs.Words.{spells_rows}
use Rattle.join_lookup.specs.declared.Index.{Index}
use Rattle.join_lookup.specs.internal.Starts.{start_of, row_count, BeginsAt, Known}
use Rattle.join_lookup.specs.internal.Tables.{Table}
use Rattle.join_tables.specs.internal.Filling.{Threaded, Beside, Roomy}
use Rattle.join_tables.specs.internal.Indexed.{filled_to, shared_at, Indexed}
use Rattle.join_lookup.proofs.Starting.{start-less, start-one, start-end, start-le}
use Rattle.theory.specs.Codes.{CodePair}
use Rattle.join_tables.proofs.Entering.{beside_same, beside-then, table_beside, thread-beside, table_none}

-- ---- 1. room

pub roomy-beside : (words : List ℕ) (x : Index) {t : ℕ} {heads nodes heads' nodes' : List ℕ} → Beside t heads nodes heads' nodes' → Roomy words x heads nodes
    → Roomy words x heads' nodes'
roomy-beside words x b r =
    record {
      some = r.some;
      heads-room = omega (arith, r.heads-room, b.heads-size);
      nodes-room = omega (arith, r.nodes-room, b.nodes-size);
      short = r.short;
    }

-- ---- 2. one table

-- Rows from the one at word `at` on are in table t, nothing else is changed
pub record Entered (codes : List CodePair) (schema words : List ℕ) (x : Index) (t columns mask : ℕ) (old-heads old-nodes heads nodes : List ℕ)
    (at : ℕ) : Type 0 where
  pub row : ℕ
  pub place : at ≡ start_of schema words row
  pub inside : row ≤ row_count schema words
  pub kept : Beside t old-heads old-nodes heads nodes
  pub table : Table codes schema words x t columns mask row heads nodes

module _ (codes : List CodePair) (schema words : List ℕ) (good : spells_rows schema words ≡ true) (x : Index) (t columns mask : ℕ) where
  pub entered-none : (heads nodes : List ℕ) → ((b : ℕ) → b < x.buckets → get_or heads (5 * b + t) 0 ≡ length words)
      → Entered codes schema words x t columns mask heads nodes heads nodes (length words)
  entered-none heads nodes clear =
      record {
        row = row_count schema words;
        place = sym (start-end schema words good);
        inside = omega arith;
        kept = beside_same t heads nodes;
        table = table_none codes schema words good x t columns mask heads nodes clear;
      }

  module _ (old-heads old-nodes heads nodes : List ℕ) (at : ℕ) (e : Entered codes schema words x t columns mask old-heads old-nodes heads nodes at) where
    pub entered-inside : at ≤ length words
    entered-inside = omega (arith, e.place, start-le schema words good e.row e.inside)

    pub entered_all : at ≡ 0 → Table codes schema words x t columns mask 0 heads nodes
    unfolding start_of
    entered_all z = subst (λ (n : ℕ). Table codes schema words x t columns mask n heads nodes) (start-one schema words e.row 0 (sym e.place ∙ z)) e.table

    module _ (low : t < 5) (thread : Threaded schema words old-nodes) (some : at ≡ 0 → ⊥) where
      entered-some : 0 < e.row
      unfolding start_of
      entered-some =
          ⊎_elim (λ l. l) (λ l. let z : e.row ≡ 0 = omega arith in absurd (some (e.place ∙ ap (start_of schema words) z))) (below-or-past 0 e.row)

      entered-row : suc (e.row - 1) ≡ e.row
      entered-row = omega (arith, entered-some)

      -- The row before begins where its link says
      pub entered-begins : BeginsAt schema words (get_or nodes (6 * (at - 1)) 0) (e.row - 1)
      entered-begins = (
        ap (λ (n : ℕ). get_or nodes (6 * (n - 1)) 0) (e.place ∙ ap (start_of schema words) (sym entered-row))
            ∙ (thread-beside e.kept low thread).prior (e.row - 1) (omega (arith, entered-row, e.inside)),
        omega (arith, entered-row, e.inside),
      )

      pub entered-less : get_or nodes (6 * (at - 1)) 0 < at
      entered-less = omega (arith, start-less schema words (e.row - 1) e.row (omega (arith, entered-some)), entered-begins.0, e.place)

      pub entered-next : (heads' nodes' : List ℕ) → Beside t heads nodes heads' nodes'
          → ((p : ℕ) → BeginsAt schema words (get_or nodes (6 * (at - 1)) 0) p → Table codes schema words x t columns mask (suc p) heads nodes
          → Table codes schema words x t columns mask p heads' nodes')
          → Entered codes schema words x t columns mask old-heads old-nodes heads' nodes' (get_or nodes (6 * (at - 1)) 0)
      entered-next heads' nodes' b more =
          record {
            row = e.row - 1;
            place = entered-begins.0;
            inside = omega (arith, e.inside);
            kept = beside-then t e.kept b;
            table =
                more (e.row - 1) entered-begins
                (subst (λ (n : ℕ). Table codes schema words x t columns mask n heads nodes) (sym entered-row) e.table);
          }

-- ---- 3. the tables of the sets

-- The first k sets have their tables, and their columns are `filled`
pub record Levelled (codes : List CodePair) (schema words : List ℕ) (j : JoinDependency) (x : Index) (heads nodes : List ℕ) (filled k : ℕ) : Type 0 where
  pub few : k ≤ j.count
  pub columns : filled ≡ filled_to j.sets k
  pub thread : Threaded schema words nodes
  pub room : Roomy words x heads nodes
  pub levels : (l : ℕ) → l < k → Table codes schema words x (l + 1) (shared_at j.sets l) (get_or j.sets l 0) 0 heads nodes

module _ (codes : List CodePair) (schema words : List ℕ) (j : JoinDependency) (x : Index) where
  pub levelled-none : (heads nodes : List ℕ) → Threaded schema words nodes → Roomy words x heads nodes → Levelled codes schema words j x heads nodes 0 0
  unfolding filled_to
  levelled-none heads nodes thread room =
      record { few = omega arith; columns = refl; thread = thread; room = room; levels = λ l h. absurd (omega arith) }

  module _ (heads nodes : List ℕ) (filled k : ℕ) (v : Levelled codes schema words j x heads nodes filled k) where
    pub levelled-next : k < j.count → j.count ≤ 4 → (heads' nodes' : List ℕ) → Threaded schema words nodes' → Roomy words x heads' nodes'
        → Table codes schema words x (k + 1) (bit_and (get_or j.sets k 0) filled) (get_or j.sets k 0) 0 heads' nodes'
        → ((l columns mask : ℕ) → l < 4 → (l ≡ k → ⊥) → Table codes schema words x (l + 1) columns mask 0 heads nodes
        → Table codes schema words x (l + 1) columns mask 0 heads' nodes')
        → Levelled codes schema words j x heads' nodes' (bit_or filled (get_or j.sets k 0)) (k + 1)
    unfolding filled_to
    levelled-next h small heads' nodes' thread room table kept =
        record {
          few = omega arith;
          columns =
              ap (λ (m : ℕ). bit_or m (get_or j.sets k 0)) v.columns
              ∙ (let e : suc k ≡ k + 1 = omega arith in ap (filled_to j.sets) e);
          thread = thread;
          room = room;
          levels =
              λ l low. ⊎_elim
              (λ less. kept l (shared_at j.sets l) (get_or j.sets l 0) (omega arith) (λ same. omega arith) (v.levels l less))
              (λ past.
              let e : k ≡ l = omega arith in
              subst (λ (n : ℕ). Table codes schema words x (n + 1) (shared_at j.sets n) (get_or j.sets n 0) 0 heads' nodes') e
              (subst (λ (m : ℕ). Table codes schema words x (k + 1) (bit_and (get_or j.sets k 0) m) (get_or j.sets k 0) 0 heads' nodes') v.columns table))
              (below-or-past l k);
        }

    pub levelled-all : j.count ≤ k → j.count ≤ 4 → Known schema x → x.relation ≡ j.relation → (heads' nodes' : List ℕ) → Beside 0 heads nodes heads' nodes'
        → Table codes schema words x 0 filled 0 0 heads' nodes' → Indexed codes schema words j x heads' nodes'
    levelled-all past small known relation heads' nodes' b whole =
        let r = roomy-beside words x b v.room in
        let e : k ≡ j.count = omega (arith, v.few) in
        record {
          known = known;
          relation = relation;
          room = λ some. (r.heads-room, r.nodes-room);
          levels =
              λ l h some. table_beside b (l + 1) (shared_at j.sets l) (get_or j.sets l 0) 0 (omega arith) (λ same. omega arith) (v.levels l (omega arith));
          whole =
              λ some. subst (λ (m : ℕ). Table codes schema words x 0 m 0 0 heads' nodes') (v.columns ∙ ap (filled_to j.sets) e) whole;
        }
