-- Tables in the making: rows are entered from the last to the first. 1. What is beside a table stays. 2. A table without rows. 3. One row more.
-- Assumes nothing.
use mathlib.Core.Path.{◌≡◌, refl, sym, ◌∙◌, ap, subst}
use mathlib.Core.Logic.{⊎_elim}
use mathlib.Core.Bool.{true}
use mathlib.Core.List.{List}
use Prim.Native.Nat.{ℕ, suc, ◌+◌, ◌*◌, ◌-◌, ◌≤◌, ◌<◌}
use native.Mathlib.Decide.{ℕ_discrete}
use native.Mathlib.Omega.{arith}
use lib.ListN.{length, take, get_or, set, length-set}
use lib.Seq.{get_or-set_same, get_or-set_other}
use Rattle.lists.proofs.Tests.{below-or-past}
use Rattle.theory.specs.Query.{Row, column}
use Rattle.words.specs.Words.{spells_rows}
use Rattle.join_lookup.specs.declared.Index.{Index}
use Rattle.join_lookup.specs.internal.Starts.{start_of, row_count, row_of, row_with, Of, Has, Known}
use Rattle.join_lookup.specs.internal.Tables.{bucket_at, LeftOut, Leads, Table, FirstWith}
use Rattle.join_tables.specs.internal.Filling.{Threaded, Beside}
use Rattle.theory.specs.Codes.{CodePair}
use Rattle.words.specs.internal.Rows.{span_read}
use Rattle.join_lookup.proofs.Starting.{start-less, start-end, of_values}

-- ---- 1. what is beside a table

pub beside_same : (t : ℕ) (heads nodes : List ℕ) → Beside t heads nodes heads nodes
beside_same t heads nodes = record { heads-size = refl; nodes-size = refl; heads-kept = λ b u low other. refl; nodes-kept = λ n u low other. refl }

pub beside-then : (t : ℕ) {heads nodes heads' nodes' heads'' nodes'' : List ℕ} → Beside t heads nodes heads' nodes' → Beside t heads' nodes' heads'' nodes''
    → Beside t heads nodes heads'' nodes''
beside-then t a b =
    record {
      heads-size = b.heads-size ∙ a.heads-size;
      nodes-size = b.nodes-size ∙ a.nodes-size;
      heads-kept = λ c u low other. b.heads-kept c u low other ∙ a.heads-kept c u low other;
      nodes-kept = λ n u low other. b.nodes-kept n u low other ∙ a.nodes-kept n u low other;
    }

-- A row's link is beside the other tables, and the head of a bucket too
module _ (t : ℕ) (low : t < 5) (heads nodes : List ℕ) (at next : ℕ) where
  link-kept : (n u : ℕ) → u < 6 → (u ≡ t + 1 → ⊥) → get_or (set nodes (6 * at + 1 + t) next) (6 * n + u) 0 ≡ get_or nodes (6 * n + u) 0
  link-kept n u l other = get_or-set_other nodes (6 * at + 1 + t) (6 * n + u) next 0 (λ same. other (omega arith))

  pub linked-beside : Beside t heads nodes heads (set nodes (6 * at + 1 + t) next)
  linked-beside =
      record {
        heads-size = refl;
        nodes-size = length-set nodes (6 * at + 1 + t) next;
        heads-kept = λ c u l other. refl;
        nodes-kept = link-kept;
      }

  pub entered-beside : (b : ℕ) → Beside t heads nodes (set heads (5 * b + t) at) (set nodes (6 * at + 1 + t) next)
  entered-beside b =
      record {
        heads-size = length-set heads (5 * b + t) at;
        nodes-size = length-set nodes (6 * at + 1 + t) next;
        heads-kept = λ c u l other. get_or-set_other heads (5 * b + t) (5 * c + u) at 0 (λ same. other (omega arith));
        nodes-kept = link-kept;
      }

module _ {codes : List CodePair} {schema words : List ℕ} {x : Index} {t : ℕ} {heads nodes heads' nodes' : List ℕ} (b : Beside t heads nodes heads' nodes') where
  pub table_beside : (u columns set from : ℕ) → u < 5 → (u ≡ t → ⊥) → Table codes schema words x u columns set from heads nodes
      → Table codes schema words x u columns set from heads' nodes'
  table_beside u columns mask from low other table =
      record {
        head = λ c h. subst (Leads codes schema words x u columns mask c from) (sym (b.heads-kept c u low other)) (table.head c h);
        link =
            λ p past h of.
            let e : 6 * start_of schema words p + suc u ≡ 6 * start_of schema words p + 1 + u = omega arith in
            subst (Leads codes schema words x u columns mask (bucket_at codes schema words x columns p) (suc p))
            (ap (λ (n : ℕ). get_or nodes n 0) (sym e) ∙ sym (b.nodes-kept (start_of schema words p) (suc u) (omega arith) (λ same. other (omega arith)))
            ∙ ap (λ (n : ℕ). get_or nodes' n 0) e) (table.link p past h of);
      }

module _ {schema words : List ℕ} {t : ℕ} {heads nodes heads' nodes' : List ℕ} (b : Beside t heads nodes heads' nodes') where
  pub thread-beside : t < 5 → Threaded schema words nodes → Threaded schema words nodes'
  thread-beside low thread =
      record {
        prior =
            λ p h.
            let e : 6 * (start_of schema words (suc p) - 1) + 0 ≡ 6 * (start_of schema words (suc p) - 1) = omega arith in
            ap (λ (n : ℕ). get_or nodes' n 0) (sym e) ∙ b.nodes-kept (start_of schema words (suc p) - 1) 0 (omega arith) (λ same. omega arith)
            ∙ ap (λ (n : ℕ). get_or nodes n 0) e ∙ thread.prior p h;
      }

-- ---- 2. a table without rows

module _ (codes : List CodePair) (schema words : List ℕ) (good : spells_rows schema words ≡ true) (x : Index) where
  pub table_none : (t columns mask : ℕ) (heads nodes : List ℕ) → ((b : ℕ) → b < x.buckets → get_or heads (5 * b + t) 0 ≡ length words)
      → Table codes schema words x t columns mask (row_count schema words) heads nodes
  table_none t columns mask heads nodes clear =
      record {
        head =
            λ b h.
            record {
              row = row_count schema words;
              place = clear b h ∙ sym (start-end schema words good);
              after = omega arith;
              inside = omega arith;
              here = λ less. absurd (omega arith);
              passed = λ p low high. absurd (omega arith);
            };
        link = λ p low high. absurd (omega arith);
      }

  -- ---- 3. one row more

  module _ (k : Known schema x) (t columns mask p : ℕ) (h : p < row_count schema words) (heads nodes : List ℕ)
      (table : Table codes schema words x t columns mask (suc p) heads nodes) where
    -- A head that stays leads past the row, if that is not of the bucket or is left out
    leads-more : (b r : ℕ) → (Of codes schema words x p → bucket_at codes schema words x columns p ≡ b → LeftOut codes schema words x t mask p)
        → Leads codes schema words x t columns mask b (suc p) r → Leads codes schema words x t columns mask b p r
    leads-more b r out l =
        record {
          row = l.row;
          place = l.place;
          after = omega (arith, l.after);
          inside = l.inside;
          here = l.here;
          passed =
              λ q low high of is. ⊎_elim
              (λ less. l.passed q less high of is)
              (λ past.
              let e : p ≡ q = omega arith in
              subst (LeftOut codes schema words x t mask) e
              (out (subst (Of codes schema words x) (sym e) of) (ap (bucket_at codes schema words x columns) e ∙ is))) (below-or-past p q);
        }

    -- The row is of another relation
    pub table-other : (Of codes schema words x p → ⊥) → Table codes schema words x t columns mask p heads nodes
    table-other other =
        record {
          head = λ b low. leads-more b (get_or heads (5 * b + t) 0) (λ of is. absurd (other of)) (table.head b low);
          link =
              λ q low high of. ⊎_elim (λ less. table.link q less high of)
              (λ past. let e : q ≡ p = omega arith in absurd (other (subst (Of codes schema words x) e of))) (below-or-past p q);
        }

    module _ (of : Of codes schema words x p) (b : ℕ) (is : b ≡ bucket_at codes schema words x columns p) (low : b < x.buckets)
        (heads-room : 5 * x.buckets ≤ length heads) (nodes-room : 6 * length words ≤ length nodes) (tables : t < 5) (inside : start_of schema words p < length words)
      where
        abbrev spot : ℕ
        spot = 6 * start_of schema words p + 1 + t

        abbrev linked : List ℕ
        linked = set nodes spot (get_or heads (5 * b + t) 0)

        -- The links, the row's too
        links : (q : ℕ) → p ≤ q → q < row_count schema words → Of codes schema words x q
            → Leads codes schema words x t columns mask (bucket_at codes schema words x columns q) (suc q)
            (get_or linked (6 * start_of schema words q + 1 + t) 0)
        links q past high ofq =
            ⊎_elim
            (λ less.
            let later = start-less schema words p q less in
            subst (Leads codes schema words x t columns mask (bucket_at codes schema words x columns q) (suc q))
            (sym (get_or-set_other nodes spot (6 * start_of schema words q + 1 + t) (get_or heads (5 * b + t) 0) 0 (λ same. omega arith))) (table.link q less high ofq))
            (λ only.
            let e : p ≡ q = omega arith in
            subst (λ (n : ℕ). Leads codes schema words x t columns mask (bucket_at codes schema words x columns n) (suc n)
            (get_or linked (6 * start_of schema words n + 1 + t) 0)) e
            (subst (Leads codes schema words x t columns mask (bucket_at codes schema words x columns p) (suc p))
            (sym (get_or-set_same nodes spot (get_or heads (5 * b + t) 0) 0 (omega arith)))
            (subst (λ (n : ℕ). Leads codes schema words x t columns mask n (suc p) (get_or heads (5 * b + t) 0)) is (table.head b low))))
            (below-or-past p q)

        -- The row is left out
        pub table-out : LeftOut codes schema words x t mask p → Table codes schema words x t columns mask p heads linked
        table-out out = record { head = λ c h. leads-more c (get_or heads (5 * c + t) 0) (λ o e. out) (table.head c h); link = links }

        -- The row is at the head of its bucket
        pub table-in : Table codes schema words x t columns mask p (set heads (5 * b + t) (start_of schema words p)) linked
        table-in = record { head = λ c hc. go c hc (ℕ_discrete c b); link = links }
          where
            go : (c : ℕ) → c < x.buckets → Dec (c ≡ b)
                → Leads codes schema words x t columns mask c p (get_or (set heads (5 * b + t) (start_of schema words p)) (5 * c + t) 0)
            go c hc (yes e) =
                record {
                  row = p;
                  place =
                      ap (λ (n : ℕ). get_or (set heads (5 * b + t) (start_of schema words p)) (5 * n + t) 0) e
                      ∙ get_or-set_same heads (5 * b + t) (start_of schema words p) 0 (omega arith);
                  after = omega arith;
                  inside = omega arith;
                  here = λ less. (of, sym is ∙ sym e);
                  passed = λ q l m. absurd (omega arith);
                }
            go c hc (no other) =
                subst (Leads codes schema words x t columns mask c p)
                (sym (get_or-set_other heads (5 * b + t) (5 * c + t) (start_of schema words p) 0 (λ same. other (omega arith))))
                (leads-more c (get_or heads (5 * c + t) 0) (λ o e. absurd (other (sym e ∙ sym is))) (table.head c hc))

  -- The values of the row at position p are it
  pub own_row : (k : Known schema x) (p : ℕ) → p < row_count schema words → Of codes schema words x p → (values : List ℕ)
      → take x.width values ≡ (span_read codes x.width words (start_of schema words p)).values → row_with x values ≡ row_of codes schema words p
  own_row k p h of values e =
      let v : take x.width values ≡ (row_of codes schema words p).values = e ∙ sym (of_values codes schema words good x k p h of) in
      λ i. record { relation = sym of i; values = v i }

  -- Where an earlier row has the same values in a set, the row may be left out
  pub not_first : (k : Known schema x) (t mask p : ℕ) → p < row_count schema words → Of codes schema words x p → (values : List ℕ)
      → row_with x values ≡ row_of codes schema words p
      → (t ≡ 0 → ⊥) → (first : ℕ) → FirstWith codes schema words x mask values first → (first ≡ start_of schema words p → ⊥)
      → LeftOut codes schema words x t mask p
  not_first k t mask p h of values own some first f other =
      let own-has : Has codes schema words x mask values p = (of, λ c there. sym (ap (λ (r : Row ℕ). column 0 r c) own)) in
      let less : f.row < p =
      ⊎_elim (λ l. l)
      (λ past.
      ⊎_elim (λ beyond. absurd (f.before p beyond own-has))
      (λ only. let e : f.row ≡ p = omega arith in absurd (other (f.place ∙ ap (start_of schema words) e))) (below-or-past p f.row))
      (below-or-past f.row p) in
      let there = f.here (omega arith) in
      (some, f.row, less, there.0, λ c at. there.1 c at ∙ ap (λ (r : Row ℕ). column 0 r c) own)
