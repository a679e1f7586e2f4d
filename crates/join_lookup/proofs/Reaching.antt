-- The way through the rows with some values: where it begins, and how it goes on, with tables and without. Assumes nothing.
use mathlib.Core.Path.{◌≡◌, refl, sym, ◌∙◌, ap, subst}
use mathlib.Core.Bool.{Bool, true, false, cond}
use mathlib.Core.List.{List, [], ◌∷◌}
use Prim.Native.Nat.{ℕ, suc, ◌+◌, ◌*◌, ◌/◌, ◌%◌, ◌^◌, ◌≤◌, ◌<◌}
use mathlib.Core.Logic.{⊎_elim}
use native.Mathlib.Nat.{div-one, div-div-eq-div-mul, pow-succ'}
use native.Mathlib.Omega.{arith}
use lib.Dec.{eqb}
use lib.ListN.{length, take, get_or}
use lib.Seq.{length-take-le}
use borrow.Author.Tests.{eqb-true}
use Rattle.lists.proofs.Tests.{below-or-past}
use Rattle.words.specs.Words.{spells_rows}
use Rattle.tables.specs.internal.Table.{mixed}
use Rattle.join_lookup.specs.declared.Index.{Index}
use Rattle.join_lookup.specs.internal.Starts.{start_of, row_count, BeginsAt, row_of, Has, Known}
use Rattle.join_lookup.specs.internal.Tables.{bucket_of, bucket_at, Leads, Table, Reaches, FirstWith}
use Rattle.join_lookup.proofs.Starting.{start-less, start-one, start-inside, inside-start, of_length}
use Rattle.theory.specs.Codes.{CodePair}
use Rattle.join_lookup.proofs.Bits.{BitOf, bit-column}

-- ---- rows with the same values have the same bucket

pub mixed-same : (h columns : ℕ) (xs ys : List ℕ) → length xs ≡ length ys → ((c : ℕ) → c < length xs → BitOf columns c → get_or xs c 0 ≡ get_or ys c 0)
    → mixed h columns xs ≡ mixed h columns ys
unfolding mixed
mixed-same h columns [] [] e same = refl
mixed-same h columns [] (y ∷ ys) e same = absurd (omega arith)
mixed-same h columns (x ∷ xs) [] e same = absurd (omega arith)
mixed-same h columns (x ∷ xs) (y ∷ ys) e same =
    go (eqb (columns % 2) 1) refl
    (λ k. mixed-same k (columns / 2) xs ys (omega arith)
    (λ c l bit. same (suc c) (omega arith) (ap (λ (n : ℕ). n % 2) (ap (λ (n : ℕ). columns / n) (pow-succ' 2 c) ∙ sym (div-div-eq-div-mul columns 2 (2 ^ c))) ∙ bit)))
  where
    go : (b : Bool) → eqb (columns % 2) 1 ≡ b → ((k : ℕ) → mixed k (columns / 2) xs ≡ mixed k (columns / 2) ys)
        → mixed (cond b ((h * 2654435769 + x) % 4294967296) h) (columns / 2) xs ≡ mixed (cond b ((h * 2654435769 + y) % 4294967296) h) (columns / 2) ys
    go true is rest =
        ap (λ (v : ℕ). mixed ((h * 2654435769 + v) % 4294967296) (columns / 2) xs)
        (same 0 (omega arith) (ap (λ (n : ℕ). n % 2) (div-one columns) ∙ eqb-true (columns % 2) 1 is))
        ∙ rest ((h * 2654435769 + y) % 4294967296)
    go false is rest = rest h

module _ (codes : List CodePair) (schema words : List ℕ) (good : spells_rows schema words ≡ true) (x : Index) (k : Known schema x) where
  pub bucket-same : (columns : ℕ) (values : List ℕ) (p : ℕ) → columns < 256 → x.width ≤ length values → p < row_count schema words
      → Has codes schema words x columns values p → bucket_at codes schema words x columns p ≡ bucket_of x.buckets columns (take x.width values)
  bucket-same columns values p small wide h has =
      let size : length (row_of codes schema words p).values ≡ length (take x.width values) =
      of_length codes schema words good x k p h has.0 ∙ sym (length-take-le x.width values wide) in
      ap (λ (m : ℕ). ((m * 2654435769) % 4294967296 * x.buckets) / 4294967296)
      (mixed-same 0 columns (row_of codes schema words p).values (take x.width values) size (λ c l bit. has.1 c (bit-column columns c small bit)))

  module _ (t columns set : ℕ) (values : List ℕ) where
    -- ---- without tables

    pub reach-first : x.buckets ≡ 0 → Reaches codes schema words x t columns set values 0 0
    unfolding start_of
    reach-first none =
        record {
          row = 0;
          place = refl;
          after = omega arith;
          inside = omega arith;
          here = λ some. absurd (omega arith);
          passed = λ p low high. absurd (omega arith);
        }

    pub reach-next : x.buckets ≡ 0 → (from at r : ℕ) (g : Reaches codes schema words x t columns set values from at) → g.row < row_count schema words
        → r ≡ start_of schema words (suc g.row) → Reaches codes schema words x t columns set values (suc g.row) r
    reach-next none from at r g h e =
        record {
          row = suc g.row;
          place = e;
          after = omega arith;
          inside = omega arith;
          here = λ some. absurd (omega arith);
          passed = λ p low high. absurd (omega arith);
        }

    -- ---- with tables

    module _ (small : columns < 256) (wide : x.width ≤ length values) where
      from-leads : (from r : ℕ) → Leads codes schema words x t columns set (bucket_of x.buckets columns (take x.width values)) from r
          → Reaches codes schema words x t columns set values from r
      from-leads from r l =
          record {
            row = l.row;
            place = l.place;
            after = l.after;
            inside = l.inside;
            here = λ some h. l.here h;
            passed = λ p low high has. l.passed p low high has.0 (bucket-same columns values p small wide (omega (arith, l.inside)) has);
          }

      pub reach-head : (heads nodes : List ℕ) (b : ℕ) → b ≡ bucket_of x.buckets columns (take x.width values) → b < x.buckets
          → Table codes schema words x t columns set 0 heads nodes → Reaches codes schema words x t columns set values 0 (get_or heads (5 * b + t) 0)
      reach-head heads nodes b e h table =
          from-leads 0 (get_or heads (5 * b + t) 0)
          (subst (λ (n : ℕ). Leads codes schema words x t columns set n 0 (get_or heads (5 * b + t) 0)) e (table.head b h))

      pub reach-link : 0 < x.buckets → (heads nodes : List ℕ) (from at : ℕ) → Table codes schema words x t columns set 0 heads nodes
          → (g : Reaches codes schema words x t columns set values from at) → g.row < row_count schema words
          → Reaches codes schema words x t columns set values (suc g.row) (get_or nodes (6 * at + 1 + t) 0)
      reach-link some heads nodes from at table g h =
          let here = g.here some h in
          let l = table.link g.row (omega arith) h here.0 in
          from-leads (suc g.row) (get_or nodes (6 * at + 1 + t) 0)
          (subst (λ (n : ℕ). Leads codes schema words x t columns set n (suc g.row) (get_or nodes (6 * at + 1 + t) 0)) here.1
          (subst (λ (n : ℕ). Leads codes schema words x t columns set (bucket_at codes schema words x columns g.row) (suc g.row)
          (get_or nodes (6 * n + 1 + t) 0))
          (sym g.place) l))

  -- Where a row begins the way has not ended
  pub reach-inside : (t columns set : ℕ) (values : List ℕ) (from at p : ℕ) → BeginsAt schema words at p
      → (g : Reaches codes schema words x t columns set values from at) → (g.row ≡ p) × (g.row < row_count schema words)
  reach-inside t columns set values from at p b g =
      let e : g.row ≡ p = start-one schema words g.row p (sym g.place ∙ b.0) in
      (e, omega (arith, b.1))

  -- ---- the first row with some values

  -- On the way through table 0 no row passed has the values
  abbrev pub Passing : ℕ → List ℕ → ℕ → Type 0
  Passing columns values at =
      (from : ℕ) × Reaches codes schema words x 0 columns 0 values from at × ((p : ℕ) → p < from → Has codes schema words x columns values p → ⊥)

  module _ (columns : ℕ) (values : List ℕ) (at : ℕ) (w : Passing columns values at) where
    pass-before : (p : ℕ) → p < w.1.row → Has codes schema words x columns values p → ⊥
    pass-before p l has = ⊎_elim (λ low. w.2 p low has) (λ high. (w.1.passed p high l has).0 refl) (below-or-past p w.0)

    pub pass-begins : at < length words → BeginsAt schema words at w.1.row
    pass-begins h = (w.1.place, inside-start schema words good w.1.row w.1.inside (omega (arith, w.1.place)))

    pub pass-next : (Has codes schema words x columns values w.1.row → ⊥) → (r : ℕ) → Reaches codes schema words x 0 columns 0 values (suc w.1.row) r
        → Passing columns values r
    pass-next not-here r g = (
      suc w.1.row,
      g,
      λ p l has. ⊎_elim (λ low. pass-before p low has)
          (λ high. let e : p ≡ w.1.row = omega arith in not-here (subst (λ (n : ℕ). Has codes schema words x columns values n) e has))
          (below-or-past p w.1.row),
    )

    pub pass-end : length words ≤ at → FirstWith codes schema words x columns values at
    pass-end past =
        record {
          row = w.1.row;
          place = w.1.place;
          inside = w.1.inside;
          here = λ h. absurd (let i = start-inside schema words good w.1.row h in let e = w.1.place in omega arith);
          before = pass-before;
        }

  -- A later row begins later
  pub reach-less : (t columns set : ℕ) (values : List ℕ) (row at r : ℕ) → at ≡ start_of schema words row
      → Reaches codes schema words x t columns set values (suc row) r → at < r
  reach-less t columns set values row at r e g =
      let l = start-less schema words row g.row (omega (arith, g.after)) in omega (arith, e, g.place)
