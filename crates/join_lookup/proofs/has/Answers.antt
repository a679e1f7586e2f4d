-- `has` compares column by column. Assumes nothing.
use mathlib.Core.Path.{◌≡◌, refl, sym, ◌∙◌}
use mathlib.Core.Bool.{Bool, true, false, not, ◌||◌, false≢true}
use Prim.Native.Nat.{ℕ, ◌+◌, ◌/◌, ◌%◌, ◌^◌, ◌<◌}
use native.Mathlib.Nat.{sub-zero}
use native.Mathlib.Omega.{arith}
use lib.Dec.{eqb}
use lib.ListN.{length, get_or}
use borrow.Author.Tests.{eqb-true, eqb-false, eq-eqb}
use Rattle.std.proofs.Common.{rules, tests}
use Rattle.std.specs.List.{list_all, range_with_len}
use Rattle.std.proofs.lemmas.Iterator.{YieldsList-from_range, serves_from_Range}
use Rattle.std.proofs.lemmas.Iterator.Search.{all_from_yields_List}
use Rattle.chains.proofs.Ranges.{all_below, below_all}
use Rattle.theory.proofs.Lists.{bool_cases}
use Rattle.join_lookup.proofs.Having.{begins-inside, begins-room, made-has, other-relation, other-column}
use Rattle.join_lookup.proofs.has.Goals as goal
use Rattle.theory.specs.Codes.{read_code}
use Rattle.codes.specs.internal.Codes.{codes_in}
use Rattle.join_lookup.proofs.has.Goals.{Start}

-- The row is there
inside : (c : Start) → c.args.at < length c.args.words.now
inside c = let a = c.args in
    begins-inside (codes_in a.codes.now) a.schema.now a.words.now c.requires.words_value.0 a.x c.requires.words_value.1 a.at c.requires.by_index.0
    c.requires.by_index.1

pub offset_bounds-words-at : goal.offset_bounds-words-at
offset_bounds-words-at c = omega (arith, inside (goal.at.offset_bounds-words-at c).Start)

pub bounds-words-at : goal.bounds-words-at
bounds-words-at c = inside (goal.at.bounds-words-at c).Start

pub all-requires-clause-callable : goal.all-requires-clause-callable
all-requires-clause-callable c =
    let a = c.args in
    let room = begins-room (codes_in a.codes.now) a.schema.now a.words.now c.requires.words_value.0 a.x c.requires.words_value.1 a.at c.requires.by_index.0
    c.requires.by_index.1 c.if-words-at.true in
    serves_from_Range (λ x q k. search (rules, tests)) (λ x low high. search rules)

-- Whether column k is not in the set or has its value
abbrev as_given : goal.After-all → ℕ → Bool
as_given c k =
    not (eqb (c.args.columns / 2 ^ k % 2) 1) || eqb (read_code (codes_in c.args.codes.now) (get_or c.args.words.now (c.args.at + 1 + k) 0))
    (get_or c.args.values k 0)

passes : (bit x y : ℕ) → not (eqb bit 1) || eqb x y ≡ true → bit ≡ 1 → x ≡ y
passes bit x y p one = eqb-true x y (rw (eq-eqb bit 1 one) at p)

fails : (bit x y : ℕ) → not (eqb bit 1) || eqb x y ≡ false → (bit ≡ 1) × (x ≡ y → ⊥)
fails bit x y = go (eqb bit 1) refl
  where
    go : (t : Bool) → eqb bit 1 ≡ t → not t || eqb x y ≡ false → (bit ≡ 1) × (x ≡ y → ⊥)
    go true e p = (eqb-true bit 1 e, eqb-false x y p)
    go false e p = absurd (false≢true (sym p))

all_given : (c : goal.After-all) → c.all.result ≡ list_all (as_given c) (range_with_len 0 c.args.x.width)
all_given c =
    all_from_yields_List (as_given c) _ _ _ c.all.ensures.ran (YieldsList-from_range 0 c.args.x.width c.args.x.width refl (sub-zero c.args.x.width))
    (λ x b q k. search (rules, tests))

pub returns-then-words-at-clause-by_index_2 : goal.returns-then-words-at-clause-by_index_2
returns-then-words-at-clause-by_index_2 c =
    let a = c.args in
    λ p b t. made-has (codes_in a.codes.now) a.schema.now a.words.now c.requires.words_value.0 a.x c.requires.words_value.1 a.at p b c.if-words-at.true
    a.columns a.values
    c.ranges.columns.fits (λ d low bit. passes (a.columns / 2 ^ d % 2) _ _ (all_below (as_given c) a.x.width (sym (all_given c) ∙ t) d low) bit)

pub returns-then-words-at-clause-by_index_3 : goal.returns-then-words-at-clause-by_index_3
returns-then-words-at-clause-by_index_3 c =
    let a = c.args in
    λ p b f h.
    false≢true (sym f ∙ all_given c ∙ below_all (as_given c) a.x.width (λ k low.
    bool_cases (as_given c k) (λ e. e) (λ e.
    let why = fails (a.columns / 2 ^ k % 2) _ _ e in
    absurd (other-column (codes_in a.codes.now) a.schema.now a.words.now c.requires.words_value.0 a.x c.requires.words_value.1 a.at p b a.columns a.values k
    c.ranges.columns.fits low why.0 why.1 h))))

pub returns-else-words-at-clause-by_index_3 : goal.returns-else-words-at-clause-by_index_3
returns-else-words-at-clause-by_index_3 c =
    let a = c.args in
    λ p b f. other-relation (codes_in a.codes.now) a.schema.now a.words.now c.requires.words_value.0 a.x c.requires.words_value.1 a.at p b a.columns a.values
    c.if-words-at.false
