-- The survivor by keys is the survivor of the chase's definition. Assumes nothing.
use mathlib.Core.Path.{◌≡◌, refl, sym, ◌∙◌, ap}
use mathlib.Core.Logic.{inl, inr}
use mathlib.Core.Bool.{Bool, true}
use Prim.Native.Nat.{ℕ, ◌≤◌, ◌<◌}
use native.Mathlib.Omega.{arith}
use lib.Dec.{ltb}
use borrow.Author.Tests.{leb-true, ltb-true, ltb-false, lt-ltb, le-ltb, le-leb}
use Rattle.query.specs.declared.Entry as stored
use Rattle.query.specs.declared.Entry.TheVariants.{Constant, Variable}
use Rattle.query.specs.View.{entry_of}
use Rattle.query.specs.Rule.{good_entry}
use Rattle.replacement.specs.Keys.{key, KeyExamples, Wins, SmallerKeySurvives}
use Rattle.theory.specs.Query.{Entry, constant, variable, Query}
use Rattle.theory.specs.Chase.{survives, resolve, clash, replace, in_head}
use Rattle.theory.proofs.Lists.{bool_cases}

-- Two comparisons that go the same way
ltb-as : (a b c d : ℕ) → (a < b → c < d) → (b ≤ a → d ≤ c) → ltb a b ≡ ltb c d
ltb-as a b c d less more =
    bool_cases (ltb a b) (λ p. p ∙ sym (lt-ltb c d (less (ltb-true a b p)))) (λ p. p ∙ sym (le-ltb c d (more (ltb-false a b p))))

module _ (shown : ℕ → Bool) where
  -- Of two variables the smaller key survives
  survives-key : (v w : ℕ) → v ≤ 95 → w ≤ 95 → survives shown v w ≡ ltb (key shown (variable v)) (key shown (variable w))
  unfolding survives
  survives-key v w small small' =
      bool_cases
      (shown v)
      (λ p. bool_cases (shown w)
      (λ q. rw (p, q) (ltb-as v w _ _ (λ h. omega (arith, h)) (λ h. omega (arith, h))))
      (λ q. rw (p, q) (sym (lt-ltb _ _ (omega (arith, small))))))
      (λ p. bool_cases (shown w)
      (λ q. rw (p, q) (sym (le-ltb _ _ (omega (arith, small')))))
      (λ q. rw (p, q) (ltb-as v w _ _ (λ h. omega (arith, h)) (λ h. omega (arith, h)))))

  -- A variable's key is above that of each constant
  constant-less : (n v : ℕ) → n ≤ 2147483647 → n < key shown (variable v)
  constant-less n v small = bool_cases (shown v) (λ p. rw p (omega (arith, small))) (λ p. rw p (omega (arith, small)))

  -- Two variables with one key are the same
  variables-same : (v w : ℕ) → v ≤ 95 → w ≤ 95 → key shown (variable v) ≡ key shown (variable w) → v ≡ w
  variables-same v w small small' same =
      bool_cases
      (shown v)
      (λ p. bool_cases (shown w) (λ q. omega (arith, rw (p, q) at same)) (λ q. omega (arith, small, small', rw (p, q) at same)))
      (λ p. bool_cases (shown w) (λ q. omega (arith, small, small', rw (p, q) at same)) (λ q. omega (arith, rw (p, q) at same)))

  -- An entry with a smaller key than a variable's takes its place, whichever is found first; and found second also where the keys are equal
  smaller-first : (e : stored.Entry) (v : ℕ) → good_entry e ≡ true → v ≤ 95 → key shown (entry_of e) < key shown (variable v)
      → resolve shown (entry_of e) (variable v) ≡ replace v (entry_of e)
  unfolding resolve
  smaller-first (Constant n) v good small less = refl
  smaller-first (Variable w) v good small less =
      rw (survives-key w v (leb-true w 95 good) small, lt-ltb (key shown (variable w)) (key shown (variable v)) less) refl

  smaller-second : (e : stored.Entry) (v : ℕ) → good_entry e ≡ true → v ≤ 95 → key shown (entry_of e) ≤ key shown (variable v)
      → resolve shown (variable v) (entry_of e) ≡ replace v (entry_of e)
  unfolding resolve
  smaller-second (Constant n) v good small less = refl
  smaller-second (Variable w) v good small less =
      rw (survives-key v w small (leb-true w 95 good), le-ltb (key shown (variable v)) (key shown (variable w)) less) refl

  clash-constant : (e : stored.Entry) (n : ℕ) → n ≤ 2147483647 → key shown (entry_of e) ≤ n
      → (clash ≡ resolve shown (entry_of e) (constant n)) × (clash ≡ resolve shown (constant n) (entry_of e))
  unfolding resolve
  clash-constant (Constant m) n small less = (refl, refl)
  clash-constant (Variable v) n small less = absurd (omega (arith, less, constant-less n v small))

  module _ (e other : stored.Entry) (good : good_entry e ≡ true) (good-other : good_entry other ≡ true) where
    pub replace-first : (v : ℕ) → other ≡ Variable v → key shown (entry_of e) < key shown (entry_of other)
        → replace v (entry_of e) ≡ resolve shown (entry_of e) (entry_of other)
    replace-first v is less = rw is (sym (smaller-first e v good (leb-true v 95 (rw is at good-other)) (rw is at less)))

    pub replace-second : (v : ℕ) → other ≡ Variable v → key shown (entry_of e) ≤ key shown (entry_of other)
        → replace v (entry_of e) ≡ resolve shown (entry_of other) (entry_of e)
    replace-second v is less = rw is (sym (smaller-second e v good (leb-true v 95 (rw is at good-other)) (rw is at less)))

    -- Where the greater key is a constant's both entries are constants, and clash
    pub both-clash : (n : ℕ) → other ≡ Constant n → key shown (entry_of e) ≤ key shown (entry_of other)
        → (clash ≡ resolve shown (entry_of e) (entry_of other)) × (clash ≡ resolve shown (entry_of other) (entry_of e))
    both-clash n is less = rw is (clash-constant e n (leb-true n 2147483647 (rw is at good-other)) (rw is at less))

-- Of two variables the smaller key wins
wins : (q : Query) (v w : ℕ) → v ≤ 95 → w ≤ 95 → key (in_head q) (variable v) < key (in_head q) (variable w) → Wins q (variable v) (variable w)
wins q v w v-fits w-fits less =
    record {
      gone = w;
      is-variable = refl;
      smaller = less;
      survives = (
        smaller-first (in_head q) (Variable v) w (le-leb v 95 v-fits) w-fits less,
        smaller-second (in_head q) (Variable v) w (le-leb v 95 v-fits) w-fits (omega (arith, less)),
      );
    }

-- The statement of the specs
pub smaller-key-survives : SmallerKeySurvives
unfolding resolve
smaller-key-survives q (Constant m) (Constant n) good-a good-b differ not-both = cc
smaller-key-survives q (Constant n) (Variable v) good-a good-b differ not-both =
    let less = constant-less (in_head q) n v (leb-true n 2147483647 good-a) in
    inl (record { gone = v; is-variable = refl; smaller = less; survives = (refl, refl) })
smaller-key-survives q (Variable v) (Constant n) good-a good-b differ not-both =
    let less = constant-less (in_head q) n v (leb-true n 2147483647 good-b) in
    inr (record { gone = v; is-variable = refl; smaller = less; survives = (refl, refl) })
smaller-key-survives q (Variable v) (Variable w) good-a good-b differ not-both =
    let shown = in_head q in
    let v-fits = leb-true v 95 good-a in
    let w-fits = leb-true w 95 good-b in
    bool_cases
    (ltb (key shown (variable v)) (key shown (variable w)))
    (λ p. inl (wins q v w v-fits w-fits (ltb-true (key shown (variable v)) (key shown (variable w)) p)))
    (λ p. bool_cases (ltb (key shown (variable w)) (key shown (variable v)))
    (λ p'. inr (wins q w v w-fits v-fits (ltb-true (key shown (variable w)) (key shown (variable v)) p')))
    (λ p'. absurd (differ (ap variable (variables-same shown v w v-fits w-fits
    (omega (arith, ltb-false (key shown (variable v)) (key shown (variable w)) p, ltb-false (key shown (variable w)) (key shown (variable v)) p')))))))

-- The keys at the ends
pub key-examples : KeyExamples
key-examples = record { constants = λ shown. (refl, refl); heads = (refl, refl); others = (refl, refl) }
