-- Each call's definition by the test that decides it: what the code has shown when it answers.
use mathlib.Core.Path.{◌≡◌}
use mathlib.Core.Bool.{true, false}
use mathlib.Core.Option.{none, some}
use Prim.Native.Nat.{ℕ, ◌<◌}
use borrow.Author.Tests.{lt-ltb, le-ltb, eq-eqb, ne_eqb}
use Rattle.query.specs.Types.{Query}
use Rattle.query.specs.declared.Dependency.{Dependency}
use Rattle.query.specs.declared.JoinDependency.{JoinDependency}
use Rattle.query.specs.declared.CodePair.{CodePair}
use lib.ListN.{take}
use Rattle.query.specs.Rule.{pair_fits, good_dependency, good_join, good_query, head_safe, place_with}
use Rattle.refusals.specs.Refusals.{first_holding, refused, gives}
use Rattle.record.specs.declared.Record.{Record}
use Rattle.record.specs.View.{schema_of}
use Rattle.record.specs.Rule.{good_record}
use Rattle.record.specs.Calls.{concluded, with_place, with_code, with_dependency, with_join, add_code, add_dependency, add_join, put_query}
use Rattle.record.specs.internal.Lookup.{place_at, vacant_place}
use Rattle.record.proofs.Refusals.{vacant-at, place-refused, vacant-refused}

-- ---- put

module _ (r : Record) (place : ℕ) (q : Query) where
  pub put-broken : good_record r ≡ false → concluded (some 14) r r ≡ put_query r place q
  unfolding put_query first_holding
  put-broken e = rw e

  module _ (good : good_record r ≡ true) where
    pub put-high : (n : ℕ) → place_at place ≡ refused n → concluded (some n) r r ≡ put_query r place q
    unfolding put_query first_holding
    put-high n e =
        let f = place-refused place n e in
        rw (good, le-ltb place 8 f.0, f.1)

    module _ (low : place < 8) where
      pub put-unfit : good_query (schema_of r) q ≡ false → concluded (some 5) r r ≡ put_query r place q
      unfolding put_query first_holding
      put-unfit e = rw (good, lt-ltb place 8 low, e)

      module _ (fit : good_query (schema_of r) q ≡ true) where
        pub put-unsafe : head_safe (schema_of r) q ≡ false → concluded (some 6) r r ≡ put_query r place q
        unfolding put_query first_holding
        put-unsafe e = rw (good, lt-ltb place 8 low, fit, e)

        module _ (safe : head_safe (schema_of r) q ≡ true) where
          pub put-filled : (n : ℕ) → vacant_place r place ≡ refused n → concluded (some n) r r ≡ put_query r place q
          unfolding put_query first_holding
          put-filled n e =
              let f = vacant-refused r place n low e in
              rw (good, lt-ltb place 8 low, fit, safe, f.0, f.1)

          pub put-done : (at : ℕ) → vacant_place r place ≡ gives at
              → concluded none (with_place r at (place_with q)) (with_place r at (place_with q)) ≡ put_query r place
              q
          unfolding put_query first_holding
          put-done at e =
              let f = vacant-at r place at e in
              rw (good, lt-ltb place 8 low, fit, safe, f.2, f.0)

-- ---- add

module _ (r : Record) (p : CodePair) where
  pub code-broken : good_record r ≡ false → concluded (some 14) r r ≡ add_code r p
  unfolding add_code first_holding
  code-broken e = rw e

  module _ (good : good_record r ≡ true) where
    pub code-unfit : pair_fits (take r.coded r.codes) p ≡ false → concluded (some 18) r r ≡ add_code r p
    unfolding add_code first_holding
    code-unfit e = rw (good, e)

    module _ (fit : pair_fits (take r.coded r.codes) p ≡ true) where
      pub code-full : r.coded ≡ 16 → concluded (some 19) r r ≡ add_code r p
      unfolding add_code first_holding
      code-full e = rw (good, fit, eq-eqb r.coded 16 e)

      pub code-done : (r.coded ≡ 16 → ⊥) → concluded none (with_code r p) (with_code r p) ≡ add_code r p
      unfolding add_code first_holding
      code-done e = rw (good, fit, ne_eqb r.coded 16 e)

module _ (r : Record) (d : Dependency) where
  pub add-broken : good_record r ≡ false → concluded (some 14) r r ≡ add_dependency r d
  unfolding add_dependency first_holding
  add-broken e = rw e

  module _ (good : good_record r ≡ true) where
    pub add-unfit : good_dependency (schema_of r) d ≡ false → concluded (some 4) r r ≡ add_dependency r d
    unfolding add_dependency first_holding
    add-unfit e = rw (good, e)

    module _ (fit : good_dependency (schema_of r) d ≡ true) where
      pub add-full : r.held ≡ 32 → concluded (some 13) r r ≡ add_dependency r d
      unfolding add_dependency first_holding
      add-full e = rw (good, fit, eq-eqb r.held 32 e)

      pub add_done : (r.held ≡ 32 → ⊥) → concluded none (with_dependency r d) (with_dependency r d) ≡ add_dependency r d
      unfolding add_dependency first_holding
      add_done e = rw (good, fit, ne_eqb r.held 32 e)

module _ (r : Record) (j : JoinDependency) where
  pub join-broken : good_record r ≡ false → concluded (some 14) r r ≡ add_join r j
  unfolding add_join first_holding
  join-broken e = rw e

  module _ (good : good_record r ≡ true) where
    pub join-unfit : good_join (schema_of r) j ≡ false → concluded (some 15) r r ≡ add_join r j
    unfolding add_join first_holding
    join-unfit e = rw (good, e)

    module _ (fit : good_join (schema_of r) j ≡ true) where
      pub join-full : r.joined ≡ 4 → concluded (some 16) r r ≡ add_join r j
      unfolding add_join first_holding
      join-full e = rw (good, fit, eq-eqb r.joined 4 e)

      pub join-done : (r.joined ≡ 4 → ⊥) → concluded none (with_join r j) (with_join r j) ≡ add_join r j
      unfolding add_join first_holding
      join-done e = rw (good, fit, ne_eqb r.joined 4 e)
