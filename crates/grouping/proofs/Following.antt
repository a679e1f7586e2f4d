-- Following a chain: the leaders that are not passed yet are those below the node. Assumes nothing.
use mathlib.Core.Path.{◌≡◌, refl, ap, sym, subst, ◌∙◌}
use mathlib.Core.Bool.{Bool, true, false}
use mathlib.Core.List.{List}
use Prim.Native.Nat.{ℕ, suc, ◌≤◌, ◌<◌}
use native.Mathlib.Omega.{arith}
use lib.Dec.{eqb, ltb}
use borrow.Author.Tests.{eqb-true, eqb-false, ltb-true, ltb-false}
use lib.ListN.{length, get_or}
use Rattle.grouping.specs.internal.Chains.{last_below, Chained}
use Rattle.grouping.specs.internal.Leaders.{link_of, tag_in, LeaderFor}
use Rattle.grouping.specs.declared.Sought.{Sought}
use Rattle.grouping.proofs.Chains.{last-le, last_none, last-key}

module _ (key : ℕ → ℕ) (heads nodes : List ℕ) (count : ℕ) (q : Sought) where
  -- the node is the end of the chain or of the row's bucket, and no leader from there on is that of the row's group
  pub record Following (node : ℕ) : Type 0 where
    pub low : node ≤ count
    pub same : (s : ℕ) → node ≡ suc s → key s ≡ q.bucket
    pub none : (t : ℕ) → node ≤ t → t < count → LeaderFor key nodes q t → ⊥

  module _ (chained : Chained key heads (link_of nodes) count) where
    -- a link leads back
    pub link-le : (s : ℕ) → s < count → link_of nodes s ≤ s
    link-le s below =
        let is : link_of nodes s ≡ last_below key s (key s) = chained.links s below in
        omega (arith, last-le key s (key s))

    -- from the last leader of the bucket below m on, if none from m on is that of the group
    follow-last : (m node : ℕ) → m ≤ count → node ≡ last_below key m q.bucket
        → ((t : ℕ) → m ≤ t → t < count → LeaderFor key nodes q t → ⊥) → Following node
    follow-last m node le is above =
        let low : last_below key m q.bucket ≤ m = last-le key m q.bucket in
        record {
          low = omega arith;
          same = λ s n. last-key key m q.bucket s (sym is ∙ n);
          none = λ t from below leads. go t from below leads (ltb t m) refl;
        }
      where
        go : (t : ℕ) → node ≤ t → t < count → LeaderFor key nodes q t → (x : Bool) → ltb t m ≡ x → ⊥
        go t from below leads true h = last_none key m q.bucket t (omega arith) (ltb-true t m h) leads.0
        go t from below leads false h = above t (ltb-false t m h) below leads

    pub follow-start : q.bucket < length heads → Following (get_or heads q.bucket 0)
    follow-start h =
        follow-last count (get_or heads q.bucket 0) (omega arith) (chained.heads q.bucket h) (λ t from below leads. absurd (omega arith))

    pub follow-next : (node s : ℕ) → node ≡ suc s → Following node → (tag_in nodes s ≡ q.tag → ⊥) → Following (link_of nodes s)
    follow-next node s n f differs =
        let below : s < count = omega (arith, f.low) in
        follow-last s (link_of nodes s) (omega arith) (chained.links s below ∙ ap (last_below key s) (f.same s n))
        (λ t from high leads. go t from high leads (eqb t s) refl)
      where
        go : (t : ℕ) → s ≤ t → t < count → LeaderFor key nodes q t → (x : Bool) → eqb t s ≡ x → ⊥
        go t from high leads true h = differs (subst (λ (x : ℕ). tag_in nodes x ≡ q.tag) (eqb-true t s h) leads.1)
        go t from high leads false h = let apart : t ≡ s → ⊥ = eqb-false t s h in f.none t (omega arith) high leads
