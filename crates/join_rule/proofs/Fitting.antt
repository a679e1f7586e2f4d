-- Join dependencies that the record's rule passes fit the schema. Assumes nothing.
use mathlib.Core.Path.{◌≡◌, refl, sym, ap, subst}
use mathlib.Core.Logic.{⊎_elim}
use mathlib.Core.Bool.{true}
use mathlib.Core.List.Memᴰ
use mathlib.Core.List.{List, ◌∷◌, flatten}
use Prim.Native.Nat.{ℕ}
use native.Mathlib.Omega.{arith}
use lib.Dec.{leb}
use lib.ListN.{length, take, get_or, length-map}
use lib.Seq.{length-take-le}
use borrow.Author.Tests.{eqb-true}
use Rattle.lists.specs.Tests.{in_use, is_zero}
use Rattle.lists.specs.Numbers.{numbers_where}
use Rattle.lists.proofs.Tests.{and_right, every-get_or, every-member, every_take, used-good}
use Rattle.lists.proofs.Numbers.{where-of}
use Rattle.theory.specs.Query.{◌∈◌}
use Rattle.theory.proofs.Lists.{subset-true}
use Rattle.query.specs.View.{columns_of, join_of}
use Rattle.query.specs.Rule.{good_join_set, blank_join, good_join, good_joins, shaped_join}
use Rattle.query.proofs.Good.{good-join-set, good-join}
use Rattle.query.proofs.Stored.{columns-below}
use Rattle.joins.specs.Join.{JoinFits}
use Rattle.join_rule.specs.Fitting.{GoodJoinFits, GoodJoinsFit, GoodJoinWithin}

-- What stands in a list of lists stands in one of them
flatten-of : {x : ℕ} (lists : List (List ℕ)) → x ∈ flatten lists → (l : List ℕ) × l ∈ lists × x ∈ l
unfolding flatten
flatten-of mathlib.Core.List.[] at = elim at [ ]
flatten-of (l ∷ lists) at =
    ⊎_elim (λ here. (l, Memᴰ.head refl, here))
    (λ later. let found = flatten-of lists later in (found.0, Memᴰ.tail found.1, found.2))
    (Memᴰ.append_cases l at)

pub good-join-fits : GoodJoinFits
good-join-fits schema j shaped good =
    let g = good-join schema j good in
    let used = used-good j.count (good_join_set schema j.relation) is_zero j.sets g.sets in
    let long : length (take j.count j.sets) ≡ j.count =
    length-take-le j.count j.sets (omega (arith, eqb-true (length j.sets) 4 shaped, g.most)) in
    let mapped = length-map (take j.count j.sets) columns_of in
    record {
      known = (good-join-set schema j.relation (get_or (take j.count j.sets) 0 0)
          (every-get_or (good_join_set schema j.relation) (take j.count j.sets) 0 0 used (omega (arith, long, g.least)))).relation-known;
      some-set = λ none. let empty = ap length none in absurd (omega (arith, empty, mapped, long, g.least));
      covers = λ c less.
          flatten-of (join_of j).sets
          (subset-true (numbers_where (λ c. true) 0 (get_or schema j.relation 0)) (flatten (join_of j).sets) g.covers c
          (where-of (λ c. true) 0 (get_or schema j.relation 0) c (omega arith) (omega (arith, less)) refl));
    }

pub good-joins-fit : GoodJoinsFit
unfolding good_joins
good-joins-fit schema held joins shaped good j at =
    let from = Memᴰ.of_map join_of (take held joins) at in
    let used = used-good held (good_join schema) blank_join joins (and_right (leb held 4) (in_use held (good_join schema) blank_join joins) good) in
    subst (JoinFits schema) from.2
    (good-join-fits schema from.0 (every-member shaped_join (take held joins) (every_take shaped_join held joins shaped) from.1)
    (every-member (good_join schema) (take held joins) used from.1))

pub good-join-within : GoodJoinWithin
good-join-within schema j good set at c there =
    let g = good-join schema j good in
    let used = used-good j.count (good_join_set schema j.relation) is_zero j.sets g.sets in
    let from = Memᴰ.of_map columns_of (take j.count j.sets) at in
    let narrow = (good-join-set schema j.relation from.0 (every-member (good_join_set schema j.relation) (take j.count j.sets) used from.1)).within in
    let below = columns-below 0 8 from.0 (get_or schema j.relation 0) narrow (subst (λ l. c ∈ l) (sym from.2) there) in
    omega (arith, below)
