-- Which of two entries that must be equal survives, in the words of SPECIFICATION, The chase: a constant survives a variable; a variable in the head
-- survives one that is not;
-- otherwise the lower number survives. Two constants clash. Each holds in whichever order the two are found.
-- The chase's other laws depend on none of these. Assumes nothing.
use mathlib.Core.Path.{◌≡◌, refl}
use mathlib.Core.Logic.{◌↔◌}
use mathlib.Core.Bool.{true, false}
use Prim.Native.Nat.{ℕ, ◌<◌}
use native.Mathlib.Omega.{arith}
use lib.Dec.{ltb}
use borrow.Author.Tests.{lt-ltb, le-ltb}
use Rattle.theory.specs.Query.{constant, variable, Query, variables_of, ◌∈◌}
use Rattle.theory.specs.Chase.{clash, survives, resolve, in_head}
use Rattle.theory.specs.ChaseTheorems.{Survives}
use Rattle.theory.proofs.Lists.{bool_cases, member-mem, mem-member, member-not-mem, not-mem-member}

pub constant-survives : (q : Query) (n v : ℕ) → Survives q (constant n) v
unfolding resolve
constant-survives q n v = (refl, refl)

pub head-survives : (q : Query) (v w : ℕ) → v ∈ variables_of q.head → (w ∈ variables_of q.head → ⊥) → Survives q (variable v) w
unfolding resolve survives
head-survives q v w within out =
    let first : in_head q v ≡ true = mem-member v (variables_of q.head) within in
    let second : in_head q w ≡ false = not-mem-member w (variables_of q.head) out in
    (rw (first, second), rw (first, second))

-- The two are both in the head or both not
pub lower-survives : (q : Query) (v w : ℕ) → (v ∈ variables_of q.head) ↔ (w ∈ variables_of q.head) → v < w → Survives q (variable v) w
unfolding resolve survives
lower-survives q v w alike less =
    let lower : ltb v w ≡ true = lt-ltb v w less in
    let higher : ltb w v ≡ false = le-ltb w v (omega arith) in
    let head = variables_of q.head in
    bool_cases
    (in_head q v)
    (λ first.
    let second : in_head q w ≡ true = mem-member w head (alike.0 (member-mem v head first)) in
    (rw (first, second, lower), rw (first, second, higher)))
    (λ first.
    let second : in_head q w ≡ false = not-mem-member w head (λ at. member-not-mem v head first (alike.1 at)) in
    (rw (first, second, lower), rw (first, second, higher)))

pub constants-clash : (q : Query) (m n : ℕ) → resolve (in_head q) (constant m) (constant n) ≡ clash
unfolding resolve
constants-clash q m n = refl
