-- `assembly::put_joins` meets its contract. Invariant: the join dependencies from the present one on are still to be written. Assumes nothing.
use mathlib.Core.Path.{◌≡◌, sym, ap, ◌∙◌}
use mathlib.Core.Bool.{true}
use Rattle.lists.specs.Tests.{every}
use mathlib.Core.List.{List, [], ◌∷◌, flat_map}
use Prim.Native.Nat.{ℕ, ◌+◌, ◌≤◌, ◌<◌}
use native.Mathlib.Omega.{arith}
use lib.ListN.{length, take, get_or, set}
use lib.Seq.{length-take-le, get_or-take}
use borrow.Author.Tests.{leb-true}
use borrow.Author.Rules.{rules}
use Rattle.query.specs.declared.JoinDependency.{JoinDependency}
use Rattle.lists.specs.Over.{over}
use Rattle.lists.proofs.Over.{over-nil}
use Rattle.lists.proofs.Tests.{every-get_or}
use Rattle.limits.proofs.Sets.{past_join}
use Rattle.encoder.proofs.Stores.{writing-room, writing-turns, writing-ends, byte-and-run}
use Rattle.assembly.specs.internal.Pieces.{put_join, few_sets, joins_bytes}
use Rattle.assembly.proofs.Joins.{joins-none, joins-some}
use Rattle.assembly.proofs.put_joins.Goals as goal
use Rattle.assembly.proofs.put_joins.Goals.{Else-joined-eq0, Start}

-- Nothing is written where none is held
nothing : (buffer : List ℕ) (at joined : ℕ) (list : List JoinDependency) → joined ≡ 0
    → (buffer ≡ over buffer at (joins_bytes joined list)) × (at ≡ at + length (joins_bytes joined list))
nothing buffer at joined list e =
    let none : joins_bytes joined list ≡ [] = joins-none joined list e in
    (sym (ap (over buffer at) none ∙ over-nil buffer at), omega (arith, ap length none))

-- No more than 4 sets are in use
few : (n : ℕ) (list : List JoinDependency) (i : ℕ) → length list ≡ 4 → n ≤ 4 → every few_sets list ≡ true → i < length (take n list)
    → (get_or (take n list) i past_join).count ≤ 4
few n list i four low e h =
    let m : length (take n list) ≡ n = length-take-le n list (omega arith) in
    let same : get_or (take n list) i past_join ≡ get_or list i past_join = get_or-take n list i past_join (omega arith) in
    rw same (leb-true _ 4 (every-get_or few_sets list i past_join e (omega arith)))

-- All are written
ended : (buffer : List ℕ) (at joined : ℕ) (list : List JoinDependency) (after : List ℕ) (next : ℕ) → (joined ≡ 0 → ⊥) → at < length buffer
    → (after ≡ over (set buffer at joined) (at + 1) (flat_map put_join (take joined list))) × (next ≡ at + 1 + length (flat_map put_join (take joined list)))
    → (after ≡ over buffer at (joins_bytes joined list)) × (next ≡ at + length (joins_bytes joined list))
ended buffer at joined list after next some h e =
    let all : joins_bytes joined list ≡ joined ∷ flat_map put_join (take joined list) = joins-some joined list some in (
      byte-and-run buffer at joined (flat_map put_join (take joined list)) after h e.0 ∙ ap (over buffer at) (sym all),
      omega (arith, ap length all, e.1),
    )

-- There is room for the count and each join dependency
whole : (c : goal.Else-joined-eq0)
    → c.args.at + 1 + length (flat_map put_join (take c.args.joined c.args.list))
    ≤ length c.args.buffer.now
whole c =
    let all = ap length (joins-some c.args.joined c.args.list c.if-joined-eq0.false) in
    omega (arith, all, c.requires.list_in_bounds)

pub put_join-next-requires : goal.put_join-next-requires
put_join-next-requires c =
    let four : length c.args.list ≡ 4 = search rules in
    record {
      count_bound = few c.args.joined c.args.list c.loop-j.j-index four c.requires.joined_bound.0 c.requires.joined_bound.1 c.loop-j-test.true;
      j_in_bounds = writing-room c.loop-j.invariant past_join c.loop-j-test.true;
    }

pub loop-j-preserved : goal.loop-j-preserved
loop-j-preserved c =
    writing-turns c.loop-j.invariant past_join c.put_join-next.new.buffer c.put_join-next.result c.loop-j-test.true c.put_join-next.ensures.0
    c.put_join-next.ensures.1

pub returns : goal.returns
returns c =
    let a = c.args in
    ended a.buffer.now a.at a.joined a.list c.loop-j.buffer c.loop-j.next c.if-joined-eq0.false
    (omega (arith, whole (goal.at.returns c).Else-joined-eq0)) (writing-ends c.loop-j.invariant c.loop-j-test.false)
