-- `parsing::read_join` meets its contract, by `Joins`: each answer follows the test of the bytes that decides it. Assumes nothing.
use mathlib.Core.Path.{◌≡◌}
use mathlib.Core.List.{List}
use Prim.Native.Nat.{ℕ, ◌+◌}
use lib.ListN.{get_or}
use Rattle.limits.specs.internal.Schema.{widths_in}
use Rattle.format.specs.Parts.{join_at}
use Rattle.parsing.proofs.Values.{to_end}
use Rattle.parsing.proofs.Joins.{join-two, join-cut, join-many, join-unfit, join-found}
use Rattle.parsing.proofs.read_join.Goals as goal

with-sets : (s sets : List ℕ) → sets ≡ (join_at s).sets → record { relation = get_or s 0 0; count = get_or s 1 0; sets = sets } ≡ join_at s
with-sets s sets e = λ i. record { relation = get_or s 0 0; count = get_or s 1 0; sets = e i }

pub returns-then-s-lt2 : goal.returns-then-s-lt2
returns-then-s-lt2 c = join-two (widths_in c.args.schema) c.args.s.now c.if-s-lt2.true

pub returns-then-n-gt4 : goal.returns-then-n-gt4
returns-then-n-gt4 c = join-many (widths_in c.args.schema) c.args.s.now c.if-n-gt4.true

pub returns-then-s-n : goal.returns-then-s-n
returns-then-s-n c = join-cut (widths_in c.args.schema) c.args.s.now c.if-s-n.true

pub returns-else-join_good : goal.returns-else-join_good
returns-else-join_good c =
    let s = c.args.s.now in
    join-unfit (widths_in c.args.schema) s (record { relation = get_or s 0 0; count = get_or s 1 0; sets = c.read_sets-sets.result })
    (with-sets s c.read_sets-sets.result c.read_sets-sets.ensures) c.join_good.result c.join_good.ensures c.if-join_good.false

pub returns-then-join_good : goal.returns-then-join_good
returns-then-join_good c =
    let s = c.args.s.now in
    join-found (widths_in c.args.schema) s (record { relation = get_or s 0 0; count = get_or s 1 0; sets = c.read_sets-sets.result })
    (with-sets s c.read_sets-sets.result c.read_sets-sets.ensures) c.join_good.result c.join_good.ensures c.if-s-n.false
    c.if-join_good.true _ (to_end (2 + get_or s 1 0) s)
