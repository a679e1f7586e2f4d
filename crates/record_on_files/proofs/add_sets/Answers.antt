-- `add_sets` refuses more than 4 sets, and else adds the join dependency. Assumes nothing.
-- The sets in room for 4
use mathlib.Core.Path.{◌≡◌, ap, ◌∙◌}
use mathlib.Core.List.{List}
use Prim.Native.Nat.{ℕ}
use lib.ListN.{length, take, drop}
use lib.Seq.{take-length}
use borrow.Author.Rules.{rules}
use Rattle.lists.specs.Over.{pad}
use Rattle.lists.proofs.Loops.{mapped-length}
use Rattle.query.specs.declared.JoinDependency.{JoinDependency}
use Rattle.record.specs.Calls.{add_join}
use Rattle.record_on_files.specs.Records.{join_with}
use Rattle.record_on_files.proofs.Kept.{refused-sound, join-sound, join-many}
use Rattle.record_on_files.proofs.add_sets.Goals as goal

with-sets : (relation : ℕ) (sets padded : List ℕ) → padded ≡ pad 4 0 (take (length sets) (drop 0 sets))
    → record { relation = relation; count = length sets; sets = padded } ≡ join_with relation sets
with-sets relation sets padded e =
    λ i. record { relation = relation; count = length sets; sets = (e ∙ ap (pad 4 0) (take-length sets)) i }

pub returns-then-count-gt4 : goal.returns-then-count-gt4
returns-then-count-gt4 c =
    let s = c in
    let r = s.args.given in (
      c.refused.ensures ∙ join-many r s.requires (join_with s.args.relation s.args.sets.now) c.if-count-gt4.true,
      refused-sound c.refused.result 15 r c.refused.ensures,
    )

pub returns : goal.returns
returns c =
    let s = c in
    let r = s.args.given in
    let four : length r.joins ≡ 4 = search (mapped-length, rules) in
    let j : JoinDependency = record { relation = s.args.relation; count = length s.args.sets.now; sets = c.read_sets-padded.result } in (
      c.add_join.ensures ∙ ap (add_join r) (with-sets s.args.relation s.args.sets.now c.read_sets-padded.result c.read_sets-padded.ensures),
      join-sound r s.requires j c.add_join.result four c.add_join.ensures,
    )
