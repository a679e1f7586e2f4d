-- `limits::sets_cover` meets its contract: the union of the sets has a bit for each column; neither the sum nor the shift wraps, since no relation has
-- more than 8 columns. Assumes nothing.
use mathlib.Core.Path.{◌≡◌, ap, ◌∙◌}
use Prim.Native.Nat.{ℕ, ◌+◌, ◌*◌, ◌^◌, ◌%◌, ◌<◌, ◌≤◌}
use native.Mathlib.Nat.{lt_of_le_of_lt, lt_of_lt_of_le}
use lib.Dec.{lit<, eqb}
use lib.ListN.{length}
use lib.Pow.{pow_mono}
use borrow.Author.Rules.{rules}
use Rattle.lists.proofs.Tests.{shifted_one}
use Rattle.limits.proofs.Sets.{union_of, covers-all}
use Rattle.limits.proofs.sets_cover.Goals as goal

small : (width m : ℕ) → width ≤ 8 → m < 2 ^ width → m < 256
small width m narrow h = lt_of_lt_of_le h (pow_mono narrow)

pub returns : goal.returns
returns c =
    let long : length c.args.sets ≡ 4 = search rules in
    ap (λ (n : ℕ). eqb (n + 1) (1 * 2 ^ c.args.width % 65536)) c.from.ensures
    ∙ ap (eqb (union_of c.args.sets + 1)) (shifted_one 16 c.args.width (lt_of_le_of_lt c.requires.0 (lit< tt)))
    ∙ covers-all c.args.width c.requires.0 c.args.sets long c.requires.1
