-- A byte and then a byte each
use borrow.Author.Rules.{rules}
use Rattle.std.proofs.Common.{◌≡◌, ℕ, ◌+◌, ◌-◌, ◌≤◌, length, take, refl, sym, ap, ◌∙◌, arith}
use mathlib.Core.List.{List, [], ◌∷◌, flat_map}
use lib.ListN.{set}
use lib.Seq.{length-take-le}
use Rattle.lists.specs.Over.{over}
use Rattle.format.specs.Format.{byte, sequence, padded}
use Rattle.format.specs.Parts.{relations}
use Rattle.query.proofs.Relations.{relations-bounds}
use Rattle.encoder.proofs.Stores.{put-over, byte-and-run}
use Rattle.assembly.proofs.put_relations.Goals as goal

ones : (xs : List ℕ) → flat_map (λ (b : ℕ). b ∷ []) xs ≡ xs
unfolding flat_map
ones [] = refl
ones (x ∷ xs) = ap (λ (l : List ℕ). x ∷ l) (ones xs)

pub returns : goal.returns
unfolding relations sequence byte padded
returns c =
    let buffer = c.args.buffer.now in
    let at = c.args.at in
    let n = c.args.schema.relations in
    let used = take n c.args.schema.widths in
    let begun = set buffer at n in
    let eight : length c.args.schema.widths ≡ 8 = search rules in
    let few : n ≤ 8 = (relations-bounds n c.args.schema.widths c.args.schema.good).1 in
    let long : length used ≡ n = length-take-le n c.args.schema.widths (omega arith) in
    let room : at + 1 + n ≤ length buffer = c.requires in
    let size : n ≡ at + 1 + n - (at + 1) = omega arith in
    let written : c.copy_from_slice.new.self ≡ used = c.copy_from_slice.ensures.after in
    byte-and-run buffer at n (flat_map (λ (b : ℕ). b ∷ []) used) _ (omega arith)
    (put-over begun c.copy_from_slice.new.self (at + 1) (at + 1 + n) (omega arith) (ap length written ∙ long ∙ size)
    ∙ ap (over begun (at + 1)) (written ∙ sym (ones used)))

pub shared_ref_as_front-copy_from_slice : goal.shared_ref_as_front-copy_from_slice
shared_ref_as_front-copy_from_slice c =
    let eight : length c.args.schema.widths ≡ 8 = search rules in
    omega (arith, (relations-bounds c.args.schema.relations c.args.schema.widths c.args.schema.good).1)
