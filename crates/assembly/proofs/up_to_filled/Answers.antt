-- the last filled place is found from the end
use Rattle.std.proofs.Common.{rules}
use mathlib.Core.Path.{◌≡◌, refl, sym, ap, ◌∙◌}
use mathlib.Core.Bool.{Bool, true, false, cond}
use mathlib.Core.List.{List, [], ◌∷◌}
use Prim.Native.Nat.{ℕ, zero, suc, ◌+◌, ◌<◌, ◌≤◌}
use native.Mathlib.Numerals.{add-one}
use native.Mathlib.Omega.{arith}
use lib.ListN.{length, get_or}
use Rattle.query.specs.declared.Place.{Place}
use Rattle.query.proofs.Shape.{past_place}
use Rattle.format.specs.File.{one_more_if_any, up_to_filled}
use Rattle.assembly.proofs.up_to_filled.Goals as goal

none-filled : (ps : List Place) → ((k : ℕ) → k < length ps → (get_or ps k past_place).filled ≡ false) → up_to_filled ps ≡ 0
unfolding up_to_filled
none-filled [] vacant = refl
none-filled (p ∷ ps) vacant =
    let first : p.filled ≡ false = vacant 0 (omega arith) in
    let rest : up_to_filled ps ≡ 0 = none-filled ps (λ k h. vacant (suc k) (omega (arith, h))) in
    rw (first, rest)

last-filled : (ps : List Place) (i : ℕ) → i < length ps → (get_or ps i past_place).filled ≡ true
    → ((k : ℕ) → i + 1 ≤ k → k < length ps → (get_or ps k past_place).filled ≡ false) → up_to_filled ps ≡ i + 1
unfolding up_to_filled
last-filled [] i h t vacant = absurd (omega arith)
last-filled (p ∷ ps) zero h t vacant =
    let rest : up_to_filled ps ≡ 0 = none-filled ps (λ k l. vacant (suc k) (omega arith) (omega (arith, l))) in
    rw (t, rest)
last-filled (p ∷ ps) (suc i) h t vacant =
    let rest : up_to_filled ps ≡ i + 1 = last-filled ps i (omega (arith, h)) t (λ k m l. vacant (suc k) (omega (arith, m)) (omega (arith, l))) in
    ap (λ (n : ℕ). cond p.filled (suc n) (one_more_if_any n)) (rest ∙ add-one i) ∙ either p.filled i ∙ sym (add-one (suc i))
  where
    either : (b : Bool) (n : ℕ) → cond b (suc (suc n)) (one_more_if_any (suc n)) ≡ suc (suc n)
    either true n = refl
    either false n = refl

pub returns-in-Some : goal.returns-in-Some
returns-in-Some c =
    let places = c.args.places in
    let long : length places ≡ 8 = search rules in
    let inside : c.in-Some.last < length places = search rules in
    (sym (last-filled places c.in-Some.last inside (search rules) (search rules)), omega arith)

pub returns-in-None : goal.returns-in-None
returns-in-None c = (sym (none-filled c.args.places (search rules)), omega arith)
