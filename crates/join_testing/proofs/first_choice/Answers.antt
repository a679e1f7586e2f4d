-- `first_choice` turns the places of the choice that is found into positions. Assumes nothing.
use mathlib.Core.Path.{◌≡◌, refl, sym, ap, ◌∙◌}
use mathlib.Core.List.{List, [], ◌∷◌}
use Prim.Native.Nat.{ℕ, ◌+◌, ◌≤◌}
use native.Mathlib.Omega.{arith}
use lib.ListN.{get_or, replicate}
use Rattle.std.specs.Prelude.{Some}
use Rattle.join_lookup.specs.internal.Starts.{start_of, row_count}
use Rattle.join_tables.specs.internal.Indexed.{filled_to}
use Rattle.join_testing.specs.internal.Search.{FirstFrom, plainly, rows_chosen}
use Rattle.join_lookup.proofs.Starting.{start-one}
use Rattle.join_testing.proofs.Arranging.{some-sets, plain-indexed}
use Rattle.join_testing.proofs.Finding.{searched-none, searched-some, first-inside}
use Rattle.join_testing.proofs.first_choice.Goals as goal
use Rattle.codes.specs.internal.Codes.{codes_in}
use Rattle.join_testing.proofs.first_choice.Goals.{In_ok-at}

abbrev at : In_ok-at → List ℕ
at c = c.in_ok-at.at

-- The choice that is found
first : (c : In_ok-at) → FirstFrom (codes_in c.args.codes.now) c.args.schema.now c.args.words.now c.args.j (plainly c.args.schema.now c.args.j) 0
    (replicate 8 0) (at c)
first c = let s = c.in_ok-at.ensures in s.1

-- Word n of it is where a row begins
placed : (c : In_ok-at) (n : ℕ) → get_or (at c) n 0 ≡ start_of c.args.schema.now c.args.words.now (get_or (first c).positions n 0)
placed c n = let e : 0 + n ≡ n = omega arith in ap (λ (m : ℕ). get_or (at c) m 0) (sym e) ∙ (first c).places n

begins : (c : In_ok-at) (n : ℕ) → (p : ℕ) × (get_or (at c) n 0 ≡ start_of c.args.schema.now c.args.words.now p)
    × (p ≤ row_count c.args.schema.now c.args.words.now)
begins c n = (
  get_or (first c).positions n 0,
  placed c n,
  first-inside c.requires (plain-indexed c.args.j c.requires) (replicate 8 0) (at c) (first c) n,
)

-- and its position is known
known : (c : In_ok-at) (n r : ℕ) → get_or (at c) n 0 ≡ start_of c.args.schema.now c.args.words.now r → r ≡ get_or (first c).positions n 0
known c n r e = start-one c.args.schema.now c.args.words.now r (get_or (first c).positions n 0) (sym e ∙ placed c n)

pub choose-requires : goal.choose-requires
unfolding filled_to
choose-requires c = (c.requires, some-sets c.requires, refl)

pub returns-in_err-at : goal.returns-in_err-at
returns-in_err-at c =
    c.from_residual.ensures ∙ sym (ap rows_chosen (searched-none c.requires (plain-indexed c.args.j c.requires) (replicate 8 0) c.in_err-at.ensures))

pub position_of-a-requires-clause-by_index : goal.position_of-a-requires-clause-by_index
position_of-a-requires-clause-by_index c = begins c 0

pub position_of-b-requires-clause-by_index : goal.position_of-b-requires-clause-by_index
position_of-b-requires-clause-by_index c = begins (goal.at.position_of-b-requires-clause-by_index c).In_ok-at 1

pub position_of-c-requires-clause-by_index : goal.position_of-c-requires-clause-by_index
position_of-c-requires-clause-by_index c = begins (goal.at.position_of-c-requires-clause-by_index c).In_ok-at 2

pub position_of-d-requires-clause-by_index : goal.position_of-d-requires-clause-by_index
position_of-d-requires-clause-by_index c = begins (goal.at.position_of-d-requires-clause-by_index c).In_ok-at 3

pub returns : goal.returns
returns c =
    let e = (goal.at.returns c).In_ok-at in
    let p = known e 0 c.position_of-a.result c.position_of-a.ensures in
    let q = known e 1 c.position_of-b.result c.position_of-b.ensures in
    let r = known e 2 c.position_of-c.result c.position_of-c.ensures in
    let t = known e 3 c.position_of-d.result c.position_of-d.ensures in
    (λ i. Some (p i ∷ q i ∷ r i ∷ t i ∷ []))
    ∙ sym (ap rows_chosen (searched-some c.requires (plain-indexed c.args.j c.requires) (replicate 8 0) c.in_ok-at.at (first e)))
