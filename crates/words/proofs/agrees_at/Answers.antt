-- `agrees_at` answers whether two rows agree on the left columns. Assumes nothing.
use Rattle.std.proofs.Common.{refl, sym, rules, tests, ap, ◌∙◌}
use Rattle.std.proofs.lemmas.Iterator.{YieldsList-from_range}
use Rattle.std.proofs.lemmas.Iterator.Search.{all_from_yields_List}
use mathlib.Core.Bool.{not, ◌||◌}
use Prim.Native.Nat.{◌+◌, ◌/◌, ◌%◌, ◌^◌}
use native.Mathlib.Nat.{div-one, sub-zero}
use lib.Dec.{eqb}
use lib.ListN.{get_or}
use Rattle.theory.specs.Codes.{read_code}
use Rattle.codes.specs.internal.Codes.{codes_in}
use Rattle.words.proofs.Columns.{agree_from, agree_all, agree-start}
use Rattle.words.proofs.agrees_at.Goals as goal

pub returns : goal.returns
returns c =
    let a = c.args in
    let C = codes_in a.codes.now in
    let rooms = c.requires.width_in_bounds in
    all_from_yields_List (λ k. not (eqb (a.d.left / 2 ^ k % 2) 1) || eqb (read_code C (get_or a.words.now (a.a + 1 + k) 0))
    (read_code C (get_or a.words.now (a.b + 1 + k) 0))) _ _ _
    c.all.ensures.ran (YieldsList-from_range 0 a.width a.width refl (sub-zero a.width)) (λ x b q k. search (rules, tests))
    ∙ agree_all C a.width a.words.now a.a a.b rooms.0 rooms.1 a.d.left 0 a.width (sym (sub-zero a.width))
    ∙ ap (agree_from C a.width a.words.now a.a a.b rooms.0 rooms.1 0) (div-one a.d.left)
    ∙ sym (agree-start C a.width a.words.now a.a a.b rooms.0 rooms.1 a.d.left c.requires.width_bound.0 c.requires.width_bound.1)
