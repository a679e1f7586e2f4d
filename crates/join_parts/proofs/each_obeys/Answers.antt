-- `each_obeys` goes through the parts. Assumes nothing.
use mathlib.Core.Path.{◌≡◌, refl, sym, ap, subst, ◌∙◌}
use mathlib.Core.Bool.{false, false≢true}
use mathlib.Core.Logic.{⊎_elim}
use mathlib.Core.List.{List}
use mathlib.Core.Option.{Option, none, some}
use Prim.Native.Nat.{ℕ, ◌-◌}
use native.Mathlib.Omega.{arith}
use lib.ListN.{length, take, drop, length-drop}
use lib.Seq.{take_all}
use Rattle.std.specs.Prelude.{Option as Maybe}
use Rattle.std.specs.Option.{is_some}
use Rattle.query.specs.View.{join_of}
use Rattle.join_testing.specs.Unmet.{first_choice}
use Rattle.lists.proofs.Tests.{below-or-past}
use Rattle.join_testing.specs.internal.Search.{rows_chosen}
use Rattle.join_parts.specs.internal.Parts.{PartObeys}
use Rattle.codes.specs.internal.Codes.{codes_in}
use Rattle.words.specs.Words.{database_read}
use Rattle.join_parts.proofs.each_obeys.Goals as goal

-- No rows are chosen only where there is no choice
no_rows : (o : Option (List ℕ)) (r : Maybe (List ℕ)) → r ≡ rows_chosen o → is_some r ≡ false → o ≡ none
no_rows none r e f = refl
no_rows (some ps) r e f = absurd (false≢true (sym f ∙ ap is_some e))

pub loop-b-preserved : goal.loop-b-preserved
loop-b-preserved c =
    let a = c.args in
    let l = c.loop-b in
    let part : List ℕ = drop c.gather-start.result c.gather-start.new.buffer in
    let whole : take (length c.gather-start.new.buffer - c.gather-start.result) part ≡ part =
    take_all (length c.gather-start.new.buffer - c.gather-start.result) part (omega (arith, length-drop c.gather-start.result c.gather-start.new.buffer)) in (
      λ d h. ⊎_elim (λ less. l.invariant.0 d less)
          (λ past.
          let e : l.b ≡ d = omega arith in
          subst (PartObeys (codes_in a.codes.now) a.schema.now a.words.now a.j a.x) e (
            part,
            c.gather-start.ensures.part (codes_in a.codes.now) c.requires.chained,
            no_rows (first_choice a.schema.now (join_of a.j) (database_read (codes_in a.codes.now) a.schema.now part)) c.first_choice.result
                (c.first_choice.ensures ∙ ap (λ (w : List ℕ). rows_chosen
                (first_choice a.schema.now (join_of a.j) (database_read (codes_in a.codes.now) a.schema.now w))) whole)
                (sym c.is_some.ensures ∙ c.if-is_some.false),
          ))
          (below-or-past d l.b),
      c.gather-start.ensures.result_bound.1 ∙ l.invariant.1,
    )
