-- `read_image` judges the tag, then the number. Assumes nothing.
use Rattle.std.proofs.Common.{◌≡◌, sym, ◌∙◌, ap, ℕ, ◌<◌, ◌≤◌}
use Rattle.std.specs.Prelude.{None, Some, Result, Ok, Err}
use Rattle.std.specs.Result.{OkIff, result_ok}
use Rattle.query.specs.declared.Entry.TheVariants.{Variable}
use native.Mathlib.Omega.{arith}
use Rattle.mapping_words.proofs.Mappings.{image-constant, image-tag, image-high, image-variable}
use Rattle.mapping_words.proofs.read_image.Goals as goal

pub returns-in-0 : goal.returns-in-0
returns-in-0 c = image-constant c.args.words.now c.args.at c.requires c.in-0.is

-- What `try_from` answers, as an option
small : {E : Type 0} (r : Result ℕ E) (n v : ℕ) → OkIff r (n < 256) n → result_ok r ≡ Some v → (n ≤ 255) × (v ≡ n)
small (Ok m) n v h e = let p : m ≡ v = cc in (omega arith, omega arith)
small (Err x) n v h e = absurd (cc)

large : {E : Type 0} (r : Result ℕ E) (n : ℕ) → OkIff r (n < 256) n → result_ok r ≡ None → 255 < n
large (Ok m) n h e = absurd (cc)
large (Err x) n h e = omega arith

pub returns-in_err-ok-in-1 : goal.returns-in_err-ok-in-1
returns-in_err-ok-in-1 c =
    c.from_residual.ensures
    ∙ image-high c.args.words.now c.args.at c.requires (λ e. absurd (omega arith)) c.in-1.is
    (large c.try_from.result _ c.try_from.ensures (sym c.ok.ensures.value ∙ c.in_err-ok-in-1.was))

pub returns-in_ok-ok-in-1 : goal.returns-in_ok-ok-in-1
returns-in_ok-ok-in-1 c =
    let n = small c.try_from.result _ _ c.try_from.ensures (sym c.ok.ensures.value ∙ c.in_ok-ok-in-1.was) in
    ap (λ v. Some (Variable v)) n.1
    ∙ image-variable c.args.words.now c.args.at c.requires (λ e. absurd (omega arith)) c.in-1.is n.0

pub returns-in_default : goal.returns-in_default
returns-in_default c = image-tag c.args.words.now c.args.at c.requires (λ e. absurd (omega arith)) (λ e. absurd (omega arith))
