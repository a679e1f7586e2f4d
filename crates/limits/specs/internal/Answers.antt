-- What a closure that tests elements answers.
use Rattle.std.specs.Prelude.{◌≡◌, Bool}
use denote.Ref.{Bor}
use Rattle.std.specs.Fn.{Shared, FnReturnsAt}

-- Of each element it answers what a test does
abbrev pub AnswersAs : {F T : Type 0} → Shared F (Bor T × Unit {0}) Bool → F → (T → Bool) → Type 0
AnswersAs g f test = (x : _) (answer : Bool) → FnReturnsAt g f x answer → answer ≡ test x
