-- Refusals have different numbers. Assumes nothing.
use Rattle.std.proofs.Common.{◌≡◌, refl, sym, ap, ◌∙◌, ℕ, cond, eqb}
use Rattle.refusals.specs.declared.Refusal.{Refusal}
use Rattle.refusals.specs.declared.Refusal.TheVariants as case
use Rattle.refusals.specs.Refusal.{number_of}

-- The refusal of a number; the last one of every number that is none
abbrev named : ℕ → Refusal
named n =
    cond (eqb n 1) case.BadDirectory
    (cond (eqb n 2) case.BadOffsets
    (cond (eqb n 3) case.BadRelations
    (cond (eqb n 4) case.BadDependency
    (cond (eqb n 5) case.BadQuery
    (cond (eqb n 6) case.UnsafeHead
    (cond (eqb n 7) case.NoSuchPlace
    (cond (eqb n 8) case.HeadsDiffer
    (cond (eqb n 9) case.BadDatabase
    (cond (eqb n 10) case.BufferTooShort
    (cond (eqb n 11) case.PlaceVacant
    (cond (eqb n 12) case.PlaceFilled
    (cond (eqb n 13) case.DependenciesFull
    (cond (eqb n 14) case.BadRecord
    (cond (eqb n 15) case.BadJoin
    (cond (eqb n 16) case.JoinsFull
    (cond (eqb n 17) case.TooManyRows
    (cond (eqb n 18) case.BadCode case.CodesFull)))))))))))))))))

named-number : (r : Refusal) → named (number_of r) ≡ r
named-number case.BadDirectory = refl
named-number case.BadOffsets = refl
named-number case.BadRelations = refl
named-number case.BadDependency = refl
named-number case.BadQuery = refl
named-number case.UnsafeHead = refl
named-number case.NoSuchPlace = refl
named-number case.HeadsDiffer = refl
named-number case.BadDatabase = refl
named-number case.BufferTooShort = refl
named-number case.PlaceVacant = refl
named-number case.PlaceFilled = refl
named-number case.DependenciesFull = refl
named-number case.BadRecord = refl
named-number case.BadJoin = refl
named-number case.JoinsFull = refl
named-number case.TooManyRows = refl
named-number case.BadCode = refl
named-number case.CodesFull = refl

-- Those of one number are one
pub number-same : (r s : Refusal) → number_of r ≡ number_of s → r ≡ s
number-same r s e = sym (named-number r) ∙ ap named e ∙ named-number s
