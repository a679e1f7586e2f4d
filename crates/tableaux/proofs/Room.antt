-- Some elements over blank ones. Assumes nothing.
use Rattle.std.proofs.Common.{◌≡◌, ℕ, ◌-◌, List, ◌++◌, length, take, drop, replicate, ◌∙◌, ap, ap₂}
use Rattle.std.proofs.lemmas.List.{drop-replicate, length-replicate}

-- As many of them as there is room for, blank after them
pub fitted : {A : Type 0} (xs out : List A) (b : A) (from to : ℕ) → length xs ≡ from → out ≡ replicate to b
    → take (length out) xs ++ drop (length xs) out ≡ take to xs ++ replicate (to - from) b
fitted xs out b from to long blank =
    ap₂ (λ n l. take n xs ++ l) (ap length blank ∙ length-replicate to b)
    (ap (drop (length xs)) blank ∙ drop-replicate (length xs) to b ∙ ap (λ n. replicate (to - n) b) long)
