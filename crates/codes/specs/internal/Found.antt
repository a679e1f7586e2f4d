-- Where pairs are looked for.
use Rattle.std.specs.Prelude.{Bool, true, ◌&&◌, List, [], ◌∷◌, ℕ, suc, ◌%◌, leb, get_or}
use Rattle.query.specs.declared.CodePair.{CodePair}

-- Whether no pair, the first of which is at position i, stands before the position that its old code leads to
unfoldable pub led : List ℕ → ℕ → List CodePair → Bool
led firsts i [] = true
led firsts i (p ∷ ps) = leb (get_or firsts (p.old % 256) 0) i && led firsts (suc i) ps
