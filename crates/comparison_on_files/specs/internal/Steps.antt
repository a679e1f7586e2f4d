-- What the functions behind the calls ask and answer. No promise of a call cites this.
use Rattle.std.specs.Prelude.{Result, Ok, ◌≡◌, true, cond, ◌&&◌, List, ℕ, leb, length}
use Rattle.refusals.specs.Refusals.{buffer_too_short, gives, refused, Reply}
use Rattle.query.specs.Rule.{good_tableau}
use Rattle.query.specs.Types.{Tableau}
use Rattle.comparison.specs.declared.Verdict.{Verdict}
use Rattle.comparison.specs.declared.Verdict.TheVariants.{Apart}
use Rattle.refusals.specs.declared.Refusal.{Refusal}

-- A comparison's query, if it tells one, is good
abbrev pub SoundComparison : List ℕ → Result Verdict Refusal → Type 0
SoundComparison schema c = (query : Tableau) → c ≡ Ok (Apart query) → good_tableau schema query ≡ true

-- A verdict that is not refused, for buffers with so much room
abbrev pub verdict_fits : ℕ → ℕ → ℕ × List ℕ → Reply (ℕ × List ℕ)
verdict_fits words room found = cond (leb 192 words && leb (length found.1) room) (gives found) (refused buffer_too_short)
