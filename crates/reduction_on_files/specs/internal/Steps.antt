-- What the functions behind the calls ask and answer. No promise of a call cites this.
use Rattle.std.specs.Prelude.{◌≡◌, true}
use Rattle.std.specs.Prelude.{Ok}
use Rattle.record.specs.Rule.{good_record}
use Rattle.reduction.specs.declared.Reduced.{Reduced}

-- A reduction's record, if it is done, is good
abbrev pub SoundReduction : Reduced → Type 0
SoundReduction o = o.answer ≡ Ok tt → good_record o.«record» ≡ true
