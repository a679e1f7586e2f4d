-- What the functions behind the calls ask. No promise of a call cites this.
use Rattle.std.specs.Prelude.{◌≡◌, true}
use Rattle.std.specs.Prelude.{Ok}
use Rattle.record.specs.declared.Outcome.{Outcome}
use Rattle.record.specs.Rule.{good_record}

-- A call's record, if it is done, is good
abbrev pub GoodIfDone : Outcome → Type 0
GoodIfDone o = o.answer ≡ Ok tt → good_record o.«record» ≡ true
