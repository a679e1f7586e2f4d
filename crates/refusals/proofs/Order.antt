-- What it is that numbers stand in an order. Assumes nothing.
use mathlib.Core.Path.{refl}
use Rattle.refusals.specs.Refusals.{follows}
use Rattle.refusals.specs.Order.{NothingFollows, RecordFirst, OrderByNumber}

pub nothing-follows : NothingFollows
unfolding follows
nothing-follows n ns = refl

pub record-first : RecordFirst
unfolding follows
record-first = (refl, refl)

pub order-by-number : OrderByNumber
order-by-number = refl
