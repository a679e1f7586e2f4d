-- What reading the query parts gives.
use Rattle.std.specs.Prelude.{List}
use Rattle.query.specs.declared.Place.{Place}
use Rattle.query.specs.Rule.{no_place}
use Rattle.lists.specs.Over.{pad}
use Rattle.refusals.specs.Refusals.{Reply, gives, refused}

-- The places that were read and vacant ones after them, 8 together
abbrev pub all_places : Reply (List Place) → Reply (List Place)
all_places (gives ps) = gives (pad 8 no_place ps)
all_places (refused n) = refused n
