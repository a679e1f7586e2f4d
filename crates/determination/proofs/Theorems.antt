-- A proof of each statement of `DeterminedTheorems`. Assumes nothing.
use lib.ListN.{get_or}
use Rattle.determination.specs.Determined.{determined}
use Rattle.determination.specs.DeterminedTheorems as columns
use Rattle.determination.proofs.Determined.{determined-exact, determined-ascending, ascending-unique}

-- ---- determined columns

pub determined-exactly : columns.DeterminedExactly
determined-exactly widths ds relation left fits held c = determined-exact widths ds fits relation held left c

pub determined-is-ascending : columns.DeterminedAscending
determined-is-ascending = determined-ascending

pub determined-unique : columns.DeterminedUnique
determined-unique widths ds relation left fits held cs up exact =
    let same = determined-exactly widths ds relation left fits held in
    ascending-unique cs (determined ds relation (get_or widths relation 0) left) up (determined-ascending ds relation (get_or widths relation 0) left)
    (λ c at. (same c).1 ((exact c).0 at)) (λ c at. (exact c).1 ((same c).0 at))

pub determined-by-none : columns.DeterminedByNone
determined-by-none widths ds relation c = (
  λ determines D legal r s at at' is is'. determines D legal r s at at' is is' (λ k there. elim there [ ]),
  λ same D legal r s at at' is is' agree. same D legal r s at at' is is',
)
