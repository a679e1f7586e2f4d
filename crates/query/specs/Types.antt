-- The two sizes of a query, which specs/ and proofs name as the code does.
use Rattle.query.specs.declared.ConjunctiveQuery.{ConjunctiveQuery}

-- A stored query has room for 12 rows
abbrev pub Query : Type 0
Query = ConjunctiveQuery 12 96

-- A tableau has room for 24
abbrev pub Tableau : Type 0
Tableau = ConjunctiveQuery 24 192
