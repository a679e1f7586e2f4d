-- A record whose file and query parts are as long as any. That the lengths are right is proved in `proofs/Longest`, by computation.
use Rattle.std.specs.Prelude.{◌≡◌, true, List, [], ◌∷◌, ℕ, zero, suc, ◌+◌, length, replicate}
use Rattle.query.specs.declared.Entry.TheVariants.{Variable}
use Rattle.query.specs.declared.Cell.{Cell}
use Rattle.query.specs.Types.{Query}
use Rattle.query.specs.declared.CodePair.{CodePair}
use Rattle.record.specs.declared.Record.{Record}
use Rattle.record.specs.View.{schema_of}
use Rattle.query.specs.Rule.{place_with}
use Rattle.record.specs.Rule.{good_record}
use Rattle.format.specs.Parts.{query}
use Rattle.format.specs.File.{shaped, file_of}

-- An entry of five bytes
abbrev pub some_cell : Cell
some_cell = record { entry = Variable 0 }

-- 8 head entries, and 12 rows of 8 columns
abbrev pub longest_query : Query
longest_query =
    record { arity = 8; size = 12; head = replicate 8 some_cell; relations = replicate 12 0; cells = replicate 96 some_cell }

-- n pairs of codes: i and 100 + i for each i from a start on
unfoldable pub pairs_from : ℕ → ℕ → List CodePair
pairs_from zero i = []
pairs_from (suc n) i = record { old = i; current = 100 + i } ∷ pairs_from n (suc i)

-- 8 relations of 8 columns, 16 pairs of codes, 32 functional dependencies, 4 join dependencies of 4 sets, and 8 places filled with such a query
abbrev pub longest_record : Record
longest_record =
    record {
      relations = 8;
      widths = replicate 8 8;
      coded = 16;
      codes = pairs_from 16 0;
      held = 32;
      dependencies = replicate 32 (record { relation = 0; left = 1; right = 1 });
      joined = 4;
      joins = replicate 4 (record { relation = 0; count = 4; sets = replicate 4 255 });
      places = replicate 8 (place_with longest_query);
    }

-- It keeps the record's rule, and its arrays are as long as its types say
abbrev pub LongestGood : Type 0
LongestGood = (good_record longest_record ≡ true) × (shaped longest_record ≡ true)

-- Its query parts have 534 bytes, which no query part exceeds (`format/specs/Meaning`)
abbrev pub LongestPart : Type 0
LongestPart = length ((query (schema_of longest_record)).put longest_query) ≡ 534

-- Its file has 4,574 bytes, which no file exceeds (`WrittenShort`)
abbrev pub LongestFile : Type 0
LongestFile = length (file_of longest_record) ≡ 4574
