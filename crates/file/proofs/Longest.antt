-- The statements of `specs/Longest`, by computation. Assumes nothing.
use mathlib.Core.Path.{refl}
use mathlib.Core.List.{flat_map, flatten}
use Rattle.lists.specs.Tests.{every}
use Rattle.lists.specs.Numbers.{numbers_where}
use Rattle.theory.specs.Query.{row_entries, variables_of, member}
use Rattle.theory.specs.Query.{subset}
use Rattle.query.specs.View.{rows_of, columns_from}
use Rattle.query.specs.Rule.{good_relations, good_codes, all_fit, pair_fits, good_set, good_join_set, good_dependency, good_dependencies, good_join, good_joins, good_up_to, good_rows, head_safe}
use Rattle.record.specs.Rule.{good_record}
use Rattle.format.specs.Bytes.{bytes_of}
use Rattle.format.specs.Format.{byte, sequence, padded, such_that, via}
use Rattle.format.specs.Parts.{relations, code_pair, code_pairs, codes, dependency, dependencies, join, joins, put_entry, entry, entries, row, rows, chunk, query_for}
use Rattle.format.specs.File.{table_of, assemble, put_codes, put_joins, put_place, up_to_filled, parts_of, file_of}
use Rattle.file.specs.Longest.{pairs_from, LongestGood, LongestPart, LongestFile}

pub longest-good : LongestGood
unfolding good_record good_relations good_codes all_fit pair_fits pairs_from good_dependencies good_dependency good_set good_join_set good_joins good_join columns_from numbers_where flatten good_up_to good_rows head_safe every rows_of row_entries variables_of member subset
longest-good = (refl, refl)

pub longest-part : LongestPart
unfolding query_for via sequence byte padded flat_map entries entry put_entry row rows chunk bytes_of
longest-part = refl

pub longest-file : LongestFile
unfolding file_of parts_of assemble table_of flatten put_place up_to_filled relations put_codes codes such_that code_pairs code_pair pairs_from dependencies dependency put_joins joins join query_for via sequence byte padded flat_map entries entry
    put_entry row rows chunk bytes_of
longest-file = refl
