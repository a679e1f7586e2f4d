-- The examples of `specs/Examples`, by computation. Assumes nothing.
use mathlib.Core.Path.{refl}
use mathlib.Core.List.{flatten}
use Rattle.theory.specs.Query.{row_entries, variables_of, member}
use Rattle.theory.specs.Query.{subset}
use Rattle.lists.specs.Tests.{every}
use Rattle.lists.specs.Over.{pad}
use Rattle.lists.specs.Numbers.{numbers_where}
use Rattle.query.specs.View.{rows_of, columns_from, mask_of}
use Rattle.query.specs.Rule.{blank_query, good_relations, good_set, good_join_set, good_dependency, good_dependencies, good_join, good_joins, good_rows, good_up_to, head_safe}
use Rattle.query.specs.Rule.{pair_fits, all_fit, good_codes}
use Rattle.query.specs.Examples.{renumbered_from, cells_of, Views, RuleExamples}

pub views : Views
unfolding rows_of columns_from mask_of cells_of pad
views =
    record {
      entries = refl;
      query = refl;
      tableaux = refl;
      columns = refl;
      mask = refl;
      dependency = refl;
      held = refl;
      held-zeros = refl;
      join = refl;
      held-joins = refl;
      code-pair = refl;
      held-pairs = refl;
      images = refl;
      images-past = refl;
    }

pub rule : RuleExamples
unfolding every row_entries variables_of member subset rows_of cells_of pad blank_query good_relations good_set good_join_set good_dependency good_dependencies
    pair_fits all_fit good_codes renumbered_from good_join good_joins columns_from numbers_where flatten good_rows good_up_to head_safe
rule = record { pass = refl; fail = refl }
