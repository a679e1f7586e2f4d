-- The examples at the limit hold, by computation. Assumes nothing.
use mathlib.Core.Path.{◌≡◌, refl}
use mathlib.Core.Bool.{true}
use mathlib.Core.Option.{bind, or_else}
use Rattle.lists.specs.Tests.{every, same_lists}
use Rattle.lists.specs.Numbers.{numbers_where}
use Rattle.lists.proofs.Tests.{every-member}
use Rattle.theory.specs.Query.{same_entry, variables_of, row_entries, member, distinct}
use Rattle.theory.specs.Chase.{first_passing, first_pair, first_found, agree, breaks, first_broken, step, chase_on, chase_for, chase}
use Rattle.minimization.specs.Checking.{same_row, stands_in, nonempty}
use Rattle.minimization.specs.Examples.{same_query, fits_columns, fits_schema, over_schema}
use Rattle.joins.specs.Join.{in_some, join_fits}
use Rattle.joins.specs.JoinChase.{before, picks, chosen_entry, yields, fits_choice, consistent, missing, first_missing, first_unmet, next_row, keep_first}
use Rattle.joins.specs.JoinChase.{without_repeats, join_on, settle, join_chase_for, join_chase}
use Rattle.joins.specs.Examples.{same_outcome, has_rows, over_both, holds}
use Rattle.joins.proofs.Examples.{holds-meaning}
use Rattle.join_rule.specs.Limit.{at_limit, LimitMeans}

-- Both hold
limit-holds : every holds at_limit ≡ true
unfolding same_entry variables_of row_entries member distinct or_else bind first_passing first_pair first_found agree breaks first_broken
    step chase_on chase_for chase same_lists same_row stands_in nonempty same_query every fits_columns fits_schema over_schema numbers_where in_some join_fits
    before picks chosen_entry yields fits_choice consistent missing first_missing first_unmet next_row keep_first without_repeats join_on settle
    join_chase_for join_chase same_outcome has_rows over_both holds
limit-holds = refl

pub limit-means : LimitMeans
limit-means x at = holds-meaning x (every-member holds at_limit limit-holds at)
