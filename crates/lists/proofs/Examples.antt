-- The examples of `specs/Examples`, by computation. Assumes nothing.
use mathlib.Core.Path.{refl}
use Rattle.lists.specs.Tests.{every, same_lists}
use Rattle.lists.specs.Numbers.{numbers_where}
use Rattle.lists.specs.Over.{pad}
use Rattle.lists.specs.Examples.{TestExamples, ListExamples}

pub tests : TestExamples
unfolding every same_lists
tests = record { pass = refl; fail = refl }

pub lists : ListExamples
unfolding numbers_where pad
lists = record { numbers = refl; written = refl; padded = refl }
