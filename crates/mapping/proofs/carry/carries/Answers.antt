-- `carries` tells whether 8 entries are carried.
-- Assumes nothing.
use Rattle.std.proofs.Common.{rules, tests, ◌≡◌, arith}
use Rattle.std.proofs.lemmas.Iterator.{YieldsList-from_slice, YieldsList-from_zip, cases_from_all}
use Rattle.theory.specs.Query.{constant}
use Rattle.theory.specs.Answer.{value_of}
use Rattle.query.specs.declared.Cell.{Cell}
use Rattle.query.specs.View.{entry_of, images_of}
use Rattle.query.specs.Rule.{no_cell}
use Rattle.candidates.proofs.Chained.{part, all-parts}
use Rattle.mapping.proofs.Images.{entries-apart}
use Rattle.mapping.proofs.carry.carries.Goals as goal

pub returns : goal.returns
returns c =
    let a = c.args in
    let P : Cell × Cell → Type 0 = λ p. value_of constant (images_of a.images.now) (entry_of p.0.entry) ≡ entry_of p.1.entry in
    all-parts P a.row a.image 8 a.source.now a.target.now no_cell no_cell c.all.result (omega arith) (omega arith)
    (cases_from_all c.all.new.self _ _ P (λ p. P p → ⊥) c.all.ensures.ran
    (YieldsList-from_zip (YieldsList-from_slice (part a.row 8 a.source.now) cc) (YieldsList-from_slice (part a.image 8 a.target.now) cc))
    (λ x q k. search (rules, tests)) (λ x q k. search (rules, tests, entries-apart)))
