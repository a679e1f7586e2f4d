use borrow.Author.Tests.{eqb-true}
use mathlib.Core.Path.{◌≡◌, sym, ap, refl, ◌∙◌}
use mathlib.Core.Bool.{Bool, true, false, cond}
use mathlib.Core.List.{List, [], ◌∷◌}
use Prim.Native.Nat.{ℕ, ◌≤◌}
use native.Mathlib.Omega.{arith}
use lib.Dec.{eqb}
use lib.ListN.{length}
use Rattle.refusals.specs.Refusals.{◌>>=◌, bad_query, gives, refused, unsafe_head}
use Rattle.query.specs.Types.{Query}
use Rattle.query.specs.Rule.{head_safe, no_place, place_with}
use Rattle.query.proofs.Good as stored
use Rattle.format.specs.Bytes.{Bytes}
use Rattle.format.specs.Format.{none, got}
use Rattle.format.specs.Parts.{query}
use Rattle.format.specs.File.{complete, is_vacant, safe_query, read_place}
use Rattle.format.proofs.Bytes.{bytes-known}
use Rattle.format.proofs.Parts.{Narrow, query-lawful}
use Rattle.format.proofs.Rules.{good-query, good-narrow}
use Rattle.limits.specs.internal.Schema.{widths_in}
use Rattle.parsing.specs.internal.Read.{reading_of}
use Rattle.std.specs.Prelude.{Option as Maybe, None, Some, Ok, Err, ok_or}
use Rattle.std.proofs.lemmas.Result.{err_from_is_err_and}
use Rattle.refusals.specs.declared.Refusal.{Refusal}
use Rattle.decoder.proofs.read_place.Goals as goal

-- ---- what an answer in place of none tells

found : {T : Type 0} (o : Maybe T) (e : Refusal) (x : T) → ok_or o e ≡ Ok x → o ≡ Some x
found None e x h = cc
found (Some y) e x h = let same : y ≡ x = cc in ap (λ z. Some z) same

missing : {T : Type 0} (o : Maybe T) (e w : Refusal) → ok_or o e ≡ Err w → (o ≡ None) × (w ≡ e)
missing None e w h = (refl, cc)
missing (Some y) e w h = cc

-- ---- a query and the bytes after it

complete-long : (q : Query) (rest : List ℕ) → eqb (length rest) 0 ≡ false → complete bad_query (got q rest) ≡ refused bad_query
unfolding complete
complete-long q [] w = let z : ◌≡◌ {A = ℕ} 0 1 = cc in absurd (omega arith)
complete-long q (b ∷ rest) w = refl

complete-whole : (q : Query) (rest : List ℕ) → eqb (length rest) 0 ≡ true → complete bad_query (got q rest) ≡ gives q
unfolding complete
complete-whole q [] w = refl
complete-whole q (b ∷ rest) w = let l : length (b ∷ rest) ≡ 0 = eqb-true (length (b ∷ rest)) 0 w in absurd (omega arith)

-- ---- the place by tests
module _ (schema part : List ℕ) (last : Bool) where
  vacant-last : is_vacant part ≡ true → last ≡ true → read_place schema last part ≡ refused bad_query
  unfolding read_place
  vacant-last v l = rw (v, l)

  vacant-place : is_vacant part ≡ true → last ≡ false → read_place schema last part ≡ gives no_place
  unfolding read_place
  vacant-place v l = rw (v, l)

  module _ (v : is_vacant part ≡ false) where
    bad-query : (query schema).get part ≡ none → read_place schema last part ≡ refused bad_query
    unfolding read_place ◌>>=◌ complete
    bad-query e = rw (v, e)

    module _ (q : Query) (rest : List ℕ) (e : (query schema).get part ≡ got q rest) where
      long-query : eqb (length rest) 0 ≡ false → read_place schema last part ≡ refused bad_query
      unfolding read_place ◌>>=◌
      long-query w = rw (v, e, complete-long q rest w)

      good-query-part : (t : Bool) → eqb (length rest) 0 ≡ true → head_safe schema q ≡ t
          → read_place schema last part ≡ cond t (gives (place_with q)) (refused unsafe_head)
      unfolding read_place ◌>>=◌ safe_query
      good-query-part t w h = rw (v, e, complete-whole q rest w, h)

-- a query that was read keeps the limits of its sizes
read-sizes : (schema part : List ℕ) (q : Query) (rest : List ℕ) → Narrow schema → Bytes part → (query schema).get part ≡ got q rest
    → (q.arity ≤ 8) × (q.size ≤ 12)
read-sizes schema part q rest narrow hb e =
    let (good, put) = (query-lawful 12 schema narrow).put-get part q rest hb e in
    let g = stored.good-query 12 schema q (good-query 12 schema q good).1 in
    (g.arity, g.size)

pub returns-then-last : goal.returns-then-last
returns-then-last c =
    sym ((vacant-last (widths_in c.args.schema) c.args.part.now c.args.last
    (sym c.is_vacant.ensures ∙ c.if-is_vacant.true) c.if-last.true))

pub returns-then-is_vacant : goal.returns-then-is_vacant
returns-then-is_vacant c =
    ap gives c.no_place.ensures
    ∙ sym ((vacant-place (widths_in c.args.schema) c.args.part.now c.args.last
    (sym c.is_vacant.ensures ∙ c.if-is_vacant.true) c.if-last.false))

pub returns-in_err-query : goal.returns-in_err-query
returns-in_err-query c =
    let v = sym c.is_vacant.ensures ∙ c.if-is_vacant.false in
    let left = err_from_is_err_and c.from_residual.result c.from_residual.ensures.1 in
    let none = missing _ _ _ (sym c.ok_or.ensures.value ∙ c.in_err-query.was) in
    rw (left.1, left.2, none.1)
    (sym (bad-query (widths_in c.args.schema) c.args.part.now c.args.last v (sym c.read_query.ensures ∙ ap reading_of none.0)))

pub head_safe-safe-requires : goal.head_safe-safe-requires
head_safe-safe-requires c =
    let part = c.args.part.now in
    let bytes = bytes-known part (λ i. (c.type_inv.part i).fits) in
    read-sizes (widths_in c.args.schema) part c.in_ok-query.query c.in_ok-query.rest.now (good-narrow c.args.schema.relations c.args.schema.widths c.args.schema.good) bytes
    (sym c.read_query.ensures ∙ ap reading_of (found _ _ _ (sym c.ok_or.ensures.value ∙ c.in_ok-query.was)))

pub returns-then-not-is_empty : goal.returns-then-not-is_empty
returns-then-not-is_empty c =
    let v = sym c.is_vacant.ensures ∙ c.if-is_vacant.false in
    sym (long-query (widths_in c.args.schema) c.args.part.now c.args.last v c.in_ok-query.query c.in_ok-query.rest.now
    (sym c.read_query.ensures ∙ ap reading_of (found _ _ _ (sym c.ok_or.ensures.value ∙ c.in_ok-query.was))) (sym c.is_empty.ensures ∙ c.if-not-is_empty.true))

pub returns-then-safe : goal.returns-then-safe
returns-then-safe c =
    let v = sym c.is_vacant.ensures ∙ c.if-is_vacant.false in
    sym (good-query-part (widths_in c.args.schema) c.args.part.now c.args.last v c.in_ok-query.query c.in_ok-query.rest.now
    (sym c.read_query.ensures ∙ ap reading_of (found _ _ _ (sym c.ok_or.ensures.value ∙ c.in_ok-query.was))) true (sym c.is_empty.ensures ∙ c.if-not-is_empty.false)
    (sym c.head_safe-safe.ensures ∙ c.if-safe.true))

pub returns : goal.returns
returns c =
    let v = sym c.is_vacant.ensures ∙ c.if-is_vacant.false in
    sym (good-query-part (widths_in c.args.schema) c.args.part.now c.args.last v c.in_ok-query.query c.in_ok-query.rest.now
    (sym c.read_query.ensures ∙ ap reading_of (found _ _ _ (sym c.ok_or.ensures.value ∙ c.in_ok-query.was))) false (sym c.is_empty.ensures ∙ c.if-not-is_empty.false)
    (sym c.head_safe-safe.ensures ∙ c.if-safe.false))
