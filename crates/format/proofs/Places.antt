-- Query parts: what is written of a place is read back, and what is read is a good place, written as the same bytes.
use mathlib.Core.Path.{◌≡◌, refl, sym, ap, ◌∙◌, subst}
use mathlib.Core.Bool.{Bool, true, false, cond, ◌&&◌}
use mathlib.Core.List.{List, [], ◌∷◌, ◌++◌, map, flatten}
use Prim.Native.Nat.{ℕ, zero, suc, ◌≤◌}
use native.Mathlib.Omega.{arith}
use lib.Dec.{eqb, lit≤}
use lib.ListN.{length, take, drop, replicate, length-map, take-append-drop}
use lib.Seq.{length-take-le}
use borrow.Author.Tests.{eqb-true}
use Rattle.query.specs.Types.{Query}
use Rattle.query.specs.declared.Place.{Place}
use Rattle.lists.specs.Tests.{every}
use Rattle.query.specs.Rule.{blank_query, good_query, head_safe, no_query, good_place, no_place, shaped_query, place_with}
use Rattle.refusals.specs.Refusals.{◌>>=◌, bad_query, gives, refused}
use Rattle.format.specs.Bytes.{Bytes}
use Rattle.lists.specs.Over.{pad}
use Rattle.format.specs.Format.{byte, sequence, via}
use Rattle.format.specs.Parts.{query_for, query}
use Rattle.format.specs.File.{complete, is_vacant, safe_query, read_place, none_left, read_places, put_place, one_more_if_any, up_to_filled}
use Rattle.lists.proofs.Tests.{and_left, and_right, and_both, and-iff}
use Rattle.lists.proofs.Over.{pad-is}
use Rattle.format.proofs.Bytes.{bytes-append}
use Rattle.query.proofs.Shape.{blank-query}
use Rattle.format.proofs.Parts.{Narrow, query-lawful}
use Rattle.format.proofs.Rules.{query-good, good-query}
use Rattle.format.proofs.Directory.{cond-ok}
use Rattle.refusals.proofs.Refusals.{refused-gives}
use Rattle.format.proofs.Results.{bind_ok, complete-put, complete-get}

-- ---- vacant places

-- The rule of a place, with its arrays' lengths
abbrev pub sound : List ℕ → Place → Bool
sound schema p = good_place schema p && shaped_query p.query

pub vacant-is : (schema : List ℕ) (p : Place) → sound schema p ≡ true → p.filled ≡ false → p ≡ no_place
vacant-is schema p h e =
    let k : (good_place schema p ≡ true) × (shaped_query p.query ≡ true) = (and-iff (good_place schema p) (shaped_query p.query)).0 h in
    let s : ((eqb (length p.query.head) 8 ≡ true) × (eqb (length p.query.relations) 12 ≡ true)) × (eqb (length p.query.cells) 96 ≡ true) =
    simp and-iff at k.1 in
    let q : p.query ≡ no_query =
    blank-query p.query (eqb-true _ 8 s.0.0) (eqb-true _ 12 s.0.1) (eqb-true _ 96 s.1) (rw e at k.0) in
    λ i. record { filled = e i; query = q i }

pub no-sound : (schema : List ℕ) → sound schema no_place ≡ true
unfolding blank_query every
no-sound schema = refl

-- ---- one place

-- a query's part has two bytes or more
pub query-part : (schema : List ℕ) (q : Query) → is_vacant ((query schema).put q) ≡ false
unfolding is_vacant query_for via sequence byte
query-part schema q = refl

pub read-filled : (schema : List ℕ) → Narrow schema → (last : Bool) (p : Place) → sound schema p ≡ true → p.filled ≡ true
    → read_place schema last (put_place schema p) ≡ gives p
unfolding read_place put_place safe_query ◌>>=◌
read-filled schema hn last p h e =
    let k : (good_place schema p ≡ true) × (shaped_query p.query ≡ true) = (and-iff (good_place schema p) (shaped_query p.query)).0 h in
    let g : (good_query schema p.query ≡ true) × (head_safe schema p.query ≡ true) =
    (and-iff (good_query schema p.query) (head_safe schema p.query)).0 (rw e at k.0) in
    let w : complete bad_query ((query schema).get ((query schema).put p.query)) ≡ gives p.query =
    complete-put bad_query (query schema) (query-lawful 12 schema hn) p.query (query-good 12 schema p.query k.1 g.0) in
    rw (e, query-part schema p.query, w) (rw g.1)

-- the byte of a vacant place
vacant-part : (part : List ℕ) → is_vacant part ≡ true → part ≡ 255 ∷ []
unfolding is_vacant
vacant-part [] h = let z : ◌≡◌ {A = ℕ} 0 1 = cc in absurd (omega arith)
vacant-part (b ∷ []) h = ap {B = List ℕ} (λ b. b ∷ []) (eqb-true b 255 h)
vacant-part (b ∷ c ∷ bytes) h = let z : ◌≡◌ {A = ℕ} 0 1 = cc in absurd (omega arith)

-- What holds of a place that was read from a part
abbrev Read : List ℕ → Bool → List ℕ → Place → Type 0
Read schema last part p = (sound schema p ≡ true) × (put_place schema p ≡ part) × (last ≡ true → p.filled ≡ true)

read-place : (schema : List ℕ) → Narrow schema → (last : Bool) (part : List ℕ) (p : Place) → Bytes part → read_place schema last part ≡ gives p
    → Read schema last part p
unfolding read_place safe_query put_place
read-place schema hn last part p hb e = vacancy (is_vacant part) refl e
  where
    vacant : (t : Bool) → last ≡ t → is_vacant part ≡ true → cond t (refused bad_query) (gives no_place) ≡ gives p → Read schema last part p
    vacant true el ev e = absurd (refused-gives e)
    vacant false el ev e =
        let same : no_place ≡ p = cc in
        subst (Read schema last part) same (no-sound schema, sym (vacant-part part ev), λ l. sym el ∙ l)

    filled : (complete bad_query ((query schema).get part) >>= safe_query schema) ≡ gives p → Read schema last part p
    filled e =
        let (q, w, s) = bind_ok (complete bad_query ((query schema).get part)) (safe_query schema) p e in
        let (safe, s₁) = cond-ok (head_safe schema q) (gives (place_with q)) 6 p s in
        let same : place_with q ≡ p = cc in
        let (good, put) = complete-get bad_query (query schema) (query-lawful 12 schema hn) part q hb w in
        let (shape, rule) = good-query 12 schema q good in
        subst (Read schema last part) same (and_both _ _ (and_both _ _ rule safe) shape, put, λ l. refl)

    vacancy : (t : Bool) → is_vacant part ≡ t
        → cond t (cond last (refused bad_query) (gives no_place)) (complete bad_query ((query schema).get part) >>= safe_query schema) ≡ gives p
        → Read schema last part p
    vacancy true ev e = vacant last refl ev e
    vacancy false ev e = filled e

-- ---- all places

-- What holds of the places that were read from some parts: good, written as the same parts, the last one filled
abbrev AllRead : List ℕ → List (List ℕ) → List Place → Type 0
AllRead schema parts places =
    (every (sound schema) places ≡ true) × (map (put_place schema) places ≡ parts) × ((k : ℕ) → up_to_filled (places ++ replicate k no_place) ≡ length places)

none_filled : (k : ℕ) → up_to_filled (replicate k no_place) ≡ 0
unfolding up_to_filled
none_filled zero = refl
none_filled (suc k) = ap one_more_if_any (none_filled k)

-- one place more in front of places of which the last is filled
one_more : (p : Place) (ps rest : List Place) (parts : List (List ℕ)) → (none_left parts ≡ true → p.filled ≡ true) → length ps ≡ length parts
    → up_to_filled rest ≡ length ps
    → up_to_filled (p ∷ rest) ≡ suc (length ps)
unfolding up_to_filled none_left
one_more p ps rest [] last l e = let f : p.filled ≡ true = last refl in rw (f, e)
one_more p ps rest (part ∷ parts) last l e = go p.filled
  where
    go : (t : Bool) → cond t (suc (up_to_filled rest)) (one_more_if_any (up_to_filled rest)) ≡ suc (length ps)
    go true = ap suc e
    go false = rw (e, l)

pub read-places : (schema : List ℕ) → Narrow schema → (parts : List (List ℕ)) (places : List Place) → Bytes (flatten parts)
    → read_places schema parts ≡ gives places
    → AllRead schema parts places
unfolding read_places every flatten
read-places schema hn [] places hb e =
    let same : [] ≡ places = cc in
    subst (AllRead schema []) same (refl, refl, none_filled)
read-places schema hn (part ∷ parts) places hb e =
    let (p, e₁, e₂) = bind_ok (read_place schema (none_left parts) part) (λ place. read_places schema parts >>= (λ places. gives (place ∷ places))) places e in
    let (ps, e₃, e₄) = bind_ok (read_places schema parts) (λ places. gives (p ∷ places)) places e₂ in
    let same : p ∷ ps ≡ places = cc in
    let (b₁, b₂) = bytes-append part (flatten parts) hb in
    let (good, put, last) = read-place schema hn (none_left parts) part p b₁ e₁ in
    let (goods, puts, up_to) = read-places schema hn parts ps b₂ e₃ in
    let l : length ps ≡ length parts = sym (length-map ps (put_place schema)) ∙ ap length puts in
    let all : map (put_place schema) (p ∷ ps) ≡ part ∷ parts = rw (put, puts) in
    subst (AllRead schema (part ∷ parts)) same (and_both _ _ good goods, all, λ k. one_more p ps (ps ++ replicate k no_place) parts last l (up_to k))

-- ---- reading back

-- how many places there are up to the last filled one
module _ (p : Place) (ps : List Place) where
  up_to-filled : p.filled ≡ true → up_to_filled (p ∷ ps) ≡ suc (up_to_filled ps)
  unfolding up_to_filled
  up_to-filled f = rw f

  up_to-none : p.filled ≡ false → up_to_filled ps ≡ 0 → up_to_filled (p ∷ ps) ≡ 0
  unfolding up_to_filled
  up_to-none f e = rw (f, e)

  up_to-some : (m : ℕ) → p.filled ≡ false → up_to_filled ps ≡ suc m → up_to_filled (p ∷ ps) ≡ suc (suc m)
  unfolding up_to_filled
  up_to-some m f e = rw (f, e)

some_left : (schema : List ℕ) (ps : List Place) (m : ℕ) → up_to_filled ps ≡ suc m → none_left (map (put_place schema) (take (suc m) ps)) ≡ false
unfolding up_to_filled none_left
some_left schema [] m e = absurd (omega arith)
some_left schema (p ∷ ps) m e = refl

read-cons : (schema : List ℕ) (p : Place) (ps : List Place) → read_place schema (none_left (map (put_place schema) ps)) (put_place schema p) ≡ gives p
    → read_places schema (map (put_place schema) ps) ≡ gives ps → read_places schema (map (put_place schema) (p ∷ ps)) ≡ gives (p ∷ ps)
unfolding read_places ◌>>=◌
read-cons schema p ps e₁ e₂ = rw (e₁, e₂)

nil-read : (schema : List ℕ) → read_places schema [] ≡ gives []
unfolding read_places
nil-read schema = refl

read_no : (schema : List ℕ) → read_place schema false (put_place schema no_place) ≡ gives no_place
unfolding put_place read_place is_vacant
read_no schema = refl

-- the places up to the last filled one are read back
pub places-read : (schema : List ℕ) → Narrow schema → (places : List Place) → every (sound schema) places ≡ true
    → read_places schema (map (put_place schema) (take (up_to_filled places) places)) ≡ gives (take (up_to_filled places) places)
unfolding every
places-read schema hn [] h = rw lib.Seq.take-nil (nil-read schema)
places-read schema hn (p ∷ ps) h =
    split p.filled refl (up_to_filled ps) refl (places-read schema hn ps (and_right (sound schema p) (every (sound schema) ps) h))
  where
    good : sound schema p ≡ true
    good = and_left (sound schema p) (every (sound schema) ps) h

    split : (t : Bool) → p.filled ≡ t → (k : ℕ) → up_to_filled ps ≡ k
        → read_places schema (map (put_place schema) (take (up_to_filled ps) ps)) ≡ gives (take (up_to_filled ps) ps)
        → read_places schema (map (put_place schema) (take (up_to_filled (p ∷ ps)) (p ∷ ps))) ≡ gives (take (up_to_filled (p ∷ ps)) (p ∷ ps))
    split true f k ek ih =
        rw (up_to-filled p ps f)
        (read-cons schema p (take (up_to_filled ps) ps) (read-filled schema hn (none_left (map (put_place schema) (take (up_to_filled ps) ps))) p good f) ih)
    split false f zero ek ih = rw (up_to-none p ps f ek) (nil-read schema)
    split false f (suc m) ek ih =
        let v : p ≡ no_place = vacant-is schema p good f in
        let e : read_place schema (none_left (map (put_place schema) (take (suc m) ps))) (put_place schema p) ≡ gives p =
        ap (λ (t : Bool). read_place schema t (put_place schema p)) (some_left schema ps m ek) ∙ ap (λ (p : Place). read_place schema false (put_place schema p)) v
        ∙ read_no schema ∙ ap gives (sym v) in
        rw (up_to-some p ps m f ek) (read-cons schema p (take (suc m) ps) e (rw ek at ih))

-- those after the last filled one are blank
pub blank-after : (schema : List ℕ) (places : List Place) → every (sound schema) places ≡ true
    → drop (up_to_filled places) places ≡ drop (up_to_filled places) (replicate (length places) no_place)
unfolding every
blank-after schema [] h = refl
blank-after schema (p ∷ ps) h =
    split p.filled refl (up_to_filled ps) refl (blank-after schema ps (and_right (sound schema p) (every (sound schema) ps) h))
  where
    good : sound schema p ≡ true
    good = and_left (sound schema p) (every (sound schema) ps) h

    split : (t : Bool) → p.filled ≡ t → (k : ℕ) → up_to_filled ps ≡ k → drop (up_to_filled ps) ps ≡ drop (up_to_filled ps) (replicate (length ps) no_place)
        → drop (up_to_filled (p ∷ ps)) (p ∷ ps) ≡ drop (up_to_filled (p ∷ ps)) (replicate (length (p ∷ ps)) no_place)
    split true f k ek ih = rw (up_to-filled p ps f) ih
    split false f zero ek ih =
        let v : p ≡ no_place = vacant-is schema p good f in
        let e : ps ≡ replicate (length ps) no_place = rw ek at ih in
        rw (up_to-none p ps f ek) (ap {B = List Place} (λ p. p ∷ ps) v ∙ ap {B = List Place} (λ ps. no_place ∷ ps) e)
    split false f (suc m) ek ih = rw (up_to-some p ps m f ek) (rw ek at ih)

pub up_to-fits : (places : List Place) → up_to_filled places ≤ length places
unfolding up_to_filled
up_to-fits [] = lit≤ tt
up_to-fits (p ∷ ps) = go p.filled (up_to_filled ps) (up_to-fits ps)
  where
    go : (t : Bool) (k : ℕ) → k ≤ length ps → cond t (suc k) (one_more_if_any k) ≤ suc (length ps)
    go true k h = omega arith
    go false zero h = omega arith
    go false (suc k) h = omega arith

-- the places that are written, padded, are all places
pub pad-places : (schema : List ℕ) (places : List Place) → every (sound schema) places ≡ true → length places ≡ 8
    → pad 8 no_place (take (up_to_filled places) places) ≡ places
pad-places schema places h l =
    let lt : length (take (up_to_filled places) places) ≡ up_to_filled places = length-take-le (up_to_filled places) places (up_to-fits places) in
    let e : drop (up_to_filled places) (replicate 8 no_place) ≡ drop (up_to_filled places) places = rw l at (sym (blank-after schema places h)) in
    pad-is 8 no_place (take (up_to_filled places) places)
    ∙ rw lt (ap (λ (ps : List Place). take (up_to_filled places) places ++ ps) e ∙ take-append-drop (up_to_filled places) places)
