-- Laws of `Carries`: composition, larger and mapped rows, and mappings. Answers and mappings share them.
-- Assumes nothing.
use mathlib.Core.Path.{◌≡◌, refl, sym, ◌∙◌, ap}
use mathlib.Core.Logic.{◌≢◌}
use mathlib.Core.Bool.{cond}
use mathlib.Core.List.Memᴰ
use mathlib.Core.List.{List, [], ◌++◌, map, map-map, map-id}
use Prim.Native.Nat.{ℕ}
use Rattle.theory.specs.Query.{Entry, constant, variable, Row, Query, map_row, row_entries, variables, member, ◌∈◌}
use Rattle.theory.specs.Answer.{value_of, Carries, Mapping}
use Rattle.theory.proofs.Lists.{map-agree, mem-member, not-mem-member}
use Rattle.theory.proofs.Entries.{mem-variables_of, row-row_entries}
use Rattle.theory.proofs.Members.{◌⊆◌, some-of-member, member-of-some}

-- The value of an entry's image is the entry's value under the composed assignment
pub value_of-compose : {A : Type 0} (fixed g : ℕ → A) (f : ℕ → Entry) (e : Entry)
    → value_of fixed g (value_of constant f e) ≡ value_of fixed (λ v. value_of fixed g (f v)) e
value_of-compose fixed g f (constant n) = refl
value_of-compose fixed g f (variable v) = refl

-- A row's image under an image is its image under the composed function
pub map_row-compose : {A B C : Type 0} (g : B → C) (f : A → B) (r : Row A) → map_row g (map_row f r) ≡ map_row (λ x. g (f x)) r
map_row-compose g f r = λ i. record { relation = r.relation; values = map-map g f r.values i }

-- Functions that agree on a row's values give it the same image
pub map_row-agree : {A B : Type 0} (f g : A → B) (r : Row A) → ((x : A) → x ∈ r.values → f x ≡ g x) → map_row f r ≡ map_row g r
map_row-agree f g r same = λ i. record { relation = r.relation; values = map-agree f g r.values same i }

-- What maps each value to itself keeps the row
pub map_row-id : {A : Type 0} (f : A → A) (r : Row A) → ((x : A) → x ∈ r.values → f x ≡ x) → map_row f r ≡ r
map_row-id f r same = map_row-agree f (λ x. x) r same ∙ (λ i. record { relation = r.relation; values = map-id r.values i })

-- A map h of the values takes what is carried on to wherever h takes the rows and the image, by any assignment that agrees with h on the query's entries
pub carries-onto : {A B : Type 0} (fixed_a assign_a : ℕ → A) (fixed_b assign_b : ℕ → B) (h : A → B) (q : Query)
    (rows_a : List (Row A)) (rows_b : List (Row B)) (image_a : List A) (image_b : List B)
    → ((e : Entry) → e ∈ q.head ++ row_entries q.rows → value_of fixed_b assign_b e ≡ h (value_of fixed_a assign_a e))
    → ((r : Row A) → r ∈ rows_a → map_row h r ∈ rows_b) → map h image_a ≡ image_b
    → Carries fixed_a assign_a q rows_a image_a → Carries fixed_b assign_b q rows_b image_b
carries-onto fixed_a assign_a fixed_b assign_b h q rows_a rows_b image_a image_b agree to-rows_b to-image_b c =
    let on_row : (r : Row Entry) → r ∈ q.rows → map_row (value_of fixed_b assign_b) r ≡ map_row h (map_row (value_of fixed_a assign_a) r) =
    λ r at. map_row-agree (value_of fixed_b assign_b) (λ e. h (value_of fixed_a assign_a e)) r
    (λ e there. agree e (Memᴰ.append_right q.head (row-row_entries q.rows r e at there)))
    ∙ sym (map_row-compose h (value_of fixed_a assign_a) r) in
    record {
      not-never = c.not-never;
      to-head = map-agree (value_of fixed_b assign_b) (λ e. h (value_of fixed_a assign_a e)) q.head
          (λ e at. agree e (Memᴰ.append_left (row_entries q.rows) at))
          ∙ sym (map-map h (value_of fixed_a assign_a) q.head) ∙ ap (map h) c.to-head ∙ to-image_b;
      to-rows = λ r at. Memᴰ.cast (on_row r at) (to-rows_b (map_row (value_of fixed_a assign_a) r) (c.to-rows r at));
    }

-- What carries T carries, after f, whatever f carries into T
pub carries-compose : {A : Type 0} (fixed g : ℕ → A) (f : ℕ → Entry) (S T : Query) (rows : List (Row A)) (image : List A)
    → Carries constant f S T.rows T.head → Carries fixed g T rows image
    → Carries fixed (λ v. value_of fixed g (f v)) S rows image
carries-compose fixed g f S T rows image s t =
    carries-onto constant f fixed (λ v. value_of fixed g (f v)) (value_of fixed g) S T.rows rows T.head image
    (λ e at. sym (value_of-compose fixed g f e)) t.to-rows t.to-head s

-- A query with the same head and fewer rows, but some, is carried by the same assignment
pub carries-fewer : {A : Type 0} (fixed assign : ℕ → A) (q q' : Query) (rows : List (Row A)) (image : List A)
    → q'.head ≡ q.head → q'.rows ≢ [] → ((r : Row Entry) → r ∈ q'.rows → r ∈ q.rows)
    → Carries fixed assign q rows image → Carries fixed assign q' rows image
carries-fewer fixed assign q q' rows image same some fewer c = record {
  not-never = some;
  to-head = ap (map (value_of fixed assign)) same ∙ c.to-head;
  to-rows = λ r at. c.to-rows r (fewer r at);
}

-- More rows to go to do no harm
pub carries-more : {A : Type 0} (fixed assign : ℕ → A) (q : Query) (rows rows' : List (Row A)) (image : List A)
    → ((r : Row A) → r ∈ rows → r ∈ rows') → Carries fixed assign q rows image → Carries fixed assign q rows' image
carries-more fixed assign q rows rows' image more c = record {
  not-never = c.not-never;
  to-head = c.to-head;
  to-rows = λ r at. more (map_row (value_of fixed assign) r) (c.to-rows r at);
}

-- Assignments that agree on the query's variables carry it alike
pub carries-agree : {A : Type 0} (fixed assign assign' : ℕ → A) (q : Query) (rows : List (Row A)) (image : List A)
    → ((v : ℕ) → v ∈ variables q → assign v ≡ assign' v) → Carries fixed assign q rows image → Carries fixed assign' q rows image
carries-agree fixed assign assign' q rows image same c =
    carries-onto fixed assign fixed assign' (λ x. x) q rows rows image image
    on_entry (λ r at. Memᴰ.cast (map_row-id (λ x. x) r (λ x there. refl)) at) (map-id image) c
  where
    on_entry : (e : Entry) → e ∈ q.head ++ row_entries q.rows → value_of fixed assign' e ≡ value_of fixed assign e
    on_entry (constant n) at = refl
    on_entry (variable v) at = sym (same v (mem-variables_of v (q.head ++ row_entries q.rows) at))

-- f on the variables of S, and constant 0 elsewhere
on_variables : Query → (ℕ → Entry) → ℕ → Entry
on_variables S f v = cond (member v (variables S)) (f v) (constant 0)

on_variables-on : (S : Query) (f : ℕ → Entry) (v : ℕ) → v ∈ variables S → on_variables S f v ≡ f v
unfolding on_variables
on_variables-on S f v at = ap (λ b. cond b (f v) (constant 0)) (mem-member v (variables S) at)

on_variables-off : (S : Query) (f : ℕ → Entry) (v : ℕ) → (v ∈ variables S → ⊥) → on_variables S f v ≡ constant 0
unfolding on_variables
on_variables-off S f v off = ap (λ b. cond b (f v) (constant 0)) (not-mem-member v (variables S) off)

-- Each variable sent to itself sends each entry to itself
pub value_of-variable : (e : Entry) → value_of constant variable e ≡ e
value_of-variable (constant n) = refl
value_of-variable (variable v) = refl

-- Whatever carries S into T gives a mapping: send the variables that S lacks to constant 0
pub mapping-of : (S T : Query) (f : ℕ → Entry) → Carries constant f S T.rows T.head → Mapping S T
mapping-of S T f c = (on_variables S f, record { carries = carried; elsewhere = λ v off. on_variables-off S f v off })
  where
    carried : Carries constant (on_variables S f) S T.rows T.head
    carried = carries-agree constant f (on_variables S f) S T.rows T.head (λ v at. sym (on_variables-on S f v at)) c

-- Mappings compose
pub mapping-compose : (S T U : Query) → Mapping S T → Mapping T U → Mapping S U
mapping-compose S T U f g =
    mapping-of S U (λ v. value_of constant g.0 (f.0 v))
    (carries-compose constant g.0 f.0 S T U.rows U.head f.1.carries g.1.carries)

-- A query that is not never maps to itself
pub mapping-self : (q : Query) → q.rows ≢ [] → Mapping q q
mapping-self q some = mapping-of q q variable (record {
  not-never = some;
  to-head = map-agree (value_of constant variable) (λ e. e) q.head (λ e at. value_of-variable e) ∙ map-id q.head;
  to-rows = λ r at. Memᴰ.cast (map_row-id (value_of constant variable) r (λ e there. value_of-variable e)) at;
})

-- A mapping stays one for fewer rows before it, but some, and for more rows behind it
pub mapping-part : (S S' T T' : Query) → S'.head ≡ S.head → S'.rows ≢ [] → S'.rows ⊆ S.rows → T'.head ≡ T.head → T.rows ⊆ T'.rows
    → Mapping S T → Mapping S' T'
mapping-part S S' T T' same_s some fewer same_t more f = mapping-of S' T' f.0 (record {
  not-never = some;
  to-head = ap (map (value_of constant f.0)) same_s ∙ f.1.carries.to-head ∙ sym same_t;
  to-rows = λ r at. more (map_row (value_of constant f.0) r) (f.1.carries.to-rows r (fewer r at));
})

-- A query with the same head and some of the rows maps to the whole
pub mapping-inclusion : (S T : Query) → S.rows ≢ [] → T.head ≡ S.head → S.rows ⊆ T.rows → Mapping S T
mapping-inclusion S T some same part = mapping-part S S S T refl some (λ r at. at) same part (mapping-self S some)

-- A query that receives a mapping is not never
pub mapping-target : (S T : Query) → Mapping S T → T.rows ≢ []
mapping-target S T f =
    let first = member-of-some S.rows f.1.carries.not-never in
    some-of-member T.rows (f.1.carries.to-rows first.0 first.1)
