-- A mapping as words, written and read. Assumes nothing.
use mathlib.Core.Path.{◌≡◌, refl, sym, ap, ◌∙◌}
use mathlib.Core.Bool.{Bool, true, false}
use mathlib.Core.List.{List, [], ◌∷◌, ◌++◌, append-nil, flat_map}
use Prim.Native.Nat.{ℕ, zero, suc, ◌+◌, ◌*◌, ◌≤◌, ◌<◌}
use native.Mathlib.Numerals.{add-one}
use native.Mathlib.Omega.{arith}
use lib.ListN.{length, get_or, drop, set, replicate, length-replicate, drop_of_length-le}
use lib.Seq.{drop-cons, drop-drop}
use borrow.Author.Tests.{ne_eqb, lt-leb, le-leb}
use Rattle.query.specs.declared.Entry.{Entry}
use Rattle.query.specs.declared.Entry.TheVariants.{Constant, Variable}
use Rattle.query.specs.declared.Cell.{Cell}
use Rattle.query.specs.Rule.{no_cell}
use Rattle.lists.specs.Over.{over, pad}
use Rattle.format.specs.Format.{Reading, none, got, got_if, map_reading, get_times}
use Rattle.format.specs.Parts.{entry_from}
use Rattle.lists.proofs.Over.{pad-is}
use Rattle.format.proofs.Formats.{not-got, got_if-true, map_reading-got, then_read-got}
use Rattle.format.proofs.Lengths.{length-flat_map}
use Rattle.encoder.proofs.Stores.{Writing, writing-starts, writing-turns, writing-ends}
use Rattle.format.proofs.Filling.{Filling, filling-starts, filling-turns, filling-fails, filling-ends}
use Rattle.std.specs.Prelude.{Option as Maybe, None, Some}
use Rattle.mapping_words.specs.Images.{entry_words, mapping_words, is_image, get_image, images_in}
use Rattle.mapping_words.specs.internal.Steps.{image_read, mapping_read}

-- ---- writing

-- The words of a cell
abbrev pub cell_words : Cell → List ℕ
cell_words c = entry_words c.entry

pub entry-long : (e : Entry) → length (entry_words e) ≡ 2
entry-long (Constant n) = refl
entry-long (Variable v) = refl

-- The first i images are written
abbrev pub Writing-on : List ℕ → List Cell → List ℕ → ℕ → Type 0
Writing-on before images words i = Writing cell_words before 0 images words (2 * i) i

pub mapped-starts : (before : List ℕ) (images : List Cell) → length images ≡ 96 → 192 ≤ length before → Writing-on before images before 0
mapped-starts before images l h =
    let e : length (flat_map cell_words images) ≡ 2 * length images = length-flat_map cell_words 2 (λ c. entry-long c.entry) images in
    writing-starts cell_words before 0 images (omega arith)

module _ {before : List ℕ} {images : List Cell} {words : List ℕ} {i : ℕ} (w : Writing-on before images words i) (l : length images ≡ 96) where
  pub mapped-turns : (next : List ℕ) → i < 96 → next ≡ over words (2 * i) (entry_words (get_or images i no_cell).entry) → Writing-on before images next (i + 1)
  mapped-turns next h e = writing-turns w no_cell next (2 * (i + 1)) (omega arith) e (omega (arith, entry-long (get_or images i no_cell).entry))

  pub mapped-ends : 96 ≤ i → words ≡ over before 0 (mapping_words images)
  mapped-ends h = (writing-ends w (omega arith)).0

-- ---- reading one image

module _ (s : List ℕ) (at : ℕ) (h : at + 2 ≤ length s) where
  image-at : get_image (drop at s)
      ≡ got_if (is_image (get_or s at 0) (get_or s (at + 1) 0)) (entry_from (get_or s at 0) (get_or s (at + 1) 0)) (drop (suc (suc at)) s)
  unfolding get_image
  image-at =
      let first : drop at s ≡ get_or s at 0 ∷ drop (suc at) s = drop-cons s at 0 (omega arith) in
      let second : drop (suc at) s ≡ get_or s (suc at) 0 ∷ drop (suc (suc at)) s = drop-cons s (suc at) 0 (omega arith) in
      rw (add-one, first, second)

  pub image-constant : get_or s at 0 ≡ 0 → Some (Constant (get_or s (at + 1) 0)) ≡ image_read (get_image (drop at s))
  unfolding got_if
  image-constant e = rw (image-at, e)

  module _ (other : get_or s at 0 ≡ 0 → ⊥) where
    pub image-tag : (get_or s at 0 ≡ 1 → ⊥) → None ≡ image_read (get_image (drop at s))
    unfolding got_if
    image-tag e = rw (image-at, ne_eqb (get_or s at 0) 0 other, ne_eqb (get_or s at 0) 1 e)

    pub image-high : get_or s at 0 ≡ 1 → 255 < get_or s (at + 1) 0 → None ≡ image_read (get_image (drop at s))
    unfolding got_if
    image-high e high = rw (image-at, e, lt-leb (get_or s (at + 1) 0) 255 high)

    pub image-variable : get_or s at 0 ≡ 1 → get_or s (at + 1) 0 ≤ 255 → Some (Variable (get_or s (at + 1) 0)) ≡ image_read (get_image (drop at s))
    unfolding got_if
    image-variable e low = rw (image-at, e, le-leb (get_or s (at + 1) 0) 255 low)

-- What an answer says of the reading
if-image : (t : Bool) (x : Cell) (rest : List ℕ) (e : Entry) → Some e ≡ image_read (got_if t x rest) → got_if t x rest ≡ got (record { entry = e }) rest
unfolding got_if
if-image true x rest e h = let p : x.entry ≡ e = cc in ap (λ (y : Entry). got (record { entry = y }) rest) p
if-image false x rest e h = let z : ◌≡◌ {A = ℕ} 0 1 = cc in absurd (omega arith)

image-read : (s : List ℕ) (e : Entry) → Some e ≡ image_read (get_image s) → get_image s ≡ got (record { entry = e }) (drop 2 s)
unfolding get_image
image-read [] e h = let z : ◌≡◌ {A = ℕ} 0 1 = cc in absurd (omega arith)
image-read (tag ∷ []) e h = let z : ◌≡◌ {A = ℕ} 0 1 = cc in absurd (omega arith)
image-read (tag ∷ n ∷ s) e h = if-image (is_image tag n) (entry_from tag n) s e h

no-image : (o : Reading Cell) → None ≡ image_read o → o ≡ none
no-image none h = refl
no-image (got c rest) h = let z : ◌≡◌ {A = ℕ} 0 1 = cc in absurd (omega arith)

-- ---- reading 96 images

-- So many values are read
times_long : {A : Type 0} (get : List ℕ → Reading A) (n : ℕ) (s : List ℕ) (xs : List A) (rest : List ℕ) → get_times get n s ≡ got xs rest → length xs ≡ n
unfolding get_times
times_long get zero s xs rest e = let p : [] ≡ xs = cc in ap length (sym p)
times_long get (suc n) s xs rest e =
    let (x, r, e₀, e₁) = then_read-got (get s) (λ x r. map_reading (λ ys. x ∷ ys) (get_times get n r)) xs rest e in
    let (ys, e₂, e₃) = map_reading-got (λ ys. x ∷ ys) (get_times get n r) xs rest e₁ in
    ap length (sym e₃) ∙ ap suc (times_long get n r ys rest e₂)

-- A full array has no padding
full : {A : Type 0} (n : ℕ) (blank : A) (xs : List A) → length xs ≡ n → pad n blank xs ≡ xs
full n blank xs l =
    let d : drop (length xs) (replicate n blank) ≡ [] = drop_of_length-le (replicate n blank) {i = length xs} (omega (arith, length-replicate n blank)) in
    pad-is n blank xs ∙ ap (λ (t : List _). xs ++ t) d ∙ append-nil xs

unpadded : {A : Type 0} (get : List ℕ → Reading A) (n : ℕ) (blank : A) (s : List ℕ) → map_reading (pad n blank) (get_times get n s) ≡ get_times get n s
unfolding map_reading
unpadded {A} get n blank s = go (get_times get n s) refl
  where
    go : (o : Reading (List A)) → get_times get n s ≡ o → map_reading (pad n blank) o ≡ o
    go none e = refl
    go (got xs rest) e = ap (λ (ys : List A). got ys rest) (full n blank xs (times_long get n s xs rest e))

-- An image takes two words
image-long : (s : List ℕ) (x : Cell) (rest : List ℕ) → get_image s ≡ got x rest → length s ≡ 2 + length rest
unfolding get_image
image-long [] x rest e = absurd (not-got e)
image-long (tag ∷ []) x rest e = absurd (not-got e)
image-long (tag ∷ n ∷ s) x rest e =
    let k : length s ≡ length rest = ap length (got_if-true (is_image tag n) (entry_from tag n) x s rest e).2 in omega arith

images-long : (n : ℕ) (s : List ℕ) (xs : List Cell) (rest : List ℕ) → get_times get_image n s ≡ got xs rest → length s ≡ 2 * n + length rest
unfolding get_times
images-long zero s xs rest e = let p : s ≡ rest = cc in let l : length s ≡ length rest = ap length p in omega arith
images-long (suc n) s xs rest e =
    let (x, r, e₀, e₁) = then_read-got (get_image s) (λ x r. map_reading (λ ys. x ∷ ys) (get_times get_image n r)) xs rest e in
    let (ys, e₂, e₃) = map_reading-got (λ ys. x ∷ ys) (get_times get_image n r) xs rest e₁ in
    omega (arith, image-long s x r e₀, images-long n r ys rest e₂)

-- Words of another number are no mapping
pub other_length : (s : List ℕ) → (length s ≡ 192 → ⊥) → mapping_read none ≡ mapping_read (images_in s)
other_length s h = go (images_in s) refl
  where
    go : (o : Reading (List Cell)) → images_in s ≡ o → mapping_read none ≡ mapping_read o
    go none e = refl
    go (got xs []) e = absurd (h (images-long 96 s xs [] e))
    go (got xs (w ∷ ws)) e = refl

-- The first i images are read
abbrev pub Reading-on : List ℕ → List Cell → ℕ → Type 0
Reading-on s images i = Filling get_image (images_in s) 96 images i (drop (2 * i) s)

pub reading-starts : (s : List ℕ) → Reading-on s (replicate 96 no_cell) 0
reading-starts s = rw (← unpadded get_image 96 no_cell s) (filling-starts get_image 96 no_cell 96 s)

module _ (s : List ℕ) {images : List Cell} {i : ℕ} (f : Reading-on s images i) where
  pub reading-turns : (r : Maybe Entry) (e : Entry) → i < 96 → length images ≡ 96 → r ≡ image_read (get_image (drop (2 * i) s)) → r ≡ Some e
      → Reading-on s (set images i (record { entry = e })) (i + 1)
  reading-turns r e h l p q =
      let g : get_image (drop (2 * i) s) ≡ got (record { entry = e }) (drop 2 (drop (2 * i) s)) = image-read (drop (2 * i) s) e (sym q ∙ p) in
      let k : 2 * i + 2 ≡ 2 * (i + 1) = omega arith in
      let d : drop 2 (drop (2 * i) s) ≡ drop (2 * (i + 1)) s = drop-drop 2 (2 * i) s ∙ ap (λ (m : ℕ). drop m s) k in
      rw (← d) (filling-turns f (record { entry = e }) (drop 2 (drop (2 * i) s)) h (omega arith) g)

  pub reading-fails : (r : Maybe Entry) → i < 96 → r ≡ image_read (get_image (drop (2 * i) s)) → r ≡ None → mapping_read none ≡ mapping_read (images_in s)
  reading-fails r h p q = sym (ap mapping_read (filling-fails f h (no-image (get_image (drop (2 * i) s)) (sym q ∙ p))))

  pub reading-ends : 96 ≤ i → length s ≡ 192 → images_in s ≡ got images []
  reading-ends h l = filling-ends f h ∙ ap (λ (t : List ℕ). got images t) (drop_of_length-le s {i = 2 * i} (omega arith))
