-- What checking words returns and leaves, and what its test means. Assumes nothing.
use mathlib.Core.Path.{◌≡◌, refl, sym, ap, ◌∙◌}
use mathlib.Core.Bool.{Bool, true, false, ◌&&◌}
use mathlib.Core.List.{List, [], ◌∷◌}
use mathlib.Core.Option.{Option}
use mathlib.Core.Option as option
use Prim.Native.Nat.{ℕ}
use native.Mathlib.Omega.{arith}
use Rattle.refusals.specs.Refusals.{gives, refused, Reply, reply}
use Rattle.query.specs.declared.Cell.{Cell}
use Rattle.record.specs.declared.Record.{Record}
use Rattle.record.specs.Calls.{query_at}
use Rattle.format.specs.Format.{Reading, none, got}
use Rattle.minimization.proofs.Checking.{maps-to-exact}
use Rattle.mapping_words.specs.Images.{images_in}
use Rattle.mapping_words.specs.internal.Steps.{mapping_read}
use Rattle.std.specs.Prelude.{Result, Ok, Option as Maybe, Some, None, is_some, unwrap_or}
use lib.ListN.{replicate}
use Rattle.query.specs.Rule.{no_cell}
use Rattle.refusals.specs.declared.Refusal.{Refusal}
use Rattle.refusals.specs.Refusal.{reply_of}
use Rattle.comparison.specs.Comparison.{pair_refusal, images_at, CheckedMapping}
use Rattle.theory.specs.Answer.{IsMapping}
use Rattle.minimization.specs.Checking.{image_at, maps_to}
use Rattle.lent_numbers.specs.Lent.{returned, leaves}
use Rattle.comparison_on_files.specs.Queries.{reading_maps, words_map, bit, WordsMapExact}

-- ---- what is read, and what the test says of it

module _ (r : Record) (p q : ℕ) where
  -- Words that stand for images are tested as these
  found : (o : Reading (List Cell)) (images : List Cell) → Some images ≡ mapping_read o → reading_maps r p q o ≡ maps_to (query_at r q) (query_at r p) (images_at r q images)
  found none images e = absurd (cc)
  found (got others []) images e = let k : others ≡ images = cc in ap (λ (x : List Cell). maps_to (query_at r q) (query_at r p) (images_at r q x)) k
  found (got others (w ∷ ws)) images e = absurd (cc)

  -- Other words are no mapping
  missed : (o : Reading (List Cell)) → None ≡ mapping_read o → reading_maps r p q o ≡ false
  missed none e = refl
  missed (got images []) e = absurd (cc)
  missed (got images (w ∷ ws)) e = refl

-- ---- a reply, with another value

replied : {A : Type 0} (x : Option ℕ) (a b c : A) → gives a ≡ reply x b → (b ≡ a) × (reply x c ≡ gives c)
replied option.none a b c e = (cc, refl)
replied (option.some n) a b c e = let z : ◌≡◌ {A = ℕ} 0 1 = cc in absurd (omega arith)

still : {A : Type 0} (x : Option ℕ) (n : ℕ) (b c : A) → refused n ≡ reply x b → reply x c ≡ refused n
still option.none n b c e = let z : ◌≡◌ {A = ℕ} 0 1 = cc in absurd (omega arith)
still (option.some m) n b c e = cc

-- ---- what is returned and left

-- A number that is returned and one that is left, for what checking says
abbrev pub Says : Reply Bool → ℕ → ℕ → ℕ → Type 0
Says x said number said' = (number ≡ returned x) × (said' ≡ leaves x bit said)

pub says_same : {x y : Reply Bool} → x ≡ y → (said number said' : ℕ) → Says y said number said' → Says x said number said'
says_same p said number said' w = (w.0 ∙ ap returned (sym p), w.1 ∙ ap (λ (z : Reply Bool). leaves z bit said) (sym p))

-- The images that are checked: those that were read, or constant 0 of each variable
abbrev pub checked_images : Maybe (List Cell) → List Cell
checked_images m = unwrap_or m (replicate 96 no_cell)

module _ (r : Record) (p q : ℕ) (words : List ℕ) where
  -- What is to be said of the words
  abbrev due : Reply Bool
  due = reply (pair_refusal r p q) (words_map r p q words)

  module _ (images : List Cell) (c : Result Bool Refusal) (is : CheckedMapping r p q images c) (said : ℕ) where
    -- What the call below says of the images
    abbrev maps : Bool
    maps = maps_to (query_at r q) (query_at r p) (images_at r q images)

    -- What is said where the test of the words says b
    pub check-said : (t b : Bool) → c ≡ Ok t → (maps ≡ t → words_map r p q words ≡ b) → Says due said 0 (bit b)
    check-said t b k w =
        let tells = replied (pair_refusal r p q) t maps (words_map r p q words) (ap reply_of (sym k) ∙ is) in
        says_same (tells.1 ∙ ap gives (w tells.0)) said 0 (bit b) (refl, refl)

  -- Yes where the images are a mapping and were read off the words
  pub check-told : (m : Maybe (List Cell)) → m ≡ mapping_read (images_in words) → (c : Result Bool Refusal)
      → CheckedMapping r p q (checked_images m) c → (said : ℕ) (t : Bool) → c ≡ Ok t → Says due said 0 (bit (t && is_some m))
  check-told (Some images) e c is said true k =
      check-said images c is said true true k (λ f. found r p q (images_in words) images e ∙ f)
  check-told (Some images) e c is said false k =
      check-said images c is said false false k (λ f. found r p q (images_in words) images e ∙ f)
  check-told None e c is said true k =
      check-said (replicate 96 no_cell) c is said true false k (λ f. missed r p q (images_in words) e)
  check-told None e c is said false k =
      check-said (replicate 96 no_cell) c is said false false k (λ f. missed r p q (images_in words) e)

-- ---- what the test means

module _ (r : Record) (p q : ℕ) where
  means : (o : Reading (List Cell)) → reading_maps r p q o ≡ true
      → (images : List Cell) × (o ≡ got images []) × IsMapping (query_at r q) (query_at r p) (image_at (images_at r q images))
  means none t = let z : ◌≡◌ {A = ℕ} 0 1 = cc in absurd (omega arith)
  means (got images []) t = (images, refl, (maps-to-exact (query_at r q) (query_at r p) (images_at r q images)).0 t)
  means (got images (w ∷ ws)) t = let z : ◌≡◌ {A = ℕ} 0 1 = cc in absurd (omega arith)

  meant : (o : Reading (List Cell)) (images : List Cell) → o ≡ got images []
      → IsMapping (query_at r q) (query_at r p) (image_at (images_at r q images)) → reading_maps r p q o ≡ true
  meant o images e h = ap (reading_maps r p q) e ∙ (maps-to-exact (query_at r q) (query_at r p) (images_at r q images)).1 h

pub words-map-exact : WordsMapExact
words-map-exact r p q words = (means r p q (images_in words), λ w. meant r p q (images_in words) w.0 w.1 w.2)
