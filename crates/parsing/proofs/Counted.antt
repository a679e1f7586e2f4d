-- A part that holds a count and then so many values: what the reader's answers say of the format's reading of the whole part.
use mathlib.Core.Path.{◌≡◌, refl, sym, ap, subst, ◌∙◌}
use mathlib.Core.Bool.{Bool, true}
use borrow.Author.Tests.{leb-true}
use Rattle.format.proofs.Formats.{not-got, got_if-true}
use mathlib.Core.List.{List, [], ◌∷◌, ◌++◌}
use Prim.Native.Nat.{ℕ, ◌+◌, ◌≤◌, ◌<◌}
use native.Mathlib.Omega.{arith}
use lib.ListN.{length, set, take, drop, replicate, length-append}
use Rattle.std.proofs.lemmas.List.{take-append-drop, set-append_left}
use lib.Dec.{leb, leb-zero}
use Rattle.lists.specs.Tests.{between}
use Rattle.format.specs.Format.{Reading, none, got, then_read, map_reading, Format, get_byte, byte, sequence, padded}
use Rattle.refusals.specs.Refusals.{gives, refused}
use Rattle.format.specs.File.{complete}
use Rattle.format.proofs.Filling.{Filling, filling-starts, filling-turns, filling-fails, filling-ends}

-- ---- one value and then another

module _ {A B : Type 0} (f : Format A) (g : A → Format B) (bytes : List ℕ) where
  pub sequence-none : f.get bytes ≡ none → (sequence f g).get bytes ≡ none
  unfolding sequence then_read
  sequence-none e = rw e

  pub sequence-got : (a : A) (rest : List ℕ) → f.get bytes ≡ got a rest → (sequence f g).get bytes ≡ map_reading (λ b. (a, b)) ((g a).get rest)
  unfolding sequence then_read
  sequence-got a rest e = rw e

-- ---- a part that is to hold one value and no more

complete-none : {A : Type 0} (m : ℕ) (o : Reading A) → o ≡ none → complete m o ≡ refused m
unfolding complete
complete-none m o e = rw e

complete-whole : {A : Type 0} (m : ℕ) (a : A) (rest : List ℕ) → length rest ≡ 0 → complete m (got a rest) ≡ gives a
unfolding complete
complete-whole m a [] l = refl
complete-whole m a (b ∷ rest) l = absurd (omega arith)

complete-long : {A : Type 0} (m : ℕ) (a : A) (rest : List ℕ) → (length rest ≡ 0 → ⊥) → complete m (got a rest) ≡ refused m
unfolding complete
complete-long m a [] l = absurd (l refl)
complete-long m a (b ∷ rest) l = refl

-- no lower limit
pub no-low : (high : ℕ) (bytes : List ℕ) → get_byte (between 0 high) bytes ≡ get_byte (λ n. leb n high) bytes
unfolding get_byte
no-low high [] = refl
no-low high (b ∷ bytes) = rw (leb-zero b)

-- a byte that was read is within its limit
pub byte-read : (test : ℕ → Bool) (bytes : List ℕ) (b : ℕ) (rest : List ℕ) → get_byte test bytes ≡ got b rest → test b ≡ true
unfolding get_byte
byte-read test [] b rest e = absurd (not-got e)
byte-read test (x ∷ bytes) b rest e = let (t, is, _) = got_if-true (test x) x b bytes rest e in ap test (sym is) ∙ t

pub byte-within : (high : ℕ) (bytes : List ℕ) (b : ℕ) (rest : List ℕ) → get_byte (λ n. leb n high) bytes ≡ got b rest → b ≤ high
byte-within high bytes b rest e = leb-true b high (byte-read (λ n. leb n high) bytes b rest e)

-- ---- a part that holds a count and then so many values

module _ {A : Type 0} (test : ℕ → Bool) (total : ℕ) (blank : A) (is_blank : A → Bool) (f : Format A) (part : List ℕ) where
  -- The format of the part
  abbrev pub counted : Format (ℕ × List A)
  counted = sequence (byte test) (λ n. padded total blank is_blank n f)

  -- The values that bytes begin with, as the format reads them
  pub values : ℕ → List ℕ → Reading (List A)
  values n front = (padded total blank is_blank n f).get front

  -- What has been read: the count n, and i values, which stand in the array; the others are read off the bytes left
  pub record Counting (n : ℕ) (xs : List A) (i : ℕ) (left : List ℕ) : Type 0 where
    pub front : List ℕ
    pub head : counted.get part ≡ map_reading (λ ys. (n, ys)) (values n front)
    pub rest : Filling f.get (values n front) n xs i left

  pub counting-starts : (n : ℕ) (front : List ℕ) → get_byte test part ≡ got n front → Counting n (replicate total blank) 0 front
  unfolding byte padded values
  counting-starts n front e =
      record {
        front = front;
        head = sequence-got (byte test) (λ n. padded total blank is_blank n f) part n front e;
        rest = filling-starts f.get total blank n front;
      }

  -- there is no count, in a part that holds more, and in one that is to hold no more
  pub no-count-front : get_byte test part ≡ none → counted.get part ≡ none
  unfolding byte
  no-count-front e = sequence-none (byte test) (λ n. padded total blank is_blank n f) part e

  pub no-count : (m : ℕ) → get_byte test part ≡ none → complete m (counted.get part) ≡ refused m
  no-count m e = complete-none m (counted.get part) (no-count-front e)

  -- the slots of the values are lent apart from the others
  pub counting-lends : (n : ℕ) (front : List ℕ) → get_byte test part ≡ got n front
      → Counting n (take n (replicate total blank) ++ drop n (replicate total blank)) 0 front
  counting-lends n front e =
      subst (λ (xs : List A). Counting n xs 0 front) (sym (take-append-drop n (replicate total blank))) (counting-starts n front e)

  module _ {n : ℕ} {xs : List A} {i : ℕ} {left : List ℕ} (c : Counting n xs i left) where
    pub counting-turns : (x : A) (next : List ℕ) → i < n → i < length xs → f.get left ≡ got x next → Counting n (set xs i x) (i + 1) next
    counting-turns x next h l e = record { front = c.front; head = c.head; rest = filling-turns c.rest x next h l e }

    -- a value is bad, or the part too short
    pub counting-fails-front : i < n → f.get left ≡ none → counted.get part ≡ none
    unfolding map_reading
    counting-fails-front h e = rw (c.head, filling-fails c.rest h e)

    pub counting-fails : (m : ℕ) → i < n → f.get left ≡ none → complete m (counted.get part) ≡ refused m
    counting-fails m h e = complete-none m (counted.get part) (counting-fails-front h e)

    -- after the last value more may follow
    pub counting-ends-front : n ≤ i → counted.get part ≡ got (n, xs) left
    unfolding map_reading
    counting-ends-front h = rw (c.head, filling-ends c.rest h)

    -- or the part ends, or it is too long
    pub counting-ends : (m : ℕ) → n ≤ i → length left ≡ 0 → complete m (counted.get part) ≡ gives (n, xs)
    counting-ends m h l = ap (complete m) (counting-ends-front h) ∙ complete-whole m (n, xs) left l

    pub counting-long : (m : ℕ) → n ≤ i → (length left ≡ 0 → ⊥) → complete m (counted.get part) ≡ refused m
    counting-long m h l = ap (complete m) (counting-ends-front h) ∙ complete-long m (n, xs) left l

  pub counting-turns-lent : {n : ℕ} (lent others : List A) {i : ℕ} {left : List ℕ} → Counting n (lent ++ others) i left → (x : A) (next : List ℕ)
      → i < n → i < length lent → f.get left ≡ got x next → Counting n (set lent i x ++ others) (i + 1) next
  counting-turns-lent {n = n} lent others {i = i} c x next h l e =
      let within : i < length (lent ++ others) = simp length-append (omega arith) in
      subst (λ (xs : List A). Counting n xs (i + 1) next) (set-append_left lent others i x l) (counting-turns c x next h within e)
