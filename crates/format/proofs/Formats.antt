-- The two laws of each combinator.
use mathlib.Core.Path.{◌≡◌, refl, sym, ap, ◌∙◌, subst}
use mathlib.Core.Bool.{Bool, true, false, ◌&&◌}
use mathlib.Core.List.{List, [], ◌∷◌, ◌++◌, append_assoc, flat_map}
use Prim.Native.Nat.{ℕ, zero, suc, ◌-◌, ◌≤◌}
use native.Mathlib.Omega.{arith}
use lib.Dec.{eqb}
use lib.ListN.{length, take, drop, replicate, length-drop, take-append-drop}
use lib.Seq.{take_at, drop_at, length-take-le}
use borrow.Author.Tests.{eqb-true, eq-eqb}
use Rattle.lists.specs.Tests.{every}
use Rattle.format.specs.Bytes.{Bytes}
use Rattle.lists.specs.Over.{pad}
use Rattle.format.specs.Format.{Reading, none, got, then_read, map_reading, got_if, read_if, Format, Lawful, get_byte, byte, sequence, get_times, padded}
use Rattle.format.specs.Format.{such_that, via}
use Rattle.lists.proofs.Tests.{and_left, and_right, and_both, and-iff, every_drop, every-replicate, every-same}
use Rattle.lists.proofs.Loops.{replicate-drop}
use Rattle.format.proofs.Bytes.{bytes-append}
use Rattle.lists.proofs.Over.{pad-is, length-pad}

-- ---- readings

-- nothing read is no value
pub not-got : {A : Type 0} {a : A} {rest : List ℕ} → none ≡ got a rest → ⊥
not-got e = let z : ◌≡◌ {A = ℕ} 0 1 = cc in omega arith

-- what a tested reading gives
pub got_if-true : {A : Type 0} (t : Bool) (a b : A) (r s : List ℕ) → got_if t a r ≡ got b s → (t ≡ true) × (a ≡ b) × (r ≡ s)
unfolding got_if
got_if-true true a b r s e = (refl, cc, cc)
got_if-true false a b r s e = absurd (not-got e)

-- what a mapped reading gives
pub map_reading-got : {A B : Type 0} (f : A → B) (o : Reading A) (b : B) (rest : List ℕ) → map_reading f o ≡ got b rest → (a : A) × (o ≡ got a rest) × (f a ≡ b)
unfolding map_reading
map_reading-got f none b rest e = absurd (not-got e)
map_reading-got f (got a r) b rest e = let p : r ≡ rest = cc in (a, rw p, cc)

-- what two readings give
pub then_read-got : {A B : Type 0} (o : Reading A) (next : A → List ℕ → Reading B) (b : B) (rest : List ℕ) → then_read o next ≡ got b rest
    → (a : A) × (r : List ℕ) × (o ≡ got a r) × (next a r ≡ got b rest)
unfolding then_read
then_read-got none next b rest e = absurd (not-got e)
then_read-got (got a r) next b rest e = (a, r, refl, e)

-- what a reading gives that is kept if its value passes a test
read_if-got : {A : Type 0} (test : A → Bool) (o : Reading A) (a : A) (rest : List ℕ) → read_if test o ≡ got a rest → (o ≡ got a rest) × (test a ≡ true)
unfolding read_if
read_if-got test none a rest e = absurd (not-got e)
read_if-got test (got b r) a rest e = let (t, same, left) = got_if-true (test b) b a r rest e in (rw (same, left), rw (← same) t)

-- ---- a byte

get_byte-put : (test : ℕ → Bool) (b : ℕ) (rest : List ℕ) → test b ≡ true → get_byte test (b ∷ rest) ≡ got b rest
unfolding get_byte got_if
get_byte-put test b rest h = rw h

get_byte-back : (test : ℕ → Bool) (bytes : List ℕ) (b : ℕ) (rest : List ℕ) → get_byte test bytes ≡ got b rest → (test b ≡ true) × (b ∷ rest ≡ bytes)
unfolding get_byte
get_byte-back test [] b rest e = absurd (not-got e)
get_byte-back test (x ∷ bytes) b rest e =
    let g : (test x ≡ true) × (x ≡ b) × (bytes ≡ rest) = got_if-true (test x) x b bytes rest e in
    (rw (← g.1) g.0, rw (g.1, g.2))

pub byte-lawful : (test : ℕ → Bool) → Lawful (byte test)
unfolding byte
byte-lawful test = record { get-put = get_byte-put test; put-get = λ bytes b rest _ e. get_byte-back test bytes b rest e }

-- ---- one value and then another

module _ {A B : Type 0} (f : Format A) (g : A → Format B) (lf : Lawful f) (lg : (a : A) → f.good a ≡ true → Lawful (g a)) where
  pub sequence-lawful : Lawful (sequence f g)
  unfolding sequence then_read map_reading
  sequence-lawful =
      record {
        get-put = λ p rest h.
            let k : (f.good p.0 ≡ true) × ((g p.0).good p.1 ≡ true) = simp and-iff at h in
            rw (append_assoc (f.put p.0) ((g p.0).put p.1) rest, lf.get-put p.0 ((g p.0).put p.1 ++ rest) k.0)
            (rw ((lg p.0 k.0).get-put p.1 rest k.1));
        put-get = λ bytes p rest hb e.
            let (a, r, ea, e₁) = then_read-got (f.get bytes) (λ a rest. map_reading (λ b. (a, b)) ((g a).get rest)) p rest e in
            let (b, eb, ep) = map_reading-got (λ b. (a, b)) ((g a).get r) p rest e₁ in
            let ka : (f.good a ≡ true) × (f.put a ++ r ≡ bytes) = lf.put-get bytes a r hb ea in
            let kb : ((g a).good b ≡ true) × ((g a).put b ++ rest ≡ r) = (lg a ka.0).put-get r b rest (bytes-append (f.put a) r (rw ka.1 hb)).1 eb in
            subst (λ (q : A × B). ((f.good q.0 && (g q.0).good q.1) ≡ true) × ((f.put q.0 ++ (g q.0).put q.1) ++ rest ≡ bytes)) ep
            (and_both _ _ ka.0 kb.0, append_assoc (f.put a) ((g a).put b) rest ∙ ap (λ (t : List ℕ). f.put a ++ t) kb.1 ∙ ka.1);
      }

-- ---- n values

module _ {A : Type 0} (f : Format A) (lf : Lawful f) where
  pub times-get-put : (xs : List A) (rest : List ℕ) → every f.good xs ≡ true → get_times f.get (length xs) (flat_map f.put xs ++ rest) ≡ got xs rest
  unfolding every get_times flat_map then_read map_reading
  times-get-put [] rest h = refl
  times-get-put (x ∷ xs) rest h =
      rw (append_assoc (f.put x) (flat_map f.put xs) rest, lf.get-put x (flat_map f.put xs ++ rest) (and_left (f.good x) (every f.good xs) h))
      (rw (times-get-put xs rest (and_right (f.good x) (every f.good xs) h)))

  pub times-put-get : (n : ℕ) (bytes : List ℕ) (xs : List A) (rest : List ℕ) → Bytes bytes → get_times f.get n bytes ≡ got xs rest
      → (length xs ≡ n) × (every f.good xs ≡ true) × (flat_map f.put xs ++ rest ≡ bytes)
  unfolding every get_times flat_map
  times-put-get zero bytes xs rest hb e = let p : [] ≡ xs = cc in let q : bytes ≡ rest = cc in rw (← p) (refl, refl, sym q)
  times-put-get (suc n) bytes xs rest hb e =
      let (y, r, ey, e₁) = then_read-got (f.get bytes) (λ x rest. map_reading (λ xs. x ∷ xs) (get_times f.get n rest)) xs rest e in
      let (ys, es, ep) = map_reading-got (λ ys. y ∷ ys) (get_times f.get n r) xs rest e₁ in
      let ky : (f.good y ≡ true) × (f.put y ++ r ≡ bytes) = lf.put-get bytes y r hb ey in
      let ih : (length ys ≡ n) × (every f.good ys ≡ true) × (flat_map f.put ys ++ rest ≡ r) =
      times-put-get n r ys rest (bytes-append (f.put y) r (rw ky.1 hb)).1 es in
      rw (← ep) (
        ap suc ih.0,
        and_both _ _ ky.0 ih.1,
        append_assoc (f.put y) (flat_map f.put ys) rest ∙ ap (λ (t : List ℕ). f.put y ++ t) ih.2 ∙ ky.1,
      )

-- ---- an array of which the first n elements are in use

module _ {A : Type 0} (total : ℕ) (blank : A) (is_blank : A → Bool) (n : ℕ) (is : (x : A) → is_blank x ≡ true → x ≡ blank) (fits : n ≤ total) where
  -- the elements in use, padded, are the array
  pub pad-take : (xs : List A) → length xs ≡ total → every is_blank (drop n xs) ≡ true → pad total blank (take n xs) ≡ xs
  pad-take xs l h =
      let lt : length (take n xs) ≡ n = length-take-le n xs (omega arith) in
      let ld : length (drop n xs) ≡ total - n = simp length-drop (omega arith) in
      let e : drop n xs ≡ drop n (replicate total blank) =
      every-same is_blank blank is (drop n xs) h ∙ ap (λ (k : ℕ). replicate k blank) ld ∙ sym (replicate-drop n total blank) in
      pad-is total blank (take n xs) ∙ rw (lt, ← e) (take-append-drop n xs)

-- the elements in use of a padded array
pub take-pad : {A : Type 0} (total : ℕ) (blank : A) (n : ℕ) (ys : List A) → length ys ≡ n → take n (pad total blank ys) ≡ ys
take-pad total blank n ys l = ap (take n) (pad-is total blank ys) ∙ take_at ys (drop (length ys) (replicate total blank)) n l

module _ {A : Type 0} (total : ℕ) (blank : A) (is_blank : A → Bool) (n : ℕ) (f : Format A) (is : (x : A) → is_blank x ≡ true → x ≡ blank)
    (blank-is : is_blank blank ≡ true)
    (fits : n ≤ total) (lf : Lawful f) where
  drop-pad : (ys : List A) → length ys ≡ n → drop n (pad total blank ys) ≡ drop n (replicate total blank)
  drop-pad ys l =
      ap (drop n) (pad-is total blank ys) ∙ drop_at ys (drop (length ys) (replicate total blank)) n l
      ∙ ap (λ (k : ℕ). drop k (replicate total blank)) l

  padded-back : (ys : List A) → length ys ≡ n → every f.good ys ≡ true
      → (eqb (length (pad total blank ys)) total && (every f.good (take n (pad total blank ys)) && every is_blank (drop n (pad total blank ys)))) ≡ true
  padded-back ys l h =
      let used : every f.good (take n (pad total blank ys)) ≡ true = rw (take-pad total blank n ys l) h in
      let unused : every is_blank (drop n (pad total blank ys)) ≡ true =
      rw (drop-pad ys l) (every_drop is_blank n (replicate total blank) (every-replicate is_blank total blank blank-is)) in
      and_both _ _ (eq-eqb (length (pad total blank ys)) total (length-pad total blank ys (omega arith))) (and_both _ _ used unused)

  pub padded-lawful : Lawful (padded total blank is_blank n f)
  unfolding padded map_reading
  padded-lawful =
      record {
        get-put = λ xs rest h.
            let k : (eqb (length xs) total ≡ true) × ((every f.good (take n xs) ≡ true) × (every is_blank (drop n xs) ≡ true)) = simp and-iff at h in
            let l : length xs ≡ total = eqb-true (length xs) total k.0 in
            let lt : length (take n xs) ≡ n = length-take-le n xs (omega arith) in
            let e : get_times f.get n (flat_map f.put (take n xs) ++ rest) ≡ got (take n xs) rest =
            rw lt at (times-get-put f lf (take n xs) rest k.1.0) in
            rw (e, pad-take total blank is_blank n is fits xs l k.1.1);
        put-get = λ bytes xs rest hb e.
            let (ys, ey, ep) = map_reading-got (pad total blank) (get_times f.get n bytes) xs rest e in
            let k : (length ys ≡ n) × (every f.good ys ≡ true) × (flat_map f.put ys ++ rest ≡ bytes) = times-put-get f lf n bytes ys rest hb ey in
            subst (λ (zs : List A). ((eqb (length zs) total && (every f.good (take n zs) && every is_blank (drop n zs))) ≡ true)
            × (flat_map f.put (take n zs) ++ rest ≡ bytes)) ep
            (padded-back ys k.0 k.1, ap (λ (zs : List A). flat_map f.put zs ++ rest) (take-pad total blank n ys k.0) ∙ k.2);
      }

-- ---- values held as others

module _ {A B : Type 0} (shaped : B → Bool) (hold : A → B) (release : B → A) (f : Format A)
    (there : (a : A) → f.good a ≡ true → (release (hold a) ≡ a) × (shaped (hold a) ≡ true))
    (back : (b : B) → shaped b ≡ true → f.good (release b) ≡ true → hold (release b) ≡ b) (lf : Lawful f) where
  pub via-lawful : Lawful (via shaped hold release f)
  unfolding via map_reading
  via-lawful =
      record {
        get-put = λ b rest h.
            let k : (shaped b ≡ true) × (f.good (release b) ≡ true) = simp and-iff at h in
            rw (lf.get-put (release b) rest k.1, back b k.0 k.1);
        put-get = λ bytes b rest hb e.
            let (a, ea, ep) = map_reading-got hold (f.get bytes) b rest e in
            let k : (f.good a ≡ true) × (f.put a ++ rest ≡ bytes) = lf.put-get bytes a rest hb ea in
            subst (λ (b : B). ((shaped b && f.good (release b)) ≡ true) × (f.put (release b) ++ rest ≡ bytes)) ep
            (and_both _ _ (there a k.0).1 (rw (there a k.0).0 k.0), rw (there a k.0).0 k.1);
      }

-- ---- values that pass a further test

module _ {A : Type 0} (test : A → Bool) (f : Format A) (lf : Lawful f) where
  pub such_that-lawful : Lawful (such_that test f)
  unfolding such_that read_if got_if
  such_that-lawful =
      record {
        get-put = λ a rest h.
            let k : (f.good a ≡ true) × (test a ≡ true) = simp and-iff at h in
            rw (lf.get-put a rest k.0, k.1);
        put-get = λ bytes a rest hb e.
            let (read, passes) = read_if-got test (f.get bytes) a rest e in
            let k : (f.good a ≡ true) × (f.put a ++ rest ≡ bytes) = lf.put-get bytes a rest hb read in
            (and_both _ _ k.0 passes, k.1);
      }
