-- n values read one after another, into as much room.
use mathlib.Core.Path.{◌≡◌, refl, sym, ap, ◌∙◌}
use mathlib.Core.List.{List, [], ◌∷◌, ◌++◌, append-nil}
use Prim.Native.Nat.{ℕ, zero, suc, ◌+◌}
use native.Mathlib.Nat.{sub-zero}
use native.Mathlib.Omega.{arith}
use lib.ListN.{length, drop_of_length-le}
use Rattle.lists.specs.Over.{over}
use Rattle.format.specs.Format.{Reading, none, got, map_reading, get_times}
use Rattle.format.proofs.Formats.{then_read-got, map_reading-got}
use Rattle.format.proofs.Filling.{Filling}

module _ {A : Type 0} (get : List ℕ → Reading A) where
  pub times-length : (n : ℕ) (bytes : List ℕ) (xs : List A) (rest : List ℕ) → get_times get n bytes ≡ got xs rest → length xs ≡ n
  unfolding get_times
  times-length zero bytes xs rest e = let a : [] ≡ xs = cc in sym (ap length a)
  times-length (suc n) bytes xs rest e =
      let (x, r, ex, e₁) = then_read-got (get bytes) (λ x rest. map_reading (λ xs. x ∷ xs) (get_times get n rest)) xs rest e in
      let (ys, ey, ep) = map_reading-got (λ ys. x ∷ ys) (get_times get n r) xs rest e₁ in
      sym (ap length ep) ∙ ap suc (times-length n r ys rest ey)

  whole : (n : ℕ) (xs : List A) (o : Reading (List A)) → length xs ≡ n → ((ys : List A) (rest : List ℕ) → o ≡ got ys rest → length ys ≡ n)
      → o ≡ map_reading (over xs 0) o
  unfolding map_reading
  whole n xs none l h = refl
  whole n xs (got ys rest) l h =
      let k : length ys ≡ n = h ys rest refl in
      ap (λ (zs : List A). got zs rest) (sym (ap (λ (zs : List A). ys ++ zs) (drop_of_length-le xs {i = 0 + length ys} (omega arith)) ∙ append-nil ys))

  -- A loop that reads into the room starts so
  pub into-starts : (n : ℕ) (xs : List A) (bytes : List ℕ) → length xs ≡ n → Filling get (get_times get n bytes) n xs 0 bytes
  into-starts n xs bytes l =
      record {
        rest = whole n xs (get_times get n bytes) l (λ ys rest e. times-length n bytes ys rest e)
            ∙ ap (λ (k : ℕ). map_reading (over xs 0) (get_times get k bytes)) (sym (sub-zero n));
      }
