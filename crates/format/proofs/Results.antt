-- Results: values and refusals, parts that are read to their end, and the outcome of a call.
use mathlib.Core.Path.{◌≡◌, refl, sym, ap, ◌∙◌}
use mathlib.Core.Bool.{true}
use mathlib.Core.List.{List, [], ◌∷◌, ◌++◌, append-nil}
use Prim.Native.Nat.{ℕ}
use Rattle.record.specs.declared.Record.{Record}
use Rattle.std.specs.Prelude.{Ok}
use Rattle.record.specs.declared.Outcome.{Outcome}
use Rattle.record.specs.Calls.{outcome_reply}
use Rattle.refusals.specs.Refusal.{reply_of}
use Rattle.format.specs.Bytes.{Bytes}
use Rattle.format.specs.Format.{Reading, none, got, Format, Lawful}
use Rattle.refusals.proofs.Refusals.{refused-gives}
use Rattle.refusals.specs.Refusals.{Reply, gives, refused, ◌>>=◌}
use Rattle.format.specs.File.{complete, read_outcome}

-- what two steps give
pub bind_ok : {A B : Type 0} (o : Reply A) (next : A → Reply B) (b : B) → (o >>= next) ≡ gives b → (a : A) × (o ≡ gives a) × (next a ≡ gives b)
unfolding ◌>>=◌
bind_ok (gives a) next b e = (a, refl, e)
bind_ok (refused n) next b e = absurd (refused-gives e)

-- what a part that is accepted reads
pub complete-ok : {A : Type 0} (n : ℕ) (o : Reading A) (a : A) → complete n o ≡ gives a → o ≡ got a []
unfolding complete
complete-ok n none a e = absurd (refused-gives e)
complete-ok n (got b []) a e = let p : b ≡ a = cc in rw p
complete-ok n (got b (x ∷ rest)) a e = absurd (refused-gives e)

-- a part that holds a good value and no more
pub complete-put : {A : Type 0} (n : ℕ) (f : Format A) → Lawful f → (a : A) → f.good a ≡ true → complete n (f.get (f.put a)) ≡ gives a
unfolding complete
complete-put n f lf a h = let e : f.get (f.put a) ≡ got a [] = rw append-nil at (lf.get-put a [] h) in rw e

-- what a part that is accepted holds
pub complete-get : {A : Type 0} (n : ℕ) (f : Format A) → Lawful f → (part : List ℕ) (a : A) → Bytes part → complete n (f.get part) ≡ gives a
    → (f.good a ≡ true) × (f.put a ≡ part)
complete-get n f lf part a hb e =
    let k : (f.good a ≡ true) × (f.put a ++ [] ≡ part) = lf.put-get part a [] hb (complete-ok n (f.get part) a e) in
    (k.0, rw append-nil at k.1)

-- an outcome that is done is that of an accepted file
pub outcome-done : (x : Reply Record) (o : Outcome) → outcome_reply o ≡ read_outcome x → o.answer ≡ Ok tt → x ≡ gives o.«record»
outcome-done (gives r) o e a = ap gives (sym (ap (λ (s : Reply (Unit {0}) × Record). s.1) e))
outcome-done (refused n) o e a = absurd (refused-gives (sym (ap (λ (s : Reply (Unit {0}) × Record). s.0) e) ∙ ap reply_of a))
