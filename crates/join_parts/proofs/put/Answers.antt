-- `put` puts words one by one. Assumes nothing.
use mathlib.Core.Path.{◌≡◌, sym, ap, ◌∙◌}
use mathlib.Core.List.{List, ◌++◌, append_assoc}
use Prim.Native.Nat.{ℕ, ◌+◌, ◌-◌, ◌<◌}
use native.Mathlib.Numerals.{add-one}
use native.Mathlib.Omega.{arith}
use lib.ListN.{length, take, drop, get_or, set, length-drop}
use lib.Seq.{paste, paste-suc, get_or-drop, drop_at, length-take-le}
use Rattle.join_parts.proofs.put.Goals as goal

pub loop-i-preserved : goal.loop-i-preserved
loop-i-preserved c =
    let a = c.args in
    let i = c.loop-i.i in
    let start = a.end - a.n in
    let from = drop a.at a.words.now in
    let inside : i < length from = omega (arith, c.requires, length-drop a.at a.words.now) in
    ap (λ (b : List ℕ). set b (start + i) (get_or a.words.now (a.at + i) 0)) c.loop-i.invariant
    ∙ ap (λ (x : ℕ). set (paste a.buffer.now start from i) (start + i) x) (sym (get_or-drop a.at a.words.now i 0))
    ∙ paste-suc a.buffer.now start from i 0 (omega (arith, c.requires)) inside ∙ ap (paste a.buffer.now start from) (sym (add-one i))

pub returns-clause-put : goal.returns-clause-put
returns-clause-put c =
    let a = c.args in
    let start = a.end - a.n in
    let from = drop a.at a.words.now in
    let old = a.buffer.now in
    let all : c.loop-i.i ≡ a.n = omega arith in
    let end : start + a.n ≡ a.end = omega (arith, c.requires) in
    ap (drop start) (c.loop-i.invariant ∙ ap (paste old start from) all ∙ append_assoc (take start old) (take a.n from) (drop (start + a.n) old))
    ∙ drop_at (take start old) (take a.n from ++ drop (start + a.n) old) start (length-take-le start old (omega (arith, c.requires)))
    ∙ ap (λ (k : ℕ). take a.n from ++ drop k old) end
