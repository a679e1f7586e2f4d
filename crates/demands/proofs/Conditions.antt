-- Demand 1 from the calls' own contracts. Assumes nothing.
use mathlib.Core.Path.{◌≡◌, refl, sym, ap, ◌∙◌}
use mathlib.Core.List.{List, [], ◌∷◌, map, flatten, append-nil}
use mathlib.Core.Option.{Option, none, some}
use Prim.Native.Nat.{ℕ, ◌-◌}
use lib.ListN.{length, drop, replicate}
use mathlib.Core.Bool.{Bool, true}
use Rattle.std.specs.Prelude.{Option as Maybe, Result}
use native.Mathlib.Omega.{arith}
use Rattle.refusals.proofs.Refusals.{refusal-reply}
use Rattle.lists.specs.Tests.{every}
use Rattle.lists.proofs.Tests.{every-replicate}
use Rattle.refusals.specs.Refusals.{over_unless, Condition, order, follows, first_holding, Reply, refused, gives, reply, refusal_in}
use Rattle.query.specs.declared.Cell.{Cell}
use Rattle.query.specs.declared.Dependency.{Dependency}
use Rattle.query.specs.declared.JoinDependency.{JoinDependency}
use Rattle.query.specs.declared.CodePair.{CodePair}
use Rattle.query.specs.Types.{Query}
use Rattle.record.specs.declared.Record.{Record}
use Rattle.record.specs.declared.Outcome.{Outcome}
use Rattle.record_calls.specs.declared.Columns.{Columns}
use Rattle.record.specs.Calls.{outcome_reply, query_at}
use Rattle.refusals.specs.declared.Refusal.{Refusal}
use Rattle.refusals.specs.Refusal.{reply_of}
use Rattle.record.specs.Calls.{concluded, add_code, add_dependency, add_join, put_query}
use Rattle.record_calls.specs.Calls.{columns_reply, open_record, drop_query, determined_columns, blank_record}
use Rattle.comparison.specs.declared.Verdict.{Verdict}
use Rattle.comparison.specs.Comparison.{pair_refusal, comparison_refusal, verdict_on, chased_at, Compared, CheckedMapping}
use Rattle.reduction.specs.declared.Reduced.{Reduced}
use Rattle.reduction.specs.Reduced.{reduction_refusal, reduction_conditions, IsReduced}
use Rattle.words.specs.declared.Violation.{Violation}
use Rattle.database.specs.Calls.{tested, evaluation_refusal, evaluated, buffer_then, counted, place_answers}
use Rattle.passes.specs.Evaluated.{answer_words}
use Rattle.minimization.specs.Search as search
use Rattle.format.specs.Bytes.{number}
use Rattle.format.specs.File.{stretches, read_file, read_outcome, file_of}
use Rattle.format.specs.Faults.{part_at, schema_in, place_conditions, read_conditions}
use Rattle.format.proofs.Faults.{first-fault}
use Rattle.format.proofs.Stretches.{length-stretches}
use Rattle.writer.specs.Write.{writing_refusal, written, after_writing}
use Rattle.demands.specs.Demand1.{Meets, NothingToKeep, read_asks}
use Rattle.demands.specs.Demand1Calls.{OpenMeets, AddCodeMeets, AddMeets, AddJoinMeets, PutMeets, DropMeets, DeterminedMeets, CompareMeets, CheckMeets}
use Rattle.demands.specs.Demand1Calls.{ReduceMeets, TestMeets, EvaluateMeets, CountMeets, ReadMeets, ReadRecordMeets, WriteMeets}

-- ---- every call

module _ (conditions : List Condition) (said : Option ℕ) (Unchanged Due : Type 0) (first : said ≡ first_holding conditions)
    (turned_down : (n : ℕ) → first_holding conditions ≡ some n → Unchanged) (accepted : first_holding conditions ≡ none → Due) where
  -- What a call does, by what is found of its conditions
  stretches-meet : (stretches : List (List ℕ)) → map (λ (c : Condition). c.1) conditions ≡ flatten stretches
      → every (λ (ns : List ℕ). follows ns order) stretches ≡ true → Meets conditions stretches said Unchanged Due
  stretches-meet stretches asks ordered =
      record { asks = asks; ordered = ordered; first = first; unchanged = λ n e. turned_down n (sym first ∙ e); due = λ e. accepted (sym first ∙ e) }

  -- One that asks in one stretch
  meets : (numbers : List ℕ) → map (λ (c : Condition). c.1) conditions ≡ numbers → follows numbers order ≡ true
      → Meets conditions (numbers ∷ []) said Unchanged Due
  unfolding flatten every
  meets numbers asks ordered = stretches-meet (numbers ∷ []) (asks ∙ sym (append-nil numbers)) (rw ordered)

-- ---- the calls on the record alone

concluded-said : (f : Option ℕ) (given after : Record) → refusal_in (concluded f given after).0 ≡ f
concluded-said none given after = refl
concluded-said (some n) given after = refl

-- A call that hands back the record given, or leaves another
concluded-meets : (conditions : List Condition) (numbers : List ℕ) → map (λ (c : Condition). c.1) conditions ≡ numbers → follows numbers order ≡ true
    → (given after : Record) (o : Outcome) → outcome_reply o ≡ concluded (first_holding conditions) given after
    → Meets conditions (numbers ∷ []) (refusal_in (reply_of o.answer)) (o.«record» ≡ given) (o.«record» ≡ after)
concluded-meets conditions numbers asks ordered given after o e =
    meets conditions _ _ _
    (ap (λ (x : Reply (Unit {0}) × Record). refusal_in x.0) e ∙ concluded-said (first_holding conditions) given after)
    (λ n f. ap (λ (x : Reply (Unit {0}) × Record). x.1) (e ∙ ap (λ (y : Option ℕ). concluded y given after) f))
    (λ f. ap (λ (x : Reply (Unit {0}) × Record). x.1) (e ∙ ap (λ (y : Option ℕ). concluded y given after) f)) numbers asks ordered

pub open-meets : (widths : List ℕ) (o : Outcome) → outcome_reply o ≡ open_record widths → OpenMeets widths o
unfolding open_record follows
open-meets widths o e = concluded-meets _ _ refl refl _ _ o e

pub add-code-meets : (r : Record) (p : CodePair) (o : Outcome) → outcome_reply o ≡ add_code r p → AddCodeMeets r p o
unfolding add_code follows
add-code-meets r p o e = concluded-meets _ _ refl refl _ _ o e

pub add_meets : (r : Record) (d : Dependency) (o : Outcome) → outcome_reply o ≡ add_dependency r d → AddMeets r d o
unfolding add_dependency follows
add_meets r d o e = concluded-meets _ _ refl refl _ _ o e

pub add-join-meets : (r : Record) (j : JoinDependency) (o : Outcome) → outcome_reply o ≡ add_join r j → AddJoinMeets r j o
unfolding add_join follows
add-join-meets r j o e = concluded-meets _ _ refl refl _ _ o e

pub put_meets : (r : Record) (place : ℕ) (q : Query) (o : Outcome) → outcome_reply o ≡ put_query r place q → PutMeets r place q o
unfolding put_query follows
put_meets r place q o e = concluded-meets _ _ refl refl _ _ o e

pub drop-meets : (r : Record) (place : ℕ) (o : Outcome) → outcome_reply o ≡ drop_query r place → DropMeets r place o
unfolding drop_query follows
drop-meets r place o e = concluded-meets _ _ refl refl _ _ o e

-- A call that only asks: what it says is its refusal or the value that is due
reply-meets : {A : Type 0} (conditions : List Condition) (numbers : List ℕ) → map (λ (c : Condition). c.1) conditions ≡ numbers → follows numbers order ≡ true
    → (said : Reply A) (value : A) → said ≡ reply (first_holding conditions) value
    → Meets conditions (numbers ∷ []) (refusal_in said) NothingToKeep (said ≡ gives value)
reply-meets {A = A} conditions numbers asks ordered said value e =
    meets conditions _ _ _ (ap refusal_in e ∙ refusal-reply (first_holding conditions) value) (λ n f. tt)
    (λ f. e ∙ ap (λ (y : Option ℕ). reply y value) f) numbers asks ordered

pub determined-meets : (r : Record) (relation left : ℕ) (c : Result Columns Refusal) → columns_reply c ≡ determined_columns r relation left → DeterminedMeets r relation left c
unfolding determined_columns follows
determined-meets r relation left c e = reply-meets _ _ refl refl (columns_reply c) _ e

-- ---- comparing, checking a mapping, reducing

pub compare-meets : (r : Record) (p q : ℕ) (c : Result Verdict Refusal) → Compared r p q c → CompareMeets r p q c
unfolding comparison_refusal follows
compare-meets r p q c compared =
    meets _ _ _ _ (ap refusal_in compared.verdict ∙ refusal-reply _ on) (λ n f. tt) (λ f. compared) _ refl refl
  where
    on : ℕ
    on = verdict_on (chased_at r p).rows (search.mappable (query_at r q) (chased_at r p))

pub check-meets : (r : Record) (p q : ℕ) (images : List Cell) (c : Result Bool Refusal) → CheckedMapping r p q images c → CheckMeets r p q images c
unfolding pair_refusal follows
check-meets r p q images c e = reply-meets _ _ refl refl (reply_of c) _ e

-- What a reduction gives
abbrev Given : Type 0
Given = Reply (Unit {0}) × Record × ℕ × List Cell

pub reduce-meets : (r : Record) (source target : ℕ) (o : Reduced) → IsReduced r source target o → ReduceMeets r source target o
unfolding reduction_refusal follows
reduce-meets r source target o is =
    meets _ _ _ _ (go (first_holding (reduction_conditions r source target)) refl)
    (λ n f. let e = is.refused n f in (ap (λ (x : Given). x.1) e, ap (λ (x : Given). x.3) e, ap (λ (x : Given). x.2) e)) (λ f. is) _ refl refl
  where
    go : (f : Option ℕ) → first_holding (reduction_conditions r source target) ≡ f
        → refusal_in (reply_of o.answer) ≡ first_holding (reduction_conditions r source target)
    go none f = ap refusal_in (is.accepted f).done ∙ sym f
    go (some n) f = ap (λ (x : Given). refusal_in x.0) (is.refused n f) ∙ sym f

-- ---- databases

pub test-meets : (r : Record) (words : List ℕ) (v : Result (Maybe Violation) Refusal) → reply_of v ≡ tested r words → TestMeets r words v
unfolding tested follows
test-meets r words v e = reply-meets _ _ refl refl (reply_of v) _ e

pub evaluate-meets : (r : Record) (place : ℕ) (words before after : List ℕ) (a : Result ℕ Refusal)
    → reply_of a ≡ evaluated r place words (length before) → after ≡ buffer_then r place words before → EvaluateMeets r place words before after a
unfolding evaluated buffer_then evaluation_refusal follows
evaluate-meets r place words before after a is-a is-after =
    let found = answer_words (place_answers r place words) in
    meets _ _ _ _ (ap refusal_in is-a ∙ refusal-reply _ _)
    (λ n f. is-after ∙ ap (λ (y : Option ℕ). over_unless y found before) f)
    (λ f.
    (is-a ∙ ap (λ (y : Option ℕ). reply y (length (place_answers r place words))) f, is-after ∙ ap (λ (y : Option ℕ). over_unless y found before) f)) _ refl refl

pub count_meets : (r : Record) (place : ℕ) (words : List ℕ) (a : Result ℕ Refusal) → reply_of a ≡ counted r place words → CountMeets r place words a
unfolding evaluated evaluation_refusal follows
count_meets r place words a e = reply-meets _ _ refl refl (reply_of a) _ e

-- ---- files

pub write_meets : (r : Record) (before after : List ℕ) (w : Result ℕ Refusal) → reply_of w ≡ written r before → after ≡ after_writing r before
    → WriteMeets r before after w
unfolding written after_writing writing_refusal follows
write_meets r before after w is-w is-after =
    meets _ _ _ _ (ap refusal_in is-w ∙ refusal-reply _ _)
    (λ n f. is-after ∙ ap (λ (y : Option ℕ). over_unless y (file_of r) before) f)
    (λ f.
    (is-w ∙ ap (λ (y : Option ℕ). reply y (length (file_of r))) f, is-after ∙ ap (λ (y : Option ℕ). over_unless y (file_of r) before) f)) _ refl refl

-- The numbers of the faults of so many query parts, a stretch each
abbrev parts_ask : ℕ → List (List ℕ)
parts_ask n = replicate n (5 ∷ 6 ∷ [])

parts-ask : (schema : List ℕ) (parts : List (List ℕ)) → map (λ (c : Condition). c.1) (place_conditions schema parts) ≡ flatten (parts_ask (length parts))
unfolding place_conditions flatten
parts-ask schema [] = refl
parts-ask schema (p ∷ ps) = ap (λ (ns : List ℕ). 5 ∷ 6 ∷ ns) (parts-ask schema ps)

read-asks : (file : List ℕ) → map (λ (c : Condition). c.1) (read_conditions file) ≡ flatten (read_asks file)
unfolding read_conditions flatten
read-asks file =
    let parts = stretches (number 2 file - 2) file (drop 10 file) in
    ap (λ (ns : List ℕ). 1 ∷ 2 ∷ 3 ∷ 18 ∷ 4 ∷ 15 ∷ ns)
    (parts-ask (schema_in (part_at file 0)) parts ∙ ap (λ (n : ℕ). flatten (parts_ask n)) (length-stretches (number 2 file - 2) file (drop 10 file)))

read-ordered : (file : List ℕ) → every (λ (ns : List ℕ). follows ns order) (read_asks file) ≡ true
unfolding every follows
read-ordered file = every-replicate (λ (ns : List ℕ). follows ns order) (number 2 file - 2) (5 ∷ 6 ∷ []) refl

outcome-said : (x : Reply Record) → refusal_in (read_outcome x).0 ≡ refusal_in x
outcome-said (gives r) = refl
outcome-said (refused n) = refl

-- What a reply that is no refusal gives, and what one that is hands back
read-given : (x : Reply Record) → refusal_in x ≡ none → x ≡ gives (read_outcome x).1
read-given (gives r) e = refl
read-given (refused n) e = let z : ◌≡◌ {A = ℕ} 0 1 = cc in absurd (omega arith)

reply-blank : (x : Reply Record) (n : ℕ) → refusal_in x ≡ some n → (read_outcome x).1 ≡ blank_record
reply-blank (gives r) n e = let z : ◌≡◌ {A = ℕ} 0 1 = cc in absurd (omega arith)
reply-blank (refused m) n e = refl

pub read_meets : (file : List ℕ) (o : Outcome) → outcome_reply o ≡ read_outcome (read_file file) → ReadMeets file o
read_meets file o is =
    stretches-meet _ _ _ _ (ap (λ (x : Reply (Unit {0}) × Record). refusal_in x.0) is ∙ outcome-said (read_file file) ∙ first-fault file)
    (λ n f. ap (λ (x : Reply (Unit {0}) × Record). x.1) is ∙ reply-blank (read_file file) n (first-fault file ∙ f))
    (λ f. read-given (read_file file) (first-fault file ∙ f) ∙ ap (λ (x : Reply (Unit {0}) × Record). gives x.1) (sym is))
    (read_asks file) (read-asks file) (read-ordered file)

pub read-record-meets : (file : List ℕ) (o : Result Record Refusal) → reply_of o ≡ read_file file → ReadRecordMeets file o
read-record-meets file o is =
    stretches-meet _ _ _ _ (ap refusal_in is ∙ first-fault file) (λ n f. tt) (λ f. is) (read_asks file) (read-asks file) (read-ordered file)
