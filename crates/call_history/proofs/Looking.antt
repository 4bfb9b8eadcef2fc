-- How an event changes the notes and the form of a call; and an entry that lets a call pass does so at every
-- timestamp.
use Rattle.std.proofs.Common.{◌≡◌, ◌≢◌, ℕ, true, false, ◌&&◌, ◌==◌, List, sym, subst}
use Rattle.std.specs.Prelude.{Option, Some, None, IsSomeAnd}
use Rattle.std.specs.Str.{bytes_eq}
use Rattle.std.proofs.lemmas.Bool.{eq-eqb, ne_eqb, and_left, and_right, and_from, false_from_ne_true}
use Rattle.std.proofs.lemmas.Slice.Eq.{bytes_eq-Decides}
use Rattle.mrpc_table.specs.declared.call.Call.{Call}
use Rattle.engine_core.specs.Answers.{Past, pass, IsEntryAnswer, allows, denies, was_charged, charges, holds, refuses, is_within, is_over, draws, was_counted, counts, is_clear, redacts}
use Rattle.engine_core.specs.Chains.{Entry}
use Rattle.engine_core.specs.declared.policy.Policy.{Policy}
use Rattle.call_history.specs.Trace.{Trace, level_in_trace, timestamp, noted, form}
use Rattle.call_history.specs.Rules.{JudgeContext, IsAllowedInTrace}

-- ---- names

pub same-name : (a b : List ℕ) → bytes_eq a b ≡ true → a ≡ b
same-name a b = (bytes_eq-Decides a b).0

pub equal-name : (a b : List ℕ) → a ≡ b → bytes_eq a b ≡ true
equal-name a b = (bytes_eq-Decides a b).1

pub other-name : (a b : List ℕ) → a ≢ b → bytes_eq a b ≡ false
other-name a b apart = false_from_ne_true (bytes_eq a b) (λ is. apart (same-name a b is))

-- ---- an entry lets a call pass

pub pass-always : (policy : Policy) (level_in_trace timestamp after later : ℕ) (form : Call) (past : Past)
    → IsEntryAnswer policy level_in_trace timestamp form past pass → IsEntryAnswer policy after later form past pass
pass-always policy level_in_trace timestamp after later form past (allows p is allow answer) = allows p is allow answer
pass-always policy level_in_trace timestamp after later form past (denies p is allow answer) = absurd cc
pass-always policy level_in_trace timestamp after later form past (was_charged r is some answer) = was_charged r is some answer
pass-always policy level_in_trace timestamp after later form past (charges r is none enough answer) = absurd cc
pass-always policy level_in_trace timestamp after later form past (holds r is none less mode answer) = absurd cc
pass-always policy level_in_trace timestamp after later form past (refuses r is none less mode answer) = absurd cc
pass-always policy level_in_trace timestamp after later form past (is_within tenant per cap ticket is some less answer) = is_within tenant per cap ticket is some less answer
pass-always policy level_in_trace timestamp after later form past (is_over tenant per cap ticket is some more answer) = absurd cc
pass-always policy level_in_trace timestamp after later form past (draws tenant per cap ticket is none answer) = absurd cc
pass-always policy level_in_trace timestamp after later form past (was_counted is some answer) = was_counted is some answer
pass-always policy level_in_trace timestamp after later form past (counts is none answer) = absurd cc
pass-always policy level_in_trace timestamp after later form past (is_clear clears is left answer) = is_clear clears is left answer
pass-always policy level_in_trace timestamp after later form past (redacts clears is other answer) = absurd cc

-- it does so while the form and the notes are unchanged
lets-by : (policy : Policy) (level_in_trace timestamp after later : ℕ) (form : Option Call) (past : Past)
    → IsSomeAnd form (λ call. IsEntryAnswer policy level_in_trace timestamp call past pass) → IsSomeAnd form (λ call. IsEntryAnswer policy after later call past pass)
lets-by policy level_in_trace timestamp after later None past lets = lets
lets-by policy level_in_trace timestamp after later (Some call) past lets = pass-always policy level_in_trace timestamp after later call past lets

pub lets-still : (u : JudgeContext) (past new : Trace) (seq : ℕ) (e : Entry) → form u.conn seq new ≡ form u.conn seq past → noted e.name seq new ≡ noted e.name seq past
    → IsAllowedInTrace u past seq e → IsAllowedInTrace u new seq e
lets-still u past new seq e same_form same_past lets =
    subst (λ f. IsSomeAnd f (λ call. IsEntryAnswer e.policy (level_in_trace e.name new) (timestamp new) call (noted e.name seq new) pass)) (sym same_form)
    (subst (λ p. IsSomeAnd (form u.conn seq past) (λ call. IsEntryAnswer e.policy (level_in_trace e.name new) (timestamp new) call p pass)) (sym same_past)
    (lets-by e.policy (level_in_trace e.name past) (timestamp past) (level_in_trace e.name new) (timestamp new) (form u.conn seq past) (noted e.name seq past) lets))

-- ---- notes

-- the test for a note's call and name
pub is-for : (call seq : ℕ) (other name : List ℕ) → call ≡ seq → other ≡ name → ((call == seq) && bytes_eq other name) ≡ true
is-for call seq other name same is = and_from (call == seq) (bytes_eq other name) (eq-eqb call seq same) (equal-name other name is)

pub isnt-call : (call seq : ℕ) (other name : List ℕ) → call ≢ seq → ((call == seq) && bytes_eq other name) ≡ false
isnt-call call seq other name apart = and_left (call == seq) (bytes_eq other name) (ne_eqb call seq apart)

pub isnt-named : (call seq : ℕ) (other name : List ℕ) → other ≢ name → ((call == seq) && bytes_eq other name) ≡ false
isnt-named call seq other name apart = and_right (call == seq) (bytes_eq other name) (other-name other name apart)
