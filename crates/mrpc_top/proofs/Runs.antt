-- Words name at most one run, and then no other command.
use Rattle.std.proofs.Common.{◌≡◌, ◌∙◌, ◌<◌, ◌≤◌, ap, arith, refl, subst, sym, ℕ, List, [], ◌∷◌, None, Option, Some}
use Rattle.std.specs.Prelude.{IfNone, String, codes, length, map, slice_index_or, string_bytes, unwrap_or}
use Rattle.std.specs.declared.alloc.Global.{Global}
use Rattle.mrpc_top.specs.Command.{IsNamedCommand}
use Rattle.mrpc_top.specs.Runs.{IsCallCount, IsNamedRun}
use Rattle.mrpc_top.specs.declared.command.Command.{Command}
use Rattle.mrpc_top.specs.declared.command.Command.TheVariants.{Replay, Decode, Check, Audit}
use Rattle.drill.specs.declared.plan.TheConstants.{MAX_CALLS}
use Rattle.mrpc_top.specs.declared.run.RunTarget.{RunTarget}
use Rattle.mrpc_top.specs.declared.run.RunTarget.TheVariants.{Scenario, Drill}

-- the first two bytes of the first word
abbrev second_byte : List (List ℕ) → ℕ
second_byte ((a ∷ b ∷ word) ∷ words) = b
second_byte _ = 0

abbrev first_byte : List (List ℕ) → ℕ
first_byte ((b ∷ word) ∷ words) = b
first_byte _ = 0

-- the first two words
abbrev first_word : List (List ℕ) → List ℕ
first_word (a ∷ words) = a
first_word _ = []

abbrev second_word : List (List ℕ) → List ℕ
second_word (a ∷ b ∷ words) = b
second_word _ = []

-- two words that aren't `drill` and a number of calls name no run
pub no_drill : (words : List (String Global)) (word number : List ℕ) → map string_bytes words ≡ word ∷ number ∷ []
    → ((calls : ℕ) → word ≡ codes "drill" → IsCallCount number calls → ⊥) → (running : RunTarget)
    → IsNamedRun words running → ⊥
no_drill words word number are none Scenario names =
    let e : 2 ≡ 1 = ap length (sym are ∙ names) in
    absurd (omega (arith, e))
no_drill words word number are none (Drill calls) names =
    let whole = sym are ∙ names.1 in
    none calls (ap first_word whole) (subst (λ w. IsCallCount w calls) (sym (ap second_word whole)) names.2)

pub none-then : {A : Type 0} (o : Option A) (P Q : Type 0) → (P → Q) → IfNone o P → IfNone o Q
none-then None P Q f p = f p
none-then (Some a) P Q f p = tt

pub no_command : (words : List (String Global)) (running : RunTarget) (command : Command) → IsNamedRun words running
    → IsNamedCommand words command → ⊥
no_command words Scenario Replay run names =
    let e : 117 ≡ 101 = ap second_byte (sym run ∙ names) in
    absurd (omega (arith, e))
no_command words Scenario Decode run names =
    let e : 114 ≡ 100 = ap first_byte (sym run ∙ names) in
    absurd (omega (arith, e))
no_command words Scenario Check run names =
    let e : 114 ≡ 99 = ap first_byte (sym run ∙ names) in
    absurd (omega (arith, e))
no_command words Scenario Audit run names =
    let e : 114 ≡ 97 = ap first_byte (sym run ∙ names) in
    absurd (omega (arith, e))
no_command words (Drill calls) command run names =
    let e : 2 ≡ 1 = ap length (sym run.1 ∙ names) in
    absurd (omega (arith, e))

-- a word spells at most one number of calls
pub one_count : (word : List ℕ) (calls many : ℕ) → IsCallCount word calls → IsCallCount word many → many ≡ calls
one_count word calls many a b = ap (λ n. unwrap_or n 0) (sym b.number ∙ a.number)

pub one_run : (words : List (String Global)) (found running : RunTarget) → IsNamedRun words found → IsNamedRun words running
    → running ≡ found
one_run words Scenario Scenario a b = refl
one_run words Scenario (Drill calls) a b =
    let e : 1 ≡ 2 = ap length (sym a ∙ b.1) in
    absurd (omega (arith, e))
one_run words (Drill calls) Scenario a b =
    let e : 1 ≡ 2 = ap length (sym b ∙ a.1) in
    absurd (omega (arith, e))
one_run words (Drill calls) (Drill many) a b =
    let same : b.0 ≡ a.0 = ap second_word (sym b.1 ∙ a.1) in
    ap Drill (one_count a.0 calls many a.2 (subst (λ w. IsCallCount w many) same b.2))

-- what words name has few calls
pub few_calls : (words : List (String Global)) (running : RunTarget) (calls : ℕ) → IsNamedRun words running
    → running ≡ Drill calls → calls ≤ MAX_CALLS
few_calls words running calls named is =
    let drill : IsNamedRun words (Drill calls) = subst (λ r. IsNamedRun words r) is named in
    drill.2.most

-- a list of two words, by what is read of it
pub two_words : (words : List (String Global)) (a b : String Global) (word number : List ℕ) → 2 ≤ length words
    → length words < 3 → a ≡ slice_index_or words 0 a → b ≡ slice_index_or words 1 b → word ≡ string_bytes a
    → number ≡ string_bytes b → map string_bytes words ≡ word ∷ number ∷ []
two_words [] a b word number least most first second w n = absurd (omega (arith, least))
two_words (x ∷ []) a b word number least most first second w n = absurd (omega (arith, least))
two_words (x ∷ y ∷ z ∷ rest) a b word number least most first second w n = absurd (omega (arith, most))
two_words (x ∷ y ∷ []) a b word number least most first second w n = cc
