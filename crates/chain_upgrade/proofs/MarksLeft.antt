-- The marks of detached engines that calls still have.
use Rattle.std.proofs.Common.{◌≡◌, ◌≢◌, ℕ, ◌-◌, ◌≤◌, nat_le, Bool, true, false, zero, suc, max, min}
use Rattle.std.proofs.Common.{List, [], ◌∷◌, ◌++◌, length, map, set, slice_get, insert, remove}
use Rattle.std.proofs.Common.{All, Some, refl, ap, sym, ◌∙◌, arith}
use Rattle.std.specs.Bool.{OnTrue}
use Rattle.std.proofs.lemmas.Bool.Decides.{nat_tests}
use Rattle.std.proofs.lemmas.Grind.{common_steps}
use Rattle.std.proofs.lemmas.List.Elements.{All-cons, All-head, All-tail}
use Rattle.engine_core.specs.Engines.{EngineParts, clocked}
use Rattle.engine_core.specs.Chains.{Entry}
use Rattle.engine_core.specs.Marks.{PendingCall}
use Rattle.engine_core.specs.Working.{HasOnlyMarksOf, HasWorked}
use Rattle.engine_core.specs.declared.outcome.Outcome.{Outcome}
use Rattle.chain_upgrade.specs.Kept.{HasOnlyMarksInSuffix}
use Rattle.chain_upgrade.proofs.Stands.{same-map}
use Rattle.chain_upgrade.proofs.Turning.{All-at}

-- ---- calls that come and go

pub have-push : (es : List EngineParts) (n : ℕ) (calls : List PendingCall) (s : PendingCall) → HasOnlyMarksInSuffix es n calls → s.marks ≡ []
    → HasOnlyMarksInSuffix es n (calls ++ s ∷ [])
have-push es zero [] s have none = (λ attach apart. rw none refl, tt)
have-push es (suc n) [] s have none = tt
have-push es zero (t ∷ calls) s have none = (have.0, have-push es zero calls s have.1 none)
have-push es (suc n) (t ∷ calls) s have none = have-push es n calls s have none

-- how many of the first `n` calls remain, without the one at an index
abbrev left : ℕ → ℕ → ℕ
left n j = max (min n j) (n - 1)

left-none : (j : ℕ) → left zero j ≡ zero
left-none j = omega arith

left-first : (n : ℕ) → left (suc n) zero ≡ n
left-first n = omega arith

left-more : (n j : ℕ) → left (suc n) (suc j) ≡ suc (left n j)
left-more n j = omega arith

without-none : (es : List EngineParts) (j : ℕ) (calls : List PendingCall) → HasOnlyMarksInSuffix es zero calls → HasOnlyMarksInSuffix es zero (remove calls j)
without-none es zero [] have = tt
without-none es (suc j) [] have = tt
without-none es zero (s ∷ calls) have = have.1
without-none es (suc j) (s ∷ calls) have = (have.0, without-none es j calls have.1)

pub have-without : (es : List EngineParts) (n j : ℕ) (calls : List PendingCall) → HasOnlyMarksInSuffix es n calls → HasOnlyMarksInSuffix es (max (min n j) (n - 1)) (remove calls j)
have-without es zero j calls have = rw (left-none j) (without-none es j calls have)
have-without es (suc n) zero [] have = tt
have-without es (suc n) (suc j) [] have = tt
have-without es (suc n) zero (s ∷ calls) have = rw (left-first n) have
have-without es (suc n) (suc j) (s ∷ calls) have = rw (left-more n j) (have-without es n j calls have)

pub have-all : (es : List EngineParts) (n : ℕ) (calls : List PendingCall) → length calls ≤ n → HasOnlyMarksInSuffix es n calls
have-all es n [] all = tt
have-all es zero (s ∷ calls) all = absurd (omega arith)
have-all es (suc n) (s ∷ calls) all = have-all es n calls (omega arith)

-- ---- the call at an index

pub have-at : (es : List EngineParts) (n j : ℕ) (calls : List PendingCall) (s : PendingCall) → HasOnlyMarksInSuffix es n calls → n ≤ j → slice_get calls j ≡ Some s
    → HasOnlyMarksOf es s
have-at es n j [] s have behind is = absurd cc
have-at es zero zero (t ∷ calls) s have behind is = let there : t ≡ s = cc in rw (sym there) have.0
have-at es zero (suc j) (t ∷ calls) s have behind is = have-at es zero j calls s have.1 (omega arith) is
have-at es (suc n) zero (t ∷ calls) s have behind is = absurd (omega arith)
have-at es (suc n) (suc j) (t ∷ calls) s have behind is = have-at es n j calls s have (omega arith) is

pub where-behind : (stale place : ℕ) {P : Type 0} → (stale ≤ place → P) → OnTrue (nat_le stale place) P
where-behind stale place {P} holds = by (nat_le stale place) (λ known. holds (grind (arith, nat_tests, common_steps)))
  where
    by : (b : Bool) → (b ≡ true → P) → OnTrue b P
    by true holds = holds refl
    by false holds = tt

have-set : (es : List EngineParts) (n j : ℕ) (calls : List PendingCall) (s : PendingCall) → HasOnlyMarksInSuffix es n calls → HasOnlyMarksOf es s → HasOnlyMarksInSuffix es n (set calls j s)
have-set es n j [] s have has = tt
have-set es zero zero (t ∷ calls) s have has = (has, have.1)
have-set es zero (suc j) (t ∷ calls) s have has = (have.0, have-set es zero j calls s have.1 has)
have-set es (suc n) zero (t ∷ calls) s have has = have
have-set es (suc n) (suc j) (t ∷ calls) s have has = have-set es n j calls s have has

-- ---- engines that are attached or replaced

have-for : (es es' : List EngineParts) (n : ℕ) (calls : List PendingCall) → ((s : PendingCall) → HasOnlyMarksOf es s → HasOnlyMarksOf es' s) → HasOnlyMarksInSuffix es n calls
    → HasOnlyMarksInSuffix es' n calls
have-for es es' n [] more have = tt
have-for es es' zero (s ∷ calls) more have = (more s have.0, have-for es es' zero calls more have.1)
have-for es es' (suc n) (s ∷ calls) more have = have-for es es' n calls more have

abbrev attachments : List EngineParts → List ℕ
attachments es = map (λ e. e.entry.attach) es

apart-as : (es es' : List EngineParts) (attach : ℕ) → attachments es' ≡ attachments es → All (λ e. e.entry.attach ≢ attach) es' → All (λ e. e.entry.attach ≢ attach) es
apart-as [] es' attach same apart = λ k d within. absurd (omega arith)
apart-as (e ∷ es) [] attach same apart = absurd cc
apart-as (e ∷ es) (e' ∷ es') attach same apart =
    let first : e'.entry.attach ≡ e.entry.attach = cc in
    let rest : attachments es' ≡ attachments es = cc in
    All-cons (λ e. e.entry.attach ≢ attach) e es (λ is. All-head (λ e. e.entry.attach ≢ attach) e' es' apart (first ∙ is))
    (apart-as es es' attach rest (All-tail (λ e. e.entry.attach ≢ attach) e' es' apart))

pub have-same : (es es' : List EngineParts) (n : ℕ) (calls : List PendingCall) → map (λ e. e.entry.attach) es' ≡ map (λ e. e.entry.attach) es → HasOnlyMarksInSuffix es n calls
    → HasOnlyMarksInSuffix es' n calls
have-same es es' n calls same have = have-for es es' n calls (λ s has attach apart. has attach (apart-as es es' attach same apart)) have

apart-insert : (es : List EngineParts) (p : ℕ) (e : EngineParts) (attach : ℕ) → All (λ e. e.entry.attach ≢ attach) (insert es p e) → All (λ e. e.entry.attach ≢ attach) es
apart-insert [] p e attach apart = λ k d within. absurd (omega arith)
apart-insert (x ∷ xs) zero e attach apart = All-tail (λ e. e.entry.attach ≢ attach) e (x ∷ xs) apart
apart-insert (x ∷ xs) (suc p) e attach apart =
    All-cons (λ e. e.entry.attach ≢ attach) x xs (All-head (λ e. e.entry.attach ≢ attach) x (insert xs p e) apart)
    (apart-insert xs p e attach (All-tail (λ e. e.entry.attach ≢ attach) x (insert xs p e) apart))

pub same-attachments : (now : ℕ) (es : List EngineParts) → map (λ e. e.entry.attach) (map (λ e. clocked now e) es) ≡ map (λ e. e.entry.attach) es
same-attachments now [] = refl
same-attachments now (e ∷ es) = let rest = same-attachments now es in cc

pub have-insert : (es : List EngineParts) (p : ℕ) (e : EngineParts) (n : ℕ) (calls : List PendingCall) → HasOnlyMarksInSuffix es n calls → HasOnlyMarksInSuffix (insert es p e) n calls
have-insert es p e n calls have = have-for es (insert es p e) n calls (λ s has attach apart. has attach (apart-insert es p e attach apart)) have

-- ---- a turn

pub have-turn : (es : List EngineParts) (n p j moment : ℕ) (calls : List PendingCall) (outcome : Outcome) (es' : List EngineParts) (calls' : List PendingCall)
    → HasWorked es calls p j moment outcome es' calls' → HasOnlyMarksInSuffix es n calls → HasOnlyMarksInSuffix es' n calls'
have-turn es n p j moment calls outcome es' calls' w have =
    let left : HasOnlyMarksOf es w.call' = λ attach apart. w.leaves_marks.others_none attach
    (λ same. All-at (λ e. e.entry.attach ≢ attach) es p w.engine apart w.is_engine (sym same)) (w.keeps.gone attach apart) in
    let same = ap attachments w.others ∙ same-map (λ (e : EngineParts). e.entry.attach) es p w.engine w.engine' w.is_engine (ap (λ (e : Entry). e.attach) w.leaves_engine.entry) in
    have-same es es' n calls' same (rw w.other_calls (have-set es n j calls w.call' have left))
