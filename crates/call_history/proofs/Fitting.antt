-- What an entry has noted of a call is what a policy of its kind notes.
use Rattle.std.proofs.Common.{◌≡◌, ◌≢◌, ℕ, ◌+◌, ◌-◌, ◌/◌, min, ◌==◌, ◌&&◌, if◌then◌else◌, Bool, true, false, cond}
use Rattle.std.proofs.Common.{not, inl, inr, List, [], ◌∷◌, ◌++◌, map, take, drop, refl, sym, ap, ◌∙◌, subst, arith}
use Rattle.std.proofs.Common.{take-append-drop}
use Rattle.std.specs.Prelude.{Contains, filter, IsSomeAnd, Option, Some, None}
use Rattle.std.specs.Str.{bytes_eq}
use Rattle.std.proofs.lemmas.Bool.{and_parts, true_from_ne_false}
use Rattle.std.proofs.lemmas.List.Elements.{Contains-append_cases, Contains-append_left, Contains-append_right}
use Rattle.mrpc_table.specs.declared.call.Call.{Call}
use Rattle.engine_core.specs.Answers.{Past, nothing, charged, drawn, counted, note, IsEntryAnswer, allows, denies}
use Rattle.engine_core.specs.Answers.{was_charged, charges, holds, refuses, is_within, is_over, draws, was_counted}
use Rattle.engine_core.specs.Answers.{counts, is_clear, redacts}
use Rattle.engine_core.specs.Chains.{Chain, HasChanged, Entry, new_entry, upgraded, is_other, other_kind}
use Rattle.engine_core.specs.Policies.{is_same_kind}
use Rattle.engine_core.specs.declared.op.Op.TheVariants.{Attach, Detach, Upgrade}
use Rattle.engine_core.specs.declared.outcome.Noted.{Noted}
use Rattle.engine_core.specs.declared.outcome.Noted.TheVariants as notes
use Rattle.engine_core.specs.declared.policy.Policy.{Policy}
use Rattle.engine_core.specs.declared.policy.Policy.TheVariants.{Access, Rate, Quota, Count, Redact}
use Rattle.call_history.specs.Trace.{Trace, chain, noted, form, level_in_trace, timestamp}
use Rattle.engine_core.specs.Chains.{changed, is_named}
use Rattle.call_history.specs.Legal.{IsLegalPrefix}
use Rattle.call_history.specs.Rules.{JudgeContext, IsNoteDue}
use Rattle.call_history.specs.declared.happening.Happening.TheVariants.{Op, Charged, Drawn, Counted}
use Rattle.call_history.proofs.Chained.{contains-in, same-entry}
use Rattle.call_history.proofs.Further.{contains-cases, contains-first, contains-later}
use Rattle.call_history.proofs.Looking.{same-name, equal-name}
use Rattle.call_history.proofs.Prefixes.{StaysChain, chained}

-- what policies of each kind note
abbrev pub Fits : Policy → Past → Type 0
Fits policy nothing = Unit {0}
Fits (Rate r) charged = Unit {0}
Fits (Quota tenant per cap) (drawn ticket) = Unit {0}
Fits Count counted = Unit {0}
Fits policy past = ⊥

-- so does a policy of the same kind
fits-kind : (old new : Policy) (past : Past) → is_same_kind old new ≡ true → Fits old past → Fits new past
fits-kind old new nothing same fits = tt
fits-kind (Rate r) (Rate s) charged same fits = tt
fits-kind (Quota t per cap) (Quota t' per' cap') (drawn ticket) same fits = tt
fits-kind Count Count counted same fits = tt
fits-kind (Access p) new charged same fits = absurd fits
fits-kind (Access p) new (drawn ticket) same fits = absurd fits
fits-kind (Access p) new counted same fits = absurd fits
fits-kind (Rate r) new (drawn ticket) same fits = absurd fits
fits-kind (Rate r) new counted same fits = absurd fits
fits-kind (Quota t per cap) new charged same fits = absurd fits
fits-kind (Quota t per cap) new counted same fits = absurd fits
fits-kind Count new charged same fits = absurd fits
fits-kind Count new (drawn ticket) same fits = absurd fits
fits-kind (Redact clears) new charged same fits = absurd fits
fits-kind (Redact clears) new (drawn ticket) same fits = absurd fits
fits-kind (Redact clears) new counted same fits = absurd fits
fits-kind (Rate r) (Access p) charged same fits = absurd cc
fits-kind (Rate r) (Quota t per cap) charged same fits = absurd cc
fits-kind (Rate r) Count charged same fits = absurd cc
fits-kind (Rate r) (Redact clears) charged same fits = absurd cc
fits-kind (Quota t per cap) (Access p) (drawn ticket) same fits = absurd cc
fits-kind (Quota t per cap) (Rate r) (drawn ticket) same fits = absurd cc
fits-kind (Quota t per cap) Count (drawn ticket) same fits = absurd cc
fits-kind (Quota t per cap) (Redact clears) (drawn ticket) same fits = absurd cc
fits-kind Count (Access p) counted same fits = absurd cc
fits-kind Count (Rate r) counted same fits = absurd cc
fits-kind Count (Quota t per cap) counted same fits = absurd cc
fits-kind Count (Redact clears) counted same fits = absurd cc

-- ---- a note that is due

-- what was noted after a note
abbrev pub past_by : Noted → Past
past_by notes.Nothing = nothing
past_by (notes.Charged left) = charged
past_by (notes.Drawn window ticket) = drawn ticket
past_by notes.Counted = counted

note-fits : (policy : Policy) (level_in_trace timestamp : ℕ) (form : Call) (past : Past) (n : Noted) → IsEntryAnswer policy level_in_trace timestamp form past (note n) → Fits policy (past_by n)
note-fits policy level_in_trace timestamp form past n (allows p is allow answer) = absurd cc
note-fits policy level_in_trace timestamp form past n (denies p is allow answer) = absurd cc
note-fits policy level_in_trace timestamp form past n (was_charged r is some answer) = absurd cc
note-fits policy level_in_trace timestamp form past n (charges r is none enough answer) =
    let same : n ≡ notes.Charged (level_in_trace - r.per) = cc in subst (λ (m : Noted). Fits policy (past_by m)) (sym same) (subst (λ (p : Policy). Fits p charged) (sym is) tt)
note-fits policy level_in_trace timestamp form past n (holds r is none less mode answer) = absurd cc
note-fits policy level_in_trace timestamp form past n (refuses r is none less mode answer) = absurd cc
note-fits policy level_in_trace timestamp form past n (is_within tenant per cap ticket is some less answer) = absurd cc
note-fits policy level_in_trace timestamp form past n (is_over tenant per cap ticket is some more answer) = absurd cc
note-fits policy level_in_trace timestamp form past n (draws tenant per cap ticket is none answer) =
    let same : n ≡ notes.Drawn (min (timestamp / per) 1023) ticket = cc in
    subst (λ (m : Noted). Fits policy (past_by m)) (sym same)
    (subst (λ (p : Policy). Fits p (drawn ticket)) (sym is) tt)
note-fits policy level_in_trace timestamp form past n (was_counted is some answer) = absurd cc
note-fits policy level_in_trace timestamp form past n (counts is none answer) =
    let same : n ≡ notes.Counted = cc in subst (λ (m : Noted). Fits policy (past_by m)) (sym same) (subst (λ (p : Policy). Fits p counted) (sym is) tt)
note-fits policy level_in_trace timestamp form past n (is_clear clears is left answer) = absurd cc
note-fits policy level_in_trace timestamp form past n (redacts clears is other answer) = absurd cc

gives-fits : (policy : Policy) (level_in_trace timestamp : ℕ) (form : Option Call) (past : Past) (n : Noted)
    → IsSomeAnd form (λ call. IsEntryAnswer policy level_in_trace timestamp call past (note n)) → Fits policy (past_by n)
gives-fits policy level_in_trace timestamp None past n gives = absurd gives
gives-fits policy level_in_trace timestamp (Some call) past n gives = note-fits policy level_in_trace timestamp call past n gives

-- nothing was noted before
pub none-noted : (policy : Policy) (level_in_trace timestamp : ℕ) (form : Call) (past : Past) (n : Noted) → Fits policy past → IsEntryAnswer policy level_in_trace timestamp form past (note n) → past ≡ nothing
none-noted policy level_in_trace timestamp form past n fits (allows p is allow answer) = absurd cc
none-noted policy level_in_trace timestamp form past n fits (denies p is allow answer) = absurd cc
none-noted policy level_in_trace timestamp form past n fits (was_charged r is some answer) = absurd cc
none-noted policy level_in_trace timestamp form past n fits (charges r is none enough answer) = none
none-noted policy level_in_trace timestamp form past n fits (holds r is none less mode answer) = absurd cc
none-noted policy level_in_trace timestamp form past n fits (refuses r is none less mode answer) = absurd cc
none-noted policy level_in_trace timestamp form past n fits (is_within tenant per cap ticket is some less answer) = absurd cc
none-noted policy level_in_trace timestamp form past n fits (is_over tenant per cap ticket is some more answer) = absurd cc
none-noted policy level_in_trace timestamp form past n fits (draws tenant per cap ticket is none answer) = undrawn past (subst (λ (p : Policy). Fits p past) is fits) none
  where
    undrawn : (past : Past) → Fits (Quota tenant per cap) past → ((t : ℕ) → past ≢ drawn t) → past ≡ nothing
    undrawn nothing fits none = refl
    undrawn charged fits none = absurd fits
    undrawn (drawn t) fits none = absurd (none t refl)
    undrawn counted fits none = absurd fits
none-noted policy level_in_trace timestamp form past n fits (was_counted is some answer) = absurd cc
none-noted policy level_in_trace timestamp form past n fits (counts is none answer) = none
none-noted policy level_in_trace timestamp form past n fits (is_clear clears is left answer) = absurd cc
none-noted policy level_in_trace timestamp form past n fits (redacts clears is other answer) = absurd cc

-- ---- in a chain

noted-fits : (u : JudgeContext) (past : Trace) (call seq : ℕ) (other : List ℕ) (n : Noted) (e : Entry) → StaysChain
    → IsLegalPrefix u past → IsNoteDue u past call other n → Contains (chain past).entries e
    → Fits e.policy (noted e.name seq past) → Fits e.policy (cond ((call == seq) && bytes_eq other e.name) (past_by n) (noted e.name seq past))
noted-fits u past call seq other n e stays prefix due there before =
    let given : (b : Bool) → ((call == seq) && bytes_eq other e.name) ≡ b
    → Fits e.policy (cond b (past_by n) (noted e.name seq past)) =
    λ b. elim b as (λ b. ((call == seq) && bytes_eq other e.name) ≡ b
    → Fits e.policy (cond b (past_by n) (noted e.name seq past))) [
      | true ↦ λ test. here (same-name other e.name (and_parts (call == seq) (bytes_eq other e.name) test).1)
      | false ↦ λ test. before
    ] in
    given ((call == seq) && bytes_eq other e.name) refl
  where
    here : other ≡ e.name → Fits e.policy (past_by n)
    here same =
        let at = due.meets.at in
        let is : due.meets.entry ≡ e =
        same-entry (chain past).entries due.meets.entry e (chained stays u past prefix).names
        (contains-in (chain past).entries at.front at.back due.meets.entry at.entries) there (at.named ∙ same) in
        subst (λ (x : Entry). Fits x.policy (past_by n)) is
        (gives-fits due.meets.entry.policy (level_in_trace due.meets.entry.name past) (timestamp past) (form u.conn call past) (noted due.meets.entry.name call past) n due.meets.gives)

Attach-fits : (u : JudgeContext) (past : Trace) (at seq : ℕ) (name : List ℕ) (policy : Policy) (e : Entry)
    → Contains (take at (chain past).entries ++ new_entry name ((chain past).attached + 1) policy
    ∷ drop at (chain past).entries) e
    → ((x : Entry) → Contains (chain past).entries x → Fits x.policy (noted x.name seq past))
    → Fits e.policy (if bytes_eq name e.name then nothing else noted e.name seq past)
Attach-fits u past at seq name policy e has before =
    let given : (b : Bool) → bytes_eq name e.name ≡ b → Fits e.policy (cond b nothing (noted e.name seq past)) =
    λ b. elim b as (λ b. bytes_eq name e.name ≡ b → Fits e.policy (cond b nothing (noted e.name seq past))) [
      | true ↦ λ test. tt
      | false ↦ λ test. before e (old (bytes-apart test))
    ] in
    given (bytes_eq name e.name) refl
  where
    es : List Entry
    es = (chain past).entries

    bytes-apart : bytes_eq name e.name ≡ false → name ≢ e.name
    bytes-apart test same = let yes : bytes_eq name e.name ≡ true = equal-name name e.name same in cc

    whole : Contains (take at es ++ drop at es) e → Contains es e
    whole has = subst (λ (xs : List Entry). Contains xs e) (take-append-drop at es) has

    old : name ≢ e.name → Contains es e
    old apart = elim (Contains-append_cases (take at es) (new_entry name ((chain past).attached + 1) policy ∷ drop at es) e has) [
      | inl front ↦ whole (Contains-append_left (take at es) (drop at es) e front)
      | inr rest ↦ elim (contains-cases (new_entry name ((chain past).attached + 1) policy) (drop at es) e rest) [
        | inl same ↦ absurd (apart (ap (λ (x : Entry). x.name) same))
        | inr back ↦ whole (Contains-append_right (take at es) (drop at es) e back)
      ]
    ]

pub in-filter : (q : Entry → Bool) (es : List Entry) (e : Entry) → Contains (filter q es) e → Contains es e
in-filter q [] e has = has
in-filter q (x ∷ es) e has =
    let given : (b : Bool) → Contains (cond b (x ∷ filter q es) (filter q es)) e
    → Contains (x ∷ es) e = λ b. elim b as (λ b. Contains (cond b (x ∷ filter q es) (filter q es)) e
    → Contains (x ∷ es) e) [
      | true ↦ λ has. elim (contains-cases x (filter q es) e has) [ inl same ↦ contains-first x es e same | inr rest ↦ contains-later x es e (in-filter q es e rest) ]
      | false ↦ λ has. contains-later x es e (in-filter q es e has)
    ] in
    given (q x) has

-- an entry after the upgrade of a name comes from an entry before it
pub record IsFrom (es : List Entry) (name : List ℕ) (policy : Policy) (e : Entry) : Type 0 where
  pub old : Entry
  pub there : Contains es old
  pub is : e ≡ cond (is_named name old) (upgraded old policy) old

pub from-map : (es : List Entry) (name : List ℕ) (policy : Policy) (e : Entry) → Contains (map (λ x. if is_named name x then upgraded x policy else x) es) e → IsFrom es name policy e
from-map [] name policy e has = absurd (omega (arith, has.1))
from-map (x ∷ es) name policy e has = elim (contains-cases (cond (is_named name x) (upgraded x policy) x) (map (λ y. if is_named name y then upgraded y policy else y) es) e has) [
  | inl same ↦ record { old = x; there = contains-first x es x refl; is = sym same }
  | inr rest ↦ let found = from-map es name policy e rest in record { old = found.old; there = contains-later x es found.old found.there; is = found.is }
]

Upgrade-fits : (u : JudgeContext) (past : Trace) (seq : ℕ) (name label : List ℕ) (policy : Policy) (e : Entry) → IsFrom (chain past).entries name policy e
    → ((x : Entry) → Contains (chain past).entries x → x.name ≡ name → is_same_kind x.policy policy ≡ true)
    → ((x : Entry) → Contains (chain past).entries x → Fits x.policy (noted x.name seq past))
    → Fits e.policy (noted e.name seq past)
Upgrade-fits u past seq name label policy e from kind before =
    subst (λ (x : Entry). Fits x.policy (noted x.name seq past)) (sym from.is) (given (is_named name from.old) refl)
  where
    given : (b : Bool) → is_named name from.old ≡ b → Fits (cond b (upgraded from.old policy) from.old).policy (noted (cond b (upgraded from.old policy) from.old).name seq past)
    given true test = fits-kind from.old.policy policy (noted from.old.name seq past) (kind from.old from.there (same-name from.old.name name test)) (before from.old from.there)
    given false test = before from.old from.there

kind-kept : (before after : Chain) (name label : List ℕ) (policy : Policy) (e : Entry)
    → HasChanged before (Upgrade name label policy) after → Contains before.entries e → e.name ≡ name
    → is_same_kind e.policy policy ≡ true
kind-kept before after name label policy e changes there named =
    true_from_ne_false (is_same_kind e.policy policy) (λ differs. changes.free (other_kind name) (is_other name label policy e refl there named differs refl))

pub fitting : StaysChain → (u : JudgeContext) (past : Trace) (seq : ℕ) → IsLegalPrefix u past → (e : Entry) → Contains (chain past).entries e → Fits e.policy (noted e.name seq past)
fitting stays u [] seq prefix e there = tt
fitting stays u (Op (Attach at name label policy) ∷ past) seq prefix e there = Attach-fits u past at seq name policy e there (fitting stays u past seq prefix.0)
fitting stays u (Op (Detach name) ∷ past) seq prefix e there = fitting stays u past seq prefix.0 e (in-filter (λ x. not (is_named name x)) (chain past).entries e there)
fitting stays u (Op (Upgrade name label policy) ∷ past) seq prefix e there =
    Upgrade-fits u past seq name label policy e (from-map (chain past).entries name policy e there)
    (λ x. kind-kept (chain past) (changed (Upgrade name label policy) (chain past)) name label policy x prefix.1.chain_kept) (fitting stays u past seq prefix.0)
fitting stays u (Charged call other left ∷ past) seq prefix e there =
    noted-fits u past call seq other (notes.Charged left) e stays prefix.0 prefix.1.notes_due there (fitting stays u past seq prefix.0 e there)
fitting stays u (Drawn call other window ticket ∷ past) seq prefix e there =
    noted-fits u past call seq other (notes.Drawn window ticket) e stays prefix.0 prefix.1.notes_due there (fitting stays u past seq prefix.0 e there)
fitting stays u (Counted call other ∷ past) seq prefix e there =
    noted-fits u past call seq other notes.Counted e stays prefix.0 prefix.1.notes_due there (fitting stays u past seq prefix.0 e there)
fitting stays u (x ∷ past) seq prefix e there = fitting stays u past seq prefix.0 e there
