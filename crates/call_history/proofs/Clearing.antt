-- No call is redacted twice under one attachment and version.
use Rattle.std.proofs.Common.{◌≡◌, ◌≢◌, ℕ, ◌+◌, ◌<◌, ◌≤◌, ◌==◌, ◌&&◌, Bool, true, false, cond, not, inl, inr, List}
use Rattle.std.proofs.Common.{[], ◌∷◌, ◌++◌, length, take, drop, refl, sym, ap, ◌∙◌, subst, arith, take-append-drop}
use Rattle.std.proofs.Common.{length-append}
use Rattle.std.specs.Prelude.{All, Contains, find, IsSomeAnd, Option, Some, None, option_map}
use Rattle.std.specs.Str.{bytes_eq}
use Rattle.std.proofs.lemmas.Bool.{and_parts, cases_eq, eqb-true, and_left}
use Rattle.std.proofs.lemmas.Bool.{ne_eqb}
use Rattle.std.proofs.lemmas.List.Elements.{All-nil, All-cons, All-contains, All-weaker, Contains-append_cases, Contains-append_left, Contains-append_right}
use Rattle.mrpc_table.specs.Valid.{AreDistinct}
use Rattle.mrpc_table.specs.declared.call.Call.{Call}
use Rattle.policy_redact.specs.Redacting.{cleared, cleared_call}
use Rattle.policy_redact.specs.declared.redact.Clear.{Clear}
use Rattle.engine_core.specs.Answers.{Past, redact, IsEntryAnswer, allows, denies, was_charged, charges, holds, refuses, is_within, is_over, draws, was_counted, counts, is_clear, redacts}
use Rattle.engine_core.specs.Chains.{Entry, names_of, new_entry, upgraded}
use Rattle.engine_core.specs.declared.op.Op.TheVariants.{Attach, Detach, Upgrade}
use Rattle.engine_core.specs.declared.policy.Policy.{Policy}
use Rattle.engine_core.specs.declared.policy.Policy.TheVariants.{Access, Rate, Quota, Count, Redact}
use Rattle.call_history.specs.Trace.{Trace, chain, policy_in_trace, taken, form, level_in_trace, timestamp, noted, redacted}
use Rattle.engine_core.specs.Chains.{is_named}
use Rattle.call_history.specs.Clears.{cleared_in}
use Rattle.call_history.specs.Legal.{IsLegalPrefix}
use Rattle.call_history.specs.Rules.{JudgeContext, IsRedactionDue}
use Rattle.call_history.specs.declared.happening.Happening.TheVariants.{Took, Op, Redacted}
use Rattle.call_history.proofs.Accepting.{form-other}
use Rattle.call_history.proofs.Chained.{contains-in, same-entry, find-entry}
use Rattle.call_history.proofs.Fitting.{IsFrom, from-map, in-filter}
use Rattle.call_history.proofs.Further.{contains-cases}
use Rattle.call_history.proofs.GoingOn.{form-cleared}
use Rattle.call_history.proofs.Looking.{same-name, equal-name}
use Rattle.call_history.proofs.Prefixes.{StaysChain, chained, stood}
use Rattle.call_history.proofs.Redacting.{form-others}

-- a second clear changes nothing, and two clears commute
abbrev pub ClearsAgain : Type 0
ClearsAgain = (clears : List Clear) (call : Call) → cleared clears (cleared_call clears call) ≡ cleared clears call

abbrev pub EitherFirst : Type 0
EitherFirst = (a b : List Clear) (call : Call) → cleared b (cleared_call a call) ≡ cleared a (cleared_call b call)

pub record Laws : Type 0 where
  pub chains : StaysChain
  pub again : ClearsAgain
  pub either : EitherFirst

-- ---- a cleared field stays cleared

-- a redacting policy has nothing to clear in a form
abbrev IsClearOf : Policy → Option Call → Type 0
IsClearOf (Redact clears) (Some call) = cleared clears call ≡ call.tree
IsClearOf policy form = Unit {0}

clear-after : ClearsAgain → (policy : Policy) (f : Option Call) → IsClearOf policy (option_map (redacted (Some policy)) f)
clear-after again (Redact clears) (Some call) = again clears call
clear-after again (Redact clears) None = tt
clear-after again (Access p) f = tt
clear-after again (Rate r) f = tt
clear-after again (Quota tenant per cap) f = tt
clear-after again Count f = tt

clear-still : EitherFirst → (policy : Policy) (other : Option Policy) (f : Option Call) → IsClearOf policy f → IsClearOf policy (option_map (redacted other) f)
clear-still either (Redact clears) other None is = tt
clear-still either (Redact clears) None (Some call) is = is
clear-still either (Redact clears) (Some (Access p)) (Some call) is = is
clear-still either (Redact clears) (Some (Rate r)) (Some call) is = is
clear-still either (Redact clears) (Some (Quota tenant per cap)) (Some call) is = is
clear-still either (Redact clears) (Some Count) (Some call) is = is
clear-still either (Redact clears) (Some (Redact more)) (Some call) is =
    let same : cleared_call clears call ≡ call = ap (λ t. record call { tree = t }) is in
    either more clears call ∙ ap (cleared more) same
clear-still either (Access p) other f is = tt
clear-still either (Rate r) other f is = tt
clear-still either (Quota tenant per cap) other f is = tt
clear-still either Count other f is = tt

-- ---- in a chain

record IsClearBy (u : JudgeContext) (past : Trace) (seq : ℕ) (e : Entry) : Type 0 where
  versions : All (λ version. version ≤ e.version) (cleared_in e.name seq past)
  clear : Contains (cleared_in e.name seq past) e.version → IsClearOf e.policy (form u.conn seq past)

none-in : (n : ℕ) → Contains [] n → ⊥
none-in n has = omega (arith, has.1)

old-entry : (es : List Entry) (at : ℕ) (new e : Entry) → new.name ≢ e.name → Contains (take at es ++ new ∷ drop at es) e → Contains es e
old-entry es at new e apart has =
    subst (λ (xs : List Entry). Contains xs e) (take-append-drop at es) (elim (Contains-append_cases (take at es) (new ∷ drop at es) e has) [
      | inl front ↦ Contains-append_left (take at es) (drop at es) e front
      | inr rest ↦ elim (contains-cases new (drop at es) e rest) [
        | inl same ↦ absurd (apart (ap (λ (x : Entry). x.name) same))
        | inr back ↦ Contains-append_right (take at es) (drop at es) e back
      ]
    ])

-- nothing was cleared in a call that isn't accepted yet
none-cleared : (u : JudgeContext) (past : Trace) (seq : ℕ) (name : List ℕ) → IsLegalPrefix u past → length (taken past) < seq → cleared_in name seq past ≡ []
none-cleared u [] seq name prefix above = refl
none-cleared u (Op (Attach at other label policy) ∷ past) seq name prefix above =
    elim (bytes_eq other name) as (λ b. cond b [] (cleared_in name seq past) ≡ []) [ true ↦ refl | false ↦ none-cleared u past seq name prefix.0 above ]
none-cleared u (Took call ∷ past) seq name prefix above = none-cleared u past seq name prefix.0 (omega (arith, above, length-append (taken past) (call ∷ [])))
none-cleared u (Redacted call other version ∷ past) seq name prefix above =
    let few : call ≤ length (taken past) = stood u past call prefix.0 prefix.1.notes_due.at.is_pending in
    ap (λ b. cond b (version ∷ cleared_in name seq past) (cleared_in name seq past))
    (and_left (call == seq) (bytes_eq other name) (ne_eqb call seq (λ same. omega (arith, same, few, above))))
    ∙ none-cleared u past seq name prefix.0 above
none-cleared u (x ∷ past) seq name prefix above = none-cleared u past seq name prefix.0 above

attached : (u : JudgeContext) (past : Trace) (at seq : ℕ) (name label : List ℕ) (policy : Policy) (e : Entry)
    → Contains (take at (chain past).entries ++ new_entry name ((chain past).attached + 1) policy ∷ drop at (chain past).entries) e
    → ((x : Entry) → Contains (chain past).entries x → IsClearBy u past seq x) → IsClearBy u (Op (Attach at name label policy) ∷ past) seq e
attached u past at seq name label policy e has before = record { versions = (given (bytes_eq name e.name) refl).0; clear = (given (bytes_eq name e.name) refl).1 }
  where
    apart : bytes_eq name e.name ≡ false → name ≢ e.name
    apart test same = let yes : bytes_eq name e.name ≡ true = equal-name name e.name same in let wrong : true ≡ false = sym yes ∙ test in cc

    given : (b : Bool) → bytes_eq name e.name ≡ b
        → All (λ version. version ≤ e.version) (cond b [] (cleared_in e.name seq past))
        × (Contains (cond b [] (cleared_in e.name seq past)) e.version
        → IsClearOf e.policy (form u.conn seq past))
    given true test = (All-nil (λ version. version ≤ e.version), λ has. absurd (none-in e.version has))
    given false test =
        let old : IsClearBy u past seq e = before e (old-entry (chain past).entries at (new_entry name ((chain past).attached + 1) policy) e (apart test) has) in (old.versions, old.clear)

upgraded-clear : (u : JudgeContext) (past : Trace) (seq : ℕ) (name label : List ℕ) (policy : Policy) (e : Entry) → IsFrom (chain past).entries name policy e
    → ((x : Entry) → Contains (chain past).entries x → IsClearBy u past seq x) → IsClearBy u (Op (Upgrade name label policy) ∷ past) seq e
upgraded-clear u past seq name label policy e from before =
    subst (IsClearBy u (Op (Upgrade name label policy) ∷ past) seq) (sym from.is) (given (is_named name from.old) (before from.old from.there))
  where
    given : (b : Bool) → IsClearBy u past seq from.old → IsClearBy u (Op (Upgrade name label policy) ∷ past) seq (cond b (upgraded from.old policy) from.old)
    given true old = record {
      versions = All-weaker (λ version. version ≤ from.old.version) (λ version. version ≤ from.old.version + 1)
          (λ version le. omega (arith, le)) (cleared_in from.old.name seq past) old.versions;
      clear = λ has. absurd (omega (arith, All-contains (λ version. version ≤ from.old.version) (cleared_in from.old.name seq past) (from.old.version + 1) old.versions has));
    }
    given false old = record { versions = old.versions; clear = old.clear }

redacted-clear : Laws → (u : JudgeContext) (past : Trace) (call seq version : ℕ) (other : List ℕ) (e : Entry)
    → IsLegalPrefix u past → IsRedactionDue u past call other version → Contains (chain past).entries e
    → IsClearBy u past seq e → IsClearBy u (Redacted call other version ∷ past) seq e
redacted-clear laws u past call seq version other e prefix due there old =
    record {
      versions = (given ((call == seq) && bytes_eq other e.name) refl).0;
      clear = (given ((call == seq) && bytes_eq other e.name) refl).1;
    }
  where
    -- the form is unchanged, or another policy cleared it
    others : IsClearOf e.policy (form u.conn seq past) → IsClearOf e.policy (form u.conn seq (Redacted call other version ∷ past))
    others is = elim (cases_eq call seq) [
      | inl same ↦ subst (λ (f : Option Call). IsClearOf e.policy f)
          (sym (ap (λ n. form u.conn seq (Redacted n other version ∷ past)) same
          ∙ form-cleared u.conn seq version other past))
          (clear-still laws.either e.policy (policy_in_trace other past) (form u.conn seq past) is)
      | inr apart ↦ subst (λ (f : Option Call). IsClearOf e.policy f) (sym (form-others u.conn call seq version other past apart)) is
    ]

    entry-is : other ≡ e.name → due.entry ≡ e
    entry-is same = same-entry (chain past).entries due.entry e (chained laws.chains u past prefix).names
        (contains-in (chain past).entries due.at.front due.at.back due.entry due.at.entries) there
        (due.at.named ∙ same)

    policy-is : other ≡ e.name → policy_in_trace other past ≡ Some e.policy
    policy-is same =
        ap (λ (n : List ℕ). policy_in_trace n past) (sym due.at.named)
        ∙ ap (λ (es : List Entry). option_map (λ x. x.policy) (find (is_named due.entry.name) es)) due.at.entries
        ∙ ap (option_map (λ (x : Entry). x.policy))
        (find-entry due.at.front due.at.back due.entry
        (subst (λ (es : List Entry). AreDistinct (names_of es)) due.at.entries
        (chained laws.chains u past prefix).names))
        ∙ ap (λ (x : Entry). Some x.policy) (entry-is same)

    here : call ≡ seq → other ≡ e.name → IsClearOf e.policy (form u.conn seq (Redacted call other version ∷ past))
    here number same = subst (λ (f : Option Call). IsClearOf e.policy f)
        (sym (ap (λ n. form u.conn seq (Redacted n other version ∷ past)) number
        ∙ form-cleared u.conn seq version other past
        ∙ ap (λ (p : Option Policy). option_map (redacted p) (form u.conn seq past)) (policy-is same)))
        (clear-after laws.again e.policy (form u.conn seq past))

    given : (b : Bool) → ((call == seq) && bytes_eq other e.name) ≡ b
        → All (λ v. v ≤ e.version) (cond b (version ∷ cleared_in e.name seq past) (cleared_in e.name seq past))
        × (Contains (cond b (version ∷ cleared_in e.name seq past) (cleared_in e.name seq past)) e.version → IsClearOf e.policy (form u.conn seq (Redacted call other version ∷ past)))
    given true test =
        let parts = and_parts (call == seq) (bytes_eq other e.name) test in
        let name_is : other ≡ e.name = same-name other e.name parts.1 in
        let present : e.version ≡ version = ap (λ (x : Entry). x.version) (sym (entry-is name_is)) ∙ due.present in
        (All-cons (λ v. v ≤ e.version) version (cleared_in e.name seq past) (omega (arith, present)) old.versions, λ has. here (eqb-true call seq parts.0) name_is)
    given false test = (old.versions, λ has. others (old.clear has))

clear-by : Laws → (u : JudgeContext) (past : Trace) (seq : ℕ) → IsLegalPrefix u past → (e : Entry) → Contains (chain past).entries e → IsClearBy u past seq e
clear-by laws u [] seq prefix e there = absurd (omega (arith, there.1))
clear-by laws u (Op (Attach at name label policy) ∷ past) seq prefix e there = attached u past at seq name label policy e there (clear-by laws u past seq prefix.0)
clear-by laws u (Op (Detach name) ∷ past) seq prefix e there =
    let old = clear-by laws u past seq prefix.0 e (in-filter (λ x. not (is_named name x)) (chain past).entries e there) in record { versions = old.versions; clear = old.clear }
clear-by laws u (Op (Upgrade name label policy) ∷ past) seq prefix e there =
    upgraded-clear u past seq name label policy e (from-map (chain past).entries name policy e there) (clear-by laws u past seq prefix.0)
clear-by laws u (Took call ∷ past) seq prefix e there =
    let old = clear-by laws u past seq prefix.0 e there in
    let next : call.seq ≡ length (taken past) + 1 = prefix.1.numbered.number in
    record {
      versions = old.versions;
      clear = λ has. elim (cases_eq call.seq seq) [
        | inl same ↦ absurd (none-in e.version (subst (λ (vs : List ℕ). Contains vs e.version) (none-cleared u past seq e.name prefix.0 (omega (arith, same, next))) has))
        | inr apart ↦ subst (λ (f : Option Call). IsClearOf e.policy f) (sym (form-other u.conn seq past call apart)) (old.clear has)
      ];
    }
clear-by laws u (Redacted call other version ∷ past) seq prefix e there =
    redacted-clear laws u past call seq version other e prefix.0 prefix.1.notes_due there
    (clear-by laws u past seq prefix.0 e there)
clear-by laws u (x ∷ past) seq prefix e there = let old = clear-by laws u past seq prefix.0 e there in record { versions = old.versions; clear = old.clear }

-- ---- so it isn't redacted again

not-redacts : (policy : Policy) (level_in_trace timestamp : ℕ) (call : Call) (past : Past) → IsClearOf policy (Some call) → IsEntryAnswer policy level_in_trace timestamp call past redact → ⊥
not-redacts policy level_in_trace timestamp call past is (allows p is_p allow answer) = cc
not-redacts policy level_in_trace timestamp call past is (denies p is_p allow answer) = cc
not-redacts policy level_in_trace timestamp call past is (was_charged r is_p some answer) = cc
not-redacts policy level_in_trace timestamp call past is (charges r is_p none enough answer) = cc
not-redacts policy level_in_trace timestamp call past is (holds r is_p none less mode answer) = cc
not-redacts policy level_in_trace timestamp call past is (refuses r is_p none less mode answer) = cc
not-redacts policy level_in_trace timestamp call past is (is_within tenant per cap ticket is_p some less answer) = cc
not-redacts policy level_in_trace timestamp call past is (is_over tenant per cap ticket is_p some more answer) = cc
not-redacts policy level_in_trace timestamp call past is (draws tenant per cap ticket is_p none answer) = cc
not-redacts policy level_in_trace timestamp call past is (was_counted is_p some answer) = cc
not-redacts policy level_in_trace timestamp call past is (counts is_p none answer) = cc
not-redacts policy level_in_trace timestamp call past is (is_clear clears is_p left answer) = cc
not-redacts policy level_in_trace timestamp call past is (redacts clears is_p other answer) = other (subst (λ (p : Policy). IsClearOf p (Some call)) is_p is)

gives-redact : (policy : Policy) (level_in_trace timestamp : ℕ) (f : Option Call) (past : Past) → IsClearOf policy f → IsSomeAnd f (λ call. IsEntryAnswer policy level_in_trace timestamp call past redact) → ⊥
gives-redact policy level_in_trace timestamp None past is gives = gives
gives-redact policy level_in_trace timestamp (Some call) past is gives = not-redacts policy level_in_trace timestamp call past is gives

pub redacted-once : Laws → (u : JudgeContext) (past : Trace) (seq version : ℕ) (name : List ℕ) → IsLegalPrefix u past
    → IsRedactionDue u past seq name version → Contains (cleared_in name seq past) version → ⊥
redacted-once laws u past seq version name prefix due has =
    let e = due.entry in
    let at = due.at in
    let by : IsClearBy u past seq e = clear-by laws u past seq prefix e (contains-in (chain past).entries at.front at.back e at.entries) in
    let was : Contains (cleared_in e.name seq past) e.version =
    subst (λ (n : List ℕ). Contains (cleared_in n seq past) e.version) (sym at.named) (subst (λ (v : ℕ). Contains (cleared_in name seq past) v) (sym due.present) has) in
    gives-redact e.policy (level_in_trace e.name past) (timestamp past) (form u.conn seq past) (noted e.name seq past) (by.clear was) due.gives
