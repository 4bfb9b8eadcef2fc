-- What a turn records of a call was due, and is no longer due.
use Rattle.std.proofs.Common.{◌≡◌, ◌≢◌, ℕ, ◌≤◌, zero, suc, ◌⊎◌, inl, inr, List, slice_get, refl, ap, sym, ◌∙◌, subst, arith}
use Rattle.std.specs.Prelude.{All, Some}
use Rattle.mrpc_table.specs.Valid.{AreDistinct}
use Rattle.mrpc_table.specs.declared.call.Call.{Call}
use Rattle.policy_redact.specs.Redacting.{cleared_call}
use Rattle.engine_core.specs.Answers.{past_after}
use Rattle.engine_core.specs.Chains.{Entry, attachments_of, names_of}
use Rattle.engine_core.specs.Marks.{IsSilent, PendingCall, note_of, past_by, past_of}
use Rattle.engine_core.specs.Turns.{IsTurnOutcome, form_after, noted_in}
use Rattle.engine_core.specs.Working.{IsCallAfter, AreMarksAfterTurn}
use Rattle.engine_core.specs.declared.outcome.Noted.{Noted}
use Rattle.engine_core.specs.declared.outcome.Noted.TheVariants as notes
use Rattle.engine_core.specs.declared.outcome.Outcome.{Outcome}
use Rattle.engine_core.specs.declared.outcome.Outcome.TheVariants.{Passed, Held, Refused, Redacted}
use Rattle.engine_core.specs.declared.policy.Policy.{Policy}
use Rattle.conn_core.specs.Invariant.{MayRecord, may_clear, may_note, records_of}
use Rattle.conn_core.proofs.Apart.{all-keyed}
use Rattle.conn_core.proofs.Lists.{all-at}
use Rattle.conn_core.proofs.Records.{ClearLaws, Clearing, may-before, may-still, none-again, none-noted, noted-of, redacted-of}
use Rattle.conn_core.proofs.Spending.{Recording}

-- the state before and after a turn
pub record Worked (entries : List Entry) (position level moment : ℕ) (e : Entry) (outcome : Outcome)
    (s met s' : PendingCall) : Type 0 where
  pub at : slice_get entries position ≡ Some e
  pub names : AreDistinct (names_of entries)
  pub attachments : AreDistinct (attachments_of entries)
  pub comes : IsTurnOutcome e.policy level moment s.call (past_of s.marks e.attach) outcome
  pub kept : All (λ y. note_of met.marks y.attach ≡ note_of s.marks y.attach) entries
  pub silent : IsSilent e.policy (past_of s.marks e.attach)
  pub call : IsCallAfter e.policy outcome s.call s'.call
  pub marks : AreMarksAfterTurn e outcome met s'

-- the notes after it
own-past : (entries : List Entry) (position level moment : ℕ) (e : Entry) (outcome : Outcome) (s met s' : PendingCall)
    → Worked entries position level moment e outcome s met s'
    → past_of s'.marks e.attach ≡ past_after (noted_in outcome) (past_of s.marks e.attach)
own-past entries position level moment e outcome s met s' w =
    let same : past_of met.marks e.attach ≡ past_of s.marks e.attach =
    ap past_by (all-at (λ (y : Entry). note_of met.marks y.attach
    ≡ note_of s.marks y.attach) entries position e w.at w.kept) in
    w.marks.noted (subst (IsSilent e.policy) (sym same) w.silent) ∙ ap (past_after (noted_in outcome)) same

-- a call that isn't redacted is unchanged
same-form : (outcome : Outcome) (policy : Policy) (call : Call) → outcome ≢ Redacted
    → form_after outcome policy call ≡ call
same-form (Passed noted) policy call other = refl
same-form (Held left cost) policy call other = refl
same-form (Refused noted why) policy call other = refl
same-form Redacted policy call other = absurd (other refl)

-- each other entry may need at most the records that it needed before, and this entry none
others-still : (entries : List Entry) (position level moment : ℕ) (e : Entry) (outcome : Outcome)
    (s met s' : PendingCall) → Worked entries position level moment e outcome s met s'
    → ((y : Entry) → past_of s'.marks y.attach ≡ past_of s.marks y.attach → MayRecord s' y → MayRecord s y)
    → (MayRecord s' e → MayRecord s e)
    → All (λ y. MayRecord s' y → MayRecord s y) entries
others-still entries position level moment e outcome s met s' w other own =
    all-keyed (λ (y : Entry). note_of met.marks y.attach ≡ note_of s.marks y.attach) (λ (y : Entry). MayRecord s' y
    → MayRecord s y) entries position e w.at w.names w.attachments
    (λ y name attach kept. other y (w.marks.others y.attach attach ∙ ap past_by kept)) (λ kept. own) w.kept

some-or-none : (n : ℕ) → (1 ≤ n) ⊎ (n ≤ 0)
some-or-none zero = inr (omega arith)
some-or-none (suc n) = inl (omega arith)

nothing-noted : (n : Noted) → records_of n ≤ 0 → n ≡ notes.Nothing
nothing-noted notes.Nothing none = refl
nothing-noted (notes.Charged left) none = absurd (omega (arith, none))
nothing-noted (notes.Drawn window ticket) none = absurd (omega (arith, none))
nothing-noted notes.Counted none = absurd (omega (arith, none))

-- the entry of a turn that redacts nothing
own-still : (entries : List Entry) (position level moment : ℕ) (e : Entry) (outcome : Outcome) (s met s' : PendingCall)
    → Worked entries position level moment e outcome s met s' → outcome ≢ Redacted
    → MayRecord s' e → MayRecord s e
own-still entries position level moment e outcome s met s' w other may =
    elim (some-or-none (records_of (noted_in outcome))) [
      | inl some ↦ may_note level moment (noted_in outcome)
          (noted-of e.policy level moment s.call (past_of s.marks e.attach) outcome w.comes some) some
      | inr none ↦
          let nothing-is : noted_in outcome ≡ notes.Nothing = nothing-noted (noted_in outcome) none in
          may-still s s' e (w.call.form ∙ same-form outcome e.policy s.call other)
          (own-past entries position level moment e outcome s met s' w ∙ ap
          (λ (n : Noted). past_after n (past_of s.marks e.attach)) nothing-is) may
    ]

cleared-by : (entries : List Entry) (position level moment : ℕ) (e : Entry) (s met s' : PendingCall)
    → (w : Worked entries position level moment e Redacted s met s')
    → (c : Clearing e.policy s.call) → s'.call ≡ cleared_call c.list s.call
cleared-by entries position level moment e s met s' w c =
    w.call.form ∙ ap (λ (p : Policy). form_after Redacted p s.call) c.policy_is

recording-redacted : ClearLaws
    → (entries : List Entry) (position level moment : ℕ) (e : Entry) (s met s' : PendingCall)
    → Worked entries position level moment e Redacted s met s' → Recording entries e Redacted s s'
recording-redacted laws entries position level moment e s met s' w =
    let c = redacted-of e.policy level moment s.call (past_of s.marks e.attach) w.comes in
    let call-is : s'.call ≡ cleared_call c.list s.call = cleared-by entries position level moment e s met s' w c in
    let own : past_of s'.marks e.attach ≡ past_of s.marks e.attach =
    own-past entries position level moment e Redacted s met s' w in record {
      noted = λ some. absurd (omega (arith, some));
      redacted = λ is. may_clear c.list c.policy_is c.changed;
      noted_no_more = λ some. absurd (omega (arith, some));
      redacted_no_more = λ is may. none-again laws c.list s s' e call-is c.policy_is may;
      still = others-still entries position level moment e Redacted s met s' w (λ y past may.
          may-before laws c.list s s' y call-is past may) (λ may. may-before laws c.list s s' e call-is own may);
    }

recording-other : (entries : List Entry) (position level moment : ℕ) (e : Entry) (outcome : Outcome)
    (s met s' : PendingCall) → outcome ≢ Redacted
    → Worked entries position level moment e outcome s met s' → Recording entries e outcome s s'
recording-other entries position level moment e outcome s met s' other w =
    let call-is : s'.call ≡ s.call = w.call.form ∙ same-form outcome e.policy s.call other in record {
      noted = λ some. may_note level moment (noted_in outcome)
          (noted-of e.policy level moment s.call (past_of s.marks e.attach) outcome w.comes some) some;
      redacted = λ is. absurd (other is);
      noted_no_more = λ some may. none-noted s s' e level moment s.call (past_of s.marks e.attach) (noted_in outcome)
          (noted-of e.policy level moment s.call (past_of s.marks e.attach) outcome w.comes some)
          (own-past entries position level moment e outcome s met s' w) may;
      redacted_no_more = λ is. absurd (other is);
      still = others-still entries position level moment e outcome s met s' w (λ y past may.
          may-still s s' y call-is past may) (own-still entries position level moment e outcome s met s' w other);
    }

pub recording : ClearLaws
    → (entries : List Entry) (position level moment : ℕ) (e : Entry) (outcome : Outcome) (s met s' : PendingCall)
    → Worked entries position level moment e outcome s met s'
    → Recording entries e outcome s s'
recording laws entries position level moment e (Passed noted) s met s' w =
    recording-other entries position level moment e (Passed noted) s met s' (λ is. absurd cc) w
recording laws entries position level moment e (Held left cost) s met s' w =
    recording-other entries position level moment e (Held left cost) s met s' (λ is. absurd cc) w
recording laws entries position level moment e (Refused noted why) s met s' w =
    recording-other entries position level moment e (Refused noted why) s met s' (λ is. absurd cc) w
recording laws entries position level moment e Redacted s met s' w =
    recording-redacted laws entries position level moment e s met s' w
