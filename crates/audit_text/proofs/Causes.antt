-- The words of causes and operations are read exactly as they are written.
use Rattle.std.proofs.Common.{◌≡◌, ℕ, ◌<◌, ◌^◌, List, [], ◌∷◌, refl, ap, sym, ◌∙◌, arith, Some, None, subst, inl, inr, codes}
use Rattle.std.specs.Fmt.{decimal}
use Rattle.mrpc_table.specs.declared.table.Table.{Table}
use Rattle.engine_core.specs.declared.op.Op.{Op as Step}
use Rattle.engine_core.specs.declared.op.Op.TheVariants.{Attach, Detach, Upgrade}
use Rattle.engine_core.specs.declared.policy.Policy.{Policy}
use Rattle.call_history.specs.declared.happening.Cause.{Cause}
use Rattle.call_history.specs.declared.happening.Cause.TheVariants as cause
use Rattle.call_history.specs.declared.happening.Happening.{Happening}
use Rattle.call_history.specs.declared.happening.Happening.TheVariants.{Op, Refused}
use Rattle.policy_declarations.specs.Declarations.{Declared}
use Rattle.audit_text.specs.Labels.{policy_under}
use Rattle.audit_text.specs.Lines.{WordList, cause_words, step_words}
use Rattle.audit_text.specs.Writable.{HasNameForm, IsWritableCause, IsDeclared, IsWritableOp}
use Rattle.audit_text.specs.LineWords.{tail_words}
use Rattle.audit_text.specs.Reading.{read_end, read_word, read_last_number, read_name, read_number}
use Rattle.audit_text.specs.EventReading.{read_access_cause, read_bare_cause, read_attach, read_entry_cause, cause_from, read_cause}
use Rattle.audit_text.specs.EventReading.{read_detach, read_label, read_quota_cause, read_rate_cause, read_refused, step_from, read_op}
use Rattle.audit_text.specs.EventReading.{read_upgrade}
use Rattle.audit_text.specs.declared.event_words.LineKind.TheVariants as kinds
use Rattle.audit_text.proofs.KindLines.{IsTold, Tells, along}
use Rattle.audit_text.proofs.WordsOfLines.{not-some}
use Rattle.audit_text.proofs.Said.{by-word, chained, end-said, last-read, last-said, name-read, name-said, number-read, number-said, unsome}

pub first-said : (ws : WordList) (p : List ℕ × WordList) → read_word ws ≡ Some p → ws ≡ p.0 ∷ p.1
first-said [] p e = absurd cc
first-said (w ∷ ws) p e = let P : List ℕ × WordList → Type 0 = λ p. w ∷ ws ≡ p.0 ∷ p.1 in subst P (unsome (w, ws) p e) refl

-- ---- causes

abbrev pub SaysCause : WordList → Cause → Type 0
SaysCause ws why = IsWritableCause why × (ws ≡ cause_words why)

-- a cause after its word
cause-along : (word : List ℕ) (ws all : WordList) (why by : Cause) → Some why ≡ Some by → all ≡ word ∷ ws → SaysCause (word ∷ ws) why → SaysCause all by
cause-along word ws all why by e is h =
    let P : Cause → Type 0 = λ x. SaysCause all x in subst P (unsome why by e) (h.0, is ∙ h.1)

alone-is : (ws : WordList) (c why : Cause) → read_bare_cause c ws ≡ Some why → (ws ≡ []) × (Some c ≡ Some why)
alone-is ws c why e = let a = chained _ (read_end ws) why e in (end-said ws a.0 a.1, a.2)

access-is : (ws : WordList) (why : Cause) → read_access_cause ws ≡ Some why → SaysCause (codes "access" ∷ ws) why
unfolding read_access_cause
access-is ws why e =
    let a = chained _ (read_name ws) why e in
    let b = chained _ (read_number (2 ^ 32) a.0.1) why a.2 in
    let c = chained _ (read_name b.0.1) why b.2 in
    let d = chained _ (read_end c.0.1) why c.2 in
    let h = name-said ws a.0 a.1 in
    let k = number-said (2 ^ 32) a.0.1 b.0 (omega arith) b.1 in
    let l = name-said b.0.1 c.0 c.1 in
    let P : Cause → Type 0 = λ x. SaysCause (codes "access" ∷ ws) x in
    subst P (unsome (cause.Access a.0.0 b.0.0 c.0.0) why d.2) (
      (h.0, k.0, l.0),
      ap (λ r. codes "access" ∷ r)
          (h.1 ∙ ap (λ r. a.0.0 ∷ r)
          (k.1 ∙ ap (λ r. decimal b.0.0 ∷ r) (l.1 ∙ ap (λ r. c.0.0 ∷ r) (end-said c.0.1 d.0 d.1)))),
    )

by-entry-is : (ws : WordList) (p : List ℕ × ℕ × ℕ) → read_entry_cause ws ≡ Some p
    → HasNameForm p.0 × (p.1 < 2 ^ 64) × (p.2 < 2 ^ 64) × (ws ≡ p.0 ∷ decimal p.1 ∷ decimal p.2 ∷ [])
unfolding read_entry_cause
by-entry-is ws p e =
    let a = chained _ (read_name ws) p e in
    let b = chained _ (read_number (2 ^ 64) a.0.1) p a.2 in
    let c = chained _ (read_last_number (2 ^ 64) b.0.1) p b.2 in
    let h = name-said ws a.0 a.1 in
    let k = number-said (2 ^ 64) a.0.1 b.0 (omega arith) b.1 in
    let l = last-said (2 ^ 64) b.0.1 c.0 (omega arith) c.1 in
    let P : List ℕ × ℕ × ℕ → Type 0 = λ p. HasNameForm p.0 × (p.1 < 2 ^ 64) × (p.2 < 2 ^ 64) × (ws ≡ p.0 ∷ decimal p.1 ∷ decimal p.2 ∷ []) in
    subst P (unsome (a.0.0, b.0.0, c.0) p c.2) (h.0, k.0, l.0, h.1 ∙ ap (λ r. a.0.0 ∷ r) (k.1 ∙ ap (λ r. decimal b.0.0 ∷ r) l.1))

by-entry-read : (name : List ℕ) (m n : ℕ) → HasNameForm name → m < 2 ^ 64 → n < 2 ^ 64 → read_entry_cause (name ∷ decimal m ∷ decimal n ∷ []) ≡ Some (name, m, n)
unfolding read_entry_cause
by-entry-read name m n form h k =
    rw (
      name-read name (decimal m ∷ decimal n ∷ []) form,
      number-read (2 ^ 64) m (decimal n ∷ []) (omega arith) h,
      last-read (2 ^ 64) n (omega arith) k,
    ) refl

rate-is : (ws : WordList) (why : Cause) → read_rate_cause ws ≡ Some why → SaysCause (codes "rate" ∷ ws) why
unfolding read_rate_cause
rate-is ws why e =
    let a = chained _ (read_entry_cause ws) why e in
    let h = by-entry-is ws a.0 a.1 in
    let P : Cause → Type 0 = λ x. SaysCause (codes "rate" ∷ ws) x in
    subst P (unsome (cause.Rate a.0.0 a.0.1 a.0.2) why a.2) ((h.0, h.1, h.2), ap (λ r. codes "rate" ∷ r) h.3)

quota-is : (ws : WordList) (why : Cause) → read_quota_cause ws ≡ Some why → SaysCause (codes "quota" ∷ ws) why
unfolding read_quota_cause
quota-is ws why e =
    let a = chained _ (read_entry_cause ws) why e in
    let h = by-entry-is ws a.0 a.1 in
    let P : Cause → Type 0 = λ x. SaysCause (codes "quota" ∷ ws) x in
    subst P (unsome (cause.Quota a.0.0 a.0.1 a.0.2) why a.2) ((h.0, h.1, h.2), ap (λ r. codes "quota" ∷ r) h.3)

-- the word is this one, and the words after it mean the cause
behind-word : (word this : List ℕ) (ws : WordList) (why : Cause) → word ≡ this → SaysCause (this ∷ ws) why → SaysCause (word ∷ ws) why
behind-word word this ws why is h = (h.0, ap (λ w. w ∷ ws) is ∙ h.1)

cause-from : (word : List ℕ) (ws : WordList) (why : Cause) → cause_from word ws ≡ Some why → SaysCause (word ∷ ws) why
cause-from word ws why e =
    elim (by-word word (codes "malformed") (read_bare_cause cause.Malformed ws) _ why e) [
      | inl here ↦
          let a = alone-is ws cause.Malformed why here.1 in
          cause-along word ws (word ∷ ws) cause.Malformed why a.1 refl (behind-word word (codes "malformed") ws cause.Malformed here.0 (tt, ap (λ r. codes "malformed" ∷ r) a.0))
      | inr later ↦ elim (by-word word (codes "access") (read_access_cause ws) _ why later) [
        | inl here ↦ behind-word word (codes "access") ws why here.0 (access-is ws why here.1)
        | inr later ↦ elim (by-word word (codes "rate") (read_rate_cause ws) _ why later) [
          | inl here ↦ behind-word word (codes "rate") ws why here.0 (rate-is ws why here.1)
          | inr later ↦ elim (by-word word (codes "quota") (read_quota_cause ws) _ why later) [
            | inl here ↦ behind-word word (codes "quota") ws why here.0 (quota-is ws why here.1)
            | inr later ↦ elim (by-word word (codes "transport") (read_bare_cause cause.Transport ws) None why later) [
              | inl here ↦
                  let a = alone-is ws cause.Transport why here.1 in
                  cause-along word ws (word ∷ ws) cause.Transport why a.1 refl (behind-word word (codes "transport") ws cause.Transport here.0 (tt, ap (λ r. codes "transport" ∷ r) a.0))
              | inr none ↦ absurd (let wrong = none in cc)
            ]
          ]
        ]
      ]
    ]

pub cause-said : (ws : WordList) (why : Cause) → read_cause ws ≡ Some why → SaysCause ws why
unfolding read_cause
cause-said ws why e =
    let a = chained _ (read_word ws) why e in
    let h = cause-from a.0.0 a.0.1 why a.2 in (h.0, first-said ws a.0 a.1 ∙ h.1)

pub cause-read : (why : Cause) → IsWritableCause why → read_cause (cause_words why) ≡ Some why
unfolding read_cause read_access_cause read_rate_cause read_quota_cause
cause-read cause.Malformed h = refl
cause-read (cause.Access name version rule) h =
    rw (
      name-read name (decimal version ∷ rule ∷ []) h.0,
      number-read (2 ^ 32) version (rule ∷ []) (omega arith) h.1,
      name-read rule [] h.2,
    ) refl
cause-read (cause.Rate name left cost) h = rw (by-entry-read name left cost h.0 h.1 h.2) refl
cause-read (cause.Quota name ticket cap) h = rw (by-entry-read name ticket cap h.0 h.1 h.2) refl
cause-read cause.Transport h = refl

pub refused-said : (T : Table) (declared : Declared) (ws : WordList) (x : Happening) → read_refused ws ≡ Some x → Tells T declared kinds.Refused ws x
unfolding read_refused
refused-said T declared ws x e =
    let a = chained _ (read_number (2 ^ 32) ws) x e in
    let b = chained _ (read_cause a.0.1) x a.2 in
    let h = number-said (2 ^ 32) ws a.0 (omega arith) a.1 in
    let k = cause-said a.0.1 b.0 b.1 in
    along T declared kinds.Refused ws _ x b.2 (((h.0, k.0), refl), h.1 ∙ ap (λ rest. decimal a.0.0 ∷ rest) k.1)

pub refused-read : (T : Table) (declared : Declared) (x : Happening) → IsTold T declared kinds.Refused x → read_refused (tail_words T x) ≡ Some x
unfolding read_refused
refused-read T declared (Refused seq why) h =
    rw (number-read (2 ^ 32) seq (cause_words why) (omega arith) h.0.0, cause-read why h.0.1) refl
refused-read T declared _ h = absurd (let wrong = h.1 in cc)

-- ---- operations

abbrev pub SaysStep : Declared → WordList → Step → Type 0
SaysStep declared ws step = IsWritableOp declared step × (ws ≡ step_words step)

label-is : (declared : Declared) (ws : WordList) (p : List ℕ × Policy) → read_label declared ws ≡ Some p → IsDeclared declared p.0 p.1 × (ws ≡ p.0 ∷ [])
unfolding read_label
label-is declared ws p e =
    let a = chained _ (read_name ws) p e in
    let b = chained _ (read_end a.0.1) p a.2 in
    let c = chained _ (policy_under a.0.0 declared) p b.2 in
    let h = name-said ws a.0 a.1 in
    let P : List ℕ × Policy → Type 0 = λ p. IsDeclared declared p.0 p.1 × (ws ≡ p.0 ∷ []) in
    subst P (unsome (a.0.0, c.0) p c.2) (record { form = h.0; under = c.1 }, h.1 ∙ ap (λ r. a.0.0 ∷ r) (end-said a.0.1 b.0 b.1))

label-read : (declared : Declared) (label : List ℕ) (policy : Policy) → IsDeclared declared label policy → read_label declared (label ∷ []) ≡ Some (label, policy)
unfolding read_label
label-read declared label policy h = rw (name-read label [] h.form, h.under) refl

step-behind : (declared : Declared) (word this : List ℕ) (ws : WordList) (step : Step) → word ≡ this → SaysStep declared (this ∷ ws) step → SaysStep declared (word ∷ ws) step
step-behind declared word this ws step is h = (h.0, ap (λ w. w ∷ ws) is ∙ h.1)

attach-is : (declared : Declared) (ws : WordList) (step : Step) → read_attach declared ws ≡ Some step → SaysStep declared (codes "attach" ∷ ws) step
unfolding read_attach
attach-is declared ws step e =
    let a = chained _ (read_number (2 ^ 32) ws) step e in
    let b = chained _ (read_name a.0.1) step a.2 in
    let c = chained _ (read_label declared b.0.1) step b.2 in
    let h = number-said (2 ^ 32) ws a.0 (omega arith) a.1 in
    let k = name-said a.0.1 b.0 b.1 in
    let l = label-is declared b.0.1 c.0 c.1 in
    let P : Step → Type 0 = λ x. SaysStep declared (codes "attach" ∷ ws) x in
    subst P (unsome (Attach a.0.0 b.0.0 c.0.0 c.0.1) step c.2) (
      (h.0, k.0, l.0),
      ap (λ r. codes "attach" ∷ r) (h.1 ∙ ap (λ r. decimal a.0.0 ∷ r) (k.1 ∙ ap (λ r. b.0.0 ∷ r) l.1)),
    )

detach-is : (declared : Declared) (ws : WordList) (step : Step) → read_detach ws ≡ Some step → SaysStep declared (codes "detach" ∷ ws) step
unfolding read_detach
detach-is declared ws step e =
    let a = chained _ (read_name ws) step e in
    let b = chained _ (read_end a.0.1) step a.2 in
    let h = name-said ws a.0 a.1 in
    let P : Step → Type 0 = λ x. SaysStep declared (codes "detach" ∷ ws) x in
    subst P (unsome (Detach a.0.0) step b.2) (h.0, ap (λ r. codes "detach" ∷ r) (h.1 ∙ ap (λ r. a.0.0 ∷ r) (end-said a.0.1 b.0 b.1)))

upgrade-is : (declared : Declared) (ws : WordList) (step : Step) → read_upgrade declared ws ≡ Some step → SaysStep declared (codes "upgrade" ∷ ws) step
unfolding read_upgrade
upgrade-is declared ws step e =
    let a = chained _ (read_name ws) step e in
    let b = chained _ (read_label declared a.0.1) step a.2 in
    let h = name-said ws a.0 a.1 in
    let k = label-is declared a.0.1 b.0 b.1 in
    let P : Step → Type 0 = λ x. SaysStep declared (codes "upgrade" ∷ ws) x in
    subst P (unsome (Upgrade a.0.0 b.0.0 b.0.1) step b.2) ((h.0, k.0), ap (λ r. codes "upgrade" ∷ r) (h.1 ∙ ap (λ r. a.0.0 ∷ r) k.1))

step-from : (declared : Declared) (word : List ℕ) (ws : WordList) (step : Step) → step_from declared word ws ≡ Some step → SaysStep declared (word ∷ ws) step
step-from declared word ws step e =
    elim (by-word word (codes "attach") (read_attach declared ws) _ step e) [
      | inl here ↦ step-behind declared word (codes "attach") ws step here.0 (attach-is declared ws step here.1)
      | inr later ↦ elim (by-word word (codes "detach") (read_detach ws) _ step later) [
        | inl here ↦ step-behind declared word (codes "detach") ws step here.0 (detach-is declared ws step here.1)
        | inr later ↦ elim (by-word word (codes "upgrade") (read_upgrade declared ws) None step later) [
          | inl here ↦ step-behind declared word (codes "upgrade") ws step here.0 (upgrade-is declared ws step here.1)
          | inr none ↦ absurd (let wrong = none in cc)
        ]
      ]
    ]

pub step-said : (declared : Declared) (ws : WordList) (step : Step) → read_op declared ws ≡ Some step → SaysStep declared ws step
unfolding read_op
step-said declared ws step e =
    let a = chained _ (read_word ws) step e in
    let h = step-from declared a.0.0 a.0.1 step a.2 in (h.0, first-said ws a.0 a.1 ∙ h.1)

pub step-read : (declared : Declared) (step : Step) → IsWritableOp declared step → read_op declared (step_words step) ≡ Some step
unfolding read_op read_attach read_detach read_upgrade
step-read declared (Attach at name label policy) h =
    rw (number-read (2 ^ 32) at (name ∷ label ∷ []) (omega arith) h.0, name-read name (label ∷ []) h.1, label-read declared label policy h.2) refl
step-read declared (Detach name) h = rw (name-read name [] h) refl
step-read declared (Upgrade name label policy) h = rw (name-read name (label ∷ []) h.0, label-read declared label policy h.1) refl

pub op-said : (T : Table) (declared : Declared) (ws : WordList) (step : Step) → read_op declared ws ≡ Some step → Tells T declared kinds.Op ws (Op step)
op-said T declared ws step e = let h = step-said declared ws step e in ((h.0, refl), h.1)

pub op-none : (T : Table) (declared : Declared) (ws : WordList) → read_op declared ws ≡ None → (x : Happening) → IsTold T declared kinds.Op x → ws ≡ tail_words T x → ⊥
op-none T declared ws none (Op step) h e = not-some step (sym (step-read declared step h.0) ∙ ap (read_op declared) (sym e) ∙ none)
op-none T declared ws none _ h e = absurd (let wrong = h.1 in cc)
