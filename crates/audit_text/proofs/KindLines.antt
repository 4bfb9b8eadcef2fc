-- The words of each kind of line are read exactly as they are written.
use Rattle.std.proofs.Common.{◌≡◌, ℕ, ◌<◌, ◌^◌, List, [], ◌∷◌, refl, ap, ◌∙◌, arith, Some, subst}
use Rattle.std.specs.Fmt.{decimal}
use Rattle.mrpc_table.specs.declared.table.Table.{Table}
use Rattle.call_history.specs.declared.happening.Happening.{Happening}
use Rattle.call_history.specs.declared.happening.Happening.TheVariants.{Away, Moment, Charged, Drawn, Counted, Redacted, Sent}
use Rattle.policy_declarations.specs.Declarations.{Declared}
use Rattle.audit_text.specs.Lines.{WordList}
use Rattle.audit_text.specs.Writable.{CanBeWritten, HasNameForm}
use Rattle.audit_text.specs.LineWords.{line_kind_of, tail_words}
use Rattle.audit_text.specs.Reading.{read_end, read_last_number, read_name, read_number}
use Rattle.audit_text.specs.EventReading.{read_away, read_charged, read_counted, read_drawn, read_moment, read_note, read_redacted, read_sent}
use Rattle.audit_text.specs.declared.event_words.LineKind.{LineKind}
use Rattle.audit_text.specs.declared.event_words.LineKind.TheVariants as kinds
use Rattle.audit_text.proofs.Said.{chained, end-said, last-read, last-said, name-read, name-said, number-read, number-said, unsome}

-- a writable event of a kind
abbrev pub IsTold : Table → Declared → LineKind → Happening → Type 0
IsTold T declared kind x = CanBeWritten T declared x × (line_kind_of x ≡ kind)

-- words mean a writable event, and are its words
abbrev pub Tells : Table → Declared → LineKind → WordList → Happening → Type 0
Tells T declared kind ws x = IsTold T declared kind x × (ws ≡ tail_words T x)

pub along : (T : Table) (declared : Declared) (kind : LineKind) (ws : WordList) (x y : Happening) → Some x ≡ Some y → Tells T declared kind ws x → Tells T declared kind ws y
along T declared kind ws x y e h = let P : Happening → Type 0 = λ x. Tells T declared kind ws x in subst P (unsome x y e) h

pub away-said : (T : Table) (declared : Declared) (ws : WordList) (x : Happening) → read_away ws ≡ Some x → Tells T declared kinds.Away ws x
unfolding read_away
away-said T declared ws x e =
    let a = chained _ (read_number (2 ^ 16) ws) x e in
    let b = chained _ (read_number (2 ^ 32) a.0.1) x a.2 in
    let c = chained _ (read_last_number (2 ^ 64) b.0.1) x b.2 in
    let h = number-said (2 ^ 16) ws a.0 (omega arith) a.1 in
    let k = number-said (2 ^ 32) a.0.1 b.0 (omega arith) b.1 in
    let l = last-said (2 ^ 64) b.0.1 c.0 (omega arith) c.1 in
    along T declared kinds.Away ws _ x c.2 (((h.0, k.0, l.0), refl), h.1 ∙ ap (λ rest. decimal a.0.0 ∷ rest) (k.1 ∙ ap (λ rest. decimal b.0.0 ∷ rest) l.1))

pub away-read : (T : Table) (declared : Declared) (x : Happening) → IsTold T declared kinds.Away x → read_away (tail_words T x) ≡ Some x
unfolding read_away
away-read T declared (Away method number addr) h =
    rw (
      number-read (2 ^ 16) method (decimal number ∷ decimal addr ∷ []) (omega arith) h.0.0,
      number-read (2 ^ 32) number (decimal addr ∷ []) (omega arith) h.0.1,
      last-read (2 ^ 64) addr (omega arith) h.0.2,
    ) refl
away-read T declared _ h = absurd (let wrong = h.1 in cc)

pub moment-said : (T : Table) (declared : Declared) (ws : WordList) (x : Happening) → read_moment ws ≡ Some x → Tells T declared kinds.Moment ws x
unfolding read_moment
moment-said T declared ws x e =
    let a = chained _ (read_last_number (2 ^ 64) ws) x e in
    let h = last-said (2 ^ 64) ws a.0 (omega arith) a.1 in
    along T declared kinds.Moment ws _ x a.2 ((h.0, refl), h.1)

pub moment-read : (T : Table) (declared : Declared) (x : Happening) → IsTold T declared kinds.Moment x → read_moment (tail_words T x) ≡ Some x
unfolding read_moment
moment-read T declared (Moment ms) h = rw (last-read (2 ^ 64) ms (omega arith) h.0) refl
moment-read T declared _ h = absurd (let wrong = h.1 in cc)

pub sent-said : (T : Table) (declared : Declared) (ws : WordList) (x : Happening) → read_sent ws ≡ Some x → Tells T declared kinds.Sent ws x
unfolding read_sent
sent-said T declared ws x e =
    let a = chained _ (read_number (2 ^ 32) ws) x e in
    let b = chained _ (read_last_number (2 ^ 64) a.0.1) x a.2 in
    let h = number-said (2 ^ 32) ws a.0 (omega arith) a.1 in
    let k = last-said (2 ^ 64) a.0.1 b.0 (omega arith) b.1 in
    along T declared kinds.Sent ws _ x b.2 (((h.0, k.0), refl), h.1 ∙ ap (λ rest. decimal a.0.0 ∷ rest) k.1)

pub sent-read : (T : Table) (declared : Declared) (x : Happening) → IsTold T declared kinds.Sent x → read_sent (tail_words T x) ≡ Some x
unfolding read_sent
sent-read T declared (Sent seq bytes) h =
    rw (number-read (2 ^ 32) seq (decimal bytes ∷ []) (omega arith) h.0.0, last-read (2 ^ 64) bytes (omega arith) h.0.1) refl
sent-read T declared _ h = absurd (let wrong = h.1 in cc)

-- ---- notes

noted-is : (ws : WordList) (p : ℕ × List ℕ × WordList) → read_note ws ≡ Some p → (p.0 < 2 ^ 32) × HasNameForm p.1 × (ws ≡ decimal p.0 ∷ p.1 ∷ p.2)
unfolding read_note
noted-is ws p e =
    let a = chained _ (read_number (2 ^ 32) ws) p e in
    let b = chained _ (read_name a.0.1) p a.2 in
    let h = number-said (2 ^ 32) ws a.0 (omega arith) a.1 in
    let k = name-said a.0.1 b.0 b.1 in
    let P : ℕ × List ℕ × WordList → Type 0 = λ p. (p.0 < 2 ^ 32) × HasNameForm p.1 × (ws ≡ decimal p.0 ∷ p.1 ∷ p.2) in
    subst P (unsome (a.0.0, b.0.0, b.0.1) p b.2) (h.0, k.0, h.1 ∙ ap (λ rest. decimal a.0.0 ∷ rest) k.1)

noted-read : (seq : ℕ) (name : List ℕ) (ws : WordList) → seq < 2 ^ 32 → HasNameForm name → read_note (decimal seq ∷ name ∷ ws) ≡ Some (seq, name, ws)
unfolding read_note
noted-read seq name ws less form = rw (number-read (2 ^ 32) seq (name ∷ ws) (omega arith) less, name-read name ws form) refl

pub charged-said : (T : Table) (declared : Declared) (ws : WordList) (x : Happening) → read_charged ws ≡ Some x → Tells T declared kinds.Charged ws x
unfolding read_charged
charged-said T declared ws x e =
    let a = chained _ (read_note ws) x e in
    let b = chained _ (read_last_number (2 ^ 64) a.0.2) x a.2 in
    let h = noted-is ws a.0 a.1 in
    let k = last-said (2 ^ 64) a.0.2 b.0 (omega arith) b.1 in
    along T declared kinds.Charged ws _ x b.2 (((h.0, h.1, k.0), refl), h.2 ∙ ap (λ rest. decimal a.0.0 ∷ a.0.1 ∷ rest) k.1)

pub charged-read : (T : Table) (declared : Declared) (x : Happening) → IsTold T declared kinds.Charged x → read_charged (tail_words T x) ≡ Some x
unfolding read_charged
charged-read T declared (Charged seq name left) h =
    rw (noted-read seq name (decimal left ∷ []) h.0.0 h.0.1, last-read (2 ^ 64) left (omega arith) h.0.2) refl
charged-read T declared _ h = absurd (let wrong = h.1 in cc)

pub drawn-said : (T : Table) (declared : Declared) (ws : WordList) (x : Happening) → read_drawn ws ≡ Some x → Tells T declared kinds.Drawn ws x
unfolding read_drawn
drawn-said T declared ws x e =
    let a = chained _ (read_note ws) x e in
    let b = chained _ (read_number (2 ^ 64) a.0.2) x a.2 in
    let c = chained _ (read_last_number (2 ^ 64) b.0.1) x b.2 in
    let h = noted-is ws a.0 a.1 in
    let k = number-said (2 ^ 64) a.0.2 b.0 (omega arith) b.1 in
    let l = last-said (2 ^ 64) b.0.1 c.0 (omega arith) c.1 in
    along T declared kinds.Drawn ws _ x c.2 (((h.0, h.1, k.0, l.0), refl), h.2 ∙ ap (λ rest. decimal a.0.0 ∷ a.0.1 ∷ rest) (k.1 ∙ ap (λ rest. decimal b.0.0 ∷ rest) l.1))

pub drawn-read : (T : Table) (declared : Declared) (x : Happening) → IsTold T declared kinds.Drawn x → read_drawn (tail_words T x) ≡ Some x
unfolding read_drawn
drawn-read T declared (Drawn seq name window ticket) h =
    rw (
      noted-read seq name (decimal window ∷ decimal ticket ∷ []) h.0.0 h.0.1,
      number-read (2 ^ 64) window (decimal ticket ∷ []) (omega arith) h.0.2,
      last-read (2 ^ 64) ticket (omega arith) h.0.3,
    ) refl
drawn-read T declared _ h = absurd (let wrong = h.1 in cc)

pub counted-said : (T : Table) (declared : Declared) (ws : WordList) (x : Happening) → read_counted ws ≡ Some x → Tells T declared kinds.Counted ws x
unfolding read_counted
counted-said T declared ws x e =
    let a = chained _ (read_note ws) x e in
    let b = chained _ (read_end a.0.2) x a.2 in
    let h = noted-is ws a.0 a.1 in
    along T declared kinds.Counted ws _ x b.2 (((h.0, h.1), refl), h.2 ∙ ap (λ rest. decimal a.0.0 ∷ a.0.1 ∷ rest) (end-said a.0.2 b.0 b.1))

pub counted-read : (T : Table) (declared : Declared) (x : Happening) → IsTold T declared kinds.Counted x → read_counted (tail_words T x) ≡ Some x
unfolding read_counted
counted-read T declared (Counted seq name) h = rw (noted-read seq name [] h.0.0 h.0.1) refl
counted-read T declared _ h = absurd (let wrong = h.1 in cc)

pub redacted-said : (T : Table) (declared : Declared) (ws : WordList) (x : Happening) → read_redacted ws ≡ Some x → Tells T declared kinds.Redacted ws x
unfolding read_redacted
redacted-said T declared ws x e =
    let a = chained _ (read_note ws) x e in
    let b = chained _ (read_last_number (2 ^ 32) a.0.2) x a.2 in
    let h = noted-is ws a.0 a.1 in
    let k = last-said (2 ^ 32) a.0.2 b.0 (omega arith) b.1 in
    along T declared kinds.Redacted ws _ x b.2 (((h.0, h.1, k.0), refl), h.2 ∙ ap (λ rest. decimal a.0.0 ∷ a.0.1 ∷ rest) k.1)

pub redacted-read : (T : Table) (declared : Declared) (x : Happening) → IsTold T declared kinds.Redacted x → read_redacted (tail_words T x) ≡ Some x
unfolding read_redacted
redacted-read T declared (Redacted seq name version) h =
    rw (noted-read seq name (decimal version ∷ []) h.0.0 h.0.1, last-read (2 ^ 32) version (omega arith) h.0.2) refl
redacted-read T declared _ h = absurd (let wrong = h.1 in cc)
