-- The words of a pending call's line are read exactly as they are written.
use Rattle.std.proofs.Common.{◌≡◌, ℕ, ◌<◌, ◌^◌, ◌||◌, Bool, true, false, List, [], ◌∷◌, cond, refl, ap, ◌∙◌, arith}
use Rattle.std.proofs.Common.{Some, None, Option, subst, inl, inr, ◌⊎◌, codes}
use Rattle.std.specs.Fmt.{decimal}
use Rattle.std.specs.Str.{bytes_eq}
use Rattle.std.proofs.lemmas.Slice.Eq.{bytes_eq-Decides}
use Rattle.mrpc_table.specs.Names.{is_name_form}
use Rattle.mrpc_table.specs.declared.table.Table.{Table}
use Rattle.policy_declarations.specs.Declarations.{Declared}
use Rattle.audit_text.specs.Lines.{WordList, held_words, transport}
use Rattle.audit_text.specs.Writable.{IsWritableHolding, IsQueueName, IsWritablePendingCall}
use Rattle.audit_text.specs.declared.holding.Holding.{Holding}
use Rattle.audit_text.specs.LineWords.{read_holding, is_queue_name, line_words, read_stands}
use Rattle.audit_text.specs.Reading.{◌>>=◌, read_word, read_last_number, read_number}
use Rattle.audit_text.specs.LineBytes.{IsWritableLine}
use Rattle.audit_text.specs.declared.line.AuditLine.{AuditLine}
use Rattle.audit_text.specs.declared.line.AuditLine.TheVariants as lines
use Rattle.audit_text.proofs.Causes.{first-said}
use Rattle.audit_text.proofs.Said.{chained, last-read, last-said, number-read, number-said, unsome}

-- ---- queues

either-true : (a b : Bool) → (a || b) ≡ true → (a ≡ true) ⊎ (b ≡ true)
either-true true b h = inl refl
either-true false b h = inr h

queue-is : (word : List ℕ) → is_queue_name word ≡ true → IsQueueName word
queue-is word h = elim (either-true (is_name_form word) (bytes_eq word transport) h) [
  | inl form ↦ inl form
  | inr same ↦ inr ((bytes_eq-Decides word transport).0 same)
]

right-true : (a b : Bool) → b ≡ true → (a || b) ≡ true
right-true true b h = refl
right-true false b h = h

queue-read : (word : List ℕ) → IsQueueName word → is_queue_name word ≡ true
queue-read word (inl form) = rw form refl
queue-read word (inr is) = right-true (is_name_form word) (bytes_eq word transport) ((bytes_eq-Decides word transport).1 is)

-- ---- held calls

abbrev held_from : WordList → Option (Option Holding)
held_from ws = read_number (2 ^ 64) ws >>= (λ level. read_last_number (2 ^ 64) level.1 >>= (λ cost. Some (Some (record { level = level.0; cost = cost }))))

holding-is : (ws : WordList) (holding : Option Holding) → read_holding ws ≡ Some holding → IsWritableHolding holding × (ws ≡ held_words holding)
unfolding read_holding
holding-is [] holding e = let P : Option Holding → Type 0 = λ h. IsWritableHolding h × (◌≡◌ {A = WordList} [] (held_words h)) in subst P (unsome None holding e) (tt, refl)
holding-is (w ∷ ws) holding e = go (bytes_eq w (codes "held")) refl e
  where
    go : (b : Bool) → bytes_eq w (codes "held") ≡ b → cond b (held_from ws) None ≡ Some holding → IsWritableHolding holding × (w ∷ ws ≡ held_words holding)
    go true is e =
        let a = chained _ (read_number (2 ^ 64) ws) holding e in
        let b = chained _ (read_last_number (2 ^ 64) a.0.1) holding a.2 in
        let h = number-said (2 ^ 64) ws a.0 (omega arith) a.1 in
        let k = last-said (2 ^ 64) a.0.1 b.0 (omega arith) b.1 in
        let P : Option Holding → Type 0 = λ x. IsWritableHolding x × (w ∷ ws ≡ held_words x) in
        subst P (unsome (Some (record { level = a.0.0; cost = b.0 })) holding b.2) (
          (h.0, k.0),
          ap (λ v. v ∷ ws) ((bytes_eq-Decides w (codes "held")).0 is) ∙ ap (λ r. codes "held" ∷ r)
              (h.1 ∙ ap (λ r. decimal a.0.0 ∷ r) k.1),
        )
    go false is e = absurd cc

holding-read : (holding : Option Holding) → IsWritableHolding holding → read_holding (held_words holding) ≡ Some holding
unfolding read_holding
holding-read None h = refl
holding-read (Some at) h = rw (number-read (2 ^ 64) at.level (decimal at.cost ∷ []) (omega arith) h.0, last-read (2 ^ 64) at.cost (omega arith) h.1) refl

-- ---- lines

abbrev pub SaysLine : Table → Declared → WordList → AuditLine → Type 0
SaysLine T declared ws x = IsWritableLine T declared x × (ws ≡ line_words T x)

pub stands-said : (T : Table) (declared : Declared) (conn : ℕ) (ws : WordList) (x : AuditLine) → conn < 2 ^ 32
    → read_stands conn ws ≡ Some x → SaysLine T declared (codes "stands" ∷ decimal conn ∷ ws) x
unfolding read_stands
stands-said T declared conn ws x less e =
    let a = chained _ (read_number (2 ^ 32) ws) x e in
    let b = chained _ (read_number (2 ^ 32) a.0.1) x a.2 in
    let c = chained _ (read_word b.0.1) x b.2 in
    let h = number-said (2 ^ 32) ws a.0 (omega arith) a.1 in
    let k = number-said (2 ^ 32) a.0.1 b.0 (omega arith) b.1 in
    let l = first-said b.0.1 c.0 c.1 in
    let front : (rest : WordList) → c.0.1 ≡ rest → codes "stands" ∷ decimal conn ∷ ws ≡ codes "stands" ∷ decimal conn ∷ decimal a.0.0 ∷ decimal b.0.0 ∷ c.0.0 ∷ rest =
    λ rest is. ap (λ r. codes "stands" ∷ decimal conn ∷ r) (h.1 ∙ ap (λ r. decimal a.0.0 ∷ r) (k.1 ∙ ap (λ r. decimal b.0.0 ∷ r) (l ∙ ap (λ r. c.0.0 ∷ r) is))) in
    go conn less a.0.0 h.0 b.0.0 k.0 c.0.0 c.0.1 front (is_queue_name c.0.0) refl c.2
  where
    go : (conn : ℕ) → conn < 2 ^ 32 → (seq : ℕ) → seq < 2 ^ 32 → (position : ℕ) → position < 2 ^ 32 → (name : List ℕ) (rest : WordList)
        → ((r : WordList) → rest ≡ r → codes "stands" ∷ decimal conn ∷ ws ≡ codes "stands" ∷ decimal conn ∷ decimal seq ∷ decimal position ∷ name ∷ r)
        → (b : Bool) → is_queue_name name ≡ b
        → cond b (read_holding rest >>= (λ holding. Some (lines.Stands conn seq position name holding))) None ≡ Some x → SaysLine T declared (codes "stands" ∷ decimal conn ∷ ws) x
    go conn small seq less position under name rest front true is e =
        let d = chained _ (read_holding rest) x e in
        let m = holding-is rest d.0 d.1 in
        let P : AuditLine → Type 0 = λ y. SaysLine T declared (codes "stands" ∷ decimal conn ∷ ws) y in
        subst P (unsome (lines.Stands conn seq position name d.0) x d.2) (
          record {
            conn = small;
            seq = less;
            position = under;
            name = queue-is name is;
            holding = m.0;
          },
          front (held_words d.0) m.1,
        )
    go conn small seq less position under name rest front false is e = absurd cc

pub stands-read : (conn seq position : ℕ) (name : List ℕ) (holding : Option Holding)
    → IsWritablePendingCall conn seq position name holding
    → read_stands conn (decimal seq ∷ decimal position ∷ name ∷ held_words holding)
    ≡ Some (lines.Stands conn seq position name holding)
unfolding read_stands
stands-read conn seq position name holding h =
    rw (
      number-read (2 ^ 32) seq (decimal position ∷ name ∷ held_words holding) (omega arith) h.seq,
      number-read (2 ^ 32) position (name ∷ held_words holding) (omega arith) h.position,
      queue-read name h.name,
      holding-read holding h.holding,
    ) refl
