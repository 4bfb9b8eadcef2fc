-- Texts of histories, and lines of pending calls.
use Rattle.std.proofs.Common.{◌≡◌, ℕ, ◌<◌, List, [], ◌∷◌, ◌++◌, length, codes, refl, ap, sym, subst, arith, All, Option, Some, None, length-append, inl, inr}
use Rattle.std.specs.Fmt.{decimal}
use Rattle.std.proofs.lemmas.List.Elements.{All-head, All-tail}
use Rattle.mrpc_table.specs.Text.{line, spaced}
use Rattle.mrpc_table.specs.Valid.{IsValid}
use Rattle.mrpc_table.specs.declared.table.Table.{Table}
use Rattle.call_history.specs.Legal.{History}
use Rattle.call_history.specs.declared.happening.ConnectionEvent.{ConnectionEvent}
use Rattle.policy_declarations.specs.Declarations.{Declared}
use Rattle.audit_text.specs.Lines.{WordList, audit, audit_line, happening_words, held_words, stands_words, stands_line, transport, IsSplitInto}
use Rattle.audit_text.specs.Writable.{IsWritableHolding, IsQueueName, IsWritablePendingCall, IsWritable}
use Rattle.audit_text.specs.declared.holding.Holding.{Holding}
use Rattle.audit_text.proofs.Same.{EncodingMeans, OneMeaning, words-same}
use Rattle.audit_text.proofs.Telling.{are-words, low32, some-words, word32}
use Rattle.audit_text.proofs.Words.{AreWords, IsWord, decimal-same, decimal-word, cut-into, line-alone, line-words, literal, name-word}

-- ---- histories

line-told : (T : Table) → IsValid T → (declared : Declared) (x : ConnectionEvent) → IsWritable T declared x → AreWords (happening_words T x.conn x.what)
line-told T valid declared x h = are-words T valid declared x.conn x.what h.conn h.told

-- a line at the start of a text determines its event and the remainder
pub front-same : OneMeaning → EncodingMeans → (T : Table) → IsValid T
    → (declared : Declared) (x y : ConnectionEvent) (a b : List ℕ) → IsWritable T declared x → IsWritable T declared y
    → audit_line T x ++ a ≡ audit_line T y ++ b → (x ≡ y) × (a ≡ b)
front-same one means T valid declared x y a b h k e =
    let words = line-words (happening_words T x.conn x.what) (happening_words T y.conn y.what) a b
    (some-words T x.conn x.what) (some-words T y.conn y.what) (line-told T valid declared x h)
    (line-told T valid declared y k) e in
    (words-same one means T valid declared x y h k words.0, words.1)

line-some : (ws : WordList) (a : List ℕ) → 0 < length (line ws ++ a)
line-some ws a = omega (arith, length-append (line ws) a, length-append (spaced ws) (10 ∷ []))

pub text-same : OneMeaning → EncodingMeans → (T : Table) → IsValid T → (declared : Declared) (h k : History)
    → All (IsWritable T declared) h → All (IsWritable T declared) k → audit T h ≡ audit T k → h ≡ k
text-same one means T valid declared [] [] all every e = refl
text-same one means T valid declared [] (y ∷ k) all every e = absurd (omega (arith, ap length e, line-some (happening_words T y.conn y.what) (audit T k)))
text-same one means T valid declared (x ∷ h) [] all every e = absurd (omega (arith, ap length e, line-some (happening_words T x.conn x.what) (audit T h)))
text-same one means T valid declared (x ∷ h) (y ∷ k) all every e =
    let told = All-head (IsWritable T declared) x h all in
    let told_too = All-head (IsWritable T declared) y k every in
    let front = front-same one means T valid declared x y (audit T h) (audit T k) told told_too e in
    let rest = text-same one means T valid declared h k (All-tail (IsWritable T declared) x h all) (All-tail (IsWritable T declared) y k every) front.1 in
    let first = front.0 in cc

pub line-cut : (T : Table) (declared : Declared) (x : ConnectionEvent) → IsValid T → IsWritable T declared x → IsSplitInto (happening_words T x.conn x.what)
line-cut T declared x valid h = cut-into (happening_words T x.conn x.what) (some-words T x.conn x.what) (line-told T valid declared x h)

-- ---- pending calls

queue-word : (name : List ℕ) → IsQueueName name → IsWord name
queue-word name (inl form) = name-word name form
queue-word name (inr is) = subst IsWord (sym is) (literal transport refl)

held-are_words : (holding : Option Holding) → IsWritableHolding holding → AreWords (held_words holding)
held-are_words None h = tt
held-are_words (Some at) h = (literal (codes "held") refl, (decimal-word at.level h.0, (decimal-word at.cost h.1, tt)))

standing-are_words : (conn seq position : ℕ) (name : List ℕ) (holding : Option Holding)
    → IsWritablePendingCall conn seq position name holding → AreWords (stands_words conn seq position name holding)
standing-are_words conn seq position name holding h =
    (literal (codes "stands") refl, (word32 conn h.conn, (word32 seq h.seq, (word32 position h.position, (queue-word name h.name, held-are_words holding h.holding)))))

pub standing-cut : (conn seq position : ℕ) (name : List ℕ) (holding : Option Holding)
    → IsWritablePendingCall conn seq position name holding → IsSplitInto (stands_words conn seq position name holding)
standing-cut conn seq position name holding h = cut-into (stands_words conn seq position name holding) (omega arith) (standing-are_words conn seq position name holding h)

held : ℕ → ℕ → Holding
held level cost = record { level = level; cost = cost }

held-again : (at : Holding) → held at.level at.cost ≡ at
unfolding held
held-again at = refl

held-same : (a b : Option Holding) → IsWritableHolding a → IsWritableHolding b → held_words a ≡ held_words b → a ≡ b
held-same None None h k e = refl
held-same None (Some b) h k e = absurd (omega (arith, ap length e))
held-same (Some a) None h k e = absurd (omega (arith, ap length e))
held-same (Some a) (Some b) h k e =
    let level_words : decimal a.level ≡ decimal b.level = cc in
    let cost_words : decimal a.cost ≡ decimal b.cost = cc in
    let levels = decimal-same a.level b.level h.0 k.0 level_words in
    let costs = decimal-same a.cost b.cost h.1 k.1 cost_words in
    let same : a ≡ b = cc (held-again a, held-again b) in ap Some same

pub standing-same : (conn seq position conn' seq' position' : ℕ) (name name' : List ℕ)
    (holding holding' : Option Holding) → IsWritablePendingCall conn seq position name holding
    → IsWritablePendingCall conn' seq' position' name' holding'
    → stands_line conn seq position name holding ≡ stands_line conn' seq' position' name' holding'
    → (conn ≡ conn') × (seq ≡ seq') × (position ≡ position') × (name ≡ name') × (holding ≡ holding')
standing-same conn seq position conn' seq' position' name name' holding holding' h k e =
    let words : stands_words conn seq position name holding ≡ stands_words conn' seq' position' name' holding' =
    line-alone _ _ (omega arith) (omega arith) (standing-are_words conn seq position name holding h) (standing-are_words conn' seq' position' name' holding' k) e in
    let conn_words : decimal conn ≡ decimal conn' = cc in
    let seq_words : decimal seq ≡ decimal seq' = cc in
    let position_words : decimal position ≡ decimal position' = cc in
    let names : name ≡ name' = cc in
    let helds : held_words holding ≡ held_words holding' = cc in (
      decimal-same conn conn' (low32 conn h.conn) (low32 conn' k.conn) conn_words,
      decimal-same seq seq' (low32 seq h.seq) (low32 seq' k.seq) seq_words,
      decimal-same position position' (low32 position h.position) (low32 position' k.position) position_words,
      names,
      held-same holding holding' h.holding k.holding helds,
    )
