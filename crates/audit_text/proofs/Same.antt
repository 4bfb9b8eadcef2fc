-- Writable events with the same words are equal.
use Rattle.std.proofs.Common.{◌≡◌, ℕ, zero, suc, ◌+◌, ◌*◌, ◌<◌, ◌^◌, nat_eq, true, false, List, [], ◌∷◌, length}
use Rattle.std.proofs.Common.{get_or, codes, refl, ap, sym, subst, ◌∙◌, arith, Some, All, if◌then◌else◌}
use Rattle.std.specs.Fmt.{decimal}
use Rattle.std.specs.Prelude.{slice_get, option_map, unwrap_or}
use Rattle.std.specs.Str.{bytes_eq}
use Rattle.std.proofs.lemmas.Bool.Decides.{nat_tests}
use Rattle.std.proofs.lemmas.List.Elements.{All-head, All-tail}
use Rattle.mrpc_table.specs.Calls.{message_at, message_of_method, call_kind_of}
use Rattle.mrpc_table.specs.Node.{Node}
use Rattle.mrpc_table.specs.Normal.{IsNormal}
use Rattle.mrpc_table.specs.Valid.{IsValid, IsMethod}
use Rattle.mrpc_table.specs.declared.call.CallKind.{CallKind}
use Rattle.mrpc_table.specs.declared.call.CallKind.TheVariants.{Request, Reply}
use Rattle.mrpc_table.specs.declared.table.Method.{Method}
use Rattle.mrpc_table.specs.declared.table.Table.{Table}
use Rattle.wire_base.specs.Encoding.{encoding}
use Rattle.wire_decode.specs.Means.{Means}
use Rattle.graph_form.specs.Words.{graph_reason_word}
use Rattle.graph_form.specs.declared.reason.Reason.{Reason}
use Rattle.graph_form.specs.declared.reason.Reason.TheVariants.{Address, Presence, Case, Length, Utf8, Narrow, Depth, Loads, NoMethod}
use Rattle.engine_core.specs.declared.op.Op.{Op as Step}
use Rattle.engine_core.specs.declared.op.Op.TheVariants.{Attach, Detach, Upgrade}
use Rattle.engine_core.specs.declared.policy.Policy.{Policy}
use Rattle.call_history.specs.declared.happening.Cause.{Cause}
use Rattle.call_history.specs.declared.happening.Cause.TheVariants as cause
use Rattle.call_history.specs.declared.happening.ConnectionEvent.{ConnectionEvent}
use Rattle.call_history.specs.declared.happening.Happening.{Happening}
use Rattle.call_history.specs.declared.happening.Happening.TheVariants.{Took, Away, Op, Moment, Charged, Drawn, Counted, Redacted, Sent, Refused}
use Rattle.call_history.specs.declared.happening.AcceptedCall.{AcceptedCall}
use Rattle.call_history.specs.declared.happening.TookCopy.{TookCopy}
use Rattle.call_history.specs.declared.happening.TookCopy.TheVariants.{Copy, Malformed}
use Rattle.policy_declarations.specs.Declarations.{Declared}
use Rattle.audit_text.specs.Labels.{policy_under}
use Rattle.audit_text.specs.Lines.{WordList, hex_word, copy_words, step_words, cause_words, happening_words}
use Rattle.audit_text.specs.Writable.{IsDeclared, IsWritableOp, IsWritableCopy, IsWritableCall, IsWritableCause, CanBeWritten, IsWritable}
use Rattle.audit_text.proofs.Bytes.{bytes-each}
use Rattle.audit_text.proofs.Digits.{digits-tell}
use Rattle.audit_text.proofs.EncodedBytes.{encoding-bytes}
use Rattle.audit_text.proofs.Telling.{low16, low32}
use Rattle.audit_text.proofs.Words.{decimal-same}

-- ---- distinguishing words

-- the first three letters of the first word
abbrev pub mark_of : List ℕ → ℕ
mark_of w = get_or w 0 0 * 65536 + get_or w 1 0 * 256 + get_or w 2 0

abbrev pub mark : WordList → ℕ
mark [] = 0
mark (w ∷ ws) = mark_of w

pub false-true : false ≡ true → ⊥
false-true h = cc

same-mark : (a b : WordList) → a ≡ b → nat_eq (mark a) (mark b) ≡ true
same-mark a b e = subst (λ (b : WordList). nat_eq (mark a) (mark b) ≡ true) e (self (mark a))
  where
    self : (n : ℕ) → nat_eq n n ≡ true
    self n = grind (arith, nat_tests)

-- ---- copies

-- the laws about a copy's bytes
abbrev pub OneMeaning : Type 0
OneMeaning = (T : Table) (msg : ℕ) (bytes : List ℕ) (t u : Node) → Means T msg bytes t → Means T msg bytes u → t ≡ u

abbrev pub EncodingMeans : Type 0
EncodingMeans = (T : Table) (msg : ℕ) (t : Node) → IsValid T → msg < length T.messages → IsNormal T msg t → length (encoding T msg t) < 2 ^ 64 → Means T msg (encoding T msg t) t

tree-same : OneMeaning → EncodingMeans → (T : Table) → IsValid T → (msg : ℕ) → msg < length T.messages → (t u : Node)
    → IsNormal T msg t → IsNormal T msg u → length (encoding T msg t) < 2 ^ 64 → length (encoding T msg u) < 2 ^ 64
    → hex_word (encoding T msg t) ≡ hex_word (encoding T msg u) → t ≡ u
tree-same one means T valid msg known t u h k few less e =
    let left = bytes-each (encoding T msg t) (encoding-bytes T msg t valid h few) in
    let right = bytes-each (encoding T msg u) (encoding-bytes T msg u valid k less) in
    let same = digits-tell (encoding T msg t) (encoding T msg u) left right e in
    let other : Means T msg (encoding T msg t) u = subst (λ (bytes : List ℕ). Means T msg bytes u) (sym same) (means T msg u valid known k less) in
    one T msg (encoding T msg t) t u (means T msg t valid known h few) other

method-message : (T : Table) (sort : CallKind) (m : Method) → IsMethod T m → message_of_method sort m < length T.messages
method-message T Request m h = h.input
method-message T Reply m h = h.output

message-at : (T : Table) (sort : CallKind) (ms : List Method) (i : ℕ) → All (IsMethod T) ms → i < length ms
    → unwrap_or (option_map (message_of_method sort) (slice_get ms i)) 0 < length T.messages
message-at T sort [] i all less = absurd (omega (arith, less))
message-at T sort (m ∷ ms) zero all less = method-message T sort m (All-head (IsMethod T) m ms all)
message-at T sort (m ∷ ms) (suc i) all less = message-at T sort ms i (All-tail (IsMethod T) m ms all) (omega (arith, less))

pub known-message : (T : Table) → IsValid T → (method number : ℕ) → method < length T.methods → message_at T method number < length T.messages
known-message T valid method number less = message-at T (call_kind_of number) T.methods method valid.methods less

reason_of : List ℕ → Reason
reason_of w =
    if bytes_eq w (codes "Address") then Address else
    if bytes_eq w (codes "Presence") then Presence else
    if bytes_eq w (codes "Case") then Case else
    if bytes_eq w (codes "Length") then Length else
    if bytes_eq w (codes "Utf8") then Utf8 else
    if bytes_eq w (codes "Narrow") then Narrow else
    if bytes_eq w (codes "Depth") then Depth else
    if bytes_eq w (codes "Loads") then Loads else NoMethod

reason-told : (r : Reason) → reason_of (graph_reason_word r) ≡ r
unfolding reason_of
reason-told Address = refl
reason-told Presence = refl
reason-told Case = refl
reason-told Length = refl
reason-told Utf8 = refl
reason-told Narrow = refl
reason-told Depth = refl
reason-told Loads = refl
reason-told NoMethod = refl

reason-same : (r s : Reason) → graph_reason_word r ≡ graph_reason_word s → r ≡ s
reason-same r s e = sym (reason-told r) ∙ ap reason_of e ∙ reason-told s

-- the copy of a call with this message, or why it has none
IsTakenAt : Table → ℕ → TookCopy → Type 0
IsTakenAt T msg (Copy tree) = (msg < length T.messages) × IsNormal T msg tree × (length (encoding T msg tree) < 2 ^ 64)
IsTakenAt T msg (Malformed reason place value) = (place < 2 ^ 64) × (value < 2 ^ 64)

taken-at : (T : Table) → IsValid T → (call : AcceptedCall) (copy : TookCopy) → IsWritableCopy T call copy → IsTakenAt T (message_at T call.method call.number) copy
unfolding IsTakenAt
taken-at T valid call (Copy tree) h = (known-message T valid call.method call.number h.method, h.normal, h.short)
taken-at T valid call (Malformed reason place value) h = h

copy-same : OneMeaning → EncodingMeans → (T : Table) → IsValid T → (msg : ℕ) (a b : TookCopy) → IsTakenAt T msg a
    → IsTakenAt T msg b → nat_eq (mark (copy_words T msg a)) (mark (copy_words T msg b)) ≡ true
    → copy_words T msg a ≡ copy_words T msg b → a ≡ b
unfolding IsTakenAt
copy-same one means T valid msg (Copy t) (Copy u) h k m e =
    let hex : hex_word (encoding T msg t) ≡ hex_word (encoding T msg u) = cc in
    ap Copy (tree-same one means T valid msg h.0 t u h.1 k.1 h.2 k.2 hex)
copy-same one means T valid msg (Malformed r p v) (Malformed s q w) h k m e =
    let words : graph_reason_word r ≡ graph_reason_word s = cc in
    let places : decimal p ≡ decimal q = cc in
    let values : decimal v ≡ decimal w = cc in
    let reasons = reason-same r s words in
    let at = decimal-same p q h.0 k.0 places in
    let value = decimal-same v w h.1 k.1 values in cc
copy-same one means T valid msg (Copy t) (Malformed s q w) h k m e = absurd (false-true m)
copy-same one means T valid msg (Malformed r p v) (Copy u) h k m e = absurd (false-true m)

-- ---- operations

policy-same : (declared : Declared) (a b : List ℕ) (p q : Policy) → a ≡ b → IsDeclared declared a p → IsDeclared declared b q → p ≡ q
policy-same declared a b p q e h k =
    let both : Some p ≡ Some q = sym h.under ∙ ap (λ l. policy_under l declared) e ∙ k.under in cc

step-same : (declared : Declared) (a b : Step) → IsWritableOp declared a → IsWritableOp declared b
    → nat_eq (mark (step_words a)) (mark (step_words b)) ≡ true → step_words a ≡ step_words b → a ≡ b
step-same declared (Attach at name label policy) (Attach place other known rule) h k m e =
    let at_words : decimal at ≡ decimal place = cc in
    let places = decimal-same at place (low32 at h.0) (low32 place k.0) at_words in
    let names : name ≡ other = cc in
    let labels : label ≡ known = cc in
    let policies = policy-same declared label known policy rule labels h.2 k.2 in cc
step-same declared (Detach name) (Detach other) h k m e = cc
step-same declared (Upgrade name label policy) (Upgrade other known rule) h k m e =
    let names : name ≡ other = cc in
    let labels : label ≡ known = cc in
    let policies = policy-same declared label known policy rule labels h.1 k.1 in cc
step-same declared _ _ h k m e = absurd (false-true m)

-- ---- refusals

cause-same : (a b : Cause) → IsWritableCause a → IsWritableCause b → nat_eq (mark (cause_words a)) (mark (cause_words b)) ≡ true → cause_words a ≡ cause_words b → a ≡ b
cause-same cause.Malformed cause.Malformed h k m e = refl
cause-same (cause.Access name version rule) (cause.Access other later by) h k m e =
    let words : decimal version ≡ decimal later = cc in
    let versions = decimal-same version later (low32 version h.1) (low32 later k.1) words in
    let names : name ≡ other = cc in
    let rules : rule ≡ by = cc in cc
cause-same (cause.Rate name left cost) (cause.Rate other level price) h k m e =
    let left_words : decimal left ≡ decimal level = cc in
    let cost_words : decimal cost ≡ decimal price = cc in
    let levels = decimal-same left level h.1 k.1 left_words in
    let costs = decimal-same cost price h.2 k.2 cost_words in
    let names : name ≡ other = cc in cc
cause-same (cause.Quota name ticket cap) (cause.Quota other drawn most) h k m e =
    let ticket_words : decimal ticket ≡ decimal drawn = cc in
    let cap_words : decimal cap ≡ decimal most = cc in
    let tickets = decimal-same ticket drawn h.1 k.1 ticket_words in
    let caps = decimal-same cap most h.2 k.2 cap_words in
    let names : name ≡ other = cc in cc
cause-same cause.Transport cause.Transport h k m e = refl
cause-same _ _ h k m e = absurd (false-true m)

-- ---- accepted calls

made : ℕ → ℕ → ℕ → ℕ → ℕ → ℕ → TookCopy → AcceptedCall
made seq method number addr after count copy = record { seq = seq; method = method; number = number; addr = addr; after = after; count = count; copy = copy }

made-again : (a : AcceptedCall) → made a.seq a.method a.number a.addr a.after a.count a.copy ≡ a
unfolding made
made-again a = refl

taken-same : (a b : AcceptedCall) → a.seq ≡ b.seq → a.method ≡ b.method → a.number ≡ b.number → a.addr ≡ b.addr
    → a.after ≡ b.after → a.count ≡ b.count → a.copy ≡ b.copy → a ≡ b
taken-same a b seq method number addr after count copy = cc (made-again a, made-again b)

call-same : OneMeaning → EncodingMeans → (T : Table) → IsValid T → (c d : ℕ) (a b : AcceptedCall) → IsWritableCall T a
    → IsWritableCall T b → happening_words T c (Took a) ≡ happening_words T d (Took b) → a ≡ b
call-same one means T valid c d a b h k e =
    let seq_words : decimal a.seq ≡ decimal b.seq = cc in
    let method_words : decimal a.method ≡ decimal b.method = cc in
    let number_words : decimal a.number ≡ decimal b.number = cc in
    let addr_words : decimal a.addr ≡ decimal b.addr = cc in
    let after_words : decimal a.after ≡ decimal b.after = cc in
    let count_words : decimal a.count ≡ decimal b.count = cc in
    let copies : copy_words T (message_at T a.method a.number) a.copy ≡ copy_words T (message_at T b.method b.number) b.copy = cc in
    let seq = decimal-same a.seq b.seq (low32 a.seq h.seq) (low32 b.seq k.seq) seq_words in
    let method = decimal-same a.method b.method (low16 a.method h.method) (low16 b.method k.method) method_words in
    let number = decimal-same a.number b.number (low32 a.number h.number) (low32 b.number k.number) number_words in
    let addr = decimal-same a.addr b.addr h.addr k.addr addr_words in
    let after = decimal-same a.after b.after h.after k.after after_words in
    let count = decimal-same a.count b.count h.count k.count count_words in
    let message : message_at T b.method b.number ≡ message_at T a.method a.number = cc in
    let taken : IsTakenAt T (message_at T a.method a.number) b.copy = subst (λ (m : ℕ). IsTakenAt T m b.copy) message (taken-at T valid b b.copy k.copy) in
    let words : copy_words T (message_at T a.method a.number) a.copy ≡ copy_words T (message_at T a.method a.number) b.copy = copies ∙ ap (λ m. copy_words T m b.copy) message in
    let copy = copy-same one means T valid (message_at T a.method a.number) a.copy b.copy (taken-at T valid a a.copy h.copy) taken (same-mark _ _ words) words in
    taken-same a b seq method number addr after count copy

-- ---- events

what-same : OneMeaning → EncodingMeans → (T : Table) → IsValid T → (declared : Declared) (c d : ℕ) (x y : Happening)
    → CanBeWritten T declared x → CanBeWritten T declared y
    → nat_eq (mark (happening_words T c x)) (mark (happening_words T d y)) ≡ true
    → happening_words T c x ≡ happening_words T d y → x ≡ y
what-same one means T valid declared c d (Took a) (Took b) h k m e = ap Took (call-same one means T valid c d a b h k e)
what-same one means T valid declared c d (Away method number addr) (Away function request place) h k m e =
    let method_words : decimal method ≡ decimal function = cc in
    let number_words : decimal number ≡ decimal request = cc in
    let addr_words : decimal addr ≡ decimal place = cc in
    let methods = decimal-same method function (low16 method h.0) (low16 function k.0) method_words in
    let numbers = decimal-same number request (low32 number h.1) (low32 request k.1) number_words in
    let places = decimal-same addr place h.2 k.2 addr_words in cc
what-same one means T valid declared c d (Op a) (Op b) h k m e =
    let words : step_words a ≡ step_words b = cc in ap Op (step-same declared a b h k (same-mark _ _ words) words)
what-same one means T valid declared c d (Moment ms) (Moment time) h k m e =
    let words : decimal ms ≡ decimal time = cc in ap Moment (decimal-same ms time h k words)
what-same one means T valid declared c d (Charged seq name left) (Charged call other level) h k m e =
    let seq_words : decimal seq ≡ decimal call = cc in
    let level_words : decimal left ≡ decimal level = cc in
    let seqs = decimal-same seq call (low32 seq h.0) (low32 call k.0) seq_words in
    let levels = decimal-same left level h.2 k.2 level_words in
    let names : name ≡ other = cc in cc
what-same one means T valid declared c d (Drawn seq name window ticket) (Drawn call other at drawn) h k m e =
    let seq_words : decimal seq ≡ decimal call = cc in
    let window_words : decimal window ≡ decimal at = cc in
    let ticket_words : decimal ticket ≡ decimal drawn = cc in
    let seqs = decimal-same seq call (low32 seq h.0) (low32 call k.0) seq_words in
    let windows = decimal-same window at h.2 k.2 window_words in
    let tickets = decimal-same ticket drawn h.3 k.3 ticket_words in
    let names : name ≡ other = cc in cc
what-same one means T valid declared c d (Counted seq name) (Counted call other) h k m e =
    let seq_words : decimal seq ≡ decimal call = cc in
    let seqs = decimal-same seq call (low32 seq h.0) (low32 call k.0) seq_words in
    let names : name ≡ other = cc in cc
what-same one means T valid declared c d (Redacted seq name version) (Redacted call other later) h k m e =
    let seq_words : decimal seq ≡ decimal call = cc in
    let version_words : decimal version ≡ decimal later = cc in
    let seqs = decimal-same seq call (low32 seq h.0) (low32 call k.0) seq_words in
    let versions = decimal-same version later (low32 version h.2) (low32 later k.2) version_words in
    let names : name ≡ other = cc in cc
what-same one means T valid declared c d (Sent seq bytes) (Sent call many) h k m e =
    let seq_words : decimal seq ≡ decimal call = cc in
    let bytes_words : decimal bytes ≡ decimal many = cc in
    let seqs = decimal-same seq call (low32 seq h.0) (low32 call k.0) seq_words in
    let lengths = decimal-same bytes many h.1 k.1 bytes_words in cc
what-same one means T valid declared c d (Refused seq a) (Refused call b) h k m e =
    let seq_words : decimal seq ≡ decimal call = cc in
    let words : cause_words a ≡ cause_words b = cc in
    let seqs = decimal-same seq call (low32 seq h.0) (low32 call k.0) seq_words in
    let causes = cause-same a b h.1 k.1 (same-mark _ _ words) words in cc
what-same one means T valid declared c d _ _ h k m e = absurd (false-true m)

second : WordList → List ℕ
second [] = []
second (w ∷ []) = []
second (w ∷ v ∷ ws) = v

-- the second word is the connection
second-word : (T : Table) (conn : ℕ) (x : Happening) → second (happening_words T conn x) ≡ decimal conn
unfolding second
second-word T conn (Took call) = refl
second-word T conn (Away method number addr) = refl
second-word T conn (Op step) = refl
second-word T conn (Moment ms) = refl
second-word T conn (Charged seq name left) = refl
second-word T conn (Drawn seq name window ticket) = refl
second-word T conn (Counted seq name) = refl
second-word T conn (Redacted seq name version) = refl
second-word T conn (Sent seq bytes) = refl
second-word T conn (Refused seq why) = refl

happened : ℕ → Happening → ConnectionEvent
happened conn what = record { conn = conn; what = what }

happened-again : (x : ConnectionEvent) → happened x.conn x.what ≡ x
unfolding happened
happened-again x = refl

happened-same : (x y : ConnectionEvent) → x.conn ≡ y.conn → x.what ≡ y.what → x ≡ y
happened-same x y conn what = cc (happened-again x, happened-again y)

pub words-same : OneMeaning → EncodingMeans → (T : Table) → IsValid T → (declared : Declared) (x y : ConnectionEvent)
    → IsWritable T declared x → IsWritable T declared y
    → happening_words T x.conn x.what ≡ happening_words T y.conn y.what → x ≡ y
words-same one means T valid declared x y h k e =
    let words : decimal x.conn ≡ decimal y.conn = sym (second-word T x.conn x.what) ∙ ap second e ∙ second-word T y.conn y.what in
    let conns = decimal-same x.conn y.conn (low32 x.conn h.conn) (low32 y.conn k.conn) words in
    let whats = what-same one means T valid declared x.conn y.conn x.what y.what h.told k.told (same-mark _ _ e) e in
    happened-same x y conns whats
