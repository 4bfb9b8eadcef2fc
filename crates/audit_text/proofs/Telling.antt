-- The words of a writable event determine it.
use Rattle.std.proofs.Common.{◌≡◌, ℕ, zero, suc, ◌<◌, ◌^◌, nat_lt, true, List, [], ◌∷◌, length, get_or, codes, refl, arith}
use Rattle.std.specs.Fmt.{decimal}
use Rattle.std.specs.List.{list_all}
use Rattle.hex.specs.Hex.{encode_lower, encode_with, lower_digits}
use Rattle.mrpc_table.specs.Calls.{message_at}
use Rattle.mrpc_table.specs.Valid.{IsValid}
use Rattle.mrpc_table.specs.declared.table.Table.{Table}
use Rattle.graph_form.specs.Words.{graph_reason_word}
use Rattle.graph_form.specs.declared.reason.Reason.{Reason}
use Rattle.graph_form.specs.declared.reason.Reason.TheVariants.{Address, Presence, Case, Length, Utf8, Narrow, Depth, Loads, NoMethod}
use Rattle.engine_core.specs.declared.op.Op.{Op as Step}
use Rattle.engine_core.specs.declared.op.Op.TheVariants.{Attach, Detach, Upgrade}
use Rattle.call_history.specs.declared.happening.Cause.{Cause}
use Rattle.call_history.specs.declared.happening.Cause.TheVariants as cause
use Rattle.call_history.specs.declared.happening.Happening.{Happening}
use Rattle.call_history.specs.declared.happening.Happening.TheVariants.{Took, Away, Op, Moment, Charged, Drawn, Counted, Redacted, Sent, Refused}
use Rattle.call_history.specs.declared.happening.AcceptedCall.{AcceptedCall}
use Rattle.call_history.specs.declared.happening.TookCopy.{TookCopy}
use Rattle.call_history.specs.declared.happening.TookCopy.TheVariants.{Copy, Malformed}
use Rattle.policy_declarations.specs.Declarations.{Declared}
use Rattle.audit_text.specs.Lines.{hex_word, copy_words, step_words, cause_words, happening_words}
use Rattle.audit_text.specs.Writable.{IsWritableOp, IsWritableCopy, IsWritableCause, CanBeWritten}
use Rattle.audit_text.proofs.Bytes.{AreBytes}
use Rattle.audit_text.proofs.EncodedBytes.{encoding-bytes}
use Rattle.audit_text.proofs.Words.{IsWord, AreWords, decimal-word, name-word, literal, lt-from, both-left, both-right}

-- ---- the words of each event are words

reason-words : (r : Reason) → IsWord (graph_reason_word r)
reason-words Address = literal (codes "Address") refl
reason-words Presence = literal (codes "Presence") refl
reason-words Case = literal (codes "Case") refl
reason-words Length = literal (codes "Length") refl
reason-words Utf8 = literal (codes "Utf8") refl
reason-words Narrow = literal (codes "Narrow") refl
reason-words Depth = literal (codes "Depth") refl
reason-words Loads = literal (codes "Loads") refl
reason-words NoMethod = literal (codes "NoMethod") refl

each-digit : (t : List ℕ) → list_all (λ c. nat_lt 32 c) t ≡ true → (k : ℕ) → k < length t → 32 < get_or t k 0
each-digit [] all k less = absurd (omega (arith, less))
each-digit (c ∷ t) all zero less = lt-from (both-left (nat_lt 32 c) (list_all (λ c. nat_lt 32 c) t) all)
each-digit (c ∷ t) all (suc k) less = each-digit t (both-right (nat_lt 32 c) (list_all (λ c. nat_lt 32 c) t) all) k (omega (arith, less))

digit-above : (k : ℕ) → k < 16 → 32 < get_or lower_digits k 0
digit-above k small = each-digit lower_digits refl k small

hex-above : (bytes : List ℕ) → AreBytes bytes → IsWord (encode_lower bytes)
unfolding encode_with
hex-above [] h = tt
hex-above (b ∷ bytes) h = (digit-above _ (let e = h.0 in omega (arith, e)), (digit-above _ (omega arith), hex-above bytes h.1))

pub hex-word : (bytes : List ℕ) → AreBytes bytes → IsWord (hex_word bytes)
hex-word [] h = (omega arith, tt)
hex-word (b ∷ bytes) h = hex-above (b ∷ bytes) h

pub low16 : (n : ℕ) → n < 2 ^ 16 → n < 2 ^ 64
low16 n h = omega (arith, h)

pub low32 : (n : ℕ) → n < 2 ^ 32 → n < 2 ^ 64
low32 n h = omega (arith, h)

pub word16 : (n : ℕ) → n < 2 ^ 16 → IsWord (decimal n)
word16 n h = decimal-word n (low16 n h)

pub word32 : (n : ℕ) → n < 2 ^ 32 → IsWord (decimal n)
word32 n h = decimal-word n (low32 n h)

copy-are_words : (T : Table) → IsValid T → (call : AcceptedCall) (copy : TookCopy) → IsWritableCopy T call copy → AreWords (copy_words T (message_at T call.method call.number) copy)
copy-are_words T valid call (Copy tree) h = (literal (codes "copy") refl, (hex-word _ (encoding-bytes T _ tree valid h.normal h.short), tt))
copy-are_words T valid call (Malformed reason place value) h = (literal (codes "malformed") refl, (reason-words reason, (decimal-word place h.0, (decimal-word value h.1, tt))))

step-are_words : (declared : Declared) (step : Step) → IsWritableOp declared step → AreWords (step_words step)
step-are_words declared (Attach at name label policy) h = (literal (codes "attach") refl, (word32 at h.0, (name-word name h.1, (name-word label h.2.form, tt))))
step-are_words declared (Detach name) h = (literal (codes "detach") refl, (name-word name h, tt))
step-are_words declared (Upgrade name label policy) h = (literal (codes "upgrade") refl, (name-word name h.0, (name-word label h.1.form, tt)))

cause-are_words : (why : Cause) → IsWritableCause why → AreWords (cause_words why)
cause-are_words cause.Malformed h = (literal (codes "malformed") refl, tt)
cause-are_words (cause.Access name version rule) h = (literal (codes "access") refl, (name-word name h.0, (word32 version h.1, (name-word rule h.2, tt))))
cause-are_words (cause.Rate name left cost) h = (literal (codes "rate") refl, (name-word name h.0, (decimal-word left h.1, (decimal-word cost h.2, tt))))
cause-are_words (cause.Quota name ticket cap) h = (literal (codes "quota") refl, (name-word name h.0, (decimal-word ticket h.1, (decimal-word cap h.2, tt))))
cause-are_words cause.Transport h = (literal (codes "transport") refl, tt)

pub are-words : (T : Table) → IsValid T → (declared : Declared) (conn : ℕ) (x : Happening) → conn < 2 ^ 32 → CanBeWritten T declared x → AreWords (happening_words T conn x)
are-words T valid declared conn (Took call) small h = (
  literal (codes "took") refl,
  (
    word32 conn small,
    (
      word32 call.seq h.seq,
      (
        word16 call.method h.method,
        (
          word32 call.number h.number,
          (
            decimal-word call.addr h.addr,
            (
              decimal-word call.after h.after,
              (decimal-word call.count h.count, copy-are_words T valid call call.copy h.copy),
            ),
          ),
        ),
      ),
    ),
  ),
)
are-words T valid declared conn (Away method number addr) small h =
    (literal (codes "away") refl, (word32 conn small, (word16 method h.0, (word32 number h.1, (decimal-word addr h.2, tt)))))
are-words T valid declared conn (Op step) small h = (literal (codes "op") refl, (word32 conn small, step-are_words declared step h))
are-words T valid declared conn (Moment ms) small h = (literal (codes "moment") refl, (word32 conn small, (decimal-word ms h, tt)))
are-words T valid declared conn (Charged seq name left) small h =
    (literal (codes "charged") refl, (word32 conn small, (word32 seq h.0, (name-word name h.1, (decimal-word left h.2, tt)))))
are-words T valid declared conn (Drawn seq name window ticket) small h =
    (literal (codes "drawn") refl, (word32 conn small, (word32 seq h.0, (name-word name h.1, (decimal-word window h.2, (decimal-word ticket h.3, tt))))))
are-words T valid declared conn (Counted seq name) small h =
    (literal (codes "counted") refl, (word32 conn small, (word32 seq h.0, (name-word name h.1, tt))))
are-words T valid declared conn (Redacted seq name version) small h =
    (literal (codes "redacted") refl, (word32 conn small, (word32 seq h.0, (name-word name h.1, (word32 version h.2, tt)))))
are-words T valid declared conn (Sent seq bytes) small h =
    (literal (codes "sent") refl, (word32 conn small, (word32 seq h.0, (decimal-word bytes h.1, tt))))
are-words T valid declared conn (Refused seq why) small h =
    (literal (codes "refused") refl, (word32 conn small, (word32 seq h.0, cause-are_words why h.1)))

pub some-words : (T : Table) (conn : ℕ) (x : Happening) → 0 < length (happening_words T conn x)
some-words T conn (Took call) = omega arith
some-words T conn (Away method number addr) = omega arith
some-words T conn (Op step) = omega arith
some-words T conn (Moment ms) = omega arith
some-words T conn (Charged seq name left) = omega arith
some-words T conn (Drawn seq name window ticket) = omega arith
some-words T conn (Counted seq name) = omega arith
some-words T conn (Redacted seq name version) = omega arith
some-words T conn (Sent seq bytes) = omega arith
some-words T conn (Refused seq why) = omega arith
