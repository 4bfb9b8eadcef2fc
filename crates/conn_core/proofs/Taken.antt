-- How a call is accepted, by the result of its copy.
use Rattle.std.proofs.Common.{◌≡◌, ◌≢◌, ℕ, ◌<◌, ◌≤◌, ◌*◌, List, length, refl, sym, ap, ◌∙◌, subst, arith}
use Rattle.std.specs.Prelude.{IfOk, IfSome, Ok, Err, Option, Some, None, Result}
use Rattle.mrpc_table.specs.Node.{Node}
use Rattle.mrpc_table.specs.Normal.{IsNormal}
use Rattle.mrpc_table.specs.Valid.{IsValid}
use Rattle.mrpc_table.specs.Calls.{message_at}
use Rattle.mrpc_table.specs.declared.call.Call.{Call}
use Rattle.mrpc_table.specs.declared.table.Table.{Table}
use Rattle.wire_base.specs.Encoding.{encoding}
use Rattle.graph_form.specs.Placed.{Placed, IsSound, loads}
use Rattle.graph_form.specs.Forgotten.{tree_of}
use Rattle.graph_form.specs.Malformed.{IsMalformed, copied as came_copied, is_copied as of_sound}
use Rattle.graph_form.specs.Malformed.{is_malformed as of_malformed}
use Rattle.graph_form.specs.declared.reason.Reason.{Reason}
use Rattle.graph_form.specs.declared.reason.Reason.TheVariants.{NoMethod}
use Rattle.graph_copy.specs.declared.copying.CopyResult.{CopyResult}
use Rattle.graph_copy.specs.declared.copying.CopyResult.TheVariants.{Copied, Malformed}
use Rattle.graph_copy.specs.Copies.{IsCopied}
use Rattle.graph_copy.specs.Answers.{IfCopied, IfMalformed, load_count}
use Rattle.call_history.specs.Trace.{copied, with_tree}
use Rattle.call_history.specs.Loads.{is_copied, is_malformed}
use Rattle.call_history.specs.Rules.{IsValidCopy, payload}
use Rattle.call_history.specs.declared.happening.AcceptedCall.{AcceptedCall}
use Rattle.mrpc_table.specs.declared.memory.Memory.{Memory}
use Rattle.conn_core.specs.Invariant.{IsOfCopyResult, IsWellCopied, copy_of}
use Rattle.conn_core.specs.declared.copying.CopiedSubmission.{CopiedSubmission}

-- the laws of sound graphs, as hypotheses of the proofs here
pub record GraphLaws : Type 0 where
  pub normal : (T : Table) (H msg address : ℕ) (P : Placed) → IsValid T → IsSound T H msg address P
      → IsNormal T msg (tree_of T msg P)
  pub short : (T : Table) (H msg address : ℕ) (P : Placed) → IsValid T → IsSound T H msg address P
      → length (loads P) ≤ 16384
      → length (encoding T msg (tree_of T msg P)) ≤ 16 * length (loads P)
  pub reason : (T : Table) (H msg address limit : ℕ) (xs : List (ℕ × ℕ)) (reason : Reason) (place value : ℕ)
      → IsMalformed T H msg address limit xs reason place value → reason ≢ NoMethod

by-copy : GraphLaws → (T : Table) (H limit conn : ℕ) (own : List (ℕ × ℕ)) (answer : CopyResult) (call : AcceptedCall)
    (form : Option Call) → IsValid T
    → call.method < length T.methods → limit ≤ 16384 → length own ≤ limit
    → IfCopied (IsCopied T H (message_at T call.method call.number) call.addr own) answer
    → IfMalformed (IsMalformed T H (message_at T call.method call.number) call.addr limit own) answer
    → call.copy ≡ copy_of answer → call.count ≡ length own → form ≡ copied conn call call.copy
    → IsWellCopied T H limit own call form
by-copy laws T H limit conn own (Copied tree count) call form valid known most few came malformed copy-is counted
    form-is =
    let msg : ℕ = message_at T call.method call.number in
    let P : Placed = came.placed in
    let same : tree_of T msg P ≡ tree = sym came.tree_is in
    let within : length (loads P) ≤ limit = omega (arith, few, ap length came.loads_are) in
    let short : length (encoding T msg (tree_of T msg P)) ≤ 262144 =
    omega (arith, within, most, laws.short T H msg call.addr P valid came.sound (omega (arith, within, most))) in
    let whole : form ≡ Some (with_tree conn call tree) = form-is ∙ ap (copied conn call) copy-is in
    record {
      loaded = record {
        taken = is_copied tree known (of_sound P came.sound came.loads_are few (ap came_copied came.tree_is)) copy-is;
        counted = counted;
      };
      few = omega (arith, counted, few);
      sound = subst (IsValidCopy T call) (sym copy-is)
          (known, subst (IsNormal T msg) same (laws.normal T H msg call.addr P valid came.sound));
      short = subst (λ (f : Option Call). IfSome f (λ g. length (payload T g) ≤ 262144)) (sym whole)
          (subst (λ (t : Node). length (encoding T msg t) ≤ 262144) same short);
    }
by-copy laws T H limit conn own (Malformed reason place value count) call form valid known most few came malformed
    copy-is counted form-is =
    let whole : form ≡ None = form-is ∙ ap (copied conn call) copy-is in
    record {
      loaded = record {
        taken = is_malformed reason place value known (of_malformed reason place value malformed refl) copy-is;
        counted = counted;
      };
      few = omega (arith, counted, few);
      sound = subst (IsValidCopy T call) (sym copy-is) (
        (λ none. absurd (laws.reason T H (message_at T call.method call.number) call.addr limit own reason place
            value malformed none)),
        (λ past. absurd (omega (arith, past, known))),
      );
      short = subst (λ (f : Option Call). IfSome f (λ g. length (payload T g) ≤ 262144)) (sym whole) tt;
    }

three : (P : ℕ → ℕ → ℕ → Type 0) (a b c a' b' c' : ℕ) → a' ≡ a → b' ≡ b → c' ≡ c → P a b c → P a' b' c'
three P a b c a' b' c' x y z h =
    subst (λ n. P n b' c') (sym x) (subst (λ n. P a n c') (sym y) (subst (λ n. P a b n) (sym z) h))

pub taken-well : GraphLaws
    → (T : Table) (H limit conn seq : ℕ) (own : List (ℕ × ℕ)) (method number addr after : ℕ) (answer : CopyResult)
    (call : AcceptedCall) (form : Option Call) → IsValid T
    → method < length T.methods → limit ≤ 16384 → length own ≤ limit
    → IfCopied (IsCopied T H (message_at T method number) addr own) answer
    → IfMalformed (IsMalformed T H (message_at T method number) addr limit own) answer → load_count answer ≡ length own
    → IsOfCopyResult conn seq (record { method = method; number = number; addr = addr; after = after }) answer call form
    → IsWellCopied T H limit own call form
taken-well laws T H limit conn seq own method number addr after answer call form valid known most few came malformed
    counted is =
    by-copy laws T H limit conn own answer call form valid (omega (arith, known, is.asked.method)) most few
    (three (λ m n a. IfCopied (IsCopied T H (message_at T m n) a own) answer) method number addr call.method call.number
    call.addr is.asked.method is.asked.request is.asked.address came)
    (three (λ m n a. IfMalformed (IsMalformed T H (message_at T m n) a limit own) answer) method number addr call.method
    call.number call.addr is.asked.method is.asked.request is.asked.address malformed)
    is.copy (is.count ∙ counted) is.form_is

pub ok-weaker : {X E : Type 0} (P Q : X → Type 0) → ((x : X) → P x → Q x) → (r : Result X E) → IfOk r P → IfOk r Q
ok-weaker P Q weak (Ok x) h = weak x h
ok-weaker P Q weak (Err e) h = tt

pub all-well : GraphLaws → (T : Table) (H limit conn seq : ℕ) (own : List (ℕ × ℕ)) (method number addr after : ℕ)
    (answer : CopyResult) → IsValid T
    → method < length T.methods → limit ≤ 16384 → length own ≤ limit
    → IfCopied (IsCopied T H (message_at T method number) addr own) answer
    → IfMalformed (IsMalformed T H (message_at T method number) addr limit own) answer → load_count answer ≡ length own
    → (r : Result CopiedSubmission Memory)
    → IfOk r (λ s. IsOfCopyResult conn seq (record {
      method = method;
      number = number;
      addr = addr;
      after = after;
    }) answer s.call s.form)
    → IfOk r (λ s. IsWellCopied T H limit own s.call s.form)
all-well laws T H limit conn seq own method number addr after answer valid known most few came malformed counted r is =
    ok-weaker (λ (s : CopiedSubmission). IsOfCopyResult conn seq (record {
      method = method;
      number = number;
      addr = addr;
      after = after;
    }) answer s.call s.form)
    (λ (s : CopiedSubmission). IsWellCopied T H limit own s.call s.form)
    (λ s of. taken-well laws T H limit conn seq own method number addr after answer s.call s.form valid known most few
    came malformed counted of) r is
