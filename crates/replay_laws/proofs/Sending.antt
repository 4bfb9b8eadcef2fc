-- The frames of a connection are those of the calls that all entries allow.
use Rattle.std.proofs.Common.{◌≡◌, ◌∙◌, ℕ, ◌+◌, ◌<◌, ◌≤◌, ◌==◌, Bool, true, false, cond, not, ◌||◌, inl, inr, List}
use Rattle.std.proofs.Common.{[], ◌∷◌, ◌++◌, length, map, refl, sym, ap, subst, arith, append_assoc, append-nil}
use Rattle.std.specs.Prelude.{All, Option, Some, None, filter, option_map, unwrap_or}
use Rattle.std.specs.List.{filter_map, list_all, list_any}
use Rattle.std.proofs.lemmas.Bool.{eq-eqb, ne_eqb, or_parts, cases_eq, true≢false}
use Rattle.std.proofs.lemmas.List.{append_cancel_left, map-append}
use Rattle.std.proofs.lemmas.List.Elements.{All-nil, All-append, All-push, All-weaker, filter-append, filter_map-append}
use Rattle.mrpc_table.specs.declared.call.Call.{Call}
use Rattle.engine_core.specs.Answers.{Answer, IsEntryAnswer, deny, over, refuse}
use Rattle.engine_core.specs.Chains.{Entry}
use Rattle.call_history.specs.Trace.{Trace, chain, copied, form, has_failed, is_fate_of, is_transport_refusal, level_in_trace, timestamp, noted, pending_calls, is_pending, taken}
use Rattle.call_history.specs.Frames.{frame_of, frames_of_trace}
use Rattle.call_history.specs.Legal.{IsLegalPrefix}
use Rattle.call_history.specs.Rules.{IsRefusedAtOnce, CanFollow, IsPendingAnswer, IsMalformedRefusedAtOnce, JudgeContext}
use Rattle.call_history.specs.declared.happening.Cause.{Cause}
use Rattle.call_history.specs.declared.happening.Cause.TheVariants as cause
use Rattle.call_history.specs.declared.happening.Happening.TheVariants.{Took, Op, Sent, Refused}
use Rattle.call_history.specs.declared.happening.AcceptedCall.{AcceptedCall}
use Rattle.call_history.specs.declared.happening.TookCopy.{TookCopy}
use Rattle.call_history.specs.declared.happening.TookCopy.TheVariants.{Copy, Malformed}
use Rattle.replay_laws.specs.SetFirst.{IsAccessOrCount, IsSetFirst, allowed_copy, allowed_copies, allowed_of, permits}
use Rattle.replay_laws.proofs.Allowed.{ArePlain, IsItsCopy, IsPlainAnswer, all-permit, forms-are-copies, not-permitted, one-denies, plain-answer}
use Rattle.replay_laws.proofs.Lists.{all-back, all-front, at-middle, both-to, first-kept, last-kept, none-given, none-kept, none-left, one-given, push-not-nil, some-and}
use Rattle.replay_laws.proofs.Numbers.{Numbered, few-numbers, greater-behind, numbered}

-- if no call was accepted, none was sent
none-sent : (u : JudgeContext) (past : Trace) → IsLegalPrefix u past → taken past ≡ [] → frames_of_trace u.table u.conn past ≡ []
none-sent u [] prefix none = refl
none-sent u (Took call ∷ past) prefix none = absurd (push-not-nil (taken past) call none)
none-sent u (Sent seq bytes ∷ past) prefix none =
    let empty : pending_calls past ≡ [] = ap (filter (is_pending past)) none in
    absurd (omega (arith, ap length (sym empty ∙ prefix.1.in_order.first)))
none-sent u (x ∷ past) prefix none = append-nil (frames_of_trace u.table u.conn past) ∙ none-sent u past prefix.0 none

-- the accepted calls are a prefix, of which those that all entries allow were sent, and a suffix, of which none was
record AreSent (u : JudgeContext) (past : Trace) (entries : List Entry) : Type 0 where
  front : List AcceptedCall
  back : List AcceptedCall
  order : taken past ≡ front ++ back
  frames : frames_of_trace u.table u.conn past ≡ map (frame_of u.table) (allowed_copies u.conn entries front)
  done : All (λ c. is_pending past c ≡ false) front
  rest : All (λ c. is_pending past c ≡ false → allowed_copy u.conn entries c ≡ None) back

-- an accepted call is pending
abbrev pub StandsOnceTaken : Type 0
StandsOnceTaken = (u : JudgeContext) (past : Trace) (call : AcceptedCall) → IsLegalPrefix u past → call.seq ≡ length (taken past) + 1
    → pending_calls (Took call ∷ past) ≡ pending_calls past ++ call ∷ []

new-stands : StandsOnceTaken → (u : JudgeContext) (past : Trace) (call : AcceptedCall) → IsLegalPrefix u past → CanFollow u past (Took call)
    → is_pending (Took call ∷ past) call ≡ true
new-stands law u past call prefix may =
    let p : AcceptedCall → Bool = is_pending (Took call ∷ past) in
    let whole : pending_calls past ++ filter p (call ∷ []) ≡ pending_calls past ++ call ∷ [] =
    sym (filter-append p (taken past) (call ∷ [])) ∙ law u past call prefix may.numbered.number in
    last-kept (p call) call (append_cancel_left (pending_calls past) (filter p (call ∷ [])) (call ∷ []) whole)

took : StandsOnceTaken → (u : JudgeContext) (past : Trace) (call : AcceptedCall) (entries : List Entry) → IsLegalPrefix u past
    → CanFollow u past (Took call) → AreSent u past entries → AreSent u (Took call ∷ past) entries
took law u past call entries prefix may i =
    let here = new-stands law u past call prefix may in
    record {
      front = i.front;
      back = i.back ++ call ∷ [];
      order = ap (λ (calls : List AcceptedCall). calls ++ call ∷ []) i.order ∙ append_assoc i.front i.back (call ∷ []);
      frames = append-nil (frames_of_trace u.table u.conn past) ∙ i.frames;
      done = i.done;
      rest = All-push (λ c. is_pending (Took call ∷ past) c ≡ false → allowed_copy u.conn entries c ≡ None) i.back call i.rest
          (λ gone. absurd (true≢false (sym here ∙ gone)));
    }

-- a call with a fate keeps it
pub still-gone : (b l : Bool) → not l ≡ false → not (b || l) ≡ false
still-gone true l h = refl
still-gone false l h = h

goes : (b l : Bool) → b ≡ true → not (b || l) ≡ false
goes b l so = ap (λ x. not (x || l)) so

regroup : (xs ys zs : List AcceptedCall) (x : AcceptedCall) → xs ++ (ys ++ x ∷ zs) ≡ (xs ++ (ys ++ x ∷ [])) ++ zs
regroup xs ys zs x =
    sym (append_assoc xs (ys ++ x ∷ []) zs ∙ ap (λ (l : List AcceptedCall). xs ++ l) (append_assoc ys (x ∷ []) zs))

-- the copy of a call that has this form
its-allowed : (conn : ℕ) (past : Trace) (entries : List Entry) (call : AcceptedCall) (sent : Call) → IsItsCopy conn past call
    → form conn call.seq past ≡ Some sent → list_all (λ e. permits e.policy sent) entries ≡ true
    → allowed_copy conn entries call ≡ Some sent
its-allowed conn past entries call sent copy is all =
    ap (allowed_of entries) (sym copy ∙ is) ∙ ap (λ b. cond b (Some sent) None) all

sent-one : (u : JudgeContext) (past : Trace) (seq bytes : ℕ) → IsLegalPrefix u past → IsSetFirst past
    → ArePlain (chain past).entries → CanFollow u past (Sent seq bytes) → AreSent u past (chain past).entries
    → AreSent u (Sent seq bytes ∷ past) (chain past).entries
sent-one u past seq bytes prefix first plain may i =
    let entries : List Entry = (chain past).entries in
    let next = may.in_order in
    let p : AcceptedCall → Bool = is_pending past in
    let g : AcceptedCall → Option Call = allowed_copy u.conn entries in
    let behind-front : filter p i.back ≡ next.call ∷ next.others =
    sym (ap (λ (l : List AcceptedCall). l ++ filter p i.back) (none-kept p i.front i.done)) ∙ sym (filter-append p i.front i.back)
    ∙ ap (filter p) (sym i.order) ∙ next.first in
    let at = first-kept p i.back next.others next.call behind-front in
    let order : taken past ≡ (i.front ++ (at.front ++ next.call ∷ [])) ++ at.back =
    i.order ∙ ap (λ (l : List AcceptedCall). i.front ++ l) at.order ∙ regroup i.front at.front at.back next.call in
    let whole : taken past ≡ (i.front ++ at.front) ++ next.call ∷ at.back =
    i.order ∙ ap (λ (l : List AcceptedCall). i.front ++ l) at.order ∙ sym (append_assoc i.front at.front (next.call ∷ at.back)) in
    let copies : All (IsItsCopy u.conn past) ((i.front ++ at.front) ++ next.call ∷ at.back) =
    subst (λ (calls : List AcceptedCall). All (IsItsCopy u.conn past) calls) whole (forms-are-copies u past prefix first plain) in
    let is-form : form u.conn next.call.seq past ≡ Some next.sent =
    subst (λ (n : ℕ). form u.conn n past ≡ Some next.sent) (sym next.number) next.is_form in
    let all = all-permit u past seq next.sent entries next.is_form plain next.allowed in
    let here : g next.call ≡ Some next.sent =
    its-allowed u.conn past entries next.call next.sent
    (at-middle (IsItsCopy u.conn past) (i.front ++ at.front) at.back next.call copies) is-form all in
    let rest : All (λ c. p c ≡ false → g c ≡ None) (at.front ++ next.call ∷ at.back) =
    subst (λ (calls : List AcceptedCall). All (λ c. p c ≡ false → g c ≡ None) calls) at.order i.rest in
    let none-between : All (λ c. g c ≡ None) at.front =
    both-to (λ c. p c ≡ false → g c ≡ None) (λ c. p c ≡ false) (λ c. g c ≡ None) (λ c f never. f never) at.front
    (all-front (λ c. p c ≡ false → g c ≡ None) at.front (next.call ∷ at.back) rest) at.gone in
    let given : filter_map g (i.front ++ (at.front ++ next.call ∷ [])) ≡ filter_map g i.front ++ next.sent ∷ [] =
    filter_map-append g i.front (at.front ++ next.call ∷ [])
    ∙ ap (λ (l : List Call). filter_map g i.front ++ l) (filter_map-append g at.front (next.call ∷ [])
    ∙ ap (λ (l : List Call). l ++ filter_map g (next.call ∷ [])) (none-given g at.front none-between)
    ∙ one-given g next.call next.sent here) in
    let handed : unwrap_or (option_map (frame_of u.table) (form u.conn seq past)) [] ≡ frame_of u.table next.sent =
    ap (λ (o : Option Call). unwrap_or (option_map (frame_of u.table) o) []) next.is_form in
    let later : All (λ c. next.call.seq < c.seq) at.back =
    greater-behind 0 (i.front ++ at.front) at.back next.call
    (subst (λ (calls : List AcceptedCall). Numbered 0 calls) whole (numbered u past prefix)) in
    record {
      front = i.front ++ (at.front ++ next.call ∷ []);
      back = at.back;
      order = order;
      frames = ap (λ (f : List ℕ). frames_of_trace u.table u.conn past ++ f ∷ []) handed
          ∙ ap (λ (l : List (List ℕ)). l ++ frame_of u.table next.sent ∷ []) i.frames
          ∙ sym (map-append (frame_of u.table) (filter_map g i.front) (next.sent ∷ []))
          ∙ ap (map (frame_of u.table)) (sym given);
      done = All-append (λ c. is_pending (Sent seq bytes ∷ past) c ≡ false) i.front (at.front ++ next.call ∷ [])
          (All-weaker (λ c. p c ≡ false) (λ c. is_pending (Sent seq bytes ∷ past) c ≡ false)
          (λ c gone. still-gone (seq == c.seq) (list_any (is_fate_of c.seq) past) gone) i.front i.done)
          (All-push (λ c. is_pending (Sent seq bytes ∷ past) c ≡ false) at.front next.call
          (All-weaker (λ c. p c ≡ false) (λ c. is_pending (Sent seq bytes ∷ past) c ≡ false)
          (λ c gone. still-gone (seq == c.seq) (list_any (is_fate_of c.seq) past) gone) at.front at.gone)
          (goes (seq == next.call.seq) (list_any (is_fate_of next.call.seq) past) (eq-eqb seq next.call.seq (sym next.number))));
      rest = both-to (λ c. p c ≡ false → g c ≡ None) (λ c. next.call.seq < c.seq)
          (λ c. is_pending (Sent seq bytes ∷ past) c ≡ false → g c ≡ None)
          (λ c f less gone. f (subst (λ (b : Bool). not (b || list_any (is_fate_of c.seq) past) ≡ false)
          (ne_eqb seq c.seq (λ same. omega (arith, same, less, next.number))) gone)) at.back
          (all-back (λ c. p c ≡ false → g c ≡ None) (at.front ++ next.call ∷ []) at.back
          (subst (λ (calls : List AcceptedCall). All (λ c. p c ≡ false → g c ≡ None) calls)
          (sym (append_assoc at.front (next.call ∷ []) at.back)) rest)) later;
    }

-- ---- refusals

-- a call with this number isn't allowed
abbrev NoneOf : JudgeContext → List Entry → ℕ → AcceptedCall → Type 0
NoneOf u entries seq c = seq ≡ c.seq → allowed_copy u.conn entries c ≡ None

malformed-none : (conn : ℕ) (entries : List Entry) (c : AcceptedCall) (seq : ℕ) (copy : TookCopy)
    → IsRefusedAtOnce copy seq (Refused seq cause.Malformed) → allowed_of entries (copied conn c copy) ≡ None
malformed-none conn entries c seq (Copy tree) is = absurd is
malformed-none conn entries c seq (Malformed reason place value) is = refl

at-once : (copy : TookCopy) (seq number : ℕ) → IsRefusedAtOnce copy seq (Refused number cause.Malformed) → number ≡ seq
at-once (Copy tree) seq number is = absurd is
at-once (Malformed reason place value) seq number is = cc

refused-at-once : (u : JudgeContext) (past : Trace) (seq : ℕ) (entries : List Entry) → IsLegalPrefix u past
    → IsMalformedRefusedAtOnce past (Refused seq cause.Malformed) → All (NoneOf u entries seq) (taken past)
refused-at-once u [] seq entries prefix is = absurd is
refused-at-once u (Took call ∷ past) seq entries prefix is =
    let number : seq ≡ call.seq = at-once call.copy call.seq seq is in
    let next : call.seq ≡ length (taken past) + 1 = prefix.1.numbered.number in
    let few = few-numbers 0 (taken past) (numbered u past prefix.0) in
    All-push (NoneOf u entries seq) (taken past) call
    (All-weaker (λ c. c.seq ≤ 0 + length (taken past)) (NoneOf u entries seq)
    (λ c le same. absurd (omega (arith, le, same, number, next))) (taken past) few)
    (λ same. malformed-none u.conn entries call call.seq call.copy
    (subst (λ (n : ℕ). IsRefusedAtOnce call.copy call.seq (Refused n cause.Malformed)) number is))
refused-at-once u (x ∷ past) seq entries prefix is = absurd is

denied-none : (u : JudgeContext) (past : Trace) (seq version : ℕ) (name rule : List ℕ) → IsLegalPrefix u past → IsSetFirst past
    → ArePlain (chain past).entries → CanFollow u past (Refused seq (cause.Access name version rule))
    → All (NoneOf u (chain past).entries seq) (taken past)
denied-none u past seq version name rule prefix first plain may =
    let denied = may.answered in
    let e : Entry = denied.entry in
    let entries : List Entry = (chain past).entries in
    let here = some-and (form u.conn seq past)
    (λ c. IsEntryAnswer e.policy (level_in_trace e.name past) (timestamp past) c (noted e.name seq past) (deny denied.place)) denied.gives in
    let never : list_all (λ (x : Entry). permits x.policy here.0) entries ≡ false =
    ap (list_all (λ (x : Entry). permits x.policy here.0)) denied.at.entries
    ∙ one-denies here.0 denied.at.front denied.at.back e
    (not-permitted e.policy (level_in_trace e.name past) (timestamp past) here.0 (noted e.name seq past) denied.place here.2) in
    All-weaker (IsItsCopy u.conn past) (NoneOf u entries seq)
    (λ c copy same.
    let copy-is : copied u.conn c c.copy ≡ Some here.0 = sym copy ∙ ap (λ (n : ℕ). form u.conn n past) (sym same) ∙ here.1 in
    ap (allowed_of entries) copy-is ∙ ap (λ b. cond b (Some here.0) None) never)
    (taken past) (forms-are-copies u past prefix first plain)

-- an access or count entry refuses no call for its charges or tickets
never-so : (u : JudgeContext) (past : Trace) (seq : ℕ) (name : List ℕ) (answer : Answer) → ArePlain (chain past).entries
    → IsPendingAnswer u past seq name answer → IsPlainAnswer answer
never-so u past seq name answer plain meets =
    let e : Entry = meets.entry in
    let here = some-and (form u.conn seq past)
    (λ c. IsEntryAnswer e.policy (level_in_trace e.name past) (timestamp past) c (noted e.name seq past) answer) meets.gives in
    plain-answer e.policy (level_in_trace e.name past) (timestamp past) here.0 (noted e.name seq past) answer
    (at-middle (λ (x : Entry). IsAccessOrCount x.policy) meets.at.front meets.at.back e (subst ArePlain meets.at.entries plain)) here.2

refused-none : (u : JudgeContext) (past : Trace) (seq : ℕ) (why : Cause) → IsLegalPrefix u past → IsSetFirst past
    → ArePlain (chain past).entries → CanFollow u past (Refused seq why) → has_failed (Refused seq why ∷ past) ≡ false
    → All (NoneOf u (chain past).entries seq) (taken past)
refused-none u past seq cause.Malformed prefix first plain may unfailed =
    refused-at-once u past seq (chain past).entries prefix may.malformed
refused-none u past seq (cause.Access name version rule) prefix first plain may unfailed =
    denied-none u past seq version name rule prefix first plain may
refused-none u past seq (cause.Rate name left cost) prefix first plain may unfailed =
    absurd (never-so u past seq name (refuse left cost) plain may.answered)
refused-none u past seq (cause.Quota name ticket most) prefix first plain may unfailed =
    absurd (never-so u past seq name (over ticket most) plain may.answered)
refused-none u past seq cause.Transport prefix first plain may unfailed = absurd (true≢false unfailed)

fate-or-none : (u : JudgeContext) (entries : List Entry) (seq : ℕ) (c : AcceptedCall) (l : Bool) → NoneOf u entries seq c
    → (not l ≡ false → allowed_copy u.conn entries c ≡ None) → not ((seq == c.seq) || l) ≡ false
    → allowed_copy u.conn entries c ≡ None
fate-or-none u entries seq c l none before gone =
    elim (cases_eq seq c.seq) [
      | inl same ↦ none same
      | inr apart ↦ before (subst (λ (b : Bool). not (b || l) ≡ false) (ne_eqb seq c.seq apart) gone)
    ]

refused-one : (u : JudgeContext) (past : Trace) (seq : ℕ) (why : Cause) → IsLegalPrefix u past → IsSetFirst past
    → ArePlain (chain past).entries → CanFollow u past (Refused seq why) → has_failed (Refused seq why ∷ past) ≡ false
    → AreSent u past (chain past).entries → AreSent u (Refused seq why ∷ past) (chain past).entries
refused-one u past seq why prefix first plain may unfailed i =
    let entries : List Entry = (chain past).entries in
    let none = refused-none u past seq why prefix first plain may unfailed in
    let none-back : All (NoneOf u entries seq) i.back =
    all-back (NoneOf u entries seq) i.front i.back (subst (λ (calls : List AcceptedCall). All (NoneOf u entries seq) calls) i.order none) in
    record {
      front = i.front;
      back = i.back;
      order = i.order;
      frames = append-nil (frames_of_trace u.table u.conn past) ∙ i.frames;
      done = All-weaker (λ c. is_pending past c ≡ false) (λ c. is_pending (Refused seq why ∷ past) c ≡ false)
          (λ c gone. still-gone (seq == c.seq) (list_any (is_fate_of c.seq) past) gone) i.front i.done;
      rest = both-to (NoneOf u entries seq) (λ c. is_pending past c ≡ false → allowed_copy u.conn entries c ≡ None)
          (λ c. is_pending (Refused seq why ∷ past) c ≡ false → allowed_copy u.conn entries c ≡ None)
          (λ c never before gone. fate-or-none u entries seq c (list_any (is_fate_of c.seq) past) never before gone)
          i.back none-back i.rest;
    }

-- ---- all events

are-sent : StandsOnceTaken → (u : JudgeContext) (past : Trace) → IsLegalPrefix u past → IsSetFirst past
    → ArePlain (chain past).entries → has_failed past ≡ false → AreSent u past (chain past).entries
are-sent law u [] prefix first plain unfailed = record {
  front = [];
  back = [];
  order = refl;
  frames = refl;
  done = All-nil (λ (c : AcceptedCall). is_pending [] c ≡ false);
  rest = All-nil (λ (c : AcceptedCall). is_pending [] c ≡ false → allowed_copy u.conn [] c ≡ None);
}
are-sent law u (Took call ∷ past) prefix first plain unfailed =
    took law u past call (chain past).entries prefix.0 prefix.1 (are-sent law u past prefix.0 first plain unfailed)
are-sent law u (Sent seq bytes ∷ past) prefix first plain unfailed =
    sent-one u past seq bytes prefix.0 first plain prefix.1 (are-sent law u past prefix.0 first plain unfailed)
are-sent law u (Refused seq why ∷ past) prefix first plain unfailed =
    let parts = or_parts (is_transport_refusal (Refused seq why)) (has_failed past) unfailed in
    refused-one u past seq why prefix.0 first plain prefix.1 unfailed (are-sent law u past prefix.0 first plain parts.1)
are-sent law u (Op step ∷ past) prefix first plain unfailed = record {
  front = [];
  back = [];
  order = first;
  frames = append-nil (frames_of_trace u.table u.conn past) ∙ none-sent u past prefix.0 first;
  done = All-nil (λ (c : AcceptedCall). is_pending (Op step ∷ past) c ≡ false);
  rest = All-nil (λ (c : AcceptedCall). is_pending (Op step ∷ past) c ≡ false → allowed_copy u.conn (chain (Op step ∷ past)).entries c ≡ None);
}
are-sent law u (x ∷ past) prefix first plain unfailed =
    let i = are-sent law u past prefix.0 first plain unfailed in
    record {
      front = i.front;
      back = i.back;
      order = i.order;
      frames = append-nil (frames_of_trace u.table u.conn past) ∙ i.frames;
      done = i.done;
      rest = i.rest;
    }

-- if no call is pending, all allowed calls were sent, and no others
pub all-sent : StandsOnceTaken → (u : JudgeContext) (past : Trace) → IsLegalPrefix u past → IsSetFirst past
    → ArePlain (chain past).entries → has_failed past ≡ false → pending_calls past ≡ []
    → frames_of_trace u.table u.conn past
    ≡ map (frame_of u.table) (allowed_copies u.conn (chain past).entries (taken past))
all-sent law u past prefix first plain unfailed none =
    let i = are-sent law u past prefix first plain unfailed in
    let g : AcceptedCall → Option Call = allowed_copy u.conn (chain past).entries in
    let gone : All (λ c. is_pending past c ≡ false) (i.front ++ i.back) =
    subst (λ (calls : List AcceptedCall). All (λ c. is_pending past c ≡ false) calls) i.order (none-left (is_pending past) (taken past) none) in
    let rest : All (λ c. g c ≡ None) i.back =
    both-to (λ c. is_pending past c ≡ false → g c ≡ None) (λ c. is_pending past c ≡ false) (λ c. g c ≡ None) (λ c f never. f never) i.back
    i.rest (all-back (λ c. is_pending past c ≡ false) i.front i.back gone) in
    let same : filter_map g (taken past) ≡ filter_map g i.front =
    ap (filter_map g) i.order ∙ filter_map-append g i.front i.back
    ∙ ap (λ (l : List Call). filter_map g i.front ++ l) (none-given g i.back rest) ∙ append-nil (filter_map g i.front) in
    i.frames ∙ ap (map (frame_of u.table)) (sym same)
