-- The lines of pending calls.
use Rattle.std.proofs.Common.{◌≡◌, ◌≢◌, ℕ, ◌+◌, ◌<◌, ◌≤◌, zero, suc, List, [], ◌∷◌, ◌++◌, length, map, slice_get}
use Rattle.std.proofs.Common.{refl, sym, ap, ◌∙◌, subst, arith}
use Rattle.std.specs.Prelude.{All, IfNone, IfSome, IsSomeAnd, Option, Some, None}
use Rattle.std.proofs.lemmas.List.{length-append, length-map}
use Rattle.std.proofs.lemmas.List.Elements.{All-cons, All-head, All-nil, All-tail}
use Rattle.mrpc_table.specs.declared.call.Call.{Call}
use Rattle.mrpc_table.specs.declared.table.Table.{Table}
use Rattle.engine_core.specs.Answers.{Answer, IsEntryAnswer, Past, hold}
use Rattle.engine_core.specs.Chains.{Chain, Entry}
use Rattle.engine_core.specs.Engines.{EngineParts}
use Rattle.engine_core.specs.Marks.{PendingCall, past_of, seqs_of}
use Rattle.engine_core.specs.declared.TheConstants.{MAX_ENGINES}
use Rattle.call_history.specs.Trace.{Trace, chain, level_in_trace, timestamp, noted, pending_calls}
use Rattle.call_history.specs.Legal.{HasMalformedObligation, HasNoObligation}
use Rattle.call_history.specs.Rules.{IsAnswerInTrace, JudgeContext}
use Rattle.call_history.specs.Ties.{AreTied, IsCallOfTrace, IsEngineOfTrace}
use Rattle.call_history.specs.declared.happening.AcceptedCall.{AcceptedCall}
use Rattle.audit_rules.specs.Asking.{HasPassedFirst}
use Rattle.audit_rules.specs.CheckerState.{HasNoMalformed, IsCheckerAfter, KnowsListed, IsObligationAfter, lowest_position, checker_context}
use Rattle.audit_rules.specs.PendingLines.{IsHoldingOf, IsNextPending, entry_name_at}
use Rattle.audit_rules.specs.declared.checker.Checker.{Checker}
use Rattle.audit_rules.specs.declared.obligation.Obligation.{Obligation}
use Rattle.audit_rules.specs.declared.obligation.Obligation.TheVariants.{Nothing, RefuseOverCap, RefuseMalformed}
use Rattle.audit_rules.proofs.Asked.{All-at, OneAnswer, map-at, one-gives}
use Rattle.audit_rules.proofs.Known.{known-standing, unmap-at}

-- ---- the lowest position

pub all-lowest : (ps : List ℕ) (q : ℕ) → q ≤ lowest_position ps → All (λ p. q ≤ p) ps
all-lowest [] q le = All-nil (λ p. q ≤ p)
all-lowest (p ∷ ps) q le = All-cons (λ p. q ≤ p) p ps (omega arith) (all-lowest ps q (omega arith))

pub lowest-all : (ps : List ℕ) (q : ℕ) → q ≤ MAX_ENGINES → All (λ p. q ≤ p) ps → q ≤ lowest_position ps
lowest-all [] q few all = few
lowest-all (p ∷ ps) q few all =
    let first = All-head (λ p. q ≤ p) p ps all in
    let rest = lowest-all ps q few (All-tail (λ p. q ≤ p) p ps all) in
    omega arith

all-below : (ps : List ℕ) (q : ℕ) → q < lowest_position ps → All (λ p. q < p) ps
all-below [] q le = All-nil (λ p. q < p)
all-below (p ∷ ps) q le = All-cons (λ p. q < p) p ps (omega arith) (all-below ps q (omega arith))

below-lowest : (ps : List ℕ) (q : ℕ) → q < MAX_ENGINES → All (λ p. q < p) ps → q < lowest_position ps
below-lowest [] q few all = few
below-lowest (p ∷ ps) q few all =
    let first = All-head (λ p. q < p) p ps all in
    let rest = below-lowest ps q few (All-tail (λ p. q < p) p ps all) in
    omega arith

pub lowest-push : (ps : List ℕ) (q : ℕ) → q ≤ lowest_position ps → lowest_position (ps ++ q ∷ []) ≡ q
lowest-push [] q le = omega arith
lowest-push (p ∷ ps) q le = omega (arith, lowest-push ps q (omega arith))

pub first-there : (ps : List ℕ) (q : ℕ) → q ≤ lowest_position ps → (0 < length ps → q ≢ lowest_position ps) → All (λ p. q < p) ps
first-there [] q le other = All-nil (λ p. q < p)
first-there (p ∷ ps) q le other = all-below (p ∷ ps) q (omega (arith, other (omega arith)))

-- ---- the level and cost of a held call

within-chain : (es : List Entry) (p : ℕ) (e : Entry) → slice_get es p ≡ Some e → p < length es
within-chain [] p e is = absurd cc
within-chain (x ∷ es) zero e is = omega arith
within-chain (x ∷ es) (suc p) e is = omega (arith, within-chain es p e is)

none-at : {X : Type 0} (xs : List X) (p : ℕ) (x : X) → length xs ≤ p → slice_get xs p ≡ Some x → ⊥
none-at [] p x le is = cc
none-at (y ∷ xs) zero x le is = omega arith
none-at (y ∷ xs) (suc p) x le is = none-at xs p x (omega arith) is

-- a call at the position of the one before isn't the first there
pub not-first : (u : JudgeContext) (past : Trace) (ps : List ℕ) (call : AcceptedCall) (q : ℕ) → length (chain past).entries ≤ MAX_ENGINES → q ≡ lowest_position ps → IsHoldingOf u past ps call q None
not-first u past ps call q few same level_in_trace cost all held =
    let inside = within-chain (chain past).entries q held.entry held.at in
    omega (arith, below-lowest ps q (omega arith) all)

-- no call is held at the end of the chain
pub none-holds : (u : JudgeContext) (past : Trace) (ps : List ℕ) (call : AcceptedCall) (q : ℕ) → length (chain past).entries ≤ q → IsHoldingOf u past ps call q None
none-holds u past ps call q few level_in_trace cost all held = none-at (chain past).entries q held.entry few held.at

module _ (u : JudgeContext) (past : Trace) (n p j seq : ℕ) (es : List EngineParts) (calls : List PendingCall) (ties : AreTied u.conn past es n calls) (e : EngineParts) (s : PendingCall)
    (is : slice_get es p ≡ Some e) (there : slice_get calls j ≡ Some s) (number : s.call.seq ≡ seq) where
  own : IsCallOfTrace u.conn past es n s
  own = All-at (IsCallOfTrace u.conn past es n) calls j s ties.calls_of_trace there

  engine : IsEngineOfTrace past e
  engine = All-at (IsEngineOfTrace past) es p e ties.engines_of_trace is

  noted-is : past_of s.marks e.entry.attach ≡ noted e.entry.name s.call.seq past
  noted-is = All-at (λ (e : EngineParts). past_of s.marks e.entry.attach ≡ noted e.entry.name s.call.seq past) es p e own.notes is

  gives-by : (a : Answer) → IsEntryAnswer e.entry.policy e.level (timestamp past) s.call (past_of s.marks e.entry.attach) a → IsAnswerInTrace u past e.entry seq a
  gives-by a answers = subst (λ (k : ℕ). IsAnswerInTrace u past e.entry k a) number
      (subst (λ (f : Option Call). IsSomeAnd f (λ call. IsEntryAnswer e.entry.policy (level_in_trace e.entry.name past) (timestamp past) call (noted e.entry.name s.call.seq past) a)) (sym own.is_form)
      (subst (λ (l : ℕ). IsEntryAnswer e.entry.policy l (timestamp past) s.call (noted e.entry.name s.call.seq past) a) engine.level
      (subst (λ (q : Past). IsEntryAnswer e.entry.policy e.level (timestamp past) s.call q a) noted-is answers)))

  by-gives : (a : Answer) → IsAnswerInTrace u past e.entry seq a → IsEntryAnswer e.entry.policy e.level (timestamp past) s.call (past_of s.marks e.entry.attach) a
  by-gives a gives =
      let here : IsAnswerInTrace u past e.entry s.call.seq a = subst (λ (k : ℕ). IsAnswerInTrace u past e.entry k a) (sym number) gives in
      let formed : IsEntryAnswer e.entry.policy (level_in_trace e.entry.name past) (timestamp past) s.call (noted e.entry.name s.call.seq past) a =
      subst (λ (f : Option Call). IsSomeAnd f (λ call. IsEntryAnswer e.entry.policy (level_in_trace e.entry.name past) (timestamp past) call (noted e.entry.name s.call.seq past) a)) own.is_form here in
      subst (λ (q : Past). IsEntryAnswer e.entry.policy e.level (timestamp past) s.call q a) (sym noted-is)
      (subst (λ (l : ℕ). IsEntryAnswer e.entry.policy l (timestamp past) s.call (noted e.entry.name s.call.seq past) a) (sym engine.level) formed)

  pub holds-told : (call : AcceptedCall) (ps : List ℕ) (o : Option (ℕ × ℕ)) → call.seq ≡ seq → slice_get (chain past).entries p ≡ Some e.entry → All (λ q. p < q) ps
      → IfSome o (λ h. (m : ℕ) → IsEntryAnswer e.entry.policy e.level m s.call (past_of s.marks e.entry.attach) (hold h.0 h.1))
      → IfNone o ((m l cost : ℕ) → IsEntryAnswer e.entry.policy e.level m s.call (past_of s.marks e.entry.attach) (hold l cost) → ⊥)
      → IsHoldingOf u past ps call p o
  holds-told call ps None same at all holds none = λ l cost first held.
      (let entry : held.entry ≡ e.entry = cc (held.at, at) in
      none (timestamp past) l cost (by-gives (hold l cost)
      (subst (λ (x : Entry). IsAnswerInTrace u past x seq (hold l cost)) entry (subst (λ (k : ℕ). IsAnswerInTrace u past held.entry k (hold l cost)) same held.holds))))
  holds-told call ps (Some h) same at all holds none = (
    all,
    record {
      entry = e.entry;
      at = at;
      holds = subst (λ (k : ℕ). IsAnswerInTrace u past e.entry k (hold h.0 h.1)) (sym same) (gives-by (hold h.0 h.1) (holds (timestamp past)));
    },
  )

pair-same : (h k : ℕ × ℕ) → h.0 ≡ k.0 → h.1 ≡ k.1 → Some h ≡ Some k
pair-same h k first second = ap {B = Option (ℕ × ℕ)} (λ (x : ℕ). Some (let p : ℕ × ℕ = (x, h.1) in p)) first
    ∙ ap {B = Option (ℕ × ℕ)} (λ (y : ℕ). Some (let p : ℕ × ℕ = (k.0, y) in p)) second

-- a line lists one call
pub same-held : OneAnswer → (u : JudgeContext) (past : Trace) (ps : List ℕ) (call : AcceptedCall) (q : ℕ) (a b : Option (ℕ × ℕ))
    → IsHoldingOf u past ps call q a → IsHoldingOf u past ps call q b → a ≡ b
same-held one u past ps call q None None tells told = refl
same-held one u past ps call q None (Some h) tells told = absurd (tells h.0 h.1 told.0 told.1)
same-held one u past ps call q (Some h) None tells told = absurd (told h.0 h.1 tells.0 tells.1)
same-held one u past ps call q (Some h) (Some k) tells told =
    let entry : tells.1.entry ≡ told.1.entry = cc (tells.1.at, told.1.at) in
    let answer : hold h.0 h.1 ≡ hold k.0 k.1 = one-gives one u past told.1.entry call.seq (hold h.0 h.1) (hold k.0 k.1) refl
    (subst (λ (e : Entry). IsAnswerInTrace u past e call.seq (hold h.0 h.1)) entry tells.1.holds) told.1.holds in
    let first : h.0 ≡ k.0 = cc in
    let second : h.1 ≡ k.1 = cc in
    pair-same h k first second

-- ---- what is known

free-settled : (past : Trace) (left : Obligation) → IsObligationAfter past left → (HasMalformedObligation past → ⊥) → HasNoMalformed left
free-settled past Nothing opened none = tt
free-settled past (RefuseMalformed seq) opened none = none (subst HasMalformedObligation (sym opened.is_last) opened.malformed)
free-settled past (RefuseOverCap seq at ticket cap) opened none = tt

-- if no call is listed, a checker is unchanged
pub told-none : (T : Table) (past : Trace) (c : Checker) → HasNoObligation past → IsCheckerAfter T past c → KnowsListed T past [] c
told-none T past c settled knows = record {
  knows = record {
    row = knows.row;
    numbers = knows.numbers;
    rising = knows.rising;
    taken = knows.taken;
    latest = knows.latest;
    failed = knows.failed;
    left = knows.left;
    of_table = knows.of_table;
    attachments = knows.attachments;
    versions = knows.versions;
    room = record { few_engines = knows.room.few_engines; engines = knows.room.engines; latest = knows.room.latest; calls = knows.room.calls };
    untold = (refl, refl);
  };
  settled = free-settled past c.left knows.left settled.malformed;
  told = knows.untold.0;
  position = knows.untold.1;
}

module _ (T : Table) (past : Trace) (positions : List ℕ) (c : Checker) (known : KnowsListed T past positions c) where
  pub told-standing : seqs_of c.calls ≡ map (λ call. call.seq) (pending_calls past)
  told-standing = known-standing T past (record c { told = 0; position = MAX_ENGINES }) known.knows known.settled

  pub told-entries : map (λ e. e.entry) c.engines.items ≡ (chain past).entries
  told-entries = ap (λ (x : Chain). x.entries) known.knows.row.ties.same_chain

  pub told-many : length (chain past).entries ≡ length c.engines.items
  told-many = omega (arith, ap (λ (es : List Entry). length es) told-entries, length-map c.engines.items (λ (e : EngineParts). e.entry))

  pub told-few : length (chain past).entries ≤ MAX_ENGINES
  told-few = omega (arith, told-many, known.knows.room.few_engines)

  -- the number of the call that is listed next
  pub told-number : (call : AcceptedCall) → slice_get (pending_calls past) c.told ≡ Some call → slice_get (seqs_of c.calls) c.told ≡ Some call.seq
  told-number call is = subst (λ (ns : List ℕ). slice_get ns c.told ≡ Some call.seq) (sym told-standing) (map-at (λ (x : AcceptedCall). x.seq) (pending_calls past) c.told call is)

  -- the line is legal
  module _ (seq position : ℕ) (name : List ℕ) (held : Option (ℕ × ℕ)) where
    pub next-call : IsNextPending (checker_context T c) past positions seq position name held → slice_get (seqs_of c.calls) c.told ≡ Some seq
    next-call next =
        let there : slice_get (pending_calls past) c.told ≡ Some next.call = subst (λ (k : ℕ). slice_get (pending_calls past) k ≡ Some next.call) (sym known.told) next.is_call in
        told-number next.call there ∙ ap (λ (k : ℕ). Some k) next.number

    pub next-within : IsNextPending (checker_context T c) past positions seq position name held → position ≤ length c.engines.items
    next-within next = omega (arith, next.legal_position.within, told-many)

    pub next-falls : IsNextPending (checker_context T c) past positions seq position name held → position ≤ c.position
    next-falls next = omega (arith, known.position, lowest-all positions position (omega (arith, next.legal_position.within, told-few)) next.falls)

    pub next-lets : IsNextPending (checker_context T c) past positions seq position name held → HasPassedFirst (checker_context T c) past seq position
    next-lets next = subst (λ (k : ℕ). HasPassedFirst (checker_context T c) past k position) next.number next.legal_position.allowed

    pub next-named : IsNextPending (checker_context T c) past positions seq position name held → name ≡ entry_name_at (map (λ e. e.entry) c.engines.items) position
    next-named next = subst (λ (es : List Entry). name ≡ entry_name_at es position) (sym told-entries) next.named

    pub next-held : OneAnswer → (next : IsNextPending (checker_context T c) past positions seq position name held) → (o : Option (ℕ × ℕ))
        → ((call : AcceptedCall) → slice_get (pending_calls past) c.told ≡ Some call → IsHoldingOf (checker_context T c) past positions call position o) → o ≡ held
    next-held one next o tells =
        same-held one (checker_context T c) past positions next.call position o held
        (tells next.call (subst (λ (k : ℕ). slice_get (pending_calls past) k ≡ Some next.call) (sym known.told) next.is_call)) next.tells

    pub tells-next : slice_get (seqs_of c.calls) c.told ≡ Some seq → position ≤ length c.engines.items → position ≤ c.position → HasPassedFirst (checker_context T c) past seq position
        → name ≡ entry_name_at (map (λ e. e.entry) c.engines.items) position → (o : Option (ℕ × ℕ))
        → ((call : AcceptedCall) → slice_get (pending_calls past) c.told ≡ Some call → IsHoldingOf (checker_context T c) past positions call position o) → o ≡ held
        → IsNextPending (checker_context T c) past positions seq position name held
    tells-next is inside falls lets named o tells same =
        let call = unmap-at (λ (x : AcceptedCall). x.seq) (pending_calls past) c.told seq (subst (λ (ns : List ℕ). slice_get ns c.told ≡ Some seq) told-standing is) in
        record {
          call = call.0;
          is_call = subst (λ (k : ℕ). slice_get (pending_calls past) k ≡ Some call.0) known.told call.1;
          number = call.2;
          legal_position = record {
            within = omega (arith, inside, told-many);
            allowed = subst (λ (k : ℕ). HasPassedFirst (checker_context T c) past k position) (sym call.2) lets;
          };
          falls = all-lowest positions position (omega (arith, falls, known.position));
          named = subst (λ (es : List Entry). name ≡ entry_name_at es position) told-entries named;
          tells = subst (λ (h : Option (ℕ × ℕ)). IsHoldingOf (checker_context T c) past positions call.0 position h) same (tells call.0 call.1);
        }

  -- one more call was listed
  pub told-more : (position : ℕ) → position ≤ c.position → KnowsListed T past (positions ++ position ∷ []) (record c { told = c.told + 1; position = position })
  told-more position falls = record {
    knows = known.knows;
    settled = known.settled;
    told = omega (arith, known.told, length-append positions (position ∷ []));
    position = sym (lowest-push positions position (omega (arith, falls, known.position)));
  }

  pub told-all : (length positions ≡ length (pending_calls past) → c.told ≡ length c.calls) × (c.told ≡ length c.calls → length positions ≡ length (pending_calls past))
  told-all =
      let same = ap (λ (ns : List ℕ). length ns) told-standing in
      let stands = length-map (pending_calls past) (λ (call : AcceptedCall). call.seq) in
      let kept = length-map c.calls (λ (s : PendingCall). s.call.seq) in
      (λ all. omega (arith, all, known.told, same, stands, kept), λ all. omega (arith, all, known.told, same, stands, kept))
