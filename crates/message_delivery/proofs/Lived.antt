-- The trace of arrivals is extended.
use Rattle.std.proofs.Common.{◌≡◌, ◌≢◌, ℕ, ◌+◌, ◌*◌, ◌-◌, ◌<◌, ◌≤◌, ◌^◌, List, [], ◌∷◌, ◌++◌, length, Option, Some}
use Rattle.std.proofs.Common.{None, refl, sym, ap, subst, ◌∙◌, arith, append-nil, length-append, option_copied, All}
use Rattle.std.proofs.Common.{◌⊎◌, inl, inr}
use Rattle.std.specs.Prelude.{⊤}
use Rattle.std.specs.List.{AllZip, flat_map}
use Rattle.std.proofs.lemmas.Nat.{mul-le}
use Rattle.std.proofs.lemmas.List.Concat.{flat_map-append}
use Rattle.std.proofs.lemmas.List.Elements.{All-append, All-cons, All-nil}
use Rattle.std.proofs.lemmas.Slice.Zip.{AllZip-long}
use Rattle.std.specs.Io.KnownBytes.{Appends, Keeps}
use Rattle.shared_heap.specs.Fresh.{IsLaterWriter, Writing}
use Rattle.mrpc_table.specs.Valid.{IsValid}
use Rattle.mrpc_table.specs.declared.table.Table.{Table}
use Rattle.frame_transport.specs.Feed.{total_fed}
use Rattle.frame_transport.specs.Frames.{IsPartial}
use Rattle.frame_transport.specs.declared.fault.FeedFault.{FeedFault}
use Rattle.frame_transport.specs.declared.fault.FeedFault.TheVariants.{Memory}
use Rattle.receive_core.specs.ReceiverTraces.{Fated, ReceiverTrace, IsTraceOf, AreStoresBounded, IsStreamShort, IsAnswerFor, after_fates, after_piece, stores_of_fate, was_dropped, was_placed}
use Rattle.policy_access.specs.Verdict.{AccessPolicy}
use Rattle.receive_core.specs.Turns.{ReceiverState, IsTurnOf}
use Rattle.receive_core.specs.declared.arrival.Arrival.{Arrival}
use Rattle.receive_core.specs.declared.arrival.Arrival.TheVariants.{Arrived, Dropped, None as NoFrame, Waiting}
use Rattle.receive_core.specs.declared.arrival.DropCause.{DropCause}
use Rattle.message_delivery.specs.Arriving.{AreFatesOf, IsArrivalTrace, IsFateLine, policy_of_fate}
use Rattle.message_delivery.specs.declared.arrivals.ArrivalLine.{ArrivalLine}
use Rattle.message_delivery.specs.declared.arrivals.ArrivalLine.TheVariants as line
use Rattle.message_delivery.specs.declared.arrivals.DeliveryOutcome.TheVariants as turned
use Rattle.message_delivery.specs.declared.arrivals.Arrivals.{Arrivals}
use Rattle.mrpc_table.specs.Node.{Node}
use Rattle.receive_heap.specs.Layout.{Layout}
use Rattle.receive_heap.specs.declared.extents.Block.{Block}
use Rattle.message_delivery.specs.declared.arrivals.StreamState.{StreamState}
use Rattle.message_delivery.specs.declared.arrivals.StreamState.TheVariants.{Open, Cut, Ended, Failed}
use Rattle.message_delivery.specs.declared.limits.TheConstants.{MAX_ARRIVALS}
use Rattle.message_delivery.proofs.Told.{zip-snoc}

few-fates : (life : ReceiverTrace) (a : Arrivals) → IsArrivalTrace life a → length life.fates ≤ MAX_ARRIVALS
few-fates life a h =
    let long : length a.lines.items ≡ length life.fates = AllZip-long IsFateLine life.fates a.lines.items h.told in
    let few = h.few in omega (arith, long, few)

-- a piece fits after the bytes that were received
pub few-bytes : (life : ReceiverTrace) (a : Arrivals) (piece : List ℕ) → IsStreamShort → IsArrivalTrace life a
    → IsPartial a.inbound.fed.bytes → a.stream ≢ Cut → length piece ≤ 2 ^ 32
    → total_fed a.inbound.fed + length piece < 2 ^ 63
few-bytes life a piece short h partial uncut most =
    let stream : length life.stream < (length life.fates + 2) * 262160 =
    short a.table.now life a.inbound h.lives partial (h.uncut uncut) in
    let counted : total_fed a.inbound.fed ≡ length life.stream = h.lives.counted in
    let few : length life.fates ≤ 2147483648 = few-fates life a h in
    omega (arith, stream, counted, few, most)

-- the stores and the blocks are bounded
pub few-stores : (life : ReceiverTrace) (a : Arrivals) → AreStoresBounded → IsArrivalTrace life a → length a.writer.stores ≤ 2 ^ 62
few-stores life a stores h =
    let all : length (flat_map stores_of_fate life.fates) ≤ length life.fates * (a.inbound.heap.words - 1) =
    stores a.table.now life a.inbound h.lives in
    let few : length life.fates ≤ 2147483648 = few-fates life a h in
    let most : a.inbound.heap.words ≤ 65536 = h.most in
    let words : a.inbound.heap.words - 1 ≤ 65536 = omega (arith, most) in
    let product : length life.fates * (a.inbound.heap.words - 1) ≤ 2147483648 * 65536 =
    mul-le (length life.fates) (a.inbound.heap.words - 1) 2147483648 65536 few words in
    let same : length a.writer.stores ≡ length (flat_map stores_of_fate life.fates) =
    ap (λ (xs : List (ℕ × ℕ)). length xs) h.stored in
    omega (arith, all, product, same)

pub few-blocks : (life : ReceiverTrace) (a : Arrivals) → IsArrivalTrace life a → a.inbound.heap.next < 2 ^ 32
few-blocks life a h =
    let few : length life.fates ≤ 2147483648 = few-fates life a h in
    let blocks : a.inbound.heap.next ≤ length life.fates + 1 = h.lives.blocks in
    omega (arith, few, blocks)

-- nothing was received, and all but the stream's state is unchanged
pub fed-nothing : (life : ReceiverTrace) (a b : Arrivals) → IsArrivalTrace life a → b.table.now ≡ a.table.now
    → b.inbound ≡ a.inbound → b.policy ≡ a.policy → b.lines ≡ a.lines → b.writer ≡ a.writer
    → b.fault ≡ a.fault → (b.stream ≢ Cut → a.stream ≢ Cut) → (b.stream ≡ Cut → a.stream ≡ Cut)
    → IsArrivalTrace (after_piece life [] life.fault) b
fed-nothing life a b h table inbound policy lines writer fault uncut cut =
    let lives : IsTraceOf a.table.now (after_piece life [] life.fault) a.inbound =
    subst (λ (s : List ℕ). IsTraceOf a.table.now
    (record { stream = s; fault = life.fault; hello = life.hello; fates = life.fates }) a.inbound)
    (sym (append-nil life.stream)) h.lives in
    record {
      valid = subst IsValid (sym table) h.valid;
      lives = subst (λ (T : Table). IsTraceOf T (after_piece life [] life.fault) b.inbound) (sym table)
          (subst (λ (r : ReceiverState). IsTraceOf a.table.now (after_piece life [] life.fault) r) (sym inbound) lives);
      told = subst (AllZip IsFateLine life.fates) (sym (ap (λ x. x.items) lines)) h.told;
      judged = subst (λ p. All (λ x. policy_of_fate x ≡ option_copied p) life.fates) (sym policy) h.judged;
      stored = ap (λ x. x.stores) writer ∙ h.stored;
      words = ap (λ x. x.heap.words) writer ∙ h.words ∙ sym (ap (λ (r : ReceiverState). r.heap.words) inbound);
      most = subst (λ (r : ReceiverState). r.heap.words ≤ 65536) (sym inbound) h.most;
      uncut = λ no. h.uncut (uncut no);
      cut = λ is. h.cut (cut is);
      first = fault ∙ h.first;
      few = subst (λ x. length x.items ≤ MAX_ARRIVALS) (sym lines) h.few;
    }

-- a piece was received with which the stream has a fault
pub cut-off : (life : ReceiverTrace) (a b : Arrivals) (piece : List ℕ) (fault : FeedFault) → IsArrivalTrace life a → fault ≢ Memory
    → (fault ≡ Memory) ⊎ IsTraceOf b.table.now (after_piece life piece (Some fault)) b.inbound → b.table.now ≡ a.table.now
    → b.inbound.heap ≡ a.inbound.heap → b.policy ≡ a.policy → b.lines ≡ a.lines → b.writer ≡ a.writer
    → b.stream ≡ Cut → b.fault ≡ Some fault → (first : Option FeedFault) × IsArrivalTrace (after_piece life piece first) b
cut-off life a b piece fault h not (inl is) table heap policy lines writer cut is-first = absurd (not is)
cut-off life a b piece fault h not (inr lives) table heap policy lines writer cut is-first = (
  Some fault,
  record {
    valid = subst IsValid (sym table) h.valid;
    lives = lives;
    told = subst (AllZip IsFateLine life.fates) (sym (ap (λ x. x.items) lines)) h.told;
    judged = subst (λ p. All (λ x. policy_of_fate x ≡ option_copied p) life.fates) (sym policy) h.judged;
    stored = ap (λ x. x.stores) writer ∙ h.stored;
    words = ap (λ x. x.heap.words) writer ∙ h.words ∙ sym (ap (λ (l : Layout). l.words) heap);
    most = subst (λ (l : Layout). l.words ≤ 65536) (sym heap) h.most;
    uncut = λ no. absurd (no cut);
    cut = λ is. refl;
    first = is-first;
    few = subst (λ x. length x.items ≤ MAX_ARRIVALS) (sym lines) h.few;
  },
)

-- what a turn doesn't change
pub record StayedSo (a b : Arrivals) : Type 0 where
  pub table : b.table.now ≡ a.table.now
  pub policy : b.policy ≡ a.policy
  pub words : b.writer.heap.words ≡ a.writer.heap.words
  pub places : b.inbound.heap.words ≡ a.inbound.heap.words
  pub stream : b.stream ≡ a.stream
  pub fault : b.fault ≡ a.fault

-- the receiver after a turn, and the stores
abbrev pub HasTurned : ReceiverTrace → Arrivals → Arrivals → Arrival → Type 0
HasTurned life a b arrival = (more : List Fated) × IsAnswerFor (option_copied a.policy) arrival more
    × (b.writer.stores ≡ a.writer.stores ++ flat_map stores_of_fate more) × IsTraceOf b.table.now (after_fates life more) b.inbound

more-lived : (life : ReceiverTrace) (a b : Arrivals) (more : List Fated) (lines : List ArrivalLine) → IsArrivalTrace life a
    → StayedSo a b → IsTraceOf b.table.now (after_fates life more) b.inbound
    → b.writer.stores ≡ a.writer.stores ++ flat_map stores_of_fate more → b.lines.items ≡ lines
    → AllZip IsFateLine (life.fates ++ more) lines → All (λ x. policy_of_fate x ≡ option_copied a.policy) more
    → length lines ≤ MAX_ARRIVALS → IsArrivalTrace (after_fates life more) b
more-lived life a b more lines h s lives stores is told judged few = record {
  valid = subst IsValid (sym s.table) h.valid;
  lives = lives;
  told = subst (AllZip IsFateLine (life.fates ++ more)) (sym is) told;
  judged = subst (λ p. All (λ x. policy_of_fate x ≡ option_copied p) (life.fates ++ more)) (sym s.policy)
      (All-append (λ x. policy_of_fate x ≡ option_copied a.policy) life.fates more h.judged judged);
  stored = stores ∙ ap (λ xs. xs ++ flat_map stores_of_fate more) h.stored ∙ sym
      (flat_map-append stores_of_fate life.fates more);
  words = s.words ∙ h.words ∙ sym s.places;
  most = subst (λ n. n ≤ 65536) (sym s.places) h.most;
  uncut = λ no. h.uncut (λ is. no (s.stream ∙ is));
  cut = λ is. h.cut (sym s.stream ∙ is);
  first = s.fault ∙ h.first;
  few = subst (λ (xs : List ArrivalLine). length xs ≤ MAX_ARRIVALS) (sym is) few;
}

pub turned-nothing : (life : ReceiverTrace) (a b : Arrivals) (arrival : Arrival) → IsArrivalTrace life a
    → (m : HasTurned life a b arrival) → m.0 ≡ [] → StayedSo a b → b.lines.items ≡ a.lines.items
    → (more : List Fated) × (more ≡ []) × IsArrivalTrace (after_fates life more) b
turned-nothing life a b arrival h m none s lines = (
  m.0,
  none,
  more-lived life a b m.0 a.lines.items h s m.3 m.2 lines
      (subst (λ (xs : List Fated). AllZip IsFateLine (life.fates ++ xs) a.lines.items) (sym none)
      (subst (λ (xs : List Fated). AllZip IsFateLine xs a.lines.items) (sym (append-nil life.fates)) h.told))
      (subst (λ (xs : List Fated). All (λ x. policy_of_fate x ≡ option_copied a.policy) xs) (sym none)
      (All-nil (λ x. policy_of_fate x ≡ option_copied a.policy))) h.few,
)

one-lived : (life : ReceiverTrace) (a b : Arrivals) (x : Fated) (line : ArrivalLine) → IsArrivalTrace life a → StayedSo a b
    → IsTraceOf b.table.now (after_fates life (x ∷ [])) b.inbound
    → b.writer.stores ≡ a.writer.stores ++ flat_map stores_of_fate (x ∷ []) → b.lines.items ≡ a.lines.items ++ line ∷ []
    → IsFateLine x line → policy_of_fate x ≡ option_copied a.policy → length a.lines.items < MAX_ARRIVALS
    → IsArrivalTrace (after_fates life (x ∷ [])) b
one-lived life a b x line h s lives stores lines told policy few =
    more-lived life a b (x ∷ []) (a.lines.items ++ line ∷ []) h s lives stores lines
    (zip-snoc IsFateLine life.fates a.lines.items x line h.told told)
    (All-cons (λ y. policy_of_fate y ≡ option_copied a.policy) x [] policy
    (All-nil (λ y. policy_of_fate y ≡ option_copied a.policy)))
    (let long : length (a.lines.items ++ line ∷ []) ≡ length a.lines.items + 1 =
    length-append a.lines.items (line ∷ []) in omega (arith, long, few))

pub turned-dropped : (life : ReceiverTrace) (a b : Arrivals) (arrival : Arrival) (kind method number : ℕ) (why : DropCause)
    → IsArrivalTrace life a → HasTurned life a b arrival → arrival ≡ Dropped kind method number why → StayedSo a b
    → b.lines.items ≡ a.lines.items ++ line.Dropped kind method number why ∷ []
    → length a.lines.items < MAX_ARRIVALS
    → (more : List Fated) × AreFatesOf turned.Dropped more × IsArrivalTrace (after_fates life more) b
turned-dropped life a b arrival kind method number why h m is s lines few =
    let p = option_copied a.policy in
    let t : IsAnswerFor p (Dropped kind method number why) m.0 = subst (λ x. IsAnswerFor p x m.0) is m.1 in
    let x = was_dropped t.0 p why in (
      x ∷ [],
      (t.0, p, why, refl),
      one-lived life a b x (line.Dropped kind method number why) h s
          (subst (λ (xs : List Fated). IsTraceOf b.table.now (after_fates life xs) b.inbound) t.2 m.3)
          (m.2 ∙ ap (λ xs. a.writer.stores ++ flat_map stores_of_fate xs) t.2) lines (t.1.0, t.1.1, t.1.2, refl) refl few,
    )

pub turned-arrived : (life : ReceiverTrace) (a b : Arrivals) (arrival : Arrival) (kind method number : ℕ) (block : Block)
    (tree : Node) → IsArrivalTrace life a → HasTurned life a b arrival → arrival ≡ Arrived kind method number block tree
    → StayedSo a b → b.lines.items ≡ a.lines.items ++ line.Arrived kind method number tree ∷ []
    → length a.lines.items < MAX_ARRIVALS
    → (more : List Fated) × AreFatesOf (turned.Delivered (record {
      kind = kind;
      method = method;
      number = number;
      addr = block.at;
      block = block.number;
    })) more
    × IsArrivalTrace (after_fates life more) b
turned-arrived life a b arrival kind method number block tree h m is s lines few =
    let p = option_copied a.policy in
    let t : IsAnswerFor p (Arrived kind method number block tree) m.0 = subst (λ x. IsAnswerFor p x m.0) is m.1 in
    let x = was_placed t.0 p tree block t.2 in (
      x ∷ [],
      (t.0, p, tree, block, t.2, refl, t.1.0, t.1.1, t.1.2, refl, refl),
      one-lived life a b x
          (line.Arrived kind method number tree) h s
          (subst (λ (xs : List Fated). IsTraceOf b.table.now (after_fates life xs) b.inbound) t.3 m.3)
          (m.2 ∙ ap (λ xs. a.writer.stores ++ flat_map stores_of_fate xs) t.3) lines (t.1.0, t.1.1, t.1.2, refl) refl few,
    )

-- a stream that isn't cut
abbrev pub IsNoCut : StreamState → Type 0
IsNoCut Cut = ⊥
IsNoCut Open = ⊤
IsNoCut Ended = ⊤
IsNoCut Failed = ⊤

pub open-uncut : (x : StreamState) → x ≡ Open → x ≢ Cut
open-uncut x is cut = subst IsNoCut (sym is ∙ cut) tt

pub ended-uncut : (x : StreamState) → x ≡ Ended → x ≢ Cut
ended-uncut x is cut = subst IsNoCut (sym is ∙ cut) tt

pub failed-uncut : (x : StreamState) → x ≡ Failed → x ≢ Cut
failed-uncut x is cut = subst IsNoCut (sym is ∙ cut) tt

-- a link whose bytes are unchanged received none
pub kept-appends : (old new : Option (List ℕ)) → Keeps old new → Appends old new []
kept-appends None new kept = tt
kept-appends (Some xs) None kept = absurd kept
kept-appends (Some xs) (Some ys) kept = kept ∙ sym (append-nil xs)

-- a heap is the same after later stores
pub same-heap : (old new : Writing) → ((first : Writing) → IsLaterWriter first old → IsLaterWriter first new)
    → new.heap ≡ old.heap
same-heap old new later = (later old (record { heap = refl; stores = ([], sym (append-nil old.stores)) })).heap

pub appends-nothing : (known : Option (List ℕ)) → Appends known known []
appends-nothing None = tt
appends-nothing (Some xs) = sym (append-nil xs)

-- ---- held blocks

-- a turn that placed nothing doesn't change them
pub held-none : (T : Table) (p : Option AccessPolicy) (old new : ReceiverState) (s t : List (ℕ × ℕ)) (arrival : Arrival)
    → IsTurnOf T p old new s t arrival → arrival ≡ NoFrame → new.heap.held ≡ old.heap.held
held-none T p old new s t arrival turns is =
    let none : IsTurnOf T p old new s t NoFrame = subst (IsTurnOf T p old new s t) is turns in
    ap (λ (r : ReceiverState). r.heap.held) none.1

pub held-waiting : (T : Table) (p : Option AccessPolicy) (old new : ReceiverState) (s t : List (ℕ × ℕ)) (arrival : Arrival)
    (need largest : ℕ) → IsTurnOf T p old new s t arrival → arrival ≡ Waiting need largest
    → new.heap.held ≡ old.heap.held
held-waiting T p old new s t arrival need largest turns is =
    let waits : IsTurnOf T p old new s t (Waiting need largest) = subst (IsTurnOf T p old new s t) is turns in
    ap (λ (l : Layout). l.held) waits.0.heap

pub held-dropped : (T : Table) (p : Option AccessPolicy) (old new : ReceiverState) (s t : List (ℕ × ℕ)) (arrival : Arrival)
    (kind method number : ℕ) (why : DropCause) → IsTurnOf T p old new s t arrival
    → arrival ≡ Dropped kind method number why → new.heap.held ≡ old.heap.held
held-dropped T p old new s t arrival kind method number why turns is =
    let drops : IsTurnOf T p old new s t (Dropped kind method number why) = subst (IsTurnOf T p old new s t) is turns in
    ap (λ (l : Layout). l.held) drops.0.heap

-- and one that placed a message appends its block
pub held-arrived : (T : Table) (p : Option AccessPolicy) (old new : ReceiverState) (s t : List (ℕ × ℕ)) (arrival : Arrival)
    (kind method number : ℕ) (block : Block) (tree : Node) → IsTurnOf T p old new s t arrival
    → arrival ≡ Arrived kind method number block tree → new.heap.held ≡ old.heap.held ++ block ∷ []
held-arrived T p old new s t arrival kind method number block tree turns is =
    let arrives : IsTurnOf T p old new s t (Arrived kind method number block tree) =
    subst (IsTurnOf T p old new s t) is turns in
    arrives.placed.held
