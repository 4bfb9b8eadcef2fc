-- Deliveries advance.
use Rattle.std.proofs.Common.{◌≡◌, ◌≢◌, ℕ, ◌+◌, ◌<◌, ◌≤◌, ◌^◌, ◌⊎◌, inl, inr, List, [], ◌∷◌, ◌++◌, map, length}
use Rattle.std.proofs.Common.{Option, Some, None, refl, sym, ap, subst, ◌∙◌, arith, append_assoc, append-nil}
use Rattle.std.proofs.Common.{length-append, option_to_list, IsPermutation}
use Rattle.std.specs.List.{AllZip}
use Rattle.std.specs.Prelude.{IfSome}
use Rattle.std.proofs.lemmas.List.{map-append}
use Rattle.std.proofs.lemmas.List.Elements.{All-nil}
use Rattle.std.proofs.lemmas.List.Concat.{flat_map-append}
use Rattle.std.proofs.lemmas.List.Sorted.{IsPermutation-append, IsPermutation-append_comm, IsPermutation-refl, IsPermutation-trans}
use Rattle.std.proofs.lemmas.Option.{none-some}
use Rattle.std.proofs.lemmas.Slice.Zip.{AllZip-long}
use Rattle.std.specs.Io.KnownBytes.{Appends}
use Rattle.mrpc_base.specs.Failures.{HasCause}
use Rattle.shared_heap.specs.Fresh.{HeapId, Writing}
use Rattle.mrpc_table.specs.declared.table.Table.{Table}
use Rattle.frame_transport.specs.Frames.{IsPartial}
use Rattle.frame_transport.specs.Feed.{FeedState}
use Rattle.frame_transport.specs.declared.fault.FeedFault.{FeedFault}
use Rattle.descriptor_ring.specs.Rings.{NumberSending, Sending}
use Rattle.receive_heap.specs.Layout.{IsWithout, Layout}
use Rattle.receive_heap.specs.declared.extents.Block.{Block}
use Rattle.receive_core.specs.ReceiverTraces.{Fated, ReceiverTrace, IsTraceOf, after_fates, after_piece, was_dropped, was_placed}
use Rattle.receive_core.specs.Turns.{ReceiverState}
use Rattle.message_delivery.specs.Arriving.{AreFatesOf, IsComplete, IsArrivalTrace, HasHeld, IsFateLine}
use Rattle.message_delivery.specs.Noticing.{IsRequestOrReply, IsReclaiming, AreNoticesOf, IsWithoutEach, AreStillOpen, IsNoticeOf}
use Rattle.message_delivery.specs.Noticing.{notices_of as notices_told, sent_numbers as numbers_told}
use Rattle.message_delivery.specs.declared.arrivals.Arrivals.{Arrivals}
use Rattle.message_delivery.specs.declared.arrivals.PlacedMessage.{PlacedMessage}
use Rattle.message_delivery.specs.declared.arrivals.StreamState.{StreamState}
use Rattle.message_delivery.specs.declared.arrivals.StreamState.TheVariants.{Cut, Ended, Failed, Open}
use Rattle.message_delivery.specs.declared.arrivals.DeliveryOutcome.{DeliveryOutcome}
use Rattle.message_delivery.specs.declared.arrivals.DeliveryOutcome.TheVariants as turned
use Rattle.message_delivery.specs.declared.limits.TheConstants.{MAX_ARRIVALS}
use Rattle.message_delivery.specs.declared.notices.Notices.{Notices}
use Rattle.message_delivery.specs.declared.reclaims.Reclaims.{Reclaims}
use Rattle.service_loop.specs.Delivering.{IsCountedAsEnded, HaveDelivered, HaveEnded, HaveAdvanced, IsClosing, held_numbers, message_blocks, placed_message_of, placed_messages_of}
use Rattle.service_loop.specs.declared.delivering.Deliveries.{Deliveries}

-- ---- numbers of frames

few-messages : (fates : List Fated) → length (placed_messages_of fates) ≤ length fates
few-messages [] = omega arith
few-messages (was_dropped f policy why ∷ fates) = let few = few-messages fates in omega (arith, few)
few-messages (was_placed f policy t block placed ∷ fates) = let few = few-messages fates in omega (arith, few)

-- as many lines as fates
as-many : (life : ReceiverTrace) (a : Arrivals) → IsArrivalTrace life a → length a.lines.items ≡ length life.fates
as-many life a h = AllZip-long IsFateLine life.fates a.lines.items h.told

pub room-for-one : (life : ReceiverTrace) (a : Arrivals) → IsArrivalTrace life a → length (placed_messages_of life.fates) + 1 < 4294967294
room-for-one life a h =
    let few : length (placed_messages_of life.fates) ≤ length life.fates = few-messages life.fates in
    let long = as-many life a h in
    let most : length a.lines.items ≤ 2147483648 = h.few in
    omega (arith, few, long, most)

pub few-given : (heap : HeapId) (placed : List PlacedMessage) (n : Notices) → AreNoticesOf heap placed n → n.given < 2 ^ 63
few-given heap placed n h =
    let given = h.given in
    let both : length (map (λ (d : PlacedMessage). d.block) h.past) ≡ length (numbers_told n ++ option_to_list n.owed) =
    ap (λ (xs : List ℕ). length xs) h.numbers in
    let sum : length (numbers_told n ++ option_to_list n.owed) ≡ length (numbers_told n) + length (option_to_list n.owed) =
    length-append (numbers_told n) (option_to_list n.owed) in
    let mapped : length (map (λ (d : PlacedMessage). d.block) h.past) ≡ length h.past =
    length-blocks h.past in
    let all : length placed ≡ length (h.past ++ n.waiting.items) = ap (λ (xs : List PlacedMessage). length xs) h.all in
    let front : length (h.past ++ n.waiting.items) ≡ length h.past + length n.waiting.items =
    length-append h.past n.waiting.items in
    let few = h.few in
    omega (arith, given, both, sum, mapped, all, front, few)
  where
    length-blocks : (xs : List PlacedMessage) → length (map (λ (d : PlacedMessage). d.block) xs) ≡ length xs
    length-blocks [] = refl
    length-blocks (x ∷ xs) = let rest = length-blocks xs in omega (arith, rest)

-- ---- initially

-- nothing was placed, sent or given back
pub delivered-none : (life : ReceiverTrace) (d : Deliveries) → IsArrivalTrace life d.arrivals → life.fates ≡ []
    → AreNoticesOf d.arrivals.writer.heap [] d.notices → IsReclaiming [] [] d.reclaims
    → d.arrivals.inbound.heap.held ≡ [] → d.reclaims.programmed < 2 ^ 63 → (IsClosing d.notices → ⊥)
    → HaveDelivered life [] [] d
delivered-none life d lived none told returned held few unclosed = record {
  lived = lived;
  told = subst (λ fs. AreNoticesOf d.arrivals.writer.heap (placed_messages_of fs) d.notices) (sym none) told;
  returned = returned;
  held = subst (λ fs. IsPermutation (message_blocks (placed_messages_of fs)) (held_numbers d.arrivals.inbound.heap.held ++ []))
      (sym none) (subst (λ (bs : List Block). IsPermutation [] (held_numbers bs ++ [])) (sym held)
      (IsPermutation-refl []));
  programmed = few;
  closed = λ closing. absurd (unclosed closing);
}

pub told-none-yet : (heap : HeapId) (n : Notices) → n.waiting.items ≡ [] → notices_told n ≡ [] → numbers_told n ≡ []
    → n.owed ≡ None → n.given ≡ 0 → IfSome n.notices (λ (r : Sending). r.heap ≡ heap) → AreNoticesOf heap [] n
told-none-yet heap n waiting notices numbers owed given of_heap = record {
  past = [];
  all = sym waiting;
  told = subst (AllZip IsNoticeOf []) (sym notices) tt;
  numbers = sym (ap (λ xs. xs ++ option_to_list n.owed) numbers ∙ ap option_to_list owed);
  given = given ∙ sym (ap (λ (xs : List ℕ). length xs) numbers);
  messages = All-nil IsRequestOrReply;
  few = omega arith;
  of_heap = of_heap;
}

-- neither ring was closed
pub neither : (notices : Sending) (blocks : NumberSending) → (Some notices ≡ None) ⊎ (Some blocks ≡ None) → ⊥
neither notices blocks (inl none) = none-some notices (sym none)
neither notices blocks (inr none) = none-some blocks (sym none)

-- ---- returned numbers

-- an item between two lists can be moved behind both
swapped : (xs ys : List ℕ) (x : ℕ) → IsPermutation ((xs ++ x ∷ []) ++ ys) ((xs ++ ys) ++ x ∷ [])
swapped xs ys x = subst (λ zs. IsPermutation zs ((xs ++ ys) ++ x ∷ [])) (sym (append_assoc xs (x ∷ []) ys))
    (subst (IsPermutation (xs ++ (x ∷ ys))) (sym (append_assoc xs ys (x ∷ [])))
    (IsPermutation-append xs xs (x ∷ ys) (ys ++ x ∷ []) (IsPermutation-refl xs)
    (IsPermutation-append_comm (x ∷ []) ys)))

-- a block is no longer held, and its number came back
left-one : (number : ℕ) (old new : List Block) (back placed : List ℕ) → IsWithout number old new
    → IsPermutation placed (held_numbers old ++ back) → IsPermutation placed (held_numbers new ++ (back ++ number ∷ []))
left-one number old new back placed without is =
    let before = held_numbers without.before in
    let after = held_numbers without.after in
    let olds : held_numbers old ≡ before ++ (number ∷ after) =
    ap held_numbers without.was ∙ map-append (λ (b : Block). b.number) without.before (without.block ∷ without.after)
    ∙ ap (λ n. before ++ (n ∷ after)) without.has in
    let news : held_numbers new ≡ before ++ after =
    ap held_numbers without.is ∙ map-append (λ (b : Block). b.number) without.before without.after in
    let first : IsPermutation placed ((before ++ number ∷ []) ++ (after ++ back)) =
    subst (IsPermutation placed) (ap (λ xs. xs ++ back) olds
    ∙ ap (λ xs. xs ++ back) (sym (append_assoc before (number ∷ []) after))
    ∙ append_assoc (before ++ number ∷ []) after back) is in
    let second : IsPermutation placed ((before ++ (after ++ back)) ++ number ∷ []) =
    IsPermutation-trans placed ((before ++ number ∷ []) ++ (after ++ back)) ((before ++ (after ++ back)) ++ number ∷ [])
    first (swapped before (after ++ back) number) in
    subst (IsPermutation placed) (ap (λ xs. xs ++ number ∷ []) (sym (append_assoc before after back))
    ∙ append_assoc (before ++ after) back (number ∷ []) ∙ ap (λ xs. xs ++ (back ++ number ∷ [])) (sym news)) second

left-each : (gained : List ℕ) (old new : List Block) (back placed : List ℕ) → IsWithoutEach gained old new
    → IsPermutation placed (held_numbers old ++ back) → IsPermutation placed (held_numbers new ++ (back ++ gained))
left-each [] old new back placed same is =
    subst (λ xs. IsPermutation placed (held_numbers xs ++ (back ++ []))) (sym same)
    (subst (λ xs. IsPermutation placed (held_numbers old ++ xs)) (sym (append-nil back)) is)
left-each (number ∷ gained) old new back placed each is =
    subst (λ xs. IsPermutation placed (held_numbers new ++ xs)) (append_assoc back (number ∷ []) gained)
    (left-each gained each.0 new (back ++ number ∷ []) placed each.2
    (left-one number old each.0 back placed each.1 is))

all-fed : (a : Arrivals) (i : ReceiverState) → i.fed ≡ a.inbound.fed → IsComplete a → IsComplete (record a { inbound = i })
all-fed a i same (inl failed) = inl failed
all-fed a i same (inr (inl most)) = inr (inl most)
all-fed a i same (inr (inr (ended, partial))) =
    inr (inr (ended, subst (λ (f : FeedState). IsPartial f.bytes) (sym same) partial))

-- what a reclaim preserves of the receiver
pub record StaysFed (T : Table) (old new : ReceiverState) : Type 0 where
  pub life : (life : ReceiverTrace) → IsTraceOf T life old → IsTraceOf T life new
  pub fed : new.fed ≡ old.fed
  pub words : new.heap.words ≡ old.heap.words

pub reclaimed : (life : ReceiverTrace) (numbers back more gained : List ℕ) (d : Deliveries) (i : ReceiverState) (r : Reclaims)
    → HaveDelivered life numbers back d → StaysFed d.arrivals.table.now d.arrivals.inbound i
    → IsReclaiming (numbers ++ more) (back ++ gained) r → IsWithoutEach gained d.arrivals.inbound.heap.held i.heap.held
    → r.programmed ≡ d.reclaims.programmed
    → HaveDelivered life (numbers ++ more) (back ++ gained)
    (record d { arrivals = record d.arrivals { inbound = i }; reclaims = r })
reclaimed life numbers back more gained d i r h stays returned lost programmed =
    let lived = h.lived in record {
      lived = record {
        valid = lived.valid;
        lives = stays.life life lived.lives;
        told = lived.told;
        judged = lived.judged;
        stored = lived.stored;
        words = lived.words ∙ sym stays.words;
        most = subst (λ n. n ≤ 65536) (sym stays.words) lived.most;
        uncut = lived.uncut;
        cut = lived.cut;
        first = lived.first;
        few = lived.few;
      };
      told = h.told;
      returned = returned;
      held = left-each gained d.arrivals.inbound.heap.held i.heap.held back (message_blocks (placed_messages_of life.fates)) lost
          h.held;
      programmed = subst (λ n. n < 2 ^ 63) (sym programmed) h.programmed;
      closed = λ closing. record {
        all = all-fed d.arrivals i stays.fed (h.closed closing).all;
        waiting = (h.closed closing).waiting;
        owed = (h.closed closing).owed;
      };
    }

-- ---- what is received

-- nothing arrived, and no number came back
pub same-numbers : (life : ReceiverTrace) (numbers back : List ℕ) (d : Deliveries) → HaveDelivered life numbers back d
    → HaveDelivered life (numbers ++ []) (back ++ []) d
same-numbers life numbers back d h = subst (λ xs. HaveDelivered life xs (back ++ []) d) (sym (append-nil numbers))
    (subst (λ xs. HaveDelivered life numbers xs d) (sym (append-nil back)) h)

appends-none : (known : Option (List ℕ)) → Appends known known []
appends-none None = tt
appends-none (Some xs) = sym (append-nil xs)

pub gone-nowhere : (life : ReceiverTrace) (numbers back : List ℕ) (known : Option (List ℕ)) (d : Deliveries)
    → HaveDelivered life numbers back d → HaveAdvanced life numbers back known known d
gone-nowhere life numbers back known d h = record {
  piece = [];
  later = life;
  more = [];
  gained = [];
  came = appends-none known;
  lives = record {
    more = [];
    stream = sym (append-nil life.stream);
    hello = refl;
    fates = sym (append-nil life.fates);
  };
  delivered = same-numbers life numbers back d h;
}

-- an open stream isn't complete
pub not-all : (a : Arrivals) → a.stream ≡ Open → length a.lines.items < MAX_ARRIVALS → IsComplete a → ⊥
not-all a is few (inl failed) = let wrong : Open ≡ Failed = sym is ∙ failed in absurd cc
not-all a is few (inr (inl most)) = absurd (omega (arith, few, most))
not-all a is few (inr (inr (ended, partial))) = ended is

-- it doesn't count as ended either
pub not-counted : (a : Arrivals) → (a.stream ≡ Open) × (length a.lines.items < MAX_ARRIVALS) → IsCountedAsEnded a → ⊥
not-counted a unclosed (inl ended) = ended unclosed.0
not-counted a unclosed (inr most) = absurd (let less = unclosed.1 in omega (arith, less, most))

pub open-unended : (x : StreamState) → x ≡ Open → x ≢ Ended
open-unended x unclosed ended = let wrong : Open ≡ Ended = sym unclosed ∙ ended in absurd cc

pub received : (life : ReceiverTrace) (numbers back piece : List ℕ) (fault : Option FeedFault) (given given' : Option (List ℕ))
    (d : Deliveries) (a : Arrivals) → HaveDelivered life numbers back d → (d.arrivals.stream ≡ Open)
    × (length d.arrivals.lines.items < MAX_ARRIVALS) → Appends given given' piece × IsArrivalTrace (after_piece life piece fault) a
    → a.writer ≡ d.arrivals.writer → a.inbound.heap ≡ d.arrivals.inbound.heap
    → HaveAdvanced life numbers back given given' (record d { arrivals = a })
received life numbers back piece fault given given' d a h unclosed came writer heap = record {
  piece = piece;
  later = after_piece life piece fault;
  more = [];
  gained = [];
  came = came.0;
  lives = record { more = []; stream = refl; hello = refl; fates = sym (append-nil life.fates) };
  delivered = same-numbers (after_piece life piece fault) numbers back (record d { arrivals = a }) (record {
    lived = came.1;
    told = subst (λ (w : Writing). AreNoticesOf w.heap (placed_messages_of life.fates) d.notices) (sym writer) h.told;
    returned = h.returned;
    held = subst (λ (l : Layout). IsPermutation (message_blocks (placed_messages_of life.fates)) (held_numbers l.held ++ back))
        (sym heap) h.held;
    programmed = h.programmed;
    closed = λ closing. absurd (not-all d.arrivals unclosed.0 unclosed.1 (h.closed closing).all);
  });
}

-- ---- turns

pub fated-none : (life : ReceiverTrace) (numbers back : List ℕ) (d : Deliveries) → HaveDelivered life numbers back d
    → HaveDelivered (after_fates life []) numbers back d
fated-none life numbers back d h =
    subst (λ (fs : List Fated). HaveDelivered
    (record { stream = life.stream; fault = life.fault; hello = life.hello; fates = fs }) numbers back d)
    (sym (append-nil life.fates)) h

-- frames were handled, and the notices grew with them
told-more : (life : ReceiverTrace) (numbers back : List ℕ) (more : List Fated) (d : Deliveries) (a : Arrivals) (n : Notices)
    → HaveDelivered life numbers back d → IsArrivalTrace (after_fates life more) a
    → AreNoticesOf a.writer.heap (placed_messages_of (life.fates ++ more)) n
    → IsPermutation (message_blocks (placed_messages_of (life.fates ++ more))) (held_numbers a.inbound.heap.held ++ back)
    → (IsClosing n → ⊥) → HaveDelivered (after_fates life more) numbers back (record d { arrivals = a; notices = n })
told-more life numbers back more d a n h lived told held unclosed = record {
  lived = lived;
  told = told;
  returned = h.returned;
  held = held;
  programmed = h.programmed;
  closed = λ closing. absurd (unclosed closing);
}

-- no message was placed
told-none : (life : ReceiverTrace) (numbers back : List ℕ) (more : List Fated) (d : Deliveries) (a : Arrivals)
    → HaveDelivered life numbers back d → IsArrivalTrace (after_fates life more) a → placed_messages_of more ≡ []
    → a.writer.heap ≡ d.arrivals.writer.heap → a.inbound.heap.held ≡ d.arrivals.inbound.heap.held
    → (IsClosing d.notices → ⊥) → HaveDelivered (after_fates life more) numbers back (record d { arrivals = a })
told-none life numbers back more d a h lived none heap held unclosed =
    let same : placed_messages_of life.fates ≡ placed_messages_of (life.fates ++ more) =
    sym (flat_map-append placed_message_of life.fates more ∙ ap (λ xs. placed_messages_of life.fates ++ xs) none
    ∙ append-nil (placed_messages_of life.fates)) in
    told-more life numbers back more d a d.notices h lived
    (subst (λ ms. AreNoticesOf a.writer.heap ms d.notices) same
    (subst (λ w. AreNoticesOf w (placed_messages_of life.fates) d.notices) (sym heap) h.told))
    (subst (λ ms. IsPermutation (message_blocks ms) (held_numbers a.inbound.heap.held ++ back)) same
    (subst (λ bs. IsPermutation (message_blocks (placed_messages_of life.fates)) (held_numbers bs ++ back)) (sym held) h.held))
    unclosed

-- the effect of a turn on the arrivals
abbrev pub HaveTurned : ReceiverTrace → DeliveryOutcome → Arrivals → Type 0
HaveTurned life turned a = (more : List Fated) × AreFatesOf turned more × IsArrivalTrace (after_fates life more) a

abbrev message : ℕ → ℕ → ℕ → ℕ → ℕ → PlacedMessage
message kind method number addr block =
    record { kind = kind; method = method; number = number; addr = addr; block = block }

pub turned-nothing : (life : ReceiverTrace) (numbers back : List ℕ) (d : Deliveries) (a : Arrivals) (answer : DeliveryOutcome)
    → HaveDelivered life numbers back d → HaveTurned life answer a → answer ≡ turned.Nothing
    → HasHeld answer d.arrivals.inbound.heap.held a.inbound.heap.held → a.writer.heap ≡ d.arrivals.writer.heap
    → (IsClosing d.notices → ⊥) → (more : List Fated)
    × HaveDelivered (after_fates life more) numbers back (record d { arrivals = a })
turned-nothing life numbers back d a answer h t is holds heap unclosed =
    let none : t.0 ≡ [] = subst (λ x. AreFatesOf x t.0) is t.1 in
    let held : HasHeld turned.Nothing d.arrivals.inbound.heap.held a.inbound.heap.held =
    subst (λ x. HasHeld x d.arrivals.inbound.heap.held a.inbound.heap.held) is holds in
    (t.0, told-none life numbers back t.0 d a h t.2 (ap placed_messages_of none) heap held unclosed)

pub turned-dropped : (life : ReceiverTrace) (numbers back : List ℕ) (d : Deliveries) (a : Arrivals) (answer : DeliveryOutcome)
    → HaveDelivered life numbers back d → HaveTurned life answer a → answer ≡ turned.Dropped
    → HasHeld answer d.arrivals.inbound.heap.held a.inbound.heap.held → a.writer.heap ≡ d.arrivals.writer.heap
    → (IsClosing d.notices → ⊥) → (more : List Fated)
    × HaveDelivered (after_fates life more) numbers back (record d { arrivals = a })
turned-dropped life numbers back d a answer h t is holds heap unclosed =
    let one : AreFatesOf turned.Dropped t.0 = subst (λ x. AreFatesOf x t.0) is t.1 in
    let held : HasHeld turned.Dropped d.arrivals.inbound.heap.held a.inbound.heap.held =
    subst (λ x. HasHeld x d.arrivals.inbound.heap.held a.inbound.heap.held) is holds in
    (t.0, told-none life numbers back t.0 d a h t.2 (ap placed_messages_of one.3) heap held unclosed)

-- a message was placed, and its block is held
pub turned-delivered : (life : ReceiverTrace) (numbers back : List ℕ) (d : Deliveries) (a : Arrivals) (n : Notices)
    (answer : DeliveryOutcome) (m : PlacedMessage) → HaveDelivered life numbers back d → HaveTurned life answer a
    → answer ≡ turned.Delivered m → HasHeld answer d.arrivals.inbound.heap.held a.inbound.heap.held
    → a.writer.heap ≡ d.arrivals.writer.heap
    → AreNoticesOf d.arrivals.writer.heap (placed_messages_of life.fates ++ m ∷ []) n → (IsClosing n → ⊥)
    → (more : List Fated) × HaveDelivered (after_fates life more) numbers back (record d { arrivals = a; notices = n })
turned-delivered life numbers back d a n answer m h t is holds heap told unclosed =
    let one : AreFatesOf (turned.Delivered m) t.0 = subst (λ x. AreFatesOf x t.0) is t.1 in
    let held : HasHeld (turned.Delivered m) d.arrivals.inbound.heap.held a.inbound.heap.held =
    subst (λ x. HasHeld x d.arrivals.inbound.heap.held a.inbound.heap.held) is holds in
    let f = one.0 in
    let block = one.3 in
    let same : message f.kind f.method f.number block.at block.number ≡ m =
    as-told m f.kind f.method f.number block.at block.number one.6 one.7 one.8 (sym one.9) (sym one.10) in
    let all : placed_messages_of (life.fates ++ t.0) ≡ placed_messages_of life.fates ++ m ∷ [] =
    flat_map-append placed_message_of life.fates t.0 ∙ ap (λ xs. placed_messages_of life.fates ++ xs)
    (ap placed_messages_of one.5 ∙ ap (λ x. x ∷ []) same) in
    let blocks : message_blocks (placed_messages_of (life.fates ++ t.0))
    ≡ message_blocks (placed_messages_of life.fates) ++ m.block ∷ [] =
    ap message_blocks all ∙ map-append (λ (x : PlacedMessage). x.block) (placed_messages_of life.fates) (m ∷ []) in
    let news : held_numbers a.inbound.heap.held ≡ held_numbers d.arrivals.inbound.heap.held ++ m.block ∷ [] =
    ap held_numbers held.3 ∙ map-append (λ (b : Block). b.number) d.arrivals.inbound.heap.held (held.0 ∷ [])
    ∙ ap (λ k. held_numbers d.arrivals.inbound.heap.held ++ k ∷ []) held.1 in (
      t.0,
      told-more life numbers back t.0 d a n h t.2
          (subst (λ ms. AreNoticesOf a.writer.heap ms n) (sym all)
          (subst (λ w. AreNoticesOf w (placed_messages_of life.fates ++ m ∷ []) n) (sym heap) told))
          (subst (λ xs. IsPermutation xs (held_numbers a.inbound.heap.held ++ back)) (sym blocks)
          (subst (λ xs. IsPermutation (message_blocks (placed_messages_of life.fates) ++ m.block ∷ []) (xs ++ back)) (sym news)
          (IsPermutation-trans (message_blocks (placed_messages_of life.fates) ++ m.block ∷ [])
          ((held_numbers d.arrivals.inbound.heap.held ++ back) ++ m.block ∷ [])
          ((held_numbers d.arrivals.inbound.heap.held ++ m.block ∷ []) ++ back)
          (IsPermutation-append (message_blocks (placed_messages_of life.fates))
          (held_numbers d.arrivals.inbound.heap.held ++ back) (m.block ∷ []) (m.block ∷ []) h.held
          (IsPermutation-refl (m.block ∷ [])))
          (unswapped (held_numbers d.arrivals.inbound.heap.held) back m.block)))) unclosed,
    )
  where
    as-told : (m : PlacedMessage) (kind method number addr block : ℕ) → kind ≡ m.kind → method ≡ m.method
        → number ≡ m.number → addr ≡ m.addr → block ≡ m.block → message kind method number addr block ≡ m
    as-told m kind method number addr block k o u a b =
        ap (λ x. message x method number addr block) k ∙ ap (λ x. message m.kind x number addr block) o
        ∙ ap (λ x. message m.kind m.method x addr block) u ∙ ap (λ x. message m.kind m.method m.number x block) a
        ∙ ap (λ x. message m.kind m.method m.number m.addr x) b

    unswapped : (xs ys : List ℕ) (x : ℕ) → IsPermutation ((xs ++ ys) ++ x ∷ []) ((xs ++ x ∷ []) ++ ys)
    unswapped xs ys x = subst (λ zs. IsPermutation zs ((xs ++ x ∷ []) ++ ys)) (sym (append_assoc xs ys (x ∷ [])))
        (subst (IsPermutation (xs ++ (ys ++ x ∷ []))) (sym (append_assoc xs (x ∷ []) ys))
        (IsPermutation-append xs xs (ys ++ x ∷ []) (x ∷ ys) (IsPermutation-refl xs)
        (IsPermutation-append_comm ys (x ∷ []))))

-- later states have handled at least as many frames
pub ended-later : (life : ReceiverTrace) (numbers back : List ℕ) (more : List Fated) (d e : Deliveries)
    → HaveDelivered life numbers back d → HaveDelivered (after_fates life more) numbers back e
    → e.arrivals.stream ≡ d.arrivals.stream → IsCountedAsEnded d.arrivals → IsCountedAsEnded e.arrivals
ended-later life numbers back more d e h k stream (inl ended) = inl (λ unclosed. ended (sym stream ∙ unclosed))
ended-later life numbers back more d e h k stream (inr most) =
    let old = as-many life d.arrivals h.lived in
    let new = as-many (after_fates life more) e.arrivals k.lived in
    let long : length (life.fates ++ more) ≡ length life.fates + length more = length-append life.fates more in
    inr (omega (arith, old, new, long, most))

-- ---- notices

pub open-later : (old new : Notices) → AreStillOpen old new → (IsClosing old → ⊥) → IsClosing new → ⊥
open-later old new stay unclosed (inl notices) = unclosed (inl (stay.notices notices))
open-later old new stay unclosed (inr blocks) = unclosed (inr (stay.numbers blocks))

-- the placed messages stay, and the application was sent more notices
pub told-on : (life : ReceiverTrace) (numbers back : List ℕ) (d : Deliveries) (n : Notices) → HaveDelivered life numbers back d
    → AreNoticesOf d.arrivals.writer.heap (placed_messages_of life.fates) n
    → (IsClosing n → HaveEnded (record d { notices = n }))
    → HaveDelivered life numbers back (record d { notices = n })
told-on life numbers back d n h told closed = record {
  lived = h.lived;
  told = told;
  returned = h.returned;
  held = h.held;
  programmed = h.programmed;
  closed = closed;
}

-- ---- the link fails at a send

pub stopped : (life : ReceiverTrace) (numbers back : List ℕ) (d : Deliveries) → d.arrivals.stream ≡ Open
    → HaveDelivered life numbers back d
    → HaveDelivered life numbers back (record d { arrivals = record d.arrivals { stream = Failed } })
stopped life numbers back d is h =
    let lived = h.lived in record {
      lived = record {
        valid = lived.valid;
        lives = lived.lives;
        told = lived.told;
        judged = lived.judged;
        stored = lived.stored;
        words = lived.words;
        most = lived.most;
        uncut = λ no. lived.uncut (λ cut. absurd (let wrong : Open ≡ Cut = sym is ∙ cut in cc));
        cut = λ cut. absurd (let wrong : Failed ≡ Cut = cut in cc);
        first = lived.first;
        few = lived.few;
      };
      told = h.told;
      returned = h.returned;
      held = h.held;
      programmed = h.programmed;
      closed = λ closing. record {
        all = inl refl;
        waiting = (h.closed closing).waiting;
        owed = (h.closed closing).owed;
      };
    }

-- ---- a round

-- the deliveries after each part of a round, with the effect of each part
pub gone : (life : ReceiverTrace) (numbers back more gained : List ℕ) (fates : List Fated) (given given' : Option (List ℕ))
    (mid new : Deliveries) (r : HaveAdvanced life (numbers ++ more) (back ++ gained) given given' mid)
    → HaveDelivered (after_fates r.later fates) ((numbers ++ more) ++ r.more) ((back ++ gained) ++ r.gained) new
    → HaveAdvanced life numbers back given given' new
gone life numbers back more gained fates given given' mid new r h = record {
  piece = r.piece;
  later = after_fates r.later fates;
  more = more ++ r.more;
  gained = gained ++ r.gained;
  came = r.came;
  lives = record {
    more = r.lives.more ++ fates;
    stream = r.lives.stream;
    hello = r.lives.hello;
    fates = ap (λ fs. fs ++ fates) r.lives.fates ∙ append_assoc life.fates r.lives.more fates;
  };
  delivered = subst (λ xs. HaveDelivered (after_fates r.later fates) xs (back ++ (gained ++ r.gained)) new)
      (append_assoc numbers more r.more)
      (subst (λ xs. HaveDelivered (after_fates r.later fates) ((numbers ++ more) ++ r.more) xs new)
      (append_assoc back gained r.gained) h);
}

-- the link failed exactly if its stream counts as failed now, given streams that are equal before and after
pub cause-as : (x w y z : StreamState) (m n : ℕ) → x ≡ w → z ≡ y → HasCause ((x ≢ Failed) × (y ≡ Failed)) m n
    → HasCause ((w ≢ Failed) × (z ≡ Failed)) m n
cause-as x w y z m n before after h =
    subst (λ v. HasCause ((v ≢ Failed) × (z ≡ Failed)) m n) before
    (subst (λ v. HasCause ((x ≢ Failed) × (v ≡ Failed)) m n) (sym after) h)
