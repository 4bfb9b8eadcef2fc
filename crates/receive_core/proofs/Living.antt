-- How the trace of a receiver is extended.
use Rattle.std.proofs.Common.{◌≡◌, ℕ, ◌+◌, ◌*◌, ◌-◌, ◌<◌, ◌≤◌, List, [], ◌∷◌, ◌++◌, length, Option, Some, None}
use Rattle.std.proofs.Common.{Result, Ok, Err, inl, inr, refl, sym, ap, subst, ◌∙◌, arith, append_assoc, append-nil}
use Rattle.std.proofs.Common.{length-append, get_or}
use Rattle.std.specs.Prelude.{All, map, ◌⊎◌, OnOk, IfErr, IfOk, OnErr}
use Rattle.std.specs.List.{flat_map}
use Rattle.std.proofs.lemmas.List.Elements.{All-nil, All-head, All-tail, All-push, All-append, All-from_get_or}
use Rattle.mrpc_table.specs.Node.{Node}
use Rattle.mrpc_table.specs.declared.memory.Memory.{Memory}
use Rattle.mrpc_table.specs.declared.table.Table.{Table}
use Rattle.frame_transport.specs.Feed.{FeedState, total_fed, IsNextFrame, IsFedBy, HasStoppedAt}
use Rattle.frame_transport.specs.Frames.{IsFrame, IsPartial, IsFaultAt, HasHeaderFault, IsSplitOf, HasFaultSoFar, IsFaultStable, IsSplitUnique, IsFaultUnique, IsPartialBounded, AreConsecutiveFrom, bytes_of_frame, concat_frames}
use Rattle.frame_transport.specs.declared.format.Frame.{Frame}
use Rattle.frame_transport.specs.declared.fault.FeedFault.{FeedFault}
use Rattle.frame_transport.specs.declared.fault.FeedFault.TheVariants.{Memory as NoMemory}
use Rattle.policy_access.specs.Verdict.{AccessPolicy}
use Rattle.receive_heap.specs.Layout.{Layout, IsPartitioned}
use Rattle.receive_core.specs.Fates.{arrives, IsFate, is_hello, has_no_method, is_faulty, is_denied, is_too_large, arrived, message_of_frame, block_words}
use Rattle.receive_core.specs.Order.{HasTaken, without_fault, after_fault}
use Rattle.receive_core.specs.Turns.{ReceiverState, IsReady, IsTurnOf, HasStayed}
use Rattle.receive_core.specs.ReceiverTraces.{Fated, was_dropped, was_placed, frame_of_fate, stores_of_fate, HasArrived, HasItsFate}
use Rattle.receive_core.specs.ReceiverTraces.{HasFrames, ReceiverTrace, hello_in, taken_frames, IsTraceOf, empty_trace, after_piece, after_hello, after_fates, IsAnswerFor}
use Rattle.receive_core.specs.ReceiverTraces.{IsEachFrameTaken, IsStreamShort, AreStoresBounded}
use Rattle.receive_core.specs.declared.arrival.Arrival.{Arrival}
use Rattle.receive_core.specs.declared.arrival.Arrival.TheVariants.{None as NoFrame, Arrived, Dropped, Waiting}
use Rattle.receive_core.proofs.Firsts.{OneFrame, taken_total}
use Rattle.receive_core.proofs.Ordered.{JoinPlaces, JoinSizes, JoinSplits, begins_so, goes_on_so, stops_so, takes_so}

-- facts about frames and streams
pub record Known : Type 0 where
  pub stays : IsFaultStable
  pub once : IsSplitUnique
  pub ends : IsFaultUnique
  pub frame : OneFrame
  pub places : JoinPlaces
  pub sizes : JoinSizes
  pub splits : JoinSplits

from_zero : (n : ℕ) → n ≡ 0 + n
from_zero n = omega arith

-- ---- the taken frames and the kept bytes

-- the taken frames and those that wait are the whole frames of the stream
all_of : Known → (stream : List ℕ) (frames waiting : List Frame) (kept : FeedState) (fault : Option FeedFault)
    → HasTaken stream frames kept → HasFrames kept.place kept.bytes waiting fault → HasFrames 0 stream (frames ++ waiting) fault
all_of known stream frames waiting kept fault (without_fault each places whole place) r =
    let at : kept.place ≡ 0 + length (concat_frames frames) = place ∙ from_zero (length (concat_frames frames)) in
    let here = subst (λ (p : ℕ). IsSplitOf p kept.bytes waiting r.rest) at r.splits in
    let both = known.splits 0 frames waiting kept.bytes r.rest each places here in
    let size : kept.place + length (concat_frames waiting) ≡ 0 + length (concat_frames (frames ++ waiting)) = omega (arith, place, known.sizes frames waiting) in
    record {
      rest = r.rest;
      splits = subst (λ (bs : List ℕ). IsSplitOf 0 bs (frames ++ waiting) r.rest) (sym whole) both;
      first = subst (λ (p : ℕ). HasHeaderFault p r.rest fault) size r.first;
    }
all_of known stream frames waiting kept fault (after_fault later rest tail was split at all end) r =
    let same = known.once kept.place kept.bytes waiting later r.rest rest r.splits split in
    let one : fault ≡ Some was = known.ends kept.place kept.bytes fault (Some was)
    (record { frames = waiting; rest = r.rest; splits = r.splits; first = r.first }) (record { frames = later; rest = rest; splits = split; first = at }) in
    let list : frames ++ later ≡ frames ++ waiting = ap (λ (ws : List Frame). frames ++ ws) (sym same.0) in
    let here : HasHeaderFault (0 + length (concat_frames (frames ++ later))) tail (Some was) = subst (λ (p : ℕ). IsFaultAt p tail was) (from_zero (length (concat_frames (frames ++ later)))) end in
    record {
      rest = tail;
      splits = subst (λ (ws : List Frame). IsSplitOf 0 stream ws tail) list all;
      first = subst (λ (o : Option FeedFault). HasHeaderFault (0 + length (concat_frames (frames ++ waiting))) tail o) (sym one)
          (subst (λ (ws : List Frame). HasHeaderFault (0 + length (concat_frames ws)) tail (Some was)) list here);
    }

-- what is kept after a frame was taken
left_reads : OneFrame → (old : FeedState) (f : Frame) (new : FeedState) (fault : Option FeedFault) (waiting : List Frame) → HasFrames old.place old.bytes waiting fault → IsNextFrame old f new
    → (next : List Frame) × HasFrames new.place new.bytes next fault
left_reads once old f new fault [] r g = absurd (r.splits.partial f new.bytes g.frame (sym r.splits.whole ∙ g.first))
left_reads once old f new fault (h ∷ waiting) r g =
    let s = r.splits in
    let same = once f h new.bytes (concat_frames waiting ++ r.rest) g.frame (All-head IsFrame h waiting s.each)
    (sym g.first ∙ s.whole ∙ append_assoc (bytes_of_frame h) (concat_frames waiting) r.rest) (g.place ∙ sym s.places.0) in
    let place : old.place + length (bytes_of_frame h) ≡ new.place = ap (λ (k : Frame). old.place + length (bytes_of_frame k)) (sym same.0) ∙ sym g.left in
    let far : old.place + length (concat_frames (h ∷ waiting)) ≡ new.place + length (concat_frames waiting) = omega (arith, place, length-append (bytes_of_frame h) (concat_frames waiting)) in (
      waiting,
      record {
        rest = r.rest;
        splits = record { whole = same.1; each = All-tail IsFrame h waiting s.each; places = subst (λ (p : ℕ). AreConsecutiveFrom p waiting) place s.places.1; partial = s.partial };
        first = subst (λ (p : ℕ). HasHeaderFault p r.rest fault) far r.first;
      },
    )

-- ---- one step

pub begins : IsPartial [] → ((fault : FeedFault) → IsFaultAt 0 [] fault → ⊥) → (T : Table) (r : ReceiverState)
    → r.fed ≡ record { place = 0; bytes = []; behind = 0 } → IsPartitioned r.heap
    → r.heap.next ≡ 1 → IsReady T r → IsTraceOf T empty_trace r
begins nothing clean T r none sound next ready =
    let start : FeedState = record { place = 0; bytes = []; behind = 0 } in
    let first : HasFrames 0 [] [] None = record {
      rest = [];
      splits = record { whole = refl; each = All-nil IsFrame; places = tt; partial = nothing };
      first = clean;
    } in
    record {
      waiting = [];
      all = first;
      kept = subst (λ (k : FeedState). HasFrames k.place k.bytes [] None) (sym none) first;
      taken = subst (HasTaken [] []) (sym none) begins_so;
      counted = ap total_fed none;
      bytes = All-nil (λ (byte : ℕ). byte < 256);
      ready = ready;
      fates = All-nil (HasItsFate T r.conn r.heap.words);
      sound = sound;
      blocks = omega (arith, next);
    }

-- a receiver in which only the heap and the decoded call have changed
pub lives_still : (T : Table) (life : ReceiverTrace) (old new : ReceiverState) → IsTraceOf T life old → new.conn ≡ old.conn
    → new.fed ≡ old.fed → new.heap.words ≡ old.heap.words → new.heap.next ≡ old.heap.next
    → IsPartitioned new.heap → IsReady T new → IsTraceOf T life new
lives_still T life old new lives conn same words next sound ready = record {
  waiting = lives.waiting;
  all = lives.all;
  kept = subst (λ (k : FeedState). HasFrames k.place k.bytes lives.waiting life.fault) (sym same) lives.kept;
  taken = subst (HasTaken life.stream (taken_frames life)) (sym same) lives.taken;
  counted = ap total_fed same ∙ lives.counted;
  bytes = lives.bytes;
  ready = ready;
  fates = subst (λ (w : ℕ). All (HasItsFate T new.conn w) life.fates) (sym words)
      (subst (λ (n : ℕ). All (HasItsFate T n old.heap.words) life.fates) (sym conn) lives.fates);
  sound = sound;
  blocks = let before = lives.blocks in omega (arith, before, next);
}

-- bytes are below 256
are_bytes : (bs : List ℕ) → ((i : ℕ) → get_or bs i 0 < 256) → All (λ byte. byte < 256) bs
are_bytes bs h = All-from_get_or (λ (byte : ℕ). byte < 256) bs 0 (λ i lt. h i)

pub goes_well : Known → (T : Table) (life : ReceiverTrace) (old new : ReceiverState) (piece : List ℕ) → IsTraceOf T life old → ((i : ℕ) → get_or piece i 0 < 256)
    → IsFedBy old.fed piece new.fed → HasFaultSoFar old.fed.place (old.fed.bytes ++ piece) None → new.conn ≡ old.conn
    → new.heap ≡ old.heap → IsReady T new → IsTraceOf T (after_piece life piece None) new
goes_well known T life old new piece lives small on clean conn heap ready =
    let taken = goes_on_so known.stays known.ends life.stream (taken_frames life) old.fed piece new.fed lives.taken on clean in
    let kept : HasFrames new.fed.place new.fed.bytes clean.frames None = record {
      rest = clean.rest;
      splits = subst (λ (p : ℕ). IsSplitOf p new.fed.bytes clean.frames clean.rest) (sym on.place)
          (subst (λ (bs : List ℕ). IsSplitOf old.fed.place bs clean.frames clean.rest) (sym on.bytes) clean.splits);
      first = subst (λ (p : ℕ). HasHeaderFault (p + length (concat_frames clean.frames)) clean.rest None) (sym on.place) clean.first;
    } in
    let before = lives.counted in
    let blocks = lives.blocks in
    let next : new.heap.next ≡ old.heap.next = ap (λ (l : Layout). l.next) heap in
    record {
      waiting = clean.frames;
      all = all_of known (life.stream ++ piece) (taken_frames life) clean.frames new.fed None taken kept;
      kept = kept;
      taken = taken;
      counted = omega (arith, before, on.place, on.behind, ap length on.bytes, length-append old.fed.bytes piece, length-append life.stream piece);
      bytes = All-append (λ (byte : ℕ). byte < 256) life.stream piece lives.bytes (are_bytes piece small);
      ready = ready;
      fates = subst (λ (l : Layout). All (HasItsFate T new.conn l.words) life.fates) (sym heap)
          (subst (λ (n : ℕ). All (HasItsFate T n old.heap.words) life.fates) (sym conn) lives.fates);
      sound = subst IsPartitioned (sym heap) lives.sound;
      blocks = omega (arith, blocks, next);
    }

pub goes_wrong : Known → (T : Table) (life : ReceiverTrace) (old new : ReceiverState) (piece : List ℕ) (fault : FeedFault) → IsTraceOf T life old → ((i : ℕ) → get_or piece i 0 < 256)
    → HasStoppedAt old.fed piece fault new.fed → new.conn ≡ old.conn → new.heap ≡ old.heap → IsReady T new → IsTraceOf T (after_piece life piece (Some fault)) new
goes_wrong known T life old new piece fault lives small stop conn heap ready =
    let taken = stops_so known.stays known.once known.ends known.sizes known.splits life.stream (taken_frames life) old.fed piece fault new.fed lives.taken stop in
    let end = stop.kept in
    let kept : HasFrames new.fed.place new.fed.bytes end.frames (Some fault) = record {
      rest = end.rest;
      splits = subst (λ (p : ℕ). IsSplitOf p new.fed.bytes end.frames end.rest) (sym stop.place) end.splits;
      first = subst (λ (p : ℕ). HasHeaderFault (p + length (concat_frames end.frames)) end.rest (Some fault)) (sym stop.place) end.first;
    } in
    let before = lives.counted in
    let blocks = lives.blocks in
    let next : new.heap.next ≡ old.heap.next = ap (λ (l : Layout). l.next) heap in
    record {
      waiting = end.frames;
      all = all_of known (life.stream ++ piece) (taken_frames life) end.frames new.fed (Some fault) taken kept;
      kept = kept;
      taken = taken;
      counted = omega (
        arith,
        before,
        stop.place,
        stop.behind,
        ap length stop.stream,
        length-append old.fed.bytes piece,
        length-append new.fed.bytes stop.dropped,
        length-append life.stream piece,
      );
      bytes = All-append (λ (byte : ℕ). byte < 256) life.stream piece lives.bytes (are_bytes piece small);
      ready = ready;
      fates = subst (λ (l : Layout). All (HasItsFate T new.conn l.words) life.fates) (sym heap)
          (subst (λ (n : ℕ). All (HasItsFate T n old.heap.words) life.fates) (sym conn) lives.fates);
      sound = subst IsPartitioned (sym heap) lives.sound;
      blocks = omega (arith, blocks, next);
    }

-- the first frame was taken, and comes after the others that were taken
gives_on : Known → (T : Table) (life next : ReceiverTrace) (old new : ReceiverState) (f : Frame) → IsTraceOf T life old → IsNextFrame old.fed f new.fed
    → next.stream ≡ life.stream → next.fault ≡ life.fault → taken_frames life ++ f ∷ [] ≡ taken_frames next
    → All (HasItsFate T new.conn new.heap.words) next.fates → IsPartitioned new.heap → new.heap.next ≤ length next.fates + 1 → IsReady T new → IsTraceOf T next new
gives_on known T life next old new f lives gives stream fault frames fates sound blocks ready =
    let one = takes_so known.frame known.places life.stream (taken_frames life) old.fed f new.fed lives.taken gives in
    let taken : HasTaken next.stream (taken_frames next) new.fed = subst (λ (bs : List ℕ). HasTaken bs (taken_frames next) new.fed) (sym stream)
    (subst (λ (fs : List Frame). HasTaken life.stream fs new.fed) frames one) in
    let left = left_reads known.frame old.fed f new.fed life.fault lives.waiting lives.kept gives in
    let kept : HasFrames new.fed.place new.fed.bytes left.0 next.fault = subst (λ (o : Option FeedFault). HasFrames new.fed.place new.fed.bytes left.0 o) (sym fault) left.1 in
    record {
      waiting = left.0;
      all = all_of known next.stream (taken_frames next) left.0 new.fed next.fault taken kept;
      kept = kept;
      taken = taken;
      counted = taken_total old.fed f new.fed gives ∙ lives.counted ∙ ap length (sym stream);
      bytes = subst (λ (bs : List ℕ). All (λ byte. byte < 256) bs) (sym stream) lives.bytes;
      ready = ready;
      fates = fates;
      sound = sound;
      blocks = blocks;
    }

map_push : (fates : List Fated) (m : Fated) → map frame_of_fate (fates ++ m ∷ []) ≡ map frame_of_fate fates ++ frame_of_fate m ∷ []
map_push [] m = refl
map_push (n ∷ fates) m = ap (λ (fs : List Frame). frame_of_fate n ∷ fs) (map_push fates m)

one_more : (life : ReceiverTrace) (m : Fated) → taken_frames life ++ frame_of_fate m ∷ [] ≡ taken_frames (after_fates life (m ∷ []))
one_more life m =
    append_assoc (hello_in life.hello) (map frame_of_fate life.fates) (frame_of_fate m ∷ []) ∙ ap (λ (fs : List Frame). hello_in life.hello ++ fs) (sym (map_push life.fates m))

pub greets : Known → (T : Table) (life : ReceiverTrace) (old new : ReceiverState) (f : Frame) → IsTraceOf T life old → life.hello ≡ None → life.fates ≡ [] → IsNextFrame old.fed f new.fed
    → new.conn ≡ old.conn → new.heap ≡ old.heap → IsReady T new → IsTraceOf T (after_hello life f) new
greets known T life old new f lives no_hello none gives conn heap ready =
    let frames : taken_frames life ++ f ∷ [] ≡ taken_frames (after_hello life f) =
    (λ i. (hello_in (no_hello i) ++ map frame_of_fate (none i)) ++ f ∷ []) ∙ (λ i. (f ∷ []) ++ map frame_of_fate (sym none i)) in
    let before = lives.blocks in
    let next : new.heap.next ≡ old.heap.next = ap (λ (l : Layout). l.next) heap in
    gives_on known T life (after_hello life f) old new f lives gives refl refl frames
    (subst (λ (l : Layout). All (HasItsFate T new.conn l.words) life.fates) (sym heap) (subst (λ (n : ℕ). All (HasItsFate T n old.heap.words) life.fates) (sym conn) lives.fates))
    (subst IsPartitioned (sym heap) lives.sound) (omega (arith, before, next)) ready

fates_on : Known → (T : Table) (life : ReceiverTrace) (old new : ReceiverState) (m : Fated) → IsTraceOf T life old → IsNextFrame old.fed (frame_of_fate m) new.fed
    → new.conn ≡ old.conn → new.heap.words ≡ old.heap.words → new.heap.next ≤ old.heap.next + 1 → IsPartitioned new.heap → IsReady T new → HasItsFate T old.conn old.heap.words m
    → IsTraceOf T (after_fates life (m ∷ [])) new
fates_on known T life old new m lives gives conn words next sound ready fate =
    let all = All-push (HasItsFate T old.conn old.heap.words) life.fates m lives.fates fate in
    let before = lives.blocks in
    gives_on known T life (after_fates life (m ∷ [])) old new (frame_of_fate m) lives gives refl refl (one_more life m)
    (subst (λ (w : ℕ). All (HasItsFate T new.conn w) (life.fates ++ m ∷ [])) (sym words)
    (subst (λ (n : ℕ). All (HasItsFate T n old.heap.words) (life.fates ++ m ∷ [])) (sym conn) all))
    sound (omega (arith, before, next, length-append life.fates (m ∷ []))) ready

-- ---- a turn

-- a message that arrives has a block within the heap
small_block : (T : Table) (policy : Option AccessPolicy) (conn words : ℕ) (f : Frame) (t : Node)
    → IsFate T policy conn words f (arrives t) → block_words T (message_of_frame T f) t ≤ words - 1
small_block T policy conn words f t (is_hello kind wrong) = absurd cc
small_block T policy conn words f t (has_no_method kind method wrong) = absurd cc
small_block T policy conn words f t (is_faulty call reason place fault wrong) = absurd cc
small_block T policy conn words f t (is_denied call u means p some denied wrong) = absurd cc
small_block T policy conn words f t (is_too_large call u means allows large wrong) = absurd cc
small_block T policy conn words f t (arrived call u means allows fits is) =
    let same : t ≡ u = cc in
    subst (λ (v : Node). block_words T (message_of_frame T f) v ≤ words - 1) (sym same) fits

no_more : (life : ReceiverTrace) → life ≡ after_fates life []
no_more life = λ i. record { stream = life.stream; fault = life.fault; hello = life.hello; fates = sym (append-nil life.fates) i }

-- what a turn adds to a trace
abbrev pub Adds : Table → Option AccessPolicy → ReceiverTrace → ReceiverState → List (ℕ × ℕ) → List (ℕ × ℕ) → Arrival → Type 0
Adds T policy life new stores after a = (more : List Fated) × IsAnswerFor policy a more × (after ≡ stores ++ flat_map stores_of_fate more) × IsTraceOf T (after_fates life more) new

nothing_stored : (stores after : List (ℕ × ℕ)) → after ≡ stores → after ≡ stores ++ flat_map stores_of_fate []
nothing_stored stores after same = same ∙ sym (append-nil stores)

pub turn_adds : Known
    → (T : Table) (policy : Option AccessPolicy) (life : ReceiverTrace) (old new : ReceiverState) (stores after : List (ℕ × ℕ))
    (a : Arrival) → IsTraceOf T life old → new.conn ≡ old.conn
    → new.heap.words ≡ old.heap.words → IsPartitioned new.heap → IsReady T new → IsTurnOf T policy old new stores after a → Adds T policy life new stores after a
turn_adds known T policy life old new stores after NoFrame lives conn words sound ready t =
    ([], refl, nothing_stored stores after t.2, subst (λ (l : ReceiverTrace). IsTraceOf T l new) (no_more life) (subst (IsTraceOf T life) (sym t.1) lives))
turn_adds known T policy life old new stores after (Waiting need largest) lives conn words sound ready t =
    let same = lives_still T life old new lives conn t.0.stays words (ap (λ (l : Layout). l.next) t.0.heap) sound ready in
    ([], refl, nothing_stored stores after t.1, subst (λ (l : ReceiverTrace). IsTraceOf T l new) (no_more life) same)
turn_adds known T policy life old new stores after (Dropped kind method number why) lives conn words sound ready t =
    let m : Fated = was_dropped t.0.frame policy why in
    let next : new.heap.next ≤ old.heap.next + 1 = (let same : new.heap.next ≡ old.heap.next = ap (λ (l : Layout). l.next) t.0.heap in omega (arith, same)) in (
      m ∷ [],
      (t.0.frame, t.0.says, refl),
      t.1 ∙ sym (append-nil stores),
      fates_on known T life old new m lives t.0.taken conn words next sound ready t.0.fate,
    )
turn_adds known T policy life old new stores after (Arrived kind method number block tree) lives conn words sound ready t =
    let placed = t.placed in
    let m : Fated = was_placed t.frame policy tree block placed.placed in
    let next : new.heap.next ≤ old.heap.next + 1 = (let one = placed.next in omega (arith, one)) in
    let small = small_block T policy old.conn old.heap.words t.frame tree t.fate in
    let size = placed.words in
    let arrives : HasArrived T policy old.conn old.heap.words t.frame tree block placed.placed = record {
      fate = t.fate;
      normal = t.normal;
      stands = placed.stands;
      inside = omega (arith, small, size);
    } in (
      m ∷ [],
      (t.frame, t.says, placed.placed, refl),
      placed.stored ∙ ap (λ (ws : List (ℕ × ℕ)). stores ++ ws) (sym (append-nil placed.placed.words)),
      fates_on known T life old new m lives t.taken conn words next sound ready arrives,
    )

pub ok_adds : Known
    → (T : Table) (policy : Option AccessPolicy) (life : ReceiverTrace) (old new : ReceiverState) (stores after : List (ℕ × ℕ))
    (r : Result Arrival Memory) → IsTraceOf T life old → new.conn ≡ old.conn
    → new.heap.words ≡ old.heap.words → IsPartitioned new.heap → IsReady T new → IfOk r (IsTurnOf T policy old new stores after) → IfOk r (Adds T policy life new stores after)
ok_adds known T policy life old new stores after (Ok a) lives conn words sound ready t = turn_adds known T policy life old new stores after a lives conn words sound ready t
ok_adds known T policy life old new stores after (Err e) lives conn words sound ready t = tt

pub err_stays : (T : Table) (life : ReceiverTrace) (old new : ReceiverState) (r : Result Arrival Memory) → IsTraceOf T life old
    → IsReady T new → OnErr r (HasStayed old new) → OnErr r (IsTraceOf T life new)
err_stays T life old new (Ok a) lives ready stays = tt
err_stays T life old new (Err e) lives ready stays =
    lives_still T life old new lives stays.conn stays.fed (ap (λ (l : Layout). l.words) stays.heap)
    (ap (λ (l : Layout). l.next) stays.heap) (subst IsPartitioned (sym stays.heap) lives.sound) ready

-- how many stores a turn makes
stores_of_turn : (T : Table) (policy : Option AccessPolicy) (old new : ReceiverState) (stores after : List (ℕ × ℕ)) (a : Arrival) → IsTurnOf T policy old new stores after a
    → length after ≤ length stores + (old.heap.words - 1)
stores_of_turn T policy old new stores after NoFrame t = (let same : length after ≡ length stores = ap length t.2 in omega (arith, same))
stores_of_turn T policy old new stores after (Waiting need largest) t = (let same : length after ≡ length stores = ap length t.1 in omega (arith, same))
stores_of_turn T policy old new stores after (Dropped kind method number why) t = (let same : length after ≡ length stores = ap length t.1 in omega (arith, same))
stores_of_turn T policy old new stores after (Arrived kind method number block tree) t =
    let placed = t.placed in
    let small = small_block T policy old.conn old.heap.words t.frame tree t.fate in
    let size = placed.words in
    let few = placed.stands.few in
    let long : length after ≡ length stores + length placed.placed.words = ap length placed.stored ∙ length-append stores placed.placed.words in
    omega (arith, small, size, few, long)

pub few_stores : (T : Table) (policy : Option AccessPolicy) (old new : ReceiverState) (stores after : List (ℕ × ℕ))
    (r : Result Arrival Memory) → IfOk r (IsTurnOf T policy old new stores after)
    → OnErr r (after ≡ stores) → length after ≤ length stores + (old.heap.words - 1)
few_stores T policy old new stores after (Ok a) t none = stores_of_turn T policy old new stores after a t
few_stores T policy old new stores after (Err e) t none = (let same : length after ≡ length stores = ap length none in omega (arith, same))

-- ---- a piece

pub piece_life : Known
    → (T : Table) (life : ReceiverTrace) (old new : ReceiverState) (piece : List ℕ) (r : Result (Unit {0}) FeedFault)
    → IsTraceOf T life old → ((i : ℕ) → get_or piece i 0 < 256)
    → OnOk r (IsFedBy old.fed piece new.fed) → OnOk r (HasFaultSoFar old.fed.place (old.fed.bytes ++ piece) None) → new.conn ≡ old.conn → new.heap ≡ old.heap → IsReady T new
    → OnOk r (IsTraceOf T (after_piece life piece None) new)
piece_life known T life old new piece (Ok u) lives small on clean conn heap ready = goes_well known T life old new piece lives small on clean conn heap ready
piece_life known T life old new piece (Err e) lives small on clean conn heap ready = tt

pub fault_life : Known
    → (T : Table) (life : ReceiverTrace) (old new : ReceiverState) (piece : List ℕ) (r : Result (Unit {0}) FeedFault)
    → IsTraceOf T life old → ((i : ℕ) → get_or piece i 0 < 256)
    → IfErr r (λ fault. (fault ≡ NoMemory) ⊎ HasStoppedAt old.fed piece fault new.fed) → new.conn ≡ old.conn → new.heap ≡ old.heap → IsReady T new
    → IfErr r (λ fault. (fault ≡ NoMemory) ⊎ IsTraceOf T (after_piece life piece (Some fault)) new)
fault_life known T life old new piece (Ok u) lives small stops conn heap ready = tt
fault_life known T life old new piece (Err fault) lives small (inl none) conn heap ready = inl none
fault_life known T life old new piece (Err fault) lives small (inr stop) conn heap ready = inr (goes_wrong known T life old new piece fault lives small stop conn heap ready)

-- ---- laws of traces

none_wait : (place : ℕ) (bytes : List ℕ) (waiting : List Frame) (fault : Option FeedFault) → HasFrames place bytes waiting fault → IsPartial bytes → waiting ≡ []
none_wait place bytes [] fault r partial = refl
none_wait place bytes (f ∷ waiting) fault r partial =
    absurd (partial f (concat_frames waiting ++ r.rest) (All-head IsFrame f waiting r.splits.each) (r.splits.whole ∙ append_assoc (bytes_of_frame f) (concat_frames waiting) r.rest))

pub takes_each : IsEachFrameTaken
takes_each T life r lives partial =
    let none = none_wait r.fed.place r.fed.bytes lives.waiting life.fault lives.kept partial in
    subst (λ (fs : List Frame). HasFrames 0 life.stream fs life.fault) (append-nil (taken_frames life))
    (subst (λ (ws : List Frame). HasFrames 0 life.stream (taken_frames life ++ ws) life.fault) none lives.all)

-- the size of frames
abbrev pub FrameSize : Type 0
FrameSize = (f : Frame) → length (bytes_of_frame f) ≡ 16 + length f.payload

frames_short : FrameSize → (frames : List Frame) → All IsFrame frames → length (concat_frames frames) ≤ length frames * 262160
frames_short size [] each = omega arith
frames_short size (f ∷ frames) each =
    let rest = frames_short size frames (All-tail IsFrame f frames each) in
    let one = size f in
    let short = (All-head IsFrame f frames each).short in
    omega (arith, rest, one, short, length-append (bytes_of_frame f) (concat_frames frames))

all_behind : (P : ℕ → Type 0) (xs ys : List ℕ) → All P (xs ++ ys) → All P ys
all_behind P [] ys all = all
all_behind P (x ∷ xs) ys all = all_behind P xs ys (All-tail P x (xs ++ ys) all)

fates_many : (fates : List Fated) → length (map frame_of_fate fates) ≡ length fates
fates_many [] = refl
fates_many (m ∷ fates) = let rest = fates_many fates in omega (arith, rest)

frames_few : (hello : Option Frame) (fates : List Fated) → length (hello_in hello ++ map frame_of_fate fates) ≤ length fates + 1
frames_few None fates = let many = fates_many fates in omega (arith, many)
frames_few (Some f) fates = let many = fates_many fates in omega (arith, many)

pub stream_is_short : FrameSize → IsPartialBounded → IsStreamShort
stream_is_short size short T life r lives partial none =
    let read = takes_each T life r lives partial in
    let frames = frames_short size (taken_frames life) read.splits.each in
    let rest = short (0 + length (concat_frames (taken_frames life))) read.rest
    (all_behind (λ (byte : ℕ). byte < 256) (concat_frames (taken_frames life)) read.rest (subst (λ (bs : List ℕ). All (λ byte. byte < 256) bs) read.splits.whole lives.bytes))
    read.splits.partial (subst (λ (o : Option FeedFault). HasHeaderFault (0 + length (concat_frames (taken_frames life))) read.rest o) none read.first) in
    let whole : length life.stream ≡ length (concat_frames (taken_frames life)) + length read.rest = ap length read.splits.whole ∙ length-append (concat_frames (taken_frames life)) read.rest in
    let count = frames_few life.hello life.fates in
    omega (arith, frames, rest, whole, count)

few_each : (T : Table) (conn words : ℕ) (m : Fated) → HasItsFate T conn words m → length (stores_of_fate m) ≤ words - 1
few_each T conn words (was_dropped f policy why) fate = omega arith
few_each T conn words (was_placed f policy t block placed) fate = (let few = fate.stands.few in let inside = fate.inside in omega (arith, few, inside))

few_all : (T : Table) (conn words most : ℕ) (fates : List Fated) → most ≡ words - 1
    → All (HasItsFate T conn words) fates → length (flat_map stores_of_fate fates) ≤ length fates * most
few_all T conn words most [] is all = omega arith
few_all T conn words most (m ∷ fates) is all =
    let rest = few_all T conn words most fates is (All-tail (HasItsFate T conn words) m fates all) in
    let one = few_each T conn words m (All-head (HasItsFate T conn words) m fates all) in
    omega (arith, rest, one, is, length-append (stores_of_fate m) (flat_map stores_of_fate fates))

pub stores_are_few : AreStoresBounded
stores_are_few T life r lives = few_all T r.conn r.heap.words (r.heap.words - 1) life.fates refl lives.fates
