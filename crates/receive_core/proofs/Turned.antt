-- From the verdict on a frame's call to the result of a turn.
use Rattle.std.proofs.Common.{◌≡◌, ℕ, ◌<◌, ◌≤◌, List, false, Option, Some, None, Result, Ok, Err, refl, sym, ap, subst, ◌∙◌, arith, ⊎_elim}
use Rattle.std.specs.Prelude.{All, IfOk}
use Rattle.mrpc_table.specs.Node.{Node}
use Rattle.mrpc_table.specs.Normal.{IsNormal}
use Rattle.mrpc_table.specs.declared.memory.Memory.{Memory}
use Rattle.mrpc_table.specs.declared.table.Table.{Table}
use Rattle.frame_transport.specs.Feed.{FeedState, IsNextFrame}
use Rattle.frame_transport.specs.Frames.{IsPartial}
use Rattle.frame_transport.specs.declared.format.Frame.{Frame}
use Rattle.policy_access.specs.Verdict.{AccessPolicy, verdict}
use Rattle.mrpc_table.specs.declared.call.Call.{Call}
use Rattle.receive_heap.specs.Layout.{Layout, IsLargest}
use Rattle.receive_core.specs.Fates.{Fate, drops, arrives, IsFate, is_denied, is_too_large, arrived, IsCallAllowed, message_of_frame, block_words}
use Rattle.receive_core.specs.Decoding.{IsDecodedCall, IsRefusal}
use Rattle.receive_core.specs.Turns.{ReceiverState, IsFirstFrame, IsMessagePlaced, IsTurnOf, IsCallPlaced, HasStayed}
use Rattle.receive_core.specs.declared.arrival.Arrival.{Arrival}
use Rattle.receive_core.specs.declared.arrival.Arrival.TheVariants.{None as NoFrame, Arrived, Dropped, Waiting}
use Rattle.receive_core.specs.declared.arrival.DropCause.{DropCause}
use Rattle.receive_core.specs.declared.arrival.DropCause.TheVariants.{Denied, Oversize}
use Rattle.receive_core.specs.declared.decoded.DecodedCall.{DecodedCall}
use Rattle.receive_core.proofs.Taken.{uncapped}

-- ---- fates

-- a refused call is dropped for that cause
pub refused_fate : (T : Table) (policy : Option AccessPolicy) (conn words : ℕ) (f : Frame) (o : DecodedCall) (why : DropCause) → 1 ≤ words → words ≤ 65536
    → IsDecodedCall T conn f o → IsRefusal policy words o (Some why) → IsFate T policy conn words f (drops why)
refused_fate T policy conn words f o why some small is refusal =
    ⊎_elim
    (λ denied. is_denied is.is_call o.call.tree is.means denied.0 denied.1
    (subst (λ (c : Call). (verdict denied.0 c).allow ≡ false) is.call denied.2)
    (ap drops (denied.3 ∙ ap (λ (c : Call). Denied (verdict denied.0 c).rule) is.call)))
    (λ large. is_too_large is.is_call o.call.tree is.means (subst (IsCallAllowed policy) is.call large.0)
    (omega (arith, large.1, is.words))
    (ap drops (large.2 ∙ ap (λ (n : ℕ). Oversize n words) is.words)))
    refusal

-- and a call that isn't refused arrives
pub allowed_fate : (T : Table) (policy : Option AccessPolicy) (conn words : ℕ) (f : Frame) (o : DecodedCall) → words ≤ 65536
    → IsDecodedCall T conn f o → IsRefusal policy words o None → IsFate T policy conn words f (arrives o.call.tree)
allowed_fate T policy conn words f o small is allowed =
    arrived is.is_call o.call.tree is.means (subst (IsCallAllowed policy) is.call allowed.0)
    (omega (arith, allowed.1, small, uncapped (block_words T (message_of_frame T f) o.call.tree) o.words is.words (omega (arith, allowed.1, small)))) refl

-- ---- turns

pub dropped_turns : (T : Table) (policy : Option AccessPolicy) (old new : ReceiverState) (stores : List (ℕ × ℕ)) (f : Frame) (why : DropCause) (a : Arrival)
    → IsFate T policy old.conn old.heap.words f (drops why) → IsNextFrame old.fed f new.fed → new.heap ≡ old.heap
    → a ≡ Dropped f.kind f.method f.number why → IsTurnOf T policy old new stores stores a
dropped_turns T policy old new stores f why a fate taken heap is =
    subst (IsTurnOf T policy old new stores stores) (sym is)
    (record { frame = f; taken = taken; says = (refl, refl, refl); fate = fate; heap = heap }, refl)

pub waiting_turns : (T : Table) (policy : Option AccessPolicy) (old new : ReceiverState) (stores : List (ℕ × ℕ)) (f : Frame) (o : DecodedCall) (largest : ℕ) (a : Arrival)
    → old.heap.words ≤ 65536 → IsFirstFrame old.fed f → IsDecodedCall T old.conn f o → IsRefusal policy old.heap.words o None
    → All (λ hole. hole.words < o.words) old.heap.holes → IsLargest old.heap.holes largest → HasStayed old new
    → a ≡ Waiting o.words largest → IsTurnOf T policy old new stores stores a
waiting_turns T policy old new stores f o largest a small first is allowed none most stays says =
    subst (IsTurnOf T policy old new stores stores) (sym says) (
      record {
        frame = f;
        first = first;
        tree = o.call.tree;
        fate = allowed_fate T policy old.conn old.heap.words f o small is allowed;
        words = uncapped (block_words T (message_of_frame T f) o.call.tree) o.words is.words (omega (arith, allowed.1, small));
        no_hole = none;
        hole = most;
        stays = stays.fed;
        heap = stays.heap;
      },
      refl,
    )

pub taken_turns : (T : Table) (policy : Option AccessPolicy) (old new : ReceiverState) (stores after : List (ℕ × ℕ)) (f : Frame) (o : DecodedCall) (a : Arrival)
    → IsFate T policy old.conn old.heap.words f (arrives o.call.tree) → IsNormal T (message_of_frame T f) o.call.tree → IsCallPlaced T old new f o stores after a
    → IsTurnOf T policy old new stores after a
taken_turns T policy old new stores after f o NoFrame fate normal takes = absurd takes
taken_turns T policy old new stores after f o (Dropped kind method number why) fate normal takes = absurd takes
taken_turns T policy old new stores after f o (Waiting need largest) fate normal takes = absurd takes
taken_turns T policy old new stores after f o (Arrived kind method number block tree) fate normal takes = record {
  frame = f;
  taken = takes.0;
  says = takes.1;
  fate = subst (λ (t : Node). IsFate T policy old.conn old.heap.words f (arrives t)) (sym takes.2) fate;
  normal = subst (IsNormal T (message_of_frame T f)) (sym takes.2) normal;
  placed = takes.3;
}

-- what holds of each frame that was placed
pub ok_taken : (T : Table) (policy : Option AccessPolicy) (old new : ReceiverState) (stores after : List (ℕ × ℕ)) (f : Frame) (o : DecodedCall) (r : Result Arrival Memory)
    → old.heap.words ≤ 65536 → IsFirstFrame old.fed f → IsDecodedCall T old.conn f o → IsRefusal policy old.heap.words o None
    → IfOk r (λ a. (g : Frame) → IsFirstFrame old.fed g → IsDecodedCall T old.conn g o → IsCallPlaced T old new g o stores after a)
    → IfOk r (IsTurnOf T policy old new stores after)
ok_taken T policy old new stores after f o (Ok a) small first is allowed takes =
    taken_turns T policy old new stores after f o a (allowed_fate T policy old.conn old.heap.words f o small is allowed) is.normal (takes f first is)
ok_taken T policy old new stores after f o (Err e) small first is allowed takes = tt

-- ---- a turn doesn't depend on whether the first frame was decoded before

fate_from : (T : Table) (policy : Option AccessPolicy) (old mid : ReceiverState) (f : Frame) (fate : Fate) → HasStayed old mid
    → IsFate T policy mid.conn mid.heap.words f fate → IsFate T policy old.conn old.heap.words f fate
fate_from T policy old mid f fate stays is =
    subst (λ (h : Layout). IsFate T policy old.conn h.words f fate) stays.heap
    (subst (λ (conn : ℕ). IsFate T policy conn mid.heap.words f fate) stays.conn is)

turns_from : (T : Table) (policy : Option AccessPolicy) (old mid new : ReceiverState) (stores after : List (ℕ × ℕ)) (f : Frame) (a : Arrival)
    → HasStayed old mid → IsFirstFrame old.fed f → IsTurnOf T policy mid new stores after a → IsTurnOf T policy old new stores after a
turns_from T policy old mid new stores after f NoFrame stays first t =
    absurd (subst (λ (fed : FeedState). IsPartial fed.bytes) stays.fed t.0 f first.rest first.frame first.bytes)
turns_from T policy old mid new stores after f (Dropped kind method number why) stays first t = (
  record {
    frame = t.0.frame;
    taken = subst (λ (fed : FeedState). IsNextFrame fed t.0.frame new.fed) stays.fed t.0.taken;
    says = t.0.says;
    fate = fate_from T policy old mid t.0.frame (drops why) stays t.0.fate;
    heap = t.0.heap ∙ stays.heap;
  },
  t.1,
)
turns_from T policy old mid new stores after f (Waiting need largest) stays first t = (
  record {
    frame = t.0.frame;
    first = subst (λ (fed : FeedState). IsFirstFrame fed t.0.frame) stays.fed t.0.first;
    tree = t.0.tree;
    fate = fate_from T policy old mid t.0.frame (arrives t.0.tree) stays t.0.fate;
    words = t.0.words;
    no_hole = subst (λ (h : Layout). All (λ hole. hole.words < need) h.holes) stays.heap t.0.no_hole;
    hole = subst (λ (h : Layout). IsLargest h.holes largest) stays.heap t.0.hole;
    stays = t.0.stays ∙ stays.fed;
    heap = t.0.heap ∙ stays.heap;
  },
  t.1,
)
turns_from T policy old mid new stores after f (Arrived kind method number block tree) stays first t = record {
  frame = t.frame;
  taken = subst (λ (fed : FeedState). IsNextFrame fed t.frame new.fed) stays.fed t.taken;
  says = t.says;
  fate = fate_from T policy old mid t.frame (arrives tree) stays t.fate;
  normal = t.normal;
  placed = subst (λ (h : Layout). IsMessagePlaced T (message_of_frame T t.frame) tree h new.heap stores after block) stays.heap t.placed;
}

pub ok_from : (T : Table) (policy : Option AccessPolicy) (old mid new : ReceiverState) (stores after : List (ℕ × ℕ)) (f : Frame) (r : Result Arrival Memory)
    → HasStayed old mid → IsFirstFrame old.fed f → IfOk r (IsTurnOf T policy mid new stores after) → IfOk r (IsTurnOf T policy old new stores after)
ok_from T policy old mid new stores after f (Ok a) stays first t = turns_from T policy old mid new stores after f a stays first t
ok_from T policy old mid new stores after f (Err e) stays first t = tt
