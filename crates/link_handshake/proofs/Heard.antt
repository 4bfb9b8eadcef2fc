-- What a connection received.
use Rattle.std.proofs.Common.{◌≡◌, ◌≢◌, ℕ, ◌+◌, List, [], ◌∷◌, ◌++◌, Bool, Option, Some, None, refl, sym, ap, subst}
use Rattle.std.proofs.Common.{◌∙◌, append_assoc, append-nil, ◌≤◌, arith, length, option_copied, All, ◌⊎◌, inl, inr}
use Rattle.std.proofs.Common.{Result, Ok, Err}
use Rattle.std.specs.Prelude.{IfOk, IfSome, IsTrue}
use Rattle.std.specs.Io.KnownBytes.{Appends}
use Rattle.std.specs.List.{AllZip}
use Rattle.std.proofs.lemmas.List.Elements.{All-head}
use Rattle.mrpc_base.specs.Failures.{HasCause}
use Rattle.mrpc_table.specs.Valid.{IsValid}
use Rattle.mrpc_table.specs.declared.table.Table.{Table}
use Rattle.frame_transport.specs.Frames.{IsFaultAt, IsFrame, IsPartial, bytes_of_frame, concat_frames, long, no_kind, no_version}
use Rattle.frame_transport.specs.declared.format.Frame.{Frame}
use Rattle.frame_transport.specs.declared.format.TheConstants.{HELLO}
use Rattle.frame_transport.specs.declared.fault.FeedFault.{FeedFault}
use Rattle.frame_transport.specs.declared.fault.FeedFault.TheVariants.{Memory as NoMemory}
use Rattle.receive_core.specs.ReceiverTraces.{IsTraceOf, HasFrames, IsEachFrameTaken, after_piece, after_hello, empty_trace}
use Rattle.receive_core.specs.Turns.{IsFirstFrame, ReceiverState}
use Rattle.receive_heap.specs.Layout.{Layout}
use Rattle.schema_binding.specs.Agreement.{IsDisagreement}
use Rattle.schema_binding.specs.Hello.{IsFirstFaultyLine, IsHelloFaultOf, IsHello}
use Rattle.schema_binding.specs.declared.fault.AgreeFault.{AgreeFault}
use Rattle.schema_binding.specs.declared.fault.AgreeFault.TheVariants.{Memory as NoMemoryToAgree}
use Rattle.schema_binding.specs.declared.fault.HelloFault.{HelloFault}
use Rattle.schema_binding.specs.declared.fault.HelloFault.TheVariants.{Bad}
use Rattle.message_delivery.specs.Arriving.{HaveSameIdentity, IsArrivalTrace, IsFateLine, policy_of_fate}
use Rattle.message_delivery.specs.declared.arrivals.Arrivals.{Arrivals}
use Rattle.message_delivery.specs.declared.arrivals.StreamState.{StreamState}
use Rattle.message_delivery.specs.declared.arrivals.StreamState.TheVariants.{Cut as IsCut, Ended as HasEnded, Failed as HasFailed, Open}
use Rattle.message_delivery.specs.declared.limits.TheConstants.{MAX_ARRIVALS}
use Rattle.link_handshake.specs.Handshake.{HasFirstFrame, IsUnbound, IsUnboundCause, cut, disagrees, ended}
use Rattle.link_handshake.specs.Receiving.{HasReceivedSince, IsUnchangedByReceives}
use Rattle.link_handshake.specs.declared.unbound.Unbound.{Unbound}
use Rattle.link_handshake.specs.declared.unbound.Unbound.TheVariants as unbound

-- ---- the received bytes

pub appends-nothing : (known : Option (List ℕ)) → Appends known known []
appends-nothing None = tt
appends-nothing (Some xs) = sym (append-nil xs)

appends-more : (old mid new : Option (List ℕ)) (xs ys : List ℕ) → Appends old mid xs → Appends mid new ys
    → Appends old new (xs ++ ys)
appends-more None mid new xs ys first second = tt
appends-more (Some a) None new xs ys first second = absurd first
appends-more (Some a) (Some b) None xs ys first second = absurd second
appends-more (Some a) (Some b) (Some c) xs ys first second =
    second ∙ ap (λ (zs : List ℕ). zs ++ ys) first ∙ append_assoc a xs ys

-- initially nothing was received
pub none-come : (given : Option (List ℕ)) (a : Arrivals) → IsArrivalTrace empty_trace a → HasReceivedSince given given a
none-come given a h = record { stream = []; fault = None; came = appends-nothing given; lived = h }

-- more bytes are appended
pub more-come : (given mid new : Option (List ℕ)) (a b : Arrivals) → (h : HasReceivedSince given mid a)
    → (piece : List ℕ) × (fault : Option FeedFault) × Appends mid new piece
    × IsArrivalTrace (after_piece (after_piece empty_trace h.stream h.fault) piece fault) b
    → HasReceivedSince given new b
more-come given mid new a b h (piece, fault, came, lived) = record {
  stream = h.stream ++ piece;
  fault = fault;
  came = appends-more given mid new h.stream piece h.came came;
  lived = lived;
}

-- ---- what is unchanged

pub none-stayed : (given : Option (List ℕ)) (failures : ℕ) (over : Bool) (a : Arrivals) → a.stream ≡ Open
    → IsUnchangedByReceives given given failures failures over a a
none-stayed given failures over a going = record {
  same = record { table = refl; policy = refl; conn = refl; words = refl; heap = refl };
  writer = refl;
  lines = refl;
  heap = refl;
  cause = record {
    rose = λ is. absurd (let no : Open ≡ HasFailed = sym going ∙ is in cc);
    stays = λ no. refl;
    never_falls = omega arith;
  };
  ends = λ is. absurd (let no : Open ≡ HasEnded = sym going ∙ is in cc);
  silent = λ none. none;
}

same-both : (a b c : Arrivals) → HaveSameIdentity a b → HaveSameIdentity b c → HaveSameIdentity a c
same-both a b c h k = record {
  table = k.table ∙ h.table;
  policy = k.policy ∙ h.policy;
  conn = k.conn ∙ h.conn;
  words = k.words ∙ h.words;
  heap = k.heap ∙ h.heap;
}

-- what one receive doesn't change in open arrivals
pub record HasReceived (given given' : Option (List ℕ)) (failures faults' : ℕ) (over : Bool) (old new : Arrivals)
    : Type 0 where
  pub same : HaveSameIdentity old new
  pub writer : new.writer ≡ old.writer
  pub lines : new.lines ≡ old.lines
  pub heap : new.inbound.heap ≡ old.inbound.heap
  pub cause : HasCause ((old.stream ≢ HasFailed) × (new.stream ≡ HasFailed)) failures faults'
  pub ends : old.stream ≢ HasEnded → new.stream ≡ HasEnded → IsTrue over
  pub silent : given ≡ None → given' ≡ None

pub more-stayed : (given mid new : Option (List ℕ)) (failures faults' faults'' : ℕ) (over over' : Bool)
    (first a b : Arrivals) → IsUnchangedByReceives given mid failures faults' over first a → a.stream ≡ Open
    → HasReceived mid new faults' faults'' over' a b → IsUnchangedByReceives given new failures faults'' over' first b
more-stayed given mid new failures faults' faults'' over over' first a b h going r =
    let working : a.stream ≢ HasFailed = λ is. let no : Open ≡ HasFailed = sym going ∙ is in absurd cc in
    let lasting : a.stream ≢ HasEnded = λ is. let no : Open ≡ HasEnded = sym going ∙ is in absurd cc in
    let none : faults' ≡ failures = h.cause.stays working in
    let cause : HasCause ((a.stream ≢ HasFailed) × (b.stream ≡ HasFailed)) failures faults'' =
    subst (λ (n : ℕ). HasCause ((a.stream ≢ HasFailed) × (b.stream ≡ HasFailed)) n faults'') none r.cause in
    record {
      same = same-both first a b h.same r.same;
      writer = r.writer ∙ h.writer;
      lines = r.lines ∙ h.lines;
      heap = r.heap ∙ h.heap;
      cause = record {
        rose = λ is. cause.rose (working, is);
        stays = λ no. cause.stays (λ both. no both.1);
        never_falls = cause.never_falls;
      };
      ends = λ is. r.ends lasting is;
      silent = λ is. r.silent (h.silent is);
    }

-- ---- the first frame

-- the bytes of a frame before others determine it
abbrev pub Once : Type 0
Once = (f g : Frame) (more others : List ℕ) → IsFrame f → IsFrame g → bytes_of_frame f ++ more ≡ bytes_of_frame g ++ others
    → f.place ≡ g.place → (f ≡ g) × (more ≡ others)

begins : (place : ℕ) (bytes stream : List ℕ) (fault : Option FeedFault) (waiting : List Frame) (f : Frame)
    (rest : List ℕ) → Once → HasFrames 0 stream waiting fault → HasFrames place bytes waiting fault → IsFrame f
    → bytes ≡ bytes_of_frame f ++ rest → f.place ≡ place → HasFirstFrame stream fault f
begins place bytes stream fault [] f rest once all kept frame is at =
    absurd (kept.splits.partial f rest frame (sym kept.splits.whole ∙ is))
begins place bytes stream fault (g ∷ gs) f rest once all kept frame is at =
    let same = once g f (concat_frames gs ++ kept.rest) rest (All-head IsFrame g gs kept.splits.each) frame
    (sym (append_assoc (bytes_of_frame g) (concat_frames gs) kept.rest) ∙ sym kept.splits.whole ∙ is)
    (kept.splits.places.0 ∙ sym at) in
    (gs, subst (λ (x : Frame). HasFrames 0 stream (x ∷ gs) fault) same.0 all)

-- the first frame that waits is the first of the stream
pub first-begins : (T : Table) (stream : List ℕ) (fault : Option FeedFault) (r : ReceiverState) (f : Frame) → Once
    → IsTraceOf T (after_piece empty_trace stream fault) r → IsFirstFrame r.fed f → HasFirstFrame stream fault f
first-begins T stream fault r f once lives first =
    begins r.fed.place r.fed.bytes stream fault lives.waiting f first.rest once lives.all lives.kept first.frame
    first.bytes first.place

-- and so is the hello that was taken
pub hello-begins : (T : Table) (stream : List ℕ) (fault : Option FeedFault) (r : ReceiverState) (f : Frame)
    → IsTraceOf T (after_hello (after_piece empty_trace stream fault) f) r → HasFirstFrame stream fault f
hello-begins T stream fault r f lives = (lives.waiting, lives.all)

-- the trace of the arrivals continues after the hello
pub greeted-lived : (stream : List ℕ) (fault : Option FeedFault) (a b : Arrivals) (hello : Frame)
    → IsArrivalTrace (after_piece empty_trace stream fault) a
    → IsTraceOf b.table.now (after_hello (after_piece empty_trace stream fault) hello) b.inbound
    → b.table.now ≡ a.table.now → b.inbound.heap ≡ a.inbound.heap → b.policy ≡ a.policy → b.lines ≡ a.lines
    → b.writer ≡ a.writer → b.stream ≡ a.stream → b.fault ≡ a.fault
    → IsArrivalTrace (after_hello (after_piece empty_trace stream fault) hello) b
greeted-lived stream fault a b hello h lives table heap policy lines writer state same = record {
  valid = subst IsValid (sym table) h.valid;
  lives = lives;
  told = subst (λ x. AllZip IsFateLine [] x.items) (sym lines) h.told;
  judged = subst (λ p. All (λ x. policy_of_fate x ≡ option_copied p) []) (sym policy) h.judged;
  stored = ap (λ x. x.stores) writer ∙ h.stored;
  words = ap (λ x. x.heap.words) writer ∙ h.words ∙ sym (ap (λ (l : Layout). l.words) heap);
  most = subst (λ (l : Layout). l.words ≤ 65536) (sym heap) h.most;
  uncut = λ no. h.uncut (λ is. no (state ∙ is));
  cut = λ is. h.cut (sym state ∙ is);
  first = same ∙ h.first;
  few = subst (λ x. length x.items ≤ MAX_ARRIVALS) (sym lines) h.few;
}

-- the result for each cause
pub told-so : {E : Type 0} (P Q : Unbound → Type 0) (r : Result (Option Unbound) E) → ((why : Unbound) → P why → Q why)
    → IfOk r (λ answer. IfSome answer P) → IfOk r (λ answer. IfSome answer Q)
told-so P Q (Ok None) all h = h
told-so P Q (Ok (Some why)) all h = all why h
told-so P Q (Err e) all h = h

-- tables don't agree, for a cause
pub disagreement : (T theirs : Table) (service said bytes : List ℕ) (f : Frame) (cause : Unbound) (why : AgreeFault)
    → f.kind ≡ HELLO → bytes ≡ f.payload → IsHello bytes said theirs
    → (why ≡ NoMemoryToAgree) ⊎ IsDisagreement T theirs service f.version why
    → (cause ≡ unbound.Disagrees why) × (why ≢ NoMemoryToAgree)
    → IsUnboundCause cause × ((stream : List ℕ) (fault : Option FeedFault) (state : StreamState) → HasFirstFrame stream fault f
    → IsUnbound T service stream fault state cause)
disagreement T theirs service said bytes f cause why kind same says (inl none) told = absurd (told.1 none)
disagreement T theirs service said bytes f cause why kind same says (inr refused) told = (
  subst IsUnboundCause (sym told.0) told.1,
  λ stream fault state begins.
      disagrees f theirs why (record {
        first = begins;
        kind = kind;
        service = said;
        says = subst (λ (xs : List ℕ). IsHello xs said theirs) same says;
      }) refused told.0,
)

-- the invalid line of a payload
pub bad-line : (payload bytes : List ℕ) (fault : HelloFault) (line : ℕ) → bytes ≡ payload → fault ≡ Bad line
    → IsHelloFaultOf bytes fault → IsFirstFaultyLine payload line
bad-line payload bytes fault line same is h =
    subst (λ (xs : List ℕ). IsFirstFaultyLine xs line) same (subst (IsHelloFaultOf bytes) is h)

-- ---- no first frame

-- a fault of a stream is never out of memory
fault-says : (place : ℕ) (bytes : List ℕ) (fault : FeedFault) → IsFaultAt place bytes fault → fault ≢ NoMemory
fault-says place bytes fault (long many large is) none = absurd cc
fault-says place bytes fault (no_kind many small other is) none = absurd cc
fault-says place bytes fault (no_version many small kind other is) none = absurd cc

-- all received bytes are in no frame
reads-none : (stream : List ℕ) (fault : Option FeedFault) (a : Arrivals) → IsEachFrameTaken
    → IsArrivalTrace (after_piece empty_trace stream fault) a → IsPartial a.inbound.fed.bytes → HasFrames 0 stream [] fault
reads-none stream fault a each h partial = each a.table.now (after_piece empty_trace stream fault) a.inbound h.lives partial

pub none-ended : (service stream : List ℕ) (fault : Option FeedFault) (a : Arrivals) → IsEachFrameTaken
    → IsArrivalTrace (after_piece empty_trace stream fault) a → IsPartial a.inbound.fed.bytes → a.stream ≡ HasEnded
    → IsUnbound a.table.now service stream fault a.stream unbound.Ended
none-ended service stream fault a each h partial is =
    let clean : fault ≡ None = h.uncut (λ cut. let no : HasEnded ≡ IsCut = sym is ∙ cut in absurd cc) in
    ended is (subst (HasFrames 0 stream []) clean (reads-none stream fault a each h partial)) refl

pub none-cut : (service stream : List ℕ) (fault : Option FeedFault) (a : Arrivals) (first : FeedFault) → IsEachFrameTaken
    → IsArrivalTrace (after_piece empty_trace stream fault) a → IsPartial a.inbound.fed.bytes → a.fault ≡ Some first
    → (first ≢ NoMemory) × IsUnbound a.table.now service stream fault a.stream (unbound.Cut first)
none-cut service stream fault a first each h partial is =
    let reads : HasFrames 0 stream [] (Some first) =
    subst (HasFrames 0 stream []) (sym h.first ∙ is) (reads-none stream fault a each h partial) in
    (fault-says (0 + 0) reads.rest first reads.first, cut first reads refl)
