-- The lines that replay consecutive frames.
use Rattle.std.proofs.Common.{◌≡◌, ℕ, ◌+◌, ◌<◌, ◌≤◌, Bool, false, IsTrue, ◌↔◌, inl, inr, arith, List, [], ◌∷◌, ◌++◌}
use Rattle.std.proofs.Common.{length, drop, codes, refl, sym, ap, subst, ◌∙◌, append_assoc, append-nil, Result, Ok}
use Rattle.std.proofs.Common.{Err, IfOk, IfErr, Option, Some, IfSome}
use Rattle.std.proofs.lemmas.Bool.{false≢true}
use Rattle.std.proofs.lemmas.Bool.Decides.{leb_tells}
use Rattle.mrpc_table.specs.Node.{Node}
use Rattle.mrpc_table.specs.declared.table.Table.{Table}
use Rattle.graph_form.specs.declared.placed.Placed.{Placed}
use Rattle.frame_transport.specs.Frames.{IsSplitOf}
use Rattle.frame_transport.specs.FramesInPlace.{IsFrameAt}
use Rattle.frame_transport.specs.declared.format.Frame.{Frame}
use Rattle.frame_view.specs.Contents.{IsMessageOfFrame}
use Rattle.frame_transport.specs.Messages.{payload_message}
use Rattle.frame_view.specs.Faults.{OnFault}
use Rattle.frame_view.specs.Input.{IsInputOf}
use Rattle.frame_view.specs.FrameRanges.{AreFramesBetween}
use Rattle.frame_view.specs.declared.fault.ReadFault.{ReadFault}
use Rattle.frame_view.specs.declared.fault.ReadFault.TheVariants.{At, Memory}
use Rattle.script_view.specs.Scripts.{IsReplayable, IsScriptOf, empty_counts, script_text}
use Rattle.replay_script.specs.declared.limits.TheConstants.{MAX_CONNECTIONS}
use Rattle.script_view.specs.Playing.{IsNumberedAfter}
use Rattle.script_view.specs.Unplayable.{CallCounts, IsReplayConn, IsLaidOut, IsReplayedBy, IsUnplayable, last_number, too_large, hello_too_large}
use Rattle.script_view.specs.ReplayRanges.{IsReplayOfFrame, plays_hello, plays_call, IsReplayOfFrames, IsReplayBetween}
use Rattle.script_view.specs.declared.limits.TheConstants.{MAX_BODY}

-- what follows from a property of a fault, holds for it
pub on_fault : (P Q : ℕ → List ℕ → Type 0) (fault : ReadFault) → ((place : ℕ) (word : List ℕ) → P place word → Q place word) → OnFault P fault → OnFault Q fault
on_fault P Q (At place word) then h = then place word.now h
on_fault P Q Memory then h = tt

-- and `Memory` has every property of faults
pub memory_alone : (P : ℕ → List ℕ → Type 0) (fault : ReadFault) → fault ≡ Memory → OnFault P fault
memory_alone P fault is = subst (OnFault P) (sym is) tt

plays-append : (T : Table) (a b c : CallCounts) (fs gs : List Frame) (x y : List ℕ) → IsReplayOfFrames T a fs x b → IsReplayOfFrames T b gs y c → IsReplayOfFrames T a (fs ++ gs) (x ++ y) c
plays-append T a b c [] gs x y p q =
    subst (λ (t : List ℕ). IsReplayOfFrames T a gs (t ++ y) c) (sym p.0) (subst (λ (m : CallCounts). IsReplayOfFrames T m gs y c) p.1 q)
plays-append T a b c (f ∷ fs) gs x y p q =
    (p.0, p.1 ++ y, p.2, p.3, plays-append T p.2 b c fs gs p.1 y p.4 q, ap (λ (t : List ℕ). t ++ y) p.5 ∙ append_assoc p.0 p.1 y)

-- laws of consecutive frames
pub record WalkLaw : Type 0 where
  pub none : (stream : List ℕ) (from : ℕ) → AreFramesBetween stream from from []
  pub one : (stream : List ℕ) (from to : ℕ) (f : Frame) → IsFrameAt from (drop from stream) f → to ≡ from + (16 + length f.payload) → AreFramesBetween stream from to (f ∷ [])
  pub more : (stream : List ℕ) (from mid to : ℕ) (fs gs : List Frame) → AreFramesBetween stream from mid fs → AreFramesBetween stream mid to gs → AreFramesBetween stream from to (fs ++ gs)
  pub all : (stream : List ℕ) (to : ℕ) (fs : List Frame) → AreFramesBetween stream 0 to fs → length stream ≤ to → IsSplitOf 0 stream fs []

pub plays_nothing : WalkLaw → (T : Table) (stream : List ℕ) (from : ℕ) (made : CallCounts) → IsReplayBetween T stream from from made [] made
plays_nothing law T stream from made = record { frames = []; stands = law.none stream from; plays = (refl, refl) }

pub plays_one : WalkLaw → (T : Table) (stream : List ℕ) (from to : ℕ) (f : Frame) (a b : CallCounts) (text : List ℕ) → IsFrameAt from (drop from stream) f
    → IsReplayOfFrame T a f text b → to ≡ from + (16 + length f.payload) → IsReplayBetween T stream from to a text b
plays_one law T stream from to f a b text h made behind =
    record { frames = f ∷ []; stands = law.one stream from to f h behind; plays = (text, [], b, made, (refl, refl), sym (append-nil text)) }

plays_more : WalkLaw → (T : Table) (stream : List ℕ) (from mid to : ℕ) (a b c : CallCounts) (x y : List ℕ) → IsReplayBetween T stream from mid a x b → IsReplayBetween T stream mid to b y c
    → IsReplayBetween T stream from to a (x ++ y) c
plays_more law T stream from mid to a b c x y p q = record {
  frames = p.frames ++ q.frames;
  stands = law.more stream from mid to p.frames q.frames p.stands q.stands;
  plays = plays-append T a b c p.frames q.frames x y p.plays q.plays;
}

-- too many bytes of lines
pub large : (T : Table) (before after : CallCounts) (size : ℕ) (f : Frame) (text : List ℕ) (place : ℕ) (word : List ℕ)
    → IsReplayOfFrame T before f text after → MAX_BODY < size + length text
    → place ≡ f.place → word ≡ codes "Size" → IsUnplayable T before size f place word
large T before after size f text place word (plays_hello kind is same) big at is_word =
    hello_too_large kind (subst (λ (t : List ℕ). MAX_BODY < size + length t) is big) at is_word
large T before after size f text place word (plays_call blanks placed made is same) big at is_word =
    too_large blanks placed made (subst (λ (t : List ℕ). MAX_BODY < size + length t) is big) at is_word

pub plays_on : WalkLaw → (T : Table) (stream : List ℕ) (from mid to : ℕ) (a b c : CallCounts) (x y z : List ℕ) → IsReplayBetween T stream from mid a x b → IsReplayBetween T stream mid to b y c
    → z ≡ x ++ y → IsReplayBetween T stream from to a z c
plays_on law T stream from mid to a b c x y z p q is = subst (λ (t : List ℕ). IsReplayBetween T stream from to a t c) (sym is) (plays_more law T stream from mid to a b c x y p q)

pub if_fault : {A : Type 0} (P Q : ℕ → List ℕ → Type 0) (r : Result A ReadFault)
    → ((place : ℕ) (word : List ℕ) → P place word → Q place word) → IfErr r (OnFault P) → IfErr r (OnFault Q)
if_fault P Q (Ok a) then h = h
if_fault P Q (Err fault) then h = on_fault P Q fault then h

-- lines that replay a whole stream make the script of the input
pub script_whole : {E : Type 0} → WalkLaw → (text : List ℕ) (T : Table) (stream : List ℕ) (r : Result (List ℕ) E) → IsInputOf text T stream
    → IfOk r (λ script. (to : ℕ) × (body : List ℕ) × (made : CallCounts) × (length stream ≤ to)
    × IsReplayBetween T stream 0 to empty_counts body made × IsReplayable body made
    × (script ≡ script_text T made.loads body))
    → IfOk r (IsScriptOf text)
script_whole law text T stream (Ok script) holds h = record {
  table = T;
  stream = stream;
  holds = holds;
  frames = h.4.frames;
  splits = law.all stream h.0 h.4.frames h.4.stands h.3;
  body = h.1;
  made = h.2;
  plays = h.4.plays;
  fits = h.5;
  whole = h.6;
}
script_whole law text T stream (Err e) holds h = tt

-- a connection that passes the test
pub conn_is : (conn : ℕ) (b : Bool) → (IsTrue b ↔ ((1 ≤ conn) × (conn ≤ MAX_CONNECTIONS))) → IsTrue b → IsReplayConn conn
conn_is conn b h passed = let both : (1 ≤ conn) × (conn ≤ MAX_CONNECTIONS) = h.0 passed in record { first = both.0; last = both.1 }

-- a number that isn't at most a limit is above it
pub too_many : (n limit : ℕ) (b : Bool) → (IsTrue b ↔ (n ≤ limit)) → b ≡ false → limit < n
too_many n limit b h failed = elim (leb_tells n limit) [ inl le ↦ absurd (false≢true (sym failed ∙ h.1 le.1)) | inr above ↦ let gt = above.1 in omega (arith, gt) ]

-- the calls so far, part by part
abbrev pub made_of : List ℕ → ℕ → ℕ → CallCounts
made_of counts calls loads = record { counts = counts; calls = calls; loads = loads }

pub made_is : {counts counts' : List ℕ} {calls calls' loads loads' : ℕ} → counts ≡ counts' → calls ≡ calls'
    → loads ≡ loads' → made_of counts calls loads ≡ made_of counts' calls' loads'
made_is p q r = λ i. made_of (p i) (q i) (r i)

-- how a request or a reply is sent, by what was found for it
pub is_made : (T : Table) (before : CallCounts) (f : Frame) (tree : Node) (message last blanks : ℕ) (found : Option ℕ) (placed : Placed) → IsMessageOfFrame T f tree → IsReplayConn f.conn
    → last ≡ last_number before f → found ≡ Some blanks → IfSome found (λ b. IsNumberedAfter f last b) → message ≡ payload_message T f → IsLaidOut T message tree placed
    → IsReplayedBy T before f blanks placed
is_made T before f tree message last blanks found placed of_frame conn is_last is numbered is_message laid_out = record {
  tree = tree;
  message = of_frame;
  conn = conn;
  numbered = subst (λ (l : ℕ). IsNumberedAfter f l blanks) is_last (subst (λ (o : Option ℕ). IfSome o (λ b. IsNumberedAfter f last b)) is numbered);
  laid_out = subst (λ (m : ℕ). IsLaidOut T m tree placed) is_message laid_out;
}
