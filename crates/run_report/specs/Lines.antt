-- The lines of a run besides audits (this project's own format).
use Rattle.std.specs.Prelude.{ℕ, ◌<◌, ◌≤◌, ◌==◌, Bool, true, false, List, [], ◌∷◌, ◌++◌, All, codes, length, ◌≡◌, Option, Some, None, option_map, IsSomeAnd, ⊤, if◌then◌else◌}
use Rattle.std.specs.Fmt.{decimal}
use Rattle.std.specs.Option.{option_copied}
use Rattle.mrpc_table.specs.Calls.{message_at}
use Rattle.mrpc_table.specs.Normal.{IsNormal}
use Rattle.mrpc_table.specs.declared.table.Table.{Table}
use Rattle.wire_base.specs.Encoding.{encoding}
use Rattle.wire_decode.specs.Reason.{decode_reason_word}
use Rattle.frame_transport.specs.declared.fault.FeedFault.{FeedFault}
use Rattle.frame_transport.specs.declared.fault.FeedFault.TheVariants.{Version, Kind, TooLong, Memory as NoMemoryToFeed}
use Rattle.frame_transport.specs.declared.format.TheConstants.{REPLY}
use Rattle.policy_access.specs.Verdict.{AccessPolicy, rule_name}
use Rattle.receive_core.specs.ReceiverTraces.{ReceiverTrace}
use Rattle.receive_core.specs.declared.arrival.DropCause.{DropCause}
use Rattle.receive_core.specs.declared.arrival.DropCause.TheVariants.{Hello as IsHello, NoMethod, Decode, Denied, Oversize}
use Rattle.schema_binding.specs.declared.fault.AgreeFault.{AgreeFault}
use Rattle.schema_binding.specs.declared.fault.AgreeFault.TheVariants.{NoService, Mismatch, Methods, Field, Memory as NoMemoryToAgree}
use Rattle.audit_text.specs.Lines.{WordList, hex_word}
use Rattle.message_delivery.specs.Arriving.{IsArrivalTrace}
use Rattle.message_delivery.specs.declared.arrivals.ArrivalLine.{ArrivalLine}
use Rattle.message_delivery.specs.declared.arrivals.Arrivals.{Arrivals}
use Rattle.message_delivery.specs.declared.arrivals.ArrivalLine.TheVariants.{Arrived, Dropped}
use Rattle.run_report.specs.declared.arrivals.Judge.{Judge}
use Rattle.link_handshake.specs.declared.unbound.Unbound.{Unbound}
use Rattle.link_handshake.specs.declared.unbound.Unbound.TheVariants.{Transport, Ended, Cut, Hello, Disagrees}

-- ---- arrivals

-- the policy that judges deliveries on a connection, with the name under which it is declared
abbrev pub JudgingPolicy : Type 0
JudgingPolicy = Option (List ℕ × AccessPolicy)

abbrev pub judging_of : Option Judge → JudgingPolicy
judging_of None = None
judging_of (Some judge) = Some (judge.name.now, judge.policy.now)

-- the message type of an arrival, by its kind: a reply has its method's output, a request its input
abbrev pub message_of_arrival : Table → ℕ → ℕ → ℕ
message_of_arrival T kind method = message_at T method (if kind == REPLY then 1 else 0)

-- the rule that denied
abbrev pub denial_words : JudgingPolicy → ℕ → WordList
denial_words None rule = []
denial_words (Some policy) rule = policy.0 ∷ rule_name policy.1 rule ∷ []

abbrev pub drop_cause_words : JudgingPolicy → DropCause → WordList
drop_cause_words judging IsHello = codes "Hello" ∷ []
drop_cause_words judging NoMethod = codes "NoMethod" ∷ []
drop_cause_words judging (Decode reason place) = decode_reason_word reason ∷ decimal place ∷ []
drop_cause_words judging (Denied rule) = codes "access" ∷ denial_words judging rule
drop_cause_words judging (Oversize need words) = codes "Oversize" ∷ decimal need ∷ decimal words ∷ []

-- the connection on which a frame came, and its header's numbers
abbrev pub call_words : ℕ → ℕ → ℕ → ℕ → WordList
call_words conn kind method number = decimal conn ∷ decimal kind ∷ decimal method ∷ decimal number ∷ []

abbrev pub arrival_words : Table → JudgingPolicy → ℕ → ArrivalLine → WordList
arrival_words T judging conn (Arrived kind method number tree) =
    codes "arrived" ∷ (call_words conn kind method number
    ++ hex_word (encoding T (message_of_arrival T kind method) tree) ∷ [])
arrival_words T judging conn (Dropped kind method number why) =
    codes "dropped" ∷ (call_words conn kind method number ++ drop_cause_words judging why)

-- A message that arrived is a normal one of its method. A rule that denied is one of the policy's, or denotes its
-- default.
abbrev pub IsWritableDropCause : JudgingPolicy → DropCause → Type 0
IsWritableDropCause judging IsHello = ⊤
IsWritableDropCause judging NoMethod = ⊤
IsWritableDropCause judging (Decode reason place) = ⊤
IsWritableDropCause judging (Denied rule) = IsSomeAnd judging (λ policy. rule ≤ length policy.1.rules)
IsWritableDropCause judging (Oversize need words) = ⊤

abbrev pub IsWritableArrival : Table → JudgingPolicy → ArrivalLine → Type 0
IsWritableArrival T judging (Arrived kind method number tree) =
    (method < length T.methods) × IsNormal T (message_of_arrival T kind method) tree
IsWritableArrival T judging (Dropped kind method number why) = IsWritableDropCause judging why

-- each line of an arrival trace fits, under the policy that judged it
abbrev pub AreLinesWritable : Type 0
AreLinesWritable = (life : ReceiverTrace) (a : Arrivals) (judging : JudgingPolicy) → IsArrivalTrace life a
    → option_map (λ policy. policy.1) judging ≡ option_copied a.policy
    → All (IsWritableArrival a.table.now judging) a.lines.items

-- ---- what is unfinished at the end

-- the offset of a frame fault, and its word
abbrev pub fault_words : FeedFault → WordList
fault_words (Version place value) = decimal place ∷ codes "Version" ∷ []
fault_words (Kind place value) = decimal place ∷ codes "Kind" ∷ []
fault_words (TooLong place value) = decimal place ∷ codes "TooLong" ∷ []
fault_words NoMemoryToFeed = []

-- the application gave back a block that the connection doesn't hold
abbrev pub not_held_words : ℕ → ℕ → WordList
not_held_words conn block = codes "notheld" ∷ decimal conn ∷ decimal block ∷ []

-- its stream has a frame fault
abbrev pub cut_words : ℕ → FeedFault → WordList
cut_words conn fault = codes "cut" ∷ decimal conn ∷ fault_words fault

-- its stream ended inside the frame that starts at this offset
abbrev pub short_words : ℕ → ℕ → WordList
short_words conn place = codes "cut" ∷ decimal conn ∷ decimal place ∷ codes "Short" ∷ []

-- a whole frame had no fate
abbrev pub waits_words : ℕ → ℕ → ℕ → ℕ → WordList
waits_words conn kind method number = codes "waits" ∷ call_words conn kind method number

-- ---- connections that weren't bound

-- a byte of a text; `-` past its end
abbrev pub byte_word : Option ℕ → List ℕ
byte_word None = codes "-"
byte_word (Some byte) = decimal byte

abbrev pub flag_word : Bool → List ℕ
flag_word true = decimal 1
flag_word false = decimal 0

abbrev pub disagreement_words : AgreeFault → WordList
disagreement_words (NoService ours theirs) = codes "service" ∷ flag_word ours ∷ flag_word theirs ∷ []
disagreement_words (Mismatch byte ours theirs) =
    codes "mismatch" ∷ decimal byte ∷ byte_word ours ∷ byte_word theirs ∷ []
disagreement_words (Methods at) = codes "methods" ∷ decimal at ∷ []
disagreement_words (Field message number) = codes "field" ∷ message ∷ decimal number ∷ []
disagreement_words NoMemoryToAgree = []

abbrev pub reason_words : Unbound → WordList
reason_words Transport = codes "transport" ∷ []
reason_words Ended = codes "ended" ∷ []
reason_words (Cut fault) = codes "cut" ∷ fault_words fault
reason_words (Hello at) = codes "hello" ∷ decimal at ∷ []
reason_words (Disagrees fault) = disagreement_words fault

abbrev pub unbound_words : ℕ → Unbound → WordList
unbound_words conn why = codes "unbound" ∷ decimal conn ∷ reason_words why
