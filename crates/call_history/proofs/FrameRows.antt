-- Worked by hand: frames and tickets of small histories.
use Rattle.std.proofs.Common.{◌≡◌, ℕ, List, [], ◌∷◌, reverse, refl}
use Rattle.frame_transport.specs.Bytes.{header_bytes}
use Rattle.wire_base.specs.Encoding.{varint, groups}
use Rattle.engine_core.specs.declared.op.Op.TheVariants.{Attach, Detach}
use Rattle.engine_core.specs.declared.policy.Policy.TheVariants.{Access, Quota}
use Rattle.call_history.specs.Trace.{Trace}
use Rattle.call_history.specs.Frames.{frames, frames_of_trace}
use Rattle.call_history.specs.Legal.{History}
use Rattle.call_history.specs.Tickets.{tickets_of_trace}
use Rattle.call_history.specs.declared.happening.Cause.TheVariants as cause
use Rattle.call_history.specs.declared.happening.Happening.TheVariants.{Took, Op, Drawn, Sent, Refused}
use Rattle.call_history.specs.declared.happening.AcceptedCall.{AcceptedCall}
use Rattle.call_history.specs.declared.happening.TookCopy.TheVariants.{Copy}
use Rattle.call_history.proofs.Rows.{table, two_fields, with_number, request, seven, acl, q, no150, but_150, but_5, denied, failing, upgraded_before, cleared, drawn_over}

-- the header of a request's frame with a payload of two bytes, by connection and number
abbrev request_header : ℕ → ℕ → List ℕ → List ℕ
request_header conn number payload =
    0x00 ∷ 0x00 ∷ 0x00 ∷ 0x02 ∷ 0x01 ∷ 0x01 ∷ 0x00 ∷ 0x00 ∷ 0x00 ∷ 0x00 ∷ 0x00 ∷ conn ∷ 0x00 ∷ 0x00 ∷ 0x00 ∷ number ∷ payload

-- ---- a call that the policy allows, and a later store

abbrev allowed : Trace
allowed = reverse (Op (Attach 0 acl acl (Access but_150)) ∷ Took (seven 1) ∷ Sent 1 18 ∷ [])

frame-allowed : frames_of_trace table 1 allowed
    ≡ (0x00 ∷ 0x00 ∷ 0x00 ∷ 0x02 ∷ 0x01 ∷ 0x01 ∷ 0x00 ∷ 0x00 ∷ 0x00 ∷ 0x00 ∷ 0x00 ∷ 0x01 ∷ 0x00 ∷ 0x00 ∷ 0x00 ∷ 0x01 ∷ 0x08 ∷ 0x07 ∷ []) ∷ []
unfolding header_bytes varint groups
frame-allowed = refl

-- a denied call is in no frame
frame-denied : frames_of_trace table 1 denied ≡ []
frame-denied = refl

-- ---- the first call is refused by the later version, so only the second is sent

frame-upgraded : frames_of_trace table 1 (Sent 2 18 ∷ Refused 1 (cause.Access acl 2 no150) ∷ upgraded_before)
    ≡ (0x00 ∷ 0x00 ∷ 0x00 ∷ 0x02 ∷ 0x01 ∷ 0x01 ∷ 0x00 ∷ 0x00 ∷ 0x00 ∷ 0x00 ∷ 0x00 ∷ 0x01 ∷ 0x00 ∷ 0x00 ∷ 0x00 ∷ 0x02 ∷ 0x08 ∷ 0x07 ∷ []) ∷ []
unfolding header_bytes varint groups
frame-upgraded = refl

-- ---- a frame has the call's fields at the time of the send

frame-cleared : frames_of_trace two_fields 1 (Sent 1 18 ∷ cleared but_5)
    ≡ (0x00 ∷ 0x00 ∷ 0x00 ∷ 0x02 ∷ 0x01 ∷ 0x01 ∷ 0x00 ∷ 0x00 ∷ 0x00 ∷ 0x00 ∷ 0x00 ∷ 0x01 ∷ 0x00 ∷ 0x00 ∷ 0x00 ∷ 0x01 ∷ 0x08 ∷ 0x07 ∷ []) ∷ []
unfolding header_bytes varint groups
frame-cleared = refl

-- ---- the frame of a reply has the number of its request, and the frame of a message without fields has no
-- payload

abbrev reply : AcceptedCall
reply = record { seq = 3; method = 0; number = 1; addr = 2; after = 1; count = 1; copy = Copy (with_number 150) }

frame-reply : frames_of_trace table 2 (Sent 3 19 ∷ Took reply ∷ [])
    ≡ (0x00 ∷ 0x00 ∷ 0x00 ∷ 0x03 ∷ 0x02 ∷ 0x01 ∷ 0x00 ∷ 0x00 ∷ 0x00 ∷ 0x00 ∷ 0x00 ∷ 0x02 ∷ 0x00 ∷ 0x00 ∷ 0x00 ∷ 0x01 ∷ 0x08 ∷ 0x96 ∷ 0x01 ∷ []) ∷ []
unfolding header_bytes varint groups
frame-reply = refl

-- ---- the frames of two connections come in the order of the sends, each with its own connection's form

abbrev two_connections : History
two_connections =
    record { conn = 1; what = Took (seven 1) } ∷ record { conn = 2; what = Took (request 1 1 1 (with_number 9)) } ∷ record { conn = 2; what = Sent 1 18 }
    ∷ record { conn = 1; what = Sent 1 18 } ∷ []

frames-of_both : frames table two_connections ≡ request_header 2 1 (0x08 ∷ 0x09 ∷ []) ∷ request_header 1 1 (0x08 ∷ 0x07 ∷ []) ∷ []
unfolding header_bytes varint groups
frames-of_both = refl

-- ---- a link that fails with two calls pending: one frame

frames-failing : frames_of_trace table 1 failing ≡ request_header 1 1 (0x08 ∷ 0x07 ∷ []) ∷ []
unfolding header_bytes varint groups
frames-failing = refl

-- ---- tickets of one window and one tenant, by the policy that the name had then

tickets-drawn : tickets_of_trace 0 0 (Refused 2 (cause.Quota q 1 1) ∷ drawn_over) ≡ 0 ∷ 1 ∷ []
tickets-drawn = refl

tickets-other_window : tickets_of_trace 0 1 drawn_over ≡ []
tickets-other_window = refl

tickets-other_tenant : tickets_of_trace 1 0 drawn_over ≡ []
tickets-other_tenant = refl

tickets-of_both : tickets_of_trace 1 5 (Drawn 3 q 5 7 ∷ Op (Attach 0 q q (Quota 1 1000 9)) ∷ Op (Detach q) ∷ drawn_over) ≡ 7 ∷ []
tickets-of_both = refl

tickets-before : tickets_of_trace 0 0 (Drawn 3 q 0 7 ∷ Op (Attach 0 q q (Quota 1 1000 9)) ∷ Op (Detach q) ∷ drawn_over) ≡ 0 ∷ 1 ∷ []
tickets-before = refl
