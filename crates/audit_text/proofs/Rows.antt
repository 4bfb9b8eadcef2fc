-- The texts and the frames of small histories that were worked out by hand.
use Rattle.std.proofs.Common.{◌≡◌, ℕ, List, [], ◌∷◌, codes, refl, true}
use Rattle.std.specs.Fmt.{digits}
use Rattle.std.specs.Prelude.{Some, None, ℕ, List, [], ◌∷◌, ◌++◌}
use Rattle.hex.specs.Hex.{encode_with}
use Rattle.mrpc_table.specs.Node.{Node, no_fields, field, one, number}
use Rattle.mrpc_table.specs.declared.call.CallKind.TheVariants.{Request}
use Rattle.mrpc_table.specs.declared.table.Field.{Field}
use Rattle.mrpc_table.specs.declared.table.Kind.TheVariants.{Uint64}
use Rattle.mrpc_table.specs.declared.table.Label.TheVariants.{Plain}
use Rattle.mrpc_table.specs.declared.table.Table.{Table}
use Rattle.wire_base.specs.Encoding.{varint, groups}
use Rattle.frame_transport.specs.Bytes.{header_bytes}
use Rattle.graph_form.specs.declared.reason.Reason.TheVariants.{Address, NoMethod}
use Rattle.engine_core.specs.declared.op.Op.TheVariants.{Attach, Detach, Upgrade}
use Rattle.engine_core.specs.declared.policy.Policy.{Policy}
use Rattle.engine_core.specs.declared.policy.Policy.TheVariants.{Access, Rate, Quota, Redact}
use Rattle.call_history.specs.Legal.{History}
use Rattle.call_history.specs.declared.happening.Cause.TheVariants as cause
use Rattle.call_history.specs.declared.happening.ConnectionEvent.{ConnectionEvent}
use Rattle.call_history.specs.declared.happening.Happening.{Happening}
use Rattle.call_history.specs.declared.happening.Happening.TheVariants.{Took, Away, Op, Moment, Charged, Drawn, Counted, Redacted, Sent, Refused}
use Rattle.call_history.specs.declared.happening.TookCopy.{TookCopy}
use Rattle.call_history.specs.declared.happening.TookCopy.TheVariants.{Copy, Malformed}
use Rattle.call_history.specs.Frames.{frames}
use Rattle.audit_text.specs.Lines.{audit, stands_line, transport}

-- a message with these fields, and a method that takes it
abbrev table_of : List Field → Table
table_of fields = record {
  messages = record { name = codes "M"; fields = fields; oneofs = [] } ∷ [];
  enums = [];
  methods = record { service = codes "S"; name = codes "Get"; input = 0; output = 0 } ∷ [];
}

abbrev number_field : ℕ → List ℕ → Field
number_field n name = record { number = n; name = name; kind = Uint64; label = Plain }

abbrev table : Table
table = table_of (number_field 1 (codes "a") ∷ [])

abbrev with_number : ℕ → Node
with_number v = field 1 (one (number v)) no_fields

-- an event on connection 1
abbrev happens : Happening → ConnectionEvent
happens what = record { conn = 1; what = what }

-- a call, by its method and the number that it answers
abbrev call : ℕ → ℕ → ℕ → ℕ → ℕ → ℕ → TookCopy → ConnectionEvent
call seq method answered addr after count copy = happens (Took (record { seq = seq; method = method; number = answered; addr = addr; after = after; count = count; copy = copy }))

abbrev request : ℕ → ℕ → Node → ConnectionEvent
request seq after tree = call seq 0 0 2 after 1 (Copy tree)

abbrev seven : ℕ → ConnectionEvent
seven seq = request seq 1 (with_number 7)

abbrev opening : Policy
opening = Access (record { rules = []; allow = true })

abbrev holding : ℕ → Policy
holding burst = Rate (record { amount = 1; per = 1000; burst = burst; hold = true })

-- ---- 150 is stored, submitted and sent

abbrev sent : History
sent = request 1 1 (with_number 150) ∷ happens (Sent 1 19) ∷ []

audit-sent : audit table sent ≡ codes "took 1 1 0 0 2 1 1 copy 089601\nsent 1 1 19\n"
unfolding varint groups digits encode_with
audit-sent = refl

-- frames, one after another
abbrev joined : List (List ℕ) → List ℕ
joined [] = []
joined (frame ∷ frames) = frame ++ joined frames

frames-sent : joined (frames table sent) ≡ 0 ∷ 0 ∷ 0 ∷ 3 ∷ 1 ∷ 1 ∷ 0 ∷ 0 ∷ 0 ∷ 0 ∷ 0 ∷ 1 ∷ 0 ∷ 0 ∷ 0 ∷ 1 ∷ 8 ∷ 150 ∷ 1 ∷ []
unfolding varint groups header_bytes
frames-sent = refl

-- ---- a call without a field, and a reply to it

abbrev answered : History
answered = request 1 0 no_fields ∷ call 2 0 1 2 0 1 (Copy (with_number 5)) ∷ happens (Sent 1 16) ∷ happens (Sent 2 18) ∷ []

audit-answered : audit table answered ≡ codes "took 1 1 0 0 2 0 1 copy -\ntook 1 2 0 1 2 0 1 copy 0805\nsent 1 1 16\nsent 1 2 18\n"
unfolding varint groups digits encode_with
audit-answered = refl

frames-answered : joined (frames table answered) ≡ 0 ∷ 0 ∷ 0 ∷ 0 ∷ 1 ∷ 1 ∷ 0 ∷ 0 ∷ 0 ∷ 0 ∷ 0 ∷ 1 ∷ 0 ∷ 0 ∷ 0 ∷ 1 ∷ 0
    ∷ 0 ∷ 0 ∷ 2 ∷ 2 ∷ 1 ∷ 0 ∷ 0 ∷ 0 ∷ 0 ∷ 0 ∷ 1 ∷ 0 ∷ 0 ∷ 0 ∷ 1 ∷ 8 ∷ 5 ∷ []
unfolding varint groups header_bytes
frames-answered = refl

-- ---- a call with 150 is denied

abbrev denied : History
denied = happens (Op (Attach 0 (codes "acl") (codes "acl") opening)) ∷ request 1 1 (with_number 150) ∷ happens (Refused 1 (cause.Access (codes "acl") 1 (codes "no150"))) ∷ []

audit-denied : audit table denied ≡ codes "op 1 attach 0 acl acl\ntook 1 1 0 0 2 1 1 copy 089601\nrefused 1 1 access acl 1 no150\n"
unfolding varint groups digits encode_with
audit-denied = refl

frames-denied : joined (frames table denied) ≡ []
frames-denied = refl

-- ---- an address outside the heap, and a method that isn't there

abbrev malformed : History
malformed = call 1 0 0 14 1 1 (Copy (with_number 5)) ∷ call 2 0 0 15 1 0 (Malformed Address 0 15) ∷ happens (Refused 2 cause.Malformed)
    ∷ call 3 9 0 2 1 0 (Malformed NoMethod 0 9) ∷ happens (Refused 3 cause.Malformed) ∷ happens (Sent 1 18) ∷ []

audit-malformed : audit table malformed ≡ codes "took 1 1 0 0 14 1 1 copy 0805\ntook 1 2 0 0 15 1 0 malformed Address 0 15\n"
    ++ codes "refused 1 2 malformed\ntook 1 3 9 0 2 1 0 malformed NoMethod 0 9\nrefused 1 3 malformed\n"
    ++ codes "sent 1 1 18\n"
unfolding varint groups digits encode_with
audit-malformed = refl

frames-malformed : joined (frames table malformed) ≡ 0 ∷ 0 ∷ 0 ∷ 2 ∷ 1 ∷ 1 ∷ 0 ∷ 0 ∷ 0 ∷ 0 ∷ 0 ∷ 1 ∷ 0 ∷ 0 ∷ 0 ∷ 1 ∷ 8 ∷ 5 ∷ []
unfolding varint groups header_bytes
frames-malformed = refl

-- ---- three calls under a rate of two at once: the third is held until the next second

abbrev held : History
held = happens (Op (Attach 0 (codes "rl") (codes "rl") (holding 2))) ∷ seven 1 ∷ seven 2 ∷ seven 3 ∷ happens (Charged 1 (codes "rl") 1000)
    ∷ happens (Charged 2 (codes "rl") 0) ∷ happens (Sent 1 18) ∷ happens (Sent 2 18) ∷ happens (Moment 999) ∷ []

audit-held : audit table held ≡ codes "op 1 attach 0 rl rl\ntook 1 1 0 0 2 1 1 copy 0807\ntook 1 2 0 0 2 1 1 copy 0807\n"
    ++ codes "took 1 3 0 0 2 1 1 copy 0807\ncharged 1 1 rl 1000\ncharged 1 2 rl 0\nsent 1 1 18\n"
    ++ codes "sent 1 2 18\nmoment 1 999\n"
unfolding varint groups digits encode_with
audit-held = refl

stands-held : stands_line 1 3 0 (codes "rl") (Some (record { level = 999; cost = 1000 })) ≡ codes "stands 1 3 0 rl held 999 1000\n"
unfolding digits
stands-held = refl

stands-ready : stands_line 1 3 1 transport None ≡ codes "stands 1 3 1 -\n"
unfolding digits
stands-ready = refl

-- ---- an upgrade after two calls passed the old version

abbrev upgraded : History
upgraded = happens (Op (Attach 0 (codes "acl") (codes "p1") opening)) ∷ happens (Op (Attach 1 (codes "rl") (codes "rl") (holding 2)))
    ∷ request 1 1 (with_number 150) ∷ request 2 2 (with_number 7) ∷ happens (Charged 1 (codes "rl") 1000) ∷ happens (Charged 2 (codes "rl") 0)
    ∷ happens (Op (Upgrade (codes "acl") (codes "p2") opening)) ∷ happens (Refused 1 (cause.Access (codes "acl") 2 (codes "no150"))) ∷ happens (Sent 2 18) ∷ []

audit-upgraded : audit table upgraded ≡ codes "op 1 attach 0 acl p1\nop 1 attach 1 rl rl\ntook 1 1 0 0 2 1 1 copy 089601\n"
    ++ codes "took 1 2 0 0 2 2 1 copy 0807\ncharged 1 1 rl 1000\ncharged 1 2 rl 0\nop 1 upgrade acl p2\n"
    ++ codes "refused 1 1 access acl 2 no150\nsent 1 2 18\n"
unfolding varint groups digits encode_with
audit-upgraded = refl

frames-upgraded : joined (frames table upgraded) ≡ 0 ∷ 0 ∷ 0 ∷ 2 ∷ 1 ∷ 1 ∷ 0 ∷ 0 ∷ 0 ∷ 0 ∷ 0 ∷ 1 ∷ 0 ∷ 0 ∷ 0 ∷ 2 ∷ 8 ∷ 7 ∷ []
unfolding varint groups header_bytes
frames-upgraded = refl

-- ---- a policy that is detached and attached again

abbrev again : History
again = happens (Charged 1 (codes "rl") 0) ∷ happens (Sent 1 18) ∷ happens (Op (Detach (codes "rl"))) ∷ happens (Op (Attach 0 (codes "rl") (codes "r1") (holding 1)))
    ∷ happens (Charged 2 (codes "rl") 0) ∷ happens (Sent 2 18) ∷ []

audit-again : audit table again ≡ codes "charged 1 1 rl 0\nsent 1 1 18\nop 1 detach rl\nop 1 attach 0 rl r1\ncharged 1 2 rl 0\nsent 1 2 18\n"
unfolding digits
audit-again = refl

stands-again : stands_line 1 3 0 (codes "rl") (Some (record { level = 0; cost = 1000 })) ≡ codes "stands 1 3 0 rl held 0 1000\n"
unfolding digits
stands-again = refl

-- ---- a link that fails, a ticket past the cap, a rate that refuses, and a submission that is rejected

abbrev failing : History
failing = happens (Sent 1 18) ∷ happens (Refused 2 cause.Transport) ∷ happens (Refused 3 cause.Transport) ∷ []

audit-failing : audit table failing ≡ codes "sent 1 1 18\nrefused 1 2 transport\nrefused 1 3 transport\n"
unfolding digits
audit-failing = refl

abbrev drawn_over : History
drawn_over = happens (Op (Attach 0 (codes "q") (codes "q") (Quota 0 1000 1))) ∷ seven 1 ∷ seven 2 ∷ happens (Drawn 1 (codes "q") 0 0) ∷ happens (Drawn 2 (codes "q") 0 1)
    ∷ happens (Refused 2 (cause.Quota (codes "q") 1 1)) ∷ happens (Sent 1 18) ∷ []

audit-drawn_over : audit table drawn_over ≡ codes "op 1 attach 0 q q\ntook 1 1 0 0 2 1 1 copy 0807\ntook 1 2 0 0 2 1 1 copy 0807\n"
    ++ codes "drawn 1 1 q 0 0\ndrawn 1 2 q 0 1\nrefused 1 2 quota q 1 1\nsent 1 1 18\n"
unfolding varint groups digits encode_with
audit-drawn_over = refl

abbrev others : History
others = happens (Counted 4 (codes "c")) ∷ happens (Refused 4 (cause.Rate (codes "rl") 999 1000)) ∷ record { conn = 4294967295; what = Away 0 0 2 } ∷ []

audit-others : audit table others ≡ codes "counted 1 4 c\nrefused 1 4 rate rl 999 1000\naway 4294967295 0 0 2\n"
unfolding digits
audit-others = refl

-- ---- a field is cleared before the send: the line has the copy, and the frame has the form

abbrev two_fields : Table
two_fields = table_of (number_field 1 (codes "a") ∷ number_field 2 (codes "b") ∷ [])

-- it clears field 2 of requests
abbrev cutting : Policy
cutting = Redact (record { method = 0; sort = Request; path = record { way = []; number = 2; kind = Uint64; label = Plain } } ∷ [])

abbrev cleared : History
cleared = happens (Op (Attach 0 (codes "acl") (codes "acl") opening)) ∷ happens (Op (Attach 1 (codes "cut") (codes "cut") cutting))
    ∷ call 1 0 0 2 2 2 (Copy (field 1 (one (number 7)) (field 2 (one (number 9)) no_fields))) ∷ happens (Redacted 1 (codes "cut") 1) ∷ happens (Sent 1 18) ∷ []

audit-cleared : audit two_fields cleared ≡ codes "op 1 attach 0 acl acl\nop 1 attach 1 cut cut\ntook 1 1 0 0 2 2 2 copy 08071009\nredacted 1 1 cut 1\nsent 1 1 18\n"
unfolding varint groups digits encode_with
audit-cleared = refl

frames-cleared : joined (frames two_fields cleared) ≡ 0 ∷ 0 ∷ 0 ∷ 2 ∷ 1 ∷ 1 ∷ 0 ∷ 0 ∷ 0 ∷ 0 ∷ 0 ∷ 1 ∷ 0 ∷ 0 ∷ 0 ∷ 1 ∷ 8 ∷ 7 ∷ []
unfolding varint groups header_bytes
frames-cleared = refl
