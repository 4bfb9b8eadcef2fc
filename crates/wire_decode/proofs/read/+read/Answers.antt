use Rattle.std.proofs.Common.{◌≡◌, ◌≢◌, ◌∙◌, ℕ, suc, ◌-◌, ◌<◌, List, length, true, ap, sym, subst, refl, arith, ⊎_elim, [], ◌∷◌}
use Rattle.std.proofs.lemmas.Result.{err_from_is_err_and}
use Rattle.mrpc_table.specs.Node.{Node, Content, one, number}
use Rattle.std.proofs.lemmas.Option.{slice_get_read}
use Rattle.wire_decode.proofs.Views.{node_of-last}
use Rattle.mrpc_table.specs.View.{content_of, node_of}
use Rattle.mrpc_table.specs.declared.table.Field.{Field}
use Rattle.mrpc_table.specs.declared.table.Kind.TheVariants.{Text, Octets, Message as OfMessage}
use Rattle.mrpc_table.specs.declared.table.Label.TheVariants.{Map, Optional}
use Rattle.wire_base.specs.declared.records.Payload.{Payload}
use Rattle.wire_base.specs.declared.records.Payload.TheVariants.{Len}
use Rattle.wire_decode.specs.Words.{accepts_payload, word_form_of, payload_number, payload_type}
use Rattle.wire_decode.specs.RawMessages.{IsRawMessage, IsContentUnder}
use Rattle.wire_decode.specs.Known.{is_message_kind}
use Rattle.wire_decode.specs.FaultWalk.{IsFaultReached, no_record, in_payload}
use Rattle.wire_decode.specs.Parts.{entry_room, inner_fault}
use Rattle.wire_decode.proofs.Faulty.{faults_as}
use Rattle.wire_decode.proofs.Contents.{number-holds, packs, not_map, numeric-kind, unknown, unsuited, answers-at}
use Rattle.wire_decode.proofs.Contents.{entry-answers, message-answers, text-answers, octets-answers, packed-answers}
use Rattle.wire_decode.proofs.Reading.{Read, read-more_other, read-more_known, read-done, record-smaller}
use Rattle.wire_decode.proofs.read.+read.Goals as goal

pub content-returns-in-I32-clause-found : goal.content-returns-in-I32-clause-found
content-returns-in-I32-clause-found t c =
    let p = c.args.payload in
    let short : payload_type p ≢ 2 = λ e. (let f : 5 ≡ 2 = ap payload_type (sym c.in-I32.is) ∙ e in omega (arith, f)) in
    let value : c.from.result ≡ payload_number p = c.from.ensures ∙ ap payload_number (sym c.in-I32.is) in
    let same = c.number.ensures ∙ ap (λ v. one (number (word_form_of c.args.kind v))) value in
    let P : Content → Type 0 = λ x. IsContentUnder c.args.table.now c.args.room c.args.label c.args.kind c.args.bytes.now p x in
    subst P (sym same) (number-holds c.args.table.now c.args.room c.args.label c.args.kind c.args.bytes.now p c.requires.suits short)

pub content-returns-in-Varint-clause-found : goal.content-returns-in-Varint-clause-found
content-returns-in-Varint-clause-found t c =
    let p = c.args.payload in
    let v = c.in-Varint.v in
    let short : payload_type p ≢ 2 =
    λ e. ⊎_elim (λ is. (let f : 0 ≡ 2 = ap payload_type (sym is) ∙ e in omega (arith, f)))
    (λ is. (let f : 1 ≡ 2 = ap payload_type (sym is) ∙ e in omega (arith, f))) c.in-Varint.is in
    let value : v ≡ payload_number p = ⊎_elim (λ is. ap payload_number (sym is)) (λ is. ap payload_number (sym is)) c.in-Varint.is in
    let same = c.number-in-Varint.ensures ∙ ap (λ v. one (number (word_form_of c.args.kind v))) value in
    let P : Content → Type 0 = λ x. IsContentUnder c.args.table.now c.args.room c.args.label c.args.kind c.args.bytes.now p x in
    subst P (sym same) (number-holds c.args.table.now c.args.room c.args.label c.args.kind c.args.bytes.now p c.requires.suits short)

pub content-returns-in-Map-default : goal.content-returns-in-Map-default
content-returns-in-Map-default t c =
    let key = c.in-Map-default.key in
    let a = answers-at c.args.table.now c.args.room c.args.label (Map key) c.args.kind c.args.kind c.args.bytes.now
    c.args.payload (Len c.in-Len.start c.in-Len.end) c.entry.result c.in-Map-default.is-0 refl c.in-Len.is
    (entry-answers c.args.table.now c.args.room key c.args.kind c.args.bytes.now c.in-Len.start c.in-Len.end c.entry.result c.entry.ensures.found c.entry.ensures.fault) in
    record { found = a.found; fault = a.fault }

pub content-returns-in_default-Text : goal.content-returns-in_default-Text
content-returns-in_default-Text t c =
    let a = answers-at c.args.table.now c.args.room c.args.label c.args.label c.args.kind Text c.args.bytes.now
    c.args.payload (Len c.in-Len.start c.in-Len.end) c.text.result refl c.in_default-Text.is-1 c.in-Len.is
    (text-answers c.args.table.now c.args.room c.args.label c.args.bytes.now c.in-Len.start c.in-Len.end c.text.result
    (not_map c.args.label c.in_default-Text.not-Map-0) c.text.ensures.found c.text.ensures.fault) in
    record { found = a.found; fault = a.fault }

pub content-returns-in_default-Octets : goal.content-returns-in_default-Octets
content-returns-in_default-Octets t c =
    let a = answers-at c.args.table.now c.args.room c.args.label c.args.label c.args.kind Octets c.args.bytes.now
    c.args.payload (Len c.in-Len.start c.in-Len.end) c.octets.result refl c.in_default-Octets.is-1 c.in-Len.is
    (octets-answers c.args.table.now c.args.room c.args.label c.args.bytes.now c.in-Len.start c.in-Len.end
    c.octets.result (not_map c.args.label c.in_default-Octets.not-Map-0) c.octets.ensures.found
    c.octets.ensures.fault) in
    record { found = a.found; fault = a.fault }

pub content-returns-in_default-Message : goal.content-returns-in_default-Message
content-returns-in_default-Message t c =
    let i = c.in_default-Message.place in
    let a = answers-at c.args.table.now c.args.room c.args.label c.args.label c.args.kind
    (OfMessage i) c.args.bytes.now c.args.payload (Len c.in-Len.start c.in-Len.end) c.message.result refl
    c.in_default-Message.is-1 c.in-Len.is
    (message-answers c.args.table.now c.args.room c.args.label i c.args.bytes.now c.in-Len.start c.in-Len.end
    c.message.result (not_map c.args.label c.in_default-Message.not-Map-0) c.message.ensures.found
    c.message.ensures.fault) in
    record { found = a.found; fault = a.fault }

pub content-returns-in_default : goal.content-returns-in_default
content-returns-in_default t c =
    let P : Payload → Type 0 = λ p. accepts_payload c.args.label c.args.kind p ≡ true in
    let fits = subst P c.in-Len.is c.requires.suits in
    let numeric = numeric-kind c.args.kind c.in_default.not-Text-1 c.in_default.not-Octets-1 c.in_default.not-Message-1 in
    let packed = packs c.args.label c.args.kind c.in-Len.start c.in-Len.end fits (not_map c.args.label c.in_default.not-Map-0) numeric in
    let a = answers-at c.args.table.now c.args.room c.args.label c.args.label c.args.kind c.args.kind c.args.bytes.now
    c.args.payload (Len c.in-Len.start c.in-Len.end) c.packed.result refl refl c.in-Len.is
    (packed-answers c.args.table.now c.args.room c.args.label c.args.kind c.args.bytes.now c.in-Len.start c.in-Len.end
    c.packed.result packed c.packed.ensures.found c.packed.ensures.fault) in
    record { found = a.found; fault = a.fault }

pub entry-returns-then-is_message_kind-clause-fault : goal.entry-returns-then-is_message_kind-clause-fault
entry-returns-then-is_message_kind-clause-fault t c =
    let a_message : is_message_kind c.args.kind ≡ true = sym c.is_message_kind.ensures ∙ c.if-is_message_kind.true in
    let P : List ℕ → Type 0 =
    λ n. IsRawMessage c.args.table.now c.args.room (record { number = 1; name = n; kind = c.args.key; label = Optional }
    ∷ record { number = 2; name = c.new-2.result; kind = c.args.kind; label = Optional } ∷ []) c.args.bytes.now
    c.args.start (node_of c.in_ok-fields.fields.items) in
    let Q : List ℕ → Type 0 =
    λ n. IsRawMessage c.args.table.now c.args.room (record { number = 1; name = []; kind = c.args.key; label = Optional }
    ∷ record { number = 2; name = n; kind = c.args.kind; label = Optional } ∷ []) c.args.bytes.now c.args.start
    (node_of c.in_ok-fields.fields.items) in
    let reads = subst Q c.new-2.ensures (subst P c.new.ensures c.in_ok-fields.ensures.found) in
    faults_as _ _ c.fault.result c.fault.ensures (λ r p h. entry_room (node_of c.in_ok-fields.fields.items) reads
    (λ has. (let more : 0 < c.args.room = has a_message in let none = c.if-room-eq0.true in omega arith)) h.0 h.1)

pub message-returns-in_err-fields-clause-fault : goal.message-returns-in_err-fields-clause-fault
message-returns-in_err-fields-clause-fault t c =
    let more : c.args.room ≡ suc (c.args.room - 1) = omega (arith, c.if-room-eq0.false) in
    let p = err_from_is_err_and c.from_residual.result c.from_residual.ensures.1 in
    rw (p.1, p.2) (faults_as _ _ c.in_err-fields.field-0.0 c.in_err-fields.ensures.fault
    (λ r at h. inner_fault (c.args.room - 1) more (let P : List Field
    → Type 0 = λ fs. IsFaultReached c.args.table.now (c.args.room - 1) fs c.args.bytes.now c.args.start r at in
    subst P c.fields.ensures.value h)))

pub read_message-returns-in-Err-clause-fault : goal.read_message-returns-in-Err-clause-fault
read_message-returns-in-Err-clause-fault t c =
    faults_as _ _ c.to_decode_fault.result c.to_decode_fault.ensures (λ r p h. c.loop-at.invariant.2.bad r p (no_record c.in-Err.fault c.loop-at-test.true c.in-Err.ensures.fault h.0 h.1))

pub read_message-returns-in_err-content-clause-fault : goal.read_message-returns-in_err-content-clause-fault
read_message-returns-in_err-content-clause-fault t c =
    let f = c.index-fields-place.result in
    let known = sym c.in-Some.ensures.found ∙ slice_get_read c.args.fields.now (length c.args.fields.now) c.in-Some.place f refl c.in-Some.ensures.bound c.index-fields-place.is in
    let p = err_from_is_err_and c.from_residual.result c.from_residual.ensures.1 in
    rw (p.1, p.2) (faults_as _ _ c.in_err-content.field-0.0 c.in_err-content.ensures.fault
    (λ r at h. c.loop-at.invariant.2.bad r at (in_payload c.in-Ok.record f c.in-Ok.ensures.found known h)))

pub read_message-loop-at-preserved-in_ok-push : goal.read_message-loop-at-preserved-in_ok-push
read_message-loop-at-preserved-in_ok-push t c =
    let f = c.index-fields-place.result in
    let r = c.in-Ok.record in
    let known = sym c.in-Some.ensures.found ∙ slice_get_read c.args.fields.now (length c.args.fields.now) c.in-Some.place f refl c.in-Some.ensures.bound c.index-fields-place.is in
    let more = read-more_known c.args.table.now c.args.room c.args.fields.now c.args.bytes.now c.args.start
    c.loop-at.at (node_of c.loop-at.parts.items) r f (content_of c.in_ok-content.content) c.in-Ok.ensures.found
    known c.in_ok-content.ensures.found c.loop-at.invariant.2 in
    let same = ap node_of c.in_ok-push.ensures.items ∙ node_of-last c.loop-at.parts.items (r.number, c.in_ok-content.content) in
    let P : Node → Type 0 = λ u. Read c.args.table.now c.args.room c.args.fields.now c.args.bytes.now c.args.start r.next u in
    (omega (arith, c.loop-at.invariant.0, c.in-Ok.ensures.ahead), c.in-Ok.ensures.within, subst P (sym same) more)

pub read_message-loop-at-preserved-else-accepts_payload : goal.read_message-loop-at-preserved-else-accepts_payload
read_message-loop-at-preserved-else-accepts_payload t c =
    let f = c.index-fields-place.result in
    let r = c.in-Ok.record in
    let known = sym c.in-Some.ensures.found ∙ slice_get_read c.args.fields.now (length c.args.fields.now) c.in-Some.place f refl c.in-Some.ensures.bound c.index-fields-place.is in
    let other = unsuited c.args.fields.now r f known (sym c.accepts_payload.ensures ∙ c.if-accepts_payload.false) in (
      omega (arith, c.loop-at.invariant.0, c.in-Ok.ensures.ahead),
      c.in-Ok.ensures.within,
      read-more_other c.args.table.now c.args.room c.args.fields.now c.args.bytes.now c.args.start c.loop-at.at
          (node_of c.loop-at.parts.items) r c.in-Ok.ensures.found other c.loop-at.invariant.2,
    )

pub read_message-loop-at-preserved : goal.read_message-loop-at-preserved
read_message-loop-at-preserved t c =
    let r = c.in-Ok.record in
    let other = unknown c.args.fields.now r c.in_default.ensures.absent in (
      omega (arith, c.loop-at.invariant.0, c.in-Ok.ensures.ahead),
      c.in-Ok.ensures.within,
      read-more_other c.args.table.now c.args.room c.args.fields.now c.args.bytes.now c.args.start c.loop-at.at
          (node_of c.loop-at.parts.items) r c.in-Ok.ensures.found other c.loop-at.invariant.2,
    )

pub read_message-returns-clause-found : goal.read_message-returns-clause-found
read_message-returns-clause-found t c =
    let ends : c.loop-at.at ≡ length c.args.bytes.now = omega (arith, c.loop-at-test.false, c.loop-at.invariant.1) in
    read-done c.args.table.now c.args.room c.args.fields.now c.args.bytes.now c.args.start c.loop-at.at (node_of c.loop-at.parts.items) ends c.loop-at.invariant.2

pub read_message-content-requires : goal.read_message-content-requires
read_message-content-requires t c =
    let small = record-smaller c.args.bytes.now c.loop-at.at c.in-Ok.record c.in-Ok.ensures.found c.loop-at-test.true c.in-Ok.ensures.span in
    (omega (arith, small, c.decreases, c.loop-at.invariant.0), (c.requires.all, (c.in-Ok.ensures.span, sym c.accepts_payload.ensures ∙ c.if-accepts_payload.true)))
