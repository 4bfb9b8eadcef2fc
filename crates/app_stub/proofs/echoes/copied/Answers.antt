use Rattle.std.proofs.Common.{ℕ, ap, sym, subst, refl, ◌∙◌, ◌++◌, List, map, length, length-append, arith}
use Rattle.mrpc_table.specs.Calls.{message_of}
use Rattle.mrpc_table.specs.Node.{Node}
use Rattle.mrpc_table.specs.Normal.{IsNormal}
use Rattle.mrpc_table.specs.declared.call.CallKind.TheVariants.{Request}
use Rattle.mrpc_table.specs.declared.limits.TheConstants.{MAX_LOADS}
use Rattle.graph_copy.specs.Copies.{loads_since}
use Rattle.graph_form.specs.Malformed.{HasOutcome, GraphOutcome, copied, malformed}
use Rattle.shared_heap.specs.Fresh.{word_of_load}
use Rattle.shared_heap.specs.declared.view.Load.{Load}
use Rattle.app_stub.specs.EchoStates.{left, made}
use Rattle.app_stub.specs.Echoing.{RequestCopy}
use Rattle.app_stub.proofs.Copied.{copied_comes, echo_same, malformed_comes, never_replied, no_method, no_request, normal_reply, replied_by, some_method}
use Rattle.app_stub.proofs.echoes.copied.Goals as goal
use Rattle.app_stub.proofs.echoes.copied.Goals.{then-kind-ne1-via-then-kind-ne1, then-kind-ne1-via-else-kind-ne1+then-from-len}

pub returns-then-kind-ne1-clause-copies : goal.returns-then-kind-ne1-clause-copies
returns-then-kind-ne1-clause-copies c =
    let notice = c.args.notice in
    let methods = length c.args.table.now.methods in
    left
    (elim c.then-kind-ne1.branch [
      | then-kind-ne1-via-then-kind-ne1 w ↦ no_request notice.kind notice.method methods w.if-kind-ne1.true
      | then-kind-ne1-via-else-kind-ne1+then-from-len w ↦ no_method notice.kind notice.method methods (omega arith)
    ])
    refl
    (ap (λ (l : List Load). map word_of_load l) c.meet.ensures.loads)
    (λ calls were. c.calls_are_fresh.ensures.later calls c.args.desk.now.reader.known c.meet.new.self.known were c.meet.ensures.grows)

pub replied-requires-clause-normal : goal.replied-requires-clause-normal
replied-requires-clause-normal c =
    let T = c.args.table.now in
    let msg = c.message_of-message.result in
    let k = rw c.in-Copied.is at c.in_ok-answer.ensures.copied in
    let n = c.sound_tree_is_normal.ensures T c.meet.new.self.heap.words msg c.args.notice.addr k.placed c.requires.valid k.sound in
    subst (λ (m : ℕ). IsNormal T m c.in-Copied.tree) c.message_of-message.ensures.place (subst (λ (t : Node). IsNormal T msg t) (sym k.tree_is) n)

pub returns-in-Copied-clause-copies : goal.returns-in-Copied-clause-copies
returns-in-Copied-clause-copies c =
    let T = c.args.table.now in
    let notice = c.args.notice in
    let met = c.meet.new.self in
    let new = c.copy_message.new.reader in
    let own = loads_since (map word_of_load met.loads) (map word_of_load new.loads) in
    let tree = c.in-Copied.tree in
    let k = rw c.in-Copied.is at c.in_ok-answer.ensures.copied in
    let copy : RequestCopy = record { loads = record { after = notice.stores; loads = own }; outcome = copied tree } in
    let comes = copied_comes T met.heap.words c.message_of-message.result notice.addr MAX_LOADS own tree k c.copy_message.ensures.few in
    let comes' = subst (λ (m : ℕ). HasOutcome T met.heap.words m notice.addr MAX_LOADS own (copied tree)) c.message_of-message.ensures.place comes in
    let comes'' = subst (λ (h : ℕ). HasOutcome T h (message_of T notice.method Request) notice.addr MAX_LOADS own (copied tree)) (ap (λ h. h.words) c.meet.ensures.heap) comes' in
    made copy
    (some_method notice.kind notice.method (length T.methods) (omega arith) (omega arith))
    (record { comes = comes''; after = refl })
    (replied_by _ _ notice copy tree c.replied.result
    (echo_same T (record c.args.desk.now { reader = new }) c.args.desk.now refl (c.copy_message.ensures.heap
    ∙ c.meet.ensures.heap) refl) refl c.replied.ensures.tree c.replied.ensures.reply)
    (c.copy_message.ensures.adds ∙ ap (λ (l : List Load). map word_of_load l ++ own) c.meet.ensures.loads)
    (λ calls were.
    c.copy_message.ensures.fresh calls notice.stores
    (c.calls_are_fresh.ensures.later calls c.args.desk.now.reader.known met.known were c.meet.ensures.grows)
    (omega (arith, c.requires.of_heap.stores, ap length c.meet.ensures.told.1, length-append notice.note.stores c.meet.ensures.told.0)))

pub returns-in-Copied-clause-normal : goal.returns-in-Copied-clause-normal
returns-in-Copied-clause-normal c =
    let T = c.args.table.now in
    let msg = c.message_of-message.result in
    let k = rw c.in-Copied.is at c.in_ok-answer.ensures.copied in
    let n = c.sound_tree_is_normal.ensures T c.meet.new.self.heap.words msg c.args.notice.addr k.placed c.requires.valid k.sound in
    normal_reply T _ c.args.notice.method c.args.notice.number c.in-Copied.tree c.replied.result refl
    (subst (λ (m : ℕ). IsNormal T m c.in-Copied.tree) c.message_of-message.ensures.place (subst (λ (t : Node). IsNormal T msg t) (sym k.tree_is) n))
    c.replied.ensures.tree c.replied.ensures.reply

pub returns-in-Malformed-clause-copies : goal.returns-in-Malformed-clause-copies
returns-in-Malformed-clause-copies c =
    let T = c.args.table.now in
    let notice = c.args.notice in
    let met = c.meet.new.self in
    let new = c.copy_message.new.reader in
    let own = loads_since (map word_of_load met.loads) (map word_of_load new.loads) in
    let m = rw c.in-Malformed.is at c.in_ok-answer.ensures.malformed in
    let what : GraphOutcome = malformed c.in-Malformed.reason c.in-Malformed.place c.in-Malformed.value in
    let copy : RequestCopy = record { loads = record { after = notice.stores; loads = own }; outcome = what } in
    let comes = malformed_comes T met.heap.words c.message_of-message.result notice.addr MAX_LOADS own c.in-Malformed.reason c.in-Malformed.place c.in-Malformed.value m in
    let comes' = subst (λ (m : ℕ). HasOutcome T met.heap.words m notice.addr MAX_LOADS own what) c.message_of-message.ensures.place comes in
    let comes'' = subst (λ (h : ℕ). HasOutcome T h (message_of T notice.method Request) notice.addr MAX_LOADS own what) (ap (λ h. h.words) c.meet.ensures.heap) comes' in
    made copy
    (some_method notice.kind notice.method (length T.methods) (omega arith) (omega arith))
    (record { comes = comes''; after = refl })
    (never_replied _ notice copy c.in-Malformed.reason c.in-Malformed.place c.in-Malformed.value refl)
    (c.copy_message.ensures.adds ∙ ap (λ (l : List Load). map word_of_load l ++ own) c.meet.ensures.loads)
    (λ calls were.
    c.copy_message.ensures.fresh calls notice.stores
    (c.calls_are_fresh.ensures.later calls c.args.desk.now.reader.known met.known were c.meet.ensures.grows)
    (omega (arith, c.requires.of_heap.stores, ap length c.meet.ensures.told.1, length-append notice.note.stores c.meet.ensures.told.0)))
