use Rattle.std.proofs.Common.{◌≡◌, ℕ, [], ◌∷◌, ◌++◌, length, sym, subst, arith, ap, ◌∙◌}
use Rattle.mrpc_table.specs.WireTypes.{wire_type_of}
use Rattle.wire_base.specs.Records.{IsPayloadAt}
use Rattle.wire_base.specs.declared.records.Payload.{Payload}
use Rattle.mrpc_table.specs.Node.{push_item, number}
use Rattle.mrpc_table.specs.View.{items_of}
use Rattle.wire_decode.proofs.Views.{items_of-last}
use Rattle.mrpc_table.specs.declared.tree.Value.TheVariants.{Number}
use Rattle.wire_decode.proofs.Elements.{IsElement, sofar-start, sofar-more, sofar-end, sofar-stuck, numbers-last}
use Rattle.wire_decode.proofs.Faulty.{faults_as}
use Rattle.wire_decode.proofs.read.elements.Goals as goal

pub returns-in-None-clause-fault : goal.returns-in-None-clause-fault
returns-in-None-clause-fault c =
    let none = λ (p : Payload) (next : ℕ) (here : IsPayloadAt c.args.bytes.now c.loop-at.at (wire_type_of c.args.kind) p
    next). c.in-None.ensures.none p next (let P : ℕ
    → Type 0 = λ w. IsPayloadAt c.args.bytes.now c.loop-at.at w p next in
    subst P (sym c.wire_type-wire_type.ensures.value) here) in
    faults_as _ _ c.fault.result c.fault.ensures
    (λ r p h. (
      h.0,
      h.1,
      sofar-stuck c.args.kind c.args.bytes.now c.args.start c.loop-at.at c.loop-at.invariant.1
          c.loop-at-test.true c.loop-at.invariant.2 none,
    ))

pub loop-at-preserved : goal.loop-at-preserved
loop-at-preserved c =
    let P : ℕ → Type 0 = λ w. IsElement c.args.bytes.now c.loop-at.at w c.in-Some.found in
    let here : P (wire_type_of c.args.kind) = subst P c.wire_type-wire_type.ensures.value c.in-Some.ensures.found in
    let done = c.loop-at.invariant.1 in
    let word = c.word_form_of.result in
    let items = ap items_of c.in_ok-push.ensures.items ∙ items_of-last c.loop-at.values.items (Number word)
    ∙ ap (λ is. push_item is (number word)) c.loop-at.invariant.3 ∙ sym (numbers-last done word) in (
      c.in-Some.ensures.within,
      done ++ word ∷ [],
      sofar-more c.payload_or_reason.ensures.one_payload c.args.kind c.args.bytes.now c.args.start c.loop-at.at
          c.in-Some.found.1 c.in-Some.found.0 word done c.loop-at-test.true c.loop-at.invariant.2 here
          c.word_form_of.ensures,
      items,
    )

pub returns-clause-found : goal.returns-clause-found
returns-clause-found c =
    let ends : c.loop-at.at ≡ length c.args.bytes.now = omega (arith, c.loop-at-test.false, c.loop-at.invariant.0) in
    (c.loop-at.invariant.1, sofar-end c.args.kind c.args.bytes.now c.args.start c.loop-at.at c.loop-at.invariant.1 ends c.loop-at.invariant.2, c.loop-at.invariant.3)

pub loop-at-init : goal.loop-at-init
loop-at-init c = (c.requires.place, [], sofar-start c.args.kind c.args.bytes.now c.args.start, ap items_of (c.reserve_exact.ensures.items ∙ c.requires.empty))
