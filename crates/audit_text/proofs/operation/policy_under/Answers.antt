use Rattle.std.proofs.Common.{◌≡◌, ◌∙◌, Some, None, ap, refl, sym, slice_get}
use Rattle.std.proofs.lemmas.Option.{slice_get-get_or}
use Rattle.policy_declarations.specs.Declarations.{policy_index}
use Rattle.audit_text.proofs.Labelled.{under-place}
use Rattle.audit_text.proofs.operation.policy_under.Goals as goal

pub returns-in_err-place : goal.returns-in_err-place
returns-in_err-place c =
    let label = c.args.label.now in
    let declared = c.args.declared.now in
    let nowhere : policy_index declared label ≡ None = cc (c.policy.ensures, c.in_err-place.was) in
    rw c.from_residual.ensures (sym (under-place label declared None None nowhere refl))

pub returns : goal.returns
returns c =
    let label = c.args.label.now in
    let declared = c.args.declared.now in
    let place = c.in_ok-place.place in
    let named = c.in_ok-get.field-0.now in
    let is : policy_index declared label ≡ Some place = cc (c.policy.ensures, c.in_ok-place.was) in
    let item = c.in_ok-get.ensures.lookup.3 in
    let there : slice_get declared.policies place ≡ Some named =
    ap (λ l. slice_get l place) (sym c.policies.ensures)
    ∙ slice_get-get_or c.policies.result.now place named item.0 ∙ ap Some (sym (item.1 named)) in
    sym (under-place label declared (Some place) (Some named) is there)
