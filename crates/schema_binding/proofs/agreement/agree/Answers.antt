use Rattle.std.proofs.Common.{◌<◌, ltb, inl, inr, arith}
use Rattle.std.proofs.lemmas.Result.{err_from_is_err_and}
use Rattle.schema_binding.specs.Agreement.{AreInAgreement, by_text, by_fields}
use Rattle.schema_binding.specs.declared.fault.AgreeFault.TheVariants.{NoService}
use Rattle.schema_binding.proofs.Agreeing.{offers_of, service_refusal, MayRefuse, text_refusal, methods_refusal, fields_refusal, no_other_refusal, memory_alone, second}
use Rattle.schema_binding.proofs.Answering.{never_both, refuse_once}
use Rattle.schema_binding.proofs.agreement.agree.Goals as goal
use Rattle.schema_binding.proofs.agreement.agree.Goals.{then-version-eq-VERSION+in_ok-same_text, else-version-eq-VERSION+in_ok-same_methods+in_ok-same_fields}

pub returns-then-methods-eq0-clause-refused : goal.returns-then-methods-eq0-clause-refused
returns-then-methods-eq0-clause-refused c =
    let T = c.args.ours.now in
    let U = c.args.theirs.now in
    let s = c.args.service.now in
    let v = c.args.version in
    let none : 0 < c.count_methods-methods.result → 0 < c.count_methods-others.result → ⊥ = λ a b. elim c.then-methods-eq0.either [
      | inl zero ↦ omega (arith, a, zero)
      | inr zero ↦ omega (arith, b, zero.1)
    ] in
    let refusal = service_refusal T U s v c.count_methods-methods.result c.count_methods-others.result c.count_methods-methods.ensures c.count_methods-others.ensures none in
    inr refusal

pub returns-then-methods-eq0-clause-agreed_only : goal.returns-then-methods-eq0-clause-agreed_only
returns-then-methods-eq0-clause-agreed_only c = λ agree.
    let T = c.args.ours.now in
    let U = c.args.theirs.now in
    let s = c.args.service.now in
    let v = c.args.version in
    let none : 0 < c.count_methods-methods.result → 0 < c.count_methods-others.result → ⊥ = λ a b. elim c.then-methods-eq0.either [
      | inl zero ↦ omega (arith, a, zero)
      | inr zero ↦ omega (arith, b, zero.1)
    ] in
    let refusal = service_refusal T U s v c.count_methods-methods.result c.count_methods-others.result c.count_methods-methods.ensures c.count_methods-others.ensures none in
    absurd (never_both T U s v (NoService (ltb 0 c.count_methods-methods.result) (ltb 0 c.count_methods-others.result)) agree refusal)

pub returns-then-methods-eq0-clause-refused_only :
    goal.returns-then-methods-eq0-clause-refused_only
returns-then-methods-eq0-clause-refused_only c = λ why refuses.
    let T = c.args.ours.now in
    let U = c.args.theirs.now in
    let s = c.args.service.now in
    let v = c.args.version in
    let none : 0 < c.count_methods-methods.result → 0 < c.count_methods-others.result → ⊥ = λ a b. elim c.then-methods-eq0.either [
      | inl zero ↦ omega (arith, a, zero)
      | inr zero ↦ omega (arith, b, zero.1)
    ] in
    let refusal = service_refusal T U s v c.count_methods-methods.result c.count_methods-others.result c.count_methods-methods.ensures c.count_methods-others.ensures none in
    inr (refuse_once T U s v (NoService (ltb 0 c.count_methods-methods.result) (ltb 0 c.count_methods-others.result)) why refusal refuses)

pub returns-in_err-same_text-clause-refused : goal.returns-in_err-same_text-clause-refused
returns-in_err-same_text-clause-refused c =
    let T = c.args.ours.now in
    let U = c.args.theirs.now in
    let s = c.args.service.now in
    let v = c.args.version in
    let o = offers_of T s c.count_methods-methods.result c.count_methods-methods.ensures c.if-methods-eq0.false in
    let p = offers_of U s c.count_methods-others.result c.count_methods-others.ensures c.if-others-eq0.false in
    let may : MayRefuse T U s v c.in_err-same_text.field-0.0 = text_refusal T U s v c.in_err-same_text.field-0.0 c.if-version-eq-VERSION.true o p c.in_err-same_text.ensures.differ in
    let q = err_from_is_err_and c.from_residual.result c.from_residual.ensures.1 in
    rw (q.1, q.2) may

pub returns-in_err-same_text-clause-refused_only :
    goal.returns-in_err-same_text-clause-refused_only
returns-in_err-same_text-clause-refused_only c = λ why refuses.
    let T = c.args.ours.now in
    let U = c.args.theirs.now in
    let s = c.args.service.now in
    let v = c.args.version in
    let o = offers_of T s c.count_methods-methods.result c.count_methods-methods.ensures c.if-methods-eq0.false in
    let p = offers_of U s c.count_methods-others.result c.count_methods-others.ensures c.if-others-eq0.false in
    let may : MayRefuse T U s v c.in_err-same_text.field-0.0 = text_refusal T U s v c.in_err-same_text.field-0.0 c.if-version-eq-VERSION.true o p c.in_err-same_text.ensures.differ in
    let q = err_from_is_err_and c.from_residual.result c.from_residual.ensures.1 in
    rw (q.1, q.2) (no_other_refusal T U s v c.in_err-same_text.field-0.0 why may refuses)

pub returns-in_err-same_methods-clause-refused : goal.returns-in_err-same_methods-clause-refused
returns-in_err-same_methods-clause-refused c =
    let T = c.args.ours.now in
    let U = c.args.theirs.now in
    let s = c.args.service.now in
    let v = c.args.version in
    let o = offers_of T s c.count_methods-methods.result c.count_methods-methods.ensures c.if-methods-eq0.false in
    let p = offers_of U s c.count_methods-others.result c.count_methods-others.ensures c.if-others-eq0.false in
    let may : MayRefuse T U s v c.in_err-same_methods.field-0.0 =
    inr (methods_refusal T U s v c.in_err-same_methods.field-0.0
    (second v c.requires.version c.if-version-eq-VERSION.false) o p c.in_err-same_methods.ensures.differ) in
    let q = err_from_is_err_and c.from_residual-in_err-same_methods.result c.from_residual-in_err-same_methods.ensures.1 in
    rw (q.1, q.2) may

pub returns-in_err-same_methods-clause-refused_only :
    goal.returns-in_err-same_methods-clause-refused_only
returns-in_err-same_methods-clause-refused_only c = λ why refuses.
    let T = c.args.ours.now in
    let U = c.args.theirs.now in
    let s = c.args.service.now in
    let v = c.args.version in
    let o = offers_of T s c.count_methods-methods.result c.count_methods-methods.ensures c.if-methods-eq0.false in
    let p = offers_of U s c.count_methods-others.result c.count_methods-others.ensures c.if-others-eq0.false in
    let may : MayRefuse T U s v c.in_err-same_methods.field-0.0 =
    inr (methods_refusal T U s v c.in_err-same_methods.field-0.0
    (second v c.requires.version c.if-version-eq-VERSION.false) o p c.in_err-same_methods.ensures.differ) in
    let q = err_from_is_err_and c.from_residual-in_err-same_methods.result c.from_residual-in_err-same_methods.ensures.1 in
    rw (q.1, q.2) (no_other_refusal T U s v c.in_err-same_methods.field-0.0 why may refuses)

pub returns-in_err-same_fields-clause-refused : goal.returns-in_err-same_fields-clause-refused
returns-in_err-same_fields-clause-refused c =
    let T = c.args.ours.now in
    let U = c.args.theirs.now in
    let s = c.args.service.now in
    let v = c.args.version in
    let o = offers_of T s c.count_methods-methods.result c.count_methods-methods.ensures c.if-methods-eq0.false in
    let p = offers_of U s c.count_methods-others.result c.count_methods-others.ensures c.if-others-eq0.false in
    let may : MayRefuse T U s v c.in_err-same_fields.field-0.0 =
    fields_refusal T U s v c.in_err-same_fields.field-0.0
    (second v c.requires.version c.if-version-eq-VERSION.false) o p c.in_ok-same_methods.ensures.same
    c.in_err-same_fields.ensures.differ in
    let q = err_from_is_err_and c.from_residual-in_err-same_fields.result c.from_residual-in_err-same_fields.ensures.1 in
    rw (q.1, q.2) may

pub returns-in_err-same_fields-clause-agreed_only : goal.returns-in_err-same_fields-clause-agreed_only
returns-in_err-same_fields-clause-agreed_only c = λ agree.
    let T = c.args.ours.now in
    let U = c.args.theirs.now in
    let s = c.args.service.now in
    let v = c.args.version in
    let o = offers_of T s c.count_methods-methods.result c.count_methods-methods.ensures c.if-methods-eq0.false in
    let p = offers_of U s c.count_methods-others.result c.count_methods-others.ensures c.if-others-eq0.false in
    let may : MayRefuse T U s v c.in_err-same_fields.field-0.0 =
    fields_refusal T U s v c.in_err-same_fields.field-0.0
    (second v c.requires.version c.if-version-eq-VERSION.false) o p c.in_ok-same_methods.ensures.same
    c.in_err-same_fields.ensures.differ in
    let q = err_from_is_err_and c.from_residual-in_err-same_fields.result c.from_residual-in_err-same_fields.ensures.1 in
    rw (q.1, q.2) (memory_alone T U s v c.in_err-same_fields.field-0.0 may agree)

pub returns-in_err-same_fields-clause-refused_only :
    goal.returns-in_err-same_fields-clause-refused_only
returns-in_err-same_fields-clause-refused_only c = λ why refuses.
    let T = c.args.ours.now in
    let U = c.args.theirs.now in
    let s = c.args.service.now in
    let v = c.args.version in
    let o = offers_of T s c.count_methods-methods.result c.count_methods-methods.ensures c.if-methods-eq0.false in
    let p = offers_of U s c.count_methods-others.result c.count_methods-others.ensures c.if-others-eq0.false in
    let may : MayRefuse T U s v c.in_err-same_fields.field-0.0 =
    fields_refusal T U s v c.in_err-same_fields.field-0.0
    (second v c.requires.version c.if-version-eq-VERSION.false) o p c.in_ok-same_methods.ensures.same
    c.in_err-same_fields.ensures.differ in
    let q = err_from_is_err_and c.from_residual-in_err-same_fields.result c.from_residual-in_err-same_fields.ensures.1 in
    rw (q.1, q.2) (no_other_refusal T U s v c.in_err-same_fields.field-0.0 why may refuses)

pub returns-clause-agreed : goal.returns-clause-agreed
returns-clause-agreed c =
    let T = c.args.ours.now in
    let U = c.args.theirs.now in
    let s = c.args.service.now in
    let v = c.args.version in
    let o = offers_of T s c.count_methods-methods.result c.count_methods-methods.ensures c.if-methods-eq0.false in
    let p = offers_of U s c.count_methods-others.result c.count_methods-others.ensures c.if-others-eq0.false in
    let agree : AreInAgreement T U s v = elim c.if-version-eq-VERSION.branch [
      | then-version-eq-VERSION+in_ok-same_text w ↦ by_text w.if-version-eq-VERSION.true o p w.in_ok-same_text.ensures.same
      | else-version-eq-VERSION+in_ok-same_methods+in_ok-same_fields w ↦
          by_fields (second v c.requires.version w.if-version-eq-VERSION.false) o p w.in_ok-same_methods.ensures.same w.in_ok-same_fields.ensures.same
    ] in
    agree

pub returns-clause-refused_only : goal.returns-clause-refused_only
returns-clause-refused_only c = λ why refuses.
    let T = c.args.ours.now in
    let U = c.args.theirs.now in
    let s = c.args.service.now in
    let v = c.args.version in
    let o = offers_of T s c.count_methods-methods.result c.count_methods-methods.ensures c.if-methods-eq0.false in
    let p = offers_of U s c.count_methods-others.result c.count_methods-others.ensures c.if-others-eq0.false in
    let agree : AreInAgreement T U s v = elim c.if-version-eq-VERSION.branch [
      | then-version-eq-VERSION+in_ok-same_text w ↦ by_text w.if-version-eq-VERSION.true o p w.in_ok-same_text.ensures.same
      | else-version-eq-VERSION+in_ok-same_methods+in_ok-same_fields w ↦
          by_fields (second v c.requires.version w.if-version-eq-VERSION.false) o p w.in_ok-same_methods.ensures.same w.in_ok-same_fields.ensures.same
    ] in
    never_both T U s v why agree refuses
