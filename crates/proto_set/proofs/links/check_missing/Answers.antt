use Rattle.std.proofs.Common.{◌≡◌, inl, inr, sym, subst, arith}
use Rattle.std.proofs.lemmas.Bool.{cases_lt}
use Rattle.std.proofs.lemmas.Option.{slice_get_within}
use Rattle.std.proofs.lemmas.Result.{err_from_is_err_and}
use Rattle.proto_set.specs.Linking.{HasNoFaultOfAt}
use Rattle.proto_set.specs.declared.import_fault.ImportReason.TheVariants.{Missing}
use Rattle.proto_set.proofs.Judging.{none_above_missing, first_is, missing_parts}
use Rattle.proto_set.proofs.links.check_missing.Goals as goal

pub loop-file-init : goal.loop-file-init
loop-file-init c = λ i l n f. absurd (omega arith)

pub returns-in_err-check_missing_in-clause-fault : goal.returns-in_err-check_missing_in-clause-fault
returns-in_err-check_missing_in-clause-fault c =
    let p = err_from_is_err_and c.from_residual.result c.from_residual.ensures.1 in
    let set = c.args.members.now in
    let e = c.in_err-check_missing_in.field-0.0 in
    rw (p.1, p.2)
    (first_is set Missing c.loop-file.file e (none_above_missing set) c.loop-file.invariant c.in_err-check_missing_in.ensures.fault)

pub loop-file-preserved : goal.loop-file-preserved
loop-file-preserved c = λ i l n f.
    elim (cases_lt i c.loop-file.file) [
      | inl old ↦ c.loop-file.invariant i old n f
      | inr new ↦
          let e : i ≡ c.loop-file.file = omega arith in
          subst (HasNoFaultOfAt c.args.members.now Missing) (sym e) c.in_ok-check_missing_in.ensures.ok n f
    ]

pub returns-clause-ok : goal.returns-clause-ok
returns-clause-ok c = λ i n f.
    let p = missing_parts f in
    let l = slice_get_within c.args.members.now i p.import_at.member p.import_at.member_at in
    c.loop-file.invariant i (omega (arith, l)) n f
