use Rattle.std.proofs.Common.{◌≡◌, ℕ, ◌+◌, ◌-◌, ◌^◌, ◌<◌, ◌≤◌, List, length, refl, ap, subst, sym, ◌∙◌, arith}
use Rattle.std.specs.Prelude.{min, Some, slice_get}
use Rattle.std.proofs.lemmas.List.{take_all}
use Rattle.std.specs.List.{flat_map}
use Rattle.proto_ast.specs.Together.{IsOrdered}
use Rattle.proto_ast.specs.declared.file.ServiceDecl.{ServiceDecl}
use Rattle.proto_ast.specs.Joined.{Joined, package_at}
use Rattle.schema_validation.specs.Methods.{service_rpcs, rpcs_of}
use Rattle.schema_validation.specs.Members.{IsMethodViolation}
use Rattle.schema_validation.specs.Recording.{HasRecorded, IsOfFirst, IsOfElement, IsMethodViolationAt}
use Rattle.schema_validation.proofs.Formed.{service_file}
use Rattle.schema_validation.proofs.Meetings.{meets_start, meets_next, meets_elements, item_at}
use Rattle.schema_validation.proofs.Serving.{methods_of, methods_more, rpc_at, meets_counted}
use Rattle.schema_validation.proofs.services.note_methods.Goals as goal

pub loop-service-init : goal.loop-service-init
loop-service-init c = record { meets = meets_start _ _; count = refl }

pub loop-service-preserved : goal.loop-service-preserved
loop-service-preserved c =
    let services = c.args.files.now.services in
    let i = c.loop-service.service-index in
    let x = c.service-item.result in
    let l : i < length services = omega (arith, ap length c.services-service-items.ensures, c.loop-service-test.true) in
    let at : slice_get services i ≡ Some x =
    item_at c.services-service-items.result.now services i x c.services-service-items.ensures l c.service-item.is in
    let all : c.loop-rpc.rpc-index ≡ length x.rpcs =
    omega (arith, ap length c.as_slice-rpc-items.ensures, c.loop-rpc-test.false, c.loop-rpc.auto.rpc-index-end) in
    let n : ℕ = methods_of services i in
    let more : methods_of services (i + 1) ≡ n + length x.rpcs = methods_more services i x at in
    let same : n + c.loop-rpc.rpc-index ≡ methods_of services (i + 1) = omega arith in
    record {
      meets = subst (λ (k : ℕ). HasRecorded (IsOfFirst k (IsOfElement (rpcs_of c.args.files.now) (IsMethodViolationAt c.args.files.now)))
          c.args.first.now
          c.loop-rpc.first) same c.loop-rpc.invariant.meets;
      count = c.loop-rpc.invariant.count ∙ ap (λ (k : ℕ). min k (2 ^ 64 - 1)) same;
    }

pub loop-rpc-init : goal.loop-rpc-init
loop-rpc-init c =
    let n : ℕ = methods_of c.args.files.now.services c.loop-service.service-index in
    let same : n ≡ n + 0 = omega arith in
    record {
      meets = subst (λ (k : ℕ). HasRecorded (IsOfFirst k (IsOfElement (rpcs_of c.args.files.now) (IsMethodViolationAt c.args.files.now)))
          c.args.first.now
          c.loop-service.first) same c.loop-service.invariant.meets;
      count = c.loop-service.invariant.count ∙ ap (λ (k : ℕ). min k (2 ^ 64 - 1)) same;
    }

pub loop-rpc-preserved : goal.loop-rpc-preserved
loop-rpc-preserved c =
    let F = c.args.files.now in
    let services = F.services in
    let i = c.loop-service.service-index in
    let j = c.loop-rpc.rpc-index in
    let x = c.service-item.result in
    let r = c.rpc-item.result in
    let l : i < length services = omega (arith, ap length c.services-service-items.ensures, c.loop-service-test.true) in
    let at : slice_get services i ≡ Some x =
    item_at c.services-service-items.result.now services i x c.services-service-items.ensures l c.service-item.is in
    let k : j < length x.rpcs = omega (arith, ap length c.as_slice-rpc-items.ensures, c.loop-rpc-test.true) in
    let rat : slice_get x.rpcs j ≡ Some r =
    item_at c.as_slice-rpc-items.result.now x.rpcs j r c.as_slice-rpc-items.ensures k c.rpc-item.is in
    let n : ℕ = methods_of services i + j in
    let next : methods_of services i + (j + 1) ≡ n + 1 = omega arith in
    let step : HasRecorded (IsMethodViolation F x.file (package_at F x.file) c.loop-rpc.methods r) c.loop-rpc.first
    c.note_method.new.first =
    subst (λ (G : Joined). HasRecorded (IsMethodViolation G x.file (package_at G x.file) c.loop-rpc.methods r) c.loop-rpc.first
    c.note_method.new.first)
    c.requires.scopes c.note_method.ensures in
    let more : HasRecorded (IsOfFirst (n + 1) (IsOfElement (rpcs_of F) (IsMethodViolationAt F))) c.args.first.now c.note_method.new.first =
    meets_next (rpcs_of F) (IsMethodViolationAt F) n (x, r) c.args.first.now c.loop-rpc.first c.note_method.new.first
    (rpc_at services i j x r at rat) c.loop-rpc.invariant.meets
    (meets_counted F x.file (package_at F x.file) c.loop-rpc.methods n r c.loop-rpc.first c.note_method.new.first
    c.loop-rpc.invariant.count step) in
    let before : c.loop-rpc.methods ≡ min n (2 ^ 64 - 1) = c.loop-rpc.invariant.count in
    let after : c.saturating_add-methods.result ≡ min (c.loop-rpc.methods + 1) (2 ^ 64 - 1) =
    c.saturating_add-methods.ensures in
    let counted : c.saturating_add-methods.result ≡ min (n + 1) (2 ^ 64 - 1) = omega arith in
    record {
      meets = subst (λ (k : ℕ). HasRecorded (IsOfFirst k (IsOfElement (rpcs_of F) (IsMethodViolationAt F))) c.args.first.now
          c.note_method.new.first)
          (sym next) more;
      count = counted ∙ ap (λ (k : ℕ). min k (2 ^ 64 - 1)) (sym next);
    }

pub note_method-requires-clause-file : goal.note_method-requires-clause-file
note_method-requires-clause-file c =
    let F = c.args.files.now in
    let i = c.loop-service.service-index in
    let x = c.service-item.result in
    let l : i < length F.services =
    omega (arith, ap length c.services-service-items.ensures, c.loop-service-test.true) in
    let at : slice_get F.services i ≡ Some x =
    item_at c.services-service-items.result.now F.services i x c.services-service-items.ensures l c.service-item.is in
    subst (λ (G : Joined). x.file < length G.heads) (sym c.requires.scopes)
    (service_file F c.requires.formed i x at)

pub note_method-requires-clause-ordered : goal.note_method-requires-clause-ordered
note_method-requires-clause-ordered c = subst IsOrdered (sym c.requires.scopes) c.requires.ordered

pub returns : goal.returns
returns c =
    let F = c.args.files.now in
    let i = c.loop-service.service-index in
    let l : length F.services ≤ i =
    omega (arith, ap length c.services-service-items.ensures, c.loop-service-test.false) in
    let all : methods_of F.services i ≡ length (rpcs_of F) =
    ap (λ (xs : List ServiceDecl). length (flat_map service_rpcs xs)) (take_all i F.services l) in
    meets_elements (rpcs_of F) (IsMethodViolationAt F) (methods_of F.services i) c.args.first.now c.loop-service.first all
    c.loop-service.invariant.meets
