-- The violations of methods and packages are those that their checks record.
use Rattle.std.proofs.Common.{◌≡◌, ℕ, ◌+◌, ◌-◌, ◌^◌, ◌<◌, ◌≤◌, Bool, true, false, cond, not, List, [], ◌∷◌, ◌++◌}
use Rattle.std.proofs.Common.{length, get_or, take, refl, sym, ap, ◌∙◌, subst, arith, length-append, append-nil}
use Rattle.std.specs.Prelude.{min, Some, None, option_map, slice_get}
use Rattle.std.specs.List.{flat_map}
use Rattle.std.proofs.lemmas.Option.{same_Some, none-some, slice_get-map, slice_get_within, get_or_from_slice_get, slice_get-get_or}
use Rattle.std.proofs.lemmas.List.{take_more, length-map}
use Rattle.std.proofs.lemmas.List.Folds.{length-flat_map-take}
use Rattle.std.proofs.lemmas.List.Concat.{flat_map-append, get_or-flat_map}
use Rattle.mrpc_table.specs.Names.{is_short_full}
use Rattle.proto_ast.specs.declared.file.Span.{Span}
use Rattle.proto_ast.specs.declared.file.Word.{Word}
use Rattle.proto_ast.specs.declared.file.RpcDecl.{RpcDecl}
use Rattle.proto_ast.specs.declared.file.ServiceDecl.{ServiceDecl}
use Rattle.proto_ast.specs.declared.joined.Head.{Head}
use Rattle.proto_ast.specs.Joined.{Joined}
use Rattle.schema_validation.specs.Methods.{service_rpcs}
use Rattle.schema_validation.specs.Members
use Rattle.schema_validation.specs.Members.{Is, IsMethodViolation}
use Rattle.schema_validation.specs.Recording.{first_violation_of, IsWhere, HasRecorded, IsPackageViolation}
use Rattle.schema_validation.specs.declared.reason.ResolveReason.{ResolveReason}
use Rattle.schema_validation.specs.declared.reason.ResolveReason.TheVariants.{Limit}
use Rattle.schema_validation.specs.declared.first.FirstViolation.{FirstViolation}
use Rattle.schema_validation.proofs.Meetings.{meets_kept, meets_where, meets_as}

-- ---- packages

not_true : (b : Bool) → not b ≡ true → b ≡ false
not_true true e = absurd cc
not_true false e = refl

true_not : (b : Bool) → b ≡ false → not b ≡ true
true_not true e = absurd cc
true_not false e = refl

pub meets_package : (h : Head) (w : Word) (a b : FirstViolation) → h.package ≡ Some w
    → b.found ≡ cond (not (is_short_full w.name))
    (Some (first_violation_of a.found (record { reason = Limit; span = w.span }))) a.found
    → HasRecorded (IsPackageViolation h) a b
meets_package h w a b at is =
    meets_as (IsWhere (not (is_short_full w.name)) Limit w.span) (IsPackageViolation h) a b
    (meets_where (not (is_short_full w.name)) Limit w.span a b is)
    (λ q s p. record { name = w; declared = at; long = not_true (is_short_full w.name) p.0; is = p.1 })
    (λ q s p.
    let same : p.name ≡ w = same_Some p.name w (sym p.declared ∙ at) in (
      true_not (is_short_full w.name) (subst (λ (v : Word). is_short_full v.name ≡ false) same p.long),
      subst (λ (v : Word). Is Limit v.span q s) same p.is,
    ))

pub meets_no_package : (h : Head) (a b : FirstViolation) → h.package ≡ None → b.found ≡ a.found → HasRecorded (IsPackageViolation h) a b
meets_no_package h a b none is =
    meets_kept (IsPackageViolation h) a b (λ q s p. none-some p.name (sym none ∙ p.declared)) is

-- ---- methods by their index among all

-- the number of methods of the first services
abbrev pub methods_of : List ServiceDecl → ℕ → ℕ
methods_of services i = length (flat_map service_rpcs (take i services))

pub rpc_at : (services : List ServiceDecl) (i j : ℕ) (x : ServiceDecl) (r : RpcDecl) → slice_get services i ≡ Some x
    → slice_get x.rpcs j ≡ Some r → slice_get (flat_map service_rpcs services) (methods_of services i + j) ≡ Some (x, r)
rpc_at services i j x r at rat =
    let pair : RpcDecl → ServiceDecl × RpcDecl = λ y. (x, y) in
    let here : slice_get (service_rpcs x) j ≡ Some (x, r) = slice_get-map pair x.rpcs j ∙ ap (option_map pair) rat in
    let within : i < length services = slice_get_within services i x at in
    let same : get_or services i x ≡ x = get_or_from_slice_get services i x x at in
    let short : j < length (service_rpcs x) = slice_get_within (service_rpcs x) j (x, r) here in
    let one : j < length (service_rpcs (get_or services i x)) =
    subst (λ (y : ServiceDecl). j < length (service_rpcs y)) (sym same) short in
    let room : methods_of services i + length (service_rpcs (get_or services i x))
    ≤ length (flat_map service_rpcs services) =
    length-flat_map-take service_rpcs services i x within in
    let found : get_or (flat_map service_rpcs services) (methods_of services i + j) (x, r)
    ≡ get_or (service_rpcs (get_or services i x)) j (x, r) =
    get_or-flat_map service_rpcs services i j x (x, r) within one in
    let element : get_or (service_rpcs x) j (x, r) ≡ (x, r) = get_or_from_slice_get (service_rpcs x) j (x, r) (x, r)
    here in
    slice_get-get_or (flat_map service_rpcs services) (methods_of services i + j) (x, r) (omega arith)
    ∙ ap Some (found ∙ (ap (λ (y : ServiceDecl). get_or (service_rpcs y) j (x, r)) same ∙ element))

pub methods_more : (services : List ServiceDecl) (i : ℕ) (x : ServiceDecl) → slice_get services i ≡ Some x
    → methods_of services (i + 1) ≡ methods_of services i + length x.rpcs
methods_more services i x at =
    let within : i < length services = slice_get_within services i x at in
    let same : get_or services i x ≡ x = get_or_from_slice_get services i x x at in
    let more : take (i + 1) services ≡ take i services ++ x ∷ [] =
    take_more services i x within ∙ ap (λ (y : ServiceDecl). take i services ++ y ∷ []) same in
    let all : methods_of services (i + 1) ≡ length (flat_map service_rpcs (take i services) ++ (service_rpcs x ++ [])) =
    ap (λ (xs : List ServiceDecl). length (flat_map service_rpcs xs)) more
    ∙ ap length (flat_map-append service_rpcs (take i services) (x ∷ [])) in
    let last : length (service_rpcs x ++ []) ≡ length x.rpcs =
    ap length (append-nil (service_rpcs x)) ∙ length-map x.rpcs (λ (y : RpcDecl). (x, y)) in
    let sum : length (flat_map service_rpcs (take i services) ++ (service_rpcs x ++ []))
    ≡ methods_of services i + length (service_rpcs x ++ []) =
    length-append (flat_map service_rpcs (take i services)) (service_rpcs x ++ []) in
    omega arith

-- the index may be capped at the largest number
counted_to : (F : Joined) (file : ℕ) (scope : List (List ℕ)) (n place : ℕ) (r : RpcDecl) → n ≡ min place (2 ^ 64 - 1)
    → (q : ResolveReason) (s : Span) → IsMethodViolation F file scope n r q s → IsMethodViolation F file scope place r q s
counted_to F file scope n place r e q s (Members.too_many_methods p is) = Members.too_many_methods (omega arith) is
counted_to F file scope n place r e q s (Members.long_method p) = Members.long_method p
counted_to F file scope n place r e q s (Members.no_input p is) = Members.no_input p is
counted_to F file scope n place r e q s (Members.no_output p is) = Members.no_output p is

counted_from : (F : Joined) (file : ℕ) (scope : List (List ℕ)) (n place : ℕ) (r : RpcDecl) → n ≡ min place (2 ^ 64 - 1)
    → (q : ResolveReason) (s : Span) → IsMethodViolation F file scope place r q s → IsMethodViolation F file scope n r q s
counted_from F file scope n place r e q s (Members.too_many_methods p is) = Members.too_many_methods (omega arith) is
counted_from F file scope n place r e q s (Members.long_method p) = Members.long_method p
counted_from F file scope n place r e q s (Members.no_input p is) = Members.no_input p is
counted_from F file scope n place r e q s (Members.no_output p is) = Members.no_output p is

pub meets_counted : (F : Joined) (file : ℕ) (scope : List (List ℕ)) (n place : ℕ) (r : RpcDecl) (a b : FirstViolation)
    → n ≡ min place (2 ^ 64 - 1) → HasRecorded (IsMethodViolation F file scope n r) a b
    → HasRecorded (IsMethodViolation F file scope place r) a b
meets_counted F file scope n place r a b e m =
    meets_as (IsMethodViolation F file scope n r) (IsMethodViolation F file scope place r) a b m
    (counted_to F file scope n place r e) (counted_from F file scope n place r e)
