-- The violations of a message, an enum or a method are those that its checks record one after another.
use Rattle.std.proofs.Common.{◌≡◌, ℕ, ◌≤◌, ◌⊎◌, inl, inr, List, subst}
use Rattle.mrpc_table.specs.declared.limits.TheConstants.{MAX_MESSAGES, MAX_ENUMS, MAX_METHODS, MAX_FIELDS, MAX_VALUES}
use Rattle.proto_ast.specs.declared.file.Span.{Span}
use Rattle.proto_ast.specs.declared.file.Word.{Word}
use Rattle.proto_ast.specs.declared.file.MessageDecl.{MessageDecl}
use Rattle.proto_ast.specs.declared.file.EnumDecl.{EnumDecl}
use Rattle.proto_ast.specs.declared.file.RpcDecl.{RpcDecl}
use Rattle.proto_ast.specs.Joined.{Joined}
use Rattle.schema_validation.specs.Members
use Rattle.schema_validation.specs.Members.{Is, IsLong, IsReservedName, IsTypeViolation, IsNumberViolation, IsValueViolation, IsNameViolation, IsMessageViolation, IsEnumViolation, IsMethodViolation, IsNoMessage}
use Rattle.proto_ast.specs.declared.joined.Enclosing.TheVariants as home
use Rattle.schema_symbols.specs.Scopes.{IsScope}
use Rattle.schema_validation.specs.Methods.{rpcs_of}
use Rattle.schema_validation.specs.Violations
use Rattle.schema_validation.specs.Violations.{IsViolated}
use Rattle.schema_validation.specs.Recording.{HasRecorded, IsOfAny, IsOfElement, IsMessageViolationAt, IsMethodViolationAt, IsLongService, IsPackageViolationAt, IsDuplicateViolation, IsLongNameViolation, IsLongTextViolation}
use Rattle.schema_validation.specs.declared.reason.ResolveReason.{ResolveReason}
use Rattle.schema_validation.specs.declared.reason.ResolveReason.TheVariants.{UnknownName, Reserved, Limit}
use Rattle.schema_validation.specs.declared.first.FirstViolation.{FirstViolation}
use Rattle.schema_validation.proofs.Meetings.{meets_as}

-- ---- names

abbrev pub NameParts : List Word → ℕ → ℕ → Word → ResolveReason → Span → Type 0
NameParts names limit i w q s =
    ((IsReservedName names w.name × Is Reserved w.span q s) ⊎ IsLong w q s) ⊎ ((limit ≤ i) × Is Limit w.span q s)

pub name_to : (names : List Word) (limit i : ℕ) (w : Word) (q : ResolveReason) (s : Span)
    → NameParts names limit i w q s → IsNameViolation names limit i w q s
name_to names limit i w q s (inl (inl p)) = Members.name_reserved p.0 p.1
name_to names limit i w q s (inl (inr p)) = Members.name_long p
name_to names limit i w q s (inr p) = Members.name_too_many p.0 p.1

pub name_from : (names : List Word) (limit i : ℕ) (w : Word) (q : ResolveReason) (s : Span)
    → IsNameViolation names limit i w q s → NameParts names limit i w q s
name_from names limit i w q s (Members.name_reserved p is) = inl (inl (p, is))
name_from names limit i w q s (Members.name_long p) = inl (inr p)
name_from names limit i w q s (Members.name_too_many p is) = inr (p, is)

-- ---- enums

abbrev pub EnumParts : ℕ → EnumDecl → ResolveReason → Span → Type 0
EnumParts n e q s =
    ((((MAX_ENUMS ≤ n) × Is Limit e.name.span q s) ⊎ IsLong e.name q s) ⊎ IsOfAny (IsValueViolation e) q s)
    ⊎ IsOfAny (IsOfElement e.values (λ i v. IsNameViolation e.names MAX_VALUES i v.name)) q s

pub enum_to : (n : ℕ) (e : EnumDecl) (q : ResolveReason) (s : Span) → EnumParts n e q s → IsEnumViolation n e q s
enum_to n e q s (inl (inl (inl p))) = Members.too_many_enums p.0 p.1
enum_to n e q s (inl (inl (inr p))) = Members.long_enum p
enum_to n e q s (inl (inr p)) = Members.of_value p.place p.is
enum_to n e q s (inr p) = Members.of_value_name p.place p.is.element p.is.at p.is.is

pub enum_from : (n : ℕ) (e : EnumDecl) (q : ResolveReason) (s : Span) → IsEnumViolation n e q s → EnumParts n e q s
enum_from n e q s (Members.too_many_enums p is) = inl (inl (inl (p, is)))
enum_from n e q s (Members.long_enum p) = inl (inl (inr p))
enum_from n e q s (Members.of_value i p) = inl (inr (record { place = i; is = p }))
enum_from n e q s (Members.of_value_name i v at p) =
    inr (record { place = i; is = record { element = v; at = at; is = p } })

-- ---- messages

abbrev pub MessageParts : Joined → ℕ → List (List ℕ) → ℕ → MessageDecl → ResolveReason → Span → Type 0
MessageParts F file scope n m q s =
    ((((((MAX_MESSAGES ≤ n) × Is Limit m.name.span q s) ⊎ IsLong m.name q s)
    ⊎ IsOfAny (IsOfElement m.fields (λ i. IsTypeViolation F file scope)) q s)
    ⊎ IsOfAny (IsNumberViolation m) q s)
    ⊎ IsOfAny (IsOfElement m.fields (λ i f. IsNameViolation m.names MAX_FIELDS i f.name)) q s)
    ⊎ IsOfAny (IsOfElement m.oneofs (λ i. IsLong)) q s

pub message_to : (F : Joined) (file : ℕ) (scope : List (List ℕ)) (n : ℕ) (m : MessageDecl) (q : ResolveReason)
    (s : Span)
    → MessageParts F file scope n m q s → IsMessageViolation F file scope n m q s
message_to F file scope n m q s (inl (inl (inl (inl (inl p))))) = Members.too_many_messages p.0 p.1
message_to F file scope n m q s (inl (inl (inl (inl (inr p))))) = Members.long_message p
message_to F file scope n m q s (inl (inl (inl (inr p)))) = Members.of_type p.place p.is.element p.is.at p.is.is
message_to F file scope n m q s (inl (inl (inr p))) = Members.of_number p.place p.is
message_to F file scope n m q s (inl (inr p)) = Members.of_name p.place p.is.element p.is.at p.is.is
message_to F file scope n m q s (inr p) = Members.of_oneof p.place p.is.element p.is.at p.is.is

pub message_from : (F : Joined) (file : ℕ) (scope : List (List ℕ)) (n : ℕ) (m : MessageDecl) (q : ResolveReason)
    (s : Span)
    → IsMessageViolation F file scope n m q s → MessageParts F file scope n m q s
message_from F file scope n m q s (Members.too_many_messages p is) = inl (inl (inl (inl (inl (p, is)))))
message_from F file scope n m q s (Members.long_message p) = inl (inl (inl (inl (inr p))))
message_from F file scope n m q s (Members.of_type i f at p) =
    inl (inl (inl (inr (record { place = i; is = record { element = f; at = at; is = p } }))))
message_from F file scope n m q s (Members.of_number i p) = inl (inl (inr (record { place = i; is = p })))
message_from F file scope n m q s (Members.of_name i f at p) =
    inl (inr (record { place = i; is = record { element = f; at = at; is = p } }))
message_from F file scope n m q s (Members.of_oneof i o at p) =
    inr (record { place = i; is = record { element = o; at = at; is = p } })

pub meets_message_in : (F : Joined) (i : ℕ) (m : MessageDecl) (scope : List (List ℕ)) (a b : FirstViolation)
    → IsScope F (home.Message i) scope → ((t : List (List ℕ)) → IsScope F (home.Message i) t → t ≡ scope)
    → HasRecorded (IsMessageViolation F m.file scope i m) a b → HasRecorded (IsMessageViolationAt F i m) a b
meets_message_in F i m scope a b h one met =
    meets_as (IsMessageViolation F m.file scope i m) (IsMessageViolationAt F i m) a b met (λ q s p. (scope, h, p))
    (λ q s p. subst (λ (t : List (List ℕ)). IsMessageViolation F m.file t i m q s) (one p.0 p.1) p.2)

-- ---- methods

abbrev pub MethodParts : Joined → ℕ → List (List ℕ) → ℕ → RpcDecl → ResolveReason → Span → Type 0
MethodParts F file scope n r q s =
    ((((MAX_METHODS ≤ n) × Is Limit r.name.span q s) ⊎ IsLong r.name q s)
    ⊎ (IsNoMessage F file scope r.input.name × Is UnknownName r.input.span q s))
    ⊎ (IsNoMessage F file scope r.output.name × Is UnknownName r.output.span q s)

pub method_to : (F : Joined) (file : ℕ) (scope : List (List ℕ)) (n : ℕ) (r : RpcDecl) (q : ResolveReason) (s : Span)
    → MethodParts F file scope n r q s → IsMethodViolation F file scope n r q s
method_to F file scope n r q s (inl (inl (inl p))) = Members.too_many_methods p.0 p.1
method_to F file scope n r q s (inl (inl (inr p))) = Members.long_method p
method_to F file scope n r q s (inl (inr p)) = Members.no_input p.0 p.1
method_to F file scope n r q s (inr p) = Members.no_output p.0 p.1

pub method_from : (F : Joined) (file : ℕ) (scope : List (List ℕ)) (n : ℕ) (r : RpcDecl) (q : ResolveReason) (s : Span)
    → IsMethodViolation F file scope n r q s → MethodParts F file scope n r q s
method_from F file scope n r q s (Members.too_many_methods p is) = inl (inl (inl (p, is)))
method_from F file scope n r q s (Members.long_method p) = inl (inl (inr p))
method_from F file scope n r q s (Members.no_input p is) = inl (inr (p, is))
method_from F file scope n r q s (Members.no_output p is) = inr (p, is)

-- ---- files

abbrev pub FileParts : Joined → ResolveReason → Span → Type 0
FileParts F q s =
    ((((((IsOfAny (IsOfElement F.heads IsPackageViolationAt) q s ⊎ IsDuplicateViolation F q s)
    ⊎ IsOfAny (IsOfElement F.messages (IsMessageViolationAt F)) q s)
    ⊎ IsOfAny (IsOfElement F.enums IsEnumViolation) q s)
    ⊎ IsOfAny (IsOfElement F.services IsLongService) q s)
    ⊎ IsOfAny (IsOfElement (rpcs_of F) (IsMethodViolationAt F)) q s)
    ⊎ IsLongNameViolation F q s) ⊎ IsLongTextViolation F q s

pub file_to : (F : Joined) (q : ResolveReason) (s : Span) → FileParts F q s → IsViolated F q s
file_to F q s (inl (inl (inl (inl (inl (inl (inl p))))))) =
    Violations.of_package p.place p.is.element p.is.is.name p.is.at p.is.is.declared p.is.is.long p.is.is.is
file_to F q s (inl (inl (inl (inl (inl (inl (inr p))))))) = Violations.twice p.0 p.1 p.2
file_to F q s (inl (inl (inl (inl (inl (inr p)))))) =
    Violations.of_message p.place p.is.element p.is.at p.is.is.1 p.is.is.2
file_to F q s (inl (inl (inl (inl (inr p))))) = Violations.of_enum p.place p.is.element p.is.at p.is.is
file_to F q s (inl (inl (inl (inr p)))) = Violations.of_service p.place p.is.element p.is.at p.is.is
file_to F q s (inl (inl (inr p))) =
    Violations.of_method p.place p.is.element.0 p.is.element.1 p.is.at p.is.is
file_to F q s (inl (inr p)) = Violations.long_in_full p.0 p.1 p.2
file_to F q s (inr p) = Violations.long_text p.0 p.1 p.2

pub file_from : (F : Joined) (q : ResolveReason) (s : Span) → IsViolated F q s → FileParts F q s
file_from F q s (Violations.of_message i m {scope = scope} at is o) =
    inl (inl (inl (inl (inl (inr (record { place = i; is = record { element = m; at = at; is = (scope, is, o) } }))))))
file_from F q s (Violations.of_enum i e at o) =
    inl (inl (inl (inl (inr (record { place = i; is = record { element = e; at = at; is = o } })))))
file_from F q s (Violations.of_service i x at o) =
    inl (inl (inl (inr (record { place = i; is = record { element = x; at = at; is = o } }))))
file_from F q s (Violations.of_method i x r at o) =
    inl (inl (inr (record { place = i; is = record { element = (x, r); at = at; is = o } })))
file_from F q s (Violations.of_package k h w at declared long is) =
    inl (inl (inl (inl (inl (inl (inl (record {
      place = k;
      is = record {
        element = h;
        at = at;
        is = record { name = w; declared = declared; long = long; is = is };
      };
    })))))))
file_from F q s (Violations.twice span t is) = inl (inl (inl (inl (inl (inl (inr (span, t, is)))))))
file_from F q s (Violations.long_in_full span t is) = inl (inr (span, t, is))
file_from F q s (Violations.long_text span t is) = inr (span, t, is)
