-- The methods of a table.
use Rattle.std.proofs.Common.{◌≡◌, ℕ, zero, suc, ◌+◌, ◌<◌, true, List, [], ◌∷◌, ◌++◌, length, map, take, Option, Some, refl, sym, ap, ◌∙◌, subst, arith}
use Rattle.std.specs.Prelude.{Contains, slice_get, unwrap_or}
use Rattle.std.specs.Option.{option_map}
use Rattle.std.specs.List.{flat_map}
use Rattle.std.proofs.lemmas.Option.{slice_get_within, get_or_from_slice_get, same_Some, slice_get-map}
use Rattle.std.proofs.lemmas.List.{length-map, length-append, append_assoc, append-nil, map-append, take_more}
use Rattle.std.proofs.lemmas.List.Elements.{All-contains, Contains-append_left, Contains-append_right}
use Rattle.mrpc_table.specs.Names.{is_short, IsName, IsFullName}
use Rattle.mrpc_table.specs.Text.{message_name}
use Rattle.mrpc_table.specs.declared.table.Message.{Message}
use Rattle.mrpc_table.specs.declared.table.Method.{Method}
use Rattle.mrpc_table.specs.declared.table.Table.{Table}
use Rattle.proto_ast.specs.Order.{IsFormedRpc, IsFormedService}
use Rattle.proto_ast.specs.Together.{IsFormed}
use Rattle.proto_ast.specs.declared.file.Span.{Span}
use Rattle.proto_ast.specs.declared.file.RpcDecl.{RpcDecl}
use Rattle.proto_ast.specs.declared.file.ServiceDecl.{ServiceDecl}
use Rattle.proto_ast.specs.Joined.{Joined, package_at}
use Rattle.proto_ast.specs.declared.joined.Enclosing.TheVariants as home
use Rattle.schema_symbols.specs.Scopes.{IsReferenceTo, a_message, text_of, IsScope, of_file, of_message}
use Rattle.schema_symbols.specs.Numbers
use Rattle.schema_symbols.specs.Numbers.{IsSymbolAt, IsFirstSymbol}
use Rattle.schema_symbols.specs.declared.symbol.Symbol.TheVariants as named
use Rattle.schema_validation.specs.Methods.{rpcs_of, service_rpcs}
use Rattle.schema_validation.specs.Correspondence.{AreCorrespondingInOrder, none, next}
use Rattle.schema_validation.specs.Members.{IsNoMessage, no_input, no_output, long_method}
use Rattle.schema_validation.specs.Violations
use Rattle.schema_validation.specs.declared.reason.ResolveReason.TheVariants.{UnknownName, Limit}
use Rattle.schema_resolve.specs.Resolving.{HasNoViolation}
use Rattle.schema_resolve.specs.Placing.{qualified_name, name_at_index, IsTablePlan, IsOrderedNames, HasTableNames, names_in_order}
use Rattle.schema_resolve.specs.InOrder.{IsPlaceNamed, IsMethodIn, AreMethods}
use Rattle.schema_resolve.specs.declared.placed.PlacedNames.{PlacedNames}
use Rattle.schema_resolve.specs.declared.plan.TablePlan.{TablePlan}
use Rattle.schema_resolve.proofs.FullNames.{package_names, names_more, behind_text}
use Rattle.schema_resolve.proofs.CleanFiles.{at_in}
use Rattle.schema_resolve.proofs.EnumTables.{short_from, full_valid, scope_short, short_more, true_from}

-- ---- indices of names

pub record IsAt (p : PlacedNames) (i place : ℕ) : Type 0 where
  pub order : slice_get p.order.items place ≡ Some i
  pub back : slice_get p.places.items i ≡ Some place

pub placed_at : (names : List (List ℕ)) (p : PlacedNames) (i : ℕ) → IsOrderedNames names p → i < length names
    → (place : ℕ) × IsAt p i place
placed_at names p i h l =
    let c = h.order.each i l in
    let at : slice_get p.order.items c.0 ≡ Some i = at_in p.order.items i c in
    (c.0, record { order = at; back = h.places.back c.0 i at })

pub name_read : {X : Type 0} (name : X → List ℕ) (xs : List X) (p : PlacedNames) (i place : ℕ)
    → map name xs ≡ names_in_order p → IsAt p i place
    → (option_map name (slice_get xs place) ≡ Some (name_at_index p.names.items i)) × (place < length xs)
name_read name xs p i place e at =
    let s : slice_get (names_in_order p) place ≡ Some (name_at_index p.names.items i) =
    slice_get-map (name_at_index p.names.items) p.order.items place ∙ ap (option_map (name_at_index p.names.items)) at.order in
    let t : slice_get (map name xs) place ≡ Some (name_at_index p.names.items i) =
    ap (λ (ns : List (List ℕ)). slice_get ns place) e ∙ s in (
      sym (slice_get-map name xs place) ∙ t,
      omega (arith, slice_get_within (map name xs) place (name_at_index p.names.items i) t, length-map xs name),
    )

pub message_named : (F : Joined) (p : TablePlan) (T : Table) (i place : ℕ) (full : List (List ℕ)) → IsTablePlan F p → HasTableNames p T
    → i < length F.messages → IsScope F (home.Message i) full → IsAt p.messages i place
    → (message_name T place ≡ text_of full) × (place < length T.messages)
message_named F p T i place full plan names l scope at =
    let r = name_read (λ (m : Message). m.name) T.messages p.messages i place names.messages at in
    let known : slice_get p.messages.names.items i ≡ Some (text_of full) =
    plan.messages.each i full (omega (arith, plan.all_messages)) scope in (
      ap (λ (o : Option (List ℕ)). unwrap_or o []) r.0
          ∙ get_or_from_slice_get p.messages.names.items i (text_of full) [] known,
      r.1,
    )

pub message_standing : {F : Joined} {i : ℕ} {full : List (List ℕ)} {span : Span}
    → IsSymbolAt F (named.Message i) full span → IsScope F (home.Message i) full × (i < length F.messages)
message_standing {F} (Numbers.message i m {outer} at up) =
    (of_message i m at up, slice_get_within F.messages i m at)

pub place_within : (F : Joined) (p : TablePlan) (i : ℕ) → IsTablePlan F p → i < length F.messages → i < length p.messages.places.items
place_within F p i plan l =
    omega (arith, plan.all_messages, plan.message_places.order.count, plan.message_places.places.count)

pub place_named : (F : Joined) (file : ℕ) (p : TablePlan) (name : List ℕ) (i place : ℕ) (full : List (List ℕ)) → IsTablePlan F p
    → IsReferenceTo F file (package_at F file) name a_message full → IsFirstSymbol F file (named.Message i) full
    → slice_get p.messages.places.items i ≡ Some place → (T : Table) → HasTableNames p T → IsPlaceNamed F file T name place
place_named F file p name i place full plan names first read T has =
    let s = message_standing first.stands in
    let at = placed_at p.messages.names.items p.messages i plan.message_places (omega (arith, plan.all_messages, s.1)) in
    let same : at.0 ≡ place = same_Some at.0 place (sym at.1.back ∙ read) in
    let here : IsAt p.messages i place = subst (IsAt p.messages i) same at.1 in
    let r = message_named F p T i place full plan has s.1 s.0 here in
    record { full = full; names = names; is = r.0; within = r.1 }

-- ---- methods

flat_at : (ss : List ServiceDecl) (k : ℕ) (s : ServiceDecl) (r : RpcDecl) → slice_get ss k ≡ Some s → Contains s.rpcs r
    → Contains (flat_map service_rpcs ss) (s, r)
flat_at [] k s r e c = absurd cc
flat_at (t ∷ ss) zero s r e c =
    let same : t ≡ s = same_Some t s e in
    let here : Contains (service_rpcs s) (s, r) = (
      c.0,
      omega (arith, c.1, length-map {B = ServiceDecl × RpcDecl} s.rpcs (λ (x : RpcDecl). (s, x))),
      get_or_from_slice_get (service_rpcs s) c.0 (s, r) (s, r)
          (slice_get-map (λ (x : RpcDecl). (s, x)) s.rpcs c.0 ∙ ap (option_map (λ (x : RpcDecl). (s, x))) (at_in s.rpcs r c)),
    ) in
    Contains-append_left (service_rpcs t) (flat_map service_rpcs ss) (s, r)
    (subst (λ (u : ServiceDecl). Contains (service_rpcs u) (s, r)) (sym same) here)
flat_at (t ∷ ss) (suc k) s r e c =
    Contains-append_right (service_rpcs t) (flat_map service_rpcs ss) (s, r) (flat_at ss k s r e c)

pub rpc_at : (F : Joined) (s : ServiceDecl) (r : RpcDecl) → Contains F.services s → Contains s.rpcs r
    → (i : ℕ) × (slice_get (rpcs_of F) i ≡ Some (s, r))
rpc_at F s r c d =
    let e = flat_at F.services c.0 s r (at_in F.services s c) d in
    (e.0, at_in (rpcs_of F) (s, r) e)

pub has_input : (F : Joined) (s : ServiceDecl) (r : RpcDecl) → HasNoViolation F → Contains F.services s → Contains s.rpcs r
    → IsNoMessage F s.file (package_at F s.file) r.input.name → ⊥
has_input F s r clean c d not =
    let i = rpc_at F s r c d in
    clean UnknownName r.input.span (Violations.of_method i.0 s r i.1 (no_input not (refl, refl)))

pub has_output : (F : Joined) (s : ServiceDecl) (r : RpcDecl) → HasNoViolation F → Contains F.services s → Contains s.rpcs r
    → IsNoMessage F s.file (package_at F s.file) r.output.name → ⊥
has_output F s r clean c d not =
    let i = rpc_at F s r c d in
    clean UnknownName r.output.span (Violations.of_method i.0 s r i.1 (no_output not (refl, refl)))

pub service_file : (F : Joined) (s : ServiceDecl) → IsFormed F → Contains F.services s → s.file < length F.heads
service_file F s formed c =
    All-contains (λ (x : ServiceDecl). x.file < length F.heads) F.services s formed.service_files c

pub service_text : (F : Joined) (s : ServiceDecl) (front : List ℕ) → IsFormed F → front ≡ text_of (package_at F s.file)
    → qualified_name front s.name.name ≡ text_of (package_at F s.file ++ s.name.name ∷ [])
service_text F s front formed e =
    ap (λ (t : List ℕ). qualified_name t s.name.name) e
    ∙ behind_text (package_at F s.file) s.name.name (package_names F s.file formed)

service_valid : (F : Joined) (s : ServiceDecl) → IsFormed F → HasNoViolation F → Contains F.services s
    → IsFullName (text_of (package_at F s.file ++ s.name.name ∷ []))
service_valid F s formed clean c =
    let short : is_short s.name.name ≡ true = true_from (is_short s.name.name)
    (λ f. clean Limit s.name.span (Violations.of_service c.0 s (at_in F.services s c) (f, (refl, refl)))) in
    let front : List (List ℕ) = package_at F s.file in
    full_valid (front ++ s.name.name ∷ []) (omega (arith, length-append front (s.name.name ∷ [])))
    (names_more front s.name.name (package_names F s.file formed)
    (All-contains IsFormedService F.services s formed.services c).name)
    (short_more front s.name.name (scope_short {F = F} clean (of_file s.file)) short)
    (λ l. clean Limit s.name.span (Violations.long_in_full s.name.span (Violations.a_service s c l refl) (refl, refl)))

rpc_valid : (F : Joined) (s : ServiceDecl) (r : RpcDecl) → IsFormed F → HasNoViolation F → Contains F.services s
    → Contains s.rpcs r → IsName r.name.name
rpc_valid F s r formed clean c d =
    let i = rpc_at F s r c d in record {
      form = (All-contains IsFormedRpc s.rpcs r
          (All-contains IsFormedService F.services s formed.services c).rpcs d).name;
      short = short_from r.name.name
          (λ f. clean Limit r.name.span (Violations.of_method i.0 s r i.1 (long_method (f, (refl, refl)))));
    }

pub method_of : (F : Joined) (p : TablePlan) (T : Table) (s : ServiceDecl) (r : RpcDecl) (m : Method) → IsFormed F → HasNoViolation F
    → Contains F.services s → Contains s.rpcs r → m.service ≡ text_of (package_at F s.file ++ s.name.name ∷ [])
    → m.name ≡ r.name.name → IsPlaceNamed F s.file T r.input.name m.input → IsPlaceNamed F s.file T r.output.name m.output
    → IsMethodIn F T (s, r) m
method_of F p T s r m formed clean c d service name input output = record {
  is = record {
    service = service;
    name = name;
    input = input.full;
    output = output.full;
    takes = input.names;
    gives = output.names;
    input_place = input.is;
    output_place = output.is;
  };
  valid = record {
    service = subst IsFullName (sym service) (service_valid F s formed clean c);
    name = subst IsName (sym name) (rpc_valid F s r formed clean c d);
    input = input.within;
    output = output.within;
  };
}

-- ---- in order

pub in_order_push : {X Y : Type 0} (R : X → Y → Type 0) {xs : List X} {ys : List Y} (x : X) (y : Y)
    → AreCorrespondingInOrder R xs ys → R x y → AreCorrespondingInOrder R (xs ++ x ∷ []) (ys ++ y ∷ [])
in_order_push R x y none r = next r none
in_order_push R x y (next q h) r = next q (in_order_push R x y h r)

pub no_methods : (F : Joined) (p : TablePlan) (ms : List Method) → ms ≡ [] → AreMethods F p [] ms
no_methods F p ms e = subst (AreMethods F p []) (sym e) (record { each = λ T has. none })

pub more_methods : (F : Joined) (p : TablePlan) (s : ServiceDecl) (i : ℕ) (r : RpcDecl)
    (done : List (ServiceDecl × RpcDecl)) (ms more : List Method) (m : Method) → slice_get s.rpcs i ≡ Some r
    → ((T : Table) → HasTableNames p T → IsMethodIn F T (s, r) m) → more ≡ ms ++ m ∷ []
    → AreMethods F p (done ++ map (λ (x : RpcDecl). (s, x)) (take i s.rpcs)) ms
    → AreMethods F p (done ++ map (λ (x : RpcDecl). (s, x)) (take (i + 1) s.rpcs)) more
more_methods F p s i r done ms more m at is e h =
    let pair : RpcDecl → ServiceDecl × RpcDecl = λ x. (s, x) in
    let front : List (ServiceDecl × RpcDecl) = map pair (take i s.rpcs) in
    let grown : map pair (take (i + 1) s.rpcs) ≡ front ++ (s, r) ∷ [] =
    ap (map pair) (take_more s.rpcs i r (slice_get_within s.rpcs i r at)
    ∙ ap (λ (x : RpcDecl). take i s.rpcs ++ x ∷ []) (get_or_from_slice_get s.rpcs i r r at))
    ∙ map-append pair (take i s.rpcs) (r ∷ []) in
    let whole : done ++ map pair (take (i + 1) s.rpcs) ≡ (done ++ front) ++ (s, r) ∷ [] =
    ap (λ (l : List (ServiceDecl × RpcDecl)). done ++ l) grown ∙ sym (append_assoc done front ((s, r) ∷ [])) in
    subst (λ (l : List (ServiceDecl × RpcDecl)). AreMethods F p l more) (sym whole)
    (subst (AreMethods F p ((done ++ front) ++ (s, r) ∷ [])) (sym e)
    (record { each = λ T has. in_order_push (IsMethodIn F T) (s, r) m (h.each T has) (is T has) }))

flat_more : (ss : List ServiceDecl) (s : ServiceDecl)
    → flat_map service_rpcs (ss ++ s ∷ []) ≡ flat_map service_rpcs ss ++ service_rpcs s
flat_more [] s = append-nil (service_rpcs s)
flat_more (t ∷ ss) s =
    ap (λ (l : List (ServiceDecl × RpcDecl)). service_rpcs t ++ l) (flat_more ss s)
    ∙ sym (append_assoc (service_rpcs t) (flat_map service_rpcs ss) (service_rpcs s))

pub next_service : (F : Joined) (p : TablePlan) (i : ℕ) (s : ServiceDecl) (ms more : List Method)
    → slice_get F.services i ≡ Some s
    → ((done : List (ServiceDecl × RpcDecl)) → AreMethods F p done ms → AreMethods F p (done ++ service_rpcs s) more)
    → AreMethods F p (flat_map service_rpcs (take i F.services)) ms
    → AreMethods F p (flat_map service_rpcs (take (i + 1) F.services)) more
next_service F p i s ms more at step h =
    let grown : take (i + 1) F.services ≡ take i F.services ++ s ∷ [] =
    take_more F.services i s (slice_get_within F.services i s at)
    ∙ ap (λ (x : ServiceDecl). take i F.services ++ x ∷ []) (get_or_from_slice_get F.services i s s at) in
    subst (λ (l : List (ServiceDecl × RpcDecl)). AreMethods F p l more)
    (sym (ap (flat_map service_rpcs) grown ∙ flat_more (take i F.services) s))
    (step (flat_map service_rpcs (take i F.services)) h)
