-- A table that was made of files has the declarations of the files.
use Rattle.std.proofs.Common.{◌≡◌, ℕ, zero, suc, ◌+◌, ◌<◌, ◌≤◌, ◌⊎◌, inl, inr, List, [], ◌∷◌, ◌++◌, length, get_or}
use Rattle.std.proofs.Common.{map, take, Some, refl, sym, ap, ◌∙◌, subst, arith, zero-add}
use Rattle.std.specs.Prelude.{Contains, slice_get}
use Rattle.std.specs.List.{flat_map}
use Rattle.std.proofs.lemmas.Bool.{cases_lt, cases_order}
use Rattle.std.proofs.lemmas.Option.{slice_get_within, get_or_from_slice_get, slice_get-get_or, same_Some, none-some}
use Rattle.std.proofs.lemmas.List.{get_or-map, length-map, length-append}
use Rattle.std.proofs.lemmas.List.Elements.{Contains-append_cases, All-contains}
use Rattle.mrpc_table.specs.Text.{table_text}
use Rattle.mrpc_table.specs.Valid.{IsAscendingBy, AreDistinct, IsBelow, IsValid}
use Rattle.mrpc_table.specs.declared.limits.TheConstants.{MAX_METHODS, MAX_TEXT}
use Rattle.mrpc_table.specs.declared.table.Message.{Message}
use Rattle.mrpc_table.specs.declared.table.Choices.{Choices}
use Rattle.mrpc_table.specs.declared.table.Method.{Method}
use Rattle.mrpc_table.specs.declared.table.Table.{Table}
use Rattle.proto_ast.specs.Order
use Rattle.proto_ast.specs.Order.{IsFormedService, its_name}
use Rattle.proto_ast.specs.Together.{IsFormed, IsOrdered, enum_decl, message_decl, service_decl, rpc_decl}
use Rattle.proto_ast.specs.declared.file.RpcDecl.{RpcDecl}
use Rattle.proto_ast.specs.declared.file.ServiceDecl.{ServiceDecl}
use Rattle.proto_ast.specs.Joined.{Joined, package_at}
use Rattle.proto_ast.specs.Together
use Rattle.schema_symbols.specs.Scopes
use Rattle.schema_symbols.specs.Scopes.{a_message, an_enum, no_type, text_of}
use Rattle.schema_validation.specs.Methods.{rpcs_of, service_rpcs}
use Rattle.schema_validation.specs.Correspondence.{AreCorrespondingInOrder, none, next}
use Rattle.schema_validation.specs.Members.{too_many_methods}
use Rattle.schema_validation.specs.Violations
use Rattle.schema_validation.specs.declared.reason.ResolveReason.TheVariants.{DuplicateName, Limit}
use Rattle.schema_resolve.specs.Tables.{IsMethodOf, IsTableOf}
use Rattle.schema_resolve.specs.Resolving.{HasNoViolation}
use Rattle.schema_resolve.specs.Placing.{name_at_index, IsTablePlan, HasTableNames}
use Rattle.schema_resolve.specs.InOrder.{IsEnumAt, IsMethodIn}
use Rattle.schema_resolve.specs.Joining.{IsMessageAt}
use Rattle.schema_resolve.specs.Making.{IsMadeTable}
use Rattle.schema_resolve.specs.declared.plan.TablePlan.{TablePlan}
use Rattle.schema_resolve.proofs.FullNames.{AreNames, package_names, names_more}
use Rattle.schema_resolve.proofs.Orders.{apart_distinct, ascends_apart, below_trans, below_strict}
use Rattle.schema_resolve.proofs.CleanFiles.{in_list, at_in, some_at, one_declaration, here_message, here_enum, message_text, enum_text, few_messages, few_enums}
use Rattle.schema_resolve.proofs.EnumTables.{map_contains}
use Rattle.schema_resolve.proofs.MessageTables.{in_order_weaker, in_order_get, in_order_back, in_order_map}

-- ---- in an order

ascends_by : {X Y : Type 0} (Q : X → Y → Type 0) (A : X → X → Type 0) (B : Y → Y → Type 0) {xs : List X} {ys : List Y}
    → ((x z : X) (y w : Y) → Q x y → Q z w → A x z → B y w) → AreCorrespondingInOrder Q xs ys → IsAscendingBy A xs → IsAscendingBy B ys
ascends_by Q A B h none a = tt
ascends_by Q A B h (next r none) a = tt
ascends_by Q A B h (next {x} {y} r (next {x = z} {y = w} s rest)) a =
    (h x z y w r s a.0, ascends_by Q A B h (next s rest) a.1)

ascends_map : {X Y : Type 0} (f : X → Y) (R : Y → Y → Type 0) (xs : List X) → IsAscendingBy (λ a b. R (f a) (f b)) xs
    → IsAscendingBy R (map f xs)
ascends_map f R [] h = tt
ascends_map f R (x ∷ []) h = tt
ascends_map f R (x ∷ y ∷ xs) h = (h.0, ascends_map f R (y ∷ xs) h.1)

names_distinct : {X : Type 0} (name : X → List ℕ) (xs : List X) → IsAscendingBy (λ a b. IsBelow (name a) (name b)) xs
    → AreDistinct (map name xs)
names_distinct name xs h =
    apart_distinct (map name xs)
    (ascends_apart IsBelow below_trans below_strict (map name xs) (ascends_map name IsBelow xs h))

distinct_append : {X : Type 0} (xs ys : List X) → AreDistinct xs → AreDistinct ys
    → ((x : X) → Contains xs x → Contains ys x → ⊥) → AreDistinct (xs ++ ys)
distinct_append [] ys a b h = b
distinct_append (x ∷ xs) ys a b h = (
  λ c. elim (Contains-append_cases xs ys x c) [
    | inl d ↦ a.0 d
    | inr d ↦ h x (0, omega arith, refl) d
  ],
  distinct_append xs ys a.1 b (λ y c d. h y (suc c.0, omega (arith, c.1), c.2) d),
)

in_order_length : {X Y : Type 0} (R : X → Y → Type 0) {xs : List X} {ys : List Y} → AreCorrespondingInOrder R xs ys
    → length xs ≡ length ys
in_order_length R none = refl
in_order_length R (next r rest) = ap suc (in_order_length R rest)

-- ---- names

pub has_names : (F : Joined) (T : Table) (made : IsMadeTable F T) → HasTableNames made.plan T
has_names F T made = record {
  messages = sym (in_order_map (IsMessageAt F made.plan) (name_at_index made.plan.messages.names.items)
      (λ (m : Message). m.name) (λ i m h. sym h.name) made.messages_are);
  enums = sym (in_order_map (IsEnumAt F made.plan) (name_at_index made.plan.enums.names.items)
      (λ (e : Choices). e.name) (λ i e h. sym h.name) made.enums_are);
}

messages_ascend : (F : Joined) (T : Table) (made : IsMadeTable F T)
    → IsAscendingBy (λ (m n : Message). IsBelow m.name n.name) T.messages
messages_ascend F T made =
    let names = made.plan.messages.names.items in
    ascends_by (IsMessageAt F made.plan) (λ i j. IsBelow (name_at_index names i) (name_at_index names j))
    (λ (m n : Message). IsBelow m.name n.name)
    (λ i j m n p q b. subst (λ (a : List ℕ). IsBelow a n.name) (sym p.name)
    (subst (λ (a : List ℕ). IsBelow (name_at_index names i) a) (sym q.name) b)) made.messages_are
    made.is_plan.message_places.order.ascend

enums_ascend : (F : Joined) (T : Table) (made : IsMadeTable F T)
    → IsAscendingBy (λ (e f : Choices). IsBelow e.name f.name) T.enums
enums_ascend F T made =
    let names = made.plan.enums.names.items in
    ascends_by (IsEnumAt F made.plan) (λ i j. IsBelow (name_at_index names i) (name_at_index names j))
    (λ (e f : Choices). IsBelow e.name f.name)
    (λ i j e f p q b. subst (λ (a : List ℕ). IsBelow a f.name) (sym p.name)
    (subst (λ (a : List ℕ). IsBelow (name_at_index names i) a) (sym q.name) b)) made.enums_are
    made.is_plan.enum_places.order.ascend

-- no enum has the name of a message
types_apart : (F : Joined) (p : TablePlan) (i j : ℕ) → IsFormed F → IsOrdered F → HasNoViolation F → IsTablePlan F p
    → i < length F.enums → j < length F.messages
    → name_at_index p.enums.names.items i ≡ name_at_index p.messages.names.items j → ⊥
types_apart F p i j formed ordered clean plan a b e =
    let x = here_enum F i formed a in
    let y = here_message F j formed b in
    let d : enum_decl i ≡ message_decl j =
    one_declaration F (enum_decl i) (message_decl j) an_enum a_message (x.outer ++ x.decl.name.name ∷ [])
    (y.outer ++ y.decl.name.name ∷ []) x.decl.name.span y.decl.name.span ordered clean x.declares y.declares x.stands
    y.stands x.names y.names
    (sym (enum_text F p.enums.names.items i x plan.enums (omega (arith, plan.all_enums)) []) ∙ e
    ∙ message_text F p.messages.names.items j y plan.messages (omega (arith, plan.all_messages)) []) in
    cc

record EnumHere (F : Joined) (p : TablePlan) (n : ℕ) (c : Choices) : Type 0 where
  place : ℕ
  within : place < length F.enums
  is_at : IsEnumAt F p place c

enum_here : (F : Joined) (T : Table) (made : IsMadeTable F T) (k : ℕ) (c : Choices) → slice_get T.enums k ≡ Some c
    → EnumHere F made.plan k c
enum_here F T made k c e =
    let h = in_order_back (IsEnumAt F made.plan) made.enums_are k c e in
    let order = made.plan.enums.order.items in record {
      place = h.0;
      within = omega (
        arith,
        made.is_plan.all_enums,
        subst (λ (i : ℕ). i < length made.plan.enums.names.items) (get_or_from_slice_get order k h.0 0 h.1)
            (made.is_plan.enum_places.order.within k 0 (slice_get_within order k h.0 h.1)),
      );
      is_at = h.2;
    }

record MessageHere (F : Joined) (p : TablePlan) (n : ℕ) (m : Message) : Type 0 where
  place : ℕ
  within : place < length F.messages
  is_at : IsMessageAt F p place m

message_here : (F : Joined) (T : Table) (made : IsMadeTable F T) (k : ℕ) (m : Message)
    → slice_get T.messages k ≡ Some m → MessageHere F made.plan k m
message_here F T made k m e =
    let h = in_order_back (IsMessageAt F made.plan) made.messages_are k m e in
    let order = made.plan.messages.order.items in record {
      place = h.0;
      within = omega (
        arith,
        made.is_plan.all_messages,
        subst (λ (i : ℕ). i < length made.plan.messages.names.items) (get_or_from_slice_get order k h.0 0 h.1)
            (made.is_plan.message_places.order.within k 0 (slice_get_within order k h.0 h.1)),
      );
      is_at = h.2;
    }

types_distinct : (F : Joined) (T : Table) → IsFormed F → IsOrdered F → HasNoViolation F → IsMadeTable F T
    → AreDistinct (map (λ (e : Choices). e.name) T.enums ++ map (λ (m : Message). m.name) T.messages)
types_distinct F T formed ordered clean made =
    let en : Choices → List ℕ = λ e. e.name in
    let mn : Message → List ℕ = λ m. m.name in
    distinct_append (map en T.enums) (map mn T.messages) (names_distinct en T.enums (enums_ascend F T made))
    (names_distinct mn T.messages (messages_ascend F T made))
    (λ n a b.
    let x = map_contains en T.enums n a in
    let y = map_contains mn T.messages n b in
    let ex = enum_here F T made x.1.0 x.0 (at_in T.enums x.0 x.1) in
    let my = message_here F T made y.1.0 y.0 (at_in T.messages y.0 y.1) in
    types_apart F made.plan ex.place my.place formed ordered clean made.is_plan ex.within my.within
    (sym ex.is_at.name ∙ x.2 ∙ sym y.2 ∙ my.is_at.name))

-- ---- methods

-- the index of an rpc among those of all services
pub record RpcHere (ss : List ServiceDecl) (i : ℕ) (s : ServiceDecl) (r : RpcDecl) : Type 0 where
  pub service : ℕ
  pub rpc : ℕ
  pub its_service : slice_get ss service ≡ Some s
  pub its_rpc : slice_get s.rpcs rpc ≡ Some r
  pub is_place : i ≡ length (flat_map service_rpcs (take service ss)) + rpc

rpc_here_at : (t : ServiceDecl) (rs : List RpcDecl) (ss : List ServiceDecl) (i : ℕ) (s : ServiceDecl) (r : RpcDecl)
    → slice_get (map (λ (x : RpcDecl). (t, x)) rs ++ flat_map service_rpcs ss) i ≡ Some (s, r)
    → ((t ≡ s) × (slice_get rs i ≡ Some r)) ⊎ ((k : ℕ) × (slice_get (flat_map service_rpcs ss) k ≡ Some (s, r)) × (i ≡ length rs + k))
rpc_here_at t [] ss i s r e = inr (i, e, sym (zero-add i))
rpc_here_at t (x ∷ rs) ss zero s r e =
    let p : ◌≡◌ {A = ServiceDecl × RpcDecl} (t, x) (s, r) = same_Some (t, x) (s, r) e in
    inl (ap (λ (q : ServiceDecl × RpcDecl). q.0) p, ap (λ (q : ServiceDecl × RpcDecl). Some q.1) p)
rpc_here_at t (x ∷ rs) ss (suc i) s r e = elim (rpc_here_at t rs ss i s r e) [
  | inl p ↦ inl p
  | inr p ↦ inr (p.0, p.1, (let f : i ≡ length rs + p.0 = p.2 in omega arith))
]

pub rpc_here : (ss : List ServiceDecl) (i : ℕ) (s : ServiceDecl) (r : RpcDecl)
    → slice_get (flat_map service_rpcs ss) i ≡ Some (s, r) → RpcHere ss i s r
rpc_here [] i s r e = absurd (none-some (s, r) e)
rpc_here (t ∷ ss) i s r e = elim (rpc_here_at t t.rpcs ss i s r e) [
  | inl p ↦ record {
    service = 0;
    rpc = i;
    its_service = ap Some p.0;
    its_rpc = subst (λ (u : ServiceDecl). slice_get u.rpcs i ≡ Some r) p.0 p.1;
    is_place = sym (zero-add i);
  }
  | inr p ↦
      let h = rpc_here ss p.0 s r p.1 in record {
        service = suc h.service;
        rpc = h.rpc;
        its_service = h.its_service;
        its_rpc = h.its_rpc;
        is_place =
            let f : i ≡ length t.rpcs + p.0 = p.2 in
            let g : p.0 ≡ length (flat_map service_rpcs (take h.service ss)) + h.rpc = h.is_place in
            omega (
              arith,
              length-append (service_rpcs t) (flat_map service_rpcs (take h.service ss)),
              length-map {B = ServiceDecl × RpcDecl} t.rpcs (λ (x : RpcDecl). (t, x)),
            );
      }
]

pub same_rpc : (a b i j : ℕ) → rpc_decl a i ≡ rpc_decl b j → (a ≡ b) × (i ≡ j)
same_rpc a b i j e = (cc, cc)

same_service : (i j : ℕ) → service_decl i ≡ service_decl j → i ≡ j
same_service i j e = cc

-- if two rpcs of one service have the same name, the later one is a violation
not_two_rpcs : (F : Joined) (s : ServiceDecl) (k i j : ℕ) (r u : RpcDecl) → IsOrdered F → HasNoViolation F
    → slice_get F.services k ≡ Some s → slice_get s.rpcs i ≡ Some r → slice_get s.rpcs j ≡ Some u
    → r.name.name ≡ u.name.name → i < j → ⊥
not_two_rpcs F s k i j r u ordered clean at rat uat name l =
    clean DuplicateName u.name.span
    (Violations.twice u.name.span
    (Violations.two_rpcs s r u (in_list F.services k s at) (in_list s.rpcs i r rat) (in_list s.rpcs j u uat) name
    (ordered.ascend (rpc_decl k i) (rpc_decl k j) its_name its_name r.name.span u.name.span (Together.rpcs k i j l)
    (Together.rpc k i s r at rat (Order.rpc_name refl)) (Together.rpc k j s u at uat (Order.rpc_name refl))) refl)
    (refl, refl))

-- rpcs of one service with the same name are one
one_rpc : (F : Joined) (s : ServiceDecl) (k i j : ℕ) (r u : RpcDecl) → IsOrdered F → HasNoViolation F
    → slice_get F.services k ≡ Some s → slice_get s.rpcs i ≡ Some r → slice_get s.rpcs j ≡ Some u
    → r.name.name ≡ u.name.name → i ≡ j
one_rpc F s k i j r u ordered clean at rat uat name = elim (cases_order i j) [
  | inl e ↦ e
  | inr (inl l) ↦ absurd (not_two_rpcs F s k i j r u ordered clean at rat uat name l)
  | inr (inr l) ↦ absurd (not_two_rpcs F s k j i u r ordered clean at uat rat (sym name) l)
]

rpcs_apart : (F : Joined) (i j : ℕ) (s t : ServiceDecl) (r u : RpcDecl) → IsFormed F → IsOrdered F → HasNoViolation F
    → slice_get (rpcs_of F) i ≡ Some (s, r) → slice_get (rpcs_of F) j ≡ Some (t, u)
    → text_of (package_at F s.file ++ s.name.name ∷ []) ≡ text_of (package_at F t.file ++ t.name.name ∷ [])
    → r.name.name ≡ u.name.name → i ≡ j
rpcs_apart F i j s t r u formed ordered clean a b texts names =
    let x = rpc_here F.services i s r a in
    let y = rpc_here F.services j t u b in
    let sc : Contains F.services s = in_list F.services x.service s x.its_service in
    let tc : Contains F.services t = in_list F.services y.service t y.its_service in
    let sf = All-contains IsFormedService F.services s formed.services sc in
    let tf = All-contains IsFormedService F.services t formed.services tc in
    let sp : List (List ℕ) = package_at F s.file in
    let tp : List (List ℕ) = package_at F t.file in
    let sn : AreNames (sp ++ s.name.name ∷ []) = names_more sp s.name.name (package_names F s.file formed) sf.name in
    let tn : AreNames (tp ++ t.name.name ∷ []) = names_more tp t.name.name (package_names F t.file formed) tf.name in
    let d : service_decl x.service ≡ service_decl y.service =
    one_declaration F (service_decl x.service) (service_decl y.service) no_type no_type (sp ++ s.name.name ∷ [])
    (tp ++ t.name.name ∷ []) s.name.span t.name.span ordered clean (Scopes.service s sc) (Scopes.service t tc)
    (Together.service x.service s x.its_service refl) (Together.service y.service t y.its_service refl) sn tn texts in
    let place : x.service ≡ y.service = same_service x.service y.service d in
    let same : t ≡ s =
    same_Some t s (sym y.its_service ∙ (ap (slice_get F.services) (sym place) ∙ x.its_service)) in
    let rpc : x.rpc ≡ y.rpc =
    one_rpc F s x.service x.rpc y.rpc r u ordered clean x.its_service x.its_rpc
    (subst (λ (z : ServiceDecl). slice_get z.rpcs y.rpc ≡ Some u) same y.its_rpc) names in
    x.is_place ∙ ap (λ (k : ℕ). length (flat_map service_rpcs (take k F.services)) + x.rpc) place
    ∙ ap (λ (k : ℕ). length (flat_map service_rpcs (take y.service F.services)) + k) rpc ∙ sym y.is_place

methods_distinct : (F : Joined) (T : Table) → IsFormed F → IsOrdered F → HasNoViolation F → IsMadeTable F T
    → AreDistinct {X = List ℕ × List ℕ} (map (λ (m : Method). (m.service, m.name)) T.methods)
methods_distinct F T formed ordered clean made =
    let pair : Method → List ℕ × List ℕ = λ m. (m.service, m.name) in
    let all = made.methods_are.each T (has_names F T made) in
    apart_distinct (map pair T.methods)
    (λ i j d a b e.
    let x = some_at T.methods i (omega (arith, length-map T.methods pair)) in
    let y = some_at T.methods j (omega (arith, length-map T.methods pair)) in
    let xr = in_order_back (IsMethodIn F T) all i x.0 x.1 in
    let yr = in_order_back (IsMethodIn F T) all j y.0 y.1 in
    let xn : get_or (map pair T.methods) i d ≡ pair x.0 =
    get_or-map pair T.methods i x.0 d (omega (arith, length-map T.methods pair))
    ∙ ap pair (get_or_from_slice_get T.methods i x.0 x.0 x.1) in
    let yn : get_or (map pair T.methods) j d ≡ pair y.0 =
    get_or-map pair T.methods j y.0 d (omega (arith, length-map T.methods pair))
    ∙ ap pair (get_or_from_slice_get T.methods j y.0 y.0 y.1) in
    let same : ◌≡◌ {A = List ℕ × List ℕ} (pair x.0) (pair y.0) = sym xn ∙ e ∙ yn in
    rpcs_apart F i j xr.0.0 yr.0.0 xr.0.1 yr.0.1 formed ordered clean xr.1 yr.1
    (sym xr.2.is.service ∙ ap (λ (q : List ℕ × List ℕ). q.0) same ∙ yr.2.is.service)
    (sym xr.2.is.name ∙ ap (λ (q : List ℕ × List ℕ). q.1) same ∙ yr.2.is.name))

few_methods : (F : Joined) → HasNoViolation F → length (rpcs_of F) ≤ MAX_METHODS
few_methods F clean = elim (cases_lt MAX_METHODS (length (rpcs_of F))) [
  | inl more ↦
      let p = some_at (rpcs_of F) MAX_METHODS more in
      absurd (clean Limit p.0.1.name.span (Violations.of_method MAX_METHODS p.0.0 p.0.1 p.1
      (too_many_methods (omega arith) (refl, refl))))
  | inr few ↦ few
]

-- ---- the table

pub valid_table : (F : Joined) (T : Table) → IsFormed F → IsOrdered F → HasNoViolation F → IsMadeTable F T
    → length (table_text T) ≤ MAX_TEXT → IsValid T
valid_table F T formed ordered clean made short =
    let has = has_names F T made in
    let all = made.methods_are.each T has in record {
      few_messages = omega (
        arith,
        few_messages F formed clean,
        in_order_length (IsMessageAt F made.plan) made.messages_are,
        made.is_plan.message_places.order.count,
        made.is_plan.all_messages,
      );
      few_enums = omega (
        arith,
        few_enums F clean,
        in_order_length (IsEnumAt F made.plan) made.enums_are,
        made.is_plan.enum_places.order.count,
        made.is_plan.all_enums,
      );
      few_methods = omega (arith, few_methods F clean, in_order_length (IsMethodIn F T) all);
      enums = λ k d l.
          (in_order_back (IsEnumAt F made.plan) made.enums_are k (get_or T.enums k d) (slice_get-get_or T.enums k d l)).2.valid;
      enums_ascend = enums_ascend F T made;
      messages = λ k d l.
          (in_order_back (IsMessageAt F made.plan) made.messages_are k (get_or T.messages k d)
          (slice_get-get_or T.messages k d l)).2.valid T has;
      messages_ascend = messages_ascend F T made;
      types = types_distinct F T formed ordered clean made;
      methods = λ k d l.
          (in_order_back (IsMethodIn F T) all k (get_or T.methods k d) (slice_get-get_or T.methods k d l)).2.valid;
      method_names = methods_distinct F T formed ordered clean made;
      short = short;
    }

pub made_is_table : (F : Joined) (T : Table) → IsFormed F → IsOrdered F → HasNoViolation F → IsMadeTable F T
    → length (table_text T) ≤ MAX_TEXT → IsTableOf F T
made_is_table F T formed ordered clean made short =
    let has = has_names F T made in record {
      valid = valid_table F T formed ordered clean made short;
      messages = record {
        each = λ m c.
            let l : c.0 < length F.messages = c.1 in
            let o = made.is_plan.message_places.order.each c.0 (omega (arith, made.is_plan.all_messages)) in
            let t = in_order_get (IsMessageAt F made.plan) made.messages_are o.0 c.0
            (at_in made.plan.messages.order.items c.0 o) in
            (t.0, in_list T.messages o.0 t.0 t.1, t.2.is T has m (at_in F.messages m c));
        alone = λ t c.
            let h = message_here F T made c.0 t (at_in T.messages t c) in
            let m = some_at F.messages h.place h.within in
            (m.0, in_list F.messages h.place m.0 m.1, h.is_at.is T has m.0 m.1);
      };
      enums = record {
        each = λ e c.
            let l : c.0 < length F.enums = c.1 in
            let o = made.is_plan.enum_places.order.each c.0 (omega (arith, made.is_plan.all_enums)) in
            let t = in_order_get (IsEnumAt F made.plan) made.enums_are o.0 c.0
            (at_in made.plan.enums.order.items c.0 o) in
            (t.0, in_list T.enums o.0 t.0 t.1, t.2.is e (at_in F.enums e c));
        alone = λ t c.
            let h = enum_here F T made c.0 t (at_in T.enums t c) in
            let e = some_at F.enums h.place h.within in
            (e.0, in_list F.enums h.place e.0 e.1, h.is_at.is e.0 e.1);
      };
      methods = in_order_weaker (IsMethodIn F T) (IsMethodOf T F) (λ r t h. h.is) (made.methods_are.each T has);
    }
