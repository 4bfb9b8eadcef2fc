-- Files without a violation have a table, and all others have a first violation.
use Rattle.std.proofs.Common.{◌≡◌, ◌⊎◌, inl, inr, ℕ, zero, suc, ◌+◌, ◌*◌, ◌<◌, ◌≤◌, true, List, [], ◌∷◌, ◌++◌, length}
use Rattle.std.proofs.Common.{map, refl, sym, ◌∙◌, subst, arith}
use Rattle.std.specs.Prelude.{Contains, slice_get, ℤ, Some}
use Rattle.std.specs.Borrow.{Bor}
use Rattle.std.specs.Cmp.Lexicographic.{slice_cmp}
use Rattle.std.specs.Ordering.{nat_cmp, int_cmp}
use Rattle.std.proofs.lemmas.Bool.{cases_lt}
use Rattle.std.proofs.lemmas.Option.{same_Some}
use Rattle.std.proofs.lemmas.Cmp.{nat_list_cmp_total, int_cmp_total}
use Rattle.std.proofs.lemmas.List.Elements.{All-contains}
use Rattle.mrpc_table.specs.declared.table.Choices.{Choices}
use Rattle.mrpc_table.specs.declared.table.Method.{Method}
use Rattle.mrpc_table.specs.declared.table.Table.{Table}
use Rattle.proto_ast.specs.Together.{IsFormed, IsOrdered}
use Rattle.proto_ast.specs.Joined.{Joined, package_at}
use Rattle.proto_ast.specs.declared.file.Span.{Span}
use Rattle.proto_ast.specs.declared.file.MessageDecl.{MessageDecl}
use Rattle.proto_ast.specs.declared.file.ValueDecl.{ValueDecl}
use Rattle.proto_ast.specs.declared.file.EnumDecl.{EnumDecl}
use Rattle.proto_ast.specs.declared.file.RpcDecl.{RpcDecl}
use Rattle.proto_ast.specs.declared.file.ServiceDecl.{ServiceDecl}
use Rattle.proto_ast.specs.declared.file.File.{File}
use Rattle.schema_symbols.specs.Scopes
use Rattle.schema_symbols.specs.Scopes.{IsDeclarationOf, IsVisibleDeclaration, IsReferenceTo, a_message, an_enum, is_type, text_of}
use Rattle.schema_symbols.specs.Numbers
use Rattle.schema_symbols.specs.Numbers.{IsSymbolAt, IsOfFile, IsFirstSymbol, decl_kind}
use Rattle.schema_symbols.specs.declared.symbol.Symbol.{Symbol}
use Rattle.schema_symbols.specs.declared.symbol.Symbol.TheVariants as named
use Rattle.schema_validation.specs.Methods.{rpcs_of}
use Rattle.schema_validation.specs.Types.{signed_value}
use Rattle.schema_validation.specs.Violations.{IsViolated, HasFirstViolation, IsFileViolation, HasFirstFileViolation, IsNoLaterViolation, violation_rank}
use Rattle.schema_validation.specs.declared.reason.ResolveReason.{ResolveReason}
use Rattle.schema_validation.specs.declared.reason.ResolveReason.TheVariants.{UnknownName, NumberRange, DuplicateNumber, DuplicateName, Reserved, FirstEnum, MapKey, MapPlace, Limit, Import}
use Rattle.schema_resolve.specs.Resolving.{HasNoViolation, AreResolvedTogether}
use Rattle.schema_resolve.specs.Placing.{name_at_index, IsTablePlan, HasTableNames}
use Rattle.schema_resolve.specs.InOrder.{value_pair, AreValues, IsPlaceNamed, IsMethodIn, IsEnumAt}
use Rattle.schema_resolve.specs.Joining.{IsMessageAt}
use Rattle.schema_resolve.specs.Making.{IsMadeTable}
use Rattle.schema_resolve.specs.declared.plan.TablePlan.{TablePlan}
use Rattle.schema_resolve.proofs.CleanFiles.{in_list, at_in, some_at}
use Rattle.schema_resolve.proofs.EnumTables.{value_cmp, map_twice, values_of, values_distinct, enum_at}
use Rattle.schema_resolve.proofs.MethodTables.{placed_at, message_standing, place_named, has_input, has_output, method_of}
use Rattle.schema_resolve.proofs.MessageTables.{in_order_weaker}
use Rattle.schema_resolve.proofs.TableParts.{rpc_here, made_is_table}
use Rattle.schema_resolve.proofs.TextParts.{text_short}
use Rattle.schema_resolve.proofs.NotRefuted.{IsNotRefuted, all_chosen}
use Rattle.schema_resolve.proofs.Sorting.{in_order, IsNotAbove, ascends_sorted, either_way}
use Rattle.schema_resolve.proofs.PlanExists.{ref_of, plan_made}
use Rattle.schema_resolve.proofs.MessageExists.{message_stands, message_exists}

-- ---- enums

abbrev value_read : ValueDecl → ℤ × Bor (List ℕ)
value_read v = (signed_value v.number, ref_of v.name.name)

values_made : (F : Joined) (i : ℕ) (e : EnumDecl) → IsFormed F → IsOrdered F → HasNoViolation F → slice_get F.enums i ≡ Some e
    → (values : List (ℤ × List ℕ)) × AreValues e.values values
values_made F i e formed ordered clean at =
    let read : List (ℤ × Bor (List ℕ)) = map value_read e.values in
    let sorted = in_order (IsNotAbove value_cmp)
    (λ (p q : ℤ × Bor (List ℕ)). either_way int_cmp (slice_cmp nat_cmp) int_cmp_total nat_list_cmp_total p.0 q.0 p.1.now
    q.1.now) read in (
      map value_pair sorted.list,
      values_of e.values read sorted.list (values_distinct F i e formed ordered clean at)
          (map_twice value_read value_pair e.values) sorted.moved (ascends_sorted value_cmp sorted.list sorted.ascends),
    )

enum_made : (F : Joined) (p : TablePlan) (i : ℕ) → IsFormed F → IsOrdered F → HasNoViolation F → IsTablePlan F p → i < length F.enums
    → (c : Choices) × IsEnumAt F p i c
enum_made F p i formed ordered clean plan l =
    let e = some_at F.enums i l in
    let values = values_made F i e.0 formed ordered clean e.1 in
    let c : Choices = record { name = name_at_index p.enums.names.items i; values = values.0 } in
    (c, enum_at F p i e.0 c formed ordered clean plan e.1 refl values.1)

-- ---- methods

stands_declared : {F : Joined} {n : Symbol} {file : ℕ} {full : List (List ℕ)} {span : Span} → IsSymbolAt F n full span
    → IsOfFile F n file → IsDeclarationOf F file (decl_kind n) full span
stands_declared {F} (Numbers.message i m {outer} at up) (Numbers.message_of j n also) =
    subst (λ (x : MessageDecl). IsDeclarationOf F x.file a_message (outer ++ m.name.name ∷ []) m.name.span)
    (same_Some m n (sym at ∙ also)) (Scopes.message m (in_list F.messages i m at) up)
stands_declared {F} (Numbers.enum i e {outer} at up) (Numbers.enum_of j d also) =
    subst (λ (x : EnumDecl). IsDeclarationOf F x.file an_enum (outer ++ e.name.name ∷ []) e.name.span)
    (same_Some e d (sym at ∙ also)) (Scopes.enum e (in_list F.enums i e at) up)

is_a_type : (n : Symbol) → is_type (decl_kind n) ≡ true
is_a_type (named.Message i) = refl
is_a_type (named.Enum i) = refl

first_message : (F : Joined) (file : ℕ) (full : List (List ℕ)) → IsVisibleDeclaration F file a_message full
    → (i : ℕ) × IsFirstSymbol F file (named.Message i) full
first_message F file full h =
    let s = message_stands h.declared in (
      s.0,
      record {
        span = h.span;
        stands = s.1;
        seen = record { other = h.other; stands_in = s.2; seen = h.seen };
        first = λ n t seen other.
            h.first seen.other (decl_kind n) t seen.seen (stands_declared other seen.stands_in) (is_a_type n);
      },
    )

-- the index of the message that the type of a file's rpc names
record Located (F : Joined) (file : ℕ) (p : TablePlan) (name : List ℕ) : Type 0 where
  place : ℕ
  located : (T : Table) → HasTableNames p T → IsPlaceNamed F file T name place

located_at : (F : Joined) (file : ℕ) (p : TablePlan) (name : List ℕ) (full : List (List ℕ)) → IsTablePlan F p
    → IsReferenceTo F file (package_at F file) name a_message full → Located F file p name
located_at F file p name full plan names =
    let first = first_message F file full names.finds in
    let l : first.0 < length F.messages = (message_standing first.1.stands).1 in
    let at = placed_at p.messages.names.items p.messages first.0 plan.message_places
    (omega (arith, plan.all_messages)) in
    record { place = at.0; located = place_named F file p name first.0 at.0 full plan names first.1 at.1.back }

abbrev IsMethodOfPlan : Joined → TablePlan → ServiceDecl × RpcDecl → Method → Type 0
IsMethodOfPlan F p x m = (T : Table) → HasTableNames p T → IsMethodIn F T x m

method_made : (F : Joined) (p : TablePlan) (s : ServiceDecl) (r : RpcDecl) → IsFormed F → HasNoViolation F → IsTablePlan F p
    → Contains F.services s → Contains s.rpcs r → Located F s.file p r.input.name → Located F s.file p r.output.name
    → (m : Method) × IsMethodOfPlan F p (s, r) m
method_made F p s r formed clean plan c d input output =
    let m : Method = record {
      service = text_of (package_at F s.file ++ s.name.name ∷ []);
      name = r.name.name;
      input = input.place;
      output = output.place;
    } in (
      m,
      λ T has. method_of F p T s r m formed clean c d refl refl (input.located T has)
          (output.located T has),
    )

method_exists : (F : Joined) (p : TablePlan) (x : ServiceDecl × RpcDecl) → IsFormed F → HasNoViolation F → IsTablePlan F p
    → Contains (rpcs_of F) x → IsNotRefuted ((m : Method) × IsMethodOfPlan F p x m)
method_exists F p x formed clean plan at never =
    let h = rpc_here F.services at.0 x.0 x.1 (at_in (rpcs_of F) x at) in
    let c : Contains F.services x.0 = in_list F.services h.service x.0 h.its_service in
    let d : Contains x.0.rpcs x.1 = in_list x.0.rpcs h.rpc x.1 h.its_rpc in
    has_input F x.0 x.1 clean c d
    (λ input names. has_output F x.0 x.1 clean c d
    (λ output others. never (method_made F p x.0 x.1 formed clean plan c d
    (located_at F x.0.file p x.1.input.name input plan names)
    (located_at F x.0.file p x.1.output.name output plan others))))

-- ---- the table

message_within : (F : Joined) (p : TablePlan) → IsTablePlan F p → (i : ℕ) → Contains p.messages.order.items i
    → i < length F.messages
message_within F p plan i c =
    let n = length p.messages.names.items in
    let l : i < n = All-contains (λ (k : ℕ). k < n) p.messages.order.items i plan.message_places.order.within c in
    omega (arith, plan.all_messages)

enum_within : (F : Joined) (p : TablePlan) → IsTablePlan F p → (i : ℕ) → Contains p.enums.order.items i → i < length F.enums
enum_within F p plan i c =
    let n = length p.enums.names.items in
    let l : i < n = All-contains (λ (k : ℕ). k < n) p.enums.order.items i plan.enum_places.order.within c in
    omega (arith, plan.all_enums)

pub table_exists : (F : Joined) → IsFormed F → IsOrdered F → HasNoViolation F
    → IsNotRefuted ((T : Table) × AreResolvedTogether F T)
table_exists F formed ordered clean never =
    let plan = plan_made F formed ordered clean in
    let p : TablePlan = plan.0 in
    all_chosen (IsMessageAt F p) p.messages.order.items
    (λ i c. message_exists F p i formed ordered clean plan.1 (message_within F p plan.1 i c))
    (λ messages. all_chosen (IsEnumAt F p) p.enums.order.items
    (λ i c no_enum. no_enum (enum_made F p i formed ordered clean plan.1 (enum_within F p plan.1 i c)))
    (λ enums. all_chosen (IsMethodOfPlan F p) (rpcs_of F) (λ x c. method_exists F p x formed clean plan.1 c)
    (λ methods.
    let T : Table = record { messages = messages.0; enums = enums.0; methods = methods.0 } in
    let made : IsMadeTable F T = record {
      plan = p;
      is_plan = plan.1;
      messages_are = messages.1;
      enums_are = enums.1;
      methods_are = record {
        each = λ U has. in_order_weaker (IsMethodOfPlan F p) (IsMethodIn F U) (λ x m h. h U has) methods.1;
      };
    } in
    never (
      T,
      record {
        table = made_is_table F T formed ordered clean made (text_short F T ordered clean made);
        clean = clean;
      },
    ))))

-- ---- the first violation

-- the rank of a violation among all of them
abbrev turn : ResolveReason → Span → ℕ
turn q s = s.start * 11 + violation_rank q

few_ranks : (q : ResolveReason) → violation_rank q ≤ 10
few_ranks UnknownName = omega arith
few_ranks NumberRange = omega arith
few_ranks DuplicateNumber = omega arith
few_ranks DuplicateName = omega arith
few_ranks Reserved = omega arith
few_ranks FirstEnum = omega arith
few_ranks MapKey = omega arith
few_ranks MapPlace = omega arith
few_ranks Limit = omega arith
few_ranks Import = omega arith

in_turn : (a b m n : ℕ) → m ≤ 10 → n ≤ 10 → a * 11 + m ≤ b * 11 + n → (a < b) ⊎ ((a ≡ b) × (m ≤ n))
in_turn a b m n few also h = elim (cases_lt a b) [
  | inl l ↦ inl l
  | inr g ↦ inr (omega arith, omega arith)
]

-- if no violation is the first, there is none up to any rank
none_before : (O : ResolveReason → Span → Type 0)
    → ((q : ResolveReason) (s : Span) → O q s → ((r : ResolveReason) (t : Span) → O r t → IsNoLaterViolation q s r t) → ⊥)
    → (n : ℕ) (q : ResolveReason) (s : Span) → turn q s < n → O q s → ⊥
none_before O never zero q s l is = omega arith
none_before O never (suc n) q s l is =
    never q s is
    (λ r t other. elim (cases_lt (turn r t) (turn q s)) [
      | inl sooner ↦ absurd (none_before O never n r t (omega arith) other)
      | inr later ↦ in_turn s.start t.start (violation_rank q) (violation_rank r) (few_ranks q) (few_ranks r) later
    ])

pub none_of_all : (F : Joined) → ((q : ResolveReason) (s : Span) → HasFirstViolation F q s → ⊥) → HasNoViolation F
none_of_all F never q s is =
    none_before (IsViolated F) (λ r t here first. never r t (record { offence = here; first = first })) (suc (turn q s))
    q s (omega arith) is

pub no_offence : (F : File) → ((q : ResolveReason) (s : Span) → HasFirstFileViolation F q s → ⊥) → (q : ResolveReason) (s : Span)
    → IsFileViolation F q s → ⊥
no_offence F never q s is =
    none_before (IsFileViolation F) (λ r t here first. never r t (record { offence = here; first = first })) (suc (turn q s))
    q s (omega arith) is
