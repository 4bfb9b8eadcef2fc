-- Files without a violation have a plan.
use Rattle.std.proofs.Common.{◌≡◌, ℕ, zero, suc, ◌<◌, ◌≤◌, ◌^◌, List, [], ◌∷◌, ◌++◌, length, map, set, refl, sym, ap, ◌∙◌, subst, arith, add-one}
use Rattle.std.specs.Borrow.{Bor}
use Rattle.std.specs.Global.{Vec}
use Rattle.std.specs.Cmp.Lexicographic.{slice_cmp}
use Rattle.std.specs.Ordering.{nat_cmp}
use Rattle.std.proofs.lemmas.Cmp.{nat_cmp_total, nat_list_cmp_total}
use Rattle.std.proofs.lemmas.List.{get_or_default, length-append}
use Rattle.mrpc_table.specs.Valid.{AreDistinct}
use Rattle.proto_ast.specs.Together.{IsFormed, IsOrdered}
use Rattle.proto_ast.specs.Joined.{Joined, enclosing_of, enclosing_of_enum, package_parts}
use Rattle.schema_symbols.specs.Scopes.{text_of}
use Rattle.schema_resolve.specs.Resolving.{HasNoViolation}
use Rattle.schema_resolve.specs.Placing.{qualified_name, enclosing_name, name_at_index, ArePackageNames, IsOrder, IsPermutationOfIndices, IsOrderedNames, AreMessageNames, AreEnumNames, IsTablePlan}
use Rattle.schema_resolve.specs.declared.placed.PlacedNames.{PlacedNames}
use Rattle.schema_resolve.specs.declared.plan.TablePlan.{TablePlan}
use Rattle.schema_resolve.proofs.Orders.{AreKnown, known_none, known_more, number_of, pair_cmp, order_of, order_all, ArePut, put_more, places_of}
use Rattle.schema_resolve.proofs.CleanFiles.{some_at, AreFirstFronts, fronts_none, fronts_more, fronts_all}
use Rattle.schema_resolve.proofs.CleanFiles.{messages_more, enums_more, messages_distinct, enums_distinct}
use Rattle.schema_resolve.proofs.CleanFiles.{few_messages, few_enums}
use Rattle.schema_resolve.proofs.Sorting.{in_order, IsNotAbove, ascends_sorted, either_way}
use denote.RawPtr.{null_ptr}

-- a vector of these values, and a reference to it
abbrev pub vec_of : {X : Type 0} (xs : List X) → length xs < 2 ^ 63 → Vec X
vec_of xs few = record {
  ptr = null_ptr;
  len = length xs;
  cap = length xs;
  alloc = record { memory = record { seal = tt } };
  items = xs;
  ok = (refl, omega arith);
  small = few;
}

abbrev pub ref_of : {X : Type 0} → X → Bor X
ref_of x = record { ref_ptr = (0, 0); now = x }

-- ---- an order, and the indices in it

names_with_numbers : (names : List (List ℕ)) (n : ℕ) → n ≤ length names
    → (pairs : List (Bor (List ℕ) × ℕ)) × AreKnown names n pairs
names_with_numbers names zero l = ([], known_none names [] refl)
names_with_numbers names (suc n) l =
    let rest = names_with_numbers names n (omega arith) in
    let name : List ℕ = name_at_index names n in
    let more : List (Bor (List ℕ) × ℕ) = rest.0 ++ (ref_of name, n) ∷ [] in (
      more,
      subst (λ (k : ℕ). AreKnown names k more) (add-one n)
          (known_more names n (ref_of name) rest.0 more (omega arith)
          (get_or_default names n [] name (omega arith)) refl rest.1),
    )

-- names by ascending name
order_made : (names : List (List ℕ)) → AreDistinct names → (order : List ℕ) × IsOrder names order
order_made names distinct =
    let known = names_with_numbers names (length names) (omega arith) in
    let sorted = in_order (IsNotAbove pair_cmp)
    (λ (p q : Bor (List ℕ) × ℕ). either_way (slice_cmp nat_cmp) nat_cmp nat_list_cmp_total nat_cmp_total p.0.now q.0.now
    p.1 q.1) known.0 in (
      map number_of sorted.list,
      order_of names known.0 sorted.list distinct known.1 sorted.moved
          (ascends_sorted pair_cmp sorted.list sorted.ascends),
    )

places_put : (order : List ℕ) → IsPermutationOfIndices order → (n : ℕ) → n ≤ length order → (places : List ℕ) × ArePut order n places
places_put order all zero l = (order, record { count = refl; put = λ k i below at. absurd (omega arith) })
places_put order all (suc n) l =
    let rest = places_put order all n (omega arith) in
    let at = some_at order n (omega arith) in
    let more : List ℕ = set rest.0 at.0 n in (
      more,
      subst (λ (k : ℕ). ArePut order k more) (add-one n) (put_more order n at.0 rest.0 more all at.1 refl rest.1),
    )

-- names with their order and their indices in it
placed_made : (names : List (List ℕ)) → length names < 2 ^ 63 → AreDistinct names → (p : PlacedNames) × IsOrderedNames names p
placed_made names few distinct =
    let order = order_made names distinct in
    let all = order_all names order.0 order.1 in
    let put = places_put order.0 all (length order.0) (omega arith) in
    let places = places_of order.0 put.0 all put.1 in (
      record {
        names = vec_of names few;
        order = vec_of order.0 (omega (arith, order.1.count));
        places = vec_of put.0 (omega (arith, order.1.count, places.count));
      },
      record { kept = refl; order = order.1; places = places },
    )

-- ---- the plan

first_fronts : (F : Joined) (n : ℕ) → n ≤ length F.heads → (fronts : List (List ℕ)) × AreFirstFronts F n fronts
first_fronts F zero l = ([], fronts_none F [] refl)
first_fronts F (suc n) l =
    let rest = first_fronts F n (omega arith) in
    let h = some_at F.heads n (omega arith) in
    let name : List ℕ = text_of (package_parts h.0.package) in
    let more : List (List ℕ) = rest.0 ++ name ∷ [] in (
      more,
      subst (λ (k : ℕ). AreFirstFronts F k more) (add-one n)
          (fronts_more F n h.0 name rest.0 more h.1 refl refl rest.1),
    )

-- the names of the files' packages
fronts_made : (F : Joined) → (fronts : List (List ℕ)) × ArePackageNames F fronts
fronts_made F =
    let all = first_fronts F (length F.heads) (omega arith) in
    (all.0, fronts_all F (length F.heads) all.0 refl all.1)

message_names : (F : Joined) (fronts : List (List ℕ)) → IsFormed F → ArePackageNames F fronts → (n : ℕ)
    → n ≤ length F.messages → (names : List (List ℕ)) × (length names ≡ n) × AreMessageNames F names
message_names F fronts formed fronts_are zero l =
    ([], refl, record { each = λ i full below scope. absurd (omega arith) })
message_names F fronts formed fronts_are (suc n) l =
    let rest = message_names F fronts formed fronts_are n (omega arith) in
    let m = some_at F.messages n (omega arith) in
    let name : List ℕ = qualified_name (enclosing_name fronts rest.0 (enclosing_of m.0)) m.0.name.name in
    let more : List (List ℕ) = rest.0 ++ name ∷ [] in (
      more,
      omega (arith, length-append rest.0 (name ∷ []), rest.1),
      messages_more fronts rest.0 more name n m.0 formed fronts_are rest.1 m.1 refl refl rest.2,
    )

enum_names : (F : Joined) (fronts messages : List (List ℕ)) → IsFormed F → ArePackageNames F fronts
    → length messages ≡ length F.messages → AreMessageNames F messages → (n : ℕ) → n ≤ length F.enums
    → (names : List (List ℕ)) × (length names ≡ n) × AreEnumNames F names
enum_names F fronts messages formed fronts_are count known zero l =
    ([], refl, record { each = λ i e outer below at up. absurd (omega arith) })
enum_names F fronts messages formed fronts_are count known (suc n) l =
    let rest = enum_names F fronts messages formed fronts_are count known n (omega arith) in
    let e = some_at F.enums n (omega arith) in
    let name : List ℕ = qualified_name (enclosing_name fronts messages (enclosing_of_enum e.0)) e.0.name.name in
    let more : List (List ℕ) = rest.0 ++ name ∷ [] in (
      more,
      omega (arith, length-append rest.0 (name ∷ []), rest.1),
      enums_more fronts messages rest.0 more name n e.0 formed fronts_are count known rest.1 e.1 refl refl rest.2,
    )

-- a plan without names of packages, which the indices don't depend on
abbrev plan_with : PlacedNames → PlacedNames → TablePlan
plan_with messages enums = record { fronts = vec_of [] (omega arith); messages = messages; enums = enums }

plan_from : (F : Joined) (messages enums : List (List ℕ)) (mp ep : PlacedNames) → length messages ≡ length F.messages
    → length enums ≡ length F.enums → AreMessageNames F messages → AreEnumNames F enums → IsOrderedNames messages mp
    → IsOrderedNames enums ep → IsTablePlan F (plan_with mp ep)
plan_from F messages enums mp ep all_messages all_enums message_names enum_names placed also = record {
  all_messages = ap length placed.kept ∙ all_messages;
  all_enums = ap length also.kept ∙ all_enums;
  messages = subst (AreMessageNames F) (sym placed.kept) message_names;
  enums = subst (AreEnumNames F) (sym also.kept) enum_names;
  message_places = subst (λ (names : List (List ℕ)). IsOrderedNames names mp) (sym placed.kept) placed;
  enum_places = subst (λ (names : List (List ℕ)). IsOrderedNames names ep) (sym also.kept) also;
}

pub plan_made : (F : Joined) → IsFormed F → IsOrdered F → HasNoViolation F → (p : TablePlan) × IsTablePlan F p
plan_made F formed ordered clean =
    let fronts = fronts_made F in
    let messages = message_names F fronts.0 formed fronts.1 (length F.messages) (omega arith) in
    let enums = enum_names F fronts.0 messages.0 formed fronts.1 messages.1 messages.2 (length F.enums) (omega arith) in
    let mp = placed_made messages.0 (omega (arith, messages.1, few_messages F formed clean))
    (messages_distinct F messages.0 formed ordered clean messages.1 messages.2) in
    let ep = placed_made enums.0 (omega (arith, enums.1, few_enums F clean))
    (enums_distinct F enums.0 formed ordered clean enums.1 enums.2) in (
      plan_with mp.0 ep.0,
      plan_from F messages.0 enums.0 mp.0 ep.0 messages.1 enums.1 messages.2 enums.2 mp.1 ep.1,
    )
