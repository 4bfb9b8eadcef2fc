-- The enums of a table.
use Rattle.std.proofs.Common.{◌≡◌, ◌≢◌, ℕ, zero, suc, ◌<◌, ◌≤◌, inl, inr, Bool, true, false, List, [], ◌∷◌, ◌++◌}
use Rattle.std.proofs.Common.{length, get_or, map, ◌^◌, Option, Some, None, refl, sym, ap, ◌∙◌, subst, arith, add-one}
use Rattle.std.specs.Prelude.{Contains, All, slice_get, ℤ, pos, negsuc, FitsSigned, nat_le}
use Rattle.std.specs.Int.{w32}
use Rattle.std.specs.Borrow.{Bor}
use Rattle.std.specs.Option.{option_map}
use Rattle.std.specs.List.{list_all}
use Rattle.std.specs.List.Sorted.{IsPermutation, IsSorted}
use Rattle.std.specs.Cmp.Lexicographic.{slice_cmp}
use Rattle.std.specs.Ordering.{is_lt, nat_cmp, int_cmp, ordering_then, ordering_reverse}
use Rattle.std.specs.declared.cmp.Ordering.{Ordering}
use Rattle.std.specs.declared.cmp.Ordering.TheVariants.{Less, Equal, Greater}
use Rattle.std.proofs.lemmas.Bool.{false≢true, cases_lt, cases_Bool, and_from, and_parts, leb-true, le-leb}
use Rattle.std.proofs.lemmas.Cmp.{nat_list_cmp_total, int_cmp_total, int_ranked}
use Rattle.std.proofs.lemmas.Map.Lookups.{exact_bytes}
use Rattle.std.proofs.lemmas.Option.{slice_get_within, get_or_from_slice_get, slice_get-get_or, same_Some, slice_get-map}
use Rattle.std.proofs.lemmas.List.{get_or-map, get_or_default, length-map, length-append}
use Rattle.std.proofs.lemmas.List.Elements.{All-contains}
use Rattle.std.proofs.lemmas.List.Folds.{list_all-append}
use Rattle.std.proofs.lemmas.List.Sorted.{IsPermutation-map, IsPermutation-sym, length_permutation, Contains-permutation}
use Rattle.mrpc_table.specs.Names.{is_short, is_short_full, is_name_form, parts_of, IsName, IsFullName}
use Rattle.mrpc_table.specs.Valid.{AreDistinct, IsValueBelow}
use Rattle.mrpc_table.specs.declared.limits.TheConstants.{MAX_VALUES, MAX_NAME, MAX_FULL_NAME}
use Rattle.mrpc_table.specs.declared.table.Choices.{Choices}
use Rattle.proto_ast.specs.Order
use Rattle.proto_ast.specs.Order.{HasName, IsFormedEnum}
use Rattle.proto_ast.specs.Together.{IsFormed, IsOrdered, value_decl}
use Rattle.proto_ast.specs.declared.file.Span.{Span}
use Rattle.proto_ast.specs.declared.file.Word.{Word}
use Rattle.proto_ast.specs.declared.file.ValueDecl.{ValueDecl}
use Rattle.proto_ast.specs.declared.file.EnumDecl.{EnumDecl}
use Rattle.proto_ast.specs.Joined.{Joined, enclosing_of_enum, package_parts, package_in}
use Rattle.proto_ast.specs.Together
use Rattle.proto_ast.specs.declared.joined.Head.{Head}
use Rattle.proto_ast.specs.declared.joined.Enclosing.{Enclosing}
use Rattle.schema_symbols.specs.Scopes
use Rattle.schema_symbols.specs.Scopes.{DeclKind, is_type, no_type, an_enum, IsDeclarationOf, text_of, IsScope, of_file, of_message}
use Rattle.schema_validation.specs.Types.{signed_value}
use Rattle.schema_validation.specs.Members
use Rattle.schema_validation.specs.Members.{of_value, of_value_name, value_out_of_range, first_not_zero, name_too_many, name_long, long_message}
use Rattle.schema_validation.specs.Violations
use Rattle.schema_validation.specs.declared.reason.ResolveReason.TheVariants.{NumberRange, FirstEnum, Limit}
use Rattle.schema_resolve.specs.Tables.{IsEnumOf}
use Rattle.schema_resolve.specs.Resolving.{HasNoViolation}
use Rattle.schema_resolve.specs.Placing.{name_at_index, IsTablePlan}
use Rattle.schema_resolve.specs.InOrder.{decl_value_pair, value_pair, AreValues, IsEnumAt}
use Rattle.schema_resolve.specs.declared.plan.TablePlan.{TablePlan}
use Rattle.schema_resolve.proofs.FullNames.{AreNames, scope_names, names_more, parts_of_text}
use Rattle.schema_resolve.proofs.Orders.{AreApart, distinct_apart, apart_distinct, apart_moved, ascends_from, less_plain, element}
use Rattle.schema_resolve.proofs.CleanFiles.{in_list, at_in, some_at, here_enum, one_declaration, enum_text}

-- ---- the elements of a map

pub contains_map : {X Y : Type 0} (f : X → Y) (xs : List X) (x : X) → Contains xs x → Contains (map f xs) (f x)
contains_map f xs x c =
    in_list (map f xs) c.0 (f x) (slice_get-map f xs c.0 ∙ ap (option_map f) (at_in xs x c))

pub map_contains : {X Y : Type 0} (f : X → Y) (xs : List X) (y : Y) → Contains (map f xs) y
    → (x : X) × Contains xs x × (f x ≡ y)
map_contains f xs y c =
    let e = some_at xs c.0 (omega (arith, c.1, length-map xs f)) in
    let s : Some (f e.0) ≡ Some y =
    sym (ap (option_map f) e.1) ∙ sym (slice_get-map f xs c.0) ∙ at_in (map f xs) y c in
    (e.0, in_list xs c.0 e.0 e.1, same_Some (f e.0) y s)

-- ---- values by number and name

abbrev pub value_cmp : ℤ × Bor (List ℕ) → ℤ × Bor (List ℕ) → Ordering
value_cmp p q = ordering_then (int_cmp p.0 q.0) (slice_cmp nat_cmp p.1.now q.1.now)

below_at : (x y : ℤ × List ℕ) (o p : Ordering) → o ≡ int_cmp y.0 x.0 → p ≡ int_cmp x.0 y.0 → p ≡ ordering_reverse o
    → (y.1 ≡ x.1 → ⊥) → is_lt (ordering_then o (slice_cmp nat_cmp y.1 x.1)) ≡ false → IsValueBelow x y
below_at x y Less p e f r apart not_less = absurd (false≢true (sym not_less))
below_at x y Equal p e f r apart not_less =
    let same : y.0 ≡ x.0 = int_ranked y.0 x.0 Equal e in
    inr (sym same, less_plain (slice_cmp nat_cmp) nat_list_cmp_total x.1 y.1 (λ g. apart (exact_bytes y.1 x.1 g)) not_less)
below_at x y Greater p e f r apart not_less = inl (sym f ∙ r)

pub value_below : (x y : ℤ × Bor (List ℕ)) → (y.1.now ≡ x.1.now → ⊥) → is_lt (value_cmp y x) ≡ false
    → IsValueBelow (value_pair x) (value_pair y)
value_below x y apart not_less =
    below_at (value_pair x) (value_pair y) (int_cmp y.0 x.0) (int_cmp x.0 y.0) refl refl
    (int_cmp_total.antisymm x.0 y.0) apart not_less

abbrev pub text_at : ℤ × Bor (List ℕ) → List ℕ
text_at v = v.1.now

value_step : (sorted : List (ℤ × Bor (List ℕ))) → AreApart (map text_at sorted) → IsSorted value_cmp sorted → (k : ℕ)
    (d : ℤ × List ℕ) → suc k < length sorted
    → IsValueBelow (get_or (map value_pair sorted) k d) (get_or (map value_pair sorted) (suc k) d)
value_step sorted apart ascends k d m =
    let n : k < length sorted = omega arith in
    let x = element sorted k n in
    let y = element sorted (suc k) m in
    let xv : get_or (map value_pair sorted) k d ≡ value_pair x.0 =
    get_or-map value_pair sorted k x.0 d n ∙ ap value_pair (x.1 x.0) in
    let yv : get_or (map value_pair sorted) (suc k) d ≡ value_pair y.0 =
    get_or-map value_pair sorted (suc k) y.0 d m ∙ ap value_pair (y.1 y.0) in
    let xt : get_or (map text_at sorted) k [] ≡ x.0.1.now =
    get_or-map text_at sorted k x.0 [] n ∙ ap text_at (x.1 x.0) in
    let yt : get_or (map text_at sorted) (suc k) [] ≡ y.0.1.now =
    get_or-map text_at sorted (suc k) y.0 [] m ∙ ap text_at (y.1 y.0) in
    let apart_here : y.0.1.now ≡ x.0.1.now → ⊥ =
    λ f. let g : suc k ≡ k = apart (suc k) k [] (omega (arith, length-map sorted text_at))
    (omega (arith, length-map sorted text_at)) (yt ∙ f ∙ sym xt) in
    omega arith in
    let less : is_lt (value_cmp y.0 x.0) ≡ false =
    subst (λ (p : ℤ × Bor (List ℕ)). is_lt (value_cmp y.0 p) ≡ false) (x.1 x.0)
    (subst (λ (p : ℤ × Bor (List ℕ)). is_lt (value_cmp p (get_or sorted k x.0)) ≡ false) (y.1 x.0)
    (subst (λ (i : ℕ). is_lt (value_cmp (get_or sorted i x.0) (get_or sorted k x.0)) ≡ false) (add-one k)
    (ascends k x.0 (omega arith) (omega (arith, add-one k))))) in
    subst (λ (v : ℤ × List ℕ). IsValueBelow v (get_or (map value_pair sorted) (suc k) d)) (sym xv)
    (subst (λ (w : ℤ × List ℕ). IsValueBelow (value_pair x.0) w) (sym yv) (value_below x.0 y.0 apart_here less))

pub map_twice : {X Y Z : Type 0} (f : X → Y) (g : Y → Z) (xs : List X) → map g (map f xs) ≡ map (λ x. g (f x)) xs
map_twice f g [] = refl
map_twice f g (x ∷ xs) = ap (λ ys. g (f x) ∷ ys) (map_twice f g xs)

pub values_of : (decls : List ValueDecl) (values sorted : List (ℤ × Bor (List ℕ)))
    → AreDistinct (map (λ (v : ValueDecl). v.name.name) decls) → map value_pair values ≡ map decl_value_pair decls
    → IsPermutation values sorted → IsSorted value_cmp sorted → AreValues decls (map value_pair sorted)
values_of decls values sorted distinct same moved ascends =
    let named : ℤ × List ℕ → List ℕ = λ v. v.1 in
    let pairs : IsPermutation (map value_pair values) (map value_pair sorted) =
    IsPermutation-map value_pair values sorted moved in
    let pairs2 : IsPermutation (map decl_value_pair decls) (map value_pair sorted) =
    subst (λ (vs : List (ℤ × List ℕ)). IsPermutation vs (map value_pair sorted)) same pairs in
    let names : map (λ (v : ValueDecl). v.name.name) decls ≡ map named (map decl_value_pair decls) =
    sym (map_twice decl_value_pair named decls) in
    let apart : AreApart (map named (map value_pair sorted)) =
    apart_moved (map named (map decl_value_pair decls)) (map named (map value_pair sorted))
    (IsPermutation-map named (map decl_value_pair decls) (map value_pair sorted) pairs2)
    (subst (λ (ns : List (List ℕ)). AreApart ns) names
    (distinct_apart (map (λ (v : ValueDecl). v.name.name) decls) distinct)) in
    record {
      count = length_permutation (map decl_value_pair decls) (map value_pair sorted) pairs2 ∙ length-map decls decl_value_pair;
      those = record {
        each = λ v c. (
          decl_value_pair v,
          Contains-permutation (map decl_value_pair decls) (map value_pair sorted) (decl_value_pair v) pairs2
              (contains_map decl_value_pair decls v c),
          (refl, refl),
        );
        alone = λ w c.
            let b = Contains-permutation (map value_pair sorted) (map decl_value_pair decls) w
            (IsPermutation-sym (map decl_value_pair decls) (map value_pair sorted) pairs2) c in
            let x = map_contains decl_value_pair decls w b in
            (x.0, x.1, (ap (λ (v : ℤ × List ℕ). v.0) (sym x.2), ap (λ (v : ℤ × List ℕ). v.1) (sym x.2)));
      };
      ascend = ascends_from IsValueBelow (map value_pair sorted)
          (λ k d l. value_step sorted
          (subst (λ (ns : List (List ℕ)). AreApart ns) (map_twice value_pair named sorted) apart) ascends k d
          (omega (arith, length-map sorted value_pair)));
      distinct = apart_distinct (map named (map value_pair sorted)) apart;
    }

-- ---- clean enums

fits_at : (z : ℤ) → ((FitsSigned w32 z → ⊥) → ⊥) → FitsSigned w32 z
fits_at (pos n) h = elim (cases_lt n (2 ^ 31)) [
  | inl l ↦ record { sfits = l }
  | inr g ↦ absurd (h (λ f. let k : n < 2 ^ 31 = f.sfits in omega arith))
]
fits_at (negsuc n) h = elim (cases_lt n (2 ^ 31)) [
  | inl l ↦ record { sfits = l }
  | inr g ↦ absurd (h (λ f. let k : n < 2 ^ 31 = f.sfits in omega arith))
]

zero_at : (z : ℤ) → ((z ≢ pos 0) → ⊥) → z ≡ pos 0
zero_at (pos zero) h = refl
zero_at (pos (suc n)) h = absurd (h (λ e. cc))
zero_at (negsuc n) h = absurd (h (λ e. cc))

pub enum_formed : (F : Joined) (i : ℕ) (e : EnumDecl) → IsFormed F → slice_get F.enums i ≡ Some e → IsFormedEnum e
enum_formed F i e formed at = All-contains IsFormedEnum F.enums e formed.enums (in_list F.enums i e at)

pub values_fit : (F : Joined) (i : ℕ) (e : EnumDecl) → HasNoViolation F → slice_get F.enums i ≡ Some e
    → All (λ (v : ValueDecl). FitsSigned w32 (signed_value v.number)) e.values
values_fit F i e clean at k d l =
    fits_at (signed_value (get_or e.values k d).number)
    (λ not. clean NumberRange (get_or e.values k d).number.span (Violations.of_enum i e at
    (of_value k (value_out_of_range (get_or e.values k d) (slice_get-get_or e.values k d l) not (refl, refl)))))

same_value : (i j k : ℕ) → value_decl i j ≡ value_decl i k → j ≡ k
same_value i j k e = cc

pub values_distinct : (F : Joined) (i : ℕ) (e : EnumDecl) → IsFormed F → IsOrdered F → HasNoViolation F
    → slice_get F.enums i ≡ Some e → AreDistinct (map (λ (v : ValueDecl). v.name.name) e.values)
values_distinct F i e formed ordered clean at =
    let name : ValueDecl → List ℕ = λ v. v.name.name in
    let here = here_enum F i formed (slice_get_within F.enums i e at) in
    let same : here.decl ≡ e = same_Some here.decl e (sym here.at ∙ at) in
    let up : IsScope F (enclosing_of_enum e) here.outer = subst (λ (x : EnumDecl). IsScope F (enclosing_of_enum x) here.outer) same here.up in
    let enum : Contains F.enums e = in_list F.enums i e at in
    apart_distinct (map name e.values)
    (λ j k d a b s.
    let x = some_at e.values j (omega (arith, length-map e.values name)) in
    let y = some_at e.values k (omega (arith, length-map e.values name)) in
    let xs : Contains e.values x.0 = in_list e.values j x.0 x.1 in
    let ys : Contains e.values y.0 = in_list e.values k y.0 y.1 in
    let xn : get_or (map name e.values) j d ≡ x.0.name.name =
    get_or-map name e.values j x.0 d (omega (arith, length-map e.values name))
    ∙ ap name (get_or_from_slice_get e.values j x.0 x.0 x.1) in
    let yn : get_or (map name e.values) k d ≡ y.0.name.name =
    get_or-map name e.values k y.0 d (omega (arith, length-map e.values name))
    ∙ ap name (get_or_from_slice_get e.values k y.0 y.0 y.1) in
    let formed_values = (enum_formed F i e formed at).values in
    same_value i j k
    (one_declaration F (value_decl i j) (value_decl i k) no_type no_type (here.outer ++ x.0.name.name ∷ [])
    (here.outer ++ y.0.name.name ∷ []) x.0.name.span y.0.name.span ordered clean (Scopes.value e x.0 enum xs up)
    (Scopes.value e y.0 enum ys up) (Together.value i j e x.0 at x.1 (Order.value_name refl))
    (Together.value i k e y.0 at y.1 (Order.value_name refl))
    (names_more here.outer x.0.name.name (scope_names formed up)
    (All-contains (λ (v : ValueDecl). HasName v.name) e.values x.0 formed_values xs))
    (names_more here.outer y.0.name.name (scope_names formed up)
    (All-contains (λ (v : ValueDecl). HasName v.name) e.values y.0 formed_values ys))
    (ap (λ (n : List ℕ). text_of (here.outer ++ n ∷ [])) (sym xn ∙ s ∙ yn))))

pub short_from : (name : List ℕ) → (is_short name ≡ false → ⊥) → length name ≤ MAX_NAME
short_from name h = elim (cases_Bool (is_short name)) [
  | inl t ↦ leb-true (length name) MAX_NAME t
  | inr f ↦ absurd (h f)
]

pub value_named : (F : Joined) (i : ℕ) (e : EnumDecl) (v : ValueDecl) → IsFormed F → HasNoViolation F
    → slice_get F.enums i ≡ Some e → Contains e.values v → IsName v.name.name
value_named F i e v formed clean at c = record {
  form = All-contains (λ (x : ValueDecl). HasName x.name) e.values v (enum_formed F i e formed at).values c;
  short = short_from v.name.name
      (λ f. clean Limit v.name.span (Violations.of_enum i e at
      (of_value_name c.0 v (at_in e.values v c) (name_long (f, (refl, refl))))));
}

pub few_values : (F : Joined) (i : ℕ) (e : EnumDecl) → HasNoViolation F → slice_get F.enums i ≡ Some e
    → length e.values ≤ MAX_VALUES
few_values F i e clean at = elim (cases_lt MAX_VALUES (length e.values)) [
  | inl more ↦
      let v = some_at e.values MAX_VALUES more in
      absurd (clean Limit v.0.name.span (Violations.of_enum i e at
      (of_value_name MAX_VALUES v.0 v.1 (name_too_many (omega arith) (refl, refl)))))
  | inr few ↦ few
]

pub first_zero : (F : Joined) (i : ℕ) (e : EnumDecl) → IsFormed F → HasNoViolation F → slice_get F.enums i ≡ Some e
    → (v : ValueDecl) × Contains e.values v × (signed_value v.number ≡ pos 0)
first_zero F i e formed clean at =
    let v = some_at e.values 0 (enum_formed F i e formed at).filled in (
      v.0,
      in_list e.values 0 v.0 v.1,
      zero_at (signed_value v.0.number)
          (λ not. clean FirstEnum v.0.number.span (Violations.of_enum i e at
          (of_value 0 (first_not_zero v.0 v.1 refl not (refl, refl))))),
    )

-- ---- full names

pub true_from : (b : Bool) → (b ≡ false → ⊥) → b ≡ true
true_from true h = refl
true_from false h = absurd (h refl)

package_short_at : (F : Joined) (k : ℕ) (h : Head) (word : Option Word) → slice_get F.heads k ≡ Some h → h.package ≡ word
    → HasNoViolation F → list_all is_short (package_parts word) ≡ true
package_short_at F k h None at e clean = refl
package_short_at F k h (Some w) at e clean =
    let t : is_short_full w.name ≡ true = true_from (is_short_full w.name)
    (λ f. clean Limit w.span (Violations.of_package k h w at e f (refl, refl))) in
    (and_parts (list_all is_short (parts_of w.name)) (nat_le (length w.name) MAX_FULL_NAME) t).0

pub short_more : (outer : List (List ℕ)) (name : List ℕ) → list_all is_short outer ≡ true → is_short name ≡ true
    → list_all is_short (outer ++ name ∷ []) ≡ true
short_more outer name h n =
    list_all-append is_short outer (name ∷ [])
    ∙ and_from (list_all is_short outer) (list_all is_short (name ∷ [])) h (and_from (is_short name) true n refl)

package_short : (F : Joined) (k : ℕ) (head : Option Head) → slice_get F.heads k ≡ head → HasNoViolation F
    → list_all is_short (package_in head) ≡ true
package_short F k None at clean = refl
package_short F k (Some h) at clean = package_short_at F k h h.package at refl clean

pub scope_short : {F : Joined} {place : Enclosing} {scope : List (List ℕ)} → HasNoViolation F → IsScope F place scope
    → list_all is_short scope ≡ true
scope_short {F} clean (of_file k) = package_short F k (slice_get F.heads k) refl clean
scope_short {F} clean (of_message i m {outer} at up) =
    short_more outer m.name.name (scope_short clean up)
    (true_from (is_short m.name.name)
    (λ f. clean Limit m.name.span (Violations.of_message i m at (of_message i m at up) (long_message (f, (refl, refl))))))

parts_at : (full : List (List ℕ)) → 0 < length full → AreNames full → parts_of (text_of full) ≡ full
parts_at [] l h = absurd (omega arith)
parts_at (x ∷ xs) l h = parts_of_text x xs h

pub full_valid : (full : List (List ℕ)) → 0 < length full → AreNames full → list_all is_short full ≡ true
    → (MAX_FULL_NAME < length (text_of full) → ⊥) → IsFullName (text_of full)
full_valid full some names short not_long =
    let e : parts_of (text_of full) ≡ full = parts_at full some names in record {
      form = ap (list_all is_name_form) e ∙ names;
      short = and_from (list_all is_short (parts_of (text_of full))) (nat_le (length (text_of full)) MAX_FULL_NAME)
          (ap (list_all is_short) e ∙ short)
          (elim (cases_lt MAX_FULL_NAME (length (text_of full))) [
            | inl more ↦ absurd (not_long more)
            | inr few ↦ le-leb (length (text_of full)) MAX_FULL_NAME few
          ]);
    }

pub type_valid : (F : Joined) {k : ℕ} (sort : DeclKind) (outer : List (List ℕ)) (name : List ℕ) (span : Span) → HasNoViolation F
    → IsDeclarationOf F k sort (outer ++ name ∷ []) span → is_type sort ≡ true → AreNames (outer ++ name ∷ [])
    → list_all is_short (outer ++ name ∷ []) ≡ true → IsFullName (text_of (outer ++ name ∷ []))
type_valid F {k} sort outer name span clean d typ names short =
    full_valid (outer ++ name ∷ []) (omega (arith, length-append outer (name ∷ []))) names short
    (λ l. clean Limit span (Violations.long_in_full span
    (Violations.a_type k sort (outer ++ name ∷ []) d typ l) (refl, refl)))

-- ---- the enum

pub enum_at : (F : Joined) (p : TablePlan) (i : ℕ) (e : EnumDecl) (c : Choices) → IsFormed F → IsOrdered F → HasNoViolation F
    → IsTablePlan F p → slice_get F.enums i ≡ Some e → c.name ≡ name_at_index p.enums.names.items i
    → AreValues e.values c.values → IsEnumAt F p i c
enum_at F p i e c formed ordered clean plan at name values =
    let here = here_enum F i formed (slice_get_within F.enums i e at) in
    let same : here.decl ≡ e = same_Some here.decl e (sym here.at ∙ at) in
    let up : IsScope F (enclosing_of_enum e) here.outer = subst (λ (x : EnumDecl). IsScope F (enclosing_of_enum x) here.outer) same here.up in
    let text : c.name ≡ text_of (here.outer ++ here.decl.name.name ∷ []) =
    name ∙ enum_text F p.enums.names.items i here plan.enums
    (omega (arith, plan.all_enums, slice_get_within F.enums i e at)) [] in
    let text2 : c.name ≡ text_of (here.outer ++ e.name.name ∷ []) =
    text ∙ ap (λ (x : EnumDecl). text_of (here.outer ++ x.name.name ∷ [])) same in
    let short : is_short here.decl.name.name ≡ true = true_from (is_short here.decl.name.name)
    (λ f. clean Limit here.decl.name.span (Violations.of_enum i here.decl here.at (Members.long_enum (f, (refl, refl))))) in
    record {
      is = λ d there.
          let one : e ≡ d = same_Some e d (sym at ∙ there) in
          subst (λ (x : EnumDecl). IsEnumOf F x c) one
          (record { outer = here.outer; stands = up; name = text2; values = values.those });
      valid = record {
        name = subst IsFullName (sym text)
            (type_valid F an_enum here.outer here.decl.name.name here.decl.name.span clean here.declares refl here.names
            (short_more here.outer here.decl.name.name (scope_short clean here.up) short));
        few = omega (arith, values.count, few_values F i e clean at);
        numbers = λ k d l.
            let w = values.those.alone (get_or c.values k d) (k, l, get_or_default c.values k (get_or c.values k d) d l) in
            subst (FitsSigned w32) (sym w.2.0)
            (All-contains (λ (v : ValueDecl). FitsSigned w32 (signed_value v.number)) e.values w.0 (values_fit F i e clean at) w.1);
        each_name = λ k d l.
            let w = values.those.alone (get_or c.values k d) (k, l, get_or_default c.values k (get_or c.values k d) d l) in
            subst IsName (sym w.2.1) (value_named F i e w.0 formed clean at w.1);
        ascend = values.ascend;
        names = values.distinct;
        zero =
            let z = first_zero F i e formed clean at in
            let w = values.those.each z.0 z.1 in
            subst (Contains (map (λ (v : ℤ × List ℕ). v.0) c.values)) (w.2.0 ∙ z.2)
            (contains_map (λ (v : ℤ × List ℕ). v.0) c.values w.0 w.1);
      };
      name = name;
    }
