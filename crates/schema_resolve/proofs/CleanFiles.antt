-- Properties of files without a violation.
use Rattle.std.proofs.Common.{◌≡◌, ℕ, zero, suc, ◌+◌, ◌<◌, ◌≤◌, inl, inr, List, [], ◌∷◌, ◌++◌, length, get_or, Option}
use Rattle.std.proofs.Common.{Some, None, refl, sym, ap, ◌∙◌, subst, arith}
use Rattle.std.specs.Prelude.{Contains, slice_get}
use Rattle.std.proofs.lemmas.Bool.{cases_lt, cases_order}
use Rattle.std.proofs.lemmas.Option.{slice_get_within, get_or_from_slice_get, same_Some, slice_get_read}
use Rattle.std.proofs.lemmas.List.{length-append}
use Rattle.std.proofs.lemmas.List.Elements.{All-contains}
use Rattle.mrpc_table.specs.Valid.{AreDistinct}
use Rattle.mrpc_table.specs.declared.limits.TheConstants.{MAX_MESSAGES, MAX_ENUMS}
use Rattle.proto_ast.specs.Order
use Rattle.proto_ast.specs.Order.{IsIndexBelow, its_name}
use Rattle.proto_ast.specs.Together.{DeclIndex, IsFormed, IsOrdered, IsPartSpan, enum_decl, message_decl}
use Rattle.proto_ast.specs.declared.file.Span.{Span}
use Rattle.proto_ast.specs.declared.file.MessageDecl.{MessageDecl}
use Rattle.proto_ast.specs.declared.file.EnumDecl.{EnumDecl}
use Rattle.proto_ast.specs.Joined.{Joined, enclosing_in, enclosing_of, enclosing_of_enum, package_parts, package_in, package_at}
use Rattle.proto_ast.specs.declared.joined.Enclosing.TheVariants as home
use Rattle.proto_ast.specs.Together
use Rattle.proto_ast.specs.declared.joined.Head.{Head}
use Rattle.proto_ast.specs.declared.joined.Enclosing.{Enclosing}
use Rattle.schema_symbols.specs.Scopes
use Rattle.schema_symbols.specs.Scopes.{DeclKind, a_message, an_enum, IsDeclarationOf, text_of, IsScope, of_file, of_message}
use Rattle.schema_validation.specs.Members.{too_many_messages, too_many_enums}
use Rattle.schema_validation.specs.Violations
use Rattle.schema_validation.specs.declared.reason.ResolveReason.TheVariants.{DuplicateName, Limit}
use Rattle.schema_resolve.specs.Resolving.{HasNoViolation}
use Rattle.schema_resolve.specs.Placing.{qualified_name, name_at_index, enclosing_name, ArePackageNames, IsEnclosingAmong, AreMessageNames, AreEnumNames}
use Rattle.schema_resolve.proofs.FullNames.{AreNames, same_text, scope_names, names_more, behind_text, message_formed}
use Rattle.schema_resolve.proofs.Orders.{apart_distinct}

-- ---- elements

pub in_list : {X : Type 0} (xs : List X) (i : ℕ) (x : X) → slice_get xs i ≡ Some x → Contains xs x
in_list xs i x e = (i, slice_get_within xs i x e, get_or_from_slice_get xs i x x e)

pub at_in : {X : Type 0} (xs : List X) (x : X) (c : Contains xs x) → slice_get xs c.0 ≡ Some x
at_in xs x c = slice_get_read xs (length xs) c.0 x refl c.1 (sym c.2)

pub some_at : {X : Type 0} (xs : List X) (i : ℕ) → i < length xs → (x : X) × (slice_get xs i ≡ Some x)
some_at [] i l = absurd (omega arith)
some_at (x ∷ xs) zero l = (x, refl)
some_at (x ∷ xs) (suc i) l = some_at xs i (omega arith)

pub push_old : {X : Type 0} (xs zs : List X) (i : ℕ) → i < length xs → slice_get (xs ++ zs) i ≡ slice_get xs i
push_old [] zs i l = absurd (omega arith)
push_old (x ∷ xs) zs zero l = refl
push_old (x ∷ xs) zs (suc i) l = push_old xs zs i (omega arith)

pub push_new : {X : Type 0} (xs : List X) (x : X) (i : ℕ) → length xs ≡ i → slice_get (xs ++ x ∷ []) i ≡ Some x
push_new [] x zero e = refl
push_new [] x (suc i) e = absurd (omega arith)
push_new (y ∷ xs) x zero e = absurd (omega arith)
push_new (y ∷ xs) x (suc i) e = push_new xs x i (omega arith)

-- ---- the names of packages

-- the names of the packages of the first files
pub record AreFirstFronts (F : Joined) (n : ℕ) (fronts : List (List ℕ)) : Type 0 where
  pub count : length fronts ≡ n
  pub each : (k : ℕ) → k < n → name_at_index fronts k ≡ text_of (package_at F k)

pub fronts_none : (F : Joined) (fronts : List (List ℕ)) → fronts ≡ [] → AreFirstFronts F 0 fronts
fronts_none F fronts e = record { count = ap length e; each = λ k l. absurd (omega arith) }

front_old : (fronts : List (List ℕ)) (name : List ℕ) (k : ℕ) → k < length fronts
    → name_at_index (fronts ++ name ∷ []) k ≡ name_at_index fronts k
front_old fronts name k l =
    let x = some_at fronts k l in
    get_or_from_slice_get (fronts ++ name ∷ []) k x.0 [] (push_old fronts (name ∷ []) k l ∙ x.1)
    ∙ sym (get_or_from_slice_get fronts k x.0 [] x.1)

pub fronts_more : (F : Joined) (i : ℕ) (h : Head) (name : List ℕ) (fronts more : List (List ℕ))
    → slice_get F.heads i ≡ Some h → name ≡ text_of (package_parts h.package) → more ≡ fronts ++ name ∷ []
    → AreFirstFronts F i fronts → AreFirstFronts F (i + 1) more
fronts_more F i h name fronts more at is grown known =
    subst (AreFirstFronts F (i + 1)) (sym grown) (record {
      count = length-append fronts (name ∷ []) ∙ ap (λ (n : ℕ). n + 1) known.count;
      each = λ k l. elim (cases_lt k i) [
        | inl old ↦ front_old fronts name k (omega (arith, known.count)) ∙ known.each k old
        | inr new ↦
            let s : k ≡ i = omega arith in
            get_or_from_slice_get (fronts ++ name ∷ []) k name [] (push_new fronts name k (known.count ∙ sym s)) ∙ is
            ∙ ap (λ (o : Option Head). text_of (package_in o)) (sym (ap (slice_get F.heads) s ∙ at))
      ];
    })

pub fronts_all : (F : Joined) (i : ℕ) (fronts : List (List ℕ)) → i ≡ length F.heads → AreFirstFronts F i fronts
    → ArePackageNames F fronts
fronts_all F i fronts e known = record {
  count = known.count ∙ e;
  each = λ k l. known.each k (omega arith);
}

-- ---- scopes

pub scope_of_file : {F : Joined} {k : ℕ} {s : List (List ℕ)} → IsScope F (home.File k) s → s ≡ package_at F k
scope_of_file (of_file k) = refl

pub record ScopeParts (F : Joined) (i : ℕ) (s : List (List ℕ)) : Type 0 where
  pub decl : MessageDecl
  pub outer : List (List ℕ)
  pub at : slice_get F.messages i ≡ Some decl
  pub up : IsScope F (enclosing_of decl) outer
  pub is : s ≡ outer ++ decl.name.name ∷ []

pub scope_parts : {F : Joined} {i : ℕ} {s : List (List ℕ)} → IsScope F (home.Message i) s → ScopeParts F i s
scope_parts (of_message i m {outer} at up) = record { decl = m; outer = outer; at = at; up = up; is = refl }

-- the scope inside a file or a message is unique
pub one_scope : {F : Joined} {p : Enclosing} {s t : List (List ℕ)} → IsScope F p s → IsScope F p t → s ≡ t
one_scope (of_file k) (of_file l) = refl
one_scope {F} (of_message i m {outer} at up) (of_message j n {outer = outer'} at' up') =
    let e : m ≡ n = same_Some m n (sym at ∙ at') in
    let up2 : IsScope F (enclosing_of m) outer' = subst (λ (k : MessageDecl). IsScope F (enclosing_of k) outer') (sym e) up' in
    let f : outer ≡ outer' = one_scope up up2 in
    cc

pub parent_below : (n p : ℕ) (place : Option ℕ) → place ≡ Some p → IsIndexBelow n place → p < n
parent_below n p place e h = subst (IsIndexBelow n) e h

pub parent_scope : {F : Joined} (file : ℕ) (p : Option ℕ)
    → ((q : ℕ) → p ≡ Some q → (s : List (List ℕ)) × IsScope F (home.Message q) s)
    → (s : List (List ℕ)) × IsScope F (enclosing_in file p) s
parent_scope {F} file None known = (package_at F file, of_file file)
parent_scope file (Some q) known = known q refl

scope_below : {F : Joined} → IsFormed F → (n i : ℕ) → i < n → i < length F.messages
    → (s : List (List ℕ)) × IsScope F (home.Message i) s
scope_below formed zero i l here = absurd (omega arith)
scope_below {F} formed (suc n) i l here =
    let m = some_at F.messages i here in
    let up = parent_scope {F = F} m.0.file m.0.parent
    (λ q e. scope_below formed n q (omega (arith, parent_below i q m.0.parent e (formed.parents i m.0 m.1)))
    (omega (arith, parent_below i q m.0.parent e (formed.parents i m.0 m.1)))) in
    (up.0 ++ m.0.name.name ∷ [], of_message i m.0 m.1 up.1)

pub scope_at : {F : Joined} → IsFormed F → (i : ℕ) → i < length F.messages → (s : List (List ℕ)) × IsScope F (home.Message i) s
scope_at formed i l = scope_below formed (i + 1) i (omega arith) l

pub message_outer : {F : Joined} → IsFormed F → (i : ℕ) (m : MessageDecl) → slice_get F.messages i ≡ Some m
    → (s : List (List ℕ)) × IsScope F (enclosing_of m) s
message_outer {F} formed i m at =
    let n = slice_get_within F.messages i m at in
    parent_scope {F = F} m.file m.parent
    (λ q e. scope_at formed q (omega (arith, parent_below i q m.parent e (formed.parents i m at))))

pub enum_outer : {F : Joined} → IsFormed F → (e : EnumDecl) → Contains F.enums e
    → (s : List (List ℕ)) × IsScope F (enclosing_of_enum e) s
enum_outer {F} formed e c =
    parent_scope {F = F} e.file e.parent
    (λ q is. scope_at formed q (parent_below (length F.messages) q e.parent is
    (All-contains (λ (x : EnumDecl). IsIndexBelow (length F.messages) x.parent) F.enums e formed.enum_parents c)))

-- ---- no duplicate names

not_twice : (F : Joined) (j k : ℕ) (a b : DeclKind) (full : List (List ℕ)) (s t : Span) → HasNoViolation F → IsDeclarationOf F j a full s
    → IsDeclarationOf F k b full t → s.start < t.start → ⊥
not_twice F j k a b full s t clean d e l =
    clean DuplicateName t (Violations.twice t (Violations.declared j k a b full s d e l) (refl, refl))

-- declarations whose full names have the same text are one
pub one_declaration : (F : Joined) {j k : ℕ} (x y : DeclIndex) (a b : DeclKind) (f g : List (List ℕ)) (s t : Span)
    → IsOrdered F → HasNoViolation F → IsDeclarationOf F j a f s → IsDeclarationOf F k b g t → IsPartSpan F s x its_name → IsPartSpan F t y its_name
    → AreNames f → AreNames g → text_of f ≡ text_of g → x ≡ y
one_declaration F {j} {k} x y a b f g s t ordered clean d e p q m n same =
    let one : f ≡ g = same_text f g m n same in
    let d2 : IsDeclarationOf F j a g s = subst (λ (h : List (List ℕ)). IsDeclarationOf F j a h s) one d in
    elim (cases_order s.start t.start) [
      | inl h ↦ (ordered.apart x y its_name its_name s t p q h).0
      | inr h ↦ elim h [
        | inl l ↦ absurd (not_twice F j k a b g s t clean d2 e l)
        | inr l ↦ absurd (not_twice F k j b a g t s clean e d2 l)
      ]
    ]

same_message : (i j : ℕ) → message_decl i ≡ message_decl j → i ≡ j
same_message i j e = cc

same_enum : (i j : ℕ) → enum_decl i ≡ enum_decl j → i ≡ j
same_enum i j e = cc

-- ---- the full names of messages and enums

front_at : {F : Joined} (fronts names : List (List ℕ)) (place : Enclosing) (outer : List (List ℕ)) → ArePackageNames F fronts
    → AreMessageNames F names → IsEnclosingAmong (length fronts) (length names) place → IsScope F place outer
    → enclosing_name fronts names place ≡ text_of outer
front_at fronts names (home.File k) outer fronts_are h among up =
    fronts_are.each k (let l : k < length fronts = among in omega (arith, fronts_are.count))
    ∙ ap text_of (sym (scope_of_file up))
front_at fronts names (home.Message i) outer fronts_are h among up =
    get_or_from_slice_get names i (text_of outer) [] (h.each i outer among up)

pub full_text : {F : Joined} (fronts names : List (List ℕ)) (name : List ℕ) (place : Enclosing) (outer : List (List ℕ))
    → IsFormed F → ArePackageNames F fronts → AreMessageNames F names → IsEnclosingAmong (length fronts) (length names) place
    → IsScope F place outer → qualified_name (enclosing_name fronts names place) name ≡ text_of (outer ++ name ∷ [])
full_text fronts names name place outer formed fronts_are h among up =
    ap (λ (t : List ℕ). qualified_name t name) (front_at fronts names place outer fronts_are h among up)
    ∙ behind_text outer name (scope_names formed up)

-- the file or message that encloses a message or an enum exists
home_among : (files messages file : ℕ) (parent : Option ℕ) → file < files → IsIndexBelow messages parent
    → IsEnclosingAmong files messages (enclosing_in file parent)
home_among files messages file None l h = l
home_among files messages file (Some i) l h = h

pub message_file : (F : Joined) (i : ℕ) (m : MessageDecl) → IsFormed F → slice_get F.messages i ≡ Some m
    → m.file < length F.heads
message_file F i m formed at =
    All-contains (λ (x : MessageDecl). x.file < length F.heads) F.messages m formed.message_files
    (in_list F.messages i m at)

pub parent_known : (F : Joined) (i : ℕ) (m : MessageDecl) (files n : ℕ) → IsFormed F → slice_get F.messages i ≡ Some m
    → files ≡ length F.heads → n ≡ i → IsEnclosingAmong files n (enclosing_of m)
parent_known F i m files n formed at f e =
    let l : m.file < length F.heads = message_file F i m formed at in
    home_among files n m.file m.parent (omega arith)
    (subst (λ (k : ℕ). IsIndexBelow k m.parent) (sym e) (formed.parents i m at))

pub enum_parent_known : (F : Joined) (i : ℕ) (e : EnumDecl) (files n : ℕ) → IsFormed F → slice_get F.enums i ≡ Some e
    → files ≡ length F.heads → n ≡ length F.messages → IsEnclosingAmong files n (enclosing_of_enum e)
enum_parent_known F i e files n formed at f is =
    let l : e.file < length F.heads =
    All-contains (λ (x : EnumDecl). x.file < length F.heads) F.enums e formed.enum_files (in_list F.enums i e at) in
    home_among files n e.file e.parent (omega arith)
    (subst (λ (k : ℕ). IsIndexBelow k e.parent) (sym is)
    (All-contains (λ (x : EnumDecl). IsIndexBelow (length F.messages) x.parent) F.enums e formed.enum_parents
    (in_list F.enums i e at)))

pub messages_more : {F : Joined} (fronts names more : List (List ℕ)) (name : List ℕ) (i : ℕ) (m : MessageDecl)
    → IsFormed F → ArePackageNames F fronts → length names ≡ i → slice_get F.messages i ≡ Some m
    → name ≡ qualified_name (enclosing_name fronts names (enclosing_of m)) m.name.name → more ≡ names ++ name ∷ [] → AreMessageNames F names
    → AreMessageNames F more
messages_more {F} fronts names more name i m formed e count at is grown h =
    subst (AreMessageNames F) (sym grown) (record {
      each = λ k full l scope. elim (cases_lt k (length names)) [
        | inl old ↦ push_old names (name ∷ []) k old ∙ h.each k full old scope
        | inr new ↦
            let s : k ≡ i = omega (arith, length-append names (name ∷ [])) in
            let p = scope_parts scope in
            let d : p.decl ≡ m = same_Some p.decl m (sym p.at ∙ ap (slice_get F.messages) s ∙ at) in
            let up : IsScope F (enclosing_of m) p.outer = subst (λ (x : MessageDecl). IsScope F (enclosing_of x) p.outer) d p.up in
            let f : full ≡ p.outer ++ m.name.name ∷ [] =
            p.is ∙ ap (λ (x : MessageDecl). p.outer ++ x.name.name ∷ []) d in
            let t : name ≡ text_of full =
            is ∙ full_text fronts names m.name.name (enclosing_of m) p.outer formed e h
            (parent_known F i m (length fronts) (length names) formed at e.count count) up
            ∙ ap text_of (sym f) in
            push_new names name k (count ∙ sym s) ∙ ap Some t
      ];
    })

pub enums_more : {F : Joined} (fronts messages names more : List (List ℕ)) (name : List ℕ) (i : ℕ) (e : EnumDecl)
    → IsFormed F → ArePackageNames F fronts → length messages ≡ length F.messages → AreMessageNames F messages
    → length names ≡ i → slice_get F.enums i ≡ Some e
    → name ≡ qualified_name (enclosing_name fronts messages (enclosing_of_enum e)) e.name.name → more ≡ names ++ name ∷ []
    → AreEnumNames F names → AreEnumNames F more
enums_more {F} fronts messages names more name i e formed fronts_are all known count at is grown h =
    subst (AreEnumNames F) (sym grown) (record {
      each = λ k d outer l there up. elim (cases_lt k (length names)) [
        | inl old ↦ push_old names (name ∷ []) k old ∙ h.each k d outer old there up
        | inr new ↦
            let s : k ≡ i = omega (arith, length-append names (name ∷ [])) in
            let same : d ≡ e = same_Some d e (sym there ∙ ap (slice_get F.enums) s ∙ at) in
            let up2 : IsScope F (enclosing_of_enum e) outer =
            subst (λ (x : EnumDecl). IsScope F (enclosing_of_enum x) outer) same up in
            let t : name ≡ text_of (outer ++ d.name.name ∷ []) =
            is ∙ full_text fronts messages e.name.name (enclosing_of_enum e) outer formed fronts_are known
            (enum_parent_known F i e (length fronts) (length messages) formed at fronts_are.count all) up2
            ∙ ap (λ (x : EnumDecl). text_of (outer ++ x.name.name ∷ [])) (sym same) in
            push_new names name k (count ∙ sym s) ∙ ap Some t
      ];
    })

-- a message, with its full name and the span of its name
pub record HereMessage (F : Joined) (i : ℕ) : Type 0 where
  pub decl : MessageDecl
  pub outer : List (List ℕ)
  pub at : slice_get F.messages i ≡ Some decl
  pub up : IsScope F (enclosing_of decl) outer
  pub declares : IsDeclarationOf F decl.file a_message (outer ++ decl.name.name ∷ []) decl.name.span
  pub stands : IsPartSpan F decl.name.span (message_decl i) its_name
  pub names : AreNames (outer ++ decl.name.name ∷ [])

pub here_message : (F : Joined) (i : ℕ) → IsFormed F → i < length F.messages → HereMessage F i
here_message F i formed l =
    let m = some_at F.messages i l in
    let up = message_outer formed i m.0 m.1 in
    record {
      decl = m.0;
      outer = up.0;
      at = m.1;
      up = up.1;
      declares = Scopes.message m.0 (in_list F.messages i m.0 m.1) up.1;
      stands = Together.message i m.0 m.1 refl;
      names = names_more up.0 m.0.name.name (scope_names formed up.1) (message_formed F i m.0 formed m.1).name;
    }

pub record HereEnum (F : Joined) (i : ℕ) : Type 0 where
  pub decl : EnumDecl
  pub outer : List (List ℕ)
  pub at : slice_get F.enums i ≡ Some decl
  pub up : IsScope F (enclosing_of_enum decl) outer
  pub declares : IsDeclarationOf F decl.file an_enum (outer ++ decl.name.name ∷ []) decl.name.span
  pub stands : IsPartSpan F decl.name.span (enum_decl i) its_name
  pub names : AreNames (outer ++ decl.name.name ∷ [])

pub here_enum : (F : Joined) (i : ℕ) → IsFormed F → i < length F.enums → HereEnum F i
here_enum F i formed l =
    let e = some_at F.enums i l in
    let c = in_list F.enums i e.0 e.1 in
    let up = enum_outer formed e.0 c in
    record {
      decl = e.0;
      outer = up.0;
      at = e.1;
      up = up.1;
      declares = Scopes.enum e.0 c up.1;
      stands = Together.enum i e.0 e.1 refl;
      names = names_more up.0 e.0.name.name (scope_names formed up.1)
          (All-contains Order.IsFormedEnum F.enums e.0 formed.enums c).name;
    }

pub message_text : (F : Joined) (names : List (List ℕ)) (i : ℕ) (h : HereMessage F i) → AreMessageNames F names
    → i < length names → (d : List ℕ) → get_or names i d ≡ text_of (h.outer ++ h.decl.name.name ∷ [])
message_text F names i h known l d =
    get_or_from_slice_get names i (text_of (h.outer ++ h.decl.name.name ∷ [])) d
    (known.each i (h.outer ++ h.decl.name.name ∷ []) l (of_message i h.decl h.at h.up))

pub enum_text : (F : Joined) (names : List (List ℕ)) (i : ℕ) (h : HereEnum F i) → AreEnumNames F names
    → i < length names → (d : List ℕ) → get_or names i d ≡ text_of (h.outer ++ h.decl.name.name ∷ [])
enum_text F names i h known l d =
    get_or_from_slice_get names i (text_of (h.outer ++ h.decl.name.name ∷ [])) d
    (known.each i h.decl h.outer l h.at h.up)

pub messages_distinct : (F : Joined) (names : List (List ℕ)) → IsFormed F → IsOrdered F → HasNoViolation F
    → length names ≡ length F.messages → AreMessageNames F names → AreDistinct names
messages_distinct F names formed ordered clean count known =
    apart_distinct names
    (λ i j d a b e.
    let x = here_message F i formed (omega arith) in
    let y = here_message F j formed (omega arith) in
    same_message i j
    (one_declaration F (message_decl i) (message_decl j) a_message a_message (x.outer ++ x.decl.name.name ∷ [])
    (y.outer ++ y.decl.name.name ∷ []) x.decl.name.span y.decl.name.span ordered clean x.declares y.declares x.stands
    y.stands x.names y.names (sym (message_text F names i x known a d) ∙ e ∙ message_text F names j y known b d)))

pub enums_distinct : (F : Joined) (names : List (List ℕ)) → IsFormed F → IsOrdered F → HasNoViolation F
    → length names ≡ length F.enums → AreEnumNames F names → AreDistinct names
enums_distinct F names formed ordered clean count known =
    apart_distinct names
    (λ i j d a b e.
    let x = here_enum F i formed (omega arith) in
    let y = here_enum F j formed (omega arith) in
    same_enum i j
    (one_declaration F (enum_decl i) (enum_decl j) an_enum an_enum (x.outer ++ x.decl.name.name ∷ [])
    (y.outer ++ y.decl.name.name ∷ []) x.decl.name.span y.decl.name.span ordered clean x.declares y.declares x.stands
    y.stands x.names y.names (sym (enum_text F names i x known a d) ∙ e ∙ enum_text F names j y known b d)))

-- ---- limits

pub few_messages : (F : Joined) → IsFormed F → HasNoViolation F → length F.messages ≤ MAX_MESSAGES
few_messages F formed clean = elim (cases_lt MAX_MESSAGES (length F.messages)) [
  | inl more ↦
      let x = here_message F MAX_MESSAGES formed more in
      absurd (clean Limit x.decl.name.span (Violations.of_message MAX_MESSAGES x.decl x.at
      (of_message MAX_MESSAGES x.decl x.at x.up) (too_many_messages (omega arith) (refl, refl))))
  | inr few ↦ few
]

pub few_enums : (F : Joined) → HasNoViolation F → length F.enums ≤ MAX_ENUMS
few_enums F clean = elim (cases_lt MAX_ENUMS (length F.enums)) [
  | inl more ↦
      let e = some_at F.enums MAX_ENUMS more in
      absurd (clean Limit e.0.name.span (Violations.of_enum MAX_ENUMS e.0 e.1
      (too_many_enums (omega arith) (refl, refl))))
  | inr few ↦ few
]

-- the item that a loop reads
pub item_at : {X : Type 0} (xs ys : List X) (i : ℕ) (x : X) → xs ≡ ys → i < length ys → x ≡ get_or xs i x
    → slice_get ys i ≡ Some x
item_at xs ys i x e l is = slice_get_read ys (length ys) i x refl l (is ∙ ap (λ zs. get_or zs i x) e)
