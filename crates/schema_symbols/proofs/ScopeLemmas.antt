-- The full names of scopes, and their numbers.
use Rattle.std.proofs.Common.{◌≡◌, ℕ, zero, suc, ◌+◌, ◌<◌, ◌≤◌, ◌⊎◌, ⊎_elim, List, [], ◌∷◌, ◌++◌, length, take}
use Rattle.std.proofs.Common.{get_or, Option, Some, None, refl, ap, sym, ◌∙◌, subst, arith, length-append}
use Rattle.std.specs.Prelude.{slice_get, sum_by, Contains}
use Rattle.std.proofs.lemmas.Bool.{cases_order}
use Rattle.std.proofs.lemmas.List.{take-take, get_or_default}
use Rattle.std.proofs.lemmas.List.Sums.{sum_by_more, sum_by-take-le}
use Rattle.std.proofs.lemmas.Option.{same_Some, slice_get-get_or, slice_get_within, slice_get_read, get_or_from_slice_get}
use Rattle.proto_ast.specs.Joined.{Joined, enclosing_of, enclosing_of_enum, enclosing_in, package_at, package_in, package_parts}
use Rattle.proto_ast.specs.declared.file.MessageDecl.{MessageDecl}
use Rattle.proto_ast.specs.declared.file.EnumDecl.{EnumDecl}
use Rattle.proto_ast.specs.declared.joined.Head.{Head}
use Rattle.proto_ast.specs.declared.joined.Enclosing.{Enclosing}
use Rattle.proto_ast.specs.declared.joined.Enclosing.TheVariants as home
use Rattle.schema_symbols.specs.Scopes.{IsScope, of_file, of_message}
use Rattle.schema_symbols.specs.Numbers.{AreWellNested, IsEnclosing, IsListedScope, a_front, a_message_scope, IsScopeNumber, prefix_count, prefixes_before, all_prefix_count, scope_count}

-- ---- lists

pub last_same : {X : Type 0} (xs ys : List X) (x y : X) → xs ++ x ∷ [] ≡ ys ++ y ∷ [] → (xs ≡ ys) × (x ≡ y)
last_same [] [] x y e = let h : x ≡ y = cc in (refl, h)
last_same {X} [] (b ∷ ys) x y e = absurd (omega (arith, ap length e, length-append ys (y ∷ [])))
last_same {X} (a ∷ xs) [] x y e = absurd (omega (arith, ap length e, length-append xs (x ∷ [])))
last_same (a ∷ xs) (b ∷ ys) x y e =
    let rest : xs ++ x ∷ [] ≡ ys ++ y ∷ [] = cc in
    let r = last_same xs ys x y rest in
    let head : a ≡ b = cc in
    let front : xs ≡ ys = r.0 in
    let whole : a ∷ xs ≡ b ∷ ys = cc in
    (whole, r.1)

pub some_at : {X : Type 0} (xs : List X) (i : ℕ) → i < length xs → (x : X) × (slice_get xs i ≡ Some x)
some_at [] i l = absurd (omega arith)
some_at (x ∷ xs) zero l = (x, refl)
some_at (x ∷ xs) (suc i) l = some_at xs i (omega arith)

-- ---- full names

pub scope_one : {F : Joined} {p : Enclosing} {s t : List (List ℕ)} → IsScope F p s → IsScope F p t → s ≡ t
scope_one (of_file k) (of_file j) = refl
scope_one {F} (of_message i m {outer} at up) (of_message j n {outer = outer'} at' up') =
    let e : m ≡ n = same_Some m n (sym at ∙ at') in
    let up2 : IsScope F (enclosing_of m) outer' = subst (λ (k : MessageDecl). IsScope F (enclosing_of k) outer') (sym e) up' in
    let f : outer ≡ outer' = scope_one up up2 in
    cc

-- the scope of a message
pub record MessageScope (F : Joined) (i : ℕ) (s : List (List ℕ)) : Type 0 where
  pub decl : MessageDecl
  pub outer : List (List ℕ)
  pub at : slice_get F.messages i ≡ Some decl
  pub up : IsScope F (enclosing_of decl) outer
  pub is : s ≡ outer ++ decl.name.name ∷ []

pub message_scope : {F : Joined} {i : ℕ} {s : List (List ℕ)} → IsScope F (home.Message i) s → MessageScope F i s
message_scope (of_message i m {outer} at up) = record { decl = m; outer = outer; at = at; up = up; is = refl }

-- each enclosing file or message has a full name
pub home_scope : {F : Joined} (file : ℕ) (p : Option ℕ)
    → ((q : ℕ) → p ≡ Some q → (s : List (List ℕ)) × IsScope F (home.Message q) s)
    → (s : List (List ℕ)) × IsScope F (enclosing_in file p) s
home_scope {F} file None known = (package_at F file, of_file file)
home_scope file (Some q) known = known q refl

scope_below : {F : Joined} → AreWellNested F → (n i : ℕ) → i < n → i < length F.messages → (s : List (List ℕ)) × IsScope F (home.Message i) s
scope_below b zero i l here = absurd (omega arith)
scope_below {F} b (suc n) i l here =
    let m = some_at F.messages i here in
    let up = home_scope {F = F} m.0.file m.0.parent (λ q e. scope_below b n q (omega (arith, b.messages i q m.0 m.1 e)) (omega (arith, b.messages i q m.0 m.1 e))) in
    (up.0 ++ m.0.name.name ∷ [], of_message i m.0 m.1 up.1)

pub scope_at : {F : Joined} → AreWellNested F → (i : ℕ) → i < length F.messages → (s : List (List ℕ)) × IsScope F (home.Message i) s
scope_at b i l = scope_below b (i + 1) i (omega arith) l

pub has_scope : (F : Joined) (p : Enclosing) → AreWellNested F → IsEnclosing F p → (s : List (List ℕ)) × IsScope F p s
has_scope F (home.File k) b here = (package_at F k, of_file k)
has_scope F (home.Message i) b here = scope_at b i here

-- ---- the prefixes of packages

pub fronts_next : (F : Joined) (file : ℕ) → file < length F.heads → prefixes_before F (file + 1) ≡ prefixes_before F file + (length (package_at F file) + 1)
fronts_next F file l =
    let h = some_at F.heads file l in
    let own : get_or F.heads file h.0 ≡ h.0 = same_Some (get_or F.heads file h.0) h.0 (sym (slice_get-get_or F.heads file h.0 l) ∙ h.1) in
    let count : prefix_count (get_or F.heads file h.0) ≡ length (package_at F file) + 1 =
    ap prefix_count own ∙ ap (λ (o : Option Head). length (package_in o) + 1) (sym h.1) in
    sum_by_more prefix_count F.heads file h.0 l ∙ ap (λ (n : ℕ). prefixes_before F file + n) count

pub fronts_up : (F : Joined) (a b : ℕ) → a ≤ b → prefixes_before F a ≤ prefixes_before F b
fronts_up F a b l =
    let e : sum_by prefix_count (take a (take b F.heads)) ≡ prefixes_before F a = ap (sum_by prefix_count) (take-take a b F.heads l) in
    omega (arith, sum_by-take-le prefix_count (take b F.heads) a)

-- ---- numbers

-- the number of a prefix is not that of a later file's prefix, nor that of a message
front_below : (F : Joined) (file other n : ℕ) → file < length F.heads → n ≤ length (package_at F file) → file < other → prefixes_before F file + n < prefixes_before F other
front_below F file other n l short less = omega (arith, fronts_next F file l, fronts_up F (file + 1) other (omega arith))

pub front_small : (F : Joined) (file n : ℕ) → file < length F.heads → n ≤ length (package_at F file) → prefixes_before F file + n < all_prefix_count F
front_small F file n l short = front_below F file (length F.heads) n l short l

pub fronts_one : (F : Joined) (a b n m : ℕ) → a < length F.heads → b < length F.heads → n ≤ length (package_at F a)
    → m ≤ length (package_at F b) → prefixes_before F a + n ≡ prefixes_before F b + m → a ≡ b
fronts_one F a b n m la lb sa sb e =
    ⊎_elim
    (λ (same : a ≡ b). same)
    (λ (apart : (a < b) ⊎ (b < a)).
    ⊎_elim
    (λ (l : a < b). absurd (omega (arith, front_below F a b n la sa l)))
    (λ (l : b < a). absurd (omega (arith, front_below F b a m lb sb l)))
    apart)
    (cases_order a b)

-- an index lists one scope
pub listed_full : {F : Joined} {k l : ℕ} {s t : List (List ℕ)} → IsListedScope F k s → IsListedScope F l t → k ≡ l → s ≡ t
listed_full {F} (a_front file n there short at is) (a_front other m there' short' at' is') same =
    let e : file ≡ other = fronts_one F file other n m there there' short short' (sym at ∙ same ∙ at') in
    let f : prefixes_before F file ≡ prefixes_before F other = ap (prefixes_before F) e in
    let g : n ≡ m = omega arith in
    is ∙ ap (λ (x : ℕ). take x (package_at F file)) g ∙ ap (λ (x : ℕ). take m (package_at F x)) e ∙ sym is'
listed_full {F} (a_front file n there short at is) (a_message_scope i at' up) same =
    absurd (omega (arith, front_small F file n there short))
listed_full {F} (a_message_scope i at up) (a_front file n there short at' is) same =
    absurd (omega (arith, front_small F file n there short))
listed_full {F} {k} {l} {s} {t} (a_message_scope i at up) (a_message_scope j at' up') same =
    let e : j ≡ i = omega arith in
    scope_one up (subst (λ (x : ℕ). IsScope F (home.Message x) t) e up')

pub number_full : {F : Joined} {s t : List (List ℕ)} {k : ℕ} → IsScopeNumber F s k → IsScopeNumber F t k → s ≡ t
number_full n m = listed_full n.listed m.listed refl

pub number_same : {F : Joined} {s : List (List ℕ)} {k l : ℕ} → IsScopeNumber F s k → IsScopeNumber F s l → k ≡ l
number_same {F} {s} {k} {l} n m =
    ⊎_elim
    (λ (same : k ≡ l). same)
    (λ (apart : (k < l) ⊎ (l < k)).
    ⊎_elim (λ (less : k < l). absurd (m.first k less n.listed)) (λ (less : l < k). absurd (n.first l less m.listed)) apart)
    (cases_order k l)

pub listed_small : {F : Joined} {s : List (List ℕ)} {k : ℕ} → IsListedScope F k s → k < scope_count F
listed_small {F} (a_front file n there short at is) = omega (arith, front_small F file n there short)
listed_small {F} (a_message_scope i at up) =
    let m = message_scope up in
    omega (arith, slice_get_within F.messages i m.decl m.at)

pub number_small : {F : Joined} {s : List (List ℕ)} {k : ℕ} → IsScopeNumber F s k → k < scope_count F
number_small n = listed_small n.listed

-- ---- enclosing messages and files that exist

pub item_at : {X : Type 0} (xs ys : List X) (i : ℕ) (x : X) → xs ≡ ys → i < length ys → x ≡ get_or xs i x → slice_get ys i ≡ Some x
item_at {X} xs ys i x e l is = slice_get_read ys (length ys) i x refl l (is ∙ ap (λ (zs : List X). get_or zs i x) e)

pub contained : {X : Type 0} (xs : List X) (x : X) (c : Contains xs x) → slice_get xs c.0 ≡ Some x
contained xs x c = slice_get-get_or xs c.0 x c.1 ∙ ap Some c.2

pub contains_at : {X : Type 0} (xs : List X) (i : ℕ) (x : X) → slice_get xs i ≡ Some x → Contains xs x
contains_at xs i x e = (i, slice_get_within xs i x e, get_or_from_slice_get xs i x x e)

pub place_in : (F : Joined) (file : ℕ) (p : Option ℕ) → file < length F.heads → ((q : ℕ) → p ≡ Some q → q < length F.messages) → IsEnclosing F (enclosing_in file p)
place_in F file None l below = l
place_in F file (Some q) l below = below q refl

pub message_file : {F : Joined} → AreWellNested F → (i : ℕ) (m : MessageDecl) → slice_get F.messages i ≡ Some m → m.file < length F.heads
message_file {F} behind i m at =
    let l = slice_get_within F.messages i m at in
    subst (λ (d : MessageDecl). d.file < length F.heads) (get_or_from_slice_get F.messages i m m at) (behind.message_files i m l)

pub message_place : {F : Joined} → AreWellNested F → (i : ℕ) (m : MessageDecl) → slice_get F.messages i ≡ Some m → IsEnclosing F (enclosing_of m)
message_place {F} behind i m at =
    place_in F m.file m.parent (message_file behind i m at)
    (λ q e. omega (arith, behind.messages i q m at e, slice_get_within F.messages i m at))

pub enum_place : {F : Joined} → AreWellNested F → (i : ℕ) (e : EnumDecl) → slice_get F.enums i ≡ Some e → IsEnclosing F (enclosing_of_enum e)
enum_place {F} behind i e at =
    let l = slice_get_within F.enums i e at in
    place_in F e.file e.parent
    (subst (λ (d : EnumDecl). d.file < length F.heads) (get_or_from_slice_get F.enums i e e at) (behind.enum_files i e l))
    (λ q is. behind.enums e q (contains_at F.enums i e at) is)

pub head_package : (F : Joined) (hs : List Head) (file : ℕ) (h : Head) → hs ≡ F.heads → file < length F.heads
    → h ≡ get_or hs file h → package_parts h.package ≡ package_at F file
head_package F hs file h e l is = ap package_in (sym (item_at hs F.heads file h e l is))

pub contains_index : (xs : List ℕ) (i d : ℕ) → i < length xs → Contains xs (get_or xs i d)
contains_index xs i d l = (i, l, get_or_default xs i (get_or xs i d) d l)
