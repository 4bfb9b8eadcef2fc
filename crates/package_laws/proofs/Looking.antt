-- References of files of one package name the same declarations as in the one file.
use Rattle.std.proofs.Common.{◌≡◌, ℕ, ◌+◌, ◌<◌, ◌≤◌, ◌⊎◌, true, List, [], ◌∷◌, ◌++◌, length, Option, Some, None, refl}
use Rattle.std.proofs.Common.{sym, ap, ◌∙◌, subst, ⊎_elim, arith}
use Rattle.std.specs.Prelude.{Contains, slice_get, slice_index_or}
use Rattle.std.proofs.lemmas.Bool.{cases_order}
use Rattle.std.proofs.lemmas.Option.{same_Some}
use Rattle.std.proofs.lemmas.List.{length-append, append_assoc, append-nil}
use Rattle.std.proofs.lemmas.List.Elements.{All-contains}
use Rattle.proto_ast.specs.Order.{its_name}
use Rattle.proto_ast.specs.Together
use Rattle.proto_ast.specs.Together.{IsFormed, IsOrdered, message_decl}
use Rattle.proto_ast.specs.declared.file.Span.{Span}
use Rattle.proto_ast.specs.declared.file.MessageDecl.{MessageDecl}
use Rattle.proto_ast.specs.declared.file.EnumDecl.{EnumDecl}
use Rattle.proto_ast.specs.declared.file.ServiceDecl.{ServiceDecl}
use Rattle.proto_ast.specs.declared.file.File.{File}
use Rattle.proto_ast.specs.declared.joined.Head.{Head}
use Rattle.proto_ast.specs.declared.joined.Enclosing.{Enclosing}
use Rattle.proto_ast.specs.declared.joined.Enclosing.TheVariants as home
use Rattle.proto_ast.specs.Joined.{Joined, CanSee, alone, enclosing_in, enclosing_of, package_at, package_parts}
use Rattle.schema_symbols.specs.Scopes
use Rattle.schema_symbols.specs.Scopes.{IsScope, of_file, of_message, DeclKind, a_message, is_type, IsDeclarationOf, IsVisibleName}
use Rattle.schema_symbols.specs.Scopes.{a_type, a_package, IsDecisiveScope, here, outward, IsMeaningOf, absolute, relative, IsVisibleDeclaration}
use Rattle.schema_symbols.specs.Scopes.{IsReferenceTo}
use Rattle.schema_validation.specs.Violations
use Rattle.schema_validation.specs.Violations.{IsDuplicate}
use Rattle.package_laws.specs.OnePackage.{IsReferenceIn, of_field, of_rpc, IsOnePackage}
use Rattle.package_laws.proofs.Lists.{in_list, at_in, some_at, last_same, no_last, a_last, ends, contains_part}
use Rattle.package_laws.proofs.Alike.{AreAlike, declares_alike, declared_in}
use Rattle.package_laws.proofs.OneFile.{alike_into, alike_back, package_same, package_alone}

abbrev Scope : Type 0
Scope = List (List ℕ)

-- ---- enclosing files and messages

-- a file or message of file j
data HomeOf (F : Joined) (j : ℕ) : Enclosing → Type 0 where
  the_file : HomeOf F j (home.File j)
  the_message : (i : ℕ) → ((m : MessageDecl) → slice_get F.messages i ≡ Some m → m.file ≡ j)
      → HomeOf F j (home.Message i)

-- the scope of a message
record MessageScope (F : Joined) (i : ℕ) (s : Scope) : Type 0 where
  decl : MessageDecl
  outer : Scope
  at : slice_get F.messages i ≡ Some decl
  up : IsScope F (enclosing_of decl) outer
  is : s ≡ outer ++ decl.name.name ∷ []

message_scope : {F : Joined} {i : ℕ} {s : Scope} → IsScope F (home.Message i) s → MessageScope F i s
message_scope (of_message i m {outer} at up) = record { decl = m; outer = outer; at = at; up = up; is = refl }

pub file_scope : {F : Joined} {k : ℕ} {s : Scope} → IsScope F (home.File k) s → s ≡ package_at F k
file_scope (of_file k) = refl

-- a type of a file
record IsTypeIn (F : Joined) (j : ℕ) (full : Scope) : Type 0 where
  parent : Option ℕ
  outer : Scope
  name : List ℕ
  there : j < length F.heads
  of : HomeOf F j (enclosing_in j parent)
  stands : IsScope F (enclosing_in j parent) outer
  is : full ≡ outer ++ name ∷ []
  apart : parent ≡ None → Contains (package_at F j) name → ⊥

home_in_file : {F : Joined} (j : ℕ) (p : Option ℕ)
    → ((i : ℕ) (m : MessageDecl) → p ≡ Some i → slice_get F.messages i ≡ Some m → m.file ≡ j)
    → HomeOf F j (enclosing_in j p)
home_in_file j None nested = the_file
home_in_file j (Some i) nested = the_message i (λ m at. nested i m refl at)

-- a scope outward from a reference: that of a message of the file, or a prefix of its package
data StandsAt (F : Joined) (P : Scope) (file : ℕ) (s : Scope) : Type 0 where
  in_message : (i : ℕ) → IsScope F (home.Message i) s
      → ((m : MessageDecl) → slice_get F.messages i ≡ Some m → m.file ≡ file) → StandsAt F P file s
  in_front : (rest : Scope) → P ≡ s ++ rest → StandsAt F P file s

longer : (s : Scope) (name : List ℕ) → length (s ++ name ∷ []) ≡ length s + 1
longer s name = length-append s (name ∷ [])

module _ (F : Joined) (G : File) (formed : IsFormed F) (one : IsOnePackage F G) where
  abbrev P : Scope
  P = package_parts G.package

  abbrev A : Joined
  A = alone G

  into : AreAlike F A
  into = alike_into F G one.file formed

  back : AreAlike A F
  back = alike_back F G one.file formed

  its_package : (k : ℕ) → k < length F.heads → package_at F k ≡ P
  its_package k l = package_same F G one.file k l

  -- ---- files

  message_file : (i : ℕ) (m : MessageDecl) → slice_get F.messages i ≡ Some m → m.file < length F.heads
  message_file i m at =
      All-contains (λ (x : MessageDecl). x.file < length F.heads) F.messages m formed.message_files
      (in_list F.messages i m at)

  sees_itself : (k : ℕ) → k < length F.heads → CanSee F k k
  sees_itself k l =
      let h = some_at F.heads k l in
      record { head = h.0; at = h.1; among = (formed.heads k h.0 h.1).itself }

  seen_there : {k other : ℕ} → CanSee F k other → other < length F.heads
  seen_there {k} {other} s =
      All-contains (λ (j : ℕ). j < length F.heads) s.head.sees other (formed.heads k s.head s.at).there s.among

  sees_alone : (k : ℕ) → k < 1 → CanSee A 0 k
  sees_alone k l =
      let e : 0 ≡ k = omega arith in
      let zeroth : CanSee A 0 0 =
      record { head = record { «package» = G.package; sees = 0 ∷ [] }; at = refl; among = (0, omega arith, refl) } in
      subst (λ (j : ℕ). CanSee A 0 j) e zeroth

  seen_alone : {other : ℕ} → CanSee A 0 other → other < 1
  seen_alone {other} s =
      let g : A.heads ≡ A.heads = refl in
      let same = same_Some (record { «package» = G.package; sees = 0 ∷ [] }) s.head s.at in
      let among : Contains (0 ∷ []) other = subst (λ (h : Head). Contains h.sees other) (sym same) s.among in
      All-contains (λ (j : ℕ). j < 1) (0 ∷ []) other
      (λ k d l. let e : 0 ≡ k = omega arith in subst (λ (n : ℕ). slice_index_or (0 ∷ []) n d < 1) e (omega arith)) among

  -- ---- types

  home_of_message : (m : MessageDecl) → Contains F.messages m → HomeOf F m.file (enclosing_of m)
  home_of_message m c =
      home_in_file m.file m.parent (λ i outer e at. sym (formed.nested i m outer c e at))

  type_in : {j : ℕ} {sort : DeclKind} {full : Scope} {span : Span} → IsDeclarationOf F j sort full span → is_type sort ≡ true
      → IsTypeIn F j full
  type_in (Scopes.message m {outer} c up) typ = record {
    parent = m.parent;
    outer = outer;
    name = m.name.name;
    there = message_file c.0 m (at_in F.messages m c);
    of = home_of_message m c;
    stands = up;
    is = refl;
    apart = λ e. one.apart.messages m c e;
  }
  type_in (Scopes.enum e {outer} c up) typ = record {
    parent = e.parent;
    outer = outer;
    name = e.name.name;
    there = All-contains (λ (x : EnumDecl). x.file < length F.heads) F.enums e formed.enum_files c;
    of = home_in_file e.file e.parent (λ i outer p at. sym (formed.nested_enums i e outer c p at));
    stands = up;
    is = refl;
    apart = λ p. one.apart.enums e c p;
  }
  type_in (Scopes.service s c) typ = absurd cc
  type_in (Scopes.value e v c d up) typ = absurd cc
  type_in (Scopes.field m f c d up) typ = absurd cc
  type_in (Scopes.oneof m o c d up) typ = absurd cc

  -- ---- lengths

  scope_length : {j : ℕ} {h : Enclosing} {s : Scope} → IsScope F h s → HomeOf F j h → j < length F.heads
      → length P ≤ length s
  scope_length (of_file k) the_file l = omega (arith, ap length (its_package k l))
  scope_length (of_message i m {outer} at up) (the_message i' of) l =
      omega (
        arith,
        longer outer m.name.name,
        scope_length up (home_of_message m (in_list F.messages i m at)) (message_file i m at),
      )

  message_length : {i : ℕ} {s : Scope} → IsScope F (home.Message i) s → length P < length s
  message_length {i} u =
      let m = message_scope u in
      let own = home_of_message m.decl (in_list F.messages i m.decl m.at) in
      let l : length P ≤ length m.outer = scope_length m.up own (message_file i m.decl m.at) in
      omega (arith, ap length m.is, longer m.outer m.decl.name.name)

  type_length : {j : ℕ} {full : Scope} → IsTypeIn F j full → length P < length full
  type_length t = omega (arith, ap length t.is, longer t.outer t.name, scope_length t.stands t.of t.there)

  -- ---- visible names

  there_into : {file : ℕ} {full : Scope} → IsVisibleName F file full → IsVisibleName A 0 full
  there_into (a_type other sort span sees d typ) =
      let u = declares_alike into d in
      a_type u.0 sort span (sees_alone u.0 (declared_in back u.1)) u.1 typ
  there_into (a_package other rest sees e) =
      a_package 0 rest (sees_alone 0 (omega arith)) (sym (its_package other (seen_there sees)) ∙ e)

  package_there : {file : ℕ} {full : Scope} (rest : Scope) → file < length F.heads → P ≡ full ++ rest
      → IsVisibleName F file full
  package_there {file} rest l e = a_package file rest (sees_itself file l) (its_package file l ∙ e)

  -- a prefix of a scope in a visible file
  scope_there : {file j : ℕ} {h : Enclosing} {s : Scope} (x rest : Scope) → CanSee F file j → IsScope F h s → HomeOf F j h
      → s ≡ x ++ rest → IsVisibleName F file x
  scope_there x rest sees (of_file k) the_file e = a_package k rest sees e
  scope_there {file} {j} x rest sees (of_message i m {outer} at up) (the_message i' of) e =
      let c = in_list F.messages i m at in
      let same : m.file ≡ j = of m at in
      let seen : CanSee F file m.file = subst (λ (k : ℕ). CanSee F file k) (sym same) sees in
      elim (ends rest) [
        | no_last none ↦
            let whole : outer ++ m.name.name ∷ [] ≡ x = e ∙ ap (λ (y : Scope). x ++ y) none ∙ append-nil x in
            a_type m.file a_message m.name.span seen
            (subst (λ (y : Scope). IsDeclarationOf F m.file a_message y m.name.span) whole (Scopes.message m c up)) refl
        | a_last front y is ↦
            let cut : outer ++ m.name.name ∷ [] ≡ (x ++ front) ++ y ∷ [] =
            e ∙ ap (λ (z : Scope). x ++ z) is ∙ sym (append_assoc x front (y ∷ [])) in
            scope_there x front seen up (home_of_message m c)
            (last_same outer (x ++ front) m.name.name y cut).0
      ]

  -- a prefix of the full name of a visible type
  type_there : {file j : ℕ} {sort : DeclKind} {full : Scope} {span : Span} (x rest : Scope) → CanSee F file j
      → IsDeclarationOf F j sort full span → is_type sort ≡ true → full ≡ x ++ rest → IsVisibleName F file x
  type_there {file} {j} {sort} {full} {span} x rest sees d typ e = elim (ends rest) [
    | no_last none ↦
        let whole : full ≡ x = e ∙ ap (λ (y : Scope). x ++ y) none ∙ append-nil x in
        a_type j sort span sees (subst (λ (y : Scope). IsDeclarationOf F j sort y span) whole d) typ
    | a_last front y is ↦
        let t = type_in d typ in
        let cut : t.outer ++ t.name ∷ [] ≡ (x ++ front) ++ y ∷ [] =
        sym t.is ∙ e ∙ ap (λ (z : Scope). x ++ z) is ∙ sym (append_assoc x front (y ∷ [])) in
        scope_there x front sees t.stands t.of (last_same t.outer (x ++ front) t.name y cut).0
  ]

  -- ---- references

  file_there : {file : ℕ} {scope : Scope} {name : List ℕ} → IsReferenceIn F file scope name → file < length F.heads
  file_there (of_field i m f at is up c r) = subst (λ (k : ℕ). k < length F.heads) is (message_file i m at)
  file_there (of_rpc s r c is d e n) =
      subst (λ (k : ℕ). k < length F.heads) is
      (All-contains (λ (x : ServiceDecl). x.file < length F.heads) F.services s formed.service_files c)

  refers_at : {file : ℕ} {scope : Scope} {name : List ℕ} → IsReferenceIn F file scope name → StandsAt F P file scope
  refers_at {file} (of_field i m f at is up c r) =
      in_message i up (λ n there. ap (λ (x : MessageDecl). x.file) (same_Some n m (sym there ∙ at)) ∙ is)
  refers_at {file} {scope} (of_rpc s r c is d e n) =
      let l = file_there (of_rpc s r c is d e n) in
      in_front [] (sym (its_package file l) ∙ sym e ∙ sym (append-nil scope))

  -- ---- from the one file back

  decides_back : {file : ℕ} {name : List ℕ} {s d : Scope} → IsDecisiveScope A 0 name s d → IsVisibleName F file (d ++ name ∷ [])
      → IsDecisiveScope F file name s d
  decides_back (here t) there = here there
  decides_back (outward last e isnt rest) there =
      outward last e (λ t. isnt (there_into t)) (decides_back rest there)

  means_back : {file j : ℕ} {scope : Scope} {name : List ℕ} {sort : DeclKind} {full : Scope} {span : Span} → CanSee F file j
      → IsDeclarationOf F j sort full span → is_type sort ≡ true → IsMeaningOf A 0 scope name full → IsMeaningOf F file scope name full
  means_back sees d typ (absolute name) = absolute name
  means_back sees d typ (relative name first {others} {decisive} cuts apart decides) =
      relative name first cuts apart
      (decides_back decides
      (type_there (decisive ++ first ∷ []) others sees d typ (sym (append_assoc decisive (first ∷ []) others))))

  finds_into : {file : ℕ} {sort : DeclKind} {full : Scope} → ((span : Span) → IsDuplicate F span → ⊥) → IsVisibleDeclaration F file sort full
      → IsVisibleDeclaration A 0 sort full
  finds_into {file} {sort} {full} once f =
      let u = declares_alike into f.declared in
      record {
        span = f.span;
        other = u.0;
        seen = sees_alone u.0 (declared_in back u.1);
        declared = u.1;
        names_type = f.names_type;
        first = λ another its_sort t sees d typ.
            let v = declares_alike back d in
            ⊎_elim
            (λ (same : f.span.start ≡ t.start). omega arith)
            (λ (apart : (f.span.start < t.start) ⊎ (t.start < f.span.start)).
            ⊎_elim (λ (l : f.span.start < t.start). omega arith)
            (λ (l : t.start < f.span.start).
            absurd (once f.span (Violations.declared v.0 f.other its_sort sort full t v.1 f.declared l)))
            apart)
            (cases_order f.span.start t.start);
      }

  pub names_back : {file : ℕ} {scope : Scope} {name : List ℕ} (sort : DeclKind) (full : Scope) → IsReferenceIn F file scope name
      → IsReferenceTo A 0 scope name sort full → IsReferenceTo F file scope name sort full
  names_back {file} {scope} {name} sort full refers n =
      let d = declares_alike back n.finds.declared in
      let typ = n.finds.names_type in
      let seen : CanSee F file d.0 = one.sees.sees file d.0 scope full name sort sort n.finds.span refers n d.1 typ in
      record {
        means = means_back seen d.1 typ n.means;
        finds = record {
          span = n.finds.span;
          other = d.0;
          seen = seen;
          declared = d.1;
          names_type = typ;
          first = λ another its_sort t sees e its.
              let u = declares_alike into e in
              n.finds.first u.0 its_sort t (sees_alone u.0 (declared_in back u.1)) u.1 its;
        };
      }

  -- ---- from the files to the one file

  -- at most one message has a full name
  module _ (ordered : IsOrdered F) (once : (span : Span) → IsDuplicate F span → ⊥) where
    message_one : {i j : ℕ} {s : Scope} → IsScope F (home.Message i) s → IsScope F (home.Message j) s → i ≡ j
    message_one {i} {j} {s} up up' =
        let m = message_scope up in
        let n = message_scope up' in
        let d : IsDeclarationOf F m.decl.file a_message s m.decl.name.span =
        subst (λ (x : Scope). IsDeclarationOf F m.decl.file a_message x m.decl.name.span) (sym m.is)
        (Scopes.message m.decl (in_list F.messages i m.decl m.at) m.up) in
        let e : IsDeclarationOf F n.decl.file a_message s n.decl.name.span =
        subst (λ (x : Scope). IsDeclarationOf F n.decl.file a_message x n.decl.name.span) (sym n.is)
        (Scopes.message n.decl (in_list F.messages j n.decl n.at) n.up) in
        let first = m.decl.name.span in
        let second = n.decl.name.span in
        ⊎_elim
        (λ (same : first.start ≡ second.start).
        let o = ordered.apart (message_decl i) (message_decl j) its_name its_name first second
        (Together.message i m.decl m.at refl) (Together.message j n.decl n.at refl) same in
        let one : message_decl i ≡ message_decl j = o.0 in
        cc)
        (λ (apart : (first.start < second.start) ⊎ (second.start < first.start)).
        ⊎_elim
        (λ (l : first.start < second.start).
        absurd (once second (Violations.declared m.decl.file n.decl.file a_message a_message s first d e l)))
        (λ (l : second.start < first.start).
        absurd (once first (Violations.declared n.decl.file m.decl.file a_message a_message s second e d l)))
        apart)
        (cases_order first.start second.start)

    -- what a message of a file encloses is visible to that file
    type_seen : {file i k : ℕ} {s : Scope} (p : Option ℕ) → IsScope F (home.Message i) s
        → ((m : MessageDecl) → slice_get F.messages i ≡ Some m → m.file ≡ file) → k < length F.heads
        → IsScope F (enclosing_in k p) s → HomeOf F k (enclosing_in k p) → k ≡ file
    type_seen None up of l stands own =
        absurd (omega (arith, message_length up, ap length (file_scope stands ∙ its_package _ l)))
    type_seen {file} {i} {k} {s} (Some j) up of l stands (the_message j' its) =
        let same : j ≡ i = message_one stands up in
        let m = message_scope stands in
        let there : slice_get F.messages i ≡ Some m.decl =
        subst (λ (n : ℕ). slice_get F.messages n ≡ Some m.decl) same m.at in
        sym (its m.decl m.at) ∙ of m.decl there

    in_message_there : {file i : ℕ} {s : Scope} (name : List ℕ) → file < length F.heads → IsScope F (home.Message i) s
        → ((m : MessageDecl) → slice_get F.messages i ≡ Some m → m.file ≡ file) → IsVisibleName A 0 (s ++ name ∷ [])
        → IsVisibleName F file (s ++ name ∷ [])
    in_message_there {file} {i} {s} name l up of (a_type other sort span sees d typ) =
        let v = declares_alike back d in
        let t = type_in v.1 typ in
        let cut = last_same s t.outer name t.name t.is in
        let stands : IsScope F (enclosing_in v.0 t.parent) s =
        subst (λ (x : Scope). IsScope F (enclosing_in v.0 t.parent) x) (sym cut.0) t.stands in
        let same : v.0 ≡ file = type_seen t.parent up of t.there stands t.of in
        a_type v.0 sort span (subst (λ (k : ℕ). CanSee F file k) (sym same) (sees_itself file l)) v.1 typ
    in_message_there name l up of (a_package other rest sees e) =
        package_there rest l (sym (package_alone F G one.file other (seen_alone sees)) ∙ e)

    -- if a scope outside of the package decides a name, the name is a part of the package
    part_of : {file : ℕ} {name : List ℕ} {s d : Scope} (x : List ℕ) (xs : Scope) → IsDecisiveScope F file name s d
        → P ≡ s ++ x ∷ xs → Contains P name
    part_of {file} {name} {s} x xs (here (a_type other sort span sees d typ)) e =
        absurd (omega (arith, type_length (type_in d typ), longer s name, ap length e, length-append s (x ∷ xs)))
    part_of {file} {name} {s} x xs (here (a_package other rest sees p)) e =
        let whole : P ≡ s ++ name ∷ rest =
        sym (its_package other (seen_there sees)) ∙ p ∙ append_assoc s (name ∷ []) rest in
        subst (λ (y : Scope). Contains y name) (sym whole) (contains_part s name rest)
    part_of x xs (outward last {outer} is isnt rest) e =
        part_of last (x ∷ xs) rest
        (e ∙ ap (λ (y : Scope). y ++ x ∷ xs) is ∙ append_assoc outer (last ∷ []) (x ∷ xs))

    top_apart : {file k : ℕ} {name : List ℕ} {outer d : Scope} (p : Option ℕ) (last : List ℕ) (s rest : Scope)
        → IsDecisiveScope F file name outer d → s ≡ outer ++ last ∷ [] → P ≡ s ++ rest → k < length F.heads
        → IsScope F (enclosing_in k p) s → (p ≡ None → Contains (package_at F k) name → ⊥) → ⊥
    top_apart {k} {name} {outer} None last s rest decides is e l stands apart =
        let part = part_of last rest decides
        (e ∙ ap (λ (y : Scope). y ++ rest) is ∙ append_assoc outer (last ∷ []) rest) in
        apart refl (subst (λ (y : Scope). Contains y name) (sym (its_package k l)) part)
    top_apart (Some i) last s rest decides is e l stands apart =
        omega (arith, message_length stands, ap length e, length-append s rest)

    -- outward from the package, the file sees what the one file has
    front_apart : {file : ℕ} {name : List ℕ} {outer d : Scope} (last : List ℕ) (s rest : Scope) → file < length F.heads
        → IsDecisiveScope F file name outer d → s ≡ outer ++ last ∷ [] → P ≡ s ++ rest
        → (IsVisibleName F file (s ++ name ∷ []) → ⊥) → IsVisibleName A 0 (s ++ name ∷ []) → ⊥
    front_apart {name} last s rest l decides is e isnt (a_type other sort span sees d typ) =
        let v = declares_alike back d in
        let t = type_in v.1 typ in
        let cut = last_same s t.outer name t.name t.is in
        let stands : IsScope F (enclosing_in v.0 t.parent) s =
        subst (λ (x : Scope). IsScope F (enclosing_in v.0 t.parent) x) (sym cut.0) t.stands in
        top_apart t.parent last s rest decides is e t.there stands
        (λ none part. t.apart none (subst (λ (x : List ℕ). Contains (package_at F v.0) x) cut.1 part))
    front_apart last s rest l decides is e isnt (a_package other more sees p) =
        isnt (package_there more l (sym (package_alone F G one.file other (seen_alone sees)) ∙ p))

    -- the scope of the enclosing file or message is such a scope
    outward_at : {file : ℕ} {s : Scope} (p : Option ℕ) → file < length F.heads → IsScope F (enclosing_in file p) s
        → HomeOf F file (enclosing_in file p) → StandsAt F P file s
    outward_at {file} {s} None l stands own =
        in_front [] (sym (file_scope stands ∙ its_package file l) ∙ sym (append-nil s))
    outward_at (Some i) l stands (the_message i' of) = in_message i stands of

    message_outward : {file i : ℕ} {s : Scope} → IsScope F (home.Message i) s
        → ((m : MessageDecl) → slice_get F.messages i ≡ Some m → m.file ≡ file) → (last : List ℕ) (outer : Scope)
        → s ≡ outer ++ last ∷ [] → StandsAt F P file outer
    message_outward {file} {i} up of last outer is =
        let m = message_scope up in
        let c = in_list F.messages i m.decl m.at in
        let cut = last_same m.outer outer m.decl.name.name last (sym m.is ∙ is) in
        let there : StandsAt F P m.decl.file m.outer =
        outward_at m.decl.parent (message_file i m.decl m.at) m.up (home_of_message m.decl c) in
        let moved : StandsAt F P m.decl.file outer =
        subst (λ (x : Scope). StandsAt F P m.decl.file x) cut.0 there in
        subst (λ (k : ℕ). StandsAt F P k outer) (of m.decl m.at) moved

    decides_into : {file : ℕ} {name : List ℕ} {s d : Scope} → file < length F.heads → StandsAt F P file s
        → IsDecisiveScope F file name s d → IsDecisiveScope A 0 name s d
    decides_into l at (here t) = here (there_into t)
    decides_into {name} l (in_message i up of) (outward last {outer} is isnt rest) =
        outward last is (λ t. isnt (in_message_there name l up of t))
        (decides_into l (message_outward up of last outer is) rest)
    decides_into {s} l (in_front more e) (outward last {outer} is isnt rest) =
        outward last is (λ t. front_apart last s more l rest is e isnt t)
        (decides_into l
        (in_front (last ∷ more) (e ∙ ap (λ (y : Scope). y ++ more) is ∙ append_assoc outer (last ∷ []) more))
        rest)

    means_into : {file : ℕ} {scope : Scope} {name : List ℕ} {full : Scope} → file < length F.heads
        → StandsAt F P file scope → IsMeaningOf F file scope name full → IsMeaningOf A 0 scope name full
    means_into l at (absolute name) = absolute name
    means_into l at (relative name first cuts apart decides) =
        relative name first cuts apart (decides_into l at decides)

    pub names_into : {file : ℕ} {scope : Scope} {name : List ℕ} (sort : DeclKind) (full : Scope) → IsReferenceIn F file scope name
        → IsReferenceTo F file scope name sort full → IsReferenceTo A 0 scope name sort full
    names_into sort full refers n = record {
      means = means_into (file_there refers) (refers_at refers) n.means;
      finds = finds_into once n.finds;
    }
