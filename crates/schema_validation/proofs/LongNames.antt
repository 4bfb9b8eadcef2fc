-- The full names that are too long.
use Rattle.std.proofs.Common.{◌≡◌, ℕ, ◌<◌, ◌⊎◌, inl, inr, true, List, [], ◌∷◌, ◌++◌, length, refl, sym, ◌∙◌, arith}
use Rattle.std.specs.Prelude.{Some, slice_get, Contains}
use Rattle.std.proofs.lemmas.Option.{slice_get_read, slice_get_within}
use Rattle.mrpc_table.specs.declared.limits.TheConstants.{MAX_FULL_NAME}
use Rattle.proto_ast.specs.Together.{IsFormed}
use Rattle.proto_ast.specs.declared.file.Span.{Span}
use Rattle.proto_ast.specs.declared.file.Word.{Word}
use Rattle.proto_ast.specs.declared.file.MessageDecl.{MessageDecl}
use Rattle.proto_ast.specs.declared.file.EnumDecl.{EnumDecl}
use Rattle.proto_ast.specs.declared.file.ServiceDecl.{ServiceDecl}
use Rattle.proto_ast.specs.declared.joined.Enclosing.{Enclosing}
use Rattle.proto_ast.specs.declared.joined.Enclosing.TheVariants as home
use Rattle.proto_ast.specs.Joined.{Joined, enclosing_of, enclosing_of_enum, package_at}
use Rattle.schema_symbols.specs.Scopes
use Rattle.schema_symbols.specs.Scopes.{IsScope, IsDeclarationOf, DeclKind, a_message, an_enum, is_type, text_of}
use Rattle.schema_symbols.specs.Numbers.{AreWellNested, IsEnclosing}
use Rattle.schema_validation.specs.Violations
use Rattle.schema_validation.specs.Violations.{IsLongInFull}
use Rattle.schema_validation.specs.Members.{Is}
use Rattle.schema_validation.specs.Recording.{IsOfAny, IsOfElement, IsLongNameViolation}
use Rattle.mrpc_table.specs.Capped.{capped}
use Rattle.schema_validation.specs.Lengths.{AreLengths, full_length, IsKeptHome, IsLongName}
use Rattle.schema_validation.specs.declared.reason.ResolveReason.{ResolveReason}
use Rattle.schema_validation.specs.declared.reason.ResolveReason.TheVariants.{Limit}
use Rattle.schema_validation.specs.declared.lines.Lengths.{Lengths}
use Rattle.schema_validation.proofs.Formed.{stand_behind, message_place, enum_place, service_file}
use Rattle.schema_validation.proofs.FullLengths.{full_is, contains_at, file_kept, message_home_kept, enum_home_kept}

pub placed : {X : Type 0} (xs : List X) (x : X) → Contains xs x → (i : ℕ) × (slice_get xs i ≡ Some x)
placed xs x c = (c.0, slice_get_read xs (length xs) c.0 x refl c.1 (sym c.2))

long_cut : (n m : ℕ) → m ≡ capped n → MAX_FULL_NAME < m → MAX_FULL_NAME < n
long_cut n m e l = omega arith

long_whole : (n m : ℕ) → m ≡ capped n → MAX_FULL_NAME < n → MAX_FULL_NAME < m
long_whole n m e l = omega arith

module _ (F : Joined) (kept : Lengths) (formed : IsFormed F) (k : AreLengths F kept)
    (exists : (G : Joined) (place : Enclosing) → AreWellNested G → IsEnclosing G place
    → (scope : List (List ℕ)) × IsScope G place scope) where
  is_long : (place : Enclosing) (w : Word) (scope : List (List ℕ)) → IsKeptHome kept place
      → IsScope F place scope → MAX_FULL_NAME < full_length kept place w
      → MAX_FULL_NAME < length (text_of (scope ++ w.name ∷ []))
  is_long place w scope here is l =
      long_cut (length (text_of (scope ++ w.name ∷ []))) (full_length kept place w)
      (full_is F (length F.messages) (length F.enums) kept place w k here is) l

  has_long : (place : Enclosing) (w : Word) (scope : List (List ℕ)) → IsKeptHome kept place
      → IsScope F place scope → MAX_FULL_NAME < length (text_of (scope ++ w.name ∷ []))
      → MAX_FULL_NAME < full_length kept place w
  has_long place w scope here is l =
      long_whole (length (text_of (scope ++ w.name ∷ []))) (full_length kept place w)
      (full_is F (length F.messages) (length F.enums) kept place w k here is) l

  message_here : (i : ℕ) (m : MessageDecl) → slice_get F.messages i ≡ Some m → IsKeptHome kept (enclosing_of m)
  message_here i m at =
      let l : i < length F.messages = slice_get_within F.messages i m at in
      message_home_kept F (length F.messages) (length F.enums) kept k formed i m at (omega arith)

  enum_here : (i : ℕ) (e : EnumDecl) → slice_get F.enums i ≡ Some e → IsKeptHome kept (enclosing_of_enum e)
  enum_here i e at = enum_home_kept F (length F.messages) (length F.enums) kept k formed i e at refl

  service_here : (i : ℕ) (x : ServiceDecl) → slice_get F.services i ≡ Some x → IsKeptHome kept (home.File x.file)
  service_here i x at =
      file_kept F (length F.messages) (length F.enums) kept k x.file (service_file F formed i x at)

  abbrev pub LongParts : ResolveReason → Span → Type 0
  LongParts q s =
      (IsOfAny (IsOfElement F.messages (λ i m. IsLongName kept (enclosing_of m) m.name)) q s
      ⊎ IsOfAny (IsOfElement F.enums (λ i e. IsLongName kept (enclosing_of_enum e) e.name)) q s)
      ⊎ IsOfAny (IsOfElement F.services (λ i x. IsLongName kept (home.File x.file) x.name)) q s

  pub long_to : (q : ResolveReason) (s : Span) → LongParts q s → IsLongNameViolation F q s
  long_to q s (inl (inl p)) =
      let m : MessageDecl = p.is.element in
      let behind = stand_behind F formed in
      let scope = exists F (enclosing_of m) behind (message_place F behind p.place m p.is.at) in (
        m.name.span,
        Violations.a_type m.file a_message (scope.0 ++ m.name.name ∷ [])
            (Scopes.message m (contains_at F.messages p.place m p.is.at) scope.1) refl
            (is_long (enclosing_of m) m.name scope.0 (message_here p.place m p.is.at) scope.1 p.is.is.0),
        p.is.is.1,
      )
  long_to q s (inl (inr p)) =
      let e : EnumDecl = p.is.element in
      let behind = stand_behind F formed in
      let scope = exists F (enclosing_of_enum e) behind (enum_place F behind p.place e p.is.at) in (
        e.name.span,
        Violations.a_type e.file an_enum (scope.0 ++ e.name.name ∷ [])
            (Scopes.enum e (contains_at F.enums p.place e p.is.at) scope.1) refl
            (is_long (enclosing_of_enum e) e.name scope.0 (enum_here p.place e p.is.at) scope.1 p.is.is.0),
        p.is.is.1,
      )
  long_to q s (inr p) =
      let x : ServiceDecl = p.is.element in (
        x.name.span,
        Violations.a_service x (contains_at F.services p.place x p.is.at)
            (is_long (home.File x.file) x.name (package_at F x.file) (service_here p.place x p.is.at)
            (Scopes.of_file x.file) p.is.is.0) refl,
        p.is.is.1,
      )

  type_from : (file : ℕ) (sort : DeclKind) (full : List (List ℕ)) (span : Span) (q : ResolveReason) (s : Span)
      → IsDeclarationOf F file sort full span → is_type sort ≡ true → MAX_FULL_NAME < length (text_of full) → Is Limit span q s
      → LongParts q s
  type_from file sort full span q s (Scopes.message m {outer = outer} c is) t l o =
      let p = placed F.messages m c in
      inl (inl (record {
        place = p.0;
        is = record {
          element = m;
          at = p.1;
          is = (has_long (enclosing_of m) m.name outer (message_here p.0 m p.1) is l, o);
        };
      }))
  type_from file sort full span q s (Scopes.enum e {outer = outer} c is) t l o =
      let p = placed F.enums e c in
      inl (inr (record {
        place = p.0;
        is = record {
          element = e;
          at = p.1;
          is = (has_long (enclosing_of_enum e) e.name outer (enum_here p.0 e p.1) is l, o);
        };
      }))
  type_from file sort full span q s (Scopes.service x c) t l o = absurd cc
  type_from file sort full span q s (Scopes.value e v c d is) t l o = absurd cc
  type_from file sort full span q s (Scopes.field m f c d is) t l o = absurd cc
  type_from file sort full span q s (Scopes.oneof m w c d is) t l o = absurd cc

  span_from : (span : Span) (q : ResolveReason) (s : Span) → IsLongInFull F span → Is Limit span q s → LongParts q s
  span_from span q s (Violations.a_type file sort full d t l) o = type_from file sort full span q s d t l o
  span_from span q s (Violations.a_service x c l e) o =
      let p = placed F.services x c in
      inr (record {
        place = p.0;
        is = record {
          element = x;
          at = p.1;
          is = (
            has_long (home.File x.file) x.name (package_at F x.file) (service_here p.0 x p.1) (Scopes.of_file x.file) l,
            (o.0, o.1 ∙ e),
          );
        };
      })

  pub long_from : (q : ResolveReason) (s : Span) → IsLongNameViolation F q s → LongParts q s
  long_from q s p = span_from p.0 q s p.1 p.2
