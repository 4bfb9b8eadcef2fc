-- The full name that a reference means.
use Rattle.std.proofs.Common.{◌≡◌, ◌≢◌, ℕ, true, List, [], ◌∷◌, ◌++◌, refl, ap, sym, ◌∙◌, subst}
use Rattle.mrpc_table.specs.Names.{parts_of}
use Rattle.proto_ast.specs.Joined.{Joined}
use Rattle.proto_ast.specs.declared.file.Span.{Span}
use Rattle.schema_symbols.specs.Scopes.{DeclKind, is_type, IsDeclarationOf, message as a_message_of, enum as an_enum_of, service}
use Rattle.schema_symbols.specs.Scopes.{value, field, oneof, IsVisibleName, IsDecisiveScope, here, outward, IsMeaningOf, absolute, relative}
use Rattle.schema_symbols.specs.Numbers.{IsSymbolAt, message, enum, IsOfFile, message_of, enum_of, decl_kind}
use Rattle.schema_symbols.specs.declared.symbol.Symbol.{Symbol}
use Rattle.schema_symbols.specs.declared.symbol.Symbol.TheVariants.{Message, Enum}
use Rattle.schema_symbols.proofs.ScopeLemmas.{last_same, contained}

-- ---- types

-- the type that a file declares by a full name
pub record Standing (F : Joined) (file : ℕ) (its_sort : DeclKind) (full : List (List ℕ)) (span : Span) : Type 0 where
  pub named : Symbol
  pub stands : IsSymbolAt F named full span
  pub of : IsOfFile F named file
  pub sort : decl_kind named ≡ its_sort

pub declared_stands : {F : Joined} {file : ℕ} {sort : DeclKind} {full : List (List ℕ)} {span : Span}
    → IsDeclarationOf F file sort full span → is_type sort ≡ true → Standing F file sort full span
declared_stands {F} (a_message_of m c up) typ = record {
  named = Message c.0;
  stands = message c.0 m (contained F.messages m c) up;
  of = message_of c.0 m (contained F.messages m c);
  sort = refl;
}
declared_stands {F} (an_enum_of e c up) typ = record {
  named = Enum c.0;
  stands = enum c.0 e (contained F.enums e c) up;
  of = enum_of c.0 e (contained F.enums e c);
  sort = refl;
}
declared_stands (service s c) typ = absurd cc
declared_stands (value e v c d up) typ = absurd cc
declared_stands (field m f c d up) typ = absurd cc
declared_stands (oneof m o c d up) typ = absurd cc

-- ---- the deciding scope

pub decides_one : {F : Joined} {file : ℕ} {name : List ℕ} {s d e : List (List ℕ)} → IsDecisiveScope F file name s d → IsDecisiveScope F file name s e → d ≡ e
decides_one (here t) (here u) = refl
decides_one (here t) (outward last is not rest) = absurd (not t)
decides_one (outward last is not rest) (here t) = absurd (not t)
decides_one {F} {file} {name} (outward last {outer} is not rest) (outward last' {outer = outer'} {decisive = e} is' not' rest') =
    let same : outer' ≡ outer = (last_same outer' outer last' last (sym is' ∙ is)).0 in
    decides_one rest (subst (λ (o : List (List ℕ)). IsDecisiveScope F file name o e) same rest')

-- one step outward
pub decides_out : {F : Joined} {file : ℕ} {name : List ℕ} (last : List ℕ) {s outer d : List (List ℕ)}
    → s ≡ outer ++ last ∷ [] → (IsVisibleName F file (s ++ name ∷ []) → ⊥) → IsDecisiveScope F file name s d
    → IsDecisiveScope F file name outer d
decides_out last is not (here t) = absurd (not t)
decides_out {F} {file} {name} last {s} {outer} {d} is not (outward last' {outer = outer'} is' not' rest) =
    subst (λ (o : List (List ℕ)). IsDecisiveScope F file name o d) (last_same outer' outer last' last (sym is' ∙ is)).0 rest

-- ---- what a reference means

pub means_parts : {F : Joined} {file : ℕ} {scope full : List (List ℕ)} {name : List ℕ} (part : List ℕ)
    (others : List (List ℕ)) → parts_of name ≡ part ∷ others → part ≢ [] → IsMeaningOf F file scope name full
    → (d : List (List ℕ)) × IsDecisiveScope F file part scope d × (full ≡ d ++ parts_of name)
means_parts part others is full (absolute name) = absurd (full (let e : [] ∷ parts_of name ≡ part ∷ others = is in let f : part ≡ [] = cc in f))
means_parts {F} {file} {scope} part others is full (relative name first {others = more} {decisive = d} cuts apart decides) =
    let e : first ∷ more ≡ part ∷ others = sym cuts ∙ is in
    let same : first ≡ part = cc in
    (d, subst (λ (x : List ℕ). IsDecisiveScope F file x scope d) same decides, ap (λ (x : List (List ℕ)). d ++ x) (sym cuts))

same_rest : (rest more : List ℕ) → 46 ∷ more ≡ 46 ∷ rest → more ≡ rest
same_rest rest more e = cc

pub absolute_full : {F : Joined} {file : ℕ} {scope full : List (List ℕ)} {name : List ℕ} (rest : List ℕ)
    → name ≡ 46 ∷ rest → IsMeaningOf F file scope name full → full ≡ parts_of rest
absolute_full rest is (absolute more) = ap parts_of (same_rest rest more is)
absolute_full rest is (relative name first {others = more} cuts apart decides) =
    let e : first ∷ more ≡ [] ∷ parts_of rest = sym cuts ∙ ap parts_of is in
    let f : first ≡ [] = cc in
    absurd (apart f)
