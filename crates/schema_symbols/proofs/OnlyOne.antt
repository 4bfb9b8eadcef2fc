-- A reference names at most one message or enum.
use Rattle.std.proofs.Common.{◌≡◌, ◌≢◌, ℕ, ◌≤◌, List, [], ◌∷◌, ◌++◌, refl, ap, sym, ◌∙◌, subst, arith}
use Rattle.mrpc_table.specs.Names.{parts_of}
use Rattle.proto_ast.specs.Joined.{Joined}
use Rattle.schema_symbols.specs.Scopes.{DeclKind, IsDecisiveScope, IsMeaningOf, absolute, relative, IsVisibleDeclaration, IsReferenceTo}
use Rattle.schema_symbols.specs.Numbers.{HaveDistinctStarts, decl_kind}
use Rattle.schema_symbols.proofs.Meaning.{declared_stands, decides_one, means_parts, absolute_full}

-- how a name is written
data Form (F : Joined) (file : ℕ) (scope : List (List ℕ)) (name : List ℕ) (f : List (List ℕ)) : Type 0 where
  behind_dot : (rest : List ℕ) → name ≡ 46 ∷ rest → Form F file scope name f
  plain : (part : List ℕ) (others d : List (List ℕ)) → parts_of name ≡ part ∷ others → part ≢ []
      → IsDecisiveScope F file part scope d → f ≡ d ++ parts_of name → Form F file scope name f

form_of : {F : Joined} {file : ℕ} {scope f : List (List ℕ)} {name : List ℕ} → IsMeaningOf F file scope name f → Form F file scope name f
form_of (absolute rest) = behind_dot rest refl
form_of (relative name first {others = o} {decisive = d} cuts apart decides) =
    plain first o d cuts apart decides (ap (λ (x : List (List ℕ)). d ++ x) (sym cuts))

full_one : {F : Joined} {file : ℕ} {scope f g : List (List ℕ)} {name : List ℕ} → Form F file scope name f → IsMeaningOf F file scope name f → IsMeaningOf F file scope name g → f ≡ g
full_one (behind_dot rest is) m n = absolute_full rest is m ∙ sym (absolute_full rest is n)
full_one {F} {file} {scope} {f} {g} {name} (plain part others d cuts apart decides e) m n =
    let p = means_parts part others cuts apart n in
    let same : p.0 ≡ d = decides_one p.1 decides in
    e ∙ ap (λ (x : List (List ℕ)). x ++ parts_of name) (sym same) ∙ sym p.2

sort_one : {F : Joined} {file : ℕ} {a b : DeclKind} {f : List (List ℕ)} → HaveDistinctStarts F → IsVisibleDeclaration F file a f → IsVisibleDeclaration F file b f → a ≡ b
sort_one {F} {file} {a} {b} {f} starts x y =
    let s = declared_stands x.declared x.names_type in
    let t = declared_stands y.declared y.names_type in
    let le : x.span.start ≤ y.span.start = x.first y.other b y.span y.seen y.declared y.names_type in
    let ge : y.span.start ≤ x.span.start = y.first x.other a x.span x.seen x.declared x.names_type in
    let same : s.named ≡ t.named = starts.apart s.named t.named f f x.span y.span s.stands t.stands (omega arith) in
    sym s.sort ∙ ap decl_kind same ∙ t.sort

pub name_one : {F : Joined} {file : ℕ} {scope f g : List (List ℕ)} {name : List ℕ} {a b : DeclKind} → HaveDistinctStarts F
    → IsReferenceTo F file scope name a f → IsReferenceTo F file scope name b g → (a ≡ b) × (f ≡ g)
name_one {F} {file} {scope} {f} {g} {name} {a} {b} starts m n =
    let e : f ≡ g = full_one (form_of m.means) m.means n.means in
    (sort_one starts m.finds (subst (IsVisibleDeclaration F file b) (sym e) n.finds), e)
