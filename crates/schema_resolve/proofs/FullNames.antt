-- Full names and their texts.
use Rattle.std.proofs.Common.{◌≡◌, ℕ, inl, inr, Bool, true, false, cond, List, [], ◌∷◌, ◌++◌, Option, Some, None, refl, sym, ap, ◌∙◌, subst}
use Rattle.std.specs.Prelude.{slice_get, IfSome, ◌==◌, IsTrue}
use Rattle.std.specs.List.{list_all, onto_first}
use Rattle.std.proofs.lemmas.Bool.{false≢true, and_parts, and_from, cases_Bool, eqb-true}
use Rattle.std.proofs.lemmas.List.{append_assoc}
use Rattle.std.proofs.lemmas.List.Elements.{All-contains}
use Rattle.std.proofs.lemmas.List.Folds.{list_all-append}
use Rattle.std.proofs.lemmas.List.Splits.{join_with_byte-slice_split}
use Rattle.std.proofs.lemmas.Option.{slice_get_within, get_or_from_slice_get}
use Rattle.mrpc_table.specs.Names.{is_name_start, is_name_byte, is_name_form, parts_of}
use Rattle.proto_ast.specs.Dot.{dot}
use Rattle.proto_ast.specs.Order.{HasFullName, IsFormedMessage}
use Rattle.proto_ast.specs.Together.{IsFormed}
use Rattle.proto_ast.specs.declared.file.Word.{Word}
use Rattle.proto_ast.specs.declared.file.MessageDecl.{MessageDecl}
use Rattle.proto_ast.specs.Joined.{Joined, package_parts, package_in, package_at}
use Rattle.proto_ast.specs.declared.joined.Head.{Head}
use Rattle.proto_ast.specs.declared.joined.Enclosing.{Enclosing}
use Rattle.schema_symbols.specs.Scopes.{text_of, IsScope, of_file, of_message}
use Rattle.schema_resolve.specs.Placing.{qualified_name}

-- ---- names without dots

abbrev pub AreNames : List (List ℕ) → Type 0
AreNames names = list_all is_name_form names ≡ true

abbrev HasNoDot : List ℕ → Type 0
HasNoDot [] = Unit {0}
HasNoDot (c ∷ cs) = ((c == dot) ≡ false) × HasNoDot cs

byte_no_dot : (c : ℕ) → is_name_byte c ≡ true → (c == dot) ≡ false
byte_no_dot c e = elim (cases_Bool (c == dot)) [
  | inl t ↦ absurd (false≢true (subst (λ (b : ℕ). is_name_byte b ≡ true) (eqb-true c dot t) e))
  | inr f ↦ f
]

start_no_dot : (c : ℕ) → is_name_start c ≡ true → (c == dot) ≡ false
start_no_dot c e = elim (cases_Bool (c == dot)) [
  | inl t ↦ absurd (false≢true (subst (λ (b : ℕ). is_name_start b ≡ true) (eqb-true c dot t) e))
  | inr f ↦ f
]

bytes_no_dot : (cs : List ℕ) → list_all is_name_byte cs ≡ true → HasNoDot cs
bytes_no_dot [] e = tt
bytes_no_dot (c ∷ cs) e =
    let p = and_parts (is_name_byte c) (list_all is_name_byte cs) e in
    (byte_no_dot c p.0, bytes_no_dot cs p.1)

name_no_dot : (name : List ℕ) → is_name_form name ≡ true → HasNoDot name
name_no_dot [] e = absurd (false≢true e)
name_no_dot (c ∷ cs) e =
    let p = and_parts (is_name_start c) (list_all is_name_byte cs) e in
    (start_no_dot c p.0, bytes_no_dot cs p.1)

-- ---- splitting a joined text

cut_at : (c : ℕ) (ps : List (List ℕ)) (b : Bool) → b ≡ false → cond b ([] ∷ ps) (onto_first c ps) ≡ onto_first c ps
cut_at c ps true e = absurd (false≢true (sym e))
cut_at c ps false e = refl

parts_one : (name : List ℕ) → HasNoDot name → parts_of name ≡ name ∷ []
parts_one [] h = refl
parts_one (c ∷ cs) h = cut_at c (parts_of cs) (c == dot) h.0 ∙ ap (onto_first c) (parts_one cs h.1)

parts_more : (name rest : List ℕ) → HasNoDot name → parts_of (name ++ dot ∷ rest) ≡ name ∷ parts_of rest
parts_more [] rest h = refl
parts_more (c ∷ cs) rest h =
    cut_at c (parts_of (cs ++ dot ∷ rest)) (c == dot) h.0 ∙ ap (onto_first c) (parts_more cs rest h.1)

-- the parts of a full name are those of its text
pub parts_of_text : (name : List ℕ) (names : List (List ℕ)) → AreNames (name ∷ names)
    → parts_of (text_of (name ∷ names)) ≡ name ∷ names
parts_of_text name [] h =
    parts_one name (name_no_dot name (and_parts (is_name_form name) true h).0)
parts_of_text name (other ∷ names) h =
    let p = and_parts (is_name_form name) (list_all is_name_form (other ∷ names)) h in
    parts_more name (text_of (other ∷ names)) (name_no_dot name p.0)
    ∙ ap (λ (ns : List (List ℕ)). name ∷ ns) (parts_of_text other names p.1)

pub text_some : (name : List ℕ) (names : List (List ℕ)) → AreNames (name ∷ names)
    → (c : ℕ) × (cs : List ℕ) × (text_of (name ∷ names) ≡ c ∷ cs)
text_some [] names h = absurd (false≢true (and_parts false (list_all is_name_form names) h).0)
text_some (c ∷ cs) [] h = (c, cs, refl)
text_some (c ∷ cs) (other ∷ names) h = (c, cs ++ dot ∷ text_of (other ∷ names), refl)

-- full names with the same text are equal
pub same_text : (f g : List (List ℕ)) → AreNames f → AreNames g → text_of f ≡ text_of g → f ≡ g
same_text [] [] p q e = refl
same_text [] (y ∷ ys) p q e = let s = text_some y ys q in let f : [] ≡ s.0 ∷ s.1 = e ∙ s.2 in cc
same_text (x ∷ xs) [] p q e = let s = text_some x xs p in let f : [] ≡ s.0 ∷ s.1 = sym e ∙ s.2 in cc
same_text (x ∷ xs) (y ∷ ys) p q e = sym (parts_of_text x xs p) ∙ ap parts_of e ∙ parts_of_text y ys q

-- ---- a name after a full name

join_more : (x : List ℕ) (xs : List (List ℕ)) (name : List ℕ)
    → text_of (x ∷ xs ++ name ∷ []) ≡ text_of (x ∷ xs) ++ dot ∷ name
join_more x [] name = refl
join_more x (y ∷ ys) name =
    ap (λ (t : List ℕ). x ++ dot ∷ t) (join_more y ys name)
    ∙ sym (append_assoc x (dot ∷ text_of (y ∷ ys)) (dot ∷ name))

behind_some : (text name : List ℕ) (c : ℕ) (cs : List ℕ) → text ≡ c ∷ cs → qualified_name text name ≡ text ++ dot ∷ name
behind_some text name c cs e =
    subst (λ (t : List ℕ). qualified_name t name ≡ t ++ dot ∷ name) (sym e) refl

pub behind_text : (outer : List (List ℕ)) (name : List ℕ) → AreNames outer
    → qualified_name (text_of outer) name ≡ text_of (outer ++ name ∷ [])
behind_text [] name h = refl
behind_text (x ∷ xs) name h =
    let s = text_some x xs h in
    behind_some (text_of (x ∷ xs)) name s.0 s.1 s.2 ∙ sym (join_more x xs name)

-- ---- the names of scopes

pub names_more : (outer : List (List ℕ)) (name : List ℕ) → AreNames outer → IsTrue (is_name_form name)
    → AreNames (outer ++ name ∷ [])
names_more outer name h n =
    list_all-append is_name_form outer (name ∷ [])
    ∙ and_from (list_all is_name_form outer) (list_all is_name_form (name ∷ [])) h (and_from (is_name_form name) true n refl)

package_names_at : (word : Option Word) → IfSome word HasFullName → AreNames (package_parts word)
package_names_at None h = refl
package_names_at (Some w) h = h

package_names_in : (F : Joined) (k : ℕ) (head : Option Head) → IsFormed F → slice_get F.heads k ≡ head
    → AreNames (package_in head)
package_names_in F k None formed e = refl
package_names_in F k (Some h) formed e = package_names_at h.package (formed.heads k h e).package_name

pub package_names : (F : Joined) (k : ℕ) → IsFormed F → AreNames (package_at F k)
package_names F k formed = package_names_in F k (slice_get F.heads k) formed refl

pub message_formed : (F : Joined) (i : ℕ) (m : MessageDecl) → IsFormed F → slice_get F.messages i ≡ Some m
    → IsFormedMessage m
message_formed F i m formed at =
    All-contains IsFormedMessage F.messages m formed.messages
    (i, slice_get_within F.messages i m at, get_or_from_slice_get F.messages i m m at)

pub scope_names : {F : Joined} {place : Enclosing} {scope : List (List ℕ)} → IsFormed F → IsScope F place scope
    → AreNames scope
scope_names {F} formed (of_file k) = package_names F k formed
scope_names {F} formed (of_message i m {outer} at up) =
    names_more outer m.name.name (scope_names formed up) (message_formed F i m formed at).name

-- ---- the names of packages

pub a_package : (word : Option Word) (w : Word) (name : List ℕ) → word ≡ Some w → name ≡ w.name
    → name ≡ text_of (package_parts word)
a_package word w name e f =
    subst (λ (p : Option Word). name ≡ text_of (package_parts p)) (sym e)
    (f ∙ sym (join_with_byte-slice_split dot w.name))
