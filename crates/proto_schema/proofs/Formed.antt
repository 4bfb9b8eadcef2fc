-- The declarations of the statements so far are well-formed. Indices are within their lists, a closed oneof has a field
-- and a closed enum a value, and names have the forms of names.
use Rattle.std.proofs.Common.{◌≡◌, ◌⊎◌, inl, inr, ℕ, zero, suc, ◌+◌, ◌<◌, ◌≤◌, Bool, true, false, List, [], ◌∷◌, ◌++◌}
use Rattle.std.proofs.Common.{length, length-append, refl, ap, subst, sym, ◌∙◌, arith}
use Rattle.std.specs.Prelude.{Option, Some, None, slice_get, IfSome, Contains}
use Rattle.std.proofs.lemmas.Bool.{cases_lt}
use Rattle.proto_grammar.specs.Lexemes.{Lexeme, make_word}
use Rattle.proto_schema.specs.Files
use Rattle.proto_schema.specs.Files.{Draft, OpenBlock, no_block, a_oneof, an_enum, a_service, an_rpc, IsStatement, AreStatementsOf}
use Rattle.proto_schema.specs.Files.{AreFileTokens, IsBlockEnd, initial_draft, edit_open, edit_last, innermost_of, draft_with_file}
use Rattle.proto_schema.specs.Files.{with_block, in_message, in_enum, open_message, open_enum}
use Rattle.proto_schema.specs.Files.{open_service, open_oneof, add_field, add_rpc, oneofs_in_message, count_oneofs, make_field}
use Rattle.proto_schema.specs.Faults.{IsProtoTextOf}
use Rattle.proto_ast.specs.Order.{IsIndexBelow, HasName, HasFullName, HasTypeNames, IsFormedField, IsFormedMessage, IsFormedEnum, IsFormedRpc, IsFormedService, IsFormed}
use Rattle.proto_schema.proofs.Places.{nothing_at, all_by_place, contained, in_pushed, before_pushed, pushed, Changed}
use Rattle.proto_schema.proofs.Places.{changed, kept, in_edited_open, length_edited_open, in_edited_last}
use Rattle.proto_schema.proofs.Places.{length_edited_last}
use Rattle.proto_schema.proofs.Along.{Along, along_split, tokens_along}
use Rattle.proto_schema.proofs.Spans.{NameWithin, EndWithin, RpcWithin, along_same, word_along, full_along, types_along, end_along, numbered_along, rpc_along}
use Rattle.proto_ast.specs.declared.file.Word.{Word}
use Rattle.proto_ast.specs.declared.file.Range.{Range}
use Rattle.proto_ast.specs.declared.file.Import.{Import}
use Rattle.proto_ast.specs.declared.file.FieldLabel.TheVariants.{Plain}
use Rattle.proto_ast.specs.declared.file.FieldDecl.{FieldDecl}
use Rattle.proto_ast.specs.declared.file.MessageDecl.{MessageDecl}
use Rattle.proto_ast.specs.declared.file.ValueDecl.{ValueDecl}
use Rattle.proto_ast.specs.declared.file.EnumDecl.{EnumDecl}
use Rattle.proto_ast.specs.declared.file.RpcDecl.{RpcDecl}
use Rattle.proto_ast.specs.declared.file.ServiceDecl.{ServiceDecl}
use Rattle.proto_ast.specs.declared.file.File.{File}

-- ---- messages, enums and services so far

pub data IsFilled (m : MessageDecl) (o : ℕ) : Type 0 where
  has_field : (j : ℕ) (f : FieldDecl) → slice_get m.fields j ≡ Some f → f.oneof ≡ Some o → IsFilled m o

-- a message whose oneofs have a field each, except the open one
pub record MessageSoFar (unclosed : ℕ → Type 0) (k : ℕ) (m : MessageDecl) : Type 0 where
  pub name : HasName m.name
  pub fields : (j : ℕ) (f : FieldDecl) → slice_get m.fields j ≡ Some f → IsFormedField (length m.oneofs) f
  pub oneofs : (j : ℕ) (o : Word) → slice_get m.oneofs j ≡ Some o → HasName o
  pub filled : (o : ℕ) → o < length m.oneofs → IsFilled m o ⊎ unclosed o
  pub parent : IsIndexBelow k m.parent

-- an enum that has a value, unless it is open, in a file with this many messages
pub record EnumSoFar (unclosed : Type 0) (messages : ℕ) (e : EnumDecl) : Type 0 where
  pub name : HasName e.name
  pub values : (j : ℕ) (v : ValueDecl) → slice_get e.values j ≡ Some v → HasName v.name
  pub filled : (0 < length e.values) ⊎ unclosed
  pub parent : IsIndexBelow messages e.parent

pub record ServiceSoFar (s : ServiceDecl) : Type 0 where
  pub name : HasName s.name
  pub rpcs : (j : ℕ) (r : RpcDecl) → slice_get s.rpcs j ≡ Some r → IsFormedRpc r

-- the oneof o of the message k is open and has no field; likewise the enum k, the last one
pub record IsOpenOneof (b : OpenBlock) (unclosed : List ℕ) (k o : ℕ) : Type 0 where
  pub block : b ≡ a_oneof o false
  pub innermost : innermost_of unclosed ≡ Some k

pub record IsOpenEnum (b : OpenBlock) (enums k : ℕ) : Type 0 where
  pub block : b ≡ an_enum false
  pub last : suc k ≡ enums

pub record SoFar (d : Draft) : Type 0 where
  pub package_name : IfSome d.file.package HasFullName
  pub messages : (k : ℕ) (m : MessageDecl) → slice_get d.file.messages k ≡ Some m
      → MessageSoFar (λ o. IsOpenOneof d.block d.messages k o) k m
  pub enums : (k : ℕ) (e : EnumDecl) → slice_get d.file.enums k ≡ Some e
      → EnumSoFar (IsOpenEnum d.block (length d.file.enums) k) (length d.file.messages) e
  pub services : (k : ℕ) (s : ServiceDecl) → slice_get d.file.services k ≡ Some s → ServiceSoFar s
  -- the open messages, and the open oneof
  pub unclosed : (j k : ℕ) → slice_get d.messages j ≡ Some k → k < length d.file.messages
  pub oneof : (i : ℕ) (filled : Bool) (k : ℕ) (m : MessageDecl) → d.block ≡ a_oneof i filled
      → innermost_of d.messages ≡ Some k → slice_get d.file.messages k ≡ Some m → i < length m.oneofs

-- blocks that are neither an empty oneof nor an empty enum
abbrev IsOneofShut : OpenBlock → Type 0
IsOneofShut (a_oneof i false) = ⊥
IsOneofShut _ = Unit {0}

abbrev IsEnumShut : OpenBlock → Type 0
IsEnumShut (an_enum false) = ⊥
IsEnumShut _ = Unit {0}

no_open_oneof : {b : OpenBlock} {unclosed : List ℕ} {k o : ℕ} → IsOneofShut b → IsOpenOneof b unclosed k o → ⊥
no_open_oneof s h = subst IsOneofShut h.block s

no_open_enum : {b : OpenBlock} {enums k : ℕ} → IsEnumShut b → IsOpenEnum b enums k → ⊥
no_open_enum s h = subst IsEnumShut h.block s

-- a block of this form isn't a oneof
no_oneof : {b : OpenBlock} (i : ℕ) (filled : Bool) → b ≡ no_block → b ≡ a_oneof i filled → ⊥
no_oneof i filled e h = let t : no_block ≡ a_oneof i filled = sym e ∙ h in cc

-- ---- what preserves them

message_open : {P Q : ℕ → Type 0} (k : ℕ) (m : MessageDecl) → ((o : ℕ) → P o → Q o) → MessageSoFar P k m → MessageSoFar Q k m
message_open k m h g = record {
  name = g.name;
  fields = g.fields;
  oneofs = g.oneofs;
  filled = λ o l. elim (g.filled o l) [ inl f ↦ inl f | inr p ↦ inr (h o p) ];
  parent = g.parent;
}

place_below : (i n : ℕ) (place : Option ℕ) → i ≤ n → IsIndexBelow i place → IsIndexBelow n place
place_below i n None l h = tt
place_below i n (Some k) l h = omega arith

field_below : (i n : ℕ) (f : FieldDecl) → i ≤ n → IsFormedField i f → IsFormedField n f
field_below i n f l h = record { name = h.name; types = h.types; oneof = place_below i n f.oneof l h.oneof }

enum_open : {P Q : Type 0} (i n : ℕ) (e : EnumDecl) → (P → Q) → i ≤ n → EnumSoFar P i e → EnumSoFar Q n e
enum_open i n e h l g = record {
  name = g.name;
  values = g.values;
  filled = elim g.filled [ inl f ↦ inl f | inr p ↦ inr (h p) ];
  parent = place_below i n e.parent l g.parent;
}

-- ---- fields and oneofs of a message

filled_more : (m : MessageDecl) (f : FieldDecl) (o : ℕ) → IsFilled m o → IsFilled (record m { fields = m.fields ++ f ∷ [] }) o
filled_more m f o (has_field j g e q) = has_field j g (before_pushed m.fields f j g e) q

message_field : {P Q : ℕ → Type 0} (k : ℕ) (m : MessageDecl) (f : FieldDecl) → IsFormedField (length m.oneofs) f
    → ((o : ℕ) → P o → (f.oneof ≡ Some o) ⊎ Q o) → MessageSoFar P k m
    → MessageSoFar Q k (record m { fields = m.fields ++ f ∷ [] })
message_field k m f w h g = record {
  name = g.name;
  fields = λ j x e. elim (in_pushed m.fields f j x e) [
    | inl q ↦ g.fields j x q
    | inr (l, q) ↦ subst (λ (x : FieldDecl). IsFormedField (length m.oneofs) x) (sym q) w
  ];
  oneofs = g.oneofs;
  filled = λ o l. elim (g.filled o l) [
    | inl q ↦ inl (filled_more m f o q)
    | inr p ↦ elim (h o p) [
      | inl q ↦ inl (has_field (length m.fields) f (pushed m.fields f) q)
      | inr q ↦ inr q
    ]
  ];
  parent = g.parent;
}

message_oneof : {P Q : ℕ → Type 0} (k : ℕ) (m : MessageDecl) (w : Word) → HasName w → ((o : ℕ) → P o → Q o)
    → Q (length m.oneofs) → MessageSoFar P k m → MessageSoFar Q k (record m { oneofs = m.oneofs ++ w ∷ [] })
message_oneof {P} {Q} k m w n h q g =
    let l : length (m.oneofs ++ w ∷ []) ≡ length m.oneofs + 1 = length-append m.oneofs (w ∷ []) in
    record {
      name = g.name;
      fields = λ j x e. field_below (length m.oneofs) (length (m.oneofs ++ w ∷ [])) x (omega arith) (g.fields j x e);
      oneofs = λ j x e. elim (in_pushed m.oneofs w j x e) [
        | inl q ↦ g.oneofs j x q
        | inr (l, q) ↦ subst (λ (x : Word). HasName x) (sym q) n
      ];
      filled = λ o b. by o (cases_lt o (length m.oneofs)) (omega arith);
      parent = g.parent;
    }
  where
    m' : MessageDecl
    m' = record m { oneofs = m.oneofs ++ w ∷ [] }

    still : (o : ℕ) → IsFilled m o → IsFilled m' o
    still o (has_field j f e q) = has_field j f e q

    by : (o : ℕ) → (o < length m.oneofs) ⊎ (length m.oneofs ≤ o) → o ≤ length m.oneofs → IsFilled m' o ⊎ Q o
    by o (inl l) b = elim (g.filled o l) [ inl f ↦ inl (still o f) | inr p ↦ inr (h o p) ]
    by o (inr l) b = inr (let e : length m.oneofs ≡ o = omega arith in subst Q e q)

-- ---- a statement preserves them

first_is : (unclosed : List ℕ) (k : ℕ) → innermost_of unclosed ≡ Some k → slice_get unclosed 0 ≡ Some k
first_is [] k e = absurd (let t : ◌≡◌ None (Some k) = e in cc)
first_is (i ∷ is) k e = e

innermost_below : (d : Draft) → SoFar d → IsIndexBelow (length d.file.messages) (innermost_of d.messages)
innermost_below d s = by (innermost_of d.messages) refl
  where
    by : (o : Option ℕ) → innermost_of d.messages ≡ o → IsIndexBelow (length d.file.messages) o
    by None e = tt
    by (Some k) e = s.unclosed 0 k (first_is d.messages k e)

-- no empty oneof or enum is open
messages_shut : (d : Draft) (b : OpenBlock) (is : List ℕ) → SoFar d → IsOneofShut d.block → (k : ℕ) (m : MessageDecl)
    → slice_get d.file.messages k ≡ Some m → MessageSoFar (λ o. IsOpenOneof b is k o) k m
messages_shut d b is s h k m e = message_open k m (λ o p. absurd (no_open_oneof h p)) (s.messages k m e)

enums_shut : (d : Draft) (b : OpenBlock) (c n : ℕ) → SoFar d → IsEnumShut d.block → length d.file.messages ≤ n
    → (k : ℕ) (e : EnumDecl) → slice_get d.file.enums k ≡ Some e → EnumSoFar (IsOpenEnum b c k) n e
enums_shut d b c n s h l k e q = enum_open (length d.file.messages) n e (λ p. absurd (no_open_enum h p)) l (s.enums k e q)

formed_package : (d : Draft) (w : Word) → HasFullName w → SoFar d → SoFar (draft_with_file d (record d.file { «package» = Some w }))
formed_package d w f s = record { package_name = f; messages = s.messages; enums = s.enums; services = s.services; unclosed = s.unclosed; oneof = s.oneof }

formed_import : (d : Draft) (i : Import) → SoFar d → SoFar (draft_with_file d (record d.file { imports = d.file.imports ++ i ∷ [] }))
formed_import d i s = record { package_name = s.package_name; messages = s.messages; enums = s.enums; services = s.services; unclosed = s.unclosed; oneof = s.oneof }

formed_message : (d : Draft) (w : Word) → d.block ≡ no_block → HasName w → SoFar d → SoFar (open_message d w)
formed_message d w b n s =
    let oneofs : IsOneofShut d.block = subst IsOneofShut (sym b) tt in
    let enums : IsEnumShut d.block = subst IsEnumShut (sym b) tt in
    let l : length (open_message d w).file.messages ≡ length d.file.messages + 1 = length-append d.file.messages _ in
    record {
      package_name = s.package_name;
      messages = λ k m e. elim (in_pushed d.file.messages _ k m e) [
        | inl q ↦ messages_shut d no_block (length d.file.messages ∷ d.messages) s oneofs k m q
        | inr (j, q) ↦ subst
            (λ (m : MessageDecl). MessageSoFar (λ o. IsOpenOneof no_block (length d.file.messages ∷ d.messages) k o) k
            m) (sym q) (subst
            (λ (i : ℕ). MessageSoFar (λ o. IsOpenOneof no_block (length d.file.messages ∷ d.messages) k o) i opened)
            (sym j) new)
      ];
      enums = enums_shut d no_block (length d.file.enums) (length (open_message d w).file.messages) s enums (omega arith);
      services = s.services;
      unclosed = unclosed;
      oneof = λ i filled k m q. absurd (let t : no_block ≡ a_oneof i filled = q in cc);
    }
  where
    opened : MessageDecl
    opened = record { name = w; file = 0; parent = innermost_of d.messages; fields = []; oneofs = []; ranges = []; names = [] }

    new : {P : ℕ → Type 0} → MessageSoFar P (length d.file.messages) opened
    new = record {
      name = n;
      fields = λ j f e. absurd (nothing_at j f e);
      oneofs = λ j o e. absurd (nothing_at j o e);
      filled = λ o l. absurd (omega arith);
      parent = innermost_below d s;
    }

    unclosed : (j k : ℕ) → slice_get (length d.file.messages ∷ d.messages) j ≡ Some k → k < length (open_message d w).file.messages
    unclosed zero k e = let t : ◌≡◌ (Some (length d.file.messages)) (Some k) = e in
        let q : length d.file.messages ≡ k = (cc) in omega (arith, length-append d.file.messages (opened ∷ []))
    unclosed (suc j) k e = let q : k < length d.file.messages = s.unclosed j k e in omega (arith, length-append d.file.messages (opened ∷ []))

formed_enum : (d : Draft) (w : Word) → d.block ≡ no_block → HasName w → SoFar d → SoFar (open_enum d w)
formed_enum d w b n s =
    let oneofs : IsOneofShut d.block = subst IsOneofShut (sym b) tt in
    let enums : IsEnumShut d.block = subst IsEnumShut (sym b) tt in
    record {
      package_name = s.package_name;
      messages = messages_shut d (an_enum false) d.messages s oneofs;
      enums = λ k e q. elim (in_pushed d.file.enums opened k e q) [
        | inl h ↦ enums_shut d (an_enum false) (length (d.file.enums ++ opened ∷ [])) (length d.file.messages) s enums (omega arith) k e h
        | inr (j, h) ↦ subst (λ (e : EnumDecl). EnumSoFar (IsOpenEnum (an_enum false) (length (d.file.enums ++ opened ∷ [])) k) (length d.file.messages) e) (sym h) (new k j)
      ];
      services = s.services;
      unclosed = s.unclosed;
      oneof = λ i filled k m q. absurd (let t : an_enum false ≡ a_oneof i filled = q in cc);
    }
  where
    opened : EnumDecl
    opened = record { name = w; file = 0; parent = innermost_of d.messages; values = []; ranges = []; names = [] }

    new : (k : ℕ) → k ≡ length d.file.enums → EnumSoFar (IsOpenEnum (an_enum false) (length (d.file.enums ++ opened ∷ [])) k) (length d.file.messages) opened
    new k j = record {
      name = n;
      values = λ j v e. absurd (nothing_at j v e);
      filled = inr (record { block = refl; last = omega (arith, length-append d.file.enums (opened ∷ [])) });
      parent = innermost_below d s;
    }

formed_service : (d : Draft) (w : Word) → d.block ≡ no_block → HasName w → SoFar d → SoFar (open_service d w)
formed_service d w b n s =
    let oneofs : IsOneofShut d.block = subst IsOneofShut (sym b) tt in
    let enums : IsEnumShut d.block = subst IsEnumShut (sym b) tt in
    record {
      package_name = s.package_name;
      messages = messages_shut d a_service d.messages s oneofs;
      enums = enums_shut d a_service (length d.file.enums) (length d.file.messages) s enums (omega arith);
      services = λ k x q. elim (in_pushed d.file.services opened k x q) [
        | inl h ↦ s.services k x h
        | inr (j, h) ↦ subst (λ (x : ServiceDecl). ServiceSoFar x) (sym h) new
      ];
      unclosed = s.unclosed;
      oneof = λ i filled k m q. absurd (let t : a_service ≡ a_oneof i filled = q in cc);
    }
  where
    opened : ServiceDecl
    opened = record { name = w; file = 0; rpcs = [] }

    new : ServiceSoFar opened
    new = record { name = n; rpcs = λ j r e. absurd (nothing_at j r e) }

-- ---- additions to the innermost message

messages_kept : (d : Draft) (f : MessageDecl → MessageDecl) → length (edit_open (innermost_of d.messages) f d.file.messages) ≡ length d.file.messages
messages_kept d f = length_edited_open (innermost_of d.messages) f d.file.messages

formed_field : (d : Draft) (f : FieldDecl) (b : OpenBlock)
    → ((k : ℕ) (m : MessageDecl) → innermost_of d.messages ≡ Some k → slice_get d.file.messages k ≡ Some m → IsFormedField (length m.oneofs) f)
    → ((k o : ℕ) → innermost_of d.messages ≡ Some k → IsOpenOneof d.block d.messages k o → (f.oneof ≡ Some o) ⊎ IsOpenOneof b d.messages k o)
    → IsEnumShut d.block
    → ((i : ℕ) (filled : Bool) → b ≡ a_oneof i filled → (before : Bool) × (d.block ≡ a_oneof i before))
    → SoFar d → SoFar (with_block (add_field d f) b)
formed_field d f b form unclosed enums still s =
    let l : length (edit_open (innermost_of d.messages) added d.file.messages) ≡ length d.file.messages = messages_kept d added in
    record {
      package_name = s.package_name;
      messages = λ k m e. elim (in_edited_open (innermost_of d.messages) added d.file.messages k m e) [
        | changed x h i q ↦ subst (λ (m : MessageDecl). MessageSoFar (λ o. IsOpenOneof b d.messages k o) k m) (sym q)
            (message_field k x f (form k x i h) (λ o p. unclosed k o i p) (s.messages k x h))
        | kept h i ↦ message_open k m (λ o p. absurd (i p.innermost)) (s.messages k m h)
      ];
      enums = enums_shut d b (length d.file.enums) (length (edit_open (innermost_of d.messages) added d.file.messages)) s enums (omega arith);
      services = s.services;
      unclosed = λ j k e. let q : k < length d.file.messages = s.unclosed j k e in omega arith;
      oneof = λ i filled k m q h g. by i k m (still i filled q) h (in_edited_open (innermost_of d.messages) added d.file.messages k m g);
    }
  where
    added : MessageDecl → MessageDecl
    added = λ m. record m { fields = m.fields ++ f ∷ [] }

    by : (i k : ℕ) (m : MessageDecl) → (before : Bool) × (d.block ≡ a_oneof i before) → innermost_of d.messages ≡ Some k
        → Changed (λ k. innermost_of d.messages ≡ Some k) added d.file.messages k m → i < length m.oneofs
    by i k m (before, q) h (changed x g l e) = subst (λ (m : MessageDecl). i < length m.oneofs) (sym e) (s.oneof i before k x q h g)
    by i k m (before, q) h (kept g l) = s.oneof i before k m q h g

formed_oneof : (d : Draft) (w : Word) → d.block ≡ no_block → HasName w → SoFar d → SoFar (open_oneof d w)
formed_oneof d w b n s =
    let oneofs : IsOneofShut d.block = subst IsOneofShut (sym b) tt in
    let enums : IsEnumShut d.block = subst IsEnumShut (sym b) tt in
    let l : length (edit_open (innermost_of d.messages) added d.file.messages) ≡ length d.file.messages = messages_kept d added in
    record {
      package_name = s.package_name;
      messages = λ k m e. elim (in_edited_open (innermost_of d.messages) added d.file.messages k m e) [
        | changed x h i q ↦
            subst (λ (m : MessageDecl). MessageSoFar (λ o. IsOpenOneof (open_oneof d w).block d.messages k o) k m) (sym q)
            (message_oneof k x w n (λ o p. absurd (no_open_oneof oneofs p)) (record { block = ap (λ (c : ℕ). a_oneof c false) (count k x i h); innermost = i }) (s.messages k x h))
        | kept h i ↦ messages_shut d (open_oneof d w).block d.messages s oneofs k m h
      ];
      enums = enums_shut d (open_oneof d w).block (length d.file.enums) (length (edit_open (innermost_of d.messages) added d.file.messages)) s enums (omega arith);
      services = s.services;
      unclosed = λ j k e. let q : k < length d.file.messages = s.unclosed j k e in omega arith;
      oneof = λ i filled k m q h g. by i filled k m q h (in_edited_open (innermost_of d.messages) added d.file.messages k m g);
    }
  where
    added : MessageDecl → MessageDecl
    added = λ m. record m { oneofs = m.oneofs ++ w ∷ [] }

    count : (k : ℕ) (m : MessageDecl) → innermost_of d.messages ≡ Some k → slice_get d.file.messages k ≡ Some m
        → count_oneofs (innermost_of d.messages) d.file.messages ≡ length m.oneofs
    count k m i h = ap (λ (o : Option ℕ). count_oneofs o d.file.messages) i ∙ ap oneofs_in_message h

    by : (i : ℕ) (filled : Bool) (k : ℕ) (m : MessageDecl) → (open_oneof d w).block ≡ a_oneof i filled → innermost_of d.messages ≡ Some k
        → Changed (λ k. innermost_of d.messages ≡ Some k) added d.file.messages k m → i < length m.oneofs
    by i filled k m q h (changed x g l e) =
        let t : a_oneof (count_oneofs (innermost_of d.messages) d.file.messages) false ≡ a_oneof i filled = q in
        let u : count_oneofs (innermost_of d.messages) d.file.messages ≡ i = (cc) in
        let c : count_oneofs (innermost_of d.messages) d.file.messages ≡ length x.oneofs = count k x l g in
        subst (λ (m : MessageDecl). i < length m.oneofs) (sym e) (omega (arith, length-append x.oneofs (w ∷ [])))
    by i filled k m q h (kept g l) = absurd (l h)

-- reserved numbers and names don't affect the invariants
formed_reserved : (d : Draft) (f : MessageDecl → MessageDecl) → d.block ≡ no_block
    → ((P : ℕ → Type 0) (k : ℕ) (m : MessageDecl) → MessageSoFar P k m → MessageSoFar P k (f m)) → SoFar d → SoFar (in_message d f)
formed_reserved d f b same s =
    let enums : IsEnumShut d.block = subst IsEnumShut (sym b) tt in
    let l : length (edit_open (innermost_of d.messages) f d.file.messages) ≡ length d.file.messages = messages_kept d f in
    record {
      package_name = s.package_name;
      messages = λ k m e. elim (in_edited_open (innermost_of d.messages) f d.file.messages k m e) [
        | changed x h i q ↦ subst (λ (m : MessageDecl). MessageSoFar (λ o. IsOpenOneof d.block d.messages k o) k m)
            (sym q) (same (λ o. IsOpenOneof d.block d.messages k o) k x (s.messages k x h))
        | kept h i ↦ s.messages k m h
      ];
      enums = enums_shut d d.block (length d.file.enums) (length (edit_open (innermost_of d.messages) f d.file.messages)) s enums (omega arith);
      services = s.services;
      unclosed = λ j k e. let q : k < length d.file.messages = s.unclosed j k e in omega arith;
      oneof = λ i filled k m q. absurd (no_oneof i filled b q);
    }

message_same : {P : ℕ → Type 0} {k : ℕ} (m n : MessageDecl) → m.name ≡ n.name → m.fields ≡ n.fields → m.oneofs ≡ n.oneofs
    → m.parent ≡ n.parent → MessageSoFar P k m → MessageSoFar P k n
message_same {P} {k} m n a b c e g = record {
  name = subst HasName a g.name;
  fields = λ j f q. subst (λ (os : List Word). IsFormedField (length os) f) c (g.fields j f (ap (λ (fs : List FieldDecl). slice_get fs j) b ∙ q));
  oneofs = λ j o q. g.oneofs j o (ap (λ (os : List Word). slice_get os j) c ∙ q);
  filled = λ o l. elim (g.filled o (subst (λ (os : List Word). o < length os) (sym c) l)) [
    | inl f ↦ inl (by o f)
    | inr p ↦ inr p
  ];
  parent = subst (λ (p : Option ℕ). IsIndexBelow k p) e g.parent;
}
  where
    by : (o : ℕ) → IsFilled m o → IsFilled n o
    by o (has_field j f q h) = has_field j f (ap (λ (fs : List FieldDecl). slice_get fs j) (sym b) ∙ q) h

formed_ranges : (d : Draft) (rs : List Range) → d.block ≡ no_block → SoFar d → SoFar (in_message d (λ m. record m { ranges = m.ranges ++ rs }))
formed_ranges d rs b s =
    formed_reserved d (λ m. record m { ranges = m.ranges ++ rs }) b (λ P k m g. message_same m (record m { ranges = m.ranges ++ rs }) refl refl refl refl g) s

formed_names : (d : Draft) (ws : List Word) → d.block ≡ no_block → SoFar d → SoFar (in_message d (λ m. record m { names = m.names ++ ws }))
formed_names d ws b s =
    formed_reserved d (λ m. record m { names = m.names ++ ws }) b (λ P k m g. message_same m (record m { names = m.names ++ ws }) refl refl refl refl g) s

-- ---- additions to the last enum and the last service

formed_enum_edit : (d : Draft) (f : EnumDecl → EnumDecl) (b : OpenBlock) (filled : Bool) → d.block ≡ an_enum filled → IsOneofShut b
    → ((i : ℕ) (filled : Bool) → b ≡ a_oneof i filled → ⊥)
    → ((k n : ℕ) (e : EnumDecl) → suc k ≡ length d.file.enums → EnumSoFar (IsOpenEnum d.block (length d.file.enums) k) n e
    → EnumSoFar (IsOpenEnum b (length (edit_last f d.file.enums)) k) n (f e))
    → SoFar d → SoFar (with_block (in_enum d f) b)
formed_enum_edit d f b filled q shut never more s =
    let oneofs : IsOneofShut d.block = subst IsOneofShut (sym q) tt in
    record {
      package_name = s.package_name;
      messages = messages_shut d b d.messages s oneofs;
      enums = λ k e h. elim (in_edited_last f d.file.enums k e h) [
        | changed x g l r ↦ subst (λ (e : EnumDecl). EnumSoFar (IsOpenEnum b (length (edit_last f d.file.enums)) k)
            (length d.file.messages) e) (sym r) (more k (length d.file.messages) x l (s.enums k x g))
        | kept g l ↦ enum_open (length d.file.messages) (length d.file.messages) e (λ p. absurd (l p.last)) (omega arith) (s.enums k e g)
      ];
      services = s.services;
      unclosed = s.unclosed;
      oneof = λ i filled k m r. absurd (never i filled r);
    }

an_enum_no_oneof : (b : OpenBlock) (filled : Bool) → b ≡ an_enum filled → (i : ℕ) (has : Bool) → b ≡ a_oneof i has → ⊥
an_enum_no_oneof b filled q i has h = let t : an_enum filled ≡ a_oneof i has = sym q ∙ h in cc

formed_value : (d : Draft) (v : ValueDecl) (filled : Bool) → d.block ≡ an_enum filled → HasName v.name → SoFar d
    → SoFar (with_block (in_enum d (λ e. record e { values = e.values ++ v ∷ [] })) (an_enum true))
formed_value d v filled q n s =
    formed_enum_edit d (λ e. record e { values = e.values ++ v ∷ [] }) (an_enum true) filled q tt (an_enum_no_oneof (an_enum true) true refl)
    (λ k c e l g. record {
      name = g.name;
      values = λ j x h. elim (in_pushed e.values v j x h) [
        | inl r ↦ g.values j x r
        | inr (i, r) ↦ subst (λ (x : ValueDecl). HasName x.name) (sym r) n
      ];
      filled = inl (omega (arith, length-append e.values (v ∷ [])));
      parent = g.parent;
    }) s

formed_value_ranges : (d : Draft) (rs : List Range) (filled : Bool) → d.block ≡ an_enum filled → SoFar d
    → SoFar (in_enum d (λ e. record e { ranges = e.ranges ++ rs }))
formed_value_ranges d rs filled q s =
    formed_enum_edit d (λ e. record e { ranges = e.ranges ++ rs }) d.block filled q (subst IsOneofShut (sym q) tt) (an_enum_no_oneof d.block filled q)
    (λ k c e l g. record {
      name = g.name;
      values = g.values;
      filled = elim g.filled [
        | inl f ↦ inl f
        | inr p ↦ inr
            (record {
              block = p.block;
              last = omega (arith, length_edited_last (λ e. record e { ranges = e.ranges ++ rs }) d.file.enums);
            })
      ];
      parent = g.parent;
    }) s

formed_value_names : (d : Draft) (ws : List Word) (filled : Bool) → d.block ≡ an_enum filled → SoFar d
    → SoFar (in_enum d (λ e. record e { names = e.names ++ ws }))
formed_value_names d ws filled q s =
    formed_enum_edit d (λ e. record e { names = e.names ++ ws }) d.block filled q (subst IsOneofShut (sym q) tt) (an_enum_no_oneof d.block filled q)
    (λ k c e l g. record {
      name = g.name;
      values = g.values;
      filled = elim g.filled [
        | inl f ↦ inl f
        | inr p ↦ inr
            (record {
              block = p.block;
              last = omega (arith, length_edited_last (λ e. record e { names = e.names ++ ws }) d.file.enums);
            })
      ];
      parent = g.parent;
    }) s

formed_rpc : (d : Draft) (r : RpcDecl) (b : OpenBlock) → d.block ≡ a_service → IsFormedRpc r → ((i : ℕ) (filled : Bool) → b ≡ a_oneof i filled → ⊥)
    → SoFar d → SoFar (with_block (add_rpc d r) b)
formed_rpc d r b q n never s = record {
  package_name = s.package_name;
  messages = messages_shut d b d.messages s (subst IsOneofShut (sym q) tt);
  enums = enums_shut d b (length d.file.enums) (length d.file.messages) s (subst IsEnumShut (sym q) tt) (omega arith);
  services = λ k x h. elim (in_edited_last added d.file.services k x h) [
    | changed y g l e ↦ subst (λ (x : ServiceDecl). ServiceSoFar x) (sym e) (more y (s.services k y g))
    | kept g l ↦ s.services k x g
  ];
  unclosed = s.unclosed;
  oneof = λ i filled k m e. absurd (never i filled e);
}
  where
    added : ServiceDecl → ServiceDecl
    added = λ x. record x { rpcs = x.rpcs ++ r ∷ [] }

    more : (x : ServiceDecl) → ServiceSoFar x → ServiceSoFar (added x)
    more x g = record {
      name = g.name;
      rpcs = λ j y h. elim (in_pushed x.rpcs r j y h) [
        | inl e ↦ g.rpcs j y e
        | inr (l, e) ↦ subst (λ (y : RpcDecl). IsFormedRpc y) (sym e) n
      ];
    }

-- ---- a block ends

formed_shut : (d : Draft) (is : List ℕ) (b : OpenBlock) → IsOneofShut d.block → IsEnumShut d.block
    → ((i : ℕ) (filled : Bool) → b ≡ a_oneof i filled → ⊥)
    → ((j k : ℕ) → slice_get is j ≡ Some k → k < length d.file.messages)
    → SoFar d → SoFar (record { file = d.file; messages = is; block = b })
formed_shut d is b oneofs enums never unclosed s = record {
  package_name = s.package_name;
  messages = messages_shut d b is s oneofs;
  enums = enums_shut d b (length d.file.enums) (length d.file.messages) s enums (omega arith);
  services = s.services;
  unclosed = unclosed;
  oneof = λ i filled k m e. absurd (never i filled e);
}

a_service_no_oneof : (i : ℕ) (filled : Bool) → a_service ≡ a_oneof i filled → ⊥
a_service_no_oneof i filled e = let t : a_service ≡ a_oneof i filled = e in cc

formed_close : (d : Draft) {other : Draft} → IsBlockEnd d other → SoFar d → SoFar other
formed_close d (Files.message_ends i is b e) s =
    formed_shut d is no_block (subst IsOneofShut (sym b) tt) (subst IsEnumShut (sym b) tt) (λ i filled. no_oneof i filled refl)
    (λ j k h. s.unclosed (suc j) k (ap (λ (l : List ℕ). slice_get l (suc j)) e ∙ h)) s
formed_close d (Files.oneof_ends i b) s =
    formed_shut d d.messages no_block (subst IsOneofShut (sym b) tt) (subst IsEnumShut (sym b) tt) (λ i filled. no_oneof i filled refl) s.unclosed s
formed_close d (Files.enum_ends b) s =
    formed_shut d d.messages no_block (subst IsOneofShut (sym b) tt) (subst IsEnumShut (sym b) tt) (λ i filled. no_oneof i filled refl) s.unclosed s
formed_close d (Files.service_ends b) s =
    formed_shut d d.messages no_block (subst IsOneofShut (sym b) tt) (subst IsEnumShut (sym b) tt) (λ i filled. no_oneof i filled refl) s.unclosed s
formed_close d (Files.rpc_ends b) s =
    formed_shut d d.messages a_service (subst IsOneofShut (sym b) tt) (subst IsEnumShut (sym b) tt) a_service_no_oneof s.unclosed s

-- ---- statements

rpc_formed : (b e : ℕ) (r : RpcDecl) → RpcWithin b e r → IsFormedRpc r
rpc_formed b e r w = record { name = w.name.formed; input = w.input.formed; output = w.output.formed }

formed_statement : (b e : ℕ) (d : Draft) {all : List Lexeme} {other : Draft} → IsStatement d all other → Along b all e → SoFar d
    → SoFar other
formed_statement b e d {all = all} (Files.package_name x z {ys = ys} {w = w} i n hx f hz a) h s =
    by (along_same b e all (x ∷ ys ++ z ∷ []) a h)
  where
    by : Along b (x ∷ ys ++ z ∷ []) e → SoFar (draft_with_file d (record d.file { «package» = Some w }))
    by (l, p, r) =
        let (c, t, u) = along_split (suc x.span.start) ys (z ∷ []) e r in
        let q : NameWithin HasFullName (suc x.span.start) c w = full_along (suc x.span.start) c f t in
        formed_package d w q.formed s
formed_statement b e d (Files.import x y z path i hx hy hz a) h s = formed_import d (record { path = path; public = false; span = y.span }) s
formed_statement b e d (Files.public_import x p y z path i hx hp hy hz a) h s = formed_import d (record { path = path; public = true; span = y.span }) s
formed_statement b e d (Files.option x z hx o hz a) h s = s
formed_statement b e d (Files.empty x i hx a) h s = s
formed_statement b e d {all = all} (Files.message x y z name i hx hy hz a) h s =
    let (l, p, r) = along_same b e all (x ∷ y ∷ z ∷ []) a h in
    formed_message d (make_word name y.span) i (word_along (suc x.span.start) e y (z ∷ []) name hy r).formed s
formed_statement b e d {all = all} (Files.enum x y z name i hx hy hz a) h s =
    let (l, p, r) = along_same b e all (x ∷ y ∷ z ∷ []) a h in
    formed_enum d (make_word name y.span) i (word_along (suc x.span.start) e y (z ∷ []) name hy r).formed s
formed_statement b e d {all = all} (Files.service x y z name i hx hy hz a) h s =
    let (l, p, r) = along_same b e all (x ∷ y ∷ z ∷ []) a h in
    formed_service d (make_word name y.span) i.0 (word_along (suc x.span.start) e y (z ∷ []) name hy r).formed s
formed_statement b e d {all = all} (Files.oneof x y z name i hx hy hz a) h s =
    let (l, p, r) = along_same b e all (x ∷ y ∷ z ∷ []) a h in
    formed_oneof d (make_word name y.span) i.0 (word_along (suc x.span.start) e y (z ∷ []) name hy r).formed s
formed_statement b e d {all = all} (Files.a_field {ls = ls} {ts = ts} {es = es} {label = label} {words =
    words} {kind = kind} {name = name} {number = number} {packed = packed} i l t f a) h s =
    let (g, r, v) = along_split b (ls ++ ts) es e (along_same b e all (ls ++ ts ++ es) a h) in
    let (c, p, u) = along_split b ls ts g r in
    let types : HasTypeNames kind = (types_along c g t u).0 in
    let end : EndWithin g e name number = end_along g e f v in
    formed_field d (make_field name number kind label None packed) d.block
    (λ k m x y. record { name = end.name.formed; types = types; oneof = tt })
    (λ k o x y. inr y) (subst IsEnumShut (sym i.0) tt) (λ o filled q. (filled, q)) s
formed_statement b e d {all = all} (Files.member i filled {ts = ts} {es = es} {kind = kind} {name = name} {number = number} {packed = packed} q t f a) h s =
    let (g, u, v) = along_split b ts es e (along_same b e all (ts ++ es) a h) in
    let types : HasTypeNames kind = (types_along b g t u).0 in
    let end : EndWithin g e name number = end_along g e f v in
    formed_field d (make_field name number kind Plain (Some i) packed) (a_oneof i true)
    (λ k m x y. record { name = end.name.formed; types = types; oneof = s.oneof i filled k m q x y })
    (λ k o x y. inl (let p : a_oneof i filled ≡ a_oneof o false = sym q ∙ y.block in cc)) (subst IsEnumShut (sym q) tt)
    (λ o has p. (filled, q ∙ (let r : a_oneof i true ≡ a_oneof o has = p in cc))) s
formed_statement b e d (Files.reserved_numbers x z {rs = rs} i hx r hz a) h s = formed_ranges d rs i.0 s
formed_statement b e d (Files.reserved_names x z {ws = ws} i hx r hz a) h s = formed_names d ws i.0 s
formed_statement b e d (Files.reserved_values x z filled {rs = rs} q hx r hz a) h s = formed_value_ranges d rs filled q s
formed_statement b e d (Files.reserved_value_names x z filled {ws = ws} q hx r hz a) h s = formed_value_names d ws filled q s
formed_statement b e d {all = all} (Files.value x y z name filled {ns = ns} {os = os} {number = number} q hx w hy n o hz a) h s =
    let end : EndWithin b e (make_word name x.span) number = numbered_along b e x y name os (z ∷ []) hx n (along_same b e all (x ∷ y ∷ ns ++ os ++ z ∷ []) a h) in
    formed_value d (record { name = make_word name x.span; number = number }) filled q end.name.formed s
formed_statement b e d {all = all} (Files.rpc z {ys = ys} {r = r} q f hz a) h s =
    let (c, p, u) = along_split b ys (z ∷ []) e (along_same b e all (ys ++ z ∷ []) a h) in
    formed_rpc d r d.block q (rpc_formed b c r (rpc_along b c f p)) (λ i filled t. a_service_no_oneof i filled (sym q ∙ t)) s
formed_statement b e d {all = all} (Files.rpc_with_options z {ys = ys} {r = r} q f hz a) h s =
    let (c, p, u) = along_split b ys (z ∷ []) e (along_same b e all (ys ++ z ∷ []) a h) in
    formed_rpc d r an_rpc q (rpc_formed b c r (rpc_along b c f p)) (λ i filled t. let p : an_rpc ≡ a_oneof i filled = t in cc) s
formed_statement b e d (Files.close x hx a c) h s = formed_close d c s

-- ---- texts

nothing_formed : SoFar initial_draft
nothing_formed = record {
  package_name = tt;
  messages = λ k m e. absurd (nothing_at k m e);
  enums = λ k x e. absurd (nothing_at k x e);
  services = λ k x e. absurd (nothing_at k x e);
  unclosed = λ j k e. absurd (nothing_at j k e);
  oneof = λ i filled k m e. absurd (no_oneof i filled refl e);
}

pub formed_so_far : (b e : ℕ) {xs : List Lexeme} {d : Draft} → AreStatementsOf xs d → Along b xs e → SoFar d
formed_so_far b e (Files.start x) h = nothing_formed
formed_so_far b e {xs = all} (Files.another {xs = xs} {ys = ys} {c = d} x y a) h =
    let (c, p, q) = along_split b xs ys e (along_same b e all (xs ++ ys) a h) in
    formed_statement c e d y q (formed_so_far b c x p)

whole_message : (m : MessageDecl) (k : ℕ) (P : ℕ → Type 0) → ((o : ℕ) → P o → ⊥) → MessageSoFar P k m → IsFormedMessage m
whole_message m k P never g = record {
  name = g.name;
  fields = all_by_place (IsFormedField (length m.oneofs)) m.fields g.fields;
  oneofs = all_by_place HasName m.oneofs g.oneofs;
  filled = λ o l. by o (g.filled o l);
}
  where
    by : (o : ℕ) → IsFilled m o ⊎ P o → (f : FieldDecl) × Contains m.fields f × (f.oneof ≡ Some o)
    by o (inl (has_field j f e q)) = (f, contained m.fields j f e, q)
    by o (inr p) = absurd (never o p)

whole_enum : (e : EnumDecl) (n : ℕ) (P : Type 0) → (P → ⊥) → EnumSoFar P n e → IsFormedEnum e
whole_enum e n P never g = record {
  name = g.name;
  values = all_by_place (λ v. HasName v.name) e.values g.values;
  filled = elim g.filled [ inl l ↦ l | inr p ↦ absurd (never p) ];
}

whole_file : (d : Draft) → d.block ≡ no_block → SoFar d → IsFormed d.file
whole_file d b s =
    let oneofs : IsOneofShut d.block = subst IsOneofShut (sym b) tt in
    let enums : IsEnumShut d.block = subst IsEnumShut (sym b) tt in
    record {
      package_name = s.package_name;
      messages = all_by_place IsFormedMessage d.file.messages (λ k m e. whole_message m k _ (λ o p. no_open_oneof oneofs p) (s.messages k m e));
      enums = all_by_place IsFormedEnum d.file.enums (λ k x e. whole_enum x (length d.file.messages) _ (λ p. no_open_enum enums p) (s.enums k x e));
      services = all_by_place IsFormedService d.file.services (λ k x e. let g = s.services k x e in record { name = g.name; rpcs = all_by_place IsFormedRpc x.rpcs g.rpcs });
      parents = λ k m e. (s.messages k m e).parent;
      enum_parents = all_by_place (λ x. IsIndexBelow (length d.file.messages) x.parent) d.file.enums (λ k x e. (s.enums k x e).parent);
    }

formed_text : (b e : ℕ) {xs : List Lexeme} {F : File} → AreFileTokens xs F → Along b xs e → IsFormed F
formed_text b e {xs = all} (Files.whole x {xs = xs} {d = d} s w m a) h =
    let (c, p, q) = along_split b xs (x ∷ []) e (along_same b e all (xs ++ x ∷ []) a h) in
    whole_file d w.0 (formed_so_far b c s p)

pub well_formed : (text : List ℕ) (F : File) → IsProtoTextOf text F → IsFormed F
well_formed text F h = formed_text 0 (suc (length text)) h.reads (tokens_along text 0 h.of_text)
