-- The lengths of full names.
use Rattle.std.proofs.Common.{◌≡◌, ℕ, ◌+◌, ◌<◌, ◌≤◌, inl, inr, List, [], ◌∷◌, ◌++◌, length, get_or, refl, sym, ap, ◌∙◌, arith, length-append}
use Rattle.std.specs.Prelude.{◌==◌, map, Option, Some, None, slice_get, Contains}
use Rattle.std.proofs.lemmas.Bool.{cases_lt}
use Rattle.std.proofs.Math.ListN.{get_or-append}
use Rattle.std.proofs.Math.Seq.{get_or-append_seam}
use Rattle.std.proofs.lemmas.List.Splits.{join_with_byte-slice_split, length-slice_split}
use Rattle.std.proofs.lemmas.List.{length-map}
use Rattle.std.proofs.lemmas.Option.{same_Some, slice_get_within, slice_get-get_or, get_or_from_slice_get}
use Rattle.mrpc_table.specs.Names.{parts_of}
use Rattle.proto_ast.specs.Together.{IsFormed}
use Rattle.proto_ast.specs.declared.file.Span.{Span}
use Rattle.proto_ast.specs.declared.file.Word.{Word}
use Rattle.proto_ast.specs.declared.file.MessageDecl.{MessageDecl}
use Rattle.proto_ast.specs.declared.file.EnumDecl.{EnumDecl}
use Rattle.proto_ast.specs.declared.joined.Head.{Head}
use Rattle.proto_ast.specs.declared.joined.Enclosing.{Enclosing}
use Rattle.proto_ast.specs.declared.joined.Enclosing.TheVariants as home
use Rattle.proto_ast.specs.Joined.{Joined, enclosing_in, enclosing_of, enclosing_of_enum, package_parts, package_in, package_at}
use Rattle.schema_symbols.specs.Scopes
use Rattle.schema_symbols.specs.Scopes.{IsScope, text_of}
use Rattle.schema_symbols.specs.Numbers
use Rattle.schema_symbols.specs.Numbers.{IsSymbolAt}
use Rattle.schema_symbols.specs.declared.symbol.Symbol.TheVariants.{Message, Enum}
use Rattle.mrpc_table.specs.Capped.{capped}
use Rattle.schema_validation.specs.Lengths.{prefix_length, HasLengths, full_length, IsKeptHome}
use Rattle.schema_validation.specs.declared.lines.Lengths.{Lengths}
use Rattle.schema_validation.proofs.Formed.{stand_behind, message_file, enum_file}
use Rattle.schema_validation.proofs.EntryLists.{mapped_get}

-- ---- numbers

-- capping a length before an addition doesn't change the capped sum
pub cut_sum : (a b c : ℕ) → a ≡ capped b → capped (a + c) ≡ capped (b + c)
cut_sum a b c e = omega arith

-- ---- texts

pub text_length : (xs : List (List ℕ)) (x : List ℕ) → length (text_of (xs ++ x ∷ [])) ≡ prefix_length xs + length x
text_length [] x = omega arith
text_length (y ∷ []) x = omega (arith, length-append y (46 ∷ x))
text_length (y ∷ z ∷ zs) x =
    omega (
      arith,
      text_length (z ∷ zs) x,
      length-append y (46 ∷ text_of (z ∷ (zs ++ x ∷ []))),
      length-append y (46 ∷ text_of (z ∷ zs)),
    )

pub last_front : (xs : List (List ℕ)) (x : List ℕ) → prefix_length (xs ++ x ∷ []) ≡ length (text_of (xs ++ x ∷ [])) + 1
last_front [] x = refl
last_front (y ∷ ys) x = refl

some_front : (xs : List (List ℕ)) → 0 < length xs → prefix_length xs ≡ length (text_of xs) + 1
some_front [] l = absurd (omega arith)
some_front (x ∷ xs) l = refl

pub package_length : (w : Word) → prefix_length (parts_of w.name) ≡ length w.name + 1
package_length w =
    let some : 0 < length (parts_of w.name) = omega (arith, length-slice_split (λ c. c == 46) w.name) in
    some_front (parts_of w.name) some ∙ ap (λ (xs : List ℕ). length xs + 1) (join_with_byte-slice_split 46 w.name)

-- ---- full names

pub contains_at : {X : Type 0} (xs : List X) (i : ℕ) (x : X) → slice_get xs i ≡ Some x → Contains xs x
contains_at xs i x at = (i, slice_get_within xs i x at, get_or_from_slice_get xs i x x at)

-- the stored length of a package and its dot
front_at : (F : Joined) (kept : Lengths) (k : ℕ)
    → kept.fronts.items ≡ map (λ h. capped (prefix_length (package_parts h.package))) F.heads
    → k < length kept.fronts.items
    → get_or kept.fronts.items k 0 ≡ capped (prefix_length (package_at F k))
front_at F kept k fronts l =
    let none : Head = record { «package» = None; sees = [] } in
    let f : Head → ℕ = λ h. capped (prefix_length (package_parts h.package)) in
    let h = get_or F.heads k none in
    let here : k < length F.heads = omega (arith, ap length fronts, length-map F.heads f) in
    let at : slice_get F.heads k ≡ Some h = slice_get-get_or F.heads k none here in
    ap (λ (xs : List ℕ). get_or xs k 0) fronts
    ∙ get_or_from_slice_get (map f F.heads) k (f h) 0 (mapped_get f F.heads k h at)
    ∙ ap (λ (o : Option Head). capped (prefix_length (package_in o))) (sym at)

pub full_is : (F : Joined) (messages enums : ℕ) (kept : Lengths) (place : Enclosing) (w : Word) {outer : List (List ℕ)}
    → HasLengths F messages enums kept → IsKeptHome kept place → IsScope F place outer
    → full_length kept place w ≡ capped (length (text_of (outer ++ w.name ∷ [])))
full_is F messages enums kept (home.File file) w k here (Scopes.of_file f) =
    cut_sum (get_or kept.fronts.items file 0) (prefix_length (package_at F file)) (length w.name)
    (front_at F kept file k.fronts here)
    ∙ ap capped (sym (text_length (package_at F file) w.name))
full_is F messages enums kept (home.Message i) w k here (Scopes.of_message place m {outer = outer} at up) =
    let full = outer ++ m.name.name ∷ [] in
    let below : i < messages = omega (arith, k.all_messages) in
    let known : get_or kept.messages.items i 0 ≡ capped (length (text_of full)) =
    k.of_message i full m.name.span below (Numbers.message i m at up) in
    let front : prefix_length full ≡ length (text_of full) + 1 = last_front outer m.name.name in
    let whole : length (text_of (full ++ w.name ∷ [])) ≡ prefix_length full + length w.name = text_length full w.name in
    let sum : capped (get_or kept.messages.items i 0 + (1 + length w.name))
    ≡ capped (length (text_of full) + (1 + length w.name)) =
    cut_sum (get_or kept.messages.items i 0) (length (text_of full)) (1 + length w.name) known in
    omega arith

-- ---- indices

module _ (F : Joined) (messages enums : ℕ) (kept : Lengths) (k : HasLengths F messages enums kept) where
  pub file_kept : (file : ℕ) → file < length F.heads → IsKeptHome kept (home.File file)
  file_kept file l =
      let f : Head → ℕ = λ h. capped (prefix_length (package_parts h.package)) in
      let same : length kept.fronts.items ≡ length F.heads = ap length k.fronts ∙ length-map F.heads f in
      omega arith

  kept_in : (file : ℕ) (parent : Option ℕ) → file < length F.heads
      → ((p : ℕ) → parent ≡ Some p → p < messages) → IsKeptHome kept (enclosing_in file parent)
  kept_in file None l h = file_kept file l
  kept_in file (Some p) l h =
      let same : length kept.messages.items ≡ messages = k.all_messages in
      let m : p < messages = h p refl in
      omega arith

  pub message_home_kept : IsFormed F → (i : ℕ) (m : MessageDecl) → slice_get F.messages i ≡ Some m → i ≤ messages
      → IsKeptHome kept (enclosing_of m)
  message_home_kept formed i m at l =
      kept_in m.file m.parent (message_file F formed i m at) (λ p e.
      let b : p < i = (stand_behind F formed).messages i p m at e in
      omega arith)

  pub enum_home_kept : IsFormed F → (i : ℕ) (x : EnumDecl) → slice_get F.enums i ≡ Some x
      → length F.messages ≡ messages → IsKeptHome kept (enclosing_of_enum x)
  enum_home_kept formed i x at all =
      kept_in x.file x.parent (enum_file F formed i x at) (λ p e.
      let b : p < length F.messages = (stand_behind F formed).enums x p (contains_at F.enums i x at) e in
      omega arith)

-- ---- stored lengths

at_end : (xs : List ℕ) (x j : ℕ) → j ≡ length xs → get_or (xs ++ x ∷ []) j 0 ≡ x
at_end xs x j e = ap (λ (i : ℕ). get_or (xs ++ x ∷ []) i 0) e ∙ get_or-append_seam xs x [] 0

module _ (F : Joined) (old new : Lengths) where
  message_added : (i : ℕ) (m : MessageDecl) → IsFormed F → HasLengths F i 0 old → slice_get F.messages i ≡ Some m
      → new.messages.items ≡ old.messages.items ++ full_length old (enclosing_of m) m.name ∷ []
      → (j : ℕ) (full : List (List ℕ)) (s : Span) → j ≡ i → IsSymbolAt F (Message j) full s
      → get_or new.messages.items j 0 ≡ capped (length (text_of full))
  message_added i m formed k at ms j full s e (Numbers.message j2 n {outer = outer} found up) =
      let here : slice_get F.messages i ≡ Some n = ap (λ (x : ℕ). slice_get F.messages x) (sym e) ∙ found in
      let same : m ≡ n = same_Some m n (sym at ∙ here) in
      let many : length old.messages.items ≡ i = k.all_messages in
      ap (λ (xs : List ℕ). get_or xs j 0) ms
      ∙ at_end old.messages.items (full_length old (enclosing_of m) m.name) j (omega arith)
      ∙ ap (λ (x : MessageDecl). full_length old (enclosing_of x) x.name) same
      ∙ full_is F i 0 old (enclosing_of n) n.name k (message_home_kept F i 0 old k formed i n here (omega arith)) up

  pub keeps_message : (i : ℕ) (m : MessageDecl) → IsFormed F → HasLengths F i 0 old
      → slice_get F.messages i ≡ Some m → new.fronts.items ≡ old.fronts.items
      → new.messages.items ≡ old.messages.items ++ full_length old (enclosing_of m) m.name ∷ []
      → new.enums.items ≡ old.enums.items → HasLengths F (i + 1) 0 new
  keeps_message i m formed k at fronts ms es =
      let many : length old.messages.items ≡ i = k.all_messages in
      record {
        fronts = fronts ∙ k.fronts;
        all_messages = omega (
          arith,
          ap length ms,
          length-append old.messages.items (full_length old (enclosing_of m) m.name ∷ []),
        );
        all_enums = ap length es ∙ k.all_enums;
        of_message = λ j full s l st. elim (cases_lt j i) [
          | inl h ↦ ap (λ (xs : List ℕ). get_or xs j 0) ms
              ∙ get_or-append old.messages.items (full_length old (enclosing_of m) m.name ∷ []) 0 j (omega arith)
              ∙ k.of_message j full s h st
          | inr h ↦ message_added i m formed k at ms j full s (omega arith) st
        ];
        of_enum = λ j full s l st. absurd (omega arith);
      }

  enum_added : (i : ℕ) (x : EnumDecl) → IsFormed F → HasLengths F (length F.messages) i old
      → slice_get F.enums i ≡ Some x
      → new.enums.items ≡ old.enums.items ++ full_length old (enclosing_of_enum x) x.name ∷ []
      → (j : ℕ) (full : List (List ℕ)) (s : Span) → j ≡ i → IsSymbolAt F (Enum j) full s
      → get_or new.enums.items j 0 ≡ capped (length (text_of full))
  enum_added i x formed k at es j full s e (Numbers.enum j2 y {outer = outer} found up) =
      let here : slice_get F.enums i ≡ Some y = ap (λ (z : ℕ). slice_get F.enums z) (sym e) ∙ found in
      let same : x ≡ y = same_Some x y (sym at ∙ here) in
      let many : length old.enums.items ≡ i = k.all_enums in
      ap (λ (xs : List ℕ). get_or xs j 0) es
      ∙ at_end old.enums.items (full_length old (enclosing_of_enum x) x.name) j (omega arith)
      ∙ ap (λ (z : EnumDecl). full_length old (enclosing_of_enum z) z.name) same
      ∙ full_is F (length F.messages) i old (enclosing_of_enum y) y.name k
      (enum_home_kept F (length F.messages) i old k formed i y here refl) up

  pub keeps_enum : (i : ℕ) (x : EnumDecl) → IsFormed F → HasLengths F (length F.messages) i old
      → slice_get F.enums i ≡ Some x → new.fronts.items ≡ old.fronts.items
      → new.messages.items ≡ old.messages.items
      → new.enums.items ≡ old.enums.items ++ full_length old (enclosing_of_enum x) x.name ∷ []
      → HasLengths F (length F.messages) (i + 1) new
  keeps_enum i x formed k at fronts ms es =
      let many : length old.enums.items ≡ i = k.all_enums in
      record {
        fronts = fronts ∙ k.fronts;
        all_messages = ap length ms ∙ k.all_messages;
        all_enums =
            omega (arith, ap length es, length-append old.enums.items (full_length old (enclosing_of_enum x) x.name ∷ []));
        of_message = λ j full s l st. ap (λ (xs : List ℕ). get_or xs j 0) ms ∙ k.of_message j full s l st;
        of_enum = λ j full s l st. elim (cases_lt j i) [
          | inl h ↦ ap (λ (xs : List ℕ). get_or xs j 0) es
              ∙ get_or-append old.enums.items (full_length old (enclosing_of_enum x) x.name ∷ []) 0 j (omega arith)
              ∙ k.of_enum j full s h st
          | inr h ↦ enum_added i x formed k at es j full s (omega arith) st
        ];
      }
