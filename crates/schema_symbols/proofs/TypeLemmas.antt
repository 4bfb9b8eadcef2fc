-- How types are kept.
use Rattle.std.proofs.Common.{◌≡◌, ℕ, ◌+◌, ◌<◌, ◌≤◌, ◌⊎◌, ⊎_elim, inl, inr, true, false, cond, List, [], ◌∷◌, ◌++◌}
use Rattle.std.proofs.Common.{length, Option, Some, None, refl, ap, sym, ◌∙◌, subst, arith}
use Rattle.std.specs.Prelude.{Contains}
use Rattle.std.specs.Global.{Vec}
use Rattle.std.specs.Option.{unwrap_or}
use Rattle.std.proofs.lemmas.Bool.{cases_lt}
use Rattle.std.proofs.lemmas.Option.{same_Some, slice_get_within}
use Rattle.proto_ast.specs.Joined.{Joined, enclosing_of, enclosing_of_enum}
use Rattle.proto_ast.specs.declared.file.Span.{Span}
use Rattle.proto_ast.specs.declared.file.MessageDecl.{MessageDecl}
use Rattle.proto_ast.specs.declared.file.EnumDecl.{EnumDecl}
use Rattle.schema_symbols.specs.Scopes.{IsScope}
use Rattle.schema_symbols.specs.Numbers.{IsScopeNumber, IsSymbolAt, message, enum, IsOfFile, message_of, enum_of}
use Rattle.schema_symbols.specs.Children.{same_child}
use Rattle.schema_symbols.specs.Types.{declared_items, IsFirstKept, HasAddedType, KnowsTypes, IsAmong}
use Rattle.schema_symbols.specs.declared.symbol.Symbol.{Symbol}
use Rattle.schema_symbols.specs.declared.symbol.Symbol.TheVariants.{Message, Enum}
use Rattle.schema_symbols.specs.declared.symbol.DeclaredType.{DeclaredType}
use Rattle.schema_symbols.proofs.Keys.{same_child_parts, same_child_itself, cases, at_true, at_false}
use Rattle.schema_symbols.proofs.ScopeLemmas.{last_same, scope_one, number_same}

pub stands_one : {F : Joined} {named : Symbol} {f g : List (List ℕ)} {a b : Span} → IsSymbolAt F named f a → IsSymbolAt F named g b → (f ≡ g) × (a ≡ b)
stands_one {F} (message i m {outer} here up) (message j n {outer = o} there up2) =
    let same : m ≡ n = same_Some m n (sym here ∙ there) in
    let up3 : IsScope F (enclosing_of m) o = subst (λ (d : MessageDecl). IsScope F (enclosing_of d) o) (sym same) up2 in
    let e : outer ≡ o = scope_one up up3 in
    let front : outer ++ m.name.name ∷ [] ≡ o ++ n.name.name ∷ [] = cc in
    (front, ap (λ (d : MessageDecl). d.name.span) same)
stands_one {F} (enum i m {outer} here up) (enum j n {outer = o} there up2) =
    let same : m ≡ n = same_Some m n (sym here ∙ there) in
    let up3 : IsScope F (enclosing_of_enum m) o = subst (λ (d : EnumDecl). IsScope F (enclosing_of_enum d) o) (sym same) up2 in
    let e : outer ≡ o = scope_one up up3 in
    let front : outer ++ m.name.name ∷ [] ≡ o ++ n.name.name ∷ [] = cc in
    (front, ap (λ (d : EnumDecl). d.name.span) same)

pub of_one : {F : Joined} {named : Symbol} {f g : ℕ} → IsOfFile F named f → IsOfFile F named g → f ≡ g
of_one (message_of i m at) (message_of j n there) = ap (λ (d : MessageDecl). d.file) (same_Some m n (sym at ∙ there))
of_one (enum_of i m at) (enum_of j n there) = ap (λ (d : EnumDecl). d.file) (same_Some m n (sym at ∙ there))

module _ (F : Joined) (a e a' e' : ℕ) (at at' : ℕ → List ℕ → List DeclaredType) (named : Symbol) (s : List (List ℕ))
    (name : List ℕ) (span : Span) (k : ℕ) (d : DeclaredType) (known : KnowsTypes F a e at)
    (stands : IsSymbolAt F named (s ++ name ∷ []) span) (its_file : IsOfFile F named d.file) (number : IsScopeNumber F s k)
    (start : d.start ≡ span.start) (is : d.named ≡ named) (adds : HasAddedType at at' k name d)
    (more : (other : Symbol) → IsAmong a' e' other → IsAmong a e other ⊎ (other ≡ named)) where
  abbrev Sound : ℕ → List ℕ → DeclaredType → Type 0
  Sound l o x =
      (t : List (List ℕ)) × (u : Span) × IsScopeNumber F t l × IsSymbolAt F x.named (t ++ o ∷ []) u × (x.start ≡ u.start) × IsOfFile F x.named x.file

  sound_new : Sound k name d
  sound_new = (s, span, number, subst (λ (x : Symbol). IsSymbolAt F x (s ++ name ∷ []) span) (sym is) stands, start, subst (λ (x : Symbol). IsOfFile F x d.file) (sym is) its_file)

  type_sound : (l : ℕ) (o : List ℕ) (x : DeclaredType) → Contains (at' l o) x → (same_child k name l o ≡ true) ⊎ (same_child k name l o ≡ false) → Sound l o x
  type_sound l o x among (inl t) =
      let ps = same_child_parts k name l o t in
      let own : Contains (at' k name) x = subst (λ (q : ℕ). Contains (at' q name) x) (sym ps.0) (subst (λ (q : List ℕ). Contains (at' l q) x) (sym ps.1) among) in
      let here : Sound k name x =
      ⊎_elim (λ (old : Contains (at k name) x). known.sound k name x old) (λ (new : x ≡ d). subst (Sound k name) (sym new) sound_new) (adds.its_own.among x own) in
      let there : Sound l name x = subst (λ (y : ℕ). Sound y name x) ps.0 here in
      subst (λ (y : List ℕ). Sound l y x) ps.1 there
  type_sound l o x among (inr f) = known.sound l o x (subst (λ (q : List DeclaredType). Contains q x) (adds.others l o f) among)

  abbrev Whole : ℕ → List ℕ → Span → ℕ → Type 0
  Whole l o u file = (x : DeclaredType) × Contains (at' l o) x × (x.file ≡ file) × (x.start ≤ u.start)

  whole_at : (l : ℕ) (o : List ℕ) (u : Span) (file : ℕ) → same_child k name l o ≡ true → Whole k name u file → Whole l o u file
  whole_at l o u file t w =
      let ps = same_child_parts k name l o t in
      let there : Whole l name u file = subst (λ (y : ℕ). Whole y name u file) ps.0 w in
      subst (λ (y : List ℕ). Whole l y u file) ps.1 there

  -- the new one is found at its key
  new_key : (other : Symbol) (t : List (List ℕ)) (o : List ℕ) (u : Span) (l : ℕ) → other ≡ named
      → IsSymbolAt F other (t ++ o ∷ []) u → IsScopeNumber F t l → (k ≡ l) × (name ≡ o) × (span ≡ u)
  new_key other t o u l same there n =
      let there2 : IsSymbolAt F named (t ++ o ∷ []) u = subst (λ (x : Symbol). IsSymbolAt F x (t ++ o ∷ []) u) same there in
      let one = stands_one stands there2 in
      let ps = last_same s t name o one.0 in
      (number_same number (subst (λ (x : List (List ℕ)). IsScopeNumber F x l) (sym ps.0) n), ps.1, one.1)

  type_whole : (other : Symbol) (t : List (List ℕ)) (o : List ℕ) (u : Span) (l file : ℕ)
      → (IsAmong a e other) ⊎ (other ≡ named) → IsSymbolAt F other (t ++ o ∷ []) u → IsOfFile F other file
      → IsScopeNumber F t l → (same_child k name l o ≡ true) ⊎ (same_child k name l o ≡ false) → Whole l o u file
  type_whole other t o u l file (inl old) there of n (inr f) =
      let w = known.whole other t o u l file old there of n in
      (w.0, subst (λ (q : List DeclaredType). Contains q w.0) (sym (adds.others l o f)) w.1, w.2, w.3)
  type_whole other t o u l file (inl old) there of n (inl y) =
      let ps = same_child_parts k name l o y in
      let w = known.whole other t o u l file old there of n in
      let own : Contains (at k name) w.0 = subst (λ (q : ℕ). Contains (at q name) w.0) (sym ps.0) (subst (λ (q : List ℕ). Contains (at l q) w.0) (sym ps.1) w.1) in
      let v = adds.its_own.kept w.0 own in
      whole_at l o u file y (v.0, v.1, v.2 ∙ w.2, omega (arith, v.3, w.3))
  type_whole other t o u l file (inr same) there of n (inl y) =
      let key = new_key other t o u l same there n in
      let v = adds.its_own.newest in
      let one : d.file ≡ file = of_one its_file (subst (λ (x : Symbol). IsOfFile F x file) same of) in
      let starts : span.start ≡ u.start = ap (λ (x : Span). x.start) key.2 in
      whole_at l o u file y (v.0, v.1, v.2 ∙ one, omega (arith, v.3, start, starts))
  type_whole other t o u l file (inr same) there of n (inr f) =
      let key = new_key other t o u l same there n in
      let y : same_child k name l o ≡ true =
      subst (λ (x : ℕ). same_child k name x o ≡ true) key.0
      (subst (λ (x : List ℕ). same_child k name k x ≡ true) key.1 (same_child_itself k name)) in
      absurd (let z : true ≡ false = sym y ∙ f in cc)

  pub more_types : KnowsTypes F a' e' at'
  more_types = record {
    sound = λ l o x among. type_sound l o x among (cases (same_child k name l o));
    whole = λ other t o u l file among there of n. type_whole other t o u l file (more other among) there of n (cases (same_child k name l o));
  }

no_named : (named : Symbol) → IsAmong 0 0 named → ⊥
no_named (Message i) l = omega arith
no_named (Enum i) l = omega arith

pub no_types : {F : Joined} (at : ℕ → List ℕ → List DeclaredType) → ((k : ℕ) (o : List ℕ) → at k o ≡ []) → KnowsTypes F 0 0 at
no_types at none = record {
  sound = λ k o d among. absurd (omega (arith, among.1, ap length (none k o)));
  whole = λ named s o u k file among stands of n. absurd (no_named named among);
}

pub one_message : (i : ℕ) (other : Symbol) → IsAmong (i + 1) 0 other → IsAmong i 0 other ⊎ (other ≡ Message i)
one_message i (Message j) l = ⊎_elim (λ (x : j < i). inl x) (λ (x : i ≤ j). let e : j ≡ i = omega arith in inr (ap Message e)) (cases_lt j i)
one_message i (Enum j) l = absurd (omega arith)

pub one_enum : (a i : ℕ) (other : Symbol) → IsAmong a (i + 1) other → IsAmong a i other ⊎ (other ≡ Enum i)
one_enum a i (Message j) l = inl l
one_enum a i (Enum j) l = ⊎_elim (λ (x : j < i). inl x) (λ (x : i ≤ j). let e : j ≡ i = omega arith in inr (ap Enum e)) (cases_lt j i)

pub among : {F : Joined} {named : Symbol} {full : List (List ℕ)} {span : Span} → IsSymbolAt F named full span → IsAmong (length F.messages) (length F.enums) named
among {F} (message i m at up) = slice_get_within F.messages i m at
among {F} (enum i e at up) = slice_get_within F.enums i e at

-- ---- adding

pub items_or : (o : Option (Vec DeclaredType)) (v : Vec DeclaredType) → v.items ≡ [] → declared_items o ≡ (unwrap_or o v).items
items_or None v e = sym e
items_or (Some x) v e = refl

pub adds_first : (old mid new : ℕ → List ℕ → Option (Vec DeclaredType)) (all : Vec DeclaredType) (k : ℕ) (name : List ℕ)
    (d : DeclaredType) → IsFirstKept (declared_items (old k name)) all.items d
    → ((l : ℕ) (o : List ℕ) → mid l o ≡ cond (same_child k name l o) None (old l o))
    → ((l : ℕ) (o : List ℕ) → new l o ≡ cond (same_child k name l o) (Some all) (mid l o))
    → HasAddedType (λ l o. declared_items (old l o)) (λ l o. declared_items (new l o)) k name d
adds_first old mid new all k name d keeps removed inserted = record {
  its_own =
      let e : new k name ≡ Some all = at_true (same_child k name k name) (Some all) (mid k name) (new k name) (same_child_itself k name) (inserted k name) in
      subst (λ (q : List DeclaredType). IsFirstKept (declared_items (old k name)) q d) (ap declared_items (sym e)) keeps;
  others = λ l o apart.
      let a : mid l o ≡ old l o = at_false (same_child k name l o) None (old l o) (mid l o) apart (removed l o) in
      let b : new l o ≡ mid l o = at_false (same_child k name l o) (Some all) (mid l o) (new l o) apart (inserted l o) in
      ap declared_items (b ∙ a);
}
