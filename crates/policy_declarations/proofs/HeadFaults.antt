-- The reasons of a declaration's first line, by the tests of the code.
use Rattle.std.proofs.Common.{◌≡◌, ℕ, ◌≤◌, not, Bool, true, false, List, [], ◌∷◌, length, Contains, Some, refl, sym, ◌∙◌, subst, inl, inr, arith}
use Rattle.std.specs.Prelude.{nat_le, slice_get}
use Rattle.std.proofs.lemmas.Bool.{and_parts, and_from, leb-true, le-leb, false≢true}
use Rattle.std.proofs.lemmas.Option.{same_Some}
use Rattle.mrpc_table.specs.Lines.{words_of}
use Rattle.script_grammar.specs.Forms.{word_kinds_of}
use Rattle.script_grammar.specs.Lines.{HaveMeanings, HasReasonInWords, HasReason, miscounted, in_word}
use Rattle.script_grammar.specs.Reasons.{script_reason_rank, IsFirstReason}
use Rattle.script_grammar.specs.WordKinds.{Meaning, HasWordReason, name_at}
use Rattle.script_grammar.specs.declared.fault.ScriptReason.{ScriptReason}
use Rattle.script_grammar.specs.declared.fault.ScriptReason.TheVariants as reason
use Rattle.script_grammar.specs.declared.word_kind.WordKind.{WordKind}
use Rattle.script_grammar.specs.declared.word_kind.WordKind.TheVariants.{Key, Fixed, Either, Number, Unbounded, Value, Name}
use Rattle.policy_declarations.specs.Declarations.{Declared, tenant_names}
use Rattle.policy_declarations.specs.HeadTests as tests
use Rattle.policy_declarations.specs.DeclarationTexts.{head_form, is_tenant, names_before, HasHeadReason, in_words, too_many, is_name_taken, no_tenant, IsDeclarationHead}
use Rattle.policy_declarations.specs.declared.declaration_form.DeclarationForm.{DeclarationForm}
use Rattle.policy_declarations.specs.declared.declaration_form.DeclarationForm.TheVariants as of
use Rattle.policy_declarations.proofs.Naming as naming
use Rattle.policy_declarations.proofs.Shapes.{item_named, name_there}

-- ---- the order

abbrev IsEarly : ScriptReason → Type 0
IsEarly r = (2 ≤ script_reason_rank r) × (script_reason_rank r ≤ 8)

early : (r q : ScriptReason) → IsEarly q → r ≡ q → IsEarly r
early r q h e = subst IsEarly (sym e) h

word_early : (s : WordKind) (w : List ℕ) (r : ScriptReason) → HasWordReason s w r → IsEarly r
word_early (Key k) w r h = early r reason.Word (omega arith, omega arith) h.1
word_early (Fixed k) w r h = early r reason.Word (omega arith, omega arith) h.1
word_early (Either k l) w r h = early r reason.Word (omega arith, omega arith) h.2
word_early (Number least most) w r (inl h) = early r reason.Word (omega arith, omega arith) h.1
word_early (Number least most) w r (inr h) = early r reason.Number (omega arith, omega arith) h.3
word_early Unbounded w r h = early r reason.Word (omega arith, omega arith) h.1
word_early Value w r (inl h) = early r reason.Word (omega arith, omega arith) h.1
word_early Value w r (inr h) = early r reason.Number (omega arith, omega arith) h.3
word_early Name w r h = early r reason.Name (omega arith, omega arith) h.1

one_early : (sorts : List WordKind) (ws : List (List ℕ)) (r : ScriptReason) → HasReasonInWords sorts ws r → IsEarly r
one_early [] ws r h = absurd h
one_early (s ∷ sorts) [] r h = absurd h
one_early (s ∷ sorts) (w ∷ ws) r (inl h) = word_early s w r h
one_early (s ∷ sorts) (w ∷ ws) r (inr h) = one_early sorts ws r h

words_early : (sorts : List WordKind) (ws : List (List ℕ)) (r : ScriptReason) → HasReason sorts ws r → IsEarly r
words_early sorts ws r (miscounted count e) = early r reason.Word (omega arith, omega arith) e
words_early sorts ws r (in_word count h) = one_early sorts ws r h

at_least : (r q : ScriptReason) (n : ℕ) → r ≡ q → n ≤ script_reason_rank q → n ≤ script_reason_rank r
at_least r q n e h = subst (λ (x : ScriptReason). n ≤ script_reason_rank x) (sym e) h

-- ---- the tests

full_is : (d : Declared) (f : DeclarationForm) → tests.has_max_tenants d f ≡ true → (is_tenant f ≡ true) × (16 ≤ length d.tenants)
full_is d f e = let both = and_parts (is_tenant f) (nat_le 16 (length d.tenants)) e in (both.0, leb-true 16 (length d.tenants) both.1)

not_full : (d : Declared) (f : DeclarationForm) → tests.has_max_tenants d f ≡ false → is_tenant f ≡ true → 16 ≤ length d.tenants → ⊥
not_full d f e tenant many = false≢true (sym e ∙ and_from (is_tenant f) (nat_le 16 (length d.tenants)) tenant (le-leb 16 (length d.tenants) many))

known_is : (d : Declared) (f : DeclarationForm) (ms : List Meaning) → tests.is_name_taken d f ms ≡ true → Contains (names_before d f) (name_at ms 1)
known_is d of.Tenant ms e = naming.there (λ t. t.name) (name_at ms 1) d.tenants e
known_is d of.Access ms e = naming.there (λ p. p.name) (name_at ms 1) d.policies e
known_is d of.Rate ms e = naming.there (λ p. p.name) (name_at ms 1) d.policies e
known_is d of.Quota ms e = naming.there (λ p. p.name) (name_at ms 1) d.policies e
known_is d of.Count ms e = naming.there (λ p. p.name) (name_at ms 1) d.policies e
known_is d of.Redact ms e = naming.there (λ p. p.name) (name_at ms 1) d.policies e

is_known_if : (d : Declared) (f : DeclarationForm) (ms : List Meaning) → Contains (names_before d f) (name_at ms 1) → tests.is_name_taken d f ms ≡ true
is_known_if d of.Tenant ms h = naming.found (λ t. t.name) (name_at ms 1) d.tenants h
is_known_if d of.Access ms h = naming.found (λ p. p.name) (name_at ms 1) d.policies h
is_known_if d of.Rate ms h = naming.found (λ p. p.name) (name_at ms 1) d.policies h
is_known_if d of.Quota ms h = naming.found (λ p. p.name) (name_at ms 1) d.policies h
is_known_if d of.Count ms h = naming.found (λ p. p.name) (name_at ms 1) d.policies h
is_known_if d of.Redact ms h = naming.found (λ p. p.name) (name_at ms 1) d.policies h

not_of : (b : Bool) → not b ≡ true → b ≡ true → ⊥
not_of true e f = false≢true e
not_of false e f = false≢true f

not_not_of : (b : Bool) → not b ≡ false → b ≡ true
not_not_of true e = refl
not_not_of false e = sym e

record IsLacking (d : Declared) (f : DeclarationForm) (ms : List Meaning) : Type 0 where
  quota : f ≡ of.Quota
  none : Contains (tenant_names d) (name_at ms 3) → ⊥

lacking : (d : Declared) (f : DeclarationForm) (ms : List Meaning) → tests.lacks_tenant d f ms ≡ true → IsLacking d f ms
lacking d of.Quota ms e = record { quota = refl; none = λ h. not_of _ e (naming.found (λ t. t.name) (name_at ms 3) d.tenants h) }
lacking d of.Tenant ms e = absurd (false≢true e)
lacking d of.Access ms e = absurd (false≢true e)
lacking d of.Rate ms e = absurd (false≢true e)
lacking d of.Count ms e = absurd (false≢true e)
lacking d of.Redact ms e = absurd (false≢true e)

not_lacking : (d : Declared) (f : DeclarationForm) (ms : List Meaning) → tests.lacks_tenant d f ms ≡ false → f ≡ of.Quota → Contains (tenant_names d) (name_at ms 3)
not_lacking d f ms e quota =
    naming.there (λ t. t.name) (name_at ms 3) d.tenants (not_not_of _ (subst (λ (g : DeclarationForm). tests.lacks_tenant d g ms ≡ false) quota e))

-- the word at the tenant's index
pub third_name : (d : Declared) (f : DeclarationForm) (ws : List (List ℕ)) (ms : List Meaning)
    → HaveMeanings (word_kinds_of (head_form f)) ws ms → f ≡ of.Quota → slice_get ws 3 ≡ Some (name_at ms 3)
third_name d f ws ms h quota = (name_there (word_kinds_of (head_form of.Quota)) ws ms 3 (subst (λ (g : DeclarationForm). HaveMeanings (word_kinds_of (head_form g)) ws ms) quota h) refl).at

-- ---- the first reason

pub full_first : (d : Declared) (f : DeclarationForm) (ws : List (List ℕ)) → tests.has_max_tenants d f ≡ true → IsFirstReason (HasHeadReason d f ws) reason.Number
full_first d f ws e = record { stands = (let full = full_is d f e in too_many full.0 full.1 refl); first = λ r h. by r h }
  where
    by : (r : ScriptReason) → HasHeadReason d f ws r → script_reason_rank reason.Number ≤ script_reason_rank r
    by r (in_words h) = (words_early (word_kinds_of (head_form f)) ws r h).0
    by r (too_many tenant many is) = at_least r reason.Number 2 is (omega arith)
    by r (is_name_taken other at known is) = at_least r reason.Known 2 is (omega arith)
    by r (no_tenant other quota at none is) = at_least r reason.Unknown 2 is (omega arith)

pub words_first : (d : Declared) (f : DeclarationForm) (ws : List (List ℕ)) (r : ScriptReason) → tests.has_max_tenants d f ≡ false
    → IsFirstReason (HasReason (word_kinds_of (head_form f)) ws) r → IsFirstReason (HasHeadReason d f ws) r
words_first d f ws r e h = record { stands = in_words h.stands; first = λ q o. by q o }
  where
    low : script_reason_rank r ≤ 8
    low = (words_early (word_kinds_of (head_form f)) ws r h.stands).1

    by : (q : ScriptReason) → HasHeadReason d f ws q → script_reason_rank r ≤ script_reason_rank q
    by q (in_words o) = h.first q o
    by q (too_many tenant many is) = absurd (not_full d f e tenant many)
    by q (is_name_taken other at known is) = at_least q reason.Known (script_reason_rank r) is (omega (arith, low))
    by q (no_tenant other quota at none is) = at_least q reason.Unknown (script_reason_rank r) is (omega (arith, low))

module _ (fine : (sorts : List WordKind) (ws : List (List ℕ)) (ms : List Meaning) (r : ScriptReason) → HaveMeanings sorts ws ms → HasReason sorts ws r → ⊥) where
  pub known_first : (d : Declared) (f : DeclarationForm) (ws : List (List ℕ)) (ms : List Meaning) → tests.has_max_tenants d f ≡ false
      → HaveMeanings (word_kinds_of (head_form f)) ws ms → tests.is_name_taken d f ms ≡ true
      → IsFirstReason (HasHeadReason d f ws) reason.Known
  known_first d f ws ms e said known = record { stands = is_name_taken (name_at ms 1) (item_named f ws ms said).at (known_is d f ms known) refl; first = λ q o. by q o }
    where
      by : (q : ScriptReason) → HasHeadReason d f ws q → script_reason_rank reason.Known ≤ script_reason_rank q
      by q (in_words o) = absurd (fine (word_kinds_of (head_form f)) ws ms q said o)
      by q (too_many tenant many is) = absurd (not_full d f e tenant many)
      by q (is_name_taken other at there is) = at_least q reason.Known 9 is (omega arith)
      by q (no_tenant other quota at none is) = at_least q reason.Unknown 9 is (omega arith)

  isnt_known : (d : Declared) (f : DeclarationForm) (ws : List (List ℕ)) (ms : List Meaning) (other : List ℕ) → HaveMeanings (word_kinds_of (head_form f)) ws ms → tests.is_name_taken d f ms ≡ false
      → slice_get ws 1 ≡ Some other → Contains (names_before d f) other → ⊥
  isnt_known d f ws ms other said new at there =
      let same : other ≡ name_at ms 1 = same_Some other (name_at ms 1) (sym at ∙ (item_named f ws ms said).at) in
      false≢true (sym new ∙ is_known_if d f ms (subst (Contains (names_before d f)) same there))

  pub lacking_first : (d : Declared) (f : DeclarationForm) (ws : List (List ℕ)) (ms : List Meaning)
      → tests.has_max_tenants d f ≡ false → HaveMeanings (word_kinds_of (head_form f)) ws ms → tests.is_name_taken d f ms ≡ false
      → tests.lacks_tenant d f ms ≡ true → IsFirstReason (HasHeadReason d f ws) reason.Unknown
  lacking_first d f ws ms e said new lacks =
      record {
        stands = (let l = lacking d f ms lacks in
            no_tenant (name_at ms 3) l.quota (third_name d f ws ms said l.quota) l.none refl);
        first = λ q o. by q o;
      }
    where
      by : (q : ScriptReason) → HasHeadReason d f ws q → script_reason_rank reason.Unknown ≤ script_reason_rank q
      by q (in_words o) = absurd (fine (word_kinds_of (head_form f)) ws ms q said o)
      by q (too_many tenant many is) = absurd (not_full d f e tenant many)
      by q (is_name_taken other at there is) = absurd (isnt_known d f ws ms other said new at there)
      by q (no_tenant other quota at none is) = at_least q reason.Unknown 10 is (omega arith)

  pub heads_fine : (d : Declared) (f : DeclarationForm) (line : List ℕ) (ms : List Meaning) → tests.has_max_tenants d f ≡ false
      → HaveMeanings (word_kinds_of (head_form f)) (words_of line) ms → tests.is_name_taken d f ms ≡ false
      → tests.lacks_tenant d f ms ≡ false → IsDeclarationHead d f line ms
  heads_fine d f line ms e said new has = record { said = said; free = λ q o. by q o }
    where
      by : (q : ScriptReason) → HasHeadReason d f (words_of line) q → ⊥
      by q (in_words o) = fine (word_kinds_of (head_form f)) (words_of line) ms q said o
      by q (too_many tenant many is) = not_full d f e tenant many
      by q (is_name_taken other at there is) = isnt_known d f (words_of line) ms other said new at there
      by q (no_tenant other quota at none is) =
          let same : other ≡ name_at ms 3 = same_Some other (name_at ms 3) (sym at ∙ third_name d f (words_of line) ms said quota) in
          none (subst (Contains (tenant_names d)) (sym same) (not_lacking d f ms has quota))
