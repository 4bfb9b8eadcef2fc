-- The reasons of a line, and the first of them.
use Rattle.std.proofs.Common.{◌≡◌, ◌≢◌, ◌⊎◌, ℕ, ◌≤◌, true, false, List, Option, Some, None, Result, Ok, Err, refl, sym, ap, subst, ◌∙◌, arith, inl, inr}
use Rattle.std.proofs.lemmas.Bool.{false≢true}
use Rattle.std.proofs.lemmas.Option.{same_Some}
use Rattle.mrpc_table.specs.Lines.{words_of}
use Rattle.policy_declarations.specs.Blocks.{is_skipped}
use Rattle.policy_declarations.specs.Declarations.{policy_index}
use Rattle.policy_declarations.specs.DeclarationTexts.{declaration_form, declaration_form_in, HasHeadReason}
use Rattle.policy_declarations.specs.declared.declaration_form.DeclarationForm.{DeclarationForm}
use Rattle.script_grammar.specs.Forms.{word_kinds_of, form_in}
use Rattle.script_grammar.specs.Lines.{HaveMeanings}
use Rattle.script_grammar.specs.Lines as words
use Rattle.script_grammar.specs.Reasons.{script_reason_rank, IsFirstReason}
use Rattle.script_grammar.specs.WordKinds.{Meaning}
use Rattle.script_grammar.specs.declared.form.LineForm.{LineForm}
use Rattle.script_grammar.specs.declared.form.LineForm.TheVariants as form
use Rattle.script_grammar.specs.declared.fault.ScriptReason.{ScriptReason}
use Rattle.script_grammar.specs.declared.fault.ScriptReason.TheVariants as reason
use Rattle.replay_script.specs.Deciding.{reason_after, decided_by, decided, decide}
use Rattle.replay_script.specs.Lines.{HasReasonAfter}
use Rattle.replay_script.specs.WordLaws.{WordLaws}
use Rattle.replay_script.specs.LineReasons.{StateBefore, HasLineReason, no_form, in_head, in_words, not_declared, after_lines, after_close}
use Rattle.replay_script.specs.Words.{IsParsedAs, policy_in, line_in}
use Rattle.replay_script.specs.declared.script.ScriptLine.{ScriptLine}
use Rattle.replay_script.proofs.LineForms.{no_form_and_form, skipped_and_form, unskipped, same_form, item_of, item_is, item_and_other, line_of_item, policy_of_item, undeclared, no_line}
use Rattle.replay_script.proofs.LineVerdicts.{Verdict, line_verdict}

pub last_order : (r : ScriptReason) → script_reason_rank r ≤ 21
last_order reason.Header = omega arith
last_order reason.Syntax = omega arith
last_order reason.Number = omega arith
last_order reason.Duplicate = omega arith
last_order reason.UnknownType = omega arith
last_order reason.MapKey = omega arith
last_order reason.Limit = omega arith
last_order reason.Word = omega arith
last_order reason.Name = omega arith
last_order reason.Known = omega arith
last_order reason.Unknown = omega arith
last_order reason.Path = omega arith
last_order reason.Default = omega arith
last_order reason.Place = omega arith
last_order reason.NoSuch = omega arith
last_order reason.Taken = omega arith
last_order reason.At = omega arith
last_order reason.ChainFull = omega arith
last_order reason.OtherKind = omega arith
last_order reason.Work = omega arith
last_order reason.Close = omega arith
last_order reason.After = omega arith

same_order : (q r : ScriptReason) → q ≡ r → script_reason_rank r ≤ script_reason_rank q
same_order q r e = (let same = ap script_reason_rank e in omega (arith, same))

after_last : (q r : ScriptReason) → q ≡ reason.After → script_reason_rank r ≤ script_reason_rank q
after_last q r e = (let same = ap script_reason_rank e in let last = last_order r in omega (arith, same, last))

module _ (laws : WordLaws) (loads : ℕ) (b : StateBefore) where
  abbrev pub IsAfter : ScriptReason → Type 0
  IsAfter q = (b.closed ≡ true) × (q ≡ reason.After)

  -- ---- a line whose words have values

  pub data Core (f : LineForm) (m : List Meaning) (q : ScriptReason) : Type 0 where
    unknown : (name : List ℕ) → policy_in f m ≡ Some name → policy_index b.declared name ≡ None → q ≡ reason.Unknown → Core f m q
    behind : (l : ScriptLine) → line_in b.declared f m ≡ Some l → HasReasonAfter loads b.declared.policies b.lines l q → Core f m q

  same_said : (line : List ℕ) (f g : LineForm) (m n : List Meaning) → IsParsedAs f line m → IsParsedAs g line n → (g ≡ f) × (n ≡ m)
  same_said line f g m n said other =
      let same : g ≡ f = same_form (words_of line) g f other.has_form said.has_form in
      (same, laws.meanings_are_unique (word_kinds_of f) (words_of line) n m (subst (λ (x : LineForm). HaveMeanings (word_kinds_of x) (words_of line) n) same other.said) said.said)

  core_of : (line : List ℕ) (f : LineForm) (m : List Meaning) (q : ScriptReason) → IsParsedAs f line m → declaration_form f ≡ None → HasLineReason loads b line q → Core f m q ⊎ IsAfter q
  core_of line f m q said item (no_form unskipped none e) = absurd (no_form_and_form line f none said.has_form)
  core_of line f m q said item (in_head g is reason_after) = absurd (item_and_other (words_of line) f g said.has_form item is)
  core_of line f m q said item (in_words g has none reason_after) =
      let same : g ≡ f = same_form (words_of line) g f has said.has_form in
      absurd (laws.meanings_or_reason (word_kinds_of f) (words_of line) m q said.said (subst (λ (x : LineForm). words.HasReason (word_kinds_of x) (words_of line) q) same reason_after))
  core_of line f m q said item (not_declared g n name other named none e) =
      let same = same_said line f g m n said other in
      inl (unknown name (subst (λ (x : LineForm). policy_in x m ≡ Some name) same.0 (subst (λ (x : List Meaning). policy_in g x ≡ Some name) same.1 named)) none e)
  core_of line f m q said item (after_lines g n l other is reason_after) =
      let same = same_said line f g m n said other in
      inl (behind l (subst (λ (x : LineForm). line_in b.declared x m ≡ Some l) same.0 (subst (λ (x : List Meaning). line_in b.declared g x ≡ Some l) same.1 is)) reason_after)
  core_of line f m q said item (after_close closed unskipped e) = inr (closed, e)

  offends_by : (line : List ℕ) (f : LineForm) (m : List Meaning) (q : ScriptReason) → IsParsedAs f line m → Core f m q → HasLineReason loads b line q
  offends_by line f m q said (unknown name named none e) = not_declared f m name said named none e
  offends_by line f m q said (behind l is reason_after) = after_lines f m l said is reason_after

  abbrev pub SaidVerdict : LineForm → List Meaning → Result ScriptLine ScriptReason → Type 0
  SaidVerdict f m (Ok l) = (line_in b.declared f m ≡ Some l) × ((q : ScriptReason) → Core f m q → ⊥)
  SaidVerdict f m (Err r) = IsFirstReason (Core f m) r

  clash : (f : LineForm) (m : List Meaning) (l : ScriptLine) → line_in b.declared f m ≡ None → line_in b.declared f m ≡ Some l → ⊥
  clash f m l none some = (let bad : None ≡ Some l = sym none ∙ some in cc)

  undeclared_line : (f : LineForm) (m : List Meaning) (l : ScriptLine) (name : List ℕ) → line_in b.declared f m ≡ Some l
      → policy_in f m ≡ Some name → policy_index b.declared name ≡ None → ⊥
  undeclared_line f m l name is named none = clash f m l (undeclared b.declared f m name named none) is

  by_line : (f : LineForm) (m : List Meaning) (l : ScriptLine) (x : Option ScriptReason) → line_in b.declared f m ≡ Some l
      → Verdict loads b.declared.policies b.lines l x → SaidVerdict f m (decided_by l x)
  by_line f m l None is none = (
    is,
    λ q core. elim core [
      | unknown name named absent e ↦ undeclared_line f m l name is named absent
      | behind k other reason_after ↦ none q (subst (λ (j : ScriptLine). HasReasonAfter loads b.declared.policies b.lines j q) (same_Some k l (sym other ∙ is)) reason_after)
    ],
  )
  by_line f m l (Some r) is first = record {
    stands = behind l is first.stands;
    first = λ q core. elim core [
      | unknown name named absent e ↦ absurd (undeclared_line f m l name is named absent)
      | behind k other reason_after ↦ first.first q (subst (λ (j : ScriptLine). HasReasonAfter loads b.declared.policies b.lines j q) (same_Some k l (sym other ∙ is)) reason_after)
    ];
  }

  by_found : (f : LineForm) (m : List Meaning) (found : Option ScriptLine) → declaration_form f ≡ None → f ≢ form.Close
      → line_in b.declared f m ≡ found → SaidVerdict f m (decided loads b.declared.policies b.lines found)
  by_found f m None item still is =
      let none = no_line b.declared f m item still is in
      record {
        stands = unknown none.name none.named none.none refl;
        first = λ q core. elim core [
          | unknown name named absent e ↦ same_order q reason.Unknown e
          | behind l other reason_after ↦ absurd (clash f m l is other)
        ];
      }
  by_found f m (Some l) item still is = by_line f m l (reason_after loads b.declared.policies b.lines l) is (line_verdict loads b.declared.policies b.lines l)

  pub said_verdict : (f : LineForm) (m : List Meaning) → declaration_form f ≡ None → f ≢ form.Close → SaidVerdict f m (decide loads b.declared b.lines f m)
  said_verdict f m item still = by_found f m (line_in b.declared f m) item still refl

  -- it has no reason, except perhaps `close` before it
  pub open_free : (line : List ℕ) (f : LineForm) (m : List Meaning) → IsParsedAs f line m → declaration_form f ≡ None
      → ((q : ScriptReason) → Core f m q → ⊥) → b.closed ≡ false → (q : ScriptReason) → HasLineReason loads b line q → ⊥
  open_free line f m said item none still q offends = elim (core_of line f m q said item offends) [
    | inl core ↦ none q core
    | inr closed ↦ false≢true (sym still ∙ closed.0)
  ]

  pub closed_first : (line : List ℕ) (f : LineForm) (m : List Meaning) → IsParsedAs f line m → declaration_form f ≡ None
      → ((q : ScriptReason) → Core f m q → ⊥) → b.closed ≡ true → IsFirstReason (HasLineReason loads b line) reason.After
  closed_first line f m said item none closed = record {
    stands = after_close closed (unskipped line f said.has_form) refl;
    first = λ q offends. elim (core_of line f m q said item offends) [
      | inl core ↦ absurd (none q core)
      | inr is ↦ same_order q reason.After is.1
    ];
  }

  pub core_first : (line : List ℕ) (f : LineForm) (m : List Meaning) (r : ScriptReason) → IsParsedAs f line m
      → declaration_form f ≡ None → IsFirstReason (Core f m) r → IsFirstReason (HasLineReason loads b line) r
  core_first line f m r said item first = record {
    stands = offends_by line f m r said first.stands;
    first = λ q offends. elim (core_of line f m q said item offends) [
      | inl core ↦ first.first q core
      | inr is ↦ after_last q r is.1
    ];
  }

  pub close_core : (m : List Meaning) (q : ScriptReason) → Core form.Close m q → ⊥
  close_core m q (unknown name named none e) = (let bad : ◌≡◌ {A = Option (List ℕ)} None (Some name) = named in cc)
  close_core m q (behind l is reason_after) = (let bad : ◌≡◌ {A = Option ScriptLine} None (Some l) = is in cc)

  -- ---- a line whose words have no values

  pub words_first : (line : List ℕ) (f : LineForm) (r : ScriptReason) → form_in (words_of line) ≡ Some f
      → declaration_form f ≡ None → IsFirstReason (words.HasReason (word_kinds_of f) (words_of line)) r
      → IsFirstReason (HasLineReason loads b line) r
  words_first line f r has item first = record {
    stands = in_words f has item first.stands;
    first = λ q offends. elim offends [
      | no_form u none e ↦ absurd (no_form_and_form line f none has)
      | in_head g is reason_after ↦ absurd (item_and_other (words_of line) f g has item is)
      | in_words g other none reason_after ↦ first.first q (subst (λ (x : LineForm). words.HasReason (word_kinds_of x) (words_of line) q) (same_form (words_of line) g f other has) reason_after)
      | not_declared g n name said named none e ↦ absurd (unsaid g n said)
      | after_lines g n l said is reason_after ↦ absurd (unsaid g n said)
      | after_close closed u e ↦ after_last q r e
    ];
  } where
    unsaid : (g : LineForm) (n : List Meaning) → IsParsedAs g line n → ⊥
    unsaid g n said =
        let same : f ≡ g = same_form (words_of line) f g has said.has_form in
        laws.meanings_or_reason (word_kinds_of g) (words_of line) n r said.said (subst (λ (x : LineForm). words.HasReason (word_kinds_of x) (words_of line) r) same first.stands)

  pub formless_first : (line : List ℕ) → is_skipped line ≡ false → form_in (words_of line) ≡ None → IsFirstReason (HasLineReason loads b line) reason.Word
  formless_first line unskipped none = record {
    stands = no_form unskipped none refl;
    first = λ q offends. elim offends [
      | no_form u n e ↦ same_order q reason.Word e
      | in_head g is reason_after ↦ (let f = item_is (words_of line) g is in absurd (no_form_and_form line f.0 none f.1))
      | in_words g other n reason_after ↦ absurd (no_form_and_form line g none other)
      | not_declared g n name said named absent e ↦ absurd (no_form_and_form line g none said.has_form)
      | after_lines g n l said is reason_after ↦ absurd (no_form_and_form line g none said.has_form)
      | after_close closed u e ↦ after_last q reason.Word e
    ];
  }

  -- ---- a line that starts a declaration

  pub head_of : (line : List ℕ) (g : DeclarationForm) (q : ScriptReason) → declaration_form_in (words_of line) ≡ Some g
      → HasLineReason loads b line q → HasHeadReason b.declared g (words_of line) q ⊎ IsAfter q
  head_of line g q is (no_form u none e) = (let f = item_is (words_of line) g is in absurd (no_form_and_form line f.0 none f.1))
  head_of line g q is (in_head h other reason_after) = inl (subst (λ (x : DeclarationForm). HasHeadReason b.declared x (words_of line) q) (same_Some h g (sym other ∙ is)) reason_after)
  head_of line g q is (in_words f has none reason_after) = absurd (item_and_other (words_of line) f g has none is)
  head_of line g q is (not_declared f n name said named absent e) =
      let none = policy_of_item f n g (sym (item_of (words_of line) f said.has_form) ∙ is) in
      absurd (let bad : None ≡ Some name = sym none ∙ named in cc)
  head_of line g q is (after_lines f n l said some reason_after) =
      absurd (clash f n l (line_of_item b.declared f n g (sym (item_of (words_of line) f said.has_form) ∙ is)) some)
  head_of line g q is (after_close closed u e) = inr (closed, e)

  pub head_first : (line : List ℕ) (g : DeclarationForm) (r : ScriptReason) → declaration_form_in (words_of line) ≡ Some g
      → IsFirstReason (HasHeadReason b.declared g (words_of line)) r → IsFirstReason (HasLineReason loads b line) r
  head_first line g r is first = record {
    stands = in_head g is first.stands;
    first = λ q offends. elim (head_of line g q is offends) [
      | inl reason_after ↦ first.first q reason_after
      | inr after ↦ after_last q r after.1
    ];
  }

  pub head_closed : (line : List ℕ) (g : DeclarationForm) → declaration_form_in (words_of line) ≡ Some g
      → ((q : ScriptReason) → HasHeadReason b.declared g (words_of line) q → ⊥) → b.closed ≡ true
      → IsFirstReason (HasLineReason loads b line) reason.After
  head_closed line g is free closed =
      let f = item_is (words_of line) g is in
      record {
        stands = after_close closed (unskipped line f.0 f.1) refl;
        first = λ q offends. elim (head_of line g q is offends) [
          | inl reason_after ↦ absurd (free q reason_after)
          | inr after ↦ same_order q reason.After after.1
        ];
      }

  -- ---- a line that is skipped

  pub skipped_free : (line : List ℕ) → is_skipped line ≡ true → (q : ScriptReason) → HasLineReason loads b line q → ⊥
  skipped_free line skipped q (no_form u none e) = false≢true (sym u ∙ skipped)
  skipped_free line skipped q (in_head g is reason_after) = (let f = item_is (words_of line) g is in skipped_and_form line f.0 skipped f.1)
  skipped_free line skipped q (in_words f has none reason_after) = skipped_and_form line f skipped has
  skipped_free line skipped q (not_declared f n name said named absent e) = skipped_and_form line f skipped said.has_form
  skipped_free line skipped q (after_lines f n l said some reason_after) = skipped_and_form line f skipped said.has_form
  skipped_free line skipped q (after_close closed u e) = false≢true (sym u ∙ skipped)
