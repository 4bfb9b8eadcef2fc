-- Lines have exactly one declaration, or exactly one first fault.
use Rattle.std.proofs.Common.{◌≡◌, ◌⊎◌, ℕ, ◌+◌, ◌≤◌, Bool, true, false, List, length, not, Option, Some, None, refl}
use Rattle.std.proofs.Common.{sym, ap, ◌∙◌, subst, inl, inr, arith, [], ◌++◌}
use Rattle.std.specs.Prelude.{is_some, slice_get}
use Rattle.std.proofs.lemmas.Bool.{cases_Bool, cases_lt}
use Rattle.std.proofs.lemmas.Option.{same_Some}
use Rattle.mrpc_table.specs.Lines.{words_of, whole_lines, line_count}
use Rattle.mrpc_table.specs.declared.policy_lines.RuleReason.{RuleReason}
use Rattle.mrpc_table.specs.declared.table.Table.{Table}
use Rattle.policy_access.specs.Faults as access_faults
use Rattle.policy_access.specs.Texts as access_texts
use Rattle.policy_access.specs.Verdict.{AccessPolicy}
use Rattle.policy_redact.specs.Faults as redact_faults
use Rattle.policy_redact.specs.Texts as redact_texts
use Rattle.policy_redact.specs.declared.redact.Clear.{Clear}
use Rattle.engine_core.specs.declared.policy.Policy.{Policy as ThePolicy}
use Rattle.engine_core.specs.declared.policy.Policy.TheVariants as policy
use Rattle.script_grammar.specs.Forms.{word_kinds_of}
use Rattle.script_grammar.specs.Lines.{HaveMeanings, HasReason}
use Rattle.script_grammar.specs.Reasons.{script_reason_rank, of_rule, IsFirstReason}
use Rattle.script_grammar.specs.WordKinds.{Meaning, name_at, number_at}
use Rattle.script_grammar.specs.declared.fault.ScriptReason.{ScriptReason}
use Rattle.script_grammar.specs.declared.fault.ScriptReason.TheVariants as reason
use Rattle.script_grammar.specs.declared.word_kind.WordKind.{WordKind}
use Rattle.policy_declarations.specs.Blocks.{IsBlock, kept_lines, line_number, IsFaultOfBlock, in_block, in_open, no_end}
use Rattle.policy_declarations.specs.Declarations.{Declared, tenant_index}
use Rattle.policy_declarations.specs.HeadTests as tests
use Rattle.policy_declarations.specs.DeclarationTexts as items
use Rattle.policy_declarations.specs.DeclarationTexts.{head_form, policy_with_name, tenant_of_words, rate_of_words, IsQuotaOfWords, HasDeclarationByHead, IsDeclarationHead, HasHeadReason, HasDeclaration, IsFaultAfterHead, HasFirstFaultAt, in_head}
use Rattle.policy_declarations.specs.declared.declaration.Declaration.{Declaration}
use Rattle.policy_declarations.specs.declared.declaration.Tenant.{Tenant}
use Rattle.policy_declarations.specs.declared.declaration_form.DeclarationForm.{DeclarationForm}
use Rattle.policy_declarations.specs.declared.declaration_form.DeclarationForm.TheVariants as of
use Rattle.policy_declarations.proofs.HeadFaults.{full_first, words_first, known_first, lacking_first, heads_fine}
use Rattle.policy_declarations.proofs.InnerLines.{same_inner, same_rest, open_block, ends_or_not, block_end, line_at_small, inner_count, whole_count}
use Rattle.policy_declarations.proofs.Naming as naming

-- ---- blocks

module _ (First : List (List ℕ) → ℕ → RuleReason → Type 0) (one : (lines : List (List ℕ)) (m n : ℕ) (r q : RuleReason)
    → First lines m r → First lines n q → (m ≡ n) × (r ≡ q)) where
  pub one_break : (skips : Bool) (text : List ℕ) (m n : ℕ) (r q : ScriptReason) → IsFaultOfBlock First skips text m r → IsFaultOfBlock First skips text n q → (m ≡ n) × (r ≡ q)
  one_break skips text m n r q (in_block inner rest k why b first e f) (in_block other more j what c second g h) =
      let same = same_inner text inner other rest more b c in
      let both = one (kept_lines skips other) k j why what (subst (λ (ls : List (List ℕ)). First (kept_lines skips ls) k why) same first) second in
      (e ∙ ap (λ (ls : List (List ℕ)). line_number skips ls k) same ∙ ap (line_number skips other) both.0 ∙ sym g, f ∙ ap of_rule both.1 ∙ sym h)
  one_break skips text m n r q (in_block inner rest k why b first e f) (in_open j what unended second within g h) = absurd (open_block text inner rest unended b)
  one_break skips text m n r q (in_block inner rest k why b first e f) (no_end unended none g h) = absurd (open_block text inner rest unended b)
  one_break skips text m n r q (in_open k why unended first within e f) (in_block other more j what c second g h) = absurd (open_block text other more unended c)
  one_break skips text m n r q (in_open k why unended first within e f) (in_open j what shut second inside g h) =
      let both = one (kept_lines skips (whole_lines text)) k j why what first second in
      (e ∙ ap (line_number skips (whole_lines text)) both.0 ∙ sym g, f ∙ ap of_rule both.1 ∙ sym h)
  one_break skips text m n r q (in_open k why unended first within e f) (no_end shut none g h) = absurd (none k why first within)
  one_break skips text m n r q (no_end unended none e f) (in_block other more j what c second g h) = absurd (open_block text other more unended c)
  one_break skips text m n r q (no_end unended none e f) (in_open j what shut second inside g h) = absurd (none j what second inside)
  one_break skips text m n r q (no_end unended none e f) (no_end shut never g h) = (e ∙ sym g, f ∙ sym h)

  -- a block of valid lines has no fault
  pub block_or_break : (skips : Bool) (text : List ℕ) (inner : List (List ℕ)) (rest : List ℕ) (m : ℕ)
      (r : ScriptReason) → IsBlock text inner rest → ((k : ℕ) (why : RuleReason) → First (kept_lines skips inner) k why → ⊥)
      → IsFaultOfBlock First skips text m r → ⊥
  block_or_break skips text inner rest m r b none (in_block other more j what c second g h) =
      none j what (subst (λ (ls : List (List ℕ)). First (kept_lines skips ls) j what) (same_inner text other inner more rest c b) second)
  block_or_break skips text inner rest m r b none (in_open j what unended second inside g h) = open_block text inner rest unended b
  block_or_break skips text inner rest m r b none (no_end unended never g h) = open_block text inner rest unended b

  -- a block of valid lines, or a fault, exists
  abbrev pub HasBlock : (List (List ℕ) → Type 0) → Bool → List ℕ → Type 0
  HasBlock Sound skips text =
      ((inner : List (List ℕ)) × (rest : List ℕ) × IsBlock text inner rest × Sound (kept_lines skips inner)) ⊎ ((m : ℕ) × (r : ScriptReason) × IsFaultOfBlock First skips text m r)

  pub some_block : (Sound : List (List ℕ) → Type 0) (skips : Bool) (text : List ℕ)
      → ((lines : List (List ℕ)) → Sound lines ⊎ ((k : ℕ) × (why : RuleReason) × First lines k why))
      → ((lines : List (List ℕ)) (k : ℕ) (why : RuleReason) → Sound lines → First lines k why → ⊥) → HasBlock Sound skips text
  some_block Sound skips text either both = elim (ends_or_not text) [
    | inl block ↦ elim (either (kept_lines skips block.0)) [
      | inl sound ↦ inl (block.0, block.1, block.2, sound)
      | inr bad ↦ inr (line_number skips block.0 bad.0, of_rule bad.1, in_block block.0 block.1 bad.0 bad.1 block.2 bad.2 refl refl)
    ]
    | inr unended ↦ elim (either (kept_lines skips (whole_lines text))) [
      | inl sound ↦ inr (length (whole_lines text) + 1, reason.Word, no_end unended (λ k why first within. both (kept_lines skips (whole_lines text)) k why sound first) refl refl)
      | inr bad ↦ elim (cases_lt (length (kept_lines skips (whole_lines text))) bad.0) [
        | inl far ↦ inr (
          length (whole_lines text) + 1,
          reason.Word,
          no_end unended (λ k why first within.
              (let same = (one (kept_lines skips (whole_lines text)) bad.0 k bad.1 why bad.2 first).0 in
              omega (arith, same, within, far))) refl refl,
        )
        | inr within ↦ inr (line_number skips (whole_lines text) bad.0, of_rule bad.1, in_open bad.0 bad.1 unended bad.2 within refl refl)
      ]
    ]
  ]

-- ---- what is known of words and of policies

pub record Laws : Type 0 where
  pub one_list : (sorts : List WordKind) (ws : List (List ℕ)) (ms ns : List Meaning) → HaveMeanings sorts ws ms → HaveMeanings sorts ws ns → ms ≡ ns
  pub order : (r q : ScriptReason) → script_reason_rank r ≤ script_reason_rank q → script_reason_rank q ≤ script_reason_rank r → r ≡ q
  pub judged : (sorts : List WordKind) (ws : List (List ℕ)) → ((ms : List Meaning) × HaveMeanings sorts ws ms) ⊎ ((r : ScriptReason) × IsFirstReason (HasReason sorts ws) r)
  pub fine : (sorts : List WordKind) (ws : List (List ℕ)) (ms : List Meaning) (r : ScriptReason) → HaveMeanings sorts ws ms → HasReason sorts ws r → ⊥
  pub one_access : (T : Table) (lines : List (List ℕ)) (p q : AccessPolicy) → access_texts.IsTextOf T lines p → access_texts.IsTextOf T lines q → p ≡ q
  pub one_access_fault : (T : Table) (lines : List (List ℕ)) (m n : ℕ) (r q : RuleReason)
      → access_faults.IsFirstFault T lines m r → access_faults.IsFirstFault T lines n q → (m ≡ n) × (r ≡ q)
  pub some_access : (T : Table) (lines : List (List ℕ)) → ((p : AccessPolicy) × access_texts.IsTextOf T lines p)
      ⊎ ((k : ℕ) × (q : RuleReason) × access_faults.IsFirstFault T lines k q)
  pub access_or_fault : (T : Table) (lines : List (List ℕ)) (p : AccessPolicy) (k : ℕ) (q : RuleReason)
      → access_texts.IsTextOf T lines p → access_faults.IsFirstFault T lines k q → ⊥
  pub one_redact : (T : Table) (lines : List (List ℕ)) (p q : List Clear) → redact_texts.IsTextOf T lines p → redact_texts.IsTextOf T lines q → p ≡ q
  pub one_redact_fault : (T : Table) (lines : List (List ℕ)) (m n : ℕ) (r q : RuleReason)
      → redact_faults.IsFirstFault T lines m r → redact_faults.IsFirstFault T lines n q → (m ≡ n) × (r ≡ q)
  pub some_redact : (T : Table) (lines : List (List ℕ))
      → ((p : List Clear) × redact_texts.IsTextOf T lines p)
      ⊎ ((k : ℕ) × (q : RuleReason) × redact_faults.IsFirstFault T lines k q)
  pub redact_or_fault : (T : Table) (lines : List (List ℕ)) (p : List Clear) (k : ℕ) (q : RuleReason)
      → redact_texts.IsTextOf T lines p → redact_faults.IsFirstFault T lines k q → ⊥

-- ---- the declaration is unique

same_quota : (d : Declared) (ms : List Meaning) (p q : ThePolicy) → IsQuotaOfWords d ms p → IsQuotaOfWords d ms q → p ≡ q
same_quota d ms p q a b =
    let place = same_Some a.place b.place (sym a.found ∙ b.found) in
    let tenant = same_Some a.tenant b.tenant (sym a.there ∙ ap (slice_get d.tenants) place ∙ b.there) in
    a.policy_is ∙ ap (λ (n : ℕ). policy.Quota n a.tenant.per (number_at ms 5)) place ∙ ap (λ (t : Tenant). policy.Quota b.place t.per (number_at ms 5)) tenant ∙ sym b.policy_is

module _ (laws : Laws) (T : Table) (skips : Bool) (d : Declared) where
  gives_one : (f : DeclarationForm) (ms : List Meaning) (text : List ℕ) (i j : Declaration) (x y : List ℕ)
      → HasDeclarationByHead T skips d f ms text i x → HasDeclarationByHead T skips d f ms text j y → (i ≡ j) × (x ≡ y)
  gives_one of.Tenant ms text i j x y h k = (h.0 ∙ sym k.0, h.1 ∙ sym k.1)
  gives_one of.Rate ms text i j x y h k = (h.0 ∙ sym k.0, h.1 ∙ sym k.1)
  gives_one of.Count ms text i j x y h k = (h.0 ∙ sym k.0, h.1 ∙ sym k.1)
  gives_one of.Quota ms text i j x y h k = (h.2 ∙ ap (policy_with_name (name_at ms 1)) (same_quota d ms h.0 k.0 h.1 k.1) ∙ sym k.2, h.3 ∙ sym k.3)
  gives_one of.Access ms text i j x y h k =
      let a = h.1 in
      let b = k.1 in
      let same = same_inner text a.inner b.inner x y a.block b.block in
      let p = laws.one_access T (kept_lines skips b.inner) h.0 k.0 (subst (λ (ls : List (List ℕ)). access_texts.IsTextOf T (kept_lines skips ls) h.0) same a.text_of) b.text_of in
      (h.2 ∙ ap (λ (r : AccessPolicy). policy_with_name (name_at ms 1) (policy.Access r)) p ∙ sym k.2, same_rest text a.inner b.inner x y a.block b.block)
  gives_one of.Redact ms text i j x y h k =
      let a = h.1 in
      let b = k.1 in
      let same = same_inner text a.inner b.inner x y a.block b.block in
      let p = laws.one_redact T (kept_lines skips b.inner) h.0 k.0 (subst (λ (ls : List (List ℕ)). redact_texts.IsTextOf T (kept_lines skips ls) h.0) same a.text_of) b.text_of in
      (h.2 ∙ ap (λ (r : List Clear). policy_with_name (name_at ms 1) (policy.Redact r)) p ∙ sym k.2, same_rest text a.inner b.inner x y a.block b.block)

  same_meanings : (f : DeclarationForm) (line : List ℕ) (ms ns : List Meaning) → IsDeclarationHead d f line ms → IsDeclarationHead d f line ns → ms ≡ ns
  same_meanings f line ms ns h k = laws.one_list (word_kinds_of (head_form f)) (words_of line) ms ns h.said k.said

  pub one_item : (f : DeclarationForm) (line text : List ℕ) (i j : Declaration) (x y : List ℕ) → HasDeclaration T skips d f line text i x → HasDeclaration T skips d f line text j y → (i ≡ j) × (x ≡ y)
  one_item f line text i j x y h k =
      gives_one f k.meanings text i j x y (subst (λ (ms : List Meaning). HasDeclarationByHead T skips d f ms text i x) (same_meanings f line h.meanings k.meanings h.heads k.heads) h.gives) k.gives

  -- ---- the fault is unique

  one_broken : (f : DeclarationForm) (text : List ℕ) (m n : ℕ) (r q : ScriptReason) → IsFaultAfterHead T skips f text m r → IsFaultAfterHead T skips f text n q → (m ≡ n) × (r ≡ q)
  one_broken of.Access text m n r q h k = one_break (access_faults.IsFirstFault T) (laws.one_access_fault T) skips text m n r q h k
  one_broken of.Redact text m n r q h k = one_break (redact_faults.IsFirstFault T) (laws.one_redact_fault T) skips text m n r q h k
  one_broken of.Tenant text m n r q h k = absurd h
  one_broken of.Rate text m n r q h k = absurd h
  one_broken of.Quota text m n r q h k = absurd h
  one_broken of.Count text m n r q h k = absurd h

  pub one_fault : (f : DeclarationForm) (line text : List ℕ) (m n : ℕ) (r q : ScriptReason)
      → HasFirstFaultAt T skips d f line text m r → HasFirstFaultAt T skips d f line text n q → (m ≡ n) × (r ≡ q)
  one_fault f line text m n r q (in_head h e) (in_head k g) = (e ∙ sym g, laws.order r q (h.first q k.stands) (k.first r h.stands))
  one_fault f line text m n r q (in_head h e) (items.in_block ms behind heads breaks g) = absurd (heads.free r h.stands)
  one_fault f line text m n r q (items.in_block ms behind heads breaks e) (in_head k g) = absurd (heads.free q k.stands)
  one_fault f line text m n r q (items.in_block ms behind heads breaks e) (items.in_block ns past tails splits g) =
      let both = one_broken f text behind past r q breaks splits in
      (e ∙ ap (λ (k : ℕ). 1 + k) both.0 ∙ sym g, both.1)

  -- ---- never both

  gives_or_breaks : (f : DeclarationForm) (ms : List Meaning) (text : List ℕ) (i : Declaration) (x : List ℕ) (n : ℕ)
      (r : ScriptReason) → HasDeclarationByHead T skips d f ms text i x → IsFaultAfterHead T skips f text n r → ⊥
  gives_or_breaks of.Access ms text i x n r h k =
      block_or_break (access_faults.IsFirstFault T) (laws.one_access_fault T) skips text h.1.inner x n r h.1.block
      (λ j q first. laws.access_or_fault T (kept_lines skips h.1.inner) h.0 j q h.1.text_of first) k
  gives_or_breaks of.Redact ms text i x n r h k =
      block_or_break (redact_faults.IsFirstFault T) (laws.one_redact_fault T) skips text h.1.inner x n r h.1.block
      (λ j q first. laws.redact_or_fault T (kept_lines skips h.1.inner) h.0 j q h.1.text_of first) k
  gives_or_breaks of.Tenant ms text i x n r h k = k
  gives_or_breaks of.Rate ms text i x n r h k = k
  gives_or_breaks of.Quota ms text i x n r h k = k
  gives_or_breaks of.Count ms text i x n r h k = k

  pub not_both : (f : DeclarationForm) (line text : List ℕ) (i : Declaration) (x : List ℕ) (n : ℕ) (r : ScriptReason)
      → HasDeclaration T skips d f line text i x → HasFirstFaultAt T skips d f line text n r → ⊥
  not_both f line text i x n r h (in_head k g) = h.heads.free r k.stands
  not_both f line text i x n r h (items.in_block ms behind heads breaks g) = gives_or_breaks f h.meanings text i x behind r h.gives breaks

  -- ---- never neither

  abbrev IsTold : DeclarationForm → List ℕ → List ℕ → Type 0
  IsTold f line text = ((i : Declaration) × (x : List ℕ) × HasDeclaration T skips d f line text i x) ⊎ ((n : ℕ) × (r : ScriptReason) × HasFirstFaultAt T skips d f line text n r)

  some_quota : (ms : List Meaning) (o : Option ℕ) → tenant_index d (name_at ms 3) ≡ o → is_some o ≡ true → (p : ThePolicy) × IsQuotaOfWords d ms p
  some_quota ms None e is = absurd cc
  some_quota ms (Some place) e is =
      let p = naming.place_is (λ (t : Tenant). t.name) (name_at ms 3) d.tenants place e in
      (policy.Quota place p.item.per (number_at ms 5), record { place = place; tenant = p.item; found = e; there = p.at; policy_is = refl })

  not_not : (b : Bool) → not b ≡ false → b ≡ true
  not_not true e = refl
  not_not false e = sym e

  some_gives : (f : DeclarationForm) (line text : List ℕ) (ms : List Meaning) → IsDeclarationHead d f line ms → tests.lacks_tenant d f ms ≡ false → IsTold f line text
  some_gives of.Tenant line text ms heads has = inl (tenant_of_words ms, text, record { meanings = ms; heads = heads; gives = (refl, refl) })
  some_gives of.Rate line text ms heads has = inl (policy_with_name (name_at ms 1) (rate_of_words ms), text, record { meanings = ms; heads = heads; gives = (refl, refl) })
  some_gives of.Count line text ms heads has = inl (policy_with_name (name_at ms 1) policy.Count, text, record { meanings = ms; heads = heads; gives = (refl, refl) })
  some_gives of.Quota line text ms heads has =
      let q = some_quota ms (tenant_index d (name_at ms 3)) refl (not_not (is_some (tenant_index d (name_at ms 3))) has) in
      inl (policy_with_name (name_at ms 1) q.0, text, record { meanings = ms; heads = heads; gives = (q.0, q.1, refl, refl) })
  some_gives of.Access line text ms heads has =
      elim (some_block (access_faults.IsFirstFault T) (laws.one_access_fault T) (λ lines. (p : AccessPolicy)
      × access_texts.IsTextOf T lines p) skips text (laws.some_access T)
      (λ lines k why sound first. laws.access_or_fault T lines sound.0 k why sound.1 first)) [
        | inl block ↦ inl (
          policy_with_name (name_at ms 1) (policy.Access block.3.0),
          block.1,
          record {
            meanings = ms;
            heads = heads;
            gives = (block.3.0, record { inner = block.0; block = block.2; text_of = block.3.1 }, refl);
          },
        )
        | inr bad ↦ inr (1 + bad.0, bad.1, items.in_block ms bad.0 heads bad.2 refl)
      ]
  some_gives of.Redact line text ms heads has =
      elim (some_block (redact_faults.IsFirstFault T) (laws.one_redact_fault T)
      (λ lines. (p : List Clear) × redact_texts.IsTextOf T lines p) skips text (laws.some_redact T)
      (λ lines k why sound first. laws.redact_or_fault T lines sound.0 k why sound.1 first)) [
        | inl block ↦ inl (
          policy_with_name (name_at ms 1) (policy.Redact block.3.0),
          block.1,
          record {
            meanings = ms;
            heads = heads;
            gives = (block.3.0, record { inner = block.0; block = block.2; text_of = block.3.1 }, refl);
          },
        )
        | inr bad ↦ inr (1 + bad.0, bad.1, items.in_block ms bad.0 heads bad.2 refl)
      ]

  head_fails : (f : DeclarationForm) (line text : List ℕ) (r : ScriptReason) → IsFirstReason (HasHeadReason d f (words_of line)) r → IsTold f line text
  head_fails f line text r h = inr (1, r, in_head h refl)

  some_head : (f : DeclarationForm) (line text : List ℕ) (ms : List Meaning) → tests.has_max_tenants d f ≡ false → HaveMeanings (word_kinds_of (head_form f)) (words_of line) ms → IsTold f line text
  some_head f line text ms room said = elim (cases_Bool (tests.is_name_taken d f ms)) [
    | inl known ↦ head_fails f line text reason.Known (known_first laws.fine d f (words_of line) ms room said known)
    | inr new ↦ elim (cases_Bool (tests.lacks_tenant d f ms)) [
      | inl lacks ↦ head_fails f line text reason.Unknown (lacking_first laws.fine d f (words_of line) ms room said new lacks)
      | inr has ↦ some_gives f line text ms (heads_fine laws.fine d f line ms room said new has) has
    ]
  ]

  pub item_or_fault : (f : DeclarationForm) (line text : List ℕ) → IsTold f line text
  item_or_fault f line text = elim (cases_Bool (tests.has_max_tenants d f)) [
    | inl full ↦ head_fails f line text reason.Number (full_first d f (words_of line) full)
    | inr room ↦ elim (laws.judged (word_kinds_of (head_form f)) (words_of line)) [
      | inl said ↦ some_head f line text said.0 room said.1
      | inr bad ↦ head_fails f line text bad.0 (words_first d f (words_of line) bad.0 room bad.1)
    ]
  ]

  -- ---- the remainder

  gives_left : (f : DeclarationForm) (ms : List Meaning) (text : List ℕ) (i : Declaration) (x : List ℕ) → HasDeclarationByHead T skips d f ms text i x → (passed : List ℕ) × (text ≡ passed ++ x)
  gives_left of.Tenant ms text i x g = ([], sym g.1)
  gives_left of.Rate ms text i x g = ([], sym g.1)
  gives_left of.Count ms text i x g = ([], sym g.1)
  gives_left of.Quota ms text i x g = ([], sym g.3)
  gives_left of.Access ms text i x g = block_end text g.1.inner x g.1.block
  gives_left of.Redact ms text i x g = block_end text g.1.inner x g.1.block

  pub item_left : (f : DeclarationForm) (line text : List ℕ) (i : Declaration) (x : List ℕ) → HasDeclaration T skips d f line text i x → (passed : List ℕ) × (text ≡ passed ++ x)
  item_left f line text i x h = gives_left f h.meanings text i x h.gives

  -- ---- the range of a faulty line's number

  breaks_place : (First : List (List ℕ) → ℕ → RuleReason → Type 0) (text : List ℕ) (m : ℕ) (r : ScriptReason) → IsFaultOfBlock First skips text m r → m ≤ line_count text + 1
  breaks_place First text m r (in_block inner rest k why b first e g) = omega (arith, e, line_at_small skips inner k, inner_count text inner rest b)
  breaks_place First text m r (in_open k why unended first within e g) = omega (arith, e, line_at_small skips (whole_lines text) k, whole_count text)
  breaks_place First text m r (no_end unended none e g) = omega (arith, e, whole_count text)

  broken_place : (f : DeclarationForm) (text : List ℕ) (m : ℕ) (r : ScriptReason) → IsFaultAfterHead T skips f text m r → m ≤ line_count text + 1
  broken_place of.Access text m r h = breaks_place (access_faults.IsFirstFault T) text m r h
  broken_place of.Redact text m r h = breaks_place (redact_faults.IsFirstFault T) text m r h
  broken_place of.Tenant text m r h = absurd h
  broken_place of.Rate text m r h = absurd h
  broken_place of.Quota text m r h = absurd h
  broken_place of.Count text m r h = absurd h

  pub fault_place : (f : DeclarationForm) (line text : List ℕ) (n : ℕ) (r : ScriptReason) → HasFirstFaultAt T skips d f line text n r → n ≤ line_count text + 2
  fault_place f line text n r (in_head h e) = omega (arith, e)
  fault_place f line text n r (items.in_block ms behind heads breaks e) = omega (arith, e, broken_place f text behind r breaks)
