-- The declarations of a text, one after another, up to a line `audit` or to what ends them.
use Rattle.std.proofs.Common.{◌≡◌, ◌⊎◌, ℕ, zero, suc, ◌<◌, ◌≤◌, Bool, false, List, [], ◌∷◌, ◌++◌, length, Option}
use Rattle.std.proofs.Common.{Some, None, refl, sym, ap, ◌∙◌, subst, inl, inr, append_assoc, arith}
use Rattle.std.specs.Str.{bytes_eq}
use Rattle.std.proofs.lemmas.Bool.{cases_Bool, false≢true}
use Rattle.std.proofs.lemmas.List.{length-append}
use Rattle.std.proofs.lemmas.Option.{same_Some}
use Rattle.std.proofs.lemmas.Slice.Eq.{bytes_eq-Decides}
use Rattle.mrpc_table.specs.Lines.{pieces_of, words_of}
use Rattle.mrpc_table.specs.declared.table.Table.{Table}
use Rattle.policy_declarations.specs.Declarations.{Declared, with_declaration, AreValidDeclarations}
use Rattle.policy_declarations.specs.DeclarationTexts.{declaration_form_in, HasDeclaration, HasFirstFaultAt}
use Rattle.policy_declarations.specs.declared.declaration.Declaration.{Declaration}
use Rattle.policy_declarations.specs.declared.declaration_form.DeclarationForm.{DeclarationForm}
use Rattle.script_grammar.specs.declared.fault.ScriptReason.{ScriptReason}
use Rattle.script_grammar.specs.declared.fault.ScriptReason.TheVariants.{Word, Close}
use Rattle.audit_check.specs.Inputs.{audit_word, IsLineSplit, IsNextDeclaration, AreNextDeclarations, HasDeclarations, IsFaultAfterDeclarations, in_item, no_item, no_feed, no_audit}
use Rattle.audit_check.proofs.InputLines.{same_line, same_behind, cut_or_last, cut_text, split}

-- what is known of declarations
pub record Laws : Type 0 where
  pub one : (T : Table) (skips : Bool) (d : Declared) (f : DeclarationForm) (line text : List ℕ) (i j : Declaration) (x y : List ℕ)
      → HasDeclaration T skips d f line text i x → HasDeclaration T skips d f line text j y → (i ≡ j) × (x ≡ y)
  pub one_fault : (T : Table) (skips : Bool) (d : Declared) (f : DeclarationForm) (line text : List ℕ) (m n : ℕ)
      (r q : ScriptReason) → HasFirstFaultAt T skips d f line text m r → HasFirstFaultAt T skips d f line text n q → (m ≡ n) × (r ≡ q)
  pub not_both : (T : Table) (skips : Bool) (d : Declared) (f : DeclarationForm) (line text : List ℕ) (i : Declaration) (x : List ℕ)
      (n : ℕ) (r : ScriptReason) → HasDeclaration T skips d f line text i x → HasFirstFaultAt T skips d f line text n r → ⊥
  pub either : (T : Table) (skips : Bool) (d : Declared) (f : DeclarationForm) (line text : List ℕ)
      → ((i : Declaration) × (x : List ℕ) × HasDeclaration T skips d f line text i x)
      ⊎ ((n : ℕ) × (r : ScriptReason) × HasFirstFaultAt T skips d f line text n r)
  pub left : (T : Table) (skips : Bool) (d : Declared) (f : DeclarationForm) (line text : List ℕ) (i : Declaration) (x : List ℕ)
      → HasDeclaration T skips d f line text i x → (passed : List ℕ) × (text ≡ passed ++ x)

-- ---- the line `audit`

pub audit_cut : (rest : List ℕ) → IsLineSplit (audit_word ++ 10 ∷ rest) audit_word rest
audit_cut rest = refl

pub no_form : declaration_form_in (words_of audit_word) ≡ None
no_form = refl

none_some : (f : DeclarationForm) (o : Option DeclarationForm) → o ≡ None → o ≡ Some f → ⊥
none_some f o e g = (let clash : ◌≡◌ {A = Option DeclarationForm} None (Some f) = sym e ∙ g in cc)

same_form : (words line : List ℕ) (f g : DeclarationForm) → line ≡ words → declaration_form_in (words_of line) ≡ Some f → declaration_form_in (words_of words) ≡ Some g → f ≡ g
same_form words line f g e h k = same_Some f g (sym h ∙ ap (λ (t : List ℕ). declaration_form_in (words_of t)) e ∙ k)

-- ---- the next declaration

-- no declaration is next
abbrev pub IsLast : Table → Declared → List ℕ → Type 0
IsLast T d rest = (line behind more : List ℕ) (f : DeclarationForm) (i : Declaration) → IsLineSplit rest line behind
    → declaration_form_in (words_of line) ≡ Some f → HasDeclaration T false d f line behind i more → ⊥

pub last_audit : (T : Table) (d : Declared) (rest : List ℕ) → IsLast T d (audit_word ++ 10 ∷ rest)
last_audit T d rest line behind more f i cut form declares =
    none_some f (declaration_form_in (words_of line))
    (ap (λ (t : List ℕ). declaration_form_in (words_of t))
    (same_line (audit_word ++ 10 ∷ rest) line audit_word behind rest cut (audit_cut rest)) ∙ no_form) form

lead_more : (T : Table) (d : Declared) (text : List ℕ) (items : List Declaration) (e : Declared) (rest : List ℕ) (i : Declaration)
    (more : List ℕ) → AreNextDeclarations T d text items e rest → IsNextDeclaration T e rest i more
    → AreNextDeclarations T d text (items ++ i ∷ []) (with_declaration e i) more
lead_more T d text [] e rest i more h next =
    (more, subst (λ (t : List ℕ). IsNextDeclaration T d t i more) h.1 (subst (λ (b : Declared). IsNextDeclaration T b rest i more) h.0 next), (ap (λ (b : Declared). with_declaration b i) h.0, refl))
lead_more T d text (j ∷ items) e rest i more h next = (h.0, h.1, lead_more T (with_declaration d j) h.0 items e rest i more h.2 next)

pub reads_none : (T : Table) (d : Declared) (text : List ℕ) → HasDeclarations T d text d text
reads_none T d text = record { items = []; lead = (refl, refl) }

pub reads_more : (T : Table) (d : Declared) (text : List ℕ) (e : Declared) (rest line behind more : List ℕ) (f : DeclarationForm) (i : Declaration) → HasDeclarations T d text e rest → IsLineSplit rest line behind
    → declaration_form_in (words_of line) ≡ Some f → HasDeclaration T false e f line behind i more → HasDeclarations T d text (with_declaration e i) more
reads_more T d text e rest line behind more f i r cut form declares = record {
  items = r.items ++ i ∷ [];
  lead = lead_more T d text r.items e rest i more r.lead (record { line = line; behind = behind; form = f; cut = cut; form_is = form; declares = declares });
}

module _ (laws : Laws) (T : Table) where
  lead_end : (d : Declared) (text : List ℕ) (items : List Declaration) (e : Declared) (rest : List ℕ) → AreNextDeclarations T d text items e rest → (passed : List ℕ) × (text ≡ passed ++ rest)
  lead_end d text [] e rest h = ([], sym h.1)
  lead_end d text (i ∷ items) e rest h =
      let n = h.1 in
      let left = laws.left T false d n.form n.line n.behind i h.0 n.declares in
      let end = lead_end (with_declaration d i) h.0 items e rest h.2 in (
        (n.line ++ 10 ∷ []) ++ (left.0 ++ end.0),
        cut_text text n.line n.behind n.cut ∙ ap (λ (t : List ℕ). (n.line ++ 10 ∷ []) ++ t)
            (left.1 ∙ ap (λ (t : List ℕ). left.0 ++ t) end.1 ∙ sym (append_assoc left.0 end.0 rest))
            ∙ sym (append_assoc (n.line ++ 10 ∷ []) (left.0 ++ end.0) rest),
      )

  pub reads_end : (d : Declared) (text : List ℕ) (e : Declared) (rest : List ℕ) → HasDeclarations T d text e rest → (passed : List ℕ) × (text ≡ passed ++ rest)
  reads_end d text e rest r = lead_end d text r.items e rest r.lead

  stop_last : (d : Declared) (rest : List ℕ) (at : ℕ) (r : ScriptReason) → IsFaultAfterDeclarations T d rest at r → IsLast T d rest
  stop_last d rest at r (in_item line behind f cut form fails) l b more g i c h declares =
      let lines = same_line rest line l behind b cut c in
      let behinds = same_behind rest line l behind b cut c in
      let forms = same_form l line f g lines form h in
      laws.not_both T false d g l b i more at r declares
      (subst (λ (t : List ℕ). HasFirstFaultAt T false d g l t at r) behinds
      (subst (λ (t : List ℕ). HasFirstFaultAt T false d g t behind at r) lines
      (subst (λ (x : DeclarationForm). HasFirstFaultAt T false d x line behind at r) forms fails)))
  stop_last d rest at r (no_item line behind cut other form e q) l b more g i c h declares =
      none_some g (declaration_form_in (words_of line)) form (ap (λ (t : List ℕ). declaration_form_in (words_of t)) (same_line rest line l behind b cut c) ∙ h)
  stop_last d rest at r (no_feed some last e q) l b more g i c h declares = cut_or_last rest l b c last
  stop_last d rest at r (no_audit empty e q) l b more g i c h declares = cut_or_last rest l b c (ap pieces_of empty ∙ ap (λ (t : List ℕ). t ∷ []) (sym empty))

  -- a line `audit` has no fault
  pub stop_or_audit : (d : Declared) (rest : List ℕ) (at : ℕ) (r : ScriptReason) → IsFaultAfterDeclarations T d (audit_word ++ 10 ∷ rest) at r → ⊥
  stop_or_audit d rest at r (in_item line behind f cut form fails) =
      none_some f (declaration_form_in (words_of line))
      (ap (λ (t : List ℕ). declaration_form_in (words_of t))
      (same_line (audit_word ++ 10 ∷ rest) line audit_word behind rest cut (audit_cut rest)) ∙ no_form) form
  stop_or_audit d rest at r (no_item line behind cut other form e q) = other (same_line (audit_word ++ 10 ∷ rest) line audit_word behind rest cut (audit_cut rest))
  stop_or_audit d rest at r (no_feed some last e q) = cut_or_last (audit_word ++ 10 ∷ rest) audit_word rest (audit_cut rest) last
  stop_or_audit d rest at r (no_audit empty e q) = absurd cc

  -- ---- the declarations are unique

  no_next : (d : Declared) (text : List ℕ) (e : Declared) (rest : List ℕ) (i : Declaration) (more : List ℕ) → e ≡ d
      → rest ≡ text → IsNextDeclaration T d text i more → IsLast T e rest → ⊥
  no_next d text e rest i more same at n last =
      last n.line n.behind more n.form i (subst (λ (t : List ℕ). IsLineSplit t n.line n.behind) (sym at) n.cut) n.form_is
      (subst (λ (b : Declared). HasDeclaration T false b n.form n.line n.behind i more) (sym same) n.declares)

  same_next : (d : Declared) (text : List ℕ) (i j : Declaration) (x y : List ℕ) → IsNextDeclaration T d text i x → IsNextDeclaration T d text j y → (i ≡ j) × (x ≡ y)
  same_next d text i j x y a b =
      let lines = same_line text a.line b.line a.behind b.behind a.cut b.cut in
      let behinds = same_behind text a.line b.line a.behind b.behind a.cut b.cut in
      let forms = same_form b.line a.line a.form b.form lines a.form_is b.form_is in
      let moved = subst (λ (t : List ℕ). HasDeclaration T false d b.form b.line t i x) behinds
      (subst (λ (t : List ℕ). HasDeclaration T false d b.form t a.behind i x) lines
      (subst (λ (z : DeclarationForm). HasDeclaration T false d z a.line a.behind i x) forms a.declares)) in
      laws.one T false d b.form b.line b.behind i j x y moved b.declares

  one_lead : (d : Declared) (text : List ℕ) (is js : List Declaration) (e g : Declared) (x y : List ℕ) → AreNextDeclarations T d text is e x
      → AreNextDeclarations T d text js g y → IsLast T e x → IsLast T g y → (e ≡ g) × (x ≡ y)
  one_lead d text [] [] e g x y h k last end = (h.0 ∙ sym k.0, h.1 ∙ sym k.1)
  one_lead d text [] (j ∷ js) e g x y h k last end = absurd (no_next d text e x j k.0 h.0 h.1 k.1 last)
  one_lead d text (i ∷ is) [] e g x y h k last end = absurd (no_next d text g y i h.0 k.0 k.1 h.1 end)
  one_lead d text (i ∷ is) (j ∷ js) e g x y h k last end =
      let same = same_next d text i j h.0 k.0 h.1 k.1 in
      one_lead (with_declaration d i) h.0 is js e g x y h.2
      (subst (λ (t : List ℕ). AreNextDeclarations T (with_declaration d i) t js g y) (sym same.1) (subst (λ (z : Declaration). AreNextDeclarations T (with_declaration d z) k.0 js g y) (sym same.0) k.2)) last end

  pub one_run : (d : Declared) (text : List ℕ) (e g : Declared) (x y : List ℕ) → HasDeclarations T d text e x → HasDeclarations T d text g y → IsLast T e x → IsLast T g y → (e ≡ g) × (x ≡ y)
  one_run d text e g x y h k last end = one_lead d text h.items k.items e g x y h.lead k.lead last end

  -- ---- the stop is unique

  pub one_stop : (d : Declared) (rest : List ℕ) (m n : ℕ) (r q : ScriptReason) → IsFaultAfterDeclarations T d rest m r → IsFaultAfterDeclarations T d rest n q → (m ≡ n) × (r ≡ q)
  one_stop d rest m n r q (in_item line behind f cut form fails) (in_item l b g c h other) =
      let lines = same_line rest line l behind b cut c in
      let behinds = same_behind rest line l behind b cut c in
      let forms = same_form l line f g lines form h in
      laws.one_fault T false d g l b m n r q
      (subst (λ (t : List ℕ). HasFirstFaultAt T false d g l t m r) behinds
      (subst (λ (t : List ℕ). HasFirstFaultAt T false d g t behind m r) lines
      (subst (λ (x : DeclarationForm). HasFirstFaultAt T false d x line behind m r) forms fails))) other
  one_stop d rest m n r q (in_item line behind f cut form fails) (no_item l b c other h e g) =
      absurd (none_some f (declaration_form_in (words_of l)) h (ap (λ (t : List ℕ). declaration_form_in (words_of t)) (same_line rest l line b behind c cut) ∙ form))
  one_stop d rest m n r q (in_item line behind f cut form fails) (no_feed some last e g) = absurd (cut_or_last rest line behind cut last)
  one_stop d rest m n r q (in_item line behind f cut form fails) (no_audit empty e g) =
      absurd (cut_or_last rest line behind cut (ap pieces_of empty ∙ ap (λ (t : List ℕ). t ∷ []) (sym empty)))
  one_stop d rest m n r q (no_item line behind cut other form e g) (in_item l b f c h fails) =
      absurd (none_some f (declaration_form_in (words_of line)) form (ap (λ (t : List ℕ). declaration_form_in (words_of t)) (same_line rest line l behind b cut c) ∙ h))
  one_stop d rest m n r q (no_item line behind cut other form e g) (no_item l b c another h k p) = (e ∙ sym k, g ∙ sym p)
  one_stop d rest m n r q (no_item line behind cut other form e g) (no_feed some last k p) = absurd (cut_or_last rest line behind cut last)
  one_stop d rest m n r q (no_item line behind cut other form e g) (no_audit empty k p) =
      absurd (cut_or_last rest line behind cut (ap pieces_of empty ∙ ap (λ (t : List ℕ). t ∷ []) (sym empty)))
  one_stop d rest m n r q (no_feed some last e g) (in_item l b f c h fails) = absurd (cut_or_last rest l b c last)
  one_stop d rest m n r q (no_feed some last e g) (no_item l b c another h k p) = absurd (cut_or_last rest l b c last)
  one_stop d rest m n r q (no_feed some last e g) (no_feed any end k p) = (e ∙ sym k, g ∙ sym p)
  one_stop d rest m n r q (no_feed some last e g) (no_audit empty k p) = absurd (some empty)
  one_stop d rest m n r q (no_audit empty e g) (in_item l b f c h fails) = absurd (cut_or_last rest l b c (ap pieces_of empty ∙ ap (λ (t : List ℕ). t ∷ []) (sym empty)))
  one_stop d rest m n r q (no_audit empty e g) (no_item l b c another h k p) = absurd (cut_or_last rest l b c (ap pieces_of empty ∙ ap (λ (t : List ℕ). t ∷ []) (sym empty)))
  one_stop d rest m n r q (no_audit empty e g) (no_feed some last k p) = absurd (some empty)
  one_stop d rest m n r q (no_audit empty e g) (no_audit none_left k p) = (e ∙ sym k, g ∙ sym p)

  -- ---- declarations exist

  -- where the declarations end
  pub record IsRun (d : Declared) (text : List ℕ) : Type 0 where
    pub declared : Declared
    pub rest : List ℕ
    pub reads : HasDeclarations T d text declared rest
    pub end : ((behind : List ℕ) × (rest ≡ audit_word ++ 10 ∷ behind)) ⊎ ((at : ℕ) × (r : ScriptReason) × IsFaultAfterDeclarations T declared rest at r)

  stopped : (d : Declared) (text : List ℕ) (at : ℕ) (r : ScriptReason) → IsFaultAfterDeclarations T d text at r → IsRun d text
  stopped d text at r stop = record { declared = d; rest = text; reads = reads_none T d text; end = inr (at, r, stop) }

  run_last : (d : Declared) (text : List ℕ) → pieces_of text ≡ text ∷ [] → IsRun d text
  run_last d [] last = stopped d [] 1 Close (no_audit refl refl refl)
  run_last d (x ∷ xs) last = stopped d (x ∷ xs) 1 Word (no_feed (λ e. not_empty e) last refl refl)
    where
      not_empty : x ∷ xs ≡ [] → ⊥
      not_empty e = cc

  abbrev GoesOn : List ℕ → Type 0
  GoesOn text = (d : Declared) (more : List ℕ) → length more < length text → IsRun d more

  run_item : (d : Declared) (text line behind : List ℕ) (f : DeclarationForm) → IsLineSplit text line behind
      → length behind < length text → declaration_form_in (words_of line) ≡ Some f → GoesOn text → IsRun d text
  run_item d text line behind f cut less form on = elim (laws.either T false d f line behind) [
    | inr fault ↦ stopped d text fault.0 fault.1 (in_item line behind f cut form fault.2)
    | inl next ↦
        let left = laws.left T false d f line behind next.0 next.1 next.2 in
        let run = on (with_declaration d next.0) next.1 (omega (arith, ap length left.1, length-append left.0 next.1, less)) in
        record {
          declared = run.declared;
          rest = run.rest;
          reads = record {
            items = next.0 ∷ run.reads.items;
            lead = (next.1, record { line = line; behind = behind; form = f; cut = cut; form_is = form; declares = next.2 }, run.reads.lead);
          };
          end = run.end;
        }
  ]

  run_line : (d : Declared) (text line behind : List ℕ) (o : Option DeclarationForm) → declaration_form_in (words_of line) ≡ o
      → IsLineSplit text line behind → length behind < length text → GoesOn text → IsRun d text
  run_line d text line behind (Some f) form cut less on = run_item d text line behind f cut less form on
  run_line d text line behind None form cut less on = elim (cases_Bool (bytes_eq line audit_word)) [
    | inl is ↦ record {
      declared = d;
      rest = text;
      reads = reads_none T d text;
      end = inl (behind, cut_text text line behind cut ∙ append_assoc line (10 ∷ []) behind ∙ ap (λ (t : List ℕ). t ++ 10 ∷ behind) ((bytes_eq-Decides line audit_word).0 is));
    }
    | inr isnt ↦ stopped d text 1 Word (no_item line behind cut (λ e. false≢true (sym isnt ∙ (bytes_eq-Decides line audit_word).1 e)) form refl refl)
  ]

  run_by : (d : Declared) (text : List ℕ)
      → (pieces_of text ≡ text ∷ []) ⊎ ((line : List ℕ) × (behind : List ℕ) × IsLineSplit text line behind
      × (length behind < length text)) → GoesOn text → IsRun d text
  run_by d text (inl last) on = run_last d text last
  run_by d text (inr more) on = run_line d text more.0 more.1 (declaration_form_in (words_of more.0)) refl more.2 more.3 on

  runs : (n : ℕ) (d : Declared) (text : List ℕ) → length text ≤ n → IsRun d text
  runs zero d text few = run_by d text (split text) (λ e more less. absurd (omega (arith, less, few)))
  runs (suc n) d text few = run_by d text (split text) (λ e more less. runs n e more (omega (arith, less, few)))

  pub some_run : (d : Declared) (text : List ℕ) → IsRun d text
  some_run d text = runs (length text) d text (omega arith)

  pub stop_is_last : (d : Declared) (rest : List ℕ) (at : ℕ) (r : ScriptReason) → IsFaultAfterDeclarations T d rest at r → IsLast T d rest
  stop_is_last d rest at r stop = stop_last d rest at r stop

module _ (T : Table) (sound : (skips : Bool) (d : Declared) (f : DeclarationForm) (line text : List ℕ) (i : Declaration)
    (x : List ℕ) → AreValidDeclarations d → HasDeclaration T skips d f line text i x → AreValidDeclarations (with_declaration d i)) where
  lead_sound : (d : Declared) (text : List ℕ) (items : List Declaration) (e : Declared) (rest : List ℕ) → AreValidDeclarations d → AreNextDeclarations T d text items e rest → AreValidDeclarations e
  lead_sound d text [] e rest s h = subst AreValidDeclarations (sym h.0) s
  lead_sound d text (i ∷ items) e rest s h = lead_sound (with_declaration d i) h.0 items e rest (sound false d h.1.form h.1.line h.1.behind i h.0 s h.1.declares) h.2

  pub reads_sound : (d : Declared) (text : List ℕ) (e : Declared) (rest : List ℕ) → AreValidDeclarations d → HasDeclarations T d text e rest → AreValidDeclarations e
  reads_sound d text e rest s r = lead_sound d text r.items e rest s r.lead
