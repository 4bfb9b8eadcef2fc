-- Lines without faults that mean a program are one of their role.
use Rattle.std.proofs.Common.{◌≡◌, ◌⊎◌, ℕ, ◌+◌, ◌<◌, ◌≤◌, ◌^◌, true, false, not, List, [], ◌∷◌, ◌++◌, length, All}
use Rattle.std.proofs.Common.{Contains, Option, Some, refl, sym, ap, ◌∙◌, subst, inl, inr, length-append, bytes_eq}
use Rattle.std.specs.Prelude.{cond}
use Rattle.std.proofs.lemmas.Bool.{and_parts, both_ways, cases_lt, not-true, true_from_ne_false}
use Rattle.std.proofs.lemmas.List.Elements.{All-cons, All-nil}
use Rattle.std.proofs.lemmas.List.Sums.{sum_by-cons}
use Rattle.std.proofs.lemmas.Slice.Eq.{bytes_eq-Decides}
use Rattle.mrpc_table.specs.Lines.{words_of, IsIn}
use Rattle.app_program.specs.Programs.{IsClientLine, IsClientProgram, IsServerLine, IsServerProgram, line_stores, line_submits, program_stores}
use Rattle.app_program.specs.Programs as programs
use Rattle.app_program.specs.declared.program.ProgramLine.{ProgramLine}
use Rattle.app_program.specs.declared.program.ProgramLine.TheVariants as program
use Rattle.app_program.specs.declared.program.TheConstants.{MAX_LINES, MAX_REQUEST_STORES, MAX_STORES}
use Rattle.script_grammar.specs.Lines.{HaveMeanings}
use Rattle.script_grammar.specs.WordKinds.{Meaning, number, number_at}
use Rattle.script_grammar.specs.declared.word_kind.WordKind.TheVariants as sort
use Rattle.run_plan.specs.Plans.{HasProgram}
use Rattle.run_plan.specs.Plans as plans
use Rattle.run_plan.specs.declared.application.Role.{Role}
use Rattle.run_plan.specs.declared.application.Role.TheVariants as plan_role
use Rattle.toml.specs.Data.{Members}
use Rattle.scenario_lines.specs.Forms.{first_word, forms_of, line_sorts}
use Rattle.scenario_lines.specs.Lines.{IsFormMeaning, IsProgramLineMeaning, words_after_first, first_word_of, line_form_of}
use Rattle.scenario_lines.specs.Programs.{Each, IsProgramFault, AreValidLineMeanings, ends_in_reply, is_reply, no_reply, too_many_lines, too_many_stores}
use Rattle.scenario_lines.specs.declared.form.ProgramForm.{ProgramForm}
use Rattle.scenario_lines.specs.declared.form.ProgramForm.TheVariants as line
use Rattle.scenario_lines.specs.declared.form.ProgramRole.{ProgramRole}
use Rattle.scenario_lines.specs.declared.form.ProgramRole.TheVariants.{Client, Server}
use Rattle.scenario_lines.specs.declared.reason.LineReason.{LineReason}
use Rattle.scenario_lines.specs.declared.reason.LineReason.TheVariants.{Number, Word}
use Rattle.scenario_toml.specs.Values.{number_or_default}
use Rattle.scenario.specs.Applications.{program_lines_of, role_submits, entry_submissions}
use Rattle.scenario.specs.Keys.{heap, entry_role}
use Rattle.scenario.specs.Lines.{is_submit_form, program_role, submit_line_count}
use Rattle.scenario.specs.Scenarios.{IsRoleMeaning}
use Rattle.scenario.specs.declared.entry_words.RoleWord.{RoleWord}
use Rattle.scenario.specs.declared.entry_words.RoleWord.TheVariants as role
use Rattle.scenario_laws.proofs.Lists.{found_there, none_in, there_cases}

-- ---- forms

-- the form of a line is one of its role's, and its first word is the form's
form_there : (r : ProgramRole) (text : List ℕ) (f : ProgramForm) → line_form_of r text ≡ Some f
    → Contains (forms_of r) f × (first_word_of (words_of text) ≡ first_word f)
form_there r text f e =
    let h = found_there (λ (g : ProgramForm). bytes_eq (first_word_of (words_of text)) (first_word g)) (forms_of r) f e in
    (h.0, (bytes_eq-Decides (first_word_of (words_of text)) (first_word f)).0 h.1)

no_client_reply : Contains (forms_of Client) line.Reply → ⊥
no_client_reply h = elim (there_cases line.Store (line.Spin ∷ line.Submit ∷ line.Reclaim ∷ []) line.Reply h) [
  | inl e ↦ absurd cc
  | inr h1 ↦ elim (there_cases line.Spin (line.Submit ∷ line.Reclaim ∷ []) line.Reply h1) [
    | inl e ↦ absurd cc
    | inr h2 ↦ elim (there_cases line.Submit (line.Reclaim ∷ []) line.Reply h2) [
      | inl e ↦ absurd cc
      | inr h3 ↦ elim (there_cases line.Reclaim [] line.Reply h3) [
        | inl e ↦ absurd cc
        | inr h4 ↦ none_in line.Reply h4
      ]
    ]
  ]
]

server_forms : (f : ProgramForm) → Contains (forms_of Server) f → (f ≡ line.Store) ⊎ ((f ≡ line.Spin) ⊎ (f ≡ line.Reply))
server_forms f h = elim (there_cases line.Store (line.Spin ∷ line.Reply ∷ []) f h) [
  | inl e ↦ inl (sym e)
  | inr h1 ↦ elim (there_cases line.Spin (line.Reply ∷ []) f h1) [
    | inl e ↦ inr (inl (sym e))
    | inr h2 ↦ elim (there_cases line.Reply [] f h2) [
      | inl e ↦ inr (inr (sym e))
      | inr h3 ↦ absurd (none_in f h3)
    ]
  ]
]

-- ---- lines of clients

number_said : (least most : ℕ) (words : List (List ℕ)) (ms : List Meaning) → HaveMeanings (sort.Number least most ∷ []) words ms
    → IsIn least most (number_at ms 0)
number_said least most [] ms h = absurd h
number_said least most (w ∷ words) [] h = absurd h
number_said least most (w ∷ words) (number n ∷ ms) h = h.0.1
number_said least most (w ∷ words) (_ ∷ ms) h = absurd h.0

client_by : (words : ℕ) (f : ProgramForm) (rest : List (List ℕ)) (ms : List Meaning) (said : ProgramLine) → (f ≡ line.Reply → ⊥)
    → HaveMeanings (line_sorts f) rest ms → IsFormMeaning words f ms said → IsClientLine words said
client_by words line.Store rest ms (program.Store place value) none are h = h.1
client_by words line.Store rest ms _ none are h = absurd h
client_by words line.Spin rest ms (program.Spin times place first second) none are h = h.2
client_by words line.Spin rest ms _ none are h = absurd h
client_by words line.Submit rest ms (program.Submit method addr) none are h = tt
client_by words line.Submit rest ms _ none are h = absurd h
client_by words line.Reclaim rest ms (program.Reclaim block) none are h =
    subst (IsIn 1 (2 ^ 63)) (sym h) (number_said 1 (2 ^ 63) rest ms are)
client_by words line.Reclaim rest ms _ none are h = absurd h
client_by words line.Reply rest ms said none are h = absurd (none refl)

client_line : (words : ℕ) (text : List ℕ) (said : ProgramLine) → IsProgramLineMeaning Client words text said → IsClientLine words said
client_line words text said h =
    client_by words h.form (words_after_first (words_of text)) h.meanings said
    (λ is. no_client_reply (subst (λ (f : ProgramForm). Contains (forms_of Client) f) is (form_there Client text h.form h.is_line.form).0))
    h.is_line.said h.says

client_lines : (words : ℕ) (texts : List (List ℕ)) (lines : List ProgramLine) → Each (IsProgramLineMeaning Client words) texts lines → All (IsClientLine words) lines
client_lines words [] [] e = All-nil (IsClientLine words)
client_lines words [] (l ∷ lines) e = absurd e
client_lines words (t ∷ texts) [] e = absurd e
client_lines words (t ∷ texts) (l ∷ lines) e = All-cons (IsClientLine words) l lines (client_line words t l e.0) (client_lines words texts lines e.1)

-- ---- lines of servers

reply_first : (text : List ℕ) (f : ProgramForm) → first_word_of (words_of text) ≡ first_word f → is_reply text ≡ bytes_eq (first_word f) (first_word line.Reply)
reply_first text f e = ap (λ (w : List ℕ). bytes_eq w (first_word line.Reply)) e

reply_by : (words : ℕ) (ms : List Meaning) (said : ProgramLine) → IsFormMeaning words line.Reply ms said → (addr : ℕ) × (said ≡ program.Reply addr)
reply_by words ms (program.Reply addr) h = (addr, refl)
reply_by words ms _ h = absurd h

store_by : (words : ℕ) (ms : List Meaning) (said : ProgramLine) → IsFormMeaning words line.Store ms said → IsServerLine words said
store_by words ms (program.Store place value) h = h.1
store_by words ms _ h = absurd h

spin_by : (words : ℕ) (ms : List Meaning) (said : ProgramLine) → IsFormMeaning words line.Spin ms said → IsServerLine words said
spin_by words ms (program.Spin times place first second) h = h.2
spin_by words ms _ h = absurd h

module _ (words : ℕ) (text : List ℕ) (said : ProgramLine) (h : IsProgramLineMeaning Server words text said) where
  abbrev has : Contains (forms_of Server) h.form × (first_word_of (words_of text) ≡ first_word h.form)
  has = form_there Server text h.form h.is_line.form

  no_reply_of : (f : ProgramForm) → h.form ≡ f → bytes_eq (first_word f) (first_word line.Reply) ≡ false → is_reply text ≡ true → ⊥
  no_reply_of f is none e =
      both_ways (is_reply text) (reply_first text h.form has.1 ∙ ap (λ (g : ProgramForm). bytes_eq (first_word g) (first_word line.Reply)) is ∙ none) e

  last_line : is_reply text ≡ true → (addr : ℕ) × (said ≡ program.Reply addr)
  last_line e = elim (server_forms h.form has.0) [
    | inl store ↦ absurd (no_reply_of line.Store store refl e)
    | inr (inl spin) ↦ absurd (no_reply_of line.Spin spin refl e)
    | inr (inr reply) ↦ reply_by words h.meanings said (subst (λ (f : ProgramForm). IsFormMeaning words f h.meanings said) reply h.says)
  ]

  front_line : is_reply text ≡ false → IsServerLine words said
  front_line e = elim (server_forms h.form has.0) [
    | inl store ↦ store_by words h.meanings said (subst (λ (f : ProgramForm). IsFormMeaning words f h.meanings said) store h.says)
    | inr (inl spin) ↦ spin_by words h.meanings said (subst (λ (f : ProgramForm). IsFormMeaning words f h.meanings said) spin h.says)
    | inr (inr reply) ↦
        absurd (both_ways (is_reply text) e (reply_first text h.form has.1 ∙ ap (λ (g : ProgramForm). bytes_eq (first_word g) (first_word line.Reply)) reply))
  ]

-- stores, followed by one reply
record Ends (words : ℕ) (lines : List ProgramLine) : Type 0 where
  front : List ProgramLine
  addr : ℕ
  ends : lines ≡ front ++ program.Reply addr ∷ []
  each : All (IsServerLine words) front

server_lines : (words : ℕ) (texts : List (List ℕ)) (lines : List ProgramLine) → Each (IsProgramLineMeaning Server words) texts lines
    → ends_in_reply texts ≡ true → Ends words lines
server_lines words [] lines e ends = absurd cc
server_lines words (t ∷ []) [] e ends = absurd e
server_lines words (t ∷ []) (l ∷ k ∷ lines) e ends = absurd e.1
server_lines words (t ∷ []) (l ∷ []) e ends =
    let is = last_line words t l e.0 ends in
    record { front = []; addr = is.0; ends = ap (λ (x : ProgramLine). x ∷ []) is.1; each = All-nil (IsServerLine words) }
server_lines words (t ∷ u ∷ texts) [] e ends = absurd e
server_lines words (t ∷ u ∷ texts) (l ∷ lines) e ends =
    let both = and_parts (not (is_reply t)) (ends_in_reply (u ∷ texts)) ends in
    let rest = server_lines words (u ∷ texts) lines e.1 both.1 in
    record {
      front = l ∷ rest.front;
      addr = rest.addr;
      ends = ap (λ (xs : List ProgramLine). l ∷ xs) rest.ends;
      each = All-cons (IsServerLine words) l rest.front (front_line words t l e.0 (not-true (is_reply t) both.0)) rest.each;
    }

-- ---- programs

some_say : (r : ProgramRole) (words : ℕ) (texts : List (List ℕ)) (lines : List ProgramLine) → Each (IsProgramLineMeaning r words) texts lines
    → AreValidLineMeanings r words texts lines
some_say r words [] [] e = refl
some_say r words [] (l ∷ lines) e = absurd e
some_say r words (t ∷ texts) [] e = absurd e
some_say r words (t ∷ texts) (l ∷ lines) e = inl (l, lines, e.0, refl, some_say r words texts lines e.1)

at_most : (n most : ℕ) → (most < n → ⊥) → n ≤ most
at_most n most h = elim (cases_lt most n) [
  | inl more ↦ absurd (h more)
  | inr few ↦ few
]

client_program : (words : ℕ) (texts : List (List ℕ)) (lines : List ProgramLine) → Each (IsProgramLineMeaning Client words) texts lines
    → ((q : LineReason) → IsProgramFault Client words texts q → ⊥) → IsClientProgram words lines
client_program words texts lines e free =
    let say = some_say Client words texts lines e in
    record {
      each = client_lines words texts lines e;
      stores = at_most (length (program_stores lines)) MAX_STORES (λ more. free Number (too_many_stores lines say more refl));
      few = at_most (length lines) MAX_LINES (λ more. free Number (too_many_lines lines say more refl));
    }

server_program : (words : ℕ) (texts : List (List ℕ)) (lines : List ProgramLine) → Each (IsProgramLineMeaning Server words) texts lines
    → ((q : LineReason) → IsProgramFault Server words texts q → ⊥) → IsServerProgram words lines
server_program words texts lines e free =
    let ends = server_lines words texts lines e
    (true_from_ne_false (ends_in_reply texts) (λ none. free Word (no_reply refl none refl))) in
    let say = some_say Server words texts lines e in
    record {
      front = ends.front;
      addr = ends.addr;
      ends = ends.ends;
      each = ends.each;
      stores = at_most (length (program_stores lines)) MAX_REQUEST_STORES (λ more. free Number (too_many_stores lines say more refl));
    }

pub has_program : (ms : Members) (words : ℕ) (r : Role) → words ≡ number_or_default heap ms → IsRoleMeaning ms r
    → ((r : ProgramRole) (q : LineReason) (word : RoleWord) → entry_role ms ≡ Some word → program_role word ≡ Some r
    → IsProgramFault r (number_or_default heap ms) (program_lines_of ms) q → ⊥) → HasProgram words r
has_program ms words (plan_role.Client lines) same says free =
    subst (λ (n : ℕ). IsClientProgram n lines) (sym same)
    (client_program (number_or_default heap ms) (program_lines_of ms) lines says.1 (λ q h. free Client q role.Client says.0 refl h))
has_program ms words (plan_role.Server lines) same says free =
    subst (λ (n : ℕ). IsServerProgram n lines) (sym same)
    (server_program (number_or_default heap ms) (program_lines_of ms) lines says.1 (λ q h. free Server q role.Server says.0 refl h))
has_program ms words plan_role.Echo same says free = tt

-- ---- submissions

submit_by : (words made : ℕ) (f : ProgramForm) (ms : List Meaning) (said : ProgramLine) → IsFormMeaning words f ms said
    → length (line_submits made said) ≡ cond (is_submit_form (Some f)) 1 0
submit_by words made line.Store ms (program.Store place value) h = refl
submit_by words made line.Store ms _ h = absurd h
submit_by words made line.Spin ms (program.Spin times place first second) h = refl
submit_by words made line.Spin ms _ h = absurd h
submit_by words made line.Submit ms (program.Submit method addr) h = refl
submit_by words made line.Submit ms _ h = absurd h
submit_by words made line.Reclaim ms (program.Reclaim block) h = refl
submit_by words made line.Reclaim ms _ h = absurd h
submit_by words made line.Reply ms (program.Reply addr) h = refl
submit_by words made line.Reply ms _ h = absurd h

submits_same : (words made : ℕ) (texts : List (List ℕ)) (lines : List ProgramLine) → Each (IsProgramLineMeaning Client words) texts lines
    → submit_line_count texts ≡ length (programs.program_submits made lines)
submits_same words made [] [] e = refl
submits_same words made [] (l ∷ lines) e = absurd e
submits_same words made (t ∷ texts) [] e = absurd e
submits_same words made (t ∷ texts) (l ∷ lines) e =
    let one = submit_by words made e.0.form e.0.meanings l e.0.says in
    let form : cond {A = ℕ} (is_submit_form (line_form_of Client t)) 1 0 ≡ cond {A = ℕ} (is_submit_form (Some e.0.form)) 1 0 =
    ap (λ (o : Option ProgramForm). cond {A = ℕ} (is_submit_form o) 1 0) e.0.is_line.form in
    let rest = submits_same words (made + length (line_stores l)) texts lines e.1 in
    let both = length-append (line_submits made l) (programs.program_submits (made + length (line_stores l)) lines) in
    sum_by-cons (λ (x : List ℕ). cond {A = ℕ} (is_submit_form (line_form_of Client x)) 1 0) t texts
    ∙ ap (λ (n : ℕ). n + submit_line_count texts) (form ∙ sym one)
    ∙ ap (λ (n : ℕ). length (line_submits made l) + n) rest
    ∙ sym both

pub submissions_same : (ms : Members) (r : Role) → IsRoleMeaning ms r → entry_submissions ms ≡ plans.submission_count r
submissions_same ms (plan_role.Client lines) says =
    ap (λ (o : Option RoleWord). role_submits o (program_lines_of ms)) says.0 ∙ submits_same (number_or_default heap ms) 0 (program_lines_of ms) lines says.1
submissions_same ms (plan_role.Server lines) says = ap (λ (o : Option RoleWord). role_submits o (program_lines_of ms)) says.0
submissions_same ms plan_role.Echo says = ap (λ (o : Option RoleWord). role_submits o (program_lines_of ms)) says
