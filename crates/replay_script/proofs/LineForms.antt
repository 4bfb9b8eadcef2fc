-- What the form of a line implies.
use Rattle.std.proofs.Common.{◌≡◌, ◌≢◌, ℕ, Bool, true, false, List, [], ◌∷◌, Option, Some, None, refl, sym, ap, ◌∙◌}
use Rattle.std.specs.Prelude.{option_and_then, option_map}
use Rattle.std.specs.List.{onto_first}
use Rattle.std.proofs.lemmas.Bool.{eqb-true}
use Rattle.std.proofs.lemmas.Option.{same_Some}
use Rattle.mrpc_table.specs.Lines.{words_of}
use Rattle.policy_declarations.specs.Blocks.{is_skipped}
use Rattle.policy_declarations.specs.Declarations.{Declared, policy_index}
use Rattle.policy_declarations.specs.DeclarationTexts.{declaration_form, declaration_form_in}
use Rattle.policy_declarations.specs.declared.declaration_form.DeclarationForm.{DeclarationForm}
use Rattle.script_grammar.specs.Forms.{form_in}
use Rattle.script_grammar.specs.WordKinds.{Meaning, name_at}
use Rattle.script_grammar.specs.declared.form.LineForm.{LineForm}
use Rattle.script_grammar.specs.declared.form.LineForm.TheVariants as form
use Rattle.replay_script.specs.Words.{policy_in, line_in}
use Rattle.replay_script.proofs.TextLines.{has_word}

-- ---- lines that are skipped

comment_words : (c : ℕ) (cs : List ℕ) → c ≡ 35 → (p : List ℕ) × (ps : List (List ℕ)) × (words_of (c ∷ cs) ≡ (35 ∷ p) ∷ ps)
comment_words c cs e =
    let rest = has_word cs in
    (rest.0, rest.1, ap (λ (x : ℕ). words_of (x ∷ cs)) e ∙ ap (onto_first 35) rest.2)

comment_form : (p : List ℕ) (ps : List (List ℕ)) → form_in ((35 ∷ p) ∷ ps) ≡ None
comment_form p ps = refl

pub skipped_form : (line : List ℕ) → is_skipped line ≡ true → form_in (words_of line) ≡ None
skipped_form [] e = refl
skipped_form (c ∷ cs) e = let w = comment_words c cs (eqb-true c 35 e) in ap form_in w.2 ∙ comment_form w.0 w.1

none_some : {A : Type 0} (o : Option A) (x : A) → o ≡ None → o ≡ Some x → ⊥
none_some o x none some = (let clash : None ≡ Some x = sym none ∙ some in cc)

pub no_form_and_form : (line : List ℕ) (f : LineForm) → form_in (words_of line) ≡ None → form_in (words_of line) ≡ Some f → ⊥
no_form_and_form line f none some = none_some (form_in (words_of line)) f none some

pub skipped_and_form : (line : List ℕ) (f : LineForm) → is_skipped line ≡ true → form_in (words_of line) ≡ Some f → ⊥
skipped_and_form line f skipped some = no_form_and_form line f (skipped_form line skipped) some

unskipped_by : (line : List ℕ) (f : LineForm) (b : Bool) → is_skipped line ≡ b → form_in (words_of line) ≡ Some f → is_skipped line ≡ false
unskipped_by line f true e some = absurd (skipped_and_form line f e some)
unskipped_by line f false e some = e

pub unskipped : (line : List ℕ) (f : LineForm) → form_in (words_of line) ≡ Some f → is_skipped line ≡ false
unskipped line f some = unskipped_by line f (is_skipped line) refl some

pub same_form : (words : List (List ℕ)) (f g : LineForm) → form_in words ≡ Some f → form_in words ≡ Some g → f ≡ g
same_form words f g e h = same_Some f g (sym e ∙ h)

-- ---- declarations

pub item_of : (words : List (List ℕ)) (f : LineForm) → form_in words ≡ Some f → declaration_form_in words ≡ declaration_form f
item_of words f e = ap (option_and_then declaration_form) e

form_of_item : (g : DeclarationForm) (found : Option LineForm) → option_and_then declaration_form found ≡ Some g → (f : LineForm) × (found ≡ Some f) × (declaration_form f ≡ Some g)
form_of_item g None e = absurd cc
form_of_item g (Some f) e = (f, refl, e)

pub item_is : (words : List (List ℕ)) (g : DeclarationForm) → declaration_form_in words ≡ Some g → (f : LineForm) × (form_in words ≡ Some f) × (declaration_form f ≡ Some g)
item_is words g e = form_of_item g (form_in words) e

pub item_and_other : (words : List (List ℕ)) (f : LineForm) (g : DeclarationForm) → form_in words ≡ Some f → declaration_form f ≡ None → declaration_form_in words ≡ Some g → ⊥
item_and_other words f g e none some = none_some (declaration_form_in words) g (item_of words f e ∙ none) some

pub line_of_item : (d : Declared) (f : LineForm) (m : List Meaning) (g : DeclarationForm) → declaration_form f ≡ Some g → line_in d f m ≡ None
line_of_item d form.Tenant m g e = refl
line_of_item d form.Access m g e = refl
line_of_item d form.Rate m g e = refl
line_of_item d form.Quota m g e = refl
line_of_item d form.Count m g e = refl
line_of_item d form.Redact m g e = refl
line_of_item d form.Store m g e = absurd cc
line_of_item d form.Submit m g e = absurd cc
line_of_item d form.Reply m g e = absurd cc
line_of_item d form.Race m g e = absurd cc
line_of_item d form.Turn m g e = absurd cc
line_of_item d form.Send m g e = absurd cc
line_of_item d form.Drain m g e = absurd cc
line_of_item d form.Moment m g e = absurd cc
line_of_item d form.Attach m g e = absurd cc
line_of_item d form.Detach m g e = absurd cc
line_of_item d form.Upgrade m g e = absurd cc
line_of_item d form.Conn m g e = absurd cc
line_of_item d form.Close m g e = absurd cc

pub policy_of_item : (f : LineForm) (m : List Meaning) (g : DeclarationForm) → declaration_form f ≡ Some g → policy_in f m ≡ None
policy_of_item form.Tenant m g e = refl
policy_of_item form.Access m g e = refl
policy_of_item form.Rate m g e = refl
policy_of_item form.Quota m g e = refl
policy_of_item form.Count m g e = refl
policy_of_item form.Redact m g e = refl
policy_of_item form.Store m g e = absurd cc
policy_of_item form.Submit m g e = absurd cc
policy_of_item form.Reply m g e = absurd cc
policy_of_item form.Race m g e = absurd cc
policy_of_item form.Turn m g e = absurd cc
policy_of_item form.Send m g e = absurd cc
policy_of_item form.Drain m g e = absurd cc
policy_of_item form.Moment m g e = absurd cc
policy_of_item form.Attach m g e = absurd cc
policy_of_item form.Detach m g e = absurd cc
policy_of_item form.Upgrade m g e = absurd cc
policy_of_item form.Conn m g e = absurd cc
policy_of_item form.Close m g e = absurd cc

-- ---- policies that lines name

no_map : {A B : Type 0} (f : A → B) (o : Option A) → option_map f o ≡ None → o ≡ None
no_map f None e = refl
no_map f (Some x) e = absurd cc

-- a line that names an undeclared policy is none
pub undeclared : (d : Declared) (f : LineForm) (m : List Meaning) (name : List ℕ) → policy_in f m ≡ Some name → policy_index d name ≡ None → line_in d f m ≡ None
undeclared d form.Attach m name e none = ap (option_map _) (ap (policy_index d) (same_Some (name_at m 4) name e) ∙ none)
undeclared d form.Upgrade m name e none = ap (option_map _) (ap (policy_index d) (same_Some (name_at m 3) name e) ∙ none)
undeclared d form.Tenant m name e none = absurd cc
undeclared d form.Access m name e none = absurd cc
undeclared d form.Rate m name e none = absurd cc
undeclared d form.Quota m name e none = absurd cc
undeclared d form.Count m name e none = absurd cc
undeclared d form.Redact m name e none = absurd cc
undeclared d form.Store m name e none = absurd cc
undeclared d form.Submit m name e none = absurd cc
undeclared d form.Reply m name e none = absurd cc
undeclared d form.Race m name e none = absurd cc
undeclared d form.Turn m name e none = absurd cc
undeclared d form.Send m name e none = absurd cc
undeclared d form.Drain m name e none = absurd cc
undeclared d form.Moment m name e none = absurd cc
undeclared d form.Detach m name e none = absurd cc
undeclared d form.Conn m name e none = absurd cc
undeclared d form.Close m name e none = absurd cc

-- a form of which no line is made names a policy that isn't declared
pub record IsUndeclared (d : Declared) (f : LineForm) (m : List Meaning) : Type 0 where
  pub name : List ℕ
  pub named : policy_in f m ≡ Some name
  pub none : policy_index d name ≡ None

pub no_line : (d : Declared) (f : LineForm) (m : List Meaning) → declaration_form f ≡ None → f ≢ form.Close → line_in d f m ≡ None → IsUndeclared d f m
no_line d form.Attach m item open_still e = record { name = name_at m 4; named = refl; none = no_map _ (policy_index d (name_at m 4)) e }
no_line d form.Upgrade m item open_still e = record { name = name_at m 3; named = refl; none = no_map _ (policy_index d (name_at m 3)) e }
no_line d form.Close m item open_still e = absurd (open_still refl)
no_line d form.Tenant m item open_still e = absurd cc
no_line d form.Access m item open_still e = absurd cc
no_line d form.Rate m item open_still e = absurd cc
no_line d form.Quota m item open_still e = absurd cc
no_line d form.Count m item open_still e = absurd cc
no_line d form.Redact m item open_still e = absurd cc
no_line d form.Store m item open_still e = absurd cc
no_line d form.Submit m item open_still e = absurd cc
no_line d form.Reply m item open_still e = absurd cc
no_line d form.Race m item open_still e = absurd cc
no_line d form.Turn m item open_still e = absurd cc
no_line d form.Send m item open_still e = absurd cc
no_line d form.Drain m item open_still e = absurd cc
no_line d form.Moment m item open_still e = absurd cc
no_line d form.Detach m item open_still e = absurd cc
no_line d form.Conn m item open_still e = absurd cc
