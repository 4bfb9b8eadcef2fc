-- The values of first lines, by the index of the word.
use Rattle.std.proofs.Common.{◌≡◌, ℕ, zero, suc, List, [], ◌∷◌, Some, refl, sym, ap, subst}
use Rattle.std.specs.Prelude.{slice_get}
use Rattle.std.proofs.lemmas.Option.{same_Some}
use Rattle.mrpc_table.specs.Lines.{IsIn}
use Rattle.mrpc_table.specs.Names.{IsName}
use Rattle.script_grammar.specs.Forms.{word_kinds_of}
use Rattle.script_grammar.specs.Lines.{HaveMeanings}
use Rattle.script_grammar.specs.WordKinds.{Meaning, word, number, unbounded, name, HasMeaning, number_in, name_in, name_at, number_at}
use Rattle.script_grammar.specs.declared.word_kind.WordKind.{WordKind}
use Rattle.script_grammar.specs.declared.word_kind.WordKind.TheVariants.{Number, Name}
use Rattle.policy_declarations.specs.DeclarationTexts.{head_form}
use Rattle.policy_declarations.specs.declared.declaration_form.DeclarationForm.{DeclarationForm}
use Rattle.policy_declarations.specs.declared.declaration_form.DeclarationForm.TheVariants as of

number_said : (least most : ℕ) (w : List ℕ) (m : Meaning) → HasMeaning (Number least most) w m → IsIn least most (number_in (Some m))
number_said least most w (word k) h = absurd h
number_said least most w (number n) h = h.1
number_said least most w (unbounded d) h = absurd h
number_said least most w (name x) h = absurd h

-- a word is a number in its range
pub number_there : (sorts : List WordKind) (ws : List (List ℕ)) (ms : List Meaning) (i least most : ℕ)
    → HaveMeanings sorts ws ms → slice_get sorts i ≡ Some (Number least most) → IsIn least most (number_at ms i)
number_there [] ws ms i least most h at = absurd cc
number_there (s ∷ sorts) [] ms i least most h at = absurd h
number_there (s ∷ sorts) (w ∷ ws) [] i least most h at = absurd h
number_there (s ∷ sorts) (w ∷ ws) (m ∷ ms) zero least most h at = number_said least most w m (subst (λ (x : WordKind). HasMeaning x w m) (same_Some s (Number least most) at) h.0)
number_there (s ∷ sorts) (w ∷ ws) (m ∷ ms) (suc i) least most h at = number_there sorts ws ms i least most h.1 at

-- a word is a name
pub record IsNamed (ws : List (List ℕ)) (ms : List Meaning) (i : ℕ) : Type 0 where
  pub at : slice_get ws i ≡ Some (name_at ms i)
  pub named : IsName (name_at ms i)

name_said : (w : List ℕ) (m : Meaning) → HasMeaning Name w m → (w ≡ name_in (Some m)) × IsName (name_in (Some m))
name_said w (word k) h = absurd h
name_said w (number n) h = absurd h
name_said w (unbounded d) h = absurd h
name_said w (name x) h = (sym h.0, subst IsName (sym h.0) h.1)

pub name_there : (sorts : List WordKind) (ws : List (List ℕ)) (ms : List Meaning) (i : ℕ) → HaveMeanings sorts ws ms → slice_get sorts i ≡ Some Name → IsNamed ws ms i
name_there [] ws ms i h at = absurd cc
name_there (s ∷ sorts) [] ms i h at = absurd h
name_there (s ∷ sorts) (w ∷ ws) [] i h at = absurd h
name_there (s ∷ sorts) (w ∷ ws) (m ∷ ms) zero h at =
    let n = name_said w m (subst (λ (x : WordKind). HasMeaning x w m) (same_Some s Name at) h.0) in
    record { at = ap (λ (x : List ℕ). Some x) n.0; named = n.1 }
name_there (s ∷ sorts) (w ∷ ws) (m ∷ ms) (suc i) h at = let more = name_there sorts ws ms i h.1 at in record { at = more.at; named = more.named }

-- the name of a declaration
pub item_named : (f : DeclarationForm) (ws : List (List ℕ)) (ms : List Meaning) → HaveMeanings (word_kinds_of (head_form f)) ws ms → IsNamed ws ms 1
item_named of.Tenant ws ms h = name_there (word_kinds_of (head_form of.Tenant)) ws ms 1 h refl
item_named of.Access ws ms h = name_there (word_kinds_of (head_form of.Access)) ws ms 1 h refl
item_named of.Rate ws ms h = name_there (word_kinds_of (head_form of.Rate)) ws ms 1 h refl
item_named of.Quota ws ms h = name_there (word_kinds_of (head_form of.Quota)) ws ms 1 h refl
item_named of.Count ws ms h = name_there (word_kinds_of (head_form of.Count)) ws ms 1 h refl
item_named of.Redact ws ms h = name_there (word_kinds_of (head_form of.Redact)) ws ms 1 h refl
