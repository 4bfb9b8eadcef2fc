-- The tokens that complete a statement after its first token, and the part that its first token starts.
use Rattle.std.proofs.Common.{◌≡◌, inl, inr, ℕ, Bool, true, false, List, [], ◌∷◌, ◌++◌, codes, refl, ap, sym, ◌∙◌}
use Rattle.std.specs.Prelude.{Ok, Err, Result, Option, if◌then◌else◌, not, ◌&&◌, ◌||◌}
use Rattle.proto_grammar.specs.Lexemes.{TokenMeaning, identifier, integer, number, string, mark, the_end, none, Lexeme, semicolon, opening_brace, make_word, IsWord, IsPunctuator, is_the_word}
use Rattle.proto_grammar.specs.Lexemes.{is_no_token}
use Rattle.proto_grammar.specs.Advancing.{proto_fault_at, wrong, is_punctuator, advance_full_name, advance_option, advance_field, advance_reserved, advance_value, advance_rpc}
use Rattle.proto_schema.specs.StatementReading.{more, done, of_field, of_package, imported, advance_import, of_options, of_reserved, of_value, of_rpc, advance_statement}
use Rattle.proto_schema.proofs.Choices.{either_is, named_is, and_both, word_is}
use Rattle.proto_schema.proofs.NameLemmas.{mark_is}
use Rattle.proto_schema.proofs.NameRest.{FullRest, NameBack, full_back}
use Rattle.proto_schema.proofs.OptionRest.{OptionRest, OptionBack, option_back}
use Rattle.proto_schema.proofs.FieldRest.{FieldRest, FieldBack, field_back}
use Rattle.proto_schema.proofs.ReservedRest.{Kept, ReservedRest, ReservedBack, part_back}
use Rattle.proto_schema.proofs.ValueRest.{ValueRest, ValueBack, value_back}
use Rattle.proto_schema.proofs.RpcRest.{RpcRest, RpcBack, rpc_back}
use Rattle.proto_ast.specs.declared.file.Word.{Word}
use Rattle.proto_ast.specs.declared.file.Import.{Import}
use Rattle.proto_ast.specs.declared.file.FieldDecl.{FieldDecl}
use Rattle.proto_ast.specs.declared.file.ValueDecl.{ValueDecl}
use Rattle.proto_ast.specs.declared.file.RpcDecl.{RpcDecl}
use Rattle.proto_grammar.specs.declared.fault.ProtoReason.TheVariants as reasons
use Rattle.proto_grammar.specs.declared.fault.ProtoFault.{ProtoFault}
use Rattle.proto_grammar.specs.declared.name.NameState.{NameState}
use Rattle.proto_grammar.specs.declared.name.NameStep.{NameStep}
use Rattle.proto_grammar.specs.declared.name.NameStep.TheVariants as name_steps
use Rattle.proto_grammar.specs.declared.option.OptionState.{OptionState}
use Rattle.proto_grammar.specs.declared.option.OptionStep.{OptionStep}
use Rattle.proto_grammar.specs.declared.option.OptionStep.TheVariants as option_steps
use Rattle.proto_grammar.specs.declared.field.FieldState.{FieldState}
use Rattle.proto_grammar.specs.declared.field.FieldStep.{FieldStep}
use Rattle.proto_grammar.specs.declared.field.FieldStep.TheVariants as field_steps
use Rattle.proto_grammar.specs.declared.value.ValueState.{ValueState}
use Rattle.proto_grammar.specs.declared.value.ValueStep.{ValueStep}
use Rattle.proto_grammar.specs.declared.value.ValueStep.TheVariants as value_steps
use Rattle.proto_grammar.specs.declared.rpc.RpcState.{RpcState}
use Rattle.proto_grammar.specs.declared.rpc.RpcStep.{RpcStep}
use Rattle.proto_grammar.specs.declared.rpc.RpcStep.TheVariants as rpc_steps
use Rattle.proto_grammar.specs.declared.reserved.ReservedState.{ReservedState}
use Rattle.proto_grammar.specs.declared.reserved.ReservedStep.{ReservedStep}
use Rattle.proto_grammar.specs.declared.reserved.ReservedStep.TheVariants as reserved_steps
use Rattle.proto_schema.specs.declared.statement.StatementPlace.{StatementPlace}
use Rattle.proto_schema.specs.declared.statement.Opening.{Opening}
use Rattle.proto_schema.specs.declared.statement.StatementState.{StatementState}
use Rattle.proto_schema.specs.declared.statement.StatementState.TheVariants as states
use Rattle.proto_schema.specs.declared.statement.StatementEffect.{StatementEffect}
use Rattle.proto_schema.specs.declared.statement.StatementEffect.TheVariants as said
use Rattle.proto_schema.specs.declared.statement.StatementStep.{StatementStep}
use Rattle.proto_schema.specs.declared.statement.StatementStep.TheVariants as steps

-- ---- the completion of a statement

pub data PackageRest (s : NameState) (all : List Lexeme) (v : StatementEffect) : Type 0 where
  package_rest : (z : Lexeme) (ys : List Lexeme) (w : Word) → FullRest s ys w → IsPunctuator z semicolon → all ≡ ys ++ z ∷ []
      → said.Package w ≡ v → PackageRest s all v

pub data ImportedRest (i : Import) (all : List Lexeme) (v : StatementEffect) : Type 0 where
  imported_rest : (z : Lexeme) → IsPunctuator z semicolon → all ≡ z ∷ [] → said.Import i ≡ v → ImportedRest i all v

pub data ImportRest (public : Bool) (all : List Lexeme) (v : StatementEffect) : Type 0 where
  path_rest : (y : Lexeme) (path : List ℕ) {rest : List Lexeme} → y.means ≡ string path
      → ImportedRest (imported public path y.span) rest v → all ≡ y ∷ rest → ImportRest public all v
  public_rest : (p y : Lexeme) (path : List ℕ) {rest : List Lexeme} → public ≡ false → IsWord p (codes "public")
      → y.means ≡ string path → ImportedRest (imported true path y.span) rest v → all ≡ p ∷ y ∷ rest
      → ImportRest public all v

pub data OptionEnd (s : OptionState) (all : List Lexeme) (v : StatementEffect) : Type 0 where
  option_end : (z : Lexeme) (ys : List Lexeme) (b : Option Bool) → OptionRest s ys b → IsPunctuator z semicolon
      → all ≡ ys ++ z ∷ [] → said.Nothing ≡ v → OptionEnd s all v

pub data OpenedRest (o : Opening) (w : Word) (all : List Lexeme) (v : StatementEffect) : Type 0 where
  opened_rest : (z : Lexeme) → IsPunctuator z opening_brace → all ≡ z ∷ [] → said.Open o w ≡ v → OpenedRest o w all v

pub data OpeningRest (o : Opening) (all : List Lexeme) (v : StatementEffect) : Type 0 where
  opening_rest : (y : Lexeme) (n : List ℕ) {rest : List Lexeme} → IsWord y n → OpenedRest o (make_word n y.span) rest v
      → all ≡ y ∷ rest → OpeningRest o all v

abbrev pub said_of : Kept → StatementEffect
said_of (inl rs) = said.Ranges rs
said_of (inr ws) = said.Names ws

abbrev pub Rest : StatementState → List Lexeme → StatementEffect → Type 0
Rest states.Begin ys v = ⊥
Rest (states.Package s) ys v = PackageRest s ys v
Rest (states.Import public) ys v = ImportRest public ys v
Rest (states.Imported i) ys v = ImportedRest i ys v
Rest (states.Option s) ys v = OptionEnd s ys v
Rest (states.Opening o) ys v = OpeningRest o ys v
Rest (states.Opened o w) ys v = OpenedRest o w ys v
Rest (states.Field s) ys v = (f : FieldDecl) × FieldRest s ys f × (said.Field f ≡ v)
Rest (states.Reserved s) ys v = (out : Kept) × ReservedRest s ys out × (said_of out ≡ v)
Rest (states.Value s) ys v = (d : ValueDecl) × ValueRest s ys d × (said.Value d ≡ v)
Rest (states.Rpc s) ys v = (r : RpcDecl) × (block : Bool) × RpcRest s ys r block × (said.Rpc r block ≡ v)

abbrev pub NotBegin : StatementState → Type 0
NotBegin states.Begin = ⊥
NotBegin s = Unit {0}

abbrev pub Back : StatementState → Lexeme → Result StatementStep ProtoFault → Type 0
Back s x (Ok (steps.More t)) = (NotBegin t) × ((ys : List Lexeme) (v : StatementEffect) → Rest t ys v → Rest s (x ∷ ys) v)
Back s x (Ok (steps.Done v)) = Rest s (x ∷ []) v
Back s x (Err e) = Unit {0}

package_back : (s : NameState) (x : Lexeme) (r : Result NameStep ProtoFault) → NameBack FullRest s x r
    → Back (states.Package s) x (of_package x r)
package_back s x (Ok (name_steps.More t)) b = (tt, λ ys v k. by ys v k)
  where
    by : (ys : List Lexeme) (v : StatementEffect) → PackageRest t ys v → PackageRest s (x ∷ ys) v
    by ys v (package_rest z us w r m a q) = package_rest z (x ∷ us) w (b us w r) m (ap (λ (l : List Lexeme). x ∷ l) a) q
package_back s x (Ok (name_steps.Whole w)) b =
    either_is (Back (states.Package s) x) (is_punctuator x.means semicolon) (done (said.Package w)) (wrong x) (λ h. package_rest x [] w b (mark_is x.means semicolon h) refl refl) (λ h. tt)
package_back s x (Err e) b = tt

import_other : (public : Bool) (x : Lexeme) (m : TokenMeaning) → x.means ≡ m
    → Back (states.Import public) x (if not public && is_the_word m (codes "public") then more (states.Import true)
    else if is_no_token m || public then wrong x else Err (proto_fault_at reasons.Import x.span))
import_other public x m e =
    either_is (Back (states.Import public) x) (not public && is_the_word m (codes "public")) (more (states.Import true))
    (if is_no_token m || public then wrong x else Err (proto_fault_at reasons.Import x.span))
    (λ h. let b : (not public ≡ true) × (is_the_word m (codes "public") ≡ true) =
    and_both (not public) (is_the_word m (codes "public")) h in
    (tt, λ ys v k. by (is_plain public b.0) (e ∙ word_is m (codes "public") b.1) ys v k))
    (λ h. either_is (Back (states.Import public) x) (is_no_token m || public) (wrong x) (Err (proto_fault_at reasons.Import x.span)) (λ k. tt) (λ k. tt))
  where
    is_plain : (p : Bool) → not p ≡ true → p ≡ false
    is_plain true h = sym h
    is_plain false h = refl

    by : public ≡ false → IsWord x (codes "public") → (ys : List Lexeme) (v : StatementEffect) → ImportRest true ys v
        → ImportRest public (x ∷ ys) v
    by p w ys v (path_rest y path s r a) = public_rest x y path p w s r (ap (λ (l : List Lexeme). x ∷ l) a)
    by p w ys v (public_rest q y path f u s r a) = absurd (let t : true ≡ false = f in cc)

import_back : (public : Bool) (x : Lexeme) (m : TokenMeaning) → x.means ≡ m
    → Back (states.Import public) x (advance_import public x m)
import_back public x (string path) e = (tt, λ ys v k. path_rest x path e k refl)
import_back public x the_end e = tt
import_back public x (identifier n) e = import_other public x (identifier n) e
import_back public x (integer n) e = import_other public x (integer n) e
import_back public x number e = import_other public x number e
import_back public x (mark c) e = import_other public x (mark c) e
import_back public x none e = import_other public x none e

options_back : (s : OptionState) (x : Lexeme) (r : Result OptionStep ProtoFault) → OptionBack s x r
    → Back (states.Option s) x (of_options x r)
options_back s x (Ok (option_steps.More t)) b = (tt, λ ys v k. by ys v k)
  where
    by : (ys : List Lexeme) (v : StatementEffect) → OptionEnd t ys v → OptionEnd s (x ∷ ys) v
    by ys v (option_end z us d r m a q) = option_end z (x ∷ us) d (b us d r) m (ap (λ (l : List Lexeme). x ∷ l) a) q
options_back s x (Ok (option_steps.Whole d)) b =
    either_is (Back (states.Option s) x) (is_punctuator x.means semicolon) (done said.Nothing) (wrong x) (λ h. option_end x [] d b (mark_is x.means semicolon h) refl refl) (λ h. tt)
options_back s x (Err e) b = tt

of_field_back : (s : FieldState) (x : Lexeme) (r : Result FieldStep ProtoFault) → FieldBack s x r
    → Back (states.Field s) x (of_field r)
of_field_back s x (Ok (field_steps.More t)) b = (tt, λ ys v k. (k.0, b ys k.0 k.1, k.2))
of_field_back s x (Ok (field_steps.Done f)) b = (f, b, refl)
of_field_back s x (Err e) b = tt

of_reserved_back : (s : ReservedState) (x : Lexeme) (r : Result ReservedStep ProtoFault)
    → ReservedBack s.signed s.part x r → Back (states.Reserved s) x (of_reserved r)
of_reserved_back s x (Ok (reserved_steps.More t)) b = (tt, λ ys v k. (k.0, b ys k.0 k.1, k.2))
of_reserved_back s x (Ok (reserved_steps.Ranges rs)) b = (inl rs, b, refl)
of_reserved_back s x (Ok (reserved_steps.Names ws)) b = (inr ws, b, refl)
of_reserved_back s x (Err e) b = tt

of_value_back : (s : ValueState) (x : Lexeme) (r : Result ValueStep ProtoFault) → ValueBack s x r
    → Back (states.Value s) x (of_value r)
of_value_back s x (Ok (value_steps.More t)) b = (tt, λ ys v k. (k.0, b ys k.0 k.1, k.2))
of_value_back s x (Ok (value_steps.Done f)) b = (f, b, refl)
of_value_back s x (Err e) b = tt

of_rpc_back : (s : RpcState) (x : Lexeme) (r : Result RpcStep ProtoFault) → RpcBack s x r
    → Back (states.Rpc s) x (of_rpc r)
of_rpc_back s x (Ok (rpc_steps.More t)) b = (tt, λ ys v k. (k.0, k.1, b ys k.0 k.1 k.2, k.3))
of_rpc_back s x (Ok (rpc_steps.Done r block)) b = (r, block, b, refl)
of_rpc_back s x (Err e) b = tt

pub statement_back : (p : StatementPlace) (s : StatementState) (x : Lexeme) → NotBegin s → Back s x (advance_statement p s x)
unfolding advance_statement advance_reserved
statement_back p states.Begin x h = absurd h
statement_back p (states.Package s) x h = package_back s x (advance_full_name s x) (full_back s x)
statement_back p (states.Import public) x h = import_back public x x.means refl
statement_back p (states.Imported i) x h =
    either_is (Back (states.Imported i) x) (is_punctuator x.means semicolon) (done (said.Import i)) (wrong x) (λ k. imported_rest x (mark_is x.means semicolon k) refl refl) (λ k. tt)
statement_back p (states.Option s) x h = options_back s x (advance_option s x) (option_back s x)
statement_back p (states.Opening o) x h =
    named_is (Back (states.Opening o) x) x (λ n. steps.More (states.Opened o (make_word n x.span))) (λ n k. (tt, λ ys v r. opening_rest x n k r refl)) tt
statement_back p (states.Opened o w) x h =
    either_is (Back (states.Opened o w) x) (is_punctuator x.means opening_brace) (done (said.Open o w)) (wrong x) (λ k. opened_rest x (mark_is x.means opening_brace k) refl refl) (λ k. tt)
statement_back p (states.Field s) x h = of_field_back s x (advance_field s x) (field_back s x)
statement_back p (states.Reserved s) x h = of_reserved_back s x (advance_reserved s x) (part_back s.signed s.part x)
statement_back p (states.Value s) x h = of_value_back s x (advance_value s x) (value_back s x)
statement_back p (states.Rpc s) x h = of_rpc_back s x (advance_rpc s x) (rpc_back s x)
