-- The tokens that complete a value of an enum, by how much of it is read.
use Rattle.std.proofs.Common.{◌≡◌, Bool, true, false, List, [], ◌∷◌, ◌++◌, refl, ap}
use Rattle.std.specs.Prelude.{Ok, Err, Result, Option}
use Rattle.mrpc_table.specs.declared.words.Decimal.{Decimal}
use Rattle.proto_grammar.specs.Lexemes.{integer, Lexeme, semicolon, equals, minus, span_to, make_number, IsPunctuator}
use Rattle.proto_grammar.specs.Grammar.{IsNumberToken, whole, negative, AreFieldOptions}
use Rattle.proto_grammar.specs.Advancing.{wrong, is_punctuator, if_number, advance_tail, advance_value, more_value, of_value_tail}
use Rattle.proto_schema.proofs.Choices.{either_is, numbered_is}
use Rattle.proto_schema.proofs.NameLemmas.{mark_is}
use Rattle.proto_schema.proofs.TailRest.{TailRest, TailBack, tail_back, OptionsEnd, options_end}
use Rattle.proto_ast.specs.declared.file.Span.{Span}
use Rattle.proto_ast.specs.declared.file.Word.{Word}
use Rattle.proto_ast.specs.declared.file.Number.{Number}
use Rattle.proto_ast.specs.declared.file.ValueDecl.{ValueDecl}
use Rattle.proto_grammar.specs.declared.fault.ProtoFault.{ProtoFault}
use Rattle.proto_grammar.specs.declared.value.ValueState.{ValueState}
use Rattle.proto_grammar.specs.declared.value.ValueState.TheVariants as values
use Rattle.proto_grammar.specs.declared.value.ValueStep.{ValueStep}
use Rattle.proto_grammar.specs.declared.value.ValueStep.TheVariants as steps
use Rattle.proto_grammar.specs.declared.tail.TailState.{TailState}
use Rattle.proto_grammar.specs.declared.tail.TailState.TheVariants as tails
use Rattle.proto_grammar.specs.declared.tail.TailStep.{TailStep}
use Rattle.proto_grammar.specs.declared.tail.TailStep.TheVariants as tail_steps

abbrev pub value_of : Word → Number → ValueDecl
value_of name n = record { name = name; number = n }

pub data NumberedValue (name : Word) (all : List Lexeme) (v : ValueDecl) : Type 0 where
  numbered_value : (z : Lexeme) {ns os : List Lexeme} {n : Number} {packed : Option Bool} → IsNumberToken true ns n
      → AreFieldOptions os packed → IsPunctuator z semicolon → all ≡ ns ++ os ++ z ∷ [] → value_of name n ≡ v
      → NumberedValue name all v

pub data MinusValue (name : Word) (s : Span) (all : List Lexeme) (v : ValueDecl) : Type 0 where
  minus_value : (x z : Lexeme) (value : Decimal) {os : List Lexeme} {packed : Option Bool} → x.means ≡ integer value
      → AreFieldOptions os packed → IsPunctuator z semicolon → all ≡ x ∷ os ++ z ∷ []
      → value_of name (make_number true value (span_to s x.span)) ≡ v → MinusValue name s all v

pub data NamedValue (name : Word) (all : List Lexeme) (v : ValueDecl) : Type 0 where
  named_value : (y : Lexeme) {rest : List Lexeme} → IsPunctuator y equals → NumberedValue name rest v → all ≡ y ∷ rest
      → NamedValue name all v

abbrev pub ValueRest : ValueState → List Lexeme → ValueDecl → Type 0
ValueRest (values.Named name) ys v = NamedValue name ys v
ValueRest (values.Equals name) ys v = NumberedValue name ys v
ValueRest (values.Minus name s) ys v = MinusValue name s ys v
ValueRest (values.Tail name n s) ys v = (packed : Option Bool) × TailRest s ys packed × (value_of name n ≡ v)

abbrev pub ValueBack : ValueState → Lexeme → Result ValueStep ProtoFault → Type 0
ValueBack s x (Ok (steps.More t)) = (ys : List Lexeme) (v : ValueDecl) → ValueRest t ys v → ValueRest s (x ∷ ys) v
ValueBack s x (Ok (steps.Done v)) = ValueRest s (x ∷ []) v
ValueBack s x (Err e) = Unit {0}

whole_back : (name : Word) (x : Lexeme) (n : Decimal) → x.means ≡ integer n → (ys : List Lexeme) (v : ValueDecl)
    → (packed : Option Bool) × OptionsEnd ys packed × (value_of name (make_number false n x.span) ≡ v)
    → NumberedValue name (x ∷ ys) v
whole_back name x n e ys v (packed, options_end z o s a, q) = numbered_value z (whole x n e) o s (ap (λ (l : List Lexeme). x ∷ l) a) q

minus_back : (name : Word) (x : Lexeme) → IsPunctuator x minus → (ys : List Lexeme) (v : ValueDecl)
    → MinusValue name x.span ys v → NumberedValue name (x ∷ ys) v
minus_back name x m ys v (minus_value y z n e o s a q) = numbered_value z (negative x y n refl m e) o s (ap (λ (l : List Lexeme). x ∷ l) a) q

negative_back : (name : Word) (s : Span) (x : Lexeme) (n : Decimal) → x.means ≡ integer n
    → (ys : List Lexeme) (v : ValueDecl)
    → (packed : Option Bool) × OptionsEnd ys packed × (value_of name (make_number true n (span_to s x.span)) ≡ v)
    → MinusValue name s (x ∷ ys) v
negative_back name s x n e ys v (packed, options_end z o k a, q) = minus_value x z n e o k (ap (λ (l : List Lexeme). x ∷ l) a) q

of_value_tail_back : (name : Word) (n : Number) (s : TailState) (x : Lexeme) (r : Result TailStep ProtoFault)
    → TailBack s x r → ValueBack (values.Tail name n s) x (of_value_tail name n r)
of_value_tail_back name n s x (Ok (tail_steps.More t)) b = λ ys v k. (k.0, b ys k.0 k.1, k.2)
of_value_tail_back name n s x (Ok (tail_steps.Done packed)) b = (packed, b, refl)
of_value_tail_back name n s x (Err e) b = tt

pub value_back : (s : ValueState) (x : Lexeme) → ValueBack s x (advance_value s x)
unfolding advance_value
value_back (values.Named name) x =
    either_is (ValueBack (values.Named name) x) (is_punctuator x.means equals) (more_value (values.Equals name)) (wrong x)
    (λ h. λ ys v k. named_value x (mark_is x.means equals h) k refl) (λ h. tt)
value_back (values.Equals name) x =
    either_is (ValueBack (values.Equals name) x) (is_punctuator x.means minus) (more_value (values.Minus name x.span))
    (if_number x (λ v. steps.More (values.Tail name (make_number false v x.span) tails.Start)))
    (λ h. minus_back name x (mark_is x.means minus h))
    (λ h. numbered_is (ValueBack (values.Equals name) x) x (λ v. steps.More (values.Tail name (make_number false v x.span) tails.Start)) (λ v e. whole_back name x v e) tt)
value_back (values.Minus name s) x =
    numbered_is (ValueBack (values.Minus name s) x) x (λ v. steps.More (values.Tail name (make_number true v (span_to s x.span)) tails.Start)) (λ v e. negative_back name s x v e) tt
value_back (values.Tail name n s) x = of_value_tail_back name n s x (advance_tail s x) (tail_back s x)
