-- The tokens that complete a field or value after its number: options in brackets and `;`.
use Rattle.std.proofs.Common.{subst, ◌≡◌, Bool, List, [], ◌∷◌, ◌++◌, refl, ap, sym, ◌∙◌}
use Rattle.std.specs.Prelude.{Ok, Err, Result, Option, Some, None, if◌then◌else◌}
use Rattle.std.proofs.lemmas.List.{append_assoc}
use Rattle.proto_grammar.specs.Lexemes.{Lexeme, comma, semicolon, opening_bracket, closing_bracket, IsPunctuator}
use Rattle.proto_grammar.specs.Grammar.{IsOption, option, latest, AreOptions, one_option, options, AreFieldOptions, no_options, bracketed}
use Rattle.proto_grammar.specs.Advancing.{wrong, is_punctuator, advance_option, next_option, advance_tail, of_option, after_option}
use Rattle.proto_schema.proofs.Choices.{either_is}
use Rattle.proto_schema.proofs.NameLemmas.{mark_is}
use Rattle.proto_schema.proofs.OptionRest.{from_name, OptionRest, OptionBack, option_back}
use Rattle.proto_grammar.specs.declared.fault.ProtoFault.{ProtoFault}
use Rattle.proto_grammar.specs.declared.option.OptionState.{OptionState}
use Rattle.proto_grammar.specs.declared.option.OptionStep.{OptionStep}
use Rattle.proto_grammar.specs.declared.option.OptionStep.TheVariants as option_steps
use Rattle.proto_grammar.specs.declared.tail.TailState.{TailState}
use Rattle.proto_grammar.specs.declared.tail.TailState.TheVariants as tails
use Rattle.proto_grammar.specs.declared.tail.TailStep.{TailStep}
use Rattle.proto_grammar.specs.declared.tail.TailStep.TheVariants as steps

pub option_of : (ys : List Lexeme) (b : Option Bool) → OptionRest next_option ys b → IsOption ys b
option_of ys b (from_name x n q v e s) = option x n q v e (sym s)

-- after an option, given the value of `packed` so far
pub data BehindOption (p : Option Bool) (all : List Lexeme) (b : Option Bool) : Type 0 where
  closed : (x z : Lexeme) → IsPunctuator x closing_bracket → IsPunctuator z semicolon → all ≡ x ∷ z ∷ [] → p ≡ b
      → BehindOption p all b
  comma_behind : (x y z : Lexeme) {ys : List Lexeme} {d : Option Bool} → IsPunctuator x comma → AreOptions ys d
      → IsPunctuator y closing_bracket → IsPunctuator z semicolon → all ≡ x ∷ ys ++ y ∷ z ∷ [] → latest p d ≡ b
      → BehindOption p all b

pub data InOption (p : Option Bool) (s : OptionState) (all : List Lexeme) (b : Option Bool) : Type 0 where
  in_option : (ys : List Lexeme) {rest : List Lexeme} (d : Option Bool) → OptionRest s ys d
      → BehindOption (latest p d) rest b → all ≡ ys ++ rest → InOption p s all b

pub data ClosedRest (p : Option Bool) : List Lexeme → Option Bool → Type 0 where
  closed_rest : (z : Lexeme) → IsPunctuator z semicolon → ClosedRest p (z ∷ []) p

pub data OptionsEnd (all : List Lexeme) (b : Option Bool) : Type 0 where
  options_end : (z : Lexeme) {os : List Lexeme} → AreFieldOptions os b → IsPunctuator z semicolon → all ≡ os ++ z ∷ []
      → OptionsEnd all b

abbrev pub TailRest : TailState → List Lexeme → Option Bool → Type 0
TailRest tails.Start ys b = OptionsEnd ys b
TailRest (tails.Options p s) ys b = InOption p s ys b
TailRest (tails.Closed p) ys b = ClosedRest p ys b

abbrev pub TailBack : TailState → Lexeme → Result TailStep ProtoFault → Type 0
TailBack s x (Ok (steps.More t)) = (ys : List Lexeme) (b : Option Bool) → TailRest t ys b → TailRest s (x ∷ ys) b
TailBack s x (Ok (steps.Done b)) = TailRest s (x ∷ []) b
TailBack s x (Err e) = Unit {0}

pub latest_assoc : (a b c : Option Bool) → latest (latest a b) c ≡ latest a (latest b c)
latest_assoc a b (Some t) = refl
latest_assoc a b None = refl

pub latest_none : (a : Option Bool) → latest None a ≡ a
latest_none (Some t) = refl
latest_none None = refl

-- options from one on, up to the bracket and the semicolon
pub data ListEnd (p : Option Bool) (all : List Lexeme) (b : Option Bool) : Type 0 where
  list_end : (y z : Lexeme) {ys : List Lexeme} {d : Option Bool} → AreOptions ys d → IsPunctuator y closing_bracket
      → IsPunctuator z semicolon → all ≡ ys ++ y ∷ z ∷ [] → latest p d ≡ b → ListEnd p all b

list_from : (p : Option Bool) (all : List Lexeme) (b : Option Bool) → InOption p next_option all b → ListEnd p all b
list_from p all b (in_option ys d r (closed x z h k e s) a) =
    list_end x z (one_option (option_of ys d r)) h k (a ∙ ap (λ (l : List Lexeme). ys ++ l) e) s
list_from p all b (in_option ys d r (comma_behind x y z {ys = zs} {d = c} h o k l e s) a) =
    list_end y z (options x (option_of ys d r) h o refl) k l
    (a ∙ (ap (λ (l : List Lexeme). ys ++ l) e ∙ sym (append_assoc ys (x ∷ zs) (y ∷ z ∷ []))))
    (sym (latest_assoc p d c) ∙ s)

behind_back : (p d : Option Bool) (s : OptionState) (x : Lexeme) → OptionRest s [] d
    → TailBack (tails.Options p s) x (after_option (latest p d) x)
behind_back p d s x r =
    either_is (TailBack (tails.Options p s) x) (is_punctuator x.means comma)
    (Ok (steps.More (tails.Options (latest p d) next_option)))
    (if is_punctuator x.means closing_bracket then Ok (steps.More (tails.Closed (latest p d))) else wrong x)
    (λ h. goes (mark_is x.means comma h))
    (λ h. either_is (TailBack (tails.Options p s) x) (is_punctuator x.means closing_bracket)
    (Ok (steps.More (tails.Closed (latest p d)))) (wrong x) (λ k. stops (mark_is x.means closing_bracket k))
    (λ k. tt))
  where
    goes : IsPunctuator x comma → (ys : List Lexeme) (b : Option Bool) → InOption (latest p d) next_option ys b
        → InOption p s (x ∷ ys) b
    goes h ys b i = by (list_from (latest p d) ys b i)
      where
        by : ListEnd (latest p d) ys b → InOption p s (x ∷ ys) b
        by (list_end y z o k l e t) = in_option [] d r (comma_behind x y z h o k l (ap (λ (l : List Lexeme). x ∷ l) e) t) refl

    stops : IsPunctuator x closing_bracket → (ys : List Lexeme) (b : Option Bool) → ClosedRest (latest p d) ys b
        → InOption p s (x ∷ ys) b
    stops h ys b (closed_rest z k) = in_option [] d r (closed x z h k refl refl) refl

in_option_back : (p : Option Bool) (s : OptionState) (x : Lexeme) (r : Result OptionStep ProtoFault) → OptionBack s x r
    → TailBack (tails.Options p s) x (of_option p x r)
in_option_back p s x (Ok (option_steps.More t)) k = λ ys b i. by ys b i
  where
    by : (ys : List Lexeme) (b : Option Bool) → InOption p t ys b → InOption p s (x ∷ ys) b
    by ys b (in_option zs d r e a) = in_option (x ∷ zs) d (k zs d r) e (ap (λ (l : List Lexeme). x ∷ l) a)
in_option_back p s x (Ok (option_steps.Whole d)) k = behind_back p d s x k
in_option_back p s x (Err e) k = tt

bracket_back : (x : Lexeme) → IsPunctuator x opening_bracket → (ys : List Lexeme) (b : Option Bool)
    → InOption None next_option ys b → OptionsEnd (x ∷ ys) b
bracket_back x h ys b i = by (list_from None ys b i)
  where
    by : ListEnd None ys b → OptionsEnd (x ∷ ys) b
    by (list_end y z {ys = os} {d = d} o k l e t) =
        options_end z (subst (λ (c : Option Bool). AreFieldOptions (x ∷ os ++ y ∷ []) c) (sym (latest_none d) ∙ t) (bracketed x y h o k refl)) l
        (ap (λ (l : List Lexeme). x ∷ l) (e ∙ sym (append_assoc os (y ∷ []) (z ∷ []))))

pub tail_back : (s : TailState) (x : Lexeme) → TailBack s x (advance_tail s x)
unfolding advance_tail
tail_back tails.Start x =
    either_is (TailBack tails.Start x) (is_punctuator x.means opening_bracket)
    (Ok (steps.More (tails.Options None next_option))) (if is_punctuator x.means semicolon then Ok (steps.Done None)
    else wrong x)
    (λ h. bracket_back x (mark_is x.means opening_bracket h))
    (λ h. either_is (TailBack tails.Start x) (is_punctuator x.means semicolon) (Ok (steps.Done None)) (wrong x) (λ k. options_end x no_options (mark_is x.means semicolon k) refl) (λ k. tt))
tail_back (tails.Options p s) x = in_option_back p s x (advance_option s x) (option_back s x)
tail_back (tails.Closed p) x = either_is (TailBack (tails.Closed p) x) (is_punctuator x.means semicolon) (Ok (steps.Done p))
    (wrong x) (λ h. closed_rest x (mark_is x.means semicolon h)) (λ h. tt)
