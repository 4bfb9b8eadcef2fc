-- The tokens of a text start one after another, and so do the parts of statements. Identifiers have the form of
-- names.
use Rattle.std.proofs.Common.{◌≡◌, ◌⊎◌, inl, inr, ℕ, suc, ◌-◌, ◌<◌, ◌≤◌, Bool, true, false, ◌&&◌, List, [], ◌∷◌, ◌++◌}
use Rattle.std.proofs.Common.{length, take, drop, refl, ap, subst, sym, ◌∙◌, arith}
use Rattle.std.specs.Prelude.{All, ◌==◌, nat_le}
use Rattle.std.specs.List.{list_all}
use Rattle.std.proofs.lemmas.Bool.{and_parts, and_from, or_left, cases_Bool, cases_lt, eqb-true}
use Rattle.std.proofs.lemmas.List.Elements.{All-nil, All-cons}
use Rattle.std.proofs.lemmas.List.Splits.{slice_split_at, slice_split_none}
use Rattle.mrpc_table.specs.Names.{is_name_start, is_name_byte, is_name_form, is_full_form}
use Rattle.mrpc_table.specs.Lines.{is_decimal, in_64_bits}
use Rattle.proto_lexer.specs.Strings.{string_value}
use Rattle.proto_lexer.specs.Literals.{IsInteger, IsNumber}
use Rattle.proto_lexer.specs.Literals
use Rattle.proto_lexer.specs.Tokens.{IsToken, IsTokenAt, AreTokens, literal_of, is_last}
use Rattle.proto_lexer.specs.Tokens
use Rattle.proto_lexer.specs.declared.token.TokenKind.{TokenKind}
use Rattle.proto_lexer.specs.declared.token.Token.{Token}
use Rattle.proto_ast.specs.Dot.{dot}
use Rattle.proto_grammar.specs.Lexemes.{identifier, integer, number, string, mark, the_end, none, Lexeme, lexeme, lexemes, meaning, IsWord}

-- ---- names in a list of tokens

pub record IsSpelt (x : Lexeme) : Type 0 where
  pub form : (name : List ℕ) → IsWord x name → is_name_form name ≡ true

-- these tokens start one after another, at or after b and before e
abbrev pub Along : ℕ → List Lexeme → ℕ → Type 0
Along b [] e = b ≤ e
Along b (x ∷ xs) e = (b ≤ x.span.start) × IsSpelt x × Along (suc x.span.start) xs e

pub along_ends : (b : ℕ) (xs : List Lexeme) (e : ℕ) → Along b xs e → b ≤ e
along_ends b [] e h = h
along_ends b (x ∷ xs) e (l, s, h) = let k : suc x.span.start ≤ e = along_ends (suc x.span.start) xs e h in omega arith

pub along_from : (a b : ℕ) (xs : List Lexeme) (e : ℕ) → a ≤ b → Along b xs e → Along a xs e
along_from a b [] e l h = omega arith
along_from a b (x ∷ xs) e l (k, s, h) = (omega arith, s, h)

pub along_split : (b : ℕ) (xs ys : List Lexeme) (e : ℕ) → Along b (xs ++ ys) e → (c : ℕ) × Along b xs c × Along c ys e
along_split b [] ys e h = (b, omega arith, h)
along_split b (x ∷ xs) ys e (l, s, h) =
    let (c, p, q) = along_split (suc x.span.start) xs ys e h in (c, (l, s, p), q)

-- ---- the tokens of a text

spelt_word : (k : TokenKind) (literal rest name : List ℕ) → IsToken k literal rest → meaning k literal ≡ identifier name
    → is_name_form name ≡ true
spelt_word k literal rest name (Tokens.identifier e f b) h =
    let q : identifier literal ≡ identifier name = ap (λ (k : TokenKind). meaning k literal) (sym e) ∙ h in
    let r : literal ≡ name = (cc) in
    subst (λ (l : List ℕ). is_name_form l ≡ true) r f
spelt_word k literal rest name (Tokens.integer v e f b) h =
    absurd (let q : integer (in_64_bits v) ≡ identifier name = ap (λ (k : TokenKind). meaning k literal) (sym e) ∙ h in cc)
spelt_word k literal rest name (Tokens.number e f b) h =
    absurd (let q : number ≡ identifier name = ap (λ (k : TokenKind). meaning k literal) (sym e) ∙ h in cc)
spelt_word k literal rest name (Tokens.string quote body e f g b) h =
    absurd (let q : string (string_value literal) ≡ identifier name = ap (λ (k : TokenKind). meaning k literal) (sym e) ∙ h in cc)
spelt_word k literal rest name (Tokens.mark c e f g b) h =
    absurd (let q : mark c ≡ identifier name = ap (λ (k : TokenKind). meaning k literal) (sym e) ∙ h in cc)

spelt_token : (text : List ℕ) (t : Token) → IsTokenAt text t → IsSpelt (lexeme text t)
spelt_token text t (Tokens.word l s) = record { form = λ name h. spelt_word t.kind (literal_of text t) (drop t.end text) name s h }
spelt_token text t (Tokens.the_end e s f) =
    record { form = λ name h. absurd (let q : the_end ≡ identifier name = ap (λ (k : TokenKind). meaning k (literal_of text t)) (sym e) ∙ h in cc) }
spelt_token text t (Tokens.no_word e s f) =
    record { form = λ name h. absurd (let q : none ≡ identifier name = ap (λ (k : TokenKind). meaning k (literal_of text t)) (sym e) ∙ h in cc) }

-- ---- a token has at least one byte

not_nothing : (c : ℕ) (cs : List ℕ) → [] ≡ c ∷ cs → ⊥
not_nothing c cs e = let t : ◌≡◌ {A = List ℕ} [] (c ∷ cs) = e in cc

not_false : (b : Bool) → b ≡ false → b ≡ true → ⊥
not_false b e h = let t : false ≡ true = sym e ∙ h in cc

-- an empty text has no decimal digits
no_decimal : (whole rest : List ℕ) → is_decimal whole ≡ true → [] ≡ whole ++ rest → ⊥
no_decimal [] rest h e = let t : false ≡ true = h in cc
no_decimal (c ∷ cs) rest h e = not_nothing c (cs ++ rest) e

some_integer : (value : ℕ) → IsInteger [] value → ⊥
some_integer value (Literals.decimal h v) = let t : false ≡ true = h in cc
some_integer value (Literals.octal digits e s d v) = not_nothing 48 digits e
some_integer value (Literals.hexadecimal x digits e f s d v) = not_nothing 48 (x ∷ digits) e

some_number : IsNumber [] → ⊥
some_number (Literals.point whole part power e h d p) = no_decimal whole (46 ∷ part ++ power) h e
some_number (Literals.fraction part power e s d p) = not_nothing 46 (part ++ power) e
some_number (Literals.exponent whole power e h p) = no_decimal whole power h e

some_bytes : (k : TokenKind) (rest : List ℕ) → IsToken k [] rest → ⊥
some_bytes k rest (Tokens.identifier e f b) = let t : false ≡ true = f in cc
some_bytes k rest (Tokens.integer v e f b) = some_integer v f
some_bytes k rest (Tokens.number e f b) = some_number f
some_bytes k rest (Tokens.string quote body e f g b) = not_nothing quote (body ++ quote ∷ []) g
some_bytes k rest (Tokens.mark c e f g b) = not_nothing c [] f

long_token : (text : List ℕ) (t : Token) → t.start ≤ t.end → IsToken t.kind (literal_of text t) (drop t.end text)
    → t.start < t.end
long_token text t l s = by (cases_lt t.start t.end)
  where
    by : (t.start < t.end) ⊎ (t.end ≤ t.start) → t.start < t.end
    by (inl k) = k
    by (inr k) =
        let n : t.end - t.start ≡ 0 = omega arith in
        let e : literal_of text t ≡ [] = ap (λ (n : ℕ). take n (drop t.start text)) n in
        absurd (some_bytes t.kind (drop t.end text) (subst (λ (l : List ℕ). IsToken t.kind l (drop t.end text)) e s))

token_starts : (text : List ℕ) (t : Token) → IsTokenAt text t → t.end ≤ length text → t.start ≤ length text
token_starts text t (Tokens.word l s) w = omega arith
token_starts text t (Tokens.the_end e s f) w = omega arith
token_starts text t (Tokens.no_word e s f) w = omega arith

pub token_goes : (text : List ℕ) (t : Token) → IsTokenAt text t → is_last t.kind ≡ false → t.start < t.end
token_goes text t (Tokens.word l s) n = long_token text t l s
token_goes text t (Tokens.the_end e s f) n = absurd (not_false (is_last t.kind) n (ap is_last e))
token_goes text t (Tokens.no_word e s f) n = absurd (not_false (is_last t.kind) n (ap is_last e))

pub tokens_along : (text : List ℕ) (b : ℕ) {ts : List Token} → AreTokens text b ts
    → Along b (lexemes text ts) (suc (length text))
tokens_along text b (Tokens.last t e n k) =
    let l : t.start ≤ length text = token_starts text t n.here n.within in
    subst (λ (us : List Token). Along b (lexemes text us) (suc (length text))) (sym e) (n.behind, spelt_token text t n.here, omega arith)
tokens_along text b (Tokens.another t others e n k a) =
    let l : t.start < t.end = token_goes text t n.here k in
    let h : Along t.end (lexemes text others) (suc (length text)) = tokens_along text t.end a in
    subst (λ (us : List Token). Along b (lexemes text us) (suc (length text))) (sym e)
    (n.behind, spelt_token text t n.here, along_from (suc t.start) t.end (lexemes text others) (suc (length text)) l h)

-- ---- forms of names

no_dot : (c : ℕ) → is_name_byte c ≡ true → (c == 46) ≡ false
no_dot c h = elim (cases_Bool (c == 46)) [
  | inl e ↦ absurd (let t : false ≡ true = ap is_name_byte (sym (eqb-true c 46 e)) ∙ h in cc)
  | inr e ↦ e
]

start_is_byte : (c : ℕ) → is_name_start c ≡ true → is_name_byte c ≡ true
start_is_byte c h = or_left (is_name_start c) (nat_le 48 c && nat_le c 57) h

no_dots : (name : List ℕ) → list_all is_name_byte name ≡ true → All (λ c. (c == 46) ≡ false) name
no_dots [] h = All-nil (λ c. (c == 46) ≡ false)
no_dots (c ∷ cs) h =
    let (a, b) = and_parts (is_name_byte c) (list_all is_name_byte cs) h in
    All-cons (λ c. (c == 46) ≡ false) c cs (no_dot c a) (no_dots cs b)

name_no_dots : (name : List ℕ) → is_name_form name ≡ true → All (λ c. (c == 46) ≡ false) name
name_no_dots [] h = All-nil (λ c. (c == 46) ≡ false)
name_no_dots (c ∷ cs) h =
    let (a, b) = and_parts (is_name_start c) (list_all is_name_byte cs) h in
    All-cons (λ c. (c == 46) ≡ false) c cs (no_dot c (start_is_byte c a)) (no_dots cs b)

pub full_of_one : (name : List ℕ) → is_name_form name ≡ true → is_full_form name ≡ true
full_of_one name h =
    ap (λ (parts : List (List ℕ)). list_all is_name_form parts) (slice_split_none (λ c. c == 46) name (name_no_dots name h))
    ∙ and_from (is_name_form name) true h refl

pub full_of_more : (name others : List ℕ) → is_name_form name ≡ true → is_full_form others ≡ true
    → is_full_form (name ++ dot ∷ others) ≡ true
full_of_more name others h k =
    ap (λ (parts : List (List ℕ)). list_all is_name_form parts) (slice_split_at (λ c. c == 46) name 46 others (name_no_dots name h) refl)
    ∙ and_from (is_name_form name) (is_full_form others) h k
