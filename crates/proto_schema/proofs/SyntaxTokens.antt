-- The results of the tokens of the syntax statement, one after another.
use Rattle.std.proofs.Common.{◌≡◌, ℕ, Bool, true, false, List, [], ◌∷◌, codes, refl, ap, sym, ◌∙◌}
use Rattle.std.specs.Prelude.{if◌then◌else◌}
use Rattle.std.specs.Str.{bytes_eq}
use Rattle.proto_lexer.specs.Strings.{string_value}
use Rattle.proto_lexer.specs.Tokens.{literal_of, AreTokens}
use Rattle.proto_lexer.specs.declared.token.TokenKind.{TokenKind}
use Rattle.proto_lexer.specs.declared.token.TokenKind.TheVariants as kinds
use Rattle.proto_lexer.specs.declared.token.Token.{Token}
use Rattle.proto_grammar.specs.Lexemes.{Lexeme, lexeme, lexemes, meaning, is_the_word, semicolon, equals}
use Rattle.proto_grammar.specs.Lexemes.{is_no_token}
use Rattle.proto_schema.specs.Files.{initial_draft}
use Rattle.proto_grammar.specs.Advancing.{proto_fault_at, unexpected, is_punctuator}
use Rattle.proto_schema.specs.StatementReading.{AreTokensFrom, alone, with_others, failed, run, reading, after_syntax_word, after_syntax_equals, after_syntax_value, after_syntax}
use Rattle.proto_schema.proofs.Next.{mark_not_last, word_not_last, string_not_last, word_list}
use Rattle.proto_grammar.specs.declared.fault.ProtoReason.TheVariants as reasons
use Rattle.proto_schema.specs.declared.statement.StatementState.TheVariants as states

-- ---- the first token

pub first_list : (text : List ℕ) (t : Token) (ts : List Token) → AreTokensFrom text t ts
    → is_the_word (lexeme text t).means (codes "syntax") ≡ true
    → (us : List Token) × AreTokens text t.end us × (reading true (lexemes text ts) ≡ after_syntax_word true (lexeme text t) (lexemes text us))
first_list text t ts (alone q il) h = absurd (let c : true ≡ false = sym il ∙ word_not_last text t (codes "syntax") h in cc)
first_list text t ts (with_others others q n more) h = (others, more, rw q (rw h refl))

-- another first token, followed by others or not
other_first : (w : Lexeme) (zs : List Lexeme) (b : Bool) → is_the_word w.means (codes "syntax") ≡ false → is_no_token w.means ≡ b
    → reading true (w ∷ zs) ≡ (if b then failed (unexpected w) else failed (proto_fault_at reasons.Syntax2 w.span))
other_first w zs b h e = rw (h, e) refl

pub no_syntax : (text : List ℕ) (t : Token) (ts : List Token) (b : Bool) → AreTokensFrom text t ts
    → is_the_word (lexeme text t).means (codes "syntax") ≡ false → is_no_token (lexeme text t).means ≡ b
    → reading true (lexemes text ts) ≡ (if b then failed (unexpected (lexeme text t)) else failed (proto_fault_at reasons.Syntax2 (lexeme text t).span))
no_syntax text t ts b (alone q il) h e = ap (λ (us : List Token). reading true (lexemes text us)) q ∙ other_first (lexeme text t) [] b h e
no_syntax text t ts b (with_others others q n more) h e =
    ap (λ (us : List Token). reading true (lexemes text us)) q ∙ other_first (lexeme text t) (lexemes text others) b h e

-- ---- the string

other_value : (w y : Lexeme) (zs : List Lexeme) (k : TokenKind) (literal : List ℕ) → (k ≡ kinds.Text → ⊥)
    → after_syntax_value true w y zs (meaning k literal) ≡ failed (unexpected y)
other_value w y zs kinds.Identifier literal n = refl
other_value w y zs (kinds.Integer v) literal n = refl
other_value w y zs kinds.Number literal n = refl
other_value w y zs kinds.Text literal n = absurd (n refl)
other_value w y zs (kinds.Mark c) literal n = refl
other_value w y zs kinds.End literal n = refl
other_value w y zs kinds.Bad literal n = refl

no_string : (text : List ℕ) (w : Lexeme) (t : Token) (ts : List Token) → AreTokensFrom text t ts → (t.kind ≡ kinds.Text → ⊥)
    → after_syntax_equals true w (lexemes text ts) ≡ failed (unexpected (lexeme text t))
no_string text w t ts (alone q il) n =
    ap (λ (us : List Token). after_syntax_equals true w (lexemes text us)) q ∙ other_value w (lexeme text t) [] t.kind (literal_of text t) n
no_string text w t ts (with_others others q l more) n =
    ap (λ (us : List Token). after_syntax_equals true w (lexemes text us)) q ∙ other_value w (lexeme text t) (lexemes text others) t.kind (literal_of text t) n

-- the result after a string, by its value
the_value : (w y : Lexeme) (zs : List Lexeme) (k : TokenKind) (literal : List ℕ) (b : Bool) → k ≡ kinds.Text
    → bytes_eq (string_value literal) (codes "proto3") ≡ b
    → after_syntax_value true w y zs (meaning k literal) ≡ (if b then after_syntax true zs else failed (proto_fault_at reasons.Syntax2 w.span))
the_value w y zs k literal b e h = ap (λ (k : TokenKind). after_syntax_value true w y zs (meaning k literal)) e ∙ rw h refl

other_string : (text : List ℕ) (w : Lexeme) (t : Token) (ts : List Token) → AreTokensFrom text t ts → t.kind ≡ kinds.Text
    → bytes_eq (string_value (literal_of text t)) (codes "proto3") ≡ false
    → after_syntax_equals true w (lexemes text ts) ≡ failed (proto_fault_at reasons.Syntax2 w.span)
other_string text w t ts (alone q il) k h = absurd (let c : true ≡ false = sym il ∙ string_not_last t k in cc)
other_string text w t ts (with_others others q l more) k h =
    ap (λ (us : List Token). after_syntax_equals true w (lexemes text us)) q ∙ the_value w (lexeme text t) (lexemes text others) t.kind (literal_of text t) false k h

string_list : (text : List ℕ) (w : Lexeme) (t : Token) (ts : List Token) → AreTokensFrom text t ts → t.kind ≡ kinds.Text
    → bytes_eq (string_value (literal_of text t)) (codes "proto3") ≡ true
    → (us : List Token) × AreTokens text t.end us × (after_syntax_equals true w (lexemes text ts) ≡ after_syntax true (lexemes text us))
string_list text w t ts (alone q il) k h = absurd (let c : true ≡ false = sym il ∙ string_not_last t k in cc)
string_list text w t ts (with_others others q l more) k h =
    (others, more, ap (λ (us : List Token). after_syntax_equals true w (lexemes text us)) q ∙ the_value w (lexeme text t) (lexemes text others) t.kind (literal_of text t) true k h)

-- ---- the semicolon

no_semicolon : (text : List ℕ) (t : Token) (ts : List Token) → AreTokensFrom text t ts
    → is_punctuator (lexeme text t).means semicolon ≡ false
    → after_syntax true (lexemes text ts) ≡ failed (unexpected (lexeme text t))
no_semicolon text t ts (alone q il) h = rw q (rw h refl)
no_semicolon text t ts (with_others others q n more) h = rw q (rw h refl)

semicolon_list : (text : List ℕ) (t : Token) (ts : List Token) → AreTokensFrom text t ts
    → is_punctuator (lexeme text t).means semicolon ≡ true
    → (us : List Token) × AreTokens text t.end us × (after_syntax true (lexemes text ts) ≡ run true initial_draft states.Begin (lexemes text us))
semicolon_list text t ts (alone q il) h = absurd (let c : true ≡ false = sym il ∙ mark_not_last text t semicolon h in cc)
semicolon_list text t ts (with_others others q n more) h = (others, more, rw q (rw h refl))

-- ---- after the first token: `=`, a string and `;`

-- this token is the first one after another
abbrev pub Next : List ℕ → Token → Token → Type 0
Next text t u = (us : List Token) → AreTokens text t.end us → AreTokensFrom text u us

pub no_string_behind : (text : List ℕ) (w : Lexeme) (t u : Token) (ts : List Token) → AreTokensFrom text t ts
    → is_punctuator (lexeme text t).means equals ≡ true → Next text t u → (u.kind ≡ kinds.Text → ⊥)
    → after_syntax_word true w (lexemes text ts) ≡ failed (unexpected (lexeme text u))
no_string_behind text w t u ts b h next n = by (word_list text w t ts b h)
  where
    by : (us : List Token) × AreTokens text t.end us × (after_syntax_word true w (lexemes text ts) ≡ after_syntax_equals true w (lexemes text us))
        → after_syntax_word true w (lexemes text ts) ≡ failed (unexpected (lexeme text u))
    by (us, a, e) = e ∙ no_string text w u us (next us a) n

pub other_string_behind : (text : List ℕ) (w : Lexeme) (t u : Token) (ts : List Token) → AreTokensFrom text t ts
    → is_punctuator (lexeme text t).means equals ≡ true → Next text t u → u.kind ≡ kinds.Text
    → bytes_eq (string_value (literal_of text u)) (codes "proto3") ≡ false
    → after_syntax_word true w (lexemes text ts) ≡ failed (proto_fault_at reasons.Syntax2 w.span)
other_string_behind text w t u ts b h next k p = by (word_list text w t ts b h)
  where
    by : (us : List Token) × AreTokens text t.end us × (after_syntax_word true w (lexemes text ts) ≡ after_syntax_equals true w (lexemes text us))
        → after_syntax_word true w (lexemes text ts) ≡ failed (proto_fault_at reasons.Syntax2 w.span)
    by (us, a, e) = e ∙ other_string text w u us (next us a) k p

-- `=` and the string `proto3`
abbrev ProtoRead : List ℕ → Lexeme → Token → List Token → Type 0
ProtoRead text w u ts = (vs : List Token) × AreTokens text u.end vs × (after_syntax_word true w (lexemes text ts) ≡ after_syntax true (lexemes text vs))

string_behind : (text : List ℕ) (w : Lexeme) (t u : Token) (ts : List Token) → AreTokensFrom text t ts
    → is_punctuator (lexeme text t).means equals ≡ true → Next text t u → u.kind ≡ kinds.Text
    → bytes_eq (string_value (literal_of text u)) (codes "proto3") ≡ true → ProtoRead text w u ts
string_behind text w t u ts b h next k p = by (word_list text w t ts b h)
  where
    at : (us : List Token) → after_syntax_word true w (lexemes text ts) ≡ after_syntax_equals true w (lexemes text us)
        → (vs : List Token) × AreTokens text u.end vs × (after_syntax_equals true w (lexemes text us) ≡ after_syntax true (lexemes text vs))
        → ProtoRead text w u ts
    at us e (vs, d, f) = (vs, d, e ∙ f)

    by : (us : List Token) × AreTokens text t.end us × (after_syntax_word true w (lexemes text ts) ≡ after_syntax_equals true w (lexemes text us))
        → ProtoRead text w u ts
    by (us, a, e) = at us e (string_list text w u us (next us a) k p)

pub no_semicolon_behind : (text : List ℕ) (w : Lexeme) (t u v : Token) (ts : List Token) → AreTokensFrom text t ts
    → is_punctuator (lexeme text t).means equals ≡ true → Next text t u → u.kind ≡ kinds.Text
    → bytes_eq (string_value (literal_of text u)) (codes "proto3") ≡ true → Next text u v
    → is_punctuator (lexeme text v).means semicolon ≡ false
    → after_syntax_word true w (lexemes text ts) ≡ failed (unexpected (lexeme text v))
no_semicolon_behind text w t u v ts b h next k p further m = by (string_behind text w t u ts b h next k p)
  where
    by : ProtoRead text w u ts → after_syntax_word true w (lexemes text ts) ≡ failed (unexpected (lexeme text v))
    by (vs, d, f) = f ∙ no_semicolon text v vs (further vs d) m

pub semicolon_behind : (text : List ℕ) (w : Lexeme) (t u v : Token) (ts : List Token) → AreTokensFrom text t ts
    → is_punctuator (lexeme text t).means equals ≡ true → Next text t u → u.kind ≡ kinds.Text
    → bytes_eq (string_value (literal_of text u)) (codes "proto3") ≡ true → Next text u v
    → is_punctuator (lexeme text v).means semicolon ≡ true
    → (us : List Token) × AreTokens text v.end us × (after_syntax_word true w (lexemes text ts) ≡ run true initial_draft states.Begin (lexemes text us))
semicolon_behind text w t u v ts b h next k p further m = by (string_behind text w t u ts b h next k p)
  where
    at : (vs : List Token) → after_syntax_word true w (lexemes text ts) ≡ after_syntax true (lexemes text vs)
        → (us : List Token) × AreTokens text v.end us × (after_syntax true (lexemes text vs) ≡ run true initial_draft states.Begin (lexemes text us))
        → (us : List Token) × AreTokens text v.end us × (after_syntax_word true w (lexemes text ts) ≡ run true initial_draft states.Begin (lexemes text us))
    at vs f (us, g, i) = (us, g, f ∙ i)

    by : ProtoRead text w u ts
        → (us : List Token) × AreTokens text v.end us × (after_syntax_word true w (lexemes text ts) ≡ run true initial_draft states.Begin (lexemes text us))
    by (vs, d, f) = at vs f (semicolon_list text v vs (further vs d) m)
