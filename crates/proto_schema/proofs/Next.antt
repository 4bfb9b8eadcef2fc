-- The next token of a text, and the results of the tokens after it.
use Rattle.std.proofs.Common.{subst, ◌≡◌, ℕ, suc, ◌+◌, ◌^◌, ◌≤◌, ◌<◌, Bool, true, false, List, [], ◌∷◌, ◌++◌, length}
use Rattle.std.proofs.Common.{drop, length-append, refl, ap, sym, ◌∙◌, arith}
use Rattle.std.specs.Prelude.{Ok, Result, ◌&&◌}
use Rattle.proto_lexer.specs.Tokens.{literal_of, is_last, AreTokens, IsNextToken, IsTokenAt, IsToken, last, another, word, the_end, no_word, identifier, integer, number, string, mark}
use Rattle.proto_lexer.specs.declared.token.TokenKind.{TokenKind}
use Rattle.proto_lexer.specs.declared.token.TokenKind.TheVariants as kinds
use Rattle.proto_lexer.specs.declared.token.Token.{Token}
use Rattle.proto_grammar.specs.Lexemes.{Lexeme, lexeme, lexemes, meaning, is_the_word, equals}
use Rattle.proto_schema.specs.Files.{Draft, initial_draft}
use Rattle.proto_grammar.specs.Advancing.{IsTokenOfText, IsErrorOf, is_punctuator, unexpected}
use Rattle.proto_schema.specs.StatementReading.{AreTokensFrom, alone, with_others, ReadingOutcome, read, failed, IsFailedOutcome, run, after_token}
use Rattle.proto_schema.specs.StatementReading.{outcome_after_step, is_over, advance_statement, statement_place, depth, after_syntax_word}
use Rattle.proto_schema.specs.StatementReading.{after_syntax_equals, draft_with, is_too_deep, is_begin, is_end, is_file}
use Rattle.proto_grammar.specs.declared.fault.ProtoFault.{ProtoFault}
use Rattle.proto_grammar.specs.declared.fault.ProtoFault.TheVariants as fault
use Rattle.proto_schema.proofs.Depths.{Within, statement_within}
use Rattle.proto_schema.specs.declared.statement.StatementPlace.{StatementPlace}
use Rattle.proto_schema.specs.declared.statement.StatementStep.TheVariants as steps
use Rattle.proto_schema.specs.declared.statement.StatementState.{StatementState}
use Rattle.proto_schema.specs.declared.statement.StatementState.TheVariants as states
use Rattle.proto_schema.specs.declared.statement.StatementStep.{StatementStep}
use Rattle.proto_schema.specs.declared.statement.Opening.{Opening}
use Rattle.proto_schema.specs.declared.statement.StatementEffect.{StatementEffect}
use Rattle.proto_schema.specs.declared.statement.StatementEffect.TheVariants as said
use Rattle.proto_ast.specs.declared.file.Word.{Word}

ordered : (text : List ℕ) (t : Token) → IsTokenAt text t → t.start ≤ t.end
ordered text t (word h s) = h
ordered text t (the_end k s e) = omega arith
ordered text t (no_word k e s) = omega arith

stands_quoted : (k : TokenKind) (literal rest : List ℕ) → IsToken k literal rest → k ≡ kinds.Text → 2 ≤ length literal
stands_quoted k literal rest (identifier e f b) h = absurd (let t : kinds.Identifier ≡ kinds.Text = sym e ∙ h in cc)
stands_quoted k literal rest (integer value e f b) h = absurd (let t = sym e ∙ h in cc)
stands_quoted k literal rest (number e f b) h = absurd (let t : kinds.Number ≡ kinds.Text = sym e ∙ h in cc)
stands_quoted k literal rest (string quote body e q f b) h =
    let n : length literal ≡ suc (length (body ++ quote ∷ [])) = ap length f in
    let m : length (body ++ quote ∷ []) ≡ length body + 1 = length-append body (quote ∷ []) in
    omega arith
stands_quoted k literal rest (mark c e f b g) h = absurd (let t : kinds.Mark c ≡ kinds.Text = sym e ∙ h in cc)

quoted : (text : List ℕ) (t : Token) → IsTokenAt text t → t.kind ≡ kinds.Text → 2 ≤ length (literal_of text t)
quoted text t (word h s) e = stands_quoted t.kind (literal_of text t) (drop t.end text) s e
quoted text t (the_end k s e) h = absurd (let c : kinds.End ≡ kinds.Text = sym k ∙ h in cc)
quoted text t (no_word k e s) h = absurd (let c : kinds.Bad ≡ kinds.Text = sym k ∙ h in cc)

pub lies_next : (text : List ℕ) (place : ℕ) (t : Token) → length text < 2 ^ 62 → IsNextToken text place t → IsTokenOfText text t
lies_next text place t small h = record { small = small; ordered = ordered text t h.here; within = h.within; quotes = quoted text t h.here }

-- the next token is unique, and so the list starts with it
pub begins_next : (text : List ℕ) (place : ℕ) (t : Token) (ts : List Token)
    → ((u v : Token) → IsNextToken text place u → IsNextToken text place v → u ≡ v) → IsNextToken text place t
    → AreTokens text place ts → AreTokensFrom text t ts
begins_next text place t ts one h (last u e n b) =
    let q = one u t n h in
    alone (e ∙ ap (λ (v : Token). v ∷ []) q) (subst (λ (v : Token). is_last v.kind ≡ true) q b)
begins_next text place t ts one h (another u others e n b more) =
    let q = one u t n h in
    with_others others (e ∙ ap (λ (v : Token). v ∷ others) q) (subst (λ (v : Token). is_last v.kind ≡ false) q b) (subst (λ (v : Token). AreTokens text v.end others) q more)

pub run_step : (limited : Bool) (d : Draft) (s : StatementState) (x : Lexeme) (xs : List Lexeme) → is_over d s x ≡ false
    → run limited d s (x ∷ xs) ≡ after_token (λ c t. run limited c t xs) limited d x (advance_statement (statement_place d) s x)
unfolding run
run_step limited d s x xs h = rw h refl

pub run_over : (limited : Bool) (d : Draft) (s : StatementState) (x : Lexeme) (xs : List Lexeme) → is_over d s x ≡ true
    → run limited d s (x ∷ xs) ≡ read d.file
unfolding run
run_over limited d s x xs h = rw h refl

pub fails_step : (d : Draft) (x : Lexeme) (xs : List Lexeme) (r : Result StatementStep ProtoFault) (e : ProtoFault) → IsErrorOf e r
    → IsFailedOutcome e (outcome_after_step d x xs r)
fails_step d x xs r fault.Memory h = tt
fails_step d x xs r (fault.At q start end line) h = ap (outcome_after_step d x xs) h

not_deep : (d : Draft) (s : StatementEffect) → ((o : Opening) (w : Word) → s ≡ said.Open o w → ⊥) → is_too_deep true d s ≡ false
not_deep d (said.Open o w) h = absurd (h o w refl)
not_deep d _ h = refl

-- a statement that opens no block is added
pub added_shallow : (d e : Draft) (x : Lexeme) (xs : List Lexeme) (s : StatementEffect)
    → ((o : Opening) (w : Word) → s ≡ said.Open o w → ⊥) → e ≡ draft_with d s
    → outcome_after_step d x xs (Ok (steps.Done s)) ≡ run true e states.Begin xs
added_shallow d e x xs s n h = rw (not_deep d s n) (rw h refl)

-- a fault after the next token is a fault of the list
pub fails_list : (text : List ℕ) (d : Draft) (s : StatementState) (t : Token) (ts : List Token) (e : ProtoFault)
    → AreTokensFrom text t ts → is_over d s (lexeme text t) ≡ false
    → ((xs : List Lexeme)
    → IsFailedOutcome e (outcome_after_step d (lexeme text t) xs (advance_statement (statement_place d) s (lexeme text t))))
    → IsFailedOutcome e (run true d s (lexemes text ts))
fails_list text d s t ts e (alone h b) o f = rw h (rw (run_step true d s (lexeme text t) [] o) (f []))
fails_list text d s t ts e (with_others others h b more) o f = rw h (rw (run_step true d s (lexeme text t) (lexemes text others) o) (f (lexemes text others)))

pub over_list : (text : List ℕ) (d : Draft) (s : StatementState) (t : Token) (ts : List Token) → AreTokensFrom text t ts
    → is_over d s (lexeme text t) ≡ true → run true d s (lexemes text ts) ≡ read d.file
over_list text d s t ts (alone h b) o = rw h (run_over true d s (lexeme text t) [] o)
over_list text d s t ts (with_others others h b more) o = rw h (run_over true d s (lexeme text t) (lexemes text others) o)

-- at most one more brace or map is open after a token
pub grows : (p : StatementPlace) (s t : StatementState) (x : Lexeme) → advance_statement p s x ≡ Ok (steps.More t) → depth t ≤ depth s + 1
grows p s t x e = subst (λ (r : Result StatementStep ProtoFault). Within (depth s + 1) r) e (statement_within p s x)

-- ---- the end of the text

not_begin : (s : StatementState) → (s ≡ states.Begin → ⊥) → is_begin s ≡ false
not_begin states.Begin n = absurd (n refl)
not_begin _ n = refl

both_false : (a b : Bool) → b ≡ false → (a && b) ≡ false
both_false false b h = refl
both_false true b h = h

-- a text doesn't end inside a statement
pub goes_in : (d : Draft) (s : StatementState) (x : Lexeme) → (s ≡ states.Begin → ⊥) → is_over d s x ≡ false
goes_in d s x n = both_false (is_end x.means) (is_begin s && is_file (statement_place d)) (rw (not_begin s n) refl)

-- ---- the tokens from an offset on, after statements and a part of one

-- the result of the tokens from the first offset on is that of the tokens from the second offset on, after what is
-- read
abbrev pub Goes : List ℕ → ℕ → ℕ → Draft → StatementState → Type 0
Goes text from place d s = (ts : List Token) → AreTokens text from ts
    → (us : List Token) × AreTokens text place us
    × (run true initial_draft states.Begin (lexemes text ts) ≡ run true d s (lexemes text us))

pub goes_on : (text : List ℕ) (from place : ℕ) (t : Token) (d e : Draft) (s u : StatementState)
    → ((ts : List Token) → AreTokens text place ts → AreTokensFrom text t ts) → is_last t.kind ≡ false
    → is_over d s (lexeme text t) ≡ false
    → ((xs : List Lexeme)
    → outcome_after_step d (lexeme text t) xs (advance_statement (statement_place d) s (lexeme text t)) ≡ run true e u xs)
    → Goes text from place d s → Goes text from t.end e u
goes_on text from place t d e s u b more_follow over step g ts h = let (us, a, r) = g ts h in by us (b us a) r
  where
    by : (us : List Token) → AreTokensFrom text t us
        → run true initial_draft states.Begin (lexemes text ts) ≡ run true d s (lexemes text us)
        → (vs : List Token) × AreTokens text t.end vs
        × (run true initial_draft states.Begin (lexemes text ts) ≡ run true e u (lexemes text vs))
    by us (alone q il) r = absurd (let c : true ≡ false = sym il ∙ more_follow in cc)
    by us (with_others others q n more) r =
        (others, more, r ∙ (ap (λ (z : List Token). run true d s (lexemes text z)) q ∙ (run_step true d s (lexeme text t) (lexemes text others) over ∙ step (lexemes text others))))

pub goes_fail : (text : List ℕ) (from place : ℕ) (t : Token) (d : Draft) (s : StatementState) (e : ProtoFault)
    → ((ts : List Token) → AreTokens text place ts → AreTokensFrom text t ts) → is_over d s (lexeme text t) ≡ false
    → ((xs : List Lexeme)
    → IsFailedOutcome e (outcome_after_step d (lexeme text t) xs (advance_statement (statement_place d) s (lexeme text t))))
    → Goes text from place d s
    → (ts : List Token) → AreTokens text from ts → IsFailedOutcome e (run true initial_draft states.Begin (lexemes text ts))
goes_fail text from place t d s e b over fails g ts h =
    let (us, a, r) = g ts h in
    subst (λ (o : ReadingOutcome). IsFailedOutcome e o) (sym r) (fails_list text d s t us e (b us a) over fails)

pub goes_over : (text : List ℕ) (from place : ℕ) (t : Token) (d : Draft) (s : StatementState)
    → ((ts : List Token) → AreTokens text place ts → AreTokensFrom text t ts) → is_over d s (lexeme text t) ≡ true
    → Goes text from place d s
    → (ts : List Token) → AreTokens text from ts → run true initial_draft states.Begin (lexemes text ts) ≡ read d.file
goes_over text from place t d s b over g ts h = let (us, a, r) = g ts h in r ∙ over_list text d s t us (b us a) over

-- ---- a word or a punctuator isn't the last token

pub mark_not_last : (text : List ℕ) (t : Token) (c : ℕ) → is_punctuator (lexeme text t).means c ≡ true
    → is_last t.kind ≡ false
mark_not_last text t c h = by t.kind h
  where
    by : (k : TokenKind) → is_punctuator (meaning k (literal_of text t)) c ≡ true → is_last k ≡ false
    by kinds.Identifier h = refl
    by (kinds.Integer v) h = refl
    by kinds.Number h = refl
    by kinds.Text h = refl
    by (kinds.Mark d) h = refl
    by kinds.End h = sym h
    by kinds.Bad h = sym h

pub word_not_last : (text : List ℕ) (t : Token) (w : List ℕ) → is_the_word (lexeme text t).means w ≡ true
    → is_last t.kind ≡ false
word_not_last text t w h = by t.kind h
  where
    by : (k : TokenKind) → is_the_word (meaning k (literal_of text t)) w ≡ true → is_last k ≡ false
    by kinds.Identifier h = refl
    by (kinds.Integer v) h = refl
    by kinds.Number h = refl
    by kinds.Text h = refl
    by (kinds.Mark d) h = refl
    by kinds.End h = sym h
    by kinds.Bad h = sym h

pub string_not_last : (t : Token) → t.kind ≡ kinds.Text → is_last t.kind ≡ false
string_not_last t h = ap is_last h

-- ---- the tokens of the syntax statement

pub word_list : (text : List ℕ) (w : Lexeme) (t : Token) (ts : List Token) → AreTokensFrom text t ts
    → is_punctuator (lexeme text t).means equals ≡ true
    → (us : List Token) × AreTokens text t.end us
    × (after_syntax_word true w (lexemes text ts) ≡ after_syntax_equals true w (lexemes text us))
word_list text w t ts (alone q il) h = absurd (let c : true ≡ false = sym il ∙ mark_not_last text t equals h in cc)
word_list text w t ts (with_others others q n more) h = (others, more, rw q (rw h refl))

pub no_equals : (text : List ℕ) (w : Lexeme) (t : Token) (ts : List Token) → AreTokensFrom text t ts
    → is_punctuator (lexeme text t).means equals ≡ false
    → after_syntax_word true w (lexemes text ts) ≡ failed (unexpected (lexeme text t))
no_equals text w t ts (alone q il) h = rw q (rw h refl)
no_equals text w t ts (with_others others q n more) h = rw q (rw h refl)
