-- Tokens can be continued to a complete text exactly if reading them gives no fault.
use Rattle.std.proofs.Common.{subst, ◌≡◌, ◌⊎◌, inl, inr, Bool, true, false, List, [], ◌∷◌, ◌++◌, codes, refl, ap, sym, ◌∙◌}
use Rattle.std.specs.Prelude.{Ok, Err, Result, if◌then◌else◌}
use Rattle.std.specs.Str.{bytes_eq}
use Rattle.proto_grammar.specs.Lexemes.{TokenMeaning, identifier, integer, number, string, mark, the_end, none, Lexeme, semicolon, equals, is_the_word}
use Rattle.proto_schema.specs.Files.{Draft, AreFileTokens, initial_draft}
use Rattle.proto_grammar.specs.Lexemes.{is_no_token}
use Rattle.proto_grammar.specs.Advancing.{proto_fault_at, unexpected, is_punctuator}
use Rattle.proto_schema.specs.StatementReading.{statement_place, draft_with, advance_statement, ReadingOutcome, cut_off, read, failed, is_over}
use Rattle.proto_schema.specs.StatementReading.{after_token, run, reading, after_syntax_word, after_syntax_equals, after_syntax_value, after_syntax}
use Rattle.proto_schema.specs.StatementReading.{is_too_deep}
use Rattle.proto_schema.proofs.Next.{run_step, run_over}
use Rattle.proto_ast.specs.declared.file.File.{File}
use Rattle.proto_grammar.specs.declared.fault.ProtoReason.TheVariants as reasons
use Rattle.proto_grammar.specs.declared.fault.ProtoFault.{ProtoFault}
use Rattle.proto_schema.specs.declared.statement.StatementState.{StatementState}
use Rattle.proto_schema.specs.declared.statement.StatementState.TheVariants as states
use Rattle.proto_schema.specs.declared.statement.StatementStep.{StatementStep}
use Rattle.proto_schema.specs.declared.statement.StatementStep.TheVariants as steps
use Rattle.std.proofs.lemmas.List.{append-nil}
use Rattle.proto_schema.specs.Faults.{CanContinue}
use Rattle.proto_schema.proofs.RunRest.{Begun, begun, reading_reads}
use Rattle.proto_schema.proofs.RunReads.{forms_read}
use Rattle.proto_schema.proofs.Finishing.{state_ending, token, a_mark}

-- ---- the results of further tokens

abbrev pub Continues : Bool → ReadingOutcome → List Lexeme → ReadingOutcome → Type 0
Continues limited (cut_off d s) ys o = o ≡ run limited d s ys
Continues limited (read file) ys o = o ≡ read file
Continues limited (failed e) ys o = o ≡ failed e

abbrev On : Bool → List Lexeme → List Lexeme → Type 0
On limited xs ys = (d : Draft) (s : StatementState) → Continues limited (run limited d s xs) ys (run limited d s (xs ++ ys))

behind_on : (limited : Bool) (xs ys : List Lexeme) (d : Draft) (x : Lexeme) (r : Result StatementStep ProtoFault)
    → On limited xs ys
    → Continues limited (after_token (λ c t. run limited c t xs) limited d x r) ys (after_token (λ c t. run limited c t (xs ++ ys)) limited d x r)
behind_on limited xs ys d x (Ok (steps.More t)) g = g d t
behind_on limited xs ys d x (Ok (steps.Done v)) g = by (is_too_deep limited d v)
  where
    by : (b : Bool)
        → Continues limited (if b then failed (proto_fault_at reasons.Nesting x.span) else run limited (draft_with d v) states.Begin xs) ys
        (if b then failed (proto_fault_at reasons.Nesting x.span) else run limited (draft_with d v) states.Begin (xs ++ ys))
    by true = refl
    by false = g (draft_with d v) states.Begin
behind_on limited xs ys d x (Err e) g = refl

nothing_on : (limited : Bool) (ys : List Lexeme) → On limited [] ys
unfolding run
nothing_on limited ys d s = refl

token_on : (limited : Bool) (x : Lexeme) (xs ys : List Lexeme) → On limited xs ys → On limited (x ∷ xs) ys
token_on limited x xs ys g d s = by (is_over d s x) refl
  where
    by : (b : Bool) → is_over d s x ≡ b
        → Continues limited (run limited d s (x ∷ xs)) ys (run limited d s (x ∷ xs ++ ys))
    by true e = rw (run_over limited d s x xs e) (run_over limited d s x (xs ++ ys) e)
    by false e =
        rw (run_step limited d s x xs e) (rw (run_step limited d s x (xs ++ ys) e) (behind_on limited xs ys d x (advance_statement (statement_place d) s x) g))

pub run_on : (limited : Bool) (xs ys : List Lexeme) → On limited xs ys
run_on limited [] ys = nothing_on limited ys
run_on limited (x ∷ xs) ys = token_on limited x xs ys (run_on limited xs ys)

-- ---- the results of the tokens of the syntax statement

abbrev Fails : ProtoFault → ReadingOutcome → ReadingOutcome → Type 0
Fails e o p = o ≡ failed e → p ≡ failed e

run_fails : (limited : Bool) (e : ProtoFault) (d : Draft) (s : StatementState) (xs ys : List Lexeme)
    → Fails e (run limited d s xs) (run limited d s (xs ++ ys))
run_fails limited e d s xs ys h = rw h at (run_on limited xs ys d s)

syntax_fails : (limited : Bool) (e : ProtoFault) (xs ys : List Lexeme)
    → Fails e (after_syntax limited xs) (after_syntax limited (xs ++ ys))
syntax_fails limited e [] ys h = absurd (let t : cut_off initial_draft states.Begin ≡ failed e = h in cc)
syntax_fails limited e (z ∷ zs) ys h = by (is_punctuator z.means semicolon) h
  where
    by : (b : Bool) → Fails e (if b then run limited initial_draft states.Begin zs else failed (unexpected z))
        (if b then run limited initial_draft states.Begin (zs ++ ys) else failed (unexpected z))
    by true h = run_fails limited e initial_draft states.Begin zs ys h
    by false h = h

value_fails : (limited : Bool) (e : ProtoFault) (w y : Lexeme) (xs ys : List Lexeme) (m : TokenMeaning)
    → Fails e (after_syntax_value limited w y xs m) (after_syntax_value limited w y (xs ++ ys) m)
value_fails limited e w y xs ys (string v) h = by (bytes_eq v (codes "proto3")) h
  where
    by : (b : Bool) → Fails e (if b then after_syntax limited xs else failed (proto_fault_at reasons.Syntax2 w.span))
        (if b then after_syntax limited (xs ++ ys) else failed (proto_fault_at reasons.Syntax2 w.span))
    by true h = syntax_fails limited e xs ys h
    by false h = h
value_fails limited e w y xs ys (identifier v) h = h
value_fails limited e w y xs ys (integer v) h = h
value_fails limited e w y xs ys number h = h
value_fails limited e w y xs ys (mark v) h = h
value_fails limited e w y xs ys the_end h = h
value_fails limited e w y xs ys none h = h

equals_fails : (limited : Bool) (e : ProtoFault) (w : Lexeme) (xs ys : List Lexeme)
    → Fails e (after_syntax_equals limited w xs) (after_syntax_equals limited w (xs ++ ys))
equals_fails limited e w [] ys h = absurd (let t : cut_off initial_draft states.Begin ≡ failed e = h in cc)
equals_fails limited e w (y ∷ xs) ys h = value_fails limited e w y xs ys y.means h

word_fails : (limited : Bool) (e : ProtoFault) (w : Lexeme) (xs ys : List Lexeme)
    → Fails e (after_syntax_word limited w xs) (after_syntax_word limited w (xs ++ ys))
word_fails limited e w [] ys h = absurd (let t : cut_off initial_draft states.Begin ≡ failed e = h in cc)
word_fails limited e w (x ∷ xs) ys h = by (is_punctuator x.means equals) h
  where
    by : (b : Bool) → Fails e (if b then after_syntax_equals limited w xs else failed (unexpected x)) (if b then after_syntax_equals limited w (xs ++ ys) else failed (unexpected x))
    by true h = equals_fails limited e w xs ys h
    by false h = h

pub reading_fails : (limited : Bool) (e : ProtoFault) (xs ys : List Lexeme)
    → Fails e (reading limited xs) (reading limited (xs ++ ys))
reading_fails limited e [] ys h = absurd (let t : cut_off initial_draft states.Begin ≡ failed e = h in cc)
reading_fails limited e (w ∷ xs) ys h = by (is_the_word w.means (codes "syntax")) h
  where
    by : (b : Bool) → Fails e (if b then after_syntax_word limited w xs else if is_no_token w.means then failed (unexpected w) else failed (proto_fault_at reasons.Syntax2 w.span))
        (if b then after_syntax_word limited w (xs ++ ys) else if is_no_token w.means then failed (unexpected w) else failed (proto_fault_at reasons.Syntax2 w.span))
    by true h = word_fails limited e w xs ys h
    by false h = h

-- tokens with a fault can't be continued
pub at_fault : (e : ProtoFault) (xs : List Lexeme) → reading false xs ≡ failed e → CanContinue xs → ⊥
at_fault e xs h (ys, file, f) =
    let a : reading false (xs ++ ys) ≡ read file = ap (reading false) (sym (append-nil (xs ++ ys))) ∙ forms_read [] f in
    let b : failed e ≡ read file = sym (reading_fails false e xs ys h) ∙ a in
    cc

-- ---- tokens that end in the middle can be continued

-- of two prefixes of a list, one is a prefix of the other
fronts : (xs ys front rest : List Lexeme) → xs ++ ys ≡ front ++ rest
    → ((more : List Lexeme) × (front ≡ xs ++ more)) ⊎ ((more : List Lexeme) × (xs ≡ front ++ more))
fronts [] ys front rest e = inl (front, refl)
fronts (x ∷ xs) ys [] rest e = inr (x ∷ xs, refl)
fronts (x ∷ xs) ys (f ∷ front) rest e =
    let a : ◌≡◌ {A = List Lexeme} (x ∷ xs ++ ys) (f ∷ front ++ rest) = e in
    let b : x ≡ f = cc in
    let c : xs ++ ys ≡ front ++ rest = cc in
    by b (fronts xs ys front rest c)
  where
    by : x ≡ f → ((more : List Lexeme) × (front ≡ xs ++ more)) ⊎ ((more : List Lexeme) × (xs ≡ front ++ more))
        → ((more : List Lexeme) × (f ∷ front ≡ x ∷ xs ++ more)) ⊎ ((more : List Lexeme) × (x ∷ xs ≡ f ∷ front ++ more))
    by b (inl (more, q)) = inl (more, let g : f ∷ front ≡ x ∷ xs ++ more = (cc) in g)
    by b (inr (more, q)) = inr (more, let g : x ∷ xs ≡ f ∷ front ++ more = (cc) in g)

-- an incomplete prefix of a complete text can be continued
goes_on : (xs ys : List Lexeme) (file : File) → ((f : File) → reading false xs ≡ read f → ⊥)
    → reading false (xs ++ ys) ≡ read file → CanContinue xs
goes_on xs ys file n r = by (reading_reads (xs ++ ys) file r)
  where
    at : (front rest : List Lexeme) → AreFileTokens front file
        → ((more : List Lexeme) × (front ≡ xs ++ more)) ⊎ ((more : List Lexeme) × (xs ≡ front ++ more)) → CanContinue xs
    at front rest f (inl (more, q)) = (more, file, subst (λ (l : List Lexeme). AreFileTokens l file) q f)
    at front rest f (inr (more, q)) = absurd (n file (ap (reading false) q ∙ forms_read more f))

    by : Begun (xs ++ ys) file → CanContinue xs
    by (begun {front = front} rest f q) = at front rest f (fronts xs ys front rest q)

abbrev the_last : List Lexeme
the_last = token the_end ∷ []

nothing_ends : run false initial_draft states.Begin the_last ≡ read initial_draft.file
nothing_ends = run_over false initial_draft states.Begin (token the_end) [] refl

abbrev the_path : Lexeme
the_path = token (string (codes "proto3"))

-- the tokens are read to a file if these others follow
abbrev Finishes : (List Lexeme → ReadingOutcome) → List Lexeme → Type 0
Finishes o xs = (ys : List Lexeme) × (file : File) × (o (xs ++ ys) ≡ read file)

cut_run : (xs : List Lexeme) (d : Draft) (s : StatementState) → run false initial_draft states.Begin xs ≡ cut_off d s
    → Finishes (λ l. run false initial_draft states.Begin l) xs
cut_run xs d s h = by (state_ending d s)
  where
    by : (ys : List Lexeme) × (file : File) × (run false d s ys ≡ read file)
        → Finishes (λ l. run false initial_draft states.Begin l) xs
    by (ys, file, r) = (
      ys,
      file,
      (let c : Continues false (run false initial_draft states.Begin xs) ys
          (run false initial_draft states.Begin (xs ++ ys)) = run_on false xs ys initial_draft states.Begin in rw h at c)
          ∙ r,
    )

cut_syntax : (xs : List Lexeme) (d : Draft) (s : StatementState) → after_syntax false xs ≡ cut_off d s
    → Finishes (λ l. after_syntax false l) xs
cut_syntax [] d s h = (a_mark semicolon ∷ the_last, initial_draft.file, nothing_ends)
cut_syntax (z ∷ zs) d s h = by (is_punctuator z.means semicolon) refl h
  where
    by : (b : Bool) → is_punctuator z.means semicolon ≡ b
        → (if b then run false initial_draft states.Begin zs else failed (unexpected z)) ≡ cut_off d s
        → Finishes (λ l. after_syntax false l) (z ∷ zs)
    by true e h = let r : Finishes (λ l. run false initial_draft states.Begin l) zs = cut_run zs d s h in (r.0, r.1, rw e r.2)
    by false e h = absurd (let t : failed (unexpected z) ≡ cut_off d s = h in cc)

cut_value : (w y : Lexeme) (xs : List Lexeme) (d : Draft) (s : StatementState) (m : TokenMeaning)
    → after_syntax_value false w y xs m ≡ cut_off d s → Finishes (λ l. after_syntax_value false w y l m) xs
cut_value w y xs d s (string v) h = by (bytes_eq v (codes "proto3")) refl h
  where
    by : (b : Bool) → bytes_eq v (codes "proto3") ≡ b
        → (if b then after_syntax false xs else failed (proto_fault_at reasons.Syntax2 w.span)) ≡ cut_off d s
        → Finishes (λ l. after_syntax_value false w y l (string v)) xs
    by true e h = let r : Finishes (λ l. after_syntax false l) xs = cut_syntax xs d s h in (r.0, r.1, rw e r.2)
    by false e h = absurd (let t : failed (proto_fault_at reasons.Syntax2 w.span) ≡ cut_off d s = h in cc)
cut_value w y xs d s (identifier v) h = absurd (let t : failed (unexpected y) ≡ cut_off d s = h in cc)
cut_value w y xs d s (integer v) h = absurd (let t : failed (unexpected y) ≡ cut_off d s = h in cc)
cut_value w y xs d s number h = absurd (let t : failed (unexpected y) ≡ cut_off d s = h in cc)
cut_value w y xs d s (mark v) h = absurd (let t : failed (unexpected y) ≡ cut_off d s = h in cc)
cut_value w y xs d s the_end h = absurd (let t : failed (unexpected y) ≡ cut_off d s = h in cc)
cut_value w y xs d s none h = absurd (let t : failed (unexpected y) ≡ cut_off d s = h in cc)

cut_equals : (w : Lexeme) (xs : List Lexeme) (d : Draft) (s : StatementState) → after_syntax_equals false w xs ≡ cut_off d s
    → Finishes (λ l. after_syntax_equals false w l) xs
cut_equals w [] d s h = (the_path ∷ a_mark semicolon ∷ the_last, initial_draft.file, nothing_ends)
cut_equals w (y ∷ xs) d s h = cut_value w y xs d s y.means h

cut_word : (w : Lexeme) (xs : List Lexeme) (d : Draft) (s : StatementState) → after_syntax_word false w xs ≡ cut_off d s
    → Finishes (λ l. after_syntax_word false w l) xs
cut_word w [] d s h = (a_mark equals ∷ the_path ∷ a_mark semicolon ∷ the_last, initial_draft.file, nothing_ends)
cut_word w (x ∷ xs) d s h = by (is_punctuator x.means equals) refl h
  where
    by : (b : Bool) → is_punctuator x.means equals ≡ b
        → (if b then after_syntax_equals false w xs else failed (unexpected x)) ≡ cut_off d s
        → Finishes (λ l. after_syntax_word false w l) (x ∷ xs)
    by true e h = let r : Finishes (λ l. after_syntax_equals false w l) xs = cut_equals w xs d s h in (r.0, r.1, rw e r.2)
    by false e h = absurd (let t : failed (unexpected x) ≡ cut_off d s = h in cc)

cut_reading : (xs : List Lexeme) (d : Draft) (s : StatementState) → reading false xs ≡ cut_off d s
    → Finishes (λ l. reading false l) xs
cut_reading [] d s h = (token (identifier (codes "syntax")) ∷ a_mark equals ∷ the_path ∷ a_mark semicolon ∷ the_last, initial_draft.file, nothing_ends)
cut_reading (w ∷ xs) d s h = by (is_the_word w.means (codes "syntax")) refl h
  where
    other : (b : Bool) → (if b then failed (unexpected w) else failed (proto_fault_at reasons.Syntax2 w.span)) ≡ cut_off d s
        → Finishes (λ l. reading false l) (w ∷ xs)
    other true h = absurd (let t : failed (unexpected w) ≡ cut_off d s = h in cc)
    other false h = absurd (let t : failed (proto_fault_at reasons.Syntax2 w.span) ≡ cut_off d s = h in cc)

    by : (b : Bool) → is_the_word w.means (codes "syntax") ≡ b
        → (if b then after_syntax_word false w xs else if is_no_token w.means then failed (unexpected w)
        else failed (proto_fault_at reasons.Syntax2 w.span)) ≡ cut_off d s → Finishes (λ l. reading false l) (w ∷ xs)
    by true e h = let r : Finishes (λ l. after_syntax_word false w l) xs = cut_word w xs d s h in (r.0, r.1, rw e r.2)
    by false e h = other (is_no_token w.means) h

-- tokens that end in the middle can be continued
pub cut_goes_on : (xs : List Lexeme) (d : Draft) (s : StatementState) → reading false xs ≡ cut_off d s → CanContinue xs
cut_goes_on xs d s h =
    let r : Finishes (λ l. reading false l) xs = cut_reading xs d s h in
    goes_on xs r.0 r.1 (λ f e. let t : cut_off d s ≡ read f = sym h ∙ e in cc) r.2
