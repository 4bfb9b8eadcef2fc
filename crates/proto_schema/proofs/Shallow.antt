-- The limit on nested messages has no effect unless `{` opens the 33rd. So a text reads as a file exactly if the file
-- is read from it.
use Rattle.std.proofs.Common.{subst, ◌≡◌, ℕ, zero, suc, ◌+◌, ◌<◌, ◌≤◌, nat_le, length, take, Bool, true, false, List}
use Rattle.std.proofs.Common.{[], ◌∷◌, ◌++◌, codes, refl, ap, sym, ◌∙◌, arith, length-append}
use Rattle.std.specs.Prelude.{Ok, Err, Result, Some, if◌then◌else◌}
use Rattle.std.specs.Str.{bytes_eq}
use Rattle.std.proofs.lemmas.List.{append_assoc}
use Rattle.proto_grammar.specs.Lexemes.{TokenMeaning, identifier, integer, number, string, mark, the_end, none, Lexeme, semicolon, equals, IsPunctuator, is_the_word}
use Rattle.proto_schema.specs.Files
use Rattle.proto_schema.specs.Files.{Draft, OpenBlock, no_block, a_oneof, an_enum, a_service, an_rpc, AreStatementsOf, AreFileTokens, initial_draft}
use Rattle.proto_grammar.specs.Lexemes.{is_no_token}
use Rattle.proto_grammar.specs.Advancing.{proto_fault_at, unexpected, is_punctuator}
use Rattle.proto_schema.specs.StatementReading.{statement_place, draft_with, advance_statement, read, failed, is_over, is_too_deep, after_token}
use Rattle.proto_schema.specs.StatementReading.{run, reading, after_syntax_word, after_syntax_equals, after_syntax_value, after_syntax, ReadingOutcome}
use Rattle.proto_schema.proofs.Choices.{either_is}
use Rattle.proto_schema.proofs.Next.{run_step, run_over}
use Rattle.proto_ast.specs.declared.file.Word.{Word}
use Rattle.proto_ast.specs.declared.file.File.{File}
use Rattle.proto_grammar.specs.declared.fault.ProtoReason.TheVariants as reasons
use Rattle.proto_grammar.specs.declared.fault.ProtoFault.{ProtoFault}
use Rattle.proto_schema.specs.declared.statement.StatementPlace.{StatementPlace}
use Rattle.proto_schema.specs.declared.statement.Opening.TheVariants as openings
use Rattle.proto_schema.specs.declared.statement.StatementState.{StatementState}
use Rattle.proto_schema.specs.declared.statement.StatementState.TheVariants as states
use Rattle.proto_schema.specs.declared.statement.StatementEffect.{StatementEffect}
use Rattle.proto_schema.specs.declared.statement.StatementEffect.TheVariants as said
use Rattle.proto_schema.specs.declared.statement.StatementStep.{StatementStep}
use Rattle.proto_schema.specs.declared.statement.StatementStep.TheVariants as steps
use Rattle.std.specs.Prelude.{slice_get}
use Rattle.std.proofs.lemmas.Bool.{leb-true, leb-false}
use Rattle.std.proofs.Math.Seq.{take-append-add}
use Rattle.proto_lexer.specs.Tokens.{AreTokens, last as last_token, another as further_token, is_last, literal_of}
use Rattle.proto_lexer.specs.declared.token.TokenKind.{TokenKind}
use Rattle.proto_lexer.specs.declared.token.TokenKind.TheVariants as kinds
use Rattle.proto_lexer.specs.declared.token.Token.{Token}
use Rattle.proto_grammar.specs.Lexemes.{opening_brace, lexeme, lexemes, meaning}
use Rattle.proto_schema.specs.Files.{in_message, in_enum, open_message}
use Rattle.proto_schema.specs.declared.limits.TheConstants.{MAX_OPEN}
use Rattle.proto_schema.specs.Faults.{IsSpecificFault, nesting, IsProtoTextOf}
use Rattle.proto_schema.specs.StatementReading.{is_enum, without_first, closed_draft}
use Rattle.proto_grammar.specs.declared.fault.ProtoReason.TheVariants.{Nesting}
use Rattle.proto_schema.proofs.Takes.{last, next}
use Rattle.proto_schema.proofs.RunRest.{not_deep, Begun, begun, reading_reads}
use Rattle.proto_schema.proofs.RunReads.{StepTakes, StatementReads, statement_reads, Shallow, is_shallow}
use Rattle.proto_schema.proofs.RunReads.{opens_message, statement_is_read, run_goes, run_takes, not_over, syntax_read}
use Rattle.proto_schema.proofs.RunReads.{whole_is_over}

-- ---- how many messages are open

without_less : (xs : List ℕ) → length (without_first xs) ≤ length xs
without_less [] = omega arith
without_less (x ∷ xs) = omega arith

closed_less : (d : Draft) (b : OpenBlock) → length (closed_draft d b).messages ≤ length d.messages
closed_less d no_block = without_less d.messages
closed_less d (a_oneof i filled) = omega arith
closed_less d (an_enum filled) = omega arith
closed_less d a_service = omega arith
closed_less d an_rpc = omega arith

pub added_less : (d : Draft) (v : StatementEffect) → Shallow v → length (draft_with d v).messages ≤ length d.messages
added_less d said.Nothing h = omega arith
added_less d (said.Package w) h = omega arith
added_less d (said.Import i) h = omega arith
added_less d (said.Open openings.Message w) h = absurd h
added_less d (said.Open openings.Enum w) h = omega arith
added_less d (said.Open openings.Service w) h = omega arith
added_less d (said.Open openings.Oneof w) h = omega arith
added_less d (said.Field f) h = omega arith
added_less d (said.Ranges rs) h =
    either_is (λ (e : Draft). length e.messages ≤ length d.messages) (is_enum d.block)
    (in_enum d (λ e. record e { ranges = e.ranges ++ rs }))
    (in_message d (λ m. record m { ranges = m.ranges ++ rs })) (λ t. omega arith) (λ t. omega arith)
added_less d (said.Names ws) h =
    either_is (λ (e : Draft). length e.messages ≤ length d.messages) (is_enum d.block)
    (in_enum d (λ e. record e { names = e.names ++ ws })) (in_message d (λ m. record m { names = m.names ++ ws }))
    (λ t. omega arith) (λ t. omega arith)
added_less d (said.Value v) h = omega arith
added_less d (said.Rpc r true) h = omega arith
added_less d (said.Rpc r false) h = omega arith
added_less d said.Close h = closed_less d d.block

shallow_flat : (limited : Bool) (d : Draft) (v : StatementEffect) → Shallow v → is_too_deep limited d v ≡ false
shallow_flat limited d said.Nothing h = refl
shallow_flat limited d (said.Package w) h = refl
shallow_flat limited d (said.Import i) h = refl
shallow_flat limited d (said.Open openings.Message w) h = absurd h
shallow_flat limited d (said.Open openings.Enum w) h = refl
shallow_flat limited d (said.Open openings.Service w) h = refl
shallow_flat limited d (said.Open openings.Oneof w) h = refl
shallow_flat limited d (said.Field f) h = refl
shallow_flat limited d (said.Ranges rs) h = refl
shallow_flat limited d (said.Names ws) h = refl
shallow_flat limited d (said.Value v) h = refl
shallow_flat limited d (said.Rpc r block) h = refl
shallow_flat limited d said.Close h = refl

-- ---- at most 32 are open, or a brace has the reason `Nesting`

-- a brace before this index has the reason `Nesting`, and reading reports it
pub data Deep (ts : List Lexeme) (n : ℕ) : Type 0 where
  deep : (k : ℕ) (z : Lexeme) → IsSpecificFault ts k Nesting → k < n → slice_get ts k ≡ Some z
      → reading true ts ≡ failed (proto_fault_at reasons.Nesting z.span) → Deep ts n

pub get_behind : (xs ys : List Lexeme) (z : Lexeme) → slice_get (xs ++ z ∷ ys) (length xs) ≡ Some z
get_behind [] ys z = refl
get_behind (x ∷ xs) ys z = get_behind xs ys z

pub take_behind : (xs ys : List Lexeme) (z : Lexeme) → take (length xs + 1) (xs ++ z ∷ ys) ≡ xs ++ z ∷ []
take_behind xs ys z = take-append-add xs (z ∷ ys) 1

pub opens_named : (c : Draft) (w : Word) (front rest : List Lexeme) (z : Lexeme)
    → AreStatementsOf (front ++ z ∷ []) (open_message c w) → IsPunctuator z opening_brace → length c.messages ≡ MAX_OPEN
    → IsSpecificFault (front ++ z ∷ rest) (length front) Nesting
opens_named c w front rest z s m l =
    nesting z (open_message c w) (get_behind front rest z) m (subst (λ (q : List Lexeme). AreStatementsOf q (open_message c w)) (sym (take_behind front rest z)) s)
    (refl, λ e. let t : ◌≡◌ {A = List ℕ} (length c.file.messages ∷ c.messages) [] = e in cc) (omega (arith, l))

pub data SaysWell (front : List Lexeme) (d : Draft) (rest : List Lexeme) : Type 0 where
  says_well : reading true (front ++ rest) ≡ run true d states.Begin rest → length d.messages ≤ MAX_OPEN
      → SaysWell front d rest
  says_deep : Deep (front ++ rest) (length front) → SaysWell front d rest

deep_before : {ts us : List Lexeme} {m n : ℕ} → ts ≡ us → m ≤ n → Deep ts m → Deep us n
deep_before {ts = ts} {us = us} {m = m} {n = n} e l (deep k z h b g f) =
    deep k z (subst (λ (q : List Lexeme). IsSpecificFault q k Nesting) e h) (omega arith) (subst (λ (q : List Lexeme). slice_get q k ≡ Some z) e g) (ap (reading true) (sym e) ∙ f)

nothing_is : (us : List Lexeme) (z : Lexeme) → [] ≡ us ++ z ∷ [] → ⊥
nothing_is [] z e = let t : ◌≡◌ {A = List Lexeme} [] (z ∷ []) = e in cc
nothing_is (u ∷ us) z e = let t : ◌≡◌ {A = List Lexeme} [] (u ∷ us ++ z ∷ []) = e in cc

-- a statement has at least one token
takes_some : (p : StatementPlace) {s : StatementState} {ys : List Lexeme} {v : StatementEffect} → StepTakes p s ys v → ys ≡ [] → ⊥
takes_some p (last x h) e = let t : ◌≡◌ {A = List Lexeme} (x ∷ []) [] = e in cc
takes_some p (next x {ys = ys} h w) e = let t : ◌≡◌ {A = List Lexeme} (x ∷ ys) [] = e in cc

-- a statement that is too deep gives a fault at its last token
deep_run : (d : Draft) {s : StatementState} {ys : List Lexeme} {v : StatementEffect} (xs us : List Lexeme) (z : Lexeme)
    → StepTakes (statement_place d) s ys v → is_too_deep true d v ≡ true → ys ≡ us ++ z ∷ []
    → run true d s (ys ++ xs) ≡ failed (proto_fault_at reasons.Nesting z.span)
deep_run d xs [] z (last x {s = s} {v = v} h) k e =
    let q : ◌≡◌ {A = List Lexeme} (x ∷ []) (z ∷ []) = e in
    let c : x ≡ z = (cc) in
    run_step true d s x xs (not_over d s x (steps.Done v) h)
    ∙ (ap (λ (r : Result StatementStep ProtoFault). after_token (λ c t. run true c t xs) true d x r) h ∙ (rw k (ap (λ (y : Lexeme). failed (proto_fault_at reasons.Nesting y.span)) c)))
deep_run d xs (u ∷ us) z (last x h) k e = absurd (nothing_is us z (let q : ◌≡◌ {A = List Lexeme} (x ∷ []) (u ∷ us ++ z ∷ []) = e in cc))
deep_run d xs [] z (next x {ys = ys} h w) k e =
    absurd (takes_some (statement_place d) w (let q : ◌≡◌ {A = List Lexeme} (x ∷ ys) (z ∷ []) = e in cc))
deep_run d xs (u ∷ us) z (next x {s = s} {t = t} {ys = ys} h w) k e =
    let q : ◌≡◌ {A = List Lexeme} (x ∷ ys) (u ∷ us ++ z ∷ []) = e in
    let c : ys ≡ us ++ z ∷ [] = (cc) in
    run_goes true d s t x (ys ++ xs) h ∙ deep_run d xs us z w k c

one_statement : (front ys rest : List Lexeme) (c d : Draft) → AreStatementsOf (front ++ ys) d
    → reading true (front ++ (ys ++ rest)) ≡ run true c states.Begin (ys ++ rest) → length c.messages ≤ MAX_OPEN
    → StatementReads c ys d → SaysWell (front ++ ys) d rest
one_statement front ys rest c d s r l (statement_reads v (is_shallow h) t q) =
    let e : reading true ((front ++ ys) ++ rest) ≡ run true (draft_with c v) states.Begin rest =
    ap (reading true) (append_assoc front ys rest) ∙ (r ∙ run_takes true c rest t (shallow_flat true c v h)) in
    let m : length (draft_with c v).messages ≤ MAX_OPEN = (let a : length (draft_with c v).messages ≤ length c.messages = added_less c v h in omega arith) in
    says_well (e ∙ ap (λ (c : Draft). run true c states.Begin rest) q) (subst (λ (c : Draft). length c.messages ≤ MAX_OPEN) q m)
one_statement front ys rest c d s r l (statement_reads v (opens_message us z w ev m a) t q) = by (nat_le MAX_OPEN (length c.messages)) refl
  where
    opened : open_message c w ≡ d
    opened = ap (draft_with c) (sym ev) ∙ q

    by : (b : Bool) → nat_le MAX_OPEN (length c.messages) ≡ b → SaysWell (front ++ ys) d rest
    by true b =
        let g : MAX_OPEN ≤ length c.messages = leb-true MAX_OPEN (length c.messages) b in
        let n : length c.messages ≡ MAX_OPEN = omega arith in
        let p : front ++ ys ≡ (front ++ us) ++ z ∷ [] = ap (λ (l : List Lexeme). front ++ l) a ∙ sym (append_assoc front us (z ∷ [])) in
        let k : AreStatementsOf ((front ++ us) ++ z ∷ []) (open_message c w) =
        subst (λ (l : List Lexeme). AreStatementsOf l (open_message c w)) p
        (subst (λ (x : Draft). AreStatementsOf (front ++ ys) x) (sym opened) s) in
        let o : (front ++ us) ++ z ∷ rest ≡ (front ++ ys) ++ rest = sym (append_assoc (front ++ us) (z ∷ []) rest) ∙ ap (λ (l : List Lexeme). l ++ rest) (sym p) in
        let f : run true c states.Begin (ys ++ rest) ≡ failed (proto_fault_at reasons.Nesting z.span) = deep_run c rest us z t (ap (is_too_deep true c) ev ∙ b) a in
        let h : reading true ((front ++ us) ++ z ∷ rest) ≡ failed (proto_fault_at reasons.Nesting z.span) =
        ap (reading true) o ∙ (ap (reading true) (append_assoc front ys rest) ∙ (r ∙ f)) in
        let i : length (front ++ us) < length (front ++ ys) =
        (let u : length ((front ++ us) ++ z ∷ []) ≡ length (front ++ us) + 1 =
        length-append (front ++ us) (z ∷ []) in omega (arith, ap length p)) in
        says_deep (deep_before o (omega arith) (deep (length (front ++ us)) z (opens_named c w (front ++ us) rest z k m n) i (get_behind (front ++ us) rest z) h))
    by false b =
        let g : length c.messages < MAX_OPEN = leb-false MAX_OPEN (length c.messages) b in
        let f : is_too_deep true c v ≡ false = ap (is_too_deep true c) ev ∙ b in
        let e : reading true ((front ++ ys) ++ rest) ≡ run true (draft_with c v) states.Begin rest = ap (reading true) (append_assoc front ys rest) ∙ (r ∙ run_takes true c rest t f) in
        let m : length (open_message c w).messages ≤ MAX_OPEN = omega arith in
        says_well (e ∙ ap (λ (c : Draft). run true c states.Begin rest) q) (subst (λ (c : Draft). length c.messages ≤ MAX_OPEN) opened m)

pub says_well_or : {front : List Lexeme} {d : Draft} (rest : List Lexeme) → AreStatementsOf front d → SaysWell front d rest
says_well_or rest (Files.start s) = says_well (syntax_read true rest s) (omega arith)
says_well_or rest (Files.another {xs = front} {ys = ys} {all = all} {c = c} {d = d} s k e) = subst (λ (l : List Lexeme). SaysWell l d rest) (sym e) (by (says_well_or (ys ++ rest) s))
  where
    by : SaysWell front c (ys ++ rest) → SaysWell (front ++ ys) d rest
    by (says_well r l) = one_statement front ys rest c d (Files.another s k refl) r l (statement_is_read k)
    by (says_deep h) = says_deep (deep_before (sym (append_assoc front ys rest)) (let u : length (front ++ ys) ≡ length front + length ys = length-append front ys in omega arith) h)

-- a complete text without such a brace is read
pub forms_well : {all : List Lexeme} {file : File} → AreFileTokens all file → ((k : ℕ) → IsSpecificFault all k Nesting → ⊥)
    → reading true all ≡ read file
forms_well (Files.whole x {xs = front} {all = all} {d = d} s w h e) no_deep = by (says_well_or (x ∷ []) s)
  where
    by : SaysWell front d (x ∷ []) → reading true all ≡ read d.file
    by (says_well r l) = ap (reading true) e ∙ (r ∙ run_over true d states.Begin x [] (whole_is_over d x w h))
    by (says_deep (deep k z n l g f)) = absurd (no_deep k (subst (λ (l : List Lexeme). IsSpecificFault l k Nesting) (sym e) n))

-- ---- if a text is read, no brace opens the 33rd message

pub says_within : {front : List Lexeme} {d : Draft} (rest : List Lexeme) (file : File) → AreStatementsOf front d
    → reading true (front ++ rest) ≡ read file
    → (run true d states.Begin rest ≡ read file) × (length d.messages ≤ MAX_OPEN)
says_within {front = front} {d = d} rest file s r = by (says_well_or rest s)
  where
    by : SaysWell front d rest → (run true d states.Begin rest ≡ read file) × (length d.messages ≤ MAX_OPEN)
    by (says_well e l) = (sym e ∙ r, l)
    by (says_deep (deep k z n l g f)) = absurd (let t : read file ≡ failed (proto_fault_at reasons.Nesting z.span) = sym r ∙ f in cc)

pub drop_behind : (k : ℕ) (ts : List Lexeme) → (rest : List Lexeme) × (take k ts ++ rest ≡ ts)
drop_behind zero ts = (ts, refl)
drop_behind (suc k) [] = ([], refl)
drop_behind (suc k) (t ∷ ts) = let r : (rest : List Lexeme) × (take k ts ++ rest ≡ ts) = drop_behind k ts in (r.0, ap (λ (l : List Lexeme). t ∷ l) r.1)

pub read_not_deep : (ts : List Lexeme) (file : File) (k : ℕ) → reading true ts ≡ read file → IsSpecificFault ts k Nesting → ⊥
read_not_deep ts file k r (nesting x d g m s i l) =
    let b : (rest : List Lexeme) × (take (k + 1) ts ++ rest ≡ ts) = drop_behind (k + 1) ts in
    let w : (run true d states.Begin b.0 ≡ read file) × (length d.messages ≤ MAX_OPEN) = says_within b.0 file s (ap (reading true) b.1 ∙ r) in
    let n : length d.messages ≤ MAX_OPEN = w.1 in
    omega (arith, l)

-- ---- a result with the limit is also one without it, except for faults

abbrev pub NoFault : ReadingOutcome → Type 0
NoFault o = (e : ProtoFault) → failed e ≡ o → ⊥

abbrev Lifts : List Lexeme → ReadingOutcome → Type 0
Lifts xs o = (d : Draft) (s : StatementState) → run true d s xs ≡ o → run false d s xs ≡ o

step_lifts : (d : Draft) (x : Lexeme) (xs : List Lexeme) (o : ReadingOutcome) → NoFault o → (r : Result StatementStep ProtoFault)
    → Lifts xs o → after_token (λ c t. run true c t xs) true d x r ≡ o → after_token (λ c t. run false c t xs) false d x r ≡ o
step_lifts d x xs o n (Ok (steps.More t)) g h = g d t h
step_lifts d x xs o n (Ok (steps.Done v)) g h = rw (not_deep d v) (at (is_too_deep true d v) refl)
  where
    at : (b : Bool) → is_too_deep true d v ≡ b → run false (draft_with d v) states.Begin xs ≡ o
    at true e = absurd (n (proto_fault_at reasons.Nesting x.span) (rw e at h))
    at false e = g (draft_with d v) states.Begin (rw e at h)
step_lifts d x xs o n (Err e) g h = absurd (n e h)

token_lifts : (x : Lexeme) (xs : List Lexeme) (o : ReadingOutcome) → NoFault o → Lifts xs o → Lifts (x ∷ xs) o
token_lifts x xs o n g d s h = by (is_over d s x) refl
  where
    by : (b : Bool) → is_over d s x ≡ b → run false d s (x ∷ xs) ≡ o
    by true e = run_over false d s x xs e ∙ (sym (run_over true d s x xs e) ∙ h)
    by false e = run_step false d s x xs e ∙ step_lifts d x xs o n (advance_statement (statement_place d) s x) g (sym (run_step true d s x xs e) ∙ h)

nothing_lifts : (o : ReadingOutcome) → Lifts [] o
unfolding run
nothing_lifts o d s h = h

limit_lifts : (xs : List Lexeme) (o : ReadingOutcome) → NoFault o → Lifts xs o
limit_lifts [] o n = nothing_lifts o
limit_lifts (x ∷ xs) o n = token_lifts x xs o n (limit_lifts xs o n)

syntax_lifts : (zs : List Lexeme) (o : ReadingOutcome) → NoFault o → after_syntax true zs ≡ o → after_syntax false zs ≡ o
syntax_lifts [] o n h = h
syntax_lifts (z ∷ zs) o n h = by (is_punctuator z.means semicolon) h
  where
    by : (b : Bool) → (if b then run true initial_draft states.Begin zs else failed (unexpected z)) ≡ o
        → (if b then run false initial_draft states.Begin zs else failed (unexpected z)) ≡ o
    by true h = limit_lifts zs o n initial_draft states.Begin h
    by false h = h

value_lifts : (w y : Lexeme) (zs : List Lexeme) (o : ReadingOutcome) → NoFault o → (m : TokenMeaning)
    → after_syntax_value true w y zs m ≡ o → after_syntax_value false w y zs m ≡ o
value_lifts w y zs o n (string v) h = by (bytes_eq v (codes "proto3")) h
  where
    by : (b : Bool) → (if b then after_syntax true zs else failed (proto_fault_at reasons.Syntax2 w.span)) ≡ o
        → (if b then after_syntax false zs else failed (proto_fault_at reasons.Syntax2 w.span)) ≡ o
    by true h = syntax_lifts zs o n h
    by false h = h
value_lifts w y zs o n (identifier v) h = h
value_lifts w y zs o n (integer v) h = h
value_lifts w y zs o n number h = h
value_lifts w y zs o n (mark v) h = h
value_lifts w y zs o n the_end h = h
value_lifts w y zs o n none h = h

equals_lifts : (w : Lexeme) (zs : List Lexeme) (o : ReadingOutcome) → NoFault o → after_syntax_equals true w zs ≡ o
    → after_syntax_equals false w zs ≡ o
equals_lifts w [] o n h = h
equals_lifts w (y ∷ zs) o n h = value_lifts w y zs o n y.means h

word_lifts : (w : Lexeme) (zs : List Lexeme) (o : ReadingOutcome) → NoFault o → after_syntax_word true w zs ≡ o
    → after_syntax_word false w zs ≡ o
word_lifts w [] o n h = h
word_lifts w (x ∷ zs) o n h = by (is_punctuator x.means equals) h
  where
    by : (b : Bool) → (if b then after_syntax_equals true w zs else failed (unexpected x)) ≡ o
        → (if b then after_syntax_equals false w zs else failed (unexpected x)) ≡ o
    by true h = equals_lifts w zs o n h
    by false h = h

pub reading_keeps : (xs : List Lexeme) (o : ReadingOutcome) → NoFault o → reading true xs ≡ o → reading false xs ≡ o
reading_keeps [] o n h = h
reading_keeps (w ∷ zs) o n h = by (is_the_word w.means (codes "syntax")) h
  where
    by : (b : Bool) → (if b then after_syntax_word true w zs else if is_no_token w.means then failed (unexpected w) else failed (proto_fault_at reasons.Syntax2 w.span)) ≡ o
        → (if b then after_syntax_word false w zs else if is_no_token w.means then failed (unexpected w) else failed (proto_fault_at reasons.Syntax2 w.span)) ≡ o
    by true h = word_lifts w zs o n h
    by false h = h

pub reading_lifts : (xs : List Lexeme) (file : File) → reading true xs ≡ read file → reading false xs ≡ read file
reading_lifts xs file h = reading_keeps xs (read file) (λ e q. let t : failed e ≡ read file = q in cc) h

-- ---- the end of a text is its last token

end_is_last : (k : TokenKind) (literal : List ℕ) → meaning k literal ≡ the_end → is_last k ≡ true
end_is_last kinds.End literal h = refl
end_is_last kinds.Identifier literal h = absurd (let t : identifier literal ≡ the_end = h in cc)
end_is_last (kinds.Integer v) literal h = absurd (let t : integer v ≡ the_end = h in cc)
end_is_last kinds.Number literal h = absurd (let t : number ≡ the_end = h in cc)
end_is_last kinds.Text literal h = absurd cc
end_is_last (kinds.Mark c) literal h = absurd (let t : mark c ≡ the_end = h in cc)
end_is_last kinds.Bad literal h = absurd (let t : none ≡ the_end = h in cc)

pub nothing_behind : (text : List ℕ) (place : ℕ) (ts : List Token) (front rest : List Lexeme) (x : Lexeme)
    → AreTokens text place ts → x.means ≡ the_end → lexemes text ts ≡ front ++ x ∷ rest → rest ≡ []
nothing_behind text place ts [] rest x (last_token t e n l) m q =
    let a : ◌≡◌ {A = List Lexeme} (lexeme text t ∷ []) (x ∷ rest) = sym (ap (lexemes text) e) ∙ q in
    cc
nothing_behind text place ts (y ∷ front) rest x (last_token t e n l) m q =
    let a : ◌≡◌ {A = List Lexeme} (lexeme text t ∷ []) (y ∷ front ++ x ∷ rest) = sym (ap (lexemes text) e) ∙ q in
    let b : ◌≡◌ {A = List Lexeme} [] (front ++ x ∷ rest) = cc in
    absurd (by front b)
  where
    by : (front : List Lexeme) → [] ≡ front ++ x ∷ rest → ⊥
    by [] b = let c : ◌≡◌ {A = List Lexeme} [] (x ∷ rest) = b in cc
    by (z ∷ zs) b = let c : ◌≡◌ {A = List Lexeme} [] (z ∷ zs ++ x ∷ rest) = b in cc
nothing_behind text place ts [] rest x (further_token t us e n l o) m q =
    let a : ◌≡◌ {A = List Lexeme} (lexeme text t ∷ lexemes text us) (x ∷ rest) = sym (ap (lexemes text) e) ∙ q in
    let b : lexeme text t ≡ x = cc in
    let c : meaning t.kind (literal_of text t) ≡ the_end = ap (λ (z : Lexeme). z.means) b ∙ m in
    absurd (let d : true ≡ false = sym (end_is_last t.kind (literal_of text t) c) ∙ l in cc)
nothing_behind text place ts (y ∷ front) rest x (further_token t us e n l o) m q =
    let a : ◌≡◌ {A = List Lexeme} (lexeme text t ∷ lexemes text us) (y ∷ front ++ x ∷ rest) = sym (ap (lexemes text) e) ∙ q in
    let b : ◌≡◌ {A = List Lexeme} (lexemes text us) (front ++ x ∷ rest) = cc in
    nothing_behind text t.end us front rest x o m b

-- if a text's tokens read as a file, they are a complete text, to the last token
pub forms_exactly : (text : List ℕ) (ts : List Token) (file : File) → AreTokens text 0 ts
    → reading false (lexemes text ts) ≡ read file → AreFileTokens (lexemes text ts) file
forms_exactly text ts file a r = by (reading_reads (lexemes text ts) file r)
  where
    exact : (front rest : List Lexeme) (f : File) → AreFileTokens front f → lexemes text ts ≡ front ++ rest
        → AreFileTokens (lexemes text ts) f
    exact front rest f (Files.whole x {xs = xs} {d = d} s w m e) q =
        let p : lexemes text ts ≡ xs ++ x ∷ rest = q ∙ (ap (λ (l : List Lexeme). l ++ rest) e ∙ append_assoc xs (x ∷ []) rest) in
        let n : rest ≡ [] = nothing_behind text 0 ts xs rest x a m p in
        Files.whole x s w m (p ∙ ap (λ (l : List Lexeme). xs ++ x ∷ l) n)

    by : Begun (lexemes text ts) file → AreFileTokens (lexemes text ts) file
    by (begun {front = front} rest h q) = exact front rest file h q

-- ---- texts

pub text_of : (text : List ℕ) (ts : List Token) (file : File) → AreTokens text 0 ts
    → reading true (lexemes text ts) ≡ read file → IsProtoTextOf text file
text_of text ts file a r = record {
  tokens = ts;
  of_text = a;
  reads = forms_exactly text ts file a (reading_lifts (lexemes text ts) file r);
  shallow = λ k n. read_not_deep (lexemes text ts) file k r n;
}

pub read_of : (text : List ℕ) (file : File) (h : IsProtoTextOf text file) → reading true (lexemes text h.tokens) ≡ read file
read_of text file h = forms_well h.reads h.shallow

-- a text reads as at most one file
pub one_reading : (text : List ℕ) (f g : File)
    → ((place : ℕ) (ts us : List Token) → AreTokens text place ts → AreTokens text place us → ts ≡ us)
    → IsProtoTextOf text f → IsProtoTextOf text g → f ≡ g
one_reading text f g one h k =
    let e : h.tokens ≡ k.tokens = one 0 h.tokens k.tokens h.of_text k.of_text in
    let q : read f ≡ read g = sym (read_of text f h) ∙ (ap (λ (ts : List Token). reading true (lexemes text ts)) e ∙ read_of text g k) in
    cc
