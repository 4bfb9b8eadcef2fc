-- The first token at fault: a text that is not a file has one, and a file has none.
use Rattle.std.proofs.Common.{subst, ◌≡◌, ◌≢◌, ◌⊎◌, inl, inr, ℕ, zero, suc, ◌+◌, ◌-◌, ◌<◌, ◌≤◌, length, take, drop}
use Rattle.std.proofs.Common.{Bool, true, false, List, [], ◌∷◌, ◌++◌, codes, refl, ap, sym, ◌∙◌, arith}
use Rattle.std.specs.Prelude.{Ok, Err, Result, Option, Some, None, if◌then◌else◌, slice_get}
use Rattle.std.proofs.lemmas.List.{append_assoc, append-nil}
use Rattle.std.proofs.lemmas.Bool.{false_from_ne_true}
use Rattle.std.proofs.Math.Nat.{eq-or-lt_of_le}
use Rattle.std.proofs.lemmas.Option.{slice_get_within}
use Rattle.proto_lexer.specs.Literals.{IsInteger, decimal, octal, hexadecimal, IsNumber, point, fraction, exponent}
use Rattle.proto_lexer.specs.Tokens
use Rattle.proto_lexer.specs.Tokens.{AreTokens, IsTokenAt, IsToken, is_last, literal_of}
use Rattle.proto_lexer.specs.declared.token.TokenKind.{TokenKind}
use Rattle.proto_lexer.specs.declared.token.TokenKind.TheVariants as kinds
use Rattle.proto_lexer.specs.declared.token.Token.{Token}
use Rattle.proto_grammar.specs.Lexemes.{TokenMeaning, identifier, integer, number, string, mark, the_end, none, Lexeme}
use Rattle.proto_grammar.specs.Lexemes.{span_of, meaning, lexeme, lexemes, semicolon, equals, IsWord, is_the_word}
use Rattle.proto_grammar.specs.Lexemes.{is_one_of_words}
use Rattle.proto_schema.specs.Files
use Rattle.proto_schema.specs.Files.{Draft, AreFileTokens, initial_draft}
use Rattle.proto_schema.specs.Faults
use Rattle.proto_grammar.specs.Lexemes.{is_no_token}
use Rattle.proto_schema.specs.Faults.{CanContinue, IsBreak, IsSpecificFault, IsTokenFault, IsProtoTextOf, HasProtoFault}
use Rattle.proto_grammar.specs.Advancing.{proto_fault_at, unexpected, is_punctuator}
use Rattle.std.specs.Str.{bytes_eq}
use Rattle.proto_schema.specs.StatementReading.{statement_place, draft_with, advance_statement, ReadingOutcome, cut_off, read, failed, is_over}
use Rattle.proto_schema.specs.StatementReading.{is_too_deep, after_token, run, after_syntax_word, after_syntax_equals, after_syntax_value}
use Rattle.proto_schema.specs.StatementReading.{after_syntax, reading}
use Rattle.proto_schema.proofs.Next.{run_step, run_over, mark_not_last, word_not_last}
use Rattle.proto_schema.proofs.Stops.{takes_no_last}
use Rattle.proto_schema.proofs.RunRest.{Begun, begun, reading_reads}
use Rattle.proto_schema.proofs.Shallow.{get_behind, drop_behind, reading_keeps, reading_lifts, nothing_behind, text_of, read_of}
use Rattle.proto_schema.proofs.Breaks.{cut_goes_on, reading_fails}
use Rattle.proto_schema.proofs.Reports.{Told, told, Means, has_name, breaks_off, reading_told}
use Rattle.proto_schema.proofs.Named.{Reports, here, earlier, named_reports, take_at_most, extend_word}
use Rattle.proto_ast.specs.declared.file.Span.{Span}
use Rattle.proto_ast.specs.declared.file.File.{File}
use Rattle.proto_grammar.specs.declared.fault.ProtoReason.{ProtoReason}
use Rattle.proto_grammar.specs.declared.fault.ProtoReason.TheVariants as reasons
use Rattle.proto_grammar.specs.declared.fault.ProtoFault.{ProtoFault}
use Rattle.proto_schema.specs.declared.statement.StatementState.{StatementState}
use Rattle.proto_schema.specs.declared.statement.StatementState.TheVariants as states
use Rattle.proto_schema.specs.declared.statement.StatementEffect.{StatementEffect}
use Rattle.proto_schema.specs.declared.statement.StatementStep.{StatementStep}
use Rattle.proto_schema.specs.declared.statement.StatementStep.TheVariants as steps

-- ---- tokens come one after another

no_digits : (xs ys : List ℕ) → [] ≡ xs ++ ys → (xs ≡ [] → ⊥) → ⊥
no_digits [] ys e n = n refl
no_digits (x ∷ xs) ys e n = let t : ◌≡◌ {A = List ℕ} [] (x ∷ xs ++ ys) = e in cc

behind_some : (xs : List ℕ) (y : ℕ) (ys : List ℕ) → [] ≡ xs ++ (y ∷ ys) → ⊥
behind_some [] y ys e = let t : ◌≡◌ {A = List ℕ} [] (y ∷ ys) = e in cc
behind_some (x ∷ xs) y ys e = let t : ◌≡◌ {A = List ℕ} [] (x ∷ xs ++ y ∷ ys) = e in cc

some_literal : (k : TokenKind) (literal rest : List ℕ) → IsToken k literal rest → literal ≡ [] → ⊥
some_literal k literal rest (Tokens.identifier e f b) q = let t : false ≡ true = rw q at f in cc
some_literal k literal rest (Tokens.integer value e i b) q = by i
  where
    by : IsInteger literal value → ⊥
    by (decimal d v) = let t : false ≡ true = rw q at d in cc
    by (octal digits a s o v) = let t : ◌≡◌ {A = List ℕ} [] (48 ∷ digits) = sym q ∙ a in cc
    by (hexadecimal x digits a c s h v) = let t : ◌≡◌ {A = List ℕ} [] (48 ∷ x ∷ digits) = sym q ∙ a in cc
some_literal k literal rest (Tokens.number e n b) q = by n
  where
    by : IsNumber literal → ⊥
    by (point whole part power a d p x) = behind_some whole 46 (part ++ power) (sym q ∙ a)
    by (fraction part power a s p x) = let t : ◌≡◌ {A = List ℕ} [] (46 ∷ part ++ power) = sym q ∙ a in cc
    by (exponent whole power a d x) = no_digits whole power (sym q ∙ a) (λ w. let t : false ≡ true = rw w at d in cc)
some_literal k literal rest (Tokens.string quote body e u a b) q = let t : ◌≡◌ {A = List ℕ} [] (quote ∷ body ++ quote ∷ []) = sym q ∙ a in cc
some_literal k literal rest (Tokens.mark c e a m g) q = let t : ◌≡◌ {A = List ℕ} [] (c ∷ []) = sym q ∙ a in cc

-- a token that isn't the last has at least one byte
some_bytes : (text : List ℕ) (t : Token) → IsTokenAt text t → is_last t.kind ≡ false → t.start < t.end
some_bytes text t (Tokens.word h s) l = by (eq-or-lt_of_le h)
  where
    by : (t.start ≡ t.end) ⊎ (t.start < t.end) → t.start < t.end
    by (inr g) = g
    by (inl e) =
        let z : t.end - t.start ≡ 0 = omega arith in
        absurd (some_literal t.kind (literal_of text t) (drop t.end text) s (ap (λ (n : ℕ). take n (drop t.start text)) z))
some_bytes text t (Tokens.the_end k s e) l = absurd (let q : true ≡ false = sym (ap is_last k) ∙ l in cc)
some_bytes text t (Tokens.no_word k e s) l = absurd (let q : true ≡ false = sym (ap is_last k) ∙ l in cc)

first_token : (text : List ℕ) (ts others : List Token) (t : Token) (x : Lexeme) → ts ≡ t ∷ others
    → slice_get (lexemes text ts) 0 ≡ Some x → lexeme text t ≡ x
first_token text ts others t x e h =
    let q : ◌≡◌ {A = Option Lexeme} (Some (lexeme text t)) (Some x) = ap (λ (us : List Token). slice_get (lexemes text us) 0) (sym e) ∙ h in
    cc

later_token : (text : List ℕ) (ts others : List Token) (t : Token) (i : ℕ) (x : Lexeme) → ts ≡ t ∷ others
    → slice_get (lexemes text ts) (suc i) ≡ Some x → slice_get (lexemes text others) i ≡ Some x
later_token text ts others t i x e h = ap (λ (us : List Token). slice_get (lexemes text us) (suc i)) (sym e) ∙ h

no_token_left : (i : ℕ) (x : Lexeme) → slice_get {X = Lexeme} [] i ≡ Some x → ⊥
no_token_left i x h = let t : ◌≡◌ {A = Option Lexeme} None (Some x) = h in cc

-- each token starts at or after the offset
starts_behind : (text : List ℕ) (place : ℕ) (ts : List Token) (i : ℕ) (x : Lexeme) → AreTokens text place ts
    → slice_get (lexemes text ts) i ≡ Some x → place ≤ x.span.start
starts_behind text place ts zero x (Tokens.last t e n l) h =
    let b : t.start ≡ x.span.start = ap (λ (z : Lexeme). z.span.start) (first_token text ts [] t x e h) in
    let c : place ≤ t.start = n.behind in
    omega arith
starts_behind text place ts (suc i) x (Tokens.last t e n l) h = absurd (no_token_left i x (later_token text ts [] t i x e h))
starts_behind text place ts zero x (Tokens.another t others e n l o) h =
    let b : t.start ≡ x.span.start = ap (λ (z : Lexeme). z.span.start) (first_token text ts others t x e h) in
    let c : place ≤ t.start = n.behind in
    omega arith
starts_behind text place ts (suc i) x (Tokens.another t others e n l o) h =
    let b : t.end ≤ x.span.start = starts_behind text t.end others i x o (later_token text ts others t i x e h) in
    let c : place ≤ t.start = n.behind in
    let d : t.start < t.end = some_bytes text t n.here l in
    omega arith

-- tokens with the same start are one
same_place : (text : List ℕ) (place : ℕ) (ts : List Token) (i j : ℕ) (x y : Lexeme) → AreTokens text place ts
    → slice_get (lexemes text ts) i ≡ Some x → slice_get (lexemes text ts) j ≡ Some y → x.span.start ≡ y.span.start
    → i ≡ j
same_place text place ts zero zero x y a h g e = refl
same_place text place ts zero (suc j) x y (Tokens.last t q n l) h g e = absurd (no_token_left j y (later_token text ts [] t j y q g))
same_place text place ts zero (suc j) x y (Tokens.another t others q n l o) h g e =
    let b : t.start ≡ x.span.start = ap (λ (z : Lexeme). z.span.start) (first_token text ts others t x q h) in
    let c : t.end ≤ y.span.start = starts_behind text t.end others j y o (later_token text ts others t j y q g) in
    let d : t.start < t.end = some_bytes text t n.here l in
    absurd (omega arith)
same_place text place ts (suc i) zero x y (Tokens.last t q n l) h g e = absurd (no_token_left i x (later_token text ts [] t i x q h))
same_place text place ts (suc i) zero x y (Tokens.another t others q n l o) h g e =
    let b : t.start ≡ y.span.start = ap (λ (z : Lexeme). z.span.start) (first_token text ts others t y q g) in
    let c : t.end ≤ x.span.start = starts_behind text t.end others i x o (later_token text ts others t i x q h) in
    let d : t.start < t.end = some_bytes text t n.here l in
    absurd (omega arith)
same_place text place ts (suc i) (suc j) x y (Tokens.last t q n l) h g e = absurd (no_token_left i x (later_token text ts [] t i x q h))
same_place text place ts (suc i) (suc j) x y (Tokens.another t others q n l o) h g e =
    ap suc (same_place text t.end others i j x y o (later_token text ts others t i x q h) (later_token text ts others t j y q g) e)

-- ---- reports are unique

-- reading reports a reason at a token
pub data Report (ts : List Lexeme) (k : ℕ) (x : Lexeme) (q : ProtoReason) : Type 0 where
  report : slice_get ts k ≡ Some x → reading true ts ≡ failed (proto_fault_at q x.span) → Report ts k x q

pub record Same (i j : ℕ) (x y : Lexeme) (q r : ProtoReason) : Type 0 where
  pub place : i ≡ j
  pub token : x ≡ y
  pub reason : q ≡ r

same_report : (text : List ℕ) (ts : List Token) {i j : ℕ} {x y : Lexeme} {q r : ProtoReason} → AreTokens text 0 ts
    → Report (lexemes text ts) i x q → Report (lexemes text ts) j y r → Same i j x y q r
same_report text ts {i = i} {j = j} {x = x} {y = y} {q = q} {r = r} a (report h f) (report g e) = record { place = p; token = t; reason = s }
  where
    both : failed (proto_fault_at q x.span) ≡ failed (proto_fault_at r y.span)
    both = sym f ∙ e

    start : x.span.start ≡ y.span.start
    start = let b : failed (proto_fault_at q x.span) ≡ failed (proto_fault_at r y.span) = both in cc

    p : i ≡ j
    p = same_place text 0 ts i j x y a h g start

    s : q ≡ r
    s = let b : failed (proto_fault_at q x.span) ≡ failed (proto_fault_at r y.span) = both in cc

    t : x ≡ y
    t = let b : ◌≡◌ {A = Option Lexeme} (Some x) (Some y) = sym h ∙ (ap (slice_get (lexemes text ts)) p ∙ g) in cc

-- ---- the report of a break

-- a report at an index or before it
pub data Early (ts : List Lexeme) (k : ℕ) : Type 0 where
  early : (i : ℕ) (x : Lexeme) (q : ProtoReason) → i ≤ k → Report ts i x q → Early ts k

get_front : (ts : List Lexeme) (n i : ℕ) (x : Lexeme) → slice_get (take n ts) i ≡ Some x → slice_get ts i ≡ Some x
get_front ts zero i x h = absurd (no_token_left i x h)
get_front [] (suc n) i x h = absurd (no_token_left i x h)
get_front (t ∷ ts) (suc n) zero x h = h
get_front (t ∷ ts) (suc n) (suc i) x h = get_front ts n i x h

no_more : (xs ys : List Lexeme) → xs ++ ys ≡ [] → xs ≡ []
no_more [] ys e = refl
no_more (x ∷ xs) ys e = absurd (let t : ◌≡◌ {A = List Lexeme} (x ∷ xs ++ ys) [] = e in cc)

-- a prefix of a text's tokens that reads as a file is the whole text
front_goes_on : (text : List ℕ) (ts : List Token) (front rest : List Lexeme) (file : File) → AreTokens text 0 ts
    → front ++ rest ≡ lexemes text ts → reading true front ≡ read file → CanContinue front
front_goes_on text ts front rest file a e r = by (reading_reads front file (reading_lifts front file r))
  where
    whole : (us more : List Lexeme) (f : File) → AreFileTokens us f → front ≡ us ++ more → CanContinue front
    whole us more f (Files.whole x {xs = xs} {d = d} s w m q) p =
        let g : lexemes text ts ≡ xs ++ x ∷ (more ++ rest) =
        sym e ∙ (ap (λ (l : List Lexeme). l ++ rest) (p ∙ (ap (λ (l : List Lexeme). l ++ more) q ∙ append_assoc xs (x ∷ []) more)) ∙ append_assoc xs (x ∷ more) rest) in
        let n : more ≡ [] = no_more more rest (nothing_behind text 0 ts xs (more ++ rest) x a m g) in
        let c : front ≡ us = p ∙ (ap (λ (l : List Lexeme). us ++ l) n ∙ append-nil us) in
        ([], d.file, subst (λ (l : List Lexeme). AreFileTokens l d.file) (sym (append-nil front ∙ c)) (Files.whole x s w m q))

    by : Begun front file → CanContinue front
    by (begun {front = us} more h q) = whole us more file h q

-- if tokens break off, reading reports something there or before
breaks_early : (text : List ℕ) (ts : List Token) (k : ℕ) (x : Lexeme) → AreTokens text 0 ts
    → IsBreak (lexemes text ts) k x → Early (lexemes text ts) k
breaks_early text ts k x a b = by (drop_behind (k + 1) all) (reading true front) refl
  where
    all : List Lexeme
    all = lexemes text ts

    front : List Lexeme
    front = take (k + 1) (lexemes text ts)

    by : (rest : List Lexeme) × (take (k + 1) (lexemes text ts) ++ rest ≡ lexemes text ts) → (o : ReadingOutcome)
        → reading true (take (k + 1) (lexemes text ts)) ≡ o → Early (lexemes text ts) k
    by (rest, e) (cut_off d s) h =
        absurd (b.behind (cut_goes_on (take (k + 1) (lexemes text ts)) d s
        (reading_keeps (take (k + 1) (lexemes text ts)) (cut_off d s) (λ f q. let t : failed f ≡ cut_off d s =
        q in cc) h)))
    by (rest, e) (read file) h = absurd (b.behind (front_goes_on text ts (take (k + 1) (lexemes text ts)) rest file a e h))
    by (rest, e) (failed f) h = at (reading_told (take (k + 1) (lexemes text ts)) f h)
      where
        at : Told (take (k + 1) (lexemes text ts)) f → Early (lexemes text ts) k
        at (told i y q g p m) =
            let l : i < length (take (k + 1) (lexemes text ts)) = slice_get_within (take (k + 1) (lexemes text ts)) i y g in
            let n : length (take (k + 1) (lexemes text ts)) ≤ k + 1 = take_at_most (k + 1) (lexemes text ts) in
            let r : reading true (lexemes text ts) ≡ failed f = ap (reading true) (sym e) ∙ reading_fails true f (take (k + 1) (lexemes text ts)) rest h in
            early i y q (omega arith) (report (get_front (lexemes text ts) (k + 1) i y g) (r ∙ ap failed (sym p)))

-- ---- each fault is reported

-- only `Token` is the reason at something that is not a token
named_token : {ts : List Lexeme} {k : ℕ} {q : ProtoReason} (x : Lexeme) → IsSpecificFault ts k q → slice_get ts k ≡ Some x
    → is_no_token x.means ≡ true → q ≡ reasons.Token
named_token x (Faults.no_token y b n) h t = refl
named_token {ts = ts} {k = k} x (Faults.import j i y d e s f g w p n c) h t =
    let q : ◌≡◌ {A = Option Lexeme} (Some y) (Some x) = sym p ∙ h in let r : y ≡ x = (cc) in
    absurd (let u : true ≡ false = sym t ∙ subst (λ (z : Lexeme). is_no_token z.means ≡ false) r n in cc)
named_token {ts = ts} {k = k} x (Faults.stream xs ys zs y z d e l s b w c) h t =
    let g : slice_get ts k ≡ Some y = subst (λ (l : List Lexeme). slice_get l k ≡ Some y) (sym e)
    (subst (λ (n : ℕ). slice_get ((xs ++ ys) ++ y ∷ z ∷ zs) n ≡ Some y) l (get_behind (xs ++ ys) (z ∷ zs) y)) in
    let q : ◌≡◌ {A = Option Lexeme} (Some y) (Some x) = sym g ∙ h in let r : y ≡ x = (cc) in
    absurd (let u : true ≡ false = sym t ∙ (ap (λ (z : Lexeme). is_no_token z.means) (sym r) ∙ ap is_no_token w) in cc)
named_token {ts = ts} {k = k} x (Faults.group xs ys zs y d e l s b w) h t =
    let g : slice_get ts k ≡ Some y = subst (λ (l : List Lexeme). slice_get l k ≡ Some y) (sym e)
    (subst (λ (n : ℕ). slice_get ((xs ++ ys) ++ y ∷ zs) n ≡ Some y) l (get_behind (xs ++ ys) zs y)) in
    let q : ◌≡◌ {A = Option Lexeme} (Some y) (Some x) = sym g ∙ h in let r : y ≡ x = (cc) in
    absurd (let u : true ≡ false = sym t ∙ (ap (λ (z : Lexeme). is_no_token z.means) (sym r) ∙ ap is_no_token w) in cc)
named_token x (Faults.extend y d s b g w) h t =
    let q : ◌≡◌ {A = Option Lexeme} (Some y) (Some x) = sym g ∙ h in let r : y ≡ x = (cc) in
    absurd (let u : true ≡ false = sym t ∙ (ap (λ (z : Lexeme). is_no_token z.means) (sym r) ∙ word_token y w) in cc)
  where
    word_token : (y : Lexeme) → is_one_of_words y (codes "extend" ∷ codes "extensions" ∷ []) ≡ true → is_no_token y.means ≡ false
    word_token y w = by (extend_word y w)
      where
        by : (n : List ℕ) × IsWord y n × ((n ≡ codes "extend") ⊎ (n ≡ codes "extensions")) → is_no_token y.means ≡ false
        by (n, h, c) = ap is_no_token h
named_token {ts = ts} x (Faults.no_syntax y e g n s) h t =
    let q : ◌≡◌ {A = Option Lexeme} (Some y) (Some x) = sym g ∙ (ap (slice_get ts) (sym e) ∙ h) in let r : y ≡ x = (cc) in
    absurd (let u : true ≡ false = sym t ∙ subst (λ (z : Lexeme). is_no_token z.means ≡ false) r n in cc)
named_token {ts = ts} x (Faults.other_syntax y z u us v e a hy hz hu n) h t =
    let g : slice_get ts 0 ≡ Some y = ap (λ (l : List Lexeme). slice_get l 0) a in
    let q : ◌≡◌ {A = Option Lexeme} (Some y) (Some x) = sym g ∙ (ap (slice_get ts) (sym e) ∙ h) in let r : y ≡ x = (cc) in
    absurd (let u : true ≡ false = sym t ∙ (ap (λ (z : Lexeme). is_no_token z.means) (sym r) ∙ ap is_no_token hy) in cc)
named_token x (Faults.nesting y d g m s i l) h t =
    let q : ◌≡◌ {A = Option Lexeme} (Some y) (Some x) = sym g ∙ h in let r : y ≡ x = (cc) in
    absurd (let u : true ≡ false = sym t ∙ (ap (λ (z : Lexeme). is_no_token z.means) (sym r) ∙ ap is_no_token m) in cc)

-- `Expected` is not one of the specific reasons
never_expected : {ts : List Lexeme} {k : ℕ} {q : ProtoReason} → IsSpecificFault ts k q → q ≡ reasons.Expected → ⊥
never_expected (Faults.no_token x b n) e = (cc)
never_expected (Faults.import j i y d k s f g w p n c) e = (cc)
never_expected (Faults.stream xs ys zs y z d k l s b w c) e = (cc)
never_expected (Faults.group xs ys zs y d k l s b w) e = (cc)
never_expected (Faults.extend y d s b g w) e = (cc)
never_expected (Faults.no_syntax y k g n s) e = (cc)
never_expected (Faults.other_syntax y z u us v k a hy hz hu n) e = (cc)
never_expected (Faults.nesting y d g m s i l) e = (cc)

-- each reason is `Token` or not
token_or : (q : ProtoReason) → (q ≡ reasons.Token) ⊎ (q ≢ reasons.Token)
token_or reasons.Token = inl refl
token_or reasons.Expected = inr (λ e. cc)
token_or reasons.Import = inr (λ e. cc)
token_or reasons.Stream = inr (λ e. cc)
token_or reasons.Group = inr (λ e. cc)
token_or reasons.Extend = inr (λ e. cc)
token_or reasons.Syntax2 = inr (λ e. cc)
token_or reasons.Nesting = inr (λ e. cc)

-- what is reported where tokens break off, as far as the reason is known there
break_reports : (text : List ℕ) (ts : List Token) (k : ℕ) (q : ProtoReason) (x : Lexeme) → AreTokens text 0 ts
    → IsBreak (lexemes text ts) k x
    → ((r : ProtoReason) → Means (lexemes text ts) k x r → r ≡ q) → Reports (lexemes text ts) k q
break_reports text ts k q x a b known = by (breaks_early text ts k x a b)
  where
    by : Early (lexemes text ts) k → Reports (lexemes text ts) k q
    by (early i y r l (report h f)) = order (eq-or-lt_of_le l)
      where
        means : (j : ℕ) (z : Lexeme) (s : ProtoReason) → i ≡ k → slice_get (lexemes text ts) j ≡ Some z
            → proto_fault_at s z.span ≡ proto_fault_at r y.span → Means (lexemes text ts) j z s → Reports (lexemes text ts) k q
        means j z s e g p m =
            let c : Same j i z y s r = same_report text ts a (report g (f ∙ ap failed (sym p))) (report h f) in
            let u : ◌≡◌ {A = Option Lexeme} (Some y) (Some x) = sym h ∙ (ap (slice_get (lexemes text ts)) e ∙ b.here) in
            let v : y ≡ x = (cc) in
            let n : Means (lexemes text ts) k x s =
            subst (λ (w : Lexeme). Means (lexemes text ts) k w s) (c.token ∙ v)
            (subst (λ (n : ℕ). Means (lexemes text ts) n z s) (c.place ∙ e) m) in
            let o : r ≡ q = sym c.reason ∙ known s n in
            here x b.here (f ∙ (ap (λ (w : Lexeme). failed (proto_fault_at r w.span)) v ∙ ap (λ (w : ProtoReason). failed (proto_fault_at w x.span)) o))

        order : (i ≡ k) ⊎ (i < k) → Reports (lexemes text ts) k q
        order (inr g) = earlier i y r g h f
        order (inl e) = at (reading_told (lexemes text ts) (proto_fault_at r y.span) f)
          where
            at : Told (lexemes text ts) (proto_fault_at r y.span) → Reports (lexemes text ts) k q
            at (told j z s g p m) = means j z s e g p m

-- the report that this is not a token
no_token_reports : (text : List ℕ) (ts : List Token) (k : ℕ) (x : Lexeme) → AreTokens text 0 ts
    → IsBreak (lexemes text ts) k x → is_no_token x.means ≡ true → Reports (lexemes text ts) k reasons.Token
no_token_reports text ts k x a b n = break_reports text ts k reasons.Token x a b known
  where
    known : (r : ProtoReason) → Means (lexemes text ts) k x r → r ≡ reasons.Token
    known r (has_name m) = named_token x m b.here n
    known r (breaks_off c f) = absurd (let t : true ≡ false = sym n ∙ f in cc)

token_break : {ts : List Lexeme} {k : ℕ} {q : ProtoReason} → IsSpecificFault ts k q → q ≡ reasons.Token
    → (x : Lexeme) × IsBreak ts k x × (is_no_token x.means ≡ true)
token_break (Faults.no_token x b n) e = (x, b, n)
token_break (Faults.import j i y d k s f g w p n c) e = absurd (cc)
token_break (Faults.stream xs ys zs y z d k l s b w c) e = absurd (cc)
token_break (Faults.group xs ys zs y d k l s b w) e = absurd (cc)
token_break (Faults.extend y d s b g w) e = absurd (cc)
token_break (Faults.no_syntax y k g n s) e = absurd (cc)
token_break (Faults.other_syntax y z u us v k a hy hz hu n) e = absurd (cc)
token_break (Faults.nesting y d g m s i l) e = absurd (cc)

name_reports : (text : List ℕ) (ts : List Token) (k : ℕ) (q : ProtoReason) → AreTokens text 0 ts
    → IsSpecificFault (lexemes text ts) k q → Reports (lexemes text ts) k q
name_reports text ts k q a n = by (token_or q)
  where
    by : (q ≡ reasons.Token) ⊎ (q ≢ reasons.Token) → Reports (lexemes text ts) k q
    by (inr o) = named_reports n o
    by (inl e) = at (token_break n e)
      where
        at : (x : Lexeme) × IsBreak (lexemes text ts) k x × (is_no_token x.means ≡ true) → Reports (lexemes text ts) k q
        at (x, b, m) = subst (λ (r : ProtoReason). Reports (lexemes text ts) k r) (sym e) (no_token_reports text ts k x a b m)

fault_reports : (text : List ℕ) (ts : List Token) (k : ℕ) (q : ProtoReason) → AreTokens text 0 ts
    → IsTokenFault (lexemes text ts) k q → Reports (lexemes text ts) k q
fault_reports text ts k q a (Faults.named n) = name_reports text ts k q a n
fault_reports text ts k q a (Faults.expected x b unnamed) = break_reports text ts k reasons.Expected x a b known
  where
    known : (r : ProtoReason) → Means (lexemes text ts) k x r → r ≡ reasons.Expected
    known r (has_name m) = absurd (unnamed r k (omega arith) m)
    known r (breaks_off c f) = refl

-- ---- each report is a fault

report_fault : (text : List ℕ) (ts : List Token) (k : ℕ) (x : Lexeme) (q : ProtoReason) → AreTokens text 0 ts
    → Report (lexemes text ts) k x q → Means (lexemes text ts) k x q → IsTokenFault (lexemes text ts) k q
report_fault text ts k x q a r (has_name n) = Faults.named n
report_fault text ts k x q a r (breaks_off b n) = Faults.expected x b (λ p j l m. by p j l m (name_reports text ts j p a m))
  where
    by : (p : ProtoReason) (j : ℕ) → j ≤ k → IsSpecificFault (lexemes text ts) j p → Reports (lexemes text ts) j p → ⊥
    by p j l m (here y h f) = let c : Same j k y x p reasons.Expected = same_report text ts a (report h f) r in never_expected m c.reason
    by p j l m (earlier i y s g h f) = let c : Same i k y x s reasons.Expected = same_report text ts a (report h f) r in let e : i ≡ k = c.place in omega arith

-- there is no fault before a report
none_earlier : (text : List ℕ) (ts : List Token) (k : ℕ) (x : Lexeme) (q : ProtoReason) → AreTokens text 0 ts
    → Report (lexemes text ts) k x q → (j : ℕ) (p : ProtoReason) → j < k → IsTokenFault (lexemes text ts) j p → ⊥
none_earlier text ts k x q a r j p l f = by (fault_reports text ts j p a f)
  where
    by : Reports (lexemes text ts) j p → ⊥
    by (here y h g) = let c : Same j k y x p q = same_report text ts a (report h g) r in let e : j ≡ k = c.place in omega arith
    by (earlier i y s m h g) = let c : Same i k y x s q = same_report text ts a (report h g) r in let e : i ≡ k = c.place in omega arith

-- the reported fault is the first one
pub failed_first : (text : List ℕ) (ts : List Token) (e : ProtoFault) → AreTokens text 0 ts
    → reading true (lexemes text ts) ≡ failed e
    → (q : ProtoReason) × (s : Span) × HasProtoFault text q s × (proto_fault_at q s ≡ e)
failed_first text ts e a h = by (reading_told (lexemes text ts) e h)
  where
    by : Told (lexemes text ts) e → (q : ProtoReason) × (s : Span) × HasProtoFault text q s × (proto_fault_at q s ≡ e)
    by (told k x q g p m) =
        let r : Report (lexemes text ts) k x q = report g (h ∙ ap failed (sym p)) in (
          q,
          x.span,
          record {
            tokens = ts;
            of_text = a;
            place = k;
            first = record { here = report_fault text ts k x q a r m; none_before = none_earlier text ts k x q a r };
            token = x;
            is = g;
            stands = refl;
          },
          p,
        )

-- the first fault is reported
pub first_failed : (text : List ℕ) (q : ProtoReason) (s : Span) (f : HasProtoFault text q s)
    → Report (lexemes text f.tokens) f.place f.token q
first_failed text q s f = by (fault_reports text f.tokens f.place q f.of_text f.first.here)
  where
    before : (i : ℕ) (y : Lexeme) (r : ProtoReason) → i < f.place → Report (lexemes text f.tokens) i y r
        → Told (lexemes text f.tokens) (proto_fault_at r y.span) → ⊥
    before i y r l (report h g) (told j z p n e m) =
        let c : Report (lexemes text f.tokens) j z p = report n (g ∙ ap failed (sym e)) in
        let d : Same j i z y p r = same_report text f.tokens f.of_text c (report h g) in
        let o : j ≡ i = d.place in
        f.first.none_before j p (omega arith) (report_fault text f.tokens j z p f.of_text c m)

    by : Reports (lexemes text f.tokens) f.place q → Report (lexemes text f.tokens) f.place f.token q
    by (here y h g) =
        let u : ◌≡◌ {A = Option Lexeme} (Some y) (Some f.token) = sym h ∙ f.is in
        let v : y ≡ f.token = (cc) in
        report f.is (g ∙ ap (λ (w : Lexeme). failed (proto_fault_at q w.span)) v)
    by (earlier i y r l h g) = absurd (before i y r l (report h g) (reading_told (lexemes text f.tokens) (proto_fault_at r y.span) g))

-- ---- reading a text never runs out of tokens

never_failed : {e : ProtoFault} {c : Draft} {t : StatementState} → failed e ≡ cut_off c t → ⊥
never_failed h = (cc)

one_cut : (d c : Draft) (s t : StatementState) (x : Lexeme) (xs : List Lexeme)
    → ((r : StatementStep) → advance_statement (statement_place d) s x ≡ Ok r → (e : Draft) (u : StatementState) → run true e u xs ≡ cut_off c t → ⊥)
    → run true d s (x ∷ xs) ≡ cut_off c t → ⊥
one_cut d c s t x xs more h = by (is_over d s x) refl
  where
    deep : (v : StatementEffect) → advance_statement (statement_place d) s x ≡ Ok (steps.Done v) → (b : Bool)
        → (if b then failed (proto_fault_at reasons.Nesting x.span) else run true (draft_with d v) states.Begin xs) ≡ cut_off c t → ⊥
    deep v e true h = never_failed h
    deep v e false h = more (steps.Done v) e (draft_with d v) states.Begin h

    step : (r : Result StatementStep ProtoFault) → advance_statement (statement_place d) s x ≡ r
        → after_token (λ c t. run true c t xs) true d x r ≡ cut_off c t → ⊥
    step (Ok (steps.More u)) e h = more (steps.More u) e d u h
    step (Ok (steps.Done v)) e h = deep v e (is_too_deep true d v) h
    step (Err f) e h = never_failed h

    by : (b : Bool) → is_over d s x ≡ b → ⊥
    by true o = let q : read d.file ≡ cut_off c t = sym (run_over true d s x xs o) ∙ h in cc
    by false o = step (advance_statement (statement_place d) s x) refl (sym (run_step true d s x xs o) ∙ h)

run_ends : (text : List ℕ) (place : ℕ) (ts : List Token) → AreTokens text place ts → (d c : Draft) (s t : StatementState)
    → run true d s (lexemes text ts) ≡ cut_off c t → ⊥
run_ends text place ts (Tokens.last u e n l) d c s t h =
    one_cut d c s t (lexeme text u) [] (λ r q f g i. let b : true ≡ false = sym l ∙ takes_no_last text u (statement_place d) s r q in cc)
    (ap (λ (us : List Token). run true d s (lexemes text us)) (sym e) ∙ h)
run_ends text place ts (Tokens.another u others e n l o) d c s t h =
    one_cut d c s t (lexeme text u) (lexemes text others) (λ r q f g i. run_ends text u.end others o f c g t i)
    (ap (λ (us : List Token). run true d s (lexemes text us)) (sym e) ∙ h)

-- a last token is not this punctuator
last_mark : (text : List ℕ) (t : Token) (m : ℕ) → is_last t.kind ≡ true → is_punctuator (lexeme text t).means m ≡ false
last_mark text t m l = false_from_ne_true (is_punctuator (lexeme text t).means m) (λ h. let q : true ≡ false = sym l ∙ mark_not_last text t m h in cc)

syntax_ends : (text : List ℕ) (place : ℕ) (ts : List Token) → AreTokens text place ts → (c : Draft) (t : StatementState)
    → after_syntax true (lexemes text ts) ≡ cut_off c t → ⊥
syntax_ends text place ts (Tokens.last u e n l) c t h =
    let g : after_syntax true (lexeme text u ∷ []) ≡ cut_off c t = ap (λ (us : List Token). after_syntax true (lexemes text us)) (sym e) ∙ h in
    never_failed (rw (last_mark text u semicolon l) at g)
syntax_ends text place ts (Tokens.another u others e n l o) c t h = by (is_punctuator (lexeme text u).means semicolon) g
  where
    g : after_syntax true (lexeme text u ∷ lexemes text others) ≡ cut_off c t
    g = ap (λ (us : List Token). after_syntax true (lexemes text us)) (sym e) ∙ h

    by : (b : Bool) → (if b then run true initial_draft states.Begin (lexemes text others) else failed (unexpected (lexeme text u))) ≡ cut_off c t → ⊥
    by true g = run_ends text u.end others o initial_draft c states.Begin t g
    by false g = never_failed g

-- the string of the syntax statement
value_ends : (w y : Lexeme) (zs : List Lexeme) (c : Draft) (t : StatementState) (m : TokenMeaning)
    → ((v : List ℕ) → m ≡ string v → after_syntax true zs ≡ cut_off c t → ⊥) → after_syntax_value true w y zs m ≡ cut_off c t → ⊥
value_ends w y zs c t (string v) more h = by (bytes_eq v (codes "proto3")) h
  where
    by : (b : Bool) → (if b then after_syntax true zs else failed (proto_fault_at reasons.Syntax2 w.span)) ≡ cut_off c t → ⊥
    by true h = more v refl h
    by false h = never_failed h
value_ends w y zs c t (identifier v) more h = never_failed h
value_ends w y zs c t (integer v) more h = never_failed h
value_ends w y zs c t number more h = never_failed h
value_ends w y zs c t (mark v) more h = never_failed h
value_ends w y zs c t the_end more h = never_failed h
value_ends w y zs c t none more h = never_failed h

last_string : (k : TokenKind) (literal v : List ℕ) → is_last k ≡ true → meaning k literal ≡ string v → ⊥
last_string kinds.End literal v l h = (cc)
last_string kinds.Bad literal v l h = (cc)
last_string kinds.Identifier literal v l h = let t : false ≡ true = l in cc
last_string (kinds.Integer n) literal v l h = let t : false ≡ true = l in cc
last_string kinds.Number literal v l h = let t : false ≡ true = l in cc
last_string kinds.Text literal v l h = let t : false ≡ true = l in cc
last_string (kinds.Mark c) literal v l h = let t : false ≡ true = l in cc

equals_ends : (text : List ℕ) (place : ℕ) (ts : List Token) (w : Lexeme) → AreTokens text place ts → (c : Draft)
    (t : StatementState) → after_syntax_equals true w (lexemes text ts) ≡ cut_off c t → ⊥
equals_ends text place ts w (Tokens.last u e n l) c t h =
    value_ends w (lexeme text u) [] c t (lexeme text u).means (λ v q i. last_string u.kind (literal_of text u) v l q)
    (ap (λ (us : List Token). after_syntax_equals true w (lexemes text us)) (sym e) ∙ h)
equals_ends text place ts w (Tokens.another u others e n l o) c t h =
    value_ends w (lexeme text u) (lexemes text others) c t (lexeme text u).means (λ v q i. syntax_ends text u.end others o c t i)
    (ap (λ (us : List Token). after_syntax_equals true w (lexemes text us)) (sym e) ∙ h)

word_ends : (text : List ℕ) (place : ℕ) (ts : List Token) (w : Lexeme) → AreTokens text place ts → (c : Draft)
    (t : StatementState) → after_syntax_word true w (lexemes text ts) ≡ cut_off c t → ⊥
word_ends text place ts w (Tokens.last u e n l) c t h =
    let g : after_syntax_word true w (lexeme text u ∷ []) ≡ cut_off c t = ap (λ (us : List Token). after_syntax_word true w (lexemes text us)) (sym e) ∙ h in
    never_failed (rw (last_mark text u equals l) at g)
word_ends text place ts w (Tokens.another u others e n l o) c t h = by (is_punctuator (lexeme text u).means equals) g
  where
    g : after_syntax_word true w (lexeme text u ∷ lexemes text others) ≡ cut_off c t
    g = ap (λ (us : List Token). after_syntax_word true w (lexemes text us)) (sym e) ∙ h

    by : (b : Bool) → (if b then after_syntax_equals true w (lexemes text others) else failed (unexpected (lexeme text u))) ≡ cut_off c t → ⊥
    by true g = equals_ends text u.end others w o c t g
    by false g = never_failed g

-- the first token isn't `syntax`
other_first : (w : Lexeme) (c : Draft) (t : StatementState) (b : Bool)
    → (if b then failed (unexpected w) else failed (proto_fault_at reasons.Syntax2 w.span)) ≡ cut_off c t → ⊥
other_first w c t true h = never_failed h
other_first w c t false h = never_failed h

reading_ends : (text : List ℕ) (ts : List Token) → AreTokens text 0 ts → (c : Draft) (t : StatementState)
    → reading true (lexemes text ts) ≡ cut_off c t → ⊥
reading_ends text ts (Tokens.last u e n l) c t h = by (is_the_word (lexeme text u).means (codes "syntax")) refl g
  where
    g : reading true (lexeme text u ∷ []) ≡ cut_off c t
    g = ap (λ (us : List Token). reading true (lexemes text us)) (sym e) ∙ h

    by : (b : Bool) → is_the_word (lexeme text u).means (codes "syntax") ≡ b
        → (if b then after_syntax_word true (lexeme text u) [] else if is_no_token (lexeme text u).means then failed
        (unexpected (lexeme text u)) else failed (proto_fault_at reasons.Syntax2 (span_of u))) ≡ cut_off c t → ⊥
    by true s g = let q : true ≡ false = sym l ∙ word_not_last text u (codes "syntax") s in cc
    by false s g = other_first (lexeme text u) c t (is_no_token (lexeme text u).means) g
reading_ends text ts (Tokens.another u others e n l o) c t h = by (is_the_word (lexeme text u).means (codes "syntax")) g
  where
    g : reading true (lexeme text u ∷ lexemes text others) ≡ cut_off c t
    g = ap (λ (us : List Token). reading true (lexemes text us)) (sym e) ∙ h

    by : (b : Bool) → (if b then after_syntax_word true (lexeme text u) (lexemes text others)
        else if is_no_token (lexeme text u).means then failed (unexpected (lexeme text u))
        else failed (proto_fault_at reasons.Syntax2 (span_of u))) ≡ cut_off c t → ⊥
    by true g = word_ends text u.end others (lexeme text u) o c t g
    by false g = other_first (lexeme text u) c t (is_no_token (lexeme text u).means) g

-- ---- texts

abbrev pub OneList : Type 0
OneList = (text : List ℕ) (place : ℕ) (ts us : List Token) → AreTokens text place ts → AreTokens text place us → ts ≡ us

-- a text that isn't read as a file has a first fault
pub either_reading : (text : List ℕ) → (ts : List Token) × AreTokens text 0 ts
    → ((f : File) × IsProtoTextOf text f) ⊎ ((q : ProtoReason) × (s : Span) × HasProtoFault text q s)
either_reading text (ts, a) = by (reading true (lexemes text ts)) refl
  where
    at : (e : ProtoFault) → (q : ProtoReason) × (s : Span) × HasProtoFault text q s × (proto_fault_at q s ≡ e)
        → ((f : File) × IsProtoTextOf text f) ⊎ ((q : ProtoReason) × (s : Span) × HasProtoFault text q s)
    at e (q, s, f, p) = inr (q, s, f)

    by : (o : ReadingOutcome) → reading true (lexemes text ts) ≡ o
        → ((f : File) × IsProtoTextOf text f) ⊎ ((q : ProtoReason) × (s : Span) × HasProtoFault text q s)
    by (cut_off c t) h = absurd (reading_ends text ts a c t h)
    by (read f) h = inl (f, text_of text ts f a h)
    by (failed e) h = at e (failed_first text ts e a h)

reports_same : {ts us : List Lexeme} {k : ℕ} {x : Lexeme} {q : ProtoReason} → ts ≡ us → Report ts k x q → Report us k x q
reports_same {k = k} {x = x} {q = q} e r = subst (λ (l : List Lexeme). Report l k x q) e r

pub not_both : (text : List ℕ) (f : File) (q : ProtoReason) (s : Span) → OneList → IsProtoTextOf text f → HasProtoFault text q s → ⊥
not_both text f q s one h k =
    let e : k.tokens ≡ h.tokens = one text 0 k.tokens h.tokens k.of_text h.of_text in
    by (reports_same (ap (lexemes text) e) (first_failed text q s k))
  where
    by : Report (lexemes text h.tokens) k.place k.token q → ⊥
    by (report g r) = let t : read f ≡ failed (proto_fault_at q k.token.span) = sym (read_of text f h) ∙ r in cc

pub one_first : (text : List ℕ) (q r : ProtoReason) (s t : Span) → OneList → HasProtoFault text q s → HasProtoFault text r t
    → (q ≡ r) × (s ≡ t)
one_first text q r s t one h k =
    let e : k.tokens ≡ h.tokens = one text 0 k.tokens h.tokens k.of_text h.of_text in
    let c : Same h.place k.place h.token k.token q r = same_report text h.tokens h.of_text (first_failed text q s h) (reports_same (ap (lexemes text) e) (first_failed text r t k)) in
    (c.reason, sym h.stands ∙ (ap (λ (x : Lexeme). x.span) c.token ∙ k.stands))
