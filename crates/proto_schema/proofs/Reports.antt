-- What a fault of reading means for the tokens, in terms of the grammar.
use Rattle.std.proofs.Common.{subst, ◌≡◌, ◌⊎◌, inl, inr, ℕ, ◌+◌, ◌<◌, ◌≤◌, length, length-append, take, Bool, true}
use Rattle.std.proofs.Common.{false, List, [], ◌∷◌, ◌++◌, codes, refl, ap, sym, ◌∙◌, arith}
use Rattle.std.specs.Prelude.{Ok, Err, Result, Some, if◌then◌else◌, slice_get}
use Rattle.std.specs.Str.{bytes_eq}
use Rattle.std.proofs.lemmas.Bool.{leb-true, leb-false}
use Rattle.std.proofs.lemmas.List.{append_assoc, append-nil}
use Rattle.proto_grammar.specs.Lexemes.{TokenMeaning, identifier, integer, number, string, mark, the_end, none, Lexeme, semicolon, equals, is_the_word}
use Rattle.proto_schema.specs.Files
use Rattle.proto_schema.specs.Files.{Draft, IsStatement, AreStatementsOf, initial_draft}
use Rattle.proto_schema.specs.declared.limits.TheConstants.{MAX_OPEN}
use Rattle.proto_schema.specs.Faults
use Rattle.proto_grammar.specs.Lexemes.{is_no_token}
use Rattle.proto_schema.specs.Faults.{CanContinue, IsBreak, IsSpecificFault}
use Rattle.proto_grammar.specs.Advancing.{proto_fault_at, unexpected, is_punctuator}
use Rattle.proto_schema.specs.StatementReading.{statement_place, draft_with, advance_statement, cut_off, read, failed, is_over, is_too_deep}
use Rattle.proto_schema.specs.StatementReading.{after_token, run, reading, after_syntax_word, after_syntax_equals, after_syntax_value, after_syntax}
use Rattle.proto_schema.proofs.Choices.{word_is, same_bytes, bytes_same}
use Rattle.proto_schema.proofs.NameLemmas.{mark_is}
use Rattle.proto_schema.proofs.Next.{run_step, run_over}
use Rattle.proto_schema.proofs.StatementRest.{Rest, NotBegin, Back, statement_back}
use Rattle.proto_schema.proofs.BeginRest.{BeginBack, begin_back}
use Rattle.proto_schema.proofs.RunRest.{begin_or, not_deep}
use Rattle.proto_schema.proofs.RunReads.{syntax_read}
use Rattle.proto_schema.proofs.Shallow.{get_behind, take_behind, added_less, opens_named}
use Rattle.proto_schema.proofs.Breaks.{at_fault, cut_goes_on}
use Rattle.proto_schema.proofs.SoFarWords.{Fault, unlike, extends, imports, groups, streams}
use Rattle.proto_schema.proofs.SoFar.{SoFar, StepOn, later_on, begin_on}
use Rattle.proto_grammar.specs.declared.fault.ProtoReason.{ProtoReason}
use Rattle.proto_grammar.specs.declared.fault.ProtoReason.TheVariants as reasons
use Rattle.proto_grammar.specs.declared.fault.ProtoFault.{ProtoFault}
use Rattle.proto_schema.specs.declared.statement.Opening.TheVariants as openings
use Rattle.proto_schema.specs.declared.statement.StatementState.{StatementState}
use Rattle.proto_schema.specs.declared.statement.StatementState.TheVariants as states
use Rattle.proto_schema.specs.declared.statement.StatementEffect.{StatementEffect}
use Rattle.proto_schema.specs.declared.statement.StatementEffect.TheVariants as said
use Rattle.proto_schema.specs.declared.statement.StatementStep.{StatementStep}
use Rattle.proto_schema.specs.declared.statement.StatementStep.TheVariants as steps

-- ---- what a token's fault means

-- a reason at a token: it is a specific one, or the tokens break off there
pub data Means (ts : List Lexeme) (k : ℕ) (x : Lexeme) : ProtoReason → Type 0 where
  has_name : {q : ProtoReason} → IsSpecificFault ts k q → Means ts k x q
  breaks_off : IsBreak ts k x → is_no_token x.means ≡ false → Means ts k x reasons.Expected

pub data Told (ts : List Lexeme) (e : ProtoFault) : Type 0 where
  told : (k : ℕ) (x : Lexeme) (q : ProtoReason) → slice_get ts k ≡ Some x → proto_fault_at q x.span ≡ e → Means ts k x q
      → Told ts e

told_at : {ts us : List Lexeme} {e : ProtoFault} → ts ≡ us → Told ts e → Told us e
told_at {e = e} q t = subst (λ (l : List Lexeme). Told l e) q t

same_fault : {e f : ProtoFault} → failed e ≡ failed f → e ≡ f
same_fault h = cc

pub take_front : (us zs : List Lexeme) → take (length us) (us ++ zs) ≡ us
take_front [] zs = refl
take_front (u ∷ us) zs = ap (λ (l : List Lexeme). u ∷ l) (take_front us zs)

-- the tokens break off where reading gives a fault
breaks : (us xs : List Lexeme) (x : Lexeme) (d : Draft) (s : StatementState) (e : ProtoFault) → reading false us ≡ cut_off d s
    → reading false (us ++ x ∷ []) ≡ failed e → IsBreak (us ++ x ∷ xs) (length us) x
breaks us xs x d s e c f = record {
  here = get_behind us xs x;
  before = subst (λ (l : List Lexeme). CanContinue l) (sym (take_front us (x ∷ xs))) (cut_goes_on us d s c);
  behind = λ g. at_fault e (us ++ x ∷ []) f (subst (λ (l : List Lexeme). CanContinue l) (take_behind us xs x) g);
}

-- a token that can't appear here
unlike_told : (us xs : List Lexeme) (x : Lexeme) (d : Draft) (s : StatementState) → reading false us ≡ cut_off d s
    → reading false (us ++ x ∷ []) ≡ failed (unexpected x) → Told (us ++ x ∷ xs) (unexpected x)
unlike_told us xs x d s c f = by (is_no_token x.means) refl
  where
    b : IsBreak (us ++ x ∷ xs) (length us) x
    b = breaks us xs x d s (unexpected x) c f

    by : (n : Bool) → is_no_token x.means ≡ n → Told (us ++ x ∷ xs) (proto_fault_at (if n then reasons.Token else reasons.Expected) x.span)
    by true e = told (length us) x reasons.Token (get_behind us xs x) refl (has_name (Faults.no_token x b e))
    by false e = told (length us) x reasons.Expected (get_behind us xs x) refl (breaks_off b e)

-- ---- the reading so far

abbrev Completes : Draft → List Lexeme → StatementState → Type 0
Completes d ys s = (zs : List Lexeme) (v : StatementEffect) → Rest s zs v → IsStatement d (ys ++ zs) (draft_with d v)

-- complete statements and a part of one are read
data Progress (us : List Lexeme) (d : Draft) (s : StatementState) : Type 0 where
  progress : (front ys : List Lexeme) → us ≡ front ++ ys → AreStatementsOf front d → SoFar d s ys → Completes d ys s
      → length d.messages ≤ MAX_OPEN → ((zs : List Lexeme) → reading false (us ++ zs) ≡ run false d s zs)
      → Progress us d s

-- a token continues the statement, and what completes the remainder completes it
abbrev CompletesOn : Draft → List Lexeme → Lexeme → Result StatementStep ProtoFault → Type 0
CompletesOn d ys x (Ok (steps.More t)) = (zs : List Lexeme) (v : StatementEffect) → Rest t zs v → IsStatement d (ys ++ x ∷ zs) (draft_with d v)
CompletesOn d ys x (Ok (steps.Done v)) = IsStatement d (ys ++ x ∷ []) (draft_with d v)
CompletesOn d ys x (Err e) = Unit {0}

begin_completes : (d : Draft) (x : Lexeme) (r : Result StatementStep ProtoFault) → BeginBack d x r → CompletesOn d [] x r
begin_completes d x (Ok (steps.More t)) b = b.1
begin_completes d x (Ok (steps.Done v)) b = b
begin_completes d x (Err e) b = tt

later_completes : (d : Draft) (ys : List Lexeme) (s : StatementState) (x : Lexeme) (r : Result StatementStep ProtoFault)
    → Completes d ys s → Back s x r → CompletesOn d ys x r
later_completes d ys s x (Ok (steps.More t)) c b = λ zs v k. c (x ∷ zs) v (b.1 zs v k)
later_completes d ys s x (Ok (steps.Done v)) c b = c (x ∷ []) v b
later_completes d ys s x (Err e) c b = tt

-- the effect of a token in a state: what is read after it, and what its fault means
abbrev Onward : Draft → List Lexeme → Lexeme → Result StatementStep ProtoFault → Type 0
Onward d ys x r = (StepOn d ys x r) × CompletesOn d ys x r

onward : (d : Draft) (s : StatementState) (ys : List Lexeme) (x : Lexeme) → SoFar d s ys → Completes d ys s
    → Onward d ys x (advance_statement (statement_place d) s x)
onward d s ys x k c = by (begin_or s)
  where
    by : (s ≡ states.Begin) ⊎ NotBegin s → Onward d ys x (advance_statement (statement_place d) s x)
    by (inl e) =
        let q : ys ≡ [] = subst (λ (t : StatementState). SoFar d t ys) e k in
        subst (λ (t : StatementState). Onward d ys x (advance_statement (statement_place d) t x)) (sym e)
        (subst (λ (l : List Lexeme). Onward d l x (advance_statement (statement_place d) states.Begin x)) (sym q)
        (begin_on d x, begin_completes d x (advance_statement (statement_place d) states.Begin x) (begin_back d x)))
    by (inr n) = (later_on d (statement_place d) s ys x n k, later_completes d ys s x (advance_statement (statement_place d) s x) c (statement_back (statement_place d) s x n))

-- at most 32 messages are open after a statement that isn't too deep
added_within : (d : Draft) (v : StatementEffect) → is_too_deep true d v ≡ false → length d.messages ≤ MAX_OPEN
    → length (draft_with d v).messages ≤ MAX_OPEN
added_within d said.Nothing k l = l
added_within d (said.Package w) k l = l
added_within d (said.Import i) k l = l
added_within d (said.Open openings.Message w) k l = let g : length d.messages < MAX_OPEN = leb-false MAX_OPEN (length d.messages) k in omega arith
added_within d (said.Open openings.Enum w) k l = l
added_within d (said.Open openings.Service w) k l = l
added_within d (said.Open openings.Oneof w) k l = l
added_within d (said.Field f) k l = l
added_within d (said.Ranges rs) k l = let a : length (draft_with d (said.Ranges rs)).messages ≤ length d.messages = added_less d (said.Ranges rs) tt in omega arith
added_within d (said.Names ws) k l = let a : length (draft_with d (said.Names ws)).messages ≤ length d.messages = added_less d (said.Names ws) tt in omega arith
added_within d (said.Value v) k l = l
added_within d (said.Rpc r true) k l = l
added_within d (said.Rpc r false) k l = l
added_within d said.Close k l = let a : length (draft_with d said.Close).messages ≤ length d.messages = added_less d said.Close tt in omega arith

-- the result of the remaining tokens, for any tokens read before
abbrev Tells : List Lexeme → ProtoFault → Type 0
Tells xs e = (us : List Lexeme) (d : Draft) (s : StatementState) → Progress us d s → run true d s xs ≡ failed e → Told (us ++ xs) e

-- ---- a fault at a token

-- the length after one more token
length_behind : (xs : List Lexeme) (x : Lexeme) → length (xs ++ x ∷ []) ≡ length xs + 1
length_behind xs x = length-append xs (x ∷ [])

fault_told : (us front ys xs : List Lexeme) (d : Draft) (s : StatementState) (x : Lexeme) {e : ProtoFault} → us ≡ front ++ ys
    → AreStatementsOf front d → reading false us ≡ cut_off d s → reading false (us ++ x ∷ []) ≡ failed e → Fault d ys x e
    → Told (us ++ x ∷ xs) e
fault_told us front ys xs d s x a k c f unlike = unlike_told us xs x d s c f
fault_told us front ys xs d s x a k c f (extends n b w) =
    let q : us ≡ front = a ∙ (ap (λ (l : List Lexeme). front ++ l) n ∙ append-nil front) in
    told_at (ap (λ (l : List Lexeme). l ++ x ∷ xs) (sym q))
    (told (length front) x reasons.Extend (get_behind front xs x) refl
    (has_name (Faults.extend x d (subst (λ (l : List Lexeme). AreStatementsOf l d) (sym (take_front front (x ∷ xs))) k) b (get_behind front xs x) w)))
fault_told us front ys xs d s x a k c f (imports i n b w m p) =
    let q : us ≡ front ++ i ∷ [] = a ∙ ap (λ (l : List Lexeme). front ++ l) n in
    let r : (front ++ i ∷ []) ++ x ∷ xs ≡ front ++ i ∷ x ∷ xs = append_assoc front (i ∷ []) (x ∷ xs) in
    let g : slice_get ((front ++ i ∷ []) ++ x ∷ xs) (length front) ≡ Some i =
    subst (λ (l : List Lexeme). slice_get l (length front) ≡ Some i) (sym r) (get_behind front (x ∷ xs) i) in
    let t : take (length front) ((front ++ i ∷ []) ++ x ∷ xs) ≡ front = ap (take (length front)) r ∙ take_front front (i ∷ x ∷ xs) in
    told_at (ap (λ (l : List Lexeme). l ++ x ∷ xs) (sym q))
    (told (length (front ++ i ∷ [])) x reasons.Import (get_behind (front ++ i ∷ []) xs x) refl
    (has_name (Faults.import (length front) i x d (length_behind front i) (subst (λ (l : List Lexeme). AreStatementsOf l d) (sym t) k) b g w (get_behind (front ++ i ∷ []) xs x) m p)))
fault_told us front ys xs d s x a k c f (groups b w) =
    told_at (ap (λ (l : List Lexeme). l ++ x ∷ xs) (sym a))
    (told (length (front ++ ys)) x reasons.Group (get_behind (front ++ ys) xs x) refl (has_name (Faults.group front ys xs x d refl refl k b w)))
fault_told us front ys xs d s x a k c f (streams zs z n b w t) =
    let q : us ++ x ∷ xs ≡ (front ++ zs) ++ z ∷ x ∷ xs =
    ap (λ (l : List Lexeme). l ++ x ∷ xs)
    (a ∙ (ap (λ (l : List Lexeme). front ++ l) n ∙ sym (append_assoc front zs (z ∷ []))))
    ∙ append_assoc (front ++ zs) (z ∷ []) (x ∷ xs) in
    told_at (sym q)
    (told (length (front ++ zs)) z reasons.Stream (get_behind (front ++ zs) (x ∷ xs) z) refl (has_name (Faults.stream front zs xs z x d refl refl k b w t)))

-- ---- one token

run_nothing : (limited : Bool) (d : Draft) (s : StatementState) → run limited d s [] ≡ cut_off d s
unfolding run
run_nothing limited d s = refl

-- the tokens read so far end in the middle
cut_here : (us : List Lexeme) (d : Draft) (s : StatementState) → ((zs : List Lexeme) → reading false (us ++ zs) ≡ run false d s zs)
    → reading false us ≡ cut_off d s
cut_here us d s g = ap (reading false) (sym (append-nil us)) ∙ (g [] ∙ run_nothing false d s)

step_told : (us front ys xs : List Lexeme) (d : Draft) (s : StatementState) (x : Lexeme) (e : ProtoFault) → us ≡ front ++ ys
    → AreStatementsOf front d → length d.messages ≤ MAX_OPEN
    → ((zs : List Lexeme) → reading false (us ++ zs) ≡ run false d s zs) → is_over d s x ≡ false → Tells xs e
    → (r : Result StatementStep ProtoFault) → advance_statement (statement_place d) s x ≡ r → Onward d ys x r
    → after_token (λ c t. run true c t xs) true d x r ≡ failed e → Told (us ++ x ∷ xs) e
step_told us front ys xs d s x e a k l g o tells (Ok (steps.More t)) h n f =
    told_at (append_assoc us (x ∷ []) xs) (tells (us ++ x ∷ []) d t (progress front (ys ++ x ∷ []) q k n.0 complete l goes) f)
  where
    q : us ++ x ∷ [] ≡ front ++ (ys ++ x ∷ [])
    q = ap (λ (l : List Lexeme). l ++ x ∷ []) a ∙ append_assoc front ys (x ∷ [])

    complete : Completes d (ys ++ x ∷ []) t
    complete zs v w = subst (λ (l : List Lexeme). IsStatement d l (draft_with d v)) (sym (append_assoc ys (x ∷ []) zs)) (n.1 zs v w)

    goes : (zs : List Lexeme) → reading false ((us ++ x ∷ []) ++ zs) ≡ run false d t zs
    goes zs = ap (reading false) (append_assoc us (x ∷ []) zs)
        ∙ (g (x ∷ zs) ∙ (run_step false d s x zs o
        ∙ ap (λ (r : Result StatementStep ProtoFault). after_token (λ c t. run false c t zs) false d x r) h))
step_told us front ys xs d s x e a k l g o tells (Ok (steps.Done v)) h n f = by (is_too_deep true d v) refl f
  where
    said_here : AreStatementsOf (us ++ x ∷ []) (draft_with d v)
    said_here = Files.another k n.1 (ap (λ (l : List Lexeme). l ++ x ∷ []) a ∙ append_assoc front ys (x ∷ []))

    goes : (zs : List Lexeme) → reading false ((us ++ x ∷ []) ++ zs) ≡ run false (draft_with d v) states.Begin zs
    goes zs =
        ap (reading false) (append_assoc us (x ∷ []) zs)
        ∙ (g (x ∷ zs) ∙ (run_step false d s x zs o ∙ (ap (λ (r : Result StatementStep ProtoFault). after_token (λ c t. run false c t zs) false d x r) h ∙ rw (not_deep d v) refl)))

    too_deep : (v : StatementEffect) → is_too_deep true d v ≡ true → AreStatementsOf (us ++ x ∷ []) (draft_with d v) → StepOn d ys x (Ok (steps.Done v))
        → Told (us ++ x ∷ xs) (proto_fault_at reasons.Nesting x.span)
    too_deep (said.Open openings.Message w) b c m =
        let p : MAX_OPEN ≤ length d.messages = leb-true MAX_OPEN (length d.messages) b in
        told (length us) x reasons.Nesting (get_behind us xs x) refl (has_name (opens_named d w us xs x c m (omega arith)))
    too_deep said.Nothing b c m = absurd (let t : false ≡ true = b in cc)
    too_deep (said.Package w) b c m = absurd (let t : false ≡ true = b in cc)
    too_deep (said.Import i) b c m = absurd (let t : false ≡ true = b in cc)
    too_deep (said.Open openings.Enum w) b c m = absurd (let t : false ≡ true = b in cc)
    too_deep (said.Open openings.Service w) b c m = absurd (let t : false ≡ true = b in cc)
    too_deep (said.Open openings.Oneof w) b c m = absurd (let t : false ≡ true = b in cc)
    too_deep (said.Field f) b c m = absurd (let t : false ≡ true = b in cc)
    too_deep (said.Ranges rs) b c m = absurd (let t : false ≡ true = b in cc)
    too_deep (said.Names ws) b c m = absurd (let t : false ≡ true = b in cc)
    too_deep (said.Value w) b c m = absurd (let t : false ≡ true = b in cc)
    too_deep (said.Rpc r block) b c m = absurd (let t : false ≡ true = b in cc)
    too_deep said.Close b c m = absurd (let t : false ≡ true = b in cc)

    by : (b : Bool) → is_too_deep true d v ≡ b
        → (if b then failed (proto_fault_at reasons.Nesting x.span) else run true (draft_with d v) states.Begin xs) ≡ failed e
        → Told (us ++ x ∷ xs) e
    by true b f = subst (λ (e : ProtoFault). Told (us ++ x ∷ xs) e) (same_fault f) (too_deep v b said_here n.0)
    by false b f =
        told_at (append_assoc us (x ∷ []) xs) (tells (us ++ x ∷ []) (draft_with d v) states.Begin
        (progress (us ++ x ∷ []) [] (sym (append-nil (us ++ x ∷ []))) said_here refl (λ zs v k. absurd k) (added_within d v b l) goes) f)
step_told us front ys xs d s x e a k l g o tells (Err f) h n q =
    subst (λ (e : ProtoFault). Told (us ++ x ∷ xs) e) (same_fault q) (fault_told us front ys xs d s x a k (cut_here us d s g) fails n.0)
  where
    fails : reading false (us ++ x ∷ []) ≡ failed f
    fails = g (x ∷ []) ∙ (run_step false d s x [] o ∙ ap (λ (r : Result StatementStep ProtoFault). after_token (λ c t. run false c t []) false d x r) h)

token_told : (x : Lexeme) (xs : List Lexeme) (e : ProtoFault) → Tells xs e → Tells (x ∷ xs) e
token_told x xs e tells us d s (progress front ys a k f c l g) h = by (is_over d s x) refl
  where
    by : (b : Bool) → is_over d s x ≡ b → Told (us ++ x ∷ xs) e
    by true o = absurd (let t : read d.file ≡ failed e = sym (run_over true d s x xs o) ∙ h in cc)
    by false o = step_told us front ys xs d s x e a k l g o tells (advance_statement (statement_place d) s x) refl (onward d s ys x f c) (sym (run_step true d s x xs o) ∙ h)

run_told : (xs : List Lexeme) (e : ProtoFault) → Tells xs e
run_told [] e us d s p h = absurd (let t : cut_off d s ≡ failed e = sym (run_nothing true d s) ∙ h in cc)
run_told (x ∷ xs) e us d s p h = token_told x xs e (run_told xs e) us d s p h

-- ---- the syntax statement, and the whole text

-- the first tokens differ from the syntax statement
first_unlike : (us xs : List Lexeme) (x : Lexeme) (e : ProtoFault) → reading false us ≡ cut_off initial_draft states.Begin
    → reading false (us ++ x ∷ []) ≡ failed (unexpected x) → failed (unexpected x) ≡ failed e → Told (us ++ x ∷ xs) e
first_unlike us xs x e c f h =
    subst (λ (e : ProtoFault). Told (us ++ x ∷ xs) e) (same_fault h) (unlike_told us xs x initial_draft states.Begin c f)

pub reading_told : (ts : List Lexeme) (e : ProtoFault) → reading true ts ≡ failed e → Told ts e
reading_told [] e h = absurd (let t : cut_off initial_draft states.Begin ≡ failed e = h in cc)
reading_told (w ∷ xs) e h = by (is_the_word w.means (codes "syntax")) refl h
  where
    semicolon_here : (x y z : Lexeme) (zs : List Lexeme) → is_the_word w.means (codes "syntax") ≡ true
        → is_punctuator x.means equals ≡ true → (v : List ℕ) → y.means ≡ string v → bytes_eq v (codes "proto3") ≡ true
        → (b : Bool) → is_punctuator z.means semicolon ≡ b
        → (if b then run true initial_draft states.Begin zs else failed (unexpected z)) ≡ failed e
        → Told (w ∷ x ∷ y ∷ z ∷ zs) e
    semicolon_here x y z zs s a v p q true m h =
        let k : Files.IsSyntaxStatement (w ∷ x ∷ y ∷ z ∷ []) = Files.proto3 w x y z (word_is w.means (codes "syntax") s)
        (mark_is x.means equals a) (p ∙ ap string (same_bytes v (codes "proto3") q)) (mark_is z.means semicolon m)
        in
        run_told zs e (w ∷ x ∷ y ∷ z ∷ []) initial_draft states.Begin
        (progress (w ∷ x ∷ y ∷ z ∷ []) [] refl (Files.start k) refl (λ zs v k. absurd k) (omega arith) (λ zs. syntax_read false zs k)) h
    semicolon_here x y z zs s a v p q false m h = first_unlike (w ∷ x ∷ y ∷ []) zs z e (rw s (rw a (rw p (rw q refl)))) (rw s (rw a (rw p (rw q (rw m refl))))) h

    syntax_here : (x y : Lexeme) (zs : List Lexeme) → is_the_word w.means (codes "syntax") ≡ true
        → is_punctuator x.means equals ≡ true → (v : List ℕ) → y.means ≡ string v → bytes_eq v (codes "proto3") ≡ true
        → after_syntax true zs ≡ failed e → Told (w ∷ x ∷ y ∷ zs) e
    syntax_here x y [] s a v p q h = absurd (let t : cut_off initial_draft states.Begin ≡ failed e = h in cc)
    syntax_here x y (z ∷ zs) s a v p q h = semicolon_here x y z zs s a v p q (is_punctuator z.means semicolon) refl h

    proto3_here : (x y : Lexeme) (zs : List Lexeme) → is_the_word w.means (codes "syntax") ≡ true
        → is_punctuator x.means equals ≡ true → (v : List ℕ) → y.means ≡ string v
        → (b : Bool) → bytes_eq v (codes "proto3") ≡ b
        → (if b then after_syntax true zs else failed (proto_fault_at reasons.Syntax2 w.span)) ≡ failed e
        → Told (w ∷ x ∷ y ∷ zs) e
    proto3_here x y zs s a v p true q h = syntax_here x y zs s a v p q h
    proto3_here x y zs s a v p false q h =
        told 0 w reasons.Syntax2 refl (same_fault h) (has_name (Faults.other_syntax w x y zs v refl refl (word_is w.means (codes "syntax") s) (mark_is x.means equals a) p
        (λ n. let t : true ≡ false = sym (bytes_same v (codes "proto3") n) ∙ q in cc)))

    value_here : (x y : Lexeme) (zs : List Lexeme) → is_the_word w.means (codes "syntax") ≡ true
        → is_punctuator x.means equals ≡ true → (m : TokenMeaning) → y.means ≡ m → after_syntax_value true w y zs m ≡ failed e
        → Told (w ∷ x ∷ y ∷ zs) e
    value_here x y zs s a (string v) p h = proto3_here x y zs s a v p (bytes_eq v (codes "proto3")) refl h
    value_here x y zs s a (identifier v) p h = first_unlike (w ∷ x ∷ []) zs y e (rw s (rw a refl)) (rw s (rw a (rw p refl))) h
    value_here x y zs s a (integer v) p h = first_unlike (w ∷ x ∷ []) zs y e (rw s (rw a refl)) (rw s (rw a (rw p refl))) h
    value_here x y zs s a number p h = first_unlike (w ∷ x ∷ []) zs y e (rw s (rw a refl)) (rw s (rw a (rw p refl))) h
    value_here x y zs s a (mark v) p h = first_unlike (w ∷ x ∷ []) zs y e (rw s (rw a refl)) (rw s (rw a (rw p refl))) h
    value_here x y zs s a the_end p h = first_unlike (w ∷ x ∷ []) zs y e (rw s (rw a refl)) (rw s (rw a (rw p refl))) h
    value_here x y zs s a none p h = first_unlike (w ∷ x ∷ []) zs y e (rw s (rw a refl)) (rw s (rw a (rw p refl))) h

    equals_here : (x : Lexeme) (ys : List Lexeme) → is_the_word w.means (codes "syntax") ≡ true
        → is_punctuator x.means equals ≡ true → after_syntax_equals true w ys ≡ failed e → Told (w ∷ x ∷ ys) e
    equals_here x [] s a h = absurd (let t : cut_off initial_draft states.Begin ≡ failed e = h in cc)
    equals_here x (y ∷ ys) s a h = value_here x y ys s a y.means refl h

    mark_here : (x : Lexeme) (ys : List Lexeme) → is_the_word w.means (codes "syntax") ≡ true → (b : Bool)
        → is_punctuator x.means equals ≡ b → (if b then after_syntax_equals true w ys else failed (unexpected x)) ≡ failed e
        → Told (w ∷ x ∷ ys) e
    mark_here x ys s true a h = equals_here x ys s a h
    mark_here x ys s false a h = first_unlike (w ∷ []) ys x e (rw s refl) (rw s (rw a refl)) h

    word_here : (ys : List Lexeme) → is_the_word w.means (codes "syntax") ≡ true → after_syntax_word true w ys ≡ failed e
        → Told (w ∷ ys) e
    word_here [] s h = absurd (let t : cut_off initial_draft states.Begin ≡ failed e = h in cc)
    word_here (x ∷ ys) s h = mark_here x ys s (is_punctuator x.means equals) refl h

    other : is_the_word w.means (codes "syntax") ≡ false → (b : Bool) → is_no_token w.means ≡ b
        → (if b then failed (unexpected w) else failed (proto_fault_at reasons.Syntax2 w.span)) ≡ failed e → Told (w ∷ xs) e
    other s true n h = first_unlike [] xs w e refl (rw s (rw n refl)) h
    other s false n h = told 0 w reasons.Syntax2 refl (same_fault h) (has_name (Faults.no_syntax w refl refl n s))

    by : (b : Bool) → is_the_word w.means (codes "syntax") ≡ b
        → (if b then after_syntax_word true w xs else if is_no_token w.means then failed (unexpected w) else failed (proto_fault_at reasons.Syntax2 w.span)) ≡ failed e
        → Told (w ∷ xs) e
    by true s h = word_here xs s h
    by false s h = other s (is_no_token w.means) refl h
