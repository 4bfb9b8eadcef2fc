-- A text that is read to its end consists of its statements, and declares what they declare.
use Rattle.std.proofs.Common.{subst, ◌≡◌, ◌⊎◌, inl, inr, ℕ, Bool, true, false, List, [], ◌∷◌, ◌++◌, codes, refl, ap, sym, ◌∙◌}
use Rattle.std.specs.Prelude.{Ok, Err, Result, if◌then◌else◌, ◌&&◌}
use Rattle.std.specs.Str.{bytes_eq}
use Rattle.std.proofs.lemmas.List.{append_assoc}
use Rattle.proto_grammar.specs.Lexemes.{TokenMeaning, identifier, integer, number, string, mark, the_end, none, Lexeme, semicolon, equals, is_the_word}
use Rattle.proto_schema.specs.Files
use Rattle.proto_schema.specs.Files.{Draft, OpenBlock, no_block, a_oneof, an_enum, a_service, an_rpc, IsComplete, IsStatement, AreStatementsOf, AreFileTokens, initial_draft}
use Rattle.proto_grammar.specs.Lexemes.{is_no_token}
use Rattle.proto_grammar.specs.Advancing.{proto_fault_at, unexpected, is_punctuator}
use Rattle.proto_schema.specs.StatementReading.{statement_place, place_with, draft_with, advance_statement, cut_off, read, failed, is_begin}
use Rattle.proto_schema.specs.StatementReading.{is_file, is_end, is_over, is_too_deep, after_token, run, reading, after_syntax_word}
use Rattle.proto_schema.specs.StatementReading.{after_syntax_equals, after_syntax_value, after_syntax}
use Rattle.proto_schema.proofs.Choices.{and_both, word_is, same_bytes}
use Rattle.proto_schema.proofs.NameLemmas.{mark_is}
use Rattle.proto_schema.proofs.Next.{run_step, run_over}
use Rattle.proto_schema.proofs.StatementRest.{Rest, NotBegin, Back, statement_back}
use Rattle.proto_schema.proofs.BeginRest.{BeginBack, begin_back}
use Rattle.proto_ast.specs.declared.file.File.{File}
use Rattle.proto_grammar.specs.declared.fault.ProtoReason.TheVariants as reasons
use Rattle.proto_grammar.specs.declared.fault.ProtoFault.{ProtoFault}
use Rattle.proto_schema.specs.declared.statement.Opening.TheVariants as openings
use Rattle.proto_schema.specs.declared.statement.StatementState.{StatementState}
use Rattle.proto_schema.specs.declared.statement.StatementState.TheVariants as states
use Rattle.proto_schema.specs.declared.statement.StatementEffect.{StatementEffect}
use Rattle.proto_schema.specs.declared.statement.StatementEffect.TheVariants as said
use Rattle.proto_schema.specs.declared.statement.StatementStep.{StatementStep}
use Rattle.proto_schema.specs.declared.statement.StatementStep.TheVariants as steps

-- ---- statements up to the end of the text

-- from a draft on: statements, and the end; what follows the end is ignored
pub data Rests : Draft → List Lexeme → File → Type 0 where
  over : (d : Draft) (x : Lexeme) (rest : List Lexeme) → IsComplete d → x.means ≡ the_end → Rests d (x ∷ rest) d.file
  another : (d e : Draft) (ys zs all : List Lexeme) (file : File) → IsStatement d ys e → Rests e zs file → all ≡ ys ++ zs
      → Rests d all file

-- from inside a statement on
pub data Within (s : StatementState) (d : Draft) (all : List Lexeme) (file : File) : Type 0 where
  in_statement : (v : StatementEffect) (ys : List Lexeme) {zs : List Lexeme} → Rest s ys v → Rests (draft_with d v) zs file
      → all ≡ ys ++ zs → Within s d all file

abbrev pub Reached : StatementState → Draft → List Lexeme → File → Type 0
Reached states.Begin d xs file = Rests d xs file
Reached (states.Package s) d xs file = Within (states.Package s) d xs file
Reached (states.Import public) d xs file = Within (states.Import public) d xs file
Reached (states.Imported i) d xs file = Within (states.Imported i) d xs file
Reached (states.Option s) d xs file = Within (states.Option s) d xs file
Reached (states.Opening o) d xs file = Within (states.Opening o) d xs file
Reached (states.Opened o w) d xs file = Within (states.Opened o w) d xs file
Reached (states.Field s) d xs file = Within (states.Field s) d xs file
Reached (states.Reserved s) d xs file = Within (states.Reserved s) d xs file
Reached (states.Value s) d xs file = Within (states.Value s) d xs file
Reached (states.Rpc s) d xs file = Within (states.Rpc s) d xs file

reached_in : (s : StatementState) (d : Draft) (xs : List Lexeme) (file : File) → NotBegin s → Within s d xs file
    → Reached s d xs file
reached_in states.Begin d xs file h w = absurd h
reached_in (states.Package s) d xs file h w = w
reached_in (states.Import public) d xs file h w = w
reached_in (states.Imported i) d xs file h w = w
reached_in (states.Option s) d xs file h w = w
reached_in (states.Opening o) d xs file h w = w
reached_in (states.Opened o w) d xs file h k = k
reached_in (states.Field s) d xs file h w = w
reached_in (states.Reserved s) d xs file h w = w
reached_in (states.Value s) d xs file h w = w
reached_in (states.Rpc s) d xs file h w = w

in_reached : (s : StatementState) (d : Draft) (xs : List Lexeme) (file : File) → NotBegin s → Reached s d xs file
    → Within s d xs file
in_reached states.Begin d xs file h w = absurd h
in_reached (states.Package s) d xs file h w = w
in_reached (states.Import public) d xs file h w = w
in_reached (states.Imported i) d xs file h w = w
in_reached (states.Option s) d xs file h w = w
in_reached (states.Opening o) d xs file h w = w
in_reached (states.Opened o w) d xs file h k = k
in_reached (states.Field s) d xs file h w = w
in_reached (states.Reserved s) d xs file h w = w
in_reached (states.Value s) d xs file h w = w
in_reached (states.Rpc s) d xs file h w = w

pub begin_or : (s : StatementState) → (s ≡ states.Begin) ⊎ NotBegin s
begin_or states.Begin = inl refl
begin_or (states.Package s) = inr tt
begin_or (states.Import public) = inr tt
begin_or (states.Imported i) = inr tt
begin_or (states.Option s) = inr tt
begin_or (states.Opening o) = inr tt
begin_or (states.Opened o w) = inr tt
begin_or (states.Field s) = inr tt
begin_or (states.Reserved s) = inr tt
begin_or (states.Value s) = inr tt
begin_or (states.Rpc s) = inr tt

-- ---- one token

pub not_deep : (d : Draft) (v : StatementEffect) → is_too_deep false d v ≡ false
not_deep d said.Nothing = refl
not_deep d (said.Package w) = refl
not_deep d (said.Import i) = refl
not_deep d (said.Open openings.Message w) = refl
not_deep d (said.Open openings.Enum w) = refl
not_deep d (said.Open openings.Service w) = refl
not_deep d (said.Open openings.Oneof w) = refl
not_deep d (said.Field f) = refl
not_deep d (said.Ranges rs) = refl
not_deep d (said.Names ws) = refl
not_deep d (said.Value w) = refl
not_deep d (said.Rpc r b) = refl
not_deep d said.Close = refl

-- if the remaining tokens read as a file, they complete the text
abbrev Goes : List Lexeme → File → Type 0
Goes xs file = (d : Draft) (s : StatementState) → run false d s xs ≡ read file → Reached s d xs file

done_run : (d : Draft) (x : Lexeme) (v : StatementEffect) (xs : List Lexeme) (file : File)
    → after_token (λ c t. run false c t xs) false d x (Ok (steps.Done v)) ≡ read file
    → run false (draft_with d v) states.Begin xs ≡ read file
done_run d x v xs file h = rw (not_deep d v) at h

begin_goes : (d : Draft) (x : Lexeme) (xs : List Lexeme) (file : File) (r : Result StatementStep ProtoFault) → BeginBack d x r
    → Goes xs file → after_token (λ c t. run false c t xs) false d x r ≡ read file → Rests d (x ∷ xs) file
begin_goes d x xs file (Ok (steps.More t)) b g h = by (in_reached t d xs file b.0 (g d t h))
  where
    by : Within t d xs file → Rests d (x ∷ xs) file
    by (in_statement v ys {zs = zs} r k a) = another d (draft_with d v) (x ∷ ys) zs (x ∷ xs) file (b.1 ys v r) k (ap (λ (l : List Lexeme). x ∷ l) a)
begin_goes d x xs file (Ok (steps.Done v)) b g h = another d (draft_with d v) (x ∷ []) xs (x ∷ xs) file b (g (draft_with d v) states.Begin (done_run d x v xs file h)) refl
begin_goes d x xs file (Err e) b g h = absurd (let t : failed e ≡ read file = h in cc)

later_goes : (s : StatementState) (d : Draft) (x : Lexeme) (xs : List Lexeme) (file : File) (r : Result StatementStep ProtoFault)
    → Back s x r → Goes xs file → after_token (λ c t. run false c t xs) false d x r ≡ read file → Within s d (x ∷ xs) file
later_goes s d x xs file (Ok (steps.More t)) b g h = by (in_reached t d xs file b.0 (g d t h))
  where
    by : Within t d xs file → Within s d (x ∷ xs) file
    by (in_statement v ys {zs = zs} r k a) = in_statement v (x ∷ ys) (b.1 ys v r) k (ap (λ (l : List Lexeme). x ∷ l) a)
later_goes s d x xs file (Ok (steps.Done v)) b g h = in_statement v (x ∷ []) b (g (draft_with d v) states.Begin (done_run d x v xs file h)) refl
later_goes s d x xs file (Err e) b g h = absurd (let t : failed e ≡ read file = h in cc)

-- ---- the end of the text

ends_meant : (m : TokenMeaning) → is_end m ≡ true → m ≡ the_end
ends_meant the_end h = refl
ends_meant (identifier n) h = absurd (let t : false ≡ true = h in cc)
ends_meant (integer n) h = absurd (let t : false ≡ true = h in cc)
ends_meant number h = absurd (let t : false ≡ true = h in cc)
ends_meant (string n) h = absurd (let t : false ≡ true = h in cc)
ends_meant (mark c) h = absurd (let t : false ≡ true = h in cc)
ends_meant none h = absurd (let t : false ≡ true = h in cc)

whole_file : (d : Draft) (b : OpenBlock) (ms : List ℕ) → d.block ≡ b → d.messages ≡ ms
    → is_file (place_with b ms d.file.package) ≡ true → IsComplete d
whole_file d no_block [] e f h = (e, f)
whole_file d no_block (i ∷ is) e f h = absurd (let t : false ≡ true = h in cc)
whole_file d (a_oneof i filled) ms e f h = absurd (let t : false ≡ true = h in cc)
whole_file d (an_enum filled) ms e f h = absurd (let t : false ≡ true = h in cc)
whole_file d a_service ms e f h = absurd (let t : false ≡ true = h in cc)
whole_file d an_rpc ms e f h = absurd (let t : false ≡ true = h in cc)

over_here : (d : Draft) (s : StatementState) (x : Lexeme) (xs : List Lexeme) (file : File) → is_over d s x ≡ true
    → run false d s (x ∷ xs) ≡ read file → Reached s d (x ∷ xs) file
over_here d s x xs file h r = by s (and_both (is_begin s) (is_file (statement_place d)) p.1)
  where
    p : (is_end x.means ≡ true) × ((is_begin s && is_file (statement_place d)) ≡ true)
    p = and_both (is_end x.means) (is_begin s && is_file (statement_place d)) h

    same : d.file ≡ file
    same = let t : read d.file ≡ read file = sym (run_over false d s x xs h) ∙ r in cc

    by : (t : StatementState) → (is_begin t ≡ true) × (is_file (statement_place d) ≡ true) → Reached t d (x ∷ xs) file
    by states.Begin q = subst (λ (f : File). Rests d (x ∷ xs) f) same (over d x xs (whole_file d d.block d.messages refl refl q.1) (ends_meant x.means p.0))
    by (states.Package s) q = absurd (let t : false ≡ true = q.0 in cc)
    by (states.Import public) q = absurd (let t : false ≡ true = q.0 in cc)
    by (states.Imported i) q = absurd (let t : false ≡ true = q.0 in cc)
    by (states.Option s) q = absurd (let t : false ≡ true = q.0 in cc)
    by (states.Opening o) q = absurd (let t : false ≡ true = q.0 in cc)
    by (states.Opened o w) q = absurd (let t : false ≡ true = q.0 in cc)
    by (states.Field s) q = absurd (let t : false ≡ true = q.0 in cc)
    by (states.Reserved s) q = absurd (let t : false ≡ true = q.0 in cc)
    by (states.Value s) q = absurd (let t : false ≡ true = q.0 in cc)
    by (states.Rpc s) q = absurd (let t : false ≡ true = q.0 in cc)

-- ---- all tokens

step_goes : (d : Draft) (s : StatementState) (x : Lexeme) (xs : List Lexeme) (file : File) → Goes xs file
    → run false d s (x ∷ xs) ≡ read file → Reached s d (x ∷ xs) file
step_goes d s x xs file g r = by (is_over d s x) refl
  where
    at_begin : s ≡ states.Begin → is_over d s x ≡ false → Reached s d (x ∷ xs) file
    at_begin e o =
        let q : after_token (λ c t. run false c t xs) false d x (advance_statement (statement_place d) s x) ≡ read file = sym (run_step false d s x xs o) ∙ r in
        let q2 : after_token (λ c t. run false c t xs) false d x (advance_statement (statement_place d) states.Begin x) ≡ read file =
        subst (λ (u : StatementState). after_token (λ c t. run false c t xs) false d x (advance_statement (statement_place d) u x)
        ≡ read file) e q in
        subst (λ (u : StatementState). Reached u d (x ∷ xs) file) (sym e) (begin_goes d x xs file (advance_statement (statement_place d) states.Begin x) (begin_back d x) g q2)

    later : NotBegin s → is_over d s x ≡ false → Reached s d (x ∷ xs) file
    later n o =
        reached_in s d (x ∷ xs) file n (later_goes s d x xs file (advance_statement (statement_place d) s x) (statement_back (statement_place d) s x n) g (sym (run_step false d s x xs o) ∙ r))

    or_later : (s ≡ states.Begin) ⊎ NotBegin s → is_over d s x ≡ false → Reached s d (x ∷ xs) file
    or_later (inl e) o = at_begin e o
    or_later (inr n) o = later n o

    by : (b : Bool) → is_over d s x ≡ b → Reached s d (x ∷ xs) file
    by true o = over_here d s x xs file o r
    by false o = or_later (begin_or s) o

nothing_read : (d : Draft) (s : StatementState) (file : File) → run false d s [] ≡ read file → ⊥
unfolding run
nothing_read d s file h = let t : cut_off d s ≡ read file = h in cc

pub run_reads : (xs : List Lexeme) (file : File) → Goes xs file
run_reads [] file d s h = absurd (nothing_read d s file h)
run_reads (x ∷ xs) file d s h = step_goes d s x xs file (run_reads xs file) h

-- ---- statements after others

-- a complete text, with or without tokens after its end
pub data Begun (all : List Lexeme) (file : File) : Type 0 where
  begun : {front : List Lexeme} (rest : List Lexeme) → AreFileTokens front file → all ≡ front ++ rest → Begun all file

says_on : (front : List Lexeme) (d : Draft) (all : List Lexeme) (file : File) → AreStatementsOf front d → Rests d all file
    → Begun (front ++ all) file
says_on front d all file s (over c x rest w e) =
    begun rest (Files.whole x s w e refl) (sym (append_assoc front (x ∷ []) rest))
says_on front d all file s (another c e ys zs l f k r a) = moved (says_on (front ++ ys) e zs file (Files.another s k refl) r)
  where
    moved : Begun ((front ++ ys) ++ zs) file → Begun (front ++ all) file
    moved (begun {front = f} g h q) = begun g h (ap (λ (l : List Lexeme). front ++ l) a ∙ (sym (append_assoc front ys zs) ∙ q))

-- ---- the whole text

pub reading_reads : (xs : List Lexeme) (file : File) → reading false xs ≡ read file → Begun xs file
reading_reads [] file h = absurd (let t : cut_off initial_draft states.Begin ≡ read file = h in cc)
reading_reads (w ∷ xs) file h = by (is_the_word w.means (codes "syntax")) refl h
  where
    semicolon_here : (x y z : Lexeme) (zs : List Lexeme) → is_the_word w.means (codes "syntax") ≡ true
        → is_punctuator x.means equals ≡ true → (v : List ℕ) → y.means ≡ string v → bytes_eq v (codes "proto3") ≡ true
        → (b : Bool) → is_punctuator z.means semicolon ≡ b
        → (if b then run false initial_draft states.Begin zs else failed (unexpected z)) ≡ read file
        → Begun (w ∷ x ∷ y ∷ z ∷ zs) file
    semicolon_here x y z zs s e v p q true m h =
        says_on (w ∷ x ∷ y ∷ z ∷ []) initial_draft zs file
        (Files.start (Files.proto3 w x y z (word_is w.means (codes "syntax") s) (mark_is x.means equals e) (p ∙ ap string (same_bytes v (codes "proto3") q)) (mark_is z.means semicolon m)))
        (run_reads zs file initial_draft states.Begin h)
    semicolon_here x y z zs s e v p q false m h = absurd (let t : failed (unexpected z) ≡ read file = h in cc)

    syntax_here : (x y : Lexeme) (zs : List Lexeme) → is_the_word w.means (codes "syntax") ≡ true
        → is_punctuator x.means equals ≡ true → (v : List ℕ) → y.means ≡ string v → bytes_eq v (codes "proto3") ≡ true
        → after_syntax false zs ≡ read file → Begun (w ∷ x ∷ y ∷ zs) file
    syntax_here x y [] s e v p q h = absurd (let t : cut_off initial_draft states.Begin ≡ read file = h in cc)
    syntax_here x y (z ∷ zs) s e v p q h = semicolon_here x y z zs s e v p q (is_punctuator z.means semicolon) refl h

    proto3_here : (x y : Lexeme) (zs : List Lexeme) → is_the_word w.means (codes "syntax") ≡ true
        → is_punctuator x.means equals ≡ true → (v : List ℕ) → y.means ≡ string v
        → (b : Bool) → bytes_eq v (codes "proto3") ≡ b
        → (if b then after_syntax false zs else failed (proto_fault_at reasons.Syntax2 w.span)) ≡ read file
        → Begun (w ∷ x ∷ y ∷ zs) file
    proto3_here x y zs s e v p true q h = syntax_here x y zs s e v p q h
    proto3_here x y zs s e v p false q h = absurd (let t : failed (proto_fault_at reasons.Syntax2 w.span) ≡ read file = h in cc)

    value_here : (x y : Lexeme) (zs : List Lexeme) → is_the_word w.means (codes "syntax") ≡ true
        → is_punctuator x.means equals ≡ true → (m : TokenMeaning) → y.means ≡ m → after_syntax_value false w y zs m ≡ read file
        → Begun (w ∷ x ∷ y ∷ zs) file
    value_here x y zs s e (string v) p h = proto3_here x y zs s e v p (bytes_eq v (codes "proto3")) refl h
    value_here x y zs s e (identifier v) p h = absurd (let t : failed (unexpected y) ≡ read file = h in cc)
    value_here x y zs s e (integer v) p h = absurd (let t : failed (unexpected y) ≡ read file = h in cc)
    value_here x y zs s e number p h = absurd (let t : failed (unexpected y) ≡ read file = h in cc)
    value_here x y zs s e (mark v) p h = absurd (let t : failed (unexpected y) ≡ read file = h in cc)
    value_here x y zs s e the_end p h = absurd (let t : failed (unexpected y) ≡ read file = h in cc)
    value_here x y zs s e none p h = absurd (let t : failed (unexpected y) ≡ read file = h in cc)

    equals_here : (x : Lexeme) (ys : List Lexeme) → is_the_word w.means (codes "syntax") ≡ true
        → is_punctuator x.means equals ≡ true → after_syntax_equals false w ys ≡ read file → Begun (w ∷ x ∷ ys) file
    equals_here x [] s e h = absurd (let t : cut_off initial_draft states.Begin ≡ read file = h in cc)
    equals_here x (y ∷ ys) s e h = value_here x y ys s e y.means refl h

    mark_here : (x : Lexeme) (ys : List Lexeme) → is_the_word w.means (codes "syntax") ≡ true → (b : Bool)
        → is_punctuator x.means equals ≡ b → (if b then after_syntax_equals false w ys else failed (unexpected x)) ≡ read file
        → Begun (w ∷ x ∷ ys) file
    mark_here x ys s true e h = equals_here x ys s e h
    mark_here x ys s false e h = absurd (let t : failed (unexpected x) ≡ read file = h in cc)

    word_here : (ys : List Lexeme) → is_the_word w.means (codes "syntax") ≡ true → after_syntax_word false w ys ≡ read file
        → Begun (w ∷ ys) file
    word_here [] s h = absurd (let t : cut_off initial_draft states.Begin ≡ read file = h in cc)
    word_here (x ∷ ys) s h = mark_here x ys s (is_punctuator x.means equals) refl h

    by : (b : Bool) → is_the_word w.means (codes "syntax") ≡ b
        → (if b then after_syntax_word false w xs else if is_no_token w.means then failed (unexpected w)
        else failed (proto_fault_at reasons.Syntax2 w.span)) ≡ read file → Begun (w ∷ xs) file
    by true s h = word_here xs s h
    by false s h = other (is_no_token w.means) h
      where
        other : (b : Bool) → (if b then failed (unexpected w) else failed (proto_fault_at reasons.Syntax2 w.span)) ≡ read file → Begun (w ∷ xs) file
        other true h = absurd (let t : failed (unexpected w) ≡ read file = h in cc)
        other false h = absurd (let t : failed (proto_fault_at reasons.Syntax2 w.span) ≡ read file = h in cc)
