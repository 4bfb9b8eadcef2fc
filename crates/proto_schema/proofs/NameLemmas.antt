-- Names, read token by token.
use Rattle.std.proofs.Common.{subst, ◌≡◌, ℕ, true, false, List, [], ◌∷◌, ◌++◌, refl, ap}
use Rattle.std.specs.Prelude.{Ok}
use Rattle.std.proofs.lemmas.Bool.{eqb-true, eq-eqb}
use Rattle.std.proofs.lemmas.List.{append_assoc}
use Rattle.proto_ast.specs.Dot.{dot}
use Rattle.proto_grammar.specs.Lexemes.{TokenMeaning, identifier, integer, number, string, mark, the_end, none, Lexeme, span_to, make_word, IsWord, IsPunctuator}
use Rattle.proto_grammar.specs.Grammar.{IsDottedName, one, more}
use Rattle.proto_grammar.specs.Advancing.{is_punctuator, by_name, if_name, name_part, advance_full_name}
use Rattle.proto_ast.specs.declared.file.Word.{Word}
use Rattle.proto_grammar.specs.declared.name.NameState.{NameState}
use Rattle.proto_grammar.specs.declared.name.NameState.TheVariants as names
use Rattle.proto_grammar.specs.declared.name.NameStep.TheVariants as name_steps

-- ---- meanings

pub mark_is : (m : TokenMeaning) (c : ℕ) → is_punctuator m c ≡ true → m ≡ mark c
mark_is (mark d) c h = ap mark (eqb-true d c h)
mark_is (identifier name) c h = absurd (let t : false ≡ true = h in cc)
mark_is (integer value) c h = absurd (let t : false ≡ true = h in cc)
mark_is number c h = absurd (let t : false ≡ true = h in cc)
mark_is (string value) c h = absurd (let t : false ≡ true = h in cc)
mark_is the_end c h = absurd (let t : false ≡ true = h in cc)
mark_is none c h = absurd (let t : false ≡ true = h in cc)

pub is_mark_of : (m : TokenMeaning) (c : ℕ) → m ≡ mark c → is_punctuator m c ≡ true
is_mark_of m c h = rw h (eq-eqb c c refl)

pub word_no_mark : (m : TokenMeaning) (name : List ℕ) (c : ℕ) → m ≡ identifier name → is_punctuator m c ≡ false
word_no_mark m name c h = rw h refl

pub is_name : {X : Type 0} (x : Lexeme) (f : List ℕ → X) (name : List ℕ) → IsWord x name → if_name x f ≡ Ok (f name)
is_name x f name h = ap (by_name x f) h

-- ---- steps, one after another

pub data Walks {S : Type 0} (step : S → Lexeme → S → Type 0) : S → List Lexeme → S → Type 0 where
  stay : {s t : S} {xs : List Lexeme} → xs ≡ [] → s ≡ t → Walks step s xs t
  go : {s t u : S} {xs : List Lexeme} (x : Lexeme) (ys : List Lexeme) → xs ≡ x ∷ ys → step s x t → Walks step t ys u
      → Walks step s xs u

pub walks_on : {S : Type 0} (step : S → Lexeme → S → Type 0) {s t u : S} {xs ys : List Lexeme} → Walks step s xs t
    → Walks step t ys u → Walks step s (xs ++ ys) u
walks_on step (stay e f) w = rw (e, f) w
walks_on step {ys = ys} (go x zs e h v) w = go x (zs ++ ys) (ap (λ (r : List Lexeme). r ++ ys) e) h (walks_on step v w)

-- steps of a part are steps of the whole statement
pub walks_in : {S T : Type 0} (step : S → Lexeme → S → Type 0) (wide : T → Lexeme → T → Type 0) (f : S → T)
    → ((s t : S) (x : Lexeme) → step s x t → wide (f s) x (f t))
    → {s t : S} {xs : List Lexeme} → Walks step s xs t → Walks wide (f s) xs (f t)
walks_in step wide f lift (stay e h) = stay e (ap f h)
walks_in step wide f lift (go {s} {t} x ys e h w) = go x ys e (lift s t x h) (walks_in step wide f lift w)

-- ---- a full name is read

abbrev pub FullGoes : NameState → Lexeme → NameState → Type 0
FullGoes s x t = advance_full_name s x ≡ Ok (name_steps.More t)

start_goes : (x : Lexeme) (name : List ℕ) → IsWord x name → FullGoes names.Start x (names.Part (make_word name x.span))
unfolding advance_full_name
start_goes x name h = is_name x (λ n. name_part n x.span) name h

dot_goes : (x : Lexeme) (w : Word) → IsPunctuator x dot → FullGoes (names.Part w) x (names.Dot w)
unfolding advance_full_name
dot_goes x w h = rw (is_mark_of x.means dot h) refl

part_goes : (x : Lexeme) (name : List ℕ) (w : Word) → IsWord x name
    → FullGoes (names.Dot w) x (names.Part (make_word (w.name ++ dot ∷ name) (span_to w.span x.span)))
unfolding advance_full_name
part_goes x name w h = is_name x (λ n. name_part (w.name ++ dot ∷ n) (span_to w.span x.span)) name h

-- a name after the tokens that are read, with a dot between
abbrev behind_dot : Word → Word → Word
behind_dot v w = make_word (v.name ++ dot ∷ w.name) (span_to v.span w.span)

full_behind : {ys : List Lexeme} {w : Word} (v : Word) → IsDottedName ys w
    → Walks FullGoes (names.Dot v) ys (names.Part (behind_dot v w))
full_behind v (one x name h) = go x [] refl (part_goes x name v h) (stay refl refl)
full_behind v (more x y name zs w h d f) =
    let u = make_word (v.name ++ dot ∷ name) (span_to v.span x.span) in
    let same : ◌≡◌ {A = List ℕ} ((v.name ++ dot ∷ name) ++ dot ∷ w.name) (v.name ++ dot ∷ (name ++ dot ∷ w.name)) = append_assoc v.name (dot ∷ name) (dot ∷ w.name) in
    go x (y ∷ zs) refl (part_goes x name v h) (go y zs refl (dot_goes y u d)
    (subst (λ (b : List ℕ). Walks FullGoes (names.Dot u) zs (names.Part (make_word b (span_to v.span w.span)))) same (full_behind u f)))

pub full_reads : {ys : List Lexeme} {w : Word} → IsDottedName ys w → Walks FullGoes names.Start ys (names.Part w)
full_reads (one x name h) = go x [] refl (start_goes x name h) (stay refl refl)
full_reads (more x y name zs w h d f) =
    go x (y ∷ zs) refl (start_goes x name h) (go y zs refl (dot_goes y (make_word name x.span) d) (full_behind (make_word name x.span) f))
