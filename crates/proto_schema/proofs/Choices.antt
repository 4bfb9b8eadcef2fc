-- The choices that reading makes, and the facts that each implies.
use Rattle.std.proofs.Common.{subst, ◌≡◌, ℕ, ◌==◌, Bool, true, false, List, [], ◌∷◌, ◌++◌, refl, ap, sym, ◌∙◌}
use Rattle.std.specs.Prelude.{Ok, Result, if◌then◌else◌, ◌&&◌, ◌||◌}
use Rattle.std.specs.Str.{bytes_eq}
use Rattle.std.proofs.lemmas.Bool.{or_right}
use Rattle.std.proofs.lemmas.Slice.Eq.{bytes_eq-Decides}
use Rattle.mrpc_table.specs.declared.words.Decimal.{Decimal}
use Rattle.proto_grammar.specs.Lexemes.{TokenMeaning, identifier, integer, number, string, mark, the_end, none, Lexeme, IsWord, is_the_word}
use Rattle.proto_grammar.specs.Advancing.{wrong, by_name, if_name, by_number, if_number, by_string, if_string, is_string, is_number}
use Rattle.proto_grammar.specs.Grammar.{IsAnyNumber, an_integer, a_number}
use Rattle.proto_grammar.specs.declared.fault.ProtoFault.{ProtoFault}

pub either_is : {A : Type 0} (P : A → Type 0) (b : Bool) (x y : A) → (b ≡ true → P x) → (b ≡ false → P y)
    → P (if b then x else y)
either_is P true x y h k = h refl
either_is P false x y h k = k refl

pub named_is : {X : Type 0} (P : Result X ProtoFault → Type 0) (x : Lexeme) (f : List ℕ → X)
    → ((n : List ℕ) → IsWord x n → P (Ok (f n))) → P (wrong x) → P (if_name x f)
named_is {X} P x f h k = by x.means refl
  where
    by : (m : TokenMeaning) → x.means ≡ m → P (by_name x f m)
    by (identifier n) e = h n e
    by (integer value) e = k
    by number e = k
    by (string value) e = k
    by (mark c) e = k
    by the_end e = k
    by none e = k

pub numbered_is : {X : Type 0} (P : Result X ProtoFault → Type 0) (x : Lexeme) (f : Decimal → X)
    → ((v : Decimal) → x.means ≡ integer v → P (Ok (f v))) → P (wrong x) → P (if_number x f)
numbered_is {X} P x f h k = by x.means refl
  where
    by : (m : TokenMeaning) → x.means ≡ m → P (by_number x f m)
    by (identifier n) e = k
    by (integer value) e = h value e
    by number e = k
    by (string value) e = k
    by (mark c) e = k
    by the_end e = k
    by none e = k

pub string_is : {X : Type 0} (P : Result X ProtoFault → Type 0) (x : Lexeme) (f : List ℕ → X)
    → ((v : List ℕ) → x.means ≡ string v → P (Ok (f v))) → P (wrong x) → P (if_string x f)
string_is {X} P x f h k = by x.means refl
  where
    by : (m : TokenMeaning) → x.means ≡ m → P (by_string x f m)
    by (identifier n) e = k
    by (integer value) e = k
    by number e = k
    by (string value) e = h value e
    by (mark c) e = k
    by the_end e = k
    by none e = k

-- ---- tests

pub same_bytes : (v w : List ℕ) → bytes_eq v w ≡ true → v ≡ w
same_bytes v w h = (bytes_eq-Decides v w).0 h

pub bytes_same : (v w : List ℕ) → v ≡ w → bytes_eq v w ≡ true
bytes_same v w h = (bytes_eq-Decides v w).1 h

pub word_is : (m : TokenMeaning) (w : List ℕ) → is_the_word m w ≡ true → m ≡ identifier w
word_is (identifier n) w h = ap identifier (same_bytes n w h)
word_is (integer value) w h = absurd (let t : false ≡ true = h in cc)
word_is number w h = absurd (let t : false ≡ true = h in cc)
word_is (string value) w h = absurd (let t : false ≡ true = h in cc)
word_is (mark c) w h = absurd (let t : false ≡ true = h in cc)
word_is the_end w h = absurd (let t : false ≡ true = h in cc)
word_is none w h = absurd (let t : false ≡ true = h in cc)

pub string_meant : (m : TokenMeaning) → is_string m ≡ true → (v : List ℕ) × (m ≡ string v)
string_meant (string v) h = (v, refl)
string_meant (identifier n) h = absurd (let t : false ≡ true = h in cc)
string_meant (integer value) h = absurd (let t : false ≡ true = h in cc)
string_meant number h = absurd (let t : false ≡ true = h in cc)
string_meant (mark c) h = absurd (let t : false ≡ true = h in cc)
string_meant the_end h = absurd (let t : false ≡ true = h in cc)
string_meant none h = absurd (let t : false ≡ true = h in cc)

pub number_meant : (x : Lexeme) → is_number x.means ≡ true → IsAnyNumber x
number_meant x h = by x.means refl h
  where
    by : (m : TokenMeaning) → x.means ≡ m → is_number m ≡ true → IsAnyNumber x
    by (integer v) e h = an_integer v e
    by number e h = a_number e
    by (identifier n) e h = absurd (let t : false ≡ true = h in cc)
    by (string v) e h = absurd (let t : false ≡ true = h in cc)
    by (mark c) e h = absurd (let t : false ≡ true = h in cc)
    by the_end e h = absurd (let t : false ≡ true = h in cc)
    by none e h = absurd (let t : false ≡ true = h in cc)

pub and_both : (a b : Bool) → (a && b) ≡ true → (a ≡ true) × (b ≡ true)
and_both true b h = (refl, h)
and_both false b h = absurd (let t : false ≡ true = h in cc)

-- ---- words with a dot in them

abbrev pub any_dot : List ℕ → Bool
any_dot [] = false
any_dot (c ∷ cs) = c == 46 || any_dot cs

has_dot : (v n : List ℕ) → any_dot (v ++ 46 ∷ n) ≡ true
has_dot [] n = refl
has_dot (c ∷ v) n = or_right (c == 46) (any_dot (v ++ 46 ∷ n)) (has_dot v n)

-- a name with a dot differs from a word without one
pub dotted_differs : (v n w : List ℕ) → any_dot w ≡ false → bytes_eq (v ++ 46 ∷ n) w ≡ true → ⊥
dotted_differs v n w h e =
    let a : any_dot w ≡ true = subst (λ (l : List ℕ). any_dot l ≡ true) (same_bytes (v ++ 46 ∷ n) w e) (has_dot v n) in
    let b : true ≡ false = sym a ∙ h in
    cc
