-- The tokens that complete an option, by how much of it is read: together they are an option.
use Rattle.std.proofs.Common.{subst, ◌≡◌, ◌≢◌, ◌⊎◌, inl, inr, ℕ, suc, ◌+◌, ◌-◌, ◌<◌, ◌≤◌, ◌==◌, nat_le, Bool, true}
use Rattle.std.proofs.Common.{false, List, [], ◌∷◌, ◌++◌, codes, refl, ap, sym, ◌∙◌, arith, add-one}
use Rattle.std.specs.Prelude.{Ok, Err, Result, Option, None, if◌then◌else◌, ◌&&◌, ◌||◌}
use Rattle.std.proofs.lemmas.Bool.{eqb-true, eqb-false, leb-true, leb-false}
use Rattle.std.proofs.lemmas.List.{append_assoc}
use Rattle.proto_ast.specs.Dot.{dot}
use Rattle.proto_grammar.specs.Lexemes.{TokenMeaning, identifier, integer, number, string, mark, the_end, none, Lexeme}
use Rattle.proto_grammar.specs.Lexemes.{equals, minus, plus, opening_brace, closing_brace, opening_paren}
use Rattle.proto_grammar.specs.Lexemes.{closing_paren, IsWord, IsPunctuator, is_the_word}
use Rattle.proto_grammar.specs.Grammar.{IsDottedName, one, more, IsTypeName, relative, absolute, ClosesBraces, last_brace, closing}
use Rattle.proto_grammar.specs.Grammar.{opening, other, AreStrings, one_string, strings, IsAnyNumber, an_integer, a_number}
use Rattle.proto_grammar.specs.Grammar.{truth, IsOptionValue, a_name, unsigned, signed, texts, block, plain_part, custom_part}
use Rattle.proto_grammar.specs.Grammar.{IsOptionName, one_part, parts, is_packed_name}
use Rattle.proto_grammar.specs.Advancing.{wrong, is_punctuator, is_string, is_number, if_name, more_option, truth_of, value_start, advance_braces, advance_option}
use Rattle.proto_schema.proofs.Choices.{either_is, named_is, string_meant, number_meant}
use Rattle.proto_schema.proofs.NameLemmas.{mark_is}
use Rattle.proto_ast.specs.declared.file.Word.{Word}
use Rattle.proto_grammar.specs.declared.fault.ProtoFault.{ProtoFault}
use Rattle.proto_grammar.specs.declared.option.OptionState.{OptionState}
use Rattle.proto_grammar.specs.declared.option.OptionState.TheVariants as states
use Rattle.proto_grammar.specs.declared.option.OptionStep.{OptionStep}
use Rattle.proto_grammar.specs.declared.option.OptionStep.TheVariants as steps

-- the value that an option gives to `packed`
abbrev pub said_if : Bool → List Lexeme → Option Bool
said_if packed zs = if packed then truth zs else None

-- after a part of the name
pub data AfterPart (packed : Bool) : List Lexeme → Option Bool → Type 0 where
  equals_behind : (x : Lexeme) {zs : List Lexeme} {b : Option Bool} → IsPunctuator x equals → IsOptionValue zs
      → said_if packed zs ≡ b → AfterPart packed (x ∷ zs) b
  parts_behind : (x y : Lexeme) {ys zs all : List Lexeme} {b : Option Bool} → IsPunctuator x dot → IsOptionName ys
      → IsPunctuator y equals → IsOptionValue zs → all ≡ x ∷ ys ++ y ∷ zs → None ≡ b → AfterPart packed all b

-- from a part of the name on
pub data OptionFrom (first : Bool) (all : List Lexeme) (b : Option Bool) : Type 0 where
  from_name : (x : Lexeme) {ys zs : List Lexeme} → IsOptionName ys → IsPunctuator x equals → IsOptionValue zs → all ≡ ys ++ x ∷ zs
      → said_if (first && is_packed_name ys) zs ≡ b → OptionFrom first all b

-- a name that `)` closes
pub data Custom (R : List Lexeme → Word → Type 0) (all : List Lexeme) (b : Option Bool) : Type 0 where
  custom : (z : Lexeme) {ys rest : List Lexeme} {w : Word} → R ys w → IsPunctuator z closing_paren → AfterPart false rest b
      → all ≡ ys ++ z ∷ rest → Custom R all b

pub data AfterInner : List Lexeme → Option Bool → Type 0 where
  inner_ends : (x : Lexeme) {rest : List Lexeme} {b : Option Bool} → IsPunctuator x closing_paren → AfterPart false rest b
      → AfterInner (x ∷ rest) b
  inner_goes_on : (x : Lexeme) {rest : List Lexeme} {b : Option Bool} → IsPunctuator x dot → Custom IsDottedName rest b
      → AfterInner (x ∷ rest) b

pub data SignRest : List Lexeme → Option Bool → Type 0 where
  sign_rest : (x : Lexeme) → IsAnyNumber x → SignRest (x ∷ []) None

pub data NameGoes (b : Option Bool) : List Lexeme → Option Bool → Type 0 where
  name_ends : NameGoes b [] b
  name_goes_on : (x : Lexeme) {ys : List Lexeme} {w : Word} → IsPunctuator x dot → IsDottedName ys w → NameGoes b (x ∷ ys) None

pub data TextRest : List Lexeme → Option Bool → Type 0 where
  no_text : TextRest [] None
  more_text : {ys : List Lexeme} → AreStrings ys → TextRest ys None

pub data Over : List Lexeme → Option Bool → Type 0 where
  over : Over [] None

abbrev pub OptionRest : OptionState → List Lexeme → Option Bool → Type 0
OptionRest (states.Name first) ys b = OptionFrom first ys b
OptionRest states.Open ys b = Custom IsTypeName ys b
OptionRest states.OpenName ys b = Custom IsDottedName ys b
OptionRest states.Inner ys b = AfterInner ys b
OptionRest (states.Part packed) ys b = AfterPart packed ys b
OptionRest (states.Equals packed) ys b = (IsOptionValue ys) × (said_if packed ys ≡ b)
OptionRest states.Sign ys b = SignRest ys b
OptionRest (states.Value says_packed) ys b = NameGoes says_packed ys b
OptionRest states.ValueDot ys b = (w : Word) × IsDottedName ys w × (None ≡ b)
OptionRest states.Text ys b = TextRest ys b
OptionRest (states.Braces depth) ys b = 0 < depth → (ClosesBraces depth ys) × (None ≡ b)
OptionRest states.End ys b = Over ys b

abbrev pub OptionBack : OptionState → Lexeme → Result OptionStep ProtoFault → Type 0
OptionBack s x (Ok (steps.More t)) = (ys : List Lexeme) (b : Option Bool) → OptionRest t ys b → OptionRest s (x ∷ ys) b
OptionBack s x (Ok (steps.Whole b)) = OptionRest s [] b
OptionBack s x (Err e) = Unit {0}

-- ---- no value is given to `packed`

no_truth : (first c : Bool) (zs : List Lexeme) → c ≡ false → said_if (first && c) zs ≡ None
no_truth true c zs e = rw e refl
no_truth false c zs e = refl

packed_mark : (x : Lexeme) (l : List Lexeme) (c : ℕ) → IsPunctuator x c → is_packed_name (x ∷ l) ≡ false
packed_mark x [] c e = rw e refl
packed_mark x (y ∷ l) c e = refl

pub untrue : (packed : Bool) (zs : List Lexeme) → truth zs ≡ None → said_if packed zs ≡ None
untrue true zs e = e
untrue false zs e = refl

pub truth_none : (x : Lexeme) (ys : List Lexeme) → is_the_word x.means (codes "true") ≡ false
    → is_the_word x.means (codes "false") ≡ false → truth (x ∷ ys) ≡ None
truth_none x [] p q = rw (p, q) refl
truth_none x (y ∷ ys) p q = refl

-- ---- the name

custom_start : (first : Bool) (x : Lexeme) → IsPunctuator x opening_paren → (ys : List Lexeme) (b : Option Bool)
    → Custom IsTypeName ys b → OptionFrom first (x ∷ ys) b
custom_start first x h ys b (custom z {ys = ts} {rest = rest} {w = w} t c a e) = by rest b a e
  where
    by : (rest : List Lexeme) (b : Option Bool) → AfterPart false rest b → ys ≡ ts ++ z ∷ rest
        → OptionFrom first (x ∷ ys) b
    by rest b (equals_behind y {zs = zs} q v s) e =
        from_name y (one_part (custom_part x z h t c refl)) q v (ap (λ (l : List Lexeme). x ∷ l) (e ∙ sym (append_assoc ts (z ∷ []) (y ∷ zs))))
        (no_truth first (is_packed_name (x ∷ ts ++ z ∷ [])) zs (packed_mark x (ts ++ z ∷ []) opening_paren h) ∙ s)
    by rest b (parts_behind d y {ys = us} {zs = zs} k n q v l s) e =
        from_name y (parts d (custom_part x z h t c refl) k n refl) q v
        (ap (λ (l : List Lexeme). x ∷ l)
        (e ∙ (ap (λ (r : List Lexeme). ts ++ z ∷ r) l
        ∙ (sym (append_assoc ts (z ∷ []) ((d ∷ us) ++ y ∷ zs))
        ∙ sym (append_assoc (ts ++ z ∷ []) (d ∷ us) (y ∷ zs))))))
        (no_truth first (is_packed_name ((x ∷ ts ++ z ∷ []) ++ d ∷ us)) zs (packed_mark x ((ts ++ z ∷ []) ++ d ∷ us) opening_paren h) ∙ s)

plain_start : (first : Bool) (x : Lexeme) (n : List ℕ) → IsWord x n → (ys : List Lexeme) (b : Option Bool)
    → AfterPart (first && is_the_word x.means (codes "packed")) ys b → OptionFrom first (x ∷ ys) b
plain_start first x n h ys b (equals_behind y {zs = zs} q v s) = from_name y (one_part (plain_part x n h)) q v refl s
plain_start first x n h ys b (parts_behind d y {ys = us} {zs = zs} k m q v l s) =
    from_name y (parts d (plain_part x n h) k m refl) q v (ap (λ (l : List Lexeme). x ∷ l) l) (no_truth first (is_packed_name (x ∷ d ∷ us)) zs refl ∙ s)

dot_part : (packed : Bool) (x : Lexeme) → IsPunctuator x dot → (ys : List Lexeme) (b : Option Bool) → OptionFrom false ys b
    → AfterPart packed (x ∷ ys) b
dot_part packed x h ys b (from_name y m q v e s) = parts_behind x y h m q v (ap (λ (l : List Lexeme). x ∷ l) e) s

-- a name in parentheses

open_dot : (x : Lexeme) → IsPunctuator x dot → (ys : List Lexeme) (b : Option Bool) → Custom IsDottedName ys b
    → Custom IsTypeName (x ∷ ys) b
open_dot x h ys b (custom z f c a e) = custom z (absolute x h f) c a (ap (λ (l : List Lexeme). x ∷ l) e)

open_name : (x : Lexeme) (n : List ℕ) → IsWord x n → (ys : List Lexeme) (b : Option Bool) → AfterInner ys b
    → Custom IsDottedName (x ∷ ys) b
open_name x n h ys b (inner_ends z c a) = custom z (one x n h) c a refl
open_name x n h ys b (inner_goes_on y d (custom z {w = w} f c a e)) = custom z (more x y n _ w h d f) c a (ap (λ (l : List Lexeme). x ∷ y ∷ l) e)

open_type : (ys : List Lexeme) (b : Option Bool) → Custom IsDottedName ys b → Custom IsTypeName ys b
open_type ys b (custom z f c a e) = custom z (relative f) c a e

-- ---- the value

name_value : (packed : Bool) (x : Lexeme) (n : List ℕ) → IsWord x n → (ys : List Lexeme) (b : Option Bool)
    → NameGoes (truth_of packed (identifier n)) ys b → (IsOptionValue (x ∷ ys)) × (said_if packed (x ∷ ys) ≡ b)
name_value packed x n h ys b name_ends = (a_name (one x n h), by packed)
  where
    by : (packed : Bool) → said_if packed (x ∷ []) ≡ truth_of packed (identifier n)
    by true = rw h refl
    by false = refl
name_value packed x n h ys b (name_goes_on y {ys = zs} {w = w} d f) = (a_name (more x y n zs w h d f), untrue packed (x ∷ y ∷ zs) refl)

number_value : (packed : Bool) (x : Lexeme) → IsAnyNumber x → (ys : List Lexeme) (b : Option Bool) → Over ys b
    → (IsOptionValue (x ∷ ys)) × (said_if packed (x ∷ ys) ≡ b)
number_value packed x n ys b over = (unsigned x n, untrue packed (x ∷ []) (by n))
  where
    by : IsAnyNumber x → truth (x ∷ []) ≡ None
    by (an_integer v e) = truth_none x [] (rw e refl) (rw e refl)
    by (a_number e) = truth_none x [] (rw e refl) (rw e refl)

text_value : (packed : Bool) (x : Lexeme) (v : List ℕ) → x.means ≡ string v → (ys : List Lexeme) (b : Option Bool)
    → TextRest ys b → (IsOptionValue (x ∷ ys)) × (said_if packed (x ∷ ys) ≡ b)
text_value packed x v h ys b no_text = (texts (one_string x v h), untrue packed (x ∷ []) (truth_none x [] (rw h refl) (rw h refl)))
text_value packed x v h ys b (more_text s) = (texts (strings x v h s), untrue packed (x ∷ ys) (truth_none x ys (rw h refl) (rw h refl)))

sign_value : (packed : Bool) (x : Lexeme) → (IsPunctuator x minus) ⊎ (IsPunctuator x plus) → (ys : List Lexeme) (b : Option Bool)
    → SignRest ys b → (IsOptionValue (x ∷ ys)) × (said_if packed (x ∷ ys) ≡ b)
sign_value packed x h ys b (sign_rest y n) = (signed x y h n, untrue packed (x ∷ y ∷ []) refl)

block_value : (packed : Bool) (x : Lexeme) → IsPunctuator x opening_brace → (ys : List Lexeme) (b : Option Bool)
    → (0 < 1 → (ClosesBraces 1 ys) × (None ≡ b)) → (IsOptionValue (x ∷ ys)) × (said_if packed (x ∷ ys) ≡ b)
block_value packed x h ys b f =
    let r : (ClosesBraces 1 ys) × (None ≡ b) = f (omega arith) in
    (block x h r.0, untrue packed (x ∷ ys) (truth_none x ys (rw h refl) (rw h refl)) ∙ r.1)

sign_of : (x : Lexeme) (c : ℕ) → x.means ≡ mark c → (c == plus || c == minus) ≡ true
    → (IsPunctuator x minus) ⊎ (IsPunctuator x plus)
sign_of x c e h = by (c == plus) refl h
  where
    by : (t : Bool) → (c == plus) ≡ t → (t || c == minus) ≡ true → (IsPunctuator x minus) ⊎ (IsPunctuator x plus)
    by true p h = inr (e ∙ ap mark (eqb-true c plus p))
    by false p h = inl (e ∙ ap mark (eqb-true c minus h))

value_back : (packed : Bool) (x : Lexeme) (m : TokenMeaning) → x.means ≡ m
    → OptionBack (states.Equals packed) x (value_start packed x m)
value_back packed x (identifier n) e = name_value packed x n e
value_back packed x (integer v) e = number_value packed x (an_integer v e)
value_back packed x number e = number_value packed x (a_number e)
value_back packed x (string v) e = text_value packed x v e
value_back packed x (mark c) e =
    either_is (OptionBack (states.Equals packed) x) (c == plus || c == minus) (more_option states.Sign) (if c == opening_brace then more_option (states.Braces 1) else wrong x)
    (λ h. sign_value packed x (sign_of x c e h))
    (λ h. either_is (OptionBack (states.Equals packed) x) (c == opening_brace) (more_option (states.Braces 1))
    (wrong x) (λ k. block_value packed x (e ∙ ap mark (eqb-true c opening_brace k))) (λ k. tt))
value_back packed x the_end e = tt
value_back packed x none e = tt

-- ---- braces

closes_last : (d : ℕ) (x : Lexeme) → IsPunctuator x closing_brace → d ≤ 1 → (ys : List Lexeme) (b : Option Bool) → Over ys b
    → 0 < d → (ClosesBraces d (x ∷ ys)) × (None ≡ b)
closes_last d x h l ys b over p = (subst (λ (k : ℕ). ClosesBraces k (x ∷ [])) (let e : 1 ≡ d = omega arith in e) (last_brace x h), refl)

closes_one : (d : ℕ) (x : Lexeme) → IsPunctuator x closing_brace → 1 < d → (ys : List Lexeme) (b : Option Bool)
    → (0 < d - 1 → (ClosesBraces (d - 1) ys) × (None ≡ b)) → 0 < d → (ClosesBraces d (x ∷ ys)) × (None ≡ b)
closes_one d x h l ys b f p =
    let r : (ClosesBraces (d - 1) ys) × (None ≡ b) = f (omega arith) in
    let e : d - 1 ≡ suc (d - 2) = omega arith in
    let g : suc (suc (d - 2)) ≡ d = omega arith in
    (subst (λ (k : ℕ). ClosesBraces k (x ∷ ys)) g (closing x h (subst (λ (k : ℕ). ClosesBraces k ys) e r.0)), r.1)

opens_one : (d : ℕ) (x : Lexeme) → IsPunctuator x opening_brace → (ys : List Lexeme) (b : Option Bool)
    → (0 < d + 1 → (ClosesBraces (d + 1) ys) × (None ≡ b)) → 0 < d → (ClosesBraces d (x ∷ ys)) × (None ≡ b)
opens_one d x h ys b f p =
    let r : (ClosesBraces (d + 1) ys) × (None ≡ b) = f (omega arith) in
    (opening x h (subst (λ (k : ℕ). ClosesBraces k ys) (add-one d) r.0), r.1)

keeps_open : (d : ℕ) (x : Lexeme) → x.means ≢ mark closing_brace → x.means ≢ mark opening_brace → x.means ≢ the_end
    → x.means ≢ none → (ys : List Lexeme) (b : Option Bool) → (0 < d → (ClosesBraces d ys) × (None ≡ b)) → 0 < d
    → (ClosesBraces d (x ∷ ys)) × (None ≡ b)
keeps_open d x h i j k ys b f p = let r : (ClosesBraces d ys) × (None ≡ b) = f p in (other x h i j k r.0, r.1)

other_mark : (x : Lexeme) (c d : ℕ) → x.means ≡ mark c → (c == d) ≡ false → x.means ≢ mark d
other_mark x c d e h q = eqb-false c d h (let t : mark c ≡ mark d = sym e ∙ q in cc)

brace_back : (d : ℕ) (x : Lexeme) (m : TokenMeaning) → x.means ≡ m → OptionBack (states.Braces d) x (advance_braces d x m)
brace_back d x (identifier n) e = keeps_open d x (λ q. let t : identifier n ≡ mark closing_brace = sym e ∙ q in
    cc) (λ q. let t : identifier n ≡ mark opening_brace = sym e ∙ q in cc) (λ q. let t : identifier n ≡ the_end =
    sym e ∙ q in cc) (λ q. let t : identifier n ≡ none = sym e ∙ q in cc)
brace_back d x (integer n) e = keeps_open d x (λ q. let t : integer n ≡ mark closing_brace = sym e ∙ q in
    cc) (λ q. let t : integer n ≡ mark opening_brace = sym e ∙ q in cc) (λ q. let t : integer n ≡ the_end =
    sym e ∙ q in cc) (λ q. let t : integer n ≡ none = sym e ∙ q in cc)
brace_back d x number e = keeps_open d x (λ q. let t : number ≡ mark closing_brace = sym e ∙ q in
    cc) (λ q. let t : number ≡ mark opening_brace = sym e ∙ q in cc) (λ q. let t : number ≡ the_end = sym e ∙ q in
    cc) (λ q. let t : number ≡ none = sym e ∙ q in cc)
brace_back d x (string n) e = keeps_open d x (λ q. let t : string n ≡ mark closing_brace = sym e ∙ q in
    cc) (λ q. let t : string n ≡ mark opening_brace = sym e ∙ q in cc) (λ q. let t : string n ≡ the_end = sym e ∙ q in
    cc) (λ q. let t : string n ≡ none = sym e ∙ q in cc)
brace_back d x (mark c) e =
    either_is (OptionBack (states.Braces d) x) (c == opening_brace) (more_option (states.Braces (d + 1)))
    (if c == closing_brace then if nat_le d 1 then more_option states.End else more_option (states.Braces (d - 1)) else more_option (states.Braces d))
    (λ h. opens_one d x (e ∙ ap mark (eqb-true c opening_brace h)))
    (λ h. either_is (OptionBack (states.Braces d) x) (c == closing_brace) (if nat_le d 1 then more_option states.End
    else more_option (states.Braces (d - 1))) (more_option (states.Braces d))
    (λ k. either_is (OptionBack (states.Braces d) x) (nat_le d 1) (more_option states.End) (more_option (states.Braces (d - 1)))
    (λ l. closes_last d x (e ∙ ap mark (eqb-true c closing_brace k)) (leb-true d 1 l))
    (λ l. closes_one d x (e ∙ ap mark (eqb-true c closing_brace k)) (leb-false d 1 l)))
    (λ k. keeps_open d x (other_mark x c closing_brace e k) (other_mark x c opening_brace e h)
    (λ q. let t : mark c ≡ the_end = sym e ∙ q in cc) (λ q. let t : mark c ≡ none = sym e ∙ q in cc)))
brace_back d x the_end e = tt
brace_back d x none e = tt

-- ---- every token of an option

pub option_back : (s : OptionState) (x : Lexeme) → OptionBack s x (advance_option s x)
unfolding advance_option
option_back (states.Name first) x =
    either_is (OptionBack (states.Name first) x) (is_punctuator x.means opening_paren) (more_option states.Open)
    (if_name x (λ n. steps.More (states.Part (first && is_the_word x.means (codes "packed")))))
    (λ h. custom_start first x (mark_is x.means opening_paren h))
    (λ h. named_is (OptionBack (states.Name first) x) x (λ n. steps.More (states.Part (first && is_the_word x.means (codes "packed")))) (λ n k. plain_start first x n k) tt)
option_back states.Open x =
    either_is (OptionBack states.Open x) (is_punctuator x.means dot) (more_option states.OpenName) (if_name x (λ n. steps.More states.Inner)) (λ h. open_dot x (mark_is x.means dot h))
    (λ h. named_is (OptionBack states.Open x) x (λ n. steps.More states.Inner) (λ n k. λ ys b r. open_type (x ∷ ys) b (open_name x n k ys b r)) tt)
option_back states.OpenName x = named_is (OptionBack states.OpenName x) x (λ n. steps.More states.Inner) (λ n k. open_name x n k) tt
option_back states.Inner x =
    either_is (OptionBack states.Inner x) (is_punctuator x.means dot) (more_option states.OpenName) (if is_punctuator x.means closing_paren then more_option (states.Part false) else wrong x)
    (λ h. λ ys b r. inner_goes_on x (mark_is x.means dot h) r)
    (λ h. either_is (OptionBack states.Inner x) (is_punctuator x.means closing_paren) (more_option (states.Part false))
    (wrong x) (λ k. λ ys b r. inner_ends x (mark_is x.means closing_paren k) r) (λ k. tt))
option_back (states.Part packed) x =
    either_is (OptionBack (states.Part packed) x) (is_punctuator x.means dot) (more_option (states.Name false)) (if is_punctuator x.means equals then more_option (states.Equals packed) else wrong x)
    (λ h. dot_part packed x (mark_is x.means dot h))
    (λ h. either_is (OptionBack (states.Part packed) x) (is_punctuator x.means equals) (more_option (states.Equals packed))
    (wrong x) (λ k. λ ys b r. equals_behind x (mark_is x.means equals k) r.0 r.1) (λ k. tt))
option_back (states.Equals packed) x = value_back packed x x.means refl
option_back states.Sign x = either_is (OptionBack states.Sign x) (is_number x.means) (more_option states.End) (wrong x) (λ h. by (number_meant x h)) (λ h. tt)
  where
    by : IsAnyNumber x → (ys : List Lexeme) (b : Option Bool) → Over ys b → SignRest (x ∷ ys) b
    by n ys b over = sign_rest x n
option_back (states.Value says_packed) x =
    either_is (OptionBack (states.Value says_packed) x) (is_punctuator x.means dot) (more_option states.ValueDot)
    (Ok (steps.Whole says_packed)) (λ h. by (mark_is x.means dot h)) (λ h. name_ends)
  where
    by : IsPunctuator x dot → (ys : List Lexeme) (b : Option Bool) → (w : Word) × IsDottedName ys w × (None ≡ b)
        → NameGoes says_packed (x ∷ ys) b
    by d ys b (w, f, e) = subst (λ (b : Option Bool). NameGoes says_packed (x ∷ ys) b) e (name_goes_on x d f)
option_back states.ValueDot x = named_is (OptionBack states.ValueDot x) x (λ n. steps.More (states.Value None)) (λ n k. by n k) tt
  where
    by : (n : List ℕ) → IsWord x n → (ys : List Lexeme) (b : Option Bool) → NameGoes None ys b
        → (w : Word) × IsDottedName (x ∷ ys) w × (None ≡ b)
    by n k ys b name_ends = (_, one x n k, refl)
    by n k ys b (name_goes_on y {ys = zs} {w = w} d f) = (_, more x y n zs w k d f, refl)
option_back states.Text x =
    either_is (OptionBack states.Text x) (is_string x.means) (more_option states.Text) (Ok (steps.Whole None)) (λ h. by (string_meant x.means h)) (λ h. no_text)
  where
    by : (v : List ℕ) × (x.means ≡ string v) → (ys : List Lexeme) (b : Option Bool) → TextRest ys b
        → TextRest (x ∷ ys) b
    by (v, e) ys b no_text = more_text (one_string x v e)
    by (v, e) ys b (more_text s) = more_text (strings x v e s)
option_back (states.Braces d) x = brace_back d x x.means refl
option_back states.End x = over
