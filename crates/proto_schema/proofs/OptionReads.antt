-- An option is read: each of its tokens continues it, and the token after it ends it.
use Rattle.std.proofs.Common.{subst, ◌≡◌, ◌≢◌, ◌⊎◌, inl, inr, ℕ, suc, ◌-◌, ◌==◌, nat_le, Bool, true, false, List, []}
use Rattle.std.proofs.Common.{◌∷◌, ◌++◌, codes, refl, ap, sym, ◌∙◌, arith, add-one}
use Rattle.std.specs.Prelude.{Ok, Option, None, ◌&&◌}
use Rattle.std.proofs.lemmas.Bool.{ne_eqb, lt-leb, and_right}
use Rattle.std.proofs.lemmas.List.{append_assoc}
use Rattle.proto_ast.specs.Dot.{dot}
use Rattle.proto_grammar.specs.Lexemes.{TokenMeaning, identifier, integer, number, string, mark, the_end, none, Lexeme}
use Rattle.proto_grammar.specs.Lexemes.{comma, semicolon, equals, minus, plus, opening_brace, closing_brace}
use Rattle.proto_grammar.specs.Lexemes.{opening_paren, closing_paren, opening_bracket, closing_bracket, IsWord, IsPunctuator}
use Rattle.proto_grammar.specs.Lexemes.{is_the_word}
use Rattle.proto_grammar.specs.Grammar.{IsDottedName, one, more, IsTypeName, relative, absolute, ClosesBraces, last_brace, closing}
use Rattle.proto_grammar.specs.Grammar.{opening, other, AreStrings, one_string, strings, IsAnyNumber, an_integer, a_number}
use Rattle.proto_grammar.specs.Grammar.{truth, IsOptionValue, a_name, unsigned, signed, texts, block, IsOptionNamePart, plain_part}
use Rattle.proto_grammar.specs.Grammar.{custom_part, IsOptionName, one_part, parts, is_packed_name, IsOption, option, latest}
use Rattle.proto_grammar.specs.Grammar.{AreOptions, one_option, options, AreFieldOptions, no_options, bracketed}
use Rattle.proto_grammar.specs.Advancing.{is_punctuator, truth_of, advance_braces, advance_option, next_option, advance_tail, of_option}
use Rattle.proto_schema.proofs.NameLemmas.{Walks, stay, go, walks_on, walks_in, word_no_mark, is_name}
use Rattle.proto_schema.proofs.OptionRest.{said_if, untrue, truth_none}
use Rattle.proto_schema.proofs.TailRest.{latest_assoc, latest_none}
use Rattle.proto_ast.specs.declared.file.Word.{Word}
use Rattle.proto_grammar.specs.declared.option.OptionState.{OptionState}
use Rattle.proto_grammar.specs.declared.option.OptionState.TheVariants as states
use Rattle.proto_grammar.specs.declared.option.OptionStep.TheVariants as steps
use Rattle.proto_grammar.specs.declared.tail.TailState.{TailState}
use Rattle.proto_grammar.specs.declared.tail.TailState.TheVariants as tails
use Rattle.proto_grammar.specs.declared.tail.TailStep.TheVariants as tail_steps

abbrev pub OptionGoes : OptionState → Lexeme → OptionState → Type 0
OptionGoes s x t = advance_option s x ≡ Ok (steps.More t)

-- another punctuator than this
pub mark_not : (m : TokenMeaning) (c d : ℕ) → m ≡ mark c → c ≢ d → is_punctuator m d ≡ false
mark_not m c d h n = rw h (ne_eqb c d n)

-- ---- a name in parentheses

inner_goes : (s : OptionState) (x : Lexeme) (n : List ℕ) → (s ≡ states.Open) ⊎ (s ≡ states.OpenName) → IsWord x n
    → OptionGoes s x states.Inner
unfolding advance_option
inner_goes s x n (inl e) h = rw e (rw (word_no_mark x.means n dot h) (is_name x (λ n. steps.More states.Inner) n h))
inner_goes s x n (inr e) h = rw e (is_name x (λ n. steps.More states.Inner) n h)

inner_dot : (x : Lexeme) → IsPunctuator x dot → OptionGoes states.Inner x states.OpenName
unfolding advance_option
inner_dot x h = rw h refl

open_dot : (x : Lexeme) → IsPunctuator x dot → OptionGoes states.Open x states.OpenName
unfolding advance_option
open_dot x h = rw h refl

full_open : {ys : List Lexeme} {w : Word} → IsDottedName ys w → Walks OptionGoes states.OpenName ys states.Inner
full_open (one x n h) = go x [] refl (inner_goes states.OpenName x n (inr refl) h) (stay refl refl)
full_open (more x y n zs w h d f) = go x (y ∷ zs) refl (inner_goes states.OpenName x n (inr refl) h) (go y zs refl (inner_dot y d) (full_open f))

first_open : {ys : List Lexeme} {w : Word} → IsDottedName ys w → Walks OptionGoes states.Open ys states.Inner
first_open (one x n h) = go x [] refl (inner_goes states.Open x n (inl refl) h) (stay refl refl)
first_open (more x y n zs w h d f) = go x (y ∷ zs) refl (inner_goes states.Open x n (inl refl) h) (go y zs refl (inner_dot y d) (full_open f))

type_open : {ys : List Lexeme} {w : Word} → IsTypeName ys w → Walks OptionGoes states.Open ys states.Inner
type_open (relative f) = first_open f
type_open (absolute x {ys = ys} h f) = go x ys refl (open_dot x h) (full_open f)

-- ---- the option's name

opens : (first : Bool) (x : Lexeme) → IsPunctuator x opening_paren → OptionGoes (states.Name first) x states.Open
unfolding advance_option
opens first x h = rw h refl

closes : (x : Lexeme) → IsPunctuator x closing_paren → OptionGoes states.Inner x (states.Part false)
unfolding advance_option
closes x h = rw h refl

plain_goes : (first : Bool) (x : Lexeme) (n : List ℕ) → IsWord x n
    → OptionGoes (states.Name first) x (states.Part (first && is_the_word x.means (codes "packed")))
unfolding advance_option
plain_goes first x n h = rw (word_no_mark x.means n opening_paren h) (is_name x (λ n. steps.More (states.Part (first && is_the_word x.means (codes "packed")))) n h)

part_dot : (packed : Bool) (x : Lexeme) → IsPunctuator x dot → OptionGoes (states.Part packed) x (states.Name false)
unfolding advance_option
part_dot packed x h = rw h refl

part_equals : (packed : Bool) (x : Lexeme) → IsPunctuator x equals → OptionGoes (states.Part packed) x (states.Equals packed)
unfolding advance_option
part_equals packed x h = rw h refl

mark_packed : (x : Lexeme) (l : List Lexeme) (c : ℕ) → IsPunctuator x c → is_packed_name (x ∷ l) ≡ false
mark_packed x [] c e = rw e refl
mark_packed x (y ∷ l) c e = refl

part_reads : (first : Bool) {ys : List Lexeme} → IsOptionNamePart ys
    → Walks OptionGoes (states.Name first) ys (states.Part (first && is_packed_name ys))
part_reads first (plain_part x n h) = go x [] refl (plain_goes first x n h) (stay refl refl)
part_reads first (custom_part x z {ys = ys} {all = all} p t c e) =
    subst (λ (l : List Lexeme). Walks OptionGoes (states.Name first) l (states.Part (first && is_packed_name l))) (sym e)
    (subst (λ (b : Bool). Walks OptionGoes (states.Name first) (x ∷ ys ++ z ∷ []) (states.Part b))
    (sym (and_right first (is_packed_name (x ∷ ys ++ z ∷ [])) (mark_packed x (ys ++ z ∷ []) opening_paren p)))
    (go x (ys ++ z ∷ []) refl (opens first x p) (walks_on OptionGoes (type_open t) (go z [] refl (closes z c) (stay refl refl)))))

-- a name of several parts isn't `packed`
not_packed : (ys zs : List Lexeme) (x : Lexeme) → IsOptionNamePart ys → is_packed_name (ys ++ x ∷ zs) ≡ false
not_packed ys zs x (plain_part y n h) = refl
not_packed ys zs x (custom_part y z {ys = us} p t c e) = ap (λ (l : List Lexeme). is_packed_name (l ++ x ∷ zs)) e ∙ mark_packed y ((us ++ z ∷ []) ++ x ∷ zs) opening_paren p

name_reads : (first : Bool) {ys : List Lexeme} → IsOptionName ys
    → Walks OptionGoes (states.Name first) ys (states.Part (first && is_packed_name ys))
name_reads first (one_part p) = part_reads first p
name_reads first (parts x {ys = ys} {zs = zs} p d n e) =
    subst (λ (l : List Lexeme). Walks OptionGoes (states.Name first) l (states.Part (first && is_packed_name l))) (sym e)
    (subst (λ (b : Bool). Walks OptionGoes (states.Name first) (ys ++ x ∷ zs) (states.Part b)) (sym (and_right first (is_packed_name (ys ++ x ∷ zs)) (not_packed ys zs x p)))
    (walks_on OptionGoes (part_reads first p) (go x zs refl (part_dot (first && is_packed_name ys) x d) (name_reads false n))))

-- ---- the value

-- a punctuator other than a dot follows the option
abbrev pub Ready : OptionState → Option Bool → Type 0
Ready t b = (x : Lexeme) (c : ℕ) → IsPunctuator x c → c ≢ dot → advance_option t x ≡ Ok (steps.Whole b)

pub ready_value : (b : Option Bool) → Ready (states.Value b) b
unfolding advance_option
ready_value b x c h n = rw (mark_not x.means c dot h n) refl

pub ready_text : Ready states.Text None
unfolding advance_option
ready_text x c h n = rw h refl

pub ready_end : Ready states.End None
unfolding advance_option
ready_end x c h n = refl

value_goes : (packed : Bool) (x : Lexeme) (n : List ℕ) → IsWord x n
    → OptionGoes (states.Equals packed) x (states.Value (truth_of packed (identifier n)))
unfolding advance_option
value_goes packed x n h = rw h refl

value_dot : (b : Option Bool) (x : Lexeme) → IsPunctuator x dot → OptionGoes (states.Value b) x states.ValueDot
unfolding advance_option
value_dot b x h = rw h refl

dot_goes : (x : Lexeme) (n : List ℕ) → IsWord x n → OptionGoes states.ValueDot x (states.Value None)
unfolding advance_option
dot_goes x n h = is_name x (λ n. steps.More (states.Value None)) n h

full_value : {ys : List Lexeme} {w : Word} → IsDottedName ys w → Walks OptionGoes states.ValueDot ys (states.Value None)
full_value (one x n h) = go x [] refl (dot_goes x n h) (stay refl refl)
full_value (more x y n zs w h d f) = go x (y ∷ zs) refl (dot_goes x n h) (go y zs refl (value_dot None y d) (full_value f))

number_goes : (packed : Bool) (x : Lexeme) → IsAnyNumber x → OptionGoes (states.Equals packed) x states.End
unfolding advance_option
number_goes packed x (an_integer v h) = rw h refl
number_goes packed x (a_number h) = rw h refl

sign_goes : (packed : Bool) (x : Lexeme) → (IsPunctuator x minus) ⊎ (IsPunctuator x plus)
    → OptionGoes (states.Equals packed) x states.Sign
unfolding advance_option
sign_goes packed x (inl h) = rw h refl
sign_goes packed x (inr h) = rw h refl

signed_goes : (x : Lexeme) → IsAnyNumber x → OptionGoes states.Sign x states.End
unfolding advance_option
signed_goes x (an_integer v h) = rw h refl
signed_goes x (a_number h) = rw h refl

text_goes : (packed : Bool) (x : Lexeme) (v : List ℕ) → x.means ≡ string v
    → OptionGoes (states.Equals packed) x states.Text
unfolding advance_option
text_goes packed x v h = rw h refl

text_more : (x : Lexeme) (v : List ℕ) → x.means ≡ string v → OptionGoes states.Text x states.Text
unfolding advance_option
text_more x v h = rw h refl

strings_more : {ys : List Lexeme} → AreStrings ys → Walks OptionGoes states.Text ys states.Text
strings_more (one_string x v h) = go x [] refl (text_more x v h) (stay refl refl)
strings_more (strings x v {ys = ys} h s) = go x ys refl (text_more x v h) (strings_more s)

block_goes : (packed : Bool) (x : Lexeme) → IsPunctuator x opening_brace
    → OptionGoes (states.Equals packed) x (states.Braces 1)
unfolding advance_option
block_goes packed x h = rw h refl

last_goes : (x : Lexeme) → IsPunctuator x closing_brace → OptionGoes (states.Braces 1) x states.End
unfolding advance_option
last_goes x h = rw h refl

pub closing_goes : (n : ℕ) (x : Lexeme) → IsPunctuator x closing_brace
    → OptionGoes (states.Braces (suc (suc n))) x (states.Braces (suc n))
unfolding advance_option
closing_goes n x h =
    let l : nat_le (suc (suc n)) 1 ≡ false = lt-leb (suc (suc n)) 1 (omega arith) in
    let e : suc (suc n) - 1 ≡ suc n = omega arith in
    rw h (rw (l, e) refl)

opening_goes : (n : ℕ) (x : Lexeme) → IsPunctuator x opening_brace → OptionGoes (states.Braces n) x (states.Braces (suc n))
unfolding advance_option
opening_goes n x h = rw h (ap (λ (k : ℕ). Ok (steps.More (states.Braces k))) (add-one n))

other_goes : (n : ℕ) (x : Lexeme) → x.means ≢ mark closing_brace → x.means ≢ mark opening_brace → x.means ≢ the_end
    → x.means ≢ none → OptionGoes (states.Braces n) x (states.Braces n)
unfolding advance_option
other_goes n x i j k l = by x.means refl
  where
    by : (m : TokenMeaning) → x.means ≡ m → advance_braces n x m ≡ Ok (steps.More (states.Braces n))
    by (identifier v) e = refl
    by (integer v) e = refl
    by number e = refl
    by (string v) e = refl
    by (mark c) e =
        let p : (c == opening_brace) ≡ false = ne_eqb c opening_brace (λ q. j (e ∙ ap mark q)) in
        let q : (c == closing_brace) ≡ false = ne_eqb c closing_brace (λ q. i (e ∙ ap mark q)) in
        rw (p, q) refl
    by the_end e = absurd (k e)
    by none e = absurd (l e)

closes_reads : {n : ℕ} {ys : List Lexeme} → ClosesBraces n ys → Walks OptionGoes (states.Braces n) ys states.End
closes_reads (last_brace x h) = go x [] refl (last_goes x h) (stay refl refl)
closes_reads (closing x {n = n} {ys = ys} h c) = go x ys refl (closing_goes n x h) (closes_reads c)
closes_reads (opening x {n = n} {ys = ys} h c) = go x ys refl (opening_goes n x h) (closes_reads c)
closes_reads (other x {n = n} {ys = ys} i j k l c) = go x ys refl (other_goes n x i j k l) (closes_reads c)

-- an option is read, with the value that it gives to `packed`
abbrev pub OptionReads : OptionState → List Lexeme → Option Bool → Type 0
OptionReads s ys b = (t : OptionState) × Walks OptionGoes s ys t × Ready t b

number_untrue : (x : Lexeme) → IsAnyNumber x → truth (x ∷ []) ≡ None
number_untrue x (an_integer v e) = truth_none x [] (rw e refl) (rw e refl)
number_untrue x (a_number e) = truth_none x [] (rw e refl) (rw e refl)

said_name : (packed : Bool) (x : Lexeme) (n : List ℕ) → IsWord x n
    → truth_of packed (identifier n) ≡ said_if packed (x ∷ [])
said_name true x n h = rw h refl
said_name false x n h = refl

value_reads : (packed : Bool) {zs : List Lexeme} → IsOptionValue zs → OptionReads (states.Equals packed) zs (said_if packed zs)
value_reads packed (a_name (one x n h)) = (
  states.Value (truth_of packed (identifier n)),
  go x [] refl (value_goes packed x n h) (stay refl refl),
  subst (λ (b : Option Bool). Ready (states.Value (truth_of packed (identifier n))) b) (said_name packed x n h)
      (ready_value (truth_of packed (identifier n))),
)
value_reads packed (a_name (more x y n zs w h d f)) = (
  states.Value None,
  go x (y ∷ zs) refl (value_goes packed x n h) (go y zs refl (value_dot (truth_of packed (identifier n)) y d)
      (full_value f)),
  subst (λ (b : Option Bool). Ready (states.Value None) b)
      (sym (untrue packed (x ∷ y ∷ zs) refl)) (ready_value None),
)
value_reads packed (unsigned x n) = (
  states.End,
  go x [] refl (number_goes packed x n) (stay refl refl),
  subst (λ (b : Option Bool). Ready states.End b) (sym (untrue packed (x ∷ []) (number_untrue x n))) ready_end,
)
value_reads packed (signed x y h n) = (
  states.End,
  go x (y ∷ []) refl (sign_goes packed x h) (go y [] refl (signed_goes y n) (stay refl refl)),
  subst (λ (b : Option Bool). Ready states.End b) (sym (untrue packed (x ∷ y ∷ []) refl)) ready_end,
)
value_reads packed (texts (one_string x v h)) = (
  states.Text,
  go x [] refl (text_goes packed x v h) (stay refl refl),
  subst (λ (b : Option Bool). Ready states.Text b)
      (sym (untrue packed (x ∷ []) (truth_none x [] (rw h refl) (rw h refl)))) ready_text,
)
value_reads packed (texts (strings x v {ys = ys} h s)) = (
  states.Text,
  go x ys refl (text_goes packed x v h) (strings_more s),
  subst (λ (b : Option Bool). Ready states.Text b)
      (sym (untrue packed (x ∷ ys) (truth_none x ys (rw h refl) (rw h refl)))) ready_text,
)
value_reads packed (block x {ys = ys} h c) = (
  states.End,
  go x ys refl (block_goes packed x h) (closes_reads c),
  subst (λ (b : Option Bool). Ready states.End b)
      (sym (untrue packed (x ∷ ys) (truth_none x ys (rw h refl) (rw h refl)))) ready_end,
)

pub option_reads : {all : List Lexeme} {b : Option Bool} → IsOption all b → OptionReads next_option all b
option_reads (option x {ys = ys} {zs = zs} {all = all} {says_packed = b} n q v e s) =
    let r : OptionReads (states.Equals (true && is_packed_name ys)) zs (said_if (is_packed_name ys) zs) = value_reads (true && is_packed_name ys) v in (
      r.0,
      subst (λ (l : List Lexeme). Walks OptionGoes next_option l r.0) (sym e) (walks_on OptionGoes (name_reads true n) (go x zs refl (part_equals (true && is_packed_name ys) x q) r.1)),
      subst (λ (b : Option Bool). Ready r.0 b) (sym s) r.2,
    )

-- ---- after a number

abbrev pub TailGoes : TailState → Lexeme → TailState → Type 0
TailGoes s x t = advance_tail s x ≡ Ok (tail_steps.More t)

pub in_options : (p : Option Bool) (s t : OptionState) (x : Lexeme) → OptionGoes s x t
    → TailGoes (tails.Options p s) x (tails.Options p t)
unfolding advance_tail
in_options p s t x h = ap (of_option p x) h

options_comma : (p d : Option Bool) (t : OptionState) (x : Lexeme) → IsPunctuator x comma → Ready t d
    → TailGoes (tails.Options p t) x (tails.Options (latest p d) next_option)
unfolding advance_tail
options_comma p d t x h r = ap (of_option p x) (r x comma h (omega arith)) ∙ rw h refl

pub options_bracket : (p d : Option Bool) (t : OptionState) (x : Lexeme) → IsPunctuator x closing_bracket → Ready t d
    → TailGoes (tails.Options p t) x (tails.Closed (latest p d))
unfolding advance_tail
options_bracket p d t x h r = ap (of_option p x) (r x closing_bracket h (omega arith)) ∙ rw h refl

options_open : (x : Lexeme) → IsPunctuator x opening_bracket → TailGoes tails.Start x (tails.Options None next_option)
unfolding advance_tail
options_open x h = rw h refl

-- options are read up to the bracket after them
list_reads : (p : Option Bool) {all : List Lexeme} {b : Option Bool} (z : Lexeme) → AreOptions all b
    → IsPunctuator z closing_bracket
    → Walks TailGoes (tails.Options p next_option) (all ++ z ∷ []) (tails.Closed (latest p b))
list_reads p {all = all} {b = b} z (one_option o) h =
    let r : OptionReads next_option all b = option_reads o in
    walks_on TailGoes (walks_in OptionGoes TailGoes (λ s. tails.Options p s) (in_options p) r.1) (go z [] refl (options_bracket p b r.0 z h r.2) (stay refl refl))
list_reads p z (options x {ys = ys} {zs = zs} {b = b} {d = d} o c l e) h =
    let r : OptionReads next_option ys b = option_reads o in
    let w : Walks TailGoes (tails.Options p next_option) (ys ++ x ∷ (zs ++ z ∷ [])) (tails.Closed (latest (latest p b) d)) =
    walks_on TailGoes (walks_in OptionGoes TailGoes (λ s. tails.Options p s) (in_options p) r.1)
    (go x (zs ++ z ∷ []) refl (options_comma p b r.0 x c r.2) (list_reads (latest p b) z l h)) in
    let f : ys ++ x ∷ (zs ++ z ∷ []) ≡ (ys ++ x ∷ zs) ++ z ∷ [] = sym (append_assoc ys (x ∷ zs) (z ∷ [])) in
    subst (λ (l : List Lexeme). Walks TailGoes (tails.Options p next_option) l (tails.Closed (latest p (latest b d)))) (f ∙ ap (λ (l : List Lexeme). l ++ z ∷ []) (sym e))
    (subst (λ (q : Option Bool). Walks TailGoes (tails.Options p next_option) (ys ++ x ∷ (zs ++ z ∷ [])) (tails.Closed q)) (latest_assoc p b d) w)

start_done : (z : Lexeme) → IsPunctuator z semicolon → advance_tail tails.Start z ≡ Ok (tail_steps.Done None)
unfolding advance_tail
start_done z h = rw h refl

closed_done : (p : Option Bool) (z : Lexeme) → IsPunctuator z semicolon
    → advance_tail (tails.Closed p) z ≡ Ok (tail_steps.Done p)
unfolding advance_tail
closed_done p z h = rw h refl

-- options in brackets, or none, and `;`
pub tail_reads : {os : List Lexeme} {b : Option Bool} (z : Lexeme) → AreFieldOptions os b → IsPunctuator z semicolon
    → (t : TailState) × Walks TailGoes tails.Start os t × (advance_tail t z ≡ Ok (tail_steps.Done b))
tail_reads z no_options h = (tails.Start, stay refl refl, start_done z h)
tail_reads z (bracketed x y {ys = ys} {all = all} {b = b} o l c e) h = (
  tails.Closed b,
  subst (λ (q : List Lexeme). Walks TailGoes tails.Start q (tails.Closed b)) (sym e)
      (go x (ys ++ y ∷ []) refl (options_open x o)
      (subst (λ (d : Option Bool). Walks TailGoes (tails.Options None next_option) (ys ++ y ∷ []) (tails.Closed d))
      (latest_none b) (list_reads None y l c))),
  closed_done b z h,
)
