-- Lines by their kind, their connection, and the words after it.
use Rattle.std.proofs.Common.{◌≡◌, ℕ, ◌<◌, ◌^◌, true, false, List, [], ◌∷◌, refl, ap, sym, ◌∙◌, arith, Some, None, Option, subst, inl, inr, codes, Ok, Err}
use Rattle.std.specs.Prelude.{IfOk, Result}
use Rattle.std.specs.Fmt.{decimal}
use Rattle.std.specs.Str.{bytes_eq}
use Rattle.std.proofs.lemmas.Slice.Eq.{bytes_eq-Decides}
use Rattle.mrpc_table.specs.declared.memory.Memory.{Memory}
use Rattle.mrpc_table.specs.declared.table.Table.{Table}
use Rattle.call_history.specs.declared.happening.Happening.{Happening}
use Rattle.call_history.specs.declared.happening.Happening.TheVariants.{Took, Away, Op, Moment, Charged, Drawn, Counted, Redacted, Sent, Refused}
use Rattle.policy_declarations.specs.Declarations.{Declared}
use Rattle.audit_text.specs.Lines.{WordList, happening_words, held_words}
use Rattle.audit_text.specs.Kinds.{read_kind}
use Rattle.audit_text.specs.LineWords.{line_kind_of, kind_word, line_words, read_stands, tail_words}
use Rattle.audit_text.specs.Reading.{IsExactReading, read_word, read_number}
use Rattle.audit_text.specs.LineBytes.{IsWritableLine}
use Rattle.audit_text.specs.declared.line.AuditLine.{AuditLine}
use Rattle.audit_text.specs.declared.line.AuditLine.TheVariants as lines
use Rattle.audit_text.specs.declared.event_words.LineKind.{LineKind}
use Rattle.audit_text.specs.declared.event_words.LineKind.TheVariants as kinds
use Rattle.audit_text.proofs.Causes.{first-said}
use Rattle.audit_text.proofs.KindLines.{IsTold}
use Rattle.audit_text.proofs.Said.{by-word, number-read, number-said, unsome}
use Rattle.audit_text.proofs.Stands.{SaysLine, stands-read, stands-said}
use Rattle.audit_text.proofs.WordsOfLines.{not-some, some-pair}

-- a list's first element, and its others
pub cons-same : {X : Type 0} (x y : X) (xs ys : List X) → x ∷ xs ≡ y ∷ ys → (x ≡ y) × (xs ≡ ys)
cons-same x y xs ys e = (cc, cc)

pub decimals-same : (m n : ℕ) → m < 2 ^ 32 → n < 2 ^ 32 → decimal m ≡ decimal n → m ≡ n
decimals-same m n h k e =
    (some-pair m n [] [] (sym (number-read (2 ^ 32) m [] (omega arith) h) ∙ ap (λ w. read_number (2 ^ 32) (w ∷ [])) e ∙ number-read (2 ^ 32) n [] (omega arith) k)).0

-- ---- kinds

pub told-words : (T : Table) (conn : ℕ) (x : Happening) → happening_words T conn x ≡ kind_word (line_kind_of x) ∷ decimal conn ∷ tail_words T x
told-words T conn (Took call) = refl
told-words T conn (Away method number addr) = refl
told-words T conn (Op step) = refl
told-words T conn (Moment ms) = refl
told-words T conn (Charged seq name left) = refl
told-words T conn (Drawn seq name window ticket) = refl
told-words T conn (Counted seq name) = refl
told-words T conn (Redacted seq name version) = refl
told-words T conn (Sent seq bytes) = refl
told-words T conn (Refused seq why) = refl

pub kind-read : (k : LineKind) → read_kind (kind_word k) ≡ Some k
kind-read kinds.Took = refl
kind-read kinds.Away = refl
kind-read kinds.Op = refl
kind-read kinds.Moment = refl
kind-read kinds.Charged = refl
kind-read kinds.Drawn = refl
kind-read kinds.Counted = refl
kind-read kinds.Redacted = refl
kind-read kinds.Sent = refl
kind-read kinds.Refused = refl

named : (w this : List ℕ) (k l : LineKind) → (w ≡ this) × (Some k ≡ Some l) → this ≡ kind_word k → w ≡ kind_word l
named w this k l h is = h.0 ∙ is ∙ ap kind_word (unsome k l h.1)

pub kind-is : (w : List ℕ) (k : LineKind) → read_kind w ≡ Some k → w ≡ kind_word k
kind-is w k e =
    elim (by-word w (codes "charged") (Some kinds.Charged) _ k e) [
      | inl h ↦ named w _ kinds.Charged k h refl
      | inr e ↦ elim (by-word w (codes "drawn") (Some kinds.Drawn) _ k e) [
        | inl h ↦ named w _ kinds.Drawn k h refl
        | inr e ↦ elim (by-word w (codes "counted") (Some kinds.Counted) _ k e) [
          | inl h ↦ named w _ kinds.Counted k h refl
          | inr e ↦ elim (by-word w (codes "sent") (Some kinds.Sent) _ k e) [
            | inl h ↦ named w _ kinds.Sent k h refl
            | inr e ↦ elim (by-word w (codes "took") (Some kinds.Took) _ k e) [
              | inl h ↦ named w _ kinds.Took k h refl
              | inr e ↦ elim (by-word w (codes "moment") (Some kinds.Moment) _ k e) [
                | inl h ↦ named w _ kinds.Moment k h refl
                | inr e ↦ elim (by-word w (codes "redacted") (Some kinds.Redacted) _ k e) [
                  | inl h ↦ named w _ kinds.Redacted k h refl
                  | inr e ↦ elim (by-word w (codes "refused") (Some kinds.Refused) _ k e) [
                    | inl h ↦ named w _ kinds.Refused k h refl
                    | inr e ↦ elim (by-word w (codes "op") (Some kinds.Op) _ k e) [
                      | inl h ↦ named w _ kinds.Op k h refl
                      | inr e ↦ elim (by-word w (codes "away") (Some kinds.Away) None k e) [ inl h ↦ named w _ kinds.Away k h refl | inr e ↦ absurd (let wrong = e in cc) ]
                    ]
                  ]
                ]
              ]
            ]
          ]
        ]
      ]
    ]

stands-kind : read_kind (codes "stands") ≡ None
stands-kind = refl

-- another name of the same kind
pub reads-kind : (T : Table) (declared : Declared) (k l : LineKind) (ws : WordList) (r : Result (Option Happening) Memory)
    → l ≡ k → IsExactReading (IsTold T declared k) (tail_words T) ws r → IsExactReading (IsTold T declared l) (tail_words T) ws r
reads-kind T declared k l ws r e h = let P : LineKind → Type 0 = λ k. IsExactReading (IsTold T declared k) (tail_words T) ws r in subst P (sym e) h

-- ---- lines

-- the parts of a line: its first word, its connection, and the words after it
pub record HasParts (T : Table) (x : AuditLine) (word : List ℕ) (conn : ℕ) (tail : WordList) : Type 0 where
  pub words : line_words T x ≡ word ∷ decimal conn ∷ tail
  pub small : conn < 2 ^ 32

pub some-parts : (T : Table) (declared : Declared) (x : AuditLine) → IsWritableLine T declared x → (word : List ℕ) × (conn : ℕ) × (tail : WordList) × HasParts T x word conn tail
some-parts T declared (lines.Happened x) h = (kind_word (line_kind_of x.what), x.conn, tail_words T x.what, record { words = told-words T x.conn x.what; small = h.conn })
some-parts T declared (lines.Stands conn seq position name holding) h =
    (codes "stands", conn, decimal seq ∷ decimal position ∷ name ∷ held_words holding, record { words = refl; small = h.conn })

pub no-number : (T : Table) (declared : Declared) (ws : WordList) (word : List ℕ) (rest : WordList)
    → read_word ws ≡ Some (word, rest) → read_number (2 ^ 32) rest ≡ None → (x : AuditLine) → IsWritableLine T declared x
    → ws ≡ line_words T x → ⊥
no-number T declared ws word rest first none x h e =
    let parts = some-parts T declared x h in
    let same = cons-same word parts.0 rest (decimal parts.1 ∷ parts.2) (sym (first-said ws (word, rest) first) ∙ e ∙ parts.3.words) in
    not-some (parts.1, parts.2) (sym (number-read (2 ^ 32) parts.1 parts.2 (omega arith) parts.3.small) ∙ ap (read_number (2 ^ 32)) (sym same.1) ∙ none)

-- the words by the first one, the connection and the others
pub words-are : (ws : WordList) (word : List ℕ) (rest tail : WordList) (conn : ℕ) → read_word ws ≡ Some (word, rest)
    → read_number (2 ^ 32) rest ≡ Some (conn, tail) → (ws ≡ word ∷ decimal conn ∷ tail) × (conn < 2 ^ 32)
words-are ws word rest tail conn first number =
    let h = number-said (2 ^ 32) rest (conn, tail) (omega arith) number in (first-said ws (word, rest) first ∙ ap (λ r. word ∷ r) h.1, h.0)

parts-same : (a b : List ℕ) (c d : ℕ) (x y : WordList) → c < 2 ^ 32 → d < 2 ^ 32 → a ∷ decimal c ∷ x ≡ b ∷ decimal d ∷ y → (a ≡ b) × (c ≡ d) × (x ≡ y)
parts-same a b c d x y h k e =
    let first = cons-same a b (decimal c ∷ x) (decimal d ∷ y) e in
    let second = cons-same (decimal c) (decimal d) x y first.1 in (first.0, decimals-same c d h k second.0, second.1)

stands-lost : (T : Table) (declared : Declared) (conn : ℕ) (tail : WordList) → conn < 2 ^ 32
    → read_stands conn tail ≡ None → (x : AuditLine) → IsWritableLine T declared x
    → codes "stands" ∷ decimal conn ∷ tail ≡ line_words T x → ⊥
stands-lost T declared conn tail small none (lines.Happened x) h e =
    let same = parts-same (codes "stands") (kind_word (line_kind_of x.what)) conn x.conn tail (tail_words T x.what) small h.conn (e ∙ told-words T x.conn x.what) in
    not-some (line_kind_of x.what) (sym (kind-read (line_kind_of x.what)) ∙ ap read_kind (sym same.0) ∙ stands-kind)
stands-lost T declared conn tail small none (lines.Stands other seq position name holding) h e =
    let same = parts-same (codes "stands") (codes "stands") conn other tail (decimal seq ∷ decimal position ∷ name ∷ held_words holding) small h.conn e in
    not-some (lines.Stands other seq position name holding) (sym (stands-read other seq position name holding h)
    ∙ ap (read_stands other) (sym same.2) ∙ ap (λ c. read_stands c tail) (sym same.1) ∙ none)

pub stands-reads : (T : Table) (declared : Declared) (conn : ℕ) (ws tail : WordList)
    (r : Result (Option AuditLine) Memory) → conn < 2 ^ 32 → ws ≡ codes "stands" ∷ decimal conn ∷ tail
    → IfOk r (λ x. x ≡ read_stands conn tail) → IsExactReading (IsWritableLine T declared) (line_words T) ws r
stands-reads T declared conn ws tail (Ok (Some x)) small is h = let said = stands-said T declared conn tail x small (sym h) in (said.0, is ∙ said.1)
stands-reads T declared conn ws tail (Ok None) small is h = λ x holds e. stands-lost T declared conn tail small (sym h) x holds (sym is ∙ e)
stands-reads T declared conn ws tail (Err e) small is h = tt

-- the words after the connection mean no event of the kind
pub no-what : (T : Table) (declared : Declared) (ws tail : WordList) (word : List ℕ) (conn : ℕ) (kind : LineKind)
    → conn < 2 ^ 32 → ws ≡ word ∷ decimal conn ∷ tail → bytes_eq word (codes "stands") ≡ false
    → read_kind word ≡ Some kind
    → ((x : Happening) → IsTold T declared kind x → tail ≡ tail_words T x → ⊥) → (x : AuditLine) → IsWritableLine T declared x → ws ≡ line_words T x → ⊥
no-what T declared ws tail word conn kind small is other said none (lines.Happened x) h e =
    let same = parts-same word (kind_word (line_kind_of x.what)) conn x.conn tail (tail_words T x.what) small h.conn (sym is ∙ e ∙ told-words T x.conn x.what) in
    let kinds_are : line_kind_of x.what ≡ kind = unsome (line_kind_of x.what) kind (sym (kind-read (line_kind_of x.what)) ∙ ap read_kind (sym same.0) ∙ said) in
    none x.what (h.told, kinds_are) same.2
no-what T declared ws tail word conn kind small is other said none (lines.Stands c seq position name holding) h e =
    let same = parts-same word (codes "stands") conn c tail (decimal seq ∷ decimal position ∷ name ∷ held_words holding) small h.conn (sym is ∙ e) in
    let yes : bytes_eq word (codes "stands") ≡ true = (bytes_eq-Decides word (codes "stands")).1 same.0 in
    let wrong : true ≡ false = sym yes ∙ other in cc

pub some-what : (T : Table) (declared : Declared) (ws tail : WordList) (word : List ℕ) (conn : ℕ) (kind : LineKind)
    (x : Happening) → conn < 2 ^ 32 → ws ≡ word ∷ decimal conn ∷ tail → read_kind word ≡ Some kind
    → IsTold T declared kind x → tail ≡ tail_words T x
    → SaysLine T declared ws (lines.Happened (record { conn = conn; what = x }))
some-what T declared ws tail word conn kind x small is said told e = (
  record { conn = small; told = told.0 },
  is ∙ ap (λ w. w ∷ decimal conn ∷ tail) (kind-is word kind said ∙ ap kind_word (sym told.1))
      ∙ ap (λ r. kind_word (line_kind_of x) ∷ decimal conn ∷ r) e ∙ sym (told-words T conn x),
)

-- what was read, by the result
pub reads-none : (T : Table) (declared : Declared) (kind : LineKind) (ws : WordList) (r : Result (Option Happening) Memory)
    → IsExactReading (IsTold T declared kind) (tail_words T) ws r → r ≡ Ok None → (x : Happening) → IsTold T declared kind x
    → ws ≡ tail_words T x → ⊥
reads-none T declared kind ws r h is = let P : Result (Option Happening) Memory → Type 0 = λ r. IsExactReading (IsTold T declared kind) (tail_words T) ws r in subst P is h

pub reads-some : (T : Table) (declared : Declared) (kind : LineKind) (ws : WordList) (r : Result (Option Happening) Memory)
    (x : Happening) → IsExactReading (IsTold T declared kind) (tail_words T) ws r → r ≡ Ok (Some x)
    → IsTold T declared kind x × (ws ≡ tail_words T x)
reads-some T declared kind ws r x h is = let P : Result (Option Happening) Memory → Type 0 = λ r. IsExactReading (IsTold T declared kind) (tail_words T) ws r in subst P is h

pub head-word : (a b : List ℕ) → bytes_eq a b ≡ true → a ≡ b
head-word a b h = (bytes_eq-Decides a b).0 h
