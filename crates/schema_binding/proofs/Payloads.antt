-- Where the first line of a payload ends, and that a payload has only one meaning.
use Rattle.std.proofs.Common.{◌≡◌, ◌≢◌, ℕ, ◌+◌, ◌==◌, ◌&&◌, Bool, true, false, List, [], ◌∷◌, ◌++◌, ◌⊎◌, inl, inr}
use Rattle.std.proofs.Common.{refl, sym, ap, subst, ◌∙◌, arith}
use Rattle.std.specs.Prelude.{All, IsTrue}
use Rattle.std.specs.List.{list_all, join_with_byte}
use Rattle.std.proofs.lemmas.Bool.{cases_eq, cases_Bool, false≢true}
use Rattle.std.proofs.lemmas.Bool.Decides.{nat_tests}
use Rattle.std.proofs.lemmas.List.Elements.{All-append, All-nil, All-cons, All-head, All-tail}
use Rattle.std.proofs.lemmas.List.Splits.{slice_split_none, slice_split_at, join_with_byte-slice_split}
use Rattle.mrpc_table.specs.Names.{IsFullName, is_name_start, is_name_byte, is_name_form, is_full_form, is_short_full, parts_of}
use Rattle.mrpc_table.specs.Lines.{pieces_of}
use Rattle.mrpc_table.specs.Text.{table_text}
use Rattle.mrpc_table.specs.Valid.{IsValid, HasUniqueTexts}
use Rattle.mrpc_table.specs.declared.table.Table.{Table}
use Rattle.table_text.specs.Faults.{IsFirstTableFault}
use Rattle.table_text.specs.declared.fault.TableReason.{TableReason}
use Rattle.schema_binding.specs.Hello.{HasNoLineFeed, IsTextOf, IsHello, IsFirstFaultyLine, no_line_feed, no_full_name, no_table, IsHelloFaultOf, IsTableTextFaultOf, IsHelloUnique, IsFaultyLineUnique, IsHelloExclusive, IsHelloOrFaulty}
use Rattle.schema_binding.specs.declared.fault.HelloFault.{HelloFault}
use Rattle.schema_binding.specs.declared.fault.HelloFault.TheVariants.{Bad, Memory}

-- ---- lines

-- bytes are a line, or have one line before a line feed
record Cut (bytes : List ℕ) : Type 0 where
  pub first : List ℕ
  pub behind : List ℕ
  pub is_line : HasNoLineFeed first
  pub whole : bytes ≡ first ++ 10 ∷ behind

line_or : (bytes : List ℕ) → HasNoLineFeed bytes ⊎ Cut bytes
line_or [] = inl (All-nil (λ (b : ℕ). b ≢ 10))
line_or (b ∷ bytes) = elim (cases_eq b 10) [
  | inl feed ↦ inr (record { first = []; behind = bytes; is_line = All-nil (λ (c : ℕ). c ≢ 10); whole = ap (λ (c : ℕ). c ∷ bytes) feed })
  | inr other ↦ elim (line_or bytes) [
    | inl line ↦ inl (All-cons (λ (c : ℕ). c ≢ 10) b bytes other line)
    | inr cut ↦ inr (record {
      first = b ∷ cut.first;
      behind = cut.behind;
      is_line = All-cons (λ (c : ℕ). c ≢ 10) b cut.first other cut.is_line;
      whole = ap (λ (bs : List ℕ). b ∷ bs) cut.whole;
    })
  ]
]

no_feeds : (bytes : List ℕ) → HasNoLineFeed bytes → All (λ (b : ℕ). (b == 10) ≡ false) bytes
no_feeds [] h = All-nil (λ (b : ℕ). (b == 10) ≡ false)
no_feeds (b ∷ bytes) h =
    let other : b ≢ 10 = All-head (λ (c : ℕ). c ≢ 10) b bytes h in
    All-cons (λ (c : ℕ). (c == 10) ≡ false) b bytes (grind (arith, nat_tests, other)) (no_feeds bytes (All-tail (λ (c : ℕ). c ≢ 10) b bytes h))

pub pieces_of_line : (bytes : List ℕ) → HasNoLineFeed bytes → pieces_of bytes ≡ bytes ∷ []
pieces_of_line bytes h = slice_split_none (λ (b : ℕ). b == 10) bytes (no_feeds bytes h)

pub pieces_behind : (first behind : List ℕ) → HasNoLineFeed first → pieces_of (first ++ 10 ∷ behind) ≡ first ∷ pieces_of behind
pieces_behind first behind h = slice_split_at (λ (b : ℕ). b == 10) first 10 behind (no_feeds first h) refl

-- a text is determined by its pieces
pub one_by_pieces : (a b : List ℕ) → pieces_of a ≡ pieces_of b → a ≡ b
one_by_pieces a b e = sym (join_with_byte-slice_split 10 a) ∙ ap (join_with_byte 10) e ∙ join_with_byte-slice_split 10 b

some_pieces : (bytes : List ℕ) → pieces_of bytes ≢ []
some_pieces bytes e = elim (line_or bytes) [
  | inl line ↦ let clash : bytes ∷ [] ≡ [] = sym (pieces_of_line bytes line) ∙ e in cc
  | inr cut ↦
      let clash : cut.first ∷ pieces_of cut.behind ≡ [] = sym (ap pieces_of cut.whole ∙ pieces_behind cut.first cut.behind cut.is_line) ∙ e in
      cc
]

head_of : {X : Type 0} (x y : X) (xs ys : List X) → x ∷ xs ≡ y ∷ ys → x ≡ y
head_of x y xs ys e = cc

tail_of : {X : Type 0} (x y : X) (xs ys : List X) → x ∷ xs ≡ y ∷ ys → xs ≡ ys
tail_of x y xs ys e = cc

-- bytes of one piece are a line
pub line_of_pieces : (bytes : List ℕ) → pieces_of bytes ≡ bytes ∷ [] → HasNoLineFeed bytes
line_of_pieces bytes e = elim (line_or bytes) [
  | inl line ↦ line
  | inr cut ↦
      let both : cut.first ∷ pieces_of cut.behind ≡ bytes ∷ [] = sym (ap pieces_of cut.whole ∙ pieces_behind cut.first cut.behind cut.is_line) ∙ e in
      absurd (some_pieces cut.behind (tail_of cut.first bytes (pieces_of cut.behind) [] both))
]

-- bytes whose first piece is known
pub cut_of_pieces : (bytes first text : List ℕ) → pieces_of bytes ≡ first ∷ pieces_of text → HasNoLineFeed first × (bytes ≡ first ++ 10 ∷ text)
cut_of_pieces bytes first text e = elim (line_or bytes) [
  | inl line ↦
      let both : bytes ∷ [] ≡ first ∷ pieces_of text = sym (pieces_of_line bytes line) ∙ e in
      absurd (some_pieces text (sym (tail_of bytes first [] (pieces_of text) both)))
  | inr cut ↦
      let both : cut.first ∷ pieces_of cut.behind ≡ first ∷ pieces_of text = sym (ap pieces_of cut.whole ∙ pieces_behind cut.first cut.behind cut.is_line) ∙ e in
      let same : cut.first ≡ first = head_of cut.first first (pieces_of cut.behind) (pieces_of text) both in
      let rest : cut.behind ≡ text = one_by_pieces cut.behind text (tail_of cut.first first (pieces_of cut.behind) (pieces_of text) both) in
      (subst HasNoLineFeed same cut.is_line, cut.whole ∙ (λ i. same i ++ 10 ∷ rest i))
]

-- the first line of a text, and the text after it, are unique
pub one_first_line : (first other text more : List ℕ) → HasNoLineFeed first → HasNoLineFeed other → first ++ 10 ∷ text ≡ other ++ 10 ∷ more → (first ≡ other) × (text ≡ more)
one_first_line first other text more h k e =
    let both : first ∷ pieces_of text ≡ other ∷ pieces_of more = sym (pieces_behind first text h) ∙ ap pieces_of e ∙ pieces_behind other more k in (
      head_of first other (pieces_of text) (pieces_of more) both,
      one_by_pieces text more (tail_of first other (pieces_of text) (pieces_of more) both),
    )

-- a line has no line feed
pub no_feed_in_line : (first text : List ℕ) → HasNoLineFeed (first ++ 10 ∷ text) → ⊥
no_feed_in_line [] text h = All-head (λ (b : ℕ). b ≢ 10) 10 text h refl
no_feed_in_line (b ∷ first) text h = no_feed_in_line first text (All-tail (λ (c : ℕ). c ≢ 10) b (first ++ 10 ∷ text) h)

-- ---- names

first_of_both : (a b : Bool) → (a && b) ≡ true → a ≡ true
first_of_both true b h = refl
first_of_both false b h = h

second_of_both : (a b : Bool) → (a && b) ≡ true → b ≡ true
second_of_both true b h = h
second_of_both false b h = absurd cc

no_feed_byte : (b : ℕ) → is_name_byte b ≡ true → b ≢ 10
no_feed_byte b h feed = let clash : false ≡ true = sym (ap is_name_byte feed) ∙ h in cc

no_feed_start : (b : ℕ) → is_name_start b ≡ true → b ≢ 10
no_feed_start b h feed = let clash : false ≡ true = sym (ap is_name_start feed) ∙ h in cc

line_of_bytes : (bytes : List ℕ) → list_all is_name_byte bytes ≡ true → HasNoLineFeed bytes
line_of_bytes [] h = All-nil (λ (b : ℕ). b ≢ 10)
line_of_bytes (b ∷ bytes) h =
    All-cons (λ (c : ℕ). c ≢ 10) b bytes (no_feed_byte b (first_of_both (is_name_byte b) (list_all is_name_byte bytes) h))
    (line_of_bytes bytes (second_of_both (is_name_byte b) (list_all is_name_byte bytes) h))

line_of_name : (name : List ℕ) → is_name_form name ≡ true → HasNoLineFeed name
line_of_name [] h = All-nil (λ (b : ℕ). b ≢ 10)
line_of_name (b ∷ name) h =
    All-cons (λ (c : ℕ). c ≢ 10) b name (no_feed_start b (first_of_both (is_name_start b) (list_all is_name_byte name) h))
    (line_of_bytes name (second_of_both (is_name_start b) (list_all is_name_byte name) h))

line_of_parts : (parts : List (List ℕ)) → list_all is_name_form parts ≡ true → HasNoLineFeed (join_with_byte 46 parts)
line_of_parts [] h = All-nil (λ (b : ℕ). b ≢ 10)
line_of_parts (x ∷ []) h = line_of_name x (first_of_both (is_name_form x) true h)
line_of_parts (x ∷ y ∷ parts) h =
    let dot : (46 ≢ 10) = λ e. omega (arith, e) in
    All-append (λ (c : ℕ). c ≢ 10) x (46 ∷ join_with_byte 46 (y ∷ parts)) (line_of_name x (first_of_both (is_name_form x) (list_all is_name_form (y ∷ parts)) h))
    (All-cons (λ (c : ℕ). c ≢ 10) 46 (join_with_byte 46 (y ∷ parts)) dot (line_of_parts (y ∷ parts) (second_of_both (is_name_form x) (list_all is_name_form (y ∷ parts)) h)))

is_true : (b : Bool) → IsTrue b → b ≡ true
is_true true h = refl
is_true false h = absurd cc

-- a full name is a line
pub line_of_full_name : (name : List ℕ) → IsFullName name → HasNoLineFeed name
line_of_full_name name h = subst HasNoLineFeed (join_with_byte-slice_split 46 name) (line_of_parts (parts_of name) (is_true (list_all is_name_form (parts_of name)) h.form))

name_or : (word : List ℕ) → IsFullName word ⊎ (IsFullName word → ⊥)
name_or word = elim (cases_Bool (is_full_form word)) [
  | inl form ↦ elim (cases_Bool (is_short_full word)) [
    | inl short ↦ inl (record { form = form; short = short })
    | inr long ↦ inr (λ h. false≢true (sym long ∙ h.short))
  ]
  | inr other ↦ inr (λ h. false≢true (sym other ∙ h.form))
]

-- ---- the meaning of a payload, by its pieces

pub bad_without_feed : (payload : List ℕ) → pieces_of payload ≡ payload ∷ [] → IsFirstFaultyLine payload 1
bad_without_feed payload e = no_line_feed (line_of_pieces payload e) refl

pub says_nothing_without_feed : (payload service : List ℕ) (T : Table) → pieces_of payload ≡ payload ∷ [] → IsHello payload service T → ⊥
says_nothing_without_feed payload service T e h = no_feed_in_line service (table_text T) (subst HasNoLineFeed h.whole (line_of_pieces payload e))

pub bad_name : (payload first text : List ℕ) → pieces_of payload ≡ first ∷ pieces_of text → (IsFullName first → ⊥) → IsFirstFaultyLine payload 1
bad_name payload first text e wrong =
    let cut = cut_of_pieces payload first text e in
    no_full_name first text cut.1 cut.0 wrong refl

-- the first piece of a payload is the service, and the text follows it
pub said_in_pieces : (payload first text service : List ℕ) (T : Table) → pieces_of payload ≡ first ∷ pieces_of text → IsHello payload service T
    → (first ≡ service) × IsTextOf text T
said_in_pieces payload first text service T e h =
    let cut = cut_of_pieces payload first text e in
    let same = one_first_line first service text (table_text T) cut.0 (line_of_full_name service h.named) (sym cut.1 ∙ h.whole) in
    (same.0, record { valid = h.valid; whole = same.1 })

pub says_nothing_of_name : (payload first text service : List ℕ) (T : Table) → pieces_of payload ≡ first ∷ pieces_of text → (IsFullName first → ⊥)
    → IsHello payload service T → ⊥
says_nothing_of_name payload first text service T e wrong h =
    wrong (subst IsFullName (sym (said_in_pieces payload first text service T e h).0) h.named)

pub said : (payload service text : List ℕ) (T : Table) → pieces_of payload ≡ service ∷ pieces_of text → IsFullName service → IsTextOf text T → IsHello payload service T
said payload service text T e named is = record {
  named = named;
  valid = is.valid;
  whole = (cut_of_pieces payload service text e).1 ∙ ap (λ (bs : List ℕ). service ++ 10 ∷ bs) is.whole;
}

pub bad_behind : (payload service text : List ℕ) (fault : HelloFault) → pieces_of payload ≡ service ∷ pieces_of text → IsFullName service
    → IsTableTextFaultOf text fault → IsHelloFaultOf payload fault
bad_behind payload service text (Bad line) e named h = no_table service text h.0 h.1 (cut_of_pieces payload service text e).1 named h.2 h.3
bad_behind payload service text Memory e named h = tt

-- ---- it has only one meaning

pub says_once : HasUniqueTexts → IsHelloUnique
says_once one payload service other T U h k =
    let same = one_first_line service other (table_text T) (table_text U) (line_of_full_name service h.named) (line_of_full_name other k.named) (sym h.whole ∙ k.whole) in
    (same.0, one T U h.valid k.valid same.1)

-- a text has at most one first fault
abbrev OneFault : Type 0
OneFault = (text : List ℕ) (m n : ℕ) (r q : TableReason) → IsFirstTableFault text m r → IsFirstTableFault text n q → (m ≡ n) × (r ≡ q)

-- and the text of a valid table none
abbrev NoFault : Type 0
NoFault = (T : Table) (line : ℕ) (reason : TableReason) → IsValid T → IsFirstTableFault (table_text T) line reason → ⊥

pub bad_once : OneFault → IsFaultyLineUnique
bad_once one payload line other (no_line_feed is at) (no_line_feed is' at') = at ∙ sym at'
bad_once one payload line other (no_line_feed is at) (no_full_name first text whole is' wrong at') = absurd (no_feed_in_line first text (subst HasNoLineFeed whole is))
bad_once one payload line other (no_line_feed is at) (no_table service text n reason whole named fault at') = absurd (no_feed_in_line service text (subst HasNoLineFeed whole is))
bad_once one payload line other (no_full_name first text whole is wrong at) (no_line_feed is' at') = absurd (no_feed_in_line first text (subst HasNoLineFeed whole is'))
bad_once one payload line other (no_full_name first text whole is wrong at) (no_full_name first' text' whole' is' wrong' at') = at ∙ sym at'
bad_once one payload line other (no_full_name first text whole is wrong at) (no_table service more n reason whole' named fault at') =
    let same = one_first_line first service text more is (line_of_full_name service named) (sym whole ∙ whole') in
    absurd (wrong (subst IsFullName (sym same.0) named))
bad_once one payload line other (no_table service text n reason whole named fault at) (no_line_feed is' at') = absurd (no_feed_in_line service text (subst HasNoLineFeed whole is'))
bad_once one payload line other (no_table service text n reason whole named fault at) (no_full_name first more whole' is' wrong at') =
    let same = one_first_line service first text more (line_of_full_name service named) is' (sym whole ∙ whole') in
    absurd (wrong (subst IsFullName same.0 named))
bad_once one payload line other (no_table service text n reason whole named fault at) (no_table service' text' n' reason' whole' named' fault' at') =
    let same = one_first_line service service' text text' (line_of_full_name service named) (line_of_full_name service' named') (sym whole ∙ whole') in
    let lines = one text' n n' reason reason' (subst (λ (bs : List ℕ). IsFirstTableFault bs n reason) same.1 fault) fault' in
    at ∙ ap (λ (m : ℕ). m + 1) lines.0 ∙ sym at'

pub never_both : NoFault → IsHelloExclusive
never_both none payload service T line h (no_line_feed is at) = no_feed_in_line service (table_text T) (subst HasNoLineFeed h.whole is)
never_both none payload service T line h (no_full_name first text whole is wrong at) =
    let same = one_first_line first service text (table_text T) is (line_of_full_name service h.named) (sym whole ∙ h.whole) in
    wrong (subst IsFullName (sym same.0) h.named)
never_both none payload service T line h (no_table name text at reason whole named fault is) =
    let same = one_first_line name service text (table_text T) (line_of_full_name name named) (line_of_full_name service h.named) (sym whole ∙ h.whole) in
    none T at reason h.valid (subst (λ (bs : List ℕ). IsFirstTableFault bs at reason) same.1 fault)

-- a text is that of a valid table, or has a first fault
abbrev TextOrFault : Type 0
TextOrFault = (text : List ℕ) → ((T : Table) × IsValid T × (text ≡ table_text T)) ⊎ ((line : ℕ) × (reason : TableReason) × IsFirstTableFault text line reason)

pub never_neither : TextOrFault → IsHelloOrFaulty
never_neither either payload = elim (line_or payload) [
  | inl line ↦ inr (1, no_line_feed line refl)
  | inr cut ↦ elim (name_or cut.first) [
    | inl named ↦ elim (either cut.behind) [
      | inl is ↦ inl (cut.first, is.0, record { named = named; valid = is.1; whole = cut.whole ∙ ap (λ (bs : List ℕ). cut.first ++ 10 ∷ bs) is.2 })
      | inr bad ↦ inr (bad.0 + 1, no_table cut.first cut.behind bad.0 bad.1 cut.whole named bad.2 refl)
    ]
    | inr wrong ↦ inr (1, no_full_name cut.first cut.behind cut.whole cut.is_line wrong refl)
  ]
]
