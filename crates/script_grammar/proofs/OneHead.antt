-- A text has exactly one head, or exactly one fault in its first three lines.
use Rattle.std.proofs.Common.{◌≡◌, ◌≢◌, ◌⊎◌, ℕ, List, [], ◌∷◌, ◌++◌, codes, drop, Option, Some, None, refl, sym, ap}
use Rattle.std.proofs.Common.{subst, ◌∙◌, append_assoc, arith, inl, inr}
use Rattle.std.proofs.lemmas.Bool.{cases_lt, cases_eq}
use Rattle.std.proofs.lemmas.List.{append_cancel_left}
use Rattle.mrpc_table.specs.Lines.{pieces_of, number_of}
use Rattle.script_grammar.specs.Values.{IsNumber}
use Rattle.script_grammar.specs.Limits.{HasLimit, IsLimitFault}
use Rattle.script_grammar.specs.Preambles as fronts
use Rattle.script_grammar.specs.Preambles.{table_line, loads_line, IsLimit, default_loads, limited}
use Rattle.script_grammar.specs.declared.fault.ScriptReason.{ScriptReason}
use Rattle.script_grammar.specs.declared.fault.ScriptReason.TheVariants.{Header, Word, Number}
use Rattle.script_grammar.proofs.HeadTexts as heads
use Rattle.script_grammar.proofs.HeadTexts.{one_limit, no_line, other_line, no_number_of, loads_parts}
use Rattle.script_grammar.proofs.TextLines.{IsCut, fed, last, split_text, pieces_line, pieces_alone}

module _ (first_line : List ℕ) where
  abbrev IsHead : List ℕ → ℕ → Type 0
  IsHead head loads = fronts.IsHead first_line head loads

  -- ---- the head

  pub record HasHead (text head : List ℕ) (loads : ℕ) (behind : List ℕ) : Type 0 where
    pub is_head : IsHead head loads
    pub text_is : text ≡ head ++ behind

  -- the faults of the first three lines
  pub data HeadFault (text : List ℕ) (line : ℕ) (reason : ScriptReason) : Type 0 where
    no_first : ((rest : List ℕ) → text ≢ first_line ++ rest) → line ≡ 1 → reason ≡ Header → HeadFault text line reason
    no_second :
        (rest : List ℕ) → text ≡ first_line ++ rest → ((more : List ℕ) → rest ≢ table_line ++ more)
        → ((word more : List ℕ) (n : ℕ) → IsNumber word n → rest ≢ loads_line word ++ more) → line ≡ 2 → reason ≡ Word → HeadFault text line reason
    no_range :
        (word more : List ℕ) (n : ℕ) → text ≡ first_line ++ (loads_line word ++ more) → IsNumber word n
        → (IsLimit n → ⊥) → line ≡ 2 → reason ≡ Number → HeadFault text line reason
    no_third :
        (word rest : List ℕ) (n : ℕ) → text ≡ first_line ++ (loads_line word ++ rest) → IsNumber word n → IsLimit n → ((more : List ℕ) → rest ≢ table_line ++ more)
        → line ≡ 3 → reason ≡ Word → HeadFault text line reason

  -- ---- the head is unique

  usual_text : (text head behind : List ℕ) → head ≡ first_line ++ table_line → text ≡ head ++ behind → text ≡ first_line ++ (table_line ++ behind)
  usual_text text head behind e is = is ∙ ap (λ (t : List ℕ). t ++ behind) e ∙ append_assoc first_line table_line behind

  limited_text : (text head behind word : List ℕ) → head ≡ first_line ++ (loads_line word ++ table_line)
      → text ≡ head ++ behind → text ≡ first_line ++ (loads_line word ++ (table_line ++ behind))
  limited_text text head behind word e is =
      is ∙ ap (λ (t : List ℕ). t ++ behind) e ∙ append_assoc first_line (loads_line word ++ table_line) behind
      ∙ ap (λ (t : List ℕ). first_line ++ t) (append_assoc (loads_line word) table_line behind)

  same_second : (text x y : List ℕ) → text ≡ first_line ++ x → text ≡ first_line ++ y → x ≡ y
  same_second text x y e f = append_cancel_left first_line x y (sym e ∙ f)

  first_byte : (x y : ℕ) (xs ys : List ℕ) → x ∷ xs ≡ y ∷ ys → x ≡ y
  first_byte x y xs ys e = cc

  table_or_loads : (x word y : List ℕ) → table_line ++ x ≡ loads_line word ++ y → ⊥
  table_or_loads x word y e = omega (arith, first_byte 116 108 (codes "able\n" ++ x) (codes "oads " ++ (word ++ codes "\n") ++ y) e)

  pub record IsSameHead (head : List ℕ) (loads : ℕ) (behind other : List ℕ) (limit : ℕ) (more : List ℕ) : Type 0 where
    pub head_is : head ≡ other
    pub loads_are : loads ≡ limit
    pub behind_is : behind ≡ more

  one_head_by : (text head : List ℕ) (loads : ℕ) (behind other : List ℕ) (limit : ℕ) (more : List ℕ)
      → IsHead head loads → IsHead other limit → text ≡ head ++ behind → text ≡ other ++ more
      → IsSameHead head loads behind other limit more
  one_head_by text head loads behind other limit more (default_loads e n) (default_loads f m) is at = record {
    head_is = e ∙ sym f;
    loads_are = n ∙ sym m;
    behind_is = append_cancel_left table_line behind more (same_second text (table_line ++ behind) (table_line ++ more) (usual_text text head behind e is) (usual_text text other more f at));
  }
  one_head_by text head loads behind other limit more (default_loads e n) (limited word f number range) is at =
      absurd (table_or_loads behind word (table_line ++ more) (same_second text _ _ (usual_text text head behind e is) (limited_text text other more word f at)))
  one_head_by text head loads behind other limit more (limited word e number range) (default_loads f m) is at =
      absurd (table_or_loads more word (table_line ++ behind) (same_second text _ _ (usual_text text other more f at) (limited_text text head behind word e is)))
  one_head_by text head loads behind other limit more (limited word e number range) (limited spelled f that bound) is at =
      let one = one_limit word (table_line ++ behind) spelled (table_line ++ more) loads limit number that
      (same_second text _ _ (limited_text text head behind word e is) (limited_text text other more spelled f at))
      in
      record {
        head_is = e ∙ ap (λ (w : List ℕ). first_line ++ (loads_line w ++ table_line)) one.0 ∙ sym f;
        loads_are = one.1;
        behind_is = append_cancel_left table_line behind more one.2;
      }

  pub one_head : (text head : List ℕ) (loads : ℕ) (behind other : List ℕ) (limit : ℕ) (more : List ℕ)
      → HasHead text head loads behind → HasHead text other limit more → IsSameHead head loads behind other limit more
  one_head text head loads behind other limit more h k = one_head_by text head loads behind other limit more h.is_head k.is_head h.text_is k.text_is

  -- ---- a head or a fault, never both

  begins_first : (text head : List ℕ) (loads : ℕ) (behind : List ℕ) → IsHead head loads → text ≡ head ++ behind → (rest : List ℕ) × (text ≡ first_line ++ rest)
  begins_first text head loads behind (default_loads e n) is = (table_line ++ behind, usual_text text head behind e is)
  begins_first text head loads behind (limited word e number range) is = (loads_line word ++ (table_line ++ behind), limited_text text head behind word e is)

  head_or_second : (text head : List ℕ) (loads : ℕ) (behind rest : List ℕ) → IsHead head loads → text ≡ head ++ behind
      → text ≡ first_line ++ rest → ((more : List ℕ) → rest ≢ table_line ++ more)
      → ((word more : List ℕ) (n : ℕ) → IsNumber word n → rest ≢ loads_line word ++ more) → ⊥
  head_or_second text head loads behind rest (default_loads e n) is at other none = other behind (same_second text rest (table_line ++ behind) at (usual_text text head behind e is))
  head_or_second text head loads behind rest (limited word e number range) is at other none =
      none word (table_line ++ behind) loads number (same_second text rest (loads_line word ++ (table_line ++ behind)) at (limited_text text head behind word e is))

  -- the second line of a text with a head, if it is a limit
  head_and_limit : (text head : List ℕ) (loads : ℕ) (behind word more : List ℕ) (n : ℕ) → IsHead head loads
      → text ≡ head ++ behind → text ≡ first_line ++ (loads_line word ++ more) → IsNumber word n
      → (loads ≡ n) × IsLimit loads × (table_line ++ behind ≡ more)
  head_and_limit text head loads behind word more n (default_loads e m) is at number =
      absurd (table_or_loads behind word more (same_second text (table_line ++ behind) (loads_line word ++ more) (usual_text text head behind e is) at))
  head_and_limit text head loads behind word more n (limited spelled e that range) is at number =
      let one = one_limit spelled (table_line ++ behind) word more loads n that number (same_second text _ _ (limited_text text head behind spelled e is) at) in
      (one.1, range, one.2)

  pub head_or_fault : (text head : List ℕ) (loads : ℕ) (behind : List ℕ) (line : ℕ) (reason : ScriptReason) → HasHead text head loads behind → HeadFault text line reason → ⊥
  head_or_fault text head loads behind line reason h (no_first none at e) = let first = begins_first text head loads behind h.is_head h.text_is in none first.0 first.1
  head_or_fault text head loads behind line reason h (no_second rest is other none at e) = head_or_second text head loads behind rest h.is_head h.text_is is other none
  head_or_fault text head loads behind line reason h (no_range word more n is number out at e) =
      let both = head_and_limit text head loads behind word more n h.is_head h.text_is is number in
      out (subst IsLimit both.0 both.1)
  head_or_fault text head loads behind line reason h (no_third word rest n is number range other at e) =
      let both = head_and_limit text head loads behind word rest n h.is_head h.text_is is number in
      other behind (sym both.2)

  -- ---- the fault is unique

  same_limits : (text word more other rest : List ℕ) (n m : ℕ) → text ≡ first_line ++ (loads_line word ++ more)
      → text ≡ first_line ++ (loads_line other ++ rest) → IsNumber word n → IsNumber other m → n ≡ m
  same_limits text word more other rest n m is at number that =
      (one_limit word more other rest n m number that (same_second text (loads_line word ++ more) (loads_line other ++ rest) is at)).1

  not_both : (text word rest : List ℕ) (n : ℕ) (second : List ℕ) → text ≡ first_line ++ second
      → ((spelled more : List ℕ) (m : ℕ) → IsNumber spelled m → second ≢ loads_line spelled ++ more)
      → text ≡ first_line ++ (loads_line word ++ rest) → IsNumber word n → ⊥
  not_both text word rest n second is none at number = none word rest n number (same_second text second (loads_line word ++ rest) is at)

  pub one_head_fault : (text : List ℕ) (m n : ℕ) (r q : ScriptReason) → HeadFault text m r → HeadFault text n q → (m ≡ n) × (r ≡ q)
  one_head_fault text m n r q (no_first none at e) (no_first gone to f) = (at ∙ sym to, e ∙ sym f)
  one_head_fault text m n r q (no_first none at e) (no_second rest is other nothing to f) = absurd (none rest is)
  one_head_fault text m n r q (no_first none at e) (no_range word more k is number out to f) = absurd (none (loads_line word ++ more) is)
  one_head_fault text m n r q (no_first none at e) (no_third word rest k is number range other to f) = absurd (none (loads_line word ++ rest) is)
  one_head_fault text m n r q (no_second rest is other nothing at e) (no_first gone to f) = absurd (gone rest is)
  one_head_fault text m n r q (no_second rest is other nothing at e) (no_second more i o k to f) = (at ∙ sym to, e ∙ sym f)
  one_head_fault text m n r q (no_second rest is other nothing at e) (no_range word more k i number out to f) = absurd (not_both text word more k rest is nothing i number)
  one_head_fault text m n r q (no_second rest is other nothing at e) (no_third word more k i number range o to f) = absurd (not_both text word more k rest is nothing i number)
  one_head_fault text m n r q (no_range word more k is number out at e) (no_first gone to f) = absurd (gone (loads_line word ++ more) is)
  one_head_fault text m n r q (no_range word more k is number out at e) (no_second rest i o nothing to f) = absurd (not_both text word more k rest i nothing is number)
  one_head_fault text m n r q (no_range word more k is number out at e) (no_range other rest j i that o to f) = (at ∙ sym to, e ∙ sym f)
  one_head_fault text m n r q (no_range word more k is number out at e) (no_third other rest j i that range o to f) =
      absurd (out (subst IsLimit (sym (same_limits text word more other rest k j is i number that)) range))
  one_head_fault text m n r q (no_third word rest k is number range o at e) (no_first gone to f) = absurd (gone (loads_line word ++ rest) is)
  one_head_fault text m n r q (no_third word rest k is number range o at e) (no_second more i other nothing to f) = absurd (not_both text word rest k more i nothing is number)
  one_head_fault text m n r q (no_third word rest k is number range o at e) (no_range other more j i that out to f) =
      absurd (out (subst IsLimit (same_limits text word rest other more k j is i number that) range))
  one_head_fault text m n r q (no_third word rest k is number range o at e) (no_third other more j i that bound p to f) = (at ∙ sym to, e ∙ sym f)

  -- ---- a head or a fault exists

  no_bytes : (c : ℕ) (cs : List ℕ) → [] ≡ c ∷ cs → ⊥
  no_bytes c cs e = cc

  -- these bytes are a prefix of the text, or aren't
  pub prefix_or_not : (p text : List ℕ) → ((rest : List ℕ) × (text ≡ p ++ rest)) ⊎ ((rest : List ℕ) → text ≢ p ++ rest)
  prefix_or_not [] text = inl (text, refl)
  prefix_or_not (c ∷ p) [] = inr (λ rest e. no_bytes c (p ++ rest) e)
  prefix_or_not (c ∷ p) (d ∷ text) = elim (cases_eq d c) [
    | inr other ↦ inr (λ rest e. other (first_byte d c text (p ++ rest) e))
    | inl same ↦ elim (prefix_or_not p text) [
      | inl found ↦ inl (found.0, ap (λ (x : ℕ). x ∷ text) same ∙ ap (λ (t : List ℕ). c ∷ t) found.1)
      | inr none ↦ inr (λ rest e. none rest (ap (drop 1) e))
    ]
  ]

  abbrev IsLimitRead : List ℕ → Type 0
  IsLimitRead text = ((loads : ℕ) × (behind : List ℕ) × HasLimit text loads behind) ⊎ ((reason : ScriptReason) × IsLimitFault text reason)

  limit_in : (n : ℕ) → IsLimit n ⊎ (IsLimit n → ⊥)
  limit_in n = elim (cases_lt n 1) [
    | inl none ↦ inr (λ h. omega (arith, h.0, none))
    | inr some ↦ elim (cases_lt 16384 n) [
      | inl more ↦ inr (λ h. omega (arith, h.1, more))
      | inr few ↦ inl (some, few)
    ]
  ]

  limit_word : (text line behind word : List ℕ) (o : Option ℕ) → number_of word ≡ o → IsCut text line behind → line ≡ codes "loads " ++ word → IsLimitRead text
  limit_word text line behind word None none cut is = inr (Word, no_number_of text line behind word (ap pieces_of cut.text_is ∙ pieces_line line behind cut.one) is none)
  limit_word text line behind word (Some n) number cut is =
      let whole : text ≡ loads_line word ++ behind = cut.text_is ∙ ap (λ (l : List ℕ). l ++ 10 ∷ behind) is ∙ sym (loads_parts word behind) in
      elim (limit_in n) [
        | inl range ↦ inl (n, behind, record { word = word; number = number; limit = range; text_is = whole })
        | inr out ↦ inr (Number, (word, behind, n, number, out, whole))
      ]

  limit_or_fault : (text : List ℕ) → IsLimitRead text
  limit_or_fault text = elim (split_text text) [
    | last one ↦ inr (Word, no_line text (pieces_alone text one))
    | fed line behind cut shorter ↦ elim (prefix_or_not (codes "loads ") line) [
      | inr other ↦ inr (Word, other_line text line behind (ap pieces_of cut.text_is ∙ pieces_line line behind cut.one) other)
      | inl found ↦ limit_word text line behind found.0 (number_of found.0) refl cut found.1
    ]
  ]

  abbrev pub IsHeadRead : List ℕ → Type 0
  IsHeadRead text = ((head : List ℕ) × (loads : ℕ) × (behind : List ℕ) × HasHead text head loads behind) ⊎ ((line : ℕ) × (reason : ScriptReason) × HeadFault text line reason)

  second_fault : (text second : List ℕ) (reason : ScriptReason) → text ≡ first_line ++ second
      → ((more : List ℕ) → second ≢ table_line ++ more) → IsLimitFault second reason → HeadFault text 2 reason
  second_fault text second Word is other h = no_second second is other h refl refl
  second_fault text second Number is other h = no_range h.0 h.1 h.2 (is ∙ ap (λ (t : List ℕ). first_line ++ t) h.5) h.3 h.4 refl refl
  second_fault text second _ is other h = absurd h

  pub some_head : (text : List ℕ) → IsHeadRead text
  some_head text = elim (prefix_or_not first_line text) [
    | inr none ↦ inr (1, Header, no_first none refl refl)
    | inl first ↦ elim (prefix_or_not table_line first.0) [
      | inl table ↦ inl (first_line ++ table_line, 1024, table.0, record { is_head = default_loads refl refl; text_is = heads.usual_head first_line text first.0 table.0 first.1 table.1 })
      | inr other ↦ elim (limit_or_fault first.0) [
        | inr fault ↦ inr (2, fault.0, second_fault text first.0 fault.0 first.1 other fault.1)
        | inl limit ↦ elim (prefix_or_not table_line limit.1) [
          | inl table ↦ inl (
            first_line ++ (loads_line limit.2.word ++ table_line),
            limit.0,
            table.0,
            record { is_head = limited limit.2.word refl limit.2.number limit.2.limit; text_is = heads.limited_head first_line text first.0 limit.1 table.0 limit.0 first.1 limit.2 table.1 },
          )
          | inr none ↦ inr (
            3,
            Word,
            no_third limit.2.word limit.1 limit.0 (first.1 ∙ ap (λ (t : List ℕ). first_line ++ t) limit.2.text_is)
                limit.2.number limit.2.limit none refl refl,
          )
        ]
      ]
    ]
  ]
