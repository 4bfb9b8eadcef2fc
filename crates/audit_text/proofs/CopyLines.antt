-- The words of an accepted call are read exactly as they are written.
use Rattle.std.proofs.Common.{◌≡◌, ℕ, ◌<◌, ◌^◌, List, [], ◌∷◌, get_or, refl, ap, sym, ◌∙◌, arith, Some, None, Option, subst, inl, inr, codes}
use Rattle.std.specs.Prelude.{Result, Ok}
use Rattle.std.specs.Fmt.{decimal}
use Rattle.mrpc_table.specs.Calls.{message_at}
use Rattle.mrpc_table.specs.declared.memory.Memory.{Memory}
use Rattle.mrpc_table.specs.declared.table.Table.{Table}
use Rattle.graph_form.specs.Words.{graph_reason_word}
use Rattle.graph_form.specs.declared.reason.Reason.{Reason}
use Rattle.graph_form.specs.declared.reason.Reason.TheVariants.{Address, Presence, Case, Length, Utf8, Narrow, Depth, Loads, NoMethod}
use Rattle.call_history.specs.declared.happening.AcceptedCall.{AcceptedCall}
use Rattle.call_history.specs.declared.happening.TookCopy.{TookCopy}
use Rattle.call_history.specs.declared.happening.TookCopy.TheVariants.{Copy, Malformed}
use Rattle.audit_text.specs.Lines.{WordList, copy_words}
use Rattle.audit_text.specs.Writable.{IsWritableCall, IsWritableCopy}
use Rattle.audit_text.specs.Copies.{read_call_numbers, read_malformed, read_reason, accepted_words}
use Rattle.audit_text.specs.Reading.{IsExactReading, read_word, read_last_number, read_number}
use Rattle.audit_text.specs.declared.copy.CallNumbers.{CallNumbers}
use Rattle.audit_text.proofs.Causes.{first-said}
use Rattle.audit_text.proofs.Said.{by-word, chained, last-read, last-said, number-read, number-said, unsome}
use Rattle.audit_text.proofs.WordsOfLines.{not-some, some-pair}

-- ---- numbers

pub record IsHead (ws : WordList) (h : CallNumbers) (rest : WordList) : Type 0 where
  pub seq : h.seq < 2 ^ 32
  pub method : h.method < 2 ^ 16
  pub number : h.number < 2 ^ 32
  pub addr : h.addr < 2 ^ 64
  pub after : h.after < 2 ^ 64
  pub count : h.count < 2 ^ 64
  pub words : ws ≡ decimal h.seq ∷ decimal h.method ∷ decimal h.number ∷ decimal h.addr ∷ decimal h.after ∷ decimal h.count ∷ rest

pub head-said : (ws : WordList) (p : CallNumbers × WordList) → read_call_numbers ws ≡ Some p → IsHead ws p.0 p.1
unfolding read_call_numbers
head-said ws p e =
    let a = chained _ (read_number (2 ^ 32) ws) p e in
    let b = chained _ (read_number (2 ^ 16) a.0.1) p a.2 in
    let c = chained _ (read_number (2 ^ 32) b.0.1) p b.2 in
    let d = chained _ (read_number (2 ^ 64) c.0.1) p c.2 in
    let f = chained _ (read_number (2 ^ 64) d.0.1) p d.2 in
    let g = chained _ (read_number (2 ^ 64) f.0.1) p f.2 in
    let ha = number-said (2 ^ 32) ws a.0 (omega arith) a.1 in
    let hb = number-said (2 ^ 16) a.0.1 b.0 (omega arith) b.1 in
    let hc = number-said (2 ^ 32) b.0.1 c.0 (omega arith) c.1 in
    let hd = number-said (2 ^ 64) c.0.1 d.0 (omega arith) d.1 in
    let hf = number-said (2 ^ 64) d.0.1 f.0 (omega arith) f.1 in
    let hg = number-said (2 ^ 64) f.0.1 g.0 (omega arith) g.1 in
    let P : CallNumbers × WordList → Type 0 = λ p. IsHead ws p.0 p.1 in
    subst P (unsome (record { seq = a.0.0; method = b.0.0; number = c.0.0; addr = d.0.0; after = f.0.0; count = g.0.0 }, g.0.1) p g.2) (record {
      seq = ha.0;
      method = hb.0;
      number = hc.0;
      addr = hd.0;
      after = hf.0;
      count = hg.0;
      words = ha.1 ∙ ap (λ r. decimal a.0.0 ∷ r)
          (hb.1 ∙ ap (λ r. decimal b.0.0 ∷ r)
          (hc.1 ∙ ap (λ r. decimal c.0.0 ∷ r)
          (hd.1 ∙ ap (λ r. decimal d.0.0 ∷ r) (hf.1 ∙ ap (λ r. decimal f.0.0 ∷ r) hg.1))));
    })

pub head-read : (h : CallNumbers) (rest : WordList) → h.seq < 2 ^ 32 → h.method < 2 ^ 16 → h.number < 2 ^ 32 → h.addr < 2 ^ 64 → h.after < 2 ^ 64 → h.count < 2 ^ 64
    → read_call_numbers (decimal h.seq ∷ decimal h.method ∷ decimal h.number ∷ decimal h.addr ∷ decimal h.after ∷ decimal h.count ∷ rest) ≡ Some (h, rest)
unfolding read_call_numbers
head-read h rest seq method number addr after count =
    rw (
      number-read (2 ^ 32) h.seq (decimal h.method ∷ decimal h.number ∷ decimal h.addr ∷ decimal h.after ∷ decimal h.count ∷ rest) (omega arith) seq,
      number-read (2 ^ 16) h.method (decimal h.number ∷ decimal h.addr ∷ decimal h.after ∷ decimal h.count ∷ rest) (omega arith) method,
      number-read (2 ^ 32) h.number (decimal h.addr ∷ decimal h.after ∷ decimal h.count ∷ rest) (omega arith) number,
      number-read (2 ^ 64) h.addr (decimal h.after ∷ decimal h.count ∷ rest) (omega arith) addr,
      number-read (2 ^ 64) h.after (decimal h.count ∷ rest) (omega arith) after,
      number-read (2 ^ 64) h.count rest (omega arith) count,
    ) refl

-- ---- malformed calls

reason-read : (r : Reason) → read_reason (graph_reason_word r) ≡ Some r
reason-read Address = refl
reason-read Presence = refl
reason-read Case = refl
reason-read Length = refl
reason-read Utf8 = refl
reason-read Narrow = refl
reason-read Depth = refl
reason-read Loads = refl
reason-read NoMethod = refl

named : (w this : List ℕ) (r s : Reason) → (w ≡ this) × (Some r ≡ Some s) → this ≡ graph_reason_word r → w ≡ graph_reason_word s
named w this r s h is = h.0 ∙ is ∙ ap graph_reason_word (unsome r s h.1)

reason-is : (w : List ℕ) (r : Reason) → read_reason w ≡ Some r → w ≡ graph_reason_word r
reason-is w r e =
    elim (by-word w (codes "Address") (Some Address) _ r e) [
      | inl h ↦ named w _ Address r h refl
      | inr e ↦ elim (by-word w (codes "Presence") (Some Presence) _ r e) [
        | inl h ↦ named w _ Presence r h refl
        | inr e ↦ elim (by-word w (codes "Case") (Some Case) _ r e) [
          | inl h ↦ named w _ Case r h refl
          | inr e ↦ elim (by-word w (codes "Length") (Some Length) _ r e) [
            | inl h ↦ named w _ Length r h refl
            | inr e ↦ elim (by-word w (codes "Utf8") (Some Utf8) _ r e) [
              | inl h ↦ named w _ Utf8 r h refl
              | inr e ↦ elim (by-word w (codes "Narrow") (Some Narrow) _ r e) [
                | inl h ↦ named w _ Narrow r h refl
                | inr e ↦ elim (by-word w (codes "Depth") (Some Depth) _ r e) [
                  | inl h ↦ named w _ Depth r h refl
                  | inr e ↦ elim (by-word w (codes "Loads") (Some Loads) _ r e) [
                    | inl h ↦ named w _ Loads r h refl
                    | inr e ↦ elim (by-word w (codes "NoMethod") (Some NoMethod) None r e) [ inl h ↦ named w _ NoMethod r h refl | inr e ↦ absurd (let wrong = e in cc) ]
                  ]
                ]
              ]
            ]
          ]
        ]
      ]
    ]

pub malformed-said : (T : Table) (call : AcceptedCall) (msg : ℕ) (ws : WordList) (copy : TookCopy)
    → read_malformed ws ≡ Some copy → IsWritableCopy T call copy × (codes "malformed" ∷ ws ≡ copy_words T msg copy)
unfolding read_malformed
malformed-said T call msg ws copy e =
    let a = chained _ (read_word ws) copy e in
    let b = chained _ (read_reason a.0.0) copy a.2 in
    let c = chained _ (read_number (2 ^ 64) a.0.1) copy b.2 in
    let d = chained _ (read_last_number (2 ^ 64) c.0.1) copy c.2 in
    let h = number-said (2 ^ 64) a.0.1 c.0 (omega arith) c.1 in
    let k = last-said (2 ^ 64) c.0.1 d.0 (omega arith) d.1 in
    let P : TookCopy → Type 0 = λ x. IsWritableCopy T call x × (codes "malformed" ∷ ws ≡ copy_words T msg x) in
    subst P (unsome (Malformed b.0 c.0.0 d.0) copy d.2) (
      (h.0, k.0),
      ap (λ r. codes "malformed" ∷ r) (first-said ws a.0 a.1 ∙ ap (λ w. w ∷ a.0.1) (reason-is a.0.0 b.0 b.1)
          ∙ ap (λ r. graph_reason_word b.0 ∷ r) (h.1 ∙ ap (λ r. decimal c.0.0 ∷ r) k.1)),
    )

pub malformed-read : (reason : Reason) (place value : ℕ) → place < 2 ^ 64 → value < 2 ^ 64
    → read_malformed (graph_reason_word reason ∷ decimal place ∷ decimal value ∷ []) ≡ Some (Malformed reason place value)
unfolding read_malformed
malformed-read reason place value h k = rw (reason-read reason, number-read (2 ^ 64) place (decimal value ∷ []) (omega arith) h, last-read (2 ^ 64) value (omega arith) k) refl

-- ---- copies

first-same : {X : Type 0} (x y : X) (xs ys : List X) → x ∷ xs ≡ y ∷ ys → (x ≡ y) × (xs ≡ ys)
first-same x y xs ys e = (cc, cc)

abbrev pub ReadsCopy : Table → AcceptedCall → ℕ → WordList → Result (Option TookCopy) Memory → Type 0
ReadsCopy T call msg ws r = IsExactReading (IsWritableCopy T call) (copy_words T msg) ws r

abbrev first_of : WordList → List ℕ
first_of [] = []
first_of (w ∷ ws) = w

malformed-lost : (T : Table) (call : AcceptedCall) (msg : ℕ) (ws : WordList) → read_malformed ws ≡ None → (x : TookCopy)
    → IsWritableCopy T call x → codes "malformed" ∷ ws ≡ copy_words T msg x → ⊥
malformed-lost T call msg ws none (Copy tree) h e = omega (arith, ap (λ (l : WordList). get_or (first_of l) 0 0) e)
malformed-lost T call msg ws none (Malformed reason place value) h e =
    let same = first-same (codes "malformed") (codes "malformed") ws (graph_reason_word reason ∷ decimal place ∷ decimal value ∷ []) e in
    not-some (Malformed reason place value) (sym (malformed-read reason place value h.0 h.1) ∙ ap read_malformed (sym same.1) ∙ none)

pub malformed-reads : (T : Table) (call : AcceptedCall) (msg : ℕ) (all ws : WordList) (found : Option TookCopy)
    → all ≡ codes "malformed" ∷ ws → found ≡ read_malformed ws → ReadsCopy T call msg all (Ok found)
malformed-reads T call msg all ws None is h = λ x holds e. malformed-lost T call msg ws (sym h) x holds (sym is ∙ e)
malformed-reads T call msg all ws (Some copy) is h = let said = malformed-said T call msg ws copy (sym h) in (said.0, is ∙ said.1)

-- ---- accepted calls

abbrev head_of : AcceptedCall → CallNumbers
head_of x = record { seq = x.seq; method = x.method; number = x.number; addr = x.addr; after = x.after; count = x.count }

head-told : (x : AcceptedCall) (T : Table) → IsWritableCall T x → read_call_numbers (accepted_words T x) ≡ Some (head_of x, copy_words T (message_at T x.method x.number) x.copy)
head-told x T h = head-read (head_of x) (copy_words T (message_at T x.method x.number) x.copy) h.seq h.method h.number h.addr h.after h.count

pub no-head : (T : Table) (ws : WordList) → read_call_numbers ws ≡ None → (x : AcceptedCall) → IsWritableCall T x → ws ≡ accepted_words T x → ⊥
no-head T ws none x h e = not-some (head_of x, copy_words T (message_at T x.method x.number) x.copy) (sym (head-told x T h) ∙ ap read_call_numbers (sym e) ∙ none)

-- the copy is read after the numbers, for a call with these numbers
abbrev pub ReadsFor : Table → CallNumbers → WordList → Result (Option TookCopy) Memory → Type 0
ReadsFor T h rest r = (call : AcceptedCall) → call.method ≡ h.method → call.number ≡ h.number → IsExactReading (IsWritableCopy T call) (copy_words T (message_at T h.method h.number)) rest r

pub no-copy : (T : Table) (ws rest : WordList) (h : CallNumbers) (r : Result (Option TookCopy) Memory)
    → read_call_numbers ws ≡ Some (h, rest) → ReadsFor T h rest r → r ≡ Ok None → (x : AcceptedCall) → IsWritableCall T x
    → ws ≡ accepted_words T x → ⊥
no-copy T ws rest h r head reads is x holds e =
    let both : Some (h, rest) ≡ Some (head_of x, copy_words T (message_at T x.method x.number) x.copy) = sym head ∙ ap read_call_numbers e ∙ head-told x T holds in
    let same = some-pair h (head_of x) rest (copy_words T (message_at T x.method x.number) x.copy) both in
    let method : x.method ≡ h.method = sym (ap (λ k. k.method) same.0) in
    let number : x.number ≡ h.number = sym (ap (λ k. k.number) same.0) in
    let P : Result (Option TookCopy) Memory → Type 0 = λ r. IsExactReading (IsWritableCopy T x) (copy_words T (message_at T h.method h.number)) rest r in
    let none : (copy : TookCopy) → IsWritableCopy T x copy → rest ≡ copy_words T (message_at T h.method h.number) copy → ⊥ = subst P is (reads x method number) in
    none x.copy holds.copy (same.1 ∙ ap (λ k. copy_words T (message_at T k.method k.number) x.copy) (sym same.0))

pub some-copy : (T : Table) (ws rest : WordList) (h : CallNumbers) (copy : TookCopy) (r : Result (Option TookCopy) Memory)
    → read_call_numbers ws ≡ Some (h, rest) → ReadsFor T h rest r → r ≡ Ok (Some copy)
    → (let call : AcceptedCall = record {
      seq = h.seq;
      method = h.method;
      number = h.number;
      addr = h.addr;
      after = h.after;
      count = h.count;
      copy = copy;
    } in IsWritableCall T call × (ws ≡ accepted_words T call))
some-copy T ws rest h copy r head reads is =
    let call : AcceptedCall = record { seq = h.seq; method = h.method; number = h.number; addr = h.addr; after = h.after; count = h.count; copy = copy } in
    let parts = head-said ws (h, rest) head in
    let P : Result (Option TookCopy) Memory → Type 0 = λ r. IsExactReading (IsWritableCopy T call) (copy_words T (message_at T h.method h.number)) rest r in
    let read : IsWritableCopy T call copy × (rest ≡ copy_words T (message_at T h.method h.number) copy) = subst P is (reads call refl refl) in (
      record { seq = parts.seq; method = parts.method; number = parts.number; addr = parts.addr; after = parts.after; count = parts.count; copy = read.0 },
      parts.words ∙ ap (λ r. decimal h.seq ∷ decimal h.method ∷ decimal h.number ∷ decimal h.addr ∷ decimal h.after ∷ decimal h.count ∷ r) read.1,
    )
