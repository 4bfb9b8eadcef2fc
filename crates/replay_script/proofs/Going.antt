-- One more line: a text continues in one way, or stops for one reason, never both.
use Rattle.std.proofs.Common.{◌≡◌, ◌≢◌, ◌⊎◌, ℕ, zero, suc, ◌+◌, ◌<◌, ◌≤◌, true, false, List, [], ◌∷◌, ◌++◌, length}
use Rattle.std.proofs.Common.{Option, Some, None, Result, Ok, Err, refl, sym, ap, subst, ◌∙◌, arith, inl, inr}
use Rattle.std.proofs.lemmas.Bool.{false≢true, cases_Bool}
use Rattle.std.proofs.lemmas.List.{length-append, nil_from_length}
use Rattle.std.proofs.lemmas.Option.{same_Some}
use Rattle.mrpc_table.specs.Lines.{words_of}
use Rattle.mrpc_table.specs.declared.table.Table.{Table}
use Rattle.policy_declarations.specs.Blocks.{is_skipped}
use Rattle.policy_declarations.specs.Declarations.{Declared, with_declaration}
use Rattle.policy_declarations.specs.DeclarationTexts.{declaration_form, declaration_form_in, IsDeclarationHead, HasDeclaration, HasFirstFaultAt}
use Rattle.policy_declarations.specs.DeclarationTexts as items
use Rattle.policy_declarations.specs.declared.declaration.Declaration.{Declaration}
use Rattle.policy_declarations.specs.declared.declaration_form.DeclarationForm.{DeclarationForm}
use Rattle.script_grammar.specs.Forms.{word_kinds_of, form_in}
use Rattle.script_grammar.specs.Lines.{HaveMeanings}
use Rattle.script_grammar.specs.Reasons.{IsFirstReason}
use Rattle.script_grammar.specs.WordKinds.{Meaning}
use Rattle.script_grammar.specs.declared.form.LineForm.{LineForm}
use Rattle.script_grammar.specs.declared.form.LineForm.TheVariants as form
use Rattle.script_grammar.specs.declared.fault.ScriptReason.{ScriptReason}
use Rattle.script_grammar.specs.declared.fault.ScriptReason.TheVariants as reason
use Rattle.replay_script.specs.Deciding.{decide}
use Rattle.replay_script.specs.LineReasons.{StateBefore, HasLineReason}
use Rattle.replay_script.specs.Texts.{IsLineBefore, IsStateAfterLine, skips, declares, acts, closes, IsFirstFaultAt, in_line, in_block, no_feed, no_close}
use Rattle.replay_script.specs.Words.{IsParsedAs, line_in}
use Rattle.replay_script.specs.declared.script.ScriptLine.{ScriptLine}
use Rattle.replay_script.proofs.TextLines.{IsOneLine, fed, last, split_text, same_first, shorter, some_line, has_feed}
use Rattle.replay_script.proofs.LineForms.{skipped_and_form, same_form, item_of, item_is, item_and_other, line_of_item}
use Rattle.replay_script.proofs.LineFaults as faults
use Rattle.replay_script.specs.WordLaws.{WordLaws}

module _ (laws : WordLaws) (loads : ℕ) (T : Table) where
  abbrev Free : StateBefore → List ℕ → Type 0
  Free b line = (q : ScriptReason) → HasLineReason loads b line q → ⊥

  -- ---- a line by which a text continues has no fault

  pub record GoesFree (b : StateBefore) (text rest : List ℕ) : Type 0 where
    pub line : List ℕ
    pub behind : List ℕ
    pub before : IsLineBefore text line behind
    pub free : Free b line
    pub left : length rest ≤ length behind

  left_of : (passed x text : List ℕ) → text ≡ passed ++ x → length x ≤ length text
  left_of passed x text e = omega (arith, ap (length {A = ℕ}) e, length-append passed x)

  heads_free : (b : StateBefore) (line : List ℕ) (g : DeclarationForm) (m : List Meaning) → b.closed ≡ false
      → declaration_form_in (words_of line) ≡ Some g → IsDeclarationHead b.declared g line m → Free b line
  heads_free b line g m still is heads q offends = elim (faults.head_of laws loads b line g q is offends) [
    | inl against ↦ heads.free q against
    | inr after ↦ false≢true (sym still ∙ after.0)
  ]

  pub goes_free : (b : StateBefore) (text : List ℕ) (next : StateBefore) (rest : List ℕ) → IsStateAfterLine loads T b text next rest → GoesFree b text rest
  goes_free b text next rest (skips line before skipped e) =
      record { line = line; behind = rest; before = before; free = faults.skipped_free laws loads b line skipped; left = omega arith }
  goes_free b text next rest (declares line behind f i before still is d e) =
      let left = laws.declaration_remainder T true b.declared f line behind i rest d in
      record { line = line; behind = behind; before = before; free = heads_free b line f d.meanings still is d.heads; left = left_of left.0 rest behind left.1 }
  goes_free b text next rest (acts line f m l before said is free e) = record { line = line; behind = rest; before = before; free = free; left = omega arith }
  goes_free b text next rest (closes line m before said still e) =
      record { line = line; behind = rest; before = before; free = faults.open_free laws loads b line form.Close m said refl (faults.close_core laws loads b m) still; left = omega arith }

  pub goes_shorter : (b : StateBefore) (text : List ℕ) (next : StateBefore) (rest : List ℕ) → IsStateAfterLine loads T b text next rest → length rest < length text
  goes_shorter b text next rest goes =
      let h = goes_free b text next rest goes in
      let left = h.left in
      let less = shorter text h.line h.behind h.before in
      omega (arith, left, less)

  -- ---- the continuation is unique

  abbrev pub IsSame : StateBefore → List ℕ → StateBefore → List ℕ → Type 0
  IsSame next rest other left = (next ≡ other) × (rest ≡ left)

  said_item : (d : Declared) (line : List ℕ) (f : LineForm) (m : List Meaning) (l : ScriptLine) (g : DeclarationForm) → IsParsedAs f line m
      → line_in d f m ≡ Some l → declaration_form_in (words_of line) ≡ Some g → ⊥
  said_item d line f m l g said is item =
      let none = line_of_item d f m g (sym (item_of (words_of line) f said.has_form) ∙ item) in
      (let bad : None ≡ Some l = sym none ∙ is in cc)

  close_item : (line : List ℕ) (m : List Meaning) (g : DeclarationForm) → IsParsedAs form.Close line m → declaration_form_in (words_of line) ≡ Some g → ⊥
  close_item line m g said item = item_and_other (words_of line) form.Close g said.has_form refl item

  close_line : (d : Declared) (line : List ℕ) (f : LineForm) (m n : List Meaning) (l : ScriptLine) → IsParsedAs f line m → IsParsedAs form.Close line n → line_in d f m ≡ Some l → ⊥
  close_line d line f m n l said closed is =
      let same : f ≡ form.Close = same_form (words_of line) f form.Close said.has_form closed.has_form in
      let bad : ◌≡◌ {A = Option ScriptLine} None (Some l) = subst (λ (x : LineForm). line_in d x m ≡ Some l) same is in
      cc

  skipped_item : (line : List ℕ) (g : DeclarationForm) → is_skipped line ≡ true → declaration_form_in (words_of line) ≡ Some g → ⊥
  skipped_item line g skipped item = let f = item_is (words_of line) g item in skipped_and_form line f.0 skipped f.1

  two_lines : (b : StateBefore) (line : List ℕ) (f g : LineForm) (m n : List Meaning) (k l : ScriptLine) → IsParsedAs f line m
      → IsParsedAs g line n → line_in b.declared f m ≡ Some k → line_in b.declared g n ≡ Some l → k ≡ l
  two_lines b line f g m n k l said other is here =
      let same : g ≡ f = same_form (words_of line) g f other.has_form said.has_form in
      let meanings : n ≡ m = laws.meanings_are_unique (word_kinds_of f) (words_of line) n m (subst (λ (x : LineForm). HaveMeanings (word_kinds_of x) (words_of line) n) same other.said) said.said in
      same_Some k l (sym is ∙ subst (λ (x : LineForm). line_in b.declared x m ≡ Some l) same (subst (λ (x : List Meaning). line_in b.declared g x ≡ Some l) meanings here))

  one_goes_at : (b : StateBefore) (text line behind : List ℕ) (next other : StateBefore) (x y : List ℕ)
      → IsLineBefore text line behind → IsStateAfterLine loads T b text next x → IsStateAfterLine loads T b text other y
      → IsSame next x other y
  one_goes_at b text line behind next other x y at (skips l h skipped e) (skips m k also f) = (e ∙ sym f, (same_first text l m x y h k).1)
  one_goes_at b text line behind next other x y at (skips l h skipped e) (declares m more g i k still is d f) =
      absurd (skipped_item m g (subst (λ (t : List ℕ). is_skipped t ≡ true) (same_first text l m x more h k).0 skipped) is)
  one_goes_at b text line behind next other x y at (skips l h skipped e) (acts m f n c k said is free g) =
      absurd (skipped_and_form m f (subst (λ (t : List ℕ). is_skipped t ≡ true) (same_first text l m x y h k).0 skipped) said.has_form)
  one_goes_at b text line behind next other x y at (skips l h skipped e) (closes m n k said still g) =
      absurd (skipped_and_form m form.Close (subst (λ (t : List ℕ). is_skipped t ≡ true) (same_first text l m x y h k).0 skipped) said.has_form)
  one_goes_at b text line behind next other x y at (declares m more g i k still is d f) (skips l h skipped e) =
      absurd (skipped_item m g (subst (λ (t : List ℕ). is_skipped t ≡ true) (same_first text l m y more h k).0 skipped) is)
  one_goes_at b text line behind next other x y at (declares l more g i h still is d e) (declares m less j k at' open_still also c f) =
      let same = same_first text l m more less h at' in
      let forms : j ≡ g = same_Some j g (sym also ∙ subst (λ (t : List ℕ). declaration_form_in (words_of t) ≡ Some g) same.0 is) in
      let moved : HasDeclaration T true b.declared j m less i x =
      subst (λ (g : DeclarationForm). HasDeclaration T true b.declared g m less i x) (sym forms)
      (subst (λ (t : List ℕ). HasDeclaration T true b.declared g m t i x) same.1
      (subst (λ (t : List ℕ). HasDeclaration T true b.declared g t more i x) same.0 d)) in
      let one = laws.one_item T true b.declared j m less i k x y moved c in
      (e ∙ ap (λ (z : Declaration). record { declared = with_declaration b.declared z; lines = b.lines; closed = false }) one.0 ∙ sym f, one.1)
  one_goes_at b text line behind next other x y at (declares l more g i h still is d e) (acts m f n c k said here free j) =
      absurd (said_item b.declared m f n c g said here (subst (λ (t : List ℕ). declaration_form_in (words_of t) ≡ Some g) (same_first text l m more y h k).0 is))
  one_goes_at b text line behind next other x y at (declares l more g i h still is d e) (closes m n k said open_still j) =
      absurd (close_item m n g said (subst (λ (t : List ℕ). declaration_form_in (words_of t) ≡ Some g) (same_first text l m more y h k).0 is))
  one_goes_at b text line behind next other x y at (acts m f n c k said is free g) (skips l h skipped e) =
      absurd (skipped_and_form m f (subst (λ (t : List ℕ). is_skipped t ≡ true) (same_first text l m y x h k).0 skipped) said.has_form)
  one_goes_at b text line behind next other x y at (acts m f n c k said here free j) (declares l more g i h still is d e) =
      absurd (said_item b.declared m f n c g said here (subst (λ (t : List ℕ). declaration_form_in (words_of t) ≡ Some g) (same_first text l m more x h k).0 is))
  one_goes_at b text line behind next other x y at (acts l f n c h said is free e) (acts m g o k at' also here none j) =
      let same = same_first text l m x y h at' in
      let lines = two_lines b m f g n o c k (subst (λ (t : List ℕ). IsParsedAs f t n) same.0 said) also is here in
      (e ∙ ap (λ (z : ScriptLine). record { declared = b.declared; lines = b.lines ++ z ∷ []; closed = false }) lines ∙ sym j, same.1)
  one_goes_at b text line behind next other x y at (acts l f n c h said is free e) (closes m o k also still j) =
      absurd (close_line b.declared m f n o c (subst (λ (t : List ℕ). IsParsedAs f t n) (same_first text l m x y h k).0 said) also is)
  one_goes_at b text line behind next other x y at (closes m n k said still g) (skips l h skipped e) =
      absurd (skipped_and_form m form.Close (subst (λ (t : List ℕ). is_skipped t ≡ true) (same_first text l m y x h k).0 skipped) said.has_form)
  one_goes_at b text line behind next other x y at (closes m n k said open_still j) (declares l more g i h still is d e) =
      absurd (close_item m n g said (subst (λ (t : List ℕ). declaration_form_in (words_of t) ≡ Some g) (same_first text l m more x h k).0 is))
  one_goes_at b text line behind next other x y at (closes m o k also still j) (acts l f n c h said is free e) =
      absurd (close_line b.declared m f n o c (subst (λ (t : List ℕ). IsParsedAs f t n) (same_first text l m y x h k).0 said) also is)
  one_goes_at b text line behind next other x y at (closes l n h said still e) (closes m o k also open_still j) = (e ∙ sym j, (same_first text l m x y h k).1)

  pub one_goes : (b : StateBefore) (text : List ℕ) (next other : StateBefore) (x y : List ℕ) → IsStateAfterLine loads T b text next x → IsStateAfterLine loads T b text other y → IsSame next x other y
  one_goes b text next other x y goes also = let h = goes_free b text next x goes in one_goes_at b text h.line h.behind next other x y h.before goes also

  -- ---- a text that continues doesn't stop

  pub goes_or_stops : (b : StateBefore) (text : List ℕ) (next : StateBefore) (rest : List ℕ) (at : ℕ) (reason : ScriptReason)
      → IsStateAfterLine loads T b text next rest → IsFirstFaultAt loads T b text at reason → ⊥
  goes_or_stops b text next rest at reason goes (in_line line behind before first e) =
      let h = goes_free b text next rest goes in
      let same = same_first text line h.line behind h.behind before h.before in
      h.free reason (subst (λ (t : List ℕ). HasLineReason loads b t reason) same.0 first.stands)
  goes_or_stops b text next rest at reason (skips l h skipped f) (in_block line behind g m below before still is heads breaks e) =
      skipped_item line g (subst (λ (t : List ℕ). is_skipped t ≡ true) (same_first text l line rest behind h before).0 skipped) is
  goes_or_stops b text next rest at reason (declares l more j i h also has d f) (in_block line behind g m below before still is heads breaks e) =
      let same = same_first text l line more behind h before in
      let forms : j ≡ g = same_Some j g (sym (subst (λ (t : List ℕ). declaration_form_in (words_of t) ≡ Some j) same.0 has) ∙ is) in
      let moved : HasDeclaration T true b.declared g line behind i rest =
      subst (λ (g : DeclarationForm). HasDeclaration T true b.declared g line behind i rest) forms
      (subst (λ (t : List ℕ). HasDeclaration T true b.declared j line t i rest) same.1
      (subst (λ (t : List ℕ). HasDeclaration T true b.declared j t more i rest) same.0 d)) in
      laws.declaration_or_fault T true b.declared g line behind i rest (1 + below) reason moved (items.in_block m below heads breaks refl)
  goes_or_stops b text next rest at reason (acts l f n c h said here free j) (in_block line behind g m below before still is heads breaks e) =
      said_item b.declared line f n c g (subst (λ (t : List ℕ). IsParsedAs f t n) (same_first text l line rest behind h before).0 said) here is
  goes_or_stops b text next rest at reason (closes l n h said also j) (in_block line behind g m below before still is heads breaks e) =
      close_item line n g (subst (λ (t : List ℕ). IsParsedAs form.Close t n) (same_first text l line rest behind h before).0 said) is
  goes_or_stops b text next rest at reason goes (no_feed one some f e) = let h = goes_free b text next rest goes in has_feed text h.line h.behind h.before one
  goes_or_stops b text next rest at reason goes (no_close none still f e) = let h = goes_free b text next rest goes in some_line text h.line h.behind none h.before

  -- ---- the stop is unique

  pub one_stop : (b : StateBefore) (text : List ℕ) (m n : ℕ) (r q : ScriptReason) → IsFirstFaultAt loads T b text m r → IsFirstFaultAt loads T b text n q → (m ≡ n) × (r ≡ q)
  one_stop b text m n r q (in_line l x h first e) (in_line k y j second f) =
      let same = same_first text l k x y h j in
      let moved = subst (λ (t : List ℕ). IsFirstReason (HasLineReason loads b t) r) same.0 first in
      (e ∙ sym f, laws.order r q (moved.first q second.stands) (second.first r moved.stands))
  one_stop b text m n r q (in_line l x h first e) (in_block k y g o below j still is heads breaks f) =
      absurd (heads_free b k g o still is heads r (subst (λ (t : List ℕ). HasLineReason loads b t r) (same_first text l k x y h j).0 first.stands))
  one_stop b text m n r q (in_line l x h first e) (no_feed one some f g) = absurd (has_feed text l x h one)
  one_stop b text m n r q (in_line l x h first e) (no_close none still f g) = absurd (some_line text l x none h)
  one_stop b text m n r q (in_block k y g o below j still is heads breaks f) (in_line l x h first e) =
      absurd (heads_free b k g o still is heads q (subst (λ (t : List ℕ). HasLineReason loads b t q) (same_first text l k x y h j).0 first.stands))
  one_stop b text m n r q (in_block l x g o below h still is heads breaks e) (in_block k y i p under j also has heads' breaks' f) =
      let same = same_first text l k x y h j in
      let forms : g ≡ i = same_Some g i (sym (subst (λ (t : List ℕ). declaration_form_in (words_of t) ≡ Some g) same.0 is) ∙ has) in
      let fault : HasFirstFaultAt T true b.declared g l x (1 + below) r = items.in_block o below heads breaks refl in
      let moved : HasFirstFaultAt T true b.declared i k y (1 + below) r =
      subst (λ (g : DeclarationForm). HasFirstFaultAt T true b.declared g k y (1 + below) r) forms
      (subst (λ (t : List ℕ). HasFirstFaultAt T true b.declared g k t (1 + below) r) same.1
      (subst (λ (t : List ℕ). HasFirstFaultAt T true b.declared g t x (1 + below) r) same.0 fault)) in
      let one = laws.declaration_fault_is_unique T true b.declared i k y (1 + below) (1 + under) r q moved (items.in_block p under heads' breaks' refl) in
      (e ∙ one.0 ∙ sym f, one.1)
  one_stop b text m n r q (in_block k y g o below j still is heads breaks f) (no_feed one some h e) = absurd (has_feed text k y j one)
  one_stop b text m n r q (in_block k y g o below j still is heads breaks f) (no_close none also h e) = absurd (some_line text k y none j)
  one_stop b text m n r q (no_feed one some f g) (in_line l x h first e) = absurd (has_feed text l x h one)
  one_stop b text m n r q (no_feed one some h e) (in_block k y g o below j still is heads breaks f) = absurd (has_feed text k y j one)
  one_stop b text m n r q (no_feed one some f e) (no_feed two more g h) = (f ∙ sym g, e ∙ sym h)
  one_stop b text m n r q (no_feed one some f e) (no_close none still g h) = absurd (some none)
  one_stop b text m n r q (no_close none still f g) (in_line l x h first e) = absurd (some_line text l x none h)
  one_stop b text m n r q (no_close none also h e) (in_block k y g o below j still is heads breaks f) = absurd (some_line text k y none j)
  one_stop b text m n r q (no_close none still f e) (no_feed one some g h) = absurd (some none)
  one_stop b text m n r q (no_close none still f e) (no_close gone also g h) = (f ∙ sym g, e ∙ sym h)

  -- ---- a text continues, stops or ends

  pub data Next (b : StateBefore) (text : List ℕ) : Type 0 where
    next_goes : (next : StateBefore) (rest : List ℕ) → IsStateAfterLine loads T b text next rest → Next b text
    next_stops : (at : ℕ) (reason : ScriptReason) → IsFirstFaultAt loads T b text at reason → Next b text
    next_ends : text ≡ [] → b.closed ≡ true → Next b text

  said_next : (b : StateBefore) (text line behind : List ℕ) (f : LineForm) (m : List Meaning) (x : Result ScriptLine ScriptReason)
      → IsLineBefore text line behind → IsParsedAs f line m → declaration_form f ≡ None → faults.SaidVerdict laws loads b f m x
      → Next b text
  said_next b text line behind f m (Ok l) before said item verdict = elim (cases_Bool b.closed) [
    | inl closed ↦ next_stops 1 reason.After (in_line line behind before (faults.closed_first laws loads b line f m said item verdict.1 closed) refl)
    | inr still ↦ next_goes _ behind (acts line f m l before said verdict.0 (faults.open_free laws loads b line f m said item verdict.1 still) refl)
  ]
  said_next b text line behind f m (Err r) before said item verdict = next_stops 1 r (in_line line behind before (faults.core_first laws loads b line f m r said item verdict) refl)

  close_next : (b : StateBefore) (text line behind : List ℕ) (m : List Meaning) → IsLineBefore text line behind → IsParsedAs form.Close line m → Next b text
  close_next b text line behind m before said = elim (cases_Bool b.closed) [
    | inl closed ↦ next_stops 1 reason.After (in_line line behind before (faults.closed_first laws loads b line form.Close m said refl (faults.close_core laws loads b m) closed) refl)
    | inr still ↦ next_goes _ behind (closes line m before said still refl)
  ]

  pub close_or_other : (f : LineForm) → (f ≡ form.Close) ⊎ (f ≢ form.Close)
  close_or_other form.Close = inl refl
  close_or_other form.Store = inr (λ e. cc)
  close_or_other form.Submit = inr (λ e. cc)
  close_or_other form.Reply = inr (λ e. cc)
  close_or_other form.Race = inr (λ e. cc)
  close_or_other form.Turn = inr (λ e. cc)
  close_or_other form.Send = inr (λ e. cc)
  close_or_other form.Drain = inr (λ e. cc)
  close_or_other form.Moment = inr (λ e. cc)
  close_or_other form.Attach = inr (λ e. cc)
  close_or_other form.Detach = inr (λ e. cc)
  close_or_other form.Upgrade = inr (λ e. cc)
  close_or_other form.Conn = inr (λ e. cc)
  close_or_other form.Tenant = inr (λ e. cc)
  close_or_other form.Access = inr (λ e. cc)
  close_or_other form.Rate = inr (λ e. cc)
  close_or_other form.Quota = inr (λ e. cc)
  close_or_other form.Count = inr (λ e. cc)
  close_or_other form.Redact = inr (λ e. cc)

  words_next : (b : StateBefore) (text line behind : List ℕ) (f : LineForm) → IsLineBefore text line behind → form_in (words_of line) ≡ Some f → declaration_form f ≡ None → Next b text
  words_next b text line behind f before has item = elim (laws.meanings_or_first_reason (word_kinds_of f) (words_of line)) [
    | inl said ↦
        let is_said : IsParsedAs f line said.0 = record { has_form = has; said = said.1 } in
        elim (close_or_other f) [
          | inl close ↦ close_next b text line behind said.0 before (subst (λ (x : LineForm). IsParsedAs x line said.0) close is_said)
          | inr other ↦ said_next b text line behind f said.0 (decide loads b.declared b.lines f said.0) before is_said item (faults.said_verdict laws loads b f said.0 item other)
        ]
    | inr first ↦ next_stops 1 first.0 (in_line line behind before (faults.words_first laws loads b line f first.0 has item first.1) refl)
  ]

  item_fault_next : (b : StateBefore) (text line behind : List ℕ) (g : DeclarationForm) (at : ℕ) (r : ScriptReason)
      → IsLineBefore text line behind → declaration_form_in (words_of line) ≡ Some g
      → HasFirstFaultAt T true b.declared g line behind at r → Next b text
  item_fault_next b text line behind g at r before is (items.in_head first e) = next_stops 1 r (in_line line behind before (faults.head_first laws loads b line g r is first) refl)
  item_fault_next b text line behind g at r before is (items.in_block m below heads breaks e) = elim (cases_Bool b.closed) [
    | inl closed ↦ next_stops 1 reason.After (in_line line behind before (faults.head_closed laws loads b line g is heads.free closed) refl)
    | inr still ↦ next_stops (1 + below) r (in_block line behind g m below before still is heads breaks refl)
  ]

  item_next : (b : StateBefore) (text line behind : List ℕ) (g : DeclarationForm) → IsLineBefore text line behind → declaration_form_in (words_of line) ≡ Some g → Next b text
  item_next b text line behind g before is = elim (laws.declaration_exists T true b.declared g line behind) [
    | inl item ↦ elim (cases_Bool b.closed) [
      | inl closed ↦ next_stops 1 reason.After (in_line line behind before (faults.head_closed laws loads b line g is item.2.heads.free closed) refl)
      | inr still ↦ next_goes _ item.1 (declares line behind g item.0 before still is item.2 refl)
    ]
    | inr fault ↦ item_fault_next b text line behind g fault.0 fault.1 before is fault.2
  ]

  form_next : (b : StateBefore) (text line behind : List ℕ) (f : LineForm) (g : Option DeclarationForm)
      → IsLineBefore text line behind → form_in (words_of line) ≡ Some f → declaration_form f ≡ g → Next b text
  form_next b text line behind f None before has item = words_next b text line behind f before has item
  form_next b text line behind f (Some g) before has item = item_next b text line behind g before (item_of (words_of line) f has ∙ item)

  unskipped_next : (b : StateBefore) (text line behind : List ℕ) (found : Option LineForm) → IsLineBefore text line behind
      → is_skipped line ≡ false → form_in (words_of line) ≡ found → Next b text
  unskipped_next b text line behind None before unskipped none = next_stops 1 reason.Word (in_line line behind before (faults.formless_first laws loads b line unskipped none) refl)
  unskipped_next b text line behind (Some f) before unskipped has = form_next b text line behind f (declaration_form f) before has refl

  line_next : (b : StateBefore) (text line behind : List ℕ) → IsLineBefore text line behind → Next b text
  line_next b text line behind before = elim (cases_Bool (is_skipped line)) [
    | inl skipped ↦ next_goes b behind (skips line before skipped refl)
    | inr unskipped ↦ unskipped_next b text line behind (form_in (words_of line)) before unskipped refl
  ]

  last_next : (b : StateBefore) (text : List ℕ) (n : ℕ) → IsOneLine text → length text ≡ n → Next b text
  last_next b text zero one e =
      let none = nil_from_length text e in
      elim (cases_Bool b.closed) [
        | inl closed ↦ next_ends none closed
        | inr still ↦ next_stops 1 reason.Close (no_close none still refl refl)
      ]
  last_next b text (suc n) one e = next_stops 1 reason.Word (no_feed one (λ none. (let short = ap (length {A = ℕ}) none in omega (arith, e, short))) refl refl)

  pub next : (b : StateBefore) (text : List ℕ) → Next b text
  next b text = elim (split_text text) [
    | fed line behind before ↦ line_next b text line behind before
    | last one ↦ last_next b text (length text) one refl
  ]
