-- What a line means after lines is what it means in the state kept of them.
use Rattle.std.proofs.Common.{◌≡◌, ◌≢◌, ℕ, zero, suc, ◌+◌, ◌*◌, ◌^◌, ◌<◌, ◌≤◌, ◌==◌, Bool, true, false, not, ◌&&◌}
use Rattle.std.proofs.Common.{◌||◌, List, [], ◌∷◌, length, Option, Some, None, Result, Ok, Err, refl, sym, ap, ◌∙◌}
use Rattle.std.proofs.Common.{arith, inl, inr}
use Rattle.std.specs.Prelude.{nat_lt, nat_le, slice_get, option_map, if◌then◌else◌}
use Rattle.std.proofs.lemmas.Bool.{cases_Bool, cases_lt, lt-ltb, le-ltb, le-leb, lt-leb, and_right}
use Rattle.std.proofs.lemmas.List.{length-map}
use Rattle.std.proofs.lemmas.Option.{same_Some}
use Rattle.engine_core.specs.Chains.{Entry, is_named}
use Rattle.engine_core.specs.Policies.{is_same_kind}
use Rattle.engine_core.specs.declared.op.Op.TheVariants as op
use Rattle.engine_core.specs.declared.policy.Policy.{Policy}
use Rattle.engine_core.specs.declared.policy.Policy.TheVariants as policy
use Rattle.mrpc_table.specs.declared.words.Decimal.{Decimal}
use Rattle.mrpc_table.specs.declared.words.Decimal.TheVariants.{Small, Large}
use Rattle.policy_declarations.specs.Declarations.{Declared, policy_index}
use Rattle.policy_declarations.specs.DeclarationTexts.{declaration_form}
use Rattle.policy_declarations.specs.declared.declaration.NamedPolicy.{NamedPolicy}
use Rattle.script_grammar.specs.WordKinds.{Meaning, number_at, unbounded_at, name_at}
use Rattle.script_grammar.specs.declared.form.LineForm.{LineForm}
use Rattle.script_grammar.specs.declared.form.LineForm.TheVariants as form
use Rattle.script_grammar.specs.declared.fault.ScriptReason.{ScriptReason}
use Rattle.script_grammar.specs.declared.fault.ScriptReason.TheVariants as reason
use Rattle.replay_script.specs.Changes.{link_of, outline, IsConnectionState, AreValidLines, IsValidBody, IsFlawOf}
use Rattle.replay_script.specs.Deciding.{has_name, is_other, has_other, is_place, unless, some_op_reason, known_line_reason, reason_after, decided_by, decided, decide}
use Rattle.replay_script.specs.Keeping.{◌>>=◌, words_kept, links_kept, heap_kept, place_kept, load_kept, work_kept}
use Rattle.replay_script.specs.Keeping.{place_or_unknown, entry_kind_in, entry_kind_at, if_closed, line_of_store, line_of_race}
use Rattle.replay_script.specs.Keeping.{line_of_submit, attaching, detaching, upgrading, line_of_turn, line_of_open, line_of_form}
use Rattle.replay_script.specs.Keeping.{IsMade}
use Rattle.replay_script.specs.EntryKinds.{entry_kind_of, is_kind, has_entry, has_other_entry, attach_at, attach_in, attach_position, check_detach, check_upgrade, engine_in}
use Rattle.replay_script.specs.Lines.{conn_of, heap_of, chain_after_lines, submissions}
use Rattle.mrpc_table.specs.Lines.{magnitude, IsIn}
use Rattle.replay_script.specs.Words.{IsParsedAs}
use Rattle.replay_script.specs.declared.body.Body.{Body}
use Rattle.replay_script.specs.declared.body.LineError.{LineError}
use Rattle.replay_script.specs.declared.body.LineError.TheVariants as flaw
use Rattle.replay_script.specs.declared.chain.EntryOutline.{EntryOutline}
use Rattle.replay_script.specs.declared.script.ScriptLine.{ScriptLine}
use Rattle.replay_script.specs.declared.script.ScriptLine.TheVariants as line
use Rattle.replay_script.proofs.Ranges.{place_within, conn_inside}

-- ---- chains

same_kind : (p q : Policy) → is_kind (entry_kind_of p) (entry_kind_of q) ≡ is_same_kind p q
same_kind (policy.Access a) (policy.Access b) = refl
same_kind (policy.Access a) (policy.Rate b) = refl
same_kind (policy.Access a) (policy.Quota u more most) = refl
same_kind (policy.Access a) policy.Count = refl
same_kind (policy.Access a) (policy.Redact b) = refl
same_kind (policy.Rate a) (policy.Access b) = refl
same_kind (policy.Rate a) (policy.Rate b) = refl
same_kind (policy.Rate a) (policy.Quota u more most) = refl
same_kind (policy.Rate a) policy.Count = refl
same_kind (policy.Rate a) (policy.Redact b) = refl
same_kind (policy.Quota t per cap) (policy.Access b) = refl
same_kind (policy.Quota t per cap) (policy.Rate b) = refl
same_kind (policy.Quota t per cap) (policy.Quota u more most) = refl
same_kind (policy.Quota t per cap) policy.Count = refl
same_kind (policy.Quota t per cap) (policy.Redact b) = refl
same_kind policy.Count (policy.Access b) = refl
same_kind policy.Count (policy.Rate b) = refl
same_kind policy.Count (policy.Quota u more most) = refl
same_kind policy.Count policy.Count = refl
same_kind policy.Count (policy.Redact b) = refl
same_kind (policy.Redact a) (policy.Access b) = refl
same_kind (policy.Redact a) (policy.Rate b) = refl
same_kind (policy.Redact a) (policy.Quota u more most) = refl
same_kind (policy.Redact a) policy.Count = refl
same_kind (policy.Redact a) (policy.Redact b) = refl

same_has : (name : List ℕ) (es : List Entry) → has_entry name (outline es) ≡ has_name name es
same_has name [] = refl
same_has name (e ∷ es) = ap (λ b. is_named name e || b) (same_has name es)

same_other : (name : List ℕ) (p : Policy) (es : List Entry) → has_other_entry name (entry_kind_of p) (outline es) ≡ has_other name p es
same_other name p [] = refl
same_other name p (e ∷ es) =
    ap (λ b. (is_named name e && not b) || has_other_entry name (entry_kind_of p) (outline es)) (same_kind e.policy p) ∙ ap (λ b. is_other name p e || b) (same_other name p es)

-- ---- results, by what is found

abbrev both : ℕ → ℕ → ℕ × ℕ
both n p = (n, p)

in_range : (b : Bool) (l : ScriptLine) (r : ScriptReason) → ((if b then Ok tt else Err r) >>= (λ (u : Unit {0}). Ok l)) ≡ decided_by l (unless b r)
in_range true l r = refl
in_range false l r = refl

at_small : (make : ℕ → ScriptLine) (p : ℕ) (b : Bool) (r : ScriptReason) → ((if b then Ok p else Err r) >>= (λ q. Ok (make q))) ≡ decided_by (make p) (unless b r)
at_small make p true r = refl
at_small make p false r = refl

raced : (make : ℕ → ℕ → ScriptLine) (load p : ℕ) (b c : Bool)
    → ((if b then Ok load else Err reason.Place) >>=
    (λ q. (if c then Ok p else Err reason.Place) >>= (λ p. Ok (make q p))))
    ≡ decided_by (make load p) (unless (b && c) reason.Place)
raced make load p true true = refl
raced make load p true false = refl
raced make load p false c = refl

raced_far : (make : ℕ → ℕ → ScriptLine) (load p : ℕ) (b c : Bool) → c ≡ false
    → ((if b then Ok load else Err reason.Place) >>= (λ q. Err reason.Place >>= (λ p. Ok (make q p))))
    ≡ decided_by (make load p) (unless (b && c) reason.Place)
raced_far make load p true c e = sym (ap (λ (x : Bool). decided_by (make load p) (unless x reason.Place)) e)
raced_far make load p false c e = refl

place_large : (words : ℕ) → words ≤ 65536 → is_place words (2 ^ 64) ≡ false
place_large words most = and_right (nat_le 1 (2 ^ 64)) (nat_lt (2 ^ 64) words) (le-ltb (2 ^ 64) words (omega (arith, most)))

placed : (words : ℕ) → words ≤ 65536 → (make : ℕ → ScriptLine) (d : Decimal)
    → (place_kept words d >>= (λ p. Ok (make p))) ≡ decided_by (make (magnitude d))
    (unless (is_place words (magnitude d)) reason.Place)
placed words most make (Small p) = at_small make p (is_place words p) reason.Place
placed words most make Large = sym (ap (λ b. decided_by (make (2 ^ 64)) (unless b reason.Place)) (place_large words most))

race_placed : (words : ℕ) → words ≤ 65536 → (make : ℕ → ℕ → ScriptLine) (load : ℕ) (d : Decimal)
    → (load_kept load >>= (λ q. place_kept words d >>= (λ p. Ok (make q p)))) ≡ decided_by (make load (magnitude d)) (unless (nat_le 1 load && is_place words (magnitude d)) reason.Place)
race_placed words most make load (Small p) = raced make load p (nat_le 1 load) (is_place words p)
race_placed words most make load Large = raced_far make load (2 ^ 64) (nat_le 1 load) (is_place words (2 ^ 64)) (place_large words most)

turned : (es : List Entry) → length es ≤ 8 → (make : ℕ → ScriptLine) (d : Decimal)
    → (engine_in (outline es) d >>= (λ at. Ok (make at))) ≡ decided_by (make (magnitude d))
    (unless (nat_lt (magnitude d) (length es)) reason.At)
turned es few make (Small at) = ap (λ n. ((if nat_lt at n then Ok at else Err reason.At) >>= (λ x. Ok (make x))))
    (length-map es link_of) ∙ at_small make at (nat_lt at (length es)) reason.At
turned es few make Large = sym (ap (λ b. decided_by (make (2 ^ 64)) (unless b reason.At)) (le-ltb (2 ^ 64) (length es) (omega (arith, few))))

detached : (es : List Entry) (name : List ℕ) (l : ScriptLine) → (check_detach (outline es) name >>= (λ u. Ok l)) ≡ decided_by l (unless (has_name name es) reason.NoSuch)
detached es name l = ap (λ b. ((if b then Ok tt else Err reason.NoSuch) >>= (λ (u : Unit {0}). Ok l))) (same_has name es) ∙ in_range (has_name name es) l reason.NoSuch

upgraded_by : (make : ℕ → ScriptLine) (place : ℕ) (h o : Bool)
    → (((if not h then Err reason.NoSuch else if o then Err reason.OtherKind else Ok tt) >>=
    (λ (u : Unit {0}). Ok place)) >>= (λ p. Ok (make p)))
    ≡ decided_by (make place) (if h then unless (not o) reason.OtherKind else Some reason.NoSuch)
upgraded_by make place true true = refl
upgraded_by make place true false = refl
upgraded_by make place false o = refl

attached_to : (make : ℕ → ℕ → ScriptLine) (place count at : ℕ)
    → ((attach_at count at >>= (λ n. Ok (both n place))) >>= (λ p. Ok (make p.0 p.1))) ≡ decided_by (make at place)
    (if nat_lt count at then Some reason.At else if nat_le 8 count then Some reason.ChainFull else None)
attached_to make place count at = elim (cases_lt count at) [
  | inl past ↦ rw (lt-ltb count at past, lt-leb at count past) refl
  | inr within ↦ rw (le-ltb count at within, le-leb at count within) (by (nat_le 8 count))
] where
  by : (b : Bool) → (((if b then Err reason.ChainFull else Ok at) >>= (λ n. Ok (both n place))) >>=
      (λ p. Ok (make p.0 p.1))) ≡ decided_by (make at place) (if b then Some reason.ChainFull else None)
  by true = refl
  by false = refl

attached_in : (make : ℕ → ℕ → ScriptLine) (place count : ℕ) (d : Decimal) → count ≤ 8
    → ((attach_in count d >>= (λ n. Ok (both n place))) >>= (λ p. Ok (make p.0 p.1)))
    ≡ decided_by (make (magnitude d) place) (if nat_lt count (magnitude d) then Some reason.At
    else if nat_le 8 count then Some reason.ChainFull else None)
attached_in make place count (Small at) few = attached_to make place count at
attached_in make place count Large few =
    sym (ap (λ b. decided_by (make (2 ^ 64) place)
    (if b then Some reason.At else if nat_le 8 count then Some reason.ChainFull else None))
    (lt-ltb count (2 ^ 64) (omega (arith, few))))

attached : (es : List Entry) → length es ≤ 8 → (make : ℕ → ℕ → ScriptLine) (place : ℕ) (d : Decimal) (name : List ℕ)
    → ((attach_position (outline es) d name >>= (λ n. Ok (both n place))) >>= (λ p. Ok (make p.0 p.1)))
    ≡ decided_by (make (magnitude d) place) (if has_name name es then Some reason.Taken
    else if nat_lt (length es) (magnitude d) then Some reason.At
    else if nat_le 8 (length es) then Some reason.ChainFull else None)
attached es few make place d name = elim (cases_Bool (has_name name es)) [
  | inl has ↦ rw (same_has name es, has) refl
  | inr free ↦ rw (same_has name es, free, length-map es link_of) (attached_in make place (length es) d few)
]

upgraded_to : (es : List Entry) (make : ℕ → ScriptLine) (place : ℕ) (name : List ℕ) (p : Policy)
    → ((check_upgrade (outline es) name (entry_kind_of p) >>= (λ (u : Unit {0}). Ok place)) >>= (λ q. Ok (make q)))
    ≡ decided_by (make place) (if has_name name es then unless (not (has_other name p es)) reason.OtherKind
    else Some reason.NoSuch)
upgraded_to es make place name p =
    ap (λ h. ((if not h then Err reason.NoSuch else if has_other_entry name (entry_kind_of p)
    (outline es) then Err reason.OtherKind else Ok tt) >>= (λ (u : Unit {0}). Ok place)) >>= (λ q. Ok (make q)))
    (same_has name es)
    ∙ ap (λ o. ((if not (has_name name es) then Err reason.NoSuch else if o then Err reason.OtherKind else Ok tt) >>=
    (λ (u : Unit {0}). Ok place)) >>= (λ q. Ok (make q))) (same_other name p es)
    ∙ upgraded_by make place (has_name name es) (has_other name p es)

there_is : {X : Type 0} (xs : List X) (i : ℕ) → i < length xs → (x : X) × (slice_get xs i ≡ Some x)
there_is [] i within = absurd (omega (arith, within))
there_is (x ∷ xs) zero within = (x, refl)
there_is (x ∷ xs) (suc i) within = there_is xs i (omega (arith, within))

-- ---- heaps are small

heap_small : (n : ℕ) (lines : List ScriptLine) (conn : ℕ) → AreValidLines n lines → (w : ℕ) → heap_of lines conn ≡ Some w → w ≤ 65536
heap_small n [] conn ranges w e = absurd cc
heap_small n (line.Conn c v ∷ lines) conn ranges w e = elim (cases_Bool (c == conn)) [
  | inl same ↦ (let is : v ≡ w = same_Some v w (rw same at e) in let few = ranges.0.1 in omega (arith, is, few))
  | inr other ↦ heap_small n lines conn ranges.1 w (rw other at e)
]
heap_small n (line.Store c place value ∷ lines) conn ranges w e = heap_small n lines conn ranges.1 w e
heap_small n (line.Race c load place value ∷ lines) conn ranges w e = heap_small n lines conn ranges.1 w e
heap_small n (line.Submit c method number addr ∷ lines) conn ranges w e = heap_small n lines conn ranges.1 w e
heap_small n (line.Attach c at name policy ∷ lines) conn ranges w e = heap_small n lines conn ranges.1 w e
heap_small n (line.Detach c name ∷ lines) conn ranges w e = heap_small n lines conn ranges.1 w e
heap_small n (line.Upgrade c name policy ∷ lines) conn ranges w e = heap_small n lines conn ranges.1 w e
heap_small n (line.Moment c ms ∷ lines) conn ranges w e = heap_small n lines conn ranges.1 w e
heap_small n (line.Turn c at ∷ lines) conn ranges w e = heap_small n lines conn ranges.1 w e
heap_small n (line.Send c ∷ lines) conn ranges w e = heap_small n lines conn ranges.1 w e
heap_small n (line.Drain c ∷ lines) conn ranges w e = heap_small n lines conn ranges.1 w e

-- ---- lines

module _ (loads : ℕ) (d : Declared) (b : Body) (k : IsValidBody loads d b) where
  abbrev Decided : ScriptLine → Result ScriptLine ScriptReason
  Decided l = decided_by l (reason_after loads d.policies b.lines l)

  -- a line of a connection, open or not
  abbrev Known : ScriptLine → Option ℕ → Result ScriptLine ScriptReason
  Known l heap = decided_by l (known_line_reason loads d.policies heap (chain_after_lines d.policies b.lines (conn_of l)).entries (submissions b.lines) l)

  module _ (conn : ℕ) (inside : IsIn 1 16 conn) where
    abbrev kept : IsConnectionState d.policies b conn
    kept = k.connections conn inside.0 inside.1

    heap_is : (w : ℕ) → heap_of b.lines conn ≡ Some w → w ≤ 65536
    heap_is w e = heap_small (length d.policies) b.lines conn k.lines w e

    -- what a line means, by the kept heap
    by_heap : (said : Option ℕ → Result ScriptLine ScriptReason) (l : ScriptLine) → conn_of l ≡ conn
        → ((found : Option ℕ) → heap_of b.lines conn ≡ found → said found ≡ Known l found)
        → said (words_kept b conn) ≡ Decided l
    by_heap said l same each =
        ap said kept.words ∙ each (heap_of b.lines conn) refl ∙ ap (λ (h : Option ℕ). Known l h) (ap (heap_of b.lines) (sym same))

    abbrev entries : List Entry
    entries = (chain_after_lines d.policies b.lines conn).entries

    few : length entries ≤ 8
    few = (let at_most = kept.few in let same = ap (length {A = EntryOutline}) kept.links in let mapped = length-map entries link_of in omega (arith, at_most, same, mapped))

    conn_decided : (words : ℕ) → if_closed (words_kept b conn) (line.Conn conn words) ≡ Decided (line.Conn conn words)
    conn_decided words = by_heap (λ h. if_closed h (line.Conn conn words)) (line.Conn conn words) refl (λ found e. of found) where
      of : (found : Option ℕ) → if_closed found (line.Conn conn words) ≡ Known (line.Conn conn words) found
      of None = refl
      of (Some w) = refl

    store_decided : (at : Decimal) (value : ℕ)
        → (heap_kept (words_kept b conn) >>= (λ w. place_kept w at >>= (λ p. Ok (line.Store conn p value))))
        ≡ Decided (line.Store conn (magnitude at) value)
    store_decided at value = by_heap (λ h. heap_kept h >>= (λ w. place_kept w at >>= (λ p. Ok (line.Store conn p value)))) (line.Store conn (magnitude at) value) refl of where
      of : (found : Option ℕ) → heap_of b.lines conn ≡ found
          → (heap_kept found >>= (λ w. place_kept w at >>= (λ p. Ok (line.Store conn p value))))
          ≡ Known (line.Store conn (magnitude at) value) found
      of None e = refl
      of (Some w) e = placed w (heap_is w e) (λ p. line.Store conn p value) at

    race_decided : (load : ℕ) (at : Decimal) (value : ℕ)
        → (heap_kept (words_kept b conn) >>=
        (λ w. load_kept load >>= (λ q. place_kept w at >>= (λ p. Ok (line.Race conn q p value)))))
        ≡ Decided (line.Race conn load (magnitude at) value)
    race_decided load at value =
        by_heap (λ h. heap_kept h >>=
        (λ w. load_kept load >>= (λ q. place_kept w at >>= (λ p. Ok (line.Race conn q p value)))))
        (line.Race conn load (magnitude at) value) refl of where
          of : (found : Option ℕ) → heap_of b.lines conn ≡ found
              → (heap_kept found >>=
              (λ w. load_kept load >>= (λ q. place_kept w at >>= (λ p. Ok (line.Race conn q p value)))))
              ≡ Known (line.Race conn load (magnitude at) value) found
          of None e = refl
          of (Some w) e = race_placed w (heap_is w e) (λ q p. line.Race conn q p value) load at

    submit_decided : (method number addr : ℕ)
        → (heap_kept (words_kept b conn) >>=
        (λ w. work_kept ((b.submissions + 1) * loads) >>= (λ u. Ok (line.Submit conn method number addr))))
        ≡ Decided (line.Submit conn method number addr)
    submit_decided method number addr =
        by_heap (λ h. heap_kept h >>=
        (λ w. work_kept ((b.submissions + 1) * loads) >>= (λ u. Ok (line.Submit conn method number addr))))
        (line.Submit conn method number addr) refl of where
          of : (found : Option ℕ) → heap_of b.lines conn ≡ found
              → (heap_kept found >>=
              (λ w. work_kept ((b.submissions + 1) * loads) >>= (λ u. Ok (line.Submit conn method number addr))))
              ≡ Known (line.Submit conn method number addr) found
          of None e = refl
          of (Some w) e =
              ap (λ n. work_kept ((n + 1) * loads) >>= (λ u. Ok (line.Submit conn method number addr))) k.submissions
              ∙ in_range (nat_le ((submissions b.lines + 1) * loads) 16777216) (line.Submit conn method number addr) reason.Work

    turn_decided : (at : Decimal)
        → (heap_kept (words_kept b conn) >>= (λ w. engine_in (links_kept b conn) at >>= (λ p. Ok (line.Turn conn p))))
        ≡ Decided (line.Turn conn (magnitude at))
    turn_decided at = by_heap (λ h. heap_kept h >>= (λ w. engine_in (links_kept b conn) at >>= (λ p. Ok (line.Turn conn p)))) (line.Turn conn (magnitude at)) refl of where
      of : (found : Option ℕ) → heap_of b.lines conn ≡ found
          → (heap_kept found >>= (λ w. engine_in (links_kept b conn) at >>= (λ p. Ok (line.Turn conn p))))
          ≡ Known (line.Turn conn (magnitude at)) found
      of None e = refl
      of (Some w) e = ap (λ (ls : List EntryOutline). engine_in ls at >>= (λ p. Ok (line.Turn conn p))) kept.links ∙ turned entries few (λ p. line.Turn conn p) at

    detach_decided : (name : List ℕ)
        → ((heap_kept (words_kept b conn) >>= (λ w. check_detach (links_kept b conn) name)) >>=
        (λ u. Ok (line.Detach conn name))) ≡ Decided (line.Detach conn name)
    detach_decided name = by_heap (λ h. (heap_kept h >>= (λ w. check_detach (links_kept b conn) name)) >>= (λ u. Ok (line.Detach conn name))) (line.Detach conn name) refl of where
      of : (found : Option ℕ) → heap_of b.lines conn ≡ found
          → ((heap_kept found >>= (λ w. check_detach (links_kept b conn) name)) >>=
          (λ u. Ok (line.Detach conn name))) ≡ Known (line.Detach conn name) found
      of None e = refl
      of (Some w) e = ap (λ (ls : List EntryOutline). check_detach ls name >>= (λ u. Ok (line.Detach conn name))) kept.links ∙ detached entries name (line.Detach conn name)

    attach_decided : (at : Decimal) (name : List ℕ) (policy : Option ℕ) → ((p : ℕ) → policy ≡ Some p → p < length d.policies)
        → ((heap_kept (words_kept b conn) >>=
        (λ w. place_or_unknown policy >>=
        (λ p. attach_position (links_kept b conn) at name >>= (λ n. Ok (both n p))))) >>=
        (λ p. Ok (line.Attach conn p.0 name p.1)))
        ≡ decided loads d.policies b.lines (option_map (line.Attach conn (magnitude at) name) policy)
    attach_decided at name None within = none (words_kept b conn) where
      none : (found : Option ℕ)
          → ((heap_kept found >>=
          (λ w. place_or_unknown None >>= (λ p. attach_position (links_kept b conn) at name >>= (λ n. Ok (both n p)))))
          >>= (λ p. Ok (line.Attach conn p.0 name p.1))) ≡ Err reason.Unknown
      none None = refl
      none (Some w) = refl
    attach_decided at name (Some p) within =
        by_heap (λ h. (heap_kept h >>= (λ w. attach_position (links_kept b conn) at name >>= (λ n. Ok (both n p)))) >>=
        (λ p. Ok (line.Attach conn p.0 name p.1))) (line.Attach conn (magnitude at) name p) refl of where
          of : (found : Option ℕ) → heap_of b.lines conn ≡ found
              → ((heap_kept found >>= (λ w. attach_position (links_kept b conn) at name >>= (λ n. Ok (both n p)))) >>=
              (λ p. Ok (line.Attach conn p.0 name p.1))) ≡ Known (line.Attach conn (magnitude at) name p) found
          of None e = refl
          of (Some w) e =
              let q = there_is d.policies p (within p refl) in
              ap (λ (ls : List EntryOutline). (attach_position ls at name >>= (λ n. Ok (both n p))) >>= (λ p. Ok (line.Attach conn p.0 name p.1))) kept.links
              ∙ attached entries few (λ n p. line.Attach conn n name p) p at name
              ∙ sym (ap (λ (o : Option NamedPolicy). decided_by (line.Attach conn (magnitude at) name p)
              (some_op_reason (option_map (λ r. op.Attach (magnitude at) name r.name r.policy) o) entries)) q.1)

    upgrade_decided : (name : List ℕ) (policy : Option ℕ) → ((p : ℕ) → policy ≡ Some p → p < length d.policies)
        → ((heap_kept (words_kept b conn) >>=
        (λ w. place_or_unknown policy >>= (λ p. check_upgrade (links_kept b conn) name (entry_kind_at d p) >>=
        (λ u. Ok p)))) >>= (λ p. Ok (line.Upgrade conn name p)))
        ≡ decided loads d.policies b.lines (option_map (line.Upgrade conn name) policy)
    upgrade_decided name None within = none (words_kept b conn) where
      none : (found : Option ℕ)
          → ((heap_kept found >>=
          (λ w. place_or_unknown None >>= (λ p. check_upgrade (links_kept b conn) name (entry_kind_at d p) >>=
          (λ u. Ok p)))) >>= (λ p. Ok (line.Upgrade conn name p))) ≡ Err reason.Unknown
      none None = refl
      none (Some w) = refl
    upgrade_decided name (Some p) within =
        by_heap (λ h. (heap_kept h >>= (λ w. check_upgrade (links_kept b conn) name (entry_kind_at d p) >>= (λ u. Ok p)))
        >>= (λ p. Ok (line.Upgrade conn name p))) (line.Upgrade conn name p) refl of where
          of : (found : Option ℕ) → heap_of b.lines conn ≡ found
              → ((heap_kept found >>= (λ w. check_upgrade (links_kept b conn) name (entry_kind_at d p) >>= (λ u. Ok p)))
              >>= (λ p. Ok (line.Upgrade conn name p))) ≡ Known (line.Upgrade conn name p) found
          of None e = refl
          of (Some w) e =
              let q = there_is d.policies p (within p refl) in
              ap (λ (ls : List EntryOutline). (check_upgrade ls name (entry_kind_at d p) >>= (λ u. Ok p)) >>= (λ p. Ok (line.Upgrade conn name p))) kept.links
              ∙ ap (λ (o : Option NamedPolicy). (check_upgrade (outline entries) name (entry_kind_in o) >>= (λ u. Ok p)) >>= (λ p. Ok (line.Upgrade conn name p))) q.1
              ∙ upgraded_to entries (λ p. line.Upgrade conn name p) p name q.0.policy
              ∙ sym (ap (λ (o : Option NamedPolicy). decided_by (line.Upgrade conn name p) (some_op_reason (option_map (λ r. op.Upgrade name r.name r.policy) o) entries)) q.1)

    used_decided : (l : ScriptLine) → conn_of l ≡ conn
        → ((heap : Option ℕ) → (heap_kept heap >>= (λ w. Ok l)) ≡ Known l heap)
        → (heap_kept (words_kept b conn) >>= (λ w. Ok l)) ≡ Decided l
    used_decided l same each = by_heap (λ h. heap_kept h >>= (λ w. Ok l)) l same (λ found e. each found)

  pub said_decided : (f : LineForm) (m : List Meaning) → IsIn 1 16 (number_at m 1) → f ≢ form.Close → declaration_form f ≡ None → line_of_form loads d b f m ≡ decide loads d b.lines f m
  unfolding line_of_store line_of_race line_of_submit attaching detaching upgrading line_of_turn line_of_open
  said_decided form.Conn m inside still item = conn_decided (number_at m 1) inside (number_at m 2)
  said_decided form.Store m inside still item = store_decided (number_at m 1) inside (unbounded_at m 2) (number_at m 3)
  said_decided form.Race m inside still item = race_decided (number_at m 1) inside (number_at m 2) (unbounded_at m 3) (number_at m 4)
  said_decided form.Submit m inside still item = submit_decided (number_at m 1) inside (number_at m 2) 0 (number_at m 3)
  said_decided form.Reply m inside still item = submit_decided (number_at m 1) inside (number_at m 2) (number_at m 4) (number_at m 3)
  said_decided form.Attach m inside still item =
      attach_decided (number_at m 1) inside (unbounded_at m 2) (name_at m 3) (policy_index d (name_at m 4)) (λ p e. place_within d (name_at m 4) p e)
  said_decided form.Detach m inside still item = detach_decided (number_at m 1) inside (name_at m 2)
  said_decided form.Upgrade m inside still item = upgrade_decided (number_at m 1) inside (name_at m 2) (policy_index d (name_at m 3)) (λ p e. place_within d (name_at m 3) p e)
  said_decided form.Moment m inside still item = used_decided (number_at m 1) inside (line.Moment (number_at m 1) (number_at m 2)) refl of where
    of : (found : Option ℕ) → (heap_kept found >>= (λ w. Ok (line.Moment (number_at m 1) (number_at m 2)))) ≡ Known (line.Moment (number_at m 1) (number_at m 2)) found
    of None = refl
    of (Some w) = refl
  said_decided form.Turn m inside still item = turn_decided (number_at m 1) inside (unbounded_at m 2)
  said_decided form.Send m inside still item = used_decided (number_at m 1) inside (line.Send (number_at m 1)) refl of where
    of : (found : Option ℕ) → (heap_kept found >>= (λ w. Ok (line.Send (number_at m 1)))) ≡ Known (line.Send (number_at m 1)) found
    of None = refl
    of (Some w) = refl
  said_decided form.Drain m inside still item = used_decided (number_at m 1) inside (line.Drain (number_at m 1)) refl of where
    of : (found : Option ℕ) → (heap_kept found >>= (λ w. Ok (line.Drain (number_at m 1)))) ≡ Known (line.Drain (number_at m 1)) found
    of None = refl
    of (Some w) = refl
  said_decided form.Tenant m inside still item = absurd cc
  said_decided form.Access m inside still item = absurd cc
  said_decided form.Rate m inside still item = absurd cc
  said_decided form.Quota m inside still item = absurd cc
  said_decided form.Count m inside still item = absurd cc
  said_decided form.Redact m inside still item = absurd cc
  said_decided form.Close m inside still item = absurd (still refl)

  pub said_by : (f : LineForm) (text : List ℕ) (m : List Meaning) → IsParsedAs f text m → declaration_form f ≡ None → f ≢ form.Close → line_of_form loads d b f m ≡ decide loads d b.lines f m
  said_by f text m said item still = said_decided f m (conn_inside f text m said item still) still item

  pub flaw_of : (f : LineForm) (m : List Meaning) → f ≢ form.Close → line_of_form loads d b f m ≡ decide loads d b.lines f m
      → (e : LineError) → IsMade (line_of_form loads d b f m) (Err e) → IsFlawOf loads d b f m e
  flaw_of f m still same (flaw.Reason r) made = (still, sym same ∙ made)
  flaw_of f m still same flaw.Memory made = tt
