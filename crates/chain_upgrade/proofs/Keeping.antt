-- Operations and turns preserve the invariant of a chain's fields.
use Rattle.std.proofs.Common.{◌≡◌, ℕ, ◌+◌, ◌-◌, ◌<◌, ◌≤◌, zero, suc, List, [], ◌∷◌, ◌++◌, length, filter, nat_le}
use Rattle.std.proofs.Common.{subst, take, drop, get_or, insert, remove, All, None, refl, ap, ◌∙◌, arith}
use Rattle.std.proofs.Common.{length-append, length-take, length-drop}
use Rattle.std.proofs.lemmas.List.{length-map, map-append}
use Rattle.engine_core.specs.Chains.{Entry}
use Rattle.engine_core.specs.Engines.{EngineParts}
use Rattle.engine_core.specs.Marks.{IsTrueFor, PendingCall, note_of, seqs_of}
use Rattle.engine_core.specs.Moves.{Row}
use Rattle.chain_upgrade.specs.Chains.{ChainParts, ArePendingOn, IsChainState}
use Rattle.chain_upgrade.specs.Cuts.{row_from, cut_at, IsFalling, zeroed, closed_up, raised_at, taken_out, lowered}
use Rattle.chain_upgrade.specs.Kept.{IsKept}
use Rattle.chain_upgrade.proofs.CutLaws.{cut-low, position-short}
use Rattle.chain_upgrade.proofs.KeepLaws.{falls-more, falls-zeroed, falls-closed, falls-raised, falls-out}
use Rattle.chain_upgrade.proofs.KeepLaws.{falls-lowered, falls-none, short-more, short-zeroed}
use Rattle.chain_upgrade.proofs.KeepLaws.{short-closed, short-raised, short-out, short-lowered}
use Rattle.chain_upgrade.proofs.RowLaws.{all-count, cut-count, row-numbers, row-falls, row-push}
use Rattle.chain_upgrade.proofs.Stands.{stands-push, stands-without, stands-cleared}

-- the chain as callers see it
pub is-standing : (es : List EngineParts) (room n : ℕ) (calls : List PendingCall) (cuts : List ℕ) → IsKept es room n calls cuts
    → IsChainState (record { engines = es; attached = n; calls = calls; row = row_from 0 cuts (seqs_of calls) })
is-standing es room n calls cuts kept = record {
  stands = kept.stands;
  row = row-numbers 0 cuts (seqs_of calls);
  falls = row-falls 0 (length es) cuts (seqs_of calls) (position-short 0 (length es) cuts kept.short);
}

pub kept-push : (es : List EngineParts) (room n : ℕ) (calls : List PendingCall) (cuts : List ℕ) (s : PendingCall)
    → ((e : Entry) (s : PendingCall) → note_of s.marks e.attach ≡ None → IsTrueFor e s)
    → IsKept es room n calls cuts → length calls < 64 → s.marks ≡ [] → All (λ t. t.call.seq < s.call.seq) calls
    → IsKept es room n (calls ++ s ∷ []) cuts
kept-push es room n calls cuts s law kept few none less = record {
  stands = stands-push es n calls s law kept.stands few none less;
  falls = falls-more (length calls) (length (calls ++ s ∷ [])) cuts (omega (arith, length-append calls (s ∷ []))) kept.falls;
  short = kept.short;
  room_for = kept.room_for;
}

length-remove : {X : Type 0} (xs : List X) (i : ℕ) → i < length xs → length xs ≡ length (remove xs i) + 1
length-remove xs i inside = omega (arith, length-append (take i xs) (drop (suc i) xs), length-take i xs, length-drop (suc i) xs)

pub kept-without : (es : List EngineParts) (room n j : ℕ) (calls : List PendingCall) (cuts : List ℕ)
    → IsKept es room n calls cuts → j < length calls → IsKept es room n (remove calls j) (taken_out j cuts)
kept-without es room n j calls cuts kept inside =
    let one = length-remove calls j inside in
    record {
      stands = stands-without es n calls j kept.stands;
      falls = falls-out (length calls) (length (remove calls j)) j cuts one (omega arith) kept.falls;
      short = short-out (length es) j cuts kept.short;
      room_for = kept.room_for;
    }

pub kept-cleared : (es : List EngineParts) (room n : ℕ) (calls : List PendingCall) (cuts : List ℕ) → IsKept es room n calls cuts
    → IsKept es room n [] (lowered 0 cuts)
kept-cleared es room n calls cuts kept = record {
  stands = stands-cleared es n calls kept.stands;
  falls = falls-none (length calls) cuts kept.falls;
  short = short-lowered (length es) 0 cuts kept.short;
  room_for = kept.room_for;
}

pub kept-attach : (es : List EngineParts) (room n p : ℕ) (calls : List PendingCall) (cuts : List ℕ) (e : EngineParts)
    → IsKept es room n calls cuts → p ≤ length es → ArePendingOn (insert es p e) (n + 1) calls
    → IsKept (insert es p e) room (n + 1) calls (zeroed p cuts)
kept-attach es room n p calls cuts e kept le stands = record {
  stands = stands;
  falls = falls-zeroed (length calls) p cuts kept.falls;
  short = short-more p (length (insert es p e)) (zeroed p cuts)
      (omega (arith, length-append (take p es) (e ∷ drop p es), length-take p es)) (short-zeroed p cuts);
  room_for = kept.room_for;
}

pub kept-detach : (es : List EngineParts) (room n p : ℕ) (calls : List PendingCall) (cuts : List ℕ)
    → IsKept es room n calls cuts → p < length es → ArePendingOn (remove es p) n calls
    → IsKept (remove es p) room n calls (closed_up p cuts)
kept-detach es room n p calls cuts kept inside stands =
    let one = length-remove es p inside in
    record {
      stands = stands;
      falls = falls-closed (length calls) p cuts kept.falls;
      short = short-closed (length (remove es p)) p cuts (omega arith) (short-more (length es) (suc (length (remove es p))) cuts (omega arith) kept.short);
      room_for = kept.room_for;
    }

pub kept-upgrade : (es es' : List EngineParts) (room n p : ℕ) (calls : List PendingCall) (cuts : List ℕ)
    → IsKept es room n calls cuts → p < length es → length es' ≡ length es → ArePendingOn es' n calls
    → IsKept es' room n calls (zeroed p cuts)
kept-upgrade es es' room n p calls cuts kept inside long stands = record {
  stands = stands;
  falls = falls-zeroed (length calls) p cuts kept.falls;
  short = short-more p (length es') (zeroed p cuts) (omega arith) (short-zeroed p cuts);
  room_for = kept.room_for;
}

-- ---- after a turn

module _ (es es' : List EngineParts) (room n p j : ℕ) (calls calls' : List PendingCall) (cuts : List ℕ)
    (kept : IsKept es room n calls cuts) (long : length es' ≡ length es) (many : length calls' ≡ length calls) (stands : ArePendingOn es' n calls') where
  pub kept-same : IsKept es' room n calls' cuts
  kept-same = record {
    stands = stands;
    falls = falls-more (length calls) (length calls') cuts (omega arith) kept.falls;
    short = short-more (length es) (length es') cuts (omega arith) kept.short;
    room_for = kept.room_for;
  }

  pub kept-raised : p < length es → get_or cuts p 0 < cut_at (length calls) cuts p → IsKept es' room n calls' (raised_at p cuts)
  kept-raised inside below = record {
    stands = stands;
    falls = falls-more (length calls) (length calls') (raised_at p cuts) (omega arith) (falls-raised (length calls) p cuts kept.falls below);
    short = short-more (length es) (length es') (raised_at p cuts) (omega arith) (short-raised (length es) p cuts inside kept.short);
    room_for = kept.room_for;
  }

  pub kept-lowered : IsKept es' room n calls' (lowered j cuts)
  kept-lowered = record {
    stands = stands;
    falls = falls-more (length calls) (length calls') (lowered j cuts) (omega arith) (falls-lowered (length calls) j cuts kept.falls);
    short = short-more (length es) (length es') (lowered j cuts) (omega arith) (short-lowered (length es) j cuts kept.short);
    room_for = kept.room_for;
  }

-- ---- properties of a chain

pub same-fall : (calls : List PendingCall) (cuts : List ℕ) → IsFalling (length calls) cuts → IsFalling (length (seqs_of calls)) cuts
same-fall calls cuts falls = falls-more (length calls) (length (seqs_of calls)) cuts (omega (arith, length-map calls (λ (s : PendingCall). s.call.seq))) falls

abbrev pub seen-of : List EngineParts → ℕ → List PendingCall → List ℕ → ChainParts
seen-of es n calls cuts = record { engines = es; attached = n; calls = calls; row = row_from 0 cuts (seqs_of calls) }

pub pushed : (es : List EngineParts) (n : ℕ) (calls calls' : List PendingCall) (cuts : List ℕ) (s : PendingCall) (v : ChainParts)
    → seen-of es n calls cuts ≡ v → calls' ≡ calls ++ s ∷ [] → IsFalling (length calls) cuts
    → seen-of es n calls' cuts ≡ record { engines = v.engines; attached = v.attached; calls = v.calls ++ s ∷ []; row = v.row ++ (s.call.seq, 0) ∷ [] }
pushed es n calls calls' cuts s v seen new falls =
    let numbers : seqs_of (calls ++ s ∷ []) ≡ seqs_of calls ++ s.call.seq ∷ [] = map-append (λ (s : PendingCall). s.call.seq) calls (s ∷ []) in
    let row : row_from 0 cuts (seqs_of (calls ++ s ∷ [])) ≡ row_from 0 cuts (seqs_of calls) ++ (s.call.seq, 0) ∷ [] =
    ap (λ (seqs : List ℕ). row_from 0 cuts seqs) numbers ∙ row-push cuts (seqs_of calls) s.call.seq (same-fall calls cuts falls) in
    let core : seen-of es n (calls ++ s ∷ []) cuts ≡ record {
      engines = es;
      attached = n;
      calls = calls ++ s ∷ [];
      row = row_from 0 cuts (seqs_of calls) ++ (s.call.seq, 0) ∷ [];
    } =
    ap {B = ChainParts} (λ (row : Row). record { engines = es; attached = n; calls = calls ++ s ∷ []; row = row }) row in
    subst (λ (v : ChainParts). seen-of es n calls' cuts ≡ record { engines = v.engines; attached = v.attached; calls = v.calls ++ s ∷ []; row = v.row ++ (s.call.seq, 0) ∷ [] }) seen
    (ap (λ (calls : List PendingCall). seen-of es n calls cuts) new ∙ core)

pub cut-none : (es : List EngineParts) (n i : ℕ) (calls : List PendingCall) (cuts : List ℕ) (v : ChainParts) → seen-of es n calls cuts ≡ v → i ≡ 0
    → length (filter (λ call. nat_le i call.1) v.row) ≡ length calls
cut-none es n zero calls cuts v seen is =
    subst (λ (v : ChainParts). length (filter (λ call. nat_le 0 call.1) v.row) ≡ length calls) seen
    (all-count 0 cuts (seqs_of calls) ∙ length-map calls (λ (s : PendingCall). s.call.seq))
cut-none es n (suc i) calls cuts v seen is = absurd (omega arith)

pub cut-some : (es : List EngineParts) (n i : ℕ) (calls : List PendingCall) (cuts : List ℕ) (v : ChainParts) → seen-of es n calls cuts ≡ v → (i ≡ 0 → ⊥)
    → IsFalling (length calls) cuts → length (filter (λ call. nat_le i call.1) v.row) ≡ get_or cuts (i - 1) 0
cut-some es n zero calls cuts v seen is falls = absurd (is refl)
cut-some es n (suc p) calls cuts v seen is falls =
    let low : get_or cuts p 0 ≤ length (seqs_of calls) = cut-low (length (seqs_of calls)) (suc p) cuts (same-fall calls cuts falls) in
    let place : p ≡ suc p - 1 = omega arith in
    subst (λ (v : ChainParts). length (filter (λ call. nat_le (suc p) call.1) v.row) ≡ get_or cuts p 0) seen
    (cut-count p cuts (seqs_of calls) (same-fall calls cuts falls) low)
    ∙ ap (λ (q : ℕ). get_or cuts q 0) place

-- ---- the fields as the code sets them

pub kept-as : (es es' : List EngineParts) (room room' n : ℕ) (calls calls' : List PendingCall) (cuts cuts' : List ℕ) → es' ≡ es → room' ≡ room → calls' ≡ calls
    → cuts' ≡ cuts → IsKept es room n calls cuts → IsKept es' room' n calls' cuts'
kept-as es es' room room' n calls calls' cuts cuts' engines rooms stand behind kept = rw (engines, rooms, stand, behind) kept
