-- The effect of a timestamp on engines.
use Rattle.std.proofs.Common.{◌≡◌, ℕ, ◌+◌, ◌<◌, max, zero, suc, List, [], ◌∷◌, ◌++◌, length, take, drop, set}
use Rattle.std.proofs.Common.{get_or, map, slice_get, All, Some, refl, ap, sym, ◌∙◌, subst, arith, get_or-drop}
use Rattle.std.proofs.lemmas.List.{drop-drop, drop-set-lt, length-map, map_more, take_at, take_more_set}
use Rattle.std.proofs.lemmas.List.Elements.{All-map}
use Rattle.policy_rate.specs.Level.{BucketEvent, moment}
use Rattle.policy_rate.specs.declared.rate.Rate.{Rate as RatePolicy}
use Rattle.engine_core.specs.Engines.{EngineParts, IsHistoryOfBucket, clocked}
use Rattle.engine_core.specs.Marks.{IsTrueFor, PendingCall}
use Rattle.engine_core.specs.Policies.{IsPolicy}
use Rattle.chain_upgrade.specs.Chains.{ArePendingOn}
use Rattle.chain_upgrade.specs.Kept.{IsKept}
use Rattle.chain_upgrade.proofs.KeepLaws.{short-more}

-- ---- one more item

same-item : {X : Type 0} (xs ys : List X) (i : ℕ) (d : X) → drop i xs ≡ drop i ys → get_or xs i d ≡ get_or ys i d
same-item {X = X} xs ys i d e =
    let none : i + 0 ≡ i = omega arith in
    ap (λ (n : ℕ). get_or xs n d) (sym none) ∙ (sym (get_or-drop i xs 0 d) ∙ (ap (λ (zs : List X). get_or zs 0 d) e ∙ (get_or-drop i ys 0 d
    ∙ ap (λ (n : ℕ). get_or ys n d) none)))

pub changed-one-more : {X : Type 0} (f : X → X) (items init : List X) (i : ℕ) (x y : X) → i < length items → i < length init
    → take i items ≡ map f (take i init) → drop i items ≡ drop i init → y ≡ f (get_or items i x)
    → take (i + 1) (set items i y) ≡ map f (take (i + 1) init)
changed-one-more {X = X} f items init i x y here there changed others is =
    take_more_set items i y here ∙ (ap (λ (zs : List X). zs ++ y ∷ []) changed
    ∙ (ap (λ (z : X). map f (take i init) ++ z ∷ []) (is ∙ ap f (same-item items init i x others)) ∙ sym (map_more f init i x there)))

pub others-one-more : {X : Type 0} (items init : List X) (i : ℕ) (y : X) → drop i items ≡ drop i init
    → drop (i + 1) (set items i y) ≡ drop (i + 1) init
others-one-more {X = X} items init i y others =
    drop-set-lt (i + 1) items i y (omega arith) ∙ (sym (drop-drop 1 i items) ∙ (ap (λ (zs : List X). drop 1 zs) others ∙ drop-drop 1 i init))

-- the engines after the loop, as they are written back
pub written-back : (now : ℕ) (es lent new : List EngineParts) (n : ℕ) → new ≡ map (λ e. clocked now e) lent → lent ≡ es → length es ≡ n
    → take n (new ++ drop (length new) es) ≡ map (λ e. clocked now e) es
written-back now es lent new n is same many =
    let all : new ≡ map (λ e. clocked now e) es = is ∙ ap (λ (es : List EngineParts). map (λ e. clocked now e) es) same in
    take_at new (drop (length new) es) n (omega (arith, ap (λ (es : List EngineParts). length es) all, length-map es (λ (e : EngineParts). clocked now e))) ∙ all

-- ---- a chain after a timestamp

same-entries : (now : ℕ) (es : List EngineParts) → map (λ e. e.entry) (map (λ e. clocked now e) es) ≡ map (λ e. e.entry) es
same-entries now [] = refl
same-entries now (e ∷ es) = let rest = same-entries now es in cc

stands-clocked : (now : ℕ) (es : List EngineParts) (n : ℕ) (calls : List PendingCall) → ArePendingOn es n calls
    → ArePendingOn (map (λ e. clocked now e) es) n calls
stands-clocked now es n calls st = record {
  chain = rw (same-entries now es) st.chain;
  policies = All-map (λ e. IsPolicy e.entry.policy) (λ e. clocked now e) es st.policies;
  few = st.few;
  ascend = st.ascend;
  marks = st.marks;
  true_for = All-map (λ e. All (λ s. IsTrueFor e.entry s) calls) (λ e. clocked now e) es st.true_for;
}

pub kept-clocked : (now : ℕ) (es : List EngineParts) (room n : ℕ) (calls : List PendingCall) (cuts : List ℕ) → IsKept es room n calls cuts
    → IsKept (map (λ e. clocked now e) es) room n calls cuts
kept-clocked now es room n calls cuts kept = record {
  stands = stands-clocked now es n calls kept.stands;
  falls = kept.falls;
  short = short-more (length es) (length (map (λ e. clocked now e) es)) cuts (omega (arith, length-map es (λ (e : EngineParts). clocked now e))) kept.short;
  room_for = kept.room_for;
}

-- ---- the past of a bucket

past-clocked : (now : ℕ) (e : EngineParts) (first : RatePolicy) (start : ℕ) (past : List BucketEvent) → IsHistoryOfBucket e first start past
    → IsHistoryOfBucket (clocked now e) first start (moment now ∷ past)
past-clocked now e first start past has = record {
  policy = has.policy;
  level = rw (has.policy, has.level, has.last) refl;
  last = ap (λ (l : ℕ). max l now) has.last;
  paid = has.paid;
}

pub pasts-clocked : (now : ℕ) (es es' : List EngineParts) (at : ℕ) (e e' : EngineParts) (first : RatePolicy) (start : ℕ) (past : List BucketEvent)
    → es' ≡ map (λ e. clocked now e) es → slice_get es at ≡ Some e → slice_get es' at ≡ Some e' → IsHistoryOfBucket e first start past
    → IsHistoryOfBucket e' first start (moment now ∷ past)
pasts-clocked now es [] at e e' first start past all is is' has = absurd cc
pasts-clocked now [] (x' ∷ xs') at e e' first start past all is is' has = absurd cc
pasts-clocked now (x ∷ xs) (x' ∷ xs') zero e e' first start past all is is' has =
    let old : x ≡ e = cc in
    let new : x' ≡ e' = cc in
    let moved : x' ≡ clocked now x = cc in
    subst (λ (e' : EngineParts). IsHistoryOfBucket e' first start (moment now ∷ past)) (ap (λ (x : EngineParts). clocked now x) (sym old) ∙ (sym moved ∙ new))
    (past-clocked now e first start past has)
pasts-clocked now (x ∷ xs) (x' ∷ xs') (suc at) e e' first start past all is is' has =
    let rest : xs' ≡ map (λ e. clocked now e) xs = cc in
    pasts-clocked now xs xs' at e e' first start past rest is is' has
