-- How far calls are known to pass, and the numbers of pending calls, after one more event.
use Rattle.std.proofs.Common.{◌≡◌, ◌≢◌, ℕ, ◌+◌, ◌<◌, ◌≤◌, ◌==◌, Bool, cond, not, zero, suc, List, [], ◌∷◌, ◌++◌, map}
use Rattle.std.proofs.Common.{take, remove, slice_get, refl, sym, ap, ◌∙◌, subst, arith}
use Rattle.std.specs.Prelude.{All, IsSomeAnd, Option, Some, None, filter}
use Rattle.std.specs.List.{AllZip}
use Rattle.std.proofs.lemmas.Bool.{eq-eqb, ne_eqb}
use Rattle.std.proofs.lemmas.List.Elements.{All-cons, All-head, All-nil, All-tail}
use Rattle.mrpc_table.specs.declared.call.Call.{Call}
use Rattle.engine_core.specs.Answers.{Past, IsEntryAnswer, pass, allows, denies, was_charged, charges, holds, refuses, is_within, is_over, draws, was_counted, counts, is_clear, redacts}
use Rattle.engine_core.specs.Chains.{Chain, Entry}
use Rattle.engine_core.specs.Engines.{EngineParts}
use Rattle.engine_core.specs.declared.policy.Policy.{Policy}
use Rattle.call_history.specs.Trace.{Trace, chain, form, level_in_trace, timestamp, noted, noted_calls}
use Rattle.call_history.specs.Rules.{IsAllowedInTrace, JudgeContext}
use Rattle.call_history.specs.declared.happening.Happening.{Happening}
use Rattle.call_history.specs.declared.happening.AcceptedCall.{AcceptedCall}
use Rattle.audit_rules.specs.Asking.{IsRising, HasPassedFirst}
use Rattle.audit_rules.specs.CheckerState.{IsLatest, greatest}
use Rattle.audit_rules.proofs.Numbers.{above, read, within}

-- ---- what lets a call pass

pass-on : (policy : Policy) (l m l' m' : ℕ) (call : Call) (past : Past) → IsEntryAnswer policy l m call past pass → IsEntryAnswer policy l' m' call past pass
pass-on policy l m l' m' call past (allows p is allow answer) = allows p is allow refl
pass-on policy l m l' m' call past (denies p is allow answer) = absurd cc
pass-on policy l m l' m' call past (was_charged r is some answer) = was_charged r is some refl
pass-on policy l m l' m' call past (charges r is none enough answer) = absurd cc
pass-on policy l m l' m' call past (holds r is none less mode answer) = absurd cc
pass-on policy l m l' m' call past (refuses r is none less mode answer) = absurd cc
pass-on policy l m l' m' call past (is_within tenant per cap ticket is some less answer) = is_within tenant per cap ticket is some less refl
pass-on policy l m l' m' call past (is_over tenant per cap ticket is some more answer) = absurd cc
pass-on policy l m l' m' call past (draws tenant per cap ticket is none answer) = absurd cc
pass-on policy l m l' m' call past (was_counted is some answer) = was_counted is some refl
pass-on policy l m l' m' call past (counts is none answer) = absurd cc
pass-on policy l m l' m' call past (is_clear clears is left answer) = is_clear clears is left refl
pass-on policy l m l' m' call past (redacts clears is other answer) = absurd cc

some-on : (policy : Policy) (l m l' m' : ℕ) (f : Option Call) (past : Past) → IsSomeAnd f (λ call. IsEntryAnswer policy l m call past pass)
    → IsSomeAnd f (λ call. IsEntryAnswer policy l' m' call past pass)
some-on policy l m l' m' None past gives = absurd gives
some-on policy l m l' m' (Some call) past gives = pass-on policy l m l' m' call past gives

-- an entry lets a call pass that has the same form and the same notes
pub lets-on : (u : JudgeContext) (past past' : Trace) (seq : ℕ) (e : Entry) → form u.conn seq past' ≡ form u.conn seq past
    → noted e.name seq past' ≡ noted e.name seq past → IsAllowedInTrace u past seq e → IsAllowedInTrace u past' seq e
lets-on u past past' seq e forms notes lets =
    subst (λ (f : Option Call). IsSomeAnd f (λ call. IsEntryAnswer e.policy (level_in_trace e.name past') (timestamp past') call (noted e.name seq past') pass)) (sym forms)
    (subst (λ (q : Past). IsSomeAnd (form u.conn seq past) (λ call. IsEntryAnswer e.policy (level_in_trace e.name past') (timestamp past') call q pass)) (sym notes)
    (some-on e.policy (level_in_trace e.name past) (timestamp past) (level_in_trace e.name past') (timestamp past') (form u.conn seq past) (noted e.name seq past) lets))

pub all-on : {X : Type 0} (P Q : X → Type 0) (xs : List X) → ((x : X) → P x → Q x) → All P xs → All Q xs
all-on P Q [] on all = All-nil Q
all-on P Q (x ∷ xs) on all = All-cons Q x xs (on x (All-head P x xs all)) (all-on P Q xs on (All-tail P x xs all))

pub zip-on : {X Y : Type 0} (R R' : X → Y → Type 0) (xs : List X) (ys : List Y) → ((x : X) (y : Y) → R x y → R' x y) → AllZip R xs ys → AllZip R' xs ys
zip-on R R' [] [] on all = tt
zip-on R R' [] (y ∷ ys) on all = absurd all
zip-on R R' (x ∷ xs) [] on all = absurd all
zip-on R R' (x ∷ xs) (y ∷ ys) on all = (on x y all.0, zip-on R R' xs ys on all.1)

pub zip-remove : {X Y : Type 0} (R : X → Y → Type 0) (xs : List X) (ys : List Y) (i : ℕ) → AllZip R xs ys → AllZip R (remove xs i) (remove ys i)
zip-remove R [] [] zero all = tt
zip-remove R [] [] (suc i) all = tt
zip-remove R [] (y ∷ ys) i all = absurd all
zip-remove R (x ∷ xs) [] i all = absurd all
zip-remove R (x ∷ xs) (y ∷ ys) zero all = all.1
zip-remove R (x ∷ xs) (y ∷ ys) (suc i) all = (all.0, zip-remove R xs ys i all.1)

-- what holds of numbers above one, by the suffix of the list
zip-above : (R R' : ℕ → ℕ → Type 0) (below top n0 : ℕ) (ns rs : List ℕ) → n0 ≤ below → IsRising below top ns → ((n r : ℕ) → n ≢ n0 → R n r → R' n r)
    → AllZip R ns rs → AllZip R' ns rs
zip-above R R' below top n0 [] [] le rising on all = tt
zip-above R R' below top n0 [] (r ∷ rs) le rising on all = absurd all
zip-above R R' below top n0 (n ∷ ns) [] le rising on all = absurd all
zip-above R R' below top n0 (n ∷ ns) (r ∷ rs) le rising on all =
    let first : below < n = rising.0 in
    (on n r (λ same. omega (arith, first, same)) all.0, zip-above R R' n top n0 ns rs (omega arith) rising.2 on all.1)

-- like `zip-above`, with a change at one number
pub zip-except : (R R' : ℕ → ℕ → Type 0) (below top n0 r0 place : ℕ) (ns rs : List ℕ) → IsRising below top ns
    → slice_get ns place ≡ Some n0 → slice_get rs place ≡ Some r0
    → R' n0 r0 → ((n r : ℕ) → n ≢ n0 → R n r → R' n r) → AllZip R ns rs → AllZip R' ns rs
zip-except R R' below top n0 r0 place [] rs rising there reached own on all = absurd cc
zip-except R R' below top n0 r0 place (n ∷ ns) [] rising there reached own on all = absurd all
zip-except R R' below top n0 r0 zero (n ∷ ns) (r ∷ rs) rising there reached own on all =
    let number : n ≡ n0 = cc in
    let reach : r ≡ r0 = cc in
    (subst (λ (k : ℕ). R' k r) (sym number) (subst (λ (k : ℕ). R' n0 k) (sym reach) own), zip-above R R' n top n0 ns rs (omega arith) rising.2 on all.1)
zip-except R R' below top n0 r0 (suc place) (n ∷ ns) (r ∷ rs) rising there reached own on all =
    let less : n < n0 = omega (arith, above n top ns place rising.2 (within ns place n0 there), read ns place n0 there) in
    (on n r (λ same. omega (arith, less, same)) all.0, zip-except R R' n top n0 r0 place ns rs rising.2 there reached own on all.1)

-- ---- numbers

rising-lower : (below below' top : ℕ) (ns : List ℕ) → below ≤ below' → IsRising below' top ns → IsRising below top ns
rising-lower below below' top [] le rising = tt
rising-lower below below' top (n ∷ ns) le rising = (omega (arith, rising.0), rising.1, rising.2)

pub rising-remove : (below top : ℕ) (ns : List ℕ) (i : ℕ) → IsRising below top ns → IsRising below top (remove ns i)
rising-remove below top [] zero rising = tt
rising-remove below top [] (suc i) rising = tt
rising-remove below top (n ∷ ns) zero rising = rising-lower below n top ns (omega (arith, rising.0)) rising.2
rising-remove below top (n ∷ ns) (suc i) rising = (rising.0, rising.1, rising-remove n top ns i rising.2)

pub rising-push : (below top : ℕ) (ns : List ℕ) → below ≤ top → IsRising below top ns → IsRising below (top + 1) (ns ++ (top + 1) ∷ [])
rising-push below top [] le rising = (omega arith, omega arith, tt)
rising-push below top (n ∷ ns) le rising = (rising.0, omega (arith, rising.1), rising-push n top ns rising.1 rising.2)

others-above : (below top seq : ℕ) (calls : List AcceptedCall) → seq ≤ below → IsRising below top (map (λ call. call.seq) calls)
    → map (λ call. call.seq) (filter (λ call. not (seq == call.seq)) calls) ≡ map (λ call. call.seq) calls
others-above below top seq [] le rising = refl
others-above below top seq (call ∷ calls) le rising =
    let first : below < call.seq = rising.0 in
    let apart : seq ≢ call.seq = λ same. omega (arith, first, same) in
    let rest = others-above call.seq top seq calls (omega arith) rising.2 in
    ap (λ (b : Bool). map (λ call. call.seq) (cond (not b) (call ∷ filter (λ call. not (seq == call.seq)) calls) (filter (λ call. not (seq == call.seq)) calls)))
    (ne_eqb seq call.seq apart) ∙ ap (λ (ns : List ℕ). call.seq ∷ ns) rest

-- all but the call with a number, by numbers
pub others-leave : (below top seq place : ℕ) (calls : List AcceptedCall) → IsRising below top (map (λ call. call.seq) calls)
    → slice_get (map (λ call. call.seq) calls) place ≡ Some seq
    → map (λ call. call.seq) (filter (λ call. not (seq == call.seq)) calls) ≡ remove (map (λ call. call.seq) calls) place
others-leave below top seq place [] rising there = absurd cc
others-leave below top seq zero (call ∷ calls) rising there =
    let number : seq ≡ call.seq = cc in
    ap (λ (b : Bool). map (λ call. call.seq) (cond (not b) (call ∷ filter (λ call. not (seq == call.seq)) calls) (filter (λ call. not (seq == call.seq)) calls)))
    (eq-eqb seq call.seq number) ∙ others-above call.seq top seq calls (omega (arith, number)) rising.2
others-leave below top seq (suc place) (call ∷ calls) rising there =
    let ns : List ℕ = map (λ call. call.seq) calls in
    let less : call.seq < seq = omega (arith, above call.seq top ns place rising.2 (within ns place seq there), read ns place seq there) in
    let apart : seq ≢ call.seq = λ same. omega (arith, less, same) in
    let rest = others-leave call.seq top seq place calls rising.2 there in
    ap (λ (b : Bool). map (λ call. call.seq) (cond (not b) (call ∷ filter (λ call. not (seq == call.seq)) calls) (filter (λ call. not (seq == call.seq)) calls)))
    (ne_eqb seq call.seq apart) ∙ ap (λ (ns : List ℕ). call.seq ∷ ns) rest

pub remove-map : {X Y : Type 0} (f : X → Y) (xs : List X) (i : ℕ) → map f (remove xs i) ≡ remove (map f xs) i
remove-map f [] zero = refl
remove-map f [] (suc i) = refl
remove-map f (x ∷ xs) zero = refl
remove-map {Y = Y} f (x ∷ xs) (suc i) = ap (λ (ys : List Y). f x ∷ ys) (remove-map f xs i)

pub all-remove : {X : Type 0} (P : X → Type 0) (xs : List X) (i : ℕ) → All P xs → All P (remove xs i)
all-remove P [] zero all = All-nil P
all-remove P [] (suc i) all = All-nil P
all-remove P (x ∷ xs) zero all = All-tail P x xs all
all-remove P (x ∷ xs) (suc i) all = All-cons P x (remove xs i) (All-head P x xs all) (all-remove P xs i (All-tail P x xs all))

-- ---- events that neither note, nor clear, nor change the chain

pub record IsApart (past : Trace) (what : Happening) : Type 0 where
  pub chained : chain (what ∷ past) ≡ chain past
  pub notes : (name : List ℕ) (seq : ℕ) → noted name seq (what ∷ past) ≡ noted name seq past
  pub calls : (name : List ℕ) → noted_calls name (what ∷ past) ≡ noted_calls name past
  pub forms : (conn seq : ℕ) → form conn seq (what ∷ past) ≡ form conn seq past

pub apart-lets : (u : JudgeContext) (past : Trace) (what : Happening) → IsApart past what → (seq r : ℕ) → HasPassedFirst u past seq r → HasPassedFirst u (what ∷ past) seq r
apart-lets u past what apart seq r lets =
    subst (λ (c : Chain). All (IsAllowedInTrace u (what ∷ past) seq) (take r c.entries)) (sym apart.chained)
    (all-on (IsAllowedInTrace u past seq) (IsAllowedInTrace u (what ∷ past) seq) (take r (chain past).entries)
    (λ e one. lets-on u past (what ∷ past) seq e (apart.forms u.conn seq) (apart.notes e.name seq) one) lets)

pub apart-latest : (past : Trace) (what : Happening) → IsApart past what → (es : List EngineParts) (ls : List ℕ)
    → AllZip (IsLatest past) es ls → AllZip (IsLatest (what ∷ past)) es ls
apart-latest past what apart es ls all = zip-on (IsLatest past) (IsLatest (what ∷ past)) es ls (λ e n is. is ∙ sym (ap (λ (ns : List ℕ). greatest ns) (apart.calls e.entry.name))) all

-- the latest numbers of engines with the same entries
pub latest-same : (past : Trace) (es es' : List EngineParts) (ls : List ℕ)
    → map (λ e. e.entry) es' ≡ map (λ e. e.entry) es → AllZip (IsLatest past) es ls → AllZip (IsLatest past) es' ls
latest-same past [] [] ls same all = all
latest-same past [] (e' ∷ es') ls same all = absurd cc
latest-same past (e ∷ es) [] ls same all = absurd cc
latest-same past (e ∷ es) (e' ∷ es') [] same all = absurd all
latest-same past (e ∷ es) (e' ∷ es') (l ∷ ls) same all =
    let first : e.entry ≡ e'.entry = cc in
    let rest : map (λ e. e.entry) es' ≡ map (λ e. e.entry) es = cc in
    (all.0 ∙ ap (λ (x : Entry). greatest (noted_calls x.name past)) first, latest-same past es es' ls rest all.1)

-- what holds for each entry of engines holds for engines with the same entries
pub entries-same-all : (P : Entry → Type 0) (es es' : List EngineParts) → map (λ e. e.entry) es' ≡ map (λ e. e.entry) es → All (λ e. P e.entry) es → All (λ e. P e.entry) es'
entries-same-all P [] [] same all = All-nil (λ e. P e.entry)
entries-same-all P [] (e' ∷ es') same all = absurd cc
entries-same-all P (e ∷ es) [] same all = All-nil (λ e. P e.entry)
entries-same-all P (e ∷ es) (e' ∷ es') same all =
    let first : e.entry ≡ e'.entry = cc in
    let rest : map (λ e. e.entry) es' ≡ map (λ e. e.entry) es = cc in
    All-cons (λ e. P e.entry) e' es' (subst P first (All-head (λ e. P e.entry) e es all)) (entries-same-all P es es' rest (All-tail (λ e. P e.entry) e es all))
