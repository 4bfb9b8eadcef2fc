-- What a checker knows if no malformed call awaits its refusal.
use Rattle.std.proofs.Common.{◌≡◌, ℕ, ◌<◌, zero, suc, get_or, slice_get, List, [], ◌∷◌, length, map, refl, sym, ap, ◌∙◌, subst, arith}
use Rattle.std.specs.Prelude.{Some}
use Rattle.std.proofs.lemmas.List.{length-map}
use Rattle.mrpc_table.specs.declared.table.Table.{Table}
use Rattle.engine_core.specs.Chains.{Chain, Entry}
use Rattle.engine_core.specs.Engines.{EngineParts}
use Rattle.engine_core.specs.Marks.{PendingCall, seqs_of}
use Rattle.call_history.specs.Trace.{Trace, chain, noted_calls, pending_calls}
use Rattle.audit_rules.specs.Asking.{IsEntryOutcome, IsRising, HasPassedFirst}
use Rattle.audit_rules.specs.CheckerState.{HasNoMalformed, IsLatest, IsCheckerAfter, greatest, checker_context, with_malformed}
use Rattle.audit_rules.specs.declared.ask.EntryOutcome.{EntryOutcome}
use Rattle.audit_rules.specs.declared.checker.Checker.{Checker}
use Rattle.audit_rules.specs.declared.obligation.Obligation.{Obligation}
use Rattle.audit_rules.specs.declared.obligation.Obligation.TheVariants.{Nothing, RefuseMalformed, RefuseOverCap}
use Rattle.audit_rules.proofs.Entries.{zip-at, zip-length}
use Rattle.audit_rules.proofs.Numbers.{above, read, within}

pub free-numbers : (left : Obligation) (ns : List ℕ) → HasNoMalformed left → with_malformed left ns ≡ ns
free-numbers Nothing ns free = refl
free-numbers (RefuseMalformed seq) ns free = absurd free
free-numbers (RefuseOverCap seq at ticket cap) ns free = refl

pub known-rising : (T : Table) (past : Trace) (c : Checker) → IsCheckerAfter T past c → HasNoMalformed c.left → IsRising 0 c.taken (seqs_of c.calls)
known-rising T past c knows free = subst (IsRising 0 c.taken) (free-numbers c.left (seqs_of c.calls) free) knows.rising

pub known-standing : (T : Table) (past : Trace) (c : Checker) → IsCheckerAfter T past c → HasNoMalformed c.left → seqs_of c.calls ≡ map (λ call. call.seq) (pending_calls past)
known-standing T past c knows free = sym (free-numbers c.left (seqs_of c.calls) free) ∙ knows.numbers

pub known-places : (T : Table) (past : Trace) (c : Checker) → IsCheckerAfter T past c → length c.reached.items ≡ length c.calls
known-places T past c knows = zip-length (HasPassedFirst (checker_context T c) past) (seqs_of c.calls) c.reached.items knows.row.reaches ∙ length-map c.calls (λ (s : PendingCall). s.call.seq)

pub unmap-at : {X Y : Type 0} (f : X → Y) (xs : List X) (p : ℕ) (y : Y) → slice_get (map f xs) p ≡ Some y → (x : X) × (slice_get xs p ≡ Some x) × (f x ≡ y)
unmap-at f [] p y is = absurd cc
unmap-at f (x ∷ xs) zero y is = (x, refl, cc)
unmap-at f (x ∷ xs) (suc p) y is = unmap-at f xs p y is

item-at : {X Y : Type 0} (f : X → Y) (xs : List X) (p : ℕ) (x : X) (y : Y) → slice_get (map f xs) p ≡ Some y → x ≡ get_or xs p x → f x ≡ y
item-at f [] p x y there is = absurd cc
item-at f (z ∷ zs) zero x y there is = let first : f z ≡ y = cc in ap f is ∙ first
item-at f (z ∷ zs) (suc p) x y there is = item-at f zs p x y there is

module _ (T : Table) (past : Trace) (c : Checker) (seq : ℕ) (name : List ℕ) (a : EntryOutcome) (es' : List EngineParts) (calls' : List PendingCall) (reached' : List ℕ)
    (asked : IsEntryOutcome (checker_context T c) past c.attached seq name a c.calls es' calls' reached') where
  pub asked-place : seqs_of calls' ≡ seqs_of c.calls → a.place < length calls'
  asked-place same =
      let here : a.place < length (seqs_of calls') = rw same (within (seqs_of c.calls) a.place seq asked.place) in
      omega (arith, length-map calls' (λ (s : PendingCall). s.call.seq))

  pub asked-reached : a.place < length reached'
  asked-reached = within reached' a.place a.at asked.reached_it

  pub asked-latest : IsCheckerAfter T past c → a.at < length c.latest.items
  asked-latest knows =
      let entries : map (λ (e : EngineParts). e.entry) c.engines.items ≡ (chain past).entries = ap (λ (c : Chain). c.entries) knows.row.ties.same_chain in
      let there : slice_get (map (λ (e : EngineParts). e.entry) c.engines.items) a.at ≡ Some asked.entry =
      subst (λ (xs : List Entry). slice_get xs a.at ≡ Some asked.entry) (sym entries) asked.is_entry in
      omega (
        arith,
        within (map (λ (e : EngineParts). e.entry) c.engines.items) a.at asked.entry there,
        length-map c.engines.items (λ (e : EngineParts). e.entry),
        zip-length (IsLatest past) c.engines.items c.latest.items knows.latest,
      )

  pub latest-at : IsCheckerAfter T past c → get_or c.latest.items a.at 0 ≡ greatest (noted_calls name past)
  latest-at knows =
      let entries : map (λ (e : EngineParts). e.entry) c.engines.items ≡ (chain past).entries = ap (λ (c : Chain). c.entries) knows.row.ties.same_chain in
      let there : slice_get (map (λ (e : EngineParts). e.entry) c.engines.items) a.at ≡ Some asked.entry =
      subst (λ (xs : List Entry). slice_get xs a.at ≡ Some asked.entry) (sym entries) asked.is_entry in
      let engine = unmap-at (λ (e : EngineParts). e.entry) c.engines.items a.at asked.entry there in
      zip-at (IsLatest past) c.engines.items c.latest.items a.at engine.0 0 knows.latest engine.1
      ∙ ap (λ (e : Entry). greatest (noted_calls e.name past)) engine.2 ∙ ap (λ (m : List ℕ). greatest (noted_calls m past)) asked.is_at.named

  pub asked-some : IsCheckerAfter T past c → HasNoMalformed c.left → 0 < seq
  asked-some knows free = omega (
    arith,
    above 0 c.taken (seqs_of c.calls) a.place (known-rising T past c knows free) (within (seqs_of c.calls) a.place seq asked.place),
    read (seqs_of c.calls) a.place seq asked.place,
  )

  -- the engine at which a call was asked has the entry
  pub asked-engine : IsCheckerAfter T past c → map (λ e. e.entry) es' ≡ map (λ e. e.entry) c.engines.items → (x : EngineParts) → x ≡ get_or es' a.at x → x.entry ≡ asked.entry
  asked-engine knows same x is =
      let entries : map (λ (e : EngineParts). e.entry) es' ≡ (chain past).entries = same ∙ ap (λ (c : Chain). c.entries) knows.row.ties.same_chain in
      item-at (λ (e : EngineParts). e.entry) es' a.at x asked.entry (subst (λ (xs : List Entry). slice_get xs a.at ≡ Some asked.entry) (sym entries) asked.is_entry) is
