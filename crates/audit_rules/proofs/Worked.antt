-- What a checker knows after a turn of an entry.
use Rattle.std.proofs.Common.{◌≡◌, ◌≢◌, ℕ, ◌+◌, ◌<◌, ◌≤◌, max, zero, suc, Bool, true, false, cond, List, [], ◌∷◌}
use Rattle.std.proofs.Common.{length, map, take, set, get_or, slice_get, refl, sym, ap, ◌∙◌, subst, arith}
use Rattle.std.specs.Prelude.{All, Contains, Some}
use Rattle.std.specs.List.{AllZip}
use Rattle.std.specs.Str.{bytes_eq}
use Rattle.std.proofs.lemmas.Grind.{common_steps}
use Rattle.std.proofs.lemmas.Slice.Eq.{bytes_eq-Decides}
use Rattle.std.proofs.lemmas.List.Elements.{All-cons, All-head, All-nil, All-tail}
use Rattle.mrpc_table.specs.Calls.{IsCallOf}
use Rattle.mrpc_table.specs.Valid.{AreDistinct}
use Rattle.mrpc_table.specs.declared.table.Table.{Table}
use Rattle.engine_core.specs.Chains.{Chain, Entry, names_of}
use Rattle.engine_core.specs.Engines.{EngineParts}
use Rattle.engine_core.specs.Turns.{noted_in}
use Rattle.engine_core.specs.declared.outcome.Noted.{Noted}
use Rattle.engine_core.specs.declared.outcome.Noted.TheVariants as notes
use Rattle.engine_core.specs.declared.outcome.Outcome.{Outcome}
use Rattle.engine_core.specs.declared.outcome.Outcome.TheVariants.{Passed, Held, Refused, Redacted}
use Rattle.call_history.specs.Trace.{Trace, chain, form, has_failed, timestamp, noted, noted_calls, pending_calls, taken}
use Rattle.call_history.specs.Transitions.{with_note}
use Rattle.call_history.specs.Legal.{IsLegalPrefix}
use Rattle.call_history.specs.Rules.{IsAllowedInTrace, JudgeContext}
use Rattle.call_history.specs.Ties.{AreTied, worked}
use Rattle.call_history.specs.declared.happening.Happening.{Happening}
use Rattle.call_history.specs.declared.happening.AcceptedCall.{AcceptedCall}
use Rattle.engine_core.specs.Marks.{seqs_of}
use Rattle.audit_rules.specs.Asking.{IsRising, HasPassedFirst}
use Rattle.audit_rules.specs.CheckerState.{HasRoom, HasNoMalformed, IsLatest, IsCheckerAfter, IsObligationAfter, greatest, checker_context}
use Rattle.audit_rules.specs.declared.checker.Checker.{Checker}
use Rattle.audit_rules.proofs.Going.{all-on, entries-same-all, lets-on, zip-except}
use Rattle.audit_rules.proofs.Known.{free-numbers, known-rising, known-standing}

-- ---- a turn

module _ (T : Table) (past past' : Trace) (c c' : Checker) (knows : IsCheckerAfter T past c) (free : HasNoMalformed c.left) (free' : HasNoMalformed c'.left)
    (rest : c' ≡ record c { engines = c'.engines; latest = c'.latest; calls = c'.calls; reached = c'.reached; left = c'.left })
    (prefix : IsLegalPrefix (checker_context T c) past') (ties : AreTied c.conn past' c'.engines.items c.attached c'.calls)
    (reaches : AllZip (HasPassedFirst (checker_context T c) past') (seqs_of c'.calls) c'.reached.items) (moments : timestamp past' ≡ timestamp past)
    (numbers : seqs_of c'.calls ≡ seqs_of c.calls) (stands : pending_calls past' ≡ pending_calls past) (takes : taken past' ≡ taken past)
    (latest : AllZip (IsLatest past') c'.engines.items c'.latest.items) (fails : has_failed past' ≡ has_failed past) (left : IsObligationAfter past' c'.left)
    (of_table : All (λ s. IsCallOf T s.call) c'.calls) (longer : length past ≤ length past')
    (entries : map (λ e. e.entry) c'.engines.items ≡ map (λ e. e.entry) c.engines.items) (room : HasRoom c') where
  after : Checker
  after = record c { engines = c'.engines; latest = c'.latest; calls = c'.calls; reached = c'.reached; left = c'.left }

  knows-after : IsCheckerAfter T past' after
  unfolding after
  knows-after = record {
    row = record { prefix = prefix; ties = ties; reaches = reaches; shows = knows.row.shows ∙ sym moments };
    numbers = free-numbers c'.left (seqs_of c'.calls) free' ∙ (numbers ∙ (known-standing T past c knows free ∙ ap (λ (cs : List AcceptedCall). map (λ call. call.seq) cs) (sym stands)));
    rising = subst (λ (ns : List ℕ). IsRising 0 c.taken ns) (sym (free-numbers c'.left (seqs_of c'.calls) free' ∙ numbers)) (known-rising T past c knows free);
    taken = knows.taken ∙ ap (λ (cs : List AcceptedCall). length cs) (sym takes);
    latest = latest;
    failed = knows.failed ∙ sym fails;
    left = left;
    of_table = of_table;
    attachments = omega (arith, knows.attachments);
    versions = entries-same-all (λ (e : Entry). e.version ≤ length past' + 1) c.engines.items c'.engines.items entries
        (all-on (λ (e : EngineParts). e.entry.version ≤ length past + 1) (λ (e : EngineParts). e.entry.version
        ≤ length past' + 1) c.engines.items (λ e le. omega (arith, le)) knows.versions);
    room = record { few_engines = room.few_engines; engines = room.engines; latest = room.latest; calls = room.calls };
    untold = knows.untold;
  }

  pub knows-worked : IsCheckerAfter T past' c'
  unfolding after
  knows-worked = subst (λ (d : Checker). IsCheckerAfter T past' d) (sym rest) knows-after

-- ---- names

pub bytes-same : (a b : List ℕ) → a ≡ b → bytes_eq a b ≡ true
bytes-same a b same = grind (arith, common_steps, bytes_eq-Decides)

bytes-eq : (a b : List ℕ) → bytes_eq a b ≡ true → a ≡ b
bytes-eq a b test = grind (arith, common_steps, bytes_eq-Decides)

not-true : (b : Bool) → b ≢ true → b ≡ false
not-true true other = absurd (other refl)
not-true false other = refl

pub bytes-other : (a b : List ℕ) → a ≢ b → bytes_eq a b ≡ false
bytes-other a b other = not-true (bytes_eq a b) (λ is. other (bytes-eq a b is))

pub names-at : (es : List Entry) (p : ℕ) (e : Entry) → slice_get es p ≡ Some e → Contains (names_of es) e.name
names-at [] p e is = absurd cc
names-at (x ∷ xs) zero e is = let there : x ≡ e = cc in (0, omega arith, ap (λ (e : Entry). e.name) there)
names-at (x ∷ xs) (suc p) e is = let rest = names-at xs p e is in (suc rest.0, omega (arith, rest.1), rest.2)

-- entries before one have other names
pub before-apart : (es : List Entry) (p : ℕ) (e : Entry) → AreDistinct (names_of es) → slice_get es p ≡ Some e → All (λ x. x.name ≢ e.name) (take p es)
before-apart [] p e apart is = absurd cc
before-apart (x ∷ xs) zero e apart is = All-nil (λ x. x.name ≢ e.name)
before-apart (x ∷ xs) (suc p) e apart is = All-cons (λ x. x.name ≢ e.name) x (take p xs)
    (λ same. apart.0 (subst (λ (n : List ℕ). Contains (names_of xs) n) (sym same) (names-at xs p e is))) (before-apart xs p e apart.1 is)

pub none-named : (es : List EngineParts) (name : List ℕ) → (Contains (names_of (map (λ e. e.entry) es)) name → ⊥) → All (λ e. e.entry.name ≢ name) es
none-named [] name none = All-nil (λ e. e.entry.name ≢ name)
none-named (e ∷ es) name none = All-cons (λ e. e.entry.name ≢ name) e es (λ same. none (0, omega arith, same))
    (none-named es name (λ has. none (suc has.0, omega (arith, has.1), has.2)))

all-both : {X : Type 0} (P Q R : X → Type 0) (xs : List X) → ((x : X) → P x → Q x → R x) → All P xs → All Q xs → All R xs
all-both P Q R [] on ps qs = All-nil R
all-both P Q R (x ∷ xs) on ps qs = All-cons R x xs (on x (All-head P x xs ps) (All-head Q x xs qs)) (all-both P Q R xs on (All-tail P x xs ps) (All-tail Q x xs qs))

pub zip-both : {X Y : Type 0} (P : X → Type 0) (R R' : X → Y → Type 0) (xs : List X) (ys : List Y)
    → ((x : X) (y : Y) → P x → R x y → R' x y) → All P xs → AllZip R xs ys → AllZip R' xs ys
zip-both P R R' [] [] on ps all = tt
zip-both P R R' [] (y ∷ ys) on ps all = absurd all
zip-both P R R' (x ∷ xs) [] on ps all = absurd all
zip-both P R R' (x ∷ xs) (y ∷ ys) on ps all = (on x y (All-head P x xs ps) all.0, zip-both P R R' xs ys on (All-tail P x xs ps) all.1)

-- ---- a note

-- an event that notes a call at a name
pub record IsNote (past : Trace) (name : List ℕ) (seq : ℕ) (what : Happening) : Type 0 where
  pub chained : chain (what ∷ past) ≡ chain past
  pub another : (other : List ℕ) (s : ℕ) → seq ≢ s → noted other s (what ∷ past) ≡ noted other s past
  pub elsewhere : (other : List ℕ) (s : ℕ) → name ≢ other → noted other s (what ∷ past) ≡ noted other s past
  pub calls : (other : List ℕ) → noted_calls other (what ∷ past) ≡ cond (bytes_eq name other) (seq ∷ noted_calls other past) (noted_calls other past)
  pub forms : (conn s : ℕ) → form conn s (what ∷ past) ≡ form conn s past
  pub same_moment : timestamp (what ∷ past) ≡ timestamp past
  pub same_taken : taken (what ∷ past) ≡ taken past
  pub stands : pending_calls (what ∷ past) ≡ pending_calls past
  pub fails : has_failed (what ∷ past) ≡ has_failed past

module _ (u : JudgeContext) (past : Trace) (name : List ℕ) (seq : ℕ) (what : Happening) (n : IsNote past name seq what) where
  other-lets : (s r : ℕ) → s ≢ seq → HasPassedFirst u past s r → HasPassedFirst u (what ∷ past) s r
  other-lets s r other lets = subst (λ (c : Chain). All (IsAllowedInTrace u (what ∷ past) s) (take r c.entries)) (sym n.chained)
      (all-on (IsAllowedInTrace u past s) (IsAllowedInTrace u (what ∷ past) s) (take r (chain past).entries)
      (λ e one. lets-on u past (what ∷ past) s e (n.forms u.conn s) (n.another e.name s (λ same. other (sym same))) one) lets)

  pub own-lets : (at : ℕ) (e : Entry) → AreDistinct (names_of (chain past).entries) → slice_get (chain past).entries at ≡ Some e → e.name ≡ name
      → HasPassedFirst u past seq at → HasPassedFirst u (what ∷ past) seq at
  own-lets at e apart is named lets = subst (λ (c : Chain). All (IsAllowedInTrace u (what ∷ past) seq) (take at c.entries)) (sym n.chained)
      (all-both (λ x. x.name ≢ e.name) (IsAllowedInTrace u past seq) (IsAllowedInTrace u (what ∷ past) seq) (take at (chain past).entries)
      (λ x other one. lets-on u past (what ∷ past) seq x (n.forms u.conn seq) (n.elsewhere x.name seq (λ same. other (sym same ∙ sym named))) one)
      (before-apart (chain past).entries at e apart is) lets)

  pub note-reaches : (below top place at : ℕ) (e : Entry) (ns rs : List ℕ) → IsRising below top ns → AreDistinct (names_of (chain past).entries)
      → slice_get (chain past).entries at ≡ Some e → e.name ≡ name → slice_get ns place ≡ Some seq → slice_get rs place ≡ Some at → HasPassedFirst u past seq at
      → AllZip (HasPassedFirst u past) ns rs → AllZip (HasPassedFirst u (what ∷ past)) ns rs
  note-reaches below top place at e ns rs rising apart is named there reached lets all =
      zip-except (HasPassedFirst u past) (HasPassedFirst u (what ∷ past)) below top seq at place ns rs rising there reached (own-lets at e apart is named lets) other-lets all

  latest-other : (e : EngineParts) (l : ℕ) → e.entry.name ≢ name → IsLatest past e l → IsLatest (what ∷ past) e l
  latest-other e l other is = is ∙ sym (ap (λ (ns : List ℕ). greatest ns) (n.calls e.entry.name
      ∙ ap (λ (b : Bool). cond b (seq ∷ noted_calls e.entry.name past) (noted_calls e.entry.name past)) (bytes-other name e.entry.name (λ same. other (sym same)))))

  latest-own : (e : EngineParts) (l : ℕ) → e.entry.name ≡ name → IsLatest past e l → l < seq → IsLatest (what ∷ past) e seq
  latest-own e l same is less =
      let more : max seq (greatest (noted_calls e.entry.name past)) ≡ seq = omega (arith, is, less) in
      sym more ∙ sym (ap (λ (ns : List ℕ). greatest ns) (n.calls e.entry.name
      ∙ ap (λ (b : Bool). cond b (seq ∷ noted_calls e.entry.name past) (noted_calls e.entry.name past)) (bytes-same name e.entry.name (sym same))))

  pub note-latest : (es : List EngineParts) (ls : List ℕ) (at : ℕ) (e : Entry) → AreDistinct (names_of (map (λ e. e.entry) es)) → slice_get (map (λ e. e.entry) es) at ≡ Some e
      → e.name ≡ name → get_or ls at 0 < seq → AllZip (IsLatest past) es ls → AllZip (IsLatest (what ∷ past)) es (set ls at seq)
  note-latest [] ls at e apart is named less all = absurd cc
  note-latest (x ∷ es) [] at e apart is named less all = absurd all
  note-latest (x ∷ es) (l ∷ ls) zero e apart is named less all =
      let there : x.entry ≡ e = cc in
      let same : x.entry.name ≡ name = ap (λ (y : Entry). y.name) there ∙ named in (
        latest-own x l same all.0 less,
        zip-both (λ (y : EngineParts). y.entry.name ≢ name) (IsLatest past) (IsLatest (what ∷ past)) es ls (λ y k other. latest-other y k other)
            (subst (λ (m : List ℕ). All (λ (y : EngineParts). y.entry.name ≢ m) es) same (none-named es x.entry.name apart.0)) all.1,
      )
  note-latest (x ∷ es) (l ∷ ls) (suc at) e apart is named less all =
      let has : Contains (names_of (map (λ e. e.entry) es)) e.name = names-at (map (λ e. e.entry) es) at e is in
      let other : x.entry.name ≢ name = λ same. apart.0 (subst (λ (m : List ℕ). Contains (names_of (map (λ e. e.entry) es)) m) (named ∙ sym same) has) in
      (latest-other x l other all.0, note-latest es ls at e apart.1 is named less all.1)

-- the turn in which something was noted
pub note-worked : (e : Entry) (seq : ℕ) (outcome : Outcome) (past : Trace) (n : Noted) → noted_in outcome ≡ n → n ≢ notes.Nothing
    → worked e seq outcome past ≡ with_note e.name seq n past
note-worked e seq (Passed m) past n is some = ap (λ (k : Noted). with_note e.name seq k past) is
note-worked e seq (Held level cost) past n is some = absurd (some (sym is))
note-worked e seq (Refused m why) past n is some = ap (λ (k : Noted). with_note e.name seq k past) is
note-worked e seq Redacted past n is some = absurd (some (sym is))
