-- What a checker knows after an operation, and after a submission that was rejected.
use Rattle.std.proofs.Common.{◌≡◌, ℕ, ◌+◌, ◌≤◌, min, zero, suc, List, [], ◌∷◌, length, map, take, refl, sym, ap, subst, arith}
use Rattle.std.specs.Prelude.{All}
use Rattle.std.specs.List.{AllZip}
use Rattle.std.proofs.lemmas.List.Elements.{All-cons, All-head, All-nil, All-tail}
use Rattle.mrpc_table.specs.declared.table.Table.{Table}
use Rattle.engine_core.specs.Chains.{Entry}
use Rattle.engine_core.specs.Engines.{EngineParts}
use Rattle.engine_core.specs.Marks.{PendingCall, seqs_of}
use Rattle.engine_core.specs.declared.op.Op.{Op as Step}
use Rattle.call_history.specs.Trace.{Trace, chain, noted}
use Rattle.call_history.specs.Rules.{IsAllowedInTrace, CanFollow}
use Rattle.call_history.specs.Ties.{AreTied}
use Rattle.call_history.specs.declared.happening.Happening.{Happening}
use Rattle.call_history.specs.declared.happening.Happening.TheVariants.{Away, Op}
use Rattle.audit_rules.specs.Asking.{HasPassedFirst}
use Rattle.audit_rules.specs.CheckerState.{HasRoom, IsLatest, IsCheckerAfter, IsObligationAfter, checker_context}
use Rattle.audit_rules.specs.declared.checker.Checker.{Checker}
use Rattle.audit_rules.specs.declared.obligation.Obligation.{Obligation}
use Rattle.audit_rules.specs.declared.obligation.Obligation.TheVariants.{Nothing}
use Rattle.audit_rules.proofs.Asked.{lets-less}
use Rattle.audit_rules.proofs.Going.{IsApart, all-on, apart-latest, apart-lets, lets-on, zip-on}
use Rattle.audit_rules.proofs.States.{not-left}

-- ---- a submission is rejected

pub knows-away : (T : Table) (past : Trace) (method number addr : ℕ) (c : Checker) → IsCheckerAfter T past c → CanFollow (checker_context T c) past (Away method number addr)
    → ((conn : ℕ) (past : Trace) (es : List EngineParts) (n : ℕ) (calls : List PendingCall) (method number addr : ℕ) → AreTied conn past es n calls
    → AreTied conn (Away method number addr ∷ past) es n calls) → IsCheckerAfter T (Away method number addr ∷ past) c
knows-away T past method number addr c knows may law =
    let what : Happening = Away method number addr in
    let apart : IsApart past what = record { chained = refl; notes = λ name seq. refl; calls = λ name. refl; forms = λ conn seq. refl } in
    let nothing : c.left ≡ Nothing = not-left past what c.left knows.left may.malformed may.drawn_refused (λ seq why is. cc) in
    record {
      row = record {
        prefix = (knows.row.prefix, may);
        ties = law c.conn past c.engines.items c.attached c.calls method number addr knows.row.ties;
        reaches = zip-on (HasPassedFirst (checker_context T c) past) (HasPassedFirst (checker_context T c) (what ∷ past)) (seqs_of c.calls) c.reached.items (apart-lets (checker_context T c) past what apart) knows.row.reaches;
        shows = knows.row.shows;
      };
      numbers = knows.numbers;
      rising = knows.rising;
      taken = knows.taken;
      latest = apart-latest past what apart c.engines.items c.latest.items knows.latest;
      failed = knows.failed;
      left = subst (λ (l : Obligation). IsObligationAfter (what ∷ past) l) (sym nothing) (λ none. none, λ none. none);
      of_table = knows.of_table;
      attachments = omega (arith, knows.attachments);
      versions = all-on (λ (e : EngineParts). e.entry.version ≤ length past + 1) (λ (e : EngineParts). e.entry.version
          ≤ length (what ∷ past) + 1) c.engines.items (λ e le. omega (arith, le)) knows.versions;
      room = record { few_engines = knows.room.few_engines; engines = knows.room.engines; latest = knows.room.latest; calls = knows.room.calls };
      untold = knows.untold;
    }

-- ---- an operation

take-fewer : {X : Type 0} (xs ys : List X) (k at : ℕ) → k ≤ at → take at xs ≡ take at ys → take k xs ≡ take k ys
take-fewer xs ys zero at le same = refl
take-fewer xs ys (suc k) zero le same = absurd (omega arith)
take-fewer [] [] (suc k) (suc at) le same = refl
take-fewer [] (y ∷ ys) (suc k) (suc at) le same = absurd cc
take-fewer (x ∷ xs) [] (suc k) (suc at) le same = absurd cc
take-fewer (x ∷ xs) (y ∷ ys) (suc k) (suc at) le same =
    let first : x ≡ y = cc in
    let others : take at xs ≡ take at ys = cc in
    let rest : take k xs ≡ take k ys = take-fewer xs ys k at (omega arith) others in
    cc

zip-fewer : (R R' : ℕ → ℕ → Type 0) (at : ℕ) (ns rs : List ℕ) → ((n r : ℕ) → R n r → R' n (min r at)) → AllZip R ns rs → AllZip R' ns (map (λ r. min r at) rs)
zip-fewer R R' at [] [] on all = tt
zip-fewer R R' at [] (r ∷ rs) on all = absurd all
zip-fewer R R' at (n ∷ ns) [] on all = absurd all
zip-fewer R R' at (n ∷ ns) (r ∷ rs) on all = (on n r all.0, zip-fewer R R' at ns rs on all.1)

all-two : {X : Type 0} (P Q R : X → Type 0) (xs : List X) → ((x : X) → P x → Q x → R x) → All P xs → All Q xs → All R xs
all-two P Q R [] on ps qs = All-nil R
all-two P Q R (x ∷ xs) on ps qs = All-cons R x xs (on x (All-head P x xs ps) (All-head Q x xs qs)) (all-two P Q R xs on (All-tail P x xs ps) (All-tail Q x xs qs))

take-twice : {X : Type 0} (xs : List X) (k at : ℕ) → k ≤ at → take k (take at xs) ≡ take k xs
take-twice xs zero at le = refl
take-twice xs (suc k) zero le = absurd (omega arith)
take-twice [] (suc k) (suc at) le = refl
take-twice {X = X} (x ∷ xs) (suc k) (suc at) le = ap (λ (ys : List X). x ∷ ys) (take-twice xs k at (omega arith))

all-front : {X : Type 0} (P : X → Type 0) (xs : List X) (k : ℕ) → All P xs → All P (take k xs)
all-front P [] zero all = All-nil P
all-front P [] (suc k) all = All-nil P
all-front P (x ∷ xs) zero all = All-nil P
all-front P (x ∷ xs) (suc k) all = All-cons P x (take k xs) (All-head P x xs all) (all-front P xs k (All-tail P x xs all))

-- the operation preserves the notes of an entry
abbrev pub KeepsNotes : Trace → Step → Entry → Type 0
KeepsNotes past step e = (seq : ℕ) → noted e.name seq (Op step ∷ past) ≡ noted e.name seq past

module _ (T : Table) (past : Trace) (step : Step) (at : ℕ) (c c' : Checker) (knows : IsCheckerAfter T past c) (may : CanFollow (checker_context T c) past (Op step))
    (rest : c' ≡ record c { engines = c'.engines; latest = c'.latest; attached = c'.attached; reached = c'.reached })
    (ties : AreTied c.conn (Op step ∷ past) c'.engines.items c'.attached c.calls) (reached : c'.reached.items ≡ map (λ r. min r at) c.reached.items)
    (front : take at (chain (Op step ∷ past)).entries ≡ take at (chain past).entries) (notes : All (KeepsNotes past step) (take at (chain past).entries))
    (latest : AllZip (IsLatest (Op step ∷ past)) c'.engines.items c'.latest.items) (attachments : c'.attached ≤ length past + 1)
    (versions : All (λ e. e.entry.version ≤ length (Op step ∷ past) + 1) c'.engines.items) (room : HasRoom c') where
  stepped : Checker
  stepped = record c { engines = c'.engines; latest = c'.latest; attached = c'.attached; reached = c'.reached }

  lets-before : (n r : ℕ) → HasPassedFirst (checker_context T c) past n r → HasPassedFirst (checker_context T c) (Op step ∷ past) n (min r at)
  lets-before n r lets =
      let same = take-fewer (chain (Op step ∷ past)).entries (chain past).entries (min r at) at (omega arith) front in
      let few : take (min r at) (take at (chain past).entries) ≡ take (min r at) (chain past).entries = take-twice (chain past).entries (min r at) at (omega arith) in
      let kept : All (KeepsNotes past step) (take (min r at) (chain past).entries) = subst (λ (es : List Entry). All (KeepsNotes past step) es) few
      (all-front (KeepsNotes past step) (take at (chain past).entries) (min r at) notes) in
      subst (λ (es : List Entry). All (IsAllowedInTrace (checker_context T c) (Op step ∷ past) n) es) (sym same)
      (all-two (KeepsNotes past step) (IsAllowedInTrace (checker_context T c) past n) (IsAllowedInTrace (checker_context T c) (Op step ∷ past) n) (take (min r at) (chain past).entries)
      (λ e keeps. lets-on (checker_context T c) past (Op step ∷ past) n e refl (keeps n)) kept
      (lets-less (IsAllowedInTrace (checker_context T c) past n) (chain past).entries (min r at) r (omega arith) lets))

  is-nothing : c.left ≡ Nothing
  is-nothing = not-left past (Op step) c.left knows.left may.malformed may.drawn_refused (λ seq why is. cc)

  knows-stepped : IsCheckerAfter T (Op step ∷ past) stepped
  unfolding stepped
  knows-stepped = record {
    row = record {
      prefix = (knows.row.prefix, may);
      ties = ties;
      reaches = subst (λ (rs : List ℕ). AllZip (HasPassedFirst (checker_context T c) (Op step ∷ past)) (seqs_of c.calls) rs) (sym reached)
          (zip-fewer (HasPassedFirst (checker_context T c) past) (HasPassedFirst (checker_context T c) (Op step ∷ past)) at (seqs_of c.calls) c.reached.items lets-before knows.row.reaches);
      shows = knows.row.shows;
    };
    numbers = knows.numbers;
    rising = knows.rising;
    taken = knows.taken;
    latest = latest;
    failed = knows.failed;
    left = subst (λ (l : Obligation). IsObligationAfter (Op step ∷ past) l) (sym is-nothing) (λ none. none, λ none. none);
    of_table = knows.of_table;
    attachments = omega (arith, attachments);
    versions = versions;
    room = record { few_engines = room.few_engines; engines = room.engines; latest = room.latest; calls = room.calls };
    untold = knows.untold;
  }

  pub knows-operated : IsCheckerAfter T (Op step ∷ past) c'
  unfolding stepped
  knows-operated = subst (λ (d : Checker). IsCheckerAfter T (Op step ∷ past) d) (sym rest) knows-stepped
