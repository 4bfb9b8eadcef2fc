-- An operation: whether the chain accepts it, and what a checker knows after it.
use Rattle.std.proofs.Common.{◌≡◌, ◌≢◌, ℕ, ◌+◌, ◌<◌, ◌≤◌, min, zero, suc, Bool, true, false, cond, not, if◌then◌else◌}
use Rattle.std.proofs.Common.{List, [], ◌∷◌, ◌++◌, length, map, filter, take, drop, set, get_or, insert, remove}
use Rattle.std.proofs.Common.{slice_get, Contains, Option, Some, None, is_some, refl, sym, ap, ◌∙◌, subst, arith}
use Rattle.std.specs.Prelude.{All, vec_capacity}
use Rattle.std.specs.List.{AllZip, position}
use Rattle.std.specs.VecDeque.{deque_capacity}
use Rattle.std.proofs.lemmas.List.{length-map}
use Rattle.std.proofs.lemmas.List.Elements.{All-append, All-cons, All-drop, All-nil, All-set, All-take}
use Rattle.mrpc_table.specs.Valid.{AreDistinct}
use Rattle.mrpc_table.specs.declared.table.Table.{Table}
use Rattle.engine_core.specs.Answers.{nothing}
use Rattle.engine_core.specs.Chains.{Chain, HasChanged, Entry, IsReasonToReject, IsChain, Refusal, IsRejection, changed, is_named}
use Rattle.engine_core.specs.Chains.{names_of, new_entry, upgraded, no_such, taken, no_place, full, other_kind}
use Rattle.engine_core.specs.Chains.{detaches_none, upgrades_none, is_taken, is_past, is_full, is_other}
use Rattle.engine_core.specs.Engines.{EngineParts}
use Rattle.engine_core.specs.Marks.{IsTrueFor, PendingCall}
use Rattle.engine_core.specs.Policies.{initial_level, is_same_kind, level_after_upgrade}
use Rattle.engine_core.specs.declared.op.Op.{Op as Step}
use Rattle.engine_core.specs.declared.op.Op.TheVariants.{Attach, Detach, Upgrade}
use Rattle.engine_core.specs.declared.policy.Policy.{Policy}
use Rattle.call_history.specs.Trace.{Trace, chain, timestamp, noted, noted_calls}
use Rattle.call_history.specs.Rules.{IsChainPreserved, CanFollow}
use Rattle.call_history.specs.Ties.{AreTied, AreTiedAfterAttach, AreTiedAfterDetach, AreTiedAfterUpgrade}
use Rattle.call_history.specs.declared.happening.Happening.TheVariants.{Op}
use Rattle.audit_rules.specs.CheckerState.{IsLatest, IsCheckerAfter, greatest, checker_context}
use Rattle.audit_rules.specs.declared.checker.Checker.{Checker}
use Rattle.audit_rules.proofs.Asked.{All-at, map-at}
use Rattle.audit_rules.proofs.Entries.{found, named-is, none-found}
use Rattle.audit_rules.proofs.Going.{all-on, all-remove, zip-on, zip-remove}
use Rattle.audit_rules.proofs.Operating.{KeepsNotes, knows-operated}
use Rattle.audit_rules.proofs.Worked.{bytes-other, bytes-same, names-at, none-named, zip-both}

-- ---- whether the chain accepts it

-- if an operation has no reason for a rejection, the chain accepts it
abbrev pub UnlessRefused : Type 0
UnlessRefused = (before : Chain) (op : Step) → IsChain before → ((r : Refusal) → IsRejection before op r → ⊥) → HasChanged before op (changed op before)

free-attach : (es : List Entry) (at : ℕ) (name label : List ℕ) (policy : Policy) (r : Refusal) → (Contains (names_of es) name → ⊥) → at ≤ length es
    → length es < 8 → IsReasonToReject es (Attach at name label policy) r → ⊥
free-attach es at name label policy r none within few (detaches_none name' is other s) = absurd cc
free-attach es at name label policy r none within few (upgrades_none name' label' policy' is other s) = absurd cc
free-attach es at name label policy r none within few (is_taken at' name' label' policy' is has s) = let same : name ≡ name' = cc in none (rw same has)
free-attach es at name label policy r none within few (is_past at' name' label' policy' is past s) = let same : at ≡ at' = cc in omega arith
free-attach es at name label policy r none within few (is_full at' name' label' policy' is many s) = omega arith
free-attach es at name label policy r none within few (is_other name' label' policy' e is there named other s) = absurd cc

free-detach : (es : List Entry) (name : List ℕ) (r : Refusal) → Contains (names_of es) name → IsReasonToReject es (Detach name) r → ⊥
free-detach es name r has (detaches_none name' is none s) = let same : name ≡ name' = cc in none (rw same at has)
free-detach es name r has (upgrades_none name' label' policy' is none s) = absurd cc
free-detach es name r has (is_taken at' name' label' policy' is has' s) = absurd cc
free-detach es name r has (is_past at' name' label' policy' is past s) = absurd cc
free-detach es name r has (is_full at' name' label' policy' is many s) = absurd cc
free-detach es name r has (is_other name' label' policy' e is there named other s) = absurd cc

names-within : (es : List Entry) (k : ℕ) (f : Entry) (name : List ℕ) → k < length es → get_or es k f ≡ f → f.name ≡ name → Contains (names_of es) name
names-within [] k f name inside at same = absurd (omega arith)
names-within (x ∷ xs) zero f name inside at same = (0, omega arith, ap (λ (e : Entry). e.name) at ∙ same)
names-within (x ∷ xs) (suc k) f name inside at same = let rest = names-within xs k f name (omega arith) at same in (suc rest.0, omega (arith, rest.1), rest.2)

-- two entries with one name are equal
one-at : (es : List Entry) (p k : ℕ) (e f : Entry) → AreDistinct (names_of es) → slice_get es p ≡ Some e → k < length es → get_or es k f ≡ f → f.name ≡ e.name → f ≡ e
one-at [] p k e f apart is inside at same = absurd cc
one-at (x ∷ xs) zero zero e f apart is inside at same = let first : x ≡ e = cc in sym at ∙ first
one-at (x ∷ xs) zero (suc k) e f apart is inside at same =
    let there : x ≡ e = cc in
    let first : x.name ≡ e.name = ap (λ (e : Entry). e.name) there in
    absurd (apart.0 (names-within xs k f x.name (omega arith) at (same ∙ sym first)))
one-at (x ∷ xs) (suc p) zero e f apart is inside at same =
    let named : x.name ≡ e.name = ap (λ (e : Entry). e.name) at ∙ same in
    absurd (apart.0 (rw named (names-at xs p e is)))
one-at (x ∷ xs) (suc p) (suc k) e f apart is inside at same = one-at xs p k e f apart.1 is (omega arith) at same

has-name : (es : List Entry) (p : ℕ) (e : Entry) (name : List ℕ) → slice_get es p ≡ Some e → e.name ≡ name → Contains (names_of es) name
has-name es p e name is same = rw (sym same) (names-at es p e is)

has-entry : (es : List Entry) (p : ℕ) (e : Entry) → slice_get es p ≡ Some e → Contains es e
has-entry [] p e is = absurd cc
has-entry (x ∷ xs) zero e is = let there : x ≡ e = cc in (0, omega arith, there)
has-entry (x ∷ xs) (suc p) e is = let rest = has-entry xs p e is in (suc rest.0, omega (arith, rest.1), rest.2)

free-upgrade : (es : List Entry) (name label : List ℕ) (policy : Policy) (r : Refusal) (p : ℕ) (e : Entry) → AreDistinct (names_of es) → slice_get es p ≡ Some e
    → e.name ≡ name → is_same_kind e.policy policy ≡ true → IsReasonToReject es (Upgrade name label policy) r → ⊥
free-upgrade es name label policy r p e apart is same kind (detaches_none name' at none s) = absurd cc
free-upgrade es name label policy r p e apart is same kind (upgrades_none name' label' policy' at none s) =
    let equal : name ≡ name' = cc in none (rw equal at (has-name es p e name is same))
free-upgrade es name label policy r p e apart is same kind (is_taken at' name' label' policy' at has' s) = absurd cc
free-upgrade es name label policy r p e apart is same kind (is_past at' name' label' policy' at past s) = absurd cc
free-upgrade es name label policy r p e apart is same kind (is_full at' name' label' policy' at many s) = absurd cc
free-upgrade es name label policy r p e apart is same kind (is_other name' label' policy' f at there named other s) =
    let equal : name ≡ name' = cc in
    let of_kind : policy ≡ policy' = cc in
    let one : f ≡ e = one-at es p there.0 e f apart is there.1 there.2 (named ∙ (sym equal ∙ sym same)) in
    let not_kind : is_same_kind e.policy policy ≡ false = rw (sym one) (rw of_kind other) in
    let wrong : false ≡ true = sym not_kind ∙ kind in
    cc

module _ (past : Trace) (law : UnlessRefused) (is_chain : IsChain (chain past)) where
  pub attach-keeps : (at : ℕ) (name label : List ℕ) (policy : Policy) → (Contains (names_of (chain past).entries) name → ⊥) → at ≤ length (chain past).entries
      → length (chain past).entries < 8 → IsChainPreserved past (Op (Attach at name label policy))
  attach-keeps at name label policy none within few = law (chain past) (Attach at name label policy) is_chain
      (λ r refuses. free-attach (chain past).entries at name label policy r none within few refuses.against)

  pub detach-keeps : (name : List ℕ) (p : ℕ) (e : Entry) → slice_get (chain past).entries p ≡ Some e → e.name ≡ name → IsChainPreserved past (Op (Detach name))
  detach-keeps name p e is named =
      law (chain past) (Detach name) is_chain
      (λ r refuses. free-detach (chain past).entries name r (has-name (chain past).entries p e name is named)
      refuses.against)

  pub upgrade-keeps : (name label : List ℕ) (policy : Policy) (p : ℕ) (e : Entry) → slice_get (chain past).entries p ≡ Some e → e.name ≡ name
      → is_same_kind e.policy policy ≡ true → IsChainPreserved past (Op (Upgrade name label policy))
  upgrade-keeps name label policy p e is named kind = law (chain past) (Upgrade name label policy) is_chain
      (λ r refuses. free-upgrade (chain past).entries name label policy r p e is_chain.names is named kind refuses.against)

pub not-attached-twice : (past : Trace) (at : ℕ) (name label : List ℕ) (policy : Policy)
    → Contains (names_of (chain past).entries) name → IsChainPreserved past (Op (Attach at name label policy)) → ⊥
not-attached-twice past at name label policy has keeps = keeps.free (taken name) (is_taken at name label policy refl has refl)

pub not-past-end : (past : Trace) (at : ℕ) (name label : List ℕ) (policy : Policy) → length (chain past).entries < at → IsChainPreserved past (Op (Attach at name label policy)) → ⊥
not-past-end past at name label policy more keeps = keeps.free (no_place at) (is_past at name label policy refl more refl)

pub not-to-full : (past : Trace) (at : ℕ) (name label : List ℕ) (policy : Policy) → 8 ≤ length (chain past).entries → IsChainPreserved past (Op (Attach at name label policy)) → ⊥
not-to-full past at name label policy many keeps = keeps.free (full (length (chain past).entries)) (is_full at name label policy refl many refl)

pub not-detached : (past : Trace) (name : List ℕ) → (Contains (names_of (chain past).entries) name → ⊥) → IsChainPreserved past (Op (Detach name)) → ⊥
not-detached past name none keeps = keeps.free (no_such name) (detaches_none name refl none refl)

pub not-upgraded : (past : Trace) (name label : List ℕ) (policy : Policy)
    → (Contains (names_of (chain past).entries) name → ⊥) → IsChainPreserved past (Op (Upgrade name label policy)) → ⊥
not-upgraded past name label policy none keeps = keeps.free (no_such name) (upgrades_none name label policy refl none refl)

pub not-of-kind : (past : Trace) (name label : List ℕ) (policy : Policy) (p : ℕ) (e : Entry) → slice_get (chain past).entries p ≡ Some e → e.name ≡ name
    → is_same_kind e.policy policy ≡ false → IsChainPreserved past (Op (Upgrade name label policy)) → ⊥
not-of-kind past name label policy p e is named other keeps =
    keeps.free (other_kind name) (is_other name label policy e refl (has-entry (chain past).entries p e is) named other refl)

-- whether an engine has the name
pub has-found : (name : List ℕ) (es : List EngineParts) (o : Option ℕ) → o ≡ position (λ e. is_named name e.entry) es → is_some o ≡ true
    → Contains (names_of (map (λ e. e.entry) es)) name
has-found name es None is test = absurd cc
has-found name es (Some p) is test =
    let it = found name p es (sym is) in
    subst (λ (n : List ℕ). Contains (names_of (map (λ e. e.entry) es)) n) it.named
    (names-at (map (λ e. e.entry) es) p it.engine.entry (map-at (λ (e : EngineParts). e.entry) es p it.engine it.at))

pub none-has : (name : List ℕ) (es : List EngineParts) (o : Option ℕ) → o ≡ position (λ e. is_named name e.entry) es → is_some o ≡ false
    → Contains (names_of (map (λ e. e.entry) es)) name → ⊥
none-has name es None is test = none-found name es (sym is)
none-has name es (Some p) is test = absurd cc

-- ---- lists

take-insert : {X : Type 0} (xs : List X) (at : ℕ) (x : X) → at ≤ length xs → take at (take at xs ++ x ∷ drop at xs) ≡ take at xs
take-insert xs zero x le = refl
take-insert [] (suc at) x le = absurd (omega arith)
take-insert {X = X} (y ∷ ys) (suc at) x le = ap (λ (zs : List X). y ∷ zs) (take-insert ys at x (omega arith))

take-remove : {X : Type 0} (xs : List X) (at : ℕ) → take at (remove xs at) ≡ take at xs
take-remove xs zero = refl
take-remove [] (suc at) = refl
take-remove {X = X} (y ∷ ys) (suc at) = ap (λ (zs : List X). y ∷ zs) (take-remove ys at)

take-set : {X : Type 0} (xs : List X) (at : ℕ) (x : X) → take at (set xs at x) ≡ take at xs
take-set xs zero x = refl
take-set [] (suc at) x = refl
take-set {X = X} (y ∷ ys) (suc at) x = ap (λ (zs : List X). y ∷ zs) (take-set ys at x)

zip-insert : {X Y : Type 0} (R : X → Y → Type 0) (xs : List X) (ys : List Y) (i : ℕ) (x : X) (y : Y) → AllZip R xs ys → R x y → AllZip R (insert xs i x) (insert ys i y)
zip-insert R [] [] zero x y all own = (own, tt)
zip-insert R [] [] (suc i) x y all own = (own, tt)
zip-insert R [] (y' ∷ ys) i x y all own = absurd all
zip-insert R (x' ∷ xs) [] i x y all own = absurd all
zip-insert R (x' ∷ xs) (y' ∷ ys) zero x y all own = (own, all)
zip-insert R (x' ∷ xs) (y' ∷ ys) (suc i) x y all own = (all.0, zip-insert R xs ys i x y all.1 own)

all-insert : {X : Type 0} (P : X → Type 0) (xs : List X) (i : ℕ) (x : X) → All P xs → P x → All P (insert xs i x)
all-insert P xs i x all it = All-append P (take i xs) (x ∷ drop i xs) (All-take P i xs all) (All-cons P x (drop i xs) it (All-drop P i xs all))

all-given : {X : Type 0} (P : X → Type 0) (xs : List X) → ((x : X) → P x) → All P xs
all-given P [] each = All-nil P
all-given P (x ∷ xs) each = All-cons P x xs (each x) (all-given P xs each)

length-insert : {X : Type 0} (xs : List X) (i : ℕ) (x : X) → length (insert xs i x) ≡ length xs + 1
length-insert [] zero x = refl
length-insert [] (suc i) x = refl
length-insert (y ∷ ys) zero x = omega arith
length-insert (y ∷ ys) (suc i) x = omega (arith, length-insert ys i x)

length-removed : {X : Type 0} (xs : List X) (i : ℕ) → length (remove xs i) ≤ length xs
length-removed [] zero = omega arith
length-removed [] (suc i) = omega arith
length-removed (y ∷ ys) zero = omega arith
length-removed (y ∷ ys) (suc i) = omega (arith, length-removed ys i)

length-put : {X : Type 0} (xs : List X) (i : ℕ) (x : X) → length (set xs i x) ≡ length xs
length-put [] zero x = refl
length-put [] (suc i) x = refl
length-put (y ∷ ys) zero x = refl
length-put (y ∷ ys) (suc i) x = omega (arith, length-put ys i x)

pub one-some : {X : Type 0} (o : Option X) (x y : X) → o ≡ Some x → o ≡ Some y → x ≡ y
one-some o x y is other = cc

pub put-back : {X : Type 0} (xs : List X) (p : ℕ) (x : X) → p < length xs → insert (remove xs p) p x ≡ set xs p x
put-back [] p x inside = absurd (omega arith)
put-back (y ∷ ys) zero x inside = refl
put-back (y ∷ ys) (suc p) x inside = let rest = put-back ys p x (omega arith) in cc

-- ---- an entry is attached

none-entries : (es : List Entry) (name : List ℕ) → (Contains (names_of es) name → ⊥) → All (λ e. e.name ≢ name) es
none-entries [] name none = All-nil (λ e. e.name ≢ name)
none-entries (e ∷ es) name none = All-cons (λ e. e.name ≢ name) e es (λ same. none (0, omega arith, same))
    (none-entries es name (λ has. none (suc has.0, omega (arith, has.1), has.2)))

attach-notes : (past : Trace) (at : ℕ) (name label : List ℕ) (policy : Policy) (e : Entry) → e.name ≢ name → KeepsNotes past (Attach at name label policy) e
attach-notes past at name label policy e other seq = ap (λ (b : Bool). cond b nothing (noted e.name seq past)) (bytes-other name e.name (λ same. other (sym same)))

attach-latest : (past : Trace) (at : ℕ) (name label : List ℕ) (policy : Policy) (e : EngineParts) (n : ℕ) → e.entry.name ≢ name → IsLatest past e n
    → IsLatest (Op (Attach at name label policy) ∷ past) e n
attach-latest past at name label policy e n other is =
    is ∙ sym (ap (λ (b : Bool). greatest (cond b [] (noted_calls e.entry.name past)))
    (bytes-other name e.entry.name (λ same. other (sym same))))

attach-first : (past : Trace) (at : ℕ) (name label : List ℕ) (policy : Policy) (e : EngineParts) → e.entry.name ≡ name → IsLatest (Op (Attach at name label policy) ∷ past) e 0
attach-first past at name label policy e same = sym (ap (λ (b : Bool). greatest (cond b [] (noted_calls e.entry.name past))) (bytes-same name e.entry.name (sym same)))

new-engine : (name : List ℕ) (attach last : ℕ) (policy : Policy) (e : EngineParts) → e.entry ≡ new_entry name attach policy → e.level ≡ initial_level policy → e.last ≡ last
    → e ≡ record { entry = new_entry name attach policy; level = initial_level policy; last = last }
new-engine name attach last policy e entry level same_last =
    ap {B = EngineParts} (λ (x : Entry). record { entry = x; level = e.level; last = e.last }) entry
    ∙ (ap {B = EngineParts} (λ (l : ℕ). record { entry = new_entry name attach policy; level = l; last = e.last }) level
    ∙ ap {B = EngineParts} (λ (m : ℕ). record { entry = new_entry name attach policy; level = initial_level policy; last = m }) same_last)

module _ (T : Table) (past : Trace) (c c' : Checker) (knows : IsCheckerAfter T past c) where
  entries : map (λ e. e.entry) c.engines.items ≡ (chain past).entries
  entries = ap (λ (x : Chain). x.entries) knows.row.ties.same_chain

  pub has-known : (name : List ℕ) → Contains (names_of (map (λ e. e.entry) c.engines.items)) name → Contains (names_of (chain past).entries) name
  has-known name has = subst (λ (es : List Entry). Contains (names_of es) name) entries has

  pub none-known : (name : List ℕ) → (Contains (names_of (map (λ e. e.entry) c.engines.items)) name → ⊥) → Contains (names_of (chain past).entries) name → ⊥
  none-known name none has = none (subst (λ (es : List Entry). Contains (names_of es) name) (sym entries) has)

  pub many-known : length (chain past).entries ≡ length c.engines.items
  many-known = omega (arith, ap (λ (es : List Entry). length es) entries, length-map c.engines.items (λ (e : EngineParts). e.entry))

  pub entry-known : (p : ℕ) (e : Entry) → slice_get (map (λ e. e.entry) c.engines.items) p ≡ Some e → slice_get (chain past).entries p ≡ Some e
  entry-known p e is = subst (λ (es : List Entry). slice_get es p ≡ Some e) entries is

  pub knows-attached : (at : ℕ) (name label : List ℕ) (policy : Policy) (e : EngineParts) → CanFollow (checker_context T c) past (Op (Attach at name label policy)) → AreTiedAfterAttach
      → c' ≡ record c { engines = c'.engines; latest = c'.latest; attached = c'.attached; reached = c'.reached } → c'.attached ≡ c.attached + 1
      → c'.engines.items ≡ insert c.engines.items at e → c'.latest.items ≡ insert c.latest.items at 0 → c'.reached.items ≡ map (λ r. min r at) c.reached.items
      → e.entry ≡ new_entry name (c.attached + 1) policy → e.level ≡ initial_level policy → e.last ≡ c.moment
      → (Contains (names_of (map (λ e. e.entry) c.engines.items)) name → ⊥) → at ≤ length c.engines.items → length c.engines.items < 8
      → vec_capacity c'.engines ≡ vec_capacity c.engines → vec_capacity c'.latest ≡ vec_capacity c.latest → deque_capacity c'.reached ≡ deque_capacity c.reached
      → IsCheckerAfter T (Op (Attach at name label policy) ∷ past) c'
  knows-attached at name label policy e may law rest attached engines latest reached entry level last none within few room1 room2 room3 =
      let step : Step = Attach at name label policy in
      let is = new-engine name (c.attached + 1) (timestamp past) policy e entry level (last ∙ knows.row.shows) in
      let named : e.entry.name ≡ name = ap (λ (x : Entry). x.name) entry in
      let tied : AreTied c.conn (Op step ∷ past) c'.engines.items c'.attached c.calls =
      subst (λ (n : ℕ). AreTied c.conn (Op step ∷ past) c'.engines.items n c.calls) (sym attached)
      (subst (λ (es : List EngineParts). AreTied c.conn (Op step ∷ past) es (c.attached + 1) c.calls) (sym (engines ∙ ap (λ (x : EngineParts). insert c.engines.items at x) is))
      (law c.conn past c.engines.items c.attached c.calls at name label policy knows.row.ties may.chain_kept)) in
      knows-operated T past step at c c' knows may rest tied reached
      (take-insert (chain past).entries at (new_entry name ((chain past).attached + 1) policy) (omega (arith, many-known)))
      (All-take (KeepsNotes past step) at (chain past).entries
      (all-on (λ (x : Entry). x.name ≢ name) (KeepsNotes past step) (chain past).entries
      (λ x other. attach-notes past at name label policy x other)
      (none-entries (chain past).entries name (none-known name none))))
      (subst (λ (es : List EngineParts). AllZip (IsLatest (Op step ∷ past)) es c'.latest.items) (sym engines)
      (subst (λ (ls : List ℕ). AllZip (IsLatest (Op step ∷ past)) (insert c.engines.items at e) ls) (sym latest)
      (zip-insert (IsLatest (Op step ∷ past)) c.engines.items c.latest.items at e 0
      (zip-both (λ (x : EngineParts). x.entry.name ≢ name) (IsLatest past) (IsLatest (Op step ∷ past)) c.engines.items
      c.latest.items (λ x n other. attach-latest past at name label policy x n other)
      (none-named c.engines.items name none) knows.latest)
      (attach-first past at name label policy e named))))
      (omega (arith, attached, knows.attachments))
      (subst (λ (es : List EngineParts). All (λ x. x.entry.version ≤ length (Op step ∷ past) + 1) es) (sym engines)
      (all-insert (λ (x : EngineParts). x.entry.version ≤ length (Op step ∷ past) + 1) c.engines.items at e
      (all-on (λ (x : EngineParts). x.entry.version ≤ length past + 1) (λ (x : EngineParts). x.entry.version
      ≤ length (Op step ∷ past) + 1) c.engines.items (λ x le. omega (arith, le)) knows.versions)
      (omega (arith, ap (λ (x : Entry). x.version) entry))))
      (record {
        few_engines = omega (arith, ap (λ (es : List EngineParts). length es) engines, length-insert c.engines.items at e);
        engines = omega (arith, knows.room.engines, room1);
        latest = omega (arith, knows.room.latest, room2);
        calls = omega (arith, knows.room.calls, room3);
      })

-- ---- the entry of a name is detached

none-left : (name : List ℕ) (es : List Entry) → (Contains (names_of es) name → ⊥) → filter (λ e. not (is_named name e)) es ≡ es
none-left name [] none = refl
none-left name (x ∷ xs) none =
    let other : is_named name x ≡ false = bytes-other x.name name (λ same. none (0, omega arith, same)) in
    let rest = none-left name xs (λ has. none (suc has.0, omega (arith, has.1), has.2)) in
    rw (other, rest) refl

without-named : (name : List ℕ) (es : List Entry) (p : ℕ) (e : Entry) → AreDistinct (names_of es) → slice_get es p ≡ Some e → e.name ≡ name
    → filter (λ e. not (is_named name e)) es ≡ remove es p
without-named name [] p e apart is same = absurd cc
without-named name (x ∷ xs) zero e apart is same =
    let here : x ≡ e = cc in
    let there : x.name ≡ name = ap (λ (e : Entry). e.name) here ∙ same in
    let mine = named-is name x there in
    rw mine (none-left name xs (λ has. apart.0 (rw there has)))
without-named name (x ∷ xs) (suc p) e apart is same =
    let other = bytes-other x.name name (λ mine. apart.0 (rw (mine ∙ sym same) (names-at xs p e is))) in
    let rest = without-named name xs p e apart.1 is same in
    rw other (ap (λ (ys : List Entry). x ∷ ys) rest)

-- ---- the entry of a name is upgraded

none-upgraded : (name : List ℕ) (policy : Policy) (es : List Entry) → (Contains (names_of es) name → ⊥)
    → map (λ e. if is_named name e then upgraded e policy else e) es ≡ es
none-upgraded name policy [] none = refl
none-upgraded name policy (x ∷ xs) none =
    let other : is_named name x ≡ false = bytes-other x.name name (λ same. none (0, omega arith, same)) in
    let rest = none-upgraded name policy xs (λ has. none (suc has.0, omega (arith, has.1), has.2)) in
    rw (other, rest) refl

upgraded-named : (name : List ℕ) (policy : Policy) (es : List Entry) (p : ℕ) (e : Entry) → AreDistinct (names_of es) → slice_get es p ≡ Some e → e.name ≡ name
    → map (λ e. if is_named name e then upgraded e policy else e) es ≡ set es p (upgraded e policy)
upgraded-named name policy [] p e apart is same = absurd cc
upgraded-named name policy (x ∷ xs) zero e apart is same =
    let there : x ≡ e = cc in
    let named : x.name ≡ name = ap (λ (e : Entry). e.name) there ∙ same in
    let mine = named-is name x named in
    let rest = none-upgraded name policy xs (λ has. apart.0 (rw named has)) in
    rw (mine, rest) (ap (λ (e : Entry). upgraded e policy ∷ xs) there)
upgraded-named name policy (x ∷ xs) (suc p) e apart is same =
    let other = bytes-other x.name name (λ mine. apart.0 (rw (mine ∙ sym same) (names-at xs p e is))) in
    let rest = upgraded-named name policy xs p e apart.1 is same in
    rw other (ap (λ (ys : List Entry). x ∷ ys) rest)

renamed-latest : (past : Trace) (es : List EngineParts) (ls : List ℕ) (p : ℕ) (e e' : EngineParts)
    → slice_get es p ≡ Some e → e'.entry.name ≡ e.entry.name → AllZip (IsLatest past) es ls
    → AllZip (IsLatest past) (set es p e') ls
renamed-latest past [] ls p e e' is same all = absurd cc
renamed-latest past (x ∷ es) [] p e e' is same all = absurd all
renamed-latest past (x ∷ es) (l ∷ ls) zero e e' is same all =
    let there : x ≡ e = cc in
    (all.0 ∙ ap (λ (name : List ℕ). greatest (noted_calls name past)) (ap (λ (y : EngineParts). y.entry.name) there ∙ sym same), all.1)
renamed-latest past (x ∷ es) (l ∷ ls) (suc p) e e' is same all = (all.0, renamed-latest past es ls p e e' is same all.1)

module _ (T : Table) (past : Trace) (c c' : Checker) (knows : IsCheckerAfter T past c) (distinct : AreDistinct (names_of (chain past).entries)) (name : List ℕ) (at : ℕ) (e : EngineParts)
    (there : slice_get c.engines.items at ≡ Some e) (there_entry : slice_get (chain past).entries at ≡ Some e.entry) (named : e.entry.name ≡ name)
    (rest : c' ≡ record c { engines = c'.engines; latest = c'.latest; attached = c'.attached; reached = c'.reached }) (attached : c'.attached ≡ c.attached)
    (reached : c'.reached.items ≡ map (λ r. min r at) c.reached.items) (room1 : vec_capacity c'.engines ≡ vec_capacity c.engines)
    (room2 : vec_capacity c'.latest ≡ vec_capacity c.latest) (room3 : deque_capacity c'.reached ≡ deque_capacity c.reached) where
  pub knows-detached : CanFollow (checker_context T c) past (Op (Detach name)) → AreTiedAfterDetach → c'.engines.items ≡ remove c.engines.items at → c'.latest.items ≡ remove c.latest.items at
      → IsCheckerAfter T (Op (Detach name) ∷ past) c'
  knows-detached may law engines latest =
      let step : Step = Detach name in
      let tied : AreTied c.conn (Op step ∷ past) c'.engines.items c'.attached c.calls =
      subst (λ (n : ℕ). AreTied c.conn (Op step ∷ past) c'.engines.items n c.calls) (sym attached)
      (subst (λ (es : List EngineParts). AreTied c.conn (Op step ∷ past) es c.attached c.calls) (sym engines)
      (law (checker_context T c) past c.engines.items c.attached c.calls name at e knows.row.prefix knows.row.ties there named)) in
      knows-operated T past step at c c' knows may rest tied reached
      (ap (λ (es : List Entry). take at es) (without-named name (chain past).entries at e.entry distinct there_entry named) ∙ take-remove (chain past).entries at)
      (all-given (KeepsNotes past step) (take at (chain past).entries) (λ x seq. refl))
      (subst (λ (es : List EngineParts). AllZip (IsLatest (Op step ∷ past)) es c'.latest.items) (sym engines)
      (subst (λ (ls : List ℕ). AllZip (IsLatest (Op step ∷ past)) (remove c.engines.items at) ls) (sym latest)
      (zip-on (IsLatest past) (IsLatest (Op step ∷ past)) (remove c.engines.items at) (remove c.latest.items at) (λ x n is. is)
      (zip-remove (IsLatest past) c.engines.items c.latest.items at knows.latest))))
      (omega (arith, attached, knows.attachments))
      (subst (λ (es : List EngineParts). All (λ x. x.entry.version ≤ length (Op step ∷ past) + 1) es) (sym engines)
      (all-remove (λ (x : EngineParts). x.entry.version ≤ length (Op step ∷ past) + 1) c.engines.items at
      (all-on (λ (x : EngineParts). x.entry.version ≤ length past + 1) (λ (x : EngineParts). x.entry.version
      ≤ length (Op step ∷ past) + 1) c.engines.items (λ x le. omega (arith, le)) knows.versions)))
      (record {
        few_engines = omega (arith, knows.room.few_engines, ap (λ (es : List EngineParts). length es) engines, length-removed c.engines.items at);
        engines = omega (arith, knows.room.engines, room1);
        latest = omega (arith, knows.room.latest, room2);
        calls = omega (arith, knows.room.calls, room3);
      })

  pub knows-upgraded : (label : List ℕ) (policy : Policy) (e' : EngineParts) → CanFollow (checker_context T c) past (Op (Upgrade name label policy)) → AreTiedAfterUpgrade
      → c'.engines.items ≡ set c.engines.items at e' → c'.latest.items ≡ c.latest.items
      → e'.entry ≡ upgraded e.entry policy → e'.level ≡ level_after_upgrade e.entry.policy policy e.level
      → e'.last ≡ e.last → ((s : PendingCall) → IsTrueFor e.entry s → IsTrueFor e'.entry s) → IsCheckerAfter T (Op (Upgrade name label policy) ∷ past) c'
  knows-upgraded label policy e' may law engines latest entry level last stays =
      let step : Step = Upgrade name label policy in
      let tied : AreTied c.conn (Op step ∷ past) c'.engines.items c'.attached c.calls =
      subst (λ (n : ℕ). AreTied c.conn (Op step ∷ past) c'.engines.items n c.calls) (sym attached)
      (subst (λ (es : List EngineParts). AreTied c.conn (Op step ∷ past) es c.attached c.calls) (sym engines)
      (law (checker_context T c) past c.engines.items c.attached c.calls name label policy at e e' knows.row.prefix knows.row.ties there named
      (record { entry = entry; level = level; last = last; true_for = stays }))) in
      let old : e.entry.version ≤ length past + 1 = All-at (λ (x : EngineParts). x.entry.version ≤ length past + 1) c.engines.items at e knows.versions there in
      knows-operated T past step at c c' knows may rest tied reached
      (ap (λ (es : List Entry). take at es)
      (upgraded-named name policy (chain past).entries at e.entry distinct there_entry named)
      ∙ take-set (chain past).entries at (upgraded e.entry policy))
      (all-given (KeepsNotes past step) (take at (chain past).entries) (λ x seq. refl))
      (subst (λ (es : List EngineParts). AllZip (IsLatest (Op step ∷ past)) es c'.latest.items) (sym engines)
      (subst (λ (ls : List ℕ). AllZip (IsLatest (Op step ∷ past)) (set c.engines.items at e') ls) (sym latest)
      (zip-on (IsLatest past) (IsLatest (Op step ∷ past)) (set c.engines.items at e') c.latest.items (λ x n is. is)
      (renamed-latest past c.engines.items c.latest.items at e e' there (ap (λ (x : Entry). x.name) entry) knows.latest))))
      (omega (arith, attached, knows.attachments))
      (subst (λ (es : List EngineParts). All (λ x. x.entry.version ≤ length (Op step ∷ past) + 1) es) (sym engines)
      (All-set (λ (x : EngineParts). x.entry.version ≤ length (Op step ∷ past) + 1) c.engines.items at e' (omega (arith, old, ap (λ (x : Entry). x.version) entry))
      (all-on (λ (x : EngineParts). x.entry.version ≤ length past + 1) (λ (x : EngineParts). x.entry.version
      ≤ length (Op step ∷ past) + 1) c.engines.items (λ x le. omega (arith, le)) knows.versions)))
      (record {
        few_engines = omega (arith, knows.room.few_engines, ap (λ (es : List EngineParts). length es) engines, length-put c.engines.items at e');
        engines = omega (arith, knows.room.engines, room1);
        latest = omega (arith, knows.room.latest, room2);
        calls = omega (arith, knows.room.calls, room3);
      })
