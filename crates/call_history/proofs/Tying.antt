-- Engines and calls with their marks: lists in which one item is replaced, and the entry of each engine.
use Rattle.std.proofs.Common.{◌≡◌, ◌≢◌, ℕ, zero, suc, cond, inl, inr, List, [], ◌∷◌, map}
use Rattle.std.proofs.Common.{take, drop, set, insert, remove, get_or, slice_get, refl, sym, ap, ◌∙◌, subst, arith}
use Rattle.std.specs.Prelude.{All, Contains, find, option_map, Some}
use Rattle.std.proofs.lemmas.List.{map-append, take-map, drop-map}
use Rattle.std.proofs.lemmas.List.Elements.{All-append, All-cons, All-drop, All-head, All-tail, All-take}
use Rattle.mrpc_table.specs.Valid.{AreDistinct}
use Rattle.engine_core.specs.Chains.{Chain, Entry, IsChain, attachments_of, is_named, names_of}
use Rattle.engine_core.specs.Engines.{EngineParts, chain_of_engines}
use Rattle.engine_core.specs.Marks.{PendingCall}
use Rattle.call_history.specs.Trace.{Trace, chain, policy_in_trace}
use Rattle.call_history.specs.Ties.{AreNumbersApart}
use Rattle.call_history.proofs.Chained.{all-step, named-there}
use Rattle.call_history.proofs.Further.{contains-cases, contains-first, contains-later}
use Rattle.call_history.proofs.Looking.{equal-name, other-name}

-- ---- lists

pub insert-map : {X Y : Type 0} (f : X → Y) (xs : List X) (i : ℕ) (x : X) → map f (insert xs i x) ≡ insert (map f xs) i (f x)
insert-map f xs i x = simp (map-append, take-map, drop-map)

pub remove-map : {X Y : Type 0} (f : X → Y) (xs : List X) (i : ℕ) → map f (remove xs i) ≡ remove (map f xs) i
remove-map f xs i = simp (map-append, take-map, drop-map)

pub All-insert : {X : Type 0} (P : X → Type 0) (xs : List X) (i : ℕ) (x : X) → All P xs → P x → All P (insert xs i x)
All-insert P xs i x all it = All-append P (take i xs) (x ∷ drop i xs) (All-take P i xs all) (All-cons P x (drop i xs) it (All-drop P i xs all))

pub All-remove : {X : Type 0} (P : X → Type 0) (xs : List X) (i : ℕ) → All P xs → All P (remove xs i)
All-remove P xs i all = All-append P (take i xs) (drop (suc i) xs) (All-take P i xs all) (All-drop P (suc i) xs all)

pub All-at : {X : Type 0} (P : X → Type 0) (xs : List X) (p : ℕ) (x : X) → All P xs → slice_get xs p ≡ Some x → P x
All-at P [] p x all is = absurd cc
All-at P (z ∷ zs) zero x all is = let there : z ≡ x = cc in rw (sym there) (All-head P z zs all)
All-at P (z ∷ zs) (suc p) x all is = All-at P zs p x (All-tail P z zs all) is

pub same-map : {X Y : Type 0} (f : X → Y) (xs : List X) (p : ℕ) (x y : X) → slice_get xs p ≡ Some x → f y ≡ f x → map f (set xs p y) ≡ map f xs
same-map f [] p x y is same = refl
same-map f (z ∷ zs) zero x y is same = let there : z ≡ x = cc in cc
same-map f (z ∷ zs) (suc p) x y is same = let rest = same-map f zs p x y is same in cc

pub contains-map : {X Y : Type 0} (f : X → Y) (xs : List X) (x : X) → Contains xs x → Contains (map f xs) (f x)
contains-map f [] x has = absurd (omega (arith, has.1))
contains-map f (z ∷ zs) x has = elim (contains-cases z zs x has) [
  | inl same ↦ contains-first (f z) (map f zs) (f x) (ap f same)
  | inr rest ↦ contains-later (f z) (map f zs) (f x) (contains-map f zs x rest)
]

pub contains-at : {X : Type 0} (xs : List X) (p : ℕ) (x : X) → slice_get xs p ≡ Some x → Contains xs x
contains-at [] p x is = absurd cc
contains-at (z ∷ zs) zero x is = let there : z ≡ x = cc in contains-first z zs x there
contains-at (z ∷ zs) (suc p) x is = contains-later z zs x (contains-at zs p x is)

-- ---- engines

pub named-in : (es : List EngineParts) (e : EngineParts) → Contains es e → Contains (names_of (map (λ e. e.entry) es)) e.entry.name
named-in es e has = named-there (map (λ (e : EngineParts). e.entry) es) e.entry (contains-map (λ (e : EngineParts). e.entry) es e has)

pub attached-in : (es : List EngineParts) (e : EngineParts) → Contains es e → Contains (attachments_of (map (λ e. e.entry) es)) e.entry.attach
attached-in es e has = contains-map (λ (e : Entry). e.attach) (map (λ (e : EngineParts). e.entry) es) e.entry (contains-map (λ (e : EngineParts). e.entry) es e has)

-- an engine is replaced by another with its entry; the others have other names and attachments
pub replaced : (P Q : EngineParts → Type 0) (es : List EngineParts) (p : ℕ) (e e' : EngineParts)
    → AreDistinct (names_of (map (λ e. e.entry) es)) → AreDistinct (attachments_of (map (λ e. e.entry) es)) → slice_get es p ≡ Some e → Q e'
    → ((x : EngineParts) → x.entry.name ≢ e.entry.name → x.entry.attach ≢ e.entry.attach → P x → Q x) → All P es → All Q (set es p e')
replaced P Q [] p e e' names attaches is own others all = absurd cc
replaced P Q (x ∷ es) zero e e' names attaches is own others all =
    let there : x ≡ e = cc in
    All-cons Q e' es own (all-step P Q es (λ y has. others y
    (λ same. names.0 (subst (λ (n : List ℕ). Contains (names_of (map (λ e. e.entry) es)) n) (same ∙ ap (λ (e : EngineParts). e.entry.name) (sym there)) (named-in es y has)))
    (λ same. attaches.0 (subst (λ (n : ℕ). Contains (attachments_of (map (λ e. e.entry) es)) n)
    (same ∙ ap (λ (e : EngineParts). e.entry.attach) (sym there)) (attached-in es y has))))
    (All-tail P x es all))
replaced P Q (x ∷ es) (suc p) e e' names attaches is own others all =
    let has = contains-at es p e is in
    All-cons Q x (set es p e')
    (others x
    (λ same. names.0 (subst (λ (n : List ℕ). Contains (names_of (map (λ e. e.entry) es)) n) (sym same) (named-in es e has)))
    (λ same. attaches.0 (subst (λ (n : ℕ). Contains (attachments_of (map (λ e. e.entry) es)) n) (sym same) (attached-in es e has)))
    (All-head P x es all))
    (replaced P Q es p e e' names.1 attaches.1 is own others (All-tail P x es all))

-- a call is replaced by another with its number
pub replaced-call : (P Q : PendingCall → Type 0) (calls : List PendingCall) (j : ℕ) (s s' : PendingCall) → AreNumbersApart calls → slice_get calls j ≡ Some s
    → Q s' → ((x : PendingCall) → x.call.seq ≢ s.call.seq → P x → Q x) → All P calls → All Q (set calls j s')
replaced-call P Q [] j s s' apart is own others all = absurd cc
replaced-call P Q (x ∷ calls) zero s s' apart is own others all =
    let there : x ≡ s = cc in
    All-cons Q s' calls own
    (λ k d inside. others (get_or calls k d)
    (λ same. apart.0 k d inside (same ∙ ap (λ (s : PendingCall). s.call.seq) (sym there)))
    (All-tail P x calls all k d inside))
replaced-call P Q (x ∷ calls) (suc j) s s' apart is own others all =
    All-cons Q x (set calls j s') (others x (λ same. All-at (λ (t : PendingCall). t.call.seq ≢ x.call.seq) calls j s apart.0 is (sym same)) (All-head P x calls all))
    (replaced-call P Q calls j s s' apart.1 is own others (All-tail P x calls all))

-- looking a name up gives its entry
pub find-there : (es : List Entry) (e : Entry) → AreDistinct (names_of es) → Contains es e → find (is_named e.name) es ≡ Some e
find-there [] e apart has = absurd (omega (arith, has.1))
find-there (x ∷ es) e apart has = elim (contains-cases x es e has) [
  | inl same ↦ ap (λ b. cond b (Some x) (find (is_named e.name) es)) (equal-name x.name e.name (ap (λ (y : Entry). y.name) same)) ∙ ap (λ (y : Entry). Some y) same
  | inr rest ↦ ap (λ b. cond b (Some x) (find (is_named e.name) es))
      (other-name x.name e.name (λ same. apart.0 (subst (λ (n : List ℕ). Contains (names_of es) n) (sym same) (named-there es e rest))))
      ∙ find-there es e apart.1 rest
]

-- the policy of an engine is that of its name
pub policy-there : (past : Trace) (es : List EngineParts) (n : ℕ) (e : EngineParts) → IsChain (chain past) → chain_of_engines es n ≡ chain past → Contains es e
    → policy_in_trace e.entry.name past ≡ Some e.entry.policy
policy-there past es n e chained same has =
    let entries : map (λ (e : EngineParts). e.entry) es ≡ (chain past).entries = ap (λ (c : Chain). c.entries) same in
    let there : Contains (chain past).entries e.entry = subst (λ (xs : List Entry). Contains xs e.entry) entries (contains-map (λ (e : EngineParts). e.entry) es e has) in
    ap (option_map (λ (x : Entry). x.policy)) (find-there (chain past).entries e.entry chained.names there)
