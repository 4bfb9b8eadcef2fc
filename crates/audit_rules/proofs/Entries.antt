-- The entry of a name in a chain, and the entries before it.
use Rattle.std.proofs.Common.{◌≡◌, ◌≢◌, ℕ, ◌+◌, ◌<◌, ◌≤◌, zero, suc, Bool, true, false, cond, nat_lt, if◌then◌else◌}
use Rattle.std.proofs.Common.{List, [], ◌∷◌, ◌++◌, length, map, take, drop, set, get_or, slice_get, refl, sym, ap}
use Rattle.std.proofs.Common.{◌∙◌, subst, arith}
use Rattle.std.specs.Prelude.{All, Contains, Some, None}
use Rattle.std.specs.List.{AllZip, position, position_or_len}
use Rattle.std.proofs.lemmas.Bool.Decides.{nat_tests}
use Rattle.std.proofs.lemmas.Grind.{common_steps}
use Rattle.std.proofs.lemmas.List.Elements.{All-cons, All-nil}
use Rattle.std.proofs.lemmas.List.Quantifiers.{position-Some}
use Rattle.std.proofs.lemmas.List.Recursion.{is_position_or_len}
use Rattle.std.proofs.lemmas.Option.{slice_get-get_or}
use Rattle.std.proofs.lemmas.Slice.Eq.{bytes_eq-Decides}
use Rattle.mrpc_table.specs.Valid.{AreDistinct}
use Rattle.engine_core.specs.Chains.{Chain, Entry, is_named, names_of}
use Rattle.engine_core.specs.Engines.{EngineParts, chain_of_engines}
use Rattle.engine_core.specs.Marks.{PendingCall, seqs_of}
use Rattle.engine_core.specs.Moves.{position_of}
use Rattle.call_history.specs.Trace.{Trace, chain, pending_calls}
use Rattle.call_history.specs.Rules.{IsAt, IsAllowedInTrace, JudgeContext}
use Rattle.call_history.specs.Ties.{AreNumbersApart, IsNumberApart}
use Rattle.audit_rules.specs.Asking.{IsRising, HasPassedFirst}
use Rattle.audit_rules.proofs.Asked.{map-at}

-- ---- names

pub named-is : (name : List ℕ) (e : Entry) → e.name ≡ name → is_named name e ≡ true
named-is name e same = grind (arith, common_steps, bytes_eq-Decides)

pub named-from : (name : List ℕ) (e : Entry) → is_named name e ≡ true → e.name ≡ name
named-from name e test = grind (arith, common_steps, bytes_eq-Decides)

one-more : (b : Bool) (n : ℕ) → (if b then 0 else n + 1) ≡ cond b 0 (1 + n)
one-more true n = refl
one-more false n = omega arith

place-len : (name : List ℕ) (es : List EngineParts) → position_of name (map (λ e. e.entry) es) ≡ position_or_len (λ e. is_named name e.entry) es
place-len name es = is_position_or_len (λ (es : List EngineParts). position_of name (map (λ e. e.entry) es)) (λ (e : EngineParts). is_named name e.entry) refl
    (λ x xs. one-more (is_named name x.entry) (position_of name (map (λ e. e.entry) xs))) es

no-first : (b : Bool) (n : ℕ) → cond b (Some n) None ≡ None → b ≡ false
no-first true n is = absurd cc
no-first false n is = refl

past-it : (n m : ℕ) → nat_lt n m ≡ false → m ≤ n
past-it n m test = grind (arith, nat_tests)

less-then : (b : Bool) (n m : ℕ) → n < m → (if b then 0 else n + 1) < suc m
less-then true n m less = omega arith
less-then false n m less = omega arith

place-within : (name : List ℕ) (es : List EngineParts) (j : ℕ) → j < length (names_of (map (λ e. e.entry) es))
    → get_or (names_of (map (λ e. e.entry) es)) j name ≡ name → position_of name (map (λ e. e.entry) es) < length es
place-within name [] j inside same = absurd (omega arith)
place-within name (x ∷ xs) zero inside same = let mine = named-is name x.entry same in rw mine (omega arith)
place-within name (x ∷ xs) (suc j) inside same =
    less-then (is_named name x.entry) (position_of name (map (λ e. e.entry) xs)) (length xs) (place-within name xs j (omega arith) same)

-- the engine of a name is at an index
pub record IsFound (name : List ℕ) (place : ℕ) (es : List EngineParts) : Type 0 where
  pub engine : EngineParts
  pub within : place < length es
  pub at : slice_get es place ≡ Some engine
  pub named : engine.entry.name ≡ name

pub found : (name : List ℕ) (place : ℕ) (es : List EngineParts) → position (λ e. is_named name e.entry) es ≡ Some place → IsFound name place es
found name place [] is = absurd cc
found name place (x ∷ xs) is =
    let p = position-Some (λ (e : EngineParts). is_named name e.entry) (x ∷ xs) place x is in
    record {
      engine = get_or (x ∷ xs) place x;
      within = p.0;
      at = slice_get-get_or (x ∷ xs) place x p.0;
      named = named-from name (get_or (x ∷ xs) place x).entry p.1;
    }

pub none-found : (name : List ℕ) (es : List EngineParts) → position (λ e. is_named name e.entry) es ≡ None
    → Contains (names_of (map (λ e. e.entry) es)) name → ⊥
none-found name es is has =
    let past : length es ≤ position_or_len (λ (e : EngineParts). is_named name e.entry) es =
    past-it (position_or_len (λ (e : EngineParts). is_named name e.entry) es) (length es)
    (no-first (nat_lt (position_or_len (λ (e : EngineParts). is_named name e.entry) es) (length es)) (position_or_len (λ (e : EngineParts). is_named name e.entry) es) is) in
    omega (arith, place-len name es, place-within name es has.0 has.1 has.2)

-- ---- an entry and those before it

pub names-middle : (front back : List Entry) (e : Entry) → Contains (names_of (front ++ e ∷ back)) e.name
names-middle [] back e = (0, omega arith, refl)
names-middle (x ∷ front) back e = let rest = names-middle front back e in (suc rest.0, omega (arith, rest.1), rest.2)

names-at : (es : List Entry) (p : ℕ) (e : Entry) → slice_get es p ≡ Some e → Contains (names_of es) e.name
names-at [] p e is = absurd cc
names-at (x ∷ xs) zero e is = let there : x ≡ e = cc in (0, omega arith, ap (λ (e : Entry). e.name) there)
names-at (x ∷ xs) (suc p) e is = let rest = names-at xs p e is in (suc rest.0, omega (arith, rest.1), rest.2)

-- an entry of a name is the one at its index, followed by the same others
pub record IsSplit (es front : List Entry) (p : ℕ) (x e : Entry) : Type 0 where
  pub before : take p es ≡ front
  pub same : x ≡ e

pub split-there : (front back : List Entry) (e x : Entry) (p : ℕ) → AreDistinct (names_of (front ++ e ∷ back)) → slice_get (front ++ e ∷ back) p ≡ Some x → x.name ≡ e.name
    → IsSplit (front ++ e ∷ back) front p x e
split-there [] back e x zero apart is named = let there : e ≡ x = cc in record { before = refl; same = sym there }
split-there [] back e x (suc p) apart is named = absurd (apart.0 (subst (λ (n : List ℕ). Contains (names_of back) n) named (names-at back p x is)))
split-there (y ∷ front) back e x zero apart is named =
    let there : y ≡ x = cc in
    absurd (apart.0 (subst (λ (n : List ℕ). Contains (names_of (front ++ e ∷ back)) n) (sym named ∙ ap (λ (e : Entry). e.name) (sym there)) (names-middle front back e)))
split-there (y ∷ front) back e x (suc p) apart is named =
    let rest = split-there front back e x p apart.1 is named in
    record { before = ap (λ (es : List Entry). y ∷ es) rest.before; same = rest.same }

pub split-at : {X : Type 0} (xs : List X) (j : ℕ) (x : X) → slice_get xs j ≡ Some x → xs ≡ take j xs ++ x ∷ drop (suc j) xs
split-at [] j x is = absurd cc
split-at (z ∷ zs) zero x is = let there : z ≡ x = cc in cc
split-at {X = X} (z ∷ zs) (suc j) x is = ap (λ (ys : List X). z ∷ ys) (split-at zs j x is)

-- ---- a pending call at an entry

contains-seq : (ns : List ℕ) (j n : ℕ) → slice_get ns j ≡ Some n → Contains ns n
contains-seq [] j n is = absurd cc
contains-seq (m ∷ ns) zero n is = (0, omega arith, cc)
contains-seq (m ∷ ns) (suc j) n is = let rest = contains-seq ns j n is in (suc rest.0, omega (arith, rest.1), rest.2)

module _ (u : JudgeContext) (past : Trace) (es : List EngineParts) (n : ℕ) (calls : List PendingCall) (same : chain_of_engines es n ≡ chain past)
    (apart : AreDistinct (names_of (chain past).entries)) (stands : seqs_of calls ≡ map (λ call. call.seq) (pending_calls past)) where
  entries : map (λ e. e.entry) es ≡ (chain past).entries
  entries = ap (λ (c : Chain). c.entries) same

  -- it is there if all entries before let it pass
  pub is-at : (name : List ℕ) (seq j p : ℕ) (e : EngineParts) → slice_get (seqs_of calls) j ≡ Some seq → slice_get es p ≡ Some e → e.entry.name ≡ name
      → HasPassedFirst u past seq p → IsAt u past seq name e.entry
  is-at name seq j p e there is named lets = record {
    front = take p (chain past).entries;
    back = drop (suc p) (chain past).entries;
    entries = split-at (chain past).entries p e.entry (subst (λ (xs : List Entry). slice_get xs p ≡ Some e.entry) entries (map-at (λ (e : EngineParts). e.entry) es p e is));
    named = named;
    is_pending = subst (λ (ns : List ℕ). Contains ns seq) stands (contains-seq (seqs_of calls) j seq there);
    allowed = lets;
  }

  pub not-standing : (name : List ℕ) (seq : ℕ) (e : Entry) → (Contains (seqs_of calls) seq → ⊥) → IsAt u past seq name e → ⊥
  not-standing name seq e none at = none (subst (λ (ns : List ℕ). Contains ns seq) (sym stands) at.is_pending)

  pub not-named : (name : List ℕ) (seq : ℕ) (e : Entry) → position (λ e. is_named name e.entry) es ≡ None → IsAt u past seq name e → ⊥
  not-named name seq e is at = none-found name es is
      (subst (λ (xs : List Entry). Contains (names_of xs) name) (sym at.entries ∙ sym entries)
      (subst (λ (m : List ℕ). Contains (names_of (at.front ++ e ∷ at.back)) m) at.named
      (names-middle at.front at.back e)))

  -- the entry of a name is the one at its index
  pub there-split : (name : List ℕ) (seq p : ℕ) (x : Entry) (e : EngineParts) → slice_get es p ≡ Some e → e.entry.name ≡ name → (at : IsAt u past seq name x)
      → IsSplit (chain past).entries at.front p e.entry x
  there-split name seq p x e is named at =
      let there : slice_get (chain past).entries p ≡ Some e.entry =
      subst (λ (xs : List Entry). slice_get xs p ≡ Some e.entry) entries
      (map-at (λ (e : EngineParts). e.entry) es p e is) in
      subst (λ (xs : List Entry). IsSplit xs at.front p e.entry x) (sym at.entries)
      (split-there at.front at.back x e.entry p (subst (λ (xs : List Entry). AreDistinct (names_of xs)) at.entries apart)
      (subst (λ (xs : List Entry). slice_get xs p ≡ Some e.entry) at.entries there) (named ∙ sym at.named))

  pub not-passed : (name : List ℕ) (seq p : ℕ) (x : Entry) (e : EngineParts) → slice_get es p ≡ Some e → e.entry.name ≡ name → (HasPassedFirst u past seq p → ⊥)
      → IsAt u past seq name x → ⊥
  not-passed name seq p x e is named stops at =
      let split = there-split name seq p x e is named at in
      stops (subst (λ (xs : List Entry). All (IsAllowedInTrace u past seq) xs) (sym split.before) at.allowed)

-- ---- numbers that ascend are distinct

rising-above : (below top seq : ℕ) (calls : List PendingCall) → seq ≤ below → IsRising below top (seqs_of calls) → IsNumberApart seq calls
rising-above below top seq [] le rising = All-nil (λ s. s.call.seq ≢ seq)
rising-above below top seq (s ∷ calls) le rising = All-cons (λ s. s.call.seq ≢ seq) s calls (λ same. omega (arith, rising.0, same))
    (rising-above s.call.seq top seq calls (omega (arith, rising.0)) rising.2)

pub apart-rising : (below top : ℕ) (calls : List PendingCall) → IsRising below top (seqs_of calls) → AreNumbersApart calls
apart-rising below top [] rising = tt
apart-rising below top (s ∷ calls) rising = (rising-above s.call.seq top s.call.seq calls (omega arith) rising.2, apart-rising s.call.seq top calls rising.2)

-- ---- how far calls get

pub zip-length : {X Y : Type 0} (R : X → Y → Type 0) (xs : List X) (ys : List Y) → AllZip R xs ys → length ys ≡ length xs
zip-length R [] [] all = refl
zip-length R [] (y ∷ ys) all = absurd all
zip-length R (x ∷ xs) [] all = absurd all
zip-length R (x ∷ xs) (y ∷ ys) all = omega (arith, zip-length R xs ys all.1)

pub zip-at : {X Y : Type 0} (R : X → Y → Type 0) (xs : List X) (ys : List Y) (j : ℕ) (x : X) (d : Y) → AllZip R xs ys → slice_get xs j ≡ Some x → R x (get_or ys j d)
zip-at R [] [] j x d all is = absurd cc
zip-at R [] (y ∷ ys) j x d all is = absurd all
zip-at R (x' ∷ xs) [] j x d all is = absurd all
zip-at R (x' ∷ xs) (y ∷ ys) zero x d all is = let there : x' ≡ x = cc in rw (sym there) all.0
zip-at R (x' ∷ xs) (y ∷ ys) (suc j) x d all is = zip-at R xs ys j x d all.1 is

pub zip-set : {X Y : Type 0} (R : X → Y → Type 0) (xs : List X) (ys : List Y) (j : ℕ) (x : X) (y : Y) → AllZip R xs ys
    → slice_get xs j ≡ Some x → R x y → AllZip R xs (set ys j y)
zip-set R [] [] j x y all is own = absurd cc
zip-set R [] (y' ∷ ys) j x y all is own = absurd all
zip-set R (x' ∷ xs) [] j x y all is own = absurd all
zip-set R (x' ∷ xs) (y' ∷ ys) zero x y all is own = let there : x' ≡ x = cc in (rw there own, all.1)
zip-set R (x' ∷ xs) (y' ∷ ys) (suc j) x y all is own = (all.0, zip-set R xs ys j x y all.1 is own)

pub set-there : {X : Type 0} (xs : List X) (j : ℕ) (x : X) → j < length xs → slice_get (set xs j x) j ≡ Some x
set-there [] j x inside = absurd (omega arith)
set-there (y ∷ ys) zero x inside = refl
set-there (y ∷ ys) (suc j) x inside = set-there ys j x (omega arith)
