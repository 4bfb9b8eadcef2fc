-- Loads that lead to the end are those of a sound placed tree; loads that stop make a graph malformed.
use Rattle.std.proofs.Common.{◌≡◌, ℕ, ◌<◌, ◌≤◌, ◌^◌, List, [], ◌∷◌, ◌++◌, length, refl, sym, ap, subst, ◌∙◌, arith, append_assoc}
use Rattle.mrpc_table.specs.declared.table.Table.{Table}
use Rattle.mrpc_table.specs.Node.{Node}
use Rattle.graph_form.specs.declared.reason.Reason.{Reason}
use Rattle.graph_form.specs.declared.reason.Reason.TheVariants.{Loads}
use Rattle.graph_form.specs.Roles.{WordRole as Use, Expected, expected_after, node_words, size_words}
use Rattle.graph_form.specs.Placed.{Placed, nothing, first, word, loads, IsSpanInHeap, AreSound}
use Rattle.graph_form.specs.Forgotten.{tree_of}
use Rattle.graph_form.specs.Loading.{AreExpectedAfter}
use Rattle.graph_form.specs.Malformed.{IsInvalidFirst, IsMalformed}
use Rattle.graph_copy.specs.Copies.{IsCopied}
use Rattle.graph_copy.specs.Stops.{HasStopped, at_word, at_limit}

record Split (T : Table) (H : ℕ) (es fs : Expected) (P : Placed) : Type 0 where
  front : Placed
  back : Placed
  front_sound : AreSound T H es front
  back_sound : AreSound T H fs back
  loads_are : loads P ≡ loads front ++ loads back

split : (T : Table) (H : ℕ) (es fs : Expected) (P : Placed) → AreSound T H (es ++ fs) P → Split T H es fs P
split T H [] fs P sound = record { front = nothing; back = P; front_sound = tt; back_sound = sound; loads_are = refl }
split T H (e ∷ es) fs nothing sound = absurd sound
split T H (e ∷ es) fs (first (word place v content) others) sound =
    let r = split T H es fs others sound.4 in
    record {
      front = first (word place v content) r.front;
      back = r.back;
      front_sound = (sound.0, sound.1, sound.2, sound.3, r.front_sound);
      back_sound = r.back_sound;
      loads_are = ap (λ xs. (place, v) ∷ (loads content ++ xs)) r.loads_are ∙ ap (λ xs. (place, v) ∷ xs) (sym (append_assoc (loads content) (loads r.front) (loads r.back)));
    }

pub record IsWhole (T : Table) (H : ℕ) (es : Expected) (xs : List (ℕ × ℕ)) : Type 0 where
  pub placed : Placed
  pub sound : AreSound T H es placed
  pub loads_are : xs ≡ loads placed

pub whole : (T : Table) (H : ℕ) (es : Expected) (xs : List (ℕ × ℕ)) → AreExpectedAfter T H es xs [] → IsWhole T H es xs
whole T H es [] h = record { placed = nothing; sound = subst (λ es. AreSound T H es nothing) (sym h) tt; loads_are = refl }
whole T H [] (x ∷ xs) h = absurd h
whole T H (e ∷ es) (x ∷ xs) h =
    let rest = whole T H (expected_after T e.0 x.0 x.1 ++ es) xs h.3 in
    let parts = split T H (expected_after T e.0 x.0 x.1) es rest.placed rest.sound in
    record {
      placed = first (word x.0 x.1 parts.front) parts.back;
      sound = (h.0, h.1, h.2, parts.front_sound, parts.back_sound);
      loads_are = ap (λ ys. x ∷ ys) (rest.loads_are ∙ parts.loads_are);
    }

-- the last element of a list
pub record HasLast {X : Type 0} (xs : List X) : Type 0 where
  pub front : List X
  pub last : X
  pub is : xs ≡ front ++ last ∷ []

pub has_last : {X : Type 0} (xs : List X) → 1 ≤ length xs → HasLast xs
has_last [] h = absurd (omega (arith, h))
has_last (x ∷ []) h = record { front = []; last = x; is = refl }
has_last (x ∷ y ∷ ys) h = let r = has_last (y ∷ ys) (omega arith) in record { front = x ∷ r.front; last = r.last; is = ap (λ zs. x ∷ zs) r.is }

-- ---- loads that stop

abbrev pub OffenceLaw : Type 0
OffenceLaw = (T : Table) (H msg address limit : ℕ) (xs : List (ℕ × ℕ)) (e : Use × ℕ) (rest : Expected) (v : ℕ) (reason : Reason)
    → IsSpanInHeap H address (size_words T msg) → AreExpectedAfter T H (node_words T msg 1 address) xs (e ∷ rest) → length xs < limit → v < 2 ^ 64
    → IsInvalidFirst T H e.0 v reason → IsMalformed T H msg address limit (xs ++ (e.1, v) ∷ []) reason e.1 v

abbrev pub LimitLaw : Type 0
LimitLaw = (T : Table) (H msg address limit : ℕ) (xs : List (ℕ × ℕ)) (x : ℕ × ℕ) (e : Use × ℕ) (rest : Expected)
    → IsSpanInHeap H address (size_words T msg) → AreExpectedAfter T H (node_words T msg 1 address) (xs ++ x ∷ []) (e ∷ rest)
    → length (xs ++ x ∷ []) ≡ limit → IsMalformed T H msg address limit (xs ++ x ∷ []) Loads x.0 x.1

-- the last load is where it stops
pub record Stopped (T : Table) (H msg address limit : ℕ) (own : List (ℕ × ℕ)) (reason : Reason) : Type 0 where
  pub front : List (ℕ × ℕ)
  pub last : ℕ × ℕ
  pub is : own ≡ front ++ last ∷ []
  pub malformed : IsMalformed T H msg address limit own reason last.0 last.1

stopped_at : (T : Table) (H msg address limit : ℕ) (own : List (ℕ × ℕ)) (reason : Reason) → OffenceLaw → LimitLaw → IsSpanInHeap H address (size_words T msg) → 1 ≤ limit
    → HasStopped T H limit (node_words T msg 1 address) own reason → Stopped T H msg address limit own reason
stopped_at T H msg address limit own reason offence full lies least (at_word before load e rest is few leads at small offends) =
    let fault = offence T H msg address limit before e rest load.1 reason lies leads few small offends in
    let placed = subst (λ p. IsMalformed T H msg address limit (before ++ (p, load.1) ∷ []) reason p load.1) (sym at) fault in
    record { front = before; last = load; is = is; malformed = subst (λ xs. IsMalformed T H msg address limit xs reason load.0 load.1) (sym is) placed }
stopped_at T H msg address limit own reason offence full lies least (at_limit e rest count leads is) =
    let l = has_last own (omega (arith, count, least)) in
    let fault = full T H msg address limit l.front l.last e rest lies (subst (λ xs. AreExpectedAfter T H (node_words T msg 1 address) xs (e ∷ rest)) l.is leads) (sym (ap length l.is) ∙ count) in
    let told = subst (λ r. IsMalformed T H msg address limit (l.front ++ l.last ∷ []) r l.last.0 l.last.1) (sym is) fault in
    record { front = l.front; last = l.last; is = l.is; malformed = subst (λ xs. IsMalformed T H msg address limit xs reason l.last.0 l.last.1) (sym l.is) told }

pub stopped : (T : Table) (H msg address limit size : ℕ) (es : Expected) (own : List (ℕ × ℕ)) (reason : Reason)
    → OffenceLaw → LimitLaw → size ≡ H → es ≡ node_words T msg 1 address → IsSpanInHeap H address (size_words T msg)
    → 1 ≤ limit
    → HasStopped T size limit es own reason → Stopped T H msg address limit own reason
stopped T H msg address limit size es own reason offence full same words lies least stops =
    let here = subst (λ h. HasStopped T h limit es own reason) same stops in
    stopped_at T H msg address limit own reason offence full lies least (subst (λ ws. HasStopped T H limit ws own reason) words here)

pub copied : (T : Table) (H msg address size : ℕ) (es : Expected) (own taken : List (ℕ × ℕ)) (t : Node) → size ≡ H
    → es ≡ node_words T msg 1 address → IsSpanInHeap H address (size_words T msg)
    → AreExpectedAfter T size es own [] → taken ≡ own
    → ((H address : ℕ) (P : Placed) → AreSound T H (node_words T msg 1 address) P → taken ≡ loads P → t ≡ tree_of T msg P)
    → IsCopied T H msg address own t
copied T H msg address size es own taken t same words lies leads is made =
    let here = subst (λ h. AreExpectedAfter T h es own []) same leads in
    let w = whole T H (node_words T msg 1 address) own (subst (λ ws. AreExpectedAfter T H ws own []) words here) in
    record { placed = w.placed; sound = record { root = lies; words = w.sound }; loads_are = w.loads_are; tree_is = made H address w.placed w.sound (is ∙ w.loads_are) }
