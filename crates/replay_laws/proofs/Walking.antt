-- The loads of a graph, one after another, up to the end, to an invalid word, or to the limit.
use Rattle.std.proofs.Common.{◌≡◌, inl, inr, ℕ, zero, suc, ◌+◌, ◌<◌, ◌≤◌, ◌^◌, List, [], ◌∷◌, ◌++◌, length, refl, sym}
use Rattle.std.proofs.Common.{ap, ◌∙◌, subst, append_assoc, arith}
use Rattle.mrpc_table.specs.declared.table.Table.{Table}
use Rattle.graph_form.specs.declared.reason.Reason.{Reason}
use Rattle.graph_form.specs.declared.reason.Reason.TheVariants.{Address, Loads}
use Rattle.graph_form.specs.Roles.{WordRole, Expected, expected_after, node_words, size_words}
use Rattle.graph_form.specs.Placed.{Placed, nothing, first, word, loads, IsSpanInHeap, AreSound}
use Rattle.graph_form.specs.Forgotten.{tree_of}
use Rattle.graph_form.specs.Loading.{AreExpectedAfter}
use Rattle.graph_form.specs.Malformed.{IsInvalidFirst, IsMalformed, no_root, AreReadBy, GraphOutcome, copied, malformed, HasOutcome, is_copied, is_malformed}
use Rattle.replay_laws.proofs.Offences.{judged, lies-holds}

-- ---- loads that lead to the end

record Split (T : Table) (H : ℕ) (es fs : Expected) (P : Placed) : Type 0 where
  front : Placed
  back : Placed
  front_sound : AreSound T H es front
  back_sound : AreSound T H fs back
  loads_are : loads P ≡ loads front ++ loads back

split : (T : Table) (H : ℕ) (es fs : Expected) (P : Placed) → AreSound T H (es ++ fs) P → Split T H es fs P
split T H [] fs P sound = record { front = nothing; back = P; front_sound = tt; back_sound = sound; loads_are = refl }
split T H (e ∷ es) fs nothing sound = absurd sound
split T H (e ∷ es) fs (first (word place v content) others) sound =
    let r = split T H es fs others sound.4 in
    record {
      front = first (word place v content) r.front;
      back = r.back;
      front_sound = (sound.0, sound.1, sound.2, sound.3, r.front_sound);
      back_sound = r.back_sound;
      loads_are = ap (λ xs. (place, v) ∷ (loads content ++ xs)) r.loads_are ∙ ap (λ xs. (place, v) ∷ xs) (sym (append_assoc (loads content) (loads r.front) (loads r.back)));
    }

record IsWhole (T : Table) (H : ℕ) (es : Expected) (xs : List (ℕ × ℕ)) : Type 0 where
  placed : Placed
  sound : AreSound T H es placed
  loads_are : xs ≡ loads placed

whole : (T : Table) (H : ℕ) (es : Expected) (xs : List (ℕ × ℕ)) → AreExpectedAfter T H es xs [] → IsWhole T H es xs
whole T H es [] h = record { placed = nothing; sound = subst (λ es. AreSound T H es nothing) (sym h) tt; loads_are = refl }
whole T H [] (x ∷ xs) h = absurd h
whole T H (e ∷ es) (x ∷ xs) h =
    let rest = whole T H (expected_after T e.0 x.0 x.1 ++ es) xs h.3 in
    let parts = split T H (expected_after T e.0 x.0 x.1) es rest.placed rest.sound in
    record {
      placed = first (word x.0 x.1 parts.front) parts.back;
      sound = (h.0, h.1, h.2, parts.front_sound, parts.back_sound);
      loads_are = ap (λ ys. x ∷ ys) (rest.loads_are ∙ parts.loads_are);
    }

-- ---- loads by a reading

data Walked (T : Table) (H : ℕ) (reading : ℕ → ℕ → ℕ) (fuel k : ℕ) (es : Expected) : Type 0 where
  to_end : (own : List (ℕ × ℕ)) → AreReadBy reading k own → AreExpectedAfter T H es own [] → length own ≤ fuel
      → Walked T H reading fuel k es
  at_word : (before : List (ℕ × ℕ)) (e : WordRole × ℕ) (rest : Expected) (v : ℕ) (reason : Reason)
      → AreReadBy reading k (before ++ (e.1, v) ∷ []) → length before < fuel → AreExpectedAfter T H es before (e ∷ rest)
      → v < 2 ^ 64 → IsInvalidFirst T H e.0 v reason → Walked T H reading fuel k es
  at_limit : (own : List (ℕ × ℕ)) (e : WordRole × ℕ) (rest : Expected) → AreReadBy reading k own → length own ≡ fuel
      → AreExpectedAfter T H es own (e ∷ rest) → Walked T H reading fuel k es

walk : (T : Table) (H : ℕ) (reading : ℕ → ℕ → ℕ) → ((k place : ℕ) → reading k place < 2 ^ 64) → (fuel k : ℕ)
    (es : Expected) → Walked T H reading fuel k es
walk T H reading small fuel k [] = to_end [] tt refl (omega arith)
walk T H reading small zero k (e ∷ rest) = at_limit [] e rest tt refl refl
walk T H reading small (suc fuel) k (e ∷ rest) =
    let v : ℕ = reading k e.1 in
    elim (judged T H e.0 v) [
      | inr found ↦ at_word [] e rest v found.0 (refl, tt) (omega arith) refl (small k e.1) found.1
      | inl fine ↦ elim (walk T H reading small fuel (k + 1) (expected_after T e.0 e.1 v ++ rest)) [
        | to_end own reads leads few ↦
            to_end ((e.1, v) ∷ own) (refl, reads) (refl, small k e.1, fine, leads) (omega arith)
        | at_word before f others w reason reads few leads low offends ↦
            at_word ((e.1, v) ∷ before) f others w reason (refl, reads) (omega arith) (refl, small k e.1, fine, leads) low offends
        | at_limit own f others reads long leads ↦
            at_limit ((e.1, v) ∷ own) f others (refl, reads) (ap suc long) (refl, small k e.1, fine, leads)
      ]
    ]

-- ---- the outcome of a graph

abbrev pub OffenceLaw : Type 0
OffenceLaw = (T : Table) (H msg address limit : ℕ) (xs : List (ℕ × ℕ)) (e : WordRole × ℕ) (rest : Expected) (v : ℕ) (reason : Reason)
    → IsSpanInHeap H address (size_words T msg) → AreExpectedAfter T H (node_words T msg 1 address) xs (e ∷ rest) → length xs < limit → v < 2 ^ 64
    → IsInvalidFirst T H e.0 v reason → IsMalformed T H msg address limit (xs ++ (e.1, v) ∷ []) reason e.1 v

abbrev pub LimitLaw : Type 0
LimitLaw = (T : Table) (H msg address limit : ℕ) (xs : List (ℕ × ℕ)) (x : ℕ × ℕ) (e : WordRole × ℕ) (rest : Expected)
    → IsSpanInHeap H address (size_words T msg) → AreExpectedAfter T H (node_words T msg 1 address) (xs ++ x ∷ []) (e ∷ rest)
    → length (xs ++ x ∷ []) ≡ limit → IsMalformed T H msg address limit (xs ++ x ∷ []) Loads x.0 x.1

record HasLast (xs : List (ℕ × ℕ)) : Type 0 where
  front : List (ℕ × ℕ)
  last : ℕ × ℕ
  is : xs ≡ front ++ last ∷ []

has-last : (xs : List (ℕ × ℕ)) → 1 ≤ length xs → HasLast xs
has-last [] h = absurd (omega (arith, h))
has-last (x ∷ []) h = record { front = []; last = x; is = refl }
has-last (x ∷ y ∷ ys) h = let r = has-last (y ∷ ys) (omega arith) in record { front = x ∷ r.front; last = r.last; is = ap (λ zs. x ∷ zs) r.is }

pub record Comes (T : Table) (H msg address limit : ℕ) (reading : ℕ → ℕ → ℕ) : Type 0 where
  pub own : List (ℕ × ℕ)
  pub outcome : GraphOutcome
  pub reads : AreReadBy reading 1 own
  pub comes : HasOutcome T H msg address limit own outcome

module _ (offence : OffenceLaw) (full : LimitLaw) (T : Table) (H msg address limit : ℕ) (reading : ℕ → ℕ → ℕ) where
  walked-comes : 1 ≤ limit → IsSpanInHeap H address (size_words T msg) → Walked T H reading limit 1 (node_words T msg 1 address)
      → Comes T H msg address limit reading
  walked-comes least lies (to_end own reads leads few) =
      let w = whole T H (node_words T msg 1 address) own leads in
      record {
        own = own;
        outcome = copied (tree_of T msg w.placed);
        reads = reads;
        comes = is_copied w.placed (record { root = lies; words = w.sound }) w.loads_are few refl;
      }
  walked-comes least lies (at_word before e rest v reason reads few leads small offends) = record {
    own = before ++ (e.1, v) ∷ [];
    outcome = malformed reason e.1 v;
    reads = reads;
    comes = is_malformed reason e.1 v (offence T H msg address limit before e rest v reason lies leads few small offends) refl;
  }
  walked-comes least lies (at_limit own e rest reads long leads) =
      let l = has-last own (omega (arith, long, least)) in
      let fault = full T H msg address limit l.front l.last e rest lies
      (subst (λ xs. AreExpectedAfter T H (node_words T msg 1 address) xs (e ∷ rest)) l.is leads) (sym (ap length l.is) ∙ long) in
      record {
        own = own;
        outcome = malformed Loads l.last.0 l.last.1;
        reads = reads;
        comes = is_malformed Loads l.last.0 l.last.1 (subst (λ xs. IsMalformed T H msg address limit xs Loads l.last.0 l.last.1) (sym l.is) fault) refl;
      }

  pub comes-to : 1 ≤ limit → ((k place : ℕ) → reading k place < 2 ^ 64) → Comes T H msg address limit reading
  comes-to least small = elim (lies-holds H address (size_words T msg)) [
    | inl lies ↦ walked-comes least lies (walk T H reading small limit 1 (node_words T msg 1 address))
    | inr never ↦ record {
      own = [];
      outcome = malformed Address 0 address;
      reads = tt;
      comes = is_malformed Address 0 address (no_root never refl refl refl refl) refl;
    }
  ]
