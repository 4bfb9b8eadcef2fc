-- Values in plain and optional slots.
use Rattle.std.proofs.Common.{◌≡◌, ◌≢◌, ℕ, ◌+◌, ◌-◌, ◌<◌, ◌≤◌, ◌^◌, Bool, cond, List, [], ◌∷◌, ◌++◌, length, Some}
use Rattle.std.proofs.Common.{None, refl, sym, ap, subst, ◌∙◌, arith, inl, inr}
use Rattle.std.specs.Str.{IsUtf8}
use Rattle.std.proofs.lemmas.Bool.{ne_eqb, le-leb, lt-leb}
use Rattle.std.proofs.lemmas.Bool.Decides.{eqb_tells}
use Rattle.mrpc_table.specs.Node.{Node, no_fields, field, one, number, run, node}
use Rattle.mrpc_table.specs.Normal.{IsRun, depth}
use Rattle.mrpc_table.specs.Words.{IsWordForm}
use Rattle.mrpc_table.specs.declared.table.Kind.{Kind}
use Rattle.mrpc_table.specs.declared.table.Kind.TheVariants.{Text, Octets, Message as OfMessage}
use Rattle.mrpc_table.specs.declared.table.Label.TheVariants.{Optional}
use Rattle.mrpc_table.specs.declared.table.Table.{Table}
use Rattle.graph_form.specs.Roles.{WordRole, value, presence, run_length, run_presence, run_address, link, expected_after, plain_role, optional_role, node_words, element_words, run_words}
use Rattle.graph_form.specs.Placed.{Placed, nothing, first, Word, word, IsValidWord, AreSound}
use Rattle.graph_form.specs.Forgotten.{run_at, single_number, optional_item, slot_content, plain_item, tree_of}
use Rattle.graph_place.specs.Laid.{IsSlotOf, run_expected}
use Rattle.graph_place.specs.Size.{tree_words}
use Rattle.graph_place.proofs.Spelled.{PutsAt, PutsWordAt}
use Rattle.graph_place.proofs.Spreads.{spread_one}
use Rattle.graph_place.proofs.Beginning.{Loads, word_put, one_put, content_put}
use Rattle.graph_place.proofs.Fine.{fine_value, fine_presence, fine_run_length, fine_run_presence, fine_link}

pub lone_word : (T : Table) (H : ℕ) (r : WordRole) (p v b c : ℕ) (before after : Loads) (Here : Word → Type 0)
    → expected_after T r p v ≡ [] → v < 2 ^ 64 → IsValidWord T H r v → p < b → b ≤ c
    → after ≡ before ++ (p, v) ∷ [] → Here (word p v nothing) → PutsWordAt T H (r, p) b c c before after Here
lone_word T H r p v b c before after Here none small fine pb bc is here = record {
  value = v;
  content = nothing;
  small = small;
  fine = fine;
  sound = subst (λ es. AreSound T H es nothing) (sym none) tt;
  words = is;
  spread = spread_one p b c v pb bc;
  made = here;
}

-- ---- kinds of numbers

numeric_role : (k : Kind) (n depth : ℕ) (needed : Bool) → IsWordForm k n → plain_role k depth needed ≡ value k
numeric_role Text n depth needed form = absurd form
numeric_role Octets n depth needed form = absurd form
numeric_role (OfMessage m) n depth needed form = absurd form
numeric_role _ n depth needed form = refl

numeric_width : (k : Kind) (n : ℕ) → IsWordForm k n → element_words k ≡ 1
numeric_width Text n form = absurd form
numeric_width Octets n form = absurd form
numeric_width (OfMessage m) n form = absurd form
numeric_width _ n form = refl

numeric_item : (T : Table) (k : Kind) (n p v : ℕ) (P : Placed) → IsWordForm k n → plain_item T k (word p v P) ≡ number v
numeric_item T Text n p v P form = absurd form
numeric_item T Octets n p v P form = absurd form
numeric_item T (OfMessage m) n p v P form = absurd form
numeric_item T _ n p v P form = refl

numeric_optional : (k : Kind) (n : ℕ) → IsWordForm k n → optional_role k ≡ presence k
numeric_optional Text n form = absurd form
numeric_optional Octets n form = absurd form
numeric_optional (OfMessage m) n form = absurd form
numeric_optional _ n form = refl

numeric_given : (k : Kind) (n v : ℕ) (P : Placed) → IsWordForm k n → optional_item k v P ≡ number (single_number P)
numeric_given Text n v P form = absurd form
numeric_given Octets n v P form = absurd form
numeric_given (OfMessage m) n v P form = absurd form
numeric_given _ n v P form = refl

pub number_item : (T : Table) (H : ℕ) (k : Kind) (level : ℕ) (needed : Bool) (place n c : ℕ) (before after : Loads) → IsWordForm k n → n < 2 ^ 64 → place + element_words k ≤ c
    → after ≡ before ++ (place, n) ∷ [] → PutsWordAt T H (plain_role k level needed, place) (place + element_words k) c c before after (IsSlotOf T k (number n))
number_item T H k level needed place n c before after form small slot is =
    let width = numeric_width k n form in
    let puts : PutsWordAt T H (value k, place) (place + element_words k) c c before after (IsSlotOf T k (number n))
    = lone_word T H (value k) place n (place + element_words k) c before after (IsSlotOf T k (number n)) refl small (fine_value T H k n form) (omega (arith, width)) slot is
    (record { item = numeric_item T k n place n nothing form; some = λ some_is. some_is }) in
    subst (λ r. PutsWordAt T H (r, place) (place + element_words k) c c before after (IsSlotOf T k (number n))) (sym (numeric_role k n level needed form)) puts

-- ---- kinds of runs

run_role : (k : Kind) (bytes : List ℕ) (depth : ℕ) (needed : Bool) → IsRun k bytes → plain_role k depth needed ≡ run_length k
run_role Text bytes depth needed is = refl
run_role Octets bytes depth needed is = refl
run_role _ bytes depth needed is = absurd is

pub run_width : (k : Kind) (bytes : List ℕ) → IsRun k bytes → element_words k ≡ 2
run_width Text bytes is = refl
run_width Octets bytes is = refl
run_width _ bytes is = absurd is

run_item_is : (T : Table) (k : Kind) (bytes : List ℕ) (p v : ℕ) (P : Placed) → IsRun k bytes → plain_item T k (word p v P) ≡ run (run_at v P)
run_item_is T Text bytes p v P is = refl
run_item_is T Octets bytes p v P is = refl
run_item_is T _ bytes p v P is = absurd is

run_optional : (k : Kind) (bytes : List ℕ) → IsRun k bytes → optional_role k ≡ run_presence k
run_optional Text bytes is = refl
run_optional Octets bytes is = refl
run_optional _ bytes is = absurd is

run_given : (k : Kind) (bytes : List ℕ) (v : ℕ) (P : Placed) → IsRun k bytes → optional_item k v P ≡ run (run_at (v - 1) P)
run_given Text bytes v P is = refl
run_given Octets bytes v P is = refl
run_given _ bytes v P is = absurd is

pub run_text : (k : Kind) (bytes : List ℕ) → IsRun k bytes → k ≡ Text → IsUtf8 bytes
run_text k bytes is e = subst (λ x. IsRun x bytes) e is

empty_run : (bytes : List ℕ) → length bytes ≡ 0 → bytes ≡ []
empty_run [] e = refl
empty_run (b ∷ bytes) e = absurd (omega (arith, e))

pub run_item : (T : Table) (H : ℕ) (k : Kind) (level : ℕ) (needed : Bool) (place : ℕ) (bytes : List ℕ) (c d : ℕ)
    (before mid next : Loads) → IsRun k bytes → length bytes < 2 ^ 64 → 1 ≤ place → place + element_words k ≤ c
    → d ≡ c + run_words (length bytes) → d ≤ H → mid ≡ before ++ (place, length bytes) ∷ []
    → PutsAt T H (run_expected k (length bytes) (place + 1)) (place + 1) (place + 1 + 1) c d mid next (λ P. run_at (length bytes) P ≡ bytes)
    → PutsWordAt T H (plain_role k level needed, place) (place + element_words k) c d before next (IsSlotOf T k (run bytes))
run_item T H k level needed place bytes c d before mid next is small from slot size within put puts =
    let width = run_width k bytes is in
    let two : place + 1 + 1 ≡ place + element_words k = omega (arith, width) in
    let whole : PutsWordAt T H (run_length k, place) (place + 1 + 1) c d before next (IsSlotOf T k (run bytes))
    = word_put T H (run_length k) place (length bytes) (place + 1 + 1) c d before mid next
    (λ P. run_at (length bytes) P ≡ bytes) (IsSlotOf T k (run bytes)) (omega arith) (omega (arith, slot, width))
    (omega (arith, size)) small
    (fine_run_length T H k (length bytes) (omega (arith, size, within, slot, width, from))) put puts
    (λ P made. record { item = run_item_is T k bytes place (length bytes) P is ∙ ap run made; some = λ some_is zero_is. some_is (empty_run bytes zero_is) }) in
    subst (λ r. PutsWordAt T H (r, place) (place + element_words k) c d before next (IsSlotOf T k (run bytes))) (sym (run_role k bytes level needed is))
    (subst (λ b. PutsWordAt T H (run_length k, place) b c d before next (IsSlotOf T k (run bytes))) two whole)

-- ---- messages

depth_some : (t : Node) → 1 ≤ depth t
depth_some no_fields = omega arith
depth_some (field n c t) = let rest = depth_some t in omega (arith, rest)

node_behind : (T : Table) (m level c p : ℕ) (needed : Bool) → 1 ≤ c → expected_after T (link m level needed) p c ≡ node_words T m (level + 1) c
node_behind T m level c p needed from = ap (λ b. cond b [] (node_words T m (level + 1) c)) (ne_eqb c 0 (λ e. omega (arith, e, from)))

pub node_item : (T : Table) (H : ℕ) (k : Kind) (m level : ℕ) (needed : Bool) (place : ℕ) (t : Node) (c d : ℕ)
    (before mid next : Loads) → k ≡ OfMessage m → 1 ≤ place → place + element_words k ≤ c → c < 2 ^ 64
    → d ≡ c + tree_words T m t → d ≤ H → level + (1 + depth t) ≤ 33 → mid ≡ before ++ (place, c) ∷ []
    → ((level : ℕ) → level + depth t ≤ 33 → PutsAt T H (node_words T m level c) c c c d mid next (λ P. tree_of T m P ≡ t))
    → PutsWordAt T H (plain_role k level needed, place) (place + element_words k) c d before next (IsSlotOf T k (node t))
node_item T H k m level needed place t c d before mid next kind from slot small size within deep put puts =
    let slot_one : place + 1 ≤ c = subst (λ x. place + element_words x ≤ c) kind slot in
    let room = depth_some t in
    let inner = puts (level + 1) (omega (arith, deep)) in
    let some : c ≢ 0 = λ e. omega (arith, e, slot_one) in
    let there : PutsAt T H (expected_after T (link m level needed) place c) (place + 1) (place + 1) c d mid next (λ P. tree_of T m P ≡ t)
    = subst (λ es. PutsAt T H es (place + 1) (place + 1) c d mid next (λ P. tree_of T m P ≡ t)) (sym (node_behind T m level c place needed (omega (arith, slot_one))))
    (content_put T H (node_words T m (level + 1) c) (place + 1) c c d mid next (λ P. tree_of T m P ≡ t) (λ P. tree_of T m P ≡ t) slot_one inner (λ P h. h)) in
    let whole : PutsWordAt T H (link m level needed, place) (place + 1) c d before next (IsSlotOf T (OfMessage m) (node t))
    = word_put T H (link m level needed) place c (place + 1) c d before mid next (λ P. tree_of T m P ≡ t)
    (IsSlotOf T (OfMessage m) (node t)) (omega arith) slot_one (omega (arith, size)) small
    (fine_link T H m level needed c (omega (arith, slot_one)) (omega (arith, size, within)) (omega (arith, deep, room))) put there
    (λ P made. record { item = ap node made; some = λ _. some }) in
    subst (λ x. PutsWordAt T H (plain_role x level needed, place) (place + element_words x) c d before next (IsSlotOf T x (node t))) (sym kind) whole

-- ---- optional slots

optional_says : (T : Table) (k : Kind) (p v : ℕ) (P : Placed) → v ≢ 0 → slot_content T Optional k (word p v P) ≡ Some (one (optional_item k v P))
optional_says T k p v P some = ap (λ b. cond b None (Some (one (optional_item k v P)))) (ne_eqb v 0 some)

pub optional_number : (T : Table) (H : ℕ) (k : Kind) (place n c : ℕ) (before mid next : Loads) → IsWordForm k n → n < 2 ^ 64 → place + 2 ≤ c
    → mid ≡ before ++ (place, 1) ∷ [] → next ≡ mid ++ (place + 1, n) ∷ []
    → PutsWordAt T H (optional_role k, place) (place + 2) c c before next (λ w. slot_content T Optional k w ≡ Some (one (number n)))
optional_number T H k place n c before mid next form small slot put is =
    let inner : PutsWordAt T H (value k, place + 1) (place + 2) c c mid next (λ w. single_number (first w nothing) ≡ n)
    = lone_word T H (value k) (place + 1) n (place + 2) c mid next (λ w. single_number (first w nothing) ≡ n) refl small (fine_value T H k n form) (omega arith) slot is refl in
    let there : PutsAt T H (expected_after T (presence k) place 1) (place + 1) (place + 2) c c mid next (λ P. single_number P ≡ n)
    = one_put T H (value k, place + 1) (place + 2) c c mid next (λ w. single_number (first w nothing) ≡ n) (λ P. single_number P ≡ n) inner (λ w h. h) in
    let whole : PutsWordAt T H (presence k, place) (place + 2) c c before next (λ w. slot_content T Optional k w ≡ Some (one (number n)))
    = word_put T H (presence k) place 1 (place + 2) c c before mid next (λ P. single_number P ≡ n)
    (λ w. slot_content T Optional k w ≡ Some (one (number n))) (omega arith) slot (omega arith) (omega arith)
    (fine_presence T H k 1 (omega arith)) put there
    (λ P made. optional_says T k place 1 P (λ e. omega (arith, e)) ∙ ap (λ i. Some (one i)) (numeric_given k n 1 P form ∙ ap number made)) in
    subst (λ r. PutsWordAt T H (r, place) (place + 2) c c before next (λ w. slot_content T Optional k w ≡ Some (one (number n)))) (sym (numeric_optional k n form)) whole

-- a length plus 1 leads to the same words as the length
presence_behind : (T : Table) (k : Kind) (p n : ℕ) → expected_after T (run_presence k) p (n + 1) ≡ run_expected k n (p + 1)
presence_behind T k p n =
    let less : n + 1 - 1 ≡ n = omega arith in
    elim (eqb_tells n 0) [
      | inl none ↦
          ap (λ b. cond b [] ((run_address k (n + 1 - 1), p + 1) ∷ [])) (le-leb (n + 1) 1 (omega (arith, none.1)))
          ∙ sym (ap (λ b. cond b [] ((run_address k n, p + 1) ∷ [])) none.0)
      | inr some ↦
          ap (λ b. cond b [] ((run_address k (n + 1 - 1), p + 1) ∷ [])) (lt-leb (n + 1) 1 (omega (arith, some.1)))
          ∙ ap (λ m. (run_address k m, p + 1) ∷ []) less
          ∙ sym (ap (λ b. cond b [] ((run_address k n, p + 1) ∷ [])) some.0)
    ]

pub optional_run : (T : Table) (H : ℕ) (k : Kind) (place : ℕ) (bytes : List ℕ) (c d : ℕ) (before mid next : Loads) → IsRun k bytes → length bytes + 1 < 2 ^ 64 → place + 2 ≤ c
    → d ≡ c + run_words (length bytes) → d ≤ H → mid ≡ before ++ (place, length bytes + 1) ∷ []
    → PutsAt T H (run_expected k (length bytes) (place + 1)) (place + 1) (place + 1 + 1) c d mid next (λ P. run_at (length bytes) P ≡ bytes)
    → PutsWordAt T H (optional_role k, place) (place + 2) c d before next (λ w. slot_content T Optional k w ≡ Some (one (run bytes)))
optional_run T H k place bytes c d before mid next is small slot size within put puts =
    let two : place + 1 + 1 ≡ place + 2 = omega arith in
    let less : length bytes + 1 - 1 ≡ length bytes = omega arith in
    let there : PutsAt T H (expected_after T (run_presence k) place (length bytes + 1)) (place + 1) (place + 2) c d mid next (λ P. run_at (length bytes) P ≡ bytes)
    = subst (λ b. PutsAt T H (expected_after T (run_presence k) place (length bytes + 1)) (place + 1) b c d mid next (λ P. run_at (length bytes) P ≡ bytes)) two
    (subst (λ es. PutsAt T H es (place + 1) (place + 1 + 1) c d mid next (λ P. run_at (length bytes) P ≡ bytes)) (sym (presence_behind T k place (length bytes))) puts) in
    let whole : PutsWordAt T H (run_presence k, place) (place + 2) c d before next (λ w. slot_content T Optional k w ≡ Some (one (run bytes)))
    = word_put T H (run_presence k) place (length bytes + 1) (place + 2) c d before mid next
    (λ P. run_at (length bytes) P ≡ bytes) (λ w. slot_content T Optional k w ≡ Some (one (run bytes)))
    (omega arith) slot (omega (arith, size)) small
    (fine_run_presence T H k (length bytes + 1) (omega (arith, size, within, slot))) put there
    (λ P made. optional_says T k place (length bytes + 1) P (λ e. omega (arith, e))
    ∙ ap (λ i. Some (one i)) (run_given k bytes (length bytes + 1) P is ∙ ap (λ m. run (run_at m P)) less
    ∙ ap run made)) in
    subst (λ r. PutsWordAt T H (r, place) (place + 2) c d before next (λ w. slot_content T Optional k w ≡ Some (one (run bytes)))) (sym (run_optional k bytes is)) whole
