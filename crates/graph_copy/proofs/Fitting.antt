-- The words that a valid word leads to are inside the heap.
use Rattle.std.proofs.Common.{◌≡◌, ◌≢◌, ℕ, zero, suc, ◌+◌, ◌-◌, ◌*◌, ◌<◌, ◌≤◌, List, [], ◌∷◌, ◌++◌, length, Bool}
use Rattle.std.proofs.Common.{true, false, refl, sym, subst, arith, ◌==◌, cond, inl, inr}
use Rattle.std.specs.Prelude.{nat_le}
use Rattle.std.proofs.lemmas.Bool.{eqb-false}
use Rattle.std.proofs.lemmas.Bool.Decides.{leb_tells}
use Rattle.mrpc_table.specs.Normal.{fields_of, kind_at}
use Rattle.mrpc_table.specs.declared.table.Kind.{Kind}
use Rattle.mrpc_table.specs.declared.table.Kind.TheVariants.{Text, Octets, Message as OfMessage}
use Rattle.mrpc_table.specs.declared.table.Label.{Label}
use Rattle.mrpc_table.specs.declared.table.Label.TheVariants.{Optional, Repeated, Packed, Map}
use Rattle.mrpc_table.specs.declared.table.Field.{Field}
use Rattle.mrpc_table.specs.declared.table.Table.{Table}
use Rattle.graph_form.specs.declared.reason.Reason.TheVariants.{Address}
use Rattle.graph_form.specs.Roles.{WordRole as Use, value, presence, run_length, run_presence, run_address, run_word}
use Rattle.graph_form.specs.Roles.{link, count, elements_address, entry_count, entries_address, case_word, Expected}
use Rattle.graph_form.specs.Roles.{expected_after, plain_role, optional_role, slot_role, slots_from, cases_from}
use Rattle.graph_form.specs.Roles.{elements_from, entries_from, node_words, own_slots, oneof_count, size_words}
use Rattle.graph_form.specs.Roles.{element_words, run_words, word_bytes}
use Rattle.graph_form.specs.Placed.{IsSpanInHeap, IsValidWord}
use Rattle.graph_copy.specs.Expected.{words_needed, IsNonEmptyRun, IsInHeap, AreInHeap}

pub lies_by_not : (H p n : ℕ) → ((IsSpanInHeap H p n → ⊥) → ⊥) → IsSpanInHeap H p n
lies_by_not H p n h =
    elim (leb_tells 1 p) [
      | inl low ↦ elim (leb_tells (p + n) H) [
        | inl high ↦ record { from_one = low.1; to_end = high.1 }
        | inr past ↦ absurd (h (λ l. omega (arith, l.to_end, past.1)))
      ]
      | inr low ↦ absurd (h (λ l. omega (arith, l.from_one, low.1)))
    ]

plain_some : (k : Kind) (depth : ℕ) (needed : Bool) → IsNonEmptyRun (plain_role k depth needed)
plain_some Text depth needed = tt
plain_some Octets depth needed = tt
plain_some (OfMessage m) depth needed = tt
plain_some _ depth needed = tt

plain_words : (k : Kind) (depth : ℕ) (needed : Bool) → words_needed (plain_role k depth needed) ≤ element_words k
plain_words Text depth needed = omega arith
plain_words Octets depth needed = omega arith
plain_words (OfMessage m) depth needed = omega arith
plain_words _ depth needed = omega arith

element_most : (k : Kind) → element_words k ≤ 2
element_most Text = omega arith
element_most Octets = omega arith
element_most _ = omega arith

optional_some : (k : Kind) → IsNonEmptyRun (optional_role k)
optional_some Text = tt
optional_some Octets = tt
optional_some _ = tt

optional_words : (k : Kind) → words_needed (optional_role k) ≤ 2
optional_words Text = omega arith
optional_words Octets = omega arith
optional_words _ = omega arith

slot_some : (l : Label) (k : Kind) (depth : ℕ) → IsNonEmptyRun (slot_role l k depth)
slot_some Optional k depth = optional_some k
slot_some Repeated k depth = tt
slot_some Packed k depth = tt
slot_some (Map key) k depth = tt
slot_some _ k depth = plain_some k depth false

slot_words : (l : Label) (k : Kind) (depth : ℕ) → words_needed (slot_role l k depth) ≤ 2
slot_words Optional k depth = optional_words k
slot_words Repeated k depth = omega arith
slot_words Packed k depth = omega arith
slot_words (Map key) k depth = omega arith
slot_words _ k depth = omega (arith, plain_words k depth false, element_most k)

slots_fit : (H : ℕ) (fs : List Field) (depth at : ℕ) (others : Expected) → at + 2 * length fs ≤ H → AreInHeap H others → AreInHeap H (slots_from fs depth at ++ others)
slots_fit H [] depth at others le rest = rest
slots_fit H (f ∷ fs) depth at others le rest =
    ((slot_some f.label f.kind depth, omega (arith, le, slot_words f.label f.kind depth)), slots_fit H fs depth (at + 2) others (omega (arith, le)) rest)

cases_fit : (H n : ℕ) (fs : List Field) (oneof depth at : ℕ) → at + 3 * n ≤ H → AreInHeap H (cases_from n fs oneof depth at)
cases_fit H zero fs oneof depth at le = tt
cases_fit H (suc n) fs oneof depth at le = ((tt, omega (arith, le)), cases_fit H n fs (oneof + 1) depth (at + 3) (omega (arith, le)))

pub node_fits : (T : Table) (H m depth at : ℕ) → at + size_words T m ≤ H → AreInHeap H (node_words T m depth at)
node_fits T H m depth at le =
    slots_fit H (own_slots (fields_of T m)) depth at (cases_from (oneof_count T m) (fields_of T m) 0 depth (at + 2 * length (own_slots (fields_of T m))))
    (omega (arith, le)) (cases_fit H (oneof_count T m) (fields_of T m) 0 depth (at + 2 * length (own_slots (fields_of T m))) (omega (arith, le)))

elements_fit : (H n e : ℕ) (k : Kind) (depth at : ℕ) → e ≡ element_words k → at + n * e ≤ H → AreInHeap H (elements_from n k depth at)
elements_fit H zero e k depth at is le = tt
elements_fit H (suc n) e k depth at is le =
    ((plain_some k depth true, omega (arith, le, is, plain_words k depth true)), elements_fit H n e k depth (at + element_words k) is (omega (arith, le, is)))

entries_fit : (H n : ℕ) (key k : Kind) (depth at : ℕ) → at + 4 * n ≤ H → AreInHeap H (entries_from n key k depth at)
entries_fit H zero key k depth at le = tt
entries_fit H (suc n) key k depth at le = (
  (plain_some key depth true, omega (arith, le, plain_words key depth true, element_most key)),
  ((plain_some k depth true, omega (arith, le, plain_words k depth true, element_most k)), entries_fit H n key k depth (at + 4) (omega (arith, le))),
)

unless_zero : (H v : ℕ) (es : Expected) → (v ≢ 0 → AreInHeap H es) → AreInHeap H (cond (v == 0) [] es)
unless_zero H v es h =
    let given : (b : Bool) → (v == 0) ≡ b → AreInHeap H (cond b [] es) = λ b. elim b as (λ b. (v == 0) ≡ b
    → AreInHeap H (cond b [] es)) [ true ↦ λ e. tt | false ↦ λ e. h (eqb-false v 0 e) ] in
    given (v == 0) refl

unless_past : (H v most : ℕ) (es : Expected) → (most < v → AreInHeap H es) → AreInHeap H (cond (nat_le v most) [] es)
unless_past H v most es h =
    elim (leb_tells v most) [
      | inl le ↦ subst (λ b. AreInHeap H (cond b [] es)) (sym le.0) tt
      | inr lt ↦ subst (λ b. AreInHeap H (cond b [] es)) (sym lt.0) (h lt.1)
    ]

pub behind_fits : (T : Table) (H : ℕ) (role : Use) (p v : ℕ) → IsValidWord T H role v → IsInHeap H (role, p) → AreInHeap H (expected_after T role p v)
behind_fits T H (value k) p v fine fits = tt
behind_fits T H (presence k) p v fine fits = unless_zero H v ((value k, p + 1) ∷ []) (λ n. ((tt, omega (arith, fits.1)), tt))
behind_fits T H (run_length k) p v fine fits = unless_zero H v ((run_address k v, p + 1) ∷ []) (λ n. ((omega (arith, n), omega (arith, fits.1)), tt))
behind_fits T H (run_presence k) p v fine fits = unless_past H v 1 ((run_address k (v - 1), p + 1) ∷ []) (λ n. ((omega (arith, n), omega (arith, fits.1)), tt))
behind_fits T H (run_address k bytes) p v fine fits = let lies = lies_by_not H v (run_words bytes) (fine Address) in ((fits.0, omega (arith, lies.to_end)), tt)
behind_fits T H (run_word k left before) p v fine fits =
    unless_past H left 8 ((run_word k (left - 8) (before ++ word_bytes v), p + 1) ∷ []) (λ n. ((omega (arith, n), omega (arith, fits.1, n)), tt))
behind_fits T H (link m depth needed) p v fine fits =
    unless_zero H v (node_words T m (depth + 1) v) (λ n. let lies = lies_by_not H v (size_words T m) (λ no. fine Address (inl n, no)) in node_fits T H m (depth + 1) v lies.to_end)
behind_fits T H (count k depth) p v fine fits = unless_zero H v ((elements_address k v depth, p + 1) ∷ []) (λ n. ((tt, omega (arith, fits.1)), tt))
behind_fits T H (elements_address k n depth) p v fine fits =
    let lies = lies_by_not H v (n * element_words k) (fine Address) in elements_fit H n (element_words k) k depth v refl lies.to_end
behind_fits T H (entry_count key k depth) p v fine fits = unless_zero H v ((entries_address key k v depth, p + 1) ∷ []) (λ n. ((tt, omega (arith, fits.1)), tt))
behind_fits T H (entries_address key k n depth) p v fine fits =
    let lies = lies_by_not H v (4 * n) (fine Address) in entries_fit H n key k depth v lies.to_end
behind_fits T H (case_word fs oneof depth) p v fine fits =
    unless_zero H v ((plain_role (kind_at fs v) depth true, p + 1) ∷ [])
    (λ n. ((plain_some (kind_at fs v) depth true, omega (arith, fits.1, plain_words (kind_at fs v) depth true, element_most (kind_at fs v))), tt))

pub all_fit_both : (H : ℕ) (es others : Expected) → AreInHeap H es → AreInHeap H others → AreInHeap H (es ++ others)
all_fit_both H [] others here rest = rest
all_fit_both H (e ∷ es) others here rest = (here.0, all_fit_both H es others here.1 rest)

pub not_deep : (depth : ℕ) → (32 ≤ depth → ⊥) → depth < 32
not_deep depth h = omega (arith, h)

pub all_fit_left : (H : ℕ) (es others : Expected) → AreInHeap H (es ++ others) → AreInHeap H es
all_fit_left H [] others all = tt
all_fit_left H (e ∷ es) others all = (all.0, all_fit_left H es others all.1)
