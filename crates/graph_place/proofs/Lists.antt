-- Elements and entries, one after another.
use Rattle.std.proofs.Common.{◌≡◌, ◌≢◌, ℕ, ◌+◌, ◌*◌, ◌<◌, ◌≤◌, ◌^◌, true, List, [], ◌∷◌, ◌++◌, length, refl, ap, subst, ◌∙◌, arith}
use Rattle.mrpc_table.specs.Node.{Item, number, run, node, item}
use Rattle.mrpc_table.specs.Normal.{IsItem, AreItems, ArePairs, item_depth, items_depth, pairs_depth}
use Rattle.mrpc_table.specs.View.{item_of, items_of, pairs_of}
use Rattle.mrpc_table.specs.declared.table.Kind.{Kind}
use Rattle.mrpc_table.specs.declared.table.Kind.TheVariants.{Message as OfMessage}
use Rattle.mrpc_table.specs.declared.table.Table.{Table}
use Rattle.mrpc_table.specs.declared.tree.Value.{Value}
use Rattle.graph_form.specs.Roles.{plain_role, elements_address, entries_address, elements_from, entries_from, element_words}
use Rattle.graph_form.specs.Placed.{Placed, nothing, first, Word}
use Rattle.graph_form.specs.Forgotten.{plain_item, elements_at, elements_in, entries_at, entries_in}
use Rattle.graph_place.specs.Laid.{IsSlotOf, listed}
use Rattle.graph_place.specs.Size.{item_words, many_words, pairs_words, run_words_of}
use Rattle.graph_place.proofs.Beginning.{Loads, begun_none, begun_more, begun_end, word_put, one_put, word_wide, content_put}
use Rattle.graph_place.proofs.Fine.{fine_elements, fine_entries}
use Rattle.graph_place.proofs.Spelled.{PutsAt, PutsWordAt, BegunAt}
use Rattle.graph_place.proofs.Widths.{narrow}

-- ---- elements

-- the size of the content after the slots of elements
abbrev pub contents : Table → Kind → List Value → ℕ
contents T k [] = 0
contents T k (v ∷ vs) = item_words T k (item_of v) + contents T k vs

pub many_are : (T : Table) (k : Kind) (vs : List Value) → many_words T k (items_of vs) ≡ element_words k * length vs + contents T k vs
many_are T k [] = omega arith
many_are T k (v ∷ vs) = let rest = many_are T k vs in omega (arith, rest)

abbrev pub Elements : Table → Kind → List Value → Placed → Type 0
Elements T k vs P = elements_in T k P ≡ items_of vs

-- some elements are placed, and these remain
pub record ElementsOn (T : Table) (k : Kind) (all : List Value) (at c : ℕ) (before : Loads) (rest : List Value) (next free : ℕ) (now : Loads) : Type 0 where
  pub next_is : next + element_words k * length rest ≡ c
  pub from : at ≤ next
  pub free_is : free + contents T k rest ≡ c + contents T k all
  pub past : c ≤ free
  pub kinds : AreItems T k (items_of rest)
  pub shallow : items_depth (items_of rest) ≤ items_depth (items_of all)
  pub on : (H level : ℕ) → free ≤ H → level + items_depth (items_of all) ≤ 33
      → BegunAt T H (elements_from (length all) k level at) (elements_from (length rest) k level next) at next c free before now (Elements T k all) (Elements T k rest)

pub elements_begin : (T : Table) (k : Kind) (all : List Value) (at c : ℕ) (before : Loads)
    → AreItems T k (items_of all) → at + element_words k * length all ≡ c
    → ElementsOn T k all at c before all at c before
elements_begin T k all at c before kinds size = record {
  next_is = size;
  from = omega arith;
  free_is = refl;
  past = omega arith;
  kinds = kinds;
  shallow = omega arith;
  on = λ H level within deep. begun_none T H (elements_from (length all) k level at) at c before (Elements T k all);
}

pub elements_more : (T : Table) (k : Kind) (all : List Value) (at c : ℕ) (before : Loads) (v : Value) (rest : List Value) (next free free2 : ℕ) (now now2 : Loads)
    → ElementsOn T k all at c before (v ∷ rest) next free now → free2 ≡ free + item_words T k (item_of v)
    → ((H level : ℕ) → free2 ≤ H → level + item_depth (item_of v) ≤ 33
    → PutsWordAt T H (plain_role k level true, next) (next + element_words k) free free2 now now2
    (IsSlotOf T k (item_of v)))
    → ElementsOn T k all at c before rest (next + element_words k) free2 now2
elements_more T k all at c before v rest next free free2 now now2 r size puts = record {
  next_is = omega (arith, r.next_is);
  from = omega (arith, r.from);
  free_is = omega (arith, r.free_is, size);
  past = omega (arith, r.past, size);
  kinds = r.kinds.1;
  shallow = omega (arith, r.shallow);
  on = λ H level within deep.
      let deep_v : level + item_depth (item_of v) ≤ 33 = omega (arith, deep, r.shallow) in
      begun_more T H (elements_from (length all) k level at) (plain_role k level true, next) (elements_from (length rest) k level (next + element_words k))
      at next (next + element_words k) c free free2 before now now2 (Elements T k all) (Elements T k (v ∷ rest)) (Elements T k rest) (IsSlotOf T k (item_of v))
      r.from (omega arith) (omega (arith, r.next_is)) r.past (omega (arith, size)) refl
      (r.on H level (omega (arith, within, size)) deep) (puts H level within deep_v)
      (λ Q w holds less. ap (λ i. item i (elements_in T k Q)) holds.item ∙ ap (item (item_of v)) less);
}

pub elements_end : (T : Table) (k : Kind) (all : List Value) (place at c free : ℕ) (old before now : Loads) (next : ℕ)
    → ElementsOn T k all at c before [] next free now → at + element_words k * length all ≡ c → at < 2 ^ 64
    → 1 ≤ place → place + 1 ≤ at → before ≡ old ++ (place, at) ∷ []
    → (H level : ℕ) → free ≤ H → level + items_depth (items_of all) ≤ 33
    → PutsAt T H ((elements_address k (length all) level, place) ∷ []) place (place + 1) at free old now (λ P. elements_at T k P ≡ items_of all)
elements_end T k all place at c free old before now next r size small from slot is H level within deep =
    let end : next ≡ c = omega (arith, r.next_is) in
    let inner : PutsAt T H (elements_from (length all) k level at) at next c free before now (Elements T k all)
    = begun_end T H (elements_from (length all) k level at) at next c free before now (Elements T k all) (Elements T k []) (r.on H level within deep) refl in
    let there : PutsAt T H (elements_from (length all) k level at) (place + 1) (place + 1) at free before now (Elements T k all)
    = content_put T H (elements_from (length all) k level at) (place + 1) at c free before now (Elements T k all)
    (Elements T k all) slot
    (subst (λ b. PutsAt T H (elements_from (length all) k level at) at b c free before now (Elements T k all)) end
    inner) (λ P made. made) in
    let lies : at + length all * element_words k ≤ H = omega (arith, size, r.past, within) in
    let whole : PutsWordAt T H (elements_address k (length all) level, place) (place + 1) at free old now (λ w. elements_at T k (first w nothing) ≡ items_of all)
    = word_put T H (elements_address k (length all) level) place at (place + 1) at free old before now
    (Elements T k all) (λ w. elements_at T k (first w nothing) ≡ items_of all) (omega arith) slot
    (omega (arith, size, r.past)) small
    (fine_elements T H k (length all) level at (omega (arith, slot)) lies) is there (λ P made. made) in
    one_put T H (elements_address k (length all) level, place) (place + 1) at free old now
    (λ w. elements_at T k (first w nothing) ≡ items_of all) (λ P. elements_at T k P ≡ items_of all) whole
    (λ w made. made)

-- ---- entries

abbrev pub pair_contents : Table → Kind → List (Value × Value) → ℕ
pair_contents T k [] = 0
pair_contents T k (e ∷ es) = run_words_of (item_of e.0) + item_words T k (item_of e.1) + pair_contents T k es

pub pairs_are : (T : Table) (k : Kind) (es : List (Value × Value)) → pairs_words T k (pairs_of es) ≡ 4 * length es + pair_contents T k es
pairs_are T k [] = omega arith
pairs_are T k (e ∷ es) = let rest = pairs_are T k es in omega (arith, rest)

-- a key is no message
pub key_same : (T : Table) (key : Kind) (i : Item) → ((m : ℕ) → key ≢ OfMessage m) → IsItem T key i → item_words T key i ≡ run_words_of i
key_same T key (number n) simple is = refl
key_same T key (run bytes) simple is = refl
key_same T key (node t) simple is = absurd (simple is.0 is.1)

abbrev pub Entries : Table → Kind → Kind → List (Value × Value) → Placed → Type 0
Entries T key k es P = entries_in T key k P ≡ listed (pairs_of es)

pub record EntriesOn (T : Table) (key k : Kind) (all : List (Value × Value)) (at c : ℕ) (before : Loads) (rest : List (Value × Value)) (next free : ℕ) (now : Loads) : Type 0 where
  pub next_is : next + 4 * length rest ≡ c
  pub from : at ≤ next
  pub free_is : free + pair_contents T k rest ≡ c + pair_contents T k all
  pub past : c ≤ free
  pub kinds : ArePairs T key k (pairs_of rest)
  pub shallow : pairs_depth (pairs_of rest) ≤ pairs_depth (pairs_of all)
  pub on : (H level : ℕ) → free ≤ H → level + pairs_depth (pairs_of all) ≤ 33
      → BegunAt T H (entries_from (length all) key k level at) (entries_from (length rest) key k level next) at next c free before now (Entries T key k all) (Entries T key k rest)

pub entries_begin : (T : Table) (key k : Kind) (all : List (Value × Value)) (at c : ℕ) (before : Loads)
    → ArePairs T key k (pairs_of all) → at + 4 * length all ≡ c → EntriesOn T key k all at c before all at c before
entries_begin T key k all at c before kinds size = record {
  next_is = size;
  from = omega arith;
  free_is = refl;
  past = omega arith;
  kinds = kinds;
  shallow = omega arith;
  on = λ H level within deep. begun_none T H (entries_from (length all) key k level at) at c before (Entries T key k all);
}

pub entries_more : (T : Table) (key k : Kind) (all : List (Value × Value)) (at c : ℕ) (before : Loads) (x y : Value)
    (rest : List (Value × Value)) (next free mid free2 : ℕ) (now then now2 : Loads)
    → EntriesOn T key k all at c before ((x, y) ∷ rest) next free now → mid ≡ free + run_words_of (item_of x) → free2 ≡ mid + item_words T k (item_of y)
    → ((H level : ℕ) → mid ≤ H → level + item_depth (item_of x) ≤ 33
    → PutsWordAt T H (plain_role key level true, next) (next + element_words key) free mid now then
    (IsSlotOf T key (item_of x)))
    → ((H level : ℕ) → free2 ≤ H → level + item_depth (item_of y) ≤ 33
    → PutsWordAt T H (plain_role k level true, next + 2) (next + 2 + element_words k) mid free2 then now2
    (IsSlotOf T k (item_of y)))
    → EntriesOn T key k all at c before rest (next + 4) free2 now2
entries_more T key k all at c before x y rest next free mid free2 now then now2 r keyed sized keys values =
    let slot_key = narrow key in
    let slot_value = narrow k in
    let four : next + 2 + 2 ≡ next + 4 = omega arith in
    record {
      next_is = omega (arith, r.next_is);
      from = omega (arith, r.from);
      free_is = omega (arith, r.free_is, keyed, sized);
      past = omega (arith, r.past, keyed, sized);
      kinds = r.kinds.2;
      shallow = omega (arith, r.shallow);
      on = λ H level within deep.
          let key_deep : level + item_depth (item_of x) ≤ 33 = omega (arith, deep, r.shallow) in
          let value_deep : level + item_depth (item_of y) ≤ 33 = omega (arith, deep, r.shallow) in
          let Behind : Placed → Type 0 = λ Q. (w : Word) → IsSlotOf T key (item_of x) w → Entries T key k ((x, y) ∷ rest) (first w Q) in
          let behind : BegunAt T H (entries_from (length all) key k level at) ((plain_role k level true, next + 2)
          ∷ entries_from (length rest) key k level (next + 4)) at (next + 2) c mid before then
          (Entries T key k all) Behind
          = begun_more T H (entries_from (length all) key k level at) (plain_role key level true, next)
          ((plain_role k level true, next + 2) ∷ entries_from (length rest) key k level (next + 4))
          at next (next + 2) c free mid before now then (Entries T key k all) (Entries T key k ((x, y) ∷ rest)) Behind (IsSlotOf T key (item_of x))
          r.from (omega arith) (omega (arith, r.next_is)) r.past (omega (arith, keyed)) refl
          (r.on H level (omega (arith, within, keyed, sized)) deep)
          (word_wide T H (plain_role key level true, next) (next + element_words key) (next + 2) free mid now then
          (IsSlotOf T key (item_of x)) (IsSlotOf T key (item_of x)) (omega (arith, slot_key))
          (keys H level (omega (arith, within, sized)) key_deep) (λ w holds. holds))
          (λ Q w holds less. less w holds) in
          subst (λ b. BegunAt T H (entries_from (length all) key k level at)
          (entries_from (length rest) key k level (next + 4)) at b c free2 before now2 (Entries T key k all)
          (Entries T key k rest)) four
          (begun_more T H (entries_from (length all) key k level at) (plain_role k level true, next + 2) (entries_from (length rest) key k level (next + 4))
          at (next + 2) (next + 2 + 2) c mid free2 before then now2 (Entries T key k all) Behind (Entries T key k rest) (IsSlotOf T k (item_of y))
          (omega (arith, r.from)) (omega arith) (omega (arith, r.next_is)) (omega (arith, r.past, keyed)) (omega (arith, sized)) refl
          behind
          (word_wide T H (plain_role k level true, next + 2) (next + 2 + element_words k)
          (next + 2 + 2) mid free2 then now2 (IsSlotOf T k (item_of y)) (IsSlotOf T k (item_of y))
          (omega (arith, slot_value)) (values H level within value_deep) (λ w holds. holds))
          (λ Q w holds less. λ x1 first_holds. ap (λ i. (i, plain_item T k w) ∷ entries_in T key k Q) first_holds.item
          ∙ ap (λ j. (item_of x, j) ∷ entries_in T key k Q) holds.item
          ∙ ap (λ zs. (item_of x, item_of y) ∷ zs) less));
    }

pub entries_end : (T : Table) (key k : Kind) (all : List (Value × Value)) (place at c free : ℕ) (old before now : Loads) (next : ℕ)
    → EntriesOn T key k all at c before [] next free now → at + 4 * length all ≡ c → at < 2 ^ 64 → 1 ≤ place → place + 1 ≤ at → before ≡ old ++ (place, at) ∷ []
    → (H level : ℕ) → free ≤ H → level + pairs_depth (pairs_of all) ≤ 33
    → PutsAt T H ((entries_address key k (length all) level, place) ∷ []) place (place + 1) at free old now (λ P. entries_at T key k P ≡ listed (pairs_of all))
entries_end T key k all place at c free old before now next r size small from slot is H level within deep =
    let end : next ≡ c = omega (arith, r.next_is) in
    let inner : PutsAt T H (entries_from (length all) key k level at) at next c free before now (Entries T key k all)
    = begun_end T H (entries_from (length all) key k level at) at next c free before now (Entries T key k all) (Entries T key k []) (r.on H level within deep) refl in
    let there : PutsAt T H (entries_from (length all) key k level at) (place + 1) (place + 1) at free before now (Entries T key k all)
    = content_put T H (entries_from (length all) key k level at) (place + 1) at c free before now
    (Entries T key k all) (Entries T key k all) slot
    (subst (λ b. PutsAt T H (entries_from (length all) key k level at) at b c free before now (Entries T key k all))
    end inner) (λ P made. made) in
    let whole : PutsWordAt T H (entries_address key k (length all) level, place) (place + 1) at free old now (λ w. entries_at T key k (first w nothing) ≡ listed (pairs_of all))
    = word_put T H (entries_address key k (length all) level) place at (place + 1) at free old before now
    (Entries T key k all) (λ w. entries_at T key k (first w nothing) ≡ listed (pairs_of all)) (omega arith) slot
    (omega (arith, size, r.past)) small
    (fine_entries T H key k (length all) level at (omega (arith, slot)) (omega (arith, size, r.past, within))) is there (λ P made. made) in
    one_put T H (entries_address key k (length all) level, place) (place + 1) at free old now
    (λ w. entries_at T key k (first w nothing) ≡ listed (pairs_of all))
    (λ P. entries_at T key k P ≡ listed (pairs_of all)) whole (λ w made. made)
