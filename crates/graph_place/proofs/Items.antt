-- The effects of the parts of a value, by the effects of their calls.
use Rattle.std.proofs.Common.{inl, inr, ◌≡◌, ◌≢◌, ℕ, ◌+◌, ◌*◌, ◌<◌, ◌≤◌, ◌^◌, Bool, true, List, [], ◌∷◌, ◌++◌, length}
use Rattle.std.proofs.Common.{drop, get_or, Some, sym, ap, subst, ◌∙◌, arith}
use Rattle.mrpc_table.specs.Node.{Node, one, Item, number, node}
use Rattle.mrpc_table.specs.Normal.{fields_of, IsItem, HasFields, HasOneMemberEach, depth, item_depth}
use Rattle.mrpc_table.specs.View.{item_of, items_of, pairs_of}
use Rattle.mrpc_table.specs.declared.table.Kind.{Kind}
use Rattle.mrpc_table.specs.Words.{IsWordForm, IsSigned32, nested_message}
use Rattle.mrpc_table.specs.declared.table.Kind.TheVariants.{Int32, Int64, Uint32, Uint64, Sint32, Sint64}
use Rattle.mrpc_table.specs.declared.table.Kind.TheVariants.{Bool as TheBool, Fixed32, Fixed64, Sfixed32, Sfixed64}
use Rattle.mrpc_table.specs.declared.table.Kind.TheVariants.{Float, Double, Text, Octets, Message as OfMessage}
use Rattle.mrpc_table.specs.declared.table.Kind.TheVariants.{Choice}
use Rattle.mrpc_table.specs.declared.table.Label.TheVariants.{Optional}
use Rattle.mrpc_table.specs.declared.table.Table.{Table}
use Rattle.mrpc_table.specs.declared.tree.Value.{Value}
use Rattle.mrpc_table.specs.declared.tree.Value.TheVariants.{Number, Run, Node as TheNode}
use Rattle.graph_form.specs.Roles.{plain_role, optional_role, node_words, element_words, run_words}
use Rattle.graph_form.specs.Forgotten.{slot_content, tree_of}
use Rattle.graph_place.specs.Laid.{IsSlotOf}
use Rattle.graph_place.specs.Size.{tree_words, item_words, many_words, pairs_words, run_words_of}
use Rattle.graph_place.proofs.Beginning.{Loads}
use Rattle.graph_place.proofs.Chain.{RunPut}
use Rattle.graph_place.proofs.Laying.{number_item, run_item, run_text, run_width, node_item, optional_number, optional_run}
use Rattle.graph_place.proofs.Lists.{ElementsOn, elements_more, contents, many_are, EntriesOn, entries_more, pair_contents, pairs_are, key_same}
use Rattle.graph_place.proofs.Parts.{next_part}
use Rattle.graph_place.proofs.Spelled.{PutsAt, PutsWordAt}

abbrev pub NodePut : Table → ℕ → Node → ℕ → Loads → ℕ → Loads → Type 0
NodePut T m t c before d next = (H level : ℕ) → d ≤ H → level + depth t ≤ 33 → PutsAt T H (node_words T m level c) c c c d before next (λ P. tree_of T m P ≡ t)

abbrev pub ItemPut : Table → Kind → Item → ℕ → ℕ → Loads → ℕ → Loads → Type 0
ItemPut T k i place c before d next =
    (H level : ℕ) (needed : Bool) → d ≤ H → level + item_depth i ≤ 33
    → PutsWordAt T H (plain_role k level needed, place) (place + element_words k) c d before next (IsSlotOf T k i)

abbrev pub OptionalPut : Item → ℕ → ℕ → Loads → ℕ → Loads → Type 0
OptionalPut i place c before d next =
    (T : Table) (H : ℕ) (kind : Kind) → d ≤ H → ((m : ℕ) → kind ≢ OfMessage m) → IsItem T kind i
    → PutsWordAt T H (optional_role kind, place) (place + 2) c d before next (λ w. slot_content T Optional kind w
    ≡ Some (one i))

-- ---- a value

small_word : (n : ℕ) → IsSigned32 n → n < 2 ^ 64
small_word n form = elim form [ inl low ↦ omega (arith, low) | inr high ↦ high.1 ]

pub word_small : (k : Kind) (n : ℕ) → IsWordForm k n → n < 2 ^ 64
word_small Int32 n form = small_word n form
word_small Sint32 n form = small_word n form
word_small Sfixed32 n form = small_word n form
word_small (Choice i) n form = small_word n form
word_small Int64 n form = form
word_small Sint64 n form = form
word_small Uint64 n form = form
word_small Fixed64 n form = form
word_small Sfixed64 n form = form
word_small Double n form = form
word_small Uint32 n form = omega (arith, form)
word_small Fixed32 n form = omega (arith, form)
word_small Float n form = omega (arith, form)
word_small TheBool n form = omega (arith, form)
word_small Text n form = absurd form
word_small Octets n form = absurd form
word_small (OfMessage m) n form = absurd form

pub item_number : (T : Table) (k : Kind) (v : Value) (n place c d : ℕ) (before next : Loads) → v ≡ Number n → IsItem T k (item_of v) → place + element_words k ≤ c → d ≡ c
    → next ≡ before ++ (place, n) ∷ [] → ItemPut T k (item_of v) place c before d next
item_number T k v n place c d before next is item slot size put =
    subst (λ (x : Value). IsItem T k (item_of x) → ItemPut T k (item_of x) place c before d next) (sym is)
    (λ form. λ H level needed within deep.
    subst (λ e. PutsWordAt T H (plain_role k level needed, place) (place + element_words k) c e before next
    (IsSlotOf T k (number n))) (sym size) (number_item T H k level needed place n c before next form
    (word_small k n form) slot put)) item

pub item_run : (T : Table) (k : Kind) (v : Value) (bytes : List ℕ) (place c mid_free d : ℕ) (before mid next : Loads)
    → v ≡ Run bytes → IsItem T k (item_of v) → length bytes < 2 ^ 64 → 1 ≤ place → place + element_words k ≤ c
    → mid_free ≡ c → d ≡ mid_free + run_words (length bytes) → mid ≡ before ++ (place, length bytes) ∷ []
    → RunPut bytes (place + 1) mid_free mid d next → ItemPut T k (item_of v) place c before d next
item_run T k v bytes place c mid_free d before mid next is item small from slot same size put puts =
    let whole : d ≡ c + run_words (length bytes) = omega (arith, size, same) in
    let there : RunPut bytes (place + 1) c mid d next = subst (λ e. RunPut bytes (place + 1) e mid d next) same puts in
    subst (λ (x : Value). IsItem T k (item_of x) → ItemPut T k (item_of x) place c before d next) (sym is)
    (λ run_is. λ H level needed within deep. run_item T H k level needed place bytes c d before mid next run_is small
    from slot whole within put (there T H k within (run_text k bytes run_is))) item

pub item_node : (T : Table) (k : Kind) (v : Value) (t : Node) (m place c mid_free d : ℕ) (before mid next : Loads)
    → v ≡ TheNode t → IsItem T k (item_of v) → m ≡ nested_message k → 1 ≤ place → place + element_words k ≤ c → c < 2 ^ 64
    → mid_free ≡ c → d ≡ mid_free + tree_words T m t → mid ≡ before ++ (place, c) ∷ [] → NodePut T m t mid_free mid d next → ItemPut T k (item_of v) place c before d next
item_node T k v t m place c mid_free d before mid next is item message from slot small same size put puts =
    let whole : d ≡ c + tree_words T m t = size ∙ ap (λ e. e + tree_words T m t) same in
    let there : NodePut T m t c mid d next = subst (λ e. NodePut T m t e mid d next) same puts in
    subst (λ (x : Value). IsItem T k (item_of x) → ItemPut T k (item_of x) place c before d next) (sym is)
    (λ node_is. λ H level needed within deep.
    let kind : k ≡ OfMessage m = node_is.1 ∙ ap OfMessage (sym (message ∙ ap nested_message node_is.1)) in
    node_item T H k m level needed place t c d before mid next kind from slot small whole within deep put (λ l low. there H l within low)) item

-- the message of a value
pub node_fields : (T : Table) (k : Kind) (v : Value) (t : Node) (m : ℕ) → v ≡ TheNode t → IsItem T k (item_of v) → m ≡ nested_message k → HasFields T (fields_of T m) 0 t
node_fields T k v t m is item message =
    let node_is : IsItem T k (node t) = subst (λ (x : Value). IsItem T k (item_of x)) is item in
    subst (λ j. HasFields T (fields_of T j) 0 t) (sym (message ∙ ap nested_message node_is.1)) node_is.2

pub node_oneofs : (T : Table) (k : Kind) (v : Value) (t : Node) (m : ℕ) → v ≡ TheNode t → IsItem T k (item_of v) → m ≡ nested_message k → HasOneMemberEach (fields_of T m) t
node_oneofs T k v t m is item message =
    let node_is : IsItem T k (node t) = subst (λ (x : Value). IsItem T k (item_of x)) is item in
    subst (λ j. HasOneMemberEach (fields_of T j) t) (sym (message ∙ ap nested_message node_is.1)) node_is.3

pub number_words : (T : Table) (k : Kind) (v : Value) (n : ℕ) → v ≡ Number n → item_words T k (item_of v) ≡ 0
number_words T k v n is = ap (λ (x : Value). item_words T k (item_of x)) is

pub run_words_is : (T : Table) (k : Kind) (v : Value) (bytes : List ℕ) → v ≡ Run bytes → item_words T k (item_of v) ≡ run_words (length bytes)
run_words_is T k v bytes is = ap (λ (x : Value). item_words T k (item_of x)) is

pub node_words_is : (T : Table) (k : Kind) (v : Value) (t : Node) (m : ℕ) → v ≡ TheNode t → m ≡ nested_message k → item_words T k (item_of v) ≡ tree_words T m t
node_words_is T k v t m is message = ap (λ (x : Value). item_words T k (item_of x)) is ∙ sym (ap (λ j. tree_words T j t) message)

-- ---- a value in an optional slot

pub optional_number_put : (v : Value) (n place c d : ℕ) (before mid next : Loads) → v ≡ Number n → place + 2 ≤ c → d ≡ c
    → mid ≡ before ++ (place, 1) ∷ [] → next ≡ mid ++ (place + 1, n) ∷ [] → OptionalPut (item_of v) place c before d next
optional_number_put v n place c d before mid next is slot size put behind =
    subst (λ (x : Value). OptionalPut (item_of x) place c before d next) (sym is)
    (λ T H k within other form.
    subst (λ e. PutsWordAt T H (optional_role k, place) (place + 2) c e before next (λ w. slot_content T Optional k w
    ≡ Some (one (number n)))) (sym size)
    (optional_number T H k place n c before mid next form (word_small k n form) slot put behind))

pub optional_run_put : (v : Value) (bytes : List ℕ) (place c mid_free d : ℕ) (before mid next : Loads) → v ≡ Run bytes
    → length bytes + 1 < 2 ^ 64 → place + 2 ≤ c → mid_free ≡ c → d ≡ mid_free + run_words (length bytes)
    → mid ≡ before ++ (place, length bytes + 1) ∷ [] → RunPut bytes (place + 1) mid_free mid d next → OptionalPut (item_of v) place c before d next
optional_run_put v bytes place c mid_free d before mid next is small slot same size put puts =
    let whole : d ≡ c + run_words (length bytes) = omega (arith, size, same) in
    let there : RunPut bytes (place + 1) c mid d next = subst (λ e. RunPut bytes (place + 1) e mid d next) same puts in
    subst (λ (x : Value). OptionalPut (item_of x) place c before d next) (sym is)
    (λ T H k within other run_is. optional_run T H k place bytes c d before mid next run_is small slot whole within put (there T H k within (run_text k bytes run_is)))

-- ---- elements

-- the conditions on the next element
pub record ElementFits (T : Table) (k : Kind) (v : Value) (next free : ℕ) : Type 0 where
  pub item : IsItem T k (item_of v)
  pub from : 1 ≤ next
  pub slot : next + element_words k ≤ free
  pub room : free + item_words T k (item_of v) < 2 ^ 64

pub element_fits : (T : Table) (k : Kind) (all : List Value) (at c : ℕ) (before : Loads) (xs : List Value) (i : ℕ)
    (v : Value) (next free : ℕ) (now : Loads) → 1 ≤ at → c + contents T k all < 2 ^ 64 → i < length xs
    → v ≡ get_or xs i v
    → ElementsOn T k all at c before (drop i xs) next free now → ElementFits T k v next free
element_fits T k all at c before xs i v next free now from room within is on =
    let r : ElementsOn T k all at c before (v ∷ drop (i + 1) xs) next free now = subst (λ rest. ElementsOn T k all at c before rest next free now) (next_part xs i v within is) on in
    record {
      item = r.kinds.0;
      from = omega (arith, from, r.from);
      slot = omega (arith, r.next_is, r.past);
      room = omega (arith, r.free_is, room);
    }

pub elements_next : (T : Table) (k : Kind) (all : List Value) (at c : ℕ) (before : Loads) (xs : List Value) (i : ℕ)
    (v : Value) (next next2 free free2 : ℕ) (now now2 : Loads) → i < length xs → v ≡ get_or xs i v
    → ElementsOn T k all at c before (drop i xs) next free now → free2 ≡ free + item_words T k (item_of v)
    → next2 ≡ next + element_words k → ItemPut T k (item_of v) next free now free2 now2
    → ElementsOn T k all at c before (drop (i + 1) xs) next2 free2 now2
elements_next T k all at c before xs i v next next2 free free2 now now2 within is on size step puts =
    let r : ElementsOn T k all at c before (v ∷ drop (i + 1) xs) next free now = subst (λ rest. ElementsOn T k all at c before rest next free now) (next_part xs i v within is) on in
    subst (λ p. ElementsOn T k all at c before (drop (i + 1) xs) p free2 now2) (sym step)
    (elements_more T k all at c before v (drop (i + 1) xs) next free free2 now now2 r size
    (λ H level low deep. puts H level true low deep))

-- ---- entries

pub record EntryFits (T : Table) (key k : Kind) (x y : Value) (next free : ℕ) : Type 0 where
  pub first : IsItem T key (item_of x)
  pub value : IsItem T k (item_of y)
  pub from : 1 ≤ next
  pub slot : next + 4 ≤ free
  pub room : free + item_words T key (item_of x) + item_words T k (item_of y) < 2 ^ 64

pub entry_fits : (T : Table) (key k : Kind) (all : List (Value × Value)) (at c : ℕ) (before : Loads)
    (xs : List (Value × Value)) (i : ℕ) (e : Value × Value) (next free : ℕ) (now : Loads)
    → ((m : ℕ) → key ≢ OfMessage m) → 1 ≤ at
    → c + pair_contents T k all < 2 ^ 64 → i < length xs → e ≡ get_or xs i e → EntriesOn T key k all at c before (drop i xs) next free now → EntryFits T key k e.0 e.1 next free
entry_fits T key k all at c before xs i e next free now simple from room within is on =
    let r : EntriesOn T key k all at c before (e ∷ drop (i + 1) xs) next free now = subst (λ rest. EntriesOn T key k all at c before rest next free now) (next_part xs i e within is) on in
    let same : item_words T key (item_of e.0) ≡ run_words_of (item_of e.0) = key_same T key (item_of e.0) simple r.kinds.0 in
    record {
      first = r.kinds.0;
      value = r.kinds.1;
      from = omega (arith, from, r.from);
      slot = omega (arith, r.next_is, r.past);
      room = omega (arith, r.free_is, room, same);
    }

pub entries_next : (T : Table) (key k : Kind) (all : List (Value × Value)) (at c : ℕ) (before : Loads)
    (xs : List (Value × Value)) (i : ℕ) (e : Value × Value) (next next2 free mid free2 : ℕ) (now then now2 : Loads)
    → ((m : ℕ) → key ≢ OfMessage m)
    → i < length xs → e ≡ get_or xs i e → EntriesOn T key k all at c before (drop i xs) next free now
    → mid ≡ free + item_words T key (item_of e.0) → free2 ≡ mid + item_words T k (item_of e.1) → next2 ≡ next + 4
    → ItemPut T key (item_of e.0) next free now mid then → ItemPut T k (item_of e.1) (next + 2) mid then free2 now2
    → EntriesOn T key k all at c before (drop (i + 1) xs) next2 free2 now2
entries_next T key k all at c before xs i e next next2 free mid free2 now then now2 simple within is on keyed sized step keys values =
    let r : EntriesOn T key k all at c before (e ∷ drop (i + 1) xs) next free now = subst (λ rest. EntriesOn T key k all at c before rest next free now) (next_part xs i e within is) on in
    let same : item_words T key (item_of e.0) ≡ run_words_of (item_of e.0) = key_same T key (item_of e.0) simple r.kinds.0 in
    subst (λ p. EntriesOn T key k all at c before (drop (i + 1) xs) p free2 now2) (sym step)
    (entries_more T key k all at c before e.0 e.1 (drop (i + 1) xs) next free mid free2 now then now2 r
    (keyed ∙ ap (λ n. free + n) same) sized (λ H level low deep. keys H level true low deep)
    (λ H level low deep. values H level true low deep))

-- ---- where elements and entries lie

pub elements_size : (k : Kind) (vs : List Value) (f at f1 f2 len width : ℕ) → at ≡ f → f1 ≡ f + len * width → f2 ≡ f1
    → len ≡ length vs → width ≡ element_words k → at + element_words k * length vs ≡ f2
elements_size k vs f at f1 f2 len width first grown same count wide =
    let whole : f1 ≡ f + length vs * element_words k = grown ∙ ap (λ n. f + n * width) count ∙ ap (λ w. f + length vs * w) wide in
    omega (arith, first, whole, same)

pub elements_room : (T : Table) (k : Kind) (vs : List Value) (f len width : ℕ) → len ≡ length vs
    → width ≡ element_words k → f + many_words T k (items_of vs) < 2 ^ 64 → f + len * width < 2 ^ 64
elements_room T k vs f len width count wide room =
    let whole = many_are T k vs in
    let there : f + length vs * element_words k < 2 ^ 64 = omega (arith, whole, room) in
    subst (λ n. f + n * width < 2 ^ 64) (sym count) (subst (λ w. f + length vs * w < 2 ^ 64) (sym wide) there)

pub elements_left : (T : Table) (k : Kind) (vs : List Value) (f at c : ℕ) → at ≡ f
    → at + element_words k * length vs ≡ c → f + many_words T k (items_of vs) < 2 ^ 64 → c + contents T k vs < 2 ^ 64
elements_left T k vs f at c first size room = let whole = many_are T k vs in omega (arith, whole, room, first, size)

pub elements_free : (T : Table) (k : Kind) (vs : List Value) (f at c free : ℕ) (before now : Loads) (next : ℕ)
    → at ≡ f → at + element_words k * length vs ≡ c → ElementsOn T k vs at c before [] next free now
    → free ≡ f + many_words T k (items_of vs)
elements_free T k vs f at c free before now next first size on = let whole = many_are T k vs in omega (arith, whole, on.free_is, first, size)

pub entries_left : (T : Table) (k : Kind) (es : List (Value × Value)) (f at c : ℕ) → at ≡ f → at + 4 * length es ≡ c
    → f + pairs_words T k (pairs_of es) < 2 ^ 64 → c + pair_contents T k es < 2 ^ 64
entries_left T k es f at c first size room = let whole = pairs_are T k es in omega (arith, whole, room, first, size)

pub entries_room : (T : Table) (k : Kind) (es : List (Value × Value)) (f len : ℕ) → len ≡ length es → f + pairs_words T k (pairs_of es) < 2 ^ 64 → f + 4 * len < 2 ^ 64
entries_room T k es f len count room = let whole = pairs_are T k es in omega (arith, whole, room, count)

pub entries_free : (T : Table) (key k : Kind) (es : List (Value × Value)) (f at c free : ℕ) (before now : Loads)
    (next : ℕ) → at ≡ f → at + 4 * length es ≡ c → EntriesOn T key k es at c before [] next free now
    → free ≡ f + pairs_words T k (pairs_of es)
entries_free T key k es f at c free before now next first size on = let whole = pairs_are T k es in omega (arith, whole, on.free_is, first, size)

pub run_two : (T : Table) (k : Kind) (v : Value) (bytes : List ℕ) → v ≡ Run bytes → IsItem T k (item_of v) → element_words k ≡ 2
run_two T k v bytes is item = run_width k bytes (subst (λ (x : Value). IsItem T k (item_of x)) is item)
