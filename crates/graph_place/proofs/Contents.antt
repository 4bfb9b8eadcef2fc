-- The effect of a field's slot, by the effects of its calls.
use Rattle.std.proofs.Common.{◌≡◌, ◌≢◌, ℕ, ◌+◌, ◌<◌, ◌≤◌, ◌^◌, false, List, [], ◌∷◌, ◌++◌, length, Some, None, refl, sym, ap, subst, arith}
use Rattle.mrpc_table.specs.Node.{Node, Content, one, many, pairs, Item, number, run, node, no_pairs, content_at}
use Rattle.mrpc_table.specs.Normal.{field_at, HasFields, IsItem, ArePairs, AreKeysAscending, content_depth, items_depth, pairs_depth}
use Rattle.mrpc_table.specs.Valid.{IsField}
use Rattle.mrpc_table.specs.View.{item_of, items_of, pairs_of, content_of}
use Rattle.mrpc_table.specs.declared.table.Kind.{Kind}
use Rattle.mrpc_table.specs.declared.table.Kind.TheVariants.{Message as OfMessage}
use Rattle.mrpc_table.specs.declared.table.Label.{Label}
use Rattle.mrpc_table.specs.declared.table.Label.TheVariants.{Optional, Map}
use Rattle.mrpc_table.specs.declared.table.Field.{Field}
use Rattle.mrpc_table.specs.declared.table.Table.{Table}
use Rattle.mrpc_table.specs.declared.tree.Value.{Value}
use Rattle.mrpc_table.specs.declared.tree.FieldValue.{FieldValue}
use Rattle.mrpc_table.specs.declared.tree.FieldValue.TheVariants.{One, Many, Pairs as ThePairs}
use Rattle.std.specs.Global.{Vec}
use Rattle.graph_form.specs.Roles.{elements_address, entries_address, slot_role, is_member}
use Rattle.graph_form.specs.Forgotten.{slot_content, elements_at, entries_at}
use Rattle.graph_place.specs.Laid.{IsContentFor, listed, optional_content_words, IsNotMessage}
use Rattle.graph_place.specs.Size.{content_words, item_words, many_words, pairs_words, run_words_of}
use Rattle.graph_place.proofs.Absent.{no_slot}
use Rattle.graph_place.proofs.Beginning.{Loads}
use Rattle.graph_place.proofs.Fields.{content_has, content_within}
use Rattle.graph_place.proofs.Items.{ItemPut, OptionalPut}
use Rattle.graph_place.proofs.Nodes.{FieldPut}
use Rattle.graph_place.proofs.Slot.{content_holds, slot_plain, slot_many, slot_pairs}
use Rattle.graph_place.proofs.Spelled.{PutsAt, PutsWordAt}

abbrev pub ElementsPut : Table → Kind → List Value → ℕ → ℕ → Loads → ℕ → Loads → Type 0
ElementsPut T k vs place c before d next =
    (H level : ℕ) → d ≤ H → level + items_depth (items_of vs) ≤ 33
    → PutsAt T H ((elements_address k (length vs) level, place) ∷ []) place (place + 1) c d before next
    (λ P. elements_at T k P ≡ items_of vs)

abbrev pub EntriesPut : Table → Kind → Kind → List (Value × Value) → ℕ → ℕ → Loads → ℕ → Loads → Type 0
EntriesPut T key k es place c before d next =
    (H level : ℕ) → d ≤ H → level + pairs_depth (pairs_of es) ≤ 33
    → PutsAt T H ((entries_address key k (length es) level, place) ∷ []) place (place + 1) c d before next
    (λ P. entries_at T key k P ≡ listed (pairs_of es))

abbrev pub SlotPut : Table → Label → Kind → Content → ℕ → ℕ → Loads → ℕ → Loads → Type 0
SlotPut T l k content place c before d next =
    (H level : ℕ) → d ≤ H → level + content_depth content ≤ 33
    → PutsWordAt T H (slot_role l k level, place) (place + 2) c d before next
    (λ w. slot_content T l k w ≡ Some content)

-- ---- properties of values

pub run_words_less : (T : Table) (k : Kind) (i : Item) → run_words_of i ≤ item_words T k i
run_words_less T k (number n) = omega arith
run_words_less T k (run bytes) = omega arith
run_words_less T k (node t) = omega arith

pub run_words_whole : (T : Table) (k : Kind) (i : Item) → IsNotMessage i → item_words T k i ≡ run_words_of i
run_words_whole T k (number n) none = refl
run_words_whole T k (run bytes) none = refl
run_words_whole T k (node t) none = absurd none

pub no_message_in : (T : Table) (k : Kind) (i : Item) → ((m : ℕ) → k ≢ OfMessage m) → IsItem T k i → IsNotMessage i
no_message_in T k (number n) simple is = tt
no_message_in T k (run bytes) simple is = tt
no_message_in T k (node t) simple is = absurd (simple is.0 is.1)

pub holds_one : (T : Table) (l : Label) (k : Kind) (fv : FieldValue) (v : Value) → fv ≡ One v → IsContentFor T l k (content_of fv) → IsContentFor T l k (one (item_of v))
holds_one T l k fv v is holds = subst (λ (x : FieldValue). IsContentFor T l k (content_of x)) is holds

pub holds_many : (T : Table) (l : Label) (k : Kind) (fv : FieldValue) (vs : Vec Value) → fv ≡ Many vs
    → IsContentFor T l k (content_of fv) → IsContentFor T l k (many (items_of vs.items))
holds_many T l k fv vs is holds = subst (λ (x : FieldValue). IsContentFor T l k (content_of x)) is holds

pub holds_pairs : (T : Table) (l : Label) (k : Kind) (fv : FieldValue) (es : Vec (Value × Value)) → fv ≡ ThePairs es
    → IsContentFor T l k (content_of fv) → IsContentFor T l k (pairs (pairs_of es.items))
holds_pairs T l k fv es is holds = subst (λ (x : FieldValue). IsContentFor T l k (content_of x)) is holds

-- ---- the slot of a field that is present

pub slot_optional_put : (T : Table) (l : Label) (k : Kind) (fv : FieldValue) (v : Value) (place c d : ℕ)
    (before next : Loads) → fv ≡ One v → l ≡ Optional → IsContentFor T l k (content_of fv)
    → OptionalPut (item_of v) place c before d next
    → SlotPut T l k (content_of fv) place c before d next
slot_optional_put T l k fv v place c d before next is label holds puts =
    let h = holds_one T l k fv v is holds in
    subst (λ (x : FieldValue). SlotPut T l k (content_of x) place c before d next) (sym is)
    (subst (λ x. SlotPut T x k (one (item_of v)) place c before d next) (sym label) (λ H level within deep. puts T H k within (h.1 label) h.0.1))

pub slot_one_put : (T : Table) (l : Label) (k : Kind) (fv : FieldValue) (v : Value) (place c d : ℕ)
    (before next : Loads) → fv ≡ One v → l ≢ Optional → is_member l ≡ false → IsContentFor T l k (content_of fv)
    → ItemPut T k (item_of v) place c before d next
    → SlotPut T l k (content_of fv) place c before d next
slot_one_put T l k fv v place c d before next is other own holds puts =
    let h = holds_one T l k fv v is holds in
    subst (λ (x : FieldValue). SlotPut T l k (content_of x) place c before d next) (sym is)
    (λ H level within deep. slot_plain T H l k level place (item_of v) c d before next own other h.0.0 (puts H level false within deep))

pub slot_many_put : (T : Table) (l : Label) (k : Kind) (fv : FieldValue) (vs : Vec Value) (place c mid_free d : ℕ)
    (before mid next : Loads) → fv ≡ Many vs → IsContentFor T l k (content_of fv) → length vs.items < 2 ^ 64
    → place + 2 ≤ c
    → mid_free ≡ c → d ≡ mid_free + many_words T k (items_of vs.items) → mid ≡ before ++ (place, length vs.items) ∷ []
    → ElementsPut T k vs.items (place + 1) mid_free mid d next
    → SlotPut T l k (content_of fv) place c before d next
slot_many_put T l k fv vs place c mid_free d before mid next is holds small slot same size put puts =
    let h = holds_many T l k fv vs is holds in
    let whole : d ≡ c + many_words T k (items_of vs.items) = omega (arith, size, same) in
    let there : ElementsPut T k vs.items (place + 1) c mid d next = subst (λ e. ElementsPut T k vs.items (place + 1) e mid d next) same puts in
    subst (λ (x : FieldValue). SlotPut T l k (content_of x) place c before d next) (sym is)
    (λ H level within deep. slot_many T H l k level place vs.items c d before mid next h.0 h.1 small slot whole within put (there H level within deep))

-- the key of a map
pub key_given : (T : Table) (l : Label) (k key : Kind) (fv : FieldValue) (es : Vec (Value × Value)) → fv ≡ ThePairs es
    → IsContentFor T l k (content_of fv) → ((x : Kind) → l ≡ Map x → key ≡ x)
    → (l ≡ Map key) × ((m : ℕ) → key ≢ OfMessage m) × (pairs_of es.items ≢ no_pairs) × ArePairs T key k (pairs_of es.items) × AreKeysAscending key (pairs_of es.items)
key_given T l k key fv es is holds says =
    let h = holds_pairs T l k fv es is holds in
    subst (λ x. (l ≡ Map x) × ((m : ℕ) → x ≢ OfMessage m) × (pairs_of es.items ≢ no_pairs)
    × ArePairs T x k (pairs_of es.items) × AreKeysAscending x (pairs_of es.items)) (sym (says h.0 h.1)) (
      h.1,
      h.2,
      h.3,
      h.4,
      h.5,
    )

pub slot_pairs_put : (T : Table) (l : Label) (k key : Kind) (fv : FieldValue) (es : Vec (Value × Value))
    (place c mid_free d : ℕ) (before mid next : Loads) → fv ≡ ThePairs es → IsContentFor T l k (content_of fv)
    → ((x : Kind) → l ≡ Map x → key ≡ x) → length es.items < 2 ^ 64
    → place + 2 ≤ c → mid_free ≡ c → d ≡ mid_free + pairs_words T k (pairs_of es.items)
    → mid ≡ before ++ (place, length es.items) ∷ [] → EntriesPut T key k es.items (place + 1) mid_free mid d next
    → SlotPut T l k (content_of fv) place c before d next
slot_pairs_put T l k key fv es place c mid_free d before mid next is holds says small slot same size put puts =
    let h = key_given T l k key fv es is holds says in
    let whole : d ≡ c + pairs_words T k (pairs_of es.items) = omega (arith, size, same) in
    let there : EntriesPut T key k es.items (place + 1) c mid d next = subst (λ e. EntriesPut T key k es.items (place + 1) e mid d next) same puts in
    subst (λ (x : FieldValue). SlotPut T l k (content_of x) place c before d next) (sym is)
    (λ H level within deep. slot_pairs T H l key k level place es.items c d before mid next h.0 h.2 h.4 small slot whole within put (there H level within deep))

-- ---- the slot of a field

pub field_there : (T : Table) (f : Field) (t : Node) (content : Content) (place c d : ℕ) (before next : Loads)
    → content_at t f.number ≡ Some content → SlotPut T f.label f.kind content place c before d next
    → FieldPut T f t place c before d next
field_there T f t content place c d before next found puts = λ H level within deep.
    let low = content_within f.number content t found in
    subst (λ o. PutsWordAt T H (slot_role f.label f.kind level, place) (place + 2) c d before next
    (λ w. slot_content T f.label f.kind w ≡ o)) (sym found) (puts H level within (omega (arith, deep, low)))

pub field_absent : (T : Table) (f : Field) (t : Node) (place c d : ℕ) (before next : Loads)
    → is_member f.label ≡ false → content_at t f.number ≡ None → place + 2 ≤ c → d ≡ c
    → next ≡ before ++ (place, 0) ∷ [] → FieldPut T f t place c before d next
field_absent T f t place c d before next own none slot size put = λ H level within deep.
    let low : c ≤ H = omega (arith, size, within) in
    subst (λ e. PutsWordAt T H (slot_role f.label f.kind level, place) (place + 2) c e before next (λ w. slot_content T f.label f.kind w ≡ content_at t f.number)) (sym size)
    (subst (λ o. PutsWordAt T H (slot_role f.label f.kind level, place) (place + 2) c c before next
    (λ w. slot_content T f.label f.kind w ≡ o)) (sym none)
    (no_slot T H f.label f.kind level place c before next own slot low put))

pub found_there : (T : Table) (k : Kind) (n : ℕ) (t : Node) (content : Content) → content_at t n ≡ Some content → optional_content_words T k (content_at t n) ≡ content_words T k content
found_there T k n t content found = ap (optional_content_words T k) found

pub found_none : (T : Table) (k : Kind) (n : ℕ) (t : Node) → content_at t n ≡ None → optional_content_words T k (content_at t n) ≡ 0
found_none T k n t none = ap (optional_content_words T k) none

-- the content that the tree has for the field
pub field_holds : (T : Table) (fs : List Field) (oneofs : ℕ) (f : Field) (t : Node) (content : Content)
    → HasFields T fs 0 t → field_at fs f.number ≡ Some f → IsField T oneofs f → content_at t f.number ≡ Some content
    → IsContentFor T f.label f.kind content
field_holds T fs oneofs f t content has known is found = content_holds T oneofs fs f.number f content is known (content_has T fs 0 f.number content t has found)
