-- Elements, entries and slots, one after another.
use Rattle.std.proofs.Common.{◌≡◌, ◌≢◌, ℕ, suc, ◌+◌, ◌*◌, List, [], ◌∷◌, ◌++◌, length, map, true, cond, Option, Some}
use Rattle.std.proofs.Common.{None, refl, sym, ap, subst, ◌∙◌, append-nil, inl, inr}
use Rattle.std.specs.Prelude.{option_map, unwrap_or}
use Rattle.std.proofs.lemmas.Bool.{ne_eqb}
use Rattle.std.proofs.lemmas.Bool.Decides.{eqb_tells}
use Rattle.mrpc_table.specs.SortedEntries.{items_of_entry}
use Rattle.mrpc_table.specs.Node.{Node, no_fields, one, Item, Items, no_items, item}
use Rattle.mrpc_table.specs.Normal.{fields_of, field_at, kind_at}
use Rattle.mrpc_table.specs.View.{item_of, items_of, content_of}
use Rattle.mrpc_table.specs.declared.table.Kind.{Kind}
use Rattle.mrpc_table.specs.declared.table.Kind.TheVariants.{Uint64}
use Rattle.mrpc_table.specs.declared.table.Field.{Field}
use Rattle.mrpc_table.specs.declared.table.Table.{Table}
use Rattle.mrpc_table.specs.declared.tree.FieldValue.{FieldValue}
use Rattle.mrpc_table.specs.declared.tree.Value.{Value}
use Rattle.graph_form.specs.declared.reason.Reason.TheVariants.{Case}
use Rattle.graph_form.specs.Roles.{elements_address, entries_address, case_word, Expected, expected_after, plain_role}
use Rattle.graph_form.specs.Roles.{slot_role, slots_from, cases_from, elements_from, entries_from, node_words}
use Rattle.graph_form.specs.Roles.{own_slots, oneof_count, element_words}
use Rattle.graph_form.specs.Placed.{Placed, first, Word, word, loads, IsValidWord, AreSound}
use Rattle.graph_form.specs.Forgotten.{insert_field, with_field, slots_tree, slot_content, with_member, plain_item, elements_at, elements_in, entries_at, entries_in, tree_of}
use Rattle.graph_copy.specs.Makes.{insert_all, IsMadeFrom, IsMadeFromWord, IsMadeFromSlots}
use Rattle.graph_copy.proofs.Running.{Gives}
use Rattle.graph_copy.proofs.Taking.{sound_none, first_of, one_of}

-- ---- elements

abbrev pub items_onto : List Value → Items → Items
items_onto [] is = is
items_onto (v ∷ vs) is = item (item_of v) (items_onto vs is)

onto_last : (vs : List Value) (v : Value) (is : Items) → items_onto (vs ++ v ∷ []) is ≡ items_onto vs (item (item_of v) is)
onto_last [] v is = refl
onto_last (w ∷ vs) v is = ap (item (item_of w)) (onto_last vs v is)

onto_none : (vs : List Value) → items_onto vs no_items ≡ items_of vs
onto_none [] = refl
onto_none (v ∷ vs) = ap (item (item_of v)) (onto_none vs)

-- `left` elements remain, and those before are made
pub record ElementsLeft (T : Table) (H : ℕ) (k : Kind) (depth left : ℕ) (all : Placed) (rest now : List (ℕ × ℕ)) (made : List Value) : Type 0 where
  pub others : Placed
  pub place : ℕ
  pub sound : AreSound T H (elements_from left k depth place) others
  pub now_is : now ≡ loads others ++ rest
  pub made_is : elements_in T k all ≡ items_onto made (elements_in T k others)

abbrev pub ElementsOn : Table → Kind → ℕ → ℕ → List (ℕ × ℕ) → ℕ → List (ℕ × ℕ) → List Value → Type 0
ElementsOn T k room count start left now made =
    (H place depth : ℕ) (all : Placed) (rest : List (ℕ × ℕ)) → depth + room ≡ 32 → AreSound T H (elements_from count k depth place) all → start ≡ loads all ++ rest
    → ElementsLeft T H k depth left all rest now made

pub elements_begin : (T : Table) (k : Kind) (room count : ℕ) (start : List (ℕ × ℕ)) → ElementsOn T k room count start count start []
elements_begin T k room count start = λ H place depth all rest deep sound is. record { others = all; place = place; sound = sound; now_is = is; made_is = refl }

pub elements_more : (T : Table) (k : Kind) (room count left less : ℕ) (start now next : List (ℕ × ℕ))
    (made : List Value) (v : Value) → left ≡ suc less → ElementsOn T k room count start left now made
    → ((place depth : ℕ) → depth + room ≡ 32 → IsMadeFromWord T (plain_role k depth true, place) now next (λ w. item_of v ≡ plain_item T k w))
    → ElementsOn T k room count start less next (made ++ v ∷ [])
elements_more T k room count left less start now next made v some on takes = λ H place depth all rest deep sound is.
    let r = on H place depth all rest deep sound is in
    let words = subst (λ n. AreSound T H (elements_from n k depth r.place) r.others) some r.sound in
    let f = first_of T H (plain_role k depth true, r.place) (elements_from less k depth (r.place + element_words k)) r.others rest now words r.now_is in
    let t = takes r.place depth deep H f.number f.content (loads f.others ++ rest) f.small f.fine f.sound f.now_is in
    record {
      others = f.others;
      place = r.place + element_words k;
      sound = f.rest_sound;
      now_is = t.1;
      made_is = r.made_is ∙ ap (λ P. items_onto made (elements_in T k P)) f.is
          ∙ ap (λ i. items_onto made (item i (elements_in T k f.others))) (sym t.0)
          ∙ sym (onto_last made v (elements_in T k f.others));
    }

pub elements_end : (T : Table) (k : Kind) (room count a : ℕ) (before start next : List (ℕ × ℕ)) (made : List Value)
    → Gives before a start → ElementsOn T k room count start 0 next made
    → (place depth : ℕ) → depth + room ≡ 32 → IsMadeFrom T ((elements_address k count depth, place) ∷ []) before next (λ P. items_of made ≡ elements_at T k P)
elements_end T k room count a before start next made address on = λ place depth deep H P rest sound is.
    let w = one_of T H (elements_address k count depth, place) P rest before sound is in
    let g = address (place, w.number) (loads w.content ++ rest) w.now_is in
    let r = on H w.number depth w.content rest deep w.sound g.1 in
    let none = sound_none T H r.others r.sound in
    (sym (ap (elements_at T k) w.is ∙ r.made_is ∙ ap (λ Q. items_onto made (elements_in T k Q)) none ∙ onto_none made), r.now_is ∙ ap (λ Q. loads Q ++ rest) none)

-- ---- entries

pub record EntriesLeft (T : Table) (H : ℕ) (key k : Kind) (depth left : ℕ) (all : Placed) (rest now : List (ℕ × ℕ)) (made : List (Value × Value)) : Type 0 where
  pub others : Placed
  pub place : ℕ
  pub sound : AreSound T H (entries_from left key k depth place) others
  pub now_is : now ≡ loads others ++ rest
  pub made_is : entries_in T key k all ≡ map items_of_entry made ++ entries_in T key k others

abbrev pub EntriesOn : Table → Kind → Kind → ℕ → ℕ → List (ℕ × ℕ) → ℕ → List (ℕ × ℕ) → List (Value × Value) → Type 0
EntriesOn T key k room count start left now made =
    (H place depth : ℕ) (all : Placed) (rest : List (ℕ × ℕ)) → depth + room ≡ 32 → AreSound T H (entries_from count key k depth place) all → start ≡ loads all ++ rest
    → EntriesLeft T H key k depth left all rest now made

pub entries_begin : (T : Table) (key k : Kind) (room count : ℕ) (start : List (ℕ × ℕ)) → EntriesOn T key k room count start count start []
entries_begin T key k room count start = λ H place depth all rest deep sound is. record { others = all; place = place; sound = sound; now_is = is; made_is = refl }

mapped_last : (made : List (Value × Value)) (e : Value × Value) (es : List (Item × Item))
    → map items_of_entry (made ++ e ∷ []) ++ es ≡ map items_of_entry made ++ (items_of_entry e ∷ es)
mapped_last [] e es = refl
mapped_last (x ∷ made) e es = ap (λ zs. items_of_entry x ∷ zs) (mapped_last made e es)

pub entries_more : (T : Table) (key k : Kind) (room count left less : ℕ) (start now mid next : List (ℕ × ℕ))
    (made : List (Value × Value)) (x y : Value) → left ≡ suc less → EntriesOn T key k room count start left now made
    → ((place depth : ℕ) → depth + room ≡ 32 → IsMadeFromWord T (plain_role key depth true, place) now mid (λ w. item_of x ≡ plain_item T key w))
    → ((place depth : ℕ) → depth + room ≡ 32 → IsMadeFromWord T (plain_role k depth true, place) mid next (λ w. item_of y ≡ plain_item T k w))
    → EntriesOn T key k room count start less next (made ++ (x, y) ∷ [])
entries_more T key k room count left less start now mid next made x y some on takes_key takes_value = λ H place depth all rest deep sound is.
    let r = on H place depth all rest deep sound is in
    let words = subst (λ n. AreSound T H (entries_from n key k depth r.place) r.others) some r.sound in
    let f = first_of T H (plain_role key depth true, r.place) ((plain_role k depth true, r.place + 2) ∷ entries_from less key k depth (r.place + 4)) r.others rest now words r.now_is in
    let t = takes_key r.place depth deep H f.number f.content (loads f.others ++ rest) f.small f.fine f.sound f.now_is in
    let g = first_of T H (plain_role k depth true, r.place + 2) (entries_from less key k depth (r.place + 4)) f.others rest mid f.rest_sound t.1 in
    let u = takes_value (r.place + 2) depth deep H g.number g.content (loads g.others ++ rest) g.small g.fine g.sound g.now_is in
    record {
      others = g.others;
      place = r.place + 4;
      sound = g.rest_sound;
      now_is = u.1;
      made_is = r.made_is
          ∙ ap (λ P. map items_of_entry made ++ entries_in T key k P) (f.is ∙ ap (first (word r.place f.number f.content)) g.is)
          ∙ ap (λ i. map items_of_entry made ++ ((i, plain_item T k (word (r.place + 2) g.number g.content)) ∷ entries_in T key k g.others)) (sym t.0)
          ∙ ap (λ i. map items_of_entry made ++ ((item_of x, i) ∷ entries_in T key k g.others)) (sym u.0)
          ∙ sym (mapped_last made (x, y) (entries_in T key k g.others));
    }

pub entries_end : (T : Table) (key k : Kind) (room count a : ℕ) (before start next : List (ℕ × ℕ))
    (made : List (Value × Value)) → Gives before a start → EntriesOn T key k room count start 0 next made
    → (place depth : ℕ) → depth + room ≡ 32 → IsMadeFrom T ((entries_address key k count depth, place) ∷ []) before next (λ P. map items_of_entry made ≡ entries_at T key k P)
entries_end T key k room count a before start next made address on = λ place depth deep H P rest sound is.
    let w = one_of T H (entries_address key k count depth, place) P rest before sound is in
    let g = address (place, w.number) (loads w.content ++ rest) w.now_is in
    let r = on H w.number depth w.content rest deep w.sound g.1 in
    let none = sound_none T H r.others r.sound in (
      sym (ap (entries_at T key k) w.is ∙ r.made_is ∙ ap (λ Q. map items_of_entry made ++ entries_in T key k Q) none
          ∙ append-nil (map items_of_entry made)),
      r.now_is ∙ ap (λ Q. loads Q ++ rest) none,
    )

-- ---- slots of fields

pub record SlotsLeft (T : Table) (H : ℕ) (fs slots left : List Field) (depth : ℕ) (others : Expected) (all : Placed)
    (rest now : List (ℕ × ℕ)) (found more : List (ℕ × FieldValue)) : Type 0 where
  pub words : Placed
  pub place : ℕ
  pub sound : AreSound T H (slots_from left depth place ++ others) words
  pub now_is : now ≡ loads words ++ rest
  pub made_is : insert_all found (slots_tree T fs slots all) ≡ insert_all more (slots_tree T fs left words)

abbrev pub SlotsOn : Table → List Field → List Field → ℕ → List (ℕ × ℕ) → List Field → List (ℕ × ℕ)
    → List (ℕ × FieldValue) → List (ℕ × FieldValue) → Type 0
SlotsOn T fs slots room start left now found more =
    (H place depth : ℕ) (others : Expected) (all : Placed) (rest : List (ℕ × ℕ)) → depth + room ≡ 32
    → AreSound T H (slots_from slots depth place ++ others) all → start ≡ loads all ++ rest
    → SlotsLeft T H fs slots left depth others all rest now found more

pub slots_begin : (T : Table) (fs slots : List Field) (room : ℕ) (start : List (ℕ × ℕ)) (found : List (ℕ × FieldValue)) → SlotsOn T fs slots room start slots start found found
slots_begin T fs slots room start found = λ H place depth others all rest deep sound is. record { words = all; place = place; sound = sound; now_is = is; made_is = refl }

pub slots_more : (T : Table) (fs slots left less : List Field) (room : ℕ) (start now next : List (ℕ × ℕ))
    (found more most : List (ℕ × FieldValue)) (f : Field) (c : Option FieldValue) → left ≡ f ∷ less
    → SlotsOn T fs slots room start left now found more
    → ((place depth : ℕ) → depth + room ≡ 32 → IsMadeFromWord T (slot_role f.label f.kind depth, place) now next (λ w. option_map content_of c ≡ slot_content T f.label f.kind w))
    → ((t : Node) → insert_all most t ≡ insert_all more (with_field f.number (option_map content_of c) t))
    → SlotsOn T fs slots room start less next found most
slots_more T fs slots left less room start now next found more most f c some on takes kept = λ H place depth others all rest deep sound is.
    let r = on H place depth others all rest deep sound is in
    let words = subst (λ ls. AreSound T H (slots_from ls depth r.place ++ others) r.words) some r.sound in
    let w = first_of T H (slot_role f.label f.kind depth, r.place) (slots_from less depth (r.place + 2) ++ others) r.words rest now words r.now_is in
    let t = takes r.place depth deep H w.number w.content (loads w.others ++ rest) w.small w.fine w.sound w.now_is in
    record {
      words = w.others;
      place = r.place + 2;
      sound = w.rest_sound;
      now_is = t.1;
      made_is = r.made_is
          ∙ ap (λ ls. insert_all more (slots_tree T fs ls r.words)) some
          ∙ ap (λ P. insert_all more (slots_tree T fs (f ∷ less) P)) w.is
          ∙ ap (λ o. insert_all more (with_field f.number o (slots_tree T fs less w.others))) (sym t.0)
          ∙ sym (kept (slots_tree T fs less w.others));
    }

pub slots_end : (T : Table) (fs slots : List Field) (room : ℕ) (start next : List (ℕ × ℕ)) (found more : List (ℕ × FieldValue)) → SlotsOn T fs slots room start [] next found more
    → (place depth : ℕ) → depth + room ≡ 32 → IsMadeFromSlots T fs slots depth place start next found more
slots_end T fs slots room start next found more on = λ place depth deep H others P rest sound is.
    let r = on H place depth others P rest deep sound is in
    record { left = r.words; sound = r.sound; after_is = r.now_is; made = r.made_is }

-- ---- slots of oneofs

pub record CasesLeft (T : Table) (H : ℕ) (fs : List Field) (depth left : ℕ) (all : Placed) (rest now : List (ℕ × ℕ)) (found more : List (ℕ × FieldValue)) : Type 0 where
  pub words : Placed
  pub place : ℕ
  pub oneof : ℕ
  pub sound : AreSound T H (cases_from left fs oneof depth place) words
  pub now_is : now ≡ loads words ++ rest
  pub made_is : insert_all found (slots_tree T fs [] all) ≡ insert_all more (slots_tree T fs [] words)

abbrev pub CasesOn : Table → List Field → ℕ → ℕ → List (ℕ × ℕ) → ℕ → List (ℕ × ℕ) → List (ℕ × FieldValue) → List (ℕ × FieldValue) → Type 0
CasesOn T fs room count start left now found more =
    (H place depth : ℕ) (all : Placed) (rest : List (ℕ × ℕ)) → depth + room ≡ 32 → AreSound T H (cases_from count fs 0 depth place) all → start ≡ loads all ++ rest
    → CasesLeft T H fs depth left all rest now found more

pub cases_begin : (T : Table) (fs : List Field) (room count : ℕ) (start : List (ℕ × ℕ)) (found : List (ℕ × FieldValue)) → CasesOn T fs room count start count start found found
cases_begin T fs room count start found = λ H place depth all rest deep sound is. record { words = all; place = place; oneof = 0; sound = sound; now_is = is; made_is = refl }

pub cases_more : (T : Table) (fs : List Field) (room count left less : ℕ) (start now next : List (ℕ × ℕ))
    (found more most : List (ℕ × FieldValue)) → left ≡ suc less → CasesOn T fs room count start left now found more
    → ((place depth oneof : ℕ) → depth + room ≡ 32
    → IsMadeFromWord T (case_word fs oneof depth, place) now next (λ w. (t : Node)
    → insert_all more (with_member T fs w t) ≡ insert_all most t))
    → CasesOn T fs room count start less next found most
cases_more T fs room count left less start now next found more most some on takes = λ H place depth all rest deep sound is.
    let r = on H place depth all rest deep sound is in
    let words = subst (λ n. AreSound T H (cases_from n fs r.oneof depth r.place) r.words) some r.sound in
    let w = first_of T H (case_word fs r.oneof depth, r.place) (cases_from less fs (r.oneof + 1) depth (r.place + 3)) r.words rest now words r.now_is in
    let t = takes r.place depth r.oneof deep H w.number w.content (loads w.others ++ rest) w.small w.fine w.sound w.now_is in
    record {
      words = w.others;
      place = r.place + 3;
      oneof = r.oneof + 1;
      sound = w.rest_sound;
      now_is = t.1;
      made_is = r.made_is ∙ ap (λ P. insert_all more (slots_tree T fs [] P)) w.is ∙ t.0 (slots_tree T fs [] w.others);
    }

pub cases_end : (T : Table) (fs : List Field) (room count : ℕ) (start next : List (ℕ × ℕ)) (found more : List (ℕ × FieldValue)) → CasesOn T fs room count start 0 next found more
    → (place depth : ℕ) → depth + room ≡ 32 → IsMadeFrom T (cases_from count fs 0 depth place) start next (λ P. insert_all found (slots_tree T fs [] P) ≡ insert_all more no_fields)
cases_end T fs room count start next found more on = λ place depth deep H P rest sound is.
    let r = on H place depth P rest deep sound is in
    let none = sound_none T H r.words r.sound in
    (r.made_is ∙ ap (λ Q. insert_all more (slots_tree T fs [] Q)) none, r.now_is ∙ ap (λ Q. loads Q ++ rest) none)

pub unknown_member : (T : Table) (fs : List Field) (v : ℕ) (before mid : List (ℕ × ℕ)) (Made : Word → Type 0) → Gives before v mid → v ≢ 0 → field_at fs v ≡ None
    → (place depth oneof : ℕ) → IsMadeFromWord T (case_word fs oneof depth, place) before mid Made
unknown_member T fs v before mid Made gives some none place depth oneof = λ H n content rest small fine sound is.
    let g = gives (place, n) (loads content ++ rest) is in
    absurd (subst (IsValidWord T H (case_word fs oneof depth)) (sym g.0) fine Case (some, λ (f : Field) (at : field_at fs v ≡ Some f) label. cc (none, at)))

number_at_field : (fs : List Field) (n : ℕ) (f : Field) → field_at fs n ≡ Some f → f.number ≡ n
number_at_field [] n f at = absurd (cc)
number_at_field (g ∷ fs) n f at =
    elim (eqb_tells g.number n) [
      | inl same ↦ let e : Some g ≡ Some f = sym (ap (λ b. cond b (Some g) (field_at fs n)) same.0) ∙ at in let h : g ≡ f = cc in sym (ap (λ x. x.number) h) ∙ same.1
      | inr other ↦ number_at_field fs n f (sym (ap (λ b. cond b (Some g) (field_at fs n)) other.0) ∙ at)
    ]

pub member_found : (T : Table) (fs : List Field) (room v : ℕ) (before mid next : List (ℕ × ℕ))
    (found most : List (ℕ × FieldValue)) (f : Field) (i : Value) → Gives before v mid → v ≢ 0 → field_at fs v ≡ Some f
    → ((place depth : ℕ) → depth + room ≡ 32 → IsMadeFromWord T (plain_role f.kind depth true, place) mid next (λ w. item_of i ≡ plain_item T f.kind w))
    → ((t : Node) → insert_all most t ≡ insert_all found (insert_field f.number (one (item_of i)) t))
    → (place depth oneof : ℕ) → depth + room ≡ 32
    → IsMadeFromWord T (case_word fs oneof depth, place) before next (λ w. (t : Node)
    → insert_all found (with_member T fs w t) ≡ insert_all most t)
member_found T fs room v before mid next found most f i gives some at takes put place depth oneof deep = λ H n content rest small fine sound is.
    let g = gives (place, n) (loads content ++ rest) is in
    let kind : kind_at fs v ≡ f.kind = ap (λ o. unwrap_or (option_map (λ x. x.kind) o) Uint64) at in
    let known : AreSound T H (expected_after T (case_word fs oneof depth) place v) content = subst (λ n. AreSound T H (expected_after T (case_word fs oneof depth) place n) content) (sym g.0) sound in
    let inner = subst (λ b. AreSound T H (cond b [] ((plain_role (kind_at fs v) depth true, place + 1) ∷ [])) content) (ne_eqb v 0 some) known in
    let plain = subst (λ k. AreSound T H ((plain_role k depth true, place + 1) ∷ []) content) kind inner in
    let w = one_of T H (plain_role f.kind depth true, place + 1) content rest mid plain g.1 in
    let t = takes (place + 1) depth deep H w.number w.content rest w.small w.fine w.sound w.now_is in (
      λ u. ap (λ P. insert_all found (with_member T fs (word place n P) u)) w.is
          ∙ ap (λ m. insert_all found (insert_field m (one (plain_item T (kind_at fs m) (word (place + 1) w.number w.content))) u)) (sym g.0)
          ∙ ap (λ k. insert_all found (insert_field v (one (plain_item T k (word (place + 1) w.number w.content))) u)) kind
          ∙ ap (λ m. insert_all found (insert_field m (one (plain_item T f.kind (word (place + 1) w.number w.content))) u)) (sym (number_at_field fs v f at))
          ∙ ap (λ j. insert_all found (insert_field f.number (one j) u)) (sym t.0)
          ∙ sym (put u),
      t.1,
    )

-- ---- a node

pub node_done : (T : Table) (m place depth : ℕ) (before mid next : List (ℕ × ℕ)) (more most : List (ℕ × FieldValue)) (t : Node)
    → IsMadeFromSlots T (fields_of T m) (own_slots (fields_of T m)) depth place before mid [] more
    → IsMadeFrom T (cases_from (oneof_count T m) (fields_of T m) 0 depth (place + 2 * length (own_slots (fields_of T m))))
    mid next (λ P. insert_all more (slots_tree T (fields_of T m) [] P) ≡ insert_all most no_fields)
    → t ≡ insert_all most no_fields
    → IsMadeFrom T (node_words T m depth place) before next (λ P. t ≡ tree_of T m P)
node_done T m place depth before mid next more most t slots cases is = λ H P rest sound at.
    let s = slots H (cases_from (oneof_count T m) (fields_of T m) 0 depth (place + 2 * length (own_slots (fields_of T m)))) P rest sound at in
    let d = cases H s.left rest s.sound s.after_is in
    (is ∙ sym (s.made ∙ d.0), d.1)
