-- The effects of the parts of a node, by the effects of their calls.
use Rattle.std.proofs.Common.{◌≡◌, ◌≢◌, ℕ, suc, ◌+◌, ◌-◌, ◌*◌, ◌<◌, ◌≤◌, ◌^◌, Bool, true, false, cond, List, [], ◌∷◌}
use Rattle.std.proofs.Common.{◌++◌, length, drop, get_or, Some, sym, ap, subst, ◌∙◌, arith, inl, inr}
use Rattle.std.proofs.lemmas.Bool.{cases_Bool}
use Rattle.mrpc_table.specs.Node.{Node, no_fields, field, Content, one, many, pairs, Item, content_at}
use Rattle.mrpc_table.specs.Normal.{fields_of, field_at, HasFields, HasOneMemberEach, CanHaveMany, IsItem, depth, item_depth, kind_at}
use Rattle.mrpc_table.specs.Valid.{IsValid, IsField}
use Rattle.mrpc_table.specs.declared.table.Kind.{Kind}
use Rattle.mrpc_table.specs.declared.table.Label.{Label}
use Rattle.mrpc_table.specs.declared.table.Label.TheVariants.{Map, Member}
use Rattle.mrpc_table.specs.declared.table.Field.{Field}
use Rattle.mrpc_table.specs.declared.table.Table.{Table}
use Rattle.graph_form.specs.Roles.{Expected, slot_role, case_word, slots_from, cases_from, own_slots, oneof_count, size_words, is_member}
use Rattle.graph_form.specs.Forgotten.{with_field, slots_tree, slot_content, with_member}
use Rattle.graph_place.specs.Content.{is_member_of, member_of}
use Rattle.graph_place.specs.Laid.{keep, is_member_at, members, optional_content_words, IsMemberOf}
use Rattle.graph_place.specs.Size.{fields_words}
use Rattle.graph_place.proofs.Beginning.{Loads}
use Rattle.graph_place.proofs.Fields.{own_here, fields_ascend, content_has, content_within, are_fields, field_is, all_members, member_found}
use Rattle.graph_place.proofs.Items.{NodePut, ItemPut}
use Rattle.graph_place.proofs.Members.{Tells, member_tells, tells_member}
use Rattle.graph_place.proofs.Parts.{next_part}
use Rattle.graph_place.proofs.Slots.{SlotsOn, slots_past, slots_more, next_words, CasesOn, cases_begin, cases_more, next_case_words, no_case, some_case, node_put, kind_is}
use Rattle.graph_place.proofs.Spelled.{PutsAt, PutsWordAt, BegunAt}

-- ---- a node

abbrev pub SlotsPut : Table → ℕ → Node → ℕ → ℕ → Loads → ℕ → Loads → Type 0
SlotsPut T m t at c before d next =
    (H level : ℕ) (others : Expected) → d ≤ H → level + depth t ≤ 33
    → BegunAt T H (slots_from (own_slots (fields_of T m)) level at ++ others) others at (at + 2 * length (own_slots (fields_of T m))) c d before next
    (λ P. slots_tree T (fields_of T m) (own_slots (fields_of T m)) P ≡ t) (λ Q. slots_tree T (fields_of T m) [] Q ≡ members (fields_of T m) t)

abbrev pub CasesPut : Table → ℕ → Node → ℕ → ℕ → Loads → ℕ → Loads → Type 0
CasesPut T m t at c before d next =
    (H level : ℕ) → d ≤ H → level + depth t ≤ 33
    → PutsAt T H (cases_from (oneof_count T m) (fields_of T m) 0 level at) at (at + 3 * oneof_count T m) c d before next (λ P. slots_tree T (fields_of T m) [] P ≡ members (fields_of T m) t)

pub keep_less : (T : Table) (fs : List Field) (p : ℕ → Bool) (t : Node) → fields_words T fs (keep p t) ≤ fields_words T fs t
keep_less T fs p no_fields = omega arith
keep_less T fs p (field n c t) =
    let rest = keep_less T fs p t in
    elim (cases_Bool (p n)) [
      | inl holds ↦ let here = ap (λ b. fields_words T fs (cond b (field n c (keep p t)) (keep p t))) holds in omega (arith, here, rest)
      | inr fails ↦ let here = ap (λ b. fields_words T fs (cond b (field n c (keep p t)) (keep p t))) fails in omega (arith, here, rest)
    ]

pub node_puts : (T : Table) (m : ℕ) (t : Node) (f0 at f1 place f2 f3 : ℕ) (w0 w1 w2 w3 : Loads) → at ≡ f0
    → f1 ≡ f0 + size_words T m → w1 ≡ w0 → place ≡ at + 2 * length (own_slots (fields_of T m))
    → f2 + fields_words T (fields_of T m) (members (fields_of T m) t) ≡ f1 + fields_words T (fields_of T m) t → f3 ≡ f2 + fields_words T (fields_of T m) (members (fields_of T m) t)
    → SlotsPut T m t at f1 w1 f2 w2 → CasesPut T m t place f2 w2 f3 w3 → NodePut T m t f0 w0 f3 w3
node_puts T m t f0 at f1 place f2 f3 w0 w1 w2 w3 first grown words behind middle last slots cases =
    let less = keep_less T (fields_of T m) (is_member_at (fields_of T m)) t in
    let lower : f0 + size_words T m ≤ f2 = subst (λ c. c ≤ f2) grown (omega (arith, middle, less)) in
    let upper : f2 ≤ f3 = omega (arith, last) in
    let there : SlotsPut T m t f0 (f0 + size_words T m) w0 f2 w2
    = subst (λ a. SlotsPut T m t a (f0 + size_words T m) w0 f2 w2) first (subst (λ c. SlotsPut T m t at c w0 f2 w2) grown (subst (λ w. SlotsPut T m t at f1 w f2 w2) words slots)) in
    let then : CasesPut T m t (f0 + 2 * length (own_slots (fields_of T m))) f2 w2 f3 w3
    = subst (λ p. CasesPut T m t p f2 w2 f3 w3) (behind ∙ ap (λ a. a + 2 * length (own_slots (fields_of T m))) first) cases in
    λ H level within deep.
    node_put T H m level t f0 f3 f2 w0 w2 w3 lower upper
    (there H level (cases_from (oneof_count T m) (fields_of T m) 0 level (f0 + 2 * length (own_slots (fields_of T m)))) (omega (arith, upper, within)) deep) (then H level within deep)

-- ---- slots of fields

abbrev pub FieldPut : Table → Field → Node → ℕ → ℕ → Loads → ℕ → Loads → Type 0
FieldPut T f t place c before d next =
    (H level : ℕ) → d ≤ H → level + depth t ≤ 33
    → PutsWordAt T H (slot_role f.label f.kind level, place) (place + 2) c d before next
    (λ w. slot_content T f.label f.kind w ≡ content_at t f.number)

-- the conditions on the slot of the next field
pub record FieldFits (T : Table) (f : Field) (t : Node) (place free : ℕ) : Type 0 where
  pub known : (fs : List Field) × HasFields T fs 0 t × (field_at fs f.number ≡ Some f)
  pub field : (oneofs : ℕ) × IsField T oneofs f
  pub from : 1 ≤ place
  pub slot : is_member f.label ≡ false → place + 2 ≤ free
  pub room : is_member f.label ≡ false → free + optional_content_words T f.kind (content_at t f.number) < 2 ^ 64

pub field_fits : (T : Table) (m : ℕ) (t : Node) (at c : ℕ) (before : Loads) (all : List Field) (i : ℕ) (f : Field)
    (place free : ℕ) (now : Loads) → IsValid T → HasFields T (fields_of T m) 0 t → 1 ≤ at
    → at + 2 * length (own_slots (fields_of T m)) ≤ c
    → c + fields_words T (fields_of T m) t < 2 ^ 64 → i < length all → f ≡ get_or all i f
    → SlotsOn T (fields_of T m) t at c before (drop i all) place free now → FieldFits T f t place free
field_fits T m t at c before all i f place free now valid has from slots room within is on =
    let r : SlotsOn T (fields_of T m) t at c before (f ∷ drop (i + 1) all) place free now =
    subst (λ rest. SlotsOn T (fields_of T m) t at c before rest place free now) (next_part all i f within is) on
    in
    record {
      known = (fields_of T m, has, r.each.0);
      field = (oneof_count T m, field_is T (oneof_count T m) (fields_of T m) f.number f (are_fields T m valid).each r.each.0);
      from = omega (arith, from, r.from);
      slot = λ fails. let count : length (own_slots (f ∷ drop (i + 1) all))
          ≡ suc (length (own_slots (drop (i + 1) all))) = ap length (own_here f (drop (i + 1) all) fails) in
          omega (arith, count, r.place_is, slots, r.past);
      room = λ fails. let sum = next_words T (fields_of T m) t at c before f (drop (i + 1) all) place free now has r fails in omega (arith, sum, room);
    }

pub slots_step : (T : Table) (fs : List Field) (t : Node) (at c : ℕ) (before : Loads) (all : List Field) (i : ℕ)
    (f : Field) (place next free free2 : ℕ) (now now2 : Loads) → HasFields T fs 0 t
    → at + 2 * length (own_slots fs) ≤ c
    → i < length all → f ≡ get_or all i f → SlotsOn T fs t at c before (drop i all) place free now
    → (is_member f.label ≡ true → (next ≡ place) × (free2 ≡ free) × (now2 ≡ now))
    → (is_member f.label ≡ false → next ≡ place + 2)
    → (is_member f.label ≡ false → free2 ≡ free + optional_content_words T f.kind (content_at t f.number))
    → (is_member f.label ≡ false → FieldPut T f t place free now free2 now2)
    → SlotsOn T fs t at c before (drop (i + 1) all) next free2 now2
slots_step T fs t at c before all i f place next free free2 now now2 has slots within is on past moved size puts =
    let rest = drop (i + 1) all in
    let r : SlotsOn T fs t at c before (f ∷ drop (i + 1) all) place free now = subst (λ xs. SlotsOn T fs t at c before xs place free now) (next_part all i f within is) on in
    elim (cases_Bool (is_member f.label)) [
      | inl holds ↦
          let same = past holds in
          subst (λ p. SlotsOn T fs t at c before (drop (i + 1) all) p free2 now2) (sym same.0)
          (subst (λ e. SlotsOn T fs t at c before (drop (i + 1) all) place e now2) (sym same.1)
          (subst (λ w. SlotsOn T fs t at c before (drop (i + 1) all) place free w) (sym same.2) (slots_past T fs t at c before f (drop (i + 1) all) place free now r holds)))
      | inr fails ↦
          subst (λ p. SlotsOn T fs t at c before (drop (i + 1) all) p free2 now2) (sym (moved fails))
          (slots_more T fs t at c before f (drop (i + 1) all) place free free2 now now2 has slots r fails (size fails) (puts fails))
    ]

-- ---- slots of oneofs

abbrev pub CasePut : Table → List Field → Node → ℕ → ℕ → ℕ → Loads → ℕ → Loads → Type 0
CasePut T fs t member place c before d next =
    (H level oneof : ℕ) → d ≤ H → level + depth t ≤ 33 → IsMemberOf fs oneof t member
    → PutsWordAt T H (case_word fs oneof level, place) (place + 3) c d before next (λ w. (u : Node) → with_member T fs w u ≡ with_field member (content_at t member) u)

pub cases_first : (T : Table) (m : ℕ) (t : Node) (at c : ℕ) (before : Loads) → IsValid T
    → HasFields T (fields_of T m) 0 t
    → CasesOn T (fields_of T m) t (oneof_count T m) at c before 0 (oneof_count T m - 0) at c before
cases_first T m t at c before valid has =
    let all : oneof_count T m ≡ oneof_count T m - 0 = omega arith in
    subst (λ n. CasesOn T (fields_of T m) t (oneof_count T m) at c before 0 n at c before) all
    (cases_begin T (fields_of T m) t (oneof_count T m) at c before (all_members T (oneof_count T m) (fields_of T m) t (are_fields T m valid).each has))

pub record CaseFits (T : Table) (fs : List Field) (t : Node) (member place free : ℕ) : Type 0 where
  pub known : (oneof : ℕ) × IsMemberOf fs oneof t member
  pub from : 1 ≤ place
  pub slot : place + 3 ≤ free
  pub room : free + optional_content_words T (kind_at fs member) (content_at t member) < 2 ^ 64

tells : (T : Table) (fs : List Field) (o : ℕ) (t : Node) (member : ℕ) → HasFields T fs 0 t → HasOneMemberEach fs t → member ≡ member_of fs o 0 t → Tells fs o t member
tells T fs o t member has few is = subst (Tells fs o t) (sym is) (member_tells fs o t (fields_ascend T fs 0 t has) (few o))

pub case_fits : (T : Table) (fs : List Field) (t : Node) (all at c : ℕ) (before : Loads) (o place free member : ℕ)
    (now : Loads) → HasFields T fs 0 t → HasOneMemberEach fs t → 1 ≤ at → at + 3 * all ≤ c
    → c + fields_words T fs (members fs t) < 2 ^ 64 → o < all → member ≡ member_of fs o 0 t
    → CasesOn T fs t all at c before o (all - o) place free now → CaseFits T fs t member place free
case_fits T fs t all at c before o place free member now has few from slots room more is on =
    let next : all - o ≡ suc (all - (o + 1)) = omega (arith, more) in
    let r : CasesOn T fs t all at c before o (suc (all - (o + 1))) place free now = subst (λ n. CasesOn T fs t all at c before o n place free now) next on in
    let up = fields_ascend T fs 0 t has in
    let told = tells T fs o t member has few is in
    let sum = next_case_words T fs t all at c before o (all - (o + 1)) place free member now up told r in
    record {
      known = (o, tells_member fs o t member up told);
      from = omega (arith, from, r.from);
      slot = omega (arith, r.place_is, slots, r.past);
      room = omega (arith, sum, room);
    }

pub cases_step : (T : Table) (fs : List Field) (t : Node) (all at c : ℕ) (before : Loads)
    (o place next free free2 member : ℕ) (now now2 : Loads) → HasFields T fs 0 t → HasOneMemberEach fs t
    → at + 3 * all ≤ c → o < all
    → member ≡ member_of fs o 0 t → next ≡ place + 3 → CasesOn T fs t all at c before o (all - o) place free now
    → free2 ≡ free + optional_content_words T (kind_at fs member) (content_at t member)
    → CasePut T fs t member place free now free2 now2
    → CasesOn T fs t all at c before (o + 1) (all - (o + 1)) next free2 now2
cases_step T fs t all at c before o place next free free2 member now now2 has few slots more is step on size puts =
    let left : all - o ≡ suc (all - (o + 1)) = omega (arith, more) in
    let r : CasesOn T fs t all at c before o (suc (all - (o + 1))) place free now = subst (λ n. CasesOn T fs t all at c before o n place free now) left on in
    let up = fields_ascend T fs 0 t has in
    let told = tells T fs o t member has few is in
    let known = tells_member fs o t member up told in
    subst (λ p. CasesOn T fs t all at c before (o + 1) (all - (o + 1)) p free2 now2) (sym step)
    (cases_more T fs t all at c before o (all - (o + 1)) place free free2 member now now2 up told slots r size (λ H level within deep. puts H level o within deep known))

-- ---- the slot of a oneof

-- no member
pub case_none : (T : Table) (fs : List Field) (t : Node) (member place c d : ℕ) (before next : Loads) → member ≡ 0
    → place + 3 ≤ c → d ≡ c → next ≡ before ++ (place, member) ∷ [] → CasePut T fs t member place c before d next
case_none T fs t member place c d before next none slot size put = λ H level oneof within deep known.
    subst (λ e. PutsWordAt T H (case_word fs oneof level, place) (place + 3) c e before next (λ w. (u : Node)
    → with_member T fs w u ≡ with_field member (content_at t member) u)) (sym size)
    (no_case T H fs oneof level place c member t before next none (known.none none) slot put)

-- a member
pub case_some : (T : Table) (fs : List Field) (t : Node) (member place c mid_free d : ℕ) (i : Item)
    (before mid next : Loads) → member ≢ 0 → member < 2 ^ 64 → content_at t member ≡ Some (one i) → place + 3 ≤ c
    → mid_free ≡ c → c ≤ d
    → mid ≡ before ++ (place, member) ∷ [] → ItemPut T (kind_at fs member) i (place + 1) mid_free mid d next → CasePut T fs t member place c before d next
case_some T fs t member place c mid_free d i before mid next some small found slot same grown put puts = λ H level oneof within deep known.
    let there : ItemPut T (kind_at fs member) i (place + 1) c mid d next = subst (λ e. ItemPut T (kind_at fs member) i (place + 1) e mid d next) same puts in
    let low : item_depth i ≤ depth t = content_within member (one i) t found in
    some_case T H fs oneof level place c d member t i before mid next some small found (known.there some).2 slot grown put (there H level true within (omega (arith, deep, low)))

abbrev IsMap : Label → Type 0
IsMap (Map key) = Unit {0}
IsMap _ = ⊥

no_map : (key : Kind) (o : ℕ) → Map key ≡ Member o → ⊥
no_map key o same = subst IsMap same tt

-- the content of a member is one value
pub member_item : (T : Table) (fs : List Field) (t : Node) (o n : ℕ) (c : Content) → HasFields T fs 0 t
    → is_member_of fs o n ≡ true → content_at t n ≡ Some c → (i : Item) × (content_at t n ≡ Some (one i))
member_item T fs t o n (one i) has member at = (i, at)
member_item T fs t o n (many is) has member at =
    let h = content_has T fs 0 n (many is) t has at in
    let m = member_found fs o n member in
    let same : h.0 ≡ m.0 = (let e : Some h.0 ≡ Some m.0 = sym h.1 ∙ m.1 in cc) in
    absurd (subst CanHaveMany (ap (λ (f : Field). f.label) same ∙ m.2) h.2)
member_item T fs t o n (pairs ps) has member at =
    let h = content_has T fs 0 n (pairs ps) t has at in
    let m = member_found fs o n member in
    let same : h.0 ≡ m.0 = (let e : Some h.0 ≡ Some m.0 = sym h.2 ∙ m.1 in cc) in
    absurd (no_map h.1 o (sym h.3 ∙ ap (λ (f : Field). f.label) same ∙ m.2))

-- a member has a value
pub some_member : (T : Table) (fs : List Field) (t : Node) (o n : ℕ) → HasFields T fs 0 t → IsMemberOf fs o t n → n ≢ 0 → ((i : Item) → content_at t n ≢ Some (one i)) → ⊥
some_member T fs t o n has known some none =
    let there = known.there some in
    let found = member_item T fs t o n there.0 has there.2 there.1 in
    none found.0 found.1

-- the value of a field is of its kind
pub one_item : (T : Table) (fs : List Field) (t : Node) (n : ℕ) (i : Item) → HasFields T fs 0 t → content_at t n ≡ Some (one i) → IsItem T (kind_at fs n) i
one_item T fs t n i has at =
    let h = content_has T fs 0 n (one i) t has at in
    subst (λ k. IsItem T k i) (sym (kind_is fs n h.0 h.1)) h.3
