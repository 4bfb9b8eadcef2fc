-- The slots of fields and of oneofs, one after another.
use Rattle.std.proofs.Common.{◌≡◌, ◌≢◌, ℕ, suc, ◌+◌, ◌*◌, ◌<◌, ◌≤◌, ◌^◌, Bool, true, false, cond, ◌||◌, ◌==◌, List}
use Rattle.std.proofs.Common.{[], ◌∷◌, ◌++◌, length, Some, None, refl, sym, ap, subst, ◌∙◌, arith, inl, inr}
use Rattle.std.specs.Prelude.{option_map, unwrap_or}
use Rattle.std.specs.List.{AllByRecursion}
use Rattle.std.proofs.lemmas.Bool.{eq-eqb, ne_eqb, or_from, cases_Bool}
use Rattle.mrpc_table.specs.Node.{Node, no_fields, one, Item, content_at, AreNumbersAscending}
use Rattle.mrpc_table.specs.Normal.{fields_of, field_at, HasFields, depth, kind_at}
use Rattle.mrpc_table.specs.declared.table.Kind.TheVariants.{Uint64}
use Rattle.mrpc_table.specs.declared.table.Field.{Field}
use Rattle.mrpc_table.specs.declared.table.Table.{Table}
use Rattle.graph_form.specs.Roles.{Expected, expected_after, plain_role, slot_role, case_word, slots_from, cases_from, node_words, own_slots, oneof_count, size_words, is_member, element_words}
use Rattle.graph_form.specs.Placed.{word}
use Rattle.graph_form.specs.Forgotten.{with_field, slots_tree, slot_content, with_member, tree_of}
use Rattle.graph_place.specs.Content.{is_member_of}
use Rattle.graph_place.specs.Laid.{IsSlotOf, keep, is_member_at, members, optional_content_words}
use Rattle.graph_place.specs.Size.{fields_words}
use Rattle.graph_place.proofs.Beginning.{Loads, begun_none, begun_more, begun_end, begun_join, word_put, one_put, word_wide, content_put}
use Rattle.graph_place.proofs.Fields.{is_left, has_number, left_step, own_here, own_past, all_left, members_left, member_at, fields_ascend, in_oneofs, member_found, not_behind, InNumbers}
use Rattle.graph_place.proofs.Fine.{fine_case}
use Rattle.graph_place.proofs.Keeping.{each_weaker, each_always, keep_same, keep_step, with_words, absent, keep_none}
use Rattle.graph_place.proofs.Laying.{lone_word}
use Rattle.graph_place.proofs.Members.{Tells, tells_none, tells_one}
use Rattle.graph_place.proofs.Spelled.{PutsAt, PutsWordAt, BegunAt}
use Rattle.graph_place.proofs.Widths.{narrow}

-- ---- fields by their numbers

above_lower : (g h : Field) (fs : List Field) → g.number < h.number → AllByRecursion (λ (x : Field). h.number < x.number) fs → AllByRecursion (λ (x : Field). g.number < x.number) fs
above_lower g h [] lt all = tt
above_lower g h (x ∷ fs) lt all = (omega (arith, lt, all.0), above_lower g h fs lt all.1)

above : (g : Field) (fs : List Field) → InNumbers (g ∷ fs) → AllByRecursion (λ (h : Field). g.number < h.number) fs
above g [] up = tt
above g (h ∷ fs) up = (up.0, above_lower g h fs up.0 (above h fs up.1))

up_tail : (g : Field) (fs : List Field) → InNumbers (g ∷ fs) → InNumbers fs
up_tail g [] up = tt
up_tail g (h ∷ fs) up = up.1

-- each field is found by its number
abbrev pub AreFound : List Field → List Field → Type 0
AreFound fs gs = AllByRecursion (λ (g : Field). field_at fs g.number ≡ Some g) gs

found_behind : (g : Field) (fs gs : List Field) → AllByRecursion (λ (h : Field). g.number < h.number) gs → AreFound fs gs → AreFound (g ∷ fs) gs
found_behind g fs [] low all = tt
found_behind g fs (h ∷ gs) low all = (
  ap (λ b. cond b (Some g) (field_at fs h.number)) (ne_eqb g.number h.number (λ e. omega (arith, e, low.0)))
      ∙ all.0,
  found_behind g fs gs low.1 all.1,
)

pub all_found : (fs : List Field) → InNumbers fs → AreFound fs fs
all_found [] up = tt
all_found (g ∷ fs) up =
    (ap (λ b. cond b (Some g) (field_at fs g.number)) (eq-eqb g.number g.number refl), found_behind g fs fs (above g fs up) (all_found fs (up_tail g fs up)))

no_number : (n : ℕ) (gs : List Field) → AllByRecursion (λ (h : Field). n < h.number) gs → has_number (own_slots gs) n ≡ false
no_number n [] low = refl
no_number n (h ∷ gs) low =
    let rest = no_number n gs low.1 in
    elim (cases_Bool (is_member h.label)) [
      | inl holds ↦ ap (λ xs. has_number xs n) (own_past h gs holds) ∙ rest
      | inr fails ↦ ap (λ xs. has_number xs n) (own_here h gs fails) ∙ or_from (h.number == n) (has_number (own_slots gs) n) (ne_eqb h.number n (λ e. omega (arith, e, low.0))) rest
    ]

-- ---- slots of fields

abbrev pub Left : List Field → List Field → Node → Node
Left fs rest t = keep (is_left fs (own_slots rest)) t

pub record SlotsOn (T : Table) (fs : List Field) (t : Node) (at c : ℕ) (before : Loads) (rest : List Field) (place free : ℕ) (now : Loads) : Type 0 where
  pub place_is : place + 2 * length (own_slots rest) ≡ at + 2 * length (own_slots fs)
  pub from : at ≤ place
  pub free_is : free + fields_words T fs (Left fs rest t) ≡ c + fields_words T fs t
  pub past : c ≤ free
  pub each : AreFound fs rest
  pub ascend : InNumbers rest
  pub on : (H level : ℕ) (others : Expected) → free ≤ H → level + depth t ≤ 33
      → BegunAt T H (slots_from (own_slots fs) level at ++ others) (slots_from (own_slots rest) level place ++ others) at place c free before now
      (λ P. slots_tree T fs (own_slots fs) P ≡ t) (λ Q. slots_tree T fs (own_slots rest) Q ≡ Left fs rest t)

pub slots_begin : (T : Table) (fs : List Field) (t : Node) (at c : ℕ) (before : Loads) → HasFields T fs 0 t → InNumbers fs → SlotsOn T fs t at c before fs at c before
slots_begin T fs t at c before has up =
    let whole = all_left T fs t has in
    record {
      place_is = refl;
      from = omega arith;
      free_is = ap (λ u. c + fields_words T fs u) whole;
      past = omega arith;
      each = all_found fs up;
      ascend = up;
      on = λ H level others within deep.
          subst (λ u. BegunAt T H (slots_from (own_slots fs) level at ++ others) (slots_from (own_slots fs) level at
          ++ others) at at c c before before (λ P. slots_tree T fs (own_slots fs) P ≡ t)
          (λ Q. slots_tree T fs (own_slots fs) Q ≡ u)) (sym whole)
          (begun_none T H (slots_from (own_slots fs) level at ++ others) at c before (λ P. slots_tree T fs (own_slots fs) P ≡ t));
    }

pub slots_past : (T : Table) (fs : List Field) (t : Node) (at c : ℕ) (before : Loads) (f : Field) (rest : List Field)
    (place free : ℕ) (now : Loads) → SlotsOn T fs t at c before (f ∷ rest) place free now → is_member f.label ≡ true
    → SlotsOn T fs t at c before rest place free now
slots_past T fs t at c before f rest place free now r holds =
    let same = own_past f rest holds in
    record {
      place_is = ap (λ xs. place + 2 * length xs) (sym same) ∙ r.place_is;
      from = r.from;
      free_is = ap (λ xs. free + fields_words T fs (keep (is_left fs xs) t)) (sym same) ∙ r.free_is;
      past = r.past;
      each = r.each.1;
      ascend = up_tail f rest r.ascend;
      on = λ H level others within deep.
          subst (λ xs. BegunAt T H (slots_from (own_slots fs) level at ++ others) (slots_from xs level place ++ others)
          at place c free before now (λ P. slots_tree T fs (own_slots fs) P ≡ t)
          (λ Q. slots_tree T fs xs Q ≡ keep (is_left fs xs) t)) same
          (r.on H level others within deep);
    }

left_next : (fs : List Field) (f : Field) (rest : List Field) (t : Node) → AreNumbersAscending 0 t → field_at fs f.number ≡ Some f → is_member f.label ≡ false → InNumbers (f ∷ rest)
    → keep (is_left fs (f ∷ own_slots rest)) t ≡ with_field f.number (content_at t f.number) (Left fs rest t)
left_next fs f rest t up found fails ascend =
    keep_step (is_left fs (f ∷ own_slots rest)) (is_left fs (own_slots rest)) f.number 0 t up
    (each_always (λ n. is_left fs (f ∷ own_slots rest) n ≡ (is_left fs (own_slots rest) n || f.number == n)) t (left_step fs (own_slots rest) f))
    (or_from (is_member_at fs f.number) (has_number (own_slots rest) f.number) (member_at fs f.number f found ∙ fails) (no_number f.number rest (above f rest ascend)))

pub kind_is : (fs : List Field) (n : ℕ) (f : Field) → field_at fs n ≡ Some f → kind_at fs n ≡ f.kind
kind_is fs n f at = ap (λ o. unwrap_or (option_map (λ x. x.kind) o) Uint64) at

-- the words after the slot of the next field are among the remaining ones
pub next_words : (T : Table) (fs : List Field) (t : Node) (at c : ℕ) (before : Loads) (f : Field) (rest : List Field)
    (place free : ℕ) (now : Loads) → HasFields T fs 0 t → SlotsOn T fs t at c before (f ∷ rest) place free now
    → is_member f.label ≡ false
    → free + (optional_content_words T f.kind (content_at t f.number) + fields_words T fs (Left fs rest t)) ≡ c + fields_words T fs t
next_words T fs t at c before f rest place free now has r fails =
    let same = own_here f rest fails in
    let step = left_next fs f rest t (fields_ascend T fs 0 t has) r.each.0 fails r.ascend in
    let sum : fields_words T fs (keep (is_left fs (f ∷ own_slots rest)) t) ≡ optional_content_words T f.kind (content_at t f.number) + fields_words T fs (Left fs rest t)
    = ap (fields_words T fs) step ∙ with_words T fs f.number (content_at t f.number) (Left fs rest t)
    ∙ ap (λ k. optional_content_words T k (content_at t f.number) + fields_words T fs (Left fs rest t))
    (kind_is fs f.number f r.each.0) in
    let now_is : free + fields_words T fs (keep (is_left fs (f ∷ own_slots rest)) t) ≡ c + fields_words T fs t =
    ap (λ xs. free + fields_words T fs (keep (is_left fs xs) t)) (sym same) ∙ r.free_is in
    ap (λ n. free + n) (sym sum) ∙ now_is

pub slots_more : (T : Table) (fs : List Field) (t : Node) (at c : ℕ) (before : Loads) (f : Field) (rest : List Field)
    (place free free2 : ℕ) (now now2 : Loads) → HasFields T fs 0 t → at + 2 * length (own_slots fs) ≤ c
    → SlotsOn T fs t at c before (f ∷ rest) place free now → is_member f.label ≡ false → free2 ≡ free + optional_content_words T f.kind (content_at t f.number)
    → ((H level : ℕ) → free2 ≤ H → level + depth t ≤ 33
    → PutsWordAt T H (slot_role f.label f.kind level, place) (place + 2) free free2 now now2
    (λ w. slot_content T f.label f.kind w ≡ content_at t f.number))
    → SlotsOn T fs t at c before rest (place + 2) free2 now2
slots_more T fs t at c before f rest place free free2 now now2 has room r fails size puts =
    let same = own_here f rest fails in
    let step = left_next fs f rest t (fields_ascend T fs 0 t has) r.each.0 fails r.ascend in
    let sum = next_words T fs t at c before f rest place free now has r fails in
    let count : length (own_slots (f ∷ rest)) ≡ suc (length (own_slots rest)) = ap length same in
    let place_next : place + 2 + 2 * length (own_slots rest) ≡ at + 2 * length (own_slots fs) = omega (arith, r.place_is, count) in
    record {
      place_is = place_next;
      from = omega (arith, r.from);
      free_is = omega (arith, sum, size);
      past = omega (arith, r.past, size);
      each = r.each.1;
      ascend = up_tail f rest r.ascend;
      on = λ H level others within deep.
          let all : BegunAt T H (slots_from (own_slots fs) level at ++ others) ((slot_role f.label f.kind level, place)
          ∷ (slots_from (own_slots rest) level (place + 2) ++ others)) at place c free before now
          (λ P. slots_tree T fs (own_slots fs) P ≡ t) (λ Q. slots_tree T fs (f ∷ own_slots rest) Q
          ≡ keep (is_left fs (f ∷ own_slots rest)) t)
          = subst (λ xs. BegunAt T H (slots_from (own_slots fs) level at ++ others)
          (slots_from xs level place ++ others) at place c free before now (λ P. slots_tree T fs (own_slots fs) P
          ≡ t) (λ Q. slots_tree T fs xs Q ≡ keep (is_left fs xs) t)) same
          (r.on H level others (omega (arith, within, size)) deep) in
          begun_more T H (slots_from (own_slots fs) level at ++ others) (slot_role f.label f.kind level, place) (slots_from (own_slots rest) level (place + 2) ++ others)
          at place (place + 2) c free free2 before now now2 (λ P. slots_tree T fs (own_slots fs) P ≡ t)
          (λ Q. slots_tree T fs (f ∷ own_slots rest) Q ≡ keep (is_left fs (f ∷ own_slots rest)) t)
          (λ Q. slots_tree T fs (own_slots rest) Q ≡ Left fs rest t) (λ w. slot_content T f.label f.kind w
          ≡ content_at t f.number)
          r.from (omega arith) (omega (arith, place_next, room)) r.past (omega (arith, size)) refl all (puts H level within deep)
          (λ Q w holds less. ap (λ o. with_field f.number o (slots_tree T fs (own_slots rest) Q)) holds ∙ ap (with_field f.number (content_at t f.number)) less ∙ sym step);
    }

-- after the last field
pub record SlotsDone (T : Table) (fs : List Field) (t : Node) (at c : ℕ) (before : Loads) (place free : ℕ) (now : Loads) : Type 0 where
  pub place_is : place ≡ at + 2 * length (own_slots fs)
  pub free_is : free + fields_words T fs (members fs t) ≡ c + fields_words T fs t
  pub past : c ≤ free
  pub on : (H level : ℕ) (others : Expected) → free ≤ H → level + depth t ≤ 33
      → BegunAt T H (slots_from (own_slots fs) level at ++ others) others at (at + 2 * length (own_slots fs)) c free before now
      (λ P. slots_tree T fs (own_slots fs) P ≡ t) (λ Q. slots_tree T fs [] Q ≡ members fs t)

pub slots_end : (T : Table) (fs : List Field) (t : Node) (at c : ℕ) (before : Loads) (place free : ℕ) (now : Loads)
    → SlotsOn T fs t at c before [] place free now → SlotsDone T fs t at c before place free now
slots_end T fs t at c before place free now r =
    let there : place ≡ at + 2 * length (own_slots fs) = omega (arith, r.place_is) in
    let rest = members_left fs t in
    record {
      place_is = there;
      free_is = ap (λ u. free + fields_words T fs u) (sym rest) ∙ r.free_is;
      past = r.past;
      on = λ H level others within deep.
          subst (λ u. BegunAt T H (slots_from (own_slots fs) level at ++ others) others at
          (at + 2 * length (own_slots fs)) c free before now (λ P. slots_tree T fs (own_slots fs) P ≡ t)
          (λ Q. slots_tree T fs [] Q ≡ u)) rest
          (subst (λ p. BegunAt T H (slots_from (own_slots fs) level at ++ others) others at p c free before now
          (λ P. slots_tree T fs (own_slots fs) P ≡ t) (λ Q. slots_tree T fs [] Q ≡ keep (is_left fs []) t)) there
          (r.on H level others within deep));
    }

-- ---- slots of oneofs

abbrev pub Behind : List Field → ℕ → ℕ → Node → Node
Behind fs o left t = keep (in_oneofs fs o left) t

pub record CasesOn (T : Table) (fs : List Field) (t : Node) (all at c : ℕ) (before : Loads) (oneof left place free : ℕ) (now : Loads) : Type 0 where
  pub place_is : place + 3 * left ≡ at + 3 * all
  pub from : at ≤ place
  pub free_is : free + fields_words T fs (Behind fs oneof left t) ≡ c + fields_words T fs (members fs t)
  pub past : c ≤ free
  pub on : (H level : ℕ) → free ≤ H → level + depth t ≤ 33
      → BegunAt T H (cases_from all fs 0 level at) (cases_from left fs oneof level place) at place c free before now
      (λ P. slots_tree T fs [] P ≡ members fs t) (λ Q. slots_tree T fs [] Q ≡ Behind fs oneof left t)

pub cases_begin : (T : Table) (fs : List Field) (t : Node) (all at c : ℕ) (before : Loads) → members fs t ≡ Behind fs 0 all t → CasesOn T fs t all at c before 0 all at c before
cases_begin T fs t all at c before is = record {
  place_is = refl;
  from = omega arith;
  free_is = ap (λ u. c + fields_words T fs u) (sym is);
  past = omega arith;
  on = λ H level within deep.
      subst (λ u. BegunAt T H (cases_from all fs 0 level at) (cases_from all fs 0 level at) at at c c before before
      (λ P. slots_tree T fs [] P ≡ members fs t) (λ Q. slots_tree T fs [] Q ≡ u)) is
      (begun_none T H (cases_from all fs 0 level at) at c before (λ P. slots_tree T fs [] P ≡ members fs t));
}

or_turned : (a b x : Bool) → a ≡ x → (a || b) ≡ (b || x)
or_turned true true x e = refl
or_turned true false x e = e
or_turned false true x e = refl
or_turned false false x e = e

behind_next : (fs : List Field) (o left m : ℕ) (t : Node) → AreNumbersAscending 0 t → Tells fs o t m → Behind fs o (suc left) t ≡ with_field m (content_at t m) (Behind fs (o + 1) left t)
behind_next fs o left m t up (tells_none is none) =
    keep_same (in_oneofs fs o (suc left)) (in_oneofs fs (o + 1) left) t
    (each_weaker (λ n. is_member_of fs o n ≡ false) (λ n. in_oneofs fs o (suc left) n
    ≡ in_oneofs fs (o + 1) left n) t (λ n fails. ap (λ b. b || in_oneofs fs (o + 1) left n) fails) none)
    ∙ ap (λ x. with_field m x (Behind fs (o + 1) left t)) (sym (ap (λ n. content_at t n) is ∙ absent 0 0 t (omega arith) up))
behind_next fs o left m t up (tells_one some sole) =
    keep_step (in_oneofs fs o (suc left)) (in_oneofs fs (o + 1) left) m 0 t up
    (each_weaker (λ n. is_member_of fs o n ≡ (m == n)) (λ n. in_oneofs fs o (suc left) n
    ≡ (in_oneofs fs (o + 1) left n || m == n)) t
    (λ n e. or_turned (is_member_of fs o n) (in_oneofs fs (o + 1) left n) (m == n) e) sole.alone)
    (not_behind fs o left m sole.is)

pub next_case_words : (T : Table) (fs : List Field) (t : Node) (all at c : ℕ) (before : Loads)
    (o left place free m : ℕ) (now : Loads) → AreNumbersAscending 0 t → Tells fs o t m
    → CasesOn T fs t all at c before o (suc left) place free now
    → free + (optional_content_words T (kind_at fs m) (content_at t m) + fields_words T fs (Behind fs (o + 1) left t)) ≡ c + fields_words T fs (members fs t)
next_case_words T fs t all at c before o left place free m now up tells r =
    let sum = ap (fields_words T fs) (behind_next fs o left m t up tells) ∙ with_words T fs m (content_at t m) (Behind fs (o + 1) left t) in
    ap (λ n. free + n) (sym sum) ∙ r.free_is

pub cases_more : (T : Table) (fs : List Field) (t : Node) (all at c : ℕ) (before : Loads)
    (o left place free free2 m : ℕ) (now now2 : Loads) → AreNumbersAscending 0 t → Tells fs o t m → at + 3 * all ≤ c
    → CasesOn T fs t all at c before o (suc left) place free now → free2 ≡ free + optional_content_words T (kind_at fs m) (content_at t m)
    → ((H level : ℕ) → free2 ≤ H → level + depth t ≤ 33
    → PutsWordAt T H (case_word fs o level, place) (place + 3) free free2 now now2 (λ w. (u : Node)
    → with_member T fs w u ≡ with_field m (content_at t m) u))
    → CasesOn T fs t all at c before (o + 1) left (place + 3) free2 now2
cases_more T fs t all at c before o left place free free2 m now now2 up tells room r size puts =
    let sum = next_case_words T fs t all at c before o left place free m now up tells r in
    let step = behind_next fs o left m t up tells in
    record {
      place_is = omega (arith, r.place_is);
      from = omega (arith, r.from);
      free_is = omega (arith, sum, size);
      past = omega (arith, r.past, size);
      on = λ H level within deep.
          begun_more T H (cases_from all fs 0 level at) (case_word fs o level, place) (cases_from left fs (o + 1) level (place + 3)) at place (place + 3) c free free2 before now now2
          (λ P. slots_tree T fs [] P ≡ members fs t) (λ Q. slots_tree T fs [] Q ≡ Behind fs o (suc left) t)
          (λ Q. slots_tree T fs [] Q ≡ Behind fs (o + 1) left t) (λ w. (u : Node)
          → with_member T fs w u ≡ with_field m (content_at t m) u)
          r.from (omega arith) (omega (arith, r.place_is, room)) r.past (omega (arith, size)) refl (r.on H level (omega (arith, within, size)) deep) (puts H level within deep)
          (λ Q w holds less. holds (slots_tree T fs [] Q) ∙ ap (with_field m (content_at t m)) less ∙ sym step);
    }

all_past : (fs : List Field) (o : ℕ) (t : Node) → Behind fs o 0 t ≡ no_fields
all_past fs o t = keep_none (in_oneofs fs o 0) t (each_always (λ n. in_oneofs fs o 0 n ≡ false) t (λ n. refl))

pub cases_end : (T : Table) (fs : List Field) (t : Node) (all at c : ℕ) (before : Loads) (o place free : ℕ) (now : Loads) → CasesOn T fs t all at c before o 0 place free now
    → (H level : ℕ) → free ≤ H → level + depth t ≤ 33
    → PutsAt T H (cases_from all fs 0 level at) at (at + 3 * all) c free before now
    (λ P. slots_tree T fs [] P ≡ members fs t)
cases_end T fs t all at c before o place free now r H level within deep =
    let there : place ≡ at + 3 * all = omega (arith, r.place_is) in
    subst (λ p. PutsAt T H (cases_from all fs 0 level at) at p c free before now (λ P. slots_tree T fs [] P ≡ members fs t)) there
    (begun_end T H (cases_from all fs 0 level at) at place c free before now
    (λ P. slots_tree T fs [] P ≡ members fs t) (λ Q. slots_tree T fs [] Q ≡ Behind fs o 0 t)
    (r.on H level within deep) (sym (all_past fs o t)))

pub cases_free : (T : Table) (fs : List Field) (t : Node) (all at c : ℕ) (before : Loads) (o place free : ℕ)
    (now : Loads) → CasesOn T fs t all at c before o 0 place free now → free ≡ c + fields_words T fs (members fs t)
cases_free T fs t all at c before o place free now r = let none = ap (fields_words T fs) (all_past fs o t) in omega (arith, r.free_is, none)

-- ---- the slot of a oneof

pub no_case : (T : Table) (H : ℕ) (fs : List Field) (o level place c m : ℕ) (t : Node) (before after : Loads) → m ≡ 0
    → content_at t m ≡ None → place + 3 ≤ c → after ≡ before ++ (place, m) ∷ []
    → PutsWordAt T H (case_word fs o level, place) (place + 3) c c before after (λ w. (u : Node) → with_member T fs w u ≡ with_field m (content_at t m) u)
no_case T H fs o level place c m t before after is none slot put =
    let put_zero : after ≡ before ++ (place, 0) ∷ [] = put ∙ ap (λ v. before ++ (place, v) ∷ []) is in
    lone_word T H (case_word fs o level) place 0 (place + 3) c before after (λ w. (u : Node) → with_member T fs w u ≡ with_field m (content_at t m) u) refl (omega arith)
    (fine_case T H fs o level 0 (λ some. absurd (some refl))) (omega arith) slot put_zero (λ u. ap (λ x. with_field m x u) (sym none))

pub some_case : (T : Table) (H : ℕ) (fs : List Field) (o level place c d m : ℕ) (t : Node) (i : Item)
    (before mid next : Loads) → m ≢ 0 → m < 2 ^ 64 → content_at t m ≡ Some (one i) → is_member_of fs o m ≡ true
    → place + 3 ≤ c → c ≤ d
    → mid ≡ before ++ (place, m) ∷ []
    → PutsWordAt T H (plain_role (kind_at fs m) level true, place + 1) (place + 1 + element_words (kind_at fs m)) c d mid next (IsSlotOf T (kind_at fs m) i)
    → PutsWordAt T H (case_word fs o level, place) (place + 3) c d before next (λ w. (u : Node) → with_member T fs w u ≡ with_field m (content_at t m) u)
some_case T H fs o level place c d m t i before mid next some small found member slot cd put puts =
    let wide = narrow (kind_at fs m) in
    let inner : PutsAt T H ((plain_role (kind_at fs m) level true, place + 1) ∷ []) (place + 1) (place + 3) c d mid next
    (λ P. (u : Node) → with_member T fs (word place m P) u ≡ with_field m (content_at t m) u)
    = one_put T H (plain_role (kind_at fs m) level true, place + 1) (place + 3) c d mid next
    (IsSlotOf T (kind_at fs m) i) (λ P. (u : Node)
    → with_member T fs (word place m P) u ≡ with_field m (content_at t m) u)
    (word_wide T H (plain_role (kind_at fs m) level true, place + 1) (place + 1 + element_words (kind_at fs m))
    (place + 3) c d mid next (IsSlotOf T (kind_at fs m) i) (IsSlotOf T (kind_at fs m) i)
    (omega (arith, wide)) puts (λ w holds. holds))
    (λ w holds. λ u. ap (λ j. with_field m (Some (one j)) u) holds.item ∙ ap (λ x. with_field m x u) (sym found)) in
    let behind_is : expected_after T (case_word fs o level) place m ≡ (plain_role (kind_at fs m) level true, place + 1) ∷ []
    = ap (λ b. cond b [] ((plain_role (kind_at fs m) level true, place + 1) ∷ [])) (ne_eqb m 0 some) in
    word_put T H (case_word fs o level) place m (place + 3) c d before mid next (λ P. (u : Node)
    → with_member T fs (word place m P) u ≡ with_field m (content_at t m) u) (λ w. (u : Node)
    → with_member T fs w u ≡ with_field m (content_at t m) u)
    (omega arith) slot cd small (fine_case T H fs o level m (λ _. member_found fs o m member)) put
    (subst (λ es. PutsAt T H es (place + 1) (place + 3) c d mid next (λ P. (u : Node) → with_member T fs (word place m P) u ≡ with_field m (content_at t m) u)) (sym behind_is) inner)
    (λ P made. made)

-- ---- a node

pub node_put : (T : Table) (H m level : ℕ) (t : Node) (c d : ℕ) (mid_free : ℕ) (before mid next : Loads)
    → c + size_words T m ≤ mid_free → mid_free ≤ d
    → BegunAt T H (slots_from (own_slots (fields_of T m)) level c ++ cases_from (oneof_count T m) (fields_of T m) 0 level
    (c + 2 * length (own_slots (fields_of T m))))
    (cases_from (oneof_count T m) (fields_of T m) 0 level (c + 2 * length (own_slots (fields_of T m))))
    c (c + 2 * length (own_slots (fields_of T m))) (c + size_words T m) mid_free before mid
    (λ P. slots_tree T (fields_of T m) (own_slots (fields_of T m)) P ≡ t) (λ Q. slots_tree T (fields_of T m) [] Q
    ≡ members (fields_of T m) t)
    → PutsAt T H (cases_from (oneof_count T m) (fields_of T m) 0 level (c + 2 * length (own_slots (fields_of T m))))
    (c + 2 * length (own_slots (fields_of T m))) (c + 2 * length (own_slots (fields_of T m)) + 3 * oneof_count T m)
    mid_free d mid next (λ P. slots_tree T (fields_of T m) [] P ≡ members (fields_of T m) t)
    → PutsAt T H (node_words T m level c) c c c d before next (λ P. tree_of T m P ≡ t)
node_put T H m level t c d mid_free before mid next lower upper slots cases =
    let end : c + 2 * length (own_slots (fields_of T m)) + 3 * oneof_count T m ≡ c + size_words T m = omega arith in
    content_put T H (node_words T m level c) c c (c + size_words T m) d before next (λ P. tree_of T m P ≡ t) (λ P. tree_of T m P ≡ t) (omega arith)
    (begun_join T H (node_words T m level c) (cases_from (oneof_count T m) (fields_of T m) 0 level (c + 2 * length (own_slots (fields_of T m))))
    c (c + 2 * length (own_slots (fields_of T m))) (c + size_words T m) (c + size_words T m) mid_free d before mid
    next (λ P. tree_of T m P ≡ t) (λ Q. slots_tree T (fields_of T m) [] Q ≡ members (fields_of T m) t)
    (omega arith) (omega (arith, end)) (omega arith) lower upper slots
    (subst (λ e. PutsAt T H
    (cases_from (oneof_count T m) (fields_of T m) 0 level (c + 2 * length (own_slots (fields_of T m))))
    (c + 2 * length (own_slots (fields_of T m))) e mid_free d mid next (λ P. slots_tree T (fields_of T m) [] P
    ≡ members (fields_of T m) t)) end cases))
    (λ P made. made)
