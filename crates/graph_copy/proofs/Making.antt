-- What is made of the loads of each word.
use Rattle.std.proofs.Common.{◌≡◌, ◌≢◌, ◌⊎◌, ℕ, ◌+◌, ◌-◌, List, [], ◌∷◌, ◌++◌, Bool, true, false, cond, ◌==◌, Some}
use Rattle.std.proofs.Common.{None, refl, sym, ap, subst, ◌∙◌, arith, inl, inr}
use Rattle.std.specs.Prelude.{if◌then◌else◌}
use Rattle.std.proofs.lemmas.Bool.{eq-eqb, ne_eqb}
use Rattle.std.proofs.lemmas.Bool.Decides.{leb_tells}
use Rattle.mrpc_table.specs.MapEntries.{last_of_each}
use Rattle.mrpc_table.specs.Node.{Node, Content, one, many, pairs, Item, run, node, Items, Pairs}
use Rattle.mrpc_table.specs.declared.table.Kind.{Kind}
use Rattle.mrpc_table.specs.declared.table.Kind.TheVariants.{Text, Octets, Message as OfMessage}
use Rattle.mrpc_table.specs.declared.table.Label.{Label}
use Rattle.mrpc_table.specs.declared.table.Label.TheVariants.{Plain, Optional, Repeated, Packed, Map, Member}
use Rattle.mrpc_table.specs.declared.table.Table.{Table}
use Rattle.graph_form.specs.declared.reason.Reason.TheVariants.{Address, Depth, Length}
use Rattle.graph_form.specs.Roles.{run_length, run_presence, run_address, link, elements_address}
use Rattle.graph_form.specs.Roles.{entries_address, expected_after, plain_role, optional_role, slot_role, node_words}
use Rattle.graph_form.specs.Roles.{size_words}
use Rattle.graph_form.specs.Placed.{Placed, word, loads, IsValidWord, AreSound}
use Rattle.graph_form.specs.Forgotten.{run_at, optional_item, slot_content, plain_item, elements_at, entries_at, tree_of}
use Rattle.graph_copy.specs.declared.role.ValueShape.TheVariants.{Run, Message}
use Rattle.graph_copy.specs.Shapes.{shape_of}
use Rattle.graph_copy.specs.Makes.{IsMadeFrom, IsMadeFromWord, IsMadeFromContent}
use Rattle.graph_copy.proofs.Fitting.{lies_by_not}
use Rattle.graph_copy.proofs.Running.{Gives}

-- ---- values of plain slots

pub run_made : (T : Table) (k : Kind) (place depth : ℕ) (needed : Bool) (v : ℕ) (before after : List (ℕ × ℕ)) (bytes : List ℕ) → shape_of k ≡ Run
    → ((k : Kind) (place : ℕ) → IsMadeFromContent T (run_length k, place) v before after (λ P. bytes ≡ run_at v P))
    → IsMadeFromContent T (plain_role k depth needed, place) v before after (λ P. run bytes ≡ plain_item T k (word place v P))
run_made T Text place depth needed v before after bytes shape made = λ H content rest fine sound is. let m = made Text place H content rest fine sound is in (ap run m.0, m.1)
run_made T Octets place depth needed v before after bytes shape made = λ H content rest fine sound is. let m = made Octets place H content rest fine sound is in (ap run m.0, m.1)
run_made T (OfMessage i) place depth needed v before after bytes shape made = absurd (cc)
run_made T _ place depth needed v before after bytes shape made = absurd (cc)

some_link : (T : Table) (H m depth : ℕ) (needed : Bool) (v : ℕ) → IsValidWord T H (link m depth needed) v → (needed ≡ true) ⊎ (v ≢ 0) → v ≢ 0
some_link T H m depth needed v fine there =
    elim there [
      | inl must ↦ λ e. let lies = lies_by_not H v (size_words T m) (λ out. fine Address (inr must, out)) in omega (arith, lies.from_one, e)
      | inr some ↦ some
    ]

pub no_room : (T : Table) (k : Kind) (m place depth : ℕ) (needed : Bool) (v room : ℕ) (before after : List (ℕ × ℕ))
    (Made : Placed → Type 0) → shape_of k ≡ Message m → room ≡ 0 → depth + room ≡ 32 → (needed ≡ true) ⊎ (v ≢ 0)
    → IsMadeFromContent T (plain_role k depth needed, place) v before after Made
no_room T Text m place depth needed v room before after Made shape none deep there = absurd (cc)
no_room T Octets m place depth needed v room before after Made shape none deep there = absurd (cc)
no_room T (OfMessage i) m place depth needed v room before after Made shape none deep there = λ H content rest fine sound is.
    absurd (fine Depth (some_link T H i depth needed v fine there, omega (arith, none, deep)))
no_room T _ m place depth needed v room before after Made shape none deep there = absurd (cc)

pub node_made : (T : Table) (k : Kind) (m place depth : ℕ) (needed : Bool) (v room : ℕ) (before after : List (ℕ × ℕ))
    (t : Node) → shape_of k ≡ Message m → room ≢ 0 → depth + room ≡ 32 → (needed ≡ true) ⊎ (v ≢ 0)
    → ((place depth : ℕ) → depth + (room - 1) ≡ 32 → IsMadeFrom T (node_words T m depth place) before after (λ P. t ≡ tree_of T m P))
    → IsMadeFromContent T (plain_role k depth needed, place) v before after (λ P. node t ≡ plain_item T k (word place v P))
node_made T Text m place depth needed v room before after t shape some deep there made = absurd (cc)
node_made T Octets m place depth needed v room before after t shape some deep there made = absurd (cc)
node_made T (OfMessage i) m place depth needed v room before after t shape some deep there made = λ H content rest fine sound is.
    let same : i ≡ m = cc in
    let there_is = some_link T H i depth needed v fine there in
    let inner : AreSound T H (node_words T i (depth + 1) v) content = subst (λ b. AreSound T H (cond b [] (node_words T i (depth + 1) v)) content) (ne_eqb v 0 there_is) sound in
    let given = made v (depth + 1) (omega (arith, some, deep)) H content rest (subst (λ j. AreSound T H (node_words T j (depth + 1) v) content) same inner) is in
    (ap node (given.0 ∙ ap (λ j. tree_of T j content) (sym same)), given.1)
node_made T _ m place depth needed v room before after t shape some deep there made = absurd (cc)

-- ---- a word and the words that it leads to

pub item_made : (T : Table) (k : Kind) (place depth v : ℕ) (before mid after : List (ℕ × ℕ)) (i : Item) → Gives before v mid
    → IsMadeFromContent T (plain_role k depth true, place) v mid after (λ P. i ≡ plain_item T k (word place v P))
    → IsMadeFromWord T (plain_role k depth true, place) before after (λ w. i ≡ plain_item T k w)
item_made T k place depth v before mid after i gives made = λ H n content rest small fine sound is.
    let g = gives (place, n) (loads content ++ rest) is in
    let m = made H content rest (subst (IsValidWord T H (plain_role k depth true)) (sym g.0) fine)
    (subst (λ n. AreSound T H (expected_after T (plain_role k depth true) place n) content) (sym g.0) sound) g.1 in
    (m.0 ∙ ap (λ n. plain_item T k (word place n content)) g.0, m.1)

-- ---- slots of fields

pub slot_made : (T : Table) (l : Label) (k : Kind) (place depth v : ℕ) (before mid after : List (ℕ × ℕ)) (c : Content) (Made : Placed → Content)
    → Gives before v mid → v ≢ 0 → ((P : Placed) → slot_content T l k (word place v P) ≡ (if v == 0 then None else Some (Made P)))
    → IsMadeFromContent T (slot_role l k depth, place) v mid after (λ P. c ≡ Made P)
    → IsMadeFromWord T (slot_role l k depth, place) before after (λ w. Some c ≡ slot_content T l k w)
slot_made T l k place depth v before mid after c Made gives some says made = λ H n content rest small fine sound is.
    let g = gives (place, n) (loads content ++ rest) is in
    let m = made H content rest (subst (IsValidWord T H (slot_role l k depth)) (sym g.0) fine) (subst (λ n. AreSound T H (expected_after T (slot_role l k depth) place n) content) (sym g.0) sound) g.1 in
    (ap Some m.0 ∙ sym (says content ∙ ap (λ b. cond b None (Some (Made content))) (ne_eqb v 0 some)) ∙ ap (λ n. slot_content T l k (word place n content)) g.0, m.1)

-- the content of a slot, by its label
pub plain_says : (T : Table) (k : Kind) (place v : ℕ) (P : Placed) → slot_content T Plain k (word place v P) ≡ (if v == 0 then None else Some (one (plain_item T k (word place v P))))
plain_says T (OfMessage m) place v P = refl
plain_says T _ place v P = refl

pub member_says : (T : Table) (o : ℕ) (k : Kind) (place v : ℕ) (P : Placed)
    → slot_content T (Member o) k (word place v P)
    ≡ (if v == 0 then None else Some (one (plain_item T k (word place v P))))
member_says T o (OfMessage m) place v P = refl
member_says T o _ place v P = refl

-- ---- optional slots

-- a run after its length plus 1 is a run after its length
less_one : (T : Table) (H : ℕ) (k : Kind) (place v n : ℕ) (P : Placed) → v ≢ 0 → n ≡ v - 1
    → AreSound T H (expected_after T (run_presence k) place v) P → AreSound T H (expected_after T (run_length k) place n) P
less_one T H k place v n P some is_less sound =
    let Q : Bool → Type 0 = λ b. AreSound T H (cond b [] ((run_address k (v - 1), place + 1) ∷ [])) P in
    let inner : AreSound T H (if (v - 1) == 0 then [] else (run_address k (v - 1), place + 1) ∷ []) P =
    elim (leb_tells v 1) [
      | inl le ↦ subst Q (sym (eq-eqb (v - 1) 0 (omega (arith, le.1)))) (subst Q le.0 sound)
      | inr gt ↦ subst Q (sym (ne_eqb (v - 1) 0 (λ e. omega (arith, gt.1, e)))) (subst Q gt.0 sound)
    ] in
    subst (λ n. AreSound T H (expected_after T (run_length k) place n) P) (sym is_less) inner

less_fine : (T : Table) (H : ℕ) (k : Kind) (v n : ℕ) → n ≡ v - 1 → IsValidWord T H (run_presence k) v → IsValidWord T H (run_length k) n
less_fine T H k v n is_less fine Length h = fine Length (omega (arith, h, is_less))
less_fine T H k v n is_less fine _ h = h

optional_bytes : (T : Table) (k : Kind) (place v n : ℕ) (before after : List (ℕ × ℕ)) (bytes : List ℕ) → v ≢ 0 → n ≡ v - 1
    → ((T : Table) (k : Kind) (place : ℕ) → IsMadeFromContent T (run_length k, place) n before after (λ P. bytes ≡ run_at n P))
    → IsMadeFromContent T (run_presence k, place) v before after (λ P. run bytes ≡ run (run_at (v - 1) P))
optional_bytes T k place v n before after bytes some is_less made = λ H content rest fine sound is.
    let m = made T k place H content rest (less_fine T H k v n is_less fine) (less_one T H k place v n content some is_less sound) is in
    (ap run (m.0 ∙ ap (λ j. run_at j content) is_less), m.1)

pub optional_run : (T : Table) (k : Kind) (place v n : ℕ) (before after : List (ℕ × ℕ)) (bytes : List ℕ) → shape_of k ≡ Run → v ≢ 0 → n ≡ v - 1
    → ((T : Table) (k : Kind) (place : ℕ) → IsMadeFromContent T (run_length k, place) n before after (λ P. bytes ≡ run_at n P))
    → IsMadeFromContent T (optional_role k, place) v before after (λ P. run bytes ≡ optional_item k v P)
optional_run T Text place v n before after bytes shape some is_less made = optional_bytes T Text place v n before after bytes some is_less made
optional_run T Octets place v n before after bytes shape some is_less made = optional_bytes T Octets place v n before after bytes some is_less made
optional_run T _ place v n before after bytes shape some is_less made = absurd (cc)

-- ---- slots by their labels

pub slot_optional : (T : Table) (k : Kind) (place depth v : ℕ) (before mid after : List (ℕ × ℕ)) (i : Item) → Gives before v mid → v ≢ 0
    → IsMadeFromContent T (optional_role k, place) v mid after (λ P. i ≡ optional_item k v P)
    → IsMadeFromWord T (slot_role Optional k depth, place) before after (λ w. Some (one i) ≡ slot_content T Optional k w)
slot_optional T k place depth v before mid after i gives some made =
    slot_made T Optional k place depth v before mid after (one i) (λ P. one (optional_item k v P)) gives some (λ P. refl)
    (λ H content rest fine sound is. let m = made H content rest fine sound is in (ap one m.0, m.1))

pub slot_repeated : (T : Table) (k : Kind) (place depth v : ℕ) (before mid after : List (ℕ × ℕ)) (is : Items) → Gives before v mid → v ≢ 0
    → IsMadeFrom T ((elements_address k v depth, place + 1) ∷ []) mid after (λ P. is ≡ elements_at T k P)
    → IsMadeFromWord T (slot_role Repeated k depth, place) before after (λ w. Some (many is) ≡ slot_content T Repeated k w)
slot_repeated T k place depth v before mid after is gives some made =
    slot_made T Repeated k place depth v before mid after (many is) (λ P. many (elements_at T k P)) gives some (λ P. refl)
    (λ H content rest fine sound at. let m =
    made H content rest
    (subst (λ b. AreSound T H (cond b [] ((elements_address k v depth, place + 1) ∷ [])) content)
    (ne_eqb v 0 some) sound) at in (ap many m.0, m.1))

pub slot_packed : (T : Table) (k : Kind) (place depth v : ℕ) (before mid after : List (ℕ × ℕ)) (is : Items) → Gives before v mid → v ≢ 0
    → IsMadeFrom T ((elements_address k v depth, place + 1) ∷ []) mid after (λ P. is ≡ elements_at T k P)
    → IsMadeFromWord T (slot_role Packed k depth, place) before after (λ w. Some (many is) ≡ slot_content T Packed k w)
slot_packed T k place depth v before mid after is gives some made =
    slot_made T Packed k place depth v before mid after (many is) (λ P. many (elements_at T k P)) gives some (λ P. refl)
    (λ H content rest fine sound at. let m =
    made H content rest
    (subst (λ b. AreSound T H (cond b [] ((elements_address k v depth, place + 1) ∷ [])) content)
    (ne_eqb v 0 some) sound) at in (ap many m.0, m.1))

pub slot_map : (T : Table) (key k : Kind) (place depth v : ℕ) (before mid after : List (ℕ × ℕ)) (ps : Pairs) → Gives before v mid → v ≢ 0
    → IsMadeFrom T ((entries_address key k v depth, place + 1) ∷ []) mid after (λ P. ps ≡ last_of_each key (entries_at T key k P))
    → IsMadeFromWord T (slot_role (Map key) k depth, place) before after (λ w. Some (pairs ps) ≡ slot_content T (Map key) k w)
slot_map T key k place depth v before mid after ps gives some made =
    slot_made T (Map key) k place depth v before mid after (pairs ps) (λ P. pairs (last_of_each key (entries_at T key k P))) gives some (λ P. refl)
    (λ H content rest fine sound at. let m =
    made H content rest
    (subst (λ b. AreSound T H (cond b [] ((entries_address key k v depth, place + 1) ∷ [])) content)
    (ne_eqb v 0 some) sound) at in (ap pairs m.0, m.1))

pub slot_plain : (T : Table) (k : Kind) (place depth v : ℕ) (before mid after : List (ℕ × ℕ)) (i : Item) → Gives before v mid → v ≢ 0
    → IsMadeFromContent T (plain_role k depth false, place) v mid after (λ P. i ≡ plain_item T k (word place v P))
    → IsMadeFromWord T (slot_role Plain k depth, place) before after (λ w. Some (one i) ≡ slot_content T Plain k w)
slot_plain T k place depth v before mid after i gives some made =
    slot_made T Plain k place depth v before mid after (one i) (λ P. one (plain_item T k (word place v P))) gives some (plain_says T k place v)
    (λ H content rest fine sound is. let m = made H content rest fine sound is in (ap one m.0, m.1))

pub slot_member : (T : Table) (o : ℕ) (k : Kind) (place depth v : ℕ) (before mid after : List (ℕ × ℕ)) (i : Item) → Gives before v mid → v ≢ 0
    → IsMadeFromContent T (plain_role k depth false, place) v mid after (λ P. i ≡ plain_item T k (word place v P))
    → IsMadeFromWord T (slot_role (Member o) k depth, place) before after (λ w. Some (one i) ≡ slot_content T (Member o) k w)
slot_member T o k place depth v before mid after i gives some made =
    slot_made T (Member o) k place depth v before mid after (one i) (λ P. one (plain_item T k (word place v P))) gives some (member_says T o k place v)
    (λ H content rest fine sound is. let m = made H content rest fine sound is in (ap one m.0, m.1))
