-- The print of the field with a number, in the message at an index and in the message of a name.
use Rattle.std.proofs.Common.{◌≡◌, ℕ, ◌+◌, ◌<◌, List, length, get_or, Option, Some, None, inl, inr, refl, sym, ap, subst, ◌∙◌, arith}
use Rattle.std.specs.Prelude.{Contains, slice_get, option_map, option_and_then}
use Rattle.std.proofs.lemmas.Bool.{cases_eq, cases_lt, cases_order}
use Rattle.std.proofs.lemmas.List.{get_or_default}
use Rattle.std.proofs.lemmas.List.Elements.{All-contains, Contains-get_or}
use Rattle.std.proofs.lemmas.Option.{slice_get-get_or, slice_get_within, get_or_from_slice_get, same_Some, none-some, option_and_then_some}
use Rattle.mrpc_table.specs.Normal.{field_at}
use Rattle.mrpc_table.specs.Text.{message_name}
use Rattle.mrpc_table.specs.Valid.{IsMessage, IsValid}
use Rattle.mrpc_table.specs.declared.table.Field.{Field}
use Rattle.mrpc_table.specs.declared.table.Message.{Message}
use Rattle.mrpc_table.specs.declared.table.Table.{Table}
use Rattle.schema_binding.specs.Agreement.{FieldText, field_text, IsPrintedAs, IsReachedByBoth, through, IsDifference}
use Rattle.schema_binding.specs.Places.{printed_in, printed_at, IsPair, IsPrintedDifferently, HasFieldOfType, IsShared, IsOtherPrint, IsLeastDifference}
use Rattle.mrpc_table.specs.Ascending.{AreFieldsAscending}
use Rattle.schema_binding.proofs.Order.{message_name_is, place_of, field_found, field_known, IsFound, numbers_rise}

-- ---- options

pub record IsMapped {X Y : Type 0} (g : X → Y) (o : Option X) (y : Y) : Type 0 where
  pub value : X
  pub is : o ≡ Some value
  pub gives : g value ≡ y

pub mapped : {X Y : Type 0} (g : X → Y) (o : Option X) (y : Y) → option_map g o ≡ Some y → IsMapped g o y
mapped g None y e = absurd (none-some y e)
mapped g (Some x) y e = record { value = x; is = refl; gives = same_Some (g x) y e }

-- ---- the message at an index

pub at_place : (T : Table) (i : ℕ) (d : Message) → i < length T.messages → slice_get T.messages i ≡ Some (get_or T.messages i d)
at_place T i d within = slice_get-get_or T.messages i d within

pub is_in : (T : Table) (i : ℕ) (m : Message) → slice_get T.messages i ≡ Some m → Contains T.messages m
is_in T i m at = (i, slice_get_within T.messages i m at, get_or_from_slice_get T.messages i m m at)

pub name_at : (T : Table) (i : ℕ) (m : Message) → slice_get T.messages i ≡ Some m → message_name T i ≡ m.name
name_at T i m at = message_name_is T i m (slice_get_within T.messages i m at) ∙ ap (λ (n : Message). n.name) (get_or_from_slice_get T.messages i m m at)

pub message_at : (T : Table) → IsValid T → (i : ℕ) (m : Message) → slice_get T.messages i ≡ Some m → IsMessage T m
message_at T valid i m at = All-contains (IsMessage T) T.messages m valid.messages (is_in T i m at)

-- the message that is read at an index
pub here_at : (T : Table) (i : ℕ) (m : Message) (ms : List Message) → ms ≡ T.messages → i < length T.messages → m ≡ get_or ms i m → slice_get T.messages i ≡ Some m
here_at T i m ms all within at = at_place T i m within ∙ ap Some (ap (λ (ns : List Message). get_or ns i m) (sym all) ∙ sym at)

-- ---- what is printed of a number

pub print_of : (T : Table) (i n : ℕ) (m : Message) → slice_get T.messages i ≡ Some m → printed_at T i n ≡ option_map (field_text T m) (field_at m.fields n)
print_of T i n m at = ap (option_and_then (λ m. printed_in T m n)) at

pub prints_is : (T : Table) → IsValid T → (i n : ℕ) (t : FieldText) → i < length T.messages → IsPrintedAs T (message_name T i) n t → printed_at T i n ≡ Some t
prints_is T valid i n t within p =
    let at : slice_get T.messages i ≡ Some p.message = place_of T valid p.message p.known i within p.named in
    let up : AreFieldsAscending p.message.fields = (message_at T valid i p.message at).ascend in
    let found : field_at p.message.fields n ≡ Some p.field = subst (λ k. field_at p.message.fields k ≡ Some p.field) p.numbered (field_found p.message.fields up p.field p.has) in
    print_of T i n p.message at ∙ ap (option_map (field_text T p.message)) found ∙ ap Some p.printed

pub is_prints : (T : Table) (i n : ℕ) (t : FieldText) → printed_at T i n ≡ Some t → IsPrintedAs T (message_name T i) n t
is_prints T i n t e = option_and_then_some (λ m. printed_in T m n) (slice_get T.messages i) t e (λ m at is.
    let field : IsMapped (field_text T m) (field_at m.fields n) t = mapped (field_text T m) (field_at m.fields n) t is in
    let known : IsFound m.fields n field.value = field_known m.fields n field.value field.is in
    record {
      message = m;
      field = field.value;
      known = is_in T i m at;
      named = sym (name_at T i m at);
      has = known.has;
      numbered = known.numbered;
      printed = field.gives;
    })

-- the print of the field at an index of the message
pub own_print : (T : Table) → IsValid T → (i : ℕ) (m : Message) → slice_get T.messages i ≡ Some m → (k : ℕ) (d : Field) → k < length m.fields
    → printed_at T i (get_or m.fields k d).number ≡ Some (field_text T m (get_or m.fields k d))
own_print T valid i m at k d within =
    print_of T i (get_or m.fields k d).number m at
    ∙ ap (option_map (field_text T m)) (field_found m.fields (message_at T valid i m at).ascend (get_or m.fields k d) (Contains-get_or m.fields k d within))

-- a number that is printed is that of a field at an index
pub record StandsIn (m : Message) (n : ℕ) : Type 0 where
  pub place : ℕ
  pub field : Field
  pub within : place < length m.fields
  pub is : get_or m.fields place field ≡ field
  pub numbered : field.number ≡ n

pub stands_in : (T : Table) (i n : ℕ) (m : Message) (t : FieldText) → slice_get T.messages i ≡ Some m → printed_at T i n ≡ Some t → StandsIn m n
stands_in T i n m t at e =
    let field : IsMapped (field_text T m) (field_at m.fields n) t = mapped (field_text T m) (field_at m.fields n) t (sym (print_of T i n m at) ∙ e) in
    let known : IsFound m.fields n field.value = field_known m.fields n field.value field.is in
    record { place = known.has.0; field = field.value; within = known.has.1; is = known.has.2; numbered = known.numbered }

-- ---- what differs

pub other_is : (T U : Table) → IsValid T → IsValid U → (service : List ℕ) (i j n : ℕ) → IsPair T U i j → IsDifference T U service (message_name T i) n → IsPrintedDifferently T U i j n
other_is T U valid_T valid_U service i j n pair d = record {
  ours = d.ours;
  theirs = d.theirs;
  ours_prints = prints_is T valid_T i n d.ours pair.ours d.ours_prints;
  theirs_prints = prints_is U valid_U j n d.theirs pair.theirs (subst (λ (name : List ℕ). IsPrintedAs U name n d.theirs) pair.same d.theirs_prints);
  other = d.other;
}

pub is_other : (T U : Table) (service : List ℕ) (i j n : ℕ) → IsPair T U i j
    → IsReachedByBoth T U service (message_name T i) → IsPrintedDifferently T U i j n → IsDifference T U service (message_name T i) n
is_other T U service i j n pair reached p = record {
  reached = reached;
  ours = p.ours;
  theirs = p.theirs;
  ours_prints = is_prints T i n p.ours p.ours_prints;
  theirs_prints = subst (λ (name : List ℕ). IsPrintedAs U name n p.theirs) (sym pair.same) (is_prints U j n p.theirs p.theirs_prints);
  other = p.other;
}

-- ---- where a pair leads

pub leads_reach : (T U : Table) (service : List ℕ) (i j : ℕ) (type : List ℕ) → IsPair T U i j
    → IsReachedByBoth T U service (message_name T i) → HasFieldOfType T U i j type → IsReachedByBoth T U service type
leads_reach T U service i j type pair reached l =
    through (message_name T i) type l.number l.ours l.theirs reached (is_prints T i l.number l.ours l.ours_prints)
    (subst (λ (name : List ℕ). IsPrintedAs U name l.number l.theirs) (sym pair.same) (is_prints U j l.number l.theirs l.theirs_prints)) l.our_type l.their_type

pub shared_leads : (T U : Table) → IsValid T → (i j : ℕ) (m n : Message) → slice_get T.messages i ≡ Some m
    → slice_get U.messages j ≡ Some n → (k : ℕ) (d : Field) → k < length m.fields
    → (type : List ℕ) → IsShared T U (get_or m.fields k d) n type → HasFieldOfType T U i j type
shared_leads T U valid i j m n at_m at_n k d within type s = record {
  number = (get_or m.fields k d).number;
  ours = field_text T m (get_or m.fields k d);
  theirs = field_text U n s.known;
  ours_prints = own_print T valid i m at_m k d within;
  theirs_prints = print_of U j (get_or m.fields k d).number n at_n ∙ ap (option_map (field_text U n)) s.is;
  our_type = s.types.ours;
  their_type = s.types.theirs;
}

pub leads_shared : (T U : Table) → IsValid T → (i j : ℕ) (m n : Message) → slice_get T.messages i ≡ Some m
    → slice_get U.messages j ≡ Some n → (k : ℕ) (d : Field) → k < length m.fields
    → (type : List ℕ) (l : HasFieldOfType T U i j type) → l.number ≡ (get_or m.fields k d).number → IsShared T U (get_or m.fields k d) n type
leads_shared T U valid i j m n at_m at_n k d within type l numbered =
    let theirs : IsMapped (field_text U n) (field_at n.fields l.number) l.theirs =
    mapped (field_text U n) (field_at n.fields l.number) l.theirs (sym (print_of U j l.number n at_n)
    ∙ l.theirs_prints) in
    let ours : field_text T m (get_or m.fields k d) ≡ l.ours =
    same_Some (field_text T m (get_or m.fields k d)) l.ours (sym (own_print T valid i m at_m k d within) ∙ ap (printed_at T i) (sym numbered) ∙ l.ours_prints) in
    record {
      known = theirs.value;
      is = ap (field_at n.fields) (sym numbered) ∙ theirs.is;
      types = record {
        ours = ap (λ (t : FieldText). t.kind) ours ∙ l.our_type;
        theirs = ap (λ (t : FieldText). t.kind) theirs.gives ∙ l.their_type;
      };
    }

-- ---- the walk over the fields of a pair

pub field_other : (T U : Table) → IsValid T → (i j : ℕ) (m n : Message) → slice_get T.messages i ≡ Some m
    → slice_get U.messages j ≡ Some n → (k : ℕ) (d : Field) → k < length m.fields
    → IsOtherPrint T U m (get_or m.fields k d) n → IsPrintedDifferently T U i j (get_or m.fields k d).number
field_other T U valid i j m n at_m at_n k d within o = record {
  ours = field_text T m (get_or m.fields k d);
  theirs = field_text U n o.known;
  ours_prints = own_print T valid i m at_m k d within;
  theirs_prints = print_of U j (get_or m.fields k d).number n at_n ∙ ap (option_map (field_text U n)) o.is;
  other = o.other_text;
}

pub other_field : (T U : Table) → IsValid T → (i j : ℕ) (m n : Message) → slice_get T.messages i ≡ Some m
    → slice_get U.messages j ≡ Some n → (k : ℕ) (d : Field) → k < length m.fields
    → IsPrintedDifferently T U i j (get_or m.fields k d).number → IsOtherPrint T U m (get_or m.fields k d) n
other_field T U valid i j m n at_m at_n k d within p =
    let number = (get_or m.fields k d).number in
    let theirs : IsMapped (field_text U n) (field_at n.fields (get_or m.fields k d).number) p.theirs =
    mapped (field_text U n) (field_at n.fields (get_or m.fields k d).number) p.theirs (sym (print_of U j (get_or m.fields k d).number n at_n) ∙ p.theirs_prints) in
    let ours : field_text T m (get_or m.fields k d) ≡ p.ours = same_Some (field_text T m (get_or m.fields k d)) p.ours (sym (own_print T valid i m at_m k d within) ∙ p.ours_prints) in
    record { known = theirs.value; is = theirs.is; other_text = λ e. p.other (sym ours ∙ e ∙ theirs.gives) }

-- no field below this index is printed differently
abbrev pub AreSameBelow : Table → Table → ℕ → ℕ → List Field → ℕ → Type 0
AreSameBelow T U i j fs at = (k : ℕ) (d : Field) → k < at → IsPrintedDifferently T U i j (get_or fs k d).number → ⊥

pub no_other : (T U : Table) (i j : ℕ) (m : Message) → slice_get T.messages i ≡ Some m
    → AreSameBelow T U i j m.fields (length m.fields) → (n : ℕ) → IsPrintedDifferently T U i j n → ⊥
no_other T U i j m at same n p =
    let s : StandsIn m n = stands_in T i n m p.ours at p.ours_prints in
    same s.place s.field s.within (subst (IsPrintedDifferently T U i j) (sym s.numbered ∙ ap (λ (f : Field). f.number) (sym s.is)) p)

pub least_other : (T U : Table) → IsValid T → (i j : ℕ) (m n : Message) → slice_get T.messages i ≡ Some m
    → slice_get U.messages j ≡ Some n → (k : ℕ) (d : Field) → k < length m.fields
    → AreSameBelow T U i j m.fields k → IsOtherPrint T U m (get_or m.fields k d) n → IsLeastDifference T U i j (get_or m.fields k d).number
least_other T U valid i j m n at_m at_n k d within same o = record {
  here = field_other T U valid i j m n at_m at_n k d within o;
  least = λ number p.
      let s : StandsIn m number = stands_in T i number m p.ours at_m p.ours_prints in
      let numbered : (get_or m.fields s.place s.field).number ≡ number = ap (λ (f : Field). f.number) s.is ∙ s.numbered in
      elim (cases_lt s.place k) [
        | inl below ↦ absurd (same s.place s.field below (subst (IsPrintedDifferently T U i j) (sym numbered) p))
        | inr above ↦ elim (cases_order k s.place) [
          | inl equal ↦
              let same_field : (get_or m.fields k d).number ≡ (get_or m.fields s.place s.field).number =
              ap (λ (f : Field). f.number) (get_or_default m.fields k d s.field within ∙ ap (λ at. get_or m.fields at s.field) equal) in
              omega (arith, same_field, numbered)
          | inr other ↦ elim other [
            | inl lower ↦
                let rise : (get_or m.fields k s.field).number < (get_or m.fields s.place s.field).number =
                numbers_rise m.fields (message_at T valid i m at_m).ascend k s.place s.field lower s.within in
                let same_field : (get_or m.fields k d).number ≡ (get_or m.fields k s.field).number = ap (λ (f : Field). f.number) (get_or_default m.fields k d s.field within) in
                omega (arith, rise, same_field, numbered)
            | inr higher ↦ absurd (omega (arith, above, higher))
          ]
        ]
      ];
}

-- the field that is read at an index
field_here : (gs fs : List Field) (k : ℕ) (f : Field) → fs ≡ gs → f ≡ get_or fs k f → get_or gs k f ≡ f
field_here gs fs k f all at = ap (λ (hs : List Field). get_or hs k f) (sym all) ∙ sym at

pub least_at : (T U : Table) → IsValid T → (i j : ℕ) (m n : Message) → slice_get T.messages i ≡ Some m → slice_get U.messages j ≡ Some n
    → (fs : List Field) → fs ≡ m.fields → (k : ℕ) (f : Field) → k < length fs → f ≡ get_or fs k f
    → AreSameBelow T U i j m.fields k → IsOtherPrint T U m f n → IsLeastDifference T U i j f.number
least_at T U valid i j m n at_m at_n fs all k f within at same o =
    let here : get_or m.fields k f ≡ f = field_here m.fields fs k f all at in
    subst (λ (g : Field). IsLeastDifference T U i j g.number) here
    (least_other T U valid i j m n at_m at_n k f (omega (arith, within, ap length all)) same (subst (λ (g : Field). IsOtherPrint T U m g n) (sym here) o))

pub same_on : (T U : Table) → IsValid T → (i j : ℕ) (m n : Message) → slice_get T.messages i ≡ Some m → slice_get U.messages j ≡ Some n
    → (fs : List Field) → fs ≡ m.fields → (k : ℕ) (f : Field) → k < length fs → f ≡ get_or fs k f
    → AreSameBelow T U i j m.fields k → (IsOtherPrint T U m f n → ⊥) → AreSameBelow T U i j m.fields (k + 1)
same_on T U valid i j m n at_m at_n fs all k f within at same apart q d below p = elim (cases_eq q k) [
  | inl equal ↦
      let inside : k < length m.fields = omega (arith, within, ap length all) in
      let one : get_or m.fields q d ≡ get_or m.fields k f = ap (λ x. get_or m.fields x d) equal ∙ get_or_default m.fields k d f inside in
      let p' : IsPrintedDifferently T U i j (get_or m.fields k f).number = subst (λ (g : Field). IsPrintedDifferently T U i j g.number) one p in
      apart (subst (λ (g : Field). IsOtherPrint T U m g n) (field_here m.fields fs k f all at) (other_field T U valid i j m n at_m at_n k f inside p'))
  | inr other ↦ same q d (omega (arith, below, other)) p
]

-- where a field that is read at an index leads, and the converse
pub leads_at : (T U : Table) → IsValid T → (i j : ℕ) (m n : Message) → slice_get T.messages i ≡ Some m → slice_get U.messages j ≡ Some n
    → (fs : List Field) → fs ≡ m.fields → (k : ℕ) (f : Field) → k < length fs → f ≡ get_or fs k f → (type : List ℕ) → IsShared T U f n type → HasFieldOfType T U i j type
leads_at T U valid i j m n at_m at_n fs all k f within at type s =
    let here : get_or m.fields k f ≡ f = field_here m.fields fs k f all at in
    shared_leads T U valid i j m n at_m at_n k f (omega (arith, within, ap length all)) type (subst (λ (g : Field). IsShared T U g n type) (sym here) s)

pub shared_at : (T U : Table) → IsValid T → (i j : ℕ) (m n : Message) → slice_get T.messages i ≡ Some m → slice_get U.messages j ≡ Some n
    → (fs : List Field) → fs ≡ m.fields → (k : ℕ) (f : Field) → k < length fs → f ≡ get_or fs k f
    → (type : List ℕ) (l : HasFieldOfType T U i j type) → l.number ≡ f.number → IsShared T U f n type
shared_at T U valid i j m n at_m at_n fs all k f within at type l numbered =
    let here : get_or m.fields k f ≡ f = field_here m.fields fs k f all at in
    subst (λ (g : Field). IsShared T U g n type) here
    (leads_shared T U valid i j m n at_m at_n k f (omega (arith, within, ap length all)) type l (numbered ∙ ap (λ (g : Field). g.number) (sym here)))
