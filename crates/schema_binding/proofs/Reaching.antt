-- How marks are made, and that in the end they are exactly the types that both tables reach.
use Rattle.std.proofs.Common.{◌≡◌, ◌≢◌, ℕ, ◌+◌, ◌<◌, ◌≤◌, cond, List, [], ◌∷◌, ◌++◌, length, get_or, set}
use Rattle.std.proofs.Common.{replicate, Option, Some, None, inl, inr, refl, sym, ap, subst, ◌∙◌, arith, length-set}
use Rattle.std.proofs.Common.{get_or-set_same, get_or-set_other, append-nil, append_assoc, length-append}
use Rattle.std.specs.Prelude.{true, false, All, Contains, slice_get, count_by, is_none, is_some, MatchOption}
use Rattle.std.proofs.lemmas.Bool.{cases_eq, cases_lt, false≢true, true≢false}
use Rattle.std.proofs.lemmas.List.{get_or_default, get_or-replicate, get_or_past, length-replicate, get_or_append_left, length_push}
use Rattle.std.proofs.lemmas.List.Elements.{All-push, All-weaker, All-contains, Contains-push, Contains-append_left}
use Rattle.std.proofs.lemmas.List.Sums.{sum_by-set}
use Rattle.std.proofs.lemmas.Option.{none-some, same_Some}
use Rattle.mrpc_table.specs.Text.{message_name}
use Rattle.mrpc_table.specs.Valid.{IsValid, IsMethod}
use Rattle.mrpc_table.specs.declared.table.Field.{Field}
use Rattle.mrpc_table.specs.declared.table.Kind.TheVariants.{Message as OfMessage}
use Rattle.mrpc_table.specs.declared.table.Message.{Message}
use Rattle.mrpc_table.specs.declared.table.Method.{Method}
use Rattle.mrpc_table.specs.declared.table.Table.{Table}
use Rattle.schema_binding.specs.Agreement.{Signature, signature, methods_of, message_kind_text, IsPrintedAs, IsReachedByBoth, as_input, as_output, through}
use Rattle.schema_binding.specs.Places.{method_at, AreOfType, IsPair, IsShared, HasFieldOfType, IsPrintedDifferently, IsLeastDifference}
use Rattle.schema_binding.specs.Reach.{partner_of, IsMarkedMessage, HasMarkedName, HasMarkedBoth, IsListed, IsPaired, HasOnlyReached}
use Rattle.schema_binding.specs.Reach.{HasGrown, HasMarked, HasGained, IsInMethods, HasMarkedMethods, HasMarkedNext, IsClosedUnderFields, IsSameIn}
use Rattle.schema_binding.specs.Reach.{IsLeastIn}
use Rattle.schema_binding.specs.declared.reach.ReachedPairs.{ReachedPairs}
use Rattle.schema_binding.proofs.Prints.{prints_is, leads_reach, shared_at, StandsIn, stands_in}
use Rattle.schema_binding.proofs.Signatures.{IsAlso, also, at_index, StandsAt, index_of}

-- ---- marks

all_none : (n i : ℕ) → get_or {A = Option ℕ} (replicate n None) i None ≡ None
all_none n i = elim (cases_lt i n) [
  | inl below ↦ get_or-replicate n i None None below
  | inr past ↦ get_or_past (replicate n None) i None (let long : length {A = Option ℕ} (replicate n None) ≡ n = length-replicate n None in omega (arith, long))
]

pub grows_itself : (r : ReachedPairs) → HasGrown r r
grows_itself r = record { same = λ i j e. e; front = ([], sym (append-nil r.found.items)) }

pub grows_on : (a b c : ReachedPairs) → HasGrown a b → HasGrown b c → HasGrown a c
grows_on a b c h k = record {
  same = λ i j e. k.same i j (h.same i j e);
  front = (h.front.0 ++ k.front.0, k.front.1 ∙ ap (λ (ps : List (ℕ × ℕ)). ps ++ k.front.0) h.front.1 ∙ append_assoc a.found.items h.front.0 k.front.0);
}

pub name_stays : (T : Table) (a b : ReachedPairs) (name : List ℕ) → HasGrown a b → HasMarkedName T a name → HasMarkedName T b name
name_stays T a b name h has = (has.0, (has.1.0, h.same has.0 has.1.0 has.1.1), has.2)

-- a pair that wasn't marked is marked
pub marks_new : (old new : ReachedPairs) (our their : ℕ) → our < length old.partners.items → partner_of old our ≡ None
    → new.partners.items ≡ set old.partners.items our (Some their) → new.found.items ≡ old.found.items ++ (our, their) ∷ [] → HasMarked old our their new
marks_new old new our their within free partners found =
    let here : partner_of new our ≡ Some their = ap (λ ps. get_or ps our None) partners ∙ get_or-set_same old.partners.items our (Some their) None within in
    let others : (i : ℕ) → i ≢ our → partner_of new i ≡ partner_of old i =
    λ i other. ap (λ ps. get_or ps i None) partners ∙ get_or-set_other old.partners.items our i
    (Some their) None other in
    let kept : (i j : ℕ) → partner_of old i ≡ Some j → partner_of new i ≡ Some j =
    λ i j e. others i (λ same. none-some j (sym free ∙ ap (partner_of old) (sym same) ∙ e)) ∙ e in
    record {
      grows = record { same = kept; front = ((our, their) ∷ [], found) };
      room = ap length partners ∙ length-set old.partners.items our (Some their);
      marked = (their, here);
      only = λ i j e. elim (cases_eq i our) [
        | inl same ↦ inr (same, same_Some j their (sym e ∙ ap (partner_of new) same ∙ here))
        | inr other ↦ inl (sym (others i other) ∙ e)
      ];
      listed = λ h. record {
        listed = λ i j e. elim (cases_eq i our) [
          | inl same ↦
              let partner : j ≡ their = same_Some j their (sym e ∙ ap (partner_of new) same ∙ here) in
              subst (λ (ps : List (ℕ × ℕ)). Contains ps (i, j)) (sym found)
              (subst (λ (p : ℕ × ℕ). Contains (old.found.items ++ (our, their) ∷ []) p)
              (λ x. (sym same x, sym partner x)) (Contains-push {X = ℕ × ℕ} old.found.items (our, their)))
          | inr other ↦
              subst (λ (ps : List (ℕ × ℕ)). Contains ps (i, j)) (sym found)
              (Contains-append_left {X = ℕ × ℕ} old.found.items ((our, their) ∷ []) (i, j) (h.listed i j (sym (others i other) ∙ e)))
        ];
        marked =
            let P : ℕ × ℕ → Type 0 = λ p. partner_of new p.0 ≡ Some p.1 in
            let Q : ℕ × ℕ → Type 0 = λ p. partner_of old p.0 ≡ Some p.1 in
            subst (All (λ (p : ℕ × ℕ). partner_of new p.0 ≡ Some p.1)) (sym found)
            (All-push (λ (p : ℕ × ℕ). partner_of new p.0 ≡ Some p.1) old.found.items (our, their)
            (All-weaker (λ (p : ℕ × ℕ). partner_of old p.0 ≡ Some p.1) (λ (p : ℕ × ℕ). partner_of new p.0 ≡ Some p.1)
            (λ p e. kept p.0 p.1 e) old.found.items h.marked) here);
        count =
            let longer : length new.found.items ≡ length old.found.items + 1 = ap length found ∙ length_push old.found.items (our, their) in
            let room : length new.partners.items ≡ length old.partners.items = ap length partners ∙ length-set old.partners.items our (Some their) in
            let taken : count_by is_none (set old.partners.items our (Some their)) + cond (is_none (partner_of old our)) 1 0 ≡ count_by is_none old.partners.items + 0 =
            sum_by-set (λ o. cond (is_none o) 1 0) old.partners.items our (Some their) None within in
            let was_free : ◌≡◌ {A = ℕ} (cond (is_none (partner_of old our)) 1 0) 1 = ap (λ (o : Option ℕ). cond (is_none o) 1 0) free in
            let fewer : count_by is_none new.partners.items ≡ count_by is_none (set old.partners.items our (Some their)) = ap (count_by is_none) partners in
            omega (arith, longer, room, taken, was_free, fewer, h.count);
      };
    }

-- a marked pair stays marked
pub marks_again : (old : ReachedPairs) (our their j : ℕ) → partner_of old our ≡ Some j → HasMarked old our their old
marks_again old our their j e = record {
  grows = grows_itself old;
  room = refl;
  marked = (j, e);
  only = λ i k h. inl h;
  listed = λ h. h;
}

-- ---- gains

pub gains_itself : (T U : Table) (r : ReachedPairs) (Why : List ℕ → Type 0) → IsPaired T U r → HasGained T U r r Why
gains_itself T U r Why paired = record { paired = paired; grows = grows_itself r; why = λ i j e. inl e }

pub gains_on : (T U : Table) (a b c : ReachedPairs) (W V Why : List ℕ → Type 0) → ((type : List ℕ) → W type → Why type) → ((type : List ℕ) → V type → Why type)
    → HasGained T U a b W → HasGained T U b c V → HasGained T U a c Why
gains_on T U a b c W V Why left right h k = record {
  paired = k.paired;
  grows = grows_on a b c h.grows k.grows;
  why = λ i j e. elim (k.why i j e) [
    | inl before ↦ elim (h.why i j before) [ inl old ↦ inl old | inr new ↦ inr (left (message_name T i) new) ]
    | inr new ↦ inr (right (message_name T i) new)
  ];
}

-- for a further reason
pub gains_for : (T U : Table) (a b : ReachedPairs) (W Why : List ℕ → Type 0) → ((type : List ℕ) → W type → Why type) → HasGained T U a b W → HasGained T U a b Why
gains_for T U a b W Why there h = record {
  paired = h.paired;
  grows = h.grows;
  why = λ i j e. elim (h.why i j e) [ inl before ↦ inl before | inr new ↦ inr (there (message_name T i) new) ];
}

pub mark_gains : (T U : Table) (old new : ReachedPairs) (our their : ℕ) (Why : List ℕ → Type 0) → IsPaired T U old → IsPair T U our their → Why (message_name T our)
    → HasMarked old our their new → HasGained T U old new Why
mark_gains T U old new our their Why paired pair why m = record {
  paired = record {
    room = m.room ∙ paired.room;
    pairs = λ i j e. elim (m.only i j e) [
      | inl before ↦ paired.pairs i j before
      | inr here ↦ subst (λ k. IsPair T U k j) (sym here.0) (subst (IsPair T U our) (sym here.1) pair)
    ];
    listed = m.listed paired.listed;
  };
  grows = m.grows;
  why = λ i j e. elim (m.only i j e) [
    | inl before ↦ inl before
    | inr here ↦ inr (subst (λ k. Why (message_name T k)) (sym here.0) why)
  ];
}

-- ---- kinds

pub of_both : (T U : Table) (i j : ℕ) → message_name T i ≡ message_name U j → AreOfType T U (OfMessage i) (OfMessage j) (message_name T i)
of_both T U i j same = record { ours = refl; theirs = ap message_kind_text (sym same) }

-- ---- methods

pub input_pair : (T U : Table) (service : List ℕ) → methods_of T service ≡ methods_of U service
    → (i : ℕ) (m n : Method) → method_at T service i ≡ Some m → method_at U service i ≡ Some n
    → IsMethod T m → IsMethod U n → IsPair T U m.input n.input
input_pair T U service same i m n at_m at_n is_m is_n =
    let h : IsAlso T U service i m = also T U service same i m at_m in
    let e : h.other ≡ n = same_Some h.other n (sym h.is ∙ at_n) in
    record { ours = is_m.input; theirs = is_n.input; same = ap (λ (s : Signature). s.input) h.same ∙ ap (λ (o : Method). message_name U o.input) e }

pub output_pair : (T U : Table) (service : List ℕ) → methods_of T service ≡ methods_of U service
    → (i : ℕ) (m n : Method) → method_at T service i ≡ Some m → method_at U service i ≡ Some n
    → IsMethod T m → IsMethod U n → IsPair T U m.output n.output
output_pair T U service same i m n at_m at_n is_m is_n =
    let h : IsAlso T U service i m = also T U service same i m at_m in
    let e : h.other ≡ n = same_Some h.other n (sym h.is ∙ at_n) in
    record { ours = is_m.output; theirs = is_n.output; same = ap (λ (s : Signature). s.output) h.same ∙ ap (λ (o : Method). message_name U o.output) e }

pub input_in : (T : Table) (service : List ℕ) (i : ℕ) (m : Method) → method_at T service i ≡ Some m → IsInMethods T service (message_name T m.input)
input_in T service i m at = (signature T (i, m), at_index T service i m at, inl refl)

pub output_in : (T : Table) (service : List ℕ) (i : ℕ) (m : Method) → method_at T service i ≡ Some m → IsInMethods T service (message_name T m.output)
output_in T service i m at = (signature T (i, m), at_index T service i m at, inr refl)

pub never_alone : (T U : Table) (service : List ℕ) → methods_of T service ≡ methods_of U service
    → (i : ℕ) (m : Method) → method_at T service i ≡ Some m → method_at U service i ≡ None → ⊥
never_alone T U service same i m at none = let h : IsAlso T U service i m = also T U service same i m at in none-some h.other (sym none ∙ h.is)

-- the methods below an index are marked
abbrev pub HasMethodsBelow : Table → List ℕ → ReachedPairs → ℕ → Type 0
HasMethodsBelow T service r at = (k : ℕ) (m : Method) → k < at → method_at T service k ≡ Some m → HasMarkedBoth T r m

pub both_stay : (T : Table) (a b : ReachedPairs) (m : Method) → HasGrown a b → HasMarkedBoth T a m → HasMarkedBoth T b m
both_stay T a b m h has = record { input = name_stays T a b (message_name T m.input) h has.input; output = name_stays T a b (message_name T m.output) h has.output }

pub methods_more : (T : Table) (service : List ℕ) (a b : ReachedPairs) (i : ℕ) → HasGrown a b → HasMethodsBelow T service a i
    → ((m : Method) → method_at T service i ≡ Some m → HasMarkedBoth T b m)
    → HasMethodsBelow T service b (i + 1)
methods_more T service a b i grows below here k m less e = elim (cases_eq k i) [
  | inl same ↦ here m (ap (method_at T service) (sym same) ∙ e)
  | inr other ↦ both_stay T a b m grows (below k m (omega (arith, less, other)) e)
]

-- both are marked, the input first
pub both_marked : (T : Table) (old mid new : ReachedPairs) (m : Method) (a b : ℕ) → HasMarked old m.input a mid → HasMarked mid m.output b new → HasMarkedBoth T new m
both_marked T old mid new m a b h k = record {
  input = name_stays T mid new (message_name T m.input) k.grows (m.input, h.marked, refl);
  output = (m.output, k.marked, refl);
}

pub all_methods : (T : Table) (service : List ℕ) (r : ReachedPairs) → HasMethodsBelow T service r (length T.methods) → HasMarkedMethods T service r
all_methods T service r has type h =
    let at : StandsAt T service h.0 = index_of T service h.0 h.1 in
    let both : HasMarkedBoth T r at.method = has at.place at.method at.within at.is in
    elim h.2 [
      | inl input ↦ subst (HasMarkedName T r) (ap (λ (s : Signature). s.input) at.same ∙ input) both.input
      | inr output ↦ subst (HasMarkedName T r) (ap (λ (s : Signature). s.output) at.same ∙ output) both.output
    ]

-- ---- what marked pairs lead to

pub next_stays : (T U : Table) (a b : ReachedPairs) (i j : ℕ) → HasGrown a b → HasMarkedNext T U a i j → HasMarkedNext T U b i j
next_stays T U a b i j h has type l = name_stays T a b type h (has type l)

-- the types that the fields below an index lead to are marked
abbrev pub HasNextBelow : Table → Table → ReachedPairs → ℕ → ℕ → List Field → ℕ → Type 0
HasNextBelow T U r i j fs at = (k : ℕ) (d : Field) (type : List ℕ) (to : HasFieldOfType T U i j type) → k < at → to.number ≡ (get_or fs k d).number → HasMarkedName T r type

pub next_more : (T U : Table) → IsValid T → (i j : ℕ) (m n : Message) → slice_get T.messages i ≡ Some m → slice_get U.messages j ≡ Some n
    → (fs : List Field) → fs ≡ m.fields → (k : ℕ) (f : Field) → k < length fs → f ≡ get_or fs k f → (a b : ReachedPairs) → HasGrown a b
    → HasNextBelow T U a i j fs k → ((type : List ℕ) → IsShared T U f n type → HasMarkedName T b type) → HasNextBelow T U b i j fs (k + 1)
next_more T U valid i j m n at_m at_n fs all k f within at a b grows below here q d type to less numbered = elim (cases_eq q k) [
  | inl equal ↦
      let one : get_or fs q d ≡ f = ap (λ x. get_or fs x d) equal ∙ get_or_default fs k d f within ∙ sym at in
      here type (shared_at T U valid i j m n at_m at_n fs all k f within at type to (numbered ∙ ap (λ (g : Field). g.number) one))
  | inr other ↦ name_stays T a b type grows (below q d type to (omega (arith, less, other)) numbered)
]

pub next_all : (T U : Table) (i j : ℕ) (m : Message) → slice_get T.messages i ≡ Some m → (fs : List Field) → fs ≡ m.fields → (r : ReachedPairs) (at : ℕ) → length fs ≤ at
    → HasNextBelow T U r i j fs at → HasMarkedNext T U r i j
next_all T U i j m at_m fs all r at past below type l =
    let s : StandsIn m l.number = stands_in T i l.number m l.ours at_m l.ours_prints in
    below s.place s.field type l (omega (arith, s.within, past, ap length all))
    (sym s.numbered ∙ ap (λ (g : Field). g.number) (sym s.is) ∙ ap (λ (gs : List Field). (get_or gs s.place s.field).number) (sym all))

-- all types that the pairs below an index in the list lead to are marked
abbrev pub IsClosedBelow : Table → Table → ReachedPairs → ℕ → Type 0
IsClosedBelow T U r at = (k : ℕ) (d : ℕ × ℕ) → k < at → HasMarkedNext T U r (get_or r.found.items k d).0 (get_or r.found.items k d).1

pub closed_on : (T U : Table) (a b : ReachedPairs) (at : ℕ) → HasGrown a b → at ≤ length a.found.items → IsClosedBelow T U a at → IsClosedBelow T U b at
closed_on T U a b at h within closed k d below =
    let same : get_or b.found.items k d ≡ get_or a.found.items k d =
    ap (λ (ps : List (ℕ × ℕ)). get_or ps k d) h.front.1 ∙ get_or_append_left a.found.items h.front.0 d k (omega (arith, below, within)) in
    subst (λ (p : ℕ × ℕ). HasMarkedNext T U b p.0 p.1) (sym same) (next_stays T U a b (get_or a.found.items k d).0 (get_or a.found.items k d).1 h (closed k d below))

pub closed_more : (T U : Table) (a b : ReachedPairs) (at : ℕ) (p : ℕ × ℕ) → HasGrown a b → at < length a.found.items
    → p ≡ get_or a.found.items at p → IsClosedBelow T U a at → HasMarkedNext T U b p.0 p.1
    → IsClosedBelow T U b (at + 1)
closed_more T U a b at p h within here closed next k d below = elim (cases_eq k at) [
  | inl equal ↦
      let same : get_or b.found.items k d ≡ p =
      ap (λ x. get_or b.found.items x d) equal ∙ ap (λ (ps : List (ℕ × ℕ)). get_or ps at d) h.front.1 ∙ get_or_append_left a.found.items h.front.0 d at within
      ∙ get_or_default a.found.items at d p within ∙ sym here in
      subst (λ (q : ℕ × ℕ). HasMarkedNext T U b q.0 q.1) (sym same) next
  | inr other ↦ closed_on T U a b at h (omega (arith, within)) closed k d (omega (arith, below, other))
]

-- a pair that is in the list
pub listed_at : (T U : Table) (r : ReachedPairs) → IsPaired T U r → (k : ℕ) (p : ℕ × ℕ) → k < length r.found.items
    → p ≡ get_or r.found.items k p → partner_of r p.0 ≡ Some p.1
listed_at T U r paired k p within here =
    All-contains (λ (q : ℕ × ℕ). partner_of r q.0 ≡ Some q.1) r.found.items p paired.listed.marked (k, within, sym here)

pub no_fewer : (a b : ReachedPairs) → HasGrown a b → length a.found.items ≤ length b.found.items
no_fewer a b h = let long : length b.found.items ≡ length a.found.items + length h.front.0 = ap length h.front.1 ∙ length-append a.found.items h.front.0 in omega (arith, long)

pub closed_all : (T U : Table) (r : ReachedPairs) (at : ℕ) → IsListed r → length r.found.items ≤ at → IsClosedBelow T U r at → IsClosedUnderFields T U r
closed_all T U r at listed past closed i j e =
    let has = listed.listed i j e in
    let within : has.0 < length r.found.items = has.1 in
    subst (λ (p : ℕ × ℕ). HasMarkedNext T U r p.0 p.1) has.2 (closed has.0 (i, j) (omega (arith, within, past)))

pub reached_on : (T U : Table) (service : List ℕ) (a b : ReachedPairs) (i j : ℕ) → IsPair T U i j → IsMarkedMessage a i
    → HasOnlyReached T U service a → HasGained T U a b (HasFieldOfType T U i j) → HasOnlyReached T U service b
reached_on T U service a b i j pair marked only gains k has = elim (gains.why k has.0 has.1) [
  | inl before ↦ only k (has.0, before)
  | inr why ↦ leads_reach T U service i j (message_name T k) pair (only i marked) why
]

-- ---- at the end

pub none_marked : (r : ReachedPairs) (n : ℕ) → r.partners.items ≡ replicate n None → (i : ℕ) → IsMarkedMessage r i → ⊥
none_marked r n no_partners i h = none-some h.0 (sym (ap (λ (ps : List (Option ℕ)). get_or ps i None) no_partners ∙ all_none n i) ∙ h.1)

pub methods_reached : (T U : Table) (service : List ℕ) (a b : ReachedPairs) → methods_of T service ≡ methods_of U service → ((i : ℕ) → IsMarkedMessage a i → ⊥)
    → HasGained T U a b (IsInMethods T service) → HasOnlyReached T U service b
methods_reached T U service a b same none gains k has = elim (gains.why k has.0 has.1) [
  | inl before ↦ absurd (none k (has.0, before))
  | inr why ↦ elim why.2 [
    | inl input ↦ subst (IsReachedByBoth T U service) input (as_input why.0 why.1 (subst (λ (ss : List Signature). Contains ss why.0) same why.1))
    | inr output ↦ subst (IsReachedByBoth T U service) output (as_output why.0 why.1 (subst (λ (ss : List Signature). Contains ss why.0) same why.1))
  ]
]

pub all_reached : (T U : Table) (service : List ℕ) (r : ReachedPairs) → IsValid T → IsValid U → IsPaired T U r → HasMarkedMethods T service r → IsClosedUnderFields T U r
    → (type : List ℕ) → IsReachedByBoth T U service type → HasMarkedName T r type
all_reached T U service r valid_T valid_U paired methods closed type (as_input s ours theirs) = methods s.input (s, ours, inl refl)
all_reached T U service r valid_T valid_U paired methods closed type (as_output s ours theirs) = methods s.output (s, ours, inr refl)
all_reached T U service r valid_T valid_U paired methods closed type (through outer inner number ours theirs reached prints other our_type their_type) =
    let has : HasMarkedName T r outer = all_reached T U service r valid_T valid_U paired methods closed outer reached in
    let pair : IsPair T U has.0 has.1.0 = paired.pairs has.0 has.1.0 has.1.1 in
    closed has.0 has.1.0 has.1.1 inner (record {
      number = number;
      ours = ours;
      theirs = theirs;
      ours_prints = prints_is T valid_T has.0 number ours pair.ours (subst (λ (name : List ℕ). IsPrintedAs T name number ours) (sym has.2) prints);
      theirs_prints = prints_is U valid_U has.1.0 number theirs pair.theirs (subst (λ (name : List ℕ). IsPrintedAs U name number theirs) (sym has.2 ∙ pair.same) other);
      our_type = our_type;
      their_type = their_type;
    })

-- ---- results

pub partner_is : (r : ReachedPairs) (i : ℕ) (o : Option ℕ) → i < length r.partners.items → o ≡ get_or r.partners.items i o → partner_of r i ≡ o
partner_is r i o within at = get_or_default r.partners.items i None o within ∙ sym at

pub not_marked : (r : ReachedPairs) (i : ℕ) (o : Option ℕ) → partner_of r i ≡ o → is_some o ≡ false → partner_of r i ≡ None
not_marked r i None at none = at
not_marked r i (Some j) at none = absurd (true≢false none)

-- a pair that is marked already
pub marked_again : (old : ReachedPairs) (our their : ℕ) (o : Option ℕ) → partner_of old our ≡ o → is_some o ≡ true → HasMarked old our their old
marked_again old our their None at some = absurd (false≢true some)
marked_again old our their (Some j) at some = marks_again old our their j at

pub differing_of : (T U : Table) (r : ReachedPairs) (i j : ℕ) (o : Option ℕ) → partner_of r i ≡ Some j
    → MatchOption o ((number : ℕ) → IsPrintedDifferently T U i j number → ⊥) (IsLeastDifference T U i j)
    → MatchOption o (IsSameIn T U r i) (IsLeastIn T U r i)
differing_of T U r i j None at h = λ k number e p. h number (subst (λ q. IsPrintedDifferently T U i q number) (same_Some k j (sym e ∙ at)) p)
differing_of T U r i j (Some n) at h = (j, at, h)
