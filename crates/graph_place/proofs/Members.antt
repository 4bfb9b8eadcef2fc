-- The member of a oneof that a tree has.
use Rattle.std.proofs.Common.{◌≡◌, ◌≢◌, ◌⊎◌, ℕ, ◌+◌, ◌<◌, ◌≤◌, Bool, true, false, cond, ◌==◌, List, Option, Some}
use Rattle.std.proofs.Common.{None, refl, sym, ap, subst, ◌∙◌, arith, inl, inr}
use Rattle.std.specs.Prelude.{option_map, unwrap_or}
use Rattle.std.proofs.lemmas.Bool.{eq-eqb, ne_eqb, cases_Bool, true≢false}
use Rattle.mrpc_table.specs.Node.{Node, no_fields, field, Content, content_at, AreNumbersAscending}
use Rattle.mrpc_table.specs.Normal.{field_at, members_in, membership}
use Rattle.mrpc_table.specs.declared.table.Field.{Field}
use Rattle.mrpc_table.specs.declared.table.Label.{Label}
use Rattle.mrpc_table.specs.declared.table.Label.TheVariants.{Plain, Optional, Repeated, Packed, Map, Member}
use Rattle.graph_place.specs.Content.{is_of, is_member_of, member_of}
use Rattle.graph_place.specs.Laid.{IsMemberOf}
use Rattle.graph_place.proofs.Keeping.{Each, each_both, each_above, absent}

membership_is : (l : Label) (o : ℕ) → membership l o ≡ cond (is_of o l) 1 0
membership_is (Member p) o = refl
membership_is Plain o = refl
membership_is Optional o = refl
membership_is Repeated o = refl
membership_is Packed o = refl
membership_is (Map k) o = refl

counted : (o : ℕ) (found : Option Field) → unwrap_or (option_map (λ f. membership f.label o) found) 0 ≡ cond (unwrap_or (option_map (λ f. is_of o f.label) found) false) 1 0
counted o None = refl
counted o (Some f) = membership_is f.label o

here : (fs : List Field) (o n : ℕ) (c : Content) (t : Node) (b : Bool) → is_member_of fs o n ≡ b → members_in fs o (field n c t) ≡ cond b 1 0 + members_in fs o t
here fs o n c t b is = ap (λ k. k + members_in fs o t) (counted o (field_at fs n) ∙ ap (λ x. cond x 1 0) is)

-- there is none
pub record NoMember (fs : List Field) (o : ℕ) (t : Node) (otherwise found : ℕ) : Type 0 where
  pub is : found ≡ otherwise
  pub none : Each (λ n. is_member_of fs o n ≡ false) t

no_member : (fs : List Field) (o otherwise : ℕ) (t : Node) → members_in fs o t ≡ 0 → NoMember fs o t otherwise (member_of fs o otherwise t)
no_member fs o otherwise no_fields h = record { is = refl; none = tt }
no_member fs o otherwise (field n c t) h =
    elim (cases_Bool (is_member_of fs o n)) [
      | inl holds ↦ let counts = here fs o n c t true holds in absurd (omega (arith, counts, h))
      | inr fails ↦
          let counts = here fs o n c t false fails in
          let rest = no_member fs o otherwise t (omega (arith, counts, h)) in
          let moved : member_of fs o otherwise (field n c t) ≡ member_of fs o otherwise t = ap (λ b. member_of fs o (cond b n otherwise) t) fails in
          record { is = moved ∙ rest.is; none = (fails, rest.none) }
    ]

-- there is one, with this number
pub record OneMember (fs : List Field) (o : ℕ) (t : Node) (found : ℕ) : Type 0 where
  pub content : Content
  pub at : content_at t found ≡ Some content
  pub is : is_member_of fs o found ≡ true
  pub alone : Each (λ n. is_member_of fs o n ≡ (found == n)) t

one_more : (fs : List Field) (o last n : ℕ) (c : Content) (t : Node) (found : ℕ) → is_member_of fs o n ≡ false → OneMember fs o t found → OneMember fs o (field n c t) found
one_more fs o last n c t found fails sole =
    let differ : found ≡ n → ⊥ = λ e. true≢false (sym sole.is ∙ ap (is_member_of fs o) e ∙ fails) in
    record {
      content = sole.content;
      at = ap (λ b. cond b (Some c) (content_at t found)) (ne_eqb n found (λ e. differ (sym e))) ∙ sole.at;
      is = sole.is;
      alone = (fails ∙ sym (ne_eqb found n differ), sole.alone);
    }

one_first : (fs : List Field) (o n : ℕ) (c : Content) (t : Node) (found : ℕ) → found ≡ n → is_member_of fs o n ≡ true
    → AreNumbersAscending n t → Each (λ k. is_member_of fs o k ≡ false) t → OneMember fs o (field n c t) found
one_first fs o n c t found e holds up none = record {
  content = c;
  at = ap (λ b. cond b (Some c) (content_at t found)) (eq-eqb n found (sym e));
  is = ap (is_member_of fs o) e ∙ holds;
  alone = (
    holds ∙ sym (eq-eqb found n e),
    each_both (λ k. is_member_of fs o k ≡ false) (λ k. n < k) (λ k. is_member_of fs o k ≡ (found == k)) t
        (λ k fails above. fails ∙ sym (ne_eqb found k (λ same. omega (arith, same, e, above)))) none
        (each_above n t up),
  );
}

pub one_member : (fs : List Field) (o otherwise last : ℕ) (t : Node) → AreNumbersAscending last t → members_in fs o t ≤ 1
    → (members_in fs o t ≡ 0) ⊎ OneMember fs o t (member_of fs o otherwise t)
one_member fs o otherwise last no_fields up few = inl refl
one_member fs o otherwise last (field n c t) up few =
    elim (cases_Bool (is_member_of fs o n)) [
      | inl holds ↦
          let counts = here fs o n c t true holds in
          let rest = no_member fs o n t (omega (arith, counts, few)) in
          let moved : member_of fs o otherwise (field n c t) ≡ member_of fs o n t = ap (λ b. member_of fs o (cond b n otherwise) t) holds in
          inr (one_first fs o n c t (member_of fs o otherwise (field n c t)) (moved ∙ rest.is) holds up.1 rest.none)
      | inr fails ↦
          let counts = here fs o n c t false fails in
          let moved : member_of fs o otherwise (field n c t) ≡ member_of fs o otherwise t = ap (λ b. member_of fs o (cond b n otherwise) t) fails in
          elim (one_member fs o otherwise n t up.1 (omega (arith, counts, few))) [
            | inl none ↦ let sum : members_in fs o (field n c t) ≡ 0 = omega (arith, counts, none) in inl sum
            | inr sole ↦ inr (subst (OneMember fs o (field n c t)) (sym moved) (one_more fs o last n c t (member_of fs o otherwise t) fails sole))
          ]
    ]

-- the meaning of the number of a oneof's member
pub data Tells (fs : List Field) (o : ℕ) (t : Node) (found : ℕ) : Type 0 where
  tells_none : found ≡ 0 → Each (λ n. is_member_of fs o n ≡ false) t → Tells fs o t found
  tells_one : found ≢ 0 → OneMember fs o t found → Tells fs o t found

pub member_tells : (fs : List Field) (o : ℕ) (t : Node) → AreNumbersAscending 0 t → members_in fs o t ≤ 1 → Tells fs o t (member_of fs o 0 t)
member_tells fs o t up few =
    elim (one_member fs o 0 0 t up few) [
      | inl none ↦ let n = no_member fs o 0 t none in tells_none n.is n.none
      | inr sole ↦ tells_one (λ zero_is. let e : None ≡ Some sole.content = sym (ap (λ n. content_at t n) zero_is ∙ absent 0 0 t (omega arith) up) ∙ sole.at in absurd (cc)) sole
    ]

pub tells_member : (fs : List Field) (o : ℕ) (t : Node) (found : ℕ) → AreNumbersAscending 0 t → Tells fs o t found → IsMemberOf fs o t found
tells_member fs o t found up (tells_none is none) = record {
  none = λ zero_is. ap (λ n. content_at t n) zero_is ∙ absent 0 0 t (omega arith) up;
  there = λ some. absurd (some is);
}
tells_member fs o t found up (tells_one some sole) = record {
  none = λ zero_is. absurd (some zero_is);
  there = λ _. (sole.content, sole.at, sole.is);
}
