-- One content more among the contents of fields.
use Rattle.std.proofs.Common.{◌≡◌, ◌≢◌, ℕ, ◌<◌, ◌≤◌, List, [], ◌∷◌, ◌++◌, Some, ap, sym, subst, ◌∙◌, arith, append_assoc, ⊎_elim}
use Rattle.std.proofs.lemmas.Bool.Decides.{nat_tests, eqb_tells}
use Rattle.mrpc_table.specs.Node.{Node, no_fields, field, Content, push_field, AreNumbersAscending}
use Rattle.wire_decode.specs.Merged.{contents_of, field_content}
use Rattle.wire_decode.specs.TwoInOne.{merge_mode_of, IsMeaningOfBoth}
use Rattle.wire_decode.specs.NumberOrder.{HasAscendingNumbers, AreNumbersAtMost}
use Rattle.wire_decode.specs.Gathered.{HasOneMore, IsGathered}
use Rattle.mrpc_table.specs.Normal.{field_at}
use Rattle.mrpc_table.specs.declared.table.Field.{Field}
use Rattle.wire_decode.specs.declared.gather.MergeMode.{MergeMode}

-- the contents of a number in one more field
pub contents-here : (n : ℕ) (c : Content) (t : Node) → contents_of n (field n c t) ≡ c ∷ contents_of n t
contents-here n c t = grind (arith, nat_tests)

pub contents-other : (m n : ℕ) (c : Content) (t : Node) → m ≢ n → contents_of m (field n c t) ≡ contents_of m t
contents-other m n c t h = grind (arith, nat_tests)

pub contents-pushed : (n : ℕ) (c : Content) (t : Node) → contents_of n (push_field t n c) ≡ contents_of n t ++ c ∷ []
contents-pushed n c no_fields = contents-here n c no_fields
contents-pushed n c (field m d t) =
    ⊎_elim
    (λ s. let e : m ≡ n = s.1 in
    let P : ℕ → Type 0 = λ x. contents_of n (push_field (field x d t) n c) ≡ contents_of n (field x d t) ++ c ∷ [] in
    subst P (sym e) (contents-here n d (push_field t n c) ∙ ap (λ cs. d ∷ cs) (contents-pushed n c t) ∙ sym (ap (λ cs. cs ++ c ∷ []) (contents-here n d t))))
    (λ s. let e : n ≢ m = (λ z. s.1 (sym z)) in contents-other n m d (push_field t n c) e ∙ contents-pushed n c t ∙ sym (ap (λ cs. cs ++ c ∷ []) (contents-other n m d t e)))
    (eqb_tells m n)

pub contents-pushed_other : (m n : ℕ) (c : Content) (t : Node) → m ≢ n → contents_of m (push_field t n c) ≡ contents_of m t
contents-pushed_other m n c no_fields h = contents-other m n c no_fields h
contents-pushed_other m n c (field k d t) h =
    ⊎_elim
    (λ s. let e : k ≡ m = s.1 in
    let P : ℕ → Type 0 = λ x. contents_of m (push_field (field x d t) n c) ≡ contents_of m (field x d t) in
    subst P (sym e) (contents-here m d (push_field t n c) ∙ ap (λ cs. d ∷ cs) (contents-pushed_other m n c t h) ∙ sym (contents-here m d t)))
    (λ s. let e : m ≢ k = (λ z. s.1 (sym z)) in contents-other m k d (push_field t n c) e ∙ contents-pushed_other m n c t h ∙ sym (contents-other m k d t e))
    (eqb_tells k m)

-- no number is n or above
abbrev pub AreBelow : ℕ → Node → Type 0
AreBelow n no_fields = Unit {0}
AreBelow n (field m c t) = (m < n) × AreBelow n t

pub rise_from-pushed : (last n : ℕ) (c : Content) (t : Node) → last < n → AreNumbersAscending last t → AreBelow n t → AreNumbersAscending last (push_field t n c)
rise_from-pushed last n c no_fields more h below = (more, tt)
rise_from-pushed last n c (field m d t) more h below = (h.0, rise_from-pushed m n c t below.0 h.1 below.1)

pub rise-pushed : (n : ℕ) (c : Content) (t : Node) → HasAscendingNumbers t → AreBelow n t → HasAscendingNumbers (push_field t n c)
rise-pushed n c no_fields h below = tt
rise-pushed n c (field m d t) h below = rise_from-pushed m n c t below.0 h below.1

pub most-pushed : (m n : ℕ) (c : Content) (t : Node) → n ≤ m → AreNumbersAtMost m t → AreNumbersAtMost m (push_field t n c)
most-pushed m n c no_fields le h = (le, tt)
most-pushed m n c (field k d t) le h = (h.0, most-pushed m n c t le h.1)

-- the order of the numbers stays if the last field gets another content
pub rise_from-swapped : (last n : ℕ) (c d : Content) (t : Node) → AreNumbersAscending last (push_field t n c) → AreNumbersAscending last (push_field t n d)
rise_from-swapped last n c d no_fields h = h
rise_from-swapped last n c d (field m e t) h = (h.0, rise_from-swapped m n c d t h.1)

pub rise-swapped : (n : ℕ) (c d : Content) (t : Node) → HasAscendingNumbers (push_field t n c) → HasAscendingNumbers (push_field t n d)
rise-swapped n c d no_fields h = tt
rise-swapped n c d (field m e t) h = rise_from-swapped m n c d t h

pub most-swapped : (m n : ℕ) (c d : Content) (t : Node) → AreNumbersAtMost m (push_field t n c) → AreNumbersAtMost m (push_field t n d)
most-swapped m n c d no_fields h = h
most-swapped m n c d (field k e t) h = (h.0, most-swapped m n c d t h.1)

-- if the last number is another one, all are below the number that is added
below-from : (last n m : ℕ) (c : Content) (t : Node) → AreNumbersAscending last (push_field t m c) → m < n → AreBelow n (push_field t m c)
below-from last n m c no_fields h less = (less, tt)
below-from last n m c (field k d t) h less =
    let rest = below-from k n m c t h.1 less in
    (omega (arith, first-below k n m c t h.1 less), rest)
  where
    first-below : (last n m : ℕ) (c : Content) (t : Node) → AreNumbersAscending last (push_field t m c) → m < n → last < n
    first-below last n m c no_fields h less = let a = h.0 in omega (arith, a)
    first-below last n m c (field k d t) h less = let a = h.0 in let b = first-below k n m c t h.1 less in omega (arith, a, b)

pub below-last : (n m : ℕ) (c : Content) (t : Node) → HasAscendingNumbers (push_field t m c) → m < n → AreBelow n (push_field t m c)
below-last n m c no_fields h less = (less, tt)
below-last n m c (field k d t) h less = let rest = below-from k n m c t h less in (first k n m c t h less, rest)
  where
    first : (last n m : ℕ) (c : Content) (t : Node) → AreNumbersAscending last (push_field t m c) → m < n → last < n
    first last n m c no_fields h less = let a = h.0 in omega (arith, a)
    first last n m c (field k d t) h less = let a = h.0 in let b = first k n m c t h.1 less in omega (arith, a, b)

most-last : (n m : ℕ) (c : Content) (t : Node) → AreNumbersAtMost n (push_field t m c) → m ≤ n
most-last n m c no_fields h = h.0
most-last n m c (field k d t) h = most-last n m c t h.1

same-after : (cs : List Content) (c : Content) (after : List Content) → (cs ++ c ∷ []) ++ after ≡ cs ++ c ∷ after
same-after cs c after = append_assoc cs (c ∷ []) after

pub added-next : (form : MergeMode) (front : Node) (m n : ℕ) (before c : Content) → m ≢ n → HasOneMore form (push_field front m before) n c (push_field (push_field front m before) n c)
added-next form front m n before c differs = record {
  others = λ k h. contents-pushed_other k n c (push_field front m before) h;
  same = λ label k e inner after. ap (field_content inner label k)
      (ap (λ cs. cs ++ after) (contents-pushed n c (push_field front m before))
      ∙ same-after (contents_of n (push_field front m before)) c after);
  rise = λ h most. rise-pushed n c (push_field front m before) h (below-last n m before front h (let le = most-last n m before front most in omega (arith, le, differs)));
  most = λ k le h. most-pushed k n c (push_field front m before) le h;
}

pub added-same : (form : MergeMode) (front : Node) (n : ℕ) (before c whole : Content) → IsMeaningOfBoth form before c whole → HasOneMore form (push_field front n before) n c (push_field front n whole)
added-same form front n before c whole both = record {
  others = λ k h. contents-pushed_other k n whole front h ∙ sym (contents-pushed_other k n before front h);
  same = λ label k e inner after.
      ap (field_content inner label k) (ap (λ cs. cs ++ after) (contents-pushed n whole front) ∙ same-after (contents_of n front) whole after)
      ∙ both label k e inner (contents_of n front) after
      ∙ sym (ap (field_content inner label k) (ap (λ cs. cs ++ c ∷ after) (contents-pushed n before front) ∙ same-after (contents_of n front) before (c ∷ after)));
  rise = λ h most. rise-swapped n before whole front h;
  most = λ k le h. most-swapped k n before whole front h;
}

pub added-at : (form : MergeMode) (old old' : Node) (n : ℕ) (c : Content) (new new' : Node) → old ≡ old' → new ≡ new' → HasOneMore form old' n c new' → HasOneMore form old n c new
added-at form old old' n c new new' e f h =
    let P : Node → Type 0 = λ t. HasOneMore form t n c new in
    let Q : Node → Type 0 = λ t. HasOneMore form old' n c t in
    subst P (sym e) (subst Q (sym f) h)

-- the parts that were combined, and one more
most-split : (m n : ℕ) (c : Content) (t : Node) → AreNumbersAtMost m (push_field t n c) → (n ≤ m) × AreNumbersAtMost m t
most-split m n c no_fields h = (h.0, tt)
most-split m n c (field k d t) h = let rest = most-split m n c t h.1 in (rest.0, (h.0, rest.1))

pub gathered-more : (fs : List Field) (raw held new : Node) (n : ℕ) (c : Content) (form : MergeMode)
    → IsGathered fs raw held → ((f : Field) → field_at fs n ≡ Some f → form ≡ merge_mode_of f.label f.kind)
    → HasOneMore form held n c new → AreNumbersAtMost n raw → IsGathered fs (push_field raw n c) new
gathered-more fs raw held new n c form g known added most = record {
  rise = added.rise g.rise (g.most n most);
  most = λ m h. let s = most-split m n c raw h in added.most m s.0 (g.most m s.1);
  same = λ m f at inner after.
      ⊎_elim
      (λ s. let e : n ≡ m = sym s.1 in
      let P : ℕ → Type 0 = λ x. field_at fs x ≡ Some f
      → field_content inner f.label f.kind (contents_of x new ++ after) ≡ field_content inner f.label f.kind
      (contents_of x (push_field raw n c) ++ after) in
      let here : P n = λ at_n.
      added.same f.label f.kind (sym (known f at_n)) inner after
      ∙ g.same n f at_n inner (c ∷ after)
      ∙ sym (ap (field_content inner f.label f.kind) (ap (λ cs. cs ++ after) (contents-pushed n c raw) ∙ same-after (contents_of n raw) c after)) in
      (subst P e here) at)
      (λ s. ap (λ cs. field_content inner f.label f.kind (cs ++ after)) (added.others m s.1)
      ∙ g.same m f at inner after
      ∙ sym (ap (λ cs. field_content inner f.label f.kind (cs ++ after)) (contents-pushed_other m n c raw s.1)))
      (eqb_tells m n);
}
