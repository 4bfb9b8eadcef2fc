-- Each step preserves the conditions of pending calls on a chain.
use Rattle.std.proofs.Common.{◌≡◌, ℕ, ◌+◌, ◌<◌, zero, suc, List, [], ◌∷◌, ◌++◌, length, map, take, drop, set, get_or}
use Rattle.std.proofs.Common.{insert, remove, slice_get, All, Option, Some, None, IfSome, IfNone, refl, ap, sym, ◌∙◌}
use Rattle.std.proofs.Common.{arith, length-append, length-take, length-drop}
use Rattle.std.proofs.lemmas.List.{map-append, take-map, drop-map}
use Rattle.std.proofs.lemmas.List.Elements.{All-append, All-cons, All-drop, All-head, All-push, All-set, All-tail, All-take, All-weaker}
use Rattle.std.proofs.lemmas.Option.{slice_get-get_or}
use Rattle.engine_core.specs.Chains.{Entry, IsChain}
use Rattle.engine_core.specs.Engines.{EngineParts}
use Rattle.engine_core.specs.Marks.{HasMarksUpTo, IsTrueFor, PendingCall, note_of, seqs_of}
use Rattle.engine_core.specs.Policies.{IsPolicy}
use Rattle.chain_upgrade.specs.Chains.{ArePendingOn}
use Rattle.chain_upgrade.proofs.RowLaws.{ascends-end, ascends-without}

pub insert-map : {X Y : Type 0} (f : X → Y) (xs : List X) (i : ℕ) (x : X) → map f (insert xs i x) ≡ insert (map f xs) i (f x)
insert-map f xs i x = simp (map-append, take-map, drop-map)

pub remove-map : {X Y : Type 0} (f : X → Y) (xs : List X) (i : ℕ) → map f (remove xs i) ≡ remove (map f xs) i
remove-map f xs i = simp (map-append, take-map, drop-map)

All-insert : {X : Type 0} (P : X → Type 0) (xs : List X) (i : ℕ) (x : X) → All P xs → P x → All P (insert xs i x)
All-insert P xs i x all it = All-append P (take i xs) (x ∷ drop i xs) (All-take P i xs all) (All-cons P x (drop i xs) it (All-drop P i xs all))

All-remove : {X : Type 0} (P : X → Type 0) (xs : List X) (i : ℕ) → All P xs → All P (remove xs i)
All-remove P xs i all = All-append P (take i xs) (drop (suc i) xs) (All-take P i xs all) (All-drop P (suc i) xs all)

pub number-below : (calls : List PendingCall) (i top : ℕ) → All (λ t. t.call.seq < top) calls → i < length (seqs_of calls) → get_or (seqs_of calls) i 0 < top
number-below [] i top all inside = absurd (omega arith)
number-below (t ∷ ts) zero top all inside = All-head (λ t. t.call.seq < top) t ts all
number-below (t ∷ ts) (suc i) top all inside = number-below ts i top (All-tail (λ t. t.call.seq < top) t ts all) (omega arith)

-- ---- calls

pub stands-push : (es : List EngineParts) (n : ℕ) (calls : List PendingCall) (s : PendingCall)
    → ((e : Entry) (s : PendingCall) → note_of s.marks e.attach ≡ None → IsTrueFor e s)
    → ArePendingOn es n calls → length calls < 64 → s.marks ≡ [] → All (λ t. t.call.seq < s.call.seq) calls → ArePendingOn es n (calls ++ s ∷ [])
stands-push es n calls s law st few none less = record {
  chain = st.chain;
  policies = st.policies;
  few = omega (arith, length-append calls (s ∷ []));
  ascend = rw (map-append (λ (t : PendingCall). t.call.seq) calls (s ∷ []))
      (ascends-end (seqs_of calls) s.call.seq st.ascend (λ i inside. number-below calls i s.call.seq less inside));
  marks = All-push (λ t. HasMarksUpTo n t) calls s st.marks (λ attach above. rw none refl);
  true_for = λ k d inside. All-push (λ t. IsTrueFor (get_or es k d).entry t) calls s (st.true_for k d inside) (law (get_or es k d).entry s (rw none refl));
}

pub stands-without : (es : List EngineParts) (n : ℕ) (calls : List PendingCall) (i : ℕ) → ArePendingOn es n calls → ArePendingOn es n (remove calls i)
stands-without es n calls i st = record {
  chain = st.chain;
  policies = st.policies;
  few = let few = st.few in omega (arith, length-append (take i calls) (drop (suc i) calls), length-take i calls, length-drop (suc i) calls);
  ascend = rw (remove-map (λ (t : PendingCall). t.call.seq) calls i) (ascends-without (seqs_of calls) i st.ascend);
  marks = All-remove (λ t. HasMarksUpTo n t) calls i st.marks;
  true_for = λ k d inside. All-remove (λ t. IsTrueFor (get_or es k d).entry t) calls i (st.true_for k d inside);
}

pub stands-cleared : (es : List EngineParts) (n : ℕ) (calls : List PendingCall) → ArePendingOn es n calls → ArePendingOn es n []
stands-cleared es n calls st = record {
  chain = st.chain;
  policies = st.policies;
  few = omega arith;
  ascend = tt;
  marks = λ k d inside. absurd (omega arith);
  true_for = λ k d inside j s none. absurd (omega arith);
}

-- ---- operations

pub stands-attach : (es : List EngineParts) (n p : ℕ) (calls : List PendingCall) (e : EngineParts)
    → ((e : Entry) (s : PendingCall) → note_of s.marks e.attach ≡ None → IsTrueFor e s)
    → ArePendingOn es n calls → IsChain (record { entries = map (λ e. e.entry) (insert es p e); attached = n + 1 })
    → IsPolicy e.entry.policy → e.entry.attach ≡ n + 1 → ArePendingOn (insert es p e) (n + 1) calls
stands-attach es n p calls e law st chain policy is = record {
  chain = chain;
  policies = All-insert (λ e. IsPolicy e.entry.policy) es p e st.policies policy;
  few = st.few;
  ascend = st.ascend;
  marks = All-weaker (λ s. HasMarksUpTo n s) (λ s. HasMarksUpTo (n + 1) s) (λ s has attach above. has attach (omega arith)) calls st.marks;
  true_for = All-insert (λ e. All (λ s. IsTrueFor e.entry s) calls) es p e st.true_for
      (All-weaker (λ s. HasMarksUpTo n s) (λ s. IsTrueFor e.entry s) (λ s has. law e.entry s (has e.entry.attach (omega arith))) calls st.marks);
}

pub stands-detach : (es : List EngineParts) (n p : ℕ) (calls : List PendingCall) → ArePendingOn es n calls
    → IsChain (record { entries = map (λ e. e.entry) (remove es p); attached = n }) → ArePendingOn (remove es p) n calls
stands-detach es n p calls st chain = record {
  chain = chain;
  policies = All-remove (λ e. IsPolicy e.entry.policy) es p st.policies;
  few = st.few;
  ascend = st.ascend;
  marks = st.marks;
  true_for = All-remove (λ e. All (λ s. IsTrueFor e.entry s) calls) es p st.true_for;
}

pub stands-upgrade : (es : List EngineParts) (n p : ℕ) (calls : List PendingCall) (e e' : EngineParts) → ArePendingOn es n calls
    → slice_get es p ≡ Some e
    → IsChain (record { entries = map (λ e. e.entry) (set es p e'); attached = n }) → IsPolicy e'.entry.policy
    → ((s : PendingCall) → IsTrueFor e.entry s → IsTrueFor e'.entry s) → All (λ s. IsTrueFor e.entry s) calls
    → ArePendingOn (set es p e') n calls
stands-upgrade es n p calls e e' st is chain policy stays true_there = record {
  chain = chain;
  policies = All-set (λ e. IsPolicy e.entry.policy) es p e' policy st.policies;
  few = st.few;
  ascend = st.ascend;
  marks = st.marks;
  true_for = All-set (λ e. All (λ s. IsTrueFor e.entry s) calls) es p e'
      (All-weaker (λ s. IsTrueFor e.entry s) (λ s. IsTrueFor e'.entry s) stays calls true_there) st.true_for;
}

-- ---- an item of a list, and its replacement

pub same-map : {X Y : Type 0} (f : X → Y) (xs : List X) (p : ℕ) (x y : X) → slice_get xs p ≡ Some x → f y ≡ f x → map f (set xs p y) ≡ map f xs
same-map f [] p x y is same = refl
same-map f (z ∷ zs) zero x y is same = let there : z ≡ x = cc in cc
same-map f (z ∷ zs) (suc p) x y is same = let rest = same-map f zs p x y is same in cc

pub number-at : (calls : List PendingCall) (j : ℕ) (s : PendingCall) → slice_get calls j ≡ Some s → get_or (seqs_of calls) j 0 ≡ s.call.seq
number-at [] j s is = absurd cc
number-at (t ∷ ts) zero s is = let there : t ≡ s = cc in ap (λ (t : PendingCall). t.call.seq) there
number-at (t ∷ ts) (suc j) s is = number-at ts j s is

pub split-at : {X : Type 0} (xs : List X) (j : ℕ) (x : X) → slice_get xs j ≡ Some x → xs ≡ take j xs ++ x ∷ drop (suc j) xs
split-at [] j x is = absurd cc
split-at (z ∷ zs) zero x is = let there : z ≡ x = cc in cc
split-at {X = X} (z ∷ zs) (suc j) x is = ap (λ (ys : List X). z ∷ ys) (split-at zs j x is)

pub put-at : {X : Type 0} (xs : List X) (j : ℕ) (x y : X) → slice_get xs j ≡ Some x → set xs j y ≡ take j xs ++ y ∷ drop (suc j) xs
put-at [] j x y is = absurd cc
put-at (z ∷ zs) zero x y is = refl
put-at {X = X} (z ∷ zs) (suc j) x y is = ap (λ (ys : List X). z ∷ ys) (put-at zs j x y is)

pub gone-at : {X : Type 0} (xs : List X) (j : ℕ) (y : X) → remove (set xs j y) j ≡ remove xs j
gone-at [] j y = refl
gone-at (z ∷ zs) zero y = refl
gone-at {X = X} (z ∷ zs) (suc j) y = ap (λ (ys : List X). z ∷ ys) (gone-at zs j y)

pub there-at : {X : Type 0} (xs : List X) (i : ℕ) (x : X) → i < length xs → x ≡ get_or xs i x → slice_get xs i ≡ Some x
there-at {X = X} xs i x inside is = slice_get-get_or xs i x inside ∙ ap (λ (x : X). Some x) (sym is)

pub set-there : {X : Type 0} (xs : List X) (j : ℕ) (x y : X) → slice_get xs j ≡ Some x → slice_get (set xs j y) j ≡ Some y
set-there [] j x y is = absurd cc
set-there (z ∷ zs) zero x y is = refl
set-there (z ∷ zs) (suc j) x y is = set-there zs j x y is

pub inside-at : {X : Type 0} (xs : List X) (j : ℕ) (x : X) → slice_get xs j ≡ Some x → j < length xs
inside-at [] j x is = absurd cc
inside-at (y ∷ ys) zero x is = omega arith
inside-at (y ∷ ys) (suc j) x is = omega (arith, inside-at ys j x is)

-- ---- properties of results

pub some-weaker : {X : Type 0} (P Q : X → Type 0) (o : Option X) → ((x : X) → P x → Q x) → IfSome o P → IfSome o Q
some-weaker P Q None f holds = holds
some-weaker P Q (Some x) f holds = f x holds

pub some-any : {X : Type 0} (P : Type 0) (o : Option X) → P → IfSome o (λ _. P)
some-any P None holds = tt
some-any P (Some x) holds = holds

pub none-weaker : {X : Type 0} (P Q : Type 0) (o : Option X) → (P → Q) → IfNone o P → IfNone o Q
none-weaker P Q None f holds = f holds
none-weaker P Q (Some x) f holds = holds

pub one-some : {X : Type 0} (o : Option X) (x y : X) → o ≡ Some x → o ≡ Some y → x ≡ y
one-some o x y is other = cc

pub one-number : (o : Option (ℕ × ℕ)) (a b p q : ℕ) → o ≡ Some (a, p) → o ≡ Some (b, q) → a ≡ b
one-number o a b p q is other = ap (λ (x : ℕ × ℕ). x.0) (one-some o (a, p) (b, q) is other)

pub not-none : {X : Type 0} (o : Option X) (x : X) → o ≡ Some x → o ≡ None → ⊥
not-none o x is none = cc
