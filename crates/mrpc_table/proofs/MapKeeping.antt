-- The entries of a map: the last of each key, by ascending key.
use Rattle.std.proofs.Common.{◌≡◌, ◌≢◌, ◌&&◌, ℕ, zero, suc, ◌<◌, List, [], ◌∷◌, ◌++◌, length, take, get_or, map}
use Rattle.std.proofs.Common.{filter, Option, Some, None, Bool, true, false, not, cond, refl, ap, sym, subst, ◌∙◌}
use Rattle.std.proofs.Common.{arith}
use Rattle.std.specs.Ordering.{nat_cmp, is_lt, is_eq, is_gt, ordering_reverse}
use Rattle.std.specs.declared.cmp.Ordering.{Ordering}
use Rattle.std.specs.declared.cmp.Ordering.TheVariants.{Less, Equal, Greater}
use Rattle.std.specs.Cmp.Lexicographic.{slice_cmp}
use Rattle.std.specs.Cmp.{IsTotalOrder, alike_right, tied_itself}
use Rattle.std.proofs.lemmas.Cmp.{nat_list_cmp_total}
use Rattle.std.specs.List.Sorted.{ties, IsStableBy}
use Rattle.mrpc_table.specs.Node.{Pairs, pair}
use Rattle.mrpc_table.specs.View.{item_of, pairs_of}
use Rattle.mrpc_table.specs.declared.tree.Value.{Value}
use Rattle.mrpc_table.specs.declared.table.Kind.{Kind}
use Rattle.mrpc_table.specs.MapEntries.{with_pair, last_of_each}
use Rattle.mrpc_table.specs.SortedEntries.{items_of_entry, entry_code, entry_cmp, AreSorted, IsEntryAdded, replaced, appended}

abbrev E : Type 0
E = Value × Value

abbrev ord : List ℕ → List ℕ → Ordering
ord x y = slice_cmp nat_cmp x y

o : IsTotalOrder (slice_cmp nat_cmp)
o = nat_list_cmp_total

flip-greater : (x y : List ℕ) → ord x y ≡ Greater → ord y x ≡ Less
flip-greater x y h = o.antisymm y x ∙ ap ordering_reverse h

-- an entry inserted by its key; an entry with the same key is kept instead
abbrev ins : Kind → E → List E → List E
ins k e [] = e ∷ []
ins k e (f ∷ fs) = elim (ord (entry_code k e) (entry_code k f)) [ Less ↦ e ∷ f ∷ fs | Equal ↦ f ∷ fs | Greater ↦ f ∷ ins k e fs ]

abbrev made : Kind → List E → List E
made k [] = []
made k (e ∷ es) = ins k e (made k es)

ins-go : (k : Kind) (e f : E) (fs rest : List E) (ps : Pairs) (r : Ordering) → pairs_of rest ≡ ps
    → pairs_of (elim r [ Less ↦ e ∷ f ∷ fs | Equal ↦ f ∷ fs | Greater ↦ f ∷ rest ])
    ≡ elim r [
      | Less ↦ pair (item_of e.0) (item_of e.1) (pairs_of (f ∷ fs))
      | Equal ↦ pairs_of
          (f ∷ fs)
      | Greater ↦ pair (item_of f.0) (item_of f.1) ps
    ]
ins-go k e f fs rest ps Less h = refl
ins-go k e f fs rest ps Equal h = refl
ins-go k e f fs rest ps Greater h = ap (pair (item_of f.0) (item_of f.1)) h

ins-pairs : (k : Kind) (e : E) (fs : List E) → pairs_of (ins k e fs) ≡ with_pair k (item_of e.0) (item_of e.1) (pairs_of fs)
ins-pairs k e [] = refl
ins-pairs k e (f ∷ fs) = ins-go k e f fs (ins k e fs) (with_pair k (item_of e.0) (item_of e.1) (pairs_of fs)) (ord (entry_code k e) (entry_code k f)) (ins-pairs k e fs)

pub made-pairs : (k : Kind) (es : List E) → pairs_of (made k es) ≡ last_of_each k (map items_of_entry es)
made-pairs k [] = refl
made-pairs k (e ∷ es) = ins-pairs k e (made k es) ∙ ap (with_pair k (item_of e.0) (item_of e.1)) (made-pairs k es)

-- the first entry, and the last one, with the key of a code
abbrev found : Kind → List ℕ → List E → Option E
found k x [] = None
found k x (e ∷ es) = cond (is_eq (ord x (entry_code k e))) (Some e) (found k x es)

abbrev or_some : Option E → Option E → Option E
or_some (Some e) p = Some e
or_some None p = p

abbrev last_at : Kind → List ℕ → List E → Option E
last_at k x [] = None
last_at k x (e ∷ es) = or_some (last_at k x es) (cond (is_eq (ord x (entry_code k e))) (Some e) None)

or-none : (p : Option E) → or_some p None ≡ p
or-none (Some e) = refl
or-none None = refl

abbrev AscFrom : Kind → E → List E → Type 0
AscFrom k e [] = Unit {0}
AscFrom k e (f ∷ fs) = (ord (entry_code k e) (entry_code k f) ≡ Less) × AscFrom k f fs

abbrev pub Asc : Kind → List E → Type 0
Asc k [] = Unit {0}
Asc k (e ∷ es) = AscFrom k e es

none-less : (k : Kind) (x : List ℕ) (e : E) (es : List E) → AscFrom k e es → ord x (entry_code k e) ≡ Less → found k x es ≡ None
none-less k x e [] a h = refl
none-less k x e (f ∷ fs) a h =
    let l = o.trans x (entry_code k e) (entry_code k f) h a.0 in
    ap (λ r. cond (is_eq r) (Some f) (found k x fs)) l ∙ none-less k x f fs a.1 l

none-equal : (k : Kind) (x : List ℕ) (e : E) (es : List E) → AscFrom k e es → ord x (entry_code k e) ≡ Equal → found k x es ≡ None
none-equal k x e [] a h = refl
none-equal k x e (f ∷ fs) a h =
    let l = o.congr x (entry_code k e) (entry_code k f) h ∙ a.0 in
    ap (λ r. cond (is_eq r) (Some f) (found k x fs)) l ∙ none-less k x f fs a.1 l

is-equal : (r : Ordering) → is_eq r ≡ true → r ≡ Equal
is-equal Less h = absurd (cc)
is-equal Equal h = refl
is-equal Greater h = absurd (cc)

found-less : (k : Kind) (x : List ℕ) (e f : E) (fs : List E) (b : Bool) → is_eq (ord x (entry_code k e)) ≡ b
    → ord (entry_code k e) (entry_code k f) ≡ Less → AscFrom k f fs
    → cond b (Some e) (found k x (f ∷ fs)) ≡ or_some (found k x (f ∷ fs)) (cond b (Some e) None)
found-less k x e f fs false t q a = sym (or-none (found k x (f ∷ fs)))
found-less k x e f fs true t q a =
    let l : ord x (entry_code k f) ≡ Less = o.congr x (entry_code k e) (entry_code k f) (is-equal (ord x (entry_code k e)) t) ∙ q in
    let none : found k x (f ∷ fs) ≡ None = ap (λ r. cond (is_eq r) (Some f) (found k x fs)) l ∙ none-less k x f fs a l in
    sym (ap (λ p. or_some p (Some e)) none)

found-equal : (k : Kind) (x : List ℕ) (e f : E) (fs : List E) (b : Bool) → is_eq (ord x (entry_code k e)) ≡ b
    → ord (entry_code k e) (entry_code k f) ≡ Equal → found k x (f ∷ fs) ≡ or_some (found k x (f ∷ fs)) (cond b (Some e) None)
found-equal k x e f fs false t q = sym (or-none (found k x (f ∷ fs)))
found-equal k x e f fs true t q =
    let l : ord x (entry_code k f) ≡ Equal = o.congr x (entry_code k e) (entry_code k f) (is-equal (ord x (entry_code k e)) t) ∙ q in
    let here : found k x (f ∷ fs) ≡ Some f = ap (λ r. cond (is_eq r) (Some f) (found k x fs)) l in
    here ∙ sym (ap (λ p. or_some p (Some e)) here)

found-more : (b : Bool) (f : E) (p q : Option E) → cond b (Some f) (or_some p q) ≡ or_some (cond b (Some f) p) q
found-more true f p q = refl
found-more false f p q = refl

found-go : (k : Kind) (x : List ℕ) (e f : E) (fs rest : List E) (r : Ordering) → ord (entry_code k e) (entry_code k f) ≡ r
    → AscFrom k f fs → found k x rest ≡ or_some (found k x fs) (cond (is_eq (ord x (entry_code k e))) (Some e) None)
    → found k x (elim r [ Less ↦ e ∷ f ∷ fs | Equal ↦ f ∷ fs | Greater ↦ f ∷ rest ]) ≡ or_some (found k x (f ∷ fs))
    (cond (is_eq (ord x (entry_code k e))) (Some e) None)
found-go k x e f fs rest Less q a h = found-less k x e f fs (is_eq (ord x (entry_code k e))) refl q a
found-go k x e f fs rest Equal q a h = found-equal k x e f fs (is_eq (ord x (entry_code k e))) refl q
found-go k x e f fs rest Greater q a h =
    ap (cond (is_eq (ord x (entry_code k f))) (Some f)) h ∙ found-more (is_eq (ord x (entry_code k f))) f (found k x fs) (cond (is_eq (ord x (entry_code k e))) (Some e) None)

asc-tail : (k : Kind) (f : E) (fs : List E) → AscFrom k f fs → Asc k fs
asc-tail k f [] a = tt
asc-tail k f (g ∷ gs) a = a.1

found-ins : (k : Kind) (x : List ℕ) (e : E) (fs : List E) → Asc k fs → found k x (ins k e fs) ≡ or_some (found k x fs) (cond (is_eq (ord x (entry_code k e))) (Some e) None)
found-ins k x e [] a = refl
found-ins k x e (f ∷ fs) a = found-go k x e f fs (ins k e fs) (ord (entry_code k e) (entry_code k f)) refl a (found-ins k x e fs (asc-tail k f fs a))

asc-go : (k : Kind) (g e f : E) (fs rest : List E) (r : Ordering) → ord (entry_code k e) (entry_code k f) ≡ r
    → ord (entry_code k g) (entry_code k e) ≡ Less → ord (entry_code k g) (entry_code k f) ≡ Less → AscFrom k f fs
    → (ord (entry_code k f) (entry_code k e) ≡ Less → AscFrom k f rest)
    → AscFrom k g (elim r [ Less ↦ e ∷ f ∷ fs | Equal ↦ f ∷ fs | Greater ↦ f ∷ rest ])
asc-go k g e f fs rest Less q h l a more = (h, (q, a))
asc-go k g e f fs rest Equal q h l a more = (l, a)
asc-go k g e f fs rest Greater q h l a more = (l, more (flip-greater (entry_code k e) (entry_code k f) q))

asc-ins_from : (k : Kind) (g e : E) (fs : List E) → ord (entry_code k g) (entry_code k e) ≡ Less → AscFrom k g fs → AscFrom k g (ins k e fs)
asc-ins_from k g e [] h a = (h, tt)
asc-ins_from k g e (f ∷ fs) h a = asc-go k g e f fs (ins k e fs) (ord (entry_code k e) (entry_code k f)) refl h a.0 a.1 (λ l. asc-ins_from k f e fs l a.1)

asc-first : (k : Kind) (e f : E) (fs rest : List E) (r : Ordering) → ord (entry_code k e) (entry_code k f) ≡ r → AscFrom k f fs
    → (ord (entry_code k f) (entry_code k e) ≡ Less → AscFrom k f rest)
    → Asc k (elim r [ Less ↦ e ∷ f ∷ fs | Equal ↦ f ∷ fs | Greater ↦ f ∷ rest ])
asc-first k e f fs rest Less q a more = (q, a)
asc-first k e f fs rest Equal q a more = a
asc-first k e f fs rest Greater q a more = more (flip-greater (entry_code k e) (entry_code k f) q)

asc-ins : (k : Kind) (e : E) (fs : List E) → Asc k fs → Asc k (ins k e fs)
asc-ins k e [] a = tt
asc-ins k e (f ∷ fs) a = asc-first k e f fs (ins k e fs) (ord (entry_code k e) (entry_code k f)) refl a (λ l. asc-ins_from k f e fs l a)

asc-made : (k : Kind) (es : List E) → Asc k (made k es)
asc-made k [] = tt
asc-made k (e ∷ es) = asc-ins k e (made k es) (asc-made k es)

found-made : (k : Kind) (x : List ℕ) (es : List E) → found k x (made k es) ≡ last_at k x es
found-made k x [] = refl
found-made k x (e ∷ es) = found-ins k x e (made k es) (asc-made k es) ∙ ap (λ p. or_some p (cond (is_eq (ord x (entry_code k e))) (Some e) None)) (found-made k x es)

found-itself : (k : Kind) (e : E) (es : List E) → found k (entry_code k e) (e ∷ es) ≡ Some e
found-itself k e es = ap (λ r. cond (is_eq r) (Some e) (found k (entry_code k e) es)) (tied_itself o (entry_code k e))

found-not : (k : Kind) (e f : E) (fs : List E) → ord (entry_code k e) (entry_code k f) ≡ Less → AscFrom k f fs → found k (entry_code k e) (f ∷ fs) ≡ None
found-not k e f fs l a = ap (λ r. cond (is_eq r) (Some f) (found k (entry_code k e) fs)) l ∙ none-less k (entry_code k e) f fs a l

rest-same : (k : Kind) (w e f : E) (ps qs : List E) (b : Bool) → is_eq (ord (entry_code k w) (entry_code k e)) ≡ b → e ≡ f
    → AscFrom k e ps → AscFrom k f qs → found k (entry_code k w) (e ∷ ps) ≡ found k (entry_code k w) (f ∷ qs)
    → found k (entry_code k w) ps ≡ found k (entry_code k w) qs
rest-same k w e f ps qs true t same a b h =
    let eq = is-equal (ord (entry_code k w) (entry_code k e)) t in
    none-equal k (entry_code k w) e ps a eq ∙ sym (none-equal k (entry_code k w) f qs b (ap (λ x. ord (entry_code k w) (entry_code k x)) (sym same) ∙ eq))
rest-same k w e f ps qs false t same a b h =
    sym (ap (λ c. cond c (Some e) (found k (entry_code k w) ps)) t) ∙ h ∙ ap (λ c. cond c (Some f) (found k (entry_code k w) qs)) (ap (λ x. is_eq (ord (entry_code k w) (entry_code k x))) (sym same) ∙ t)

heads-same : (k : Kind) (e f : E) (ps qs : List E) (r : Ordering) → ord (entry_code k e) (entry_code k f) ≡ r → AscFrom k e ps
    → AscFrom k f qs → ((w : E) → found k (entry_code k w) (e ∷ ps) ≡ found k (entry_code k w) (f ∷ qs)) → e ≡ f
heads-same k e f ps qs Less q a b h = absurd (let bad : Some e ≡ None = sym (found-itself k e ps) ∙ h e ∙ found-not k e f qs q b in cc)
heads-same k e f ps qs Greater q a b h = absurd (let bad : Some f ≡ None = sym (found-itself k f qs) ∙ sym (h f) ∙ found-not k f e ps (flip-greater (entry_code k e) (entry_code k f) q) a in cc)
heads-same k e f ps qs Equal q a b h =
    let same : Some e ≡ Some f = sym (found-itself k e ps) ∙ h e ∙ ap (λ r. cond (is_eq r) (Some f) (found k (entry_code k e) qs)) q in cc

-- ascending entries are determined by what is found in them
pub asc-same : (k : Kind) (ps qs : List E) → Asc k ps → Asc k qs → ((w : E) → found k (entry_code k w) ps ≡ found k (entry_code k w) qs) → ps ≡ qs
asc-same k [] [] a b h = refl
asc-same k [] (f ∷ qs) a b h = absurd (let bad : None ≡ Some f = h f ∙ found-itself k f qs in cc)
asc-same k (e ∷ ps) [] a b h = absurd (let bad : Some e ≡ None = sym (found-itself k e ps) ∙ h e in cc)
asc-same k (e ∷ ps) (f ∷ qs) a b h =
    let same = heads-same k e f ps qs (ord (entry_code k e) (entry_code k f)) refl a b h in
    let rest = asc-same k ps qs (asc-tail k e ps a) (asc-tail k f qs b) (λ w. rest-same k w e f ps qs (is_eq (ord (entry_code k w) (entry_code k e))) refl same a b (h w)) in
    ap (λ x. x ∷ ps) same ∙ ap (λ xs. f ∷ xs) rest

abbrev pub below : Kind → E → E → Bool
below k a b = is_lt (ord (entry_code k a) (entry_code k b))

tie-test : (r : Ordering) → (not (is_lt r) && not (is_lt (ordering_reverse r))) ≡ is_eq r
tie-test Less = refl
tie-test Equal = refl
tie-test Greater = refl

last-step : (k : Kind) (x : List ℕ) (e : E) (es fs : List E) (b : Bool) → is_eq (ord x (entry_code k e)) ≡ b
    → last_at k x es ≡ last_at k x fs
    → or_some (last_at k x es) (cond b (Some e) None) ≡ last_at k x (cond b (e ∷ fs) fs)
last-step k x e es fs true t h = ap (λ p. or_some p (Some e)) h ∙ sym (ap (λ c. or_some (last_at k x fs) (cond c (Some e) None)) t)
last-step k x e es fs false t h = or-none (last_at k x es) ∙ h

last-ties : (k : Kind) (w : E) (es : List E) → last_at k (entry_code k w) es ≡ last_at k (entry_code k w) (filter (ties (below k) w) es)
last-ties k w [] = refl
last-ties k w (e ∷ es) =
    let r = ord (entry_code k w) (entry_code k e) in
    let tie : ties (below k) w e ≡ is_eq r = ap (λ s. not (is_lt r) && not (is_lt s)) (o.antisymm (entry_code k e) (entry_code k w)) ∙ tie-test r in
    let fs = filter (ties (below k) w) es in
    last-step k (entry_code k w) e es fs (is_eq r) refl (last-ties k w es) ∙ sym (ap (λ b. last_at k (entry_code k w) (cond b (e ∷ fs) fs)) tie)

-- a stable sort by key keeps the last of each key
pub stable-made : (k : Kind) (es sorted : List E) → IsStableBy (below k) es sorted → made k sorted ≡ made k es
stable-made k es sorted h =
    asc-same k (made k sorted) (made k es) (asc-made k sorted) (asc-made k es) (λ w.
    found-made k (entry_code k w) sorted ∙ last-ties k w sorted ∙ ap (last_at k (entry_code k w)) (h w) ∙ sym (last-ties k w es) ∙ sym (found-made k (entry_code k w) es))

last-or : (b : Bool) (y : E) (p q : Option E) → or_some (cond b (Some y) p) q ≡ cond b (Some y) (or_some p q)
last-or true y p q = refl
last-or false y p q = refl

last-pushed : (k : Kind) (x : List ℕ) (es : List E) (y : E) → last_at k x (es ++ y ∷ []) ≡ cond (is_eq (ord x (entry_code k y))) (Some y) (last_at k x es)
last-pushed k x [] y = refl
last-pushed k x (e ∷ es) y =
    ap (λ p. or_some p (cond (is_eq (ord x (entry_code k e))) (Some e) None)) (last-pushed k x es y)
    ∙ last-or (is_eq (ord x (entry_code k y))) y (last_at k x es) (cond (is_eq (ord x (entry_code k e))) (Some e) None)

found-pushed : (k : Kind) (x : List ℕ) (es : List E) (y : E) → found k x (es ++ y ∷ []) ≡ or_some (found k x es) (cond (is_eq (ord x (entry_code k y))) (Some y) None)
found-pushed k x [] y = refl
found-pushed k x (e ∷ es) y = ap (cond (is_eq (ord x (entry_code k e))) (Some e)) (found-pushed k x es y)
    ∙ found-more (is_eq (ord x (entry_code k e))) e (found k x es) (cond (is_eq (ord x (entry_code k y))) (Some y) None)

-- each key is below the one of y
abbrev AllLess : Kind → List E → E → Type 0
AllLess k [] y = Unit {0}
AllLess k (e ∷ es) y = (ord (entry_code k e) (entry_code k y) ≡ Less) × AllLess k es y

less-none : (k : Kind) (x : List ℕ) (es : List E) (y : E) → AllLess k es y → ord x (entry_code k y) ≡ Equal → found k x es ≡ None
less-none k x [] y a q = refl
less-none k x (e ∷ es) y a q =
    let g : ord x (entry_code k e) ≡ Greater = o.congr x (entry_code k y) (entry_code k e) q ∙ o.antisymm (entry_code k y) (entry_code k e) ∙ ap ordering_reverse a.0 in
    ap (λ r. cond (is_eq r) (Some e) (found k x es)) g ∙ less-none k x es y a.1 q

found-behind : (k : Kind) (x : List ℕ) (es : List E) (y : E) (b : Bool) → is_eq (ord x (entry_code k y)) ≡ b
    → AllLess k es y → or_some (found k x es) (cond b (Some y) None) ≡ cond b (Some y) (found k x es)
found-behind k x es y true t a = ap (λ p. or_some p (Some y)) (less-none k x es y a (is-equal (ord x (entry_code k y)) t))
found-behind k x es y false t a = or-none (found k x es)

asc-pushed_from : (k : Kind) (g : E) (es : List E) (y : E) → AscFrom k g es → ord (entry_code k g) (entry_code k y) ≡ Less → AllLess k es y → AscFrom k g (es ++ y ∷ [])
asc-pushed_from k g [] y a l h = (l, tt)
asc-pushed_from k g (e ∷ es) y a l h = (a.0, asc-pushed_from k e es y a.1 h.0 h.1)

asc-pushed : (k : Kind) (es : List E) (y : E) → Asc k es → AllLess k es y → Asc k (es ++ y ∷ [])
asc-pushed k [] y a h = tt
asc-pushed k (e ∷ es) y a h = asc-pushed_from k e es y a h.0 h.1

last-less : (k : Kind) (g : E) (front : List E) (l : E) → AscFrom k g (front ++ l ∷ []) → ord (entry_code k g) (entry_code k l) ≡ Less
last-less k g [] l a = a.0
last-less k g (e ∷ es) l a = o.trans (entry_code k g) (entry_code k e) (entry_code k l) a.0 (last-less k e es l a.1)

front-less : (k : Kind) (front : List E) (l : E) → Asc k (front ++ l ∷ []) → AllLess k front l
front-less k [] l a = tt
front-less k (e ∷ es) l a = (last-less k e es l a, front-less k es l (asc-tail k e (es ++ l ∷ []) a))

less-alike : (k : Kind) (es : List E) (l y : E) → ord (entry_code k l) (entry_code k y) ≡ Equal → AllLess k es l → AllLess k es y
less-alike k [] l y q a = tt
less-alike k (e ∷ es) l y q a = (sym (alike_right o (entry_code k l) (entry_code k y) (entry_code k e) q) ∙ a.0, less-alike k es l y q a.1)

asc-front_from : (k : Kind) (g : E) (front : List E) (l : E) → AscFrom k g (front ++ l ∷ []) → AscFrom k g front
asc-front_from k g [] l a = tt
asc-front_from k g (e ∷ es) l a = (a.0, asc-front_from k e es l a.1)

asc-front : (k : Kind) (front : List E) (l : E) → Asc k (front ++ l ∷ []) → Asc k front
asc-front k [] l a = tt
asc-front k (e ∷ es) l a = asc-front_from k e es l a

-- no key is above the one of y
abbrev pub AllUpTo : Kind → List E → E → Type 0
AllUpTo k [] y = Unit {0}
AllUpTo k (e ∷ es) y = (is_gt (ord (entry_code k e) (entry_code k y)) ≡ false) × AllUpTo k es y

up-less : (r : Ordering) → is_gt r ≡ false → r ≢ Equal → r ≡ Less
up-less Less h n = refl
up-less Equal h n = absurd (n refl)
up-less Greater h n = absurd (cc)

all-less : (k : Kind) (es : List E) (y : E) → Asc k es → AllUpTo k es y
    → ((front : List E) (l : E) → es ≡ front ++ l ∷ [] → ord (entry_code k l) (entry_code k y) ≢ Equal) → AllLess k es y
all-less k [] y a u h = tt
all-less k (e ∷ []) y a u h = (up-less (ord (entry_code k e) (entry_code k y)) u.0 (h [] e refl), tt)
all-less k (e ∷ f ∷ es) y a u h =
    let rest = all-less k (f ∷ es) y a.1 u.1 (λ front l is. h (e ∷ front) l (ap (λ xs. e ∷ xs) is)) in
    (o.trans (entry_code k e) (entry_code k f) (entry_code k y) a.0 rest.0, rest)

up-pushed : (k : Kind) (es : List E) (y z : E) → is_gt (ord (entry_code k y) (entry_code k z)) ≡ false → AllUpTo k es z → AllUpTo k (es ++ y ∷ []) z
up-pushed k [] y z h u = (h, tt)
up-pushed k (e ∷ es) y z h u = (u.0, up-pushed k es y z h u.1)

up-front : (k : Kind) (es : List E) (y z : E) → AllUpTo k (es ++ y ∷ []) z → AllUpTo k es z × (is_gt (ord (entry_code k y) (entry_code k z)) ≡ false)
up-front k [] y z u = (tt, u.0)
up-front k (e ∷ es) y z u = let rest = up-front k es y z u.1 in ((u.0, rest.0), rest.1)

-- what was kept of the entries so far
pub record Kept (k : Kind) (es kept : List E) : Type 0 where
  pub asc : Asc k kept
  pub same : (w : E) → found k (entry_code k w) kept ≡ last_at k (entry_code k w) es
  pub up : (z : E) → AllUpTo k es z → AllUpTo k kept z

kept-replaced : (k : Kind) (es front : List E) (l y : E) → Kept k es (front ++ l ∷ []) → ord (entry_code k l) (entry_code k y) ≡ Equal → Kept k (es ++ y ∷ []) (front ++ y ∷ [])
kept-replaced k es front l y h q =
    let less = less-alike k front l y q (front-less k front l h.asc) in
    record {
      asc = asc-pushed k front y (asc-front k front l h.asc) less;
      same = λ w.
          let x = entry_code k w in
          let tests : is_eq (ord x (entry_code k l)) ≡ is_eq (ord x (entry_code k y)) = ap is_eq (alike_right o (entry_code k l) (entry_code k y) x q) in
          let old : or_some (found k x front) (cond (is_eq (ord x (entry_code k y))) (Some l) None) ≡ last_at k x es =
          ap (λ b. or_some (found k x front) (cond b (Some l) None)) (sym tests) ∙ sym (found-pushed k x front l)
          ∙ h.same w in
          found-pushed k x front y ∙ found-behind k x front y (is_eq (ord x (entry_code k y))) refl less
          ∙ swap (is_eq (ord x (entry_code k y))) (found k x front) l y (last_at k x es) old
          ∙ sym (last-pushed k x es y);
      up = λ z u. let s = up-front k es y z u in up-pushed k front y z s.1 (up-front k front l z (h.up z s.0)).0;
    }
  where
    swap : (b : Bool) (p : Option E) (l y : E) (q : Option E) → or_some p (cond b (Some l) None) ≡ q → cond b (Some y) p ≡ cond b (Some y) q
    swap true p l y q h = refl
    swap false p l y q h = sym (or-none p) ∙ h

kept-appended : (k : Kind) (es kept : List E) (y : E) → Kept k es kept → AllUpTo k es y
    → ((front : List E) (l : E) → kept ≡ front ++ l ∷ [] → ord (entry_code k l) (entry_code k y) ≢ Equal)
    → Kept k (es ++ y ∷ []) (kept ++ y ∷ [])
kept-appended k es kept y h u n =
    let less = all-less k kept y h.asc (h.up y u) n in
    record {
      asc = asc-pushed k kept y h.asc less;
      same = λ w.
          let x = entry_code k w in
          found-pushed k x kept y ∙ found-behind k x kept y (is_eq (ord x (entry_code k y))) refl less
          ∙ ap (cond (is_eq (ord x (entry_code k y))) (Some y)) (h.same w) ∙ sym (last-pushed k x es y);
      up = λ z v. let s = up-front k es y z v in up-pushed k kept y z s.1 (h.up z s.0);
    }

pub kept-more : (k : Kind) (es kept new : List E) (y : E) → Kept k es kept → AllUpTo k es y → IsEntryAdded k kept y new → Kept k (es ++ y ∷ []) new
kept-more k es kept new y h u (replaced front l old q is) =
    let P : List E → Type 0 = λ xs. Kept k es xs in
    let Q : List E → Type 0 = λ xs. Kept k (es ++ y ∷ []) xs in
    subst Q (sym is) (kept-replaced k es front l y (subst P old h) q)
kept-more k es kept new y h u (appended n is) =
    let Q : List E → Type 0 = λ xs. Kept k (es ++ y ∷ []) xs in
    subst Q (sym is) (kept-appended k es kept y h u n)

pub kept-made : (k : Kind) (es kept : List E) → Kept k es kept → pairs_of kept ≡ last_of_each k (map items_of_entry es)
kept-made k es kept h =
    ap pairs_of (asc-same k kept (made k es) h.asc (asc-made k es) (λ w. h.same w ∙ sym (found-made k (entry_code k w) es))) ∙ made-pairs k es

not-lt-gt : (r : Ordering) → is_lt (ordering_reverse r) ≡ false → is_gt r ≡ false
not-lt-gt Less h = refl
not-lt-gt Equal h = refl
not-lt-gt Greater h = h

-- the sorted entries before an index have no key above the one there
pub sorted-up : (k : Kind) (es : List E) → AreSorted k es → (i : ℕ) (y : E) → i < length es → y ≡ get_or es i y → AllUpTo k (take i es) y
sorted-up k [] s i y within is = absurd (omega (arith, within))
sorted-up k (e ∷ es) s zero y within is = tt
sorted-up k (e ∷ es) s (suc i) y within is =
    let here : is_lt (ord (entry_code k (get_or es i y)) (entry_code k e)) ≡ false = s 0 (suc i) y (omega arith) within in
    let there : is_lt (ord (entry_code k y) (entry_code k e)) ≡ false = ap (λ z. is_lt (ord (entry_code k z) (entry_code k e))) is ∙ here in
    let turned : is_lt (ordering_reverse (ord (entry_code k e) (entry_code k y))) ≡ false = ap is_lt (sym (o.antisymm (entry_code k y) (entry_code k e))) ∙ there in
    (not-lt-gt (ord (entry_code k e) (entry_code k y)) turned, sorted-up k es (λ a b d le w. s (suc a) (suc b) d (omega (arith, le)) (omega (arith, w))) i y (omega (arith, within)) is)

nil-pushed : (xs : List E) (x : E) → [] ≡ xs ++ x ∷ [] → ⊥
nil-pushed [] x h = cc
nil-pushed (y ∷ xs) x h = cc

last-same : (xs ys : List E) (x y : E) → xs ++ x ∷ [] ≡ ys ++ y ∷ [] → x ≡ y
last-same [] [] x y h = cc
last-same [] (z ∷ ys) x y h = absurd (nil-pushed ys y (let e : [] ≡ ys ++ y ∷ [] = cc in e))
last-same (z ∷ xs) [] x y h = absurd (nil-pushed xs x (let e : [] ≡ xs ++ x ∷ [] = cc in e))
last-same (z ∷ xs) (w ∷ ys) x y h = last-same xs ys x y (let e : xs ++ x ∷ [] ≡ ys ++ y ∷ [] = cc in e)

not-equal : (r : Ordering) → false ≡ is_eq r → r ≢ Equal
not-equal Less h e = cc
not-equal Equal h e = absurd (cc)
not-equal Greater h e = cc

pub added-behind : (k : Kind) (old popped mid new : List E) (l y : E) (same : Bool) → old ≡ popped ++ l ∷ []
    → same ≡ is_eq (entry_cmp k l y) → mid ≡ cond same popped (popped ++ l ∷ []) → new ≡ mid ++ y ∷ []
    → IsEntryAdded k old y new
added-behind k old popped mid new l y true was tied m n =
    replaced popped l was (is-equal (entry_cmp k l y) (sym tied)) (n ∙ ap (λ xs. xs ++ y ∷ []) m)
added-behind k old popped mid new l y false was tied m n =
    appended
    (λ front f is. let same : l ≡ f = last-same popped front l f (sym was ∙ is) in
    let P : E → Type 0 = λ z. entry_cmp k z y ≢ Equal in subst P same (not-equal (entry_cmp k l y) tied))
    (n ∙ ap (λ xs. xs ++ y ∷ []) (m ∙ sym was))
