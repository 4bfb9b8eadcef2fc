-- A field that is removed from a list of fields, or changed in it.
use Rattle.std.proofs.Common.{◌≡◌, ◌≢◌, ℕ, zero, suc, ◌<◌, ◌≤◌, ◌==◌, Bool, true, false, if◌then◌else◌, List, [], ◌∷◌}
use Rattle.std.proofs.Common.{◌++◌, length, get_or, set, take, drop, ◌-◌, Option, Some, None, refl, ap, sym, subst}
use Rattle.std.proofs.Common.{◌∙◌, arith}
use Rattle.std.specs.Prelude.{remove}
use Rattle.std.specs.Str.{bytes_eq}
use Rattle.std.proofs.lemmas.Bool.{eq-eqb}
use Rattle.std.proofs.lemmas.List.{take_all}
use Rattle.mrpc_table.specs.Node.{Node, no_fields, field, Content, content_at}
use Rattle.mrpc_table.specs.View.{node_of, content_of}
use Rattle.mrpc_table.specs.Weight.{weight, content_weight}
use Rattle.mrpc_table.specs.declared.tree.FieldValue.{FieldValue}
use Rattle.mrpc_table.specs.PathTrees.{IsTreeAscendingFrom, IsAscendingContent, IsAscendingTree}
use Rattle.policy_redact.specs.Without.{without, content_without}
use Rattle.policy_redact.proofs.Leaving.{other, at_end, on_way, above}

-- ---- no field with the number

none_by : (same : Bool) (m n : ℕ) (c : Content) (rest : Option Content) → (m == n) ≡ same → (if same then Some c else rest) ≡ None → (m ≢ n) × (rest ≡ None)
none_by true m n c rest is none = absurd cc
none_by false m n c rest is none = (λ e. let clash : true ≡ false = sym (eq-eqb m n e) ∙ is in absurd cc, none)

none_here : (m n : ℕ) (c : Content) (t : Node) → content_at (field m c t) n ≡ None → (m ≢ n) × (content_at t n ≡ None)
none_here m n c t none = none_by (m == n) m n c (content_at t n) refl none

pub none-under : (t : Node) (n : ℕ) (path : List ℕ) → content_at t n ≡ None → without (bytes_eq (n ∷ path)) t ≡ t
none-under no_fields n path none = refl
none-under (field m c t) n path none =
    let less = none_here m n c t none in
    other m n path c t less.0 ∙ ap (field m c) (none-under t n path less.1)

-- ---- a field that is removed

above_first : (fs : List (ℕ × FieldValue)) (last i n : ℕ) (d : ℕ × FieldValue) → IsTreeAscendingFrom last (node_of fs) → i < length fs → (get_or fs i d).0 ≡ n → last < n
above_first [] last i n d up within at = absurd (omega arith)
above_first (f ∷ fs) last zero n d up within at = omega (arith, up.0, at)
above_first (f ∷ fs) last (suc i) n d up within at = omega (arith, up.0, above_first fs f.0 i n d up.2 (omega arith) at)

differs : (m n : ℕ) → m < n → m ≢ n
differs m n lt same = omega (arith, same)

pub removed : (fs : List (ℕ × FieldValue)) (last n i : ℕ) (d : ℕ × FieldValue) → IsTreeAscendingFrom last (node_of fs) → i < length fs → (get_or fs i d).0 ≡ n
    → node_of (remove fs i) ≡ without (bytes_eq (n ∷ [])) (node_of fs)
removed [] last n i d up within at = absurd (omega arith)
removed (f ∷ fs) last n zero d up within at =
    subst (λ (m : ℕ). node_of fs ≡ without (bytes_eq (m ∷ [])) (field f.0 (content_of f.1) (node_of fs))) at
    (sym (at_end f.0 (content_of f.1) (node_of fs) ∙ above (node_of fs) f.0 f.0 [] up.2 (omega arith)))
removed (f ∷ fs) last n (suc i) d up within at =
    ap (field f.0 (content_of f.1)) (removed fs f.0 n i d up.2 (omega arith) at)
    ∙ sym (other f.0 n [] (content_of f.1) (node_of fs) (differs f.0 n (above_first fs f.0 i n d up.2 (omega arith) at)))

pub lighter : (fs : List (ℕ × FieldValue)) (i : ℕ) → i < length fs → weight (node_of (remove fs i)) < weight (node_of fs)
lighter [] i within = absurd (omega arith)
lighter (f ∷ fs) zero within = omega arith
lighter (f ∷ fs) (suc i) within = omega (arith, lighter fs i (omega arith))

-- ---- a field that changes inside

pub changed-inside : (fs : List (ℕ × FieldValue)) (last n m i : ℕ) (path : List ℕ) (d v : ℕ × FieldValue)
    → IsTreeAscendingFrom last (node_of fs) → i < length fs → (get_or fs i d).0 ≡ n → v.0 ≡ n
    → content_of v.1 ≡ content_without (bytes_eq (m ∷ path)) (content_of (get_or fs i d).1)
    → node_of (set fs i v) ≡ without (bytes_eq (n ∷ m ∷ path)) (node_of fs)
changed-inside [] last n m i path d v up within at number content = absurd (omega arith)
changed-inside (f ∷ fs) last n m zero path d v up within at number content =
    ap (λ (k : ℕ). field k (content_of v.1) (node_of fs)) (number ∙ sym at)
    ∙ ap (λ (c : Content). field f.0 c (node_of fs)) content
    ∙ ap (field f.0 (content_without (bytes_eq (m ∷ path)) (content_of f.1))) (sym (above (node_of fs) f.0 f.0 (m ∷ path) up.2 (omega arith)))
    ∙ sym (on_way f.0 m path (content_of f.1) (node_of fs))
    ∙ ap (λ (k : ℕ). without (bytes_eq (k ∷ m ∷ path)) (field f.0 (content_of f.1) (node_of fs))) at
changed-inside (f ∷ fs) last n m (suc i) path d v up within at number content =
    ap (field f.0 (content_of f.1)) (changed-inside fs f.0 n m i path d v up.2 (omega arith) at number content)
    ∙ sym (other f.0 n (m ∷ path) (content_of f.1) (node_of fs) (differs f.0 n (above_first fs f.0 i n d up.2 (omega arith) at)))

pub lighter-inside : (fs : List (ℕ × FieldValue)) (i : ℕ) (d v : ℕ × FieldValue) → i < length fs → content_weight (content_of v.1) < content_weight (content_of (get_or fs i d).1)
    → weight (node_of (set fs i v)) < weight (node_of fs)
lighter-inside [] i d v within less = absurd (omega arith)
lighter-inside (f ∷ fs) zero d v within less = omega (arith, less)
lighter-inside (f ∷ fs) (suc i) d v within less = omega (arith, lighter-inside fs i d v (omega arith) less)

-- the tree is unchanged if the field's content is
pub same-inside : (fs : List (ℕ × FieldValue)) (i : ℕ) (d v : ℕ × FieldValue) → i < length fs
    → v.0 ≡ (get_or fs i d).0 → content_of v.1 ≡ content_of (get_or fs i d).1 → node_of (set fs i v) ≡ node_of fs
same-inside [] i d v within number content = absurd (omega arith)
same-inside (f ∷ fs) zero d v within number content = ap (λ (k : ℕ). field k (content_of v.1) (node_of fs)) number ∙ ap (λ (c : Content). field f.0 c (node_of fs)) content
same-inside (f ∷ fs) (suc i) d v within number content = ap (field f.0 (content_of f.1)) (same-inside fs i d v (omega arith) number content)

-- the content of a field ascends
pub held : (fs : List (ℕ × FieldValue)) (last i : ℕ) (d : ℕ × FieldValue) → IsTreeAscendingFrom last (node_of fs) → i < length fs → IsAscendingContent (content_of (get_or fs i d).1)
held [] last i d up within = absurd (omega arith)
held (f ∷ fs) last zero d up within = up.1
held (f ∷ fs) last (suc i) d up within = held fs f.0 i d up.2 (omega arith)

-- ---- the way of a path

abbrev pub rest_of : List ℕ → List ℕ
rest_of way = take (length way - 1) (drop 1 way)

all_of : (xs : List ℕ) → take (suc (length xs) - 1) (drop 0 xs) ≡ xs
all_of xs = take_all (suc (length xs) - 1) xs (omega arith)

pub begins : (way : List ℕ) (number : ℕ) → 1 ≤ length way → way ++ number ∷ [] ≡ get_or way 0 0 ∷ (rest_of way ++ number ∷ [])
begins [] number some = absurd (omega arith)
begins (m ∷ way) number some = ap (λ (ms : List ℕ). m ∷ (ms ++ number ∷ [])) (sym (all_of way))

goes_on : (way : List ℕ) (number : ℕ) → (m : ℕ) × (path : List ℕ) × (way ++ number ∷ [] ≡ m ∷ path)
goes_on [] number = (number, [], refl)
goes_on (m ∷ way) number = (m, way ++ number ∷ [], refl)

-- the tree without the field at a path, if the first message on its way is without the field at the path's remainder
pub stepped : (fs : List (ℕ × FieldValue)) (i : ℕ) (way : List ℕ) (number : ℕ) (f : ℕ × FieldValue) (new : FieldValue)
    → IsAscendingTree (node_of fs) → 1 ≤ length way → i < length fs
    → f ≡ get_or fs i f → (get_or fs i f).0 ≡ get_or way 0 0 → content_of new ≡ content_without (bytes_eq (rest_of way ++ number ∷ [])) (content_of f.1)
    → node_of (set fs i (f.0, new)) ≡ without (bytes_eq (way ++ number ∷ [])) (node_of fs)
stepped fs i way number f new up some within is at content =
    let more = goes_on (rest_of way) number in
    let inner : content_of new ≡ content_without (bytes_eq (more.0 ∷ more.1)) (content_of (get_or fs i f).1) =
    content ∙ ap (λ (path : List ℕ). content_without (bytes_eq path) (content_of f.1)) more.2
    ∙ ap (λ (g : ℕ × FieldValue). content_without (bytes_eq (more.0 ∷ more.1)) (content_of g.1)) is in
    changed-inside fs 0 (get_or way 0 0) more.0 i more.1 f (f.0, new) up within at (ap (λ (g : ℕ × FieldValue). g.0) is ∙ at) inner
    ∙ ap (λ (path : List ℕ). without (bytes_eq (get_or way 0 0 ∷ path)) (node_of fs)) (sym more.2)
    ∙ ap (λ (path : List ℕ). without (bytes_eq path) (node_of fs)) (sym (begins way number some))
