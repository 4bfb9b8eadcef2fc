-- Fields of a list, one inserted before another.
use Rattle.std.proofs.Common.{◌≡◌, ℕ, zero, suc, ◌+◌, ◌≤◌, List, [], ◌∷◌, ◌++◌, length, drop, cond, refl, sym, ap, ◌∙◌, arith}
use Rattle.std.proofs.lemmas.Bool.{lt-ltb}
use Rattle.mrpc_table.specs.Node.{Node, no_fields, field, Content}
use Rattle.mrpc_table.specs.View.{content_of, node_of}
use Rattle.mrpc_table.specs.declared.tree.FieldValue.{FieldValue}
use Rattle.graph_form.specs.Forgotten.{insert_field}
use Rattle.graph_copy.specs.Makes.{insert_all}

pub insert_last : (fs : List (ℕ × FieldValue)) (n : ℕ) (c : FieldValue) (t : Node) → insert_all (fs ++ (n, c) ∷ []) t ≡ insert_all fs (insert_field n (content_of c) t)
insert_last [] n c t = refl
insert_last (f ∷ fs) n c t = ap (insert_field f.0 (content_of f.1)) (insert_last fs n c t)

-- numbers that rise from a least one
abbrev pub RiseFrom : ℕ → List (ℕ × FieldValue) → Type 0
RiseFrom least [] = Unit {0}
RiseFrom least (f ∷ fs) = (least ≤ f.0) × RiseFrom (f.0 + 1) fs

rise_front : (n : ℕ) (c : Content) (fs : List (ℕ × FieldValue)) → RiseFrom (n + 1) fs → insert_field n c (node_of fs) ≡ field n c (node_of fs)
rise_front n c [] h = refl
rise_front n c (f ∷ fs) h = ap (λ b. cond b (field n c (node_of (f ∷ fs))) (field f.0 (content_of f.1) (insert_field n c (node_of fs)))) (lt-ltb n f.0 (omega (arith, h.0)))

pub rise_inserted : (least : ℕ) (fs : List (ℕ × FieldValue)) → RiseFrom least fs → node_of fs ≡ insert_all fs no_fields
rise_inserted least [] h = refl
rise_inserted least (f ∷ fs) h = sym (rise_front f.0 (content_of f.1) fs h.1) ∙ ap (insert_field f.0 (content_of f.1)) (rise_inserted (f.0 + 1) fs h.1)

pub drop_past : {X : Type 0} (xs : List X) (n : ℕ) → length xs ≤ n → drop n xs ≡ []
drop_past [] zero h = refl
drop_past [] (suc n) h = refl
drop_past (x ∷ xs) zero h = absurd (omega (arith, h))
drop_past (x ∷ xs) (suc n) h = drop_past xs n (omega (arith, h))
