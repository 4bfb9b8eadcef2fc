-- Which records of a oneof count.
use Rattle.std.proofs.Common.{◌≡◌, ◌==◌, ◌&&◌, ◌||◌, ℕ, List, [], ◌∷◌, ◌++◌, Option, Some}
use Rattle.std.proofs.Common.{None, Bool, true, false, not, cond, refl, ap, sym, ◌∙◌}
use Rattle.std.specs.Option.{option_and_then, is_some}
use Rattle.std.specs.Prelude.{reverse}
use Rattle.std.proofs.lemmas.List.{reverse-append}
use Rattle.mrpc_table.specs.Node.{Node, no_fields, field, Content, push_field}
use Rattle.mrpc_table.specs.Normal.{field_at}
use Rattle.mrpc_table.specs.View.{content_of, node_of}
use Rattle.mrpc_table.specs.declared.tree.FieldValue.{FieldValue}
use Rattle.mrpc_table.specs.declared.table.Field.{Field}
use Rattle.wire_decode.specs.Oneofs.{oneof_of, oneof_at, are_same_oneof, are_rivals}
use Rattle.wire_decode.specs.Merged.{is_overtaken, counted_records}
use Rattle.wire_decode.specs.declared.oneof.LaterMembers.{LaterMembers}
use Rattle.wire_decode.specs.LaterMembers.{AreLaterMembers, HasNoMember, IsCountDecision}

pub and-false : (b : Bool) → (b && false) ≡ false
and-false true = refl
and-false false = refl

-- a number of no oneof has no rivals
rivals-none : (fs : List Field) (n m : ℕ) → oneof_at fs n ≡ None → are_rivals fs n m ≡ false
rivals-none fs n m e = ap (λ o. not (m == n) && are_same_oneof o (oneof_at fs m)) e ∙ and-false (not (m == n))

pub overtaken-none : (fs : List Field) (n : ℕ) (t : Node) → oneof_at fs n ≡ None → is_overtaken fs n t ≡ false
overtaken-none fs n no_fields e = refl
overtaken-none fs n (field m c t) e = ap (λ b. b || is_overtaken fs n t) (rivals-none fs n m e) ∙ overtaken-none fs n t e

rivals-other : (fs : List Field) (n m p : ℕ) → oneof_at fs n ≡ Some p → oneof_at fs m ≡ None → are_rivals fs n m ≡ false
rivals-other fs n m p e f = ap (λ o. not (m == n) && are_same_oneof o (oneof_at fs m)) e ∙ ap (λ o. not (m == n) && are_same_oneof (Some p) o) f ∙ and-false (not (m == n))

pub counted-other : (fs : List Field) (bs : List LaterMembers) (n : ℕ) → oneof_at fs n ≡ None → IsCountDecision fs bs n bs true
counted-other fs bs n e = record {
  counts = λ t h. sym (ap not (overtaken-none fs n t e));
  tells = λ t c h k p at. h k p at ∙ sym (ap (λ b. b || is_overtaken fs k t) (rivals-other fs k n p at e));
}

pub tell-none : (fs : List Field) → AreLaterMembers fs [] no_fields
tell-none fs n o e = refl

pub counted-kept : (fs : List Field) (n : ℕ) (c : Content) (t : Node) → true ≡ not (is_overtaken fs n t) → counted_records fs (field n c t) ≡ field n c (counted_records fs t)
counted-kept fs n c t h = ap (λ b. cond b (counted_records fs t) (field n c (counted_records fs t))) (is-false (is_overtaken fs n t) h)
  where
    is-false : (b : Bool) → true ≡ not b → b ≡ false
    is-false true h = h
    is-false false h = refl

pub counted-dropped : (fs : List Field) (n : ℕ) (c : Content) (t : Node) → false ≡ not (is_overtaken fs n t) → counted_records fs (field n c t) ≡ counted_records fs t
counted-dropped fs n c t h = ap (λ b. cond b (counted_records fs t) (field n c (counted_records fs t))) (is-true (is_overtaken fs n t) h)
  where
    is-true : (b : Bool) → false ≡ not b → b ≡ true
    is-true true h = refl
    is-true false h = h

pub counted-all : (fs : List Field) (t : Node) → HasNoMember fs t → t ≡ counted_records fs t
counted-all fs no_fields h = refl
counted-all fs (field n c t) h = ap (field n c) (counted-all fs t h.1) ∙ sym (counted-kept fs n c t (sym (ap not (overtaken-none fs n t h.0))))

pub member-pushed : (fs : List Field) (n : ℕ) (c : Content) (t : Node) → oneof_at fs n ≡ None → HasNoMember fs t → HasNoMember fs (push_field t n c)
member-pushed fs n c no_fields e h = (e, tt)
member-pushed fs n c (field m d t) e h = (h.0, member-pushed fs n c t e h.1)

pub oneof-found : (fs : List Field) (n : ℕ) (f : Field) → field_at fs n ≡ Some f → oneof_at fs n ≡ oneof_of f.label
oneof-found fs n f e = ap (option_and_then (λ f. oneof_of f.label)) e

pub none-of : (o : Option ℕ) → is_some o ≡ false → o ≡ None
none-of None h = refl
none-of (Some n) h = absurd (cc)

pub kept-more : (fs : List Field) (kept new : List (ℕ × FieldValue)) (b : Bool) (x : ℕ × FieldValue) (done : Node)
    → new ≡ cond b (kept ++ x ∷ []) kept → b ≡ not (is_overtaken fs x.0 done)
    → node_of (reverse kept) ≡ counted_records fs done → node_of (reverse new) ≡ counted_records fs (field x.0 (content_of x.1) done)
kept-more fs kept new true x done e h k =
    ap (λ xs. node_of (reverse xs)) e ∙ ap node_of (reverse-append kept (x ∷ [])) ∙ ap (field x.0 (content_of x.1)) k ∙ sym (counted-kept fs x.0 (content_of x.1) done h)
kept-more fs kept new false x done e h k =
    ap (λ xs. node_of (reverse xs)) e ∙ k ∙ sym (counted-dropped fs x.0 (content_of x.1) done h)
