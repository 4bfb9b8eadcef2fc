-- The oneofs of a message of a table.
use Rattle.std.proofs.Common.{◌≡◌, ◌≢◌, ℕ, zero, suc, ◌+◌, ◌<◌, inl, inr, List, [], ◌∷◌, ◌++◌, length, set, Option}
use Rattle.std.proofs.Common.{Some, None, refl, sym, ap, ◌∙◌, subst, arith, length-set}
use Rattle.std.specs.Prelude.{slice_get}
use Rattle.std.proofs.lemmas.Bool.{cases_lt, cases_eq}
use Rattle.std.proofs.lemmas.Option.{slice_get_within, same_Some}
use Rattle.std.proofs.lemmas.List.{length-append}
use Rattle.proto_ast.specs.declared.file.Word.{Word}
use Rattle.schema_resolve.specs.Joining.{AreUnplaced, IsPlacedOneof, HasOneofs}
use Rattle.schema_resolve.specs.declared.oneof_table.Oneofs.{Oneofs}
use Rattle.schema_resolve.proofs.CleanFiles.{push_old, push_new}

pub set_here : {X : Type 0} (xs : List X) (i : ℕ) (x : X) → i < length xs → slice_get (set xs i x) i ≡ Some x
set_here [] i x l = absurd (omega arith)
set_here (y ∷ xs) zero x l = refl
set_here (y ∷ xs) (suc i) x l = set_here xs i x (omega arith)

pub set_elsewhere : {X : Type 0} (xs : List X) (i k : ℕ) (x : X) → k ≢ i
    → slice_get (set xs i x) k ≡ slice_get xs k
set_elsewhere [] i k x n = refl
set_elsewhere (y ∷ xs) zero zero x n = absurd (n refl)
set_elsewhere (y ∷ xs) zero (suc k) x n = refl
set_elsewhere (y ∷ xs) (suc i) zero x n = refl
set_elsewhere (y ∷ xs) (suc i) (suc k) x n = set_elsewhere xs i k x (λ e. n (ap suc e))

pub unplaced_more : (i : ℕ) (places more : List (Option ℕ)) → more ≡ places ++ None ∷ [] → AreUnplaced i places
    → AreUnplaced (i + 1) more
unplaced_more i places more e h =
    subst (AreUnplaced (i + 1)) (sym e) (record {
      count_is = length-append places (None ∷ []) ∙ ap (λ (n : ℕ). n + 1) h.count_is;
      none = λ k place at. elim (cases_lt k (length places)) [
        | inl old ↦ h.none k place (sym (push_old places (None ∷ []) k old) ∙ at)
        | inr new ↦
            let l : k < length (places ++ None ∷ []) = slice_get_within (places ++ None ∷ []) k place at in
            let s : length places ≡ k = omega (arith, length-append places (None ∷ [])) in
            same_Some place None (sym at ∙ push_new places None k s)
      ];
    })

pub unplaced_none : (places : List (Option ℕ)) → places ≡ [] → AreUnplaced 0 places
unplaced_none places e = subst (AreUnplaced 0) (sym e) (record {
  count_is = refl;
  none = λ k place at. absurd cc;
})

some_none : (p : ℕ) → Some p ≡ None → ⊥
some_none p e = cc

pub keeps_none : (words : List Word) (o : Oneofs) → o.names ≡ [] → AreUnplaced (length words) o.places.items
    → HasOneofs words o
keeps_none words o e h = record {
  count = h.count_is;
  placed = λ i p at. absurd (some_none p (h.none i (Some p) at));
  met = λ p l. absurd (omega (arith, ap length e));
}

pub named_longer : (words : List Word) (names : List (List ℕ)) (name : List ℕ) (i p : ℕ) → IsPlacedOneof words names i p
    → IsPlacedOneof words (names ++ name ∷ []) i p
named_longer words names name i p h = record {
  word = h.word;
  at = h.at;
  named = push_old names (name ∷ []) p (slice_get_within names p h.word.name h.named) ∙ h.named;
}

pub keeps_more : (words : List Word) (old new : Oneofs) (i : ℕ) (w : Word) → slice_get words i ≡ Some w
    → slice_get old.places.items i ≡ Some None → new.names ≡ old.names ++ w.name ∷ []
    → new.places.items ≡ set old.places.items i (Some (length old.names)) → HasOneofs words old
    → HasOneofs words new × IsPlacedOneof words new.names i (length old.names)
keeps_more words old new i w at none names places h =
    let n = length old.names in
    let P = old.places.items in
    let l : i < length P = slice_get_within P i None none in
    let here : IsPlacedOneof words new.names i n =
    subst (λ (ns : List (List ℕ)). IsPlacedOneof words ns i n) (sym names)
    (record { word = w; at = at; named = push_new old.names w.name n refl }) in
    let read : (k : ℕ) → slice_get new.places.items k ≡ slice_get (set P i (Some n)) k =
    λ k. ap (λ (ps : List (Option ℕ)). slice_get ps k) places in (
      record {
        count = ap length places ∙ length-set P i (Some n) ∙ h.count;
        placed = λ k p e. elim (cases_eq k i) [
          | inl s ↦
              let f : Some (Some n) ≡ Some (Some p) =
              sym (set_here P i (Some n) l) ∙ ap (slice_get (set P i (Some n))) (sym s) ∙ sym (read k) ∙ e in
              let q : n ≡ p = cc in
              subst (λ (j : ℕ). IsPlacedOneof words new.names j p) (sym s)
              (subst (IsPlacedOneof words new.names i) q here)
          | inr d ↦
              let f : slice_get P k ≡ Some (Some p) = sym (set_elsewhere P i k (Some n) d) ∙ sym (read k) ∙ e in
              subst (λ (ns : List (List ℕ)). IsPlacedOneof words ns k p) (sym names)
              (named_longer words old.names w.name k p (h.placed k p f))
        ];
        met = λ p m. elim (cases_lt p n) [
          | inl b ↦
              let k = h.met p b in
              let d : k.0 ≢ i = λ s.
              let f : Some (Some p) ≡ Some None = sym k.1 ∙ ap (slice_get P) s ∙ none in
              cc in
              (k.0, read k.0 ∙ set_elsewhere P i k.0 (Some n) d ∙ k.1)
          | inr b ↦
              let s : n ≡ p = omega (arith, ap length names, length-append old.names (w.name ∷ [])) in
              (i, read i ∙ set_here P i (Some n) l ∙ ap (λ (q : ℕ). Some (Some q)) s)
        ];
      },
      here,
    )
