-- A set of names.
use Rattle.std.proofs.Common.{◌≡◌, ℕ, ◌+◌, ◌<◌, Bool, true, false, cond, List, [], ◌∷◌, ◌++◌, inl, inr, length}
use Rattle.std.proofs.Common.{get_or, take, refl, sym, ap, ◌∙◌, subst, arith}
use Rattle.std.specs.Prelude.{Option, Some, is_some}
use Rattle.std.specs.Borrow.{Bor}
use Rattle.std.specs.BTreeMap.{BTreeMap, get_by}
use Rattle.std.specs.Map.{lookup}
use Rattle.std.specs.Ordering.{nat_cmp, is_eq}
use Rattle.std.specs.Cmp.{Equal-is}
use Rattle.std.specs.Cmp.Lexicographic.{slice_cmp}
use Rattle.std.proofs.lemmas.Cmp.{tied_itself, nat_list_cmp_total}
use Rattle.std.proofs.lemmas.Map.Lookups.{exact_bytes}
use Rattle.std.proofs.lemmas.List.Elements.{Contains-append_left, Contains-push, Contains-push_cases}
use Rattle.std.proofs.lemmas.List.{take_more}
use Rattle.proto_ast.specs.declared.file.Word.{Word}
use Rattle.schema_validation.specs.Members.{IsReservedName}
use Rattle.schema_validation.specs.ReservedNames.{HasReservedNames, has_reserved_name}
use Rattle.schema_validation.specs.declared.name_set.NameSet.{NameSet}

same_bytes : (x q : List ℕ) → is_eq (slice_cmp nat_cmp x q) ≡ true → x ≡ q
same_bytes x q e = exact_bytes x q ((Equal-is (slice_cmp nat_cmp x q)).0 e)

bytes_same : (x q : List ℕ) → x ≡ q → is_eq (slice_cmp nat_cmp x q) ≡ true
bytes_same x q e =
    subst (λ (y : List ℕ). is_eq (slice_cmp nat_cmp x y) ≡ true) e (ap is_eq (tied_itself nat_list_cmp_total x))

none_at : (kept : BTreeMap (Bor (List ℕ)) (Unit {0})) (name : List ℕ) → kept.entries ≡ []
    → is_some (get_by (λ (key : Bor (List ℕ)). slice_cmp nat_cmp name key.now) kept) ≡ false
none_at kept name e =
    ap (λ es. is_some (lookup (λ (key : Bor (List ℕ)). is_eq (slice_cmp nat_cmp name key.now)) es)) e

pub keeps_none : (kept : NameSet) → kept.names.entries ≡ [] → HasReservedNames [] kept
keeps_none kept none name = (
  λ e. absurd (let f : has_reserved_name kept name ≡ false = none_at kept.names name none in cc),
  λ r. absurd (let l : r.1.0 < 0 = r.1.1 in omega arith),
)

push_to : (words : List Word) (w : Word) (name : List ℕ) (b : Bool) (o : Option (Unit {0}))
    → is_eq (slice_cmp nat_cmp w.name name) ≡ b → (is_some o ≡ true → IsReservedName words name)
    → is_some (cond b (Some tt) o) ≡ true → IsReservedName (words ++ w ∷ []) name
push_to words w name true o e old is = (w, Contains-push words w, same_bytes w.name name e)
push_to words w name false o e old is =
    let r = old is in
    (r.0, Contains-append_left words (w ∷ []) r.0 r.1, r.2)

push_from : (words : List Word) (w : Word) (name : List ℕ) (b : Bool) (o : Option (Unit {0}))
    → is_eq (slice_cmp nat_cmp w.name name) ≡ b → (IsReservedName words name → is_some o ≡ true)
    → IsReservedName (words ++ w ∷ []) name → is_some (cond b (Some tt) o) ≡ true
push_from words w name true o e old r = refl
push_from words w name false o e old r = elim (Contains-push_cases words w r.0 r.1) [
  | inl before ↦ old (r.0, before, r.2)
  | inr now ↦
      let same : w.name ≡ name = ap (λ (v : Word). v.name) now ∙ r.2 in
      absurd (let t : is_eq (slice_cmp nat_cmp w.name name) ≡ true = bytes_same w.name name same in cc)
]

-- one more name
pub keeps_push : (words : List Word) (w : Word) (old new : NameSet)
    → ((name : List ℕ) → get_by (λ (key : Bor (List ℕ)). slice_cmp nat_cmp name key.now) new.names
    ≡ cond (is_eq (slice_cmp nat_cmp w.name name)) (Some tt)
    (get_by (λ (key : Bor (List ℕ)). slice_cmp nat_cmp name key.now) old.names))
    → HasReservedNames words old → HasReservedNames (words ++ w ∷ []) new
keeps_push words w old new changed known name =
    let b : Bool = is_eq (slice_cmp nat_cmp w.name name) in
    let o : Option (Unit {0}) = get_by (λ (key : Bor (List ℕ)). slice_cmp nat_cmp name key.now) old.names in
    let e : has_reserved_name new name ≡ is_some (cond b (Some tt) o) = ap is_some (changed name) in (
      λ h. push_to words w name b o refl (known name).0 (sym e ∙ h),
      λ r. e ∙ push_from words w name b o refl (known name).1 r,
    )

pub keeps_next : (words : List Word) (i : ℕ) (d : Word) (old new : NameSet) → i < length words
    → ((name : List ℕ) → get_by (λ (key : Bor (List ℕ)). slice_cmp nat_cmp name key.now) new.names
    ≡ cond (is_eq (slice_cmp nat_cmp (get_or words i d).name name)) (Some tt)
    (get_by (λ (key : Bor (List ℕ)). slice_cmp nat_cmp name key.now) old.names))
    → HasReservedNames (take i words) old → HasReservedNames (take (i + 1) words) new
keeps_next words i d old new l changed known =
    subst (λ (xs : List Word). HasReservedNames xs new) (sym (take_more words i d l))
    (keeps_push (take i words) (get_or words i d) old new changed known)
