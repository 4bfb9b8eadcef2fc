-- The number of oneofs of a message: in a valid table no more than its fields.
use Rattle.std.proofs.Common.{◌≡◌, ℕ, suc, ◌+◌, ◌≤◌, List, [], ◌∷◌, length, All, Some, subst, arith, Option, None, ap, option_map, unwrap_or, slice_get, inl, inr}
use Rattle.std.proofs.lemmas.Option.{slice_get_cases}
use Rattle.mrpc_table.specs.Valid.{IsValid, IsMessage, IsNextOneof, AreOneofsInOrder}
use Rattle.mrpc_table.specs.declared.table.Label.{Label}
use Rattle.mrpc_table.specs.declared.table.Label.TheVariants.{Plain, Optional, Repeated, Packed, Map, Member}
use Rattle.mrpc_table.specs.declared.table.Field.{Field}
use Rattle.mrpc_table.specs.declared.table.Message.{Message}
use Rattle.mrpc_table.specs.declared.table.Table.{Table}
use Rattle.graph_form.specs.Roles.{oneof_count}

pub oneofs_at : (T : Table) (i : ℕ) (m : Message) → slice_get T.messages i ≡ Some m → oneof_count T i ≡ length m.oneofs
oneofs_at T i m got = ap (λ o. unwrap_or (option_map (λ x. length x.oneofs) o) 0) got

pub no_oneofs_at : (T : Table) (i : ℕ) → slice_get T.messages i ≡ None → oneof_count T i ≡ 0
no_oneofs_at T i got = ap (λ (o : Option Message). unwrap_or (option_map (λ x. length x.oneofs) o) 0) got

all_got : {X : Type 0} (P : X → Type 0) (xs : List X) (i : ℕ) (x : X) → All P xs → slice_get xs i ≡ Some x → P x
all_got P xs i x all got =
    elim (slice_get_cases xs i).1 [
      | inl in_range ↦ let same : in_range.0 ≡ x = cc (in_range.2, got) in subst P same (subst P in_range.3 (all i in_range.0 in_range.1))
      | inr past ↦ absurd (cc (past.1, got))
    ]

joined_le : (met all n : ℕ) (l : Label) (Same Next : Type 0) → (Same → all ≤ met + n) → (Next → all ≤ met + 1 + n) → IsNextOneof met l Same Next → all ≤ met + suc n
joined_le met all n Plain Same Next same next h = omega (arith, same h)
joined_le met all n Optional Same Next same next h = omega (arith, same h)
joined_le met all n Repeated Same Next same next h = omega (arith, same h)
joined_le met all n Packed Same Next same next h = omega (arith, same h)
joined_le met all n (Map k) Same Next same next h = omega (arith, same h)
joined_le met all n (Member o) Same Next same next h = elim h [ inl old ↦ omega (arith, same old.1) | inr new ↦ omega (arith, next new.1) ]

follow_le : (met all : ℕ) (fs : List Field) → AreOneofsInOrder met all fs → all ≤ met + length fs
follow_le met all [] h = omega (arith, h)
follow_le met all (f ∷ fs) h = joined_le met all (length fs) f.label (AreOneofsInOrder met all fs) (AreOneofsInOrder (met + 1) all fs) (follow_le met all fs) (follow_le (met + 1) all fs) h

pub few_oneofs : (T : Table) (i : ℕ) (m : Message) → IsValid T → slice_get T.messages i ≡ Some m → length m.oneofs ≤ 128
few_oneofs T i m valid got =
    let h = all_got (IsMessage T) T.messages i m valid.messages got in
    omega (arith, follow_le 0 (length m.oneofs) m.fields h.oneof_order, h.few)
