-- Properties of the message at an index of a valid table.
use Rattle.std.proofs.Common.{◌≡◌, ◌≢◌, ℕ, ◌^◌, ◌≤◌, List, [], ◌∷◌, length, All, cond, Option, Some, None, refl, ap}
use Rattle.std.proofs.Common.{subst, ◌∙◌, arith, slice_get, option_map, unwrap_or, inl, inr}
use Rattle.std.proofs.lemmas.Option.{slice_get_cases}
use Rattle.std.proofs.lemmas.Bool.{ne_eqb}
use Rattle.std.proofs.lemmas.List.Elements.{All-head, All-tail}
use Rattle.mrpc_table.specs.Normal.{fields_of, field_at}
use Rattle.mrpc_table.specs.Valid.{IsValid, IsMessage, IsField}
use Rattle.mrpc_table.specs.declared.table.Field.{Field}
use Rattle.mrpc_table.specs.declared.table.Message.{Message}
use Rattle.mrpc_table.specs.declared.table.Table.{Table}

all_got : {X : Type 0} (P : X → Type 0) (xs : List X) (i : ℕ) (x : X) → All P xs → slice_get xs i ≡ Some x → P x
all_got P xs i x all got =
    elim (slice_get_cases xs i).1 [
      | inl in_range ↦ let same : in_range.0 ≡ x = cc (in_range.2, got) in subst P same (subst P in_range.3 (all i in_range.0 in_range.1))
      | inr past ↦ absurd (cc (past.1, got))
    ]

pub message_valid : (T : Table) (i : ℕ) (m : Message) → IsValid T → slice_get T.messages i ≡ Some m → IsMessage T m
message_valid T i m valid got = all_got (IsMessage T) T.messages i m valid.messages got

pub fields_at : (T : Table) (i : ℕ) (m : Message) → slice_get T.messages i ≡ Some m → fields_of T i ≡ m.fields
fields_at T i m got = ap (λ o. unwrap_or (option_map (λ x. x.fields) o) []) got

pub no_fields_at : (T : Table) (i : ℕ) → slice_get T.messages i ≡ None → fields_of T i ≡ []
no_fields_at T i got = ap (λ (o : Option Message). unwrap_or (option_map (λ x. x.fields) o) []) got

no_field_past : (T : Table) (oneofs : ℕ) (fs : List Field) (n : ℕ) → All (IsField T oneofs) fs → 2 ^ 32 ≤ n → field_at fs n ≡ None
no_field_past T oneofs [] n all past = refl
no_field_past T oneofs (f ∷ fs) n all past =
    let head = All-head (IsField T oneofs) f fs all in
    let differs : f.number ≢ n = λ e. omega (arith, e, past, head.number.small) in
    ap (λ b. cond b (Some f) (field_at fs n)) (ne_eqb f.number n differs) ∙ no_field_past T oneofs fs n (All-tail (IsField T oneofs) f fs all) past

pub none_past : (T : Table) (i n : ℕ) → IsValid T → 2 ^ 32 ≤ n → field_at (fields_of T i) n ≡ None
none_past T i n valid past =
    elim (slice_get_cases T.messages i).1 [
      | inl in_range ↦ let m = in_range.0 in
          ap (λ fs. field_at fs n) (fields_at T i m in_range.2) ∙ no_field_past T (length m.oneofs) m.fields n
          (message_valid T i m valid in_range.2).fields past
      | inr out ↦ ap (λ fs. field_at fs n) (no_fields_at T i out.1)
    ]
