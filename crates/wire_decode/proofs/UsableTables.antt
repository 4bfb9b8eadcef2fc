-- The facts of a valid table that the meaning of bytes needs. In each message the numbers ascend from 1 to below 2^29,
-- no key is a message, and what is packed is a number.
use Rattle.std.proofs.Common.{◌≡◌, ℕ, zero, suc, ◌^◌, ◌<◌, ◌≤◌, List, [], ◌∷◌, length, get_or, All, Some, None, true}
use Rattle.std.proofs.Common.{false, refl, subst, ◌∙◌, arith, slice_get, option_map, unwrap_or}
use Rattle.std.proofs.lemmas.List.Elements.{All-head, All-tail}
use Rattle.mrpc_table.specs.Normal.{fields_of, field_at}
use Rattle.mrpc_table.specs.Words.{is_numeric, is_key}
use Rattle.mrpc_table.specs.Valid.{IsValid, IsMessage, IsField, IsLabelFor, IsAscendingBy}
use Rattle.mrpc_table.specs.declared.table.Kind.{Kind}
use Rattle.mrpc_table.specs.declared.table.Kind.TheVariants.{Message as OfMessage}
use Rattle.mrpc_table.specs.declared.table.Label.{Label}
use Rattle.mrpc_table.specs.declared.table.Label.TheVariants.{Packed, Map}
use Rattle.mrpc_table.specs.declared.table.Field.{Field}
use Rattle.mrpc_table.specs.declared.table.Message.{Message}
use Rattle.mrpc_table.specs.declared.table.Table.{Table}
use Rattle.mrpc_table.specs.Ascending.{AreAllFieldsAscending, AreFieldsAscending}
use Rattle.wire_decode.specs.Known.{is_message_kind}
use Rattle.wire_decode.proofs.Merging.{field-here, field-later}

pub record IsUsable (f : Field) : Type 0 where
  pub small : f.number < 2 ^ 29
  pub key : (key : Kind) → f.label ≡ Map key → is_message_kind key ≡ false
  pub packed : f.label ≡ Packed → is_numeric f.kind ≡ true

-- usable fields with numbers that ascend from above `last`
abbrev pub AreFieldsFrom : ℕ → List Field → Type 0
AreFieldsFrom last [] = Unit {0}
AreFieldsFrom last (f ∷ fs) = (last < f.number) × IsUsable f × AreFieldsFrom f.number fs

pub record IsUsableTable (T : Table) : Type 0 where
  pub each : (i : ℕ) → AreFieldsFrom 0 (fields_of T i)

key-plain : (k : Kind) → is_key k ≡ true → is_message_kind k ≡ false
key-plain (OfMessage i) h = absurd (cc)
key-plain _ h = refl

label-key : (oneofs : ℕ) (label : Label) (k key : Kind) → IsLabelFor oneofs label k → label ≡ Map key → is_message_kind key ≡ false
label-key oneofs label k key h e =
    let goes : IsLabelFor oneofs (Map key) k = subst (λ (x : Label). IsLabelFor oneofs x k) e h in
    key-plain key goes

label-packed : (oneofs : ℕ) (label : Label) (k : Kind) → IsLabelFor oneofs label k → label ≡ Packed → is_numeric k ≡ true
label-packed oneofs label k h e =
    let goes : IsLabelFor oneofs Packed k = subst (λ (x : Label). IsLabelFor oneofs x k) e h in
    goes

usable-field : (T : Table) (oneofs : ℕ) (f : Field) → IsField T oneofs f → IsUsable f
usable-field T oneofs f h = record {
  small = omega (arith, h.number.small);
  key = λ key e. label-key oneofs f.label f.kind key h.label e;
  packed = λ e. label-packed oneofs f.label f.kind h.label e;
}

usable-from : (T : Table) (oneofs last : ℕ) (fs : List Field) → All (IsField T oneofs) fs
    → IsAscendingBy (λ f g. f.number < g.number) fs → ((f : Field) → (0 < length fs) → get_or fs 0 f ≡ f → last < f.number)
    → AreFieldsFrom last fs
usable-from T oneofs last [] all ascends first = tt
usable-from T oneofs last (f ∷ []) all ascends first = (first f (omega arith) refl, usable-field T oneofs f (All-head (IsField T oneofs) f [] all), tt)
usable-from T oneofs last (f ∷ g ∷ fs) all ascends first =
    let next : (h : Field) → (0 < length (g ∷ fs)) → g ≡ h → f.number < h.number = λ h less e. subst (λ (x : Field). f.number < x.number) e ascends.0 in (
      first f (omega arith) refl,
      usable-field T oneofs f (All-head (IsField T oneofs) f (g ∷ fs) all),
      usable-from T oneofs f.number (g ∷ fs) (All-tail (IsField T oneofs) f (g ∷ fs) all) ascends.1 next,
    )

positive-first : (T : Table) (oneofs : ℕ) (fs : List Field) → All (IsField T oneofs) fs → (f : Field) → (0 < length fs) → get_or fs 0 f ≡ f → 0 < f.number
positive-first T oneofs [] all f less e = absurd (omega (arith, less))
positive-first T oneofs (g ∷ fs) all f less e = subst (λ (x : Field). 0 < x.number) e (All-head (IsField T oneofs) g fs all).number.positive

usable-message : (T : Table) (m : Message) → IsMessage T m → AreFieldsFrom 0 m.fields
usable-message T m h = usable-from T (length m.oneofs) 0 m.fields h.fields h.ascend (positive-first T (length m.oneofs) m.fields h.fields)

usable-at : (T : Table) (ms : List Message) (i : ℕ) → All (IsMessage T) ms → AreFieldsFrom 0 (unwrap_or (option_map (λ m. m.fields) (slice_get ms i)) [])
usable-at T [] i all = tt
usable-at T (m ∷ ms) zero all = usable-message T m (All-head (IsMessage T) m ms all)
usable-at T (m ∷ ms) (suc i) all = usable-at T ms i (All-tail (IsMessage T) m ms all)

pub usable-valid : (T : Table) → IsValid T → IsUsableTable T
usable-valid T h = record { each = λ i. usable-at T T.messages i h.messages }

ascend-at : (T : Table) (ms : List Message) (i : ℕ) → All (IsMessage T) ms → AreFieldsAscending (unwrap_or (option_map (λ m. m.fields) (slice_get ms i)) [])
ascend-at T [] i all = tt
ascend-at T (m ∷ ms) zero all = (All-head (IsMessage T) m ms all).ascend
ascend-at T (m ∷ ms) (suc i) all = ascend-at T ms i (All-tail (IsMessage T) m ms all)

pub valid-ascends : (T : Table) → IsValid T → AreAllFieldsAscending T
valid-ascends T h = record { each = λ i. ascend-at T T.messages i h.messages }

-- a number below all of the fields
pub at-none : (n last : ℕ) (fs : List Field) → AreFieldsFrom last fs → n ≤ last → field_at fs n ≡ None
at-none n last [] h le = refl
at-none n last (f ∷ fs) h le = let a = h.0 in field-later f fs n (omega (arith, a, le)) ∙ at-none n f.number fs h.2 (omega (arith, a, le))

-- the fields are all those of a message with numbers above `last`
pub record IsRest (all : List Field) (last : ℕ) (fs : List Field) : Type 0 where
  pub same : (n : ℕ) → last < n → field_at all n ≡ field_at fs n

pub rest-start : (fs : List Field) → IsRest fs 0 fs
rest-start fs = record { same = λ n less. refl }

pub rest-first : (all : List Field) (last : ℕ) (f : Field) (fs : List Field) → last < f.number → IsRest all last (f ∷ fs) → field_at all f.number ≡ Some f
rest-first all last f fs less h = h.same f.number less ∙ field-here f fs f.number refl

pub rest-more : (all : List Field) (last : ℕ) (f : Field) (fs : List Field) → last < f.number → IsRest all last (f ∷ fs) → IsRest all f.number fs
rest-more all last f fs less h = record { same = λ n more. h.same n (omega (arith, less, more)) ∙ field-later f fs n (omega (arith, more)) }
