-- The properties of a valid table on which the normal form of a graph's tree rests. In each message the numbers rise,
-- no key is a message, and the slots are in ascending order of numbers.
use Rattle.std.proofs.Common.{◌≡◌, ◌≢◌, ℕ, zero, suc, ◌<◌, Bool, List, [], ◌∷◌, length, get_or, All, Some, true}
use Rattle.std.proofs.Common.{false, cond, if◌then◌else◌, refl, ap, subst, ◌∙◌, arith, slice_get, option_map}
use Rattle.std.proofs.Common.{unwrap_or}
use Rattle.std.proofs.lemmas.Bool.{eq-eqb, ne_eqb}
use Rattle.std.proofs.lemmas.List.Elements.{All-head, All-tail}
use Rattle.mrpc_table.specs.Normal.{fields_of, field_at}
use Rattle.mrpc_table.specs.Words.{is_key}
use Rattle.mrpc_table.specs.Valid.{IsValid, IsMessage, IsField, IsLabelFor, IsAscendingBy}
use Rattle.mrpc_table.specs.declared.table.Kind.{Kind}
use Rattle.mrpc_table.specs.declared.table.Kind.TheVariants.{Message as OfMessage}
use Rattle.mrpc_table.specs.declared.table.Label.{Label}
use Rattle.mrpc_table.specs.declared.table.Label.TheVariants.{Map}
use Rattle.mrpc_table.specs.declared.table.Field.{Field}
use Rattle.mrpc_table.specs.declared.table.Message.{Message}
use Rattle.mrpc_table.specs.declared.table.Table.{Table}
use Rattle.graph_form.specs.Roles.{is_member, own_slots}

abbrev pub IsNoMessage : Kind → Type 0
IsNoMessage k = (i : ℕ) → k ≢ OfMessage i

abbrev pub HasPlainKey : Label → Type 0
HasPlainKey label = (key : Kind) → label ≡ Map key → IsNoMessage key

-- fields with rising numbers, all above `last`
abbrev pub RiseFrom : ℕ → List Field → Type 0
RiseFrom last [] = Unit {0}
RiseFrom last (f ∷ fs) = (last < f.number) × HasPlainKey f.label × RiseFrom f.number fs

abbrev pub AllRise : Table → Type 0
AllRise T = (i : ℕ) → RiseFrom 0 (fields_of T i)

key-plain : (k : Kind) → is_key k ≡ true → IsNoMessage k
key-plain (OfMessage i) h j e = cc
key-plain k h j e = let bad : is_key (OfMessage j) ≡ true = subst (λ z. is_key z ≡ true) e h in cc

label-key : (oneofs : ℕ) (label : Label) (k : Kind) → IsLabelFor oneofs label k → HasPlainKey label
label-key oneofs label k h key e =
    let goes : IsLabelFor oneofs (Map key) k = subst (λ (x : Label). IsLabelFor oneofs x k) e h in
    key-plain key goes

rise-from : (T : Table) (oneofs last : ℕ) (fs : List Field) → All (IsField T oneofs) fs
    → IsAscendingBy (λ f g. f.number < g.number) fs → ((f : Field) → (0 < length fs) → get_or fs 0 f ≡ f → last < f.number)
    → RiseFrom last fs
rise-from T oneofs last [] all ascends above = tt
rise-from T oneofs last (f ∷ []) all ascends above = (above f (omega arith) refl, label-key oneofs f.label f.kind (All-head (IsField T oneofs) f [] all).label, tt)
rise-from T oneofs last (f ∷ g ∷ fs) all ascends above =
    let next : (h : Field) → (0 < length (g ∷ fs)) → g ≡ h → f.number < h.number = λ h less e. subst (λ (x : Field). f.number < x.number) e ascends.0 in (
      above f (omega arith) refl,
      label-key oneofs f.label f.kind (All-head (IsField T oneofs) f (g ∷ fs) all).label,
      rise-from T oneofs f.number (g ∷ fs) (All-tail (IsField T oneofs) f (g ∷ fs) all) ascends.1 next,
    )

positive : (T : Table) (oneofs : ℕ) (fs : List Field) → All (IsField T oneofs) fs → (f : Field) → (0 < length fs) → get_or fs 0 f ≡ f → 0 < f.number
positive T oneofs [] all f less e = absurd (omega (arith, less))
positive T oneofs (g ∷ fs) all f less e = subst (λ (x : Field). 0 < x.number) e (All-head (IsField T oneofs) g fs all).number.positive

rise-at : (T : Table) (ms : List Message) (i : ℕ) → All (IsMessage T) ms → RiseFrom 0 (unwrap_or (option_map (λ m. m.fields) (slice_get ms i)) [])
rise-at T [] i all = tt
rise-at T (m ∷ ms) zero all = let h = All-head (IsMessage T) m ms all in rise-from T (length m.oneofs) 0 m.fields h.fields h.ascend (positive T (length m.oneofs) m.fields h.fields)
rise-at T (m ∷ ms) (suc i) all = rise-at T ms i (All-tail (IsMessage T) m ms all)

pub all-rise : (T : Table) → IsValid T → AllRise T
all-rise T h i = rise-at T T.messages i h.messages

-- ---- slots

field-here : (f : Field) (fs : List Field) → field_at (f ∷ fs) f.number ≡ Some f
field-here f fs = ap (λ b. cond b (Some f) (field_at fs f.number)) (eq-eqb f.number f.number refl)

field-later : (f : Field) (fs : List Field) (n : ℕ) → f.number ≢ n → field_at (f ∷ fs) n ≡ field_at fs n
field-later f fs n other = ap (λ b. cond b (Some f) (field_at fs n)) (ne_eqb f.number n other)

-- `fs` are all fields of a message with numbers above `last`
abbrev AreRest : List Field → ℕ → List Field → Type 0
AreRest all last fs = (n : ℕ) → last < n → field_at all n ≡ field_at fs n

-- fields of a message that have slots of their own, by ascending number
abbrev pub SlotsFrom : List Field → ℕ → List Field → Type 0
SlotsFrom all last [] = Unit {0}
SlotsFrom all last (f ∷ slots) = (last < f.number) × (field_at all f.number ≡ Some f) × (is_member f.label ≡ false) × HasPlainKey f.label × SlotsFrom all f.number slots

lower-slots : (all : List Field) (last n : ℕ) (slots : List Field) → last < n → SlotsFrom all n slots → SlotsFrom all last slots
lower-slots all last n [] less h = tt
lower-slots all last n (f ∷ slots) less h = (let a = h.0 in omega (arith, a, less), h.1, h.2, h.3, h.4)

own-go : (all : List Field) (last : ℕ) (f : Field) (slots : List Field) (b : Bool) → is_member f.label ≡ b
    → last < f.number → field_at all f.number ≡ Some f → HasPlainKey f.label → SlotsFrom all f.number slots
    → SlotsFrom all last (cond (if b then false else true) (f ∷ slots) slots)
own-go all last f slots true e less at key h = lower-slots all last f.number slots less h
own-go all last f slots false e less at key h = (less, at, e, key, h)

own-from : (all : List Field) (last : ℕ) (fs : List Field) → RiseFrom last fs → AreRest all last fs → SlotsFrom all last (own_slots fs)
own-from all last [] rise rest = tt
own-from all last (f ∷ fs) rise rest =
    let later : AreRest all f.number fs = λ n more. (let less = rise.0 in rest n (omega (arith, less, more)) ∙ field-later f fs n (omega (arith, more))) in
    own-go all last f (own_slots fs) (is_member f.label) refl rise.0 (rest f.number rise.0 ∙ field-here f fs) rise.1 (own-from all f.number fs rise.2 later)

pub slots-own : (T : Table) (m : ℕ) → AllRise T → SlotsFrom (fields_of T m) 0 (own_slots (fields_of T m))
slots-own T m rise = own-from (fields_of T m) 0 (fields_of T m) (rise m) (λ n less. refl)
