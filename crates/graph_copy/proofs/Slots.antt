-- In each message of a valid table a field with a slot of its own is found by its number, which is below 2^29.
use Rattle.std.proofs.Common.{◌≡◌, ℕ, zero, suc, ◌<◌, ◌^◌, Bool, true, false, cond, List, [], ◌∷◌, length, All, Some}
use Rattle.std.proofs.Common.{refl, ap, ◌∙◌, arith, slice_get, option_map, unwrap_or}
use Rattle.std.proofs.lemmas.Bool.{eq-eqb, ne_eqb}
use Rattle.std.proofs.lemmas.List.Elements.{All-head, All-tail}
use Rattle.mrpc_table.specs.Normal.{fields_of, field_at}
use Rattle.mrpc_table.specs.Valid.{IsValid, IsMessage, IsField, IsAscendingBy}
use Rattle.mrpc_table.specs.declared.table.Field.{Field}
use Rattle.mrpc_table.specs.declared.table.Message.{Message}
use Rattle.mrpc_table.specs.declared.table.Table.{Table}
use Rattle.graph_form.specs.Roles.{has_own_slot, own_slots}

-- fields of a message, each found by its number
abbrev pub AreFound : List Field → List Field → Type 0
AreFound all [] = Unit {0}
AreFound all (f ∷ fs) = (f.number < 2 ^ 29) × (field_at all f.number ≡ Some f) × AreFound all fs

-- numbers that rise, all above `last`
abbrev Rise : ℕ → List Field → Type 0
Rise last [] = Unit {0}
Rise last (f ∷ fs) = (last < f.number) × (f.number < 2 ^ 29) × Rise f.number fs

behind-rise : (T : Table) (oneofs : ℕ) (f : Field) (fs : List Field) → All (IsField T oneofs) (f ∷ fs) → IsAscendingBy (λ f g. f.number < g.number) (f ∷ fs) → Rise f.number fs
behind-rise T oneofs f [] all ascends = tt
behind-rise T oneofs f (g ∷ gs) all ascends =
    let rest = All-tail (IsField T oneofs) f (g ∷ gs) all in
    (ascends.0, omega (arith, (All-head (IsField T oneofs) g gs rest).number.small), behind-rise T oneofs g gs rest ascends.1)

all-rise : (T : Table) (oneofs : ℕ) (fs : List Field) → All (IsField T oneofs) fs → IsAscendingBy (λ f g. f.number < g.number) fs → Rise 0 fs
all-rise T oneofs [] all ascends = tt
all-rise T oneofs (f ∷ fs) all ascends =
    let number = (All-head (IsField T oneofs) f fs all).number in
    (number.positive, omega (arith, number.small), behind-rise T oneofs f fs all ascends)

rise-at : (T : Table) (ms : List Message) (i : ℕ) → All (IsMessage T) ms → Rise 0 (unwrap_or (option_map (λ m. m.fields) (slice_get ms i)) [])
rise-at T [] i all = tt
rise-at T (m ∷ ms) zero all = let h = All-head (IsMessage T) m ms all in all-rise T (length m.oneofs) m.fields h.fields h.ascend
rise-at T (m ∷ ms) (suc i) all = rise-at T ms i (All-tail (IsMessage T) m ms all)

-- `fs` are all fields of a message with numbers above `last`
abbrev AreRest : List Field → ℕ → List Field → Type 0
AreRest all last fs = (n : ℕ) → last < n → field_at all n ≡ field_at fs n

found-here : (f : Field) (fs : List Field) → field_at (f ∷ fs) f.number ≡ Some f
found-here f fs = ap (λ b. cond b (Some f) (field_at fs f.number)) (eq-eqb f.number f.number refl)

found-later : (f : Field) (fs : List Field) (n : ℕ) → f.number < n → field_at (f ∷ fs) n ≡ field_at fs n
found-later f fs n less = ap (λ b. cond b (Some f) (field_at fs n)) (ne_eqb f.number n (omega (arith, less)))

own-go : (all : List Field) (f : Field) (slots : List Field) (b : Bool) → f.number < 2 ^ 29
    → field_at all f.number ≡ Some f → AreFound all slots → AreFound all (cond b (f ∷ slots) slots)
own-go all f slots true small at h = (small, at, h)
own-go all f slots false small at h = h

own-found : (all : List Field) (last : ℕ) (fs : List Field) → Rise last fs → AreRest all last fs → AreFound all (own_slots fs)
own-found all last [] rise rest = tt
own-found all last (f ∷ fs) rise rest =
    let later : AreRest all f.number fs = λ n more. (let less = rise.0 in rest n (omega (arith, less, more)) ∙ found-later f fs n more) in
    own-go all f (own_slots fs) (has_own_slot f) rise.1 (rest f.number rise.0 ∙ found-here f fs) (own-found all f.number fs rise.2 later)

pub slots-found : (T : Table) (m : ℕ) → IsValid T → AreFound (fields_of T m) (own_slots (fields_of T m))
slots-found T m valid = own-found (fields_of T m) 0 (fields_of T m) (rise-at T T.messages m valid.messages) (λ n less. refl)
