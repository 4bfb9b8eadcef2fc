-- The elements of a packed payload, one more at a time.
use Rattle.std.proofs.Common.{◌≡◌, ◌≢◌, ℕ, ◌<◌, List, [], ◌∷◌, ◌++◌, length, Option, Some, None, true, refl, ap}
use Rattle.std.proofs.Common.{subst, ◌∙◌, arith, append-nil, inl, inr, ⊎_elim}
use Rattle.std.specs.Option.{IfSome}
use Rattle.mrpc_table.specs.Node.{item, number, push_item}
use Rattle.mrpc_table.specs.Words.{is_numeric}
use Rattle.mrpc_table.specs.declared.table.Kind.{Kind}
use Rattle.mrpc_table.specs.declared.table.Kind.TheVariants.{Int32, Int64, Uint32, Uint64, Sint32, Sint64}
use Rattle.mrpc_table.specs.declared.table.Kind.TheVariants.{Bool as TheBool, Fixed32, Fixed64, Sfixed32, Sfixed64}
use Rattle.mrpc_table.specs.declared.table.Kind.TheVariants.{Float, Double, Text, Octets, Message, Choice}
use Rattle.mrpc_table.specs.WireTypes.{wire_type_of}
use Rattle.wire_base.specs.Records.{IsPayloadAt, IsVarintAt}
use Rattle.wire_base.specs.declared.records.Payload.{Payload}
use Rattle.wire_base.specs.declared.records.Payload.TheVariants.{Varint, I64}
use Rattle.wire_decode.proofs.WireLaws.{OnePayload}
use Rattle.wire_decode.specs.Words.{AreElements, payload_number, word_form_of}
use Rattle.wire_decode.specs.RawMessages.{numbers}
use Rattle.wire_decode.specs.Parts.{IsFixedOrVarint}

abbrev pub IsElement : List ℕ → ℕ → ℕ → ℕ × ℕ → Type 0
IsElement bytes at w e = (p : Payload) × IsPayloadAt bytes at w p e.1 × (e.0 ≡ payload_number p)

pub eight-element : (bytes : List ℕ) (at w : ℕ) (r : Option (ℕ × ℕ)) → w ≡ 1 → IfSome r (λ e. IsPayloadAt bytes at 1 (I64 e.0) e.1) → IfSome r (IsElement bytes at w)
eight-element bytes at w None is h = tt
eight-element bytes at w (Some e) is h = (I64 e.0, (is, h.1, h.2, h.3), refl)

pub varint-element : (bytes : List ℕ) (at w : ℕ) (r : Option (ℕ × ℕ)) → w ≡ 0 → IfSome r (λ e. IsVarintAt bytes at e.0 e.1) → IfSome r (IsElement bytes at w)
varint-element bytes at w None is h = tt
varint-element bytes at w (Some e) is h = (Varint e.0, (is, h), refl)

pub other-type : (w : ℕ) → IsFixedOrVarint w → w ≢ 1 → w ≢ 5 → w ≡ 0
other-type w h a b = ⊎_elim (λ z. z) (λ t. ⊎_elim (λ z. absurd (a z)) (λ z. absurd (b z)) t) h

-- the wire type of numbers
pub numeric-type : (k : Kind) → is_numeric k ≡ true → IsFixedOrVarint (wire_type_of k)
numeric-type Int32 h = inl refl
numeric-type Int64 h = inl refl
numeric-type Uint32 h = inl refl
numeric-type Uint64 h = inl refl
numeric-type Sint32 h = inl refl
numeric-type Sint64 h = inl refl
numeric-type TheBool h = inl refl
numeric-type (Choice i) h = inl refl
numeric-type Fixed64 h = inr (inl refl)
numeric-type Sfixed64 h = inr (inl refl)
numeric-type Double h = inr (inl refl)
numeric-type Fixed32 h = inr (inr refl)
numeric-type Sfixed32 h = inr (inr refl)
numeric-type Float h = inr (inr refl)
numeric-type Text h = absurd (cc)
numeric-type Octets h = absurd (cc)
numeric-type (Message i) h = absurd (cc)

pub numbers-last : (ws : List ℕ) (w : ℕ) → numbers (ws ++ w ∷ []) ≡ push_item (numbers ws) (number w)
numbers-last [] w = refl
numbers-last (v ∷ vs) w = ap (item (number v)) (numbers-last vs w)

-- elements that were read, with those that remain
pub record SoFar (k : Kind) (bytes : List ℕ) (start at : ℕ) (done : List ℕ) : Type 0 where
  pub front : (ws : List ℕ) → AreElements k bytes at ws → AreElements k bytes start (done ++ ws)
  pub back : (ws : List ℕ) → AreElements k bytes start ws → (rest : List ℕ) × AreElements k bytes at rest

pub sofar-start : (k : Kind) (bytes : List ℕ) (start : ℕ) → SoFar k bytes start start []
sofar-start k bytes start = record { front = λ ws h. h; back = λ ws h. (ws, h) }

append_one : (done : List ℕ) (w : ℕ) (ws : List ℕ) → done ++ w ∷ ws ≡ (done ++ w ∷ []) ++ ws
append_one [] w ws = refl
append_one (d ∷ ds) w ws = ap (λ xs. d ∷ xs) (append_one ds w ws)

-- the other elements follow an element
rest-behind : OnePayload → (k : Kind) (bytes : List ℕ) (at : ℕ) (e : ℕ × ℕ) (rest : List ℕ) → at < length bytes
    → IsElement bytes at (wire_type_of k) e → AreElements k bytes at rest
    → (tail : List ℕ) × AreElements k bytes e.1 tail
rest-behind one_payload k bytes at e [] more here h = absurd (omega (arith, h))
rest-behind one_payload k bytes at e (w ∷ ws) more here h =
    let same = one_payload bytes at (wire_type_of k) h.0 here.0 h.1 e.1 h.2 here.1 in
    let P : ℕ → Type 0 = λ n. AreElements k bytes n ws in
    (ws, subst P same.1 h.4)

pub sofar-more : OnePayload → (k : Kind) (bytes : List ℕ) (start at next v w : ℕ) (done : List ℕ) → at < length bytes
    → SoFar k bytes start at done → IsElement bytes at (wire_type_of k) (v, next) → w ≡ word_form_of k v
    → SoFar k bytes start next (done ++ w ∷ [])
sofar-more one_payload k bytes start at next v w done more h e is = record {
  front = λ ws g. let P : List ℕ → Type 0 = λ xs. AreElements k bytes start xs in subst P (append_one done w ws) (h.front (w ∷ ws) (e.0, next, e.1, is ∙ ap (word_form_of k) e.2, g));
  back = λ ws g. let rest = h.back ws g in rest-behind one_payload k bytes at (v, next) rest.0 more e rest.1;
}

pub sofar-end : (k : Kind) (bytes : List ℕ) (start at : ℕ) (done : List ℕ) → at ≡ length bytes → SoFar k bytes start at done → AreElements k bytes start done
sofar-end k bytes start at done ends h = let P : List ℕ → Type 0 = λ xs. AreElements k bytes start xs in subst P (append-nil done) (h.front [] ends)

pub sofar-stuck : (k : Kind) (bytes : List ℕ) (start at : ℕ) (done : List ℕ) → at < length bytes
    → SoFar k bytes start at done → ((p : Payload) (next : ℕ) → IsPayloadAt bytes at (wire_type_of k) p next → ⊥)
    → (ws : List ℕ) → AreElements k bytes start ws → ⊥
sofar-stuck k bytes start at done more h none ws g = let rest = h.back ws g in go rest.0 rest.1
  where
    go : (xs : List ℕ) → AreElements k bytes at xs → ⊥
    go [] e = omega (arith, e)
    go (x ∷ xs) e = none e.0 e.1 e.2
