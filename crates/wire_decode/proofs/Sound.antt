-- The records of a message, each by itself: contents that are valid for their fields.
use Rattle.std.proofs.Common.{◌≡◌, ℕ, suc, ◌<◌, List, [], ◌∷◌, ◌++◌, take, Option, Some, true, false, refl, ap, sym, subst, ◌∙◌, arith, ⊎_elim}
use Rattle.std.specs.List.{slice_range}
use Rattle.std.proofs.lemmas.Bool.Decides.{eqb_tells}
use Rattle.std.proofs.lemmas.List.Elements.{All-take}
use Rattle.mrpc_table.specs.Node.{Node, no_fields, field, Content, one, many, pairs, Item, number, run, node, Items, no_items, item}
use Rattle.mrpc_table.specs.Words.{is_numeric, IsWordForm}
use Rattle.mrpc_table.specs.Normal.{fields_of, field_at, IsRun}
use Rattle.mrpc_table.specs.declared.table.Kind.{Kind}
use Rattle.mrpc_table.specs.declared.table.Kind.TheVariants.{Message as OfMessage}
use Rattle.mrpc_table.specs.declared.table.Label.{Label}
use Rattle.mrpc_table.specs.declared.table.Label.TheVariants.{Map}
use Rattle.mrpc_table.specs.declared.table.Field.{Field}
use Rattle.mrpc_table.specs.declared.table.Table.{Table}
use Rattle.mrpc_table.specs.WireTypes.{wire_type_of}
use Rattle.wire_base.specs.declared.records.Payload.{Payload}
use Rattle.wire_decode.specs.Words.{word_form_of, payload_number, is_map, AreElements}
use Rattle.wire_decode.specs.RawMessages.{IsRawMessage, read_end, read_other, read_known, IsContentUnder, holds_number, holds_piece}
use Rattle.wire_decode.specs.RawMessages.{holds_text, holds_octets, holds_message, holds_entry}
use Rattle.wire_decode.specs.Known.{HasRoom, entry_fields}
use Rattle.wire_decode.specs.RawMessages.{numbers}
use Rattle.wire_decode.specs.Merged.{contents_of, list_of_items, values_in, singles_in, join_fields, joined_messages}
use Rattle.wire_decode.proofs.Adding.{contents-here, contents-other}
use Rattle.wire_decode.proofs.Unique.{packed-single, packed-numeric}
use Rattle.wire_decode.proofs.WordForms.{word-form, IsSmall, AreBytes, bytes-slice, payload-small, payload-typed}

abbrev mutual
  -- contents of these fields, with room for this many levels of messages
  pub SoundNode : Table → ℕ → List Field → Node → Type 0
  SoundNode T room fs no_fields = Unit {0}
  SoundNode T room fs (field n c t) = SoundNode T room fs t × (f : Field) × (field_at fs n ≡ Some f) × SoundContent T room f.label f.kind c

  pub SoundContent : Table → ℕ → Label → Kind → Content → Type 0
  SoundContent T room label k (one i) = (is_map label ≡ false → SoundValue T room k i) × ((key : Kind) → label ≡ Map key → SoundEntry T room key k i)
  SoundContent T room label k (many is) = (is_map label ≡ false) × SoundValues T room k is
  SoundContent T room label k (pairs ps) = ⊥

  pub SoundValue : Table → ℕ → Kind → Item → Type 0
  SoundValue T room k (number n) = IsWordForm k n
  SoundValue T room k (run bytes) = IsRun k bytes
  SoundValue T room k (node t) = (i : ℕ) × (inside : ℕ) × (k ≡ OfMessage i) × (room ≡ suc inside) × SoundNode T inside (fields_of T i) t

  pub SoundValues : Table → ℕ → Kind → Items → Type 0
  SoundValues T room k no_items = Unit {0}
  SoundValues T room k (item i is) = SoundValue T room k i × SoundValues T room k is

  -- a map's entry
  pub SoundEntry : Table → ℕ → Kind → Kind → Item → Type 0
  SoundEntry T room key k (number n) = ⊥
  SoundEntry T room key k (run bytes) = ⊥
  SoundEntry T room key k (node t) = HasRoom room k × SoundNode T room (entry_fields key k) t

single-not_map : (label : Label) (key : Kind) → is_map label ≡ false → label ≡ Map key → ⊥
single-not_map label key single e = (let h : false ≡ true = sym single ∙ ap is_map e in cc)

sound-single : (T : Table) (room : ℕ) (label : Label) (k : Kind) (i : Item) → is_map label ≡ false → SoundValue T room k i → SoundContent T room label k (one i)
sound-single T room label k i single h = (λ s. h, λ key e. absurd (single-not_map label key single e))

-- whole elements are words of their kind
sound-elements : (T : Table) (room : ℕ) (k : Kind) (bytes : List ℕ) (at : ℕ) (ws : List ℕ) → is_numeric k ≡ true
    → AreBytes bytes → AreElements k bytes at ws → SoundValues T room k (numbers ws)
sound-elements T room k bytes at [] numeric small h = tt
sound-elements T room k bytes at (w ∷ ws) numeric small h =
    let p = payload-small bytes at (wire_type_of k) h.0 h.1 small h.2 in
    let typed = payload-typed bytes at (wire_type_of k) h.0 h.1 h.2 in
    let form = word-form k (payload_number h.0) numeric p.word (λ e. p.short (typed ∙ e)) in
    (subst (λ (v : ℕ). IsWordForm k v) (sym h.3) form, sound-elements T room k bytes h.1 ws numeric small h.4)

mutual
  pub reads-sound : {T : Table} {room : ℕ} {fs : List Field} {bytes : List ℕ} {at : ℕ} {t : Node} → IsRawMessage T room fs bytes at t → AreBytes bytes → SoundNode T room fs t
  reads-sound {T} {room} {fs} (read_end a b) small = subst (λ (u : Node). SoundNode T room fs u) (sym b) tt
  reads-sound (read_other r here other g) small = reads-sound g small
  reads-sound {T} {room} {fs} {bytes} {at} {t} (read_known r f c rest here at_f holds is g) small =
      subst (λ (u : Node). SoundNode T room fs u) (sym is) (reads-sound g small, f, at_f, holds-sound holds (payload-small bytes here.start _ r.payload r.next small here.payload) small)

  holds-sound : {T : Table} {room : ℕ} {label : Label} {k : Kind} {bytes : List ℕ} {p : Payload} {c : Content}
      → IsContentUnder T room label k bytes p c → IsSmall p → AreBytes bytes → SoundContent T room label k c
  holds-sound {T} {room} {label} {k} {bytes} {p} {c} (holds_number single numeric typed is) word small =
      subst (λ (x : Content). SoundContent T room label k x) (sym is)
      (sound-single T room label k (number (word_form_of k (payload_number p))) single
      (word-form k (payload_number p) numeric word.word (λ e. word.short (typed ∙ e))))
  holds-sound {T} {room} {label} {k} {bytes} {p} {c} (holds_piece s e ws packed at whole is) word small =
      subst (λ (x : Content). SoundContent T room label k x) (sym is) (
        packed-single label k packed,
        sound-elements T room k (take e bytes) s ws (packed-numeric label k packed)
            (All-take (λ b. b < 256) e bytes small) whole,
      )
  holds-sound {T} {room} {label} {k} {bytes} {p} {c} (holds_text s e single kind at utf8 is) word small =
      subst (λ (x : Content). SoundContent T room label k x) (sym is)
      (sound-single T room label k (run (slice_range bytes s e)) single
      (subst (λ (x : Kind). IsRun x (slice_range bytes s e)) (sym kind) utf8))
  holds-sound {T} {room} {label} {k} {bytes} {p} {c} (holds_octets s e single kind at is) word small =
      subst (λ (x : Content). SoundContent T room label k x) (sym is)
      (sound-single T room label k (run (slice_range bytes s e)) single
      (subst (λ (x : Kind). IsRun x (slice_range bytes s e)) (sym kind) (bytes-slice bytes s e small)))
  holds-sound {T} {room} {label} {k} {bytes} {p} {c} (holds_message inside i s e t single kind at room_is reads is) word small =
      subst (λ (x : Content). SoundContent T room label k x) (sym is)
      (sound-single T room label k (node t) single (
        i,
        inside,
        kind,
        room_is,
        reads-sound reads (All-take (λ b. b < 256) e bytes small),
      ))
  holds-sound {T} {room} {label} {k} {bytes} {p} {c} (holds_entry key s e t map at reads has_room is) word small =
      let fields = reads-sound reads (All-take (λ b. b < 256) e bytes small) in
      subst (λ (x : Content). SoundContent T room label k x) (sym is) (
        λ single. absurd (single-not_map label key single map),
        λ other same. (
          has_room,
          (let maps : Map key ≡ Map other = sym map ∙ same in let keys : key ≡ other = cc in
              subst (λ (x : Kind). SoundNode T room (entry_fields x k) t) keys fields),
        ),
      )

pub join-sound : (T : Table) (room : ℕ) (fs : List Field) (t u : Node) → SoundNode T room fs t → SoundNode T room fs u → SoundNode T room fs (join_fields t u)
join-sound T room fs no_fields u a b = b
join-sound T room fs (field n c t) u a b = (join-sound T room fs t u a.0 b, a.1, a.2, a.3)

-- lists of valid contents
abbrev pub AllContents : Table → ℕ → Label → Kind → List Content → Type 0
AllContents T room label k [] = Unit {0}
AllContents T room label k (c ∷ cs) = SoundContent T room label k c × AllContents T room label k cs

abbrev pub AllValues : Table → ℕ → Kind → List Item → Type 0
AllValues T room k [] = Unit {0}
AllValues T room k (i ∷ is) = SoundValue T room k i × AllValues T room k is

abbrev pub AllEntries : Table → ℕ → Kind → Kind → List Item → Type 0
AllEntries T room key k [] = Unit {0}
AllEntries T room key k (i ∷ is) = SoundEntry T room key k i × AllEntries T room key k is

one-field : (f g : Field) (o : Option Field) → o ≡ Some f → o ≡ Some g → f ≡ g
one-field f g o a b = let h : Some f ≡ Some g = sym a ∙ b in cc

-- the contents of one number
pub contents-sound : (T : Table) (room : ℕ) (fs : List Field) (n : ℕ) (f : Field) (t : Node) → field_at fs n ≡ Some f
    → SoundNode T room fs t → AllContents T room f.label f.kind (contents_of n t)
contents-sound T room fs n f no_fields at h = tt
contents-sound T room fs n f (field m c t) at h =
    let rest = contents-sound T room fs n f t at h.0 in
    ⊎_elim
    (λ s.
    let same : h.1 ≡ f = one-field h.1 f (field_at fs n) (ap (field_at fs) (sym s.1) ∙ h.2) at in
    let met : contents_of n (field m c t) ≡ c ∷ contents_of n t = ap (λ x. contents_of n (field x c t)) s.1 ∙ contents-here n c t in
    subst (λ (cs : List Content). AllContents T room f.label f.kind cs) (sym met) (subst (λ (g : Field). SoundContent T room g.label g.kind c) same h.3, rest))
    (λ s. subst (λ (cs : List Content). AllContents T room f.label f.kind cs) (sym (contents-other n m c t (λ e. s.1 (sym e)))) rest)
    (eqb_tells m n)

pub singles-sound : (T : Table) (room : ℕ) (label : Label) (k : Kind) (cs : List Content) → is_map label ≡ false
    → AllContents T room label k cs → AllValues T room k (singles_in cs)
singles-sound T room label k [] single h = tt
singles-sound T room label k (one i ∷ cs) single h = (h.0.0 single, singles-sound T room label k cs single h.1)
singles-sound T room label k (many is ∷ cs) single h = singles-sound T room label k cs single h.1
singles-sound T room label k (pairs ps ∷ cs) single h = singles-sound T room label k cs single h.1

items-sound : (T : Table) (room : ℕ) (k : Kind) (is : Items) (js : List Item) → SoundValues T room k is → AllValues T room k js → AllValues T room k (list_of_items is ++ js)
items-sound T room k no_items js a b = b
items-sound T room k (item i is) js a b = (a.0, items-sound T room k is js a.1 b)

pub values-sound : (T : Table) (room : ℕ) (label : Label) (k : Kind) (cs : List Content) → is_map label ≡ false → AllContents T room label k cs → AllValues T room k (values_in cs)
values-sound T room label k [] single h = tt
values-sound T room label k (one i ∷ cs) single h = (h.0.0 single, values-sound T room label k cs single h.1)
values-sound T room label k (many is ∷ cs) single h = items-sound T room k is (values_in cs) h.0.1 (values-sound T room label k cs single h.1)
values-sound T room label k (pairs ps ∷ cs) single h = absurd h.0

pub entries-sound : (T : Table) (room : ℕ) (key k : Kind) (cs : List Content) → AllContents T room (Map key) k cs → AllEntries T room key k (values_in cs)
entries-sound T room key k [] h = tt
entries-sound T room key k (one i ∷ cs) h = (h.0.1 key refl, entries-sound T room key k cs h.1)
entries-sound T room key k (many is ∷ cs) h = absurd (single-not_map (Map key) key h.0.0 refl)
entries-sound T room key k (pairs ps ∷ cs) h = absurd h.0

-- a message is within the depth
pub room-inside : (T : Table) (room m : ℕ) (i : Item) → SoundValue T room (OfMessage m) i → (inside : ℕ) × (room ≡ suc inside)
room-inside T room m (number n) h = absurd h
room-inside T room m (run bytes) h = absurd h
room-inside T room m (node t) h = (h.1, h.3)

pub joined-sound : (T : Table) (room inside m : ℕ) (is : List Item) → room ≡ suc inside → AllValues T room (OfMessage m) is → SoundNode T inside (fields_of T m) (joined_messages is)
joined-sound T room inside m [] e h = tt
joined-sound T room inside m (number n ∷ is) e h = joined-sound T room inside m is e h.1
joined-sound T room inside m (run bytes ∷ is) e h = joined-sound T room inside m is e h.1
joined-sound T room inside m (node t ∷ is) e h =
    let v = h.0 in
    let messages : OfMessage m ≡ OfMessage v.0 = v.2 in
    let place : v.0 ≡ m = cc in
    let rooms : v.1 ≡ inside = (let r = v.3 in omega (arith, r, e)) in
    let first : SoundNode T inside (fields_of T m) t = subst (λ (x : ℕ). SoundNode T inside (fields_of T x) t) place (subst (λ (x : ℕ). SoundNode T x (fields_of T v.0) t) rooms v.4) in
    join-sound T inside (fields_of T m) t (joined_messages is) first (joined-sound T room inside m is e h.1)
