-- How a message lies in a heap of words: the role of each loaded word, and which words are loaded after it.
use Rattle.std.specs.Prelude.{ℕ, zero, suc, ◌+◌, ◌-◌, ◌*◌, ◌/◌, Bool, true, false, List, [], ◌∷◌, ◌++◌, length, filter, slice_get, option_map, unwrap_or, if◌then◌else◌, ◌==◌, nat_le}
use Rattle.std.specs.Int.{w64, to_le_bytes}
use Rattle.mrpc_table.specs.Normal.{fields_of, field_at, kind_at}
use Rattle.mrpc_table.specs.declared.table.Kind.{Kind}
use Rattle.mrpc_table.specs.declared.table.Kind.TheVariants.{Text, Octets, Message as OfMessage}
use Rattle.mrpc_table.specs.declared.table.Label.{Label}
use Rattle.mrpc_table.specs.declared.table.Label.TheVariants.{Optional, Repeated, Packed, Map, Member}
use Rattle.mrpc_table.specs.declared.table.Field.{Field}
use Rattle.mrpc_table.specs.declared.table.Table.{Table}

-- the role of a word; a depth is that of the message that contains the word, and the root has depth 1
pub data WordRole : Type 0 where
  -- a number of the kind
  value : Kind → WordRole
  -- a presence word: 0, or 1 if the number follows
  presence : Kind → WordRole
  -- the length of a run; the address follows unless it is 0
  run_length : Kind → WordRole
  -- 0 if the run is absent, otherwise its length plus 1
  run_presence : Kind → WordRole
  -- the address of a run of `bytes` bytes
  run_address : Kind → (bytes : ℕ) → WordRole
  -- a word of a run: `left` bytes remain, this word's included, and the bytes `before` were loaded
  run_word : Kind → (left : ℕ) → (before : List ℕ) → WordRole
  -- the address of a message; 0 means absent, unless the message is needed
  link : (message depth : ℕ) → (needed : Bool) → WordRole
  -- the number of elements, and their address
  count : Kind → (depth : ℕ) → WordRole
  elements_address : Kind → (elements depth : ℕ) → WordRole
  -- the number of entries of a map, and their address
  entry_count : (key kind : Kind) → (depth : ℕ) → WordRole
  entries_address : (key kind : Kind) → (entries depth : ℕ) → WordRole
  -- the number of the member that a oneof has, or 0
  case_word : List Field → (oneof depth : ℕ) → WordRole

-- the expected words: each a role and a place
abbrev pub Expected : Type 0
Expected = List (WordRole × ℕ)

-- the first word of a plain slot
abbrev pub plain_role : Kind → ℕ → Bool → WordRole
plain_role Text depth needed = run_length Text
plain_role Octets depth needed = run_length Octets
plain_role (OfMessage m) depth needed = link m depth needed
plain_role k depth needed = value k

abbrev pub optional_role : Kind → WordRole
optional_role Text = run_presence Text
optional_role Octets = run_presence Octets
optional_role k = presence k

-- the first word of a field's slot
abbrev pub slot_role : Label → Kind → ℕ → WordRole
slot_role Optional k depth = optional_role k
slot_role Repeated k depth = count k depth
slot_role Packed k depth = count k depth
slot_role (Map key) k depth = entry_count key k depth
slot_role _ k depth = plain_role k depth false

-- the fields with a slot of their own: all but the members of oneofs
abbrev pub is_member : Label → Bool
is_member (Member o) = true
is_member _ = false

abbrev pub has_own_slot : Field → Bool
has_own_slot f = if is_member f.label then false else true

abbrev pub own_slots : List Field → List Field
own_slots fs = filter has_own_slot fs

-- the number of oneofs of the message at an index
abbrev pub oneof_count : Table → ℕ → ℕ
oneof_count T m = unwrap_or (option_map (λ d. length d.oneofs) (slice_get T.messages m)) 0

-- slots of two words by ascending number, starting at a place
abbrev pub slots_from : List Field → ℕ → ℕ → Expected
slots_from [] depth at = []
slots_from (f ∷ fs) depth at = (slot_role f.label f.kind depth, at) ∷ slots_from fs depth (at + 2)

-- slots of three words for a number of oneofs, the first one at the given place
abbrev pub cases_from : ℕ → List Field → ℕ → ℕ → ℕ → Expected
cases_from zero fs oneof depth at = []
cases_from (suc more) fs oneof depth at = (case_word fs oneof depth, at) ∷ cases_from more fs (oneof + 1) depth (at + 3)

-- the words of a node: the slots of its fields, then those of its oneofs
abbrev pub node_words : Table → ℕ → ℕ → ℕ → Expected
node_words T m depth at =
    slots_from (own_slots (fields_of T m)) depth at
    ++ cases_from (oneof_count T m) (fields_of T m) 0 depth (at + 2 * length (own_slots (fields_of T m)))

abbrev pub size_words : Table → ℕ → ℕ
size_words T m = 2 * length (own_slots (fields_of T m)) + 3 * oneof_count T m

-- the number of fields before a field number that have slots of their own
abbrev pub slots_before : List Field → ℕ → ℕ
slots_before [] n = 0
slots_before (f ∷ fs) n = if f.number == n then 0 else length (own_slots (f ∷ [])) + slots_before fs n

-- the offset of the slot of a field, or of its oneof, in the node
abbrev pub slot_with : List Field → Label → ℕ → ℕ
slot_with fs (Member o) n = 2 * length (own_slots fs) + 3 * o
slot_with fs _ n = 2 * slots_before fs n

abbrev pub slot_of : Table → ℕ → ℕ → ℕ
slot_of T m n = unwrap_or (option_map (λ f. slot_with (fields_of T m) f.label n) (field_at (fields_of T m) n)) 0

-- the number of words of an element
abbrev pub element_words : Kind → ℕ
element_words Text = 2
element_words Octets = 2
element_words k = 1

abbrev pub elements_from : ℕ → Kind → ℕ → ℕ → Expected
elements_from zero k depth at = []
elements_from (suc more) k depth at = (plain_role k depth true, at) ∷ elements_from more k depth (at + element_words k)

-- an entry is the key and the value, each as a plain slot
abbrev pub entries_from : ℕ → Kind → Kind → ℕ → ℕ → Expected
entries_from zero key k depth at = []
entries_from (suc more) key k depth at =
    (plain_role key depth true, at) ∷ (plain_role k depth true, at + 2) ∷ entries_from more key k depth (at + 4)

-- the eight bytes of a word; byte 0 is the lowest
abbrev pub word_bytes : ℕ → List ℕ
word_bytes v = to_le_bytes w64 v

-- the number of words of a run of `bytes` bytes
abbrev pub run_words : ℕ → ℕ
run_words bytes = (bytes + 7) / 8

-- the words that a word of a role leads to, by its place and value; they are loaded right after it
abbrev pub expected_after : Table → WordRole → ℕ → ℕ → Expected
expected_after T (value k) p v = []
expected_after T (presence k) p v = if v == 0 then [] else (value k, p + 1) ∷ []
expected_after T (run_length k) p v = if v == 0 then [] else (run_address k v, p + 1) ∷ []
expected_after T (run_presence k) p v = if nat_le v 1 then [] else (run_address k (v - 1), p + 1) ∷ []
expected_after T (run_address k bytes) p v = (run_word k bytes [], v) ∷ []
expected_after T (run_word k left before) p v =
    if nat_le left 8 then [] else (run_word k (left - 8) (before ++ word_bytes v), p + 1) ∷ []
expected_after T (link m depth needed) p v = if v == 0 then [] else node_words T m (depth + 1) v
expected_after T (count k depth) p v = if v == 0 then [] else (elements_address k v depth, p + 1) ∷ []
expected_after T (elements_address k elements depth) p v = elements_from elements k depth v
expected_after T (entry_count key k depth) p v = if v == 0 then [] else (entries_address key k v depth, p + 1) ∷ []
expected_after T (entries_address key k entries depth) p v = entries_from entries key k depth v
expected_after T (case_word fs oneof depth) p v = if v == 0 then [] else (plain_role (kind_at fs v) depth true, p + 1) ∷ []
