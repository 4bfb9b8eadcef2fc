-- The code's own: the words that a pass over a part of a message appends to those of the builder.
use Rattle.std.specs.Prelude.{◌≡◌, ◌≢◌, ℕ, ◌+◌, ◌*◌, ◌<◌, ◌≤◌, ◌^◌, take, Bool, true, false, List, [], ◌∷◌, ◌++◌, length, Option, Some, None, if◌then◌else◌, ◌==◌}
use Rattle.std.specs.List.{AllByRecursion}
use Rattle.mrpc_table.specs.Node.{Node, no_fields, field, Content, one, many, pairs, Item, node, no_items, Pairs, no_pairs, pair, content_at}
use Rattle.mrpc_table.specs.Normal.{IsDefault, CanHaveOne, CanHaveMany, IsItem, AreItems, ArePairs, AreKeysAscending}
use Rattle.mrpc_table.specs.declared.table.Kind.{Kind}
use Rattle.mrpc_table.specs.declared.table.Kind.TheVariants.{Message as OfMessage}
use Rattle.mrpc_table.specs.declared.table.Label.{Label}
use Rattle.mrpc_table.specs.declared.table.Label.TheVariants.{Optional, Map}
use Rattle.mrpc_table.specs.declared.table.Field.{Field}
use Rattle.mrpc_table.specs.declared.table.Table.{Table}
use Rattle.graph_form.specs.Roles.{WordRole, run_address, Expected, expected_after, is_member, word_bytes}
use Rattle.graph_form.specs.Placed.{Placed, Word, word, loads, IsValidWord, AreSound}
use Rattle.graph_form.specs.Forgotten.{plain_item}
use Rattle.graph_place.specs.Content.{is_member_of}
use Rattle.graph_place.specs.Size.{content_words}
use Rattle.graph_place.specs.declared.builder.Builder.{Builder}

-- ---- where words lie

-- The places of a part of a message. Its slots are at `slots_begin` up to, but excluding, `slots_end`. Their content
-- is at `content_begin` up to, but excluding, `content_end`, and has slots and content of its own. The gap between
-- may hold other parts.
pub record Spans : Type 0 where
  pub slots_begin : ℕ
  pub slots_end : ℕ
  pub content_begin : ℕ
  pub content_end : ℕ

-- a place is in one of the two spans: from the first slot to the end of the content, but not in the gap
pub record IsBetween (spans : Spans) (place : ℕ) : Type 0 where
  pub low : spans.slots_begin ≤ place
  pub high : place < spans.content_end
  pub gap : spans.slots_end ≤ place → spans.content_begin ≤ place

-- no two words have the same place
abbrev pub ArePairwiseApart : List (ℕ × ℕ) → Type 0
ArePairwiseApart [] = Unit {0}
ArePairwiseApart (x ∷ xs) = AllByRecursion (λ y. x.0 ≡ y.0 → ⊥) xs × ArePairwiseApart xs

-- the words of a part are in its two spans, at distinct places, and no more than the spans have places
pub record IsSpread (spans : Spans) (words : List (ℕ × ℕ)) : Type 0 where
  pub within : AllByRecursion (λ word. IsBetween spans word.0) words
  pub apart : ArePairwiseApart words
  pub few : length words + spans.slots_begin + spans.content_begin ≤ spans.slots_end + spans.content_end

-- ---- what a pass appends

-- What is laid out so far: the words in load order, each a place and a value, and the first free place.
pub record LaidWords : Type 0 where
  pub words : List (ℕ × ℕ)
  pub free : ℕ

-- a pass over a part: the state before it and after it, and the range of the slots that it fills
pub record Pass : Type 0 where
  pub before : LaidWords
  pub after : LaidWords
  pub slots_begin : ℕ
  pub slots_end : ℕ

-- the places of a pass; the content of its slots lies where the free places were
abbrev pub spans_of : Pass → Spans
spans_of pass = record {
  slots_begin = pass.slots_begin;
  slots_end = pass.slots_end;
  content_begin = pass.before.free;
  content_end = pass.after.free;
}

-- What a builder has laid out. Below: the pass of a call that changes the builder and fills the slots between two
-- places.
abbrev pub laid_words : Builder → LaidWords
laid_words builder = record { words = builder.words.items; free = builder.free }

abbrev pub pass_of : (old new : Builder) (slots_begin slots_end : ℕ) → Pass
pass_of old new slots_begin slots_end = record {
  before = laid_words old;
  after = laid_words new;
  slots_begin = slots_begin;
  slots_end = slots_end;
}

-- a part of a message: its expected words, and which of their placed trees fit
pub record Part : Type 1 where
  pub expected : Expected
  pub fits : Placed → Type 0

abbrev pub part : Expected → (Placed → Type 0) → Part
part expected fits = record { expected = expected; fits = fits }

-- under a table, in a heap of H words
module _ (T : Table) (H : ℕ) where
  -- A pass appends a part: a placed tree of the expected words is sound and fits. Its loads are appended to the
  -- words, and lie in the two spans.
  pub record HasPut (part : Part) (pass : Pass) : Type 0 where
    pub placed : Placed
    pub sound : AreSound T H part.expected placed
    pub made : part.fits placed
    pub words : pass.after.words ≡ pass.before.words ++ loads placed
    pub spread : IsSpread (spans_of pass) (loads placed)

  -- A pass appends one expected word, a role and a place. Its value is valid, and its content is a sound placed tree
  -- of the words that it leads to. The word with its content fits. It is appended to the words, followed by the loads
  -- of its content, and all lie in the two spans.
  pub record HasPutWord (expected : WordRole × ℕ) (pass : Pass) (Fits : Word → Type 0) : Type 0 where
    pub value : ℕ
    pub content : Placed
    pub small : value < 2 ^ 64
    pub fine : IsValidWord T H expected.0 value
    pub sound : AreSound T H (expected_after T expected.0 expected.1 value) content
    pub made : Fits (word expected.1 value content)
    pub words : pass.after.words ≡ pass.before.words ++ ((expected.1, value) ∷ loads content)
    pub spread : IsSpread (spans_of pass) ((expected.1, value) ∷ loads content)

  -- After its first words, a placed tree of the remaining ones completes a part. A placed tree of the whole is sound
  -- and fits, and its loads are the first words followed by the loads of the remaining ones.
  pub record IsCompletion (whole : Part) (first_words : List (ℕ × ℕ)) (rest : Placed) : Type 0 where
    pub placed : Placed
    pub sound : AreSound T H whole.expected placed
    pub made : whole.fits placed
    pub loaded : loads placed ≡ first_words ++ loads rest

  -- A pass appends the first words of a part. They are appended to the words and lie in the two spans. Each sound
  -- placed tree of the remaining words that fits completes the part.
  pub record HasBegun (whole rest : Part) (pass : Pass) : Type 0 where
    pub own : List (ℕ × ℕ)
    pub words : pass.after.words ≡ pass.before.words ++ own
    pub spread : IsSpread (spans_of pass) own
    pub on : (others : Placed) → AreSound T H rest.expected others → rest.fits others → IsCompletion whole own others

-- the value of a word
abbrev pub value_of : Word → ℕ
value_of (word place v content) = v

-- a word with its content is the plain slot of a value; it is 0 only for a default value
pub record IsSlotOf (T : Table) (k : Kind) (i : Item) (w : Word) : Type 0 where
  pub item : plain_item T k w ≡ i
  pub some : (IsDefault i → ⊥) → value_of w ≢ 0

-- ---- which fields remain

-- the fields whose numbers pass a test
abbrev pub keep : (ℕ → Bool) → Node → Node
keep p no_fields = no_fields
keep p (field n c t) = if p n then field n c (keep p t) else keep p t

-- the field with a number is a member of a oneof
abbrev pub is_member_at : List Field → ℕ → Bool
is_member_at [] n = false
is_member_at (f ∷ fs) n = if f.number == n then is_member f.label else is_member_at fs n

-- the fields that are members
abbrev pub members : List Field → Node → Node
members fs t = keep (is_member_at fs) t

-- the number of words of optional content
abbrev pub optional_content_words : Table → Kind → Option Content → ℕ
optional_content_words T k None = 0
optional_content_words T k (Some c) = content_words T k c

-- the entries of a map as a list
abbrev pub listed : Pairs → List (Item × Item)
listed no_pairs = []
listed (pair i j ps) = (i, j) ∷ listed ps

-- ---- what a part must be

-- the number of the member of the oneof that the tree has; or 0, if it has none
pub record IsMemberOf (fs : List Field) (oneof : ℕ) (t : Node) (n : ℕ) : Type 0 where
  pub none : n ≡ 0 → content_at t n ≡ None
  pub there : n ≢ 0 → (c : Content) × (content_at t n ≡ Some c) × (is_member_of fs oneof n ≡ true)

-- the content fits a label that isn't a member's
abbrev pub IsContentFor : Table → Label → Kind → Content → Type 0
IsContentFor T l k (one i) = (CanHaveOne l i × IsItem T k i) × (l ≡ Optional → (m : ℕ) → k ≢ OfMessage m)
IsContentFor T l k (many is) = CanHaveMany l × (is ≢ no_items) × AreItems T k is
IsContentFor T l k (pairs ps) = (key : Kind) × (l ≡ Map key) × ((m : ℕ) → key ≢ OfMessage m)
    × (ps ≢ no_pairs) × ArePairs T key k ps × AreKeysAscending key ps

-- a value that is no message
abbrev pub IsNotMessage : Item → Type 0
IsNotMessage (node t) = ⊥
IsNotMessage _ = Unit {0}

-- the address word of a run, if the run isn't empty
abbrev pub run_expected : Kind → ℕ → ℕ → Expected
run_expected k bytes place = if bytes == 0 then [] else (run_address k bytes, place) ∷ []

-- a word has these bytes, at most eight, and 0 in its other bytes
pub record HasBytes (v : ℕ) (bytes : List ℕ) : Type 0 where
  pub low : take (length bytes) (word_bytes v) ≡ bytes
  pub spare : length bytes < 8 → v < 2 ^ (8 * length bytes)
  pub small : v < 2 ^ 64
