-- The code's own: what the reader expects of a graph, in terms of the layout.
use Rattle.std.specs.Prelude.{ℕ, ◌+◌, ◌-◌, ◌≤◌, List, [], ◌∷◌, ◌++◌, drop, Option, Some, None}
use Rattle.mrpc_table.specs.Normal.{fields_of}
use Rattle.mrpc_table.specs.declared.table.Table.{Table}
use Rattle.graph_form.specs.Roles.{WordRole as Use, value, presence, run_length, run_presence, run_address, run_word, link, count, elements_address, entry_count, entries_address, case_word, Expected, own_slots, oneof_count, slots_from, cases_from, elements_from, entries_from, run_words}
use Rattle.graph_copy.specs.declared.role.Role.{Role}
use Rattle.graph_copy.specs.declared.role.Role.TheVariants.{Value, Presence, RunLength, RunPresence, RunAddress, Link, Count, Elements, EntryCount, Entries, Case}
use Rattle.graph_copy.specs.declared.walk.WalkFrame.{WalkFrame}
use Rattle.graph_copy.specs.declared.walk.WalkFrame.TheVariants.{Word, Slots, Oneofs, Elements as SomeElements, Entries as SomeEntries}
use Rattle.graph_copy.specs.declared.walk.RunWord.{RunWord}
use Rattle.graph_copy.specs.declared.walk.Next.{Next}
use Rattle.graph_copy.specs.declared.walk.Next.TheVariants.{Word as NextWord, Run as NextRun}
use Rattle.graph_copy.specs.declared.walk.Walk.{Walk}

-- the layout's role for a role of the code
abbrev pub layout_role : Table → Role → Use
layout_role T (Value k) = value k
layout_role T (Presence k) = presence k
layout_role T (RunLength k) = run_length k
layout_role T (RunPresence k) = run_presence k
layout_role T (RunAddress k bytes) = run_address k bytes
layout_role T (Link m depth needed) = link m depth needed
layout_role T (Count k depth) = count k depth
layout_role T (Elements k n depth) = elements_address k n depth
layout_role T (EntryCount key k depth) = entry_count key k depth
layout_role T (Entries key k n depth) = entries_address key k n depth
layout_role T (Case m oneof depth) = case_word (fields_of T m) oneof depth

-- the words of a frame
abbrev pub frame_words : Table → WalkFrame → Expected
frame_words T (Word role place) = (layout_role T role, place) ∷ []
frame_words T (Slots m field depth place) = slots_from (own_slots (drop field (fields_of T m))) depth place
frame_words T (Oneofs m oneof depth place) = cases_from (oneof_count T m - oneof) (fields_of T m) oneof depth place
frame_words T (SomeElements k left depth place) = elements_from left k depth place
frame_words T (SomeEntries key k left depth place) = entries_from left key k depth place

-- the words of frames, the last frame's first
abbrev pub stack_words : Table → List WalkFrame → Expected
stack_words T [] = []
stack_words T (f ∷ fs) = stack_words T fs ++ frame_words T f

-- the next word of a run; the bytes of the run before it are given
abbrev pub run_next : Option RunWord → List ℕ → Expected
run_next None bytes = []
run_next (Some r) bytes = (run_word r.kind r.left bytes, r.place) ∷ []

abbrev pub expected : Table → Walk → Expected
expected T w = run_next w.run w.bytes.items ++ stack_words T w.frames

-- the word that is loaded next
abbrev pub next_word : Table → List ℕ → Next → Use × ℕ
next_word T bytes (NextWord role place) = (layout_role T role, place)
next_word T bytes (NextRun r) = (run_word r.kind r.left bytes, r.place)

-- how many words, its own included, a word relies on
abbrev pub words_needed : Use → ℕ
words_needed (value k) = 1
words_needed (presence k) = 2
words_needed (run_length k) = 2
words_needed (run_presence k) = 2
words_needed (run_address k bytes) = 1
words_needed (run_word k left bytes) = run_words left
words_needed (link m depth needed) = 1
words_needed (count k depth) = 2
words_needed (elements_address k n depth) = 1
words_needed (entry_count key k depth) = 2
words_needed (entries_address key k n depth) = 1
words_needed (case_word fs oneof depth) = 3

-- a run that is loaded has at least one byte
abbrev pub IsNonEmptyRun : Use → Type 0
IsNonEmptyRun (run_address k bytes) = 1 ≤ bytes
IsNonEmptyRun (run_word k left bytes) = 1 ≤ left
IsNonEmptyRun _ = Unit {0}

-- a word is inside a heap of H words, with those that it relies on
abbrev pub IsInHeap : ℕ → Use × ℕ → Type 0
IsInHeap H e = IsNonEmptyRun e.0 × (e.1 + words_needed e.0 ≤ H)

abbrev pub AreInHeap : ℕ → Expected → Type 0
AreInHeap H [] = Unit {0}
AreInHeap H (e ∷ es) = IsInHeap H e × AreInHeap H es
