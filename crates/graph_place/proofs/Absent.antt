-- The slot of a field that a message doesn't have.
use Rattle.std.proofs.Common.{◌≡◌, ℕ, ◌+◌, ◌≤◌, false, [], ◌∷◌, ◌++◌, None, refl, arith, inl}
use Rattle.std.proofs.lemmas.Bool.{true≢false}
use Rattle.mrpc_table.specs.declared.table.Kind.{Kind}
use Rattle.mrpc_table.specs.declared.table.Kind.TheVariants.{Int32, Int64, Uint32, Uint64, Sint32, Sint64}
use Rattle.mrpc_table.specs.declared.table.Kind.TheVariants.{Bool as TheBool, Fixed32, Fixed64, Sfixed32, Sfixed64}
use Rattle.mrpc_table.specs.declared.table.Kind.TheVariants.{Float, Double, Text, Octets, Message as OfMessage}
use Rattle.mrpc_table.specs.declared.table.Kind.TheVariants.{Choice}
use Rattle.mrpc_table.specs.declared.table.Label.{Label}
use Rattle.mrpc_table.specs.declared.table.Label.TheVariants.{Plain, Optional, Repeated, Packed, Map, Member}
use Rattle.mrpc_table.specs.declared.table.Table.{Table}
use Rattle.graph_form.specs.Roles.{expected_after, plain_role, slot_role, is_member}
use Rattle.graph_form.specs.Placed.{nothing, word, IsValidWord}
use Rattle.graph_form.specs.Forgotten.{slot_content}
use Rattle.graph_place.proofs.Beginning.{Loads}
use Rattle.graph_place.proofs.Fine.{fine_value, fine_presence, fine_run_length, fine_run_presence, fine_absent, fine_count, fine_entry_count}
use Rattle.graph_place.proofs.Laying.{lone_word}
use Rattle.graph_place.proofs.Spelled.{PutsWordAt}

none_behind : (T : Table) (l : Label) (k : Kind) (level p : ℕ) → is_member l ≡ false → expected_after T (slot_role l k level) p 0 ≡ []
none_behind T Plain Text level p fails = refl
none_behind T Plain Octets level p fails = refl
none_behind T Plain (OfMessage m) level p fails = refl
none_behind T Plain _ level p fails = refl
none_behind T Optional Text level p fails = refl
none_behind T Optional Octets level p fails = refl
none_behind T Optional _ level p fails = refl
none_behind T Repeated k level p fails = refl
none_behind T Packed k level p fails = refl
none_behind T (Map key) k level p fails = refl
none_behind T (Member o) k level p fails = absurd (true≢false fails)

plain_fine : (T : Table) (H : ℕ) (k : Kind) (level : ℕ) → 1 ≤ H → IsValidWord T H (plain_role k level false) 0
plain_fine T H Text level some = fine_run_length T H Text 0 (omega (arith, some))
plain_fine T H Octets level some = fine_run_length T H Octets 0 (omega (arith, some))
plain_fine T H (OfMessage m) level some = fine_absent T H m level false refl
plain_fine T H Int32 level some = fine_value T H Int32 0 (inl (omega arith))
plain_fine T H Sint32 level some = fine_value T H Sint32 0 (inl (omega arith))
plain_fine T H Sfixed32 level some = fine_value T H Sfixed32 0 (inl (omega arith))
plain_fine T H (Choice i) level some = fine_value T H (Choice i) 0 (inl (omega arith))
plain_fine T H Int64 level some = fine_value T H Int64 0 (omega arith)
plain_fine T H Sint64 level some = fine_value T H Sint64 0 (omega arith)
plain_fine T H Uint64 level some = fine_value T H Uint64 0 (omega arith)
plain_fine T H Fixed64 level some = fine_value T H Fixed64 0 (omega arith)
plain_fine T H Sfixed64 level some = fine_value T H Sfixed64 0 (omega arith)
plain_fine T H Double level some = fine_value T H Double 0 (omega arith)
plain_fine T H Uint32 level some = fine_value T H Uint32 0 (omega arith)
plain_fine T H Fixed32 level some = fine_value T H Fixed32 0 (omega arith)
plain_fine T H Float level some = fine_value T H Float 0 (omega arith)
plain_fine T H TheBool level some = fine_value T H TheBool 0 (omega arith)

absent_fine : (T : Table) (H : ℕ) (l : Label) (k : Kind) (level : ℕ) → is_member l ≡ false → 1 ≤ H → IsValidWord T H (slot_role l k level) 0
absent_fine T H Plain k level fails some = plain_fine T H k level some
absent_fine T H Optional Text level fails some = fine_run_presence T H Text 0 (omega (arith, some))
absent_fine T H Optional Octets level fails some = fine_run_presence T H Octets 0 (omega (arith, some))
absent_fine T H Optional k level fails some = fine_presence T H k 0 (omega arith)
absent_fine T H Repeated k level fails some = fine_count T H k level 0 (omega (arith, some))
absent_fine T H Packed k level fails some = fine_count T H k level 0 (omega (arith, some))
absent_fine T H (Map key) k level fails some = fine_entry_count T H key k level 0 (omega (arith, some))
absent_fine T H (Member o) k level fails some = absurd (true≢false fails)

absent_says : (T : Table) (l : Label) (k : Kind) (p : ℕ) → is_member l ≡ false → slot_content T l k (word p 0 nothing) ≡ None
absent_says T Plain Text p fails = refl
absent_says T Plain Octets p fails = refl
absent_says T Plain (OfMessage m) p fails = refl
absent_says T Plain _ p fails = refl
absent_says T Optional k p fails = refl
absent_says T Repeated k p fails = refl
absent_says T Packed k p fails = refl
absent_says T (Map key) k p fails = refl
absent_says T (Member o) k p fails = absurd (true≢false fails)

pub no_slot : (T : Table) (H : ℕ) (l : Label) (k : Kind) (level place c : ℕ) (before after : Loads)
    → is_member l ≡ false → place + 2 ≤ c → c ≤ H → after ≡ before ++ (place, 0) ∷ []
    → PutsWordAt T H (slot_role l k level, place) (place + 2) c c before after (λ w. slot_content T l k w ≡ None)
no_slot T H l k level place c before after fails slot within put =
    lone_word T H (slot_role l k level) place 0 (place + 2) c before after (λ w. slot_content T l k w ≡ None) (none_behind T l k level place fails) (omega arith)
    (absent_fine T H l k level fails (omega (arith, slot, within))) (omega arith) slot put (absent_says T l k place fails)
