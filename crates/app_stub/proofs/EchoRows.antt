-- Worked by hand: what an echo does for one small request.
use Rattle.std.proofs.Common.{◌≡◌, ℕ, ◌+◌, ◌<◌, ◌≤◌, [], ◌∷◌, false, codes, refl, arith, lit≤, lit<}
use Rattle.std.proofs.lemmas.List.Elements.{All-from_recursion}
use Rattle.mrpc_table.specs.Node.{Node, no_fields, field, one, number}
use Rattle.mrpc_table.specs.declared.table.Kind.TheVariants.{Uint64}
use Rattle.mrpc_table.specs.declared.table.Label.TheVariants.{Plain}
use Rattle.mrpc_table.specs.declared.table.Table.{Table}
use Rattle.graph_form.specs.Malformed.{copied, is_copied}
use Rattle.graph_form.specs.Placed.{IsValidWord, IsSound, Placed, first, nothing, word}
use Rattle.graph_form.specs.Roles.{value}
use Rattle.graph_form.specs.declared.placed.Placed.{Placed as PlacedWords}
use Rattle.graph_form.specs.declared.reason.Reason.TheVariants.{Address, Presence, Case, Length, Utf8, Narrow, Depth, Loads, NoMethod}
use Rattle.graph_place.specs.Stored.{IsPlacedIn}
use Rattle.descriptor_ring.specs.declared.descriptor.Descriptor.{Descriptor}
use Rattle.descriptor_ring.specs.Heaps.{no_heap}
use Rattle.app_stub.specs.Echoing.{AllEchoes, RequestCopy, EchoTrace, Echo, HasReply, IsCopyOf, empty_echo_trace, replies, slice_at, slice_words}

-- ---- slices of 64 words, with a ring of four

ten_words_each : slice_words 64 4 ≡ 10
ten_words_each = refl

first_slice : slice_at 64 4 0 ≡ 2
first_slice = refl

last_slice : slice_at 64 4 5 ≡ 52
last_slice = refl

first_slice_again : slice_at 64 4 6 ≡ 2
first_slice_again = refl

-- ---- a request with 150 in its one field, at place 1 of the receive heap

abbrev table : Table
table = record {
  messages = record {
    name = codes "M";
    fields = record { number = 1; name = codes "a"; kind = Uint64; label = Plain } ∷ [];
    oneofs = [];
  } ∷ [];
  enums = [];
  methods = record { service = codes "S"; name = codes "Get"; input = 0; output = 0 } ∷ [];
}

abbrev echo : Echo
echo = record { table = table; heap = 64; receive = 1024; ring = 4 }

abbrev request : Descriptor
request = record {
  kind = 1;
  method = 0;
  number = 1;
  addr = 1;
  stores = 1;
  note = record { heap = no_heap; stores = (1, 150) ∷ []; last = false };
}

abbrev tree : Node
tree = field 1 (one (number 150)) no_fields

abbrev at : ℕ → Placed
at place = first (word place 150 nothing) nothing

fine : (H : ℕ) → IsValidWord table H (value Uint64) 150
fine H Narrow o = o (lit< tt)
fine H Address o = o
fine H Presence o = o
fine H Case o = o
fine H Length o = o
fine H Utf8 o = o
fine H Depth o = o
fine H Loads o = o
fine H NoMethod o = o

sound : (H place : ℕ) → 1 ≤ place → place ≤ 2 → 64 ≤ H → IsSound table H 0 place (at place)
sound H place low high some = record { root = record { from_one = low; to_end = omega arith }; words = (refl, lit< tt, fine H, tt, tt) }

abbrev copy : RequestCopy
copy = record { loads = record { after = 1; loads = (1, 150) ∷ [] }; outcome = copied tree }

copy_of_it : IsCopyOf echo request copy
copy_of_it = record {
  comes = is_copied (at 1) (sound 1024 1 (omega arith) (omega arith) (omega arith)) refl (lit≤ tt) refl;
  after = refl;
}

has_reply : HasReply echo 0 1 tree
has_reply = record { numbered = lit≤ tt; types = refl; fits = lit≤ tt }

abbrev placed : PlacedWords
placed = record { address = 2; words = (2, 150) ∷ [] }

stands : IsPlacedIn table 64 0 tree 2 2 placed
stands = record {
  tree = at 2;
  loaded = record { sound = sound 64 2 (omega arith) (omega arith) (omega arith); words = refl };
  means = refl;
  address = refl;
  within = All-from_recursion (λ (w : ℕ × ℕ). (2 ≤ w.0) × (w.0 < 2 + 2)) ((2, 150) ∷ []) ((lit≤ tt, lit< tt), tt);
  apart = (λ h. let none = h.1 in omega (arith, none), tt);
  few = lit≤ tt;
}

-- its reply is in the first slice, after one store
abbrev done : EchoTrace
done = record {
  copies = copy ∷ [];
  stores = (2, 150) ∷ [];
  calls = record { method = 0; number = 1; addr = 2; after = 1 } ∷ [];
}

replied_to : AllEchoes echo (request ∷ []) empty_echo_trace done
replied_to = (done, replies copy tree placed refl copy_of_it (record { comes_to = refl; has = has_reply }) stands refl, refl)
