-- The name of no heap, for a pass that knows of none.
use Rattle.std.specs.Prelude.{[]}
use Rattle.shared_heap.specs.Fresh.{HeapId}

abbrev pub no_heap : HeapId
no_heap = record { words = 0; slots = 0; views_name = 0; atom = 0; block = 0; offset = 0; slot_names = [] }
