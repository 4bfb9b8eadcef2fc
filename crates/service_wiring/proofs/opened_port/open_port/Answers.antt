use Rattle.std.proofs.Common.{◌∙◌, refl, sym}
use Rattle.service_wiring.proofs.opened_port.open_port.Goals as goal

pub open-requires : goal.open-requires
open-requires c = record { at_least = c.requires.heap.0; at_most = c.requires.heap.1 }

pub open_ends-requires-clause-least : goal.open_ends-requires-clause-least
open_ends-requires-clause-least c = c.requires.ring.0

pub returns : goal.returns
returns c =
    let ends = c.in_ok-sender.ensures in record {
      words = c.in_ok-writer.ensures.size;
      capacity = refl;
      its_reader = refl;
      new = λ none. record {
        calls = ends.sender_heap ∙ c.in_ok-writer.ensures.one_heap;
        capacity = sym ends.capacity;
        notices = ends.noticed_heap;
        stored = c.in_ok-writer.ensures.stores;
        loaded = none;
        sent = ends.none_sent;
        taken = ends.none_noticed;
        numbers = ends.no_blocks;
        reclaimed = ends.none_given;
      };
      one_heap = c.in_ok-writer.ensures.one_heap;
      loads = c.in_ok-writer.ensures.loads;
      ends = ends;
    }
