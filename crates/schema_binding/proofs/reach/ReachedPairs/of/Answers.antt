use Rattle.schema_binding.proofs.Reaching.{name_stays, none_marked, methods_reached, all_reached}
use Rattle.schema_binding.proofs.reach.ReachedPairs.of.Goals as goal

pub returns : goal.returns
returns c =
    let T = c.args.ours.now in
    let U = c.args.theirs.now in
    let s = c.args.service.now in
    let first = c.mark_methods.new.self in
    let last = c.mark_further.new.self in
    record {
      paired = c.in_ok-mark_further.ensures.paired;
      only = c.in_ok-mark_further.ensures.reached s
          (methods_reached T U s c.in_ok-reached.reached first c.requires.same
          (none_marked c.in_ok-reached.reached c.len.result c.in_ok-reached.ensures.partners)
          c.in_ok-mark_methods.ensures.gains);
      all = all_reached T U s last c.requires.ours c.requires.theirs c.in_ok-mark_further.ensures.paired
          (λ type h. name_stays T first last type c.in_ok-mark_further.ensures.grows (c.in_ok-mark_methods.ensures.methods type h)) c.in_ok-mark_further.ensures.closed;
    }
