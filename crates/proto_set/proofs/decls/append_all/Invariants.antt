-- the declarations so far are appended
use Rattle.std.proofs.Common.{◌≡◌, ◌++◌, map}
use Rattle.proto_set.proofs.decls.append_all.Given as goal

abbrev pub invariant-loop-item : goal.invariant-loop-item
invariant-loop-item g l = l.all ≡ l.fn.all ++ map (g.T.Placeable.placed l.before) l.yielded
