use Rattle.std.proofs.Common.{◌≡◌, ◌++◌, take, flat_map}
use Rattle.view_top.specs.SvgPieces.{quoted_byte}
use Rattle.view_top.proofs.picture.Picture.put_bytes.Given as goal

abbrev pub invariant-loop-byte : goal.invariant-loop-byte
invariant-loop-byte l = l.self ≡ l.fn.self ++ flat_map quoted_byte (take l.byte-index l.bytes)
