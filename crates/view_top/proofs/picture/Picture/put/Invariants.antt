use Rattle.std.proofs.Common.{◌≡◌, ◌++◌, drop, map, flat_map}
use Rattle.view_top.specs.SvgPieces.{ArePlain, piece_text}
use Rattle.view_top.specs.DrawingData.{svg_piece}
use Rattle.view_top.proofs.picture.Picture.put.Given as goal

abbrev pub invariant-loop-piece : goal.invariant-loop-piece
invariant-loop-piece l = record {
  text : l.self ++ flat_map piece_text (map svg_piece (drop l.piece-index l.pieces)) ≡ l.fn.self ++ flat_map piece_text (map svg_piece l.pieces);
  plain : ArePlain (map svg_piece (drop l.piece-index l.pieces));
}
