use Rattle.std.proofs.Common.{◌≡◌, ◌+◌, refl, ap, ◌∙◌, arith}
use Rattle.graph_place.specs.Size.{tree_words}
use Rattle.graph_place.proofs.Told.{laid_out, stands}
use Rattle.graph_place.proofs.placing.layout.Goals as goal

pub returns : goal.returns
returns c = record {
  stands = λ H within.
      let T = c.args.table.now in
      let t = c.args.tree.now in
      let size : c.node.new.self.free ≡ c.args.at + tree_words c.args.table.now c.args.msg c.args.tree.now =
      c.in_ok-node.ensures.free ∙ ap (λ e. e + tree_words c.args.table.now c.args.msg c.args.tree.now)
      c.in_ok-builder.ensures.free in
      stands T H c.args.msg c.args.at c.node.new.self.free t c.node.new.self.words.items
      (record { address = c.args.at; words = c.from_vec.result }) c.requires.from_one within size refl
      c.from_vec.ensures
      (laid_out T H c.args.msg c.args.at c.node.new.self.free c.in_ok-builder.builder.free t
      c.in_ok-builder.builder.words.items c.node.new.self.words.items c.in_ok-builder.ensures.words
      c.in_ok-builder.ensures.free c.in_ok-node.ensures.puts (omega (arith, size, within))
      (omega (arith, c.requires.normal.depth)));
}
