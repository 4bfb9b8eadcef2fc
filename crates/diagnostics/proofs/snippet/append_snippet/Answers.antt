use Rattle.std.proofs.lemmas.Result.{on_ok_weaker}
use Rattle.diagnostics.proofs.Pointed.{points}
use Rattle.diagnostics.proofs.snippet.append_snippet.Goals as goal

-- src/pointing.rt:14:1
pub returns : goal.returns
returns c = record {
  pointed = on_ok_weaker c.append_window.result (λ e. points c.args.text.now c.args.at c.args.end c.args.width
      c.of-line.result.number c.of-line.result.start c.of-line.result.end c.of-window.result.from c.of-window.result.stop
      c.of-window.result.to c.is_utf8-is_utf8.result c.args.sentence.now c.args.out.now c.append_header.new.out
      c.append_window.new.out c.of-line.ensures.number c.of-line.ensures.line c.of-window.ensures.from
      c.of-window.ensures.to c.of-window.ensures.stop c.is_utf8-is_utf8.ensures c.in_ok-append_header.ensures e)
      c.append_window.ensures;
}
