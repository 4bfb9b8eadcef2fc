use Rattle.spsc_queue.specs.Ends.{pushed_of}
use Rattle.link_queue.proofs.Writing.{news_was_told}
use Rattle.link_queue.proofs.writer.QueueWriter.push_news.Goals as goal

pub invariant_of-self : goal.invariant_of-self
invariant_of-self g c =
    let old = c.args.self.now in
    record {
      passes = old.passes;
      brings = news_was_told c.args.news (pushed_of old.out) _ old.held old.inner.came.bytes old.inner.ended
          old.inner.health c.requires.so_it_is c.in-Ok.ensures.done old.brings c.requires.holds_nothing;
    }
