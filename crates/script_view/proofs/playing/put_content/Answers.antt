use Rattle.std.proofs.Common.{refl}
use Rattle.script_view.specs.Playing.{hello_comment}
use Rattle.script_view.specs.ReplayRanges.{plays_hello}
use Rattle.script_view.proofs.playing.put_content.Goals as goal

pub returns-in_ok-put_hello-in-Hello-clause-made : goal.returns-in_ok-put_hello-in-Hello-clause-made
returns-in_ok-put_hello-in-Hello-clause-made c =
    (hello_comment, c.in_ok-put_hello-in-Hello.ensures, plays_hello (rw c.in-Hello.is at c.requires.content) refl refl)
