use Rattle.std.proofs.Common.{Option, subst}
use Rattle.diagnostics.specs.Locations.{IsLocatedIn}
use Rattle.diagnostics.specs.declared.source_span.SourceSpan.{SourceSpan}
use Rattle.diagnostics.proofs.Saying.{says_alone, says_there}
use Rattle.diagnostics.proofs.diagnostic.Diagnostic.put.Goals as goal

pub returns-in-None : goal.returns-in-None
returns-in-None c =
    λ input points.
    says_alone c.put_line.result input c.args.width c.as_slice.result.now c.args.out.now c.put_line.new.out
    c.as_slice.ensures.plain c.put_line.ensures

pub returns-in-Some : goal.returns-in-Some
returns-in-Some c =
    λ input points.
    let part = c.in-Some.part in
    let there = subst (λ (p : Option SourceSpan). IsLocatedIn input p) c.in-Some.is points in
    says_there c.put.result input part.text.now c.args.width part.start part.end c.as_slice-in-Some.result.now
    c.args.out.now c.put.new.out there.0 there.1 c.as_slice-in-Some.ensures.plain c.put.ensures
