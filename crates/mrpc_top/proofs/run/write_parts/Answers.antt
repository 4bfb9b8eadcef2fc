use Rattle.std.proofs.Common.{◌≡◌, ◌∙◌, sym, ℕ, List, take, subst, refl, arith, false}
use Rattle.std.specs.List.{concat}
use Rattle.std.specs.Io.KnownBytes.{Appends}
use Rattle.std.proofs.lemmas.Bool.{true≢false}
use Rattle.mrpc_base.specs.Failures.{HasCause}
use Rattle.mrpc_base.specs.Sinks.{HasAppendedPrefix}
use Rattle.mrpc_top.proofs.KnownBytes.{appends-nothing, appends-more}
use Rattle.mrpc_top.proofs.Parts.{joined-next, front-next}
use Rattle.mrpc_top.proofs.run.write_parts.Goals as goal

pub loop-part-init : goal.loop-part-init
loop-part-init g c = (appends-nothing (g.K.Sink.written c.args.out.now), refl)

pub loop-part-preserved : goal.loop-part-preserved
loop-part-preserved g c =
    let i = c.loop-part.part-index in
    let part : List ℕ = c.part-item.result in
    let old = g.K.Sink.written c.args.out.now in
    let mid = g.K.Sink.written c.loop-part.out in
    let new = g.K.Sink.written c.write_all.new.out in
    let written : Appends mid new part = subst (Appends mid new) c.as_slice.ensures (c.if-not-write_all.ensures.done refl) in (
      subst (Appends old new) (sym (joined-next c.args.parts.now i part c.loop-part-test.true c.part-item.is))
          (appends-more old mid new (concat (take i c.args.parts.now)) part c.loop-part.invariant.0 written),
      c.if-not-write_all.ensures.cause.stays true≢false ∙ c.loop-part.invariant.1,
    )

pub returns-then-not-write_all-clause-front : goal.returns-then-not-write_all-clause-front
returns-then-not-write_all-clause-front g c none =
    let part : List ℕ = c.part-item.result in
    let mid = g.K.Sink.written c.loop-part.out in
    let new = g.K.Sink.written c.write_all.new.out in
    let front = subst (HasAppendedPrefix mid new) c.as_slice.ensures (c.if-not-write_all.ensures.front refl) in
    front-next c.args.parts.now c.loop-part.part-index part c.loop-part-test.true c.part-item.is
    (g.K.Sink.written c.args.out.now) mid new front.0 (omega (arith, front.1)) c.loop-part.invariant.0 front.2

pub returns-then-not-write_all-clause-cause : goal.returns-then-not-write_all-clause-cause
returns-then-not-write_all-clause-cause g c =
    subst (λ (n : ℕ). HasCause (false ≡ false) n (g.K.Sink.failures c.write_all.new.out)) c.loop-part.invariant.1
    c.if-not-write_all.ensures.cause
