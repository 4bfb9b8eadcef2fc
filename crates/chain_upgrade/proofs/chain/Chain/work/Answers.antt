use Rattle.std.proofs.Common.{◌≡◌, List, length, drop, slice_get, refl, ap, ◌∙◌, subst, arith, vec_capacity}
use Rattle.std.proofs.lemmas.List.{length-set, take_at}
use Rattle.engine_core.specs.Engines.{EngineParts}
use Rattle.engine_core.specs.Working.{HasWorked}
use Rattle.chain_upgrade.specs.Chains.{ChainParts}
use Rattle.chain_upgrade.proofs.AfterTurns.{work-kept, work-row}
use Rattle.chain_upgrade.proofs.Keeping.{kept-as}
use Rattle.chain_upgrade.proofs.MarksLeft.{have-at, have-turn, where-behind}
use Rattle.chain_upgrade.proofs.chain.Chain.work.Goals as goal

pub work-requires-clause-alone : goal.work-requires-clause-alone
work-requires-clause-alone g c = where-behind c.self.inside.stale c.args.place (λ behind s is. rw c.as_mut_slice.ensures.value
    (have-at c.self.inside.engines.items c.self.inside.stale c.args.place c.self.inside.row s c.self.invariant.1 behind is))

pub invariant_of-self : goal.invariant_of-self
invariant_of-self g c =
    let w : HasWorked c.self.inside.engines.items c.self.inside.row c.args.at c.args.place c.args.now c.work.result c.work.new.engines c.work.new.self =
    subst (λ (es : List EngineParts). HasWorked es c.self.inside.row c.args.at c.args.place c.args.now c.work.result c.work.new.engines c.work.new.self)
    c.as_mut_slice.ensures.value c.work.ensures.works in
    let many : length c.work.new.engines ≡ c.self.inside.engines.len =
    omega (arith, ap (λ (es : List EngineParts). length es) w.others, length-set c.self.inside.engines.items c.args.at w.engine', c.self.inside.engines.ok.0) in (
      kept-as _ _ _ _ _ _ _ _ _
          (take_at c.work.new.engines (drop (length c.work.new.engines) c.self.inside.engines.items) c.self.inside.engines.len many) refl refl refl
          (work-kept c.self.inside.engines.items (vec_capacity c.self.inside.engines) c.self.inside.attached c.args.at c.args.place c.args.now
          c.self.inside.row c.self.inside.cuts.behind c.work.result c.work.new.engines c.work.new.self c.self.invariant.0 w),
      rw (take_at c.work.new.engines (drop (length c.work.new.engines) c.self.inside.engines.items) c.self.inside.engines.len many)
          (have-turn c.self.inside.engines.items c.self.inside.stale c.args.at c.args.place c.args.now c.self.inside.row c.work.result c.work.new.engines c.work.new.self w
          c.self.invariant.1),
    )

pub returns-clause-row : goal.returns-clause-row
returns-clause-row g c =
    let w : HasWorked c.self.inside.engines.items c.self.inside.row c.args.at c.args.place c.args.now c.work.result c.work.new.engines c.work.new.self =
    subst (λ (es : List EngineParts). HasWorked es c.self.inside.row c.args.at c.args.place c.args.now c.work.result c.work.new.engines c.work.new.self)
    c.as_mut_slice.ensures.value c.work.ensures.works in
    work-row c.self.inside.engines.items (vec_capacity c.self.inside.engines) c.self.inside.attached c.args.at c.args.place c.args.now
    c.self.inside.row c.self.inside.cuts.behind c.work.result c.work.new.engines c.work.new.self c.self.invariant.0 w c.args.self.now c.self.view_is

pub returns-clause-tickets : goal.returns-clause-tickets
returns-clause-tickets g c e is = c.work.ensures.tickets e
    (ap (λ (es : List EngineParts). slice_get es c.args.at) (c.as_mut_slice.ensures.value ∙ ap (λ (v : ChainParts). v.engines) c.self.view_is) ∙ is)
