use Rattle.std.proofs.Common.{inl, inr, refl, subst, sym, List}
use Rattle.std.specs.Prelude.{String}
use Rattle.std.specs.declared.alloc.Global.{Global}
use Rattle.mrpc_top.specs.Runs.{HasRunFault, IsNamedRun}
use Rattle.mrpc_top.specs.declared.run.RunTarget.{RunTarget}
use Rattle.mrpc_top.specs.declared.run.RunTarget.TheVariants.{Drill}
use Rattle.mrpc_top.proofs.Runs.{few_calls, no_command, one_run}
use Rattle.mrpc_top.proofs.top.run_command.Goals as goal

pub returns-in-Some-clause-words : goal.returns-in-Some-clause-words
returns-in-Some-clause-words g c =
    let named = subst (λ (ws : List (String Global)). IsNamedRun ws c.in-Some.running) c.deref.ensures.value c.in-Some.ensures.some in
    (λ e. absurd (c.run_named.ensures.some e), λ never. absurd (never (inr (c.in-Some.running, named))))

pub returns-in-Some-clause-done : goal.returns-in-Some-clause-done
returns-in-Some-clause-done g c command names done =
    let named = subst (λ (ws : List (String Global)). IsNamedRun ws c.in-Some.running) c.deref.ensures.value c.in-Some.ensures.some in
    absurd (no_command c.args.words.now.items c.in-Some.running command named names)

pub returns-in-Some-clause-faulty : goal.returns-in-Some-clause-faulty
returns-in-Some-clause-faulty g c command names faulty =
    let named = subst (λ (ws : List (String Global)). IsNamedRun ws c.in-Some.running) c.deref.ensures.value c.in-Some.ensures.some in
    absurd (no_command c.args.words.now.items c.in-Some.running command named names)

pub returns-in-Some-clause-refused : goal.returns-in-Some-clause-refused
returns-in-Some-clause-refused g c command text names is fault =
    let named = subst (λ (ws : List (String Global)). IsNamedRun ws c.in-Some.running) c.deref.ensures.value c.in-Some.ensures.some in
    absurd (no_command c.args.words.now.items c.in-Some.running command named names)

pub returns-in-Some-clause-complete : goal.returns-in-Some-clause-complete
returns-in-Some-clause-complete g c command text names is sound reads writes sends =
    let named = subst (λ (ws : List (String Global)). IsNamedRun ws c.in-Some.running) c.deref.ensures.value c.in-Some.ensures.some in
    absurd (no_command c.args.words.now.items c.in-Some.running command named names)

pub returns-in-Some-clause-sound_alone : goal.returns-in-Some-clause-sound_alone
returns-in-Some-clause-sound_alone g c text replays is fault =
    let named = subst (λ (ws : List (String Global)). IsNamedRun ws c.in-Some.running) c.deref.ensures.value c.in-Some.ensures.some in
    refl

pub returns-in-Some-clause-broken : goal.returns-in-Some-clause-broken
returns-in-Some-clause-broken g c is failed =
    let named = subst (λ (ws : List (String Global)). IsNamedRun ws c.in-Some.running) c.deref.ensures.value c.in-Some.ensures.some in
    absurd (no_command c.args.words.now.items c.in-Some.running is.0 named is.1)

pub returns-in-Some-clause-cut_short : goal.returns-in-Some-clause-cut_short
returns-in-Some-clause-cut_short g c command names e =
    let named = subst (λ (ws : List (String Global)). IsNamedRun ws c.in-Some.running) c.deref.ensures.value c.in-Some.ensures.some in
    absurd (no_command c.args.words.now.items c.in-Some.running command named names)

pub returns-in-Some-clause-wire_rose : goal.returns-in-Some-clause-wire_rose
returns-in-Some-clause-wire_rose g c is failed =
    let named = subst (λ (ws : List (String Global)). IsNamedRun ws c.in-Some.running) c.deref.ensures.value c.in-Some.ensures.some in
    absurd (no_command c.args.words.now.items c.in-Some.running is.0 named is.1)

pub returns-in-Some-clause-ran : goal.returns-in-Some-clause-ran
returns-in-Some-clause-ran g c running names done =
    let named = subst (λ (ws : List (String Global)). IsNamedRun ws c.in-Some.running) c.deref.ensures.value c.in-Some.ensures.some in
    rw (one_run c.args.words.now.items c.in-Some.running running named names) (c.run_named.ensures.done done)

pub returns-in-Some-clause-ran_on : goal.returns-in-Some-clause-ran_on
returns-in-Some-clause-ran_on g c running names failed =
    let named = subst (λ (ws : List (String Global)). IsNamedRun ws c.in-Some.running) c.deref.ensures.value c.in-Some.ensures.some in
    rw (one_run c.args.words.now.items c.in-Some.running running named names) (c.run_named.ensures.link failed)

pub returns-in-Some-clause-not_run : goal.returns-in-Some-clause-not_run
returns-in-Some-clause-not_run g c running names faulty =
    let named = subst (λ (ws : List (String Global)). IsNamedRun ws c.in-Some.running) c.deref.ensures.value c.in-Some.ensures.some in
    rw (one_run c.args.words.now.items c.in-Some.running running named names) (c.run_named.ensures.faulty faulty)

pub returns-in-Some-clause-never_run : goal.returns-in-Some-clause-never_run
returns-in-Some-clause-never_run g c running text names is fault =
    let named = subst (λ (ws : List (String Global)). IsNamedRun ws c.in-Some.running) c.deref.ensures.value c.in-Some.ensures.some in
    c.run_named.ensures.refused text is (subst (λ r. HasRunFault r text) (one_run c.args.words.now.items c.in-Some.running running named names) fault)

pub returns-in-Some-clause-stopped : goal.returns-in-Some-clause-stopped
returns-in-Some-clause-stopped g c running names e =
    let named = subst (λ (ws : List (String Global)). IsNamedRun ws c.in-Some.running) c.deref.ensures.value c.in-Some.ensures.some in
    rw (one_run c.args.words.now.items c.in-Some.running running named names) (c.run_named.ensures.cut_short e)

pub returns-in-Some-clause-unopened : goal.returns-in-Some-clause-unopened
returns-in-Some-clause-unopened g c running names e =
    let named = subst (λ (ws : List (String Global)). IsNamedRun ws c.in-Some.running) c.deref.ensures.value c.in-Some.ensures.some in
    rw (one_run c.args.words.now.items c.in-Some.running running named names) (c.run_named.ensures.unopened e)

pub returns-in-Some-clause-drilled : goal.returns-in-Some-clause-drilled
returns-in-Some-clause-drilled g c calls names =
    let named = subst (λ (ws : List (String Global)). IsNamedRun ws c.in-Some.running) c.deref.ensures.value c.in-Some.ensures.some in
    c.run_named.ensures.drilled calls (sym (one_run c.args.words.now.items c.in-Some.running (Drill calls) named names))

pub returns-in-Some-clause-unrun : goal.returns-in-Some-clause-unrun
returns-in-Some-clause-unrun g c e =
    let named = subst (λ (ws : List (String Global)). IsNamedRun ws c.in-Some.running) c.deref.ensures.value c.in-Some.ensures.some in
    elim e [
      | inl either ↦ c.run_named.ensures.unrun either
      | inr never ↦ absurd (never (c.in-Some.running, named))
    ]

pub run_named-requires-clause-few : goal.run_named-requires-clause-few
run_named-requires-clause-few g c κs within =
    λ calls is.
    let named = subst (λ (ws : List (String Global)). IsNamedRun ws c.in-Some.running) c.deref.ensures.value c.in-Some.ensures.some in
    few_calls c.args.words.now.items c.in-Some.running calls named is

pub returns-in-None-clause-words : goal.returns-in-None-clause-words
returns-in-None-clause-words g c =
    let none = subst (λ (ws : List (String Global)). (running : RunTarget) → IsNamedRun ws running → ⊥) c.deref.ensures.value c.in-None.ensures.none in (
      λ e. λ either. elim either [
        | inl command ↦ (c.run_still.ensures.words.0 e) command
        | inr running ↦ none running.0 running.1
      ],
      λ never. c.run_still.ensures.words.1 (λ command. never (inl command)),
    )

pub returns-in-None-clause-ran : goal.returns-in-None-clause-ran
returns-in-None-clause-ran g c running names done =
    let none = subst (λ (ws : List (String Global)). (running : RunTarget) → IsNamedRun ws running → ⊥) c.deref.ensures.value c.in-None.ensures.none in
    absurd (none running names)

pub returns-in-None-clause-ran_on : goal.returns-in-None-clause-ran_on
returns-in-None-clause-ran_on g c running names failed =
    let none = subst (λ (ws : List (String Global)). (running : RunTarget) → IsNamedRun ws running → ⊥) c.deref.ensures.value c.in-None.ensures.none in
    absurd (none running names)

pub returns-in-None-clause-not_run : goal.returns-in-None-clause-not_run
returns-in-None-clause-not_run g c running names faulty =
    let none = subst (λ (ws : List (String Global)). (running : RunTarget) → IsNamedRun ws running → ⊥) c.deref.ensures.value c.in-None.ensures.none in
    absurd (none running names)

pub returns-in-None-clause-stopped : goal.returns-in-None-clause-stopped
returns-in-None-clause-stopped g c running names e =
    let none = subst (λ (ws : List (String Global)). (running : RunTarget) → IsNamedRun ws running → ⊥) c.deref.ensures.value c.in-None.ensures.none in
    absurd (none running names)

pub returns-in-None-clause-unopened : goal.returns-in-None-clause-unopened
returns-in-None-clause-unopened g c running names e =
    let none = subst (λ (ws : List (String Global)). (running : RunTarget) → IsNamedRun ws running → ⊥) c.deref.ensures.value c.in-None.ensures.none in
    absurd (none running names)

pub returns-in-None-clause-never_run : goal.returns-in-None-clause-never_run
returns-in-None-clause-never_run g c running text names is fault =
    let none = subst (λ (ws : List (String Global)). (running : RunTarget) → IsNamedRun ws running → ⊥) c.deref.ensures.value c.in-None.ensures.none in
    absurd (none running names)

pub returns-in-None-clause-drilled : goal.returns-in-None-clause-drilled
returns-in-None-clause-drilled g c calls names =
    let none = subst (λ (ws : List (String Global)). (running : RunTarget) → IsNamedRun ws running → ⊥) c.deref.ensures.value c.in-None.ensures.none in
    absurd (none (Drill calls) names)
