use Rattle.std.proofs.Common.{◌≡◌, ◌∙◌, ℕ, List, Option, inl, inr, subst, sym}
use Rattle.std.specs.Prelude.{String}
use Rattle.std.specs.declared.alloc.Global.{Global}
use Rattle.mrpc_top.specs.Command.{HasTextFault, IsNamedCommand, of_text}
use Rattle.mrpc_base.specs.WholeInput.{IsAllOf}
use Rattle.mrpc_top.specs.declared.command.Command.{Command}
use Rattle.mrpc_top.specs.Replaying.{HasScriptFault}
use Rattle.mrpc_top.proofs.Complete.{done-or-short, one-command, past-limit, refused-faulty}
use Rattle.mrpc_top.proofs.Commands.{stops-of}
use Rattle.mrpc_top.proofs.Replays.{fault_of_whole, is_replay}
use Rattle.mrpc_top.proofs.command.run_still.Goals as goal

pub returns-in-Whole-clause-sound_alone : goal.returns-in-Whole-clause-sound_alone
returns-in-Whole-clause-sound_alone g c text replays is fault =
    let named = subst (λ (ws : List (String Global)). IsNamedCommand ws c.in-Some.command) c.deref.ensures.value c.in-Some.ensures.some in
    let whole = fault_of_whole (g.S.Source.left c.args.input.now) c.in-Whole.text.items text c.in-Whole.ensures.whole.0
    c.in-Whole.ensures.whole.1 is fault in
    c.run.ensures.sound_alone (is_replay c.args.words.now.items c.in-Some.command named replays)
    (subst (λ (t : List ℕ). HasScriptFault t) (sym c.deref-in-Whole.ensures.value) whole)

pub returns-in-Whole-clause-cut_short : goal.returns-in-Whole-clause-cut_short
returns-in-Whole-clause-cut_short g c command names e =
    let named = subst (λ (ws : List (String Global)). IsNamedCommand ws c.in-Some.command) c.deref.ensures.value c.in-Some.ensures.some in
    let same : c.in-Some.command ≡ command = one-command c.args.words.now.items c.in-Some.command command named names in
    of_text c.in-Whole.text.items (record { all = c.in-Whole.ensures.whole.1; short = c.in-Whole.ensures.whole.0 })
    (stops-of _ _ _ _ _ _ _ _ same c.deref-in-Whole.ensures.value (c.run.ensures.cut_short e))

pub returns-in-Whole-clause-complete : goal.returns-in-Whole-clause-complete
returns-in-Whole-clause-complete g c command text names is sound reads writes sends =
    let named = subst (λ (ws : List (String Global)). IsNamedCommand ws c.in-Some.command) c.deref.ensures.value c.in-Some.ensures.some in
    let same : c.in-Some.command ≡ command = one-command c.args.words.now.items c.in-Some.command command named names in
    let whole : text ≡ c.in-Whole.text.items =
    subst (λ (l : Option (List ℕ)). IsAllOf l c.in-Whole.text.items) is c.in-Whole.ensures.whole.1 in
    done-or-short c.run.result c.run.ensures.statuses c.run.ensures.some.0
    (λ faulty. sound (inr (subst (λ (t : List ℕ). HasTextFault command t) (c.deref-in-Whole.ensures.value ∙ sym whole)
    (subst (λ (k : Command). HasTextFault k c.deref-in-Whole.result.now) same
    (refused-faulty c.in-Some.command _ _ _ (c.run.ensures.faulty faulty))))))
    c.run.ensures.some.1
    (λ failed. writes (c.run.ensures.out_cause.rose failed))
    (λ failed. sends (c.run.ensures.wire_rose failed))

pub returns-in-TooLong-clause-complete : goal.returns-in-TooLong-clause-complete
returns-in-TooLong-clause-complete g c command text names is sound reads writes sends =
    absurd (sound (inl (past-limit _ _ text (c.in-TooLong.ensures.too_long cc) is)))

pub returns-in-Failed-clause-complete : goal.returns-in-Failed-clause-complete
returns-in-Failed-clause-complete g c command text names is sound reads writes sends =
    absurd (reads (c.in-Failed.ensures.cause.rose cc))
