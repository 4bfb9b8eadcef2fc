use Rattle.std.proofs.Common.{ℕ, List}
use Rattle.frame_view.specs.Input.{IsInputTextFault}
use Rattle.script_view.specs.Scripts.{HasStop, in_text, in_stream}
use Rattle.script_view.proofs.Making.{WalkLaw, on_fault, if_fault, script_whole}
use Rattle.script_view.proofs.script.script_of.Goals as goal

pub returns-in-Ok-clause-script : goal.returns-in-Ok-clause-script
returns-in-Ok-clause-script c =
    let law : WalkLaw = record { none = c.frames_are_consecutive.ensures.none; one = c.frames_are_consecutive.ensures.one; more = c.frames_are_consecutive.ensures.more; all = c.frames_are_consecutive.ensures.all } in
    script_whole law c.args.text.now c.in-Ok.table c.in-Ok.stream.now c.script_of_stream.result c.in-Ok.ensures.read c.script_of_stream.ensures.script

pub returns-in-Ok-clause-fault : goal.returns-in-Ok-clause-fault
returns-in-Ok-clause-fault c =
    if_fault _ _ c.script_of_stream.result (λ place word is. in_stream c.in-Ok.table c.in-Ok.stream.now c.in-Ok.ensures.read is) c.script_of_stream.ensures.fault

pub returns-in-Err-clause-fault : goal.returns-in-Err-clause-fault
returns-in-Err-clause-fault c =
    let stops : (place : ℕ) (word : List ℕ) → IsInputTextFault c.args.text.now place word → HasStop c.args.text.now place word = λ place word is. in_text is in
    on_fault _ _ _ stops c.in-Err.ensures.fault
