use Rattle.replay_script.proofs.OneScript as one
use Rattle.replay_script.proofs.OneScript.{FrontLaws}
use Rattle.replay_script.proofs.Soundness.{sound_script}
use Rattle.replay_script.proofs.laws.replay_script_or_fault.Goals as goal

pub returns-clause-script : goal.returns-clause-script
returns-clause-script c =
    let fronts = c.preamble_or_fault.ensures in
    let front_laws : FrontLaws = record {
      front = λ first text m n T U x y. fronts.front first text m n T U x y;
      fault = λ first text m n r q. fronts.fault first text m n r q;
      either = λ first text loads T behind line r. fronts.either first text loads T behind line r;
      some = λ first text. fronts.some first text;
    } in
    one.one_script c.word_laws.ensures front_laws

pub returns-clause-fault : goal.returns-clause-fault
returns-clause-fault c =
    let fronts = c.preamble_or_fault.ensures in
    let front_laws : FrontLaws = record {
      front = λ first text m n T U x y. fronts.front first text m n T U x y;
      fault = λ first text m n r q. fronts.fault first text m n r q;
      either = λ first text loads T behind line r. fronts.either first text loads T behind line r;
      some = λ first text. fronts.some first text;
    } in
    one.one_fault c.word_laws.ensures front_laws

pub returns-clause-not_both : goal.returns-clause-not_both
returns-clause-not_both c =
    let fronts = c.preamble_or_fault.ensures in
    let front_laws : FrontLaws = record {
      front = λ first text m n T U x y. fronts.front first text m n T U x y;
      fault = λ first text m n r q. fronts.fault first text m n r q;
      either = λ first text loads T behind line r. fronts.either first text loads T behind line r;
      some = λ first text. fronts.some first text;
    } in
    one.not_both c.word_laws.ensures front_laws

pub returns-clause-either : goal.returns-clause-either
returns-clause-either c =
    let fronts = c.preamble_or_fault.ensures in
    let front_laws : FrontLaws = record {
      front = λ first text m n T U x y. fronts.front first text m n T U x y;
      fault = λ first text m n r q. fronts.fault first text m n r q;
      either = λ first text loads T behind line r. fronts.either first text loads T behind line r;
      some = λ first text. fronts.some first text;
    } in
    one.some_answer c.word_laws.ensures front_laws

pub returns-clause-sound : goal.returns-clause-sound
returns-clause-sound c = sound_script (λ T skips d f line text i x. c.word_laws.ensures.declaration_is_valid T skips d f line text i x)
