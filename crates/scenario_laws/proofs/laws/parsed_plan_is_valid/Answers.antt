use Rattle.scenario_laws.proofs.Alike.{Laws}
use Rattle.scenario_laws.proofs.Sound.{Declaring, said_is_sound}
use Rattle.scenario_laws.proofs.laws.parsed_plan_is_valid.Goals as goal

pub returns-clause-said : goal.returns-clause-said
returns-clause-said c = λ all plan says.
    let laws : Laws = record {
      either = c.change_or_rejection.ensures.either;
      stays = c.change_preserves_chain.ensures;
      only = c.changed_is_the_change.ensures.only;
      unless_refused = c.changed_is_the_change.ensures.unless_refused;
    } in
    let declaring : Declaring = record {
      sound = c.declaration_is_valid.ensures.sound;
      read = c.declaration_is_valid.ensures.read;
      windows = c.declaration_is_valid.ensures.windows;
      own = c.own_schema_is_valid.ensures;
    } in
    said_is_sound laws declaring all plan says

pub returns-clause-sound : goal.returns-clause-sound
returns-clause-sound c = λ text plan is. returns-clause-said c is.all plan is.says
