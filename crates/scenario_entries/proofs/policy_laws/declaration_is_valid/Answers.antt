use Rattle.scenario_entries.proofs.Sound.{declared_read, declared_sound, declared_windows}
use Rattle.scenario_entries.proofs.policy_laws.declaration_is_valid.Goals as goal

pub returns-clause-sound : goal.returns-clause-sound
returns-clause-sound c = λ T tenants entries d none free told says. declared_sound T tenants entries d none free told says

pub returns-clause-read : goal.returns-clause-read
returns-clause-read c = λ T tenants entries d none free told says. declared_read T tenants entries d none free told says

pub returns-clause-windows : goal.returns-clause-windows
returns-clause-windows c = λ T tenants entries d none free told says. declared_windows T tenants entries d none free told says
