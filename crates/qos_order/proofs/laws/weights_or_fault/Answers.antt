use Rattle.qos_order.proofs.Sound.{faults_once, sound_has_none, sound_or_fault}
use Rattle.qos_order.proofs.laws.weights_or_fault.Goals as goal

pub returns : goal.returns
returns c = record { once = faults_once; never_both = sound_has_none; never_neither = sound_or_fault }
