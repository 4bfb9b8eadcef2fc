-- Worked by hand: the events that the records of a small history mean.
use Rattle.std.proofs.Common.{◌≡◌, List, [], ◌∷◌, codes, map, refl, reverse, arith}
use Rattle.engine_core.specs.declared.op.Op.{Op as Step}
use Rattle.engine_core.specs.declared.op.Op.TheVariants.{Attach, Detach, Upgrade}
use Rattle.engine_core.specs.declared.policy.Policy.TheVariants.{Access}
use Rattle.call_history.specs.Records.{HasValidReferences, event_of_record}
use Rattle.call_history.specs.declared.happening.Cause.TheVariants as cause
use Rattle.call_history.specs.declared.happening.Happening.TheVariants as what
use Rattle.call_history.specs.declared.record.HistoryRecord.{HistoryRecord}
use Rattle.call_history.specs.declared.record.HistoryRecord.TheVariants.{Took, Op, Charged, Sent, Refused}
use Rattle.call_history.specs.declared.record.RecordedCause.TheVariants as by
use Rattle.call_history.proofs.Rows.{with_number, request, acl, rl, no150, opening, but_150, holding, call_150, upgraded_before}

abbrev steps : List Step
steps = Attach 0 acl (codes "p1") opening ∷ Attach 1 rl rl (holding 2) ∷ Upgrade acl (codes "p2") (Access but_150) ∷ Detach acl ∷ []

abbrev records : List HistoryRecord
records =
    Op 0 ∷ Op 1 ∷ Took call_150 ∷ Took (request 2 2 1 (with_number 7)) ∷ Charged 1 1 1000 ∷ Charged 2 1 0 ∷ Op 2 ∷ Refused 1 (by.Access 2 2 0) ∷ Sent 2 18 ∷ []

told-upgraded : map (event_of_record steps) records ≡ reverse (what.Sent 2 18 ∷ what.Refused 1 (cause.Access acl 2 no150) ∷ upgraded_before)
told-upgraded = refl

-- the index after the last rule means the default
told-default : event_of_record steps (Refused 1 (by.Access 2 2 1)) ≡ what.Refused 1 (cause.Access acl 2 (codes "default"))
told-default = refl

-- a refusal names a rule of the policy that an operation sets, or its default; no later index is one, and a
-- policy without rules has none
named-rule : HasValidReferences steps (Refused 1 (by.Access 2 2 0))
named-rule = (omega arith, omega arith)

named-default : HasValidReferences steps (Refused 1 (by.Access 2 2 1))
named-default = (omega arith, omega arith)

not-named-behind : HasValidReferences steps (Refused 1 (by.Access 2 2 2)) → ⊥
not-named-behind named = absurd (omega (arith, named.1))

not-named-kind : HasValidReferences steps (Refused 1 (by.Access 1 2 0)) → ⊥
not-named-kind named = named.1

told-rate : event_of_record steps (Refused 2 (by.Rate 1 0 1000)) ≡ what.Refused 2 (cause.Rate rl 0 1000)
told-rate = refl

told-detached : event_of_record steps (Op 3) ≡ what.Op (Detach acl)
told-detached = refl
