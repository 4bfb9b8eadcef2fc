-- When the marks of a call are true for an entry.
use Rattle.std.proofs.Common.{◌≡◌, ◌+◌, false, true, None, refl, arith}
use Rattle.engine_core.specs.Chains.{Entry, upgraded}
use Rattle.engine_core.specs.Answers.{Past, nothing}
use Rattle.engine_core.specs.Marks.{PendingCall, IsSilent, IsTrueFor, note_of, past_of}
use Rattle.engine_core.specs.Policies.{is_same_kind}
use Rattle.engine_core.specs.declared.policy.Policy.{Policy}
use Rattle.engine_core.specs.declared.policy.Policy.TheVariants.{Access, Rate, Quota, Count, Redact}

nothing-silent : (policy : Policy) → IsSilent policy nothing
nothing-silent (Access p) = refl
nothing-silent (Rate r) = tt
nothing-silent (Quota t per cap) = tt
nothing-silent Count = tt
nothing-silent (Redact clears) = tt

no_mark : {X : Type 0} → false ≡ true → X
no_mark impossible = absurd cc

-- if there is no mark of its attachment
pub unmarked-true : (e : Entry) (s : PendingCall) → note_of s.marks e.attach ≡ None → IsTrueFor e s
unmarked-true e s none = record {
  silent = rw none (nothing-silent e.policy);
  present = λ v is. no_mark (rw none at is);
  allowing = λ is. no_mark (rw none at is);
}

silent-under : (old new : Policy) (past : Past) → is_same_kind old new ≡ true → IsSilent old past → IsSilent new past
silent-under (Access p) (Access q) past kind silent = silent
silent-under (Rate r) (Access q) past kind silent = no_mark kind
silent-under (Quota t per cap) (Access q) past kind silent = no_mark kind
silent-under Count (Access q) past kind silent = no_mark kind
silent-under (Redact clears) (Access q) past kind silent = no_mark kind
silent-under old (Rate r) past kind silent = tt
silent-under old (Quota t per cap) past kind silent = tt
silent-under old Count past kind silent = tt
silent-under old (Redact clears) past kind silent = tt

-- after an upgrade, since no mark has the new version
pub upgraded-true : (e : Entry) (policy : Policy) (s : PendingCall) → is_same_kind e.policy policy ≡ true → IsTrueFor e s → IsTrueFor (upgraded e policy) s
upgraded-true e policy s kind h = record {
  silent = silent-under e.policy policy (past_of s.marks e.attach) kind h.silent;
  present = λ v is. omega (arith, h.present v is);
  allowing = λ is. absurd (omega (arith, h.present (e.version + 1) is));
}
