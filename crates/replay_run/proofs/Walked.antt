-- How a run goes through the lines of its script.
use Rattle.std.proofs.Common.{◌≡◌, ℕ, ◌+◌, ◌<◌, List, [], ◌∷◌, ◌++◌, drop, get_or, length, take, sym, ap, ◌∙◌, subst, take-append-drop, drop-cons, add-one}
use Rattle.std.specs.Prelude.{Err, Option}
use Rattle.std.proofs.lemmas.List.{take_more}
use Rattle.mrpc_base.specs.Quota.{Counters}
use Rattle.replay_script.specs.declared.script.ScriptLine.{ScriptLine}
use Rattle.replay_script.specs.declared.script.Script.{Script}
use Rattle.replay_run.specs.Kept.{HasRunSomeLines, IsRunBefore, OnRan}
use Rattle.replay_run.specs.declared.connection.RunConnection.{RunConnection}
use Rattle.replay_run.specs.declared.replay_error.ReplayError.{ReplayError}
use Rattle.replay_run.specs.declared.replay_error.ReplayError.TheVariants.{Memory, Out, Wire}

-- the line at an index, with those before it and those after it
pub split : (lines : List ScriptLine) (index : ℕ) (l : ScriptLine) → index < length lines → l ≡ get_or lines index l
    → lines ≡ take index lines ++ l ∷ drop (index + 1) lines
split lines index l within is =
    sym (take-append-drop index lines)
    ∙ ap (λ rest. take index lines ++ rest) (drop-cons lines index l within)
    ∙ ap (λ n. take index lines ++ get_or lines index l ∷ drop n lines) (sym (add-one index))
    ∙ ap (λ k. take index lines ++ k ∷ drop (index + 1) lines) (sym is)

abbrev pub before-line : (s : Script) (items : List ScriptLine) (index : ℕ) (l : ScriptLine) (cs : List RunConnection) (quotas : Counters)
    (out out' wire wire' : Option (List ℕ)) → items ≡ s.lines → index < length items → l ≡ get_or items index l
    → HasRunSomeLines s (take index s.lines) cs quotas out out' wire wire' → IsRunBefore s l cs quotas out' wire'
before-line s items index l cs quotas out out' wire wire' are within is after = record {
  lines = take index s.lines;
  others = drop (index + 1) s.lines;
  order = split s.lines index l (subst (λ ls. index < length ls) are within) (subst (λ ls. l ≡ get_or ls index l) are is);
  st = after.0;
  out = out;
  wire = wire;
  ran = after.1;
}

pub one-more : (s : Script) (items : List ScriptLine) (index : ℕ) (l : ScriptLine) → items ≡ s.lines → index < length items
    → l ≡ get_or items index l → take index s.lines ++ l ∷ [] ≡ take (index + 1) s.lines
one-more s items index l are within is =
    ap (λ k. take index s.lines ++ k ∷ []) (subst (λ ls. l ≡ get_or ls index l) are is)
    ∙ sym (take_more s.lines index l (subst (λ ls. index < length ls) are within))

-- a line that wasn't done ends the run
pub ends-run : (stop : ReplayError) (Done Done' Broken Stopped : Type 0) → OnRan {T = Unit {0}} (Err stop) Done Broken Stopped Stopped
    → OnRan {T = Unit {0}} (Err stop) Done' Broken Stopped Stopped
ends-run Wire Done Done' Broken Stopped ran = ran
ends-run Memory Done Done' Broken Stopped ran = ran
ends-run Out Done Done' Broken Stopped ran = ran
