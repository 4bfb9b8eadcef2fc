-- The applications that were read, with one more at a time.
use Rattle.std.proofs.Common.{◌≡◌, ℕ, ◌+◌, List, [], ◌∷◌, ◌++◌, length, sym, ap, ◌∙◌, subst}
use Rattle.std.proofs.lemmas.List.{length-append}
use Rattle.policy_declarations.specs.Declarations.{Declared}
use Rattle.run_plan.specs.declared.application.Application.{Application}
use Rattle.toml.specs.Data.{Members}
use Rattle.scenario_lines.specs.Programs.{Each}
use Rattle.scenario_entries.specs.AppConnections.{IsAppConnectionOf}
use Rattle.scenario_entries.specs.declared.chain.ChainOutline.{ChainOutline}
use Rattle.scenario_entries.specs.declared.link.AppConnection.{AppConnection}
use Rattle.scenario_reader.specs.Joining.{AreJoined, IsApp, IsInitialChain, IsJoined}
use Rattle.scenario_reader.specs.declared.app_context.Apps.{Apps}
use Rattle.scenario_reader.specs.declared.app_context.JoinedApplication.{JoinedApplication}
use Rattle.scenario_reader.proofs.Lists.{each_push}

pub both_longer : (apps more : Apps) (j : JoinedApplication) → length apps.chains.items ≡ length apps.applications
    → more.applications ≡ apps.applications ++ j.app ∷ [] → more.chains.items ≡ apps.chains.items ++ j.chain ∷ []
    → length more.chains.items ≡ length more.applications
both_longer apps more j same applications chains =
    ap (λ (xs : List ChainOutline). length xs) chains ∙ length-append apps.chains.items (j.chain ∷ []) ∙ ap (λ (n : ℕ). n + 1) same
    ∙ sym (ap (λ (xs : List Application). length xs) applications ∙ length-append apps.applications (j.app ∷ []))

module _ (all : Members) (d : Declared) (entries : List Members) (ms : Members) where
  pub joined_more : (apps more : Apps) (j : JoinedApplication) → AreJoined all d entries apps → IsJoined all d entries ms j
      → more.ports.items ≡ apps.ports.items ++ j.port ∷ [] → more.applications ≡ apps.applications ++ j.app ∷ []
      → more.chains.items ≡ apps.chains.items ++ j.chain ∷ [] → AreJoined all d (entries ++ ms ∷ []) more
  joined_more apps more j so_far one ports applications chains = record {
    ports =
        subst (λ (ps : List AppConnection). Each IsAppConnectionOf (entries ++ ms ∷ []) ps) (sym ports)
        (each_push IsAppConnectionOf entries apps.ports.items ms j.port so_far.ports one.port);
    applications =
        subst (λ (xs : List Application). Each (IsApp all d) (entries ++ ms ∷ []) xs) (sym applications)
        (each_push (IsApp all d) entries apps.applications ms j.app so_far.applications one.app);
    chains =
        subst (λ (cs : List ChainOutline). Each (λ m chain. IsInitialChain d.policies m chain.entries.items) (entries ++ ms ∷ []) cs) (sym chains)
        (each_push (λ m chain. IsInitialChain d.policies m chain.entries.items) entries apps.chains.items ms j.chain so_far.chains one.chain);
  }
