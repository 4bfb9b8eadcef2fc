use Rattle.std.proofs.Common.{subst}
use Rattle.chain_upgrade.specs.Chains.{ChainParts, IsChainState}
use Rattle.chain_upgrade.proofs.Keeping.{is-standing}
use Rattle.chain_upgrade.proofs.chain.Chain.is_chain_state.Goals as goal

pub returns : goal.returns
returns c = subst (λ (chain : ChainParts). IsChainState chain) c.self.view_is (is-standing _ _ _ _ _ c.self.invariant.0)
