pub mod Chains
pub mod Plans
pub mod Links
