pub mod OnePackage
