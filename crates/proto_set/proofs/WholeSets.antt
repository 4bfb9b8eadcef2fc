-- What the reader returns for an input that is the text of files, and for one that breaks off.
use Rattle.std.proofs.Common.{◌≡◌, ◌≢◌, ℕ, List, refl, ap, Ok, Err, Result}
use Rattle.std.specs.Prelude.{IfOk, IfErr, MatchResult}
use Rattle.std.specs.Global.{Vec}
use Rattle.proto_set.specs.Named.{files_of}
use Rattle.proto_set.specs.declared.named.Named.{Named}
use Rattle.proto_set.specs.Bundle.{BundledFile, IsBundleOf}
use Rattle.proto_set.specs.BundleFaults.{IsBundleFault, IsFaultOf}
use Rattle.proto_set.specs.declared.bundle_fault.BundleFault.{BundleFault}
use Rattle.proto_set.specs.declared.bundle_fault.BundleFault.TheVariants.{Bundle, Memory}
use Rattle.proto_set.proofs.Fronts.{spells_once, never_both, breaks_once}

pub memory_alone : (input : List ℕ) (files : List BundledFile) (fault : BundleFault) → IsBundleOf input files → IsFaultOf input fault → fault ≡ Memory
memory_alone input files (Bundle k) s b = absurd (never_both input files k s b)
memory_alone input files Memory s b = refl

pub first_found : (input : List ℕ) (k : ℕ) (fault : BundleFault) → IsBundleFault input k → IsFaultOf input fault → fault ≢ Memory → fault ≡ Bundle k
first_found input k (Bundle j) f b other = ap Bundle (breaks_once input j k b f)
first_found input k Memory f b other = absurd (other refl)

pub only_spelled : (input : List ℕ) (files : List BundledFile) (r : Result (Vec Named) BundleFault) → IsBundleOf input files
    → IfOk r (λ (read : Vec Named). IsBundleOf input (files_of read.items)) → IfErr r (IsFaultOf input)
    → MatchResult r (λ (read : Vec Named). files_of read.items ≡ files) (λ fault. fault ≡ Memory)
only_spelled input files (Ok v) s read fault = spells_once input (files_of v.items) files read s
only_spelled input files (Err e) s read fault = memory_alone input files e s fault

pub found_first : (input : List ℕ) (k : ℕ) (r : Result (Vec Named) BundleFault) → IsBundleFault input k
    → IfOk r (λ (read : Vec Named). IsBundleOf input (files_of read.items)) → IfErr r (IsFaultOf input)
    → MatchResult r (λ (_ : Vec Named). ⊥) (λ fault. fault ≢ Memory → fault ≡ Bundle k)
found_first input k (Ok v) f read fault = never_both input (files_of v.items) k read f
found_first input k (Err e) f read fault = first_found input k e f fault
