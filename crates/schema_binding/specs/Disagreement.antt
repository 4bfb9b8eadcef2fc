-- The code's own: the results of the parts of an agreement that find a difference.
use Rattle.std.specs.Prelude.{◌≡◌, ℕ, List, Option}
use Rattle.mrpc_table.specs.Text.{table_text}
use Rattle.mrpc_table.specs.declared.table.Table.{Table}
use Rattle.schema_binding.specs.Agreement.{methods_of, AreFirstDifferentAt, IsFirstDifference}
use Rattle.schema_binding.specs.declared.fault.AgreeFault.{AgreeFault}
use Rattle.schema_binding.specs.declared.fault.AgreeFault.TheVariants.{Mismatch, Methods, Field}

-- two lists first differ at this index
abbrev pub AreFirstDifferentFrom : {X : Type 0} → List X → List X → ℕ → Type 0
AreFirstDifferentFrom {X} xs ys at = (x : Option X) × (y : Option X) × AreFirstDifferentAt xs ys at x y

-- the texts first differ at this byte
abbrev pub HaveDifferentTexts : Table → Table → AgreeFault → Type 0
HaveDifferentTexts T U fault =
    (byte : ℕ) × (ours : Option ℕ) × (theirs : Option ℕ)
    × AreFirstDifferentAt (table_text T) (table_text U) byte ours theirs
    × (fault ≡ Mismatch byte ours theirs)

-- the methods first differ at this index
abbrev pub HaveDifferentMethods : Table → Table → List ℕ → AgreeFault → Type 0
HaveDifferentMethods T U service fault =
    (at : ℕ) × AreFirstDifferentFrom (methods_of T service) (methods_of U service) at × (fault ≡ Methods at)

-- this field is the least that differs
abbrev pub HaveDifferentFields : Table → Table → List ℕ → AgreeFault → Type 0
HaveDifferentFields T U service fault = (type : List ℕ) × (number : ℕ) × IsFirstDifference T U service type number
    × (fault ≡ Field type number)
