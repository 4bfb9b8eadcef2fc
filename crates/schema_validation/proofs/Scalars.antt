-- The look-up of a scalar's name agrees with the definition.
use Rattle.std.proofs.Common.{◌≡◌, true, false, ℕ, List, refl, sym, ◌∙◌, subst}
use Rattle.std.specs.Prelude.{Some, None}
use Rattle.std.proofs.lemmas.Bool.{false≢true}
use Rattle.std.proofs.lemmas.Option.{same_Some, none-some}
use Rattle.mrpc_table.specs.Scalars.{no_table, scalar_of}
use Rattle.mrpc_table.specs.Text.{kind_text}
use Rattle.mrpc_table.specs.declared.table.Kind.{Kind}
use Rattle.mrpc_table.specs.declared.table.Kind.TheVariants.{Int32, Int64, Uint32, Uint64, Sint32, Sint64}
use Rattle.mrpc_table.specs.declared.table.Kind.TheVariants.{Bool as TheBool, Fixed32, Fixed64, Sfixed32, Sfixed64}
use Rattle.mrpc_table.specs.declared.table.Kind.TheVariants.{Float, Double, Text, Octets, Message, Choice}
use Rattle.schema_validation.specs.Types.{is_scalar, IsScalar, IsNoScalar}

known : (k : Kind) → is_scalar k ≡ true → scalar_of (kind_text no_table k) ≡ Some k
known Int32 e = refl
known Int64 e = refl
known Uint32 e = refl
known Uint64 e = refl
known Sint32 e = refl
known Sint64 e = refl
known TheBool e = refl
known Fixed32 e = refl
known Fixed64 e = refl
known Sfixed32 e = refl
known Sfixed64 e = refl
known Float e = refl
known Double e = refl
known Text e = refl
known Octets e = refl
known (Message i) e = absurd (false≢true e)
known (Choice i) e = absurd (false≢true e)

pub scalar_found : (name : List ℕ) (k : Kind) → IsScalar name k → scalar_of name ≡ Some k
scalar_found name k s = subst (λ (n : List ℕ). scalar_of n ≡ Some k) s.named (known k s.is_one)

pub no_scalar : (name : List ℕ) → scalar_of name ≡ None → IsNoScalar name
no_scalar name e k s = none-some k (sym e ∙ scalar_found name k s)

-- at most one scalar has a name
pub scalar_one : (name : List ℕ) (j k : Kind) → IsScalar name j → IsScalar name k → j ≡ k
scalar_one name j k a b = same_Some j k (sym (scalar_found name j a) ∙ scalar_found name k b)
