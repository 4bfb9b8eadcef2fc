-- Facts about parts of a valid table, and about tests.
use Rattle.std.proofs.Common.{◌≡◌, ℕ, suc, ◌+◌, ◌≤◌, ◌&&◌, Bool, true, false, List, [], ◌∷◌, length, refl, arith, inl, inr, IsTrue}
use Rattle.mrpc_table.specs.Words.{is_key}
use Rattle.mrpc_table.specs.Valid.{IsKnown, IsNextOneof, AreOneofsInOrder}
use Rattle.mrpc_table.specs.declared.table.Kind.{Kind}
use Rattle.mrpc_table.specs.declared.table.Kind.TheVariants.{Int32, Int64, Uint32, Uint64, Sint32, Sint64}
use Rattle.mrpc_table.specs.declared.table.Kind.TheVariants.{Bool as TheBool, Fixed32, Fixed64, Sfixed32, Sfixed64}
use Rattle.mrpc_table.specs.declared.table.Kind.TheVariants.{Float, Double, Text, Octets, Message as OfMessage}
use Rattle.mrpc_table.specs.declared.table.Kind.TheVariants.{Choice}
use Rattle.mrpc_table.specs.declared.table.Label.{Label}
use Rattle.mrpc_table.specs.declared.table.Label.TheVariants.{Plain, Optional, Repeated, Packed, Map, Member}
use Rattle.mrpc_table.specs.declared.table.Field.{Field}
use Rattle.mrpc_table.specs.declared.table.Table.{Table}

pub both : (a b : Bool) → a ≡ true → b ≡ true → (a && b) ≡ true
both true true e f = refl
both true false e f = f
both false b e f = e

pub both_left : (a b : Bool) → (a && b) ≡ true → a ≡ true
both_left true b e = refl
both_left false b e = e

pub both_right : (a b : Bool) → (a && b) ≡ true → b ≡ true
both_right true b e = e
both_right false b e = absurd cc

pub key_known : (T : Table) (k : Kind) → IsTrue (is_key k) → IsKnown T k
key_known T Int32 h = tt
key_known T Int64 h = tt
key_known T Uint32 h = tt
key_known T Uint64 h = tt
key_known T Sint32 h = tt
key_known T Sint64 h = tt
key_known T TheBool h = tt
key_known T Fixed32 h = tt
key_known T Fixed64 h = tt
key_known T Sfixed32 h = tt
key_known T Sfixed64 h = tt
key_known T Float h = tt
key_known T Double h = tt
key_known T Text h = tt
key_known T Octets h = tt
key_known T (OfMessage i) h = absurd cc
key_known T (Choice i) h = absurd cc

joined_le : (met all n : ℕ) (l : Label) (Same Next : Type 0) → (Same → all ≤ met + n) → (Next → all ≤ met + 1 + n) → IsNextOneof met l Same Next → all ≤ met + suc n
joined_le met all n Plain Same Next same next h = omega (arith, same h)
joined_le met all n Optional Same Next same next h = omega (arith, same h)
joined_le met all n Repeated Same Next same next h = omega (arith, same h)
joined_le met all n Packed Same Next same next h = omega (arith, same h)
joined_le met all n (Map k) Same Next same next h = omega (arith, same h)
joined_le met all n (Member o) Same Next same next h = elim h [ inl old ↦ omega (arith, same old.1) | inr new ↦ omega (arith, next new.1) ]

pub follow_le : (met all : ℕ) (fs : List Field) → AreOneofsInOrder met all fs → all ≤ met + length fs
follow_le met all [] h = omega (arith, h)
follow_le met all (f ∷ fs) h = joined_le met all (length fs) f.label (AreOneofsInOrder met all fs) (AreOneofsInOrder (met + 1) all fs) (follow_le met all fs) (follow_le (met + 1) all fs) h
