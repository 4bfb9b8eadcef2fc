-- The definitions of the first fault, and of the types of a long text, on small texts.
use Rattle.std.proofs.Common.{◌≡◌, [], ◌∷◌, codes, Some, None, refl}
use Rattle.table_text.specs.Lines.{line_of}
use Rattle.table_text.specs.LineTests.{fault_at_line}
use Rattle.table_text.specs.Reach.{used_in, types_near}
use Rattle.table_text.specs.declared.fault.TableReason.TheVariants.{Syntax, Number, Duplicate, UnknownType, MapKey}

message_passes : fault_at_line (codes "message M\nfield 1 plain uint64 a\nmethod 0 S Get M M\n") 0 ≡ None
unfolding line_of
message_passes = refl

field_passes : fault_at_line (codes "message M\nfield 1 plain uint64 a\nmethod 0 S Get M M\n") 1 ≡ None
unfolding line_of
field_passes = refl

method_passes : fault_at_line (codes "message M\nfield 1 plain uint64 a\nmethod 0 S Get M M\n") 2 ≡ None
unfolding line_of
method_passes = refl

end_passes : fault_at_line (codes "message M\nfield 1 plain uint64 a\nmethod 0 S Get M M\n") 3 ≡ None
unfolding line_of
end_passes = refl

nothing : fault_at_line [] 0 ≡ None
nothing = refl

no_line_feed : fault_at_line (codes "message M") 0 ≡ Some Syntax
no_line_feed = refl

lacks_value : fault_at_line (codes "enum E\n") 1 ≡ Some Syntax
unfolding line_of
lacks_value = refl

lacks_zero : fault_at_line (codes "enum E\nvalue 1 A\nmessage M\n") 2 ≡ Some Number
unfolding line_of
lacks_zero = refl

too_low : fault_at_line (codes "enum E\nvalue -1 A\nvalue -99999999999999999999 B\n") 2 ≡ Some Syntax
unfolding line_of
too_low = refl

too_high : fault_at_line (codes "enum E\nvalue 0 A\nvalue 2147483648 B\n") 2 ≡ Some Number
unfolding line_of
too_high = refl

lowest : fault_at_line (codes "enum E\nvalue -2147483648 A\nvalue 0 B\n") 1 ≡ None
unfolding line_of
lowest = refl

minus_zero : fault_at_line (codes "enum E\nvalue -0 A\n") 1 ≡ Some Syntax
unfolding line_of
minus_zero = refl

twice : fault_at_line (codes "enum E\nvalue 0 A\nvalue 1 A\n") 2 ≡ Some Duplicate
unfolding line_of
twice = refl

unknown : fault_at_line (codes "message M\nfield 1 plain message:N a\n") 1 ≡ Some UnknownType
unfolding line_of
unknown = refl

known_at_fault : fault_at_line (codes "message M\nfield 1 plain message:B a\nmessage B\n") 1 ≡ None
unfolding line_of
known_at_fault = refl

map_key : fault_at_line (codes "message M\nfield 1 map:float uint64 a\n") 1 ≡ Some MapKey
unfolding line_of
map_key = refl

no_kind : fault_at_line (codes "message M\nfield 1 map:fload uint64 a\n") 1 ≡ Some Syntax
unfolding line_of
no_kind = refl

used : used_in (codes "message M" ∷ codes "field 1 map:enum:E message:B a" ∷ codes "value"
    ∷ codes "method 0 S Get M N" ∷ []) ≡ codes "E" ∷ codes "B" ∷ codes "M" ∷ codes "N" ∷ []
unfolding line_of
used = refl

near : types_near (codes "message M" ∷ codes "field 1 plain message:B a" ∷ []) (codes "message A" ∷ codes "message B"
    ∷ codes "enum B" ∷ codes "enum M" ∷ []) ≡ record { enums = codes "B" ∷ []; messages = codes "M" ∷ codes "B" ∷ [] }
unfolding line_of
near = refl
