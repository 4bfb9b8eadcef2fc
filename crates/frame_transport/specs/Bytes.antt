-- The bytes of a frame. The format is this project's own.
use Rattle.std.specs.Prelude.{ℕ, List, [], ◌∷◌, ◌++◌, length}
use Rattle.byteorder.specs.Endian.{big_bytes}

-- the length of the payload, the kind, the version, the method, the connection and the number, each
-- number big-endian
unfoldable pub header_bytes : ℕ → ℕ → ℕ → ℕ → ℕ → ℕ → List ℕ
header_bytes len kind version method conn number =
    big_bytes 4 len ++ (kind ∷ version ∷ []) ++ big_bytes 2 method ++ big_bytes 4 conn ++ big_bytes 4 number

-- the header, followed by the payload
abbrev pub frame_bytes : ℕ → ℕ → ℕ → ℕ → ℕ → List ℕ → List ℕ
frame_bytes kind version method conn number payload =
    header_bytes (length payload) kind version method conn number ++ payload
