-- The programs of clients.
use Rattle.std.proofs.Common.{◌≡◌, ℕ, ◌+◌, ◌*◌, ◌≤◌, All, List, [], ◌∷◌, length, refl, ◌∙◌, arith}
use Rattle.std.specs.List.{flat_map, range_with_len}
use Rattle.std.proofs.lemmas.List.Elements.{All-nil, All-cons}
use Rattle.std.proofs.lemmas.List.FromFn.{length-range_with_len}
use Rattle.app_program.specs.declared.program.ProgramLine.{ProgramLine}
use Rattle.app_program.specs.declared.program.ProgramLine.TheVariants.{Store, Submit}
use Rattle.app_program.specs.Programs.{IsClientLine, IsClientProgram, program_stores, program_submits}
use Rattle.drill.specs.Drill.{address, client_call_lines, program, value}

lines-each : (calls client : ℕ) (ks : List ℕ) → All (IsClientLine 64) (flat_map (client_call_lines calls client) ks)
lines-each calls client [] = All-nil (IsClientLine 64)
lines-each calls client (k ∷ ks) =
    let more : List ProgramLine = flat_map (client_call_lines calls client) ks in
    All-cons (IsClientLine 64) (Store (address k) (value calls client k)) (Submit 0 (address k) ∷ more)
    (record { from_one = omega arith; in_heap = omega arith })
    (All-cons (IsClientLine 64) (Submit 0 (address k)) more tt (lines-each calls client ks))

lines-long : (calls client : ℕ) (ks : List ℕ) → length (flat_map (client_call_lines calls client) ks) ≡ 2 * length ks
lines-long calls client [] = refl
lines-long calls client (k ∷ ks) = let rest = lines-long calls client ks in omega (arith, rest)

stores-long : (calls client : ℕ) (ks : List ℕ) → length (program_stores (flat_map (client_call_lines calls client) ks)) ≡ length ks
stores-long calls client [] = refl
stores-long calls client (k ∷ ks) = let rest = stores-long calls client ks in omega (arith, rest)

submits-long : (calls client made : ℕ) (ks : List ℕ)
    → length (program_submits made (flat_map (client_call_lines calls client) ks)) ≡ length ks
submits-long calls client made [] = refl
submits-long calls client made (k ∷ ks) = let rest = submits-long calls client (made + 1 + 0) ks in omega (arith, rest)

pub is-program : (calls client : ℕ) → calls ≤ 2048 → IsClientProgram 64 (program calls client)
is-program calls client few =
    let ks : List ℕ = range_with_len 1 calls in
    let many : length ks ≡ calls = length-range_with_len 1 calls in
    record {
      each = lines-each calls client ks;
      stores = omega (arith, stores-long calls client ks, many);
      few = omega (arith, lines-long calls client ks, many);
    }

pub submits-in : (calls client : ℕ) → length (program_submits 0 (program calls client)) ≡ calls
submits-in calls client = submits-long calls client 0 (range_with_len 1 calls) ∙ length-range_with_len 1 calls
