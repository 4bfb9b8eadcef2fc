-- What an application does for the notices that it takes.
use Rattle.std.specs.Prelude.{ℕ, ◌+◌, ◌==◌, nat_lt, List, [], ◌∷◌, ◌++◌, Bool, ◌&&◌, if◌then◌else◌, length, take, flat_map}
use Rattle.descriptor_ring.specs.declared.descriptor.Descriptor.{Descriptor}
use Rattle.app_program.specs.declared.program.ProgramLine.{ProgramLine}
use Rattle.app_program.specs.Programs.{Submission, program_stores, reply_address}

-- a descriptor as a submission
abbrev pub submission_of : Descriptor → Submission
submission_of d = record { method = d.method; number = d.number; addr = d.addr; after = d.stores }

-- whether a notice is of a request, not of a reply
abbrev pub is_request : Descriptor → Bool
is_request d = d.kind == 1

-- whether it is of a request that can be replied to: its number isn't 0
abbrev pub can_be_answered : Descriptor → Bool
can_be_answered d = is_request d && nat_lt 0 d.number

-- the reply to a request, at an address, after `after` stores: it has the request's method and number
abbrev pub reply_to : ℕ → ℕ → Descriptor → Submission
reply_to after addr d = record { method = d.method; number = d.number; addr = addr; after = after }

-- ---- a server

-- the stores of a server for a notice: those of its program, once for each request
abbrev pub served_stores : List ProgramLine → Descriptor → List (ℕ × ℕ)
served_stores lines d = if is_request d then program_stores lines else []

-- its reply, after `after` stores
abbrev pub served_replies : List ProgramLine → ℕ → Descriptor → List Submission
served_replies lines after d = if can_be_answered d then reply_to after (reply_address lines) d ∷ [] else []

-- the stores of a server for some notices, in order
abbrev pub all_served_stores : List ProgramLine → List Descriptor → List (ℕ × ℕ)
all_served_stores lines notices = flat_map (served_stores lines) notices

-- its replies to some notices, in order, after `made` stores
abbrev pub all_served_replies : List ProgramLine → ℕ → List Descriptor → List Submission
all_served_replies lines made [] = []
all_served_replies lines made (d ∷ notices) =
    served_replies lines (made + length (served_stores lines d)) d
    ++ all_served_replies lines (made + length (served_stores lines d)) notices

-- ---- blocks

-- the reclaimed blocks: a prefix of the numbers that arrived, one for each notice that was taken, in order
abbrev pub blocks_of : List Descriptor → List ℕ → List ℕ
blocks_of notices numbers = take (length notices) numbers
