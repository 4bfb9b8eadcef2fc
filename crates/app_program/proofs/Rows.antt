-- Worked by hand: what small programs store, submit and reclaim.
use Rattle.std.proofs.Common.{◌≡◌, ℕ, List, [], ◌∷◌, refl, arith, lit≤, lit<}
use Rattle.std.proofs.lemmas.List.Elements.{All-nil, All-cons}
use Rattle.app_program.specs.declared.program.ProgramLine.{ProgramLine}
use Rattle.app_program.specs.declared.program.ProgramLine.TheVariants.{Store, Spin, Submit, Reclaim, Reply}
use Rattle.app_program.specs.Programs.{Submission, program_stores, program_submits, program_reclaims, reply_address, IsClientLine, IsServerLine, IsClientProgram, IsServerProgram}

abbrev submission : ℕ → ℕ → ℕ → ℕ → Submission
submission method number addr after = record { method = method; number = number; addr = addr; after = after }

-- ---- a client that stores one word and submits it

abbrev one_call : List ProgramLine
one_call = Store 2 150 ∷ Submit 0 2 ∷ []

one_store : program_stores one_call ≡ (2, 150) ∷ []
one_store = refl

one_submission : program_submits 0 one_call ≡ submission 0 0 2 1 ∷ []
one_submission = refl

nothing_back : program_reclaims one_call ≡ []
nothing_back = refl

fits_its_heap : IsClientProgram 64 one_call
fits_its_heap = record {
  each = All-cons (IsClientLine 64) (Store 2 150) (Submit 0 2 ∷ []) (record { from_one = lit≤ tt; in_heap = lit< tt })
      (All-cons (IsClientLine 64) (Submit 0 2) [] tt (All-nil (IsClientLine 64)));
  stores = lit≤ tt;
  few = lit≤ tt;
}

-- ---- a client that spins between two calls, and reclaims blocks that it doesn't have

abbrev two_calls : List ProgramLine
two_calls = Store 2 7 ∷ Submit 0 2 ∷ Spin 2 3 5 6 ∷ Reclaim 9 ∷ Submit 1 4 ∷ Spin 0 3 8 8 ∷ []

five_stores : program_stores two_calls ≡ (2, 7) ∷ (3, 5) ∷ (3, 6) ∷ (3, 5) ∷ (3, 6) ∷ []
five_stores = refl

each_behind_its_stores : program_submits 0 two_calls ≡ submission 0 0 2 1 ∷ submission 1 0 4 5 ∷ []
each_behind_its_stores = refl

one_back : program_reclaims two_calls ≡ 9 ∷ []
one_back = refl

-- a client doesn't reply, and word 0 is reserved
no_reply_of_a_client : IsClientProgram 64 (Reply 2 ∷ []) → ⊥
no_reply_of_a_client p = p.each 0 (Reply 2) (omega arith)

no_store_of_the_first_word : IsClientProgram 64 (Store 0 1 ∷ []) → ⊥
no_store_of_the_first_word p = let h = (p.each 0 (Store 0 1) (omega arith)).from_one in omega (arith, h)

-- ---- a server that stores one word and replies with it

abbrev one_reply : List ProgramLine
one_reply = Store 2 9 ∷ Reply 2 ∷ []

replies_at_its_address : reply_address one_reply ≡ 2
replies_at_its_address = refl

serves_its_heap : IsServerProgram 64 one_reply
serves_its_heap = record {
  front = Store 2 9 ∷ [];
  addr = 2;
  ends = refl;
  each = All-cons (IsServerLine 64) (Store 2 9) [] (record { from_one = lit≤ tt; in_heap = lit< tt }) (All-nil (IsServerLine 64));
  stores = lit≤ tt;
}
