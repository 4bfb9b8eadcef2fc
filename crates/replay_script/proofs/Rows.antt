-- The definitions, evaluated on small scripts that were worked out by hand.
use Rattle.std.proofs.Common.{◌≡◌, ℕ, ◌^◌, List, [], ◌∷◌, ◌++◌, codes, Option, Some, None, refl}
use Rattle.mrpc_table.specs.Lines.{words_of}
use Rattle.mrpc_table.specs.declared.words.Decimal.TheVariants.{Small, Large}
use Rattle.engine_core.specs.Chains.{Entry}
use Rattle.engine_core.specs.declared.policy.Policy.{Policy}
use Rattle.engine_core.specs.declared.policy.Policy.TheVariants as policy
use Rattle.policy_declarations.specs.Declarations.{Declared}
use Rattle.policy_declarations.specs.declared.declaration.NamedPolicy.{NamedPolicy}
use Rattle.script_grammar.specs.Forms.{form_in}
use Rattle.script_grammar.specs.WordKinds.{word, number, unbounded, name}
use Rattle.script_grammar.specs.declared.form.LineForm.TheVariants as form
use Rattle.script_grammar.specs.declared.keyword.Keyword.TheVariants as key
use Rattle.script_grammar.specs.declared.fault.ScriptReason.{ScriptReason}
use Rattle.script_grammar.specs.declared.fault.ScriptReason.TheVariants.{Known, Unknown, Place, NoSuch, Taken, At, ChainFull, OtherKind, Work}
use Rattle.replay_script.specs.Deciding.{reason_after}
use Rattle.replay_script.specs.Lines.{heap_of, chain_after_lines, submissions}
use Rattle.replay_script.specs.Words.{line_in}
use Rattle.replay_script.specs.declared.script.ScriptLine.{ScriptLine}
use Rattle.replay_script.specs.declared.script.ScriptLine.TheVariants as line

-- two counts, three quotas of three tenants, and a count
abbrev acl : Policy
acl = policy.Count

abbrev rl : Policy
rl = policy.Quota 2 1000 1

abbrev named : List ℕ → Policy → NamedPolicy
named n p = record { name = n; policy = p }

abbrev policies : List NamedPolicy
policies =
    named (codes "p1") acl ∷ named (codes "p2") acl ∷ named (codes "rl") rl ∷ named (codes "q") (policy.Quota 0 1000 1)
    ∷ named (codes "r") (policy.Quota 1 1000 1) ∷ named (codes "c") policy.Count ∷ []

abbrev declared : Declared
declared = record { tenants = []; policies = policies }

-- the same call is submitted twice after two attachments, and the first is upgraded
abbrev upgrading : List ScriptLine
upgrading =
    line.Conn 1 16 ∷ line.Attach 1 0 (codes "acl") 0 ∷ line.Attach 1 1 (codes "rl") 2 ∷ line.Store 1 2 150 ∷ line.Submit 1 0 0 2
    ∷ line.Store 1 2 7 ∷ line.Submit 1 0 0 2 ∷ line.Turn 1 0 ∷ line.Turn 1 0 ∷ line.Turn 1 1 ∷ line.Turn 1 1 ∷ line.Upgrade 1 (codes "acl") 1
    ∷ line.Drain 1 ∷ []

abbrev entry : List ℕ → ℕ → ℕ → Policy → Entry
entry n a v p = record { name = n; attach = a; version = v; policy = p }

two_entries : (chain_after_lines policies upgrading 1).entries ≡ entry (codes "acl") 1 2 acl ∷ entry (codes "rl") 2 1 rl ∷ []
two_entries = refl

other_chain : chain_after_lines policies upgrading 2 ≡ record { entries = []; attached = 0 }
other_chain = refl

two_calls : submissions upgrading ≡ 2
two_calls = refl

heap_there : heap_of upgrading 1 ≡ Some 16
heap_there = refl

no_heap : heap_of upgrading 2 ≡ None
no_heap = refl

detached : (chain_after_lines policies (upgrading ++ line.Detach 1 (codes "acl") ∷ []) 1).entries ≡ entry (codes "rl") 2 1 rl ∷ []
detached = refl

-- ---- the meaning of words

attaches : line_in declared form.Attach (word key.Attach ∷ number 1 ∷ unbounded (Small 0) ∷ name (codes "acl") ∷ name (codes "p2") ∷ []) ≡ Some (line.Attach 1 0 (codes "acl") 1)
attaches = refl

attaches_nothing : line_in declared form.Attach (word key.Attach ∷ number 1 ∷ unbounded (Small 0) ∷ name (codes "acl") ∷ name (codes "p3") ∷ []) ≡ None
attaches_nothing = refl

replies : line_in declared form.Reply (word key.Submit ∷ number 1 ∷ number 9 ∷ number 2 ∷ number 7 ∷ []) ≡ Some (line.Submit 1 9 7 2)
replies = refl

stores_far : line_in declared form.Store (word key.Store ∷ number 1 ∷ unbounded Large ∷ number 7 ∷ []) ≡ Some (line.Store 1 (2 ^ 64) 7)
stores_far = refl

attach_form : form_in (words_of (codes "attach 1 0 acl p1")) ≡ Some form.Attach
attach_form = refl

-- ---- one faulty line for each reason, after the lines above; loads 1024

abbrev first : ScriptLine → Option ScriptReason
first l = reason_after 1024 policies upgrading l

known : first (line.Conn 1 16) ≡ Some Known
known = refl

opens : first (line.Conn 2 16) ≡ None
opens = refl

unknown : first (line.Drain 2) ≡ Some Unknown
unknown = refl

place_zero : first (line.Store 1 0 7) ≡ Some Place
place_zero = refl

last_place : first (line.Store 1 15 7) ≡ None
last_place = refl

past_last : first (line.Store 1 16 7) ≡ Some Place
past_last = refl

load_zero : first (line.Race 1 0 2 7) ≡ Some Place
load_zero = refl

first_load : first (line.Race 1 1 2 7) ≡ None
first_load = refl

no_such : first (line.Detach 1 (codes "q")) ≡ Some NoSuch
no_such = refl

no_such_upgrade : first (line.Upgrade 1 (codes "q") 3) ≡ Some NoSuch
no_such_upgrade = refl

taken : first (line.Attach 1 9 (codes "acl") 0) ≡ Some Taken
taken = refl

at_past : first (line.Attach 1 3 (codes "q") 3) ≡ Some At
at_past = refl

at_end : first (line.Attach 1 2 (codes "q") 3) ≡ None
at_end = refl

no_engine : first (line.Turn 1 2) ≡ Some At
no_engine = refl

last_engine : first (line.Turn 1 1) ≡ None
last_engine = refl

other_kind : first (line.Upgrade 1 (codes "rl") 0) ≡ Some OtherKind
other_kind = refl

same_kind : first (line.Upgrade 1 (codes "acl") 0) ≡ None
same_kind = refl

abbrev eight : List ScriptLine
eight =
    line.Conn 1 16 ∷ line.Attach 1 0 (codes "a") 0 ∷ line.Attach 1 0 (codes "b") 1 ∷ line.Attach 1 0 (codes "d") 2 ∷ line.Attach 1 0 (codes "e") 3
    ∷ line.Attach 1 0 (codes "f") 4 ∷ line.Attach 1 0 (codes "g") 5 ∷ line.Attach 1 0 (codes "h") 5 ∷ line.Attach 1 0 (codes "i") 5 ∷ []

full : reason_after 1024 policies eight (line.Attach 1 8 (codes "j") 0) ≡ Some ChainFull
full = refl

full_and_past : reason_after 1024 policies eight (line.Attach 1 9 (codes "j") 0) ≡ Some At
full_and_past = refl

other_tenant : reason_after 1024 policies eight (line.Upgrade 1 (codes "e") 4) ≡ Some OtherKind
other_tenant = refl

-- two calls of 16384 words are fewer than 16777216, three of 8388608 aren't
work : reason_after 8388608 policies upgrading (line.Submit 1 0 0 2) ≡ Some Work
work = refl

much : reason_after 5592405 policies upgrading (line.Submit 1 0 0 2) ≡ None
much = refl
