-- The list of line forms: the kinds of their words (this project's own).
use Rattle.std.specs.Prelude.{ℕ, ◌-◌, ◌^◌, List, [], ◌∷◌, Option}
use Rattle.std.specs.List.{find}
use Rattle.mrpc_table.specs.declared.limits.TheConstants.{MIN_HEAP, MAX_HEAP}
use Rattle.script_grammar.specs.Lines.{has_form}
use Rattle.script_grammar.specs.declared.form.LineForm.{LineForm}
use Rattle.script_grammar.specs.declared.form.LineForm.TheVariants as form
use Rattle.script_grammar.specs.declared.keyword.Keyword.TheVariants.{Access, Attach, Burst, Cap, Close, Conn, Count, Deny, Detach, Drain, Hold, Moment, Per, Policy, Quota, Race, Rate, Redact, Send, Store, Submit, Tenant, Turn, Upgrade}
use Rattle.script_grammar.specs.declared.word_kind.WordKind.{WordKind}
use Rattle.script_grammar.specs.declared.word_kind.WordKind.TheVariants.{Key, Fixed, Either, Number, Unbounded, Value, Name}

-- ---- ranges of numbers

-- the number of a connection
abbrev pub conn_kind : WordKind
conn_kind = Number 1 16

-- any 64-bit number
abbrev pub number_kind : WordKind
number_kind = Number 0 (2 ^ 64 - 1)

abbrev pub method_kind : WordKind
method_kind = Number 0 65535

-- the number of the request that a reply answers
abbrev pub request_kind : WordKind
request_kind = Number 1 (2 ^ 32 - 1)

-- a timestamp in milliseconds
abbrev pub timestamp_kind : WordKind
timestamp_kind = Number 0 (2 ^ 53)

-- the size of a heap, in words
abbrev pub heap_kind : WordKind
heap_kind = Number MIN_HEAP MAX_HEAP

-- the length of a window or a period, in milliseconds
abbrev pub milliseconds_kind : WordKind
milliseconds_kind = Number 1 86400000

-- calls of a rate, and of its burst
abbrev pub calls_kind : WordKind
calls_kind = Number 1 1000000

-- the cap of a quota: how many tickets it allows
abbrev pub cap_kind : WordKind
cap_kind = Number 0 (2 ^ 32 - 1)

-- ---- the forms

-- places and positions are numbers of any size, because earlier lines determine their ranges
abbrev pub word_kinds_of : LineForm → List WordKind
word_kinds_of form.Store = Key Store ∷ conn_kind ∷ Unbounded ∷ Value ∷ []
word_kinds_of form.Submit = Key Submit ∷ conn_kind ∷ method_kind ∷ number_kind ∷ []
word_kinds_of form.Reply = Key Submit ∷ conn_kind ∷ method_kind ∷ number_kind ∷ request_kind ∷ []
word_kinds_of form.Race = Key Race ∷ conn_kind ∷ number_kind ∷ Unbounded ∷ Value ∷ []
word_kinds_of form.Turn = Key Turn ∷ conn_kind ∷ Unbounded ∷ []
word_kinds_of form.Send = Key Send ∷ conn_kind ∷ []
word_kinds_of form.Drain = Key Drain ∷ conn_kind ∷ []
word_kinds_of form.Moment = Key Moment ∷ conn_kind ∷ timestamp_kind ∷ []
word_kinds_of form.Attach = Key Attach ∷ conn_kind ∷ Unbounded ∷ Name ∷ Name ∷ []
word_kinds_of form.Detach = Key Detach ∷ conn_kind ∷ Name ∷ []
word_kinds_of form.Upgrade = Key Upgrade ∷ conn_kind ∷ Name ∷ Name ∷ []
word_kinds_of form.Conn = Key Conn ∷ conn_kind ∷ heap_kind ∷ []
word_kinds_of form.Tenant = Key Tenant ∷ Name ∷ milliseconds_kind ∷ []
word_kinds_of form.Access = Key Policy ∷ Name ∷ Key Access ∷ []
word_kinds_of form.Rate = Key Policy ∷ Name ∷ Key Rate ∷ calls_kind ∷ Fixed Per ∷ milliseconds_kind ∷ Fixed Burst ∷ calls_kind ∷ Either Hold Deny ∷ []
word_kinds_of form.Quota = Key Policy ∷ Name ∷ Key Quota ∷ Name ∷ Fixed Cap ∷ cap_kind ∷ []
word_kinds_of form.Count = Key Policy ∷ Name ∷ Key Count ∷ []
word_kinds_of form.Redact = Key Policy ∷ Name ∷ Key Redact ∷ []
word_kinds_of form.Close = Key Close ∷ []

abbrev pub all_forms : List LineForm
all_forms =
    form.Store ∷ form.Submit ∷ form.Reply ∷ form.Race ∷ form.Turn ∷ form.Send ∷ form.Drain ∷ form.Moment ∷ form.Attach
    ∷ form.Detach ∷ form.Upgrade ∷ form.Conn ∷ form.Tenant ∷ form.Access ∷ form.Rate ∷ form.Quota ∷ form.Count
    ∷ form.Redact ∷ form.Close ∷ []

-- the form of a line with these words; none if they fit no form
abbrev pub form_in : List (List ℕ) → Option LineForm
form_in words = find (λ f. has_form (word_kinds_of f) words) all_forms
