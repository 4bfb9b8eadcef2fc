-- The heaps and chains after one more line of a script.
use Rattle.std.proofs.Common.{◌≡◌, ◌≢◌, ℕ, ◌==◌, Bool, true, false, cond, List, [], ◌∷◌, ◌++◌, refl, ap, ◌∙◌}
use Rattle.std.specs.Prelude.{Option, Some, None}
use Rattle.std.proofs.lemmas.Bool.{eq-eqb, ne_eqb}
use Rattle.engine_core.specs.Chains.{Chain}
use Rattle.policy_declarations.specs.declared.declaration.NamedPolicy.{NamedPolicy}
use Rattle.replay_script.specs.Lines.{chain_after, chain_after_lines, conn_of, chain_after_op, heap_of, is_conn, new_chain, op_in}
use Rattle.replay_script.specs.declared.script.ScriptLine.{ScriptLine}
use Rattle.replay_script.specs.declared.script.ScriptLine.TheVariants as line

-- ---- heaps

if-same : (b : Bool) (first x y : Option ℕ) → x ≡ y → cond b first x ≡ cond b first y
if-same b first x y same = ap (cond b first) same

-- a line that opens no connection with the number leaves its heap unchanged
pub heap-same : (before : List ScriptLine) (l : ScriptLine) (conn : ℕ) → heap_of (l ∷ []) conn ≡ None → heap_of (before ++ l ∷ []) conn ≡ heap_of before conn
heap-same [] l conn none = none
heap-same (line.Conn number size ∷ ls) l conn none = if-same (number == conn) (Some size) (heap_of (ls ++ l ∷ []) conn) (heap_of ls conn) (heap-same ls l conn none)
heap-same (line.Store c place value ∷ ls) l conn none = heap-same ls l conn none
heap-same (line.Race c load place value ∷ ls) l conn none = heap-same ls l conn none
heap-same (line.Submit c method number addr ∷ ls) l conn none = heap-same ls l conn none
heap-same (line.Attach c at name policy ∷ ls) l conn none = heap-same ls l conn none
heap-same (line.Detach c name ∷ ls) l conn none = heap-same ls l conn none
heap-same (line.Upgrade c name policy ∷ ls) l conn none = heap-same ls l conn none
heap-same (line.Moment c ms ∷ ls) l conn none = heap-same ls l conn none
heap-same (line.Turn c at ∷ ls) l conn none = heap-same ls l conn none
heap-same (line.Send c ∷ ls) l conn none = heap-same ls l conn none
heap-same (line.Drain c ∷ ls) l conn none = heap-same ls l conn none

pub opens-other : (number words conn : ℕ) → number ≢ conn → heap_of (line.Conn number words ∷ []) conn ≡ None
opens-other number words conn other = ap (λ b. cond b (Some words) None) (ne_eqb number conn other)

pub opens-none : (l : ScriptLine) (conn : ℕ) → is_conn l ≡ false → heap_of (l ∷ []) conn ≡ None
opens-none (line.Conn number words) conn is = absurd cc
opens-none (line.Store c place value) conn is = refl
opens-none (line.Race c load place value) conn is = refl
opens-none (line.Submit c method number addr) conn is = refl
opens-none (line.Attach c at name policy) conn is = refl
opens-none (line.Detach c name) conn is = refl
opens-none (line.Upgrade c name policy) conn is = refl
opens-none (line.Moment c ms) conn is = refl
opens-none (line.Turn c at) conn is = refl
opens-none (line.Send c) conn is = refl
opens-none (line.Drain c) conn is = refl

-- ---- chains

abbrev chain_with : List NamedPolicy → ScriptLine → ℕ → Chain → Chain
chain_with policies l conn c = cond (conn_of l == conn) (chain_after_op (op_in policies l) c) c

chain-more : (policies : List NamedPolicy) (c : Chain) (before : List ScriptLine) (l : ScriptLine) (conn : ℕ)
    → chain_after policies c (before ++ l ∷ []) conn ≡ chain_with policies l conn (chain_after policies c before conn)
chain-more policies c [] l conn = refl
chain-more policies c (k ∷ ks) l conn = chain-more policies (chain_with policies k conn c) ks l conn

pub chain-own : (policies : List NamedPolicy) (before : List ScriptLine) (l : ScriptLine) (conn : ℕ) → conn_of l ≡ conn
    → chain_after_lines policies (before ++ l ∷ []) conn ≡ chain_after_op (op_in policies l) (chain_after_lines policies before conn)
chain-own policies before l conn own =
    let c : Chain = chain_after_lines policies before conn in
    chain-more policies new_chain before l conn ∙ ap (λ b. cond b (chain_after_op (op_in policies l) c) c) (eq-eqb (conn_of l) conn own)

pub chain-other : (policies : List NamedPolicy) (before : List ScriptLine) (l : ScriptLine) (conn : ℕ) → conn_of l ≢ conn
    → chain_after_lines policies (before ++ l ∷ []) conn ≡ chain_after_lines policies before conn
chain-other policies before l conn other =
    let c : Chain = chain_after_lines policies before conn in
    chain-more policies new_chain before l conn ∙ ap (λ b. cond b (chain_after_op (op_in policies l) c) c) (ne_eqb (conn_of l) conn other)

both-same : (b : Bool) (c : Chain) → cond b c c ≡ c
both-same true c = refl
both-same false c = refl

-- a line that opens a connection leaves all chains unchanged
pub chain-opened : (policies : List NamedPolicy) (before : List ScriptLine) (number words conn : ℕ)
    → chain_after_lines policies (before ++ line.Conn number words ∷ []) conn ≡ chain_after_lines policies before conn
chain-opened policies before number words conn =
    chain-more policies new_chain before (line.Conn number words) conn ∙ both-same (number == conn) (chain_after_lines policies before conn)
