-- Which connections some lines open, each at most once.
use Rattle.std.proofs.Common.{◌≡◌, ◌≢◌, ℕ, cond, List, [], ◌∷◌, ◌++◌, refl, sym, ap, ◌∙◌}
use Rattle.std.specs.Prelude.{Option, Some, None}
use Rattle.std.specs.List.{AllByRecursion}
use Rattle.std.proofs.lemmas.Bool.{eq-eqb, ne_eqb}
use Rattle.engine_core.specs.declared.op.Op.{Op}
use Rattle.policy_declarations.specs.declared.declaration.NamedPolicy.{NamedPolicy}
use Rattle.script_grammar.specs.declared.fault.ScriptReason.TheVariants.{Known}
use Rattle.replay_script.specs.Lines.{heap_of, op_in, IsAllowedAfter, is_open}
use Rattle.replay_script.specs.declared.script.ScriptLine.{ScriptLine}
use Rattle.replay_script.specs.declared.script.ScriptLine.TheVariants.{Conn, Store, Race, Submit, Attach, Detach, Upgrade, Moment, Turn, Send, Drain}

-- the numbers of the connections that they open
abbrev pub openings : List ScriptLine → List ℕ
openings [] = []
openings (Conn conn words ∷ lines) = conn ∷ openings lines
openings (_ ∷ lines) = openings lines

abbrev pub Lacks : ℕ → List ℕ → Type 0
Lacks conn numbers = AllByRecursion (λ n. n ≢ conn) numbers

-- the numbers are distinct
abbrev pub AreApart : List ℕ → Type 0
AreApart [] = Unit {0}
AreApart (n ∷ ns) = AllByRecursion (λ other. other ≢ n) ns × AreApart ns

pub openings-append : (xs ys : List ScriptLine) → openings (xs ++ ys) ≡ openings xs ++ openings ys
openings-append [] ys = refl
openings-append (Conn conn words ∷ xs) ys = ap (λ ns. conn ∷ ns) (openings-append xs ys)
openings-append (Store conn place value ∷ xs) ys = openings-append xs ys
openings-append (Race conn load place value ∷ xs) ys = openings-append xs ys
openings-append (Submit conn method number addr ∷ xs) ys = openings-append xs ys
openings-append (Attach conn at name policy ∷ xs) ys = openings-append xs ys
openings-append (Detach conn name ∷ xs) ys = openings-append xs ys
openings-append (Upgrade conn name policy ∷ xs) ys = openings-append xs ys
openings-append (Moment conn ms ∷ xs) ys = openings-append xs ys
openings-append (Turn conn at ∷ xs) ys = openings-append xs ys
openings-append (Send conn ∷ xs) ys = openings-append xs ys
openings-append (Drain conn ∷ xs) ys = openings-append xs ys

-- an operator's line opens none
pub op-opens-none : (policies : List NamedPolicy) (l : ScriptLine) (step : Op) → op_in policies l ≡ Some step → openings (l ∷ []) ≡ []
op-opens-none policies (Conn conn words) step is = let none : None ≡ Some step = is in cc
op-opens-none policies (Store conn place value) step is = refl
op-opens-none policies (Race conn load place value) step is = refl
op-opens-none policies (Submit conn method number addr) step is = refl
op-opens-none policies (Attach conn at name policy) step is = refl
op-opens-none policies (Detach conn name) step is = refl
op-opens-none policies (Upgrade conn name policy) step is = refl
op-opens-none policies (Moment conn ms) step is = refl
op-opens-none policies (Turn conn at) step is = refl
op-opens-none policies (Send conn) step is = refl
op-opens-none policies (Drain conn) step is = refl

-- ---- a line can open a connection that isn't open

pub lacks-unopened : (lines : List ScriptLine) (conn : ℕ) → heap_of lines conn ≡ None → Lacks conn (openings lines)
lacks-unopened [] conn none = tt
lacks-unopened (Conn number words ∷ lines) conn none =
    let differs : number ≢ conn = λ same. let opened : Some words ≡ None = ap (λ b. cond b (Some words) (heap_of lines conn)) (sym (eq-eqb number conn same)) ∙ none in cc in
    (differs, lacks-unopened lines conn (ap (λ b. cond b (Some words) (heap_of lines conn)) (sym (ne_eqb number conn differs)) ∙ none))
lacks-unopened (Store at place value ∷ lines) conn none = lacks-unopened lines conn none
lacks-unopened (Race at load place value ∷ lines) conn none = lacks-unopened lines conn none
lacks-unopened (Submit at method number addr ∷ lines) conn none = lacks-unopened lines conn none
lacks-unopened (Attach at place name policy ∷ lines) conn none = lacks-unopened lines conn none
lacks-unopened (Detach at name ∷ lines) conn none = lacks-unopened lines conn none
lacks-unopened (Upgrade at name policy ∷ lines) conn none = lacks-unopened lines conn none
lacks-unopened (Moment at ms ∷ lines) conn none = lacks-unopened lines conn none
lacks-unopened (Turn at place ∷ lines) conn none = lacks-unopened lines conn none
lacks-unopened (Send at ∷ lines) conn none = lacks-unopened lines conn none
lacks-unopened (Drain at ∷ lines) conn none = lacks-unopened lines conn none

pub unopened : (loads : ℕ) (policies : List NamedPolicy) (before : List ScriptLine) (conn words : ℕ) (heap : Option ℕ) → heap_of before conn ≡ heap
    → IsAllowedAfter loads policies before (Conn conn words) → heap ≡ None
unopened loads policies before conn words None is allows = refl
unopened loads policies before conn words (Some other) is allows = absurd (allows.free Known (is_open other refl is refl))

pub apart-more : (numbers : List ℕ) (conn : ℕ) → Lacks conn numbers → AreApart numbers → AreApart (numbers ++ conn ∷ [])
apart-more [] conn lacks apart = (tt, tt)
apart-more (n ∷ ns) conn lacks apart = (still ns apart.0, apart-more ns conn lacks.1 apart.1) where
  still : (xs : List ℕ) → AllByRecursion (λ other. other ≢ n) xs → AllByRecursion (λ other. other ≢ n) (xs ++ conn ∷ [])
  still [] all = ((λ same. lacks.0 (sym same)), tt)
  still (x ∷ xs) all = (all.0, still xs all.1)
