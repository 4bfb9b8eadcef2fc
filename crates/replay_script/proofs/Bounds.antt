-- The lines of a fault are among those of the text.
use Rattle.std.proofs.Common.{ℕ, ◌+◌, ◌-◌, ◌≤◌, ◌==◌, Bool, true, List, [], ◌∷◌, length, sym, ap, subst, arith}
use Rattle.std.specs.Prelude.{if◌then◌else◌}
use Rattle.std.specs.List.{onto_first}
use Rattle.std.proofs.lemmas.Bool.{cond_both}
use Rattle.std.proofs.lemmas.List.{length-append, length-take}
use Rattle.mrpc_table.specs.Lines.{pieces_of, whole_lines}
use Rattle.mrpc_table.specs.declared.policy_lines.RuleReason.{RuleReason}
use Rattle.mrpc_table.specs.declared.table.Table.{Table}
use Rattle.policy_declarations.specs.Blocks.{end_line, IsBlock, is_kept, line_number, IsFaultOfBlock, in_block, in_open, no_end}
use Rattle.policy_declarations.specs.DeclarationTexts.{IsFaultAfterHead}
use Rattle.policy_declarations.specs.declared.declaration_form.DeclarationForm.{DeclarationForm}
use Rattle.policy_declarations.specs.declared.declaration_form.DeclarationForm.TheVariants as of
use Rattle.script_grammar.specs.declared.fault.ScriptReason.{ScriptReason}
use Rattle.replay_script.specs.LineReasons.{StateBefore}
use Rattle.replay_script.specs.Texts.{IsFirstFaultAt, in_line, in_block as in_lines, no_feed, no_close}
use Rattle.replay_script.proofs.TextLines.{shorter}

pub record IsAmong (most n : ℕ) : Type 0 where
  pub from : 1 ≤ n
  pub to : n ≤ most

at_among : (skips : Bool) (lines : List (List ℕ)) (number : ℕ) → IsAmong (length lines + 1) (line_number skips lines number)
at_among skips [] number = record { from = omega arith; to = omega arith }
at_among skips (l ∷ lines) number =
    let more : (n : ℕ) → IsAmong (length (l ∷ lines) + 1) (1 + line_number skips lines n) =
    λ n. let rest = at_among skips lines n in let from = rest.from in let to = rest.to in record { from = omega arith; to = omega (arith, to) } in
    cond_both (is_kept skips l) (if number == 1 then 1 else 1 + line_number skips lines (number - 1)) (1 + line_number skips lines number) (IsAmong (length (l ∷ lines) + 1))
    (λ kept. cond_both (number == 1) 1 (1 + line_number skips lines (number - 1)) (IsAmong (length (l ∷ lines) + 1))
    (λ is. record { from = omega arith; to = omega arith }) (λ isnt. more (number - 1)))
    (λ skipped. more number)

onto_more : (c : ℕ) (ps : List (List ℕ)) → length (onto_first c ps) ≤ length ps + 1
onto_more c [] = omega arith
onto_more c (p ∷ ps) = omega arith

pieces_few : (text : List ℕ) → length (pieces_of text) ≤ length text + 1
pieces_few [] = omega arith
pieces_few (c ∷ cs) =
    let rest = pieces_few cs in
    let onto = onto_more c (pieces_of cs) in
    cond_both (c == 10) ([] ∷ pieces_of cs) (onto_first c (pieces_of cs)) (λ (ps : List (List ℕ)). length ps
    ≤ length (c ∷ cs) + 1) (λ is. omega (arith, rest)) (λ isnt. omega (arith, rest, onto))

inner_few : (text : List ℕ) (inner : List (List ℕ)) (rest : List ℕ) → IsBlock text inner rest → length inner ≤ length text
inner_few text inner rest block =
    let few = pieces_few text in
    let long = ap (length {A = List ℕ}) block.lines in
    let sum = length-append inner (end_line ∷ pieces_of rest) in
    omega (arith, few, long, sum)

whole_few : (text : List ℕ) → length (whole_lines text) ≤ length text
whole_few text = (let few = pieces_few text in let long = length-take (length (pieces_of text) - 1) (pieces_of text) in omega (arith, few, long))

wider : (least most n : ℕ) → least ≤ most → IsAmong least n → IsAmong most n
wider least most n h k = (let to = k.to in record { from = k.from; to = omega (arith, h, to) })

breaks_among : (First : List (List ℕ) → ℕ → RuleReason → Type 0) (skips : Bool) (text : List ℕ) (line : ℕ)
    (reason : ScriptReason) → IsFaultOfBlock First skips text line reason → IsAmong (length text + 1) line
breaks_among First skips text line reason (in_block inner rest number why block first e f) =
    subst (IsAmong (length text + 1)) (sym e) (wider (length inner + 1) (length text + 1) _ (let few = inner_few text inner rest block in omega (arith, few)) (at_among skips inner number))
breaks_among First skips text line reason (in_open number why shut first within e f) =
    subst (IsAmong (length text + 1)) (sym e) (wider (length (whole_lines text) + 1) (length text + 1) _ (let few =
    whole_few text in omega (arith, few)) (at_among skips (whole_lines text) number))
breaks_among First skips text line reason (no_end shut none e f) = (let few = whole_few text in record { from = omega (arith, e); to = omega (arith, e, few) })

pub breaks_in : (T : Table) (skips : Bool) (f : DeclarationForm) (text : List ℕ) (line : ℕ) (reason : ScriptReason) → IsFaultAfterHead T skips f text line reason → IsAmong (length text + 1) line
breaks_in T skips of.Access text line reason h = breaks_among _ skips text line reason h
breaks_in T skips of.Redact text line reason h = breaks_among _ skips text line reason h
breaks_in T skips of.Tenant text line reason h = absurd h
breaks_in T skips of.Rate text line reason h = absurd h
breaks_in T skips of.Quota text line reason h = absurd h
breaks_in T skips of.Count text line reason h = absurd h

pub stops_among : (loads : ℕ) (T : Table) (b : StateBefore) (text : List ℕ) (at : ℕ) (reason : ScriptReason) → IsFirstFaultAt loads T b text at reason → at ≤ length text + 2
stops_among loads T b text at reason (in_line line behind before first e) = omega (arith, e)
stops_among loads T b text at reason (in_lines line behind f m below before still is heads breaks e) =
    (let to = (breaks_in T true f behind below reason breaks).to in let less = shorter text line behind before in omega (arith, e, to, less))
stops_among loads T b text at reason (no_feed one some e f) = omega (arith, e)
stops_among loads T b text at reason (no_close none still e f) = omega (arith, e)
