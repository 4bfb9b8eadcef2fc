-- What lines of programs mean, and their faults, on small ones.
use Rattle.std.proofs.Common.{◌≡◌, true, false, [], ◌∷◌, codes, None, refl, arith, lit≤, lit<}
use Rattle.mrpc_table.specs.declared.words.Decimal.TheVariants.{Small}
use Rattle.app_program.specs.declared.program.ProgramLine.TheVariants as program
use Rattle.script_grammar.specs.Lines.{miscounted}
use Rattle.script_grammar.specs.WordKinds.{number, unbounded}
use Rattle.script_grammar.specs.Values.{plain}
use Rattle.script_grammar.specs.declared.fault.ScriptReason.TheVariants as script
use Rattle.scenario_lines.specs.Lines.{IsProgramLineFault, IsProgramLineMeaning, line_form_of, no_form, no_place, in_words}
use Rattle.scenario_lines.specs.Programs.{IsProgramFault, in_line, ends_in_reply}
use Rattle.scenario_lines.specs.declared.form.ProgramForm.TheVariants as line
use Rattle.scenario_lines.specs.declared.form.ProgramRole.TheVariants.{Client, Server}
use Rattle.scenario_lines.specs.declared.reason.LineReason.TheVariants.{Word, Place}

-- ---- lines with a meaning

stores_a_word : IsProgramLineMeaning Client 64 (codes "store 2 150") (program.Store 2 150)
stores_a_word = record {
  form = line.Store;
  meanings = unbounded (Small 2) ∷ number 150 ∷ [];
  is_line = record { form = refl; said = ((2, refl, refl), ((plain 150, refl, lit< tt, refl), tt)) };
  says = (refl, record { from_one = lit≤ tt; in_heap = lit< tt }, refl);
}

submits_a_call : IsProgramLineMeaning Client 64 (codes "submit 0 2") (program.Submit 0 2)
submits_a_call = record {
  form = line.Submit;
  meanings = number 0 ∷ number 2 ∷ [];
  is_line = record { form = refl; said = ((refl, (lit≤ tt, lit≤ tt)), ((refl, (lit≤ tt, lit≤ tt)), tt)) };
  says = (refl, refl);
}

gives_a_reply : IsProgramLineMeaning Server 64 (codes "reply 2") (program.Reply 2)
gives_a_reply = record {
  form = line.Reply;
  meanings = number 2 ∷ [];
  is_line = record { form = refl; said = ((refl, (lit≤ tt, lit≤ tt)), tt) };
  says = refl;
}

-- ---- faulty lines

misspelled : IsProgramFault Client 64 (codes "stare 2 150" ∷ []) Word
misspelled = in_line (codes "stare 2 150") (0, lit< tt, refl) (no_form refl refl)

client_replies : line_form_of Client (codes "reply 2") ≡ None
client_replies = refl

server_submits : line_form_of Server (codes "submit 0 2") ≡ None
server_submits = refl

one_word_too_few : IsProgramLineFault Client 64 (codes "store 2") Word
one_word_too_few = in_words line.Store refl (script.Word, miscounted (λ e. omega (arith, e)) refl, refl)

past_the_heap : IsProgramLineFault Client 64 (codes "store 64 150") Place
past_the_heap =
    no_place line.Store (unbounded (Small 64) ∷ number 150 ∷ [])
    (record { form = refl; said = ((64, refl, refl), ((plain 150, refl, lit< tt, refl), tt)) })
    (λ p. let h = p.in_heap in omega (arith, h)) refl

before_the_heap : IsProgramLineFault Client 64 (codes "store 0 150") Place
before_the_heap =
    no_place line.Store (unbounded (Small 0) ∷ number 150 ∷ [])
    (record { form = refl; said = ((0, refl, refl), ((plain 150, refl, lit< tt, refl), tt)) })
    (λ p. let h = p.from_one in omega (arith, h)) refl

-- ---- programs of a server

none_at_all : ends_in_reply [] ≡ false
none_at_all = refl

two_replies : ends_in_reply (codes "reply 2" ∷ codes "reply 3" ∷ []) ≡ false
two_replies = refl

not_at_the_end : ends_in_reply (codes "reply 2" ∷ codes "store 2 1" ∷ []) ≡ false
not_at_the_end = refl

one_at_the_end : ends_in_reply (codes "store 2 1" ∷ codes "reply 2" ∷ []) ≡ true
one_at_the_end = refl
