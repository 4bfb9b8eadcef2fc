use Rattle.std.proofs.Common.{◌-◌, ◌^◌, refl, subst, arith}
use Rattle.script_grammar.specs.Meanings.{meanings_of}
use Rattle.script_grammar.specs.declared.form.LineForm.{LineForm}
use Rattle.script_grammar.specs.declared.form.LineForm.TheVariants as form
use Rattle.replay_script.specs.Words.{IsParsedAs}
use Rattle.replay_script.proofs.Ranges.{number_of}
use Rattle.replay_script.proofs.body.Body.line_of.Goals as goal

pub submit-requires-in-Reply-clause-number : goal.submit-requires-in-Reply-clause-number
submit-requires-in-Reply-clause-number c =
    let m = meanings_of c.args.words.now in
    let said = subst (λ (f : LineForm). IsParsedAs f c.requires.words.0 m) c.in-Reply.is c.requires.words.1 in
    let range = (number_of form.Reply c.requires.words.0 m 4 1 (2 ^ 32 - 1) said refl).1 in
    let is = c.number_at.ensures in
    omega (arith, range, is)
