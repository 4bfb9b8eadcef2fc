use Rattle.std.proofs.Common.{List, sym, subst}
use Rattle.std.specs.Prelude.{MatchResult}
use Rattle.script_grammar.specs.Meanings.{meanings_of}
use Rattle.script_grammar.specs.declared.word_kind.WordValue.{WordValue}
use Rattle.policy_declarations.specs.DeclarationTexts.{IsDeclarationHead, HasDeclaration, IsFaultOfDeclaration}
use Rattle.policy_declarations.specs.declared.declaration_form.DeclarationForm.{DeclarationForm}
use Rattle.policy_declarations.proofs.ItemReading.{access_read, redact_read}
use Rattle.policy_declarations.proofs.read.declaration_of.Goals as goal

pub returns-in-Access : goal.returns-in-Access
returns-in-Access c =
    let T = c.args.table.now in
    let skips = c.args.skips in
    let d = c.args.declared.now in
    let l = c.args.lines in
    let ms = meanings_of c.as_slice-words.result.now in
    let heads = subst (λ (ws : List WordValue). IsDeclarationHead d l.form l.line.now (meanings_of ws)) (sym c.as_slice-words.ensures.value) c.in-Ok.ensures in
    let moved = subst (λ (f : DeclarationForm). IsDeclarationHead d f l.line.now ms) c.in-Access.is heads in
    subst (λ (f : DeclarationForm). MatchResult c.access_of.result
    (λ r. HasDeclaration T skips d f l.line.now l.behind.now r.0 r.1.now)
    (IsFaultOfDeclaration T skips d f l.line.now l.behind.now)) (sym c.in-Access.is)
    (access_read T skips d l.line.now l.behind.now ms c.access_of.result moved c.access_of.ensures)

pub returns-in-Redact : goal.returns-in-Redact
returns-in-Redact c =
    let T = c.args.table.now in
    let skips = c.args.skips in
    let d = c.args.declared.now in
    let l = c.args.lines in
    let ms = meanings_of c.as_slice-words.result.now in
    let heads = subst (λ (ws : List WordValue). IsDeclarationHead d l.form l.line.now (meanings_of ws)) (sym c.as_slice-words.ensures.value) c.in-Ok.ensures in
    let moved = subst (λ (f : DeclarationForm). IsDeclarationHead d f l.line.now ms) c.in-Redact.is heads in
    subst (λ (f : DeclarationForm). MatchResult c.redact_of.result
    (λ r. HasDeclaration T skips d f l.line.now l.behind.now r.0 r.1.now)
    (IsFaultOfDeclaration T skips d f l.line.now l.behind.now)) (sym c.in-Redact.is)
    (redact_read T skips d l.line.now l.behind.now ms c.redact_of.result moved c.redact_of.ensures)
