use Rattle.std.proofs.Common.{List, sym, ap, ◌∙◌, subst}
use Rattle.std.proofs.lemmas.Result.{err_from_is_err_and}
use Rattle.mrpc_table.specs.Lines.{words_of}
use Rattle.script_grammar.specs.Forms.{word_kinds_of}
use Rattle.script_grammar.specs.Lines.{HaveMeanings, HasReason}
use Rattle.script_grammar.specs.Meanings.{meanings_of}
use Rattle.script_grammar.specs.Reasons.{IsFirstReason}
use Rattle.script_grammar.specs.declared.word_kind.WordValue.{WordValue}
use Rattle.script_grammar.specs.declared.word_kind.WordKind.{WordKind}
use Rattle.policy_declarations.specs.HeadTests.{is_name_taken, lacks_tenant}
use Rattle.policy_declarations.proofs.HeadFaults.{full_first, words_first, known_first, lacking_first, heads_fine}
use Rattle.policy_declarations.proofs.head.read_head.Goals as goal

pub returns-then-has_max_tenants : goal.returns-then-has_max_tenants
returns-then-has_max_tenants c = full_first c.args.declared.now c.args.form (words_of c.args.line.now) (sym c.has_max_tenants.ensures ∙ c.if-has_max_tenants.true)

pub returns-in_err-words : goal.returns-in_err-words
returns-in_err-words c =
    let p = err_from_is_err_and c.from_residual.result c.from_residual.ensures.1 in
    let sorts = c.word_kinds.ensures.sorts ∙ ap word_kinds_of c.form.ensures in
    rw (p.1, p.2)
    (words_first c.args.declared.now c.args.form (words_of c.args.line.now) c.in_err-words.field-0.0 (sym c.has_max_tenants.ensures ∙ c.if-has_max_tenants.false)
    (subst (λ (x : List WordKind). IsFirstReason (HasReason x (words_of c.args.line.now)) c.in_err-words.field-0.0) sorts c.in_err-words.ensures))

pub returns-then-is_name_taken : goal.returns-then-is_name_taken
returns-then-is_name_taken c =
    let ms = meanings_of c.in_ok-words.words.items in
    let sorts = c.word_kinds.ensures.sorts ∙ ap word_kinds_of c.form.ensures in
    let said = subst (λ (x : List WordKind). HaveMeanings x (words_of c.args.line.now) ms) sorts c.in_ok-words.ensures in
    known_first c.meanings_or_reason.ensures.not_both c.args.declared.now c.args.form (words_of c.args.line.now) ms (sym c.has_max_tenants.ensures ∙ c.if-has_max_tenants.false) said
    (ap (λ (x : List WordValue). is_name_taken c.args.declared.now c.args.form (meanings_of x)) (sym c.as_slice.ensures.value) ∙ sym c.is_name_taken.ensures ∙ c.if-is_name_taken.true)

pub returns-then-lacks_tenant : goal.returns-then-lacks_tenant
returns-then-lacks_tenant c =
    let ms = meanings_of c.in_ok-words.words.items in
    let sorts = c.word_kinds.ensures.sorts ∙ ap word_kinds_of c.form.ensures in
    let said = subst (λ (x : List WordKind). HaveMeanings x (words_of c.args.line.now) ms) sorts c.in_ok-words.ensures in
    lacking_first c.meanings_or_reason.ensures.not_both c.args.declared.now c.args.form (words_of c.args.line.now) ms (sym c.has_max_tenants.ensures ∙ c.if-has_max_tenants.false) said
    (ap (λ (x : List WordValue). is_name_taken c.args.declared.now c.args.form (meanings_of x)) (sym c.as_slice.ensures.value) ∙ sym c.is_name_taken.ensures ∙ c.if-is_name_taken.false)
    (ap (λ (x : List WordValue). lacks_tenant c.args.declared.now c.args.form (meanings_of x)) (sym c.as_slice-2.ensures.value) ∙ sym c.lacks_tenant.ensures ∙ c.if-lacks_tenant.true)

pub returns : goal.returns
returns c =
    let ms = meanings_of c.in_ok-words.words.items in
    let sorts = c.word_kinds.ensures.sorts ∙ ap word_kinds_of c.form.ensures in
    let said = subst (λ (x : List WordKind). HaveMeanings x (words_of c.args.line.now) ms) sorts c.in_ok-words.ensures in
    heads_fine c.meanings_or_reason.ensures.not_both c.args.declared.now c.args.form c.args.line.now ms (sym c.has_max_tenants.ensures ∙ c.if-has_max_tenants.false) said
    (ap (λ (x : List WordValue). is_name_taken c.args.declared.now c.args.form (meanings_of x)) (sym c.as_slice.ensures.value) ∙ sym c.is_name_taken.ensures ∙ c.if-is_name_taken.false)
    (ap (λ (x : List WordValue). lacks_tenant c.args.declared.now c.args.form (meanings_of x)) (sym c.as_slice-2.ensures.value) ∙ sym c.lacks_tenant.ensures ∙ c.if-lacks_tenant.false)
