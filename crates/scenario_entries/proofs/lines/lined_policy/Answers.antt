use Rattle.std.proofs.Common.{sym, subst}
use Rattle.toml.specs.View.{table_view}
use Rattle.scenario.specs.declared.entry_words.PolicyKind.{PolicyKind}
use Rattle.scenario.specs.declared.entry_words.PolicyKind.TheVariants as of_kind
use Rattle.scenario_entries.specs.FirstReasons.{IsLinesRead}
use Rattle.scenario_entries.proofs.lines.lined_policy.Goals as goal

pub returns-in_ok-access_in-in-Access : goal.returns-in_ok-access_in-in-Access
returns-in_ok-access_in-in-Access c =
    let T = c.args.table.now in
    let ms = table_view c.args.entry.now in
    subst (λ (k : PolicyKind). IsLinesRead k T ms c.lined_by.result) (sym c.in-Access.is)
    (c.lined_by.ensures of_kind.Access T ms c.in_ok-access_in-in-Access.ensures)

pub returns-in_ok-redact_in-in-Redact : goal.returns-in_ok-redact_in-in-Redact
returns-in_ok-redact_in-in-Redact c =
    let T = c.args.table.now in
    let ms = table_view c.args.entry.now in
    subst (λ (k : PolicyKind). IsLinesRead k T ms c.lined_by-in-Redact.result) (sym c.in-Redact.is)
    (c.lined_by-in-Redact.ensures of_kind.Redact T ms c.in_ok-redact_in-in-Redact.ensures)
