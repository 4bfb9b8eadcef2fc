use Rattle.std.proofs.Common.{sym, ◌∙◌}
use Rattle.toml.specs.View.{table_view}
use Rattle.scenario_reader.proofs.Applying.{app_early_first, app_free, app_late_first, app_number_first}
use Rattle.scenario_reader.proofs.application.read_app.Goals as goal

pub returns-then-not-has_ranges-clause-read : goal.returns-then-not-has_ranges-clause-read
returns-then-not-has_ranges-clause-read c = λ all T before above on total.
    let is_role = sym c.entry_role.ensures ∙ c.in-Some.is in
    let keys = sym c.has_app_keys.ensures ∙ c.if-not-has_app_keys.false in
    app_number_first all c.args.above.declared.now.policies before (table_view c.args.entry.now) c.in-Some.role is_role keys
    (sym c.has_ranges.ensures ∙ c.if-not-has_ranges.true)

pub returns-in-Err-clause-read : goal.returns-in-Err-clause-read
returns-in-Err-clause-read c = λ all T before above on total.
    let is_role = sym c.entry_role.ensures ∙ c.in-Some.is in
    let keys = sym c.has_app_keys.ensures ∙ c.if-not-has_app_keys.false in
    let within = sym c.has_ranges.ensures ∙ c.if-not-has_ranges.false in
    app_early_first all c.args.above.declared.now.policies before (table_view c.args.entry.now) c.in-Some.role is_role keys within c.in-Err.reason
    (rw c.in-Err.is at (c.in_ok-early.ensures.read all T before above on is_role))

pub returns-in-Err-2-clause-read : goal.returns-in-Err-2-clause-read
returns-in-Err-2-clause-read c = λ all T before above on total.
    let is_role = sym c.entry_role.ensures ∙ c.in-Some.is in
    let keys = sym c.has_app_keys.ensures ∙ c.if-not-has_app_keys.false in
    let within = sym c.has_ranges.ensures ∙ c.if-not-has_ranges.false in
    let early = rw c.in-Ok.is at (c.in_ok-early.ensures.read all T before above on is_role) in
    app_late_first all c.args.above.declared.now.policies before (table_view c.args.entry.now) c.in-Some.role is_role keys within early.0
    c.in-Err-2.reason (rw c.in-Err-2.is at (c.in_ok-late.ensures all T before above total is_role early.0))

pub returns-clause-read : goal.returns-clause-read
returns-clause-read c = λ all T before above on total.
    let is_role = sym c.entry_role.ensures ∙ c.in-Some.is in
    let keys = sym c.has_app_keys.ensures ∙ c.if-not-has_app_keys.false in
    let within = sym c.has_ranges.ensures ∙ c.if-not-has_ranges.false in
    let early = rw c.in-Ok.is at (c.in_ok-early.ensures.read all T before above on is_role) in
    let late = rw c.in-Ok-2.is at (c.in_ok-late.ensures all T before above total is_role early.0) in (
      app_free all c.args.above.declared.now.policies before (table_view c.args.entry.now) c.in-Some.role is_role keys within early.0 late.0,
      record {
        port = record { conn = c.number_of.ensures; role = is_role };
        app = record {
          said = c.in-Ok.early.role;
          own = c.in-Ok.early.own;
          draft = c.in_ok-app.ensures;
          role = early.1.role;
          is_own = early.1.own;
        };
        chain = late.1.begun;
        submitted = late.1.submitted;
      },
    )
