use Rattle.std.proofs.Common.{◌*◌, ℕ, ◌<◌, ◌≤◌, List, map, sym, ap, ◌∙◌, subst}
use Rattle.std.specs.Borrow.{Bor}
use Rattle.std.specs.Prelude.{codes, option_to_list}
use Rattle.std.proofs.lemmas.Bool.{both_ways}
use Rattle.std.proofs.lemmas.List.Elements.{Contains-append_left}
use Rattle.mrpc_table.specs.Valid.{AreDistinct}
use Rattle.run_plan.specs.declared.limits.TheConstants.{MAX_WORK}
use Rattle.toml.specs.View.{table_view}
use Rattle.scenario.specs.Applications.{all_entry_ends, chain_names, entry_conn, link_tables, policy_tables, tenant_tables}
use Rattle.scenario_toml.specs.Values.{text_at}
use Rattle.scenario_reader.specs.Joining.{is_on_end, is_not_inbound_policy}
use Rattle.scenario_reader.specs.Walking.{AreOpsOf}
use Rattle.scenario_reader.proofs.Early.{early_named}
use Rattle.scenario_reader.proofs.Judging.{on_end, other_decides}
use Rattle.scenario_reader.proofs.Late.{alone_first, late_free, none_refused, other_first, refused_first, sum_more, work_first, work_is}
use Rattle.scenario_reader.proofs.Telling.{attached_ops, attachments_are}
use Rattle.scenario_reader.proofs.Walking.{laws_of}
use Rattle.scenario_reader.proofs.application.late_in.Goals as goal

pub returns-in-Err : goal.returns-in-Err
returns-in-Err c = λ all T apps above total is_role free.
    let ms = table_view c.args.entry.now in
    let d = c.args.above.declared.now in
    let laws = laws_of c.change_or_rejection.ensures.one_chain c.change_or_rejection.ensures.not_both c.change_or_rejection.ensures.one_refusal c.change_preserves_chain.ensures in
    let same = c.names_keep_index.ensures.names T (tenant_tables all) (policy_tables all) d above.policies in
    let distinct = subst (λ (ns : List (List ℕ)). AreDistinct ns) (sym same) above.distinct in
    let words = ap (λ (xs : List (Bor (List ℕ))). map (λ n. n.now) xs) c.as_slice.ensures.value ∙ c.in_ok-names.ensures in
    refused_first all d apps ms distinct laws
    (λ name h. early_named all apps ms d same free name (Contains-append_left (chain_names ms) (option_to_list (text_at (codes "inbound") ms)) name h))
    c.in-Err.reason
    (λ ops are. rw c.in-Err.is at (c.in_ok-chain.ensures ops (subst (λ (ns : List (List ℕ)). AreOpsOf d 0 ns ops) (sym words) are)))

pub returns-then-is_not_inbound_policy : goal.returns-then-is_not_inbound_policy
returns-then-is_not_inbound_policy c = λ all T apps above total is_role free.
    let ms = table_view c.args.entry.now in
    let d = c.args.above.declared.now in
    let laws = laws_of c.change_or_rejection.ensures.one_chain c.change_or_rejection.ensures.not_both c.change_or_rejection.ensures.one_refusal c.change_preserves_chain.ensures in
    let same = c.names_keep_index.ensures.names T (tenant_tables all) (policy_tables all) d above.policies in
    let distinct = subst (λ (ns : List (List ℕ)). AreDistinct ns) (sym same) above.distinct in
    let words = ap (λ (xs : List (Bor (List ℕ))). map (λ n. n.now) xs) c.as_slice.ensures.value ∙ c.in_ok-names.ensures in
    let none =
    none_refused all d apps ms distinct laws c.in-Ok.chain.entries.items
    (λ ops are. rw c.in-Ok.is at (c.in_ok-chain.ensures ops (subst (λ (ns : List (List ℕ)). AreOpsOf d 0 ns ops) (sym words) are))) in
    let o =
    (other_decides T (tenant_tables all) (policy_tables all) d above.policies distinct (text_at (codes "inbound") ms)).0
    (sym (c.is_not_inbound_policy.ensures ∙ ap (is_not_inbound_policy d) c.inbound_in.ensures) ∙ c.if-is_not_inbound_policy.true) in
    other_first all d apps ms distinct none o.p o.there o.named o.kind

pub returns-then-not-is_on_end : goal.returns-then-not-is_on_end
returns-then-not-is_on_end c = λ all T apps above total is_role free.
    let ms = table_view c.args.entry.now in
    let d = c.args.above.declared.now in
    let laws = laws_of c.change_or_rejection.ensures.one_chain c.change_or_rejection.ensures.not_both c.change_or_rejection.ensures.one_refusal c.change_preserves_chain.ensures in
    let same = c.names_keep_index.ensures.names T (tenant_tables all) (policy_tables all) d above.policies in
    let distinct = subst (λ (ns : List (List ℕ)). AreDistinct ns) (sym same) above.distinct in
    let words = ap (λ (xs : List (Bor (List ℕ))). map (λ n. n.now) xs) c.as_slice.ensures.value ∙ c.in_ok-names.ensures in
    let none =
    none_refused all d apps ms distinct laws c.in-Ok.chain.entries.items
    (λ ops are. rw c.in-Ok.is at (c.in_ok-chain.ensures ops (subst (λ (ns : List (List ℕ)). AreOpsOf d 0 ns ops) (sym words) are))) in
    let o = other_decides T (tenant_tables all) (policy_tables all) d above.policies distinct (text_at (codes "inbound") ms) in
    let fine = sym (c.is_not_inbound_policy.ensures ∙ ap (is_not_inbound_policy d) c.inbound_in.ensures) ∙ c.if-is_not_inbound_policy.false in
    let off =
    sym (c.is_on_end.ensures ∙ ap (is_on_end c.args.above.ends.now) c.number_of.ensures ∙ ap (λ (es : List ℕ). is_on_end es (entry_conn ms)) above.ends)
    ∙ c.if-not-is_on_end.true in
    alone_first all d apps ms distinct none
    (λ p there named apart. both_ways _ fine (o.1 (record { p = p; there = there; named = named; kind = apart })))
    (λ h. both_ways (is_on_end (all_entry_ends (link_tables all)) (entry_conn ms)) off ((on_end (entry_conn ms) (all_entry_ends (link_tables all))).1 h))

pub returns-in-None : goal.returns-in-None
returns-in-None c = λ all T apps above total is_role free.
    let ms = table_view c.args.entry.now in
    let d = c.args.above.declared.now in
    let laws = laws_of c.change_or_rejection.ensures.one_chain c.change_or_rejection.ensures.not_both c.change_or_rejection.ensures.one_refusal c.change_preserves_chain.ensures in
    let same = c.names_keep_index.ensures.names T (tenant_tables all) (policy_tables all) d above.policies in
    let distinct = subst (λ (ns : List (List ℕ)). AreDistinct ns) (sym same) above.distinct in
    let words = ap (λ (xs : List (Bor (List ℕ))). map (λ n. n.now) xs) c.as_slice.ensures.value ∙ c.in_ok-names.ensures in
    let none =
    none_refused all d apps ms distinct laws c.in-Ok.chain.entries.items
    (λ ops are. rw c.in-Ok.is at (c.in_ok-chain.ensures ops (subst (λ (ns : List (List ℕ)). AreOpsOf d 0 ns ops) (sym words) are))) in
    let o = other_decides T (tenant_tables all) (policy_tables all) d above.policies distinct (text_at (codes "inbound") ms) in
    let fine = sym (c.is_not_inbound_policy.ensures ∙ ap (is_not_inbound_policy d) c.inbound_in.ensures) ∙ c.if-is_not_inbound_policy.false in
    let on =
    sym (c.is_on_end.ensures ∙ ap (is_on_end c.args.above.ends.now) c.number_of.ensures ∙ ap (λ (es : List ℕ). is_on_end es (entry_conn ms)) above.ends)
    ∙ c.if-not-is_on_end.false in
    work_first all d apps ms distinct none
    (λ p there named apart. both_ways _ fine (o.1 (record { p = p; there = there; named = named; kind = apart })))
    ((on_end (entry_conn ms) (all_entry_ends (link_tables all))).0 on)
    (subst (λ (n : ℕ). MAX_WORK < n) (work_is all apps ms c.args.before c.in_ok-more.more c.args.above.loads total (c.in_ok-more.ensures is_role) above.loads)
    c.in-None.ensures)

pub returns : goal.returns
returns c = λ all T apps above total is_role free.
    let ms = table_view c.args.entry.now in
    let d = c.args.above.declared.now in
    let laws = laws_of c.change_or_rejection.ensures.one_chain c.change_or_rejection.ensures.not_both c.change_or_rejection.ensures.one_refusal c.change_preserves_chain.ensures in
    let same = c.names_keep_index.ensures.names T (tenant_tables all) (policy_tables all) d above.policies in
    let distinct = subst (λ (ns : List (List ℕ)). AreDistinct ns) (sym same) above.distinct in
    let words = ap (λ (xs : List (Bor (List ℕ))). map (λ n. n.now) xs) c.as_slice.ensures.value ∙ c.in_ok-names.ensures in
    let none =
    none_refused all d apps ms distinct laws c.in-Ok.chain.entries.items
    (λ ops are. rw c.in-Ok.is at (c.in_ok-chain.ensures ops (subst (λ (ns : List (List ℕ)). AreOpsOf d 0 ns ops) (sym words) are))) in
    let o = other_decides T (tenant_tables all) (policy_tables all) d above.policies distinct (text_at (codes "inbound") ms) in
    let fine = sym (c.is_not_inbound_policy.ensures ∙ ap (is_not_inbound_policy d) c.inbound_in.ensures) ∙ c.if-is_not_inbound_policy.false in
    let on =
    sym (c.is_on_end.ensures ∙ ap (is_on_end c.args.above.ends.now) c.number_of.ensures ∙ ap (λ (es : List ℕ). is_on_end es (entry_conn ms)) above.ends)
    ∙ c.if-not-is_on_end.false in
    let work = work_is all apps ms c.args.before c.in_ok-more.more c.args.above.loads total (c.in_ok-more.ensures is_role) above.loads in
    let told = c.in-Some.ensures in
    let some =
    attachments_are d 0 (chain_names ms)
    (λ name h. early_named all apps ms d same free name (Contains-append_left (chain_names ms) (option_to_list (text_at (codes "inbound") ms)) name h)) in (
      late_free all d apps ms distinct none
          (λ p there named apart. both_ways _ fine (o.1 (record { p = p; there = there; named = named; kind = apart })))
          ((on_end (entry_conn ms) (all_entry_ends (link_tables all))).0 on)
          (subst (λ (n : ℕ). n ≤ MAX_WORK) (ap (λ (n : ℕ). 2 * n * c.args.above.loads) told.0 ∙ work) told.1),
      record {
        begun = record {
          attached = some.0;
          are = some.1;
          walked = λ ops are.
              rw c.in-Ok.is at (c.in_ok-chain.ensures ops (subst (λ (ns : List (List ℕ)). AreOpsOf d 0 ns ops) (sym words)
              (attached_ops d 0 (chain_names ms) ops distinct are)));
        };
        submitted = told.0 ∙ sum_more apps ms c.args.before c.in_ok-more.more total (c.in_ok-more.ensures is_role);
      },
    )
