-- The definitions, evaluated on a small history that was worked out by hand. A policy needs a field that another one
-- clears. The call's copy has the field, so the policy lets it pass. Its form doesn't, so the call is refused and can't
-- be sent.
use Rattle.std.proofs.Common.{◌≡◌, ℕ, true, false, ◌<◌, List, [], ◌∷◌, codes, reverse, refl, sym, ap, ◌∙◌, arith}
use Rattle.std.specs.Prelude.{Some}
use Rattle.std.proofs.lemmas.List.Elements.{All-head}
use Rattle.mrpc_table.specs.Node.{Node, no_fields, field, one, number}
use Rattle.mrpc_table.specs.declared.call.CallKind.TheVariants.{Request}
use Rattle.mrpc_table.specs.declared.table.Field.{Field}
use Rattle.mrpc_table.specs.declared.table.Kind.TheVariants.{Uint64}
use Rattle.mrpc_table.specs.declared.table.Label.TheVariants.{Plain}
use Rattle.mrpc_table.specs.declared.table.Table.{Table}
use Rattle.policy_access.specs.Verdict.{AccessPolicy, rule_name, verdict}
use Rattle.policy_access.specs.declared.rule.CallSelector.TheVariants.{Calls as OfCalls}
use Rattle.policy_access.specs.declared.rule.Comparison.TheVariants.{Equal}
use Rattle.policy_access.specs.declared.rule.Condition.TheVariants.{Compares}
use Rattle.policy_access.specs.declared.rule.Operand.TheVariants.{Number}
use Rattle.engine_core.specs.Answers.{Past, nothing, pass, IsEntryAnswer, allows, denies, was_charged, charges, holds, refuses, is_within, is_over, draws, was_counted, counts, is_clear, redacts}
use Rattle.engine_core.specs.Chains.{new_entry}
use Rattle.engine_core.specs.declared.op.Op.TheVariants.{Attach}
use Rattle.engine_core.specs.declared.policy.Policy.{Policy}
use Rattle.engine_core.specs.declared.policy.Policy.TheVariants.{Access, Redact}
use Rattle.call_history.specs.Trace.{Trace, chain, form, with_tree}
use Rattle.call_history.specs.Rules.{IsAllowedInTrace, JudgeContext}
use Rattle.call_history.specs.declared.happening.Happening.TheVariants.{Took, Op, Redacted, Sent}
use Rattle.call_history.specs.declared.happening.AcceptedCall.{AcceptedCall}
use Rattle.call_history.specs.declared.happening.TookCopy.TheVariants.{Copy}
use Rattle.audit_rules.specs.BrokenRules.{IsFirstBrokenRule, IsRuleKept, rule_rank}
use Rattle.audit_rules.specs.PendingLines.{entry_name_at}
use Rattle.audit_rules.specs.declared.rule.Rule.{Rule}
use Rattle.audit_rules.specs.declared.rule.Rule.TheVariants.{A, B, C, D, E, F, G, Stands}

abbrev number_field : ℕ → List ℕ → Field
number_field n name = record { number = n; name = name; kind = Uint64; label = Plain }

abbrev table : Table
table = record {
  messages = record { name = codes "M"; fields = number_field 1 (codes "a") ∷ number_field 2 (codes "b") ∷ []; oneofs = [] } ∷ [];
  enums = [];
  methods = record { service = codes "S"; name = codes "Get"; input = 0; output = 0 } ∷ [];
}

abbrev under : JudgeContext
under = record { conn = 1; table = table; limit = 1024 }

-- requests with 9 in the second field are allowed, and no others
abbrev need : AccessPolicy
need = record {
  rules = record {
    name = codes "need";
    allow = true;
    about = OfCalls (record {
      method = 0;
      sort = Request;
      test = Some (record {
        path = record { way = []; number = 2; kind = Uint64; label = Plain };
        condition = Compares Equal (Number 9);
      });
    });
  } ∷ [];
  allow = false;
}

-- the second field of a request is cleared
abbrev clearing : Policy
clearing = Redact (record { method = 0; sort = Request; path = record { way = []; number = 2; kind = Uint64; label = Plain } } ∷ [])

abbrev both : Node
both = field 1 (one (number 7)) (field 2 (one (number 9)) no_fields)

abbrev seven : Node
seven = field 1 (one (number 7)) no_fields

abbrev call : AcceptedCall
call = record { seq = 1; method = 0; number = 0; addr = 2; after = 2; count = 2; copy = Copy both }

abbrev taken : Trace
taken = reverse (Op (Attach 0 (codes "acl") (codes "acl") (Access need)) ∷ Op (Attach 1 (codes "cut") (codes "cut") clearing) ∷ Took call ∷ [])

abbrev cleared : Trace
cleared = Redacted 1 (codes "cut") 1 ∷ taken

form-taken : form 1 1 taken ≡ Some (with_tree 1 call both)
form-taken = refl

form-cleared : form 1 1 cleared ≡ Some (with_tree 1 call seven)
form-cleared = refl

allowed : (verdict need (with_tree 1 call both)).allow ≡ true
allowed = refl

denied : (verdict need (with_tree 1 call seven)).allow ≡ false
denied = refl

named : rule_name need 1 ≡ codes "default"
named = refl

names : (entry_name_at (chain cleared).entries 0 ≡ codes "acl") × (entry_name_at (chain cleared).entries 1 ≡ codes "cut") × (entry_name_at (chain cleared).entries 2 ≡ codes "-")
names = (refl, refl, refl)

denies-cleared : (policy : Policy) (level moment : ℕ) (past : Past) → policy ≡ Access need → IsEntryAnswer policy level moment (with_tree 1 call seven) past pass → ⊥
denies-cleared policy level moment past is (allows p is_p allow answer) =
    let same : p ≡ need = cc in
    let none : (verdict p (with_tree 1 call seven)).allow ≡ false = ap (λ (r : AccessPolicy). (verdict r (with_tree 1 call seven)).allow) same in
    let wrong : true ≡ false = sym allow ∙ none in cc
denies-cleared policy level moment past is (denies p is_p allow answer) = cc
denies-cleared policy level moment past is (was_charged r is_p some answer) = cc
denies-cleared policy level moment past is (charges r is_p none enough answer) = cc
denies-cleared policy level moment past is (holds r is_p none less mode answer) = cc
denies-cleared policy level moment past is (refuses r is_p none less mode answer) = cc
denies-cleared policy level moment past is (is_within tenant per cap ticket is_p some less answer) = cc
denies-cleared policy level moment past is (is_over tenant per cap ticket is_p some more answer) = cc
denies-cleared policy level moment past is (draws tenant per cap ticket is_p none answer) = cc
denies-cleared policy level moment past is (was_counted is_p some answer) = cc
denies-cleared policy level moment past is (counts is_p none answer) = cc
denies-cleared policy level moment past is (is_clear clears is_p left answer) = cc
denies-cleared policy level moment past is (redacts clears is_p other answer) = cc

-- the rules before that of sends
earlier-kept : (other : Rule) → rule_rank other < rule_rank E → IsRuleKept under cleared (Sent 1 18) other
earlier-kept A less = tt
earlier-kept B less = tt
earlier-kept C less = tt
earlier-kept D less = (tt, tt)
earlier-kept E less = absurd (omega (arith, less))
earlier-kept F less = tt
earlier-kept G less = absurd (omega (arith, less))
earlier-kept Stands less = absurd (omega (arith, less))

-- if the call is sent, it breaks the rule of sends, and none before it
sent-breaks : IsFirstBrokenRule under cleared (Sent 1 18) E
sent-breaks = record {
  broken = λ sent.
      (let lets : IsAllowedInTrace under cleared 1 (new_entry (codes "acl") 1 (Access need)) =
      All-head (IsAllowedInTrace under cleared 1) (new_entry (codes "acl") 1 (Access need)) (new_entry (codes "cut") 2 clearing ∷ []) sent.allowed in
      denies-cleared (Access need) 0 0 nothing refl lets);
  earlier = earlier-kept;
}
