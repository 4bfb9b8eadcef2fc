use Rattle.std.proofs.Common.{◌∙◌, ◌+◌, [], ◌∷◌, ◌++◌, ap, sym, append_assoc}
use Rattle.std.proofs.lemmas.Fmt.{decimal_digit}
use Rattle.std.proofs.lemmas.Result.{IfOk-weaker}
use Rattle.mrpc_table.proofs.sequence.Sequence+u8.append_word.Goals as goal

pub returns-then-number-lt10-clause-ok : goal.returns-then-number-lt10-clause-ok
returns-then-number-lt10-clause-ok c =
    let list = c.args.self.now in
    let digit = 48 + c.args.number in
    IfOk-weaker c.push-then-number-lt10.result _ _
    (λ x h. h ∙ ap (λ bs. bs ++ digit ∷ []) c.in_ok-push.ensures.ok ∙ append_assoc list (32 ∷ []) (digit ∷ [])
    ∙ ap (λ ds. list ++ 32 ∷ ds) (sym (decimal_digit c.args.number c.if-number-lt10.true)))
    c.push-then-number-lt10.ensures.ok
