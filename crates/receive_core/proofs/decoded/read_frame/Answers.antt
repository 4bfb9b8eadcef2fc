use Rattle.std.proofs.Common.{◌≡◌, ℕ, List, ap, subst, rules, refl, ◌∙◌}
use Rattle.mrpc_table.specs.Calls.{message_at}
use Rattle.wire_decode.specs.Faults.{IsFirstDecodeFault, OnDecodeFault}
use Rattle.receive_core.specs.Fates.{is_faulty, IsCall, message_of_frame}
use Rattle.receive_core.proofs.decoded.read_frame.Goals as goal

pub returns-in-Err-At : goal.returns-in-Err-At
returns-in-Err-At c policy words =
    let call : IsCall c.args.table.now c.args.frame.now = search rules in
    let message : c.message_at-message.result ≡ message_of_frame c.args.table.now c.args.frame.now =
    c.message_at-message.ensures.place ∙ ap (message_at c.args.table.now c.args.frame.now.method) c.judged_number-number.ensures in
    let told : IsFirstDecodeFault c.args.table.now c.message_at-message.result c.as_slice.result.now c.in-Err-At.reason c.in-Err-At.place =
    subst (OnDecodeFault (IsFirstDecodeFault c.args.table.now c.message_at-message.result c.as_slice.result.now)) c.in-Err-At.field-0-is c.in-Err-At.ensures.fault in
    let fault = subst (λ (msg : ℕ). IsFirstDecodeFault c.args.table.now msg c.as_slice.result.now c.in-Err-At.reason c.in-Err-At.place) message told in
    let first = subst
    (λ (bytes : List ℕ). IsFirstDecodeFault c.args.table.now (message_of_frame c.args.table.now c.args.frame.now) bytes
    c.in-Err-At.reason c.in-Err-At.place) c.as_slice.ensures fault in
    is_faulty call c.in-Err-At.reason c.in-Err-At.place first refl
