use Rattle.std.proofs.Common.{◌≡◌, ℕ, ◌+◌, ◌<◌, List, [], ◌∷◌, ◌++◌, length, take, get_or, ap, sym, ◌∙◌, arith}
use Rattle.std.proofs.lemmas.List.{take_more, length-take, flat_map_more}
use Rattle.std.specs.List.{flat_map, enumerate_from}
use Rattle.mrpc_table.specs.Text.{enum_lines, message_lines, method_line}
use Rattle.mrpc_table.specs.declared.table.Method.{Method}
use Rattle.table_text.proofs.ListLemmas.{enumerate-push}
use Rattle.table_text.proofs.text.put_table.Goals as goal

-- one more item: its line follows the lines of those before it
more : (f : ℕ × Method → List ℕ) (front : List ℕ) (ms : List Method) (i : ℕ) (m : Method) → i < length ms → m ≡ get_or ms i m
    → (front ++ flat_map f (enumerate_from 0 (take i ms))) ++ f (i, m) ≡ front ++ flat_map f (enumerate_from 0 (take (i + 1) ms))
more f front ms i m within at =
    let len : 0 + length (take i ms) ≡ i = omega (arith, length-take i ms) in
    let step : enumerate_from 0 (take (i + 1) ms) ≡ enumerate_from 0 (take i ms) ++ (i, m) ∷ [] =
    ap (enumerate_from 0) (take_more ms i m within ∙ ap (λ e. take i ms ++ e ∷ []) (sym at))
    ∙ enumerate-push 0 (take i ms) m ∙ ap (λ (k : ℕ). enumerate_from 0 (take i ms) ++ (k, m) ∷ []) len in
    flat_map_more f front (enumerate_from 0 (take i ms)) (i, m) ∙ ap (λ e. front ++ flat_map f e) (sym step)

pub loop-index-preserved : goal.loop-index-preserved
loop-index-preserved c =
    c.in_ok-put_method.ensures ∙ ap (λ o. o ++ method_line c.args.table.now (c.loop-index.index, c.method-item.result)) c.loop-index.invariant
    ∙ more (method_line c.args.table.now) (flat_map enum_lines c.args.table.now.enums
    ++ flat_map (message_lines c.args.table.now) c.args.table.now.messages) c.as_slice-method-items.result.now
    c.loop-index.index c.method-item.result c.loop-index-test.true c.method-item.is
