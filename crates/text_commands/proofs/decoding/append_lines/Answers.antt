use Rattle.std.proofs.Common.{◌≡◌, ◌∙◌, [], ◌++◌, List, ℕ, drop, sym, ap, append_assoc, append-nil, arith}
use Rattle.std.proofs.lemmas.Result.{err_from_is_err_and}
use Rattle.text_commands.specs.Decoding.{IsCutAt}
use Rattle.text_commands.proofs.Decodings.{on_fault, tells_nothing, tells_more, cut_behind}
use Rattle.text_commands.proofs.decoding.append_lines.Goals as goal

pub frames-init : goal.frames-init
frames-init c = record {
  text = [];
  appended = sym (append-nil c.args.lines.now);
  tells = tells_nothing c.args.table.now c.args.stream.now c.args.from;
  further = omega arith;
  some = c.requires.some;
}

pub returns-in_err-place-clause-cut : goal.returns-in_err-place-clause-cut
returns-in_err-place-clause-cut c =
    let T = c.args.table.now in
    let stream = c.args.stream.now in
    let from = c.args.from in
    let mid = c.frames.place in
    let before = c.frames.invariant in
    let lines = c.append_next_line.new.lines in
    let cut : (place : ℕ) (word : List ℕ) → (lines ≡ c.frames.lines) × IsCutAt T mid (drop mid stream) [] place word
    → (text : List ℕ) × (lines ≡ c.args.lines.now ++ text) × IsCutAt T from (drop from stream) text place word =
    λ place word h. (
      before.text ++ [],
      h.0 ∙ before.appended ∙ ap (λ (bs : List ℕ). c.args.lines.now ++ bs) (sym (append-nil before.text)),
      cut_behind c.frame_law.ensures T stream from mid before.text [] place word before.tells h.1,
    ) in
    let same = err_from_is_err_and c.from_residual.result c.from_residual.ensures.1 in
    rw (same.1, same.2) (on_fault _ _ cut _ c.in_err-place.ensures.cut)

pub returns-then-place-stream-clause-told : goal.returns-then-place-stream-clause-told
returns-then-place-stream-clause-told c =
    let before = c.frames.invariant in
    let told = c.in_ok-place.ensures.told in (
      before.text ++ told.0,
      told.1 ∙ ap (λ (bs : List ℕ). bs ++ told.0) before.appended ∙ append_assoc c.args.lines.now before.text told.0,
      tells_more c.frame_law.ensures _ _ _ _ _ _ _ before.tells told.2,
    )

pub frames-preserved : goal.frames-preserved
frames-preserved c =
    let before = c.frames.invariant in
    let told = c.in_ok-place.ensures.told in record {
      text = before.text ++ told.0;
      appended = told.1 ∙ ap (λ (bs : List ℕ). bs ++ told.0) before.appended ∙ append_assoc c.args.lines.now before.text told.0;
      tells = tells_more c.frame_law.ensures _ _ _ _ _ _ _ before.tells told.2;
      further = omega arith;
      some = omega arith;
    }
