use Rattle.std.proofs.Common.{◌≡◌, ◌+◌, length, ap, ◌∙◌, length-append, arith}
use Rattle.frame_transport.specs.Frames.{concat_frames}
use Rattle.run_report.proofs.stream_remainder.append_where_cut.Goals as goal

pub overflow_sub-fed : goal.overflow_sub-fed
overflow_sub-fed c =
    let s = c.requires.splits in
    let counted : c.partial_len-rest.result ≡ length s.1 + c.args.inbound.now.fed.behind = c.partial_len-rest.ensures s.0 s.1 s.2 in
    let long : length c.args.inbound.now.fed.bytes ≡ length (concat_frames s.0) + length s.1 = ap length s.2.whole ∙ length-append (concat_frames s.0) s.1 in
    omega (arith, counted, long, c.fed.ensures)
