use Rattle.std.proofs.Common.{append_assoc}
use Rattle.frame_transport.proofs.written.write.Goals as goal
use Rattle.frame_transport.specs.Bytes.{header_bytes}

pub returns : goal.returns
unfolding header_bytes
returns c =
    rw (c.in_ok-append-2.ensures.ok, c.in_ok-append.ensures.ok, c.write_u32-3.ensures, c.write_u32-2.ensures, c.write_u16.ensures, c.write_u32.ensures)
    (append_assoc c.args.out.now _ c.args.payload.now)
