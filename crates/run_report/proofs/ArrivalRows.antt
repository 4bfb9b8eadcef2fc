-- Lines worked out by hand, as terms.
use Rattle.std.proofs.Common.{◌≡◌, codes, Some, None, true, false, refl}
use Rattle.std.specs.Fmt.{digits}
use Rattle.mrpc_table.specs.Text.{line}
use Rattle.wire_decode.specs.declared.fault.DecodeReason.TheVariants.{Utf8}
use Rattle.frame_transport.specs.declared.fault.FeedFault.TheVariants.{TooLong, Version}
use Rattle.mrpc_table.specs.declared.table.Table.{Table}
use Rattle.receive_core.specs.declared.arrival.DropCause.TheVariants.{Hello as IsHello, NoMethod, Decode, Oversize}
use Rattle.message_delivery.specs.declared.arrivals.ArrivalLine.TheVariants.{Dropped}
use Rattle.schema_binding.specs.declared.fault.AgreeFault.TheVariants.{Field, Methods, Mismatch, NoService}
use Rattle.link_handshake.specs.declared.unbound.Unbound.TheVariants.{Transport, Ended, Cut, Hello, Disagrees}
use Rattle.run_report.specs.Lines.{arrival_words, cut_words, not_held_words, short_words, unbound_words, waits_words}

not_held : line (not_held_words 1 9) ≡ codes "notheld 1 9\n"
unfolding digits
not_held = refl

-- ---- truncated streams, and frames that wait

cut_off : line (cut_words 1 (TooLong 70 262145)) ≡ codes "cut 1 70 TooLong\n"
unfolding digits
cut_off = refl

short : line (short_words 2 94) ≡ codes "cut 2 94 Short\n"
unfolding digits
short = refl

waits : line (waits_words 2 1 0 3) ≡ codes "waits 2 1 0 3\n"
unfolding digits
waits = refl

-- ---- frames that were dropped

dropped_hello : (T : Table) → line (arrival_words T None 2 (Dropped 3 0 0 IsHello)) ≡ codes "dropped 2 3 0 0 Hello\n"
unfolding digits
dropped_hello T = refl

no_method : (T : Table) → line (arrival_words T None 2 (Dropped 1 7 1 NoMethod)) ≡ codes "dropped 2 1 7 1 NoMethod\n"
unfolding digits
no_method T = refl

faulty : (T : Table) → line (arrival_words T None 2 (Dropped 1 0 1 (Decode Utf8 4))) ≡ codes "dropped 2 1 0 1 Utf8 4\n"
unfolding digits
faulty T = refl

too_large : (T : Table) → line (arrival_words T None 1 (Dropped 2 0 1 (Oversize 5 4))) ≡ codes "dropped 1 2 0 1 Oversize 5 4\n"
unfolding digits
too_large T = refl

-- ---- connections that weren't bound

transport : line (unbound_words 1 Transport) ≡ codes "unbound 1 transport\n"
unfolding digits
transport = refl

ended : line (unbound_words 1 Ended) ≡ codes "unbound 1 ended\n"
unfolding digits
ended = refl

cut_before : line (unbound_words 1 (Cut (Version 5 3))) ≡ codes "unbound 1 cut 5 Version\n"
unfolding digits
cut_before = refl

no_hello : line (unbound_words 1 (Hello 0)) ≡ codes "unbound 1 hello 0\n"
unfolding digits
no_hello = refl

no_service : line (unbound_words 2 (Disagrees (NoService true false))) ≡ codes "unbound 2 service 1 0\n"
unfolding digits
no_service = refl

mismatch : line (unbound_words 1 (Disagrees (Mismatch 33 (Some 109) (Some 102)))) ≡ codes "unbound 1 mismatch 33 109 102\n"
unfolding digits
mismatch = refl

one_has_ended : line (unbound_words 1 (Disagrees (Mismatch 52 None (Some 101)))) ≡ codes "unbound 1 mismatch 52 - 101\n"
unfolding digits
one_has_ended = refl

other_methods : line (unbound_words 1 (Disagrees (Methods 2))) ≡ codes "unbound 1 methods 2\n"
unfolding digits
other_methods = refl

other_field : line (unbound_words 2 (Disagrees (Field (codes "M") 1))) ≡ codes "unbound 2 field M 1\n"
unfolding digits
other_field = refl
