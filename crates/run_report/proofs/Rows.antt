-- The text of a connection, worked out by hand.
use Rattle.std.proofs.Common.{◌≡◌, [], ◌∷◌, refl, true, false, Some, None}
use Rattle.std.specs.Prelude.{codes}
use Rattle.std.specs.Fmt.{digits}
use Rattle.frame_transport.specs.declared.fault.FeedFault.TheVariants.{Kind}
use Rattle.run_report.specs.ConnectionReport.{cut_text, not_held_text}

-- a client gives back a block that it never had
a-false-reclaim : not_held_text 1 (9 ∷ []) ≡ codes "notheld 1 9\n"
unfolding digits
a-false-reclaim = refl

-- a stream that ends inside the frame at its 80th byte, and one whose link failed
cut-short : cut_text 2 false None 79 (0 ∷ 0 ∷ []) ≡ codes "cut 2 79 Short\n"
unfolding digits
cut-short = refl

not-cut : cut_text 2 true None 79 (0 ∷ 0 ∷ []) ≡ []
not-cut = refl

whole : cut_text 2 false None 79 [] ≡ []
whole = refl

-- a frame of kind 9
at-fault : cut_text 2 true (Some (Kind 83 9)) 79 (0 ∷ []) ≡ codes "cut 2 83 Kind\n"
unfolding digits
at-fault = refl
