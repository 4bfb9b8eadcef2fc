-- Streams whose frames and faults were worked out by hand.
use Rattle.std.proofs.Common.{◌≡◌, ◌≢◌, ℕ, [], ◌∷◌, inl, inr, Some, None, refl, arith}
use Rattle.std.proofs.lemmas.List.Elements.{All-nil, All-cons}
use Rattle.frame_transport.specs.Bytes.{frame_bytes, header_bytes}
use Rattle.frame_transport.specs.Frames.{IsFrame, IsSplitOf, HasFaultSoFar, HasVersion, IsFaultAt, long, no_kind, no_version, HasHeaderFault, length_field}
use Rattle.frame_transport.specs.declared.format.Frame.{Frame}
use Rattle.frame_transport.proofs.FaultFacts.{none_before_length, none_before_kind, none_of_fields}
use Rattle.frame_transport.proofs.Splitting.{partial_of_nothing, partial_of_short}
use Rattle.frame_transport.specs.declared.fault.FeedFault.TheVariants.{Version, Kind, TooLong}

good_frame : frame_bytes 1 1 0 1 1 (50 ∷ 6 ∷ 3 ∷ 142 ∷ 2 ∷ 158 ∷ 167 ∷ 5 ∷ [])
    ≡ 0 ∷ 0 ∷ 0 ∷ 8 ∷ 1 ∷ 1 ∷ 0 ∷ 0 ∷ 0 ∷ 0 ∷ 0 ∷ 1 ∷ 0 ∷ 0 ∷ 0 ∷ 1 ∷ 50 ∷ 6 ∷ 3 ∷ 142 ∷ 2 ∷ 158 ∷ 167 ∷ 5 ∷ []
unfolding header_bytes
good_frame = refl

other_frame : frame_bytes 2 1 258 16909060 84281096 (8 ∷ [])
    ≡ 0 ∷ 0 ∷ 0 ∷ 1 ∷ 2 ∷ 1 ∷ 1 ∷ 2 ∷ 1 ∷ 2 ∷ 3 ∷ 4 ∷ 5 ∷ 6 ∷ 7 ∷ 8 ∷ 8 ∷ []
unfolding header_bytes
other_frame = refl

hello_of_version_2 : frame_bytes 3 2 0 1 0 (83 ∷ 10 ∷ [])
    ≡ 0 ∷ 0 ∷ 0 ∷ 2 ∷ 3 ∷ 2 ∷ 0 ∷ 0 ∷ 0 ∷ 0 ∷ 0 ∷ 1 ∷ 0 ∷ 0 ∷ 0 ∷ 0 ∷ 83 ∷ 10 ∷ []
unfolding header_bytes
hello_of_version_2 = refl

-- ---- faults

begun : HasHeaderFault 0 (0 ∷ 0 ∷ 0 ∷ 3 ∷ 1 ∷ 1 ∷ 0 ∷ 0 ∷ 0 ∷ 0 ∷ []) None
unfolding length_field
begun = none_of_fields 0 (0 ∷ 0 ∷ 0 ∷ 3 ∷ 1 ∷ 1 ∷ 0 ∷ 0 ∷ 0 ∷ 0 ∷ []) (omega arith) (omega arith, omega arith) (inl refl)

too_long : IsFaultAt 0 (0 ∷ 4 ∷ 0 ∷ 1 ∷ []) (TooLong 0 262145)
unfolding length_field
too_long = long (omega arith) (omega arith) refl

not_yet : HasHeaderFault 0 (0 ∷ 4 ∷ 0 ∷ []) None
not_yet = none_before_length 0 (0 ∷ 4 ∷ 0 ∷ []) (omega arith)

longest : HasHeaderFault 0 (0 ∷ 4 ∷ 0 ∷ 0 ∷ []) None
unfolding length_field
longest = none_before_kind 0 (0 ∷ 4 ∷ 0 ∷ 0 ∷ []) (omega arith) (omega arith)

-- a kind, and a version that it lacks
lacks_2 : (kind : ℕ) → kind ≢ 3 → HasVersion kind 2 → ⊥
lacks_2 kind other h = elim h [ inl one ↦ omega (arith, one) | inr hello ↦ other hello.0 ]

lacks_3 : (kind : ℕ) → HasVersion kind 3 → ⊥
lacks_3 kind h = elim h [ inl one ↦ omega (arith, one) | inr hello ↦ omega (arith, hello.1) ]

version_2_of_a_request : IsFaultAt 0 (0 ∷ 0 ∷ 0 ∷ 0 ∷ 1 ∷ 2 ∷ []) (Version 5 2)
unfolding length_field
version_2_of_a_request = no_version (omega arith) (omega arith) (omega arith, omega arith) (lacks_2 1 (λ e. omega (arith, e))) refl

version_2_of_a_reply : IsFaultAt 0 (0 ∷ 0 ∷ 0 ∷ 0 ∷ 2 ∷ 2 ∷ []) (Version 5 2)
unfolding length_field
version_2_of_a_reply = no_version (omega arith) (omega arith) (omega arith, omega arith) (lacks_2 2 (λ e. omega (arith, e))) refl

version_3_of_a_hello : IsFaultAt 0 (0 ∷ 0 ∷ 0 ∷ 0 ∷ 3 ∷ 3 ∷ []) (Version 5 3)
unfolding length_field
version_3_of_a_hello = no_version (omega arith) (omega arith) (omega arith, omega arith) (lacks_3 3) refl

version_2_of_a_hello : HasHeaderFault 0 (0 ∷ 0 ∷ 0 ∷ 0 ∷ 3 ∷ 2 ∷ []) None
unfolding length_field
version_2_of_a_hello = none_of_fields 0 (0 ∷ 0 ∷ 0 ∷ 0 ∷ 3 ∷ 2 ∷ []) (omega arith) (omega arith, omega arith) (inr (refl, refl))

version_1_of_a_hello : HasHeaderFault 0 (0 ∷ 0 ∷ 0 ∷ 0 ∷ 3 ∷ 1 ∷ []) None
unfolding length_field
version_1_of_a_hello = none_of_fields 0 (0 ∷ 0 ∷ 0 ∷ 0 ∷ 3 ∷ 1 ∷ []) (omega arith) (omega arith, omega arith) (inl refl)

other_kind : IsFaultAt 0 (0 ∷ 0 ∷ 0 ∷ 0 ∷ 9 ∷ []) (Kind 4 9)
unfolding length_field
other_kind = no_kind (omega arith) (omega arith) (λ is. omega (arith, is.1)) refl

-- the length is checked before the kind, and the kind before the version
length_first : IsFaultAt 7 (0 ∷ 4 ∷ 0 ∷ 1 ∷ 9 ∷ 2 ∷ []) (TooLong 7 262145)
unfolding length_field
length_first = long (omega arith) (omega arith) refl

kind_first : IsFaultAt 7 (0 ∷ 0 ∷ 0 ∷ 1 ∷ 0 ∷ 2 ∷ []) (Kind 11 0)
unfolding length_field
kind_first = no_kind (omega arith) (omega arith) (λ is. omega (arith, is.0)) refl

-- three valid frames in order, with their offsets
first : Frame
first = record { kind = 1; version = 1; method = 0; conn = 1; number = 1; payload = 50 ∷ 6 ∷ 3 ∷ 142 ∷ 2 ∷ 158 ∷ 167 ∷ 5 ∷ []; place = 0 }

second : Frame
second = record { kind = 1; version = 1; method = 0; conn = 1; number = 2; payload = 48 ∷ 3 ∷ 48 ∷ 142 ∷ 2 ∷ 48 ∷ 158 ∷ 167 ∷ 5 ∷ []; place = 24 }

third : Frame
third = record { kind = 1; version = 1; method = 0; conn = 1; number = 3; payload = 50 ∷ 1 ∷ 3 ∷ 50 ∷ 5 ∷ 142 ∷ 2 ∷ 158 ∷ 167 ∷ 5 ∷ []; place = 49 }

first_is : IsFrame first
unfolding first
first_is = record { kind = (omega arith, omega arith); version = inl refl; short = omega arith; method = omega arith; conn = omega arith; number = omega arith }

second_is : IsFrame second
unfolding second
second_is = record { kind = (omega arith, omega arith); version = inl refl; short = omega arith; method = omega arith; conn = omega arith; number = omega arith }

third_is : IsFrame third
unfolding third
third_is = record { kind = (omega arith, omega arith); version = inl refl; short = omega arith; method = omega arith; conn = omega arith; number = omega arith }

three : IsSplitOf 0
    (0 ∷ 0 ∷ 0 ∷ 8 ∷ 1 ∷ 1 ∷ 0 ∷ 0 ∷ 0 ∷ 0 ∷ 0 ∷ 1 ∷ 0 ∷ 0 ∷ 0 ∷ 1 ∷ 50 ∷ 6 ∷ 3 ∷ 142 ∷ 2 ∷ 158 ∷ 167 ∷ 5
    ∷ 0 ∷ 0 ∷ 0 ∷ 9 ∷ 1 ∷ 1 ∷ 0 ∷ 0 ∷ 0 ∷ 0 ∷ 0 ∷ 1 ∷ 0 ∷ 0 ∷ 0 ∷ 2 ∷ 48 ∷ 3 ∷ 48 ∷ 142 ∷ 2 ∷ 48 ∷ 158 ∷ 167 ∷ 5
    ∷ 0 ∷ 0 ∷ 0 ∷ 10 ∷ 1 ∷ 1 ∷ 0 ∷ 0 ∷ 0 ∷ 0 ∷ 0 ∷ 1 ∷ 0 ∷ 0 ∷ 0 ∷ 3 ∷ 50 ∷ 1 ∷ 3 ∷ 50 ∷ 5 ∷ 142 ∷ 2 ∷ 158 ∷ 167 ∷ 5 ∷ [])
    (first ∷ second ∷ third ∷ []) []
unfolding first second third header_bytes
three = record {
  whole = refl;
  each = All-cons IsFrame first (second ∷ third ∷ []) first_is (All-cons IsFrame second (third ∷ []) second_is (All-cons IsFrame third [] third_is (All-nil IsFrame)));
  places = (refl, (refl, (refl, tt)));
  partial = partial_of_nothing;
}

-- a partial frame, without a fault so far
short : HasFaultSoFar 0 (0 ∷ 0 ∷ 0 ∷ 3 ∷ 1 ∷ 1 ∷ 0 ∷ 0 ∷ 0 ∷ 0 ∷ []) None
unfolding length_field
short = record {
  frames = [];
  rest = 0 ∷ 0 ∷ 0 ∷ 3 ∷ 1 ∷ 1 ∷ 0 ∷ 0 ∷ 0 ∷ 0 ∷ [];
  splits = record { whole = refl; each = All-nil IsFrame; places = tt; partial = partial_of_short (0 ∷ 0 ∷ 0 ∷ 3 ∷ 1 ∷ 1 ∷ 0 ∷ 0 ∷ 0 ∷ 0 ∷ []) (omega arith) };
  first = begun;
}

-- a request of version 2 after a whole frame
version_behind : HasFaultSoFar 0 (0 ∷ 0 ∷ 0 ∷ 8 ∷ 1 ∷ 1 ∷ 0 ∷ 0 ∷ 0 ∷ 0 ∷ 0 ∷ 1 ∷ 0 ∷ 0 ∷ 0 ∷ 1 ∷ 50 ∷ 6 ∷ 3 ∷ 142 ∷ 2 ∷ 158
    ∷ 167 ∷ 5 ∷ 0 ∷ 0 ∷ 0 ∷ 0 ∷ 1 ∷ 2 ∷ []) (Some (Version 29 2))
unfolding first header_bytes length_field
version_behind = record {
  frames = first ∷ [];
  rest = 0 ∷ 0 ∷ 0 ∷ 0 ∷ 1 ∷ 2 ∷ [];
  splits = record {
    whole = refl;
    each = All-cons IsFrame first [] first_is (All-nil IsFrame);
    places = (refl, tt);
    partial = partial_of_short (0 ∷ 0 ∷ 0 ∷ 0 ∷ 1 ∷ 2 ∷ []) (omega arith);
  };
  first = no_version (omega arith) (omega arith) (omega arith, omega arith) (lacks_2 1 (λ e. omega (arith, e))) refl;
}

-- two hellos, of version 2 and of version 1
newer : Frame
newer = record { kind = 3; version = 2; method = 0; conn = 1; number = 0; payload = 83 ∷ 10 ∷ []; place = 0 }

older : Frame
older = record { kind = 3; version = 1; method = 0; conn = 2; number = 0; payload = 83 ∷ 10 ∷ []; place = 18 }

newer_is : IsFrame newer
unfolding newer
newer_is = record { kind = (omega arith, omega arith); version = inr (refl, refl); short = omega arith; method = omega arith; conn = omega arith; number = omega arith }

older_is : IsFrame older
unfolding older
older_is = record { kind = (omega arith, omega arith); version = inl refl; short = omega arith; method = omega arith; conn = omega arith; number = omega arith }

hellos : IsSplitOf 0
    (0 ∷ 0 ∷ 0 ∷ 2 ∷ 3 ∷ 2 ∷ 0 ∷ 0 ∷ 0 ∷ 0 ∷ 0 ∷ 1 ∷ 0 ∷ 0 ∷ 0 ∷ 0 ∷ 83 ∷ 10
    ∷ 0 ∷ 0 ∷ 0 ∷ 2 ∷ 3 ∷ 1 ∷ 0 ∷ 0 ∷ 0 ∷ 0 ∷ 0 ∷ 2 ∷ 0 ∷ 0 ∷ 0 ∷ 0 ∷ 83 ∷ 10 ∷ [])
    (newer ∷ older ∷ []) []
unfolding newer older header_bytes
hellos = record {
  whole = refl;
  each = All-cons IsFrame newer (older ∷ []) newer_is (All-cons IsFrame older [] older_is (All-nil IsFrame));
  places = (refl, (refl, tt));
  partial = partial_of_nothing;
}
