-- Files are read one after another.
use Rattle.std.proofs.Common.{◌≡◌, ◌≢◌, ℕ, ◌+◌, ◌<◌, ◌≤◌, ◌==◌, true, false, List, [], ◌∷◌, ◌++◌, length, inl, inr, refl, ap, sym, ◌∙◌, arith}
use Rattle.std.proofs.lemmas.Bool.{eq-eqb}
use Rattle.std.proofs.lemmas.List.{append-nil, length-map}
use Rattle.proto_set.specs.Bundle.{BundledFile, bundle_text, bundle_first_line, IsBundle, whole_line, no_line_feed, IsBundleOf}
use Rattle.proto_set.specs.BundleFaults
use Rattle.proto_set.specs.BundleFaults.{IsBreakAfter, too_many, no_header, too_few, IsBundleFault, breaks_off}
use Rattle.proto_set.specs.Named.{file_of, files_of}
use Rattle.proto_set.specs.ReaderParts.{HasNoFile}
use Rattle.proto_set.specs.declared.named.Named.{Named}
use Rattle.proto_set.proofs.Fronts.{AreWords, all_words}

-- the input is these files followed by the remainder
pub record StandInFront (input : List ℕ) (files : List BundledFile) (rest : List ℕ) : Type 0 where
  pub text : input ≡ bundle_text files ++ rest
  pub words : AreWords files
  pub few : length files ≤ 64

pub length-files : (packed : List Named) → length (files_of packed) ≡ length packed
length-files packed = length-map packed file_of

breaks : (input : List ℕ) (packed : List Named) (rest : List ℕ) (n : ℕ) → StandInFront input (files_of packed) rest
    → IsBreakAfter (files_of packed) rest → n ≡ length packed → IsBundleFault input (n + 1)
breaks input packed rest n s ends is = breaks_off (record {
  files = files_of packed;
  rest = rest;
  text = s.text;
  words = all_words (files_of packed) s.words;
  ends = ends;
  number = ap (λ (k : ℕ). k + 1) (is ∙ sym (length-files packed));
})

pub breaks_full : (input : List ℕ) (packed : List Named) (rest : List ℕ) (n : ℕ)
    → StandInFront input (files_of packed) rest → rest ≢ [] → n ≡ length packed → n ≡ 64 → IsBundleFault input (n + 1)
breaks_full input packed rest n s some is all = breaks input packed rest n s (too_many (length-files packed ∙ sym is ∙ all) some) is

pub breaks_here : (input : List ℕ) (packed : List Named) (rest : List ℕ) (n : ℕ)
    → StandInFront input (files_of packed) rest → rest ≢ [] → HasNoFile rest → n ≡ length packed → n ≢ 64
    → IsBundleFault input (n + 1)
breaks_here input packed rest n s some none is other =
    let fewer : length (files_of packed) < 64 = omega (arith, s.few, length-files packed, is, other) in
    elim none [
      | inl lacking ↦ breaks input packed rest n s (no_header fewer some lacking) is
      | inr few ↦ breaks input packed rest n s (too_few fewer few) is
    ]

pub some_packed : (packed : List Named) (n : ℕ) → n ≡ length packed → false ≡ (n == 0) → packed ≢ []
some_packed packed n is e none = let yes : (n == 0) ≡ true = eq-eqb n 0 (is ∙ ap (length {A = Named}) none) in cc

pub spelled : (input : List ℕ) (packed : List Named) (rest : List ℕ) → StandInFront input (files_of packed) rest → rest ≡ [] → packed ≢ [] → IsBundleOf input (files_of packed)
spelled input [] rest s nothing some = absurd (some refl)
spelled input (p ∷ ps) rest s nothing some = record {
  text = s.text ∙ ap (λ (r : List ℕ). bundle_text (files_of (p ∷ ps)) ++ r) nothing ∙ append-nil (bundle_text (files_of (p ∷ ps)));
  words = all_words (files_of (p ∷ ps)) s.words;
  some = omega arith;
  few = s.few;
}

-- the first line without its line feed is the whole input
pub unended : (input : List ℕ) → IsBundle input → ((rest : List ℕ) → input ≢ bundle_first_line ++ rest) → IsBundleFault input 1
unended input (whole_line behind e) none = absurd (none behind e)
unended input (no_line_feed e) none = BundleFaults.no_line_feed e refl
