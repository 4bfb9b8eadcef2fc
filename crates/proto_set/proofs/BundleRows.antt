-- Small sets of files, and a smallest example of each kind of fault, as terms.
use Rattle.std.proofs.Common.{◌≡◌, ◌≢◌, ℕ, zero, suc, ◌<◌, List, [], ◌∷◌, ◌++◌, codes, replicate, Some, refl, ap, sym, ◌∙◌, arith}
use Rattle.std.specs.Prelude.{Contains, IsTrue}
use Rattle.std.specs.List.{list_all}
use Rattle.std.proofs.lemmas.List.Elements.{All-nil, All-cons, All-replicate}
use Rattle.std.proofs.lemmas.List.{append-nil}
use Rattle.mrpc_table.specs.Lines.{number_of}
use Rattle.proto_set.specs.Bundle.{BundledFile, paths_of, decimal_word, bundle_first_line, header_line, bundle_text, IsPathWord, IsBundle, whole_line, no_line_feed, IsBundleOf}
use Rattle.proto_set.specs.BundleFaults
use Rattle.proto_set.specs.BundleFaults.{HasNoHeader, HasTooFewBytes, no_file, too_many, no_header, too_few, IsBundleFault, breaks_off}
use Rattle.proto_set.specs.Paths.{IsPath, HaveValidPaths, IsFirstRejected, no_path, second, is_path_byte}
use Rattle.proto_set.proofs.Cuts.{Lacks, IsCut}
use Rattle.proto_set.proofs.Decimals.{decimal_word-from}
use Rattle.proto_set.proofs.Headers.{is_word, none_without_feed, none_without_file, none_without_space, none_without_path, none_without_number}
use Rattle.proto_set.proofs.PathLemmas.{right_none, right_push}

-- ---- numbers

digits_of_0 : decimal_word 0 ≡ codes "0"
digits_of_0 = refl

digits_of_7 : decimal_word 7 ≡ codes "7"
digits_of_7 = refl

digits_of_10 : decimal_word 10 ≡ codes "10"
digits_of_10 = refl

digits_of_255 : decimal_word 255 ≡ codes "255"
digits_of_255 = refl

-- ---- texts

a_header : header_line (codes "a") 12 ≡ codes "file a 12\n"
a_header = refl

abbrev two : List BundledFile
two = (codes "a", codes "x") ∷ (codes "b/c", codes "yz") ∷ []

two_text : bundle_text two ≡ codes "mrpc-files 1\nfile a 1\nxfile b/c 2\nyz"
two_text = refl

-- an empty file
abbrev empty : BundledFile
empty = (codes "a", [])

empty_text : bundle_text (empty ∷ []) ≡ codes "mrpc-files 1\nfile a 0\n"
empty_text = refl

is_bundle : IsBundle (codes "mrpc-files 1\n")
is_bundle = whole_line [] refl

-- the first line may lack its line feed if nothing follows it
unended_bundle : IsBundle (codes "mrpc-files 1")
unended_bundle = no_line_feed refl

-- another first line
no_bundle : IsBundle (codes "mrpc-files 10") → ⊥
no_bundle (whole_line behind e) = not_there behind e
  where
    not_there : (behind : List ℕ) → codes "mrpc-files 10" ≡ bundle_first_line ++ behind → ⊥
    not_there behind e = absurd cc
no_bundle (no_line_feed e) = absurd cc

-- ---- paths

a_word : IsPathWord (codes "a")
a_word = is_word (codes "a") (λ e. cc) ((λ e. omega (arith, e)), tt) ((λ e. omega (arith, e)), tt)

tilde_word : IsPathWord (codes "~")
tilde_word = is_word (codes "~") (λ e. cc) ((λ e. omega (arith, e)), tt) ((λ e. omega (arith, e)), tt)

bc_word : IsPathWord (codes "b/c")
bc_word = is_word (codes "b/c") (λ e. cc)
    ((λ e. omega (arith, e)), ((λ e. omega (arith, e)), ((λ e. omega (arith, e)), tt)))
    ((λ e. omega (arith, e)), ((λ e. omega (arith, e)), ((λ e. omega (arith, e)), tt)))

a_path : IsPath (codes "a")
a_path = record { some = omega arith; short = omega arith; form = refl }

bc_path : IsPath (codes "b/c")
bc_path = record { some = omega arith; short = omega arith; form = refl }

each_kind : IsPath (codes "AZaz09_-./")
each_kind = record { some = omega arith; short = omega arith; form = refl }

longest : IsPath (replicate 255 97)
longest = record { some = omega arith; short = omega arith; form = refl }

too_long : IsPath (replicate 256 97) → ⊥
too_long p = omega (arith, p.short)

no_tilde : IsPath (codes "~") → ⊥
no_tilde p = let form : IsTrue (list_all is_path_byte (codes "~")) = p.form in absurd cc

nothing : IsPath [] → ⊥
nothing p = omega (arith, p.some)

-- ---- sets

two_spelled : IsBundleOf (codes "mrpc-files 1\nfile a 1\nxfile b/c 2\nyz") two
two_spelled = record {
  text = refl;
  words = All-cons IsPathWord (codes "a") (codes "b/c" ∷ []) a_word (All-cons IsPathWord (codes "b/c") [] bc_word (All-nil IsPathWord));
  some = omega arith;
  few = omega arith;
}

another : Contains (paths_of ((codes "a", codes "x") ∷ [])) (codes "b/c") → ⊥
another (zero, within, same) = absurd cc
another (suc k, within, same) = omega (arith, within)

two_right : HaveValidPaths two
two_right =
    right_push ((codes "a", codes "x") ∷ []) (codes "b/c", codes "yz")
    (right_push [] (codes "a", codes "x") right_none a_path (λ c. omega (arith, c.1))) bc_path another

empty_spelled : IsBundleOf (codes "mrpc-files 1\nfile a 0\n") (empty ∷ [])
empty_spelled = record { text = refl; words = All-cons IsPathWord (codes "a") [] a_word (All-nil IsPathWord); some = omega arith; few = omega arith }

-- ---- a file can't be read

-- the input ends after the first line
nothing_there : IsBundleFault (codes "mrpc-files 1\n") 1
nothing_there = breaks_off (record { files = []; rest = []; text = refl; words = All-nil IsPathWord; ends = no_file refl refl; number = refl })

-- or before its line feed
no_feed_there : IsBundleFault (codes "mrpc-files 1") 1
no_feed_there = BundleFaults.no_line_feed refl refl

-- the first header line is malformed
first_at_fault : (rest : List ℕ) → rest ≢ [] → HasNoHeader rest → IsBundleFault (bundle_first_line ++ rest) 1
first_at_fault rest some none = breaks_off (record { files = []; rest = rest; text = refl; words = All-nil IsPathWord; ends = no_header (omega arith) some none; number = refl })

lacks_10_in_a : Lacks 10 (codes "file a ")
lacks_10_in_a = (
  (λ e. omega (arith, e)),
  (
    (λ e. omega (arith, e)),
    (
      (λ e. omega (arith, e)),
      (
        (λ e. omega (arith, e)),
        ((λ e. omega (arith, e)), ((λ e. omega (arith, e)), ((λ e. omega (arith, e)), tt))),
      ),
    ),
  ),
)

-- its number has a leading zero
two_zeros : IsBundleFault (codes "mrpc-files 1\nfile a 00\n") 1
two_zeros =
    let line : IsCut 10 (codes "file a 00\n") (codes "file a 00") [] = record {
      lacks = (
        (λ e. omega (arith, e)),
        (
          (λ e. omega (arith, e)),
          (
            (λ e. omega (arith, e)),
            (
              (λ e. omega (arith, e)),
              (
                (λ e. omega (arith, e)),
                (
                  (λ e. omega (arith, e)),
                  ((λ e. omega (arith, e)), ((λ e. omega (arith, e)), ((λ e. omega (arith, e)), tt))),
                ),
              ),
            ),
          ),
        ),
      );
      text_is = refl;
    } in
    let words : IsCut 32 (codes "a 00") (codes "a") (codes "00") = record { lacks = ((λ e. omega (arith, e)), tt); text_is = refl } in
    first_at_fault (codes "file a 00\n") (λ e. cc) (none_without_number (codes "file a 00\n") (codes "file a 00") [] (codes "a 00") (codes "a") (codes "00") line refl words refl)

-- its path is empty
empty_path : IsBundleFault (codes "mrpc-files 1\nfile  0\n") 1
empty_path =
    let line : IsCut 10 (codes "file  0\n") (codes "file  0") [] = record {
      lacks = (
        (λ e. omega (arith, e)),
        (
          (λ e. omega (arith, e)),
          (
            (λ e. omega (arith, e)),
            (
              (λ e. omega (arith, e)),
              ((λ e. omega (arith, e)), ((λ e. omega (arith, e)), ((λ e. omega (arith, e)), tt))),
            ),
          ),
        ),
      );
      text_is = refl;
    } in
    let words : IsCut 32 (codes " 0") [] (codes "0") = record { lacks = tt; text_is = refl } in
    first_at_fault (codes "file  0\n") (λ e. cc) (none_without_path (codes "file  0\n") (codes "file  0") [] (codes " 0") [] (codes "0") line refl words refl)

-- its line feed is missing
feed_lacks : IsBundleFault (codes "mrpc-files 1\nfile a 0") 1
feed_lacks =
    first_at_fault (codes "file a 0") (λ e. cc)
    (none_without_feed (codes "file a 0") (
      (λ e. omega (arith, e)),
      (
        (λ e. omega (arith, e)),
        (
          (λ e. omega (arith, e)),
          (
            (λ e. omega (arith, e)),
            (
              (λ e. omega (arith, e)),
              ((λ e. omega (arith, e)), ((λ e. omega (arith, e)), ((λ e. omega (arith, e)), tt))),
            ),
          ),
        ),
      ),
    ))

-- it has two words
no_number : IsBundleFault (codes "mrpc-files 1\nfile a\n") 1
no_number =
    let line : IsCut 10 (codes "file a\n") (codes "file a") [] = record {
      lacks = ((λ e. omega (arith, e)), ((λ e. omega (arith, e)), ((λ e. omega (arith, e)), ((λ e. omega (arith, e)), ((λ e. omega (arith, e)), ((λ e. omega (arith, e)), tt))))));
      text_is = refl;
    } in
    first_at_fault (codes "file a\n") (λ e. cc) (none_without_space (codes "file a\n") (codes "file a") [] (codes "a") line refl ((λ e. omega (arith, e)), tt))

-- its first word is another
other_word : IsBundleFault (codes "mrpc-files 1\n\n") 1
other_word =
    first_at_fault (codes "\n") (λ e. cc) (none_without_file (codes "\n") [] [] (record { lacks = tt; text_is = refl }) (λ found e. cc))

-- it states one byte more than follow
one_more : IsBundleFault (codes "mrpc-files 1\nfile a 2\nx") 1
one_more = breaks_off (record {
  files = [];
  rest = codes "file a 2\nx";
  text = refl;
  words = All-nil IsPathWord;
  ends = too_few (omega arith) (record { path = codes "a"; size = 2; behind = codes "x"; word = a_word; text = refl; fewer = omega arith });
  number = refl;
})

-- a number larger than a word of 64 bits holds
too_few_of : (digits : List ℕ) (n : ℕ) → number_of digits ≡ Some n → 0 < n → HasTooFewBytes (codes "file a " ++ (digits ++ codes "\n"))
too_few_of digits n read some = record {
  path = codes "a";
  size = n;
  behind = [];
  word = a_word;
  text = ap (λ (w : List ℕ). codes "file a " ++ (w ++ codes "\n")) (decimal_word-from digits n read) ∙ sym (append-nil (header_line (codes "a") n));
  fewer = some;
}

many_more : IsBundleFault (codes "mrpc-files 1\nfile a 100000000000000000000\n") 1
many_more = breaks_off (record {
  files = [];
  rest = codes "file a 100000000000000000000\n";
  text = refl;
  words = All-nil IsPathWord;
  ends = too_few (omega arith) (too_few_of (codes "100000000000000000000") 100000000000000000000 refl (omega arith));
  number = refl;
})

-- what follows the first file is no header line
byte_behind : IsBundleFault (codes "mrpc-files 1\nfile a 0\nx") 2
byte_behind = breaks_off (record {
  files = empty ∷ [];
  rest = codes "x";
  text = refl;
  words = All-cons IsPathWord (codes "a") [] a_word (All-nil IsPathWord);
  ends = no_header (omega arith) (λ e. cc) (none_without_feed (codes "x") ((λ e. omega (arith, e)), tt));
  number = refl;
})

-- a byte follows the 64th file
sixty_fifth : IsBundleFault (bundle_text (replicate 64 empty) ++ codes "x") 65
sixty_fifth = breaks_off (record {
  files = replicate 64 empty;
  rest = codes "x";
  text = refl;
  words = All-replicate IsPathWord 64 (codes "a") a_word;
  ends = too_many refl (λ e. cc);
  number = refl;
})

-- ---- a path is rejected

first_refused : IsFirstRejected ((codes "~", []) ∷ []) 0
first_refused = record { before = []; file = (codes "~", []); later = []; order = refl; right = right_none; refused = no_path no_tilde; number = refl }

same_twice : IsFirstRejected (empty ∷ empty ∷ []) 1
same_twice = record {
  before = empty ∷ [];
  file = empty;
  later = [];
  order = refl;
  right = right_push [] empty right_none a_path (λ c. omega (arith, c.1));
  refused = second (0, omega arith, refl);
  number = refl;
}

-- a path of another form is read
tilde_spelled : IsBundleOf (codes "mrpc-files 1\nfile ~ 0\n") ((codes "~", []) ∷ [])
tilde_spelled = record { text = refl; words = All-cons IsPathWord (codes "~") [] tilde_word (All-nil IsPathWord); some = omega arith; few = omega arith }
