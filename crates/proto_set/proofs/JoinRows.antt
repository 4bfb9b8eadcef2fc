-- Two small files that are joined, worked out by hand. The first has 40 bytes, two messages of which one is nested in
-- the other, and an enum in the inner one. The second has a package, a message with a oneof and reserved numbers, an
-- enum in it, and a service. Then offsets in texts of 3, 0 and 4 bytes.
use Rattle.std.proofs.Common.{◌≡◌, ℕ, zero, suc, ◌+◌, List, [], ◌∷◌, codes, false, ◌<◌, Some, None, refl, ap, arith, sum, take}
use Rattle.std.proofs.lemmas.List.{take_all}
use Rattle.proto_ast.specs.Joined.{Joined}
use Rattle.proto_ast.specs.declared.file.Span.{Span}
use Rattle.proto_ast.specs.declared.file.Word.{Word}
use Rattle.proto_ast.specs.declared.file.Number.{Number}
use Rattle.proto_ast.specs.declared.file.File.{File}
use Rattle.proto_ast.specs.declared.file.FieldType.TheVariants.{Named, Map}
use Rattle.proto_ast.specs.declared.file.FieldLabel.TheVariants.{Plain, Repeated}
use Rattle.mrpc_table.specs.declared.words.Decimal.TheVariants.{Small}
use Rattle.proto_set.specs.declared.linked_file.LinkedFile.{LinkedFile}
use Rattle.proto_set.specs.Joining.{joined}
use Rattle.proto_set.specs.Texts.{IsInTextOf}

abbrev span : ℕ → ℕ → ℕ → Span
span start end line = record { start = start; end = end; line = line }

abbrev word : List ℕ → ℕ → ℕ → ℕ → Word
word name start end line = record { name = name; span = span start end line }

abbrev number : ℕ → ℕ → ℕ → ℕ → Number
number n start end line = record { negative = false; value = Small n; span = span start end line }

-- ---- the files

abbrev first : File
first = record {
  «package» = None;
  imports = [];
  messages =
      record {
        name = word (codes "A") 8 9 1;
        file = 0;
        parent = None;
        fields = record {
          name = word (codes "b") 16 17 2;
          number = number 1 20 21 2;
          kind = Named (word (codes "B") 14 15 2);
          label = Plain;
          oneof = None;
          packed = None;
        } ∷ [];
        oneofs = [];
        ranges = [];
        names = [];
      }
      ∷ record {
        name = word (codes "B") 30 31 3;
        file = 0;
        parent = Some 0;
        fields = [];
        oneofs = [];
        ranges = [];
        names = word (codes "old") 34 37 3 ∷ [];
      }
      ∷ [];
  enums = record {
    name = word (codes "E") 32 33 3;
    file = 0;
    parent = Some 1;
    values = record { name = word (codes "Z") 36 37 3; number = number 0 38 39 3 } ∷ [];
    ranges = [];
    names = [];
  } ∷ [];
  services = [];
}

abbrev second : File
second = record {
  «package» = Some (word (codes "p.q") 1 4 1);
  imports = [];
  messages =
      record {
        name = word (codes "M") 10 11 2;
        file = 0;
        parent = None;
        fields = record {
          name = word (codes "m") 20 21 3;
          number = number 7 24 25 3;
          kind = Map (word (codes "string") 14 20 3) (word (codes "A") 21 22 3);
          label = Repeated;
          oneof = Some 0;
          packed = None;
        } ∷ [];
        oneofs = word (codes "o") 12 13 2 ∷ [];
        ranges = record { first = number 5 26 27 4; last = Some (number 6 28 29 4) }
            ∷ record { first = number 9 30 31 4; last = None } ∷ [];
        names = [];
      }
      ∷ [];
  enums = record {
    name = word (codes "F") 40 41 5;
    file = 0;
    parent = Some 0;
    values = record { name = word (codes "Y") 42 43 5; number = number 0 44 45 5 } ∷ [];
    ranges = [];
    names = [];
  } ∷ [];
  services = record {
    name = word (codes "S") 50 51 6;
    file = 0;
    rpcs = record { name = word (codes "Get") 52 55 6; input = word (codes "M") 56 57 6; output = word (codes ".A") 58 60 6 } ∷ [];
  } ∷ [];
}

abbrev both : List LinkedFile
both = record { file = first; sees = 0 ∷ []; size = 40 } ∷ record { file = second; sees = 1 ∷ 0 ∷ []; size = 70 } ∷ []

-- ---- the joined files

abbrev together : Joined
together = record {
  heads =
      record { «package» = None; sees = 0 ∷ [] }
      ∷ record { «package» = Some (word (codes "p.q") 41 44 1); sees = 1 ∷ 0 ∷ [] }
      ∷ [];
  messages =
      record {
        name = word (codes "A") 8 9 1;
        file = 0;
        parent = None;
        fields = record {
          name = word (codes "b") 16 17 2;
          number = number 1 20 21 2;
          kind = Named (word (codes "B") 14 15 2);
          label = Plain;
          oneof = None;
          packed = None;
        } ∷ [];
        oneofs = [];
        ranges = [];
        names = [];
      }
      ∷ record {
        name = word (codes "B") 30 31 3;
        file = 0;
        parent = Some 0;
        fields = [];
        oneofs = [];
        ranges = [];
        names = word (codes "old") 34 37 3 ∷ [];
      }
      ∷ record {
        name = word (codes "M") 50 51 2;
        file = 1;
        parent = None;
        fields = record {
          name = word (codes "m") 60 61 3;
          number = number 7 64 65 3;
          kind = Map (word (codes "string") 54 60 3) (word (codes "A") 61 62 3);
          label = Repeated;
          oneof = Some 0;
          packed = None;
        } ∷ [];
        oneofs = word (codes "o") 52 53 2 ∷ [];
        ranges = record { first = number 5 66 67 4; last = Some (number 6 68 69 4) }
            ∷ record { first = number 9 70 71 4; last = None } ∷ [];
        names = [];
      }
      ∷ [];
  enums =
      record {
        name = word (codes "E") 32 33 3;
        file = 0;
        parent = Some 1;
        values = record { name = word (codes "Z") 36 37 3; number = number 0 38 39 3 } ∷ [];
        ranges = [];
        names = [];
      }
      ∷ record {
        name = word (codes "F") 80 81 5;
        file = 1;
        parent = Some 2;
        values = record { name = word (codes "Y") 82 83 5; number = number 0 84 85 5 } ∷ [];
        ranges = [];
        names = [];
      }
      ∷ [];
  services = record {
    name = word (codes "S") 90 91 6;
    file = 1;
    rpcs = record { name = word (codes "Get") 92 95 6; input = word (codes "M") 96 97 6; output = word (codes ".A") 98 100 6 } ∷ [];
  } ∷ [];
}

both_together : joined both ≡ together
both_together = refl

none_together : joined [] ≡ record { heads = []; messages = []; enums = []; services = [] }
none_together = refl

-- ---- offsets

abbrev sizes : List ℕ
sizes = 3 ∷ 0 ∷ 4 ∷ []

last_of_first : IsInTextOf sizes 0 2
last_of_first = record { from = omega arith; below = omega arith }

-- the next offset lies in the third text, since the second one is empty
first_of_third : IsInTextOf sizes 2 3
first_of_third = record { from = omega arith; below = omega arith }

none_of_second : (place : ℕ) → IsInTextOf sizes 1 place → ⊥
none_of_second place h = absurd (omega (arith, h.from, h.below))

last_of_third : IsInTextOf sizes 2 6
last_of_third = record { from = omega arith; below = omega arith }

not_behind : IsInTextOf sizes 2 7 → ⊥
not_behind h = absurd (omega (arith, h.below))

-- an offset past all texts lies in none
none_behind : (k : ℕ) → IsInTextOf sizes k 7 → ⊥
none_behind zero h = absurd (omega (arith, h.below))
none_behind (suc zero) h = absurd (omega (arith, h.below))
none_behind (suc (suc zero)) h = absurd (omega (arith, h.below))
none_behind (suc (suc (suc k))) h =
    let below : 7 < sum (take (suc (suc (suc k)) + 1) sizes) = h.below in
    let all : take (suc (suc (suc k)) + 1) sizes ≡ sizes = take_all (suc (suc (suc k)) + 1) sizes (omega arith) in
    absurd (omega (arith, below, ap sum all))
