-- Blanks and comments: what may separate two tokens of a proto file (Protocol Buffers, proto3 language specification,
-- "Lexical elements").
use Rattle.std.specs.Prelude.{◌≡◌, ℕ, ◌==◌, nat_le, Bool, true, false, not, ◌&&◌, ◌||◌, List, [], ◌∷◌, ◌++◌}
use Rattle.std.specs.List.{list_all}

-- space, tab, line feed, vertical tab, form feed and carriage return
abbrev pub is_blank : ℕ → Bool
is_blank c = c == 32 || (nat_le 9 c && nat_le c 13)

-- the first byte satisfies p
abbrev pub first_satisfies : (ℕ → Bool) → List ℕ → Bool
first_satisfies p [] = false
first_satisfies p (c ∷ cs) = p c

-- a line ends here: at a line feed or at the end of the text
abbrev pub ends_line : List ℕ → Bool
ends_line [] = true
ends_line (c ∷ cs) = c == 10

abbrev pub has_no_line_feed : List ℕ → Bool
has_no_line_feed bytes = list_all (λ c. not (c == 10)) bytes

-- the bytes contain `*/`
abbrev pub has_close : List ℕ → Bool
has_close [] = false
has_close (c ∷ cs) = (c == 42 && first_satisfies (λ d. d == 47) cs) || has_close cs

-- the bytes are blanks and comments, followed by the remainder
pub data HasLeadingGap : List ℕ → List ℕ → Type 0 where
  nothing : {bytes rest : List ℕ} → bytes ≡ rest → HasLeadingGap bytes rest
  blank : {bytes rest : List ℕ} (c : ℕ) (more : List ℕ) → bytes ≡ c ∷ more → is_blank c ≡ true → HasLeadingGap more rest
      → HasLeadingGap bytes rest
  -- `//` up to the end of the line
  line_comment : {bytes rest : List ℕ} (body more : List ℕ) → bytes ≡ 47 ∷ 47 ∷ body ++ more
      → has_no_line_feed body ≡ true → ends_line more ≡ true → HasLeadingGap more rest → HasLeadingGap bytes rest
  -- `/*` up to the next `*/`
  block_comment : {bytes rest : List ℕ} (body more : List ℕ) → bytes ≡ 47 ∷ 42 ∷ body ++ 42 ∷ 47 ∷ more
      → has_close (body ++ 42 ∷ []) ≡ false → HasLeadingGap more rest → HasLeadingGap bytes rest
