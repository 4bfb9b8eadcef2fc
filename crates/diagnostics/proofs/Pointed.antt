-- Two parts that are appended in order make one snippet.
use Rattle.std.proofs.Common.{◌≡◌, ◌++◌, ◌+◌, ◌-◌, ◌/◌, ℕ, List, Bool, true, refl, append_assoc}
use Rattle.std.specs.Prelude.{max, min, ◌↔◌}
use Rattle.std.specs.Str.{IsUtf8}
use Rattle.diagnostics.specs.Snippets.{IsLineAt, IsSnippet, snippet_header, line_number_at, underline, bytes_between}

pub points : (text : List ℕ) (at end width number start finish from stop to : ℕ) (is_utf8 : Bool) (sentence before behind after : List ℕ)
    → number ≡ line_number_at text at
    → IsLineAt text at start finish
    → from ≡ max start (at - width / 2)
    → to ≡ min finish (from + width)
    → stop ≡ max at (min end to)
    → (is_utf8 ≡ true ↔ IsUtf8 (bytes_between text from to))
    → behind ≡ before ++ snippet_header number (at - start + 1) sentence
    → after ≡ behind ++ underline text is_utf8 from at stop to
    → (shown : List ℕ) × IsSnippet text at end width sentence shown × (after ≡ before ++ shown)
points text at end width number start finish from stop to is_utf8 sentence before behind after n line f t s utf8 p q = (
  snippet_header (line_number_at text at) (at - start + 1) sentence ++ underline text is_utf8 from at stop to,
  record {
    line_start = start;
    line_end = finish;
    line = line;
    from = from;
    begins = f;
    to = to;
    ends = t;
    stop = stop;
    marks = s;
    is_utf8 = is_utf8;
    readable = utf8;
    spelled = refl;
  },
  rw (q, p, n, append_assoc) refl,
)
