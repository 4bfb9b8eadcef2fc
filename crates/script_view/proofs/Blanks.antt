-- Consecutive submissions without a message.
use Rattle.std.proofs.Common.{◌≡◌, ℕ, zero, suc, ◌+◌, List, ◌++◌, sym, ap, ◌∙◌, append_assoc, append-nil, arith}
use Rattle.script_view.specs.Playing.{blank_line, blank_lines}

at_end : (conn count : ℕ) → blank_lines conn count ++ blank_line conn ≡ blank_lines conn (suc count)
unfolding blank_lines
at_end conn zero = sym (append-nil (blank_line conn))
at_end conn (suc more) = append_assoc (blank_line conn) (blank_lines conn more) (blank_line conn) ∙ ap (λ (bs : List ℕ). blank_line conn ++ bs) (at_end conn more)

-- one more
pub blanks_more : (conn count : ℕ) (old text new : List ℕ) → text ≡ old ++ blank_lines conn count → new ≡ text ++ blank_line conn → new ≡ old ++ blank_lines conn (count + 1)
blanks_more conn count old text new before is =
    let plus : suc count ≡ count + 1 = omega arith in
    is ∙ ap (λ (bs : List ℕ). bs ++ blank_line conn) before ∙ append_assoc old (blank_lines conn count) (blank_line conn)
    ∙ ap (λ (bs : List ℕ). old ++ bs) (at_end conn count ∙ ap (blank_lines conn) plus)
