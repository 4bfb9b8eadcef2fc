use Rattle.std.proofs.Common.{◌≡◌, ℕ, List, [], ◌∷◌, ◌++◌, codes, length, append_assoc, arith}
use Rattle.std.proofs.lemmas.Result.{on_ok_weaker}
use Rattle.std.specs.Fmt.{decimal}
use Rattle.mrpc_table.specs.Text.{line}
use Rattle.frame_view.proofs.heads.put_hello.Goals as goal

-- the parts of the line, in order
line_of_parts : (out size a b c d e : List ℕ) (sent conn : ℕ) → sent ≡ conn → a ≡ out ++ codes "# hello conn"
    → b ≡ a ++ 32 ∷ decimal sent → c ≡ b ++ codes " bytes" → d ≡ c ++ 32 ∷ size → e ≡ d ++ codes "\n"
    → e ≡ out ++ line (codes "#" ∷ codes "hello" ∷ codes "conn" ∷ decimal conn ∷ codes "bytes" ∷ size ∷ [])
line_of_parts out size a b c d e sent conn same p q r s t = rw (t, s, r, q, p, same) (simp append_assoc)

pub returns : goal.returns
returns c =
    let f = c.args.frame.now in
    on_ok_weaker c.append-3.result
    (line_of_parts c.args.out.now (decimal (length f.payload.now)) _ _ _ _ _ c.from.result f.conn
    (omega arith) c.in_ok-append.ensures.ok c.in_ok-append_word.ensures.ok c.in_ok-append-2.ensures.ok
    c.in_ok-append_word-2.ensures.ok)
    c.append-3.ensures.ok
