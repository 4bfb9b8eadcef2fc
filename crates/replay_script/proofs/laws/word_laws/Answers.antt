use Rattle.replay_script.proofs.laws.word_laws.Goals as goal

pub returns : goal.returns
returns c =
    let words = c.meanings_or_reason.ensures in
    let items = c.declaration_or_fault.ensures in
    record {
      meanings_are_unique = λ sorts ws ms ns. words.one sorts ws ms ns;
      meanings_or_first_reason = λ sorts ws. words.either sorts ws;
      meanings_or_reason = λ sorts ws ms r. words.not_both sorts ws ms r;
      order = λ r q. words.order r q;
      one_item = λ T skips d f line text i j x y. items.one T skips d f line text i j x y;
      declaration_fault_is_unique = λ T skips d f line text m n r q. items.one_fault T skips d f line text m n r q;
      declaration_or_fault = λ T skips d f line text i x n r. items.not_both T skips d f line text i x n r;
      declaration_exists = λ T skips d f line text. items.either T skips d f line text;
      declaration_remainder = λ T skips d f line text i x. items.left T skips d f line text i x;
      declaration_is_new = λ T skips d f line text i x. c.declaration_preserves_validity.ensures.new T skips d f line text i x;
      declaration_is_valid = λ T skips d f line text i x. c.declaration_preserves_validity.ensures.sound T skips d f line text i x;
    }
