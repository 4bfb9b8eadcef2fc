use Rattle.decode_laws.proofs.Endings.{cut_there, done_there}
use Rattle.decode_laws.proofs.Once.{one_fault, never_both}
use Rattle.decode_laws.proofs.laws.view_agrees_with_decode.Goals as goal

pub returns-clause-cut : goal.returns-clause-cut
returns-clause-cut c = cut_there c.reader_agrees_with_decode.ensures.of_frames

pub returns-clause-done : goal.returns-clause-done
returns-clause-done c = done_there

pub returns-clause-one_fault : goal.returns-clause-one_fault
returns-clause-one_fault c =
    one_fault (record {
      parts = c.decoding_is_unique.ensures.parts;
      text_fault = c.decoding_is_unique.ensures.text_fault;
      no_text_fault = c.decoding_is_unique.ensures.no_text_fault;
      cut = c.decoding_is_unique.ensures.cut;
      no_cut = c.decoding_is_unique.ensures.no_cut;
    })

pub returns-clause-never_both : goal.returns-clause-never_both
returns-clause-never_both c =
    never_both (record {
      parts = c.decoding_is_unique.ensures.parts;
      text_fault = c.decoding_is_unique.ensures.text_fault;
      no_text_fault = c.decoding_is_unique.ensures.no_text_fault;
      cut = c.decoding_is_unique.ensures.cut;
      no_cut = c.decoding_is_unique.ensures.no_cut;
    })
