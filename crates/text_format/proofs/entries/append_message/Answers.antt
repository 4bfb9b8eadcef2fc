use Rattle.text_format.proofs.entries.append_message.Goals as goal

pub returns : goal.returns
returns c = rw c.fields_at.ensures.value at c.put_fields.ensures
