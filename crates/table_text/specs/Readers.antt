-- The code's own: how the names that a reader keeps relate to its draft.
use Rattle.table_text.specs.LineTests.{TypeNames}
use Rattle.table_text.specs.NameIndex.{AreNames}
use Rattle.table_text.specs.Drafts.{enum_names, message_names, method_names, part_names, open_part, oneofs_of_open}
use Rattle.table_text.specs.declared.reader.TableReader.{TableReader}

pub record IsReaderState (t : TypeNames) (r : TableReader) : Type 0 where
  pub enums : AreNames r.known_enums t.enums
  pub messages : AreNames r.known_messages t.messages
  pub enum_names : AreNames r.enum_names (enum_names r.draft)
  pub message_names : AreNames r.message_names (message_names r.draft)
  pub method_names : AreNames r.method_names (method_names r.draft)
  pub inner_names : AreNames r.inner_names (part_names (open_part r.draft.open_part))
  pub oneofs : AreNames r.oneofs (oneofs_of_open r.draft.open_part)
