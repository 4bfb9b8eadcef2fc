-- The code's own: the laws of the crates below, as the proofs here combine them.
use Rattle.std.specs.Prelude.{◌≡◌, ◌⊎◌, ℕ, ◌+◌, ◌<◌, ◌≤◌, List, [], ◌++◌, length, All}
use Rattle.mrpc_table.specs.Node.{Node}
use Rattle.mrpc_table.specs.Text.{table_text}
use Rattle.mrpc_table.specs.Valid.{IsValid, HasUniqueTexts}
use Rattle.mrpc_table.specs.declared.table.Table.{Table}
use Rattle.table_text.specs.Faults.{IsFirstTableFault as IsTextFault}
use Rattle.table_text.specs.TableText.{HasTableAfter, IsEndless}
use Rattle.table_text.specs.declared.fault.TableReason.{TableReason}
use Rattle.wire_decode.specs.Means.{Means}
use Rattle.wire_decode.specs.Faults.{IsFirstDecodeFault}
use Rattle.wire_decode.specs.declared.fault.DecodeReason.{DecodeReason}
use Rattle.proto_set.specs.Bundle.{BundledFile as PackedFile}
use Rattle.proto_set.specs.Laws.{IsBundleUnique, IsNeverBundleAndFault, IsBundleOrFault, IsBundleFaultUnique}
use Rattle.schema_files.specs.Resolving.{AreResolvedTo, IsFirstFilesFault as IsFilesFault}
use Rattle.schema_files.specs.declared.fault.FilesFault.{FilesFault}
use Rattle.frame_transport.specs.Frames.{IsSplitUnique, AllStreamsHaveFaultOrNone, IsFaultUnique, IsFrame, bytes_of_frame, concat_frames, AreConsecutiveFrom, IsPartial, IsFaultAt, IsSplitOf}
use Rattle.frame_transport.specs.declared.format.Frame.{Frame}
use Rattle.frame_transport.specs.declared.fault.FeedFault.{FeedFault}
use Rattle.proto_ast.specs.declared.file.File.{File}
use Rattle.proto_ast.specs.declared.file.Span.{Span}
use Rattle.proto_schema.specs.Faults.{IsProtoTextOf, HasProtoFault}
use Rattle.proto_grammar.specs.declared.fault.ProtoReason.{ProtoReason}
use Rattle.proto_ast.specs.Joined.{alone}
use Rattle.schema_validation.specs.Violations.{HasFirstFileViolation}
use Rattle.schema_validation.specs.declared.reason.ResolveReason.{ResolveReason}
use Rattle.schema_resolve.specs.Resolving.{Resolves}
use Rattle.schema_resolve.specs.Tables.{IsTableOf}
use Rattle.policy_declarations.specs.Declarations.{Declared, AreValidDeclarations}
use Rattle.script_grammar.specs.declared.fault.ScriptReason.{ScriptReason}
use Rattle.audit_check.specs.Inputs.{IsAuditInput, IsAuditInputFault as IsInputFault}
use Rattle.audit_rules.specs.declared.rule.Rule.{Rule}
use Rattle.audit_check.specs.Checking.{IsCheckOfText, IsFirstInvalidAuditLine}
use Rattle.audit_check.specs.declared.checked.Checked.{Checked}
use Rattle.audit_check.specs.declared.checked.Checked.TheVariants.{Illegal}

-- after its head an input has the text of one table or lacks an `end` line; a text is canonical or has one
-- first fault, never both
pub record TextLaw : Type 0 where
  pub table_or_endless : (head body : List ℕ)
      → ((table : List ℕ) × (rest : List ℕ) × HasTableAfter head (head ++ body) table rest)
      ⊎ IsEndless head (head ++ body) body
  pub table_or_fault : (text : List ℕ) → ((t : Table) × IsValid t × (text ≡ table_text t))
      ⊎ ((line : ℕ) × (reason : TableReason) × IsTextFault text line reason)
  pub table_is_unique : (head text table rest other more : List ℕ) → HasTableAfter head text table rest
      → HasTableAfter head text other more → (other ≡ table) × (more ≡ rest)
  pub fault_is_unique : (text : List ℕ) (m n : ℕ) (r q : TableReason) → IsTextFault text m r → IsTextFault text n q
      → (m ≡ n) × (r ≡ q)
  pub canonical_has_no_fault : (t : Table) (line : ℕ) (reason : TableReason) → IsValid t
      → IsTextFault (table_text t) line reason
      → ⊥
  pub texts_are_unique : HasUniqueTexts

-- a stream of bytes splits into frames in one way, and ends in one way
pub record FrameLaw : Type 0 where
  pub ends : AllStreamsHaveFaultOrNone
  pub split_is_unique : IsSplitUnique
  pub ends_once : IsFaultUnique
  pub frame_is_unique : (f g : Frame) (more others : List ℕ) → IsFrame f → IsFrame g
      → bytes_of_frame f ++ more ≡ bytes_of_frame g ++ others
      → f.place ≡ g.place → (f ≡ g) × (more ≡ others)
  pub size_of_one : (f : Frame) → length (bytes_of_frame f) ≡ 16 + length f.payload
  pub nothing : IsPartial []
  pub short : (place : ℕ) (bytes : List ℕ) → length bytes < 4 → (fault : FeedFault) → IsFaultAt place bytes fault → ⊥
  pub places : (place : ℕ) (frames others : List Frame) → AreConsecutiveFrom place frames
      → AreConsecutiveFrom (place + length (concat_frames frames)) others → AreConsecutiveFrom place (frames ++ others)
  pub size_of_all : (frames others : List Frame)
      → length (concat_frames (frames ++ others)) ≡ length (concat_frames frames) + length (concat_frames others)
  pub splits : (place : ℕ) (frames others : List Frame) (stream rest : List ℕ) → All IsFrame frames
      → AreConsecutiveFrom place frames → IsSplitOf (place + length (concat_frames frames)) stream others rest
      → IsSplitOf place (concat_frames frames ++ stream) (frames ++ others) rest

-- bytes mean one message or have one first fault, never both
pub record MeaningLaw : Type 0 where
  pub either : (T : Table) (msg : ℕ) (bytes : List ℕ) → ((t : Node) × Means T msg bytes t)
      ⊎ ((reason : DecodeReason) × (place : ℕ) × IsFirstDecodeFault T msg bytes reason place)
  pub meaning_is_unique : (T : Table) (msg : ℕ) (bytes : List ℕ) (t u : Node) → Means T msg bytes t
      → Means T msg bytes u
      → t ≡ u
  pub fault_is_unique : (T : Table) (msg : ℕ) (bytes : List ℕ) (reason other : DecodeReason) (place at : ℕ)
      → IsFirstDecodeFault T msg bytes reason place → IsFirstDecodeFault T msg bytes other at → (reason ≡ other)
      × (place ≡ at)
  pub not_both : (T : Table) (msg : ℕ) (bytes : List ℕ) (t : Node) (reason : DecodeReason) (place : ℕ)
      → Means T msg bytes t → IsFirstDecodeFault T msg bytes reason place → ⊥
  pub frames : FrameLaw

-- a text is of one file or has one first fault, never both; and a file that was read has one table or one
-- first violation, never both
pub record FileLaw : Type 0 where
  pub either : (text : List ℕ) → ((f : File) × IsProtoTextOf text f)
      ⊎ ((q : ProtoReason) × (s : Span) × HasProtoFault text q s)
  pub never_neither : (text : List ℕ) (F : File) → IsProtoTextOf text F → ((T : Table) → Resolves F T → ⊥)
      → ((q : ResolveReason) (s : Span) → HasFirstFileViolation F q s → ⊥) → ⊥
  pub file_is_unique : (text : List ℕ) (f g : File) → IsProtoTextOf text f → IsProtoTextOf text g → f ≡ g
  pub fault_is_unique : (text : List ℕ) (q r : ProtoReason) (s t : Span) → HasProtoFault text q s
      → HasProtoFault text r t
      → (q ≡ r) × (s ≡ t)
  pub file_or_fault : (text : List ℕ) (f : File) (q : ProtoReason) (s : Span) → IsProtoTextOf text f
      → HasProtoFault text q s
      → ⊥
  pub table_is_unique : (text : List ℕ) (F : File) (T U : Table) → IsProtoTextOf text F → IsTableOf (alone F) T
      → IsTableOf (alone F) U → T ≡ U
  pub violation_is_unique : (text : List ℕ) (F : File) (q r : ResolveReason) (s t : Span) → IsProtoTextOf text F
      → HasFirstFileViolation F q s → HasFirstFileViolation F r t → (q ≡ r) × (s ≡ t)
  pub table_or_violation : (F : File) (T : Table) (q : ResolveReason) (s : Span) → Resolves F T
      → HasFirstFileViolation F q s → ⊥

-- after the first line an input is one set of files or breaks off at one file, never both; and files have one
-- table or one first fault, never both
pub record SetLaw : Type 0 where
  pub either : IsBundleOrFault
  pub never_neither : (files : List PackedFile) → 0 < length files → ((T : Table) → AreResolvedTo files T → ⊥)
      → ((e : FilesFault) → IsFilesFault files e → ⊥) → ⊥
  pub set_is_unique : IsBundleUnique
  pub fault_is_unique : IsBundleFaultUnique
  pub set_or_fault : IsNeverBundleAndFault
  pub table_is_unique : (files : List PackedFile) (T U : Table) → AreResolvedTo files T → AreResolvedTo files U → T ≡ U
  pub files_fault_is_unique : (files : List PackedFile) (e f : FilesFault) → IsFilesFault files e → IsFilesFault files f
      → e ≡ f
  pub table_or_files_fault : (files : List PackedFile) (T : Table) (e : FilesFault) → AreResolvedTo files T
      → IsFilesFault files e → ⊥

-- an input of `audit` has one table, policies and text or one fault, never both; and a text has one verdict
-- or one first line that is no line of an audit, never both
pub record AuditLaw : Type 0 where
  pub either : (input : List ℕ)
      → ((loads : ℕ) × (T : Table) × (d : Declared) × (text : List ℕ) × (before : ℕ)
      × IsAuditInput input loads T d text before)
      ⊎ ((line : ℕ) × (r : ScriptReason) × IsInputFault input line r)
  pub input_is_unique : (input : List ℕ) (m n : ℕ) (T U : Table) (d e : Declared) (x y : List ℕ) (k l : ℕ)
      → IsAuditInput input m T d x k → IsAuditInput input n U e y l → (m ≡ n) × (T ≡ U) × (d ≡ e) × (x ≡ y) × (k ≡ l)
  pub fault_is_unique : (input : List ℕ) (m n : ℕ) (r q : ScriptReason) → IsInputFault input m r
      → IsInputFault input n q
      → (m ≡ n) × (r ≡ q)
  pub input_or_fault : (input : List ℕ) (loads : ℕ) (T : Table) (d : Declared) (x : List ℕ) (k line : ℕ)
      (r : ScriptReason) → IsAuditInput input loads T d x k → IsInputFault input line r → ⊥
  pub sound : (input : List ℕ) (loads : ℕ) (T : Table) (d : Declared) (x : List ℕ) (k : ℕ)
      → IsAuditInput input loads T d x k → IsValid T × AreValidDeclarations d
  pub answer_is_unique : (T : Table) (d : Declared) (limit : ℕ) (text : List ℕ) (one other : Checked) → IsValid T
      → IsCheckOfText T d limit text one → IsCheckOfText T d limit text other → one ≡ other
  pub invalid_line_is_unique : (T : Table) (d : Declared) (text : List ℕ) (one other : ℕ) → IsValid T
      → IsFirstInvalidAuditLine T d text one
      → IsFirstInvalidAuditLine T d text other → one ≡ other
  pub answer_or_invalid_line : (T : Table) (d : Declared) (limit : ℕ) (text : List ℕ) (checked : Checked) (line : ℕ)
      → IsValid T
      → IsCheckOfText T d limit text checked → IsFirstInvalidAuditLine T d text line → ⊥
  pub never_neither : (T : Table) (d : Declared) (limit : ℕ) (text : List ℕ) → IsValid T
      → ((checked : Checked) → IsCheckOfText T d limit text checked → ⊥)
      → ((line : ℕ) → IsFirstInvalidAuditLine T d text line → ⊥) → ⊥

-- each reported line number is that of a line of the text, or of the one after its last
pub record LineNumberLaw : Type 0 where
  pub illegal : (T : Table) (d : Declared) (limit : ℕ) (text : List ℕ) (line : ℕ) (rule : Rule)
      → IsCheckOfText T d limit text (Illegal line rule) → line ≤ length text + 1
  pub invalid_line : (T : Table) (d : Declared) (text : List ℕ) (line : ℕ) → IsFirstInvalidAuditLine T d text line
      → line ≤ length text + 1
