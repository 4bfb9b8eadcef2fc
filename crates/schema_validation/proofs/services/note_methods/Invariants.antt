use Rattle.std.proofs.Common.{◌≡◌, ◌+◌, ◌-◌, ◌^◌}
use Rattle.std.specs.Prelude.{min}
use Rattle.schema_validation.specs.Methods.{rpcs_of}
use Rattle.schema_validation.specs.Recording.{HasRecorded, IsOfFirst, IsOfElement, IsMethodViolationAt}
use Rattle.schema_validation.proofs.Serving.{methods_of}
use Rattle.schema_validation.proofs.services.note_methods.Given as goal

-- the violations of the methods so far are recorded, and the methods are counted
abbrev pub invariant-loop-service : goal.invariant-loop-service
invariant-loop-service l = record {
  meets : HasRecorded (IsOfFirst (methods_of l.fn.files.services l.service-index) (IsOfElement (rpcs_of l.fn.files)
      (IsMethodViolationAt l.fn.files)))
      l.fn.first l.first;
  count : l.methods ≡ min (methods_of l.fn.files.services l.service-index) (2 ^ 64 - 1);
}

abbrev pub invariant-loop-rpc : goal.invariant-loop-rpc
invariant-loop-rpc l = record {
  meets : HasRecorded (IsOfFirst (methods_of l.fn.files.services l.service-index + l.rpc-index)
      (IsOfElement (rpcs_of l.fn.files) (IsMethodViolationAt l.fn.files))) l.fn.first l.first;
  count : l.methods ≡ min (methods_of l.fn.files.services l.service-index + l.rpc-index) (2 ^ 64 - 1);
}
