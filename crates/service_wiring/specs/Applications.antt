-- What an application of a run is given, and what it does (this project's own).
use Rattle.std.specs.Prelude.{◌≡◌, ◌≤◌, ◌++◌, false, List, map, IfSome}
use Rattle.mrpc_table.specs.Lines.{IsIn}
use Rattle.mrpc_table.specs.Valid.{IsValid}
use Rattle.mrpc_table.specs.declared.limits.TheConstants.{MAX_HEAP, MIN_HEAP}
use Rattle.mrpc_table.specs.declared.table.Table.{Table}
use Rattle.descriptor_ring.specs.declared.limits.TheConstants.{MAX_CAPACITY}
use Rattle.app_program.specs.Programs.{program_reclaims, program_stores, program_submits}
use Rattle.app_program.specs.declared.program.ProgramLine.{ProgramLine}
use Rattle.app_stub.specs.Echoing.{HasEchoed}
use Rattle.app_stub.specs.Ports.{HasSent, IsNew, IsOfPort, HasTakenUpToClose}
use Rattle.app_stub.specs.Serving.{all_served_replies, all_served_stores, blocks_of, submission_of}
use Rattle.app_stub.specs.declared.port.AppEnd.{AppEnd}
use Rattle.app_stub.specs.declared.port.AppPort.{AppPort}
use Rattle.app_stub.specs.declared.port.AppSent.{AppSent}
use Rattle.run_plan.specs.Plans.{HasProgram}
use Rattle.run_plan.specs.declared.application.Role.{Role}
use Rattle.run_plan.specs.declared.application.Role.TheVariants as role
use Rattle.service_wiring.specs.declared.applications.AppTask.{AppTask}

-- ---- what it is given

-- An application can be run. Its port is new, its program suits its role and its heap, its table is valid, and the
-- sizes of heaps and rings are in range.
pub record IsAppTask (job : AppTask) : Type 0 where
  pub port : IsNew job.port
  pub program : HasProgram job.port.writer.heap.words job.role.now
  pub table : IsValid job.table.now
  pub heap : IsIn MIN_HEAP MAX_HEAP job.port.writer.heap.words
  pub receive : IsIn MIN_HEAP MAX_HEAP job.port.reader.heap.words
  pub ring : job.port.capacity ≤ MAX_CAPACITY

-- ---- what it does

module _ {F : Type 0} (port : AppPort F) (end : AppEnd) (left : AppSent) where
  -- A client makes the stores of its program and submits the calls of its program. It gives back the blocks that its
  -- program names, then those of its notices. It reads nothing.
  pub record HasRunClient (program : List ProgramLine) : Type 0 where
    pub stores : end.note.stores ≡ program_stores program
    pub sent : HasSent port.sender.ring port.reclaims.ring (program_submits 0 program)
        (program_reclaims program ++ blocks_of end.notices.taken end.blocks.taken) left
    pub reader : end.reader ≡ port.reader

  -- A server makes the stores and submits the replies of its program for each request that it is notified of. It gives
  -- back the blocks of its notices. It reads nothing.
  pub record HasRunServer (program : List ProgramLine) : Type 0 where
    pub stores : end.note.stores ≡ all_served_stores program end.notices.taken
    pub sent : HasSent port.sender.ring port.reclaims.ring (all_served_replies program 0 end.notices.taken)
        (blocks_of end.notices.taken end.blocks.taken) left
    pub reader : end.reader ≡ port.reader

  -- An echo replies to requests that it is notified of with their own messages, if they have a reply (`HasReply` of
  -- `app_stub`). It gives back the blocks of its notices.
  pub record HasRunEcho (T : Table) : Type 0 where
    pub echoed : HasEchoed (record {
      table = T;
      heap = port.writer.heap.words;
      receive = port.reader.heap.words;
      ring = port.capacity;
    }) end.notices.taken end.note.stores (map submission_of left.calls.items) end.reader
    pub sent : HasSent port.sender.ring port.reclaims.ring (map submission_of left.calls.items)
        (blocks_of end.notices.taken end.blocks.taken) left

-- what an application of a role did at a port
abbrev pub HasRunRole : {F : Type 0} → Role → Table → AppPort F → AppEnd → AppSent → Type 0
HasRunRole (role.Client program) T port end left = HasRunClient port end left program
HasRunRole (role.Server program) T port end left = HasRunServer port end left program
HasRunRole role.Echo T port end left = HasRunEcho port end left T

-- ---- what it leaves

-- it came to its end: it didn't run out of memory, and took all that it was notified of
pub record HasCompleted (job : AppTask) (end : AppEnd) (left : AppSent) : Type 0 where
  pub memory : end.memory ≡ false
  pub all : HasTakenUpToClose end
  pub did : HasRunRole job.role.now job.table.now job.port end left

-- what it left of its port's heaps and rings; it came to its end unless it ran out of memory or the run was stopped
pub record IsEndOf (job : AppTask) (end : AppEnd) : Type 0 where
  pub of_port : IsOfPort job.port end
  pub done : IfSome end.sent (HasCompleted job end)
