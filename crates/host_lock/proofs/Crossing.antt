-- Rows, steps, replies, entries, sessions, moments and hosts may cross threads.
use denote.RattleType.{RattleType}
use denote.Param.Send.{IsSend, IsSync, sendable}
use Rattle.std.specs.contracts.alloc.Global as global
use Rattle.std.specs.contracts.impls.GlobalAllocator.TheImpl.{ghosts as global_ghosts}
use Rattle.std.specs.contracts.vec.Vec as vec
use Rattle.std.proofs.Crossing.{crosses}
use Rattle.atomic_table.proofs.badge.Badge.TheSendSync as badge
use Rattle.atomic_table.proofs.shared.Shared.TheSendSync as shared
use Rattle.atomic_table.proofs.send_lease.SendLease.TheSendSync as lease
use Rattle.proc_table.specs.contracts.tables.Tables as Tables
use Rattle.proc_table.specs.contracts.processes.Processes as Processes
use Rattle.lwp_table.specs.contracts.table.LwpTable as LwpTable
use Rattle.stop_handlers.specs.declared.handlers.Decider.{Ghosts}
use Rattle.stop_handlers.specs.contracts.handlers.Handler as Handler
use Rattle.step_types.specs.contracts.Reply as Reply
use Rattle.step_types.specs.contracts.step.Step as Step
use Rattle.host_lock.specs.declared.call_log.CallLog.{Ghosts as LogGhosts}
use Rattle.host_lock.specs.contracts.call_log.Unkept as Unkept
use Rattle.host_lock.specs.contracts.journal.Entry as Entry
use Rattle.host_lock.specs.contracts.moment.Moment as Moment
use Rattle.host_lock.specs.contracts.session.Session as Session
use Rattle.host_lock.specs.contracts.shared_state.SharedState as SharedState
use Rattle.host_lock.specs.contracts.view.HostSlot as HostSlot
use Rattle.host_lock.specs.contracts.host.SharedHost as SharedHost

lwp_table_send : IsSend LwpTable.the_row
lwp_table_send = search (crosses, sendable) depth 60 fits 50000

processes_send : IsSend Processes.the_row
processes_send = search (crosses, sendable) depth 60 fits 50000

tables_send : IsSend Tables.the_row
tables_send = search (lwp_table_send, processes_send, crosses, sendable) depth 40 fits 20000

pub reply_send : IsSend Reply.the_row
reply_send = search (crosses, sendable) depth 60 fits 50000

pub entry_send : IsSend Entry.the_row
entry_send = search (crosses, sendable) depth 60 fits 50000

-- all calls of a host, kept
abbrev pub entries_row : RattleType
entries_row = vec.the_row Entry.the_row global.the_row global_ghosts

pub entries_send : IsSend entries_row
entries_send = search (entry_send, crosses, sendable) depth 60 fits 50000

pub unkept_send : IsSend Unkept.the_row
unkept_send = search (crosses, sendable) depth 60 fits 50000

pub moment_send : IsSend Moment.the_row
moment_send = search (badge.the_send, crosses, sendable) depth 80 fits 100000

pub session_send : IsSend Session.the_row
session_send = search (badge.the_send, crosses, sendable) depth 80 fits 100000

module _ (F : RattleType) (d : Ghosts F.Denot) (f : IsSend F) where
  pub handler_send : IsSend (Handler.the_row F d)
  handler_send = search (crosses, sendable) depth 80 fits 100000

  pub step_send : IsSend (Step.the_row (Handler.the_row F d))
  step_send = let handler = handler_send in search (crosses, sendable) depth 80 fits 100000

module _ (F J : RattleType) (d : Ghosts F.Denot) (l : LogGhosts J.Denot) (f : IsSend F) (j : IsSend J) where
  state_send : IsSend (SharedState.the_row F J d l)
  state_send = let handler = handler_send F d f in search (tables_send, crosses, sendable) depth 80 fits 100000

  slot_send : IsSend (HostSlot.the_row F J d l)
  slot_send = let state = state_send in search (crosses, sendable) depth 80 fits 100000

  pub host_sync : IsSync (SharedHost.the_row F J d l)
  host_sync = let slot = slot_send in search (shared.the_sync, lease.the_sync, crosses, sendable) depth 80 fits 100000
