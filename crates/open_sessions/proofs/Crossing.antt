-- A session may cross threads.
use denote.RattleType.{RattleType}
use denote.Param.Send.{IsSend, owning_send, sendable}
use Rattle.std.specs.contracts.alloc.Global as Heap
use Rattle.std.specs.contracts.impls.GlobalAllocator.TheImpl.{ghosts}
use Rattle.std.specs.contracts.boxed.Box as Box
use Rattle.std.proofs.Crossing.{crosses, Box-send}
use Rattle.proc_table.specs.contracts.tables.Tables as Tables
use Rattle.proc_table.specs.contracts.processes.Processes as Processes
use Rattle.lwp_table.specs.contracts.table.LwpTable as LwpTable
use Rattle.stop_handlers.specs.contracts.handlers.ByPolicy as ByPolicy
use Rattle.stop_handlers.specs.contracts.handlers.ByPolicyDecider.TheImpl as decider
use Rattle.requests.specs.contracts.host.Host as Host
use Rattle.user_hosts.specs.contracts.hosts.UserHosts as UserHosts
use Rattle.user_hosts.specs.contracts.made.Made as Made
use Rattle.open_sessions.specs.contracts.session.Session as Session

lwp_table_send : IsSend LwpTable.the_row
lwp_table_send = search (crosses, sendable) depth 60 fits 50000

processes_send : IsSend Processes.the_row
processes_send = search (crosses, sendable) depth 60 fits 50000

tables_send : IsSend Tables.the_row
tables_send = search (lwp_table_send, processes_send, crosses, sendable) depth 40 fits 20000

-- a user's host, whose handlers answer by their policies
abbrev host_row : RattleType
host_row = Host.the_row ByPolicy.the_row decider.ghosts

host_send : IsSend host_row
host_send = search (tables_send, crosses, sendable) depth 80 fits 100000

box_send : IsSend (Box.the_row host_row Heap.the_row ghosts)
box_send = Box-send host_row host_send

-- a list of steps owns nothing
made_send : IsSend Made.the_row
made_send = owning_send Made.the_type tt (λ d. tt) (λ k x w. tt)

abbrev hosts_row : RattleType
hosts_row = UserHosts.the_row ByPolicy.the_row decider.ghosts

hosts_send : IsSend hosts_row
hosts_send = search (box_send, made_send, crosses, sendable) depth 80 fits 100000

spare_send : IsSend (Box.the_row hosts_row Heap.the_row ghosts)
spare_send = Box-send hosts_row hosts_send

pub session_send : IsSend Session.the_row
session_send = search (spare_send, hosts_send, crosses, sendable) depth 80 fits 100000
