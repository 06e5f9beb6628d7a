-- Rows of processes and LWPs as numbers.
use Rattle.{lwp_table.specs.declared.LwpData.LwpData, proc_table.specs.declared.ProcData.ProcData}
use Rattle.open_sessions.specs.Flat.{flag, number_or_0, flat_state, flat_mode, due_number}
use Rattle.tracehost_c.specs.declared.rows.{FlatProcess.FlatProcess, FlatLwp.FlatLwp}

abbrev pub flat_process : ProcData → FlatProcess
flat_process p = let s = flat_state p.state in record {
  pid = p.pid;
  parent = p.parent;
  tracer = number_or_0 p.tracer;
  state = s.state;
  lwp = s.lwp;
  signal = s.signal;
  reported = s.reported;
  status = s.status;
  continued = flag p.continued;
  events = p.mask.0;
  pending = p.pending;
}

abbrev pub flat_lwp : LwpData → FlatLwp
flat_lwp l = let m = flat_mode l.mode in record {
  lwp = l.tid;
  pid = l.pid;
  mode = m.mode;
  call = m.call;
  argument = m.argument;
  vfork_child = m.child;
  suspended = flag l.suspended;
  stepping = flag l.stepping;
  blocked = l.blocked;
  pending = l.pending;
  due = due_number l.due;
  flags = l.flags.0;
  child = l.child;
  code = l.code;
}
