use Rattle.requests.proofs.CommonNames.{sym, ◌∙◌, bare, machine_of}
use Rattle.requests.proofs.SoundWithoutEnded.{rows_sound, few_installed}
use Rattle.requests.proofs.HostSteps.{host_barred, host_caller, host_uncalled, host_called}
use Rattle.requests.proofs.host.Host.make.Goals as goal

pub uncalled-reply-requires-clause-sound : goal.uncalled-reply-requires-clause-sound
uncalled-reply-requires-clause-sound g c κs within = rows_sound (machine_of c.self.inside.settings c.self.inside.tables c.self.inside.handlers) c.self.invariant

pub returns-in-Err : goal.returns-in-Err
returns-in-Err g c = rw (c.reply.ensures) (host_barred c.self.view_is c.requires.user c.self.invariant c.fits.ensures (sym c.caller.ensures ∙ c.in-Some.is) c.in-Err.ensures.barred)

pub called-reply-requires-clause-sound : goal.called-reply-requires-clause-sound
called-reply-requires-clause-sound g c κs within = rows_sound (machine_of c.self.inside.settings c.self.inside.tables c.self.inside.handlers) c.self.invariant

pub called-reply-requires-clause-few : goal.called-reply-requires-clause-few
called-reply-requires-clause-few g c κs within = few_installed (machine_of c.self.inside.settings c.self.inside.tables c.self.inside.handlers) c.self.invariant c.args.user c.requires.user

pub called-reply-requires-clause-caller : goal.called-reply-requires-clause-caller
called-reply-requires-clause-caller g c κs within = host_caller c.self.view_is c.requires.user c.self.invariant c.in-Ok.ensures.found

pub invariant_of-self : goal.invariant_of-self
invariant_of-self g c =
    (host_uncalled c.self.view_is c.requires.user c.self.invariant (bare c.args.step.now) c.fits.ensures {rows = c.uncalled-reply.new.tables.rows} {left = c.drop_ended.new.handlers} {r = c.uncalled-reply.result} c.drop_ended.ensures (sym c.caller.ensures ∙ c.in-None.is) c.uncalled-reply.ensures).sound

pub returns-in-None : goal.returns-in-None
returns-in-None g c = rw (← c.self.view_is) (host_uncalled c.self.view_is c.requires.user c.self.invariant (bare c.args.step.now) c.fits.ensures {rows = c.uncalled-reply.new.tables.rows} {left = c.drop_ended.new.handlers} {r = c.uncalled-reply.result} c.drop_ended.ensures (sym c.caller.ensures ∙ c.in-None.is) c.uncalled-reply.ensures)

pub invariant_of-self-in-Some : goal.invariant_of-self-in-Some
invariant_of-self-in-Some g c =
    (host_called c.self.view_is c.requires.user c.self.invariant (bare c.args.step.now) c.fits.ensures {rows = c.called-reply.new.tables.rows} {left = c.drop_ended-in-Some.new.handlers} {r = c.called-reply.result} c.drop_ended-in-Some.ensures c.in-Ok.ensures.found (sym c.caller.ensures ∙ c.in-Some.is) c.requires.other c.called-reply.ensures).sound

pub returns-in-Ok : goal.returns-in-Ok
returns-in-Ok g c = rw (← c.self.view_is) (host_called c.self.view_is c.requires.user c.self.invariant (bare c.args.step.now) c.fits.ensures {rows = c.called-reply.new.tables.rows} {left = c.drop_ended-in-Some.new.handlers} {r = c.called-reply.result} c.drop_ended-in-Some.ensures c.in-Ok.ensures.found (sym c.caller.ensures ∙ c.in-Some.is) c.requires.other c.called-reply.ensures)
