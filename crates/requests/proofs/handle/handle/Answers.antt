use Rattle.requests.proofs.CommonNames.{rules, refl, sym, ◌∙◌, [], get_or, slot, policies_in, process_of-pid}
use Rattle.requests.proofs.SoundAfterHandle.{asked_at}
use Rattle.requests.proofs.StoppedTracee.{gives_as}
use Rattle.requests.proofs.handle.handle.Goals as goal

pub ask-requires-clause-at : goal.ask-requires-clause-at
ask-requires-clause-at g c = search (rules, process_of-pid)

pub returns-in-Some : goal.returns-in-Some
returns-in-Some g c =
    gives_as (asked_at c.args.settings c.args.caller.now.pid (policies_in c.args.caller.now.pid (get_or c.args.handlers.now (slot c.args.user) [])) c.args.tables.now.rows c.requires.sound c.collect.new.tables.rows c.collect.ensures.rows
    c.in-Got.pid c.in-Got.status (sym c.collect.ensures.collected ∙ c.in-Got.is) _ (sym c.in-Some.is ∙ c.process.ensures.row)) c.ask.ensures

pub returns-in-None : goal.returns-in-None
returns-in-None g c =
    gives_as (asked_at c.args.settings c.args.caller.now.pid (policies_in c.args.caller.now.pid (get_or c.args.handlers.now (slot c.args.user) [])) c.args.tables.now.rows c.requires.sound c.collect.new.tables.rows c.collect.ensures.rows
    c.in-Got.pid c.in-Got.status (sym c.collect.ensures.collected ∙ c.in-Got.is) _ (sym c.in-None.is ∙ c.process.ensures.row)) (record { rows = refl; reply = refl })
