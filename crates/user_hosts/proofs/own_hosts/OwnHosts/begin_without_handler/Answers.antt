use Rattle.requests.proofs.CommonNames.{◌≡◌, true, sym, ap, ◌∙◌, sound}
use Rattle.requests.proofs.SoundAfterSpawn.{empty_sound}
use Rattle.user_hosts.specs.Hosts.{host_or}
use Rattle.user_hosts.proofs.own_hosts.OwnHosts.begin_without_handler.Goals as goal

pub returns-clause-makes : goal.returns-clause-makes
returns-clause-makes g c = rw (sym c.with_handler.ensures ∙ c.in_ok-step.was) c.begin.ensures

pub returns-clause-sound : goal.returns-clause-sound
returns-clause-sound g c = ap (λ o. sound (host_or c.args.self.now.settings o)) c.requires ∙ empty_sound c.args.self.now.settings

pub returns-in_err-step-clause-sound : goal.returns-in_err-step-clause-sound
returns-in_err-step-clause-sound g c = ap (λ o. sound (host_or c.args.self.now.settings o)) c.requires ∙ empty_sound c.args.self.now.settings
