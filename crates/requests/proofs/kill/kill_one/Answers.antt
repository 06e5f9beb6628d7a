use Rattle.requests.proofs.CommonNames.{sym, ◌∙◌, rules, arith, nat_tests}
use Rattle.requests.proofs.KillReaches.{unseen_reached, seen_reached}
use Rattle.requests.proofs.kill.kill_one.Goals as goal

pub returns-in_default : goal.returns-in_default
returns-in_default c = grind (arith, nat_tests, unseen_reached c.args.settings c.args.pass c.args.user c.args.number c.args.tables.now.rows c.requires.sound.stands.rising (sym c.seen_pid.ensures.seen ∙ (search rules)))

pub returns : goal.returns
returns c = grind (arith, nat_tests, seen_reached c.args.settings c.args.pass c.args.user c.args.number c.args.tables.now.rows c.requires.sound.stands.rising c.in-Some.pid (sym c.seen_pid.ensures.seen ∙ c.in-Some.is))
