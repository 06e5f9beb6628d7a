use Rattle.std.proofs.Common.{◌≡◌, ◌∙◌, sym, arith}
use Rattle.wait4.proofs.CommonNames.{pid_owner}
use Rattle.wait4.proofs.News.{told_above, report-none, report-found, report-passed}
use Rattle.wait4.proofs.collecting.report_among_news.Goals as goal

pub loop-init : goal.loop-init
loop-init c = record { passed = λ r at told. told_above c.args.tables.now.rows c.requires.sound r at }

pub returns-in_default-next_news : goal.returns-in_default-next_news
returns-in_default-next_news c =
    let mine : pid_owner c.args.caller ≡ c.in-Some.user = grind (arith, c.in-Some.ensures.owner, c.get.ensures.number) in
    record {
      row = sym (report-none c.args.tables.now.rows c.requires.sound c.in-Some.user c.args.caller c.args.options c.in-Some.ensures.home.0 mine c.loop.after c.loop.invariant.passed
          (sym c.next_news.ensures.row ∙ c.in_default-next_news.is));
    }

pub returns-then-reportable : goal.returns-then-reportable
returns-then-reportable c =
    let mine : pid_owner c.args.caller ≡ c.in-Some.user = grind (arith, c.in-Some.ensures.owner, c.get.ensures.number) in
    record {
      row = sym (report-found c.args.tables.now.rows c.requires.sound c.in-Some.user c.args.caller c.args.options c.in-Some.ensures.home.0 mine c.loop.after c.loop.invariant.passed c.in-Some-next_news.p
          (sym c.next_news.ensures.row ∙ c.in-Some-next_news.is) (sym c.reportable.ensures ∙ c.if-reportable.true));
    }

pub loop-preserved : goal.loop-preserved
loop-preserved c =
    let mine : pid_owner c.args.caller ≡ c.in-Some.user = grind (arith, c.in-Some.ensures.owner, c.get.ensures.number) in
    record {
      passed = rw c.get-after.ensures.number (report-passed c.args.tables.now.rows c.requires.sound c.in-Some.user c.args.caller c.args.options c.in-Some.ensures.home.0 mine c.loop.after c.loop.invariant.passed c.in-Some-next_news.p
          (sym c.next_news.ensures.row ∙ c.in-Some-next_news.is) (sym c.reportable.ensures ∙ c.if-reportable.false));
    }
