use Rattle.std.proofs.Common.{ap, subst, ◌∙◌, string_bytes}
use Rattle.scenario.proofs.CommonNames.{flat_map, shown, Writes}
use Rattle.scenario.proofs.TranscriptLemmas.{shown_transcripts, texts_shown}
use Rattle.scenario.proofs.threading.run_threads_with.Goals as goal

pub returns-clause-writes : goal.returns-clause-writes
returns-clause-writes g c =
    let plan = c.args.scenario.now in
    let style = c.args.options.style in
    let user = c.args.options.user in
    let shown_texts = texts_shown c.args.options c.in_ok-transcripts.transcripts.items c.in_ok-texts.texts.items c.in_ok-transcripts.ensures.shows c.in_ok-texts.ensures.texts in
    let told = c.in_ok-transcripts.ensures.told shown_texts.1 in
    let text = ap (flat_map string_bytes) c.as_slice-2.ensures.value ∙ shown_texts.0 ∙ ap (flat_map (shown style user)) told
    ∙ shown_transcripts style user plan c.in_ok-transcripts.ensures.users in
    subst (Writes c.write_texts.result (g.W.Write.contents c.args.writer.now) (g.W.Write.contents c.write_texts.new.writer)) text c.write_texts.ensures.writes
