-- `table_file::reader::judge_records` meets its contract: the invariant: the records left answer like all of them.
use Rattle.std.proofs.Common.{sym, ◌∙◌, ap₂, ◌++◌, arith}
use Rattle.std.proofs.lemmas.List.{take-append-drop}
use Rattle.table_file.specs.Site.{goals_at}
use Rattle.table_file.proofs.Reading.{judged_more, judged_stop, judged_all}
use Rattle.table_file.proofs.reader.judge_records.Goals as goal

pub returns-in-Some : goal.returns-in-Some
returns-in-Some c =
    let z = c.args.site.now in
    let s = c.split_at.ensures in
    let parts = sym (take-append-drop 6 _) ∙ ap₂ ◌++◌ (sym s.front) (sym s.back) in
    judged_stop _ _ parts s.front_len z.floor z.q (goals_at z) _ _ c.in-Some.ensures.0 c.in-Some.ensures.1 c.loop-i.invariant.answers

pub loop-i-preserved : goal.loop-i-preserved
loop-i-preserved c =
    let z = c.args.site.now in
    let s = c.split_at.ensures in
    let parts = sym (take-append-drop 6 _) ∙ ap₂ ◌++◌ (sym s.front) (sym s.back) in
    record {
      count = omega (arith, c.loop-i.invariant.count, s.back_len);
      answers = judged_more _ _ parts s.front_len z.floor z.q (goals_at z) _ _ c.in_default.ensures c.half_at-low.ensures.0 c.loop-i.invariant.answers;
    }

pub returns : goal.returns
returns c =
    let z = c.args.site.now in
    judged_all z.floor z.q (goals_at z) _ _ _ (omega (arith, c.loop-i.invariant.count)) c.loop-i.invariant.answers
