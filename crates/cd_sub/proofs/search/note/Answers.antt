use Rattle.std.proofs.Common.{◌≡◌, ◌∙◌, arith}
use Rattle.cd_sub.proofs.SearchLemmas.{noted_held, noted_new, at_index}
use Rattle.cd_sub.proofs.search.note.Goals as goal
use Rattle.cd_sub.proofs.search.note.Goals.{in-Holds, in-Unknown+in_ok-push-in-Unknown}

pub loop-part-preserved : goal.loop-part-preserved
loop-part-preserved c =
    let i = c.loop-part.part-index in
    let so_far = c.loop-part.invariant in
    elim c.match-marks-part.branch [
      | in-Holds w ↦
          let same : c.match-marks-part.met.items ≡ c.loop-part.met.items = cc in
          let step =
          noted_held c.args.marks.now c.loop-part.marks c.match-marks-part.marks c.args.met.now.items c.loop-part.met.items c.match-marks-part.met.items c.args.parts.now i
          w.marks-is same (omega arith) w.in-Holds.is so_far.notes so_far.noted in
          record { notes = step.0; noted = step.1 }
      | in-Unknown+in_ok-push-in-Unknown w ↦
          let moved : c.match-marks-part.met.items ≡ w.push.new.self.items = cc in
          let inside = at_index _ c.args.parts.now i (omega arith) c.requires in
          let step =
          noted_new c.args.marks.now c.loop-part.marks c.match-marks-part.marks c.args.met.now.items c.loop-part.met.items c.match-marks-part.met.items c.args.parts.now i
          w.marks-is (moved ∙ w.in_ok-push-in-Unknown.ensures.items) (omega arith) w.in-Unknown.is (omega arith) so_far.notes so_far.noted in
          record { notes = step.0; noted = step.1 }
    ]
