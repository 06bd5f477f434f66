use Rattle.std.proofs.Common.{◌≡◌, ℕ, Some, length, map, refl, ap, ◌∙◌, arith}
use Rattle.std.proofs.Math.Seq.{paste}
use Rattle.std.proofs.lemmas.List.{get_or-map, length-map}
use Rattle.std.proofs.lemmas.List.Edits.{paste_more, paste_all}
use Rattle.wm_instance.proofs.tables.lay.Goals as goal

pub loop-place-preserved : goal.loop-place-preserved
loop-place-preserved c =
    let functions = c.args.functions.now in
    let place = c.loop-place.place in
    let long = length-map functions (λ (f : ℕ). Some f) in
    let more = paste_more c.args.table.now c.args.at (map (λ (f : ℕ). Some f) functions) place (Some 0) (omega arith) (omega (arith, long)) in
    let same = get_or-map (λ (f : ℕ). Some f) functions place 0 (Some 0) (omega arith) in
    cc

pub returns : goal.returns
returns c =
    let table = c.args.table.now in
    let functions = map (λ (f : ℕ). Some f) c.args.functions.now in
    let all : c.loop-place.place ≡ length functions = omega (arith, length-map c.args.functions.now (λ (f : ℕ). Some f)) in
    c.loop-place.invariant ∙ ap (paste table c.args.at functions) all ∙ paste_all table c.args.at functions (length functions) refl
