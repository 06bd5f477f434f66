use Rattle.std.proofs.Common.{◌≡◌, ◌+◌, ◌++◌, [], ◌∷◌, length, map, refl, sym, ap, ◌∙◌, subst, arith, append_assoc}
use Rattle.std.specs.List.{AllByRecursion}
use Rattle.std.proofs.lemmas.List.{length-map, map-append}
use Rattle.ct_search.specs.declared.case.Case.{Case}
use Rattle.ct_search.specs.Search.{seen, all_seen, AreHeld, AreStarts}
use Rattle.ct_search.proofs.Keeping.{held_push}
use Rattle.ct_search.proofs.Complete.{starts_length, starts_more}
use Rattle.ct_search.proofs.exploring.started.Goals as goal

pub loop-kept-preserved : goal.loop-kept-preserved
loop-kept-preserved g c =
    let state = g.M.Machine.state in
    let m = g.M.Machine.meaning c.args.machine.now in
    let q = c.args.keeper.now in
    let kept = c.in-Some.kept in
    let yielded = c.loop-kept.yielded in
    let cases = c.loop-kept.cases.items in
    let it : Case _ = record { kept = kept; key = c.key-key.result; start = c.len-start.result; order = c.new.result } in
    let rest = subst (AllByRecursion (g.M.Machine.Holds q)) c.in-Some.ensures.steps.0 c.loop-kept.invariant.rest in
    let many : length (all_seen state q cases) ≡ length (map (state q) yielded) = starts_length m 0 (map (state q) yielded) (all_seen state q cases) c.loop-kept.invariant.starts in
    let number : c.len-start.result ≡ 0 + length (map (state q) yielded) = omega (arith, many, length-map cases (seen state q), c.len-start.ensures, c.loop-kept.cases.ok.0) in
    let one =
    starts_more m 0 c.len-start.result (map (state q) yielded) (all_seen state q cases) (state q kept) (seen state q it) c.loop-kept.invariant.starts number
    (record { state = refl; key = c.key-key.ensures; start = refl; order = c.new.ensures.items }) in
    record {
      held = subst (AreHeld g.M.Machine.Holds q) (sym c.in_ok-push.ensures.items) (held_push g.M.Machine.Holds state q cases it c.loop-kept.invariant.held rest.0);
      starts =
          subst (λ ss. AreStarts m 0 ss (all_seen state q c.push.new.self.items)) (sym (map-append (state q) yielded (kept ∷ [])))
          (subst (AreStarts m 0 (map (state q) yielded ++ state q kept ∷ [])) (sym (ap (all_seen state q) c.in_ok-push.ensures.items ∙ map-append (seen state q) cases (it ∷ []))) one);
      whole = c.loop-kept.invariant.whole ∙ ap (λ l. yielded ++ l) c.in-Some.ensures.steps.0 ∙ sym (append_assoc yielded (kept ∷ []) c.next.new.self.rest.items);
      rest = rest.1;
    }
