use Rattle.std.proofs.Common.{ℕ, ◌<◌, [], ◌∷◌, length, get_or, sym, subst}
use Rattle.std.specs.Prelude.{MatchOption, slice_get}
use Rattle.std.specs.List.{Contains}
use Rattle.std.proofs.lemmas.List.Elements.{All-push, Contains-get_or}
use Rattle.ct_search.specs.declared.case.Case.{Case}
use Rattle.ct_search.specs.Meaning.{May}
use Rattle.ct_search.specs.Search.{seen, all_seen, AreMoves}
use Rattle.ct_search.proofs.Lists.{all_front, all_middle}
use Rattle.ct_search.proofs.Downward.{map_at}
use Rattle.ct_search.proofs.diving.put_moves.Goals as goal

pub loop-place-init : goal.loop-place-init
loop-place-init g c =
    let state = g.M.Machine.state in
    let m = g.M.Machine.meaning c.args.machine.now in
    let q = c.args.keeper.now in
    let cases = c.args.met.now.cases.items in
    let places = c.in_ok-places.places.items in (
      c.requires.moves,
      λ j e lt.
          let there = subst (λ l. Contains l (get_or places j e)) c.in_ok-places.ensures (Contains-get_or places j e lt) in
          map_at (λ (x : Case _). May m x.kept (get_or places j e)) (seen state q) cases c.args.case c.index.result.now c.requires.there
          (subst (λ (x : Case _). May m (state q x.kept) (get_or places j e)) c.index.ensures there),
    )

pub loop-place-preserved : goal.loop-place-preserved
loop-place-preserved g c =
    let m = g.M.Machine.meaning c.args.machine.now in
    let cases = all_seen g.M.Machine.state c.args.keeper.now c.args.met.now.cases.items in
    let rest = c.pop.new.self.items in
    let whole = subst (λ l. (j e : ℕ) → j < length l → MatchOption (slice_get cases c.args.case) ⊥ (λ (x : Case _). May m x.kept (get_or l j e))) c.in-Some.ensures.items c.loop-place.invariant.1 in (
      subst (AreMoves m cases) (sym c.in_ok-push.ensures.items)
          (All-push (λ (move : ℕ × ℕ). MatchOption (slice_get cases move.0) ⊥ (λ (x : Case _). May m x.kept move.1)) c.loop-place.moves.items (c.args.case, c.in-Some.place) c.loop-place.invariant.0
          (all_middle (λ place. MatchOption (slice_get cases c.args.case) ⊥ (λ (x : Case _). May m x.kept place)) rest c.in-Some.place [] whole)),
      all_front (λ place. MatchOption (slice_get cases c.args.case) ⊥ (λ (x : Case _). May m x.kept place)) rest (c.in-Some.place ∷ []) whole,
    )
