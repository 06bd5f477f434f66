use Rattle.std.proofs.Common.{◌≡◌, ◌∙◌, ◌<◌, ◌≤◌, length, get_or, ap, sym, refl}
use Rattle.std.specs.Prelude.{option_map}
use Rattle.wm_tree.specs.declared.parts.Module.{Module}
use Rattle.wm_valid.specs.declared.invalid.Invalid.TheVariants as fault
use Rattle.wm_valid.proofs.VisitLemmas.{definition_at, visited_shallow, visited_least, visited_suits}
use Rattle.wm_valid.proofs.bodies.validate_functions.Goals as goal

pub visit-requires-clause-here : goal.visit-requires-clause-here
visit-requires-clause-here c =
    let m : Module = c.args.scope.now.«module».now in
    let functions : c.as_slice-functions.result.now ≡ m.functions = c.as_slice-functions.ensures.value ∙ ap (λ (x : Module). x.functions) c.«module».view_is in
    let bodies : c.as_slice-bodies.result.now ≡ m.codes = c.as_slice-bodies.ensures.value ∙ ap (λ (x : Module). x.codes) c.«module».view_is in
    let lt : c.loop-number.number < length m.codes = rw (← bodies) c.loop-number-test.true in
    let is : c.index-bodies-number.result ≡ get_or m.codes c.loop-number.number c.index-bodies-number.result = rw (← bodies) c.index-bodies-number.is in
    rw functions (definition_at m c.loop-number.number c.index-bodies-number.result c.requires.counts lt is)

pub returns-in-None-clause-shallow : goal.returns-in-None-clause-shallow
returns-in-None-clause-shallow c =
    let m : Module = c.args.scope.now.«module».now in
    let few : length m.codes ≤ c.loop-number.number = rw (ap (λ (x : Module). x.codes) (sym c.«module».view_is), ← c.as_slice-bodies.ensures.value) c.loop-number-test.false in
    ap (option_map (λ n. fault.Nesting n)) (visited_shallow m c.loop-number.number few c.loop-number.codes.items c.loop-number.untyped c.loop-number.invariant)

pub returns-in-None-clause-typed : goal.returns-in-None-clause-typed
returns-in-None-clause-typed c =
    let m : Module = c.args.scope.now.«module».now in
    let few : length m.codes ≤ c.loop-number.number = rw (ap (λ (x : Module). x.codes) (sym c.«module».view_is), ← c.as_slice-bodies.ensures.value) c.loop-number-test.false in
    ap (option_map (λ n. fault.Untyped n)) (visited_least m c.loop-number.number few c.loop-number.codes.items c.loop-number.untyped c.loop-number.invariant ∙ c.in-None.is)

pub returns-in-None-clause-suits : goal.returns-in-None-clause-suits
returns-in-None-clause-suits c =
    let m : Module = c.args.scope.now.«module».now in
    let few : length m.codes ≤ c.loop-number.number = rw (ap (λ (x : Module). x.codes) (sym c.«module».view_is), ← c.as_slice-bodies.ensures.value) c.loop-number-test.false in
    visited_suits m c.loop-number.number few c.loop-number.codes.items (rw c.in-None.is at c.loop-number.invariant)

pub returns-in-Some-clause-faults : goal.returns-in-Some-clause-faults
returns-in-Some-clause-faults c =
    let m : Module = c.args.scope.now.«module».now in
    let few : length m.codes ≤ c.loop-number.number = rw (ap (λ (x : Module). x.codes) (sym c.«module».view_is), ← c.as_slice-bodies.ensures.value) c.loop-number-test.false in
    let shallow = visited_shallow m c.loop-number.number few c.loop-number.codes.items c.loop-number.untyped c.loop-number.invariant in
    let least = visited_least m c.loop-number.number few c.loop-number.codes.items c.loop-number.untyped c.loop-number.invariant ∙ c.in-Some.is in
    rw (shallow, least) refl
