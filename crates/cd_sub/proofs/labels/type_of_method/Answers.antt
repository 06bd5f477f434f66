use Rattle.std.proofs.Common.{◌≡◌, false, List, ℕ, Some, Ordering, get_or, sym, ◌∙◌, ap, arith, refl}
use Rattle.std.proofs.lemmas.Cmp.{nat_list_cmp_total, tied_itself}
use Rattle.std.proofs.lemmas.List.{drop_all}
use Rattle.std.specs.Ordering.{nat_cmp, is_gt}
use Rattle.std.specs.Cmp.Lexicographic.{slice_cmp}
use Rattle.cd_types.specs.declared.entry.TyRef.{TyRef}
use Rattle.cd_sub.specs.TypeUnder.{type_under}
use Rattle.cd_sub.proofs.LabelLemmas.{absent, found, found_passed, passed}
use Rattle.cd_sub.proofs.labels.type_of_method.Goals as goal

-- the method that was read is compared by its name
compared : (methods : List (List ℕ × TyRef)) (at : ℕ) (method : List ℕ × TyRef) (key name : List ℕ) (o : Ordering)
    → method ≡ get_or methods at method → key ≡ method.0 → o ≡ slice_cmp nat_cmp key name
    → slice_cmp nat_cmp (get_or methods at method).0 name ≡ o
compared methods at method key name o is name_is answer =
    ap (λ (m : List ℕ × TyRef). slice_cmp nat_cmp m.0 name) (sym is) ∙ ap (λ k. slice_cmp nat_cmp k name) (sym name_is) ∙ sym answer

itself : (name : List ℕ) → is_gt (slice_cmp nat_cmp name name) ≡ false
itself name = rw (tied_itself nat_list_cmp_total name) refl

pub loop-at-preserved : goal.loop-at-preserved
loop-at-preserved c =
    let key = compared c.args.methods.now c.loop-at.at c.index-methods-at.result c.method_name.result.now c.args.name.now _ c.index-methods-at.is c.method_name.ensures c.in-Less.ensures in
    record {
      inside = omega arith;
      same = λ label upto. passed nat_list_cmp_total c.args.methods.now c.loop-at.at c.index-methods-at.result c.args.name.now label (omega arith) key upto ∙ c.loop-at.invariant.same label upto;
    }

pub returns-in-Equal-clause-found : goal.returns-in-Equal-clause-found
returns-in-Equal-clause-found c =
    let key = compared c.args.methods.now c.loop-at.at c.index-methods-at.result c.method_name.result.now c.args.name.now _ c.index-methods-at.is c.method_name.ensures c.in-Equal.ensures in
    ap (λ (m : List ℕ × TyRef). Some m.1) c.index-methods-at.is
    ∙ sym (found (slice_cmp nat_cmp) c.args.methods.now c.loop-at.at c.index-methods-at.result c.args.name.now (omega arith) key)
    ∙ c.loop-at.invariant.same c.args.name.now (itself c.args.name.now)

pub returns-in-Equal-clause-greater : goal.returns-in-Equal-clause-greater
returns-in-Equal-clause-greater c = λ label less.
    let key = compared c.args.methods.now c.loop-at.at c.index-methods-at.result c.method_name.result.now c.args.name.now _ c.index-methods-at.is c.method_name.ensures c.in-Equal.ensures in
    found_passed nat_list_cmp_total c.args.methods.now c.loop-at.at c.index-methods-at.result c.args.name.now label (omega arith) key less
    ∙ c.loop-at.invariant.same label (rw less refl)

pub returns-in-Greater-clause-found : goal.returns-in-Greater-clause-found
returns-in-Greater-clause-found c =
    let key = compared c.args.methods.now c.loop-at.at c.index-methods-at.result c.method_name.result.now c.args.name.now _ c.index-methods-at.is c.method_name.ensures c.in-Greater.ensures in
    sym (absent nat_list_cmp_total c.args.methods.now c.loop-at.at c.index-methods-at.result c.args.name.now (omega arith) c.requires.rising key)
    ∙ c.loop-at.invariant.same c.args.name.now (itself c.args.name.now)

pub returns-clause-found : goal.returns-clause-found
returns-clause-found c =
    sym (ap (type_under (slice_cmp nat_cmp) c.args.name.now) (drop_all c.loop-at.at c.args.methods.now c.loop-at-test.false))
    ∙ c.loop-at.invariant.same c.args.name.now (itself c.args.name.now)
