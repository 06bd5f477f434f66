-- Whether one interface may become another, as a test.
use Rattle.std.proofs.Common.{◌≡◌, Bool, true, List, Option, Some, None, Result, Ok, Err, IfOk, refl}
use Rattle.std.specs.Prelude.{◌↔◌, IsTrue}
use Rattle.std.specs.Cmp.{both_ways}
use Rattle.cd_types.specs.declared.entry.TyRef.{TyRef}
use Rattle.cd_types.specs.declared.entry.Entry.{Entry}
use Rattle.cd_sub.specs.Below.{below}
use Rattle.cd_sub.specs.Sub.{Sub}
use Rattle.cd_did.specs.declared.fault.Interface.{Interface}
use Rattle.cd_did.specs.Interfaces.{Upgrades}
use Rattle.ic_candid_lines.specs.Upgrading.{is_below, upgrades}

-- a test decides subtyping
abbrev pub Decides : Type 0
Decides = (first second : List Entry) (a b : TyRef) → IsTrue (below first a second b) ↔ Sub first a second b

-- services of which one is below the other
both_served : (lower upper : List Entry) (after before : Option TyRef) → is_below lower after upper before ≡ true
    → (b : TyRef) × (a : TyRef) × (before ≡ Some b) × (after ≡ Some a) × (below lower a upper b ≡ true)
both_served lower upper (Some a) (Some b) e = (b, a, refl, refl, e)
both_served lower upper (Some a) None e = absurd cc
both_served lower upper None before e = absurd cc

pub upgrades_is : Decides → (old new : Interface) → (upgrades old new ≡ true) ↔ Upgrades old new
upgrades_is law old new = (
  λ e.
      let found = both_served new.table old.table new.service old.service e in
      (found.0, found.1, found.2, found.3, (law new.table old.table found.1 found.0).0 found.4),
  λ up. rw (up.2, up.3) ((law new.table old.table up.1 up.0).1 up.4),
)

pub answer_is : {E : Type 0} → Decides → (old new : Interface) (r : Result Bool E) → IfOk r (λ yes. IsTrue yes ↔ Upgrades old new) → IfOk r (λ yes. yes ≡ upgrades old new)
answer_is law old new (Ok said) says =
    let is = upgrades_is law old new in
    both_ways said (upgrades old new) (λ e. is.1 (says.0 e)) (λ e. says.1 (is.0 e))
answer_is law old new (Err e) says = says
