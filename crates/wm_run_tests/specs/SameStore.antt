-- A store that a host leaves alone keeps the rules.
use Rattle.std.specs.Prelude.{refl}
use Rattle.std.proofs.Common.{arith}
use Rattle.wm_store.specs.Lists.{Lists}
use Rattle.wm_semantics.specs.Hosts.{StoreKept}

pub same_store : (s : Lists) → StoreKept s s
same_store s = record {
  globals = refl;
  table = refl;
  maximum = refl;
  memory = omega arith;
  stable = omega arith;
  memory_pages = λ h. h;
  stable_pages = λ h. h;
  bytes = λ h. h;
}
