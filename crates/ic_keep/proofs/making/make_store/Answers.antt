use Rattle.std.proofs.Common.{ℕ, ◌*◌, ◌/◌, List, [], length, replicate, Option, ap₂, ◌∙◌}
use Rattle.wm_store.specs.Lists.{Lists}
use Rattle.ic_keep.proofs.Makes.{store_made}
use Rattle.ic_keep.proofs.making.make_store.Goals as goal

pub returns-clause-lists : goal.returns-clause-lists
returns-clause-lists c =
    let begun : List ℕ → List (Option ℕ) → Lists = λ (g : List ℕ) (t : List (Option ℕ)). record {
      memory = replicate (65536 * (length c.args.parts.now.memory.now / 65536)) 0;
      maximum = c.args.parts.now.maximum;
      globals = g;
      table = t;
      stable = [];
    } in
    store_made _ c.args.parts.now.memory.now c.args.parts.now.globals.now c.args.parts.now.stable.now c.args.parts.now.table.now c.args.parts.now.maximum
    c.in_ok-store.store.lists c.copy_into.new.self.lists c.stable_grow.new.self.lists c.stable_write.new.self.lists c.requires.memory c.requires.stable
    (c.in_ok-store.ensures.lists ∙ ap₂ begun c.in_ok-globals.ensures.items c.in_ok-table.ensures.items)
    c.in_ok-copy_into.ensures.lists c.in_ok-stable_grow.ensures.lists c.in_ok-stable_write.ensures.lists
