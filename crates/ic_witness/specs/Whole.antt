-- A hash tree without pruned nodes.
use Rattle.std.specs.Prelude.{Bool, true, false, ◌&&◌}
use Rattle.ic_tree.specs.HashTree.{HashTree, empty, fork, labeled, leaf, pruned}

unfoldable pub is_whole : HashTree → Bool
is_whole empty = true
is_whole (fork left right) = is_whole left && is_whole right
is_whole (labeled label part) = is_whole part
is_whole (leaf bytes) = true
is_whole (pruned hash) = false
