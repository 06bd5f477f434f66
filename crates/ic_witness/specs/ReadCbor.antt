-- The grammar of hash trees as functions that read: they read what IsText says.
use Rattle.std.specs.Prelude.{ℕ, zero, suc, ◌-◌, Bool, ◌&&◌, ◌==◌, List, ◌∷◌, length, Option, Some, None, nat_lt, nat_le, if◌then◌else◌}
use Rattle.std.specs.Int.{Width, w8, w16, w32, w64, byte_len, from_be_bytes}
use Rattle.std.specs.List.{list_all}
use Rattle.ic_base.specs.Reader.{Reader, ◌>>=◌, empty_at, byte_at, bytes_at, both_at, map_at, filter_map_at, filter_at, whole}
use Rattle.ic_tree.specs.HashTree.{HashTree, empty, fork, labeled, leaf, pruned}
use Rattle.ic_witness.specs.declared.reading.Kind.{Kind}
use Rattle.ic_witness.specs.declared.reading.Kind.TheVariants as kinds

-- one part and then another, which depends on the first: the second alone
abbrev pub then_at : {A B : Type 0} → Reader A → (A → Reader B) → Reader B
then_at read next bytes = do
  x ← read bytes
  next x.0 x.1

-- the numbers are bytes
abbrev pub are_bytes : List ℕ → Bool
are_bytes bytes = list_all (λ b. nat_lt b 256) bytes

-- a number of fixed width, its highest byte first
unfoldable pub number_at : Width → Reader ℕ
number_at width = map_at (from_be_bytes width) (filter_at are_bytes (bytes_at (byte_len width)))

-- such a number, where no shorter head says it
abbrev pub long_at : Width → ℕ → Reader ℕ
long_at width least = filter_at (nat_le least) (number_at width)

-- a length whose head begins with this byte
unfoldable pub length_after : ℕ → Reader ℕ
length_after first bytes =
    if nat_lt first 64 then None
    else (if nat_lt first 88 then Some (first - 64, bytes)
    else (if first == 88 then long_at w8 24 bytes
    else (if first == 89 then long_at w16 256 bytes
    else (if first == 90 then long_at w32 65536 bytes
    else (if first == 91 then long_at w64 4294967296 bytes else None)))))

unfoldable pub length_at : Reader ℕ
length_at = then_at byte_at length_after

-- a byte string
unfoldable pub string_at : Reader (List ℕ)
string_at = then_at length_at bytes_at

-- the two bytes with which a node begins
abbrev pub kind_of : ℕ × ℕ → Option Kind
kind_of mark =
    if (mark.0 == 129) && (mark.1 == 0) then Some kinds.Empty
    else (if (mark.0 == 131) && (mark.1 == 1) then Some kinds.Fork
    else (if (mark.0 == 131) && (mark.1 == 2) then Some kinds.Labeled
    else (if (mark.0 == 130) && (mark.1 == 3) then Some kinds.Leaf
    else (if (mark.0 == 130) && (mark.1 == 4) then Some kinds.Pruned else None))))

unfoldable pub kind_at : Reader Kind
kind_at = filter_map_at kind_of (both_at byte_at (λ _. byte_at))

abbrev pub is_hash : List ℕ → Bool
is_hash bytes = length bytes == 32

-- what follows the two bytes, with a reader for the parts
unfoldable pub node_at : Reader HashTree → Kind → Reader HashTree
node_at read kinds.Empty = empty_at empty
node_at read kinds.Fork = map_at (λ p. fork p.0 p.1) (both_at read (λ _. read))
node_at read kinds.Labeled = map_at (λ p. labeled p.0 p.1) (both_at string_at (λ _. read))
node_at read kinds.Leaf = map_at leaf string_at
node_at read kinds.Pruned = map_at pruned (filter_at is_hash string_at)

-- a tree that nests at most so deep
unfoldable pub tree_at : ℕ → Reader HashTree
tree_at zero bytes = None
tree_at (suc depth) bytes = then_at kind_at (node_at (tree_at depth)) bytes

-- the bytes after the tag, where there is one
abbrev pub untagged : List ℕ → List ℕ
untagged (a ∷ b ∷ c ∷ rest) = if (a == 217) && ((b == 217) && (c == 247)) then rest else a ∷ b ∷ c ∷ rest
untagged bytes = bytes

-- the tree that all of the bytes are
unfoldable pub text_at : List ℕ → Option HashTree
text_at bytes = whole (tree_at 128) (untagged bytes)
