-- Hash trees as bytes (RFC 8949; IC Interface Specification, "Certificate").
use Rattle.std.specs.Prelude.{◌≡◌, ℕ, suc, ◌+◌, ◌<◌, ◌≤◌, ◌^◌, List, [], ◌∷◌, ◌++◌, length, max, nat_lt, if◌then◌else◌}
use Rattle.std.specs.Int.{to_be_bytes, w8, w16, w32, w64}
use Rattle.ic_tree.specs.HashTree.{HashTree, empty, fork, labeled, leaf, pruned}

-- the shortest head of a byte string of this length
abbrev pub head : ℕ → List ℕ
head n = if nat_lt n 24 then (64 + n) ∷ []
    else (if nat_lt n (2 ^ 8) then 88 ∷ to_be_bytes w8 n
    else (if nat_lt n (2 ^ 16) then 89 ∷ to_be_bytes w16 n
    else (if nat_lt n (2 ^ 32) then 90 ∷ to_be_bytes w32 n else 91 ∷ to_be_bytes w64 n)))

abbrev pub string : List ℕ → List ℕ
string bytes = head (length bytes) ++ bytes

unfoldable pub cbor : HashTree → List ℕ
cbor empty = 129 ∷ 0 ∷ []
cbor (fork left right) = 131 ∷ 1 ∷ (cbor left ++ cbor right)
cbor (labeled label part) = 131 ∷ 2 ∷ (string label ++ cbor part)
cbor (leaf bytes) = 130 ∷ 3 ∷ string bytes
cbor (pruned hash) = 130 ∷ 4 ∷ string hash

unfoldable pub depth : HashTree → ℕ
depth empty = 1
depth (fork left right) = suc (max (depth left) (depth right))
depth (labeled label part) = suc (depth part)
depth (leaf bytes) = 1
depth (pruned hash) = 1

-- what a head can count, and the length of a hash
unfoldable pub Fits : HashTree → Type 0
Fits empty = Unit {0}
Fits (fork left right) = Fits left × Fits right
Fits (labeled label part) = (length label < 2 ^ 64) × Fits part
Fits (leaf bytes) = length bytes < 2 ^ 64
Fits (pruned hash) = length hash ≡ 32

-- the bytes are the tree, which nests at most so deep
pub record IsCbor (most : ℕ) (tree : HashTree) (bytes : List ℕ) : Type 0 where
  pub deep : depth tree ≤ most
  pub fits : Fits tree
  pub spelled : bytes ≡ cbor tree

abbrev pub tag : List ℕ
tag = 217 ∷ 217 ∷ 247 ∷ []

-- the tag or nothing, and then the tree
pub data IsText (tree : HashTree) : List ℕ → Type 0 where
  tagged : {bytes : List ℕ} → IsCbor 128 tree bytes → IsText tree (217 ∷ 217 ∷ 247 ∷ bytes)
  bare : {bytes : List ℕ} → IsCbor 128 tree bytes → IsText tree bytes
