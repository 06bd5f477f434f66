-- The id of a request (IC Interface Specification, "Request ids").
use Rattle.std.specs.Prelude.{ℕ, List, [], ◌∷◌, ◌++◌, map, if◌then◌else◌}
use Rattle.std.specs.List.{concat}
use Rattle.std.specs.Ordering.{is_lt, nat_cmp}
use Rattle.std.specs.Cmp.Lexicographic.{slice_cmp}
use Rattle.sha2.specs.Sha256.{sha256}
use Rattle.ic_leb.specs.Spelling.{unsigned_spelling}
use Rattle.ic_tree.specs.declared.fields.Field.{Field}
use Rattle.ic_tree.specs.declared.fields.Field.TheVariants.{Bytes, Number}

-- a number is hashed as it is spelled in LEB128
abbrev pub field_bytes : Field → List ℕ
field_bytes (Bytes bytes) = bytes
field_bytes (Number n) = unsigned_spelling n

-- the hashes of a key and of its value
abbrev pub pair_of : (List ℕ × Field) → List ℕ
pair_of field = sha256 field.0 ++ sha256 (field_bytes field.1)

-- a list in rising order, with one more
unfoldable pub put_in_order : List ℕ → List (List ℕ) → List (List ℕ)
put_in_order x [] = x ∷ []
put_in_order x (y ∷ ys) = if is_lt (slice_cmp nat_cmp x y) then x ∷ y ∷ ys else y ∷ put_in_order x ys

-- a list in rising order, with more put into it one by one
unfoldable pub put_all : List (List ℕ) → List (List ℕ) → List (List ℕ)
put_all sorted [] = sorted
put_all sorted (x ∷ xs) = put_all (put_in_order x sorted) xs

abbrev pub in_order : List (List ℕ) → List (List ℕ)
in_order = put_all []

-- the hash of the pairs in rising order
unfoldable pub request_id_of : List (List ℕ × Field) → List ℕ
request_id_of fields = sha256 (concat (in_order (map pair_of fields)))
