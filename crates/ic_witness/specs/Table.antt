-- What a state says by the paths of its tree (IC Interface Specification, "The system state tree").
use Rattle.std.specs.Prelude.{◌≡◌, ℕ, ◌+◌, List, [], ◌∷◌, ◌++◌, codes, Option, Some, None, option_map, if◌then◌else◌}
use Rattle.std.specs.BTreeMap.{is_at}
use Rattle.std.specs.Cmp.Lexicographic.{slice_cmp}
use Rattle.std.specs.List.{AllByRecursion}
use Rattle.std.specs.Map.{lookup}
use Rattle.std.specs.Option.{option_map_or}
use Rattle.std.specs.Ordering.{nat_cmp}
use Rattle.std.specs.Str.{bytes_eq}
use Rattle.ic_leb.specs.Spelling.{unsigned_spelling}
use Rattle.ic_behaviour.specs.declared.call.Response.{Response}
use Rattle.ic_behaviour.specs.declared.call.Response.TheVariants.{Reply, Reject}
use Rattle.ic_behaviour.specs.declared.request.Request.{Request}
use Rattle.ic_behaviour.specs.State.{Canister, State}
use Rattle.ic_tree.specs.HashTree.{HashTree}
use Rattle.ic_tree.specs.StateTree.{id_of_request}
use Rattle.ic_witness.specs.At.{Answer, value, absent, at}
use Rattle.ic_witness.specs.Nodes.{Label, Path}

-- a last label, and what is said there
abbrev pub Row : Type 0
Row = Label × Answer

abbrev pub canister_rows : Canister → List Row
canister_rows c =
    (codes "certified_data", value c.certified)
    ∷ (codes "module_hash", option_map_or (λ code. value code.hash) c.code absent) ∷ []

abbrev pub request_rows : Option Response → List Row
request_rows None =
    (codes "status", value (codes "processing"))
    ∷ (codes "reply", absent) ∷ (codes "reject_code", absent) ∷ (codes "reject_message", absent) ∷ []
request_rows (Some (Reply bytes)) =
    (codes "status", value (codes "replied"))
    ∷ (codes "reply", value bytes) ∷ (codes "reject_code", absent) ∷ (codes "reject_message", absent) ∷ []
request_rows (Some (Reject code message)) =
    (codes "status", value (codes "rejected"))
    ∷ (codes "reply", absent) ∷ (codes "reject_code", value (unsigned_spelling code)) ∷ (codes "reject_message", value message) ∷ []

-- the first request with this id, of requests numbered from here on
unfoldable pub request_of : Label → ℕ → List Request → Option Request
request_of id number [] = None
request_of id number (r ∷ rs) = if bytes_eq (id_of_request number r) id then Some r else request_of id (number + 1) rs

-- below a path the tree says what the rows say, or where there are none that there is nothing
abbrev pub SaysRows : HashTree → Path → Option (List Row) → Type 0
SaysRows tree path None = (rest : Path) → at tree (path ++ rest) ≡ absent
SaysRows tree path (Some rows) = AllByRecursion (λ (row : Row). at tree (path ++ row.0 ∷ []) ≡ row.1) rows

pub record SaysState (tree : HashTree) (s : State) : Type 0 where
  pub time : at tree (codes "time" ∷ []) ≡ value (unsigned_spelling s.time)
  pub canisters : (id : Label) → SaysRows tree (codes "canister" ∷ id ∷ []) (option_map canister_rows (lookup (is_at (slice_cmp nat_cmp id)) s.canisters))
  pub requests : (id : Label) → SaysRows tree (codes "request_status" ∷ id ∷ []) (option_map (λ (r : Request). request_rows r.answer) (request_of id 0 s.requests))
