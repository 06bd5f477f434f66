-- What the program prints.
use Rattle.std.specs.Prelude.{ℕ, Bool, true, false, ◌++◌, List, [], ◌∷◌, codes, decimal, length, count_by, Option, Some, None, is_none}
use Rattle.json.specs.Print.{quoted}
use Rattle.hex.specs.Hex.{encode_lower}
use Rattle.ic_behaviour.specs.declared.call.Response.{Response}
use Rattle.ic_behaviour.specs.declared.call.Response.TheVariants.{Reply, Reject}
use Rattle.ic_script.specs.declared.LineCause.{LineCause}
use Rattle.ic_script.specs.CauseText.{cause_text}
use Rattle.ic_script.specs.HexWord.{hex_word}
use Rattle.ic_behaviour.specs.declared.request.Request.{Request}
use Rattle.ic_behaviour.specs.State.{State}
use Rattle.ic_output.specs.StateLine.{state_text}
use Rattle.ic_tree.specs.HashTree.{root_hash}
use Rattle.ic_tree.specs.StateTree.{state_tree_of}
use Rattle.ic_witness.specs.Witness.{state_witness}

-- what ends a printed line
abbrev pub newline : List ℕ
newline = 10 ∷ []

-- for a call that was submitted, by its number from 0
unfoldable pub accepted_text : ℕ → List ℕ
accepted_text number = codes "accepted " ++ decimal number ++ newline

-- for a call that its callee did not accept
unfoldable pub call_refused_text : List ℕ
call_refused_text = codes "refused" ++ newline

-- what a response tells; the message of a rejection is a string of JSON
unfoldable pub response_text : Response → List ℕ
response_text (Reply bytes) = codes "replied " ++ hex_word bytes
response_text (Reject code message) = codes "rejected " ++ (decimal code ++ (codes " " ++ quoted message))

-- for a query
unfoldable pub query_text : Response → List ℕ
query_text response = codes "query " ++ (response_text response ++ newline)

-- for the call with that number, at the end of the script
unfoldable pub answer_text : ℕ → Option Response → List ℕ
answer_text number None = codes "answer " ++ (decimal number ++ codes " waiting\n")
answer_text number (Some response) = codes "answer " ++ (decimal number ++ (codes " " ++ (response_text response ++ newline)))

-- for rounds that were made, with the number of messages that are left
unfoldable pub ran_text : (made left : ℕ) → List ℕ
ran_text made left = codes "ran " ++ (decimal made ++ (codes " left " ++ (decimal left ++ newline)))

-- for a pick, by whether the place was eligible
unfoldable pub pick_text : Bool → List ℕ
pick_text true = codes "picked" ++ newline
pick_text false = codes "not eligible" ++ newline

-- for a bad line, by its number from 1
unfoldable pub bad_text : ℕ → LineCause → List ℕ
bad_text line cause = codes "line " ++ decimal line ++ codes ": " ++ cause_text cause ++ newline

-- ---- a state

-- the line that shows a state
unfoldable pub state_line : State → List ℕ
state_line state = state_text state ++ newline

-- the root hash of the tree of a state
unfoldable pub root_line : State → List ℕ
root_line state = codes "root " ++ (encode_lower (root_hash (state_tree_of state)) ++ newline)

-- the witness of a state for paths
unfoldable pub witness_text : State → List (List (List ℕ)) → List ℕ
witness_text state paths = codes "witness " ++ (encode_lower (state_witness state paths) ++ newline)

-- what is printed last: the state, and the root hash of its tree
abbrev pub closing : State → List ℕ
closing state = state_line state ++ root_line state

-- ---- the calls of a generated script

abbrev pub is_replied : Option Response → Bool
is_replied (Some (Reply bytes)) = true
is_replied answer = false

abbrev pub is_rejected : Option Response → Bool
is_rejected (Some (Reject code message)) = true
is_rejected answer = false

-- how many calls there were, and how many of them were answered how
unfoldable pub calls_line : List Request → List ℕ
calls_line requests =
    codes "calls " ++ (decimal (length requests)
    ++ (codes " replied " ++ (decimal (count_by (λ (r : Request). is_replied r.answer) requests)
    ++ (codes " rejected " ++ (decimal (count_by (λ (r : Request). is_rejected r.answer) requests)
    ++ (codes " waiting " ++ (decimal (count_by (λ (r : Request). is_none r.answer) requests) ++ newline)))))))
