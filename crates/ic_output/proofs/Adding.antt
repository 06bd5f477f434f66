-- One more member.
use Rattle.std.proofs.Common.{◌≡◌, ◌∙◌, ◌++◌, ◌∷◌, [], ap, ap₂, ℕ, List, map}
use Rattle.serde_json.specs.Data.{Data, Members, put}
use Rattle.serde_json.specs.View.{view}
use Rattle.serde_json.specs.declared.value.Value.{Value}

-- the members that a step gives, in other words for the value and for the members before
pub add : (key : List ℕ) (value wanted : Data) (before after all : Members) → all ≡ put key value before → value ≡ wanted → before ≡ after
    → all ≡ put key wanted after
add key value wanted before after all is as_wanted as_after = is ∙ ap₂ (put key) as_wanted as_after

-- a value was made for what came first
pub pushed : {E : Type 0} (data_of : E → Data) (values : List Value) (value : Value) (entry : E) (rest : List E) → view value ≡ data_of entry
    → map view (values ++ value ∷ []) ++ map data_of rest ≡ map view values ++ map data_of (entry ∷ rest)
pushed data_of [] value entry rest is = ap (λ d. d ∷ map data_of rest) is
pushed data_of (first ∷ values) value entry rest is = ap (λ l. view first ∷ l) (pushed data_of values value entry rest is)
