-- The steps of a pattern, and where its reader is.
use Rattle.std.specs.Prelude.{ℕ, List, map, Option}
use Rattle.cd_types.specs.declared.entry.TyRef.{TyRef}
use Rattle.cd_codec.specs.Content.{Content}
use Rattle.cd_codec.specs.View.{view}
use Rattle.cd_tokens.specs.Token.{Token}
use Rattle.cd_tokens.specs.View.{token_views}
use Rattle.ct_patterns.specs.declared.step.Step.{Step as Held}
use Rattle.ct_patterns.specs.declared.step.Step.TheVariants as held
use Rattle.ct_values.specs.declared.cursor.Cursor.{Cursor}
use Rattle.ct_values.specs.declared.said.Said.{Said as HeldSaid}

-- what the next value must be
pub data Step : Type 0 where
  anything : Step
  named : List ℕ → TyRef → Step
  exactly : Content → Step
  optional : Step
  sequence : ℕ → Step
  some_fields : List ℕ → Step
  one_case : ℕ → Step

abbrev pub step_view : Held → Step
step_view held.Any = anything
step_view (held.Bound name type) = named name type
step_view (held.Is v) = exactly (view v)
step_view held.Opt = optional
step_view (held.Seq count) = sequence count
step_view (held.Rec places) = some_fields places.items.items
step_view (held.Var place) = one_case place

abbrev pub step_views : List Held → List Step
step_views steps = map step_view steps

-- the steps that were read, how many values may still be said, and the tokens that are left
abbrev pub Reading : Type 0
Reading = List Step × ℕ × List Token

abbrev pub reading : Cursor → Reading
reading cursor = (step_views cursor.steps.items, cursor.left, token_views cursor.rest.now)

-- what reads on
abbrev pub Reads : Type 0
Reads = Reading → Option Reading

-- what reads on, and gives something
abbrev pub Giving : Type 0 → Type 0
Giving A = Reading → Option (A × Reading)

-- the places of the fields of a record that were said, and the id of one without label that would follow
abbrev pub Said : Type 0
Said = List ℕ × ℕ

abbrev pub said_view : HeldSaid → Said
said_view said = (said.places.keys, said.next)
