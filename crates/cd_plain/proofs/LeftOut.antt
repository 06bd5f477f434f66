-- Which cases are printed without their value.
use Rattle.std.proofs.Common.{◌≡◌, Bool, true, false, Option, Some, None, refl, sym, ap, ◌∙◌}
use Rattle.std.specs.Prelude.{is_some, option_map}
use Rattle.cd_names.specs.Names.{IdNames}
use Rattle.cd_codec.specs.declared.value.Value.{Value, out-Value, roll-Value, roll-out-Value}
use Rattle.cd_codec.specs.declared.value.Value.TheOpen.{Value-F}
use Rattle.cd_codec.specs.declared.value.Value.TheOpen as layer
use Rattle.cd_codec.specs.declared.value.Value.TheVariants as values
use Rattle.cd_codec.specs.declared.value.Value.TheVariants.{rolls-Null}
use Rattle.cd_codec.specs.declared.value.Value.TheFolds.{fold-Value, fold-FieldValues, fold-Values, fold_out-Value, map-Value}
use Rattle.cd_codec.specs.declared.value.Values.{Values}
use Rattle.cd_codec.specs.declared.value.FieldValues.{FieldValues}
use Rattle.cd_codec.specs.Content.{Content, Contents, Parts}
use Rattle.cd_codec.specs.View.{value_step, fields_step, values_step, view}
use Rattle.cd_codec.proofs.Views.{view-Null}
use Rattle.cd_plain.specs.Printed.{is_left_out}

abbrev Layer : Type 0
Layer = Value-F Value FieldValues Values

-- the content of a value, by its layer
abbrev view_of_layer : Layer → Content
view_of_layer f = value_step (map-Value Value FieldValues Values Content Parts Contents (fold-Value Content Parts Contents value_step fields_step values_step) (fold-FieldValues Content Parts Contents value_step fields_step values_step) (fold-Values Content Parts Contents value_step fields_step values_step) f)

view_by : (v : Value) → view v ≡ view_of_layer (out-Value v)
unfolding view
view_by v = fold_out-Value Content Parts Contents value_step fields_step values_step v

other_by : (names : IdNames) (v : Value) (f : Layer) → out-Value v ≡ f → (v ≡ values.Null → ⊥) → is_left_out (Some names) (view_of_layer f) ≡ false
other_by names v layer.Null e other = absurd (other (sym (roll-out-Value v) ∙ ap roll-Value e ∙ rolls-Null))
other_by names v (layer.Opt None) e other = refl
other_by names v (layer.Opt (Some x)) e other = refl
other_by names v _ e other = refl

-- another value than null
pub other_value : (names : Option IdNames) (v : Value) → (v ≡ values.Null → ⊥) → false ≡ is_left_out names (view v)
other_value None v other = refl
other_value (Some names) v other = sym (ap (is_left_out (Some names)) (view_by v) ∙ other_by names v (out-Value v) refl other)

-- null, where names are given
pub null_value : {T : Type 0} (f : T → IdNames) (names : Option T) (v : Value) → is_some names ≡ true → v ≡ values.Null → true ≡ is_left_out (option_map f names) (view v)
null_value f None v given is = absurd cc
null_value f (Some names) v given is = sym (ap (is_left_out (Some (f names))) (ap view is ∙ view-Null))
