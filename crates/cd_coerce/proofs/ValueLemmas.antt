-- values that have no parts of a kind
use Rattle.std.proofs.Common.{◌≡◌, ℕ, Option, Some, None, refl, sym, ap, ◌∙◌}
use Rattle.std.specs.Prelude.{Box}
use Rattle.std.specs.Global.{Global}
use Rattle.ic_principal.specs.declared.bytes.Bytes.{Bytes}
use Rattle.cd_types.specs.declared.entry.TyRef.{TyRef}
use Rattle.cd_codec.specs.declared.value.Value.{Value, out-Value, roll-Value, roll-out-Value}
use Rattle.cd_codec.specs.declared.value.Value.TheOpen.{Value-F}
use Rattle.cd_codec.specs.declared.value.Value.TheOpen as layer
use Rattle.cd_codec.specs.declared.value.Value.TheVariants as values
use Rattle.cd_codec.specs.declared.value.Value.TheVariants.{rolls-Opt, rolls-Blob, rolls-Seq, rolls-Rec, rolls-Var}
use Rattle.cd_codec.specs.declared.value.Value.TheFolds.{fold-Value, fold-FieldValues, fold-Values, fold_out-Value, map-Value}
use Rattle.cd_codec.specs.declared.value.Values.{Values}
use Rattle.cd_codec.specs.declared.value.FieldValues.{FieldValues}
use Rattle.cd_codec.specs.Content.{Content, Contents, Parts, none, some}
use Rattle.cd_codec.specs.View.{value_step, fields_step, values_step, view}
use Rattle.cd_codec.proofs.Views.{view-None, view-Some}
use Rattle.cd_coerce.specs.Read.{Setting}
use Rattle.cd_coerce.specs.Step.{inner_at, parts_at}

abbrev Layer : Type 0
Layer = Value-F Value FieldValues Values

-- the content of a value, by its layer
abbrev view_of_layer : Layer → Content
view_of_layer f = value_step (map-Value Value FieldValues Values Content Parts Contents (fold-Value Content Parts Contents value_step fields_step values_step) (fold-FieldValues Content Parts Contents value_step fields_step values_step) (fold-Values Content Parts Contents value_step fields_step values_step) f)

view_by : (v : Value) → view v ≡ view_of_layer (out-Value v)
unfolding view
view_by v = fold_out-Value Content Parts Contents value_step fields_step values_step v

made_of : (v : Value) (f : Layer) → out-Value v ≡ f → v ≡ roll-Value f
made_of v f e = sym (roll-out-Value v) ∙ ap roll-Value e

no_inner_by : (c : Setting) (v : Value) (t w : TyRef) (f : Layer) → out-Value v ≡ f → ((x : Option (Box Value Global)) → v ≡ values.Opt x → ⊥) → inner_at c (view_of_layer f) t w ≡ None
no_inner_by c v t w (layer.Opt x) e other = absurd (other x (made_of v (layer.Opt x) e ∙ rolls-Opt x))
no_inner_by c v t w _ e other = refl

-- a value that is no opt has no value inside
pub no_inner : (c : Setting) (v : Value) (t w : TyRef) → ((x : Option (Box Value Global)) → v ≡ values.Opt x → ⊥) → inner_at c (view v) t w ≡ None
no_inner c v t w other = ap (λ (x : Content). inner_at c x t w) (view_by v) ∙ no_inner_by c v t w (out-Value v) refl other

no_parts_by : (c : Setting) (v : Value) (t w : TyRef) (f : Layer) → out-Value v ≡ f → ((x : Bytes) → v ≡ values.Blob x → ⊥) → ((x : Values) → v ≡ values.Seq x → ⊥) → ((x : FieldValues) → v ≡ values.Rec x → ⊥)
    → ((n : ℕ) (x : Box Value Global) → v ≡ values.Var n x → ⊥) → parts_at c (view_of_layer f) t w ≡ None
no_parts_by c v t w (layer.Blob x) e blob list fields case = absurd (blob x (made_of v (layer.Blob x) e ∙ rolls-Blob x))
no_parts_by c v t w (layer.Seq x) e blob list fields case = absurd (list x (made_of v (layer.Seq x) e ∙ rolls-Seq x))
no_parts_by c v t w (layer.Rec x) e blob list fields case = absurd (fields x (made_of v (layer.Rec x) e ∙ rolls-Rec x))
no_parts_by c v t w (layer.Var n x) e blob list fields case = absurd (case n x (made_of v (layer.Var n x) e ∙ rolls-Var n x))
no_parts_by c v t w (layer.Opt None) e blob list fields case = refl
no_parts_by c v t w (layer.Opt (Some x)) e blob list fields case = refl
no_parts_by c v t w _ e blob list fields case = refl

-- a value that is no blob, no list, no record and no variant has no parts
pub no_parts : (c : Setting) (v : Value) (t w : TyRef) → ((x : Bytes) → v ≡ values.Blob x → ⊥) → ((x : Values) → v ≡ values.Seq x → ⊥) → ((x : FieldValues) → v ≡ values.Rec x → ⊥)
    → ((n : ℕ) (x : Box Value Global) → v ≡ values.Var n x → ⊥) → parts_at c (view v) t w ≡ None
no_parts c v t w blob list fields case = ap (λ (x : Content). parts_at c x t w) (view_by v) ∙ no_parts_by c v t w (out-Value v) refl blob list fields case

-- the value inside an opt
pub inside : (v : Value) (x : Option (Box Value Global)) (part : Box Value Global) → v ≡ values.Opt x → x ≡ Some part → view v ≡ some (view part.value)
inside v x part is held = ap view (is ∙ ap (λ (x : Option (Box Value Global)). values.Opt x) held) ∙ view-Some part

-- an opt without a value
pub empty : (v : Value) (x : Option (Box Value Global)) → v ≡ values.Opt x → x ≡ None → view v ≡ none
empty v x is nothing = ap view (is ∙ ap (λ (x : Option (Box Value Global)). values.Opt x) nothing) ∙ view-None
