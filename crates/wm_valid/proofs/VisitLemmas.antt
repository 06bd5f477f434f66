-- One more function visited.
use Rattle.std.proofs.Common.{◌≡◌, ℕ, ◌+◌, ◌<◌, ◌≤◌, Bool, true, false, List, [], ◌∷◌, ◌++◌, length, get_or, take, drop, Option, Some, None, refl, sym, ap, ◌∙◌, arith}
use Rattle.std.proofs.lemmas.List.{take_more, drop_all, take_all}
use Rattle.std.proofs.lemmas.Option.{slice_get_within, get_or_from_slice_get, slice_get-get_or}
use Rattle.std.proofs.lemmas.Slice.Zip.{all_zipped_more, get_or-zip, length-zip}
use Rattle.std.specs.Prelude.{not, slice_get}
use Rattle.std.specs.Option.{option_or}
use Rattle.std.specs.List.{AllZip, position_from}
use Rattle.wm_tree.specs.declared.parts.FuncCode.{FuncCode}
use Rattle.wm_tree.specs.declared.parts.Module.{Module}
use Rattle.wm_typing.specs.FlatCode.{FlatCode}
use Rattle.wm_valid.specs.declared.invalid.Invalid.TheVariants as fault
use Rattle.wm_valid.specs.Bodies.{definitions, nesting_fits, has_typing, is_deep, is_untyped, least_deep, least_untyped, nesting_fault, typing_fault}
use Rattle.wm_valid.specs.IsValid.{Suits}
use Rattle.wm_valid.specs.Visited.{Visited}
use Rattle.wm_valid.proofs.Steps.{position_more, position_here}

module _ (m : Module) (n : ℕ) (f : ℕ × FuncCode) (here : slice_get (definitions m) n ≡ Some f) where
  within : n < length (definitions m)
  within = slice_get_within (definitions m) n f here

  this : f ≡ get_or (definitions m) n f
  this = sym (get_or_from_slice_get (definitions m) n f f here)

  passed : (test : ℕ × FuncCode → Bool) → test f ≡ false → position_from test n (drop n (definitions m)) ≡ position_from test (n + 1) (drop (n + 1) (definitions m))
  passed test e = position_more test (definitions m) n f within this e

  found : (test : ℕ × FuncCode → Bool) → test f ≡ true → position_from test n (drop n (definitions m)) ≡ Some n
  found test e = position_here test (definitions m) n f within this e

  one_more : take (n + 1) (definitions m) ≡ take n (definitions m) ++ f ∷ []
  one_more = take_more (definitions m) n f within ∙ ap (λ x. take n (definitions m) ++ x ∷ []) (sym this)

  -- its body has a typing
  pub visited_typed : (untyped : Option ℕ) (codes : List FlatCode) (code : FlatCode) → Visited m n untyped codes → nesting_fits f ≡ true → has_typing m f ≡ true → Suits m f code → Visited m (n + 1) untyped (codes ++ code ∷ [])
  visited_typed untyped codes code v fits typed suits = record {
    shallow = sym (passed is_deep (ap not fits)) ∙ v.shallow;
    typed = ap (option_or untyped) (sym (passed (is_untyped m) (ap not typed))) ∙ v.typed;
    suits = λ none. rw one_more (all_zipped_more (Suits m) (take n (definitions m)) codes f code (v.suits none) suits);
  }

  or_here : (untyped : Option ℕ) (more : Option ℕ) → option_or (option_or untyped (Some n)) more ≡ option_or untyped (Some n)
  or_here None more = refl
  or_here (Some k) more = refl

  some_or : (untyped : Option ℕ) → option_or untyped (Some n) ≡ None → ⊥
  some_or None e = cc
  some_or (Some k) e = cc

  -- its body has no typing
  pub visited_untyped : (untyped : Option ℕ) (codes : List FlatCode) → Visited m n untyped codes → nesting_fits f ≡ true → has_typing m f ≡ false → Visited m (n + 1) (option_or untyped (Some n)) codes
  visited_untyped untyped codes v fits untyped_here = record {
    shallow = sym (passed is_deep (ap not fits)) ∙ v.shallow;
    typed = or_here untyped _ ∙ ap (option_or untyped) (sym (found (is_untyped m) (ap not untyped_here))) ∙ v.typed;
    suits = λ none. absurd (some_or untyped none);
  }

  -- its blocks nest too deeply
  pub visited_deep : (untyped : Option ℕ) (codes : List FlatCode) → Visited m n untyped codes → nesting_fits f ≡ false → option_or (nesting_fault m) (typing_fault m) ≡ Some (fault.Nesting n)
  visited_deep untyped codes v deep =
      let least : least_deep m ≡ Some n = sym v.shallow ∙ found is_deep (ap not deep) in
      rw least refl

-- ---- all functions

-- the function of that number
pub definition_at : (m : Module) (n : ℕ) (c : FuncCode) → length m.functions ≡ length m.codes → n < length m.codes → c ≡ get_or m.codes n c → slice_get (definitions m) n ≡ Some (get_or m.functions n 0, c)
definition_at m n c counts lt is =
    let all : n < length (definitions m) = omega (arith, length-zip m.functions m.codes) in
    let first : n < length m.functions = omega arith in
    slice_get-get_or (definitions m) n (0, c) all ∙ ap Some (get_or-zip m.functions m.codes n (0, c) first lt ∙ ap (λ x. (get_or m.functions n 0, x)) (sym is))

module _ (m : Module) (n : ℕ) (few : length m.codes ≤ n) (codes : List FlatCode) where
  ends : length (definitions m) ≤ n
  ends = omega (arith, length-zip m.functions m.codes)

  none_left : drop n (definitions m) ≡ []
  none_left = drop_all n (definitions m) ends

  pub visited_shallow : (untyped : Option ℕ) → Visited m n untyped codes → least_deep m ≡ None
  visited_shallow untyped v = sym v.shallow ∙ rw none_left refl

  or_none : (untyped : Option ℕ) → option_or untyped None ≡ untyped
  or_none None = refl
  or_none (Some k) = refl

  pub visited_least : (untyped : Option ℕ) → Visited m n untyped codes → least_untyped m ≡ untyped
  visited_least untyped v =
      let nothing : position_from (is_untyped m) n (drop n (definitions m)) ≡ None = rw none_left refl in
      sym v.typed ∙ ap (option_or untyped) nothing ∙ or_none untyped

  pub visited_suits : Visited m n None codes → AllZip (Suits m) (definitions m) codes
  visited_suits v = rw (take_all n (definitions m) ends) at (v.suits refl)
