-- The stacks of operands and of frames, seen by the open blocks.
use Rattle.std.proofs.Common.{◌≡◌, ℕ, zero, suc, ◌+◌, ◌-◌, ◌≤◌, true, false, List, [], ◌∷◌, length, map, Some, refl, sym, ap, subst, ◌∙◌, arith, length-drop}
use Rattle.std.proofs.lemmas.List.{length-take-le}
use Rattle.std.specs.Prelude.{slice_get}
use Rattle.std.specs.Option.{option_map}
use Rattle.std.proofs.lemmas.Option.{slice_get-map}
use Rattle.wm_tree.specs.declared.class.Shape.TheVariants as shape
use Rattle.wm_typing.specs.declared.operand.Operand.{Operand}
use Rattle.wm_typing.specs.declared.flat.Branch.{Branch}
use Rattle.wm_typing.specs.declared.checker.ControlFrame.{ControlFrame}
use Rattle.wm_typing.specs.Points.{pop, start, unreachable}
use Rattle.wm_typing.specs.Runs.{branch}
use Rattle.wm_typing.specs.Flat.{Levels, levels, around, depth, height, label_type, outer_branches, branches}
use Rattle.wm_typing.specs.Checks.{above, below, outer_levels, levels_of, Descends, PopsFrame}

length-above : (h : ℕ) (xs : List Operand) → h ≤ length xs → length (above h xs) + h ≡ length xs
length-above h xs low =
    let part : length xs - h ≤ length xs = omega arith in
    omega (arith, length-take-le (length xs - h) xs part)

length-below : (h : ℕ) (xs : List Operand) → h ≤ length xs → length (below h xs) ≡ h
length-below h xs low = omega (arith, length-drop (length xs - h) xs)

-- the blocks around have as many operands as lie below the innermost
pub depth_is : (xs : List Operand) (fs : List ControlFrame) → Descends (length xs) fs → depth (outer_levels xs fs) ≡ length xs
depth_is xs [] d = sym d
depth_is xs (f ∷ fs) d =
    let under : length (below f.height xs) ≡ f.height = length-below f.height xs d.0 in
    omega (arith, depth_is (below f.height xs) fs (subst (λ (n : ℕ). Descends n fs) (sym under) d.1), under, length-above f.height xs d.0)

-- the blocks around the innermost have as many operands as its height says
depth_around : (xs : List Operand) (f : ControlFrame) (fs : List ControlFrame) → f.height ≤ length xs → Descends f.height fs
    → depth (outer_levels (below f.height xs) fs) ≡ f.height
depth_around xs f fs low d =
    let under : length (below f.height xs) ≡ f.height = length-below f.height xs low in
    depth_is (below f.height xs) fs (subst (λ (n : ℕ). Descends n fs) (sym under) d) ∙ under

pub height_is : (xs : List Operand) (f : ControlFrame) (fs : List ControlFrame) (s : Levels) → levels_of xs f fs ≡ s → f.height ≤ length xs → Descends f.height fs
    → length xs ≡ height s
unfolding levels_of
height_is xs f fs s e low d =
    subst (λ (s : Levels). length xs ≡ height s) e (omega (arith, depth_around xs f fs low d, length-above f.height xs low))

-- ---- operands

pub pop_is : (x : Operand) (xs : List Operand) (f : ControlFrame) (fs : List ControlFrame) (s : Levels) → levels_of (x ∷ xs) f fs ≡ s → f.height ≤ length xs
    → (pop s.point ≡ Some (x, (levels_of xs f fs).point)) × ((levels_of xs f fs).around ≡ s.around)
unfolding levels_of
pop_is x xs f fs s e low =
    let more : length (x ∷ xs) - f.height ≡ suc (length xs - f.height) = omega arith in
    subst (λ (s : Levels). (pop s.point ≡ Some (x, (levels_of xs f fs).point)) × ((levels_of xs f fs).around ≡ s.around)) e
    (rw more (refl, refl))

-- nothing lies above the height of the innermost block
pub none_above : (xs : List Operand) (f : ControlFrame) (fs : List ControlFrame) (s : Levels) → levels_of xs f fs ≡ s → f.height ≡ length xs → s.point.operands ≡ []
unfolding levels_of
none_above xs f fs s e same =
    let none : length xs - f.height ≡ 0 = omega arith in
    subst (λ (s : Levels). s.point.operands ≡ []) e (rw none refl)

-- and if nothing does, the height is that of the stack
pub all_below : (xs : List Operand) (f : ControlFrame) (fs : List ControlFrame) (s : Levels) → levels_of xs f fs ≡ s → f.height ≤ length xs → s.point.operands ≡ [] → f.height ≡ length xs
unfolding levels_of
all_below xs f fs s e low none =
    let short : length (above f.height xs) ≡ 0 = ap length (ap (λ (s : Levels). s.point.operands) e ∙ none) in
    omega (arith, length-above f.height xs low, short)

pub bottomless : (xs : List Operand) (f : ControlFrame) (fs : List ControlFrame) (s : Levels) → levels_of xs f fs ≡ s → f.is_unreachable ≡ true → length xs ≡ f.height → s.point ≡ unreachable
unfolding levels_of
bottomless xs f fs s e open_ same =
    let none : length xs - f.height ≡ 0 = omega arith in
    subst (λ (s : Levels). s.point ≡ unreachable) e (rw (none, open_) refl)

-- ---- frames

pub begins_again : (xs : List Operand) (f g : ControlFrame) (fs : List ControlFrame) (s : Levels) → levels_of xs f fs ≡ s → f.height ≤ length xs → s.point.operands ≡ []
    → g ≡ record { shape = shape.Block; target = f.target; result = f.result; height = f.height; is_unreachable = false }
    → levels_of xs g fs ≡ levels start (around shape.Block s.around.target s.around.result s.around.outer)
unfolding levels_of
begins_again xs f g fs s e low none is =
    let all : f.height ≡ length xs = all_below xs f fs s e low none in
    let zero : length xs - f.height ≡ 0 = omega arith in
    rw is (subst (λ (s : Levels). levels_of xs (record { shape = shape.Block; target = f.target; result = f.result; height = f.height; is_unreachable = false }) fs ≡ levels start (around shape.Block s.around.target s.around.result s.around.outer)) e
    (rw zero refl))

pub pops_frame : (xs : List Operand) (f g : ControlFrame) (gs : List ControlFrame) (s : Levels) → levels_of xs f (g ∷ gs) ≡ s → f.height ≤ length xs → s.point.operands ≡ []
    → PopsFrame s.around.outer (levels_of xs g gs) true
unfolding levels_of
pops_frame xs f g gs s e low none =
    let all : f.height ≡ length xs = all_below xs f (g ∷ gs) s e low none in
    let zero : length xs - f.height ≡ 0 = omega arith in
    subst (λ (s : Levels). PopsFrame s.around.outer (levels_of xs g gs) true) e (rw zero (refl, refl))

pub pops_none : (xs : List Operand) (f : ControlFrame) (s new : Levels) → levels_of xs f [] ≡ s → PopsFrame s.around.outer new false
unfolding levels_of
pops_none xs f s new e = subst (λ (s : Levels). PopsFrame s.around.outer new false) e refl

-- ---- labels

abbrev pub branch_of : ControlFrame → Branch
branch_of f = branch f.target f.height (label_type f.shape f.result)

outer_branches_are : (xs : List Operand) (fs : List ControlFrame) → Descends (length xs) fs → outer_branches (outer_levels xs fs) ≡ map branch_of fs
outer_branches_are xs [] d = refl
outer_branches_are xs (f ∷ fs) d =
    let under : length (below f.height xs) ≡ f.height = length-below f.height xs d.0 in
    let rest : outer_branches (outer_levels (below f.height xs) fs) ≡ map branch_of fs = outer_branches_are (below f.height xs) fs (subst (λ (n : ℕ). Descends n fs) (sym under) d.1) in
    rw (depth_around xs f fs d.0 d.1, rest) refl

branches_are : (xs : List Operand) (f : ControlFrame) (fs : List ControlFrame) (s : Levels) → levels_of xs f fs ≡ s → f.height ≤ length xs → Descends f.height fs
    → branches s.around ≡ map branch_of (f ∷ fs)
unfolding levels_of
branches_are xs f fs s e low d =
    let under : length (below f.height xs) ≡ f.height = length-below f.height xs low in
    let rest : outer_branches (outer_levels (below f.height xs) fs) ≡ map branch_of fs = outer_branches_are (below f.height xs) fs (subst (λ (n : ℕ). Descends n fs) (sym under) d) in
    subst (λ (s : Levels). branches s.around ≡ map branch_of (f ∷ fs)) e (rw (depth_around xs f fs low d, rest) refl)

pub label_is : (xs : List Operand) (f : ControlFrame) (fs : List ControlFrame) (s : Levels) → levels_of xs f fs ≡ s → f.height ≤ length xs → Descends f.height fs
    → (n : ℕ) → slice_get (branches s.around) n ≡ option_map branch_of (slice_get (f ∷ fs) n)
label_is xs f fs s e low d n = ap (λ (bs : List Branch). slice_get bs n) (branches_are xs f fs s e low d) ∙ slice_get-map branch_of (f ∷ fs) n

behind_first : {X : Type 0} (x : X) (xs : List X) (n : ℕ) → (n ≡ 0 → ⊥) → slice_get (x ∷ xs) n ≡ slice_get xs (n - 1)
behind_first x xs zero some = absurd (some refl)
behind_first x xs (suc n) some = let e : suc n - 1 ≡ n = omega arith in rw e refl

-- the label of a block around
pub outer_label : (xs : List Operand) (f : ControlFrame) (fs : List ControlFrame) (s : Levels) → levels_of xs f fs ≡ s → f.height ≤ length xs → Descends f.height fs
    → (n : ℕ) → (n ≡ 0 → ⊥) → slice_get (branches s.around) n ≡ option_map branch_of (slice_get fs (n - 1))
outer_label xs f fs s e low d n some = label_is xs f fs s e low d n ∙ ap (option_map branch_of) (behind_first f fs n some)
