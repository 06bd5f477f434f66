-- Taking and giving operands one after the other.
use Rattle.std.proofs.Common.{◌≡◌, ℕ, ◌+◌, ◌-◌, ◌<◌, ◌≤◌, List, [], ◌∷◌, ◌++◌, length, take, get_or, Option, Some, None, Bool, true, cond, refl, sym, ap, subst, ◌∙◌, arith}
use Rattle.std.proofs.lemmas.List.{take_more}
use Rattle.ic_base.specs.Reader.{◌>>=◌}
use Rattle.std.specs.Prelude.{slice_get}
use Rattle.std.specs.List.{list_all}
use Rattle.wm_tree.specs.declared.types.ValType.{ValType}
use Rattle.wm_tree.specs.declared.types.ValType.TheVariants.{I32}
use Rattle.wm_typing.specs.declared.fault.BodyFault.{BodyFault}
use Rattle.wm_typing.specs.declared.fault.BodyFault.TheVariants as fault
use Rattle.wm_typing.specs.Checks.{Fails}
use Rattle.wm_typing.specs.Points as points
use Rattle.wm_typing.specs.Points.{Point, unreachable}
use Rattle.wm_typing.specs.Typed.{label_has, branch_table}
use Rattle.wm_typing.specs.Flat.{Levels, Around, levels, labels}

pub assoc : {A B C : Type 0} (o : Option A) (f : A → Option B) (g : B → Option C) → ((o >>= f) >>= g) ≡ (o >>= λ x. f x >>= g)
assoc (Some x) f g = refl
assoc None f g = refl

pub bind_id : {A : Type 0} (o : Option A) → (o >>= λ x. Some x) ≡ o
bind_id (Some x) = refl
bind_id None = refl

-- the last type is taken first
pub take_all-push : (ts : List ValType) (t : ValType) (p : Point) → points.take_all (ts ++ (t ∷ [])) p ≡ (points.take t p >>= points.take_all ts)
take_all-push [] t p = sym (bind_id (points.take t p))
take_all-push (u ∷ ts) t p = ap (λ o. o >>= points.take u) (take_all-push ts t p) ∙ assoc (points.take t p) (points.take_all ts) (points.take u)

last_type : (ts : List ValType) (i : ℕ) (d : ValType) (p : Point) → 0 < i → i ≤ length ts
    → points.take_all (take i ts) p ≡ (points.take (get_or ts (i - 1) d) p >>= points.take_all (take (i - 1) ts))
last_type ts i d p some low =
    let here : i - 1 < length ts = omega arith in
    let up : i ≡ i - 1 + 1 = omega arith in
    ap (λ (n : ℕ). points.take_all (take n ts) p) up
    ∙ ap (λ (us : List ValType). points.take_all us p) (take_more ts (i - 1) d here)
    ∙ take_all-push (take (i - 1) ts) (get_or ts (i - 1) d) p

pub taken_next : (ts : List ValType) (i : ℕ) (d : ValType) (p q : Point) (total : Option Point) → 0 < i → i ≤ length ts
    → points.take_all (take i ts) p ≡ total → points.take (get_or ts (i - 1) d) p ≡ Some q → points.take_all (take (i - 1) ts) q ≡ total
taken_next ts i d p q total some low so_far one =
    sym (last_type ts i d p some low ∙ ap (λ o. o >>= points.take_all (take (i - 1) ts)) one) ∙ so_far

-- nothing changes where all is given that is asked for
take_all_open : (ts : List ValType) → points.take_all ts unreachable ≡ Some unreachable
take_all_open [] = refl
take_all_open (t ∷ ts) = ap (λ o. o >>= points.take t) (take_all_open ts)

pub taken_open : (ts : List ValType) (p : Point) (total : Option Point) → p ≡ unreachable → points.take_all ts p ≡ total → total ≡ Some p
taken_open ts p total is so_far = sym so_far ∙ ap (points.take_all ts) is ∙ take_all_open ts ∙ ap (λ (q : Point). Some q) (sym is)

-- where a step fails, so does the whole
pub fails_on : {A B : Type 0} (e : BodyFault) (o : Option A) (f : A → Option B) → Fails e o → Fails e (o >>= f)
fails_on fault.Untyped o f h = ap (λ o. o >>= f) h
fails_on fault.NoMemory o f h = tt
fails_on fault.Nesting o f h = h

pub fails_as : {A : Type 0} (e : BodyFault) (o u : Option A) → o ≡ u → Fails e o → Fails e u
fails_as fault.Untyped o u s h = sym s ∙ h
fails_as fault.NoMemory o u s h = tt
fails_as fault.Nesting o u s h = h

pub taken_none : (e : BodyFault) (ts : List ValType) (i : ℕ) (d : ValType) (p : Point) (total : Option Point) → 0 < i → i ≤ length ts
    → points.take_all (take i ts) p ≡ total → Fails e (points.take (get_or ts (i - 1) d) p) → Fails e total
taken_none e ts i d p total some low so_far one =
    fails_as e (points.take (get_or ts (i - 1) d) p >>= points.take_all (take (i - 1) ts)) total (sym (last_type ts i d p some low) ∙ so_far)
    (fails_on e (points.take (get_or ts (i - 1) d) p) (points.take_all (take (i - 1) ts)) one)

-- ---- tables

table_steps : (o : Option Point) (t : Option (Option ValType)) (f : Option ValType → Point → Option Point) (g : Option ValType → Bool) (p q : Point) (u : Option ValType)
    → o ≡ Some p → t ≡ Some u → f u p ≡ Some q → g u ≡ true
    → (o >>= λ p. t >>= λ t. f t p >>= λ _. cond (g t) (Some unreachable) None) ≡ Some unreachable
table_steps o t f g p q u e1 e2 e3 e4 = rw (e1, e2, e3, e4) refl

-- a table takes its operands, and each label the same type
pub table_done : (old s1 s2 s3 : Levels) (t : Option ValType) (ls : List ℕ) (other : ℕ)
    → (points.take I32 old.point ≡ Some s1.point) × (s1.around ≡ old.around) → slice_get (labels s1.around) other ≡ Some t
    → (points.take_maybe t s1.point ≡ Some s2.point) × (s2.around ≡ s1.around) → true ≡ list_all (λ l. label_has t (slice_get (labels s2.around) l)) ls
    → s3 ≡ levels unreachable s2.around
    → (branch_table (labels old.around) ls other old.point ≡ Some s3.point) × (s3.around ≡ old.around)
table_done old s1 s2 s3 t ls other a b d e s =
    let here : slice_get (labels old.around) other ≡ Some t = subst (λ (r : Around). slice_get (labels r) other ≡ Some t) a.1 b in
    let all : true ≡ list_all (λ l. label_has t (slice_get (labels old.around) l)) ls = subst (λ (r : Around). true ≡ list_all (λ l. label_has t (slice_get (labels r) l)) ls) (d.1 ∙ a.1) e in
    let stays : s3.around ≡ old.around = ap (λ (s : Levels). s.around) s ∙ d.1 ∙ a.1 in (
      table_steps (points.take I32 old.point) (slice_get (labels old.around) other) points.take_maybe (λ t. list_all (λ l. label_has t (slice_get (labels old.around) l)) ls)
          s1.point s2.point t a.0 here d.0 (sym all) ∙ ap (λ (s : Levels). Some s.point) (sym s),
      stays,
    )
